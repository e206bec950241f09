use Rattle.std.proofs.Common.{ℕ, ℤ, pos, ◌≡◌, ◌≤◌, ◌^◌, [], ◌∷◌, get_or, ap, ◌∙◌, arith, unsigned_abs, to_z, of_z, w64}
use Rattle.std.specs.Int.{w128}
use Rattle.ntfe_nums.proofs.Machine.{AreWithin-four, AreWithin-same, AreWithin-weaker, AreWithin-numbers, back}
use Rattle.ntfe_nums.specs.Vectors.{numbers, vector}
use Rattle.ntfe_nums.proofs.wide.Goals as goal

widened : (z : ℤ) → unsigned_abs z ≤ 2 ^ 20 → to_z w128 (of_z w128 (to_z w64 (of_z w64 z))) ≡ z
widened z s = ap (λ y. to_z w128 (of_z w128 y)) (back w64 z (2 ^ 20) s (omega arith)) ∙ back w128 z (2 ^ 20) s (omega arith)

pub returns-clause-value : goal.returns-clause-value
returns-clause-value c =
    let xs = c.args.a.now in
    let e = λ (i : ℕ). widened (get_or xs i (pos 0)) (AreWithin-four (2 ^ 20) xs c.requires i) in
    λ t. e 0 t ∷ e 1 t ∷ e 2 t ∷ e 3 t ∷ []

pub returns-clause-small : goal.returns-clause-small
returns-clause-small c =
    let xs = c.args.a.now in
    AreWithin-same (2 ^ 21) _ (numbers (vector xs)) (returns-clause-value c) (AreWithin-weaker (2 ^ 20) (2 ^ 21) (numbers (vector xs)) (omega arith) (AreWithin-numbers (2 ^ 20) xs c.requires))

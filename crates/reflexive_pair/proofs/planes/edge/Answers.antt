use Rattle.std.proofs.Common.{ℕ, ℤ, ◌≡◌, ◌+◌, ◌^◌, ◌∙◌, ◌-ℤ◌, List, [], ◌∷◌, refl, arith, w64, pos, get_or, to_z, of_z}
use Rattle.ntfe_nums.specs.Vectors.{Vector, numbers, difference}
use Rattle.ntfe_nums.proofs.Ring.Expression.{var, minus}
use Rattle.ntfe_nums.proofs.Machine.{AreWithin-same, AreWithin-difference, AreWithin-weaker, AreWithin-four, exact}
use Rattle.ntfe_model.specs.Pairs.{IsSmall}
use Rattle.ntfe_model.proofs.SmallVectors.{small_coordinates, small_numbers}
use Rattle.reflexive_pair.proofs.planes.edge.Goals as goal

module _ (b a : List ℤ) (v u : Vector) (h : IsSmall v) (k : IsSmall u) (e : b ≡ numbers v) (f : a ≡ numbers u) (i : ℕ) where
  part : to_z w64 (of_z w64 (to_z w64 (of_z w64 (get_or b i (pos 0))) -ℤ to_z w64 (of_z w64 (get_or a i (pos 0))))) ≡ get_or (numbers v) i (pos 0) -ℤ get_or (numbers u) i (pos 0)
  part =
      exact w64 (get_or b i (pos 0) ∷ get_or a i (pos 0) ∷ []) (1023 ∷ 1023 ∷ [])
      (AreWithin-four 1023 b (small_coordinates v b h e) i, (AreWithin-four 1023 a (small_coordinates u a k f) i, tt)) (minus (var 0) (var 1)) refl
      ∙ (λ t. get_or (e t) i (pos 0) -ℤ get_or (f t) i (pos 0))

pub returns-clause-value : goal.returns-clause-value
returns-clause-value c =
    let p = λ (i : ℕ). part c.coordinates-b.result.now c.coordinates-a.result.now c.args.to.now c.args.from.now c.requires.second c.requires.first c.coordinates-b.ensures.list c.coordinates-a.ensures.list i in
    λ t. p 0 t ∷ p 1 t ∷ p 2 t ∷ p 3 t ∷ []

pub returns-clause-small : goal.returns-clause-small
returns-clause-small c =
    let v = c.args.to.now in
    let u = c.args.from.now in
    AreWithin-same (2 ^ 11) _ (numbers (difference v u)) (returns-clause-value c)
    (AreWithin-weaker (1023 + 1023) (2 ^ 11) (numbers (difference v u)) (omega arith)
    (AreWithin-difference 1023 1023 (numbers v) (numbers u) (small_numbers v c.requires.second) (small_numbers u c.requires.first)))

use Rattle.std.proofs.Common.{ℕ, ℤ, ◌≡◌, ◌∙◌, refl, w64, to_z, of_z, List, [], ◌∷◌, get_or, pos, ◌-ℤ◌}
use Rattle.ntfe_nums.specs.Vectors.{Vector, numbers, difference}
use Rattle.ntfe_nums.proofs.Ring.Expression.{var, minus}
use Rattle.ntfe_nums.proofs.Machine.{AreWithin-four, AreWithin-same, AreWithin-difference, exact}
use Rattle.ntfe_model.specs.Pairs.{IsSmall}
use Rattle.ntfe_model.proofs.SmallVectors.{small_numbers}
use Rattle.face_chart.proofs.segment.difference.Goals as goal

part : (bs as' : List ℤ) (b a : Vector) (i : ℕ) → bs ≡ numbers b → as' ≡ numbers a → IsSmall b → IsSmall a
    → to_z w64 (of_z w64 (to_z w64 (of_z w64 (get_or bs i (pos 0))) -ℤ to_z w64 (of_z w64 (get_or as' i (pos 0))))) ≡ get_or (numbers b) i (pos 0) -ℤ get_or (numbers a) i (pos 0)
part bs as' b a i e f h k =
    (λ t. to_z w64 (of_z w64 (to_z w64 (of_z w64 (get_or (e t) i (pos 0))) -ℤ to_z w64 (of_z w64 (get_or (f t) i (pos 0))))))
    ∙ exact w64 (get_or (numbers b) i (pos 0) ∷ get_or (numbers a) i (pos 0) ∷ []) (1023 ∷ 1023 ∷ [])
    (AreWithin-four 1023 (numbers b) (small_numbers b h) i, (AreWithin-four 1023 (numbers a) (small_numbers a k) i, tt)) (minus (var 0) (var 1)) refl

pub returns-clause-value : goal.returns-clause-value
returns-clause-value c =
    let p = λ (i : ℕ). part c.coordinates-b.result.now c.coordinates-a.result.now c.args.b.now c.args.a.now i c.coordinates-b.ensures.list c.coordinates-a.ensures.list c.requires.first c.requires.second in
    λ t. p 0 t ∷ p 1 t ∷ p 2 t ∷ p 3 t ∷ []

pub returns-clause-small : goal.returns-clause-small
returns-clause-small c =
    let b = c.args.b.now in
    let a = c.args.a.now in
    AreWithin-same 2046 _ (numbers (difference b a)) (returns-clause-value c)
    (AreWithin-difference 1023 1023 (numbers b) (numbers a) (small_numbers b c.requires.first) (small_numbers a c.requires.second))

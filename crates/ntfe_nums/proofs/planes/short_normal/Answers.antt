use Rattle.std.proofs.Common.{ℤ, ◌≡◌, ◌^◌, ◌∙◌, [], ◌∷◌, refl, arith, w64, to_z, of_z, neg_ℤ}
use Rattle.ntfe_nums.specs.Vectors.{vector, det3, cofactors}
use Rattle.ntfe_nums.specs.Sizes.{AreWithin}
use Rattle.ntfe_nums.proofs.Ring.{ring}
use Rattle.ntfe_nums.proofs.Ring.Expression.{var, neg}
use Rattle.ntfe_nums.proofs.DetLemmas.{det3E}
use Rattle.ntfe_nums.proofs.Machine.{back}
use Rattle.ntfe_nums.proofs.planes.short_normal.Goals as goal

-- two columns exchanged
swapped : (a b c d e f g h i : ℤ) → det3 b a c e d f h g i ≡ neg_ℤ (det3 a b c d e f g h i)
swapped a b c d e f g h i =
    ring (a ∷ b ∷ c ∷ d ∷ e ∷ f ∷ g ∷ h ∷ i ∷ [])
    (det3E (var 1) (var 0) (var 2) (var 4) (var 3) (var 5) (var 7) (var 6) (var 8))
    (neg (det3E (var 0) (var 1) (var 2) (var 3) (var 4) (var 5) (var 6) (var 7) (var 8))) refl

word : (z : ℤ) → AreWithin (2 ^ 36) (z ∷ []) → to_z w64 (of_z w64 z) ≡ z
word z h = back w64 z (2 ^ 36) h.0 (omega arith)

pub returns-clause-value : goal.returns-clause-value
unfolding cofactors
returns-clause-value c =
    let x = vector c.args.u.now in
    let y = vector c.args.v.now in
    let z = vector c.args.w.now in
    let p1 = word c.minor-first.result c.minor-first.ensures.size ∙ c.minor-first.ensures.value ∙ swapped x.x2 x.x3 x.x4 y.x2 y.x3 y.x4 z.x2 z.x3 z.x4 in
    let p2 = word c.minor-second.result c.minor-second.ensures.size ∙ c.minor-second.ensures.value in
    let p3 = word c.minor-third.result c.minor-third.ensures.size ∙ c.minor-third.ensures.value ∙ swapped x.x1 x.x2 x.x4 y.x1 y.x2 y.x4 z.x1 z.x2 z.x4 in
    let p4 = word c.minor-fourth.result c.minor-fourth.ensures.size ∙ c.minor-fourth.ensures.value in
    λ t. record { x1 = p1 t; x2 = p2 t; x3 = p3 t; x4 = p4 t }

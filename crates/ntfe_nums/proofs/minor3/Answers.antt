use Rattle.std.proofs.Common.{ℕ, ℤ, ◌≡◌, ◌≤◌, FitsSigned, to_z, of_z, to_z-of_z, ◌^◌, List, [], ◌∷◌, refl, sym, ◌∙◌, subst, unsigned_abs, ◌-ℤ◌, ◌+ℤ◌, ◌*ℤ◌}
use Rattle.std.specs.Int.{w128}
use Rattle.ntfe_nums.specs.Vectors.{det2}
use Rattle.ntfe_nums.specs.Sizes.{AreWithin}
use Rattle.ntfe_nums.proofs.Ring.Expression.{var, plus, minus, times}
use Rattle.ntfe_nums.proofs.DetLemmas.{det2E}
use Rattle.ntfe_nums.proofs.Machine.{AreBounded, value-size, exact, fits}
use Rattle.ntfe_nums.proofs.minor3.Goals as goal

-- the size of a determinant of two rows
size2 : (a b c d r : ℤ) → AreWithin (2 ^ 21) (a ∷ b ∷ c ∷ d ∷ []) → r ≡ det2 a b c d → unsigned_abs r ≤ 2 ^ 43
size2 a b c d r h e =
    let P : ℤ → Type 0 = λ z. unsigned_abs z ≤ 2 ^ 43 in
    subst P (sym e) (value-size (a ∷ b ∷ c ∷ d ∷ []) (2 ^ 21 ∷ 2 ^ 21 ∷ 2 ^ 21 ∷ 2 ^ 21 ∷ []) (det2E (var 0) (var 1) (var 2) (var 3)) h)

-- arguments come back from their words
plain : (a b c d r : ℤ) → FitsSigned w128 a → FitsSigned w128 b → FitsSigned w128 c → FitsSigned w128 d
    → r ≡ det2 (to_z w128 (of_z w128 a)) (to_z w128 (of_z w128 b)) (to_z w128 (of_z w128 c)) (to_z w128 (of_z w128 d)) → r ≡ det2 a b c d
plain a b c d r p q s t e = e ∙ (λ j. det2 (to_z-of_z p j) (to_z-of_z q j) (to_z-of_z s j) (to_z-of_z t j))

abbrev bounds : List ℕ
bounds = 2 ^ 21 ∷ 2 ^ 21 ∷ 2 ^ 21 ∷ 2 ^ 43 ∷ 2 ^ 43 ∷ 2 ^ 43 ∷ []

bounded : (a b c d e f g h i r s t : ℤ) → AreWithin (2 ^ 21) (a ∷ b ∷ c ∷ d ∷ e ∷ f ∷ g ∷ h ∷ i ∷ []) → r ≡ det2 e f h i → s ≡ det2 d f g i → t ≡ det2 d e g h
    → AreBounded (a ∷ b ∷ c ∷ r ∷ s ∷ t ∷ []) bounds
bounded a b c d e f g h i r s t w p q u =
    let v = w.1.1.1 in (
      w.0,
      (
        w.1.0,
        (
          w.1.1.0,
          (
            size2 e f h i r (v.1.0, (v.1.1.0, (v.1.1.1.1.0, (v.1.1.1.1.1.0, tt)))) p,
            (
              size2 d f g i s (v.0, (v.1.1.0, (v.1.1.1.0, (v.1.1.1.1.1.0, tt)))) q,
              (size2 d e g h t (v.0, (v.1.0, (v.1.1.1.0, (v.1.1.1.1.0, tt)))) u, tt),
            ),
          ),
        ),
      ),
    )

pub overflow_mul-result : goal.overflow_mul-result
overflow_mul-result c = fits w128 (c.args.a ∷ c.args.b ∷ c.args.c ∷ c.minor2-first.result ∷ c.minor2-second.result ∷ c.minor2-third.result ∷ []) bounds (bounded c.args.a c.args.b c.args.c c.args.d c.args.e c.args.f c.args.g c.args.h c.args.i c.minor2-first.result c.minor2-second.result c.minor2-third.result c.requires.small (plain c.args.e c.args.f c.args.h c.args.i c.minor2-first.result c.ranges.e c.ranges.f c.ranges.h c.ranges.i c.minor2-first.ensures) (plain c.args.d c.args.f c.args.g c.args.i c.minor2-second.result c.ranges.d c.ranges.f c.ranges.g c.ranges.i c.minor2-second.ensures) (plain c.args.d c.args.e c.args.g c.args.h c.minor2-third.result c.ranges.d c.ranges.e c.ranges.g c.ranges.h c.minor2-third.ensures)) (times (var 0) (var 3)) refl

pub overflow_mul-result-2 : goal.overflow_mul-result-2
overflow_mul-result-2 c = fits w128 (c.args.a ∷ c.args.b ∷ c.args.c ∷ c.minor2-first.result ∷ c.minor2-second.result ∷ c.minor2-third.result ∷ []) bounds (bounded c.args.a c.args.b c.args.c c.args.d c.args.e c.args.f c.args.g c.args.h c.args.i c.minor2-first.result c.minor2-second.result c.minor2-third.result c.requires.small (plain c.args.e c.args.f c.args.h c.args.i c.minor2-first.result c.ranges.e c.ranges.f c.ranges.h c.ranges.i c.minor2-first.ensures) (plain c.args.d c.args.f c.args.g c.args.i c.minor2-second.result c.ranges.d c.ranges.f c.ranges.g c.ranges.i c.minor2-second.ensures) (plain c.args.d c.args.e c.args.g c.args.h c.minor2-third.result c.ranges.d c.ranges.e c.ranges.g c.ranges.h c.minor2-third.ensures)) (times (var 1) (var 4)) refl

pub overflow_sub-result : goal.overflow_sub-result
overflow_sub-result c = fits w128 (c.args.a ∷ c.args.b ∷ c.args.c ∷ c.minor2-first.result ∷ c.minor2-second.result ∷ c.minor2-third.result ∷ []) bounds (bounded c.args.a c.args.b c.args.c c.args.d c.args.e c.args.f c.args.g c.args.h c.args.i c.minor2-first.result c.minor2-second.result c.minor2-third.result c.requires.small (plain c.args.e c.args.f c.args.h c.args.i c.minor2-first.result c.ranges.e c.ranges.f c.ranges.h c.ranges.i c.minor2-first.ensures) (plain c.args.d c.args.f c.args.g c.args.i c.minor2-second.result c.ranges.d c.ranges.f c.ranges.g c.ranges.i c.minor2-second.ensures) (plain c.args.d c.args.e c.args.g c.args.h c.minor2-third.result c.ranges.d c.ranges.e c.ranges.g c.ranges.h c.minor2-third.ensures)) (minus (times (var 0) (var 3)) (times (var 1) (var 4))) refl

pub overflow_mul-result-3 : goal.overflow_mul-result-3
overflow_mul-result-3 c = fits w128 (c.args.a ∷ c.args.b ∷ c.args.c ∷ c.minor2-first.result ∷ c.minor2-second.result ∷ c.minor2-third.result ∷ []) bounds (bounded c.args.a c.args.b c.args.c c.args.d c.args.e c.args.f c.args.g c.args.h c.args.i c.minor2-first.result c.minor2-second.result c.minor2-third.result c.requires.small (plain c.args.e c.args.f c.args.h c.args.i c.minor2-first.result c.ranges.e c.ranges.f c.ranges.h c.ranges.i c.minor2-first.ensures) (plain c.args.d c.args.f c.args.g c.args.i c.minor2-second.result c.ranges.d c.ranges.f c.ranges.g c.ranges.i c.minor2-second.ensures) (plain c.args.d c.args.e c.args.g c.args.h c.minor2-third.result c.ranges.d c.ranges.e c.ranges.g c.ranges.h c.minor2-third.ensures)) (times (var 2) (var 5)) refl

pub overflow_add-result : goal.overflow_add-result
overflow_add-result c = fits w128 (c.args.a ∷ c.args.b ∷ c.args.c ∷ c.minor2-first.result ∷ c.minor2-second.result ∷ c.minor2-third.result ∷ []) bounds (bounded c.args.a c.args.b c.args.c c.args.d c.args.e c.args.f c.args.g c.args.h c.args.i c.minor2-first.result c.minor2-second.result c.minor2-third.result c.requires.small (plain c.args.e c.args.f c.args.h c.args.i c.minor2-first.result c.ranges.e c.ranges.f c.ranges.h c.ranges.i c.minor2-first.ensures) (plain c.args.d c.args.f c.args.g c.args.i c.minor2-second.result c.ranges.d c.ranges.f c.ranges.g c.ranges.i c.minor2-second.ensures) (plain c.args.d c.args.e c.args.g c.args.h c.minor2-third.result c.ranges.d c.ranges.e c.ranges.g c.ranges.h c.minor2-third.ensures)) (plus (minus (times (var 0) (var 3)) (times (var 1) (var 4))) (times (var 2) (var 5))) refl

pub returns : goal.returns
returns c =
    exact w128 (c.args.a ∷ c.args.b ∷ c.args.c ∷ c.minor2-first.result ∷ c.minor2-second.result ∷ c.minor2-third.result ∷ []) bounds (bounded c.args.a c.args.b c.args.c c.args.d c.args.e c.args.f c.args.g c.args.h c.args.i c.minor2-first.result c.minor2-second.result c.minor2-third.result c.requires.small (plain c.args.e c.args.f c.args.h c.args.i c.minor2-first.result c.ranges.e c.ranges.f c.ranges.h c.ranges.i c.minor2-first.ensures) (plain c.args.d c.args.f c.args.g c.args.i c.minor2-second.result c.ranges.d c.ranges.f c.ranges.g c.ranges.i c.minor2-second.ensures) (plain c.args.d c.args.e c.args.g c.args.h c.minor2-third.result c.ranges.d c.ranges.e c.ranges.g c.ranges.h c.minor2-third.ensures)) (plus (minus (times (var 0) (var 3)) (times (var 1) (var 4))) (times (var 2) (var 5))) refl
    ∙ (λ j. c.args.a *ℤ (plain c.args.e c.args.f c.args.h c.args.i c.minor2-first.result c.ranges.e c.ranges.f c.ranges.h c.ranges.i c.minor2-first.ensures) j -ℤ c.args.b *ℤ (plain c.args.d c.args.f c.args.g c.args.i c.minor2-second.result c.ranges.d c.ranges.f c.ranges.g c.ranges.i c.minor2-second.ensures) j +ℤ c.args.c *ℤ (plain c.args.d c.args.e c.args.g c.args.h c.minor2-third.result c.ranges.d c.ranges.e c.ranges.g c.ranges.h c.minor2-third.ensures) j)

-- Which of five points decides, where the heights of all five lie in one plane.
use Rattle.std.proofs.Common.{◌≡◌, ◌≢◌, ℕ, ◌<◌, ◌≤◌, true, nat_lt, sym, subst, arith, ℤ, pos, ◌<ℤ◌, ◌≤ℤ◌, neg_ℤ, map}
use Rattle.std.proofs.lemmas.Int.{ints}
use Rattle.std.proofs.lemmas.Bool.Decides.{nat_tests}
use Rattle.ntfe_model.specs.Stars.{IsFirstPositive, order_of, push_coefficient}
use Rattle.ntfe_model.specs.declared.nogood.Push.{Push}
use Rattle.ntfe_model.specs.declared.nogood.Push.TheVariants.{Up, Down}
use Rattle.star_builder.specs.declared.four.Four.{Four}
use Rattle.star_builder.specs.Fours.{IsApart}
use Rattle.star_builder.proofs.PushOrder.{Comes, first_positive, not_first_positive, coefficient_zero, coefficient_point, coefficient_first, coefficient_second, coefficient_third, coefficient_fourth}

positive_neg : (y z : ℤ) → y ≡ neg_ℤ z → z <ℤ pos 0 → pos 0 <ℤ y
positive_neg y z e h = omega (arith, ints, e, h)

negative_neg : (y z : ℤ) → y ≡ neg_ℤ z → pos 0 ≤ℤ z → z ≢ pos 0 → y <ℤ pos 0
negative_neg y z e h ne = grind (arith, ints)

module _ (size l1 l2 l3 l4 : ℤ) (f : Four) (p n : ℕ) where
  abbrev coefficient : ℕ → ℤ
  coefficient = push_coefficient size (f.a, l1) (f.b, l2) (f.c, l3) (f.d, l4) p

  abbrev pub IsAboveBy : Push → Type 0
  IsAboveBy push = IsFirstPositive (map (push_coefficient size (f.a, l1) (f.b, l2) (f.c, l3) (f.d, l4) p) (order_of push n))

  -- a share decides: the point is above where it is negative, and not above where it is positive
  abbrev pub Decides : Push → ℤ → Type 0
  Decides push z = (z <ℤ pos 0 → IsAboveBy push) × (pos 0 ≤ℤ z → z ≢ pos 0 → ¬ (IsAboveBy push))

  share_decides : (push : Push) (k : ℕ) (z : ℤ) → 1 ≤ k → k ≤ n → ((j : ℕ) → 1 ≤ j → j ≤ n → Comes push j k → coefficient j ≡ pos 0) → coefficient k ≡ neg_ℤ z → Decides push z
  share_decides push k z h l none e = (
    λ b. first_positive coefficient n push k h l none (positive_neg (coefficient k) z e b),
    (λ b ne. not_first_positive coefficient n push k h l none (negative_neg (coefficient k) z e b ne)),
  )

  module _ (s : pos 0 <ℤ size) (q : IsApart f p) (hd : f.d ≤ n) (hp : p ≤ n) where
    other : (j : ℕ) → j ≢ p → (j ≡ f.a → l1 ≡ pos 0) → (j ≡ f.b → l2 ≡ pos 0) → (j ≡ f.c → l3 ≡ pos 0) → (j ≡ f.d → l4 ≡ pos 0) → coefficient j ≡ pos 0
    other = coefficient_zero size (f.a, l1) (f.b, l2) (f.c, l3) (f.d, l4) p

    point_decides : (push : Push) → ((j : ℕ) → 1 ≤ j → j ≤ n → Comes push j p → coefficient j ≡ pos 0) → IsAboveBy push
    point_decides push none =
        first_positive coefficient n push p q.point hp none
        (subst (λ (y : ℤ). pos 0 <ℤ y) (sym (coefficient_point size (f.a, l1) (f.b, l2) (f.c, l3) (f.d, l4) p)) s)

    at_first : coefficient f.a ≡ neg_ℤ l1
    at_first = coefficient_first size (f.a, l1) (f.b, l2) (f.c, l3) (f.d, l4) p (λ e. q.not_a (sym e))

    at_second : coefficient f.b ≡ neg_ℤ l2
    at_second = coefficient_second size (f.a, l1) (f.b, l2) (f.c, l3) (f.d, l4) p (λ e. q.not_b (sym e)) (λ e. let k = q.ab in omega arith)

    at_third : coefficient f.c ≡ neg_ℤ l3
    at_third = coefficient_third size (f.a, l1) (f.b, l2) (f.c, l3) (f.d, l4) p (λ e. q.not_c (sym e)) (λ e. let k = q.ab in let l = q.bc in omega arith) (λ e. let l = q.bc in omega arith)

    at_fourth : coefficient f.d ≡ neg_ℤ l4
    at_fourth = coefficient_fourth size (f.a, l1) (f.b, l2) (f.c, l3) (f.d, l4) p (λ e. q.not_d (sym e)) (λ e. let k = q.ab in let l = q.bc in let m = q.cd in omega arith) (λ e. let l = q.bc in let m = q.cd in omega arith) (λ e. let m = q.cd in omega arith)

    b_within : (1 ≤ f.b) × (f.b ≤ n)
    b_within = (let k = q.ab in let l = q.bc in let m = q.cd in omega arith, (let l = q.bc in let m = q.cd in omega arith))

    c_within : (1 ≤ f.c) × (f.c ≤ n)
    c_within = (let k = q.ab in let l = q.bc in omega arith, (let m = q.cd in omega arith))

    pub up_first : f.a < p → Decides Up l1
    up_first h =
        share_decides Up f.a l1 q.first (let k = q.ab in let l = q.bc in let m = q.cd in omega arith)
        (λ j i l b. let k = q.ab in let l = q.bc in let m = q.cd in other j (omega arith) (λ e. absurd (omega arith)) (λ e. absurd (omega arith)) (λ e. absurd (omega arith)) (λ e. absurd (omega arith)))
        at_first

    pub up_second : (f.a < p → l1 ≡ pos 0) → f.b < p → Decides Up l2
    up_second za h =
        share_decides Up f.b l2 b_within.0 b_within.1
        (λ j i l b. let k = q.ab in let l = q.bc in let m = q.cd in other j (omega arith) (λ e. za (omega arith)) (λ e. absurd (omega arith)) (λ e. absurd (omega arith)) (λ e. absurd (omega arith)))
        at_second

    pub up_third : (f.a < p → l1 ≡ pos 0) → (f.b < p → l2 ≡ pos 0) → f.c < p → Decides Up l3
    up_third za zb h =
        share_decides Up f.c l3 c_within.0 c_within.1
        (λ j i l b. let k = q.ab in let l = q.bc in let m = q.cd in other j (omega arith) (λ e. za (omega arith)) (λ e. zb (omega arith)) (λ e. absurd (omega arith)) (λ e. absurd (omega arith)))
        at_third

    pub up_fourth : (f.a < p → l1 ≡ pos 0) → (f.b < p → l2 ≡ pos 0) → (f.c < p → l3 ≡ pos 0) → f.d < p → Decides Up l4
    up_fourth za zb zc h =
        share_decides Up f.d l4 (let k = q.ab in let l = q.bc in let m = q.cd in omega arith) hd
        (λ j i l b. let k = q.ab in let l = q.bc in let m = q.cd in other j (omega arith) (λ e. za (omega arith)) (λ e. zb (omega arith)) (λ e. zc (omega arith)) (λ e. absurd (omega arith)))
        at_fourth

    pub up_point : (f.a < p → l1 ≡ pos 0) → (f.b < p → l2 ≡ pos 0) → (f.c < p → l3 ≡ pos 0) → (f.d < p → l4 ≡ pos 0) → IsAboveBy Up
    up_point za zb zc zd = point_decides Up (λ j i l b. other j (omega arith) (λ e. za (omega arith)) (λ e. zb (omega arith)) (λ e. zc (omega arith)) (λ e. zd (omega arith)))

    pub down_fourth : p < f.d → Decides Down l4
    down_fourth h =
        share_decides Down f.d l4 (let k = q.ab in let l = q.bc in let m = q.cd in omega arith) hd
        (λ j i l b. let k = q.ab in let l = q.bc in let m = q.cd in other j (omega arith) (λ e. absurd (omega arith)) (λ e. absurd (omega arith)) (λ e. absurd (omega arith)) (λ e. absurd (omega arith)))
        at_fourth

    pub down_third : (p < f.d → l4 ≡ pos 0) → p < f.c → Decides Down l3
    down_third zd h =
        share_decides Down f.c l3 c_within.0 c_within.1
        (λ j i l b. let k = q.ab in let l = q.bc in let m = q.cd in other j (omega arith) (λ e. absurd (omega arith)) (λ e. absurd (omega arith)) (λ e. absurd (omega arith)) (λ e. zd (omega arith)))
        at_third

    pub down_second : (p < f.d → l4 ≡ pos 0) → (p < f.c → l3 ≡ pos 0) → p < f.b → Decides Down l2
    down_second zd zc h =
        share_decides Down f.b l2 b_within.0 b_within.1
        (λ j i l b. let k = q.ab in let l = q.bc in let m = q.cd in other j (omega arith) (λ e. absurd (omega arith)) (λ e. absurd (omega arith)) (λ e. zc (omega arith)) (λ e. zd (omega arith)))
        at_second

    pub down_first : (p < f.d → l4 ≡ pos 0) → (p < f.c → l3 ≡ pos 0) → (p < f.b → l2 ≡ pos 0) → p < f.a → Decides Down l1
    down_first zd zc zb h =
        share_decides Down f.a l1 q.first (let k = q.ab in let l = q.bc in let m = q.cd in omega arith)
        (λ j i l b. let k = q.ab in let l = q.bc in let m = q.cd in other j (omega arith) (λ e. absurd (omega arith)) (λ e. zb (omega arith)) (λ e. zc (omega arith)) (λ e. zd (omega arith)))
        at_first

    pub down_point : (p < f.d → l4 ≡ pos 0) → (p < f.c → l3 ≡ pos 0) → (p < f.b → l2 ≡ pos 0) → (p < f.a → l1 ≡ pos 0) → IsAboveBy Down
    down_point zd zc zb za = point_decides Down (λ j i l b. other j (omega arith) (λ e. za (omega arith)) (λ e. zb (omega arith)) (λ e. zc (omega arith)) (λ e. zd (omega arith)))

-- a test of two numbers
pub before_test : (a b : ℕ) → a < b → nat_lt a b ≡ true
before_test a b h = grind (arith, nat_tests)

pub test_before : (a b : ℕ) → nat_lt a b ≡ true → a < b
test_before a b h = grind (arith, nat_tests)

-- The side of the hyperplane through four vectors, as a rise where all heights are 1.
--     side_rise      the two are equal
use Rattle.std.proofs.Common.{◌≡◌, refl, ◌∙◌, arith, ℤ, pos, ◌+ℤ◌, ◌-ℤ◌, ◌*ℤ◌, neg_ℤ}
use Rattle.std.proofs.lemmas.Int.{ints}
use Rattle.ntfe_nums.specs.Vectors.{Vector, difference, det4, side_of}
use Rattle.ntfe_nums.proofs.Ring.{ring}
use Rattle.ntfe_nums.proofs.Ring.Expression.{var, minus}
use Rattle.ntfe_nums.proofs.DetLemmas.{Row, row, det4E, of4, of5}
use Rattle.ntfe_nums.proofs.Exchanges.{same_front, same_odd, same_first, same_inner, same_second, same_third, second_last, first_last}

-- the row of the first vector less the last
abbrev lessE : Row
lessE = record { x1 = minus (var 0) (var 16); x2 = minus (var 1) (var 17); x3 = minus (var 2) (var 18); x4 = minus (var 3) (var 19) }

-- ---- a determinant with a difference as one row

less_first : (x b c d a : Vector) → det4 (difference x a) b c d ≡ det4 x b c d -ℤ det4 a b c d
unfolding det4
less_first x b c d a = ring (of5 x b c d a) (det4E lessE (row 4) (row 8) (row 12)) (minus (det4E (row 0) (row 4) (row 8) (row 12)) (det4E (row 16) (row 4) (row 8) (row 12))) refl

less_second : (x b c d a : Vector) → det4 b (difference x a) c d ≡ det4 b x c d -ℤ det4 b a c d
unfolding det4
less_second x b c d a = ring (of5 x b c d a) (det4E (row 4) lessE (row 8) (row 12)) (minus (det4E (row 4) (row 0) (row 8) (row 12)) (det4E (row 4) (row 16) (row 8) (row 12))) refl

less_third : (x b c d a : Vector) → det4 b c (difference x a) d ≡ det4 b c x d -ℤ det4 b c a d
unfolding det4
less_third x b c d a = ring (of5 x b c d a) (det4E (row 4) (row 8) lessE (row 12)) (minus (det4E (row 4) (row 8) (row 0) (row 12)) (det4E (row 4) (row 8) (row 16) (row 12))) refl

less_fourth : (x b c d a : Vector) → det4 b c d (difference x a) ≡ det4 b c d x -ℤ det4 b c d a
unfolding det4
less_fourth x b c d a = ring (of5 x b c d a) (det4E (row 4) (row 8) (row 12) lessE) (minus (det4E (row 4) (row 8) (row 12) (row 0)) (det4E (row 4) (row 8) (row 12) (row 16))) refl

drop_zero : (x y z : ℤ) → x ≡ y -ℤ z → z ≡ pos 0 → x ≡ y
drop_zero x y z e f = omega (arith, ints, e, f)

-- where a is another row, it drops out of the difference
drop_second : (a x c d : Vector) → det4 a (difference x a) c d ≡ det4 a x c d
drop_second a x c d = drop_zero _ _ _ (less_second x a c d a) (same_front a c d)

drop_third : (a b x d : Vector) → det4 a b (difference x a) d ≡ det4 a b x d
drop_third a b x d = drop_zero _ _ _ (less_third x a b d a) (same_odd a b d)

drop_fourth : (a b c x : Vector) → det4 a b c (difference x a) ≡ det4 a b c x
drop_fourth a b c x = drop_zero _ _ _ (less_fourth x a b c a) (same_first a b c)

drop_third_of_second : (b a x d : Vector) → det4 b a (difference x a) d ≡ det4 b a x d
drop_third_of_second b a x d = drop_zero _ _ _ (less_third x b a d a) (same_inner b a d)

drop_fourth_of_second : (b a c x : Vector) → det4 b a c (difference x a) ≡ det4 b a c x
drop_fourth_of_second b a c x = drop_zero _ _ _ (less_fourth x b a c a) (same_second b a c)

drop_fourth_of_third : (b c a x : Vector) → det4 b c a (difference x a) ≡ det4 b c a x
drop_fourth_of_third b c a x = drop_zero _ _ _ (less_fourth x b c a a) (same_third b c a)

-- ---- rows in another order

third_to_first : (a b c d : Vector) → det4 b c a d ≡ det4 a b c d
unfolding det4
third_to_first a b c d = ring (of4 a b c d) (det4E (row 4) (row 8) (row 0) (row 12)) (det4E (row 0) (row 4) (row 8) (row 12)) refl

two_swaps : (a b c d : Vector) → det4 b a d c ≡ det4 a b c d
unfolding det4
two_swaps a b c d = ring (of4 a b c d) (det4E (row 4) (row 0) (row 12) (row 8)) (det4E (row 0) (row 4) (row 8) (row 12)) refl

pub side_rise : (a b c d x : Vector) → side_of a b c d x ≡ det4 a b c d *ℤ pos 1 -ℤ (det4 x b c d *ℤ pos 1 +ℤ det4 a x c d *ℤ pos 1 +ℤ det4 a b x d *ℤ pos 1 +ℤ det4 a b c x *ℤ pos 1)
side_rise a b c d x =
    less_first b (difference c a) (difference d a) (difference x a) a
    ∙ (λ i. second i -ℤ first i)
    ∙ (λ i. (((first_last x b c d i -ℤ first_last a b c d i) -ℤ third_to_first a b c x i) -ℤ two_swaps a b x d i) -ℤ second_last a x c d i)
    ∙ sum (det4 a b c d) (det4 x b c d) (det4 a x c d) (det4 a b x d) (det4 a b c x)
  where
    first : det4 a (difference c a) (difference d a) (difference x a) ≡ det4 a c d x
    first = drop_second a c (difference d a) (difference x a) ∙ drop_third a c d (difference x a) ∙ drop_fourth a c d x

    second : det4 b (difference c a) (difference d a) (difference x a) ≡ ((det4 b c d x -ℤ det4 b c d a) -ℤ det4 b c a x) -ℤ det4 b a d x
    second =
        less_second c b (difference d a) (difference x a) a
        ∙ (λ i. (less_third d b c (difference x a) a ∙ (λ j. less_fourth x b c d a j -ℤ drop_fourth_of_third b c a x j)) i -ℤ (drop_third_of_second b a d (difference x a) ∙ drop_fourth_of_second b a d x) i)

    sum : (i j k l m : ℤ) → (((neg_ℤ j -ℤ neg_ℤ i) -ℤ m) -ℤ l) -ℤ k ≡ i *ℤ pos 1 -ℤ (j *ℤ pos 1 +ℤ k *ℤ pos 1 +ℤ l *ℤ pos 1 +ℤ m *ℤ pos 1)
    sum i j k l m = omega (arith, ints)

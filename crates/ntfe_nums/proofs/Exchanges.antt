-- Cramer's rule under a linear form, and determinants whose rows change places.
--     cramer_form      det(a, b, c, d) times the value at p is a sum of the values at a, b, c, d
--     swap_first, swap_middle, swap_last      the determinant turns its sign where two neighbours change places
use Rattle.std.proofs.Common.{◌≡◌, ℕ, ◌+◌, refl, ◌∙◌, ℤ, pos, ◌+ℤ◌, ◌*ℤ◌, neg_ℤ, [], ◌∷◌}
use Rattle.ntfe_nums.specs.Vectors.{Vector, dot, det4}
use Rattle.ntfe_nums.proofs.Ring.{ring}
use Rattle.ntfe_nums.proofs.Ring.Expression.{var, num, plus, times, neg}
use Rattle.ntfe_nums.proofs.DetLemmas.{row, det4E, of4, of5, cramer1}

-- ---- Cramer's rule in the other coordinates

pub cramer2 : (a b c d p : Vector) → det4 a b c d *ℤ p.x2 ≡ det4 p b c d *ℤ a.x2 +ℤ det4 a p c d *ℤ b.x2 +ℤ det4 a b p d *ℤ c.x2 +ℤ det4 a b c p *ℤ d.x2
unfolding det4
cramer2 a b c d p =
    let A = row 0 in let B = row 4 in let C = row 8 in let D = row 12 in let P = row 16 in
    ring (of5 a b c d p) (times (det4E A B C D) P.x2)
    (plus (plus (plus (times (det4E P B C D) A.x2) (times (det4E A P C D) B.x2)) (times (det4E A B P D) C.x2)) (times (det4E A B C P) D.x2)) refl

pub cramer3 : (a b c d p : Vector) → det4 a b c d *ℤ p.x3 ≡ det4 p b c d *ℤ a.x3 +ℤ det4 a p c d *ℤ b.x3 +ℤ det4 a b p d *ℤ c.x3 +ℤ det4 a b c p *ℤ d.x3
unfolding det4
cramer3 a b c d p =
    let A = row 0 in let B = row 4 in let C = row 8 in let D = row 12 in let P = row 16 in
    ring (of5 a b c d p) (times (det4E A B C D) P.x3)
    (plus (plus (plus (times (det4E P B C D) A.x3) (times (det4E A P C D) B.x3)) (times (det4E A B P D) C.x3)) (times (det4E A B C P) D.x3)) refl

pub cramer4 : (a b c d p : Vector) → det4 a b c d *ℤ p.x4 ≡ det4 p b c d *ℤ a.x4 +ℤ det4 a p c d *ℤ b.x4 +ℤ det4 a b p d *ℤ c.x4 +ℤ det4 a b c p *ℤ d.x4
unfolding det4
cramer4 a b c d p =
    let A = row 0 in let B = row 4 in let C = row 8 in let D = row 12 in let P = row 16 in
    ring (of5 a b c d p) (times (det4E A B C D) P.x4)
    (plus (plus (plus (times (det4E P B C D) A.x4) (times (det4E A P C D) B.x4)) (times (det4E A B P D) C.x4)) (times (det4E A B C P) D.x4)) refl

-- what Cramer's rule gives for the value of a linear form at p
pub cramer_form : (n a b c d p : Vector)
    → det4 a b c d *ℤ dot n p ≡ det4 p b c d *ℤ dot n a +ℤ det4 a p c d *ℤ dot n b +ℤ det4 a b p d *ℤ dot n c +ℤ det4 a b c p *ℤ dot n d
cramer_form n a b c d p =
    spread_out (det4 a b c d) (dot n p) n p
    ∙ (λ i. n.x1 *ℤ cramer1 a b c d p i +ℤ n.x2 *ℤ cramer2 a b c d p i +ℤ n.x3 *ℤ cramer3 a b c d p i +ℤ n.x4 *ℤ cramer4 a b c d p i)
    ∙ gathered (det4 p b c d) (det4 a p c d) (det4 a b p d) (det4 a b c p)
  where
    spread_out : (k z : ℤ) (n p : Vector) → k *ℤ dot n p ≡ n.x1 *ℤ (k *ℤ p.x1) +ℤ n.x2 *ℤ (k *ℤ p.x2) +ℤ n.x3 *ℤ (k *ℤ p.x3) +ℤ n.x4 *ℤ (k *ℤ p.x4)
    spread_out k z n p =
        let t = λ (m : ℕ). times (var m) (var (m + 4)) in
        let u = λ (m : ℕ). times (var m) (times (var 8) (var (m + 4))) in
        ring (n.x1 ∷ n.x2 ∷ n.x3 ∷ n.x4 ∷ p.x1 ∷ p.x2 ∷ p.x3 ∷ p.x4 ∷ k ∷ [])
        (times (var 8) (plus (plus (plus (t 0) (t 1)) (t 2)) (t 3))) (plus (plus (plus (u 0) (u 1)) (u 2)) (u 3)) refl

    gathered : (i j k l : ℤ)
        → n.x1 *ℤ (i *ℤ a.x1 +ℤ j *ℤ b.x1 +ℤ k *ℤ c.x1 +ℤ l *ℤ d.x1) +ℤ n.x2 *ℤ (i *ℤ a.x2 +ℤ j *ℤ b.x2 +ℤ k *ℤ c.x2 +ℤ l *ℤ d.x2)
        +ℤ n.x3 *ℤ (i *ℤ a.x3 +ℤ j *ℤ b.x3 +ℤ k *ℤ c.x3 +ℤ l *ℤ d.x3) +ℤ n.x4 *ℤ (i *ℤ a.x4 +ℤ j *ℤ b.x4 +ℤ k *ℤ c.x4 +ℤ l *ℤ d.x4)
        ≡ i *ℤ dot n a +ℤ j *ℤ dot n b +ℤ k *ℤ dot n c +ℤ l *ℤ dot n d
    gathered i j k l =
        let mix = λ (m : ℕ). plus (plus (plus (times (var 20) (var m)) (times (var 21) (var (m + 4)))) (times (var 22) (var (m + 8)))) (times (var 23) (var (m + 12))) in
        let at = λ (m : ℕ). plus (plus (plus (times (var 16) (var m)) (times (var 17) (var (m + 1)))) (times (var 18) (var (m + 2)))) (times (var 19) (var (m + 3))) in
        ring (a.x1 ∷ a.x2 ∷ a.x3 ∷ a.x4 ∷ b.x1 ∷ b.x2 ∷ b.x3 ∷ b.x4 ∷ c.x1 ∷ c.x2 ∷ c.x3 ∷ c.x4 ∷ d.x1 ∷ d.x2 ∷ d.x3 ∷ d.x4 ∷ n.x1 ∷ n.x2 ∷ n.x3 ∷ n.x4 ∷ i ∷ j ∷ k ∷ l ∷ [])
        (plus (plus (plus (times (var 16) (mix 0)) (times (var 17) (mix 1))) (times (var 18) (mix 2))) (times (var 19) (mix 3)))
        (plus (plus (plus (times (var 20) (at 0)) (times (var 21) (at 4))) (times (var 22) (at 8))) (times (var 23) (at 12))) refl

-- ---- rows that change places, and equal rows

pub swap_first : (a b c d : Vector) → det4 b a c d ≡ neg_ℤ (det4 a b c d)
unfolding det4
swap_first a b c d = ring (of4 a b c d) (det4E (row 4) (row 0) (row 8) (row 12)) (neg (det4E (row 0) (row 4) (row 8) (row 12))) refl

pub swap_middle : (a b c d : Vector) → det4 a c b d ≡ neg_ℤ (det4 a b c d)
unfolding det4
swap_middle a b c d = ring (of4 a b c d) (det4E (row 0) (row 8) (row 4) (row 12)) (neg (det4E (row 0) (row 4) (row 8) (row 12))) refl

pub swap_last : (a b c d : Vector) → det4 a b d c ≡ neg_ℤ (det4 a b c d)
unfolding det4
swap_last a b c d = ring (of4 a b c d) (det4E (row 0) (row 4) (row 12) (row 8)) (neg (det4E (row 0) (row 4) (row 8) (row 12))) refl

pub swap_ends : (a b c d : Vector) → det4 d b c a ≡ neg_ℤ (det4 a b c d)
unfolding det4
swap_ends a b c d = ring (of4 a b c d) (det4E (row 12) (row 4) (row 8) (row 0)) (neg (det4E (row 0) (row 4) (row 8) (row 12))) refl

pub swap_outer : (a b c d : Vector) → det4 a d c b ≡ neg_ℤ (det4 a b c d)
unfolding det4
swap_outer a b c d = ring (of4 a b c d) (det4E (row 0) (row 12) (row 8) (row 4)) (neg (det4E (row 0) (row 4) (row 8) (row 12))) refl

pub second_last : (a b c d : Vector) → det4 a c d b ≡ det4 a b c d
unfolding det4
second_last a b c d = ring (of4 a b c d) (det4E (row 0) (row 8) (row 12) (row 4)) (det4E (row 0) (row 4) (row 8) (row 12)) refl

pub first_last : (a b c d : Vector) → det4 b c d a ≡ neg_ℤ (det4 a b c d)
unfolding det4
first_last a b c d = ring (of4 a b c d) (det4E (row 4) (row 8) (row 12) (row 0)) (neg (det4E (row 0) (row 4) (row 8) (row 12))) refl

pub same_front : (a b c : Vector) → det4 a a b c ≡ pos 0
unfolding det4
same_front a b c = ring (of4 a b c c) (det4E (row 0) (row 0) (row 4) (row 8)) (num (pos 0)) refl

pub same_odd : (a b c : Vector) → det4 a b a c ≡ pos 0
unfolding det4
same_odd a b c = ring (of4 a b c c) (det4E (row 0) (row 4) (row 0) (row 8)) (num (pos 0)) refl

pub same_inner : (a b c : Vector) → det4 a b b c ≡ pos 0
unfolding det4
same_inner a b c = ring (of4 a b c c) (det4E (row 0) (row 4) (row 4) (row 8)) (num (pos 0)) refl

pub same_first : (a b c : Vector) → det4 a b c a ≡ pos 0
unfolding det4
same_first a b c = ring (of4 a b c c) (det4E (row 0) (row 4) (row 8) (row 0)) (num (pos 0)) refl

pub same_second : (a b c : Vector) → det4 a b c b ≡ pos 0
unfolding det4
same_second a b c = ring (of4 a b c c) (det4E (row 0) (row 4) (row 8) (row 4)) (num (pos 0)) refl

pub same_third : (a b c : Vector) → det4 a b c c ≡ pos 0
unfolding det4
same_third a b c = ring (of4 a b c c) (det4E (row 0) (row 4) (row 8) (row 8)) (num (pos 0)) refl

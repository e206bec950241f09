-- Determinants: the normal of a hyperplane, and Cramer's rule.
use Rattle.std.proofs.Common.{◌≡◌, ℕ, ◌+◌, refl, ℤ, ◌+ℤ◌, ◌*ℤ◌, List, [], ◌∷◌}
use Rattle.ntfe_nums.specs.Vectors.{Vector, dot, difference, det4, normal, cofactors, side_of}
use Rattle.ntfe_nums.proofs.Ring.{Expression, value, ring}
use Rattle.ntfe_nums.proofs.Ring.Expression.{var, plus, minus, times, neg}

-- the definitions again, over polynomials
abbrev pub det2E : Expression → Expression → Expression → Expression → Expression
det2E a b c d = minus (times a d) (times b c)

abbrev pub det3E : Expression → Expression → Expression → Expression → Expression → Expression → Expression → Expression → Expression → Expression
det3E a b c d e f g h i = plus (minus (times a (det2E e f h i)) (times b (det2E d f g i))) (times c (det2E d e g h))

pub record Row : Type 0 where
  pub x1 : Expression
  pub x2 : Expression
  pub x3 : Expression
  pub x4 : Expression

-- the row whose first variable has this number
abbrev pub row : ℕ → Row
row k = record { x1 = var k; x2 = var (k + 1); x3 = var (k + 2); x4 = var (k + 3) }

abbrev pub dotE : Row → Row → Expression
dotE a b = plus (plus (plus (times a.x1 b.x1) (times a.x2 b.x2)) (times a.x3 b.x3)) (times a.x4 b.x4)

abbrev pub det4E : Row → Row → Row → Row → Expression
det4E a b c d =
    minus (plus (minus (times a.x1 (det3E b.x2 b.x3 b.x4 c.x2 c.x3 c.x4 d.x2 d.x3 d.x4))
    (times a.x2 (det3E b.x1 b.x3 b.x4 c.x1 c.x3 c.x4 d.x1 d.x3 d.x4)))
    (times a.x3 (det3E b.x1 b.x2 b.x4 c.x1 c.x2 c.x4 d.x1 d.x2 d.x4)))
    (times a.x4 (det3E b.x1 b.x2 b.x3 c.x1 c.x2 c.x3 d.x1 d.x2 d.x3))

abbrev pub normalE : Row → Row → Row → Row
normalE u v w = record {
  x1 = neg (det3E u.x2 u.x3 u.x4 v.x2 v.x3 v.x4 w.x2 w.x3 w.x4);
  x2 = det3E u.x1 u.x3 u.x4 v.x1 v.x3 v.x4 w.x1 w.x3 w.x4;
  x3 = neg (det3E u.x1 u.x2 u.x4 v.x1 v.x2 v.x4 w.x1 w.x2 w.x4);
  x4 = det3E u.x1 u.x2 u.x3 v.x1 v.x2 v.x3 w.x1 w.x2 w.x3;
}

-- the variables of three or four vectors
abbrev pub of4 : Vector → Vector → Vector → Vector → List ℤ
of4 a b c d = a.x1 ∷ a.x2 ∷ a.x3 ∷ a.x4 ∷ b.x1 ∷ b.x2 ∷ b.x3 ∷ b.x4 ∷ c.x1 ∷ c.x2 ∷ c.x3 ∷ c.x4 ∷ d.x1 ∷ d.x2 ∷ d.x3 ∷ d.x4 ∷ []

-- expansion along the last row
last_row : (u v w y : Vector) → value (of4 u v w y) (det4E (row 0) (row 4) (row 8) (row 12)) ≡ value (of4 u v w y) (dotE (normalE (row 0) (row 4) (row 8)) (row 12))
last_row u v w y = ring (of4 u v w y) (det4E (row 0) (row 4) (row 8) (row 12)) (dotE (normalE (row 0) (row 4) (row 8)) (row 12)) refl

pub side-normal : (a b c d x : Vector) → side_of a b c d x ≡ dot (normal a b c d) (difference x a)
unfolding det4 cofactors
side-normal a b c d x = last_row (difference b a) (difference c a) (difference d a) (difference x a)

abbrev pub of5 : Vector → Vector → Vector → Vector → Vector → List ℤ
of5 a b c d p = a.x1 ∷ a.x2 ∷ a.x3 ∷ a.x4 ∷ b.x1 ∷ b.x2 ∷ b.x3 ∷ b.x4 ∷ c.x1 ∷ c.x2 ∷ c.x3 ∷ c.x4 ∷ d.x1 ∷ d.x2 ∷ d.x3 ∷ d.x4 ∷ p.x1 ∷ p.x2 ∷ p.x3 ∷ p.x4 ∷ []

-- Cramer's rule, in the first coordinate
pub cramer1 : (a b c d p : Vector) → det4 a b c d *ℤ p.x1 ≡ det4 p b c d *ℤ a.x1 +ℤ det4 a p c d *ℤ b.x1 +ℤ det4 a b p d *ℤ c.x1 +ℤ det4 a b c p *ℤ d.x1
unfolding det4
cramer1 a b c d p =
    let A = row 0 in let B = row 4 in let C = row 8 in let D = row 12 in let P = row 16 in
    ring (of5 a b c d p) (times (det4E A B C D) P.x1)
    (plus (plus (plus (times (det4E P B C D) A.x1) (times (det4E A P C D) B.x1)) (times (det4E A B P D) C.x1)) (times (det4E A B C P) D.x1)) refl

pub det4-cofactors : (u v w y : Vector) → det4 u v w y ≡ dot (cofactors u v w) y
unfolding det4 cofactors
det4-cofactors u v w y = last_row u v w y

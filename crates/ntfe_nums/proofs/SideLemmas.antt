-- The value of the form that `normal4` gives is the determinant.
use Rattle.std.proofs.Common.{◌≡◌, refl, sym, ap, ◌∙◌, ℤ, ◌+ℤ◌, neg_ℤ}
use Rattle.ntfe_nums.specs.Vectors.{Vector, dot, difference, normal, side_of}
use Rattle.ntfe_nums.proofs.Ring.{ring}
use Rattle.ntfe_nums.proofs.Ring.Expression.{plus, minus, neg}
use Rattle.ntfe_nums.proofs.DetLemmas.{Row, row, dotE, of4, side-normal}

abbrev pub differenceE : Row → Row → Row
differenceE a b = record { x1 = minus a.x1 b.x1; x2 = minus a.x2 b.x2; x3 = minus a.x3 b.x3; x4 = minus a.x4 b.x4 }

moved : (n x a : Vector) → dot n (difference x a) ≡ dot n x +ℤ neg_ℤ (dot n a)
moved n x a = ring (of4 n x a a) (dotE (row 0) (differenceE (row 4) (row 8))) (plus (dotE (row 0) (row 4)) (neg (dotE (row 0) (row 8)))) refl

pub side_is : (a b c d x n : Vector) (level : ℤ) → n ≡ normal a b c d → level ≡ neg_ℤ (dot n a) → dot n x +ℤ level ≡ side_of a b c d x
side_is a b c d x n level e f =
    ap (λ k. dot n x +ℤ k) f ∙ sym (moved n x a) ∙ ap (λ m. dot m (difference x a)) e ∙ sym (side-normal a b c d x)

-- Four independent vectors have at most one facet in common.
use Rattle.std.proofs.Common.{◌≡◌, ◌∙◌, refl, sym, ℤ, ◌*ℤ◌}
use Rattle.ntfe_nums.specs.Vectors.{Vector, dot, det4, AreLinearlyIndependent}
use Rattle.ntfe_nums.proofs.Ring.{ring}
use Rattle.ntfe_nums.proofs.Ring.Expression.{var, times}
use Rattle.ntfe_nums.proofs.DetLemmas.{Row, row, det4E, dotE, of5}
use Rattle.ntfe_model.specs.Reflexive.{IsTight}
use Rattle.ntfe_model.proofs.PlaneNumbers.{cancel_other}

-- the vector with another number in one place
abbrev with1 : ℤ → Vector → Vector
with1 z v = record { x1 = z; x2 = v.x2; x3 = v.x3; x4 = v.x4 }

abbrev with2 : ℤ → Vector → Vector
with2 z v = record { x1 = v.x1; x2 = z; x3 = v.x3; x4 = v.x4 }

abbrev with3 : ℤ → Vector → Vector
with3 z v = record { x1 = v.x1; x2 = v.x2; x3 = z; x4 = v.x4 }

abbrev with4 : ℤ → Vector → Vector
with4 z v = record { x1 = v.x1; x2 = v.x2; x3 = v.x3; x4 = z }

-- the same for rows of variables, with the product with the row behind them
abbrev row1 : Row → Row
row1 v = record { x1 = dotE (row 16) v; x2 = v.x2; x3 = v.x3; x4 = v.x4 }

abbrev row2 : Row → Row
row2 v = record { x1 = v.x1; x2 = dotE (row 16) v; x3 = v.x3; x4 = v.x4 }

abbrev row3 : Row → Row
row3 v = record { x1 = v.x1; x2 = v.x2; x3 = dotE (row 16) v; x4 = v.x4 }

abbrev row4 : Row → Row
row4 v = record { x1 = v.x1; x2 = v.x2; x3 = v.x3; x4 = dotE (row 16) v }

-- each coordinate of m times the determinant is the determinant with the products in this column
module _ (a b c d m : Vector) where
  column1 : m.x1 *ℤ det4 a b c d ≡ det4 (with1 (dot m a) a) (with1 (dot m b) b) (with1 (dot m c) c) (with1 (dot m d) d)
  unfolding det4
  column1 = ring (of5 a b c d m) (times (var 16) (det4E (row 0) (row 4) (row 8) (row 12))) (det4E (row1 (row 0)) (row1 (row 4)) (row1 (row 8)) (row1 (row 12))) refl

  column2 : m.x2 *ℤ det4 a b c d ≡ det4 (with2 (dot m a) a) (with2 (dot m b) b) (with2 (dot m c) c) (with2 (dot m d) d)
  unfolding det4
  column2 = ring (of5 a b c d m) (times (var 17) (det4E (row 0) (row 4) (row 8) (row 12))) (det4E (row2 (row 0)) (row2 (row 4)) (row2 (row 8)) (row2 (row 12))) refl

  column3 : m.x3 *ℤ det4 a b c d ≡ det4 (with3 (dot m a) a) (with3 (dot m b) b) (with3 (dot m c) c) (with3 (dot m d) d)
  unfolding det4
  column3 = ring (of5 a b c d m) (times (var 18) (det4E (row 0) (row 4) (row 8) (row 12))) (det4E (row3 (row 0)) (row3 (row 4)) (row3 (row 8)) (row3 (row 12))) refl

  column4 : m.x4 *ℤ det4 a b c d ≡ det4 (with4 (dot m a) a) (with4 (dot m b) b) (with4 (dot m c) c) (with4 (dot m d) d)
  unfolding det4
  column4 = ring (of5 a b c d m) (times (var 19) (det4E (row 0) (row 4) (row 8) (row 12))) (det4E (row4 (row 0)) (row4 (row 4)) (row4 (row 8)) (row4 (row 12))) refl

-- vectors that are tight on the same four independent vectors are equal
pub dual_unique : (a b c d m n : Vector) → AreLinearlyIndependent a b c d → IsTight m a → IsTight m b → IsTight m c → IsTight m d → IsTight n a → IsTight n b → IsTight n c → IsTight n d → m ≡ n
dual_unique a b c d m n ne p q r s p' q' r' s' =
    let e = p ∙ sym p' in
    let f = q ∙ sym q' in
    let g = r ∙ sym r' in
    let h = s ∙ sym s' in
    λ i. record {
      x1 = cancel_other m.x1 n.x1 (det4 a b c d) ne (column1 a b c d m ∙ (λ j. det4 (with1 (e j) a) (with1 (f j) b) (with1 (g j) c) (with1 (h j) d)) ∙ sym (column1 a b c d n)) i;
      x2 = cancel_other m.x2 n.x2 (det4 a b c d) ne (column2 a b c d m ∙ (λ j. det4 (with2 (e j) a) (with2 (f j) b) (with2 (g j) c) (with2 (h j) d)) ∙ sym (column2 a b c d n)) i;
      x3 = cancel_other m.x3 n.x3 (det4 a b c d) ne (column3 a b c d m ∙ (λ j. det4 (with3 (e j) a) (with3 (f j) b) (with3 (g j) c) (with3 (h j) d)) ∙ sym (column3 a b c d n)) i;
      x4 = cancel_other m.x4 n.x4 (det4 a b c d) ne (column4 a b c d m ∙ (λ j. det4 (with4 (e j) a) (with4 (f j) b) (with4 (g j) c) (with4 (h j) d)) ∙ sym (column4 a b c d n)) i;
    }

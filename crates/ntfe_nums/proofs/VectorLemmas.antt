-- Lists of coordinates, and the vectors that they are of.
use Rattle.std.proofs.Common.{◌≡◌, ℤ, List, sym, ap, ◌∙◌}
use Rattle.ntfe_nums.specs.Vectors.{Vector, vector, numbers}

pub same4 : (a b : Vector) → a.x1 ≡ b.x1 → a.x2 ≡ b.x2 → a.x3 ≡ b.x3 → a.x4 ≡ b.x4 → a ≡ b
same4 a b p q r s = λ i. record { x1 = p i; x2 = q i; x3 = r i; x4 = s i }

-- equal coordinates are those of equal vectors
pub same_vectors : (xs ys : List ℤ) (v w : Vector) → vector xs ≡ v → vector ys ≡ w → xs ≡ ys → v ≡ w
same_vectors xs ys v w p q e = sym p ∙ ap vector e ∙ q

pub same_numbers : (xs ys : List ℤ) (v w : Vector) → xs ≡ numbers v → ys ≡ numbers w → v ≡ w → xs ≡ ys
same_numbers xs ys v w p q e = p ∙ ap numbers e ∙ sym q

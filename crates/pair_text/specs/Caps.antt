-- Numbers cut to a greatest size.
use Rattle.std.specs.Prelude.{◌≡◌, ℕ, min, ℤ, pos, negsuc, List}
use Rattle.ntfe_nums.specs.Vectors.{Vector, numbers}
use Rattle.ntfe_model.specs.PairText.{AreNumbers}

-- the nearest number from -1,024 to 1,024
abbrev pub capped : ℤ → ℤ
capped (pos n) = pos (min n 1024)
capped (negsuc n) = negsuc (min n 1023)

abbrev pub capped_vector : Vector → Vector
capped_vector v = record { x1 = capped v.x1; x2 = capped v.x2; x3 = capped v.x3; x4 = capped v.x4 }

-- the fields are numbers, and v has them cut
pub record HaveCapped (fields : List (List ℕ)) (v : Vector) : Type 0 where
  pub exact : Vector
  pub are : AreNumbers fields (numbers exact)
  pub is : v ≡ capped_vector exact

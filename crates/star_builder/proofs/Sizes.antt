-- The greatest size of a list's numbers.
use Rattle.std.proofs.Common.{◌≡◌, ℤ, List, [], ◌∷◌, ◌++◌, arith, unsigned_abs, max}
use Rattle.ntfe_model.specs.Stars.{greatest_size}

pub greatest_size-push : (zs : List ℤ) (z : ℤ) → greatest_size (zs ++ z ∷ []) ≡ max (greatest_size zs) (unsigned_abs z)
greatest_size-push [] z = omega arith
greatest_size-push (y ∷ zs) z = omega (arith, greatest_size-push zs z)

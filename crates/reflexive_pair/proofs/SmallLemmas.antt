-- Small vectors have small coordinates, within the bound of products and determinants.
use Rattle.std.proofs.Common.{ℤ, ◌≡◌, ◌^◌, arith, List}
use Rattle.ntfe_nums.specs.Vectors.{Vector, numbers}
use Rattle.ntfe_model.specs.Pairs.{IsSmall}
use Rattle.ntfe_nums.specs.Sizes.{AreWithin}
use Rattle.ntfe_nums.proofs.Machine.{AreWithin-weaker}
use Rattle.ntfe_model.proofs.SmallVectors.{small_coordinates}

pub AreWithin-small : (v : Vector) (xs : List ℤ) → IsSmall v → xs ≡ numbers v → AreWithin (2 ^ 20) xs
AreWithin-small v xs s e = AreWithin-weaker 1023 (2 ^ 20) xs (omega arith) (small_coordinates v xs s e)

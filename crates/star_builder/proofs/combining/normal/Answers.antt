use Rattle.std.proofs.Common.{◌≡◌, ◌^◌, ◌∙◌, ℤ, List, arith}
use Rattle.ntfe_nums.specs.Vectors.{Vector, numbers, cofactors}
use Rattle.ntfe_nums.specs.Sizes.{AreWithin}
use Rattle.ntfe_nums.proofs.Machine.{AreWithin-weaker}
use Rattle.ntfe_model.specs.Pairs.{IsSmall}
use Rattle.ntfe_model.proofs.SmallVectors.{small_coordinates}
use Rattle.star_builder.proofs.combining.normal.Goals as goal

-- the coordinates of a small vector
within : (v : Vector) (xs : List ℤ) → IsSmall v → xs ≡ numbers v → AreWithin (2 ^ 11) xs
within v xs s e = AreWithin-weaker 1023 (2 ^ 11) xs (omega arith) (small_coordinates v xs s e)

pub short_normal-requires-clause-first : goal.short_normal-requires-clause-first
short_normal-requires-clause-first c = within c.args.a.now c.coordinates.result.now c.requires.first c.coordinates.ensures.list

pub short_normal-requires-clause-second : goal.short_normal-requires-clause-second
short_normal-requires-clause-second c = within c.args.b.now c.coordinates-2.result.now c.requires.second c.coordinates-2.ensures.list

pub short_normal-requires-clause-third : goal.short_normal-requires-clause-third
short_normal-requires-clause-third c = within c.args.c.now c.coordinates-3.result.now c.requires.third c.coordinates-3.ensures.list

pub returns-clause-value : goal.returns-clause-value
returns-clause-value c =
    c.short_normal.ensures.value ∙ (λ t. cofactors (c.coordinates.ensures.value t) (c.coordinates-2.ensures.value t) (c.coordinates-3.ensures.value t))

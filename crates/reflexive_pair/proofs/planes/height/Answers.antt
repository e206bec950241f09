use Rattle.std.proofs.Common.{◌∙◌, ◌^◌, ap, arith, w64}
use Rattle.ntfe_nums.specs.Vectors.{vector, dot}
use Rattle.ntfe_nums.proofs.Machine.{back}
use Rattle.ntfe_model.proofs.SmallVectors.{small_coordinates}
use Rattle.reflexive_pair.proofs.planes.height.Goals as goal

pub short_product-requires-clause-small : goal.short_product-requires-clause-small
short_product-requires-clause-small c = small_coordinates c.args.x.now c.coordinates.result.now c.requires.small c.coordinates.ensures.list

pub returns : goal.returns
returns c =
    back w64 c.short_product.result (2 ^ 48) c.short_product.ensures.size (omega arith)
    ∙ c.short_product.ensures.value ∙ ap (dot (vector c.args.n.now)) c.coordinates.ensures.value

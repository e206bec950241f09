use Rattle.std.proofs.Common.{◌≡◌, ◌<◌, ◌^◌, ◌+◌, ◌∙◌, pos, take, get_or, max, unsigned_abs, to_z, of_z, w64, ap, arith}
use Rattle.std.proofs.lemmas.List.{take_more}
use Rattle.ntfe_nums.proofs.Machine.{back}
use Rattle.ntfe_model.specs.Stars.{greatest_size}
use Rattle.star_builder.proofs.Sizes.{greatest_size-push}
use Rattle.star_builder.proofs.origin.greatest.Goals as goal

pub loop-h-preserved : goal.loop-h-preserved
loop-h-preserved c =
    let zs = c.args.heights.now in
    let i = c.loop-h.h-index in
    let z = get_or zs i (pos 0) in
    let small : unsigned_abs z < 2 ^ 62 = c.requires i (pos 0) c.loop-h-test.true in
    let word : to_z w64 (of_z w64 z) ≡ z = back w64 z (2 ^ 62) (omega arith) (omega arith) in
    let size : c.unsigned_abs.result ≡ unsigned_abs z = c.unsigned_abs.ensures.value ∙ ap unsigned_abs word in
    let grown : greatest_size (take (i + 1) zs) ≡ max (greatest_size (take i zs)) (unsigned_abs z) =
    ap greatest_size (take_more zs i (pos 0) c.loop-h-test.true) ∙ greatest_size-push (take i zs) z in
    record {
      value = omega (arith, c.max-most.ensures, c.loop-h.invariant.value);
      small = omega (arith, c.max-most.ensures, c.loop-h.invariant.small);
    }

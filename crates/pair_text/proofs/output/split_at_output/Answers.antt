use Rattle.std.proofs.Common.{◌<◌, length, arith}
use Rattle.std.proofs.lemmas.Bool.Decides.{nat_tests}
use Rattle.pair_text.proofs.OutputLines.{none_more}
use Rattle.pair_text.proofs.output.split_at_output.Goals as goal

pub loop-rest-preserved : goal.loop-rest-preserved
loop-rest-preserved c =
    let some : 0 < length c.loop-rest.rest.now = grind (arith, nat_tests) in
    none_more c.args.bytes.now c.loop-rest.rest.now c.loop-rest.invariant some c.first_line.result.0.now c.first_line.result.1.now c.first_line.ensures (c.is_output_line.ensures.when_false c.if-is_output_line.false)

use Rattle.std.proofs.Common.{arith}
use Rattle.ntfe_run.proofs.BegunStops.{split_short}
use Rattle.ntfe_run.proofs.commands.resume.begun_of.Goals as goal

pub earlier_of-requires : goal.earlier_of-requires
earlier_of-requires c = (let short = split_short c.args.bytes.now c.in-Some.before.now c.in-Some.behind.now c.in-Some.ensures in omega (arith, short, c.requires))

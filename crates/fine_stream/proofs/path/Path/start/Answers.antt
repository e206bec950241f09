use Rattle.fine_stream.proofs.Going.{starts_at}
use Rattle.fine_stream.proofs.path.Path.start.Goals as goal

pub returns : goal.returns
returns c = λ root r k. starts_at root r c.args.self.now c.last_start.result k c.last_start.ensures.first c.last_start.ensures.last

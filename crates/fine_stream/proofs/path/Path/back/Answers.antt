use Rattle.fine_stream.proofs.Going.{back_one}
use Rattle.fine_stream.proofs.TableLemmas.{placed_back}
use Rattle.fine_stream.specs.Kept.{triangles_after, waiting_after, closing}
use Rattle.fine_stream.proofs.path.Path.back.Goals as goal

pub returns-clause-kept : goal.returns-clause-kept
returns-clause-kept c = λ root r d k.
    back_one root r d c.last_start-steps.result c.last-c.result c.args.self.now c.pop.new.self k c.last-c.ensures c.last_start-steps.ensures.last
    c.pop.ensures.word c.pop.ensures.triangles c.pop.ensures.steps c.pop.ensures.starts

pub returns-clause-placed : goal.returns-clause-placed
returns-clause-placed c = λ root r d triples k a.
    placed_back triples c.args.self.now.places.items c.pop.new.self.places.items c.args.self.now.triangles.items c.pop.new.self.triangles.items (triangles_after root r)
    (closing d (waiting_after root r)) a k.all c.pop.ensures.places (c.pop.ensures.triangles (triangles_after root r) (closing d (waiting_after root r)) k.all)

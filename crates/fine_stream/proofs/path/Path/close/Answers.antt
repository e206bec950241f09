use Rattle.std.proofs.Common.{arith}
use Rattle.fine_stream.proofs.Going.{some_waits, closed_path}
use Rattle.fine_stream.proofs.TableLemmas.{placed_on}
use Rattle.fine_stream.proofs.path.Path.close.Goals as goal

pub index-requires : goal.index-requires
index-requires c =
    let l = some_waits c.requires.0 c.requires.1 c.args.self.now c.start-start.result (c.start-start.ensures c.requires.0 c.requires.1 c.requires.2) c.requires.3 in omega arith

pub returns-clause-kept : goal.returns-clause-kept
returns-clause-kept c = λ root r k.
    let l = some_waits c.requires.0 c.requires.1 c.args.self.now c.start-start.result (c.start-start.ensures c.requires.0 c.requires.1 c.requires.2) c.requires.3 in
    closed_path root r c.args.c c.start-start.result c.index.result.now c.written-triangle.result c.args.self.now c.push.new.self k (c.start-start.ensures root r k).1 l c.index.ensures c.written-triangle.ensures
    c.in_ok-push.ensures.steps c.in_ok-push.ensures.word c.in_ok-push.ensures.triangles c.in_ok-push.ensures.starts

pub returns-clause-placed : goal.returns-clause-placed
returns-clause-placed c = λ a.
    placed_on c.args.tables.now.triples.items c.args.self.now.places.items c.push.new.self.places.items c.args.self.now.triangles.items c.push.new.self.triangles.items c.place-place.result
    c.written-triangle.result a c.place-place.ensures c.in_ok-push.ensures.places c.in_ok-push.ensures.triangles

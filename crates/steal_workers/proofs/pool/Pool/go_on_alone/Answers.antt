use Rattle.std.proofs.Common.{sym, ◌∙◌}
use Rattle.choice_board.specs.Starts.{new_board}
use Rattle.steal_workers.proofs.Ends.{part_written}
use Rattle.steal_workers.proofs.LaterStarts.{new_abreast_later}
use Rattle.steal_workers.proofs.pool.Pool.go_on_alone.Goals as goal

pub list_on-requires-clause-abreast : goal.list_on-requires-clause-abreast
list_on-requires-clause-abreast g c =
    let last = c.last.ensures in
    new_abreast_later c.args.writer.now c.in-Ok.board c.requires.place.from c.in-Ok.ensures.sound (c.in-Ok.ensures.value ∙ (λ k. new_board (sym c.requires.own.geometry k) (last k)))

pub returns-in-Err-clause-ends : goal.returns-in-Err-clause-ends
returns-in-Err-clause-ends g c earlier h = part_written c.args.writer.now (record { before = earlier; after = g.K.Sink.taken c.args.out.now }) h

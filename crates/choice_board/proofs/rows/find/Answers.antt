use Rattle.std.proofs.Common.{◌∙◌, ap, ◌<◌, length, get_or, arith}
use Rattle.choice_board.proofs.KeyOrder.{below_read, above_read, same_read}
use Rattle.choice_board.proofs.RowLemmas.{search_behind, search_before, same_at}
use Rattle.choice_board.proofs.rows.find.Goals as goal

pub loop-low-preserved-in-Less : goal.loop-low-preserved-in-Less
loop-low-preserved-in-Less g c =
    let place = c.next_look-place.result in
    search_behind g.T.Keyed.key_of c.args.row.now.items c.args.numbers.now c.loop-low.low c.loop-low.high place c.index.result.now c.requires c.loop-low.invariant c.next_look-place.ensures.high
    (below_read c.args.numbers.now c.numbers.result.now (g.T.Keyed.key_of (get_or c.args.row.now.items place c.index.result.now)) c.in-Less.ensures (c.numbers.ensures ∙ ap g.T.Keyed.key_of c.index.ensures))

pub returns-in-Equal : goal.returns-in-Equal
returns-in-Equal g c =
    let place = c.next_look-place.result in
    let w = c.loop-low.invariant.within in
    let h = c.next_look-place.ensures.high in
    let inside : c.next_look-place.result < length c.args.row.now.items = omega arith in (
      inside,
      λ d. same_at g.T.Keyed.key_of c.args.row.now.items c.args.numbers.now place c.index.result.now d inside
          (same_read c.args.numbers.now c.numbers.result.now (g.T.Keyed.key_of (get_or c.args.row.now.items place c.index.result.now)) c.in-Equal.ensures (c.numbers.ensures ∙ ap g.T.Keyed.key_of c.index.ensures)),
    )

pub loop-low-preserved : goal.loop-low-preserved
loop-low-preserved g c =
    let place = c.next_look-place.result in
    search_before g.T.Keyed.key_of c.args.row.now.items c.args.numbers.now c.loop-low.low c.loop-low.high place c.index.result.now c.requires c.loop-low.invariant c.next_look-place.ensures.low c.next_look-place.ensures.high
    (above_read c.args.numbers.now c.numbers.result.now (g.T.Keyed.key_of (get_or c.args.row.now.items place c.index.result.now)) c.in-Greater.ensures (c.numbers.ensures ∙ ap g.T.Keyed.key_of c.index.ensures))

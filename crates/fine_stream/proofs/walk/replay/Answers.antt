use Rattle.std.proofs.Common.{◌∙◌}
use Rattle.std.proofs.lemmas.List.{take_all}
use Rattle.fine_stream.proofs.Going.{replay_some, replay_more}
use Rattle.fine_stream.proofs.walk.replay.Goals as goal

pub close-requires : goal.close-requires
close-requires c =
    let s = c.loop-c.invariant.0 c.requires.0 c.requires.1 c.requires.2 c.requires.3 in
    (c.requires.0, s.numbers, s.keeps, replay_some c.requires.0 c.args.word.now c.loop-c.c-index c.loop-c.path c.loop-c-test.true s)

pub loop-c-preserved : goal.loop-c-preserved
loop-c-preserved c = (
  λ root us k e.
      replay_more root c.args.word.now c.loop-c.c-index _ c.loop-c.path c.close.new.self c.loop-c-test.true (c.loop-c.invariant.0 root us k e) (λ r m. c.in_ok-close.ensures.kept root r m),
  λ a. c.in_ok-close.ensures.placed (c.loop-c.invariant.1 a),
)

pub returns-clause-kept : goal.returns-clause-kept
returns-clause-kept c = λ root us k e.
    let s = c.loop-c.invariant.0 root us k e in (s.numbers, s.keeps, s.is ∙ take_all c.loop-c.c-index c.args.word.now c.loop-c-test.false)

pub returns-clause-placed : goal.returns-clause-placed
returns-clause-placed c = c.loop-c.invariant.1

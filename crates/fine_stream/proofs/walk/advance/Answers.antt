use Rattle.std.proofs.Common.{ℕ, sym, subst, List}
use Rattle.ntfe_model.specs.declared.triangle.Triangle.{Triangle}
use Rattle.fine_stream.specs.Paths.{AreOf, IsPart}
use Rattle.fine_stream.specs.Places.{ArePlaced}
use Rattle.fine_stream.proofs.Finding.{when_true, when_false}
use Rattle.fine_stream.proofs.Going.{going_first, going_step, going_found, going_passed, going_end, shorter, going_some}
use Rattle.fine_stream.proofs.walk.advance.Goals as goal

pub loop-path-init : goal.loop-path-init
loop-path-init c = (going_first c.args.chart.now c.args.path.now c.requires.path, c.requires.placed)

pub add_first-requires-clause-start : goal.add_first-requires-clause-start
add_first-requires-clause-start c =
    let b = going_step c.args.chart.now c.args.path.now.word.items c.loop-path.path c.back-c.new.self c.back-c.result c.loop-path.invariant.0 (c.is_empty.ensures.when_false c.loop-path-test.true) c.back-c.ensures.kept in
    (c.start-start.ensures b.root b.numbers b.keeps).0

pub add_first-requires-clause-points : goal.add_first-requires-clause-points
add_first-requires-clause-points c =
    let b = going_step c.args.chart.now c.args.path.now.word.items c.loop-path.path c.back-c.new.self c.back-c.result c.loop-path.invariant.0 (c.is_empty.ensures.when_false c.loop-path-test.true) c.back-c.ensures.kept in
    let P : List (ℕ × ℕ) → Type 0 = λ es. AreOf c.args.chart.now es in
    subst P (sym (c.start-start.ensures b.root b.numbers b.keeps).1) b.points

pub add_first-requires-clause-part : goal.add_first-requires-clause-part
add_first-requires-clause-part c =
    let b = going_step c.args.chart.now c.args.path.now.word.items c.loop-path.path c.back-c.new.self c.back-c.result c.loop-path.invariant.0 (c.is_empty.ensures.when_false c.loop-path-test.true) c.back-c.ensures.kept in
    let P : List Triangle → Type 0 = λ us. IsPart c.args.chart.now us in
    subst P (sym b.keeps.all) b.part

pub returns-then-branch-clause-answer : goal.returns-then-branch-clause-answer
returns-then-branch-clause-answer c =
    let b = going_step c.args.chart.now c.args.path.now.word.items c.loop-path.path c.back-c.new.self c.back-c.result c.loop-path.invariant.0 (c.is_empty.ensures.when_false c.loop-path-test.true) c.back-c.ensures.kept in
    going_found c.args.chart.now c.args.path.now.word.items c.back-c.result _ c.back-c.new.self c.add_first.new.path b (c.start-start.ensures b.root b.numbers b.keeps).1
    (when_true c.in_ok-add_first.field-0 _ _ c.if-branch.true c.in_ok-add_first.ensures.answer)

pub loop-path-smaller : goal.loop-path-smaller
loop-path-smaller c =
    let b = going_step c.args.chart.now c.args.path.now.word.items c.loop-path.path c.back-c.new.self c.back-c.result c.loop-path.invariant.0 (c.is_empty.ensures.when_false c.loop-path-test.true) c.back-c.ensures.kept in
    let a = when_false c.in_ok-add_first.field-0 _ _ c.if-branch.false c.in_ok-add_first.ensures.answer in
    shorter c.args.chart.now c.args.path.now.word.items c.back-c.result c.loop-path.path c.back-c.new.self c.add_first.new.path c.loop-path.invariant.0 (c.is_empty.ensures.when_false c.loop-path-test.true) c.back-c.ensures.kept a.words

pub loop-path-preserved : goal.loop-path-preserved
loop-path-preserved c = (
  (let b = going_step c.args.chart.now c.args.path.now.word.items c.loop-path.path c.back-c.new.self c.back-c.result c.loop-path.invariant.0 (c.is_empty.ensures.when_false c.loop-path-test.true) c.back-c.ensures.kept in
      going_passed c.args.chart.now c.args.path.now.word.items c.back-c.result _ c.back-c.new.self c.add_first.new.path b (c.start-start.ensures b.root b.numbers b.keeps).1
      (when_false c.in_ok-add_first.field-0 _ _ c.if-branch.false c.in_ok-add_first.ensures.answer)),
  c.in_ok-add_first.ensures.placed,
)

pub returns-clause-answer : goal.returns-clause-answer
returns-clause-answer c = going_end c.args.chart.now c.args.path.now.word.items c.loop-path.path c.loop-path.invariant.0 (c.is_empty.ensures.when_true c.loop-path-test.false)

pub add_first-requires-clause-placed : goal.add_first-requires-clause-placed
add_first-requires-clause-placed c =
    going_some c.args.chart.now c.args.path.now.word.items c.loop-path.path (ArePlaced c.args.tables.now c.back-c.new.self) c.loop-path.invariant.0 (c.is_empty.ensures.when_false c.loop-path-test.true)
    (λ root r d k. c.back-c.ensures.placed root r d c.args.tables.now.triples.items k c.loop-path.invariant.1)

pub returns-clause-placed : goal.returns-clause-placed
returns-clause-placed c = c.loop-path.invariant.1

use Rattle.std.proofs.Common.{◌≡◌, ◌∙◌, sym, ap, arith, get_or, pos, of_z, w64, below_more}
use Rattle.ntfe_nums.specs.Vectors.{numbers}
use Rattle.ntfe_nums.proofs.Machine.{AreWithin-same, AreWithin-four}
use Rattle.face_chart.specs.Units.{reached_at}
use Rattle.ntfe_model.proofs.SmallVectors.{small_numbers}
use Rattle.face_chart.proofs.UnitLemmas.{same_bits, reached_from, reached_to}
use Rattle.face_chart.proofs.units.is_reached.Goals as goal

pub reached_at-requires-clause-a : goal.reached_at-requires-clause-a
reached_at-requires-clause-a c = AreWithin-same 1023 _ (numbers c.args.a.now) c.coordinates-a.ensures.list (small_numbers c.args.a.now c.requires.a)

pub reached_at-requires-clause-b : goal.reached_at-requires-clause-b
reached_at-requires-clause-b c = AreWithin-same 1023 _ (numbers c.args.b.now) c.coordinates-b.ensures.list (small_numbers c.args.b.now c.requires.b)

pub reached_at-requires-clause-c : goal.reached_at-requires-clause-c
reached_at-requires-clause-c c = AreWithin-same 1023 _ (numbers c.args.c.now) c.coordinates-c.ensures.list (small_numbers c.args.c.now c.requires.c)

pub loop-i-preserved : goal.loop-i-preserved
loop-i-preserved c =
    let as' = c.coordinates-a.result.now in
    let bs = c.coordinates-b.result.now in
    let cs = c.coordinates-c.result.now in
    let ps = c.coordinates-p.result.now in
    let i = c.loop-i.i in
    let small = AreWithin-four 1023 ps (AreWithin-same 1023 ps (numbers c.args.p.now) c.coordinates-p.ensures.list (small_numbers c.args.p.now c.requires.p)) i in
    below_more (λ k. get_or ps k (pos 0) ≡ reached_at as' bs cs c.args.m.now k) i c.loop-i.invariant
    (sym (same_bits c.reached_at.result (get_or ps i (pos 0)) c.reached_at.ensures.size (omega (arith, small)) c.if-reached_at-p.false) ∙ c.reached_at.ensures.value)

pub returns-then-reached_at-p : goal.returns-then-reached_at-p
returns-then-reached_at-p c =
    let as' = c.coordinates-a.result.now in
    let bs = c.coordinates-b.result.now in
    let cs = c.coordinates-c.result.now in
    let ps = c.coordinates-p.result.now in
    let i = c.loop-i.i in
    record {
      when_true = λ t. cc;
      when_false = λ t e. c.if-reached_at-p.true (ap (of_z w64) (c.reached_at.ensures.value
          ∙ sym (reached_to as' bs cs ps c.args.a.now c.args.b.now c.args.c.now c.args.p.now c.args.m.now c.coordinates-a.ensures.list c.coordinates-b.ensures.list c.coordinates-c.ensures.list c.coordinates-p.ensures.list e i c.loop-i-test.true)));
    }

pub returns : goal.returns
returns c =
    let as' = c.coordinates-a.result.now in
    let bs = c.coordinates-b.result.now in
    let cs = c.coordinates-c.result.now in
    let ps = c.coordinates-p.result.now in
    record {
      when_true = λ t. reached_from as' bs cs ps c.args.a.now c.args.b.now c.args.c.now c.args.p.now c.args.m.now c.coordinates-a.ensures.list c.coordinates-b.ensures.list c.coordinates-c.ensures.list c.coordinates-p.ensures.list
          (λ k l. c.loop-i.invariant k (let f = c.loop-i-test.false in omega (arith, l, f)));
      when_false = λ t. cc;
    }

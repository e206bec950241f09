use Rattle.std.proofs.Common.{subst, ℕ, List, get_or}
use Rattle.std.specs.Prelude.{Contains}
use Rattle.std.proofs.lemmas.List.Elements.{All-contains, Contains-get_or}
use Rattle.ntfe_model.specs.Charts.{spot_numbers}
use Rattle.face_chart.specs.Steps.{IsClear}
use Rattle.face_chart.proofs.UnitLemmas.{kept_more, kept_all}
use Rattle.face_chart.proofs.steps.is_step.Goals as goal

pub is_clear-requires-clause-distinct : goal.is_clear-requires-clause-distinct
is_clear-requires-clause-distinct c = λ e. c.if-a-b.false (c.requires.apart c.args.a c.args.b c.requires.a c.requires.b e)

pub loop-p-preserved : goal.loop-p-preserved
loop-p-preserved c =
    let g = c.args.table.now in
    kept_more (IsClear g c.args.a c.args.b) c.points-p-items.result.now (spot_numbers g) c.loop-p.p-index c.points-p-items.ensures c.loop-p-test.true c.loop-p.invariant
    (c.is_clear.ensures.when_true c.if-not-is_clear.false)

pub returns-then-a-b : goal.returns-then-a-b
returns-then-a-b c = record { when_true = λ t. cc; when_false = λ t s. s.points.2 c.if-a-b.true }

pub returns-then-not-is_clear : goal.returns-then-not-is_clear
returns-then-not-is_clear c =
    let ks = c.points-p-items.result.now in
    let P = λ (ls : List ℕ). Contains ls (get_or ks c.loop-p.p-index 0) in
    let o = subst P c.points-p-items.ensures (Contains-get_or ks c.loop-p.p-index 0 c.loop-p-test.true) in
    record {
      when_true = λ t. cc;
      when_false = λ t s. c.is_clear.ensures.when_false c.if-not-is_clear.true
          (record { outer = s.outer (get_or ks c.loop-p.p-index 0) o; next = s.next (get_or ks c.loop-p.p-index 0) o });
    }

pub returns : goal.returns
returns c =
    let g = c.args.table.now in
    let R = IsClear g c.args.a c.args.b in
    let all = kept_all R c.points-p-items.result.now (spot_numbers g) c.loop-p.p-index c.points-p-items.ensures c.loop-p-test.false c.loop-p.invariant in
    record {
      when_true = λ t. record {
        points = (c.requires.a, c.requires.b, c.if-a-b.false);
        outer = λ p o. (All-contains R (spot_numbers g) p all o).outer;
        next = λ p o. (All-contains R (spot_numbers g) p all o).next;
      };
      when_false = λ t. cc;
    }

use Rattle.std.proofs.Common.{ℕ, List, take, subst, sym, ◌∙◌, refl, get_or}
use Rattle.std.specs.Prelude.{Contains}
use Rattle.std.proofs.lemmas.List.{take_all, take_more}
use Rattle.std.proofs.lemmas.List.Elements.{Contains-get_or}
use Rattle.ntfe_model.specs.Words.{written}
use Rattle.fine_stream.specs.Places.{AreFirstCandidates}
use Rattle.fine_stream.proofs.TableLemmas.{closers_more, closers_last, lower_before, behind}
use Rattle.fine_stream.proofs.tables.all_points.Goals as goal

pub loop-point-preserved : goal.loop-point-preserved
loop-point-preserved c = λ triples a b l.
    let ks = c.points-point-items.result.now in
    let i = c.loop-point.point-index in
    let k = get_or ks i 0 in
    let P : List ℕ → Type 0 = λ ls. Contains ls k in
    let Q : List ℕ → Type 0 = λ ls. AreFirstCandidates c.args.chart.now triples a b ls c.push.new.self.items in
    subst Q (sym (take_more ks i 0 c.loop-point-test.true))
    (closers_more c.args.chart.now triples a b k _ (take i ks) c.loop-point.all.items c.push.new.self.items refl (subst P c.points-point-items.ensures.value (Contains-get_or ks i 0 c.loop-point-test.true))
    (behind triples c.args.place (written a b k) l) (lower_before ks i 0 c.points-point-items.ensures.rising c.loop-point-test.true) (c.loop-point.invariant triples a b l) c.in_ok-push.ensures.items)

pub returns : goal.returns
returns c = λ triples a b l.
    let ks = c.points-point-items.result.now in
    closers_last c.args.chart.now triples a b (take c.loop-point.point-index ks) c.loop-point.all.items (take_all c.loop-point.point-index ks c.loop-point-test.false ∙ c.points-point-items.ensures.value)
    (c.loop-point.invariant triples a b l)

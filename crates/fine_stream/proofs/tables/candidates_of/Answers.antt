use Rattle.std.proofs.Common.{ℕ, List, take, subst, sym, ◌∙◌, get_or}
use Rattle.std.specs.Prelude.{Contains}
use Rattle.std.proofs.lemmas.List.{take_all, take_more}
use Rattle.std.proofs.lemmas.List.Elements.{Contains-get_or}
use Rattle.fine_stream.specs.Places.{AreFirstCandidates}
use Rattle.fine_stream.proofs.TableLemmas.{closers_last, lower_before}
use Rattle.fine_stream.proofs.tables.candidates_of.Goals as goal

pub add_candidate-requires : goal.add_candidate-requires
add_candidate-requires c =
    let ks = c.points-c-items.result.now in
    let P : List ℕ → Type 0 = λ ls. Contains ls (get_or ks c.loop-c.c-index 0) in
    record { points = (c.requires.a, c.requires.b, subst P c.points-c-items.ensures.value (Contains-get_or ks c.loop-c.c-index 0 c.loop-c-test.true)) }

pub loop-c-preserved : goal.loop-c-preserved
loop-c-preserved c =
    let ks = c.points-c-items.result.now in
    let i = c.loop-c.c-index in
    let Q : List ℕ → Type 0 = λ ls. AreFirstCandidates c.args.chart.now c.args.triples.now c.args.a c.args.b ls c.add_candidate.new.candidates.items in
    subst Q (sym (take_more ks i 0 c.loop-c-test.true))
    (c.in_ok-add_candidate.ensures (take i ks) (lower_before ks i 0 c.points-c-items.ensures.rising c.loop-c-test.true) c.loop-c.invariant)

pub returns : goal.returns
returns c =
    let ks = c.points-c-items.result.now in
    closers_last c.args.chart.now c.args.triples.now c.args.a c.args.b (take c.loop-c.c-index ks) c.loop-c.candidates.items (take_all c.loop-c.c-index ks c.loop-c-test.false ∙ c.points-c-items.ensures.value)
    c.loop-c.invariant

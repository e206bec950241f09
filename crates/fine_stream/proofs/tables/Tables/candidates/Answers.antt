use Rattle.std.proofs.Common.{List, subst, sym}
use Rattle.fine_stream.specs.Places.{AreCandidates}
use Rattle.fine_stream.specs.declared.tables.Candidate.{Candidate}
use Rattle.fine_stream.proofs.TableLemmas.{fan_candidates}
use Rattle.fine_stream.proofs.tables.Tables.candidates.Goals as goal

pub returns-then-fan-b : goal.returns-then-fan-b
returns-then-fan-b c = λ h x.
    fan_candidates h c.args.self.now.triples.items c.args.self.now.fans.items c.deref.result.now c.fan_place.result c.args.a c.args.b c.in-Some.fan.now c.as_slice.result.now x.fans c.deref.ensures.value
    c.in-Some.ensures.lookup.3.0 c.in-Some.ensures.lookup.1 c.if-fan-a.true c.if-fan-b.true c.as_slice.ensures.value

pub returns : goal.returns
returns c = λ h x.
    let P : List Candidate → Type 0 = λ cs. AreCandidates h c.args.self.now.triples.items c.args.a c.args.b cs in subst P (sym c.as_slice-2.ensures.value) (x.all c.args.a c.args.b)

use Rattle.std.proofs.Common.{ℕ, ◌≡◌, ◌≢◌, true, false, get_or, arith, nat_eq}
use mathlib.Core.Bool.{not}
use Rattle.std.proofs.lemmas.Bool.Decides.{nat_tests}
use Rattle.ntfe_model.specs.Reflexive.{at}
use Rattle.ntfe_model.proofs.TightLemmas.{none_from_bits}
use Rattle.reflexive_pair.proofs.BitLemmas.{has_facet}
use Rattle.reflexive_pair.proofs.facets.OtherFacetTest.is_described.Goals as goal

some_bit : (n : ℕ) → not (nat_eq n 0) ≡ true → n ≢ 0
some_bit n e = grind (arith, nat_tests)

no_bit : (n : ℕ) → not (nat_eq n 0) ≡ false → n ≡ 0
no_bit n e = grind (arith, nat_tests)

pub returns-clause-when_true : goal.returns-clause-when_true
returns-clause-when_true c = λ e.
    let vs = c.args.self.now.vertices.now in let r = c.requires in
    has_facet (at vs c.args.i) (at vs c.args.j) (at vs c.args.k) (at vs c.args.l) c.args.self.now.dual.now
    (get_or c.args.self.now.table.now c.args.i 0) (get_or c.args.self.now.table.now c.args.j 0) (get_or c.args.self.now.table.now c.args.k 0) (get_or c.args.self.now.table.now c.args.l 0)
    (c.args.self.now.incidence c.args.i r.first) (c.args.self.now.incidence c.args.j r.second) (c.args.self.now.incidence c.args.k r.third) (c.args.self.now.incidence c.args.l r.fourth) (omega arith) (some_bit _ e)

pub returns-clause-when_false : goal.returns-clause-when_false
returns-clause-when_false c = λ e.
    let vs = c.args.self.now.vertices.now in let r = c.requires in
    none_from_bits (at vs c.args.i) (at vs c.args.j) (at vs c.args.k) (at vs c.args.l) c.args.self.now.dual.now
    (get_or c.args.self.now.table.now c.args.i 0) (get_or c.args.self.now.table.now c.args.j 0) (get_or c.args.self.now.table.now c.args.k 0) (get_or c.args.self.now.table.now c.args.l 0)
    (c.args.self.now.incidence c.args.i r.first) (c.args.self.now.incidence c.args.j r.second) (c.args.self.now.incidence c.args.k r.third) (c.args.self.now.incidence c.args.l r.fourth) (no_bit _ e)

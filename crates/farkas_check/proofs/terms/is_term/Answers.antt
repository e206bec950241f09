use Rattle.std.proofs.Common.{arith, rules, pos, ◌≤ℤ◌, FitsSigned, to_z-of_z, w64}
use Rattle.std.proofs.lemmas.Int.{ints}
use Rattle.farkas_check.proofs.TermLemmas.{term_of_part, part_of_term}
use Rattle.farkas_check.proofs.terms.is_term.Goals as goal

pub returns-clause-when_true : goal.returns-clause-when_true
returns-clause-when_true g c = λ e.
    let t = c.args.term.now in
    let f : FitsSigned w64 t.times = search rules in
    let q = to_z-of_z f in
    let h = c.if-term-lt-LEAST_TIMES.false in
    let m : pos 1 ≤ℤ t.times = grind (arith, ints, q, h) in
    term_of_part c.args.geometry.now c.args.nogood.now c.as_slice-parts.result.now c.as_slice-parts.ensures t c.if-place-parts.false (c.is_fold.ensures.when_true e) m

pub returns-clause-when_false : goal.returns-clause-when_false
returns-clause-when_false g c = λ e k.
    c.is_fold.ensures.when_false e (part_of_term c.args.geometry.now c.args.nogood.now c.as_slice-parts.result.now c.as_slice-parts.ensures c.args.term.now k)

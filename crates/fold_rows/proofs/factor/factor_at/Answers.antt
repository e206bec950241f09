use Rattle.std.proofs.Common.{◌≤◌, ◌∙◌, sym, subst, unsigned_abs, ℤ}
use Rattle.fold_rows.proofs.FactorLemmas.{difference_fits, top_fits, quotient_fits, quotient_is, quotient_only, quotient_small}
use Rattle.fold_rows.proofs.factor.factor_at.Goals as goal

pub overflow_sub-result : goal.overflow_sub-result
overflow_sub-result c = difference_fits c.args.c.now c.args.a.now c.args.i c.requires.c c.requires.a

pub overflow_sub-result-2 : goal.overflow_sub-result-2
overflow_sub-result-2 c = difference_fits c.args.d.now c.args.a.now c.args.i c.requires.d c.requires.a

pub overflow_sub-result-3 : goal.overflow_sub-result-3
overflow_sub-result-3 c = difference_fits c.args.b.now c.args.a.now c.args.i c.requires.b c.requires.a

pub overflow_add-result : goal.overflow_add-result
overflow_add-result c = top_fits c.args.a.now c.args.b.now c.args.c.now c.args.d.now c.args.i c.requires.a c.requires.b c.requires.c c.requires.d c.requires.distinct

pub nonzero_div-result : goal.nonzero_div-result
nonzero_div-result c = quotient_fits c.args.a.now c.args.b.now c.args.c.now c.args.d.now c.args.i c.requires.a c.requires.b c.requires.c c.requires.d c.requires.distinct c.requires.whole

pub returns : goal.returns
returns c =
    let a = c.args.a.now in
    let b = c.args.b.now in
    let f = c.args.c.now in
    let d = c.args.d.now in
    let r = c.requires in
    let q = quotient_is a b f d c.args.i r.a r.b r.c r.d r.distinct r.whole in
    let P : ℤ → Type 0 = λ z. unsigned_abs z ≤ 4092 in
    record {
      value = λ n e. q ∙ quotient_only a b f d c.args.i r.a r.b r.c r.d r.distinct r.whole n e;
      size = subst P (sym q) (quotient_small a b f d c.args.i r.a r.b r.c r.d r.distinct r.whole);
    }

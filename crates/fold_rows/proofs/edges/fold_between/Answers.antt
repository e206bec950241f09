use Rattle.std.proofs.Common.{refl, inl, inr, arith}
use Rattle.fold_rows.proofs.EdgeLemmas.{computed_balance, computed_two}
use Rattle.fold_rows.proofs.edges.fold_between.Goals as goal

pub returns-then-c-d-clause-value : goal.returns-then-c-d-clause-value
returns-then-c-d-clause-value c =
    let x = c.args in
    let f = c.factor-beta in
    record {
      edge = (refl, refl);
      thirds = inl (c.if-c-d.true, refl, refl);
      balance = computed_balance x.chart.now x.a x.b x.c x.d c.place.result.now c.place-2.result.now c.place-3.result.now c.place-4.result.now f.result c.place.ensures.value c.place-2.ensures.value c.place-3.ensures.value c.place-4.ensures.value f.ensures.size f.ensures.value;
      two = computed_two f.result f.ensures.size;
    }

pub returns-clause-value : goal.returns-clause-value
returns-clause-value c =
    let x = c.args in
    let f = c.factor-beta in
    record {
      edge = (refl, refl);
      thirds = inr ((let k = c.if-c-d.false in omega (arith, k)), refl, refl);
      balance = computed_balance x.chart.now x.a x.b x.c x.d c.place.result.now c.place-2.result.now c.place-3.result.now c.place-4.result.now f.result c.place.ensures.value c.place-2.ensures.value c.place-3.ensures.value c.place-4.ensures.value f.ensures.size f.ensures.value;
      two = computed_two f.result f.ensures.size;
    }

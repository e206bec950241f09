use Rattle.std.proofs.Common.{List, length, subst, ap, arith}
use Rattle.std.specs.Prelude.{All}
use Rattle.ntfe_model.specs.declared.triangle.Triangle.{Triangle}
use Rattle.fine_stream.specs.Places.{IsFan, AreRows}
use Rattle.fine_stream.proofs.tables.tables_of.Goals as goal

pub returns : goal.returns
returns c =
    let R : List Triangle → Type 0 = λ ts. AreRows c.args.chart.now ts c.in_ok-rows.rows.items in
    let F : List Triangle → Type 0 = λ ts. All (IsFan c.args.chart.now ts) c.in_ok-fans.fans.items in
    let e = c.in_ok-rows.ensures.count in
    let m = ap length c.as_slice.ensures.value in record {
      all = λ a b. c.in_ok-all.ensures c.args.triples.items a b (omega arith);
      fans = subst F c.as_slice-2.ensures.value c.in_ok-fans.ensures;
      rows = subst R c.as_slice.ensures.value c.in_ok-rows.ensures.rows;
      short = omega (arith, e, m);
    }

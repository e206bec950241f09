use Rattle.std.proofs.Common.{arith}
use Rattle.fold_rows.proofs.EdgeLemmas.{edge_first, edge_second, third_first, third_second, edge_apart, edge_balanced, fold_is}
use Rattle.fold_rows.proofs.edges.fold_at.Goals as goal

pub fold_between-requires-clause-a : goal.fold_between-requires-clause-a
fold_between-requires-clause-a c = edge_first c.args.chart.now c.args.triangles.now c.requires.units c.args.a c.args.b c.in_ok-c.c c.in_ok-d.d c.in_ok-c.ensures c.in_ok-d.ensures

pub fold_between-requires-clause-b : goal.fold_between-requires-clause-b
fold_between-requires-clause-b c = edge_second c.args.chart.now c.args.triangles.now c.requires.units c.args.a c.args.b c.in_ok-c.c c.in_ok-d.d c.in_ok-c.ensures c.in_ok-d.ensures

pub fold_between-requires-clause-c : goal.fold_between-requires-clause-c
fold_between-requires-clause-c c = third_first c.args.chart.now c.args.triangles.now c.requires.units c.args.a c.args.b c.in_ok-c.c c.in_ok-d.d c.in_ok-c.ensures c.in_ok-d.ensures

pub fold_between-requires-clause-d : goal.fold_between-requires-clause-d
fold_between-requires-clause-d c = third_second c.args.chart.now c.args.triangles.now c.requires.units c.args.a c.args.b c.in_ok-c.c c.in_ok-d.d c.in_ok-c.ensures c.in_ok-d.ensures

pub fold_between-requires-clause-distinct : goal.fold_between-requires-clause-distinct
fold_between-requires-clause-distinct c = edge_apart c.args.chart.now c.args.triangles.now c.requires.units c.args.a c.args.b c.in_ok-c.c c.in_ok-d.d c.in_ok-c.ensures c.in_ok-d.ensures

pub fold_between-requires-clause-balanced : goal.fold_between-requires-clause-balanced
fold_between-requires-clause-balanced c = edge_balanced c.args.chart.now c.args.triangles.now c.requires.units c.args.a c.args.b c.in_ok-c.c c.in_ok-d.d c.in_ok-c.ensures c.in_ok-d.ensures

pub returns-clause-value : goal.returns-clause-value
returns-clause-value c =
    fold_is c.args.chart.now c.args.triangles.now c.requires.units c.args.a c.args.b c.in_ok-c.c c.in_ok-d.d c.in_ok-c.ensures c.in_ok-d.ensures
    c.fold_between.result (let f = c.if-a-b.false in omega (arith, f)) c.fold_between.ensures.value

use Rattle.lattice_points.specs.Faults.{HasFewColumns}
use Rattle.lattice_points.specs.Scans.{Adds, IsAnywhere}
use Rattle.lattice_points.proofs.BoxLemmas.{few_columns, many_columns}
use Rattle.lattice_points.proofs.ScanLemmas.{points_from, cause_from, ok_from, from_ok}
use Rattle.lattice_points.proofs.scan.points.Goals as goal

pub returns-then-columns-gt-COLUMN_LIMIT-clause-cause : goal.returns-then-columns-gt-COLUMN_LIMIT-clause-cause
returns-then-columns-gt-COLUMN_LIMIT-clause-cause c =
    many_columns c.args.pair.now.vertices c.vertices.result.now c.of-bounds.result c.columns-columns.result c.vertices.ensures.value c.of-bounds.ensures c.columns-columns.ensures c.if-columns-gt-COLUMN_LIMIT.true

pub returns-clause-points : goal.returns-clause-points
returns-clause-points c =
    let p = c.args.pair.now in
    let a = from_ok (Adds p IsAnywhere c.new-found.result c.scan_all.new.found) c.scan_all.result c.scan_all.ensures c.in_ok-map_err.ensures.variant in
    points_from p c.new-found.result c.scan_all.new.found a c.new-found.ensures.points c.new-found.ensures.count c.finish.result c.finish.ensures.points c.finish.ensures.few

pub returns-clause-narrow : goal.returns-clause-narrow
returns-clause-narrow c = ok_from (HasFewColumns c.args.pair.now.vertices) c.finish.result
    (few_columns c.args.pair.now.vertices c.vertices.result.now c.of-bounds.result c.columns-columns.result c.vertices.ensures.value c.of-bounds.ensures c.columns-columns.ensures c.if-columns-gt-COLUMN_LIMIT.false)

pub returns-clause-cause : goal.returns-clause-cause
returns-clause-cause c =
    let p = c.args.pair.now in
    let a = from_ok (Adds p IsAnywhere c.new-found.result c.scan_all.new.found) c.scan_all.result c.scan_all.ensures c.in_ok-map_err.ensures.variant in
    cause_from p c.new-found.result c.scan_all.new.found a c.new-found.ensures.points c.new-found.ensures.count c.finish.result
    (few_columns p.vertices c.vertices.result.now c.of-bounds.result c.columns-columns.result c.vertices.ensures.value c.of-bounds.ensures c.columns-columns.ensures c.if-columns-gt-COLUMN_LIMIT.false)
    c.finish.ensures.cause c.finish.ensures.over

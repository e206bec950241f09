use Rattle.std.proofs.Common.{◌∙◌, sym, subst, ℤ, to_z-of_z}
use Rattle.lattice_points.specs.Boxes.{IsInSome}
use Rattle.lattice_points.specs.Scans.{IsOnLine}
use Rattle.lattice_points.proofs.BoxLemmas.{first_small, second_small, third_small, extent_size, within_size}
use Rattle.lattice_points.proofs.InequalityLemmas.{third_within, size_of}
use Rattle.lattice_points.proofs.ScanLemmas.{adds_nothing}
use Rattle.lattice_points.proofs.scan.scan_line.Goals as goal

pub third_extent-extent-requires-clause-sums : goal.third_extent-extent-requires-clause-sums
third_extent-extent-requires-clause-sums c = (c.args.pair.now.dual, c.requires.sums)

pub third_extent-extent-requires-clause-size : goal.third_extent-extent-requires-clause-size
third_extent-extent-requires-clause-size c =
    let vs = c.args.pair.now.vertices in
    let b = c.args.bounds.now in (
      size_of c.args.x1 _ (sym (to_z-of_z c.ranges.x1)) (within_size b.x1 c.args.x1 (first_small vs b c.requires.bounded.vertices.small c.requires.bounds) c.requires.first),
      (size_of c.args.x2 _ (sym (to_z-of_z c.ranges.x2)) (within_size b.x2 c.args.x2 (second_small vs b c.requires.bounded.vertices.small c.requires.bounds) c.requires.second), tt),
    )

pub third_extent-extent-requires-clause-extent : goal.third_extent-extent-requires-clause-extent
third_extent-extent-requires-clause-extent c = extent_size c.args.bounds.now.x3 (third_small c.args.pair.now.vertices c.args.bounds.now c.requires.bounded.vertices.small c.requires.bounds)

pub scan_columns-requires-clause-all : goal.scan_columns-requires-clause-all
scan_columns-requires-clause-all c = λ v k a.
    let p = c.args.pair.now in
    c.third_extent-extent.ensures.inside p.dual v c.requires.sums k.hull a (third_within p c.args.bounds.now v c.requires.bounds k)

pub returns-then-not-contains-clause-adds : goal.returns-then-not-contains-clause-adds
returns-then-not-contains-clause-adds c =
    let a = c.args in
    let P : ℤ → Type 0 = λ y. IsInSome a.rows.now.extents.items y in
    adds_nothing a.pair.now (IsOnLine a.x1 a.x2) a.found.now
    (λ q k s. c.contains.ensures c.if-not-contains.true (subst P (s.1 ∙ sym (to_z-of_z c.ranges.x2)) (c.requires.rows q.place k.inside s)))

pub returns-then-is_empty-clause-adds : goal.returns-then-is_empty-clause-adds
returns-then-is_empty-clause-adds c =
    let a = c.args in
    let p = a.pair.now in
    adds_nothing p (IsOnLine a.x1 a.x2) a.found.now
    (λ q k s. c.is_empty.ensures c.if-is_empty.true q.place.x3
    (c.third_extent-extent.ensures.inside p.dual q.place c.requires.sums k.inside.hull (s.0 ∙ sym (to_z-of_z c.ranges.x1), s.1 ∙ sym (to_z-of_z c.ranges.x2)) (third_within p a.bounds.now q.place c.requires.bounds k.inside)))

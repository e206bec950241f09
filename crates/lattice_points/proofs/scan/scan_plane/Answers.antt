use Rattle.std.proofs.Common.{sym, to_z-of_z}
use Rattle.lattice_points.proofs.BoxLemmas.{first_small, second_small, third_small, extent_size, within_size}
use Rattle.lattice_points.proofs.InequalityLemmas.{second_within, third_within, size_of}
use Rattle.lattice_points.proofs.scan.scan_plane.Goals as goal

pub second_extent-extent-requires-clause-sums : goal.second_extent-extent-requires-clause-sums
second_extent-extent-requires-clause-sums c = (c.args.pair.now.dual, c.requires.sums)

pub second_extent-extent-requires-clause-size : goal.second_extent-extent-requires-clause-size
second_extent-extent-requires-clause-size c =
    let vs = c.args.pair.now.vertices in
    let b = c.args.bounds.now in
    (size_of c.args.x1 _ (sym (to_z-of_z c.ranges.x1)) (within_size b.x1 c.args.x1 (first_small vs b c.requires.bounded.vertices.small c.requires.bounds) c.requires.first), tt)

pub second_extent-extent-requires-clause-extent : goal.second_extent-extent-requires-clause-extent
second_extent-extent-requires-clause-extent c = extent_size c.args.bounds.now.x2 (second_small c.args.pair.now.vertices c.args.bounds.now c.requires.bounded.vertices.small c.requires.bounds)

pub scan_lines-requires-clause-all : goal.scan_lines-requires-clause-all
scan_lines-requires-clause-all c = λ v k a.
    let p = c.args.pair.now in
    c.second_extent-extent.ensures.inside p.dual v c.requires.sums k.hull a (second_within p c.args.bounds.now v c.requires.bounds k)

pub go_to-requires-clause-size : goal.go_to-requires-clause-size
go_to-requires-clause-size c =
    let vs = c.args.pair.now.vertices in
    let b = c.args.bounds.now in
    (size_of c.args.x1 _ (sym (to_z-of_z c.ranges.x1)) (within_size b.x1 c.args.x1 (first_small vs b c.requires.bounded.vertices.small c.requires.bounds) c.requires.first), tt)

pub go_to-requires-clause-third : goal.go_to-requires-clause-third
go_to-requires-clause-third c = third_small c.args.pair.now.vertices c.args.bounds.now c.requires.bounded.vertices.small c.requires.bounds

pub scan_lines-requires-clause-rows : goal.scan_lines-requires-clause-rows
scan_lines-requires-clause-rows c = λ v k a.
    let p = c.args.pair.now in
    let b = c.args.bounds.now in
    c.in_ok-go_to.ensures.reach p.dual v c.requires.sums k.hull a (c.second_extent-extent.ensures.inside p.dual v c.requires.sums k.hull a (second_within p b v c.requires.bounds k)) (third_within p b v c.requires.bounds k)

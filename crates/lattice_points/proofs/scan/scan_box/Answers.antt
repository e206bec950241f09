use Rattle.std.proofs.Common.{◌≤◌, arith, w64, to_z, ◌^◌}
use Rattle.lattice_points.specs.Scans.{IsAnywhere, IsOnPlane}
use Rattle.lattice_points.proofs.CutLemmas.{end_fits}
use Rattle.lattice_points.proofs.BoxLemmas.{first_small, extent_size, extent_span, extent_low, extent_high}
use Rattle.lattice_points.proofs.ScanLemmas.{first_less, sweep_start, sweep_step, sweep_end, sweep_room}
use Rattle.lattice_points.proofs.scan.scan_box.Goals as goal

pub overflow_add-x1-end : goal.overflow_add-x1-end
overflow_add-x1-end c =
    let s = first_small c.args.pair.now.vertices c.args.bounds.now c.requires.bounded.vertices.small c.requires.bounds in
    end_fits c.args.bounds.now.x1.high (extent_size c.args.bounds.now.x1 s).1.0

pub loop-x1-init : goal.loop-x1-init
loop-x1-init c =
    let p = c.args.pair.now in
    let e = c.args.bounds.now.x1 in
    let s = first_small p.vertices c.args.bounds.now c.requires.bounded.vertices.small c.requires.bounds in
    sweep_start p IsAnywhere (λ v. v.x1) e (2 ^ 33) (extent_size e s) c.args.found.now (λ q k a. extent_low (λ v. v.x1) p.vertices e q.place.x1 c.requires.bounds.first k.inside.box.low1)

pub scan_plane-requires-clause-room : goal.scan_plane-requires-clause-room
scan_plane-requires-clause-room c =
    let p = c.args.pair.now in
    let e = c.args.bounds.now.x1 in
    let s = first_small p.vertices c.args.bounds.now c.requires.bounded.vertices.small c.requires.bounds in
    let r = sweep_room p IsAnywhere (λ v. v.x1) e (2 ^ 33) (extent_size e s) (to_z w64 c.loop-x1.x1-bits) c.args.found.now c.loop-x1.found (extent_span e s) c.loop-x1.invariant in
    let o = c.requires.room in
    let k : c.loop-x1.found.count ≤ 2 ^ 59 = omega arith in
    k

pub loop-x1-preserved : goal.loop-x1-preserved
loop-x1-preserved c =
    let p = c.args.pair.now in
    let e = c.args.bounds.now.x1 in
    let s = first_small p.vertices c.args.bounds.now c.requires.bounded.vertices.small c.requires.bounds in
    let z = to_z w64 c.loop-x1.x1-bits in
    sweep_step p IsAnywhere (λ v. v.x1) e (2 ^ 33) (extent_size e s) (IsOnPlane z) z c.args.found.now c.loop-x1.found c.scan_plane.new.found c.loop-x1-test.true
    (λ a b h k l. first_less a b l) (λ v t. (tt, t)) (λ v t e. e) c.loop-x1.invariant c.in_ok-scan_plane.ensures.adds c.in_ok-scan_plane.ensures.most

pub returns : goal.returns
returns c =
    let p = c.args.pair.now in
    let e = c.args.bounds.now.x1 in
    let s = first_small p.vertices c.args.bounds.now c.requires.bounded.vertices.small c.requires.bounds in
    sweep_end p IsAnywhere (λ v. v.x1) e (2 ^ 33) (extent_size e s) (to_z w64 c.loop-x1.x1-bits) c.args.found.now c.loop-x1.found c.loop-x1-test.false
    (λ q k a. extent_high (λ v. v.x1) p.vertices e q.place.x1 c.requires.bounds.first k.inside.box.high1) c.loop-x1.invariant

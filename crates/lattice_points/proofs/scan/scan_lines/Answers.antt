use Rattle.std.proofs.Common.{◌≤◌, ◌^◌, subst, sym, ◌∙◌, arith, ℤ, w64, to_z, of_z, to_z-of_z}
use Rattle.lattice_points.specs.Scans.{IsOnPlane, IsOnLine, Adds}
use Rattle.lattice_points.proofs.CutLemmas.{end_fits, not_past}
use Rattle.lattice_points.proofs.BoxLemmas.{second_small}
use Rattle.lattice_points.proofs.InequalityLemmas.{narrowed_span}
use Rattle.lattice_points.proofs.ScanLemmas.{second_less, sweep_start, sweep_step, sweep_end, sweep_room}
use Rattle.lattice_points.proofs.scan.scan_lines.Goals as goal

pub overflow_add-x2-end : goal.overflow_add-x2-end
overflow_add-x2-end c = end_fits c.args.extent.high c.requires.size.1.0

pub loop-x2-init : goal.loop-x2-init
loop-x2-init c =
    let p = c.args.pair.now in
    let w = to_z w64 (of_z w64 c.args.x1) in
    sweep_start p (IsOnPlane w) (λ v. v.x2) c.args.extent (2 ^ 22) c.requires.size c.args.found.now (λ q k a. (c.requires.all q.place k.inside (a ∙ to_z-of_z c.ranges.x1)).low)

pub scan_line-requires-clause-second : goal.scan_line-requires-clause-second
scan_line-requires-clause-second c = c.requires.within (to_z w64 c.loop-x2.x2-bits) (record { low = c.loop-x2.invariant.low; high = not_past (to_z w64 c.loop-x2.x2-bits) c.args.extent.high c.requires.size.1.0 c.loop-x2-test.true })

pub scan_line-requires-clause-room : goal.scan_line-requires-clause-room
scan_line-requires-clause-room c =
    let p = c.args.pair.now in
    let b = c.args.bounds.now in
    let e = c.args.extent in
    let s = second_small p.vertices b c.requires.bounded.vertices.small c.requires.bounds in
    let w = to_z w64 (of_z w64 c.args.x1) in
    let r = sweep_room p (IsOnPlane w) (λ v. v.x2) e (2 ^ 22) c.requires.size (to_z w64 c.loop-x2.x2-bits) c.args.found.now c.loop-x2.found (narrowed_span e b.x2 c.requires.within s) c.loop-x2.invariant in
    let o = c.requires.room in
    let k : c.loop-x2.found.count ≤ 2 ^ 60 = omega arith in
    k

pub loop-x2-preserved : goal.loop-x2-preserved
loop-x2-preserved c =
    let p = c.args.pair.now in
    let w = to_z w64 (of_z w64 c.args.x1) in
    let z = to_z w64 c.loop-x2.x2-bits in
    sweep_step p (IsOnPlane w) (λ v. v.x2) c.args.extent (2 ^ 22) c.requires.size (IsOnLine w z) z c.args.found.now c.loop-x2.found c.scan_line.new.found c.loop-x2-test.true
    (λ a b h k l. second_less a b (h ∙ sym k) l) (λ v t. t) (λ v t e. (t, e)) c.loop-x2.invariant c.in_ok-scan_line.ensures.adds c.in_ok-scan_line.ensures.most

pub returns-clause-adds : goal.returns-clause-adds
returns-clause-adds c =
    let p = c.args.pair.now in
    let w = to_z w64 (of_z w64 c.args.x1) in
    let P : ℤ → Type 0 = λ y. Adds p (IsOnPlane y) c.args.found.now c.loop-x2.found in
    subst P (to_z-of_z c.ranges.x1) (sweep_end p (IsOnPlane w) (λ v. v.x2) c.args.extent (2 ^ 22) c.requires.size (to_z w64 c.loop-x2.x2-bits) c.args.found.now c.loop-x2.found c.loop-x2-test.false
    (λ q k a. (c.requires.all q.place k.inside (a ∙ to_z-of_z c.ranges.x1)).high) c.loop-x2.invariant)

pub returns-clause-most : goal.returns-clause-most
returns-clause-most c =
    let p = c.args.pair.now in
    let b = c.args.bounds.now in
    let e = c.args.extent in
    let s = second_small p.vertices b c.requires.bounded.vertices.small c.requires.bounds in
    let w = to_z w64 (of_z w64 c.args.x1) in
    let r = sweep_room p (IsOnPlane w) (λ v. v.x2) e (2 ^ 22) c.requires.size (to_z w64 c.loop-x2.x2-bits) c.args.found.now c.loop-x2.found (narrowed_span e b.x2 c.requires.within s) c.loop-x2.invariant in
    omega arith

use Rattle.std.proofs.Common.{◌≡◌, ◌≤◌, ◌^◌, ◌∙◌, sym, subst, arith, ℤ, List, unsigned_abs, w64, to_z, of_z, to_z-of_z}
use Rattle.std.specs.Prelude.{◌↔◌}
use Rattle.std.proofs.lemmas.List.Elements.{All-same}
use Rattle.ntfe_nums.specs.Vectors.{Vector}
use Rattle.ntfe_model.specs.Pairs.{IsSmall}
use Rattle.lattice_points.specs.Boxes.{IsWithin}
use Rattle.lattice_points.specs.Lines.{place, IsOpen}
use Rattle.lattice_points.specs.Scans.{IsOnLine, IsInColumn, Adds}
use Rattle.lattice_points.proofs.CutLemmas.{end_fits, not_past}
use Rattle.lattice_points.proofs.BoxLemmas.{first_small, second_small, third_small, fourth_small, extent_size, within_size, inside_column}
use Rattle.lattice_points.proofs.InequalityLemmas.{narrowed_span}
use Rattle.lattice_points.proofs.ScanLemmas.{third_less, sweep_start, sweep_step, sweep_end, sweep_room}
use Rattle.lattice_points.proofs.scan.scan_columns.Goals as goal

same_size : (x y : ℤ) → x ≡ y → unsigned_abs y ≤ 1023 → unsigned_abs x ≤ 1023
same_size x y e h = let P : ℤ → Type 0 = λ z. unsigned_abs z ≤ 1023 in subst P (sym e) h

pub new-line-requires-clause-size : goal.new-line-requires-clause-size
new-line-requires-clause-size c =
    let vs = c.args.pair.now.vertices in
    let b = c.args.bounds.now in (
      same_size _ c.args.x1 (to_z-of_z c.ranges.x1) (within_size b.x1 c.args.x1 (first_small vs b c.requires.bounded.vertices.small c.requires.bounds) c.requires.first),
      (same_size _ c.args.x2 (to_z-of_z c.ranges.x2) (within_size b.x2 c.args.x2 (second_small vs b c.requires.bounded.vertices.small c.requires.bounds) c.requires.second), tt),
    )

pub overflow_add-x3-end : goal.overflow_add-x3-end
overflow_add-x3-end c = end_fits c.args.extent.high c.requires.size.1.0

pub loop-x3-init : goal.loop-x3-init
loop-x3-init c =
    let p = c.args.pair.now in
    let e = c.args.extent in
    sweep_start p (IsOnLine (to_z w64 (of_z w64 c.args.x1)) (to_z w64 (of_z w64 c.args.x2))) (λ v. v.x3) e (2 ^ 11) c.requires.size c.args.found.now
    (λ q k a. (c.requires.all q.place k.inside (a.0 ∙ to_z-of_z c.ranges.x1, a.1 ∙ to_z-of_z c.ranges.x2)).low)

pub interval-inside-requires-clause-small : goal.interval-inside-requires-clause-small
interval-inside-requires-clause-small c = All-same IsSmall _ c.args.pair.now.dual c.dual-dual.ensures.value c.requires.bounded.dual.small

pub interval-inside-requires-clause-size : goal.interval-inside-requires-clause-size
interval-inside-requires-clause-size c =
    let vs = c.args.pair.now.vertices in
    let b = c.args.bounds.now in
    let e = c.args.extent in
    let s = third_small vs b c.requires.bounded.vertices.small c.requires.bounds in
    let z = to_z w64 c.loop-x3.x3-bits in (
      same_size _ c.args.x1 (c.new-line.ensures.first ∙ to_z-of_z c.ranges.x1) (within_size b.x1 c.args.x1 (first_small vs b c.requires.bounded.vertices.small c.requires.bounds) c.requires.first),
      (
        same_size _ c.args.x2 (c.new-line.ensures.second ∙ to_z-of_z c.ranges.x2) (within_size b.x2 c.args.x2 (second_small vs b c.requires.bounded.vertices.small c.requires.bounds) c.requires.second),
        (within_size b.x3 z s (c.requires.within z (record { low = c.loop-x3.invariant.low; high = not_past z e.high c.requires.size.1.0 c.loop-x3-test.true })), tt),
      ),
    )

pub interval-inside-requires-clause-extent : goal.interval-inside-requires-clause-extent
interval-inside-requires-clause-extent c = extent_size c.args.bounds.now.x4 (fourth_small c.args.pair.now.vertices c.args.bounds.now c.requires.bounded.vertices.small c.requires.bounds)

pub scan_column-requires-clause-inside : goal.scan_column-requires-clause-inside
scan_column-requires-clause-inside c = λ x4.
    let p = c.args.pair.now in
    let b = c.args.bounds.now in
    let e = c.args.extent in
    let z = to_z w64 c.loop-x3.x3-bits in
    let third : IsWithin b.x3 z = c.requires.within z (record { low = c.loop-x3.invariant.low; high = not_past z e.high c.requires.size.1.0 c.loop-x3-test.true }) in
    let w1 = to_z w64 (of_z w64 c.args.x1) in
    let w2 = to_z w64 (of_z w64 c.args.x2) in
    let first = subst (λ (y : ℤ). IsWithin b.x1 y) (sym (to_z-of_z c.ranges.x1)) c.requires.first in
    let second = subst (λ (y : ℤ). IsWithin b.x2 y) (sym (to_z-of_z c.ranges.x2)) c.requires.second in
    let q = inside_column p b w1 w2 z x4 c.requires.bounds first second third in
    let r = c.interval-inside.result in
    let P : List Vector × ℤ × ℤ → Type 0 = λ u. IsWithin r x4 ↔ (IsWithin b.x4 x4 × IsOpen u.0 (place u.1 u.2 z x4)) in
    let v : P (p.dual, w1, w2) = subst P (λ i. (c.dual-dual.ensures.value i, c.new-line.ensures.first i, c.new-line.ensures.second i)) (c.interval-inside.ensures.value x4) in
    (λ w. q.0 (v.0 w), λ i. v.1 (q.1 i))

pub scan_column-requires-clause-room : goal.scan_column-requires-clause-room
scan_column-requires-clause-room c =
    let p = c.args.pair.now in
    let e = c.args.extent in
    let b = c.args.bounds.now in
    let s = third_small p.vertices b c.requires.bounded.vertices.small c.requires.bounds in
    let r = sweep_room p (IsOnLine (to_z w64 (of_z w64 c.args.x1)) (to_z w64 (of_z w64 c.args.x2))) (λ v. v.x3) e (2 ^ 11) c.requires.size (to_z w64 c.loop-x3.x3-bits) c.args.found.now c.loop-x3.found (narrowed_span e b.x3 c.requires.within s) c.loop-x3.invariant in
    let o = c.requires.room in
    let k : c.loop-x3.found.count ≤ 2 ^ 61 = omega arith in
    k

pub loop-x3-preserved : goal.loop-x3-preserved
loop-x3-preserved c =
    let p = c.args.pair.now in
    let e = c.args.extent in
    let b = c.args.bounds.now in
    let s = third_small p.vertices b c.requires.bounded.vertices.small c.requires.bounds in
    let w1 = to_z w64 (of_z w64 c.args.x1) in
    let w2 = to_z w64 (of_z w64 c.args.x2) in
    let z = to_z w64 c.loop-x3.x3-bits in
    sweep_step p (IsOnLine w1 w2) (λ v. v.x3) e (2 ^ 11) c.requires.size (IsInColumn w1 w2 z) z c.args.found.now c.loop-x3.found c.scan_column.new.found c.loop-x3-test.true
    (λ a b h k l. third_less a b (h.0 ∙ sym k.0) (h.1 ∙ sym k.1) l) (λ v t. ((t.0, t.1), t.2)) (λ v t e. (t.0, t.1, e)) c.loop-x3.invariant c.in_ok-scan_column.ensures.adds c.in_ok-scan_column.ensures.most

pub returns-clause-adds : goal.returns-clause-adds
returns-clause-adds c =
    let p = c.args.pair.now in
    let e = c.args.extent in
    let b = c.args.bounds.now in
    let s = third_small p.vertices b c.requires.bounded.vertices.small c.requires.bounds in
    let w1 = to_z w64 (of_z w64 c.args.x1) in
    let w2 = to_z w64 (of_z w64 c.args.x2) in
    let P : ℤ × ℤ → Type 0 = λ u. Adds p (IsOnLine u.0 u.1) c.args.found.now c.loop-x3.found in
    subst P (λ i. (to_z-of_z c.ranges.x1 i, to_z-of_z c.ranges.x2 i))
    (sweep_end p (IsOnLine w1 w2) (λ v. v.x3) e (2 ^ 11) c.requires.size (to_z w64 c.loop-x3.x3-bits) c.args.found.now c.loop-x3.found c.loop-x3-test.false
    (λ q k a. (c.requires.all q.place k.inside (a.0 ∙ to_z-of_z c.ranges.x1, a.1 ∙ to_z-of_z c.ranges.x2)).high) c.loop-x3.invariant)

pub returns-clause-most : goal.returns-clause-most
returns-clause-most c =
    let p = c.args.pair.now in
    let e = c.args.extent in
    let b = c.args.bounds.now in
    let s = third_small p.vertices b c.requires.bounded.vertices.small c.requires.bounds in
    let r = sweep_room p (IsOnLine (to_z w64 (of_z w64 c.args.x1)) (to_z w64 (of_z w64 c.args.x2))) (λ v. v.x3) e (2 ^ 11) c.requires.size (to_z w64 c.loop-x3.x3-bits) c.args.found.now c.loop-x3.found (narrowed_span e b.x3 c.requires.within s) c.loop-x3.invariant in
    omega arith

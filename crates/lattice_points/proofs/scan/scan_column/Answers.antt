use Rattle.std.proofs.Common.{◌≡◌, ◌∙◌, sym, ap, subst, arith, ℤ, w64, to_z, of_z, to_z-of_z}
use Rattle.ntfe_nums.specs.Vectors.{Vector}
use Rattle.ntfe_model.specs.Points.{IsInside}
use Rattle.lattice_points.specs.Boxes.{IsWithin}
use Rattle.lattice_points.specs.Lines.{place}
use Rattle.lattice_points.specs.Scans.{IsInColumn, Adds}
use Rattle.lattice_points.proofs.CutLemmas.{not_past}
use Rattle.lattice_points.proofs.BoxLemmas.{column_within, column_span}
use Rattle.lattice_points.proofs.ScanLemmas.{fourth_less, sweep_start, sweep_step, sweep_end, sweep_room}
use Rattle.lattice_points.proofs.scan.scan_column.Goals as goal

pub loop-x4-init : goal.loop-x4-init
loop-x4-init c =
    let a = c.args in
    let p = a.pair.now in
    sweep_start p (IsInColumn (to_z w64 (of_z w64 a.x1)) (to_z w64 (of_z w64 a.x2)) (to_z w64 (of_z w64 a.x3))) (λ v. v.x4) a.inside 1 c.requires.size a.found.now
    (λ q k s. (column_within p a.inside a.x1 a.x2 a.x3 c.requires.inside q.place (s.0 ∙ to_z-of_z c.ranges.x1) (s.1 ∙ to_z-of_z c.ranges.x2) (s.2 ∙ to_z-of_z c.ranges.x3) k.inside).low)

pub look_at-requires-clause-inside : goal.look_at-requires-clause-inside
look_at-requires-clause-inside c =
    let a = c.args in
    let z = to_z w64 c.loop-x4.x4-bits in
    let w : IsWithin a.inside z = record { low = c.loop-x4.invariant.low; high = not_past z a.inside.high c.requires.size.1.0 c.loop-x4-test.true } in
    let P : Vector → Type 0 = IsInside a.pair.now in
    let n : c.new.result ≡ place (to_z w64 (of_z w64 a.x1)) (to_z w64 (of_z w64 a.x2)) (to_z w64 (of_z w64 a.x3)) z = c.new.ensures in
    subst P (sym (n ∙ (λ i. place (to_z-of_z c.ranges.x1 i) (to_z-of_z c.ranges.x2 i) (to_z-of_z c.ranges.x3 i) z))) ((c.requires.inside z).0 w)

pub loop-x4-preserved : goal.loop-x4-preserved
loop-x4-preserved c =
    let a = c.args in
    let p = a.pair.now in
    let w1 = to_z w64 (of_z w64 a.x1) in
    let w2 = to_z w64 (of_z w64 a.x2) in
    let w3 = to_z w64 (of_z w64 a.x3) in
    let z = to_z w64 c.loop-x4.x4-bits in
    let n : c.new.result ≡ place w1 w2 w3 z = c.new.ensures in
    sweep_step p (IsInColumn w1 w2 w3) (λ v. v.x4) a.inside 1 c.requires.size (λ v. v ≡ c.new.result) z a.found.now c.loop-x4.found c.look_at.new.self c.loop-x4-test.true
    (λ x y h k l. fourth_less x y (h.0 ∙ sym k.0) (h.1 ∙ sym k.1) (h.2 ∙ sym k.2) l)
    (λ v t. let q = t ∙ n in ((ap (λ u. u.x1) q, ap (λ u. u.x2) q, ap (λ u. u.x3) q), ap (λ u. u.x4) q))
    (λ v t e. (λ i. place (t.0 i) (t.1 i) (t.2 i) (e i)) ∙ sym n)
    c.loop-x4.invariant c.in_ok-look_at.ensures.adds c.in_ok-look_at.ensures.most

pub returns-clause-adds : goal.returns-clause-adds
returns-clause-adds c =
    let a = c.args in
    let p = a.pair.now in
    let w1 = to_z w64 (of_z w64 a.x1) in
    let w2 = to_z w64 (of_z w64 a.x2) in
    let w3 = to_z w64 (of_z w64 a.x3) in
    let P : ℤ × ℤ × ℤ → Type 0 = λ u. Adds p (IsInColumn u.0 u.1 u.2) a.found.now c.loop-x4.found in
    subst P (λ i. (to_z-of_z c.ranges.x1 i, to_z-of_z c.ranges.x2 i, to_z-of_z c.ranges.x3 i))
    (sweep_end p (IsInColumn w1 w2 w3) (λ v. v.x4) a.inside 1 c.requires.size (to_z w64 c.loop-x4.x4-bits) a.found.now c.loop-x4.found c.loop-x4-test.false
    (λ q k s. (column_within p a.inside a.x1 a.x2 a.x3 c.requires.inside q.place (s.0 ∙ to_z-of_z c.ranges.x1) (s.1 ∙ to_z-of_z c.ranges.x2) (s.2 ∙ to_z-of_z c.ranges.x3) k.inside).high)
    c.loop-x4.invariant)

pub returns-clause-most : goal.returns-clause-most
returns-clause-most c =
    let a = c.args in
    let p = a.pair.now in
    let r = sweep_room p (IsInColumn (to_z w64 (of_z w64 a.x1)) (to_z w64 (of_z w64 a.x2)) (to_z w64 (of_z w64 a.x3))) (λ v. v.x4) a.inside 1 c.requires.size (to_z w64 c.loop-x4.x4-bits) a.found.now c.loop-x4.found
    (column_span p a.inside a.x1 a.x2 a.x3 c.requires.inside c.requires.bounded.vertices.small) c.loop-x4.invariant in
    omega arith

use Rattle.std.proofs.Common.{◌∙◌, sym, ap, subst, ℤ, pos, ◌+ℤ◌, ◌*ℤ◌, get_or, w64, to_z, of_z, to_z-of_z}
use Rattle.std.specs.Prelude.{◌↔◌}
use Rattle.lattice_points.specs.Boxes.{IsWithin}
use Rattle.lattice_points.specs.Lines.{place, head_sum, IsOpen}
use Rattle.lattice_points.proofs.CutLemmas.{cut_same, empty_extent}
use Rattle.lattice_points.proofs.LineLemmas.{small_at, same_at, third_fits, level_fits, level_is, level_size, fourth_is, interval_more, interval_none, interval_all}
use Rattle.lattice_points.proofs.column.Line.interval.Goals as goal

pub overflow_mul-c : goal.overflow_mul-c
overflow_mul-c c =
    let a = c.args in
    let m = c.index-dual-i.result in
    let i = c.loop-i.i in
    third_fits m c.coordinates-c.result.now (get_or a.self.now.sums i (pos 0)) a.self.now.x1 a.self.now.x2 a.x3 c.coordinates-c.ensures.list
    (small_at a.dual.now i m c.loop-i-test.true c.index-dual-i.is c.requires.small)
    (c.requires.sums.sums i c.loop-i-test.true ∙ ap (λ n. head_sum n a.self.now.x1 a.self.now.x2) (sym (same_at a.dual.now i m c.loop-i-test.true c.index-dual-i.is)))
    c.requires.size.0 c.requires.size.1.0 c.requires.size.1.1.0

pub overflow_add-self : goal.overflow_add-self
overflow_add-self c =
    let a = c.args in
    let m = c.index-dual-i.result in
    let i = c.loop-i.i in
    level_fits m c.coordinates-c.result.now (get_or a.self.now.sums i (pos 0)) a.self.now.x1 a.self.now.x2 a.x3 c.coordinates-c.ensures.list
    (small_at a.dual.now i m c.loop-i-test.true c.index-dual-i.is c.requires.small)
    (c.requires.sums.sums i c.loop-i-test.true ∙ ap (λ n. head_sum n a.self.now.x1 a.self.now.x2) (sym (same_at a.dual.now i m c.loop-i-test.true c.index-dual-i.is)))
    c.requires.size.0 c.requires.size.1.0 c.requires.size.1.1.0

pub cut-left-requires-clause-level : goal.cut-left-requires-clause-level
cut-left-requires-clause-level c =
    let a = c.args in
    let m = c.index-dual-i.result in
    let i = c.loop-i.i in (
      level_size m c.coordinates-c.result.now (get_or a.self.now.sums i (pos 0)) a.self.now.x1 a.self.now.x2 a.x3 c.coordinates-c.ensures.list
          (small_at a.dual.now i m c.loop-i-test.true c.index-dual-i.is c.requires.small)
          (c.requires.sums.sums i c.loop-i-test.true ∙ ap (λ n. head_sum n a.self.now.x1 a.self.now.x2) (sym (same_at a.dual.now i m c.loop-i-test.true c.index-dual-i.is)))
          c.requires.size.0 c.requires.size.1.0 c.requires.size.1.1.0,
      tt,
    )

pub loop-i-preserved : goal.loop-i-preserved
loop-i-preserved c =
    let a = c.args in
    let m = c.index-dual-i.result in
    let i = c.loop-i.i in
    let cs = c.coordinates-c.result.now in
    let sum = get_or a.self.now.sums i (pos 0) in
    let s = small_at a.dual.now i m c.loop-i-test.true c.index-dual-i.is c.requires.small in
    let q = c.requires.sums.sums i c.loop-i-test.true ∙ ap (λ n. head_sum n a.self.now.x1 a.self.now.x2) (sym (same_at a.dual.now i m c.loop-i-test.true c.index-dual-i.is)) in
    let level = level_is m cs sum a.self.now.x1 a.self.now.x2 a.x3 c.coordinates-c.ensures.list s q c.requires.size.0 c.requires.size.1.0 c.requires.size.1.1.0 ∙ (λ j. head_sum m a.self.now.x1 a.self.now.x2 +ℤ m.x3 *ℤ sym (to_z-of_z c.ranges.x3) j) in
    let slope = fourth_is m cs c.coordinates-c.ensures.list s in
    let third = to_z w64 (of_z w64 a.x3) in
    let cut = cut_same c.cut-left.result c.loop-i.left (head_sum m a.self.now.x1 a.self.now.x2 +ℤ m.x3 *ℤ third) m.x4 _ _ level slope c.cut-left.ensures.value in
    record {
      value = interval_more a.dual.now i m c.loop-i-test.true c.index-dual-i.is c.loop-i.left c.cut-left.result a.extent (λ x. place a.self.now.x1 a.self.now.x2 third x) c.loop-i.invariant.value cut;
      size = c.cut-left.ensures.size;
    }

pub returns-after-loop-i-clause-value : goal.returns-after-loop-i-clause-value
returns-after-loop-i-clause-value c =
    let a = c.args in
    let P : ℤ → Type 0 = λ y. (x : ℤ) → IsWithin c.loop-i.left x ↔ (IsWithin a.extent x × IsOpen a.dual.now (place a.self.now.x1 a.self.now.x2 y x)) in
    let third = to_z w64 (of_z w64 a.x3) in
    subst P (to_z-of_z c.ranges.x3) (interval_all a.dual.now c.loop-i.i c.loop-i.left a.extent (λ x. place a.self.now.x1 a.self.now.x2 third x) c.loop-i-test.false c.loop-i.invariant.value)

pub returns-then-left-clause-value : goal.returns-then-left-clause-value
returns-then-left-clause-value c =
    let a = c.args in
    let m = c.index-dual-i.result in
    let i = c.loop-i.i in
    let cs = c.coordinates-c.result.now in
    let sum = get_or a.self.now.sums i (pos 0) in
    let s = small_at a.dual.now i m c.loop-i-test.true c.index-dual-i.is c.requires.small in
    let q = c.requires.sums.sums i c.loop-i-test.true ∙ ap (λ n. head_sum n a.self.now.x1 a.self.now.x2) (sym (same_at a.dual.now i m c.loop-i-test.true c.index-dual-i.is)) in
    let level = level_is m cs sum a.self.now.x1 a.self.now.x2 a.x3 c.coordinates-c.ensures.list s q c.requires.size.0 c.requires.size.1.0 c.requires.size.1.1.0 ∙ (λ j. head_sum m a.self.now.x1 a.self.now.x2 +ℤ m.x3 *ℤ sym (to_z-of_z c.ranges.x3) j) in
    let slope = fourth_is m cs c.coordinates-c.ensures.list s in
    let third = to_z w64 (of_z w64 a.x3) in
    let r = c.cut-left.result in
    let cut = cut_same r c.loop-i.left (head_sum m a.self.now.x1 a.self.now.x2 +ℤ m.x3 *ℤ third) m.x4 _ _ level slope c.cut-left.ensures.value in
    let none : (x : ℤ) → IsWithin r x → ⊥ = λ x w. empty_extent r c.cut-left.ensures.size c.if-left.true x w in
    let P : ℤ → Type 0 = λ y. (x : ℤ) → IsWithin r x ↔ (IsWithin a.extent x × IsOpen a.dual.now (place a.self.now.x1 a.self.now.x2 y x)) in
    subst P (to_z-of_z c.ranges.x3) (interval_none a.dual.now i m c.loop-i-test.true c.index-dual-i.is c.loop-i.left r a.extent (λ x. place a.self.now.x1 a.self.now.x2 third x) c.loop-i.invariant.value cut none)

use Rattle.std.proofs.Common.{◌≡◌, ℕ, ◌+◌, ◌-◌, ◌*◌, ◌≤◌, ◌++◌, ◌∙◌, Bool, true, false, sym, ap, subst, arith, ℤ, List, length, take, drop, MatchBool}
use borrow.Rule.Slice.PartMut.{put_mid}
use Rattle.ntfe_model.specs.declared.nogood.Fold.{Fold}
use Rattle.strict_solver.specs.Rows.{AreNarrow, IsWideRow}
use Rattle.strict_solver.specs.Grids.{row_at}
use Rattle.strict_solver.specs.Starts.{IsStartRow}
use Rattle.strict_solver.proofs.Parts.{lent_back, put_length, row_here, row_elsewhere, row_length}
use Rattle.strict_solver.proofs.grid.Grid.open_row.Goals as goal
use Rattle.strict_solver.proofs.grid.Grid.open_row.Goals.{After-store}

module _ (c : After-store) where
  same : c.deref_mut-2.result.now ≡ c.args.self.now.cells.items
  same = c.deref_mut-2.ensures.value

  room : c.args.r * (c.args.self.now.columns + 2) + (c.args.self.now.columns + 2) ≤ length c.deref_mut-2.result.now
  room = let h = c.requires.room in let e = ap (λ (xs : List ℤ). length xs) same in omega arith

  count : length c.store.new.row ≡ c.args.self.now.columns + 2
  count = c.store.auto.row ∙ row_length (c.args.self.now.columns + 2) c.deref_mut-2.result.now c.args.r room

  written : List ℤ
  written = put_mid (c.args.r * (c.args.self.now.columns + 2)) (c.args.r * (c.args.self.now.columns + 2) + (c.args.self.now.columns + 2) - c.args.r * (c.args.self.now.columns + 2)) c.deref_mut-2.result.now c.store.new.row

  comes_back : take c.args.self.now.cells.len
      (put_mid (c.args.r * (c.args.self.now.columns + 2)) (c.args.r * (c.args.self.now.columns + 2) + (c.args.self.now.columns + 2) - c.args.r * (c.args.self.now.columns + 2)) c.deref_mut-2.result.now c.store.new.row
      ++ drop (length (put_mid (c.args.r * (c.args.self.now.columns + 2)) (c.args.r * (c.args.self.now.columns + 2) + (c.args.self.now.columns + 2) - c.args.r * (c.args.self.now.columns + 2)) c.deref_mut-2.result.now c.store.new.row)) c.args.self.now.cells.items)
      ≡ put_mid (c.args.r * (c.args.self.now.columns + 2)) (c.args.r * (c.args.self.now.columns + 2) + (c.args.self.now.columns + 2) - c.args.r * (c.args.self.now.columns + 2)) c.deref_mut-2.result.now c.store.new.row
  comes_back =
      let s = c.args.self.now.columns + 2 in
      let r = c.args.r in
      let h = room in
      let k = count in
      lent_back c.args.self.now.cells.len _ c.args.self.now.cells.items (put_length (r * s) (r * s + s - r * s) c.deref_mut-2.result.now c.store.new.row (omega arith) (omega arith) ∙ c.deref_mut-2.ensures.len)

pub returns-clause-others : goal.returns-clause-others
returns-clause-others c q n =
    let a = (goal.at.returns-clause-others c).After-store in
    let s = c.args.self.now.columns + 2 in
    ap (λ xs. row_at s xs q) (comes_back a) ∙ row_elsewhere s c.deref_mut-2.result.now c.store.new.row c.args.r (room a) (count a) q n ∙ ap (λ xs. row_at s xs q) (same a)

answer : (b : Bool) (n width : ℕ) (f : Fold) (numbers row here scratch : List ℤ) → here ≡ row → scratch ≡ numbers → IsStartRow n f numbers → MatchBool b ((row ≡ numbers) × AreNarrow width row) (IsWideRow width numbers)
    → MatchBool b (IsStartRow n f here × AreNarrow width here) (IsStartRow n f scratch × IsWideRow width scratch)
answer true n width f numbers row here scratch e g s h =
    let P : List ℤ → Type 0 = λ k. IsStartRow n f k in
    let Q : List ℤ → Type 0 = λ k. AreNarrow width k in
    (subst P (sym (e ∙ h.0)) s, subst Q (sym e) h.1)
answer false n width f numbers row here scratch e g s h =
    let P : List ℤ → Type 0 = λ k. IsStartRow n f k in
    let Q : List ℤ → Type 0 = λ k. IsWideRow width k in
    (subst P (sym g) s, subst Q (sym g) h)

pub returns-clause-answer : goal.returns-clause-answer
returns-clause-answer c =
    let a = (goal.at.returns-clause-answer c).After-store in
    let n = c.args.self.now.columns in
    let s = n + 2 in
    let numbers = c.deref.result.now in
    let e : length c.deref_mut.result.now - 2 ≡ n = let d = ap (λ (xs : List ℤ). length xs) c.deref_mut.ensures.value in let g = c.requires.scratch in omega arith in
    let P : ℕ → Type 0 = λ k. IsStartRow k c.args.fold.now c.write_fold.new.row in
    let Q : List ℤ → Type 0 = λ k. IsStartRow n c.args.fold.now k in
    let back = lent_back c.args.self.now.scratch.len c.write_fold.new.row c.args.self.now.scratch.items (c.write_fold.auto.row ∙ c.deref_mut.ensures.len) in
    answer c.store.result n c.args.width c.args.fold.now numbers c.store.new.row _ _ (ap (λ xs. row_at s xs c.args.r) (comes_back a) ∙ row_here s c.deref_mut-2.result.now c.store.new.row c.args.r (room a) (count a))
    (sym c.deref.ensures.value) (subst Q (sym (c.deref.ensures.value ∙ back)) (subst P e c.write_fold.ensures)) c.store.ensures

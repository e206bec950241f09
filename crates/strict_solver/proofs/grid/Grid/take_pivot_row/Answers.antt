use Rattle.std.proofs.Common.{◌≡◌, ◌+◌, ◌-◌, ◌*◌, ◌≤◌, ◌∙◌, ap, arith, ℤ, List, length}
use borrow.Rule.Slice.PartMut.{put_mid}
use Rattle.strict_solver.specs.Grids.{row_at}
use Rattle.strict_solver.proofs.Parts.{lent_back, put_length, row_elsewhere, row_length}
use Rattle.strict_solver.proofs.grid.Grid.take_pivot_row.Goals as goal

pub returns-clause-others : goal.returns-clause-others
returns-clause-others c q n =
    let s = c.args.self.now.columns + 2 in
    let r = c.args.r in
    let cells = c.deref_mut.result.now in
    let items = c.args.self.now.cells.items in
    let row = c.solve_for.new.row in
    let is : cells ≡ items = c.deref_mut.ensures.value in
    let le : length cells ≡ length items = ap (λ (xs : List ℤ). length xs) is in
    let room : r * s + s ≤ length cells = let h = c.requires.room in omega arith in
    let count : length row ≡ s = c.solve_for.ensures.count ∙ row_length s cells r room in
    let put : length (put_mid (r * s) (r * s + s - r * s) cells row) ≡ length cells = put_length (r * s) (r * s + s - r * s) cells row (omega arith) (omega arith) in
    ap (λ xs. row_at s xs q) (lent_back c.args.self.now.cells.len (put_mid (r * s) (r * s + s - r * s) cells row) items (put ∙ c.deref_mut.ensures.len))
    ∙ row_elsewhere s cells row r room count q n
    ∙ ap (λ xs. row_at s xs q) is

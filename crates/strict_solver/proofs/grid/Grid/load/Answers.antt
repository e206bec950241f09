use Rattle.std.proofs.Common.{◌≡◌, ℕ, ◌+◌, ◌<◌, ◌∙◌, not, sym, ap, subst, arith, ℤ, pos, List, length, Some, None, Option, to_z, of_z}
use Rattle.std.specs.Int.{w128}
use Rattle.std.specs.Ordering.{int_eq}
use Rattle.std.proofs.lemmas.Int.{ints}
use Rattle.ntfe_model.specs.Solver.{Line, coefficient_at, first_slack, IsWideTable}
use Rattle.strict_solver.specs.declared.grid.Grid.{Grid}
use Rattle.strict_solver.specs.Grids.{lines_of, IsGrid}
use Rattle.strict_solver.proofs.Running.{wider_grid, grid_table, grid_length, grid_narrow, load-pivotable, load_skip, load_more, load_wide, load_end, load_start, same_size_next, same_size, IsLoadingGrid}
use Rattle.strict_solver.proofs.grid.Grid.load.Goals as goal
use Rattle.strict_solver.proofs.grid.Grid.load.Goals.{in-Some+in_default-pivot, in_default}

-- the search of the grid's own columns is one of the columns at first
found : (n m height : ℕ) (s : List (Option Line)) (o : Option ℕ) → n ≡ m → o ≡ first_slack n (λ r. not (int_eq (coefficient_at r height) (pos 0))) s → o ≡ first_slack m (λ r. not (int_eq (coefficient_at r height) (pos 0))) s
found n m height s o e f = f ∙ ap (λ k. first_slack k (λ r. not (int_eq (coefficient_at r height) (pos 0))) s) e

within : (width : ℕ) (g : Grid) (height : ℕ) → IsGrid width g → height < g.columns → height < length (lines_of g)
within width g height h l = let n = grid_length g in let c = h.placing.count in omega arith

pub first_with-requires-clause-grid : goal.first_with-requires-clause-grid
first_with-requires-clause-grid c = wider_grid c.args.width 62 c.loop-height.self c.requires.high c.loop-height.invariant.grid

pub pivot-requires-clause-can : goal.pivot-requires-clause-can
pivot-requires-clause-can c =
    let g = c.loop-height.self in
    let i = c.loop-height.invariant in
    let e = i.size.columns in
    load-pivotable g.columns c.in-Some.slack c.loop-height.height (lines_of g) (grid_table c.args.width g i.grid) (within c.args.width g c.loop-height.height i.grid (omega arith)) c.in-Some.ensures

pub returns-in-Some-pivot-clause-run : goal.returns-in-Some-pivot-clause-run
returns-in-Some-pivot-clause-run c = λ rs h.
    let g = c.loop-height.self in
    let i = c.loop-height.invariant in
    let n = c.args.self.now.columns in
    let height = c.loop-height.height in
    let word : to_z w128 (of_z w128 c.in-Some-pivot.number) ≡ c.in-Some-pivot.number = omega (arith, ints) in
    let P : ℤ → Type 0 = λ z. IsWideTable n rs c.args.width c.saturating_add-step.result z in
    subst P (sym word)
    (load_wide n c.args.width rs c.loop-height.step height (lines_of g) (i.run rs h) (omega arith) c.in-Some.slack (found g.columns n height (lines_of g) (Some c.in-Some.slack) i.size.columns c.in-Some.ensures)
    c.saturating_add-step.result c.in-Some-pivot.number c.in-Some-pivot.ensures.answer c.saturating_add-step.ensures)

pub loop-height-preserved : goal.loop-height-preserved
loop-height-preserved c =
    let g = c.loop-height.self in
    let i = c.loop-height.invariant in
    let old = c.args.self.now in
    let n = old.columns in
    let width = c.args.width in
    let height = c.loop-height.height in
    let P : Grid → Type 0 = λ k. IsLoadingGrid width old k c.match-first_with.step (height + 1) in
    elim c.match-first_with.branch [
      | in-Some+in_default-pivot w ↦
          (let a = w.in_default-pivot.ensures in
          let Q : ℕ → Type 0 = λ k. IsLoadingGrid width old w.pivot.new.self k (height + 1) in
          subst P (sym w.self-is) (subst Q (sym w.step-is) (record {
            size = same_size_next old g w.pivot.new.self i.size a.size;
            grid = a.answer.0;
            run = λ rs h.
                load_more n width rs c.loop-height.step height (lines_of g) (i.run rs h) (omega arith) w.in-Some.slack (found g.columns n height (lines_of g) (Some w.in-Some.slack) i.size.columns w.in-Some.ensures)
                (lines_of w.pivot.new.self) w.saturating_add-step.result a.answer.1 (grid_narrow width w.pivot.new.self a.answer.0) w.saturating_add-step.ensures;
          })))
      | in_default w ↦
          (let Q : ℕ → Type 0 = λ k. IsLoadingGrid width old g k (height + 1) in
          subst P (sym w.self-is) (subst Q (sym w.step-is) (record {
            size = i.size;
            grid = i.grid;
            run = λ rs h. load_skip n width rs c.loop-height.step height (lines_of g) (i.run rs h) (omega arith) (found g.columns n height (lines_of g) None i.size.columns w.in_default.ensures);
          })))
    ]

pub loop-height-init : goal.loop-height-init
loop-height-init c = record {
  size = same_size c.args.self.now;
  grid = c.requires.grid;
  run = λ rs h. load_start c.args.self.now.columns c.args.width rs (lines_of c.args.self.now) h;
}

pub returns-clause-run : goal.returns-clause-run
returns-clause-run c = λ rs h. load_end c.args.self.now.columns c.args.width rs c.loop-height.step c.loop-height.height (lines_of c.loop-height.self) (omega arith) (c.loop-height.invariant.run rs h)

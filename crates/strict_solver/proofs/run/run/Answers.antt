use Rattle.std.proofs.Common.{◌≡◌, ℕ, ◌+◌, ◌-◌, ◌∙◌, sym, ap, subst, arith, ℤ, List, length, map, Some, None, Option, to_z, of_z, inr}
use Rattle.std.specs.Int.{w128}
use Rattle.std.proofs.lemmas.Int.{ints}
use Rattle.std.proofs.lemmas.List.{length-map}
use Rattle.ntfe_model.specs.Solver.{Line, fold_row, first_wide, scaling_numbers, multipliers_of, IsWideScaling}
use Rattle.strict_solver.specs.Scales.{scale_to, scales_of, heights_by}
use Rattle.strict_solver.specs.Grids.{lines_of}
use Rattle.strict_solver.specs.Runs.{Stands, IsLoadedAt, IsSettled, HasLoaded}
use Rattle.std.specs.List.{range_with_len}
use Rattle.strict_solver.proofs.Parts.{lent_back}
use Rattle.strict_solver.proofs.Running.{wider_grid, grid_table, grid_length}
use Rattle.strict_solver.proofs.Outcome.{are_rows, loaded_has, is_infeasible, slack_within, is_feasible, is_wide_scaling}
use Rattle.strict_solver.proofs.run.run.Goals as goal
use Rattle.strict_solver.proofs.run.run.Goals.{In-Ok}

module _ (c : In-Ok) where
  rows : List (List ℤ)
  rows = map (fold_row c.args.grid.now.columns) c.args.rows.now

  started : c.start.new.self.columns ≡ c.args.grid.now.columns
  started = c.in_default.ensures.room.columns

  loaded_columns : c.load.new.self.columns ≡ c.args.grid.now.columns
  loaded_columns = c.in-Ok.ensures.size.columns ∙ c.in_default.ensures.room.columns

  loaded_at : IsLoadedAt c.load.new.self.columns c.args.width (map (fold_row c.args.grid.now.columns) c.args.rows.now) c.in-Ok.step (lines_of c.load.new.self)
  loaded_at =
      let rs = map (fold_row c.args.grid.now.columns) c.args.rows.now in
      let P : ℕ → Type 0 = λ k. Stands k c.args.width rs (range_with_len 0 k) 0 (lines_of c.start.new.self) in
      let Q : ℕ → Type 0 = λ k. IsLoadedAt k c.args.width rs c.in-Ok.step (lines_of c.load.new.self) in
      subst Q (sym c.in-Ok.ensures.size.columns) (c.in-Ok.ensures.run rs (subst P (sym c.in_default.ensures.room.columns) c.in_default.ensures.answer.1))

  has_loaded : HasLoaded c.load.new.self.columns (lines_of c.load.new.self)
  has_loaded =
      let rs = map (fold_row c.args.grid.now.columns) c.args.rows.now in
      let e = c.in-Ok.ensures.size.columns ∙ c.in_default.ensures.room.columns in
      let P : ℕ → Type 0 = λ k. HasLoaded k (lines_of c.load.new.self) in
      let Q : ℕ → Type 0 = λ k. IsLoadedAt k c.args.width rs c.in-Ok.step (lines_of c.load.new.self) in
      subst P (sym e) (loaded_has c.args.grid.now.columns c.args.width rs c.in-Ok.step (lines_of c.load.new.self) (are_rows c.args.grid.now.columns c.args.rows.now) (subst Q e loaded_at))

pub settle-requires-clause-loaded : goal.settle-requires-clause-loaded
settle-requires-clause-loaded c = has_loaded (goal.at.settle-requires-clause-loaded c).In-Ok

pub write_multipliers-requires-clause-grid : goal.write_multipliers-requires-clause-grid
write_multipliers-requires-clause-grid c = wider_grid c.args.width 62 c.settle.new.self c.requires.high c.in-Ok-default-Some.ensures.grid

-- the end of the run, over the columns of the grid at first
settled : (n m width : ℕ) (rs : List (List ℤ)) (step : ℕ) (o p : Option ℕ) (s : List (Option Line)) → n ≡ m → o ≡ p → IsSettled n width rs step o s → IsSettled m width rs step p s
settled n m width rs step o p s e f h =
    let P : ℕ → Type 0 = λ k. IsSettled k width rs step o s in
    let Q : Option ℕ → Type 0 = λ k. IsSettled m width rs step k s in
    subst Q f (subst P e h)

pub write_multipliers-requires-clause-slack : goal.write_multipliers-requires-clause-slack
write_multipliers-requires-clause-slack c =
    let a = (goal.at.write_multipliers-requires-clause-slack c).In-Ok in
    let rs = map (fold_row c.args.grid.now.columns) c.args.rows.now in
    let g = c.settle.new.self in
    let h : IsSettled c.load.new.self.columns c.args.width rs c.in-Ok-default-Some.field-0-0 c.in-Ok-default-Some.field-0-1 (lines_of g) = c.in-Ok-default-Some.ensures.run rs (loaded_at a) in
    let k = settled _ c.args.grid.now.columns c.args.width rs c.in-Ok-default-Some.field-0-0 _ (Some c.in-Ok-default-Some.slack) (lines_of g) (loaded_columns a) c.in-Ok-default-Some.field-0-1-is h in
    let l = slack_within c.args.grid.now.columns c.args.width rs c.in-Ok-default-Some.field-0-0 c.in-Ok-default-Some.slack (lines_of g) k in
    let n = grid_length g in
    omega arith

pub returns-in-Ok-default-Some-clause-answer : goal.returns-in-Ok-default-Some-clause-answer
returns-in-Ok-default-Some-clause-answer c =
    let a = (goal.at.returns-in-Ok-default-Some-clause-answer c).In-Ok in
    let n = c.args.grid.now.columns in
    let rs = map (fold_row n) c.args.rows.now in
    let g = c.settle.new.self in
    let w = c.in-Ok-default-Some.ensures in
    let h : IsSettled c.load.new.self.columns c.args.width rs c.in-Ok-default-Some.field-0-0 c.in-Ok-default-Some.field-0-1 (lines_of g) = w.run rs (loaded_at a) in
    let k = settled _ n c.args.width rs c.in-Ok-default-Some.field-0-0 _ (Some c.in-Ok-default-Some.slack) (lines_of g) (loaded_columns a) c.in-Ok-default-Some.field-0-1-is h in
    let columns : g.columns ≡ n = w.size.columns ∙ loaded_columns a in
    let count = length-map c.args.rows.now (fold_row n) in
    let places : length g.places.items ≡ n + length c.args.rows.now = w.size.places ∙ c.in-Ok.ensures.size.places ∙ c.in_default.ensures.places in
    is_infeasible n c.args.width rs c.in-Ok-default-Some.field-0-0 c.in-Ok-default-Some.slack (length g.places.items - g.columns) (lines_of g) c.write_multipliers.new.multipliers.items k (omega arith)
    (λ line e. c.write_multipliers.ensures.value line e ∙ ap (λ m. multipliers_of m (length g.places.items - g.columns) c.in-Ok-default-Some.slack line) columns)

pub returns-in-Some-write_heights-clause-answer : goal.returns-in-Some-write_heights-clause-answer
returns-in-Some-write_heights-clause-answer c =
    let a = (goal.at.returns-in-Some-write_heights-clause-answer c).In-Ok in
    let n = c.args.grid.now.columns in
    let rs = map (fold_row n) c.args.rows.now in
    let g = c.settle.new.self in
    let w = c.in-Ok-default-None.ensures in
    let h : IsSettled c.load.new.self.columns c.args.width rs c.in-Ok-default-None.step c.in-Ok-default-None.field-0-1 (lines_of g) = w.run rs (loaded_at a) in
    let k = settled _ n c.args.width rs c.in-Ok-default-None.step _ None (lines_of g) (loaded_columns a) c.in-Ok-default-None.field-0-1-is h in
    let columns : g.columns ≡ n = w.size.columns ∙ loaded_columns a in
    let word : to_z w128 (of_z w128 c.in-Some-write_heights.number) ≡ c.in-Some-write_heights.number = omega (arith, ints) in
    let P : ℤ → Type 0 = λ z. IsWideScaling n rs c.args.width c.saturating_add.result z in
    let Q : ℕ → Type 0 = λ m. first_wide c.args.width (scaling_numbers (scales_of m (lines_of g)) (heights_by m (scale_to (lines_of g) m) (lines_of g))) ≡ Some c.in-Some-write_heights.number in
    inr (subst P (sym word)
    (is_wide_scaling n c.args.width rs c.in-Ok-default-None.step c.saturating_add.result (lines_of g) c.in-Some-write_heights.number k (grid_table c.args.width g w.grid) c.saturating_add.ensures (subst Q columns c.in-Some-write_heights.ensures)))

pub returns-in-None-clause-answer : goal.returns-in-None-clause-answer
returns-in-None-clause-answer c =
    let a = (goal.at.returns-in-None-clause-answer c).In-Ok in
    let n = c.args.grid.now.columns in
    let rs = map (fold_row n) c.args.rows.now in
    let g = c.settle.new.self in
    let w = c.in-Ok-default-None.ensures in
    let h : IsSettled c.load.new.self.columns c.args.width rs c.in-Ok-default-None.step c.in-Ok-default-None.field-0-1 (lines_of g) = w.run rs (loaded_at a) in
    let k = settled _ n c.args.width rs c.in-Ok-default-None.step _ None (lines_of g) (loaded_columns a) c.in-Ok-default-None.field-0-1-is h in
    let columns : g.columns ≡ n = w.size.columns ∙ loaded_columns a in
    let back = lent_back c.args.heights.now.len c.write_heights.new.heights c.args.heights.now.items (c.write_heights.auto.heights ∙ c.deref_mut.ensures.len) in
    let e = c.in-None.ensures in
    let Q : ℕ → Type 0 = λ m. first_wide c.args.width (scaling_numbers (scales_of m (lines_of g)) (heights_by m (scale_to (lines_of g) m) (lines_of g))) ≡ None in
    is_feasible n c.args.width rs c.in-Ok-default-None.step (lines_of g) _ k (grid_table c.args.width g w.grid) (back ∙ e.0 ∙ ap (λ m. heights_by m (scale_to (lines_of g) m) (lines_of g)) columns) (subst Q columns e.1)

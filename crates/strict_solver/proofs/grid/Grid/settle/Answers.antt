use Rattle.std.proofs.Common.{◌≡◌, ℕ, ◌∙◌, sym, ap, subst, arith, ℤ, List, Option, to_z, of_z}
use Rattle.std.specs.Int.{w128}
use Rattle.std.proofs.lemmas.Int.{ints}
use Rattle.ntfe_model.specs.Solver.{Line, first_negative, first_entering, IsWideTable}
use Rattle.strict_solver.specs.Grids.{lines_of}
use Rattle.strict_solver.proofs.Moves.{first_slack-found}
use Rattle.strict_solver.proofs.Steps.{move-pivotable}
use Rattle.strict_solver.proofs.Running.{wider_grid, grid_length, grid_narrow, settled_feasible, settled_infeasible, move_more, move_wide, still_loaded, one_less, same_size, same_size_next}
use Rattle.strict_solver.proofs.grid.Grid.settle.Goals as goal

leaving_is : (n m : ℕ) (s : List (Option Line)) (o : Option ℕ) → n ≡ m → o ≡ first_negative n s → o ≡ first_negative m s
leaving_is n m s o e f = f ∙ ap (λ k. first_negative k s) e

entering_is : (n m x : ℕ) (s : List (Option Line)) (o : Option ℕ) → n ≡ m → o ≡ first_entering n s x → o ≡ first_entering m s x
entering_is n m x s o e f = f ∙ ap (λ k. first_entering k s x) e

pub loop-leaving-init : goal.loop-leaving-init
loop-leaving-init c = record { size = same_size c.args.self.now; grid = c.requires.grid; loaded = c.requires.loaded; run = λ rs h. h }

pub first_negative-requires : goal.first_negative-requires
first_negative-requires c = wider_grid c.args.width 62 c.loop-leaving.self c.requires.high c.loop-leaving.invariant.grid

pub first_entering-requires-clause-grid : goal.first_entering-requires-clause-grid
first_entering-requires-clause-grid c = wider_grid c.args.width 62 c.loop-leaving.self c.requires.high c.loop-leaving.invariant.grid

pub first_entering-requires-clause-within : goal.first_entering-requires-clause-within
first_entering-requires-clause-within c =
    let g = c.loop-leaving.self in
    let n = grid_length g in
    let f = (first_slack-found g.columns _ (lines_of g) c.in-Some.leaving (sym c.in-Some.ensures)).below in
    omega arith

pub returns-in_default-first_entering-clause-run : goal.returns-in_default-first_entering-clause-run
returns-in_default-first_entering-clause-run c = λ rs h.
    let g = c.loop-leaving.self in
    let i = c.loop-leaving.invariant in
    let n = c.args.self.now.columns in
    settled_infeasible n c.args.width rs c.loop-leaving.step (lines_of g) (i.run rs h) c.in-Some.leaving (leaving_is g.columns n (lines_of g) _ i.size.columns c.in-Some.ensures)
    (entering_is g.columns n c.in-Some.leaving (lines_of g) _ i.size.columns c.in_default-first_entering.ensures)

pub pivot-requires-clause-can : goal.pivot-requires-clause-can
pivot-requires-clause-can c =
    let g = c.loop-leaving.self in
    move-pivotable g.columns c.in-Some.leaving c.in-Some-first_entering.entering (lines_of g) (record { leaving = sym c.in-Some.ensures; entering = sym c.in-Some-first_entering.ensures })

pub returns-in-Some-pivot-clause-run : goal.returns-in-Some-pivot-clause-run
returns-in-Some-pivot-clause-run c = λ rs h.
    let g = c.loop-leaving.self in
    let i = c.loop-leaving.invariant in
    let n = c.args.self.now.columns in
    let word : to_z w128 (of_z w128 c.in-Some-pivot.number) ≡ c.in-Some-pivot.number = omega (arith, ints) in
    let P : ℤ → Type 0 = λ z. IsWideTable n rs c.args.width c.saturating_add-step.result z in
    subst P (sym word)
    (move_wide n c.args.width rs c.loop-leaving.step (lines_of g) (i.run rs h) c.in-Some.leaving c.in-Some-first_entering.entering (leaving_is g.columns n (lines_of g) _ i.size.columns c.in-Some.ensures)
    (entering_is g.columns n c.in-Some.leaving (lines_of g) _ i.size.columns c.in-Some-first_entering.ensures)
    c.saturating_add-step.result c.in-Some-pivot.number c.in-Some-pivot.ensures.answer c.saturating_add-step.ensures)

pub loop-leaving-smaller : goal.loop-leaving-smaller
loop-leaving-smaller c =
    let g = c.loop-leaving.self in
    let h = c.pivot.new.self in
    let i = c.loop-leaving.invariant in
    let n = c.args.self.now.columns in
    one_less n c.args.width g h c.in-Some.leaving c.in-Some-first_entering.entering i.grid c.in_default-pivot.ensures.size i.size.columns i.loaded (leaving_is g.columns n (lines_of g) _ i.size.columns c.in-Some.ensures)
    (entering_is g.columns n c.in-Some.leaving (lines_of g) _ i.size.columns c.in-Some-first_entering.ensures) c.in_default-pivot.ensures.answer.1

pub loop-leaving-preserved : goal.loop-leaving-preserved
loop-leaving-preserved c =
    let g = c.loop-leaving.self in
    let h = c.pivot.new.self in
    let i = c.loop-leaving.invariant in
    let n = c.args.self.now.columns in
    let a = c.in_default-pivot.ensures in
    let e = leaving_is g.columns n (lines_of g) _ i.size.columns c.in-Some.ensures in
    let f = entering_is g.columns n c.in-Some.leaving (lines_of g) _ i.size.columns c.in-Some-first_entering.ensures in
    record {
      size = same_size_next c.args.self.now g h i.size a.size;
      grid = a.answer.0;
      loaded = still_loaded n c.args.width g h c.in-Some.leaving c.in-Some-first_entering.entering i.grid a.size i.size.columns i.loaded e f a.answer.1;
      run = λ rs k.
          move_more n c.args.width rs c.loop-leaving.step (lines_of g) (i.run rs k) c.in-Some.leaving c.in-Some-first_entering.entering e f (lines_of h) c.saturating_add-step.result a.answer.1 (grid_narrow c.args.width h a.answer.0) c.saturating_add-step.ensures;
    }

pub returns-clause-run : goal.returns-clause-run
returns-clause-run c = λ rs h.
    let g = c.loop-leaving.self in
    let i = c.loop-leaving.invariant in
    let n = c.args.self.now.columns in
    settled_feasible n c.args.width rs c.loop-leaving.step (lines_of g) (i.run rs h) (leaving_is g.columns n (lines_of g) _ i.size.columns c.in_default.ensures)

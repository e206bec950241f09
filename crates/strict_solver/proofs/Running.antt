-- One more pivot of a run.
use Rattle.std.proofs.Common.{◌≡◌, ℕ, zero, suc, ◌+◌, ◌-◌, ◌^◌, ◌<◌, ◌≤◌, ◌⊎◌, inl, inr, min, not, refl, sym, ap, ◌∙◌, subst, arith, ℤ, pos, List, [], ◌∷◌, ◌++◌, length, get_or, Option, Some, None, length-append}
use Rattle.std.specs.Prelude.{slice_get, flat_map}
use Rattle.std.specs.Option.{option_map_or}
use Rattle.std.specs.Ordering.{int_eq}
use Rattle.std.specs.List.{range_with_len}
use Rattle.ntfe_model.specs.Solver.{Line, Table, coefficient_at, start_table, first_slack, next_load, first_negative, first_entering, moving, move_of, line_or_nothing, first_wide, IsStepOf, IsRun, IsPivot, Reaches, shown_step, IsWideTable}
use Rattle.ntfe_model.specs.Solver.Move.{pivot, feasible, infeasible}
use Rattle.strict_solver.specs.declared.place.Place.{Place}
use Rattle.strict_solver.specs.declared.place.Place.TheVariants.{Row, Column}
use Rattle.strict_solver.specs.declared.grid.Grid.{Grid}
use Rattle.strict_solver.specs.Grids.{row_at, lines_of, IsGrid, HasSameSize, IsPivotable, IsWidePivot}
use Rattle.strict_solver.specs.Runs.{HasLoaded, Stands, IsLoadingFrom, IsLoadedAt, IsSettled}
use Rattle.strict_solver.proofs.Rows.{wider_low}
use Rattle.strict_solver.proofs.Pivots.{IsTable, get_there}
use Rattle.strict_solver.proofs.Moves.{IsMove, first_slack-found, int_eq-some}
use Rattle.strict_solver.proofs.Placing.{lines-length, line_there, lines-table}
use Rattle.strict_solver.proofs.Pivoting.{some_place}
use Rattle.strict_solver.proofs.Bland.{IsMovingStep, step-loaded}
use Rattle.strict_solver.proofs.Bases.{slack_sets}
use Rattle.strict_solver.proofs.Agree.{pivot_same}
use Rattle.strict_solver.proofs.Steps.{step_lines, step-is, move-pivotable, moves_left, moves_left-falls}
use Rattle.strict_solver.proofs.Tables.{get_line, line_narrow, table_narrow}
use Rattle.std.proofs.lemmas.List.{get_or_past}
use Rattle.strict_solver.proofs.Entries.{slice_none}
use Rattle.ntfe_model.proofs.Lists.{some_once}

-- ---- the table of a grid
pub grid_table : (width : ℕ) (g : Grid) → IsGrid width g → IsTable (lines_of g)
grid_table width g h = lines-table (g.columns + 2) g.places.items g.cells.items (λ v r e. (h.low v r e).positive)

pub grid_length : (g : Grid) → length (lines_of g) ≡ length g.places.items
grid_length g = lines-length (g.columns + 2) g.places.items g.cells.items

pub grid_narrow : (width : ℕ) (g : Grid) → IsGrid width g → first_wide width (flat_map line_or_nothing (lines_of g)) ≡ None
grid_narrow width g h = table_narrow width (lines_of g) (λ u. at u (let c : (u < length g.places.items) ⊎ (length g.places.items ≤ u) = grind arith in c))
  where
    at : (u : ℕ) → (u < length g.places.items) ⊎ (length g.places.items ≤ u) → first_wide width (line_or_nothing (get_or (lines_of g) u None)) ≡ None
    at u (inr l) = ap (λ o. first_wide width (line_or_nothing o)) (get_or_past (lines_of g) u None (let n = grid_length g in omega arith))
    at u (inl l) = let o = some_place g.places.items u l in by o.0 o.1
      where
        by : (o : Place) → slice_get g.places.items u ≡ Some o → first_wide width (line_or_nothing (get_or (lines_of g) u None)) ≡ None
        by (Row r) e =
            ap (λ o. first_wide width (line_or_nothing o)) (get_line _ u _ (line_there (g.columns + 2) g.places.items g.cells.items u (Row r) e))
            ∙ line_narrow width g.places.items (row_at (g.columns + 2) g.cells.items r) (h.low u r e).narrow
        by (Column p) e = ap (λ o. first_wide width (line_or_nothing o)) (get_line _ u _ (line_there (g.columns + 2) g.places.items g.cells.items u (Column p) e))

pub wider_grid : (v w : ℕ) (g : Grid) → v ≤ w → IsGrid v g → IsGrid w g
wider_grid v w g h i = record {
  few = i.few;
  placing = i.placing;
  room = i.room;
  low = λ u r e. wider_low v w (row_at (g.columns + 2) g.cells.items r) h (i.low u r e);
  pivot = i.pivot;
  scratch = i.scratch;
}

-- ---- runs
run-push : (columns : ℕ) (s : Table) (ts : List Table) (t u : Table) → IsRun columns s ts t → IsStepOf columns t u → IsRun columns s (ts ++ u ∷ []) u
run-push columns s [] t u m k = ((let P : Table → Type 0 = λ r. IsStepOf columns r u in subst P (sym m) k), refl)
run-push columns s (r ∷ ts) t u m k = (m.0, run-push columns r ts t u m.1 k)

run-last : (columns : ℕ) (s : Table) (ts : List Table) (t : Table) → IsRun columns s ts t → slice_get (s ∷ ts) (length ts) ≡ Some t
run-last columns s [] t m = ap Some m
run-last columns s (r ∷ ts) t m = run-last columns r ts t m.1

front_of : (ts : List Table) (u : Table) (k : ℕ) → k < length ts → slice_get (ts ++ u ∷ []) k ≡ slice_get ts k
front_of [] u k l = absurd (omega arith)
front_of (t ∷ ts) u zero l = refl
front_of (t ∷ ts) u (suc k) l = front_of ts u k (omega arith)

module _ (columns width : ℕ) (rs : List (List ℤ)) (steps : ℕ) (t u : Table) (r : Reaches columns rs (Some width) steps t) (narrow : first_wide width (flat_map line_or_nothing t.lines) ≡ None) (k : IsStepOf columns t u) where
  pub reaches_more : Reaches columns rs (Some width) (steps + 1) u
  reaches_more = record {
    tables = r.tables ++ u ∷ [];
    count = length-append r.tables (u ∷ []) ∙ ap (λ n. n + 1) r.count;
    run = run-push columns (start_table columns rs) r.tables t u r.run k;
    narrow = λ j s l e. at j s e (let c : (j < steps) ⊎ (j ≡ steps) = grind arith in c);
  }
    where
      at : (j : ℕ) (s : Table) → slice_get (start_table columns rs ∷ (r.tables ++ u ∷ [])) j ≡ Some s → (j < steps) ⊎ (j ≡ steps) → first_wide width (flat_map line_or_nothing s.lines) ≡ None
      at j s e (inl l) = r.narrow j s l (sym (front_of (start_table columns rs ∷ r.tables) u j (let c = r.count in omega arith)) ∙ e)
      at j s e (inr f) =
          let c = r.count in
          let g : slice_get (start_table columns rs ∷ r.tables) (length r.tables) ≡ Some t = run-last columns (start_table columns rs) r.tables t r.run in
          let P : ℕ → Type 0 = λ n. slice_get (start_table columns rs ∷ r.tables) n ≡ Some s in
          let h : slice_get (start_table columns rs ∷ r.tables) (length r.tables) ≡ Some s = subst P (f ∙ sym c) (sym (front_of (start_table columns rs ∷ r.tables) u j (omega arith)) ∙ e) in
          let i : t ≡ s = some_once t s (sym g ∙ h) in
          let Q : Table → Type 0 = λ q. first_wide width (flat_map line_or_nothing q.lines) ≡ None in
          subst Q i narrow

-- what is shown of one more step
pub shown_more : (step steps next : ℕ) → step ≡ shown_step steps → next ≡ min (step + 1) (2 ^ 64 - 1) → next ≡ shown_step (steps + 1)
shown_more step steps next e f = f ∙ ap (λ n. min (n + 1) (2 ^ 64 - 1)) e ∙ capped steps (2 ^ 64 - 1)
  where
    capped : (n m : ℕ) → min (min n m + 1) m ≡ min (n + 1) m
    capped n m = omega arith

-- ---- loading
module _ (columns width : ℕ) (rs : List (List ℤ)) (step height : ℕ) (s : List (Option Line)) (h : IsLoadingFrom columns width rs step height s) (l : height < columns) where
  abbrev rest : List ℕ
  rest = range_with_len (height + 1) (columns - (height + 1))

  due : range_with_len height (columns - height) ≡ height ∷ range_with_len (height + 1) (columns - (height + 1))
  due = ap (range_with_len height) (let e : columns - height ≡ suc (columns - (height + 1)) = omega arith in e)

  next_is : (o : Option ℕ) → o ≡ first_slack columns (λ r. not (int_eq (coefficient_at r height) (pos 0))) s
      → next_load columns s h.to_load ≡ option_map_or (λ x. Some (x, height, range_with_len (height + 1) (columns - (height + 1)))) o (next_load columns s (range_with_len (height + 1) (columns - (height + 1))))
  next_is o e =
      h.next ∙ ap (next_load columns s) due
      ∙ ap (λ k. option_map_or (λ x. Some (x, height, range_with_len (height + 1) (columns - (height + 1)))) k (next_load columns s (range_with_len (height + 1) (columns - (height + 1))))) (sym e)

  pub load_skip : None ≡ first_slack columns (λ r. not (int_eq (coefficient_at r height) (pos 0))) s → IsLoadingFrom columns width rs step (height + 1) s
  load_skip e = record { to_load = h.to_load; steps = h.steps; stands = h.stands; shown = h.shown; next = next_is None e }

  module _ (x : ℕ) (e : Some x ≡ first_slack columns (λ r. not (int_eq (coefficient_at r height) (pos 0))) s) where
    load_step : (t : List (Option Line)) → IsPivot x height s t → IsStepOf columns (record { lines = s; to_load = h.to_load }) (record { lines = t; to_load = range_with_len (height + 1) (columns - (height + 1)) })
    load_step t p = (
      x,
      height,
      ap (λ (o : Option (ℕ × ℕ × List ℕ)). option_map_or (λ (k : ℕ × ℕ × List ℕ). pivot k.0 k.1 k.2) o (moving columns s)) (next_is (Some x) e),
      p,
    )

    load_reaches : (t : List (Option Line)) → IsPivot x height s t → Reaches columns rs (Some width) (h.steps + 1) (record { lines = t; to_load = range_with_len (height + 1) (columns - (height + 1)) })
    load_reaches t p = reaches_more columns width rs h.steps (record { lines = s; to_load = h.to_load }) (record { lines = t; to_load = range_with_len (height + 1) (columns - (height + 1)) }) h.stands.reaches h.stands.narrow (load_step t p)

    pub load_more : (t : List (Option Line)) (next : ℕ) → IsPivot x height s t → first_wide width (flat_map line_or_nothing t) ≡ None → next ≡ min (step + 1) (2 ^ 64 - 1) → IsLoadingFrom columns width rs next (height + 1) t
    load_more t next p n f = record {
      to_load = range_with_len (height + 1) (columns - (height + 1));
      steps = h.steps + 1;
      stands = record { reaches = load_reaches t p; narrow = n };
      shown = shown_more step h.steps next h.shown f;
      next = refl;
    }

    pub load_wide : (next : ℕ) (z : ℤ) → IsWidePivot width x height s z → next ≡ min (step + 1) (2 ^ 64 - 1) → IsWideTable columns rs width next z
    load_wide next z p f = record {
      steps = h.steps + 1;
      end = record { lines = p.table; to_load = range_with_len (height + 1) (columns - (height + 1)) };
      reaches = load_reaches p.table p.is;
      first = p.first;
      shown = shown_more step h.steps next h.shown f;
    }

pub load_end : (columns width : ℕ) (rs : List (List ℤ)) (step height : ℕ) (s : List (Option Line)) → columns ≤ height → IsLoadingFrom columns width rs step height s → IsLoadedAt columns width rs step s
load_end columns width rs step height s l h = record {
  to_load = h.to_load;
  steps = h.steps;
  stands = h.stands;
  shown = h.shown;
  done = h.next ∙ ap (λ n. next_load columns s (range_with_len height n)) (let e : columns - height ≡ 0 = omega arith in e);
}

pub load_start : (columns width : ℕ) (rs : List (List ℤ)) (s : List (Option Line)) → Stands columns width rs (range_with_len 0 columns) 0 s → IsLoadingFrom columns width rs 0 0 s
load_start columns width rs s h = record { to_load = range_with_len 0 columns; steps = 0; stands = h; shown = refl; next = ap (λ n. next_load columns s (range_with_len 0 n)) (let e : columns ≡ columns - 0 = omega arith in e) }

-- a height that a slack has is not basic, so that it can be loaded
pub load-pivotable : (columns x height : ℕ) (s : List (Option Line)) → IsTable s → height < length s → Some x ≡ first_slack columns (λ r. not (int_eq (coefficient_at r height) (pos 0))) s → IsPivotable x height s
load-pivotable columns x height s w l e =
    let f = first_slack-found columns (λ r. not (int_eq (coefficient_at r height) (pos 0))) s x (sym e) in
    let n = int_eq-some (coefficient_at f.row height) f.passes in
    record { row = f.row; is = get_there s x f.row f.is; other = slice_none s height l (at (get_or s height None) refl); not_zero = n }
  where
    at : (o : Option Line) → get_or s height None ≡ o → o ≡ None
    at None g = refl
    at (Some q) g =
        let f = first_slack-found columns (λ r. not (int_eq (coefficient_at r height) (pos 0))) s x (sym e) in
        absurd (int_eq-some (coefficient_at f.row height) f.passes ((w x f.row f.is).zeros height q g))

-- ---- moving
module _ (columns width : ℕ) (rs : List (List ℤ)) (step : ℕ) (s : List (Option Line)) (h : IsLoadedAt columns width rs step s) where
  loaded_move : move_of columns (record { lines = s; to_load = h.to_load }) ≡ moving columns s
  loaded_move = ap (λ (o : Option (ℕ × ℕ × List ℕ)). option_map_or (λ (k : ℕ × ℕ × List ℕ). pivot k.0 k.1 k.2) o (moving columns s)) h.done

  pub settled_feasible : None ≡ first_negative columns s → IsSettled columns width rs step None s
  settled_feasible e = record {
    to_load = h.to_load;
    steps = h.steps;
    stands = h.stands;
    shown = h.shown;
    move = loaded_move ∙ ap (λ o. option_map_or (λ x. option_map_or (λ y. pivot x y []) (first_entering columns s x) (infeasible x)) o feasible) (sym e);
  }

  pub settled_infeasible : (x : ℕ) → Some x ≡ first_negative columns s → None ≡ first_entering columns s x → IsSettled columns width rs step (Some x) s
  settled_infeasible x e f = record {
    to_load = h.to_load;
    steps = h.steps;
    stands = h.stands;
    shown = h.shown;
    move = loaded_move ∙ ap (λ o. option_map_or (λ x. option_map_or (λ y. pivot x y []) (first_entering columns s x) (infeasible x)) o feasible) (sym e) ∙ ap (λ o. option_map_or (λ y. pivot x y []) o (infeasible x)) (sym f);
  }

  module _ (x y : ℕ) (e : Some x ≡ first_negative columns s) (f : Some y ≡ first_entering columns s x) where
    pub moving_is : moving columns s ≡ pivot x y []
    moving_is = ap (λ o. option_map_or (λ x. option_map_or (λ y. pivot x y []) (first_entering columns s x) (infeasible x)) o feasible) (sym e) ∙ ap (λ o. option_map_or (λ y. pivot x y []) o (infeasible x)) (sym f)

    move_reaches : (t : List (Option Line)) → IsPivot x y s t → Reaches columns rs (Some width) (h.steps + 1) (record { lines = t; to_load = [] })
    move_reaches t p = reaches_more columns width rs h.steps (record { lines = s; to_load = h.to_load }) (record { lines = t; to_load = [] }) h.stands.reaches h.stands.narrow (x, y, loaded_move ∙ moving_is, p)

    pub move_more : (t : List (Option Line)) (next : ℕ) → IsPivot x y s t → first_wide width (flat_map line_or_nothing t) ≡ None → next ≡ min (step + 1) (2 ^ 64 - 1) → IsLoadedAt columns width rs next t
    move_more t next p n g = record {
      to_load = [];
      steps = h.steps + 1;
      stands = record { reaches = move_reaches t p; narrow = n };
      shown = shown_more step h.steps next h.shown g;
      done = refl;
    }

    pub move_wide : (next : ℕ) (z : ℤ) → IsWidePivot width x y s z → next ≡ min (step + 1) (2 ^ 64 - 1) → IsWideTable columns rs width next z
    move_wide next z p g = record {
      steps = h.steps + 1;
      end = record { lines = p.table; to_load = [] };
      reaches = move_reaches p.table p.is;
      first = p.first;
      shown = shown_more step h.steps next h.shown g;
    }

pub same_size_next : (g h k : Grid) → HasSameSize g h → HasSameSize h k → HasSameSize g k
same_size_next g h k a b = record {
  columns = b.columns ∙ a.columns;
  cells = b.cells ∙ a.cells;
  places = b.places ∙ a.places;
  capacity = b.capacity ∙ a.capacity;
  pivot = b.pivot ∙ a.pivot;
  scratch = b.scratch ∙ a.scratch;
}

-- what the loading keeps
pub record IsLoadingGrid (width : ℕ) (old now : Grid) (step height : ℕ) : Type 0 where
  pub size : HasSameSize old now
  pub grid : IsGrid width now
  pub run : (rs : List (List ℤ)) → Stands old.columns width rs (range_with_len 0 old.columns) 0 (lines_of old) → IsLoadingFrom old.columns width rs step height (lines_of now)

-- what the moving keeps
pub record IsMovingGrid (width : ℕ) (old now : Grid) (pivots step : ℕ) : Type 0 where
  pub size : HasSameSize old now
  pub grid : IsGrid width now
  pub loaded : HasLoaded old.columns (lines_of now)
  pub run : (rs : List (List ℤ)) → IsLoadedAt old.columns width rs pivots (lines_of old) → IsLoadedAt old.columns width rs step (lines_of now)

pub same_size : (g : Grid) → HasSameSize g g
same_size g = record { columns = refl; cells = refl; places = refl; capacity = refl; pivot = refl; scratch = refl }

-- a moving pivot keeps what the moving needs, and one move less is to come
module _ (columns width : ℕ) (g h : Grid) (x y : ℕ) (i : IsGrid width g) (same : HasSameSize g h) (en : g.columns ≡ columns) (loaded : HasLoaded columns (lines_of g))
    (e : Some x ≡ first_negative columns (lines_of g)) (f : Some y ≡ first_entering columns (lines_of g) x) (p : IsPivot x y (lines_of g) (lines_of h)) where
  is_move : IsMove columns (lines_of g) x y
  is_move = record { leaving = sym e; entering = sym f }

  columns_within : columns ≤ length (lines_of g)
  columns_within = let n = grid_length g in let c = i.placing.count in omega arith

  moving_step : IsMovingStep columns (length (lines_of g)) (lines_of g) (lines_of h)
  moving_step = record { x = x; y = y; small = (let a = (first_slack-found columns _ (lines_of g) x (sym e)).below in omega arith); move = is_move; is = p }

  pub still_loaded : HasLoaded columns (lines_of h)
  still_loaded = step-loaded columns (length (lines_of g)) (lines_of g) (lines_of h) moving_step (grid_table width g i) columns_within loaded

  step_same : lines_of h ≡ step_lines x y (lines_of g)
  step_same = pivot_same x y (lines_of g) (lines_of h) (step_lines x y (lines_of g)) p (step-is x y (lines_of g) (grid_table width g i) (move-pivotable columns x y (lines_of g) is_move))

  pub one_less : moves_left h.columns (slack_sets h.columns (lines_of h)) (lines_of h) < moves_left g.columns (slack_sets g.columns (lines_of g)) (lines_of g)
  one_less =
      let P : List (Option Line) → Type 0 = λ k. moves_left columns (slack_sets columns k) k < moves_left columns (slack_sets columns (lines_of g)) (lines_of g) in
      let Q : ℕ → Type 0 = λ k. moves_left k (slack_sets k (lines_of h)) (lines_of h) < moves_left g.columns (slack_sets g.columns (lines_of g)) (lines_of g) in
      let R : ℕ → Type 0 = λ k. moves_left columns (slack_sets columns (lines_of h)) (lines_of h) < moves_left k (slack_sets k (lines_of g)) (lines_of g) in
      let move : moving columns (lines_of g) ≡ pivot x y [] =
      ap (λ o. option_map_or (λ x. option_map_or (λ y. pivot x y []) (first_entering columns (lines_of g) x) (infeasible x)) o feasible) (sym e) ∙ ap (λ o. option_map_or (λ y. pivot x y []) o (infeasible x)) (sym f) in
      let less =
      moves_left-falls columns x y (lines_of g) (grid_table width g i) columns_within loaded is_move move
      (ap (λ n. 2 ^ (n - columns)) (ap (λ (k : List (Option Line)). length k) (sym step_same) ∙ p.length_same)) in
      subst Q (sym (same.columns ∙ en)) (subst R (sym en) (subst P (sym step_same) less))

-- The moves of a basis are those of the stated run.
--     slack-row          each fold has a slack's row
--     ends               where no slack is negative, the run ends
--     none-below         where it ends, none is
--     leaves, enters     which slack leaves and which enters
--     moves-to           after the exchange the basis stands for the next table
--     stuck              where no slack can enter, the run ends infeasible
use Rattle.std.proofs.Common.{◌≡◌, ◌≢◌, ℕ, zero, suc, ◌+◌, ◌-◌, ◌<◌, ◌≤◌, ◌⊎◌, inl, inr, ⊎_elim, Bool, true, false, ◌&&◌, refl, sym, ap, ◌∙◌, subst, arith, ℤ, pos, ◌+ℤ◌, ◌-ℤ◌, ◌*ℤ◌, ◌<ℤ◌, ◌≤ℤ◌, int_lt, List, [], map, length, get_or, set, Some, None, Option}
use Rattle.std.specs.Prelude.{slice_get, find, nat_le, is_none}
use Rattle.std.specs.Option.{option_map_or, option_and_then}
use Rattle.std.specs.List.{range_with_len}
use Rattle.std.proofs.lemmas.Int.{ints}
use Rattle.std.proofs.lemmas.List.{get_or-map, length-map}
use Rattle.std.proofs.lemmas.Bool.Decides.{nat_tests}
use Rattle.ntfe_nums.specs.Vectors.{sign}
use Rattle.ntfe_model.specs.declared.nogood.Fold.{Fold}
use Rattle.ntfe_model.specs.Solver.{Line, Table, coefficient_at, fold_row, first_negative, first_entering, IsPivot}
use Rattle.ntfe_model.specs.Solver.Move.{pivot, feasible, infeasible}
use Rattle.strict_solver.specs.declared.place.Place.{Place}
use Rattle.strict_solver.specs.declared.place.Place.TheVariants.{Row, Column}
use Rattle.strict_solver.specs.declared.basis.Basis.{Basis}
use Rattle.strict_solver.specs.Rows.{number, number_at, line_in}
use Rattle.strict_solver.specs.Starts.{AreFoldsOver}
use Rattle.strict_solver.specs.Equations.{combination, Holds}
use Rattle.strict_solver.specs.Continuing.{IsLineFor, HasLoadedTo}
use Rattle.strict_solver.specs.Standing.{fold_sum, cell_at, constant_of, IsSlackRow, StandsFor, StandsAtEnd, StandsLoaded, HasSlackRow, HasNoneBelow, IsFirstBelow, HasNoneEntering, IsFirstToEnter, IsExchanged, IsStuck}
use Rattle.strict_solver.proofs.Pivots.{IsTable}
use Rattle.strict_solver.proofs.Runs.{AreRows}
use Rattle.strict_solver.proofs.Values.{product_negative, factor_negative}
use Rattle.strict_solver.proofs.Moves.{no_first_slack, int_lt-not_zero, IsMove, no_test, no_second, no_third}
use Rattle.strict_solver.proofs.Steps.{step_lines, step-is, move-pivotable}
use Rattle.strict_solver.proofs.Searches.{found_at, found_nowhere, slack_test, slack_before, first_slack_at, first_slack_none, below_passes, below_fails, above_passes, above_fails, entering_test, entering_before}
use Rattle.strict_solver.proofs.Placing.{coefficient_there}
use Rattle.strict_solver.proofs.Elimination.{at_place, from_place, same_place}
use Rattle.strict_solver.proofs.Pivoting.{some_place}
use Rattle.strict_solver.proofs.Scaling.{ranged_length, ranged_get}
use Rattle.strict_solver.proofs.Outcome.{are_rows}
use Rattle.strict_solver.proofs.Path.{moves-on, ends-here}
use Rattle.strict_solver.proofs.SlackLines.{constants-proportional, lines-proportional, reached-table, reached-length, slack-value, slack-line, idle-constant}
use Rattle.strict_solver.proofs.Standing.{raw-line, pivoted}
use Rattle.ntfe_nums.proofs.Signs.{positive_product, product_not_negative, sign_of, not_negative, not_both_signs, factor_not_negative, product_not_positive}

-- ---- the row of a slack
abbrev entry : ℕ → List ℤ → ℤ → Fold → ℕ → ℤ
entry columns cells d f zero = d
entry columns cells d f (suc zero) = fold_sum (cell_at columns cells 1) f -ℤ d
entry columns cells d f (suc (suc p)) = fold_sum (cell_at columns cells (suc (suc p))) f

pub slack-row : (columns : ℕ) (cells : List ℤ) (d : ℤ) (f : Fold) → (line : List ℤ) × IsSlackRow columns cells d f line
slack-row columns cells d f = (
  map (entry columns cells d f) (range_with_len 0 (columns + 2)),
  record {
    count = ranged_length (entry columns cells d f) (columns + 2);
    first = at 0 (omega arith);
    constant = at 1 (omega arith);
    coefficients = λ p l h. at p h ∙ sum p l;
  },
)
  where
    at : (p : ℕ) → p < columns + 2 → get_or (map (entry columns cells d f) (range_with_len 0 (columns + 2))) p (pos 0) ≡ entry columns cells d f p
    at p h = ranged_get (entry columns cells d f) (columns + 2) p (pos 0) h

    sum : (p : ℕ) → 2 ≤ p → entry columns cells d f p ≡ fold_sum (cell_at columns cells p) f
    sum zero l = absurd (omega arith)
    sum (suc zero) l = absurd (omega arith)
    sum (suc (suc p)) l = refl

-- ---- signs of proportional numbers
same_least : (d g a b : ℤ) → pos 0 <ℤ d → pos 0 <ℤ g → g *ℤ a ≡ d *ℤ b → pos 0 ≤ℤ a → pos 0 ≤ℤ b
same_least d g a b pd pg e h = factor_not_negative d b pd (let P : ℤ → Type 0 = λ z. pos 0 ≤ℤ z in subst P e (product_not_negative g a (not_negative g pg) h))

same_negative : (d g a b : ℤ) → pos 0 <ℤ d → pos 0 <ℤ g → g *ℤ a ≡ d *ℤ b → a <ℤ pos 0 → b <ℤ pos 0
same_negative d g a b pd pg e h = factor_negative d b pd (let P : ℤ → Type 0 = λ z. z <ℤ pos 0 in subst P e (product_negative g a pg h))

same_positive : (d g a b : ℤ) → pos 0 <ℤ d → pos 0 <ℤ g → g *ℤ a ≡ d *ℤ b → pos 0 <ℤ a → pos 0 <ℤ b
same_positive d g a b pd pg e h = ⊎_elim (λ i. i) (λ i. absurd (not_both_signs _ _ (sym e) (product_not_positive d b (not_negative d pd) i) (positive_product g a pg h))) (sign_of b)

same_most : (d g a b : ℤ) → pos 0 <ℤ d → pos 0 <ℤ g → g *ℤ a ≡ d *ℤ b → a ≤ℤ pos 0 → b ≤ℤ pos 0
same_most d g a b pd pg e h = ⊎_elim (λ i. absurd (not_both_signs _ _ e (product_not_positive g a (not_negative g pg) h) (positive_product d b pd i))) (λ i. i) (sign_of b)

-- ---- a basis in the moving
module _ (b : Basis) (fs : List Fold) (over : AreFoldsOver b.columns fs) (h : StandsLoaded b fs) where
  rs : List (List ℤ)
  rs = map (fold_row b.columns) fs

  s : List (Option Line)
  s = h.table.lines

  rows : AreRows b.columns (map (fold_row b.columns) fs)
  rows = are_rows b.columns fs

  pub loaded-table : IsTable h.table.lines
  loaded-table = reached-table b.columns (map (fold_row b.columns) fs) rows h.loaded.steps h.table h.loaded.reaches

  pub loaded-length : length h.table.lines ≡ b.columns + length fs
  loaded-length = reached-length b.columns (map (fold_row b.columns) fs) rows h.loaded.steps h.table h.loaded.reaches ∙ ap (λ n. b.columns + n) (length-map fs (fold_row b.columns))

  row-of : (j : ℕ) (f : Fold) → slice_get fs j ≡ Some f → (j < length fs) × (get_or (map (fold_row b.columns) fs) j [] ≡ fold_row b.columns f)
  row-of j f e = let a = from_place fs j f f e in (a.0, get_or-map (fold_row b.columns) fs j f [] a.0 ∙ ap (fold_row b.columns) a.1)

  module _ (j : ℕ) (f : Fold) (e : slice_get fs j ≡ Some f) (line : List ℤ) (i : IsSlackRow b.columns b.cells.items b.denominator f line) where
    pub raw : IsLineFor (fold_row b.columns f) h.table.lines (line_in b.places.items line)
    raw = raw-line b.columns b.places.items b.cells.items b.denominator h.table.lines h.stands f line (let a = loaded-length in omega arith) (over.each j f e) i

    within : j < length (map (fold_row b.columns) fs)
    within = let a = length-map fs (fold_row b.columns) in let c = (row-of j f e).0 in omega arith

    pub real : (r : Line) → get_or h.table.lines (b.columns + j) None ≡ Some r → IsLineFor (fold_row b.columns f) h.table.lines r
    real r g =
        let P : List ℤ → Type 0 = λ q. IsLineFor q h.table.lines r in
        subst P (row-of j f e).1 (slack-line b.columns (map (fold_row b.columns) fs) rows h.loaded.steps h.table h.loaded.reaches j within r g)

    pub constants : (r : Line) → get_or h.table.lines (b.columns + j) None ≡ Some r → r.d *ℤ number line 1 ≡ number line 0 *ℤ r.c
    constants r g = constants-proportional (fold_row b.columns f) h.table.lines loaded-table (line_in b.places.items line) r raw (real r g)

    pub idle : get_or h.table.lines (b.columns + j) None ≡ None → number line 1 ≡ pos 0
    idle n =
        let P : List ℤ → Type 0 = λ q. IsLineFor q h.table.lines (line_in b.places.items line) in
        idle-constant b.columns (map (fold_row b.columns) fs) rows h.loaded.steps h.table h.loaded.reaches j within (line_in b.places.items line) (subst P (sym (row-of j f e).1) raw) n

  -- a slack that is not negative in the basis is not in the table
  passes-not : (j : ℕ) (f : Fold) → slice_get fs j ≡ Some f → pos 0 ≤ℤ constant_of b f → slack_test b.columns (λ r. int_lt r.c (pos 0)) h.table.lines (b.columns + j) ≡ false
  passes-not j f e l = by (get_or h.table.lines (b.columns + j) None) refl
    where
      line : (k : List ℤ) × IsSlackRow b.columns b.cells.items b.denominator f k
      line = slack-row b.columns b.cells.items b.denominator f

      by : (o : Option Line) → get_or h.table.lines (b.columns + j) None ≡ o → (nat_le b.columns (b.columns + j) && option_map_or (λ r. int_lt r.c (pos 0)) (get_or h.table.lines (b.columns + j) None) false) ≡ false
      by None g = ap (λ o. nat_le b.columns (b.columns + j) && option_map_or (λ r. int_lt r.c (pos 0)) o false) g ∙ no_test (nat_le b.columns (b.columns + j))
      by (Some r) g =
          ap (λ o. nat_le b.columns (b.columns + j) && option_map_or (λ r. int_lt r.c (pos 0)) o false) g
          ∙ ap (λ z. nat_le b.columns (b.columns + j) && z)
          (below_fails r.c
          (same_least (number line.0 0) r.d (number line.0 1) r.c (raw j f e line.0 line.1).positive (real j f e line.0 line.1 r g).positive (constants j f e line.0 line.1 r g)
          (let P : ℤ → Type 0 = λ z. pos 0 ≤ℤ z in subst P (sym line.1.constant) l)))
          ∙ no_test (nat_le b.columns (b.columns + j))

  before-slack : (test : Line → Bool) (x : ℕ) → x < b.columns → slack_test b.columns test h.table.lines x ≡ false
  before-slack test x l = slack_before b.columns test h.table.lines x l

  fold-at : (j : ℕ) → b.columns ≤ j → j < length h.table.lines → (f : Fold) × (slice_get fs (j - b.columns) ≡ Some f) × (j ≡ b.columns + (j - b.columns))
  fold-at j c l = let a = loaded-length in let o = some_place fs (j - b.columns) (omega arith) in (o.0, o.1, omega arith)

  pub none-negative : HasNoneBelow b fs → first_negative b.columns h.table.lines ≡ None
  none-negative n = first_slack_none b.columns (λ r. int_lt r.c (pos 0)) h.table.lines (λ j l. by j l (let c : (j < b.columns) ⊎ (b.columns ≤ j) = grind arith in c))
    where
      by : (j : ℕ) → j < length h.table.lines → (j < b.columns) ⊎ (b.columns ≤ j) → slack_test b.columns (λ r. int_lt r.c (pos 0)) h.table.lines j ≡ false
      by j l (inl c) = before-slack (λ r. int_lt r.c (pos 0)) j c
      by j l (inr c) =
          let f = fold-at j c l in
          ap (slack_test b.columns (λ r. int_lt r.c (pos 0)) h.table.lines) f.2 ∙ passes-not (j - b.columns) f.0 f.1 (n (j - b.columns) f.0 f.1)

  -- where the run ends, no slack is negative
  pub none-below : first_negative b.columns h.table.lines ≡ None → HasNoneBelow b fs
  none-below none j f e = by (get_or h.table.lines (b.columns + j) None) refl
    where
      line : (k : List ℤ) × IsSlackRow b.columns b.cells.items b.denominator f k
      line = slack-row b.columns b.cells.items b.denominator f

      at : pos 0 ≤ℤ number line.0 1 → pos 0 ≤ℤ constant_of b f
      at = let P : ℤ → Type 0 = λ z. pos 0 ≤ℤ z in subst P line.1.constant

      by : (o : Option Line) → get_or h.table.lines (b.columns + j) None ≡ o → pos 0 ≤ℤ constant_of b f
      by None g = at (let a = idle j f e line.0 line.1 g in omega (arith, ints))
      by (Some r) g =
          let l : b.columns + j < length h.table.lines = (let a = loaded-length in let c = (row-of j f e).0 in omega arith) in
          let n = int_lt-not_zero r.c (no_first_slack b.columns (λ q. int_lt q.c (pos 0)) h.table.lines none (b.columns + j) r (omega arith) l g) in
          at (same_least r.d (number line.0 0) r.c (number line.0 1) (real j f e line.0 line.1 r g).positive (raw j f e line.0 line.1).positive (sym (constants j f e line.0 line.1 r g)) n)

  pub ends : HasNoneBelow b fs → StandsAtEnd b fs
  ends n = record {
    end = h.table;
    ends = ends-here b.columns (map (fold_row b.columns) fs) h.table h.loaded
        (ap (λ o. option_map_or (λ x. option_map_or (λ y. pivot x y []) (first_entering b.columns h.table.lines x) (infeasible x)) o feasible) (none-negative n));
    stands = h.stands;
  }

  module _ (j : ℕ) (n : IsFirstBelow b fs j) where
    own : (k : List ℤ) × IsSlackRow b.columns b.cells.items b.denominator n.fold k
    own = slack-row b.columns b.cells.items b.denominator n.fold

    pub basic : (r : Line) × (get_or h.table.lines (b.columns + j) None ≡ Some r)
    basic = by (get_or h.table.lines (b.columns + j) None) refl
      where
        by : (o : Option Line) → get_or h.table.lines (b.columns + j) None ≡ o → (r : Line) × (get_or h.table.lines (b.columns + j) None ≡ Some r)
        by (Some r) g = (r, g)
        by None g = absurd (let a = idle j n.fold n.is own.0 own.1 g in let c = own.1.constant in let d = n.below in omega (arith, ints))

    pub leaves : first_negative b.columns h.table.lines ≡ Some (b.columns + j)
    leaves = first_slack_at b.columns (λ r. int_lt r.c (pos 0)) h.table.lines (b.columns + j) passes (λ i l. before i l (let c : (i < b.columns) ⊎ (b.columns ≤ i) = grind arith in c))
        (let a = loaded-length in let c = (row-of j n.fold n.is).0 in omega arith)
      where
        le : nat_le b.columns (b.columns + j) ≡ true
        le = grind (arith, nat_tests)

        passes : slack_test b.columns (λ r. int_lt r.c (pos 0)) h.table.lines (b.columns + j) ≡ true
        passes =
            ap (λ z. z && option_map_or (λ r. int_lt r.c (pos 0)) (get_or h.table.lines (b.columns + j) None) false) le
            ∙ ap (λ o. option_map_or (λ r. int_lt r.c (pos 0)) o false) basic.1
            ∙ below_passes basic.0.c
            (same_negative (number own.0 0) basic.0.d (number own.0 1) basic.0.c (raw j n.fold n.is own.0 own.1).positive (real j n.fold n.is own.0 own.1 basic.0 basic.1).positive (constants j n.fold n.is own.0 own.1 basic.0 basic.1)
            (let P : ℤ → Type 0 = λ z. z <ℤ pos 0 in subst P (sym own.1.constant) n.below))

        before : (i : ℕ) → i < b.columns + j → (i < b.columns) ⊎ (b.columns ≤ i) → slack_test b.columns (λ r. int_lt r.c (pos 0)) h.table.lines i ≡ false
        before i l (inl c) = before-slack (λ r. int_lt r.c (pos 0)) i c
        before i l (inr c) =
            let k = i - b.columns in
            let a = loaded-length in
            let d = (row-of j n.fold n.is).0 in
            let f = fold-at i c (omega arith) in
            ap (slack_test b.columns (λ r. int_lt r.c (pos 0)) h.table.lines) f.2 ∙ passes-not k f.0 f.1 (n.before k f.0 (omega arith) f.1)

    -- ---- with the line of that slack kept
    module _ (k : HasSlackRow b n.fold) where
      kept : IsLineFor (fold_row b.columns n.fold) h.table.lines (line_in b.places.items b.line.items)
      kept = raw j n.fold n.is b.line.items k.row

      line : Line
      line = basic.0

      theirs : IsLineFor (fold_row b.columns n.fold) h.table.lines basic.0
      theirs = real j n.fold n.is b.line.items k.row basic.0 basic.1

      proportional : (y : ℕ) (o : Place) → slice_get b.places.items y ≡ Some o → basic.0.d *ℤ number_at b.line.items o ≡ number b.line.items 0 *ℤ coefficient_at basic.0 y
      proportional y o e =
          ap (λ z. basic.0.d *ℤ z) (sym (coefficient_there b.places.items b.line.items y o e))
          ∙ lines-proportional (fold_row b.columns n.fold) h.table.lines loaded-table (line_in b.places.items b.line.items) basic.0 kept theirs y (let a = (from_place b.places.items y o o e).0 in let c = h.stands.count in omega arith)

      all : first_entering b.columns h.table.lines (b.columns + j) ≡ find (entering_test b.columns h.table.lines basic.0) (range_with_len 0 (length h.table.lines))
      all = ap (option_and_then (λ l. find (entering_test b.columns h.table.lines l) (range_with_len 0 (length h.table.lines)))) basic.1

      enters-not : (y : ℕ) → y < length h.table.lines → ((p : ℕ) → b.columns ≤ y → slice_get b.places.items y ≡ Some (Column p) → number b.line.items p ≤ℤ pos 0) → entering_test b.columns h.table.lines basic.0 y ≡ false
      enters-not y l f = by (let c : (y < b.columns) ⊎ (b.columns ≤ y) = grind arith in c) (let c = h.stands.count in some_place b.places.items y (omega arith))
        where
          at : (o : Place) → slice_get b.places.items y ≡ Some o → b.columns ≤ y → entering_test b.columns h.table.lines basic.0 y ≡ false
          at (Row r) e c =
              let a = h.stands.basic y r e in
              ap (λ o. nat_le b.columns y && is_none o && int_lt (pos 0) (coefficient_at basic.0 y)) a.1 ∙ no_second (nat_le b.columns y) (int_lt (pos 0) (coefficient_at basic.0 y))
          at (Column p) e c =
              ap (λ z. nat_le b.columns y && is_none (get_or h.table.lines y None) && z)
              (above_fails (coefficient_at basic.0 y) (same_most (number b.line.items 0) basic.0.d (number b.line.items p) (coefficient_at basic.0 y) kept.positive theirs.positive (proportional y (Column p) e) (f p c e)))
              ∙ no_third (nat_le b.columns y) (is_none (get_or h.table.lines y None))

          by : (y < b.columns) ⊎ (b.columns ≤ y) → (o : Place) × (slice_get b.places.items y ≡ Some o) → entering_test b.columns h.table.lines basic.0 y ≡ false
          by (inl c) o = entering_before b.columns h.table.lines basic.0 y c
          by (inr c) o = at o.0 o.1 c

      pub enters-none : HasNoneEntering b → first_entering b.columns h.table.lines (b.columns + j) ≡ None
      enters-none f = all ∙ found_nowhere (entering_test b.columns h.table.lines basic.0) (length h.table.lines) (λ y l. enters-not y l (λ p c e. f y p c e))

      pub stuck : HasNoneEntering b → IsStuck b fs j
      stuck f = record {
        stands = h;
        fold = n.fold;
        is = n.is;
        line = k;
        moves =
            ap (λ o. option_map_or (λ x. option_map_or (λ y. pivot x y []) (first_entering b.columns h.table.lines x) (infeasible x)) o feasible) leaves
            ∙ ap (λ o. option_map_or (λ y. pivot (b.columns + j) y []) o (infeasible (b.columns + j))) (enters-none f);
      }

      module _ (y : ℕ) (f : IsFirstToEnter b y) where
        below : y < length h.table.lines
        below = let a = (from_place b.places.items y (Column f.column) (Column f.column) f.is).0 in let c = h.stands.count in omega arith

        pub enters : first_entering b.columns h.table.lines (b.columns + j) ≡ Some y
        enters = all ∙ found_at (entering_test b.columns h.table.lines basic.0) (length h.table.lines) y passes (λ i l. enters-not i (let a = below in omega arith) (λ p c e. f.before i p c l e)) below
          where
            le : nat_le b.columns y ≡ true
            le = let a = f.slack in grind (arith, nat_tests)

            passes : entering_test b.columns h.table.lines basic.0 y ≡ true
            passes =
                ap (λ z. z && is_none (get_or h.table.lines y None) && int_lt (pos 0) (coefficient_at basic.0 y)) le
                ∙ ap (λ o. is_none o && int_lt (pos 0) (coefficient_at basic.0 y)) (h.stands.other y f.column f.is)
                ∙ above_passes (coefficient_at basic.0 y)
                (same_positive (number b.line.items 0) basic.0.d (number b.line.items f.column) (coefficient_at basic.0 y) kept.positive theirs.positive (proportional y (Column f.column) f.is) f.positive)

        is-move : IsMove b.columns h.table.lines (b.columns + j) y
        is-move = record { leaving = leaves; entering = enters }

        exchange : IsPivot (b.columns + j) y h.table.lines (step_lines (b.columns + j) y h.table.lines)
        exchange = step-is (b.columns + j) y h.table.lines loaded-table (move-pivotable b.columns (b.columns + j) y h.table.lines is-move)

        pub moves-to : (c : Basis) → IsExchanged b c (b.columns + j) y → StandsLoaded c fs
        moves-to c x =
            let ls = step_lines (b.columns + j) y h.table.lines in
            let t : Table = record { lines = ls; to_load = [] } in
            let move =
            ap (λ o. option_map_or (λ x. option_map_or (λ y. pivot x y []) (first_entering b.columns h.table.lines x) (infeasible x)) o feasible) leaves
            ∙ ap (λ o. option_map_or (λ y. pivot (b.columns + j) y []) o (infeasible (b.columns + j))) enters in
            let loaded : HasLoadedTo b.columns (map (fold_row b.columns) fs) t = moves-on b.columns (map (fold_row b.columns) fs) h.table h.loaded (b.columns + j) y ls move exchange in
            let p = x.column in
            let some : number b.line.items x.column ≢ pos 0 = λ e. not_zero (column-same f.column x.column f.is x.enters) e in
            let slack : (one : ℤ) (vs : List ℤ) → length vs ≡ length h.table.lines → Holds one vs h.table.lines
            → b.denominator *ℤ get_or vs (b.columns + j) (pos 0) ≡ number b.line.items 1 *ℤ one +ℤ combination (map (number_at b.line.items) b.places.items) vs =
            λ one vs cv hs. holds-at one vs cv hs in
            let now = pivoted b.columns b.places.items b.cells.items b.denominator h.table.lines h.stands ls (b.columns + j) y x.row x.column b.line.items c.cells.items loaded-table (let a = loaded-length in omega arith) x.leaves x.enters exchange slack some x.put in
            let P : ℕ → Type 0 = λ m. HasLoadedTo m (map (fold_row m) fs) t in
            record {
              table = t;
              loaded = subst P (sym x.columns) loaded;
              stands = stands-at c now x.columns x.places x.denominator;
            }
          where
            column-same : (p q : ℕ) → slice_get b.places.items y ≡ Some (Column p) → slice_get b.places.items y ≡ Some (Column q) → p ≡ q
            column-same p q e g = let a : Column p ≡ Column q = same_place b.places.items y (Column p) (Column q) e g in cc

            not_zero : f.column ≡ x.column → number b.line.items x.column ≡ pos 0 → ⊥
            not_zero e g = let a : number b.line.items f.column ≡ pos 0 = ap (number b.line.items) e ∙ g in let c = f.positive in omega (arith, ints)

            holds-at : (one : ℤ) (vs : List ℤ) → length vs ≡ length h.table.lines → Holds one vs h.table.lines
                → b.denominator *ℤ get_or vs (b.columns + j) (pos 0) ≡ number b.line.items 1 *ℤ one +ℤ combination (map (number_at b.line.items) b.places.items) vs
            holds-at one vs cv hs =
                (λ t. sym k.row.first t *ℤ sym (slack-value b.columns (map (fold_row b.columns) fs) rows h.loaded.steps h.table h.loaded.reaches j (within j n.fold n.is b.line.items k.row) one vs cv hs) t)
                ∙ ap (λ q. number b.line.items 0 *ℤ (combination q vs -ℤ one)) (row-of j n.fold n.is).1
                ∙ kept.value one vs cv hs

            stands-at : (c : Basis) → StandsFor b.columns (set (set b.places.items (b.columns + j) (Column x.column)) y (Row x.row)) c.cells.items (sign (number b.line.items x.column) *ℤ number b.line.items x.column) (step_lines (b.columns + j) y h.table.lines)
                → c.columns ≡ b.columns → c.places.items ≡ set (set b.places.items (b.columns + j) (Column x.column)) y (Row x.row) → c.denominator ≡ sign (number b.line.items x.column) *ℤ number b.line.items x.column
                → StandsFor c.columns c.places.items c.cells.items c.denominator (step_lines (b.columns + j) y h.table.lines)
            stands-at c g ec ep ed =
                let ls = step_lines (b.columns + j) y h.table.lines in
                let P : ℕ → Type 0 = λ m. StandsFor m c.places.items c.cells.items c.denominator ls in
                let Q : List Place → Type 0 = λ ps. StandsFor b.columns ps c.cells.items c.denominator ls in
                let R : ℤ → Type 0 = λ z. StandsFor b.columns (set (set b.places.items (b.columns + j) (Column x.column)) y (Row x.row)) c.cells.items z ls in
                subst P (sym ec) (subst Q (sym ep) (subst R (sym ed) g))

-- ---- the search for a negative slack
pub first-below : (b : Basis) (fs : List Fold) (j : ℕ) (d : Fold) → j < length fs → constant_of b (get_or fs j d) <ℤ pos 0 → ((i : ℕ) (f : Fold) → i < j → slice_get fs i ≡ Some f → pos 0 ≤ℤ constant_of b f) → IsFirstBelow b fs j
first-below b fs j d l n h = record { fold = get_or fs j d; is = at_place fs j d (get_or fs j d) l refl; below = n; before = h }

pub none-before : (b : Basis) (fs : List Fold) (j : ℕ) (d : Fold) → pos 0 ≤ℤ constant_of b (get_or fs j d) → ((i : ℕ) (f : Fold) → i < j → slice_get fs i ≡ Some f → pos 0 ≤ℤ constant_of b f)
    → (i : ℕ) (f : Fold) → i < j + 1 → slice_get fs i ≡ Some f → pos 0 ≤ℤ constant_of b f
none-before b fs j d n h i f l e = by (let c : (i < j) ⊎ (i ≡ j) = grind arith in c)
  where
    P : Fold → Type 0
    P g = pos 0 ≤ℤ constant_of b g

    by : (i < j) ⊎ (i ≡ j) → pos 0 ≤ℤ constant_of b f
    by (inl c) = h i f c e
    by (inr c) = subst P (sym (ap (λ k. get_or fs k d) c) ∙ (from_place fs i d f e).1) n

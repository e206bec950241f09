-- Searches of a grid's slacks.
use Rattle.std.proofs.Common.{◌≡◌, ℕ, zero, suc, ◌+◌, ◌<◌, ◌≤◌, ◌⊎◌, inl, inr, Bool, true, false, cond, not, ◌&&◌, refl, ap, ◌∙◌, subst, arith, ℤ, pos, negsuc, ◌<ℤ◌, ◌≤ℤ◌, List, length, get_or, Option, Some, None}
use Rattle.std.specs.Prelude.{find, nat_le, int_lt, is_none, slice_get}
use Rattle.std.specs.Option.{option_map_or, option_and_then}
use Rattle.std.specs.Ordering.{int_eq}
use Rattle.std.specs.List.{range_with_len}
use Rattle.std.proofs.lemmas.Int.{ints}
use Rattle.std.proofs.lemmas.Bool.Decides.{nat_tests}
use Rattle.ntfe_model.specs.Solver.{Line, coefficient_at, first_slack, first_entering}
use Rattle.strict_solver.specs.declared.place.Place.{Place}
use Rattle.strict_solver.specs.declared.place.Place.TheVariants.{Row, Column}
use Rattle.strict_solver.specs.Rows.{number, line_in}
use Rattle.strict_solver.specs.Grids.{row_at, lines_by}
use Rattle.strict_solver.proofs.Placing.{line_there, coefficient_there}
use Rattle.strict_solver.proofs.Pivoting.{some_place}
use Rattle.strict_solver.proofs.Tables.{get_line}
use Rattle.ntfe_nums.proofs.Comparisons.{zero_fails}
use Rattle.strict_solver.proofs.Path.{find-none}
use Rattle.strict_solver.proofs.Moves.{le_true, no_test, no_second}

-- ---- a search of the numbers below n
found_from : (test : ℕ → Bool) (a n x : ℕ) → test x ≡ true → ((j : ℕ) → a ≤ j → j < x → test j ≡ false) → a ≤ x → x < a + n → find test (range_with_len a n) ≡ Some x
found_from test a zero x t h l m = absurd (omega arith)
found_from test a (suc n) x t h l m = by (let c : (a ≡ x) ⊎ (a + 1 ≤ x) = grind arith in c) (found_from test (a + 1) n x t)
  where
    by : (a ≡ x) ⊎ (a + 1 ≤ x) → (((j : ℕ) → a + 1 ≤ j → j < x → test j ≡ false) → a + 1 ≤ x → x < a + 1 + n → find test (range_with_len (a + 1) n) ≡ Some x)
        → cond (test a) (Some a) (find test (range_with_len (a + 1) n)) ≡ Some x
    by (inl e) rest = ap (λ b. cond b (Some a) (find test (range_with_len (a + 1) n))) (ap test e ∙ t) ∙ ap Some e
    by (inr i) rest = ap (λ b. cond b (Some a) (find test (range_with_len (a + 1) n))) (h a (omega arith) (omega arith)) ∙ rest (λ j k o. h j (omega arith) o) i (omega arith)

pub found_at : (test : ℕ → Bool) (n x : ℕ) → test x ≡ true → ((j : ℕ) → j < x → test j ≡ false) → x < n → find test (range_with_len 0 n) ≡ Some x
found_at test n x t h l = found_from test 0 n x t (λ j k o. h j o) (omega arith) (omega arith)

pub found_nowhere : (test : ℕ → Bool) (n : ℕ) → ((j : ℕ) → j < n → test j ≡ false) → find test (range_with_len 0 n) ≡ None
found_nowhere test n h = find-none test 0 n (λ j k o. h j (omega arith))

pub below_next : (P : ℕ → Type 0) (x : ℕ) → ((j : ℕ) → j < x → P j) → P x → (j : ℕ) → j < x + 1 → P j
below_next P x h here j l = by (let c : (j < x) ⊎ (x ≡ j) = grind arith in c)
  where
    by : (j < x) ⊎ (x ≡ j) → P j
    by (inl i) = h j i
    by (inr e) = subst P e here

-- ---- slacks whose row passes
abbrev pub slack_test : ℕ → (Line → Bool) → List (Option Line) → ℕ → Bool
slack_test columns test s x = nat_le columns x && option_map_or test (get_or s x None) false

pub slack_before : (columns : ℕ) (test : Line → Bool) (s : List (Option Line)) (x : ℕ) → x < columns → slack_test columns test s x ≡ false
slack_before columns test s x h = ap (λ b. b && option_map_or test (get_or s x None) false) (let e : nat_le columns x ≡ false = grind (arith, nat_tests) in e)

pub slack_line : (columns : ℕ) (test : Line → Bool) (stride : ℕ) (places : List Place) (cells : List ℤ) (x r : ℕ) → columns ≤ x → slice_get places x ≡ Some (Row r)
    → slack_test columns test (lines_by stride places cells) x ≡ test (line_in places (row_at stride cells r))
slack_line columns test stride places cells x r h e =
    ap (λ b. b && option_map_or test (get_or (lines_by stride places cells) x None) false) (le_true columns x h)
    ∙ ap (λ o. option_map_or test o false) (get_line _ x _ (line_there stride places cells x (Row r) e))

pub slack_other : (columns : ℕ) (test : Line → Bool) (stride : ℕ) (places : List Place) (cells : List ℤ) (x p : ℕ) → slice_get places x ≡ Some (Column p)
    → slack_test columns test (lines_by stride places cells) x ≡ false
slack_other columns test stride places cells x p e =
    ap (λ o. nat_le columns x && option_map_or test o false) (get_line _ x _ (line_there stride places cells x (Column p) e)) ∙ no_test (nat_le columns x)

pub first_slack_at : (columns : ℕ) (test : Line → Bool) (s : List (Option Line)) (x : ℕ) → slack_test columns test s x ≡ true → ((j : ℕ) → j < x → slack_test columns test s j ≡ false) → x < length s
    → first_slack columns test s ≡ Some x
first_slack_at columns test s x t h l = found_at (slack_test columns test s) (length s) x t h l

pub first_slack_none : (columns : ℕ) (test : Line → Bool) (s : List (Option Line)) → ((j : ℕ) → j < length s → slack_test columns test s j ≡ false) → first_slack columns test s ≡ None
first_slack_none columns test s h = found_nowhere (slack_test columns test s) (length s) h

-- ---- tests of numbers

pub below_passes : (z : ℤ) → z <ℤ pos 0 → int_lt z (pos 0) ≡ true
below_passes (pos n) h = absurd (omega (arith, ints))
below_passes (negsuc n) h = refl

pub below_fails : (z : ℤ) → pos 0 ≤ℤ z → int_lt z (pos 0) ≡ false
below_fails (pos n) h = grind (arith, nat_tests)
below_fails (negsuc n) h = absurd (omega (arith, ints))

pub above_passes : (z : ℤ) → pos 0 <ℤ z → int_lt (pos 0) z ≡ true
above_passes (pos n) h = let l : 0 < n = omega (arith, ints) in grind (arith, nat_tests)
above_passes (negsuc n) h = absurd (omega (arith, ints))

pub above_fails : (z : ℤ) → z ≤ℤ pos 0 → int_lt (pos 0) z ≡ false
above_fails (pos n) h = let l : n ≤ 0 = omega (arith, ints) in grind (arith, nat_tests)
above_fails (negsuc n) h = refl

-- ---- slacks that can enter
abbrev pub entering_test : ℕ → List (Option Line) → Line → ℕ → Bool
entering_test columns s r y = nat_le columns y && is_none (get_or s y None) && int_lt (pos 0) (coefficient_at r y)

pub entering_before : (columns : ℕ) (s : List (Option Line)) (r : Line) (y : ℕ) → y < columns → entering_test columns s r y ≡ false
entering_before columns s r y h = ap (λ b. b && is_none (get_or s y None) && int_lt (pos 0) (coefficient_at r y)) (let e : nat_le columns y ≡ false = grind (arith, nat_tests) in e)

pub entering_column : (columns stride : ℕ) (places : List Place) (cells row : List ℤ) (y p : ℕ) → columns ≤ y → slice_get places y ≡ Some (Column p)
    → entering_test columns (lines_by stride places cells) (line_in places row) y ≡ int_lt (pos 0) (number row p)
entering_column columns stride places cells row y p h e =
    ap (λ b. b && is_none (get_or (lines_by stride places cells) y None) && int_lt (pos 0) (coefficient_at (line_in places row) y)) (le_true columns y h)
    ∙ ap (λ o. is_none o && int_lt (pos 0) (coefficient_at (line_in places row) y)) (get_line _ y _ (line_there stride places cells y (Column p) e))
    ∙ ap (int_lt (pos 0)) (coefficient_there places row y (Column p) e)

pub entering_basic : (columns stride : ℕ) (places : List Place) (cells row : List ℤ) (y r : ℕ) → slice_get places y ≡ Some (Row r) → entering_test columns (lines_by stride places cells) (line_in places row) y ≡ false
entering_basic columns stride places cells row y r e =
    ap (λ o. nat_le columns y && is_none o && int_lt (pos 0) (coefficient_at (line_in places row) y)) (get_line _ y _ (line_there stride places cells y (Row r) e)) ∙ no_second (nat_le columns y) (int_lt (pos 0) (coefficient_at (line_in places row) y))

pub first_entering_is : (columns stride : ℕ) (places : List Place) (cells : List ℤ) (x r : ℕ) → slice_get places x ≡ Some (Row r)
    → first_entering columns (lines_by stride places cells) x ≡ find (entering_test columns (lines_by stride places cells) (line_in places (row_at stride cells r))) (range_with_len 0 (length (lines_by stride places cells)))
first_entering_is columns stride places cells x r e =
    ap (option_and_then (λ l. find (entering_test columns (lines_by stride places cells) l) (range_with_len 0 (length (lines_by stride places cells))))) (get_line _ x _ (line_there stride places cells x (Row r) e))

pub first_entering_other : (columns stride : ℕ) (places : List Place) (cells : List ℤ) (x p : ℕ) → slice_get places x ≡ Some (Column p) → first_entering columns (lines_by stride places cells) x ≡ None
first_entering_other columns stride places cells x p e =
    ap (option_and_then (λ l. find (entering_test columns (lines_by stride places cells) l) (range_with_len 0 (length (lines_by stride places cells))))) (get_line _ x _ (line_there stride places cells x (Column p) e))

-- where a height is basic no slack has it
pub height_basic : (columns stride : ℕ) (places : List Place) (cells : List ℤ) (height r : ℕ) → slice_get places height ≡ Some (Row r) → (j : ℕ) → j < length places
    → slack_test columns (λ l. not (int_eq (coefficient_at l height) (pos 0))) (lines_by stride places cells) j ≡ false
height_basic columns stride places cells height r e j h = let o = some_place places j h in by o.0 o.1
  where
    by : (o : Place) → slice_get places j ≡ Some o → slack_test columns (λ l. not (int_eq (coefficient_at l height) (pos 0))) (lines_by stride places cells) j ≡ false
    by (Column p) f = slack_other columns (λ l. not (int_eq (coefficient_at l height) (pos 0))) stride places cells j p f
    by (Row q) f =
        ap (λ o. nat_le columns j && option_map_or (λ l. not (int_eq (coefficient_at l height) (pos 0))) o false) (get_line _ j _ (line_there stride places cells j (Row q) f))
        ∙ ap (λ b. nat_le columns j && b) (zero_fails (coefficient_at (line_in places (row_at stride cells q)) height) (coefficient_there places (row_at stride cells q) height (Row r) e))
        ∙ no_test (nat_le columns j)

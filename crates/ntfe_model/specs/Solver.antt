-- The stated solver: an exact elimination over whole numbers, whose every step is fixed. It looks for heights w at which
-- each of the rows r_1, .., r_n is at least 1. A row is the list of its coefficients of w_1, .., w_N, and t_j = r_j(w) - 1.
-- First each w_k is made basic in place of a slack, if it can be (loading). Then slacks with a negative constant leave, one
-- after the other (moving). Then all heights are multiplied by one number that makes them whole (scaling).
-- The variables are numbered from 0: first the heights w_1, .., w_N, then the slacks t_1, .., t_n.
use Rattle.std.specs.Prelude.{◌≡◌, ◌≢◌, ℕ, ◌+◌, ◌-◌, ◌*◌, ◌^◌, ◌<◌, ◌≤◌, ◌⊎◌, ◌&&◌, ◌==◌, nat_le, min, Bool, false, not, cond, ⊤, ℤ, pos, negsuc, ◌+ℤ◌, ◌*ℤ◌, neg_ℤ, ◌<ℤ◌, unsigned_abs, int_lt, List, [], ◌∷◌, ◌++◌, take, map, length, replicate, slice_get, slice_index, slice_index_or, slice_set, All, Option, Some, None, find, filter, flat_map, zip, is_none}
use Rattle.std.specs.List.{range_with_len}
use Rattle.std.specs.Option.{option_and_then, option_map_or}
use Rattle.std.specs.Int.{◌∣◌}
use Rattle.std.specs.Ordering.{int_eq}
use Rattle.ntfe_nums.specs.Vectors.{sign}
use Rattle.ntfe_model.specs.Certificates.{fold_coefficient}
use Rattle.ntfe_model.specs.declared.nogood.Fold.{Fold}

-- the row d x = c + the sum of the coefficients times the variables. There is a coefficient for each variable; those of basic variables are 0
pub record Line : Type 0 where
  pub d : ℤ
  pub c : ℤ
  pub coefficients : List ℤ

-- the rows of the basic variables, at their places, and the heights whose turn to be loaded is still to come
pub record Table : Type 0 where
  pub lines : List (Option Line)
  pub to_load : List ℕ

abbrev pub coefficient_at : Line → ℕ → ℤ
coefficient_at r y = slice_index_or r.coefficients y (pos 0)

-- ---- the start

-- the coefficients of the points 1, .., columns in a fold
abbrev pub fold_row : ℕ → Fold → List ℤ
fold_row columns r = map (fold_coefficient r) (range_with_len 1 columns)

-- the row t = -1 + .. of a slack
abbrev pub start_line : ℕ → List ℤ → Line
start_line rows r = record { d = pos 1; c = negsuc 0; coefficients = r ++ replicate rows (pos 0) }

abbrev pub start_table : ℕ → List (List ℤ) → Table
start_table columns rs = record { lines = replicate columns None ++ map (λ r. Some (start_line (length rs) r)) rs; to_load = range_with_len 0 columns }

-- ---- a pivot

-- the row of x, d x = c + .. + e y + .., solved for y
abbrev pub solved_for : Line → ℕ → ℕ → Line
solved_for r x y =
    let s = sign (coefficient_at r y) in
    record {
      d = s *ℤ coefficient_at r y;
      c = neg_ℤ (s *ℤ r.c);
      coefficients = slice_set (slice_set (map (λ e. neg_ℤ (s *ℤ e)) r.coefficients) y (pos 0)) x (s *ℤ r.d);
    }

-- the row q with the row m of y put in place of y
abbrev pub with_put_in : Line → ℕ → Line → Line
with_put_in q y m =
    let f = coefficient_at q y in
    record {
      d = q.d *ℤ m.d;
      c = q.c *ℤ m.d +ℤ f *ℤ m.c;
      coefficients = map (λ e. e.0 *ℤ m.d +ℤ f *ℤ e.1) (zip (slice_set q.coefficients y (pos 0)) m.coefficients);
    }

-- d, c and all coefficients
abbrev pub line_numbers : Line → List ℤ
line_numbers r = r.d ∷ r.c ∷ r.coefficients

-- the row is the other one divided by a positive number, so that d is positive and only 1 divides all its numbers
pub record IsReduced (raw r : Line) : Type 0 where
  pub k : ℕ
  pub factor : 0 < k
  pub same : line_numbers raw ≡ map (λ z. pos k *ℤ z) (line_numbers r)
  pub positive : pos 0 <ℤ r.d
  pub lowest : (m : ℕ) → All (λ z. m ∣ unsigned_abs z) (line_numbers r) → m ≡ 1

-- the line at a variable's place after the pivot on x and y, where m is the new row of y
abbrev pub IsNextLine : ℕ → ℕ → Line → ℕ → Option Line → Option Line → Type 0
IsNextLine x y m z before after =
    ((z ≡ x) × (after ≡ None))
    ⊎ ((z ≡ y) × (after ≡ Some m))
    ⊎ ((z ≢ x) × (z ≢ y) × (before ≡ None) × (after ≡ None))
    ⊎ ((q : Line) × (r : Line) × (z ≢ x) × (z ≢ y) × (before ≡ Some q) × (after ≡ Some r) × IsReduced (with_put_in q y m) r)

-- the pivot on the basic variable x and another variable y
pub record IsPivot (x y : ℕ) (s t : List (Option Line)) : Type 0 where
  pub row : Line
  pub is : slice_get s x ≡ Some (Some row)
  pub other : slice_get s y ≡ Some None
  pub not_zero : coefficient_at row y ≢ pos 0
  pub new : Line
  pub solved : IsReduced (solved_for row x y) new
  pub length_same : length t ≡ length s
  pub lines : (z : ℕ) → z < length s → IsNextLine x y new z (slice_index_or s z None) (slice_index_or t z None)

-- ---- which pivot comes

-- the first slack with a row that passes
abbrev pub first_slack : ℕ → (Line → Bool) → List (Option Line) → Option ℕ
first_slack columns test s =
    find (λ x. nat_le columns x && option_map_or test (slice_index_or s x None) false) (range_with_len 0 (length s))

-- the next height that some basic slack still has, with the first such slack, and what is to be loaded afterwards
abbrev pub next_load : ℕ → List (Option Line) → List ℕ → Option (ℕ × ℕ × List ℕ)
next_load columns s [] = None
next_load columns s (k ∷ ks) =
    option_map_or (λ x. Some (x, k, ks)) (first_slack columns (λ r. not (int_eq (coefficient_at r k) (pos 0))) s) (next_load columns s ks)

-- the first slack that is negative
abbrev pub first_negative : ℕ → List (Option Line) → Option ℕ
first_negative columns s = first_slack columns (λ r. int_lt r.c (pos 0)) s

-- the first slack that is not basic and has a positive coefficient in the row of x
abbrev pub first_entering : ℕ → List (Option Line) → ℕ → Option ℕ
first_entering columns s x =
    option_and_then (λ r. find (λ y. nat_le columns y && is_none (slice_index_or s y None) && int_lt (pos 0) (coefficient_at r y)) (range_with_len 0 (length s))) (slice_index_or s x None)

-- what is done next: a pivot on two variables with what is to be loaded afterwards, or nothing
pub data Move : Type 0 where
  pivot : ℕ → ℕ → List ℕ → Move
  feasible : Move
  infeasible : ℕ → Move

abbrev pub moving : ℕ → List (Option Line) → Move
moving columns s =
    option_map_or (λ x. option_map_or (λ y. pivot x y []) (first_entering columns s x) (infeasible x)) (first_negative columns s) feasible

abbrev pub move_of : ℕ → Table → Move
move_of columns t = option_map_or (λ (l : ℕ × ℕ × List ℕ). pivot l.0 l.1 l.2) (next_load columns t.lines t.to_load) (moving columns t.lines)

-- one pivot leads from s to t
abbrev pub IsStepOf : ℕ → Table → Table → Type 0
IsStepOf columns s t = (x : ℕ) × (y : ℕ) × (move_of columns s ≡ pivot x y t.to_load) × IsPivot x y s.lines t.lines

-- the tables after s, up to t; none where s is t
abbrev pub IsRun : ℕ → Table → List Table → Table → Type 0
IsRun columns s [] t = s ≡ t
IsRun columns s (r ∷ rs) t = IsStepOf columns s r × IsRun columns r rs t

-- ---- numbers that are wide

abbrev pub line_or_nothing : Option Line → List ℤ
line_or_nothing None = []
line_or_nothing (Some r) = line_numbers r

-- the numbers of a table, in order
abbrev pub table_numbers : Table → List ℤ
table_numbers t = flat_map line_or_nothing t.lines

abbrev pub first_wide : ℕ → List ℤ → Option ℤ
first_wide width zs = find (λ z. nat_le (2 ^ width) (unsigned_abs z)) zs

-- ---- scaling

-- m is the least common multiple of the reduced denominators of the first heights: the least positive number that
-- makes m c / d whole in each of them
pub record IsScale (lines : List (Option Line)) (m : ℕ) : Type 0 where
  pub positive : 0 < m
  pub whole : (k : ℕ) (r : Line) → slice_get lines k ≡ Some (Some r) → unsigned_abs r.d ∣ m * unsigned_abs r.c
  pub least : (j : ℕ) → 0 < j → ((k : ℕ) (r : Line) → slice_get lines k ≡ Some (Some r) → unsigned_abs r.d ∣ j * unsigned_abs r.c) → m ≤ j

-- h is m times the value of the height
abbrev pub IsScaled : ℕ → Option Line → ℤ → Type 0
IsScaled m None h = h ≡ pos 0
IsScaled m (Some r) h = r.d *ℤ h ≡ pos m *ℤ r.c

-- the last number, or 1
abbrev pub last_scale : List ℕ → ℕ
last_scale [] = 1
last_scale (m ∷ []) = m
last_scale (m ∷ n ∷ ms) = last_scale (n ∷ ms)

-- the scales of w_1 to w_k for each k, and then the heights
pub record IsScaling (columns : ℕ) (lines : List (Option Line)) (scales : List ℕ) (heights : List ℤ) : Type 0 where
  pub counts : (length scales ≡ columns) × (length heights ≡ columns)
  pub scale : (k : ℕ) → k < columns → IsScale (take (k + 1) lines) (slice_index scales k)
  pub scaled : (k : ℕ) → k < columns → IsScaled (last_scale scales) (slice_index_or lines k None) (slice_index_or heights k (pos 0))

abbrev pub scaling_numbers : List ℕ → List ℤ → List ℤ
scaling_numbers scales heights = map pos scales ++ heights

-- ---- the answers

-- in the row of the slack x, its own multiplier and those of the slacks: (row number from 0, multiplier)
abbrev pub multiplier_at : ℕ → ℕ → Line → ℕ → ℤ
multiplier_at columns x r j = cond (columns + j == x) r.d (pos (unsigned_abs (coefficient_at r (columns + j))))

-- those that are not 0, by rising row numbers
abbrev pub multipliers_of : ℕ → ℕ → ℕ → Line → List (ℕ × ℤ)
multipliers_of columns rows x r = filter (λ e. int_lt (pos 0) e.1) (map (λ j. (j, multiplier_at columns x r j)) (range_with_len 0 rows))

-- no number is wide at the width; without a width none ever is
abbrev pub IsNarrow : Option ℕ → List ℤ → Type 0
IsNarrow None zs = ⊤
IsNarrow (Some width) zs = first_wide width zs ≡ None

-- after so many pivots the run stands at t, and the tables before it, the start included, are narrow
pub record Reaches (columns : ℕ) (rs : List (List ℤ)) (width : Option ℕ) (steps : ℕ) (t : Table) : Type 0 where
  pub tables : List Table
  pub count : length tables ≡ steps
  pub run : IsRun columns (start_table columns rs) tables t
  pub narrow : (k : ℕ) (s : Table) → k < steps → slice_get (start_table columns rs ∷ tables) k ≡ Some s → IsNarrow width (table_numbers s)

-- the run ends with these heights
pub record IsFeasible (columns : ℕ) (rs : List (List ℤ)) (width : Option ℕ) (heights : List ℤ) : Type 0 where
  pub steps : ℕ
  pub end : Table
  pub reaches : Reaches columns rs width steps end
  pub narrow : IsNarrow width (table_numbers end)
  pub move : move_of columns end ≡ feasible
  pub scales : List ℕ
  pub scaling : IsScaling columns end.lines scales heights
  pub narrow_scaling : IsNarrow width (scaling_numbers scales heights)

-- the run ends at a negative slack in whose row no slack can enter, with these multipliers
pub record IsInfeasible (columns : ℕ) (rs : List (List ℤ)) (width : Option ℕ) (multipliers : List (ℕ × ℤ)) : Type 0 where
  pub steps : ℕ
  pub end : Table
  pub reaches : Reaches columns rs width steps end
  pub narrow : IsNarrow width (table_numbers end)
  pub slack : ℕ
  pub move : move_of columns end ≡ infeasible slack
  pub row : Line
  pub is : slice_get end.lines slack ≡ Some (Some row)
  pub multipliers_are : multipliers ≡ multipliers_of columns (length rs) slack row

-- a step number is given as the lesser of itself and 2 ^ 64 - 1
abbrev pub shown_step : ℕ → ℕ
shown_step steps = min steps (2 ^ 64 - 1)

-- the first step with a wide number is the table after so many pivots
pub record IsWideTable (columns : ℕ) (rs : List (List ℤ)) (width step : ℕ) (number : ℤ) : Type 0 where
  pub steps : ℕ
  pub end : Table
  pub reaches : Reaches columns rs (Some width) steps end
  pub first : first_wide width (table_numbers end) ≡ Some number
  pub shown : step ≡ shown_step steps

-- no table is wide, and the scaling, which is one more step, is
pub record IsWideScaling (columns : ℕ) (rs : List (List ℤ)) (width step : ℕ) (number : ℤ) : Type 0 where
  pub steps : ℕ
  pub end : Table
  pub reaches : Reaches columns rs (Some width) steps end
  pub narrow : IsNarrow (Some width) (table_numbers end)
  pub move : move_of columns end ≡ feasible
  pub scales : List ℕ
  pub heights : List ℤ
  pub scaling : IsScaling columns end.lines scales heights
  pub first : first_wide width (scaling_numbers scales heights) ≡ Some number
  pub shown : step ≡ shown_step (steps + 1)

-- the first step with a wide number is this one, and this is its first such number
abbrev pub IsWide : ℕ → List (List ℤ) → ℕ → ℕ → ℤ → Type 0
IsWide columns rs width step number = IsWideTable columns rs width step number ⊎ IsWideScaling columns rs width step number

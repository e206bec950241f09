-- How the stated run, without a width, goes on from its end when one more row comes after the others.
use Rattle.std.specs.Prelude.{◌≡◌, ◌≢◌, ℕ, ◌+◌, ◌<◌, ℤ, pos, ◌+ℤ◌, ◌-ℤ◌, ◌*ℤ◌, ◌<ℤ◌, unsigned_abs, List, [], ◌∷◌, ◌++◌, map, length, All, is_none, slice_index_or, Option, Some, None}
use Rattle.std.specs.Int.{◌∣◌}
use Rattle.ntfe_model.specs.Solver.{Line, Table, coefficient_at, line_numbers, next_load, move_of, IsPivot, Reaches, IsInfeasible}
use Rattle.ntfe_model.specs.Solver.Move.{feasible}
use Rattle.strict_solver.specs.Equations.{combination, Holds}

-- the run on these rows ends feasible, with these lines
pub record EndsWith (columns : ℕ) (rs : List (List ℤ)) (end : Table) : Type 0 where
  pub steps : ℕ
  pub reaches : Reaches columns rs None steps end
  pub move : move_of columns end ≡ feasible

-- the run on these rows comes to this table with nothing left to load: from here on it moves
pub record HasLoadedTo (columns : ℕ) (rs : List (List ℤ)) (t : Table) : Type 0 where
  pub steps : ℕ
  pub reaches : Reaches columns rs None steps t
  pub done : next_load columns t.lines t.to_load ≡ None

-- the row's slack, which is the row's value less 1, written in the variables that are not basic
pub record IsLineFor (q : List ℤ) (s : List (Option Line)) (l : Line) : Type 0 where
  pub count : length l.coefficients ≡ length s
  pub positive : pos 0 <ℤ l.d
  pub zeros : (b : ℕ) (r : Line) → slice_index_or s b None ≡ Some r → coefficient_at l b ≡ pos 0
  pub value : (one : ℤ) (vs : List ℤ) → length vs ≡ length s → Holds one vs s → l.d *ℤ (combination q vs -ℤ one) ≡ l.c *ℤ one +ℤ combination l.coefficients vs

-- only 1 divides all its numbers
abbrev pub IsLowest : Line → Type 0
IsLowest r = (m : ℕ) → All (λ z. m ∣ unsigned_abs z) (line_numbers r) → m ≡ 1

-- k is the least height that is not basic and that the line has
pub record IsLeastHeight (columns : ℕ) (s : List (Option Line)) (l : Line) (k : ℕ) : Type 0 where
  pub within : k < columns
  pub other : slice_index_or s k None ≡ None
  pub some : coefficient_at l k ≢ pos 0
  pub least : (j : ℕ) → j < k → slice_index_or s j None ≡ None → coefficient_at l j ≡ pos 0

-- the line has no height that is not basic
abbrev pub HasNoHeight : ℕ → List (Option Line) → Line → Type 0
HasNoHeight columns s l = (j : ℕ) → j < columns → slice_index_or s j None ≡ None → coefficient_at l j ≡ pos 0

-- the basic variables of t are those of s and e
pub record AreBasicBeside (s t : List (Option Line)) (e : ℕ) : Type 0 where
  pub new : slice_index_or s e None ≡ None
  pub line : Line
  pub basic : slice_index_or t e None ≡ Some line
  pub others : (z : ℕ) → z ≢ e → is_none (slice_index_or t z None) ≡ is_none (slice_index_or s z None)

-- the line over one more variable, which comes last
abbrev pub wider : Line → Line
wider r = record { d = r.d; c = r.c; coefficients = r.coefficients ++ pos 0 ∷ [] }

abbrev pub wider_line : Option Line → Option Line
wider_line None = None
wider_line (Some r) = Some (wider r)

-- the table with the line of one more variable, the last
abbrev pub with_row : List (Option Line) → Line → List (Option Line)
with_row s l = map wider_line s ++ Some (wider l) ∷ []

-- Where the run on rs ends feasible, and l is the line of q's slack there in lowest form, the run with q goes on from there: if the line has a
-- height that is not basic, one pivot on the slack and the least such height leads to the end; else the table with the line moves on.
-- Where the run on rs ends infeasible, so does that with q, with the same multipliers.
pub record IsOneRowMore (columns : ℕ) (rs : List (List ℤ)) (q : List ℤ) : Type 0 where
  pub loads : (end : Table) (l : Line) (k : ℕ) → EndsWith columns rs end → IsLineFor q end.lines l → IsLowest l → IsLeastHeight columns end.lines l k
      → (t : Table) × EndsWith columns (rs ++ q ∷ []) t × AreBasicBeside end.lines t.lines k × IsPivot (length end.lines) k (with_row end.lines l) t.lines
  pub idles : (end : Table) (l : Line) → EndsWith columns rs end → IsLineFor q end.lines l → IsLowest l → HasNoHeight columns end.lines l
      → (t : Table) × HasLoadedTo columns (rs ++ q ∷ []) t × AreBasicBeside end.lines t.lines (columns + length rs) × (t.lines ≡ with_row end.lines l)
  pub fails : (ms : List (ℕ × ℤ)) → IsInfeasible columns rs None ms → IsInfeasible columns (rs ++ q ∷ []) None ms

-- The pivot row is put into one row after the other, in the order of the variables.
use Rattle.std.proofs.Common.{◌≡◌, ◌≢◌, ℕ, zero, suc, ◌+◌, ◌<◌, ◌≤◌, ◌⊎◌, inl, inr, refl, sym, ap, ◌∙◌, subst, arith, ℤ, List, [], ◌∷◌, length, get_or, pos, unsigned_abs, Option, Some, None}
use Rattle.std.specs.Prelude.{slice_get, MatchOption}
use Rattle.std.proofs.lemmas.List.{get_or-map, length-map}
use Rattle.ntfe_model.specs.Solver.{first_wide, line_numbers}
use Rattle.strict_solver.specs.declared.place.Place.{Place}
use Rattle.strict_solver.specs.declared.place.Place.TheVariants.{Row, Column}
use Rattle.strict_solver.specs.declared.row.PivotRow.{PivotRow}
use Rattle.strict_solver.specs.Rows.{number, number_at, line_in, AreNarrow, IsWideRow}
use Rattle.strict_solver.specs.Grids.{row_at, IsEliminated, IsFirstWideRow}
use Rattle.strict_solver.proofs.Wide.{none_wide}

-- what a list has at a place
pub at_place : {X : Type 0} (xs : List X) (i : ℕ) (d x : X) → i < length xs → get_or xs i d ≡ x → slice_get xs i ≡ Some x
at_place [] i d x h e = absurd (omega arith)
at_place (y ∷ xs) zero d x h e = ap Some e
at_place (y ∷ xs) (suc i) d x h e = at_place xs i d x (omega arith) e

pub from_place : {X : Type 0} (xs : List X) (i : ℕ) (d x : X) → slice_get xs i ≡ Some x → (i < length xs) × (get_or xs i d ≡ x)
from_place [] i d x e = cc
from_place (y ∷ xs) zero d x e = (omega arith, cc)
from_place (y ∷ xs) (suc i) d x e = let h = from_place xs i d x e in (omega arith, h.1)

pub same_place : {X : Type 0} (xs : List X) (i : ℕ) (x y : X) → slice_get xs i ≡ Some x → slice_get xs i ≡ Some y → x ≡ y
same_place xs i x y e f = let g : Some x ≡ Some y = sym e ∙ f in cc

pub record Eliminating (width stride : ℕ) (places : List Place) (pivot : PivotRow) (old now : List ℤ) (i : ℕ) : Type 0 where
  pub pivot_same : row_at stride now pivot.row ≡ row_at stride old pivot.row
  pub done : (v r : ℕ) → v < i → slice_get places v ≡ Some (Row r) → r ≢ pivot.row → IsEliminated pivot (row_at stride old r) (row_at stride now r) × AreNarrow width (row_at stride now r)
  pub rest : (v r : ℕ) → i ≤ v → slice_get places v ≡ Some (Row r) → r ≢ pivot.row → row_at stride now r ≡ row_at stride old r

pub start : (width stride : ℕ) (places : List Place) (pivot : PivotRow) (old : List ℤ) → Eliminating width stride places pivot old old 0
start width stride places pivot old = record { pivot_same = refl; done = λ v r h e n. absurd (omega arith); rest = λ v r h e n. refl }

pub skip : (width stride : ℕ) (places : List Place) (pivot : PivotRow) (old now : List ℤ) (i : ℕ) → Eliminating width stride places pivot old now i
    → ((r : ℕ) → slice_get places i ≡ Some (Row r) → r ≢ pivot.row → ⊥) → Eliminating width stride places pivot old now (i + 1)
skip width stride places pivot old now i h not = record {
  pivot_same = h.pivot_same;
  done = λ v r l e n. at v r e n (let c : (v < i) ⊎ (v ≡ i) = grind arith in c);
  rest = λ v r l e n. h.rest v r (omega arith) e n;
}
  where
    at : (v r : ℕ) → slice_get places v ≡ Some (Row r) → r ≢ pivot.row → (v < i) ⊎ (v ≡ i) → IsEliminated pivot (row_at stride old r) (row_at stride now r) × AreNarrow width (row_at stride now r)
    at v r e n (inl l) = h.done v r l e n
    at v r e n (inr l) = absurd (not r (subst (λ k. slice_get places k ≡ Some (Row r)) l e) n)

pub step : (width stride : ℕ) (places : List Place) (pivot : PivotRow) (old now next : List ℤ) (i r : ℕ) → Eliminating width stride places pivot old now i
    → ((u v q : ℕ) → slice_get places u ≡ Some (Row q) → slice_get places v ≡ Some (Row q) → u ≡ v)
    → slice_get places i ≡ Some (Row r) → r ≢ pivot.row → ((q : ℕ) → q ≢ r → row_at stride next q ≡ row_at stride now q)
    → IsEliminated pivot (row_at stride now r) (row_at stride next r) → AreNarrow width (row_at stride next r) → Eliminating width stride places pivot old next (i + 1)
step width stride places pivot old now next i r h apart is other same form narrow = record {
  pivot_same = same pivot.row (λ e. other (sym e)) ∙ h.pivot_same;
  done = λ v q l e n. at v q e n (let c : (v < i) ⊎ (v ≡ i) = grind arith in c);
  rest = λ v q l e n. same q (λ f. (let P : ℕ → Type 0 = λ k. slice_get places v ≡ Some (Row k) in let g : v ≡ i = apart v i r (subst P f e) is in omega arith)) ∙ h.rest v q (omega arith) e n;
}
  where
    at : (v q : ℕ) → slice_get places v ≡ Some (Row q) → q ≢ pivot.row → (v < i) ⊎ (v ≡ i) → IsEliminated pivot (row_at stride old q) (row_at stride next q) × AreNarrow width (row_at stride next q)
    at v q e n (inl l) =
        let P : List ℤ → Type 0 = λ row. IsEliminated pivot (row_at stride old q) row × AreNarrow width row in
        let Q : ℕ → Type 0 = λ k. slice_get places v ≡ Some (Row k) in
        subst P (sym (same q (λ f. (let g : v ≡ i = apart v i r (subst Q f e) is in omega arith)))) (h.done v q l e n)
    at v q e n (inr l) =
        let P : ℕ → Type 0 = λ k. IsEliminated pivot (row_at stride old k) (row_at stride next k) × AreNarrow width (row_at stride next k) in
        let g : Row r ≡ Row q = same_place places i (Row r) (Row q) is (subst (λ k. slice_get places k ≡ Some (Row q)) l e) in
        let f : r ≡ q = cc in
        let R : List ℤ → Type 0 = λ row. IsEliminated pivot row (row_at stride next r) in
        subst P f (subst R (h.rest i r (omega arith) is other) form, narrow)

-- the first wide row
pub first_wide_row : (width stride : ℕ) (places : List Place) (pivot : PivotRow) (old now : List ℤ) (i r : ℕ) (row : List ℤ) (z : ℤ) → Eliminating width stride places pivot old now i
    → slice_get places i ≡ Some (Row r) → r ≢ pivot.row → IsEliminated pivot (row_at stride now r) row → first_wide width (line_numbers (line_in places row)) ≡ Some z
    → IsFirstWideRow width stride places pivot old z
first_wide_row width stride places pivot old now i r row z h is other form shown = record {
  v = i;
  r = r;
  is = is;
  other = other;
  row = row;
  form = (let R : List ℤ → Type 0 = λ k. IsEliminated pivot k row in subst R (h.rest i r (omega arith) is other) form);
  number = shown;
  before = λ u q l e n. (row_at stride now q, h.done u q l e n);
}

-- some number of a wide row is wide in its line
pub line_wide : (width stride : ℕ) (places : List Place) (row : List ℤ) → length row ≡ stride → ((p : ℕ) → 2 ≤ p → p < stride → (v : ℕ) × (slice_get places v ≡ Some (Column p)))
    → IsWideRow width row → first_wide width (line_numbers (line_in places row)) ≡ None → ⊥
line_wide width stride places row count taken h e = by h.k refl
  where
    wide_at : (j : ℕ) → j < length (line_numbers (line_in places row)) → get_or (line_numbers (line_in places row)) j (pos 0) ≡ number row h.k → ⊥
    wide_at j l f =
        let n = none_wide width (line_numbers (line_in places row)) e j l in
        let w = h.wide in
        let g = ap unsigned_abs f in
        omega arith

    column : (v : ℕ) → slice_get places v ≡ Some (Column h.k) → ⊥
    column v f =
        let g = from_place places v (Row 0) (Column h.k) f in
        let m = length-map places (number_at row) in
        wide_at (suc (suc v)) (omega arith) (get_or-map (number_at row) places v (Row 0) (pos 0) g.0 ∙ ap (number_at row) g.1)

    by : (k : ℕ) → h.k ≡ k → ⊥
    by zero f = wide_at 0 (omega arith) (ap (number row) (sym f))
    by (suc zero) f = wide_at 1 (omega arith) (ap (number row) (sym f))
    by (suc (suc k)) f = let t = taken h.k (omega arith) (let w = h.within in omega arith) in column t.0 t.1

pub wide_answer : (width stride : ℕ) (places : List Place) (row : List ℤ) (o : Option ℤ) (A : Type 0) (B : ℤ → Type 0) → length row ≡ stride
    → ((p : ℕ) → 2 ≤ p → p < stride → (v : ℕ) × (slice_get places v ≡ Some (Column p))) → IsWideRow width row
    → o ≡ first_wide width (line_numbers (line_in places row)) → ((z : ℤ) → first_wide width (line_numbers (line_in places row)) ≡ Some z → B z) → MatchOption o A B
wide_answer width stride places row None A B count taken h e f = absurd (line_wide width stride places row count taken h (sym e))
wide_answer width stride places row (Some z) A B count taken h e f = f z (sym e)

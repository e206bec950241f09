-- Stems: their start, and what pushes need.
use Rattle.std.proofs.Common.{◌≡◌, ◌≢◌, ℕ, zero, suc, ◌+◌, ◌-◌, ◌*◌, ◌^◌, ◌<◌, ◌≤◌, ◌⊎◌, inl, inr, Bool, true, false, cond, refl, sym, ap, ◌∙◌, subst, arith, ℤ, pos, ◌+ℤ◌, ◌*ℤ◌, ◌<ℤ◌, List, [], ◌∷◌, ◌++◌, map, length, get_or, unsigned_abs, Some, None}
use Rattle.std.specs.Prelude.{slice_get}
use borrow.Rule.Slice.PartMut.{put_mid}
use Rattle.std.proofs.lemmas.Int.{ints}
use Rattle.std.proofs.lemmas.List.{get_or_past, length-map}
use Rattle.ntfe_nums.proofs.Ring.{ring}
use Rattle.ntfe_nums.proofs.Ring.Expression.{var, num, plus, times}
use Rattle.ntfe_model.specs.declared.nogood.Fold.{Fold}
use Rattle.ntfe_model.specs.Solver.{fold_row, start_table, multipliers_of, IsFeasible, IsInfeasible}
use Rattle.strict_solver.specs.declared.place.Place.{Place}
use Rattle.strict_solver.specs.declared.place.Place.TheVariants.{Row, Column}
use Rattle.strict_solver.specs.declared.basis.Basis.{Basis}
use Rattle.strict_solver.specs.Rows.{number, number_at, line_in, PlacesWithin, IsLowered}
use Rattle.strict_solver.specs.Grids.{row_at}
use Rattle.strict_solver.specs.Mixing.{AreNarrowRows}
use Rattle.strict_solver.specs.Starts.{IsFoldOver, AreFoldsOver}
use Rattle.strict_solver.specs.Equations.{LineHolds}
use Rattle.strict_solver.specs.Continuing.{EndsWith}
use Rattle.strict_solver.specs.Standing.{IsSized, StandsFor, StandsAtEnd, IsStuck, HasHeights}
use Rattle.strict_solver.specs.Stems.{ArePlacedHeights, IsItself, HasMemory, IsKnownStem, IsCopy}
use Rattle.strict_solver.proofs.Runs.{start-length, start-none}
use Rattle.strict_solver.proofs.Elimination.{from_place, same_place}
use Rattle.strict_solver.proofs.Placing.{coefficient_there, same_column}
use Rattle.strict_solver.proofs.Directions.{combination-one}
use Rattle.strict_solver.proofs.Parts.{row_here, row_elsewhere, put_length}
use Rattle.strict_solver.proofs.PuttingIn.{row_fits}
use Rattle.strict_solver.specs.Scales.{scale_to, scales_of, heights_by}
use Rattle.strict_solver.proofs.Outcome.{are_rows}
use Rattle.strict_solver.proofs.Path.{no-rows, end-heights}
use Rattle.strict_solver.proofs.Scaling.{scaling_is}
use Rattle.strict_solver.proofs.SlackLines.{reached-table}
use Rattle.strict_solver.proofs.StandingMoves.{loaded-length}
use Rattle.strict_solver.proofs.HeightsLine.{stuck-end, heights-are}

-- ---- the rows at the start
pub record AreMadeThemselves (s : ℕ) (old cells : List ℤ) (k : ℕ) : Type 0 where
  pub count : length cells ≡ length old
  pub below : (j : ℕ) → j < k → IsItself (j + 2) (row_at s cells j)

pub next_itself : (n s : ℕ) (old cells row : List ℤ) (k : ℕ) → k < n → length old ≡ n * s → AreMadeThemselves s old cells k → length row ≡ s → IsItself (k + 2) row → AreMadeThemselves s old (put_mid (k * s) (k * s + s - k * s) cells row) (k + 1)
next_itself n s old cells row k lk room h count i = record {
  count = put_length (k * s) (k * s + s - k * s) cells row (let a = room_now in omega arith) (omega arith) ∙ h.count;
  below = λ j l. by j (let c : (j < k) ⊎ (j ≡ k) = grind arith in c);
}
  where
    room_now : k * s + s ≤ length cells
    room_now = let a = h.count in let b = row_fits n s k lk in omega arith

    by : (j : ℕ) → (j < k) ⊎ (j ≡ k) → IsItself (j + 2) (row_at s (put_mid (k * s) (k * s + s - k * s) cells row) j)
    by j (inl l) = let P : List ℤ → Type 0 = λ r. IsItself (j + 2) r in subst P (sym (row_elsewhere s cells row k room_now count j (λ e. omega arith))) (h.below j l)
    by j (inr e) =
        let P : List ℤ → Type 0 = λ r. IsItself (k + 2) r in
        let Q : ℕ → Type 0 = λ m. IsItself (m + 2) (row_at s (put_mid (k * s) (k * s + s - k * s) cells row) m) in
        subst Q (sym e) (subst P (sym (row_here s cells row k room_now count)) i)

module _ (columns : ℕ) (places : List Place) (cells : List ℤ) (p : ArePlacedHeights columns places) (r : (k : ℕ) → k < columns → IsItself (k + 2) (row_at (columns + 2) cells k)) where
  placed : (v : ℕ) (o : Place) → slice_get places v ≡ Some o → (v < columns) × (o ≡ Column (v + 2))
  placed v o e =
      let a = (from_place places v o o e).0 in
      let l : v < columns = (let b = p.count in omega arith) in
      (l, same_place places v o (Column (v + 2)) e (p.each v l))

  start-row : (one : ℤ) (vs : List ℤ) (k : ℕ) → k < columns → LineHolds one vs k (line_in places (row_at (columns + 2) cells k))
  start-row one vs k l =
      let row = row_at (columns + 2) cells k in
      let i = r k l in
      ap (λ z. z *ℤ get_or vs k (pos 0)) i.first
      ∙ ring (one ∷ get_or vs k (pos 0) ∷ []) (times (num (pos 1)) (var 1)) (plus (times (num (pos 0)) (var 0)) (times (num (pos 1)) (var 1))) refl
      ∙ (λ t. sym (i.others 1 (λ e. omega arith) (λ e. omega arith)) t *ℤ one +ℤ sym (ap (λ z. z *ℤ get_or vs k (pos 0)) (coefficient_there places row k (Column (k + 2)) (p.each k l) ∙ i.own)) t)
      ∙ ap (λ z. number row 1 *ℤ one +ℤ z) (sym (combination-one (map (number_at row) places) vs k (λ v n. none v n (let c : (v < columns) ⊎ (columns ≤ v) = grind arith in c))))
    where
      none : (v : ℕ) → v ≢ k → (v < columns) ⊎ (columns ≤ v) → (get_or (map (number_at (row_at (columns + 2) cells k)) places) v (pos 0) ≡ pos 0) ⊎ (get_or vs v (pos 0) ≡ pos 0)
      none v n (inl lv) = inl (coefficient_there places (row_at (columns + 2) cells k) v (Column (v + 2)) (p.each v lv) ∙ (r k l).others (v + 2) (λ e. omega arith) (λ e. n (let f : v ≡ k = omega arith in f)))
      none v n (inr lv) = inl (get_or_past (map (number_at (row_at (columns + 2) cells k)) places) v (pos 0) (let a = length-map places (number_at (row_at (columns + 2) cells k)) in let b = p.count in omega arith))

  pub start-stands : StandsFor columns places cells (pos 1) (start_table columns []).lines
  start-stands = record {
    count = (let a = p.count in let b = start-length columns 0 [] in omega arith);
    basic = λ v q e. (let a = placed v (Row q) e in no_row q v a.1);
    other = λ v q e. start-none columns 0 [] v (placed v (Column q) e).0;
    within = λ v q e. (let a = placed v (Column q) e in let b = same_column q (v + 2) a.1 in let l = a.0 in (omega arith, omega arith));
    apart = λ u v q e f. (let a = placed u (Column q) e in let b = placed v (Column q) f in let c = same_column q (u + 2) a.1 in let d = same_column q (v + 2) b.1 in omega arith);
    taken = λ q l m. (q - 2, p.each (q - 2) (omega arith) ∙ ap (λ n. Some (Column n)) (let e : q - 2 + 2 ≡ q = omega arith in e));
    positive = omega (arith, ints);
    first = λ k l. (r k l).first;
    holds = λ one vs c h k l. start-row one vs k l;
  }
    where
      no_row : (q v : ℕ) → Row q ≡ Column (v + 2) → {X : Type 0} → X
      no_row q v e = absurd (let f : ⊥ = cc in f)

  pub start-narrow : AreNarrowRows columns (columns + 2) cells
  start-narrow = record { each = λ k l. record { each = λ q. at k l q (let c : (q ≡ 0) ⊎ (q ≡ k + 2) ⊎ ((q ≢ 0) × (q ≢ k + 2)) = grind arith in c) } }
    where
      at : (k : ℕ) → k < columns → (q : ℕ) → (q ≡ 0) ⊎ (q ≡ k + 2) ⊎ ((q ≢ 0) × (q ≢ k + 2)) → unsigned_abs (number (row_at (columns + 2) cells k) q) < 2 ^ 30
      at k l q (inl e) = subst (λ z. unsigned_abs z < 2 ^ 30) (sym (ap (number (row_at (columns + 2) cells k)) e ∙ (r k l).first)) (omega (arith, ints))
      at k l q (inr (inl e)) = subst (λ z. unsigned_abs z < 2 ^ 30) (sym (ap (number (row_at (columns + 2) cells k)) e ∙ (r k l).own)) (omega (arith, ints))
      at k l q (inr (inr n)) = subst (λ z. unsigned_abs z < 2 ^ 30) (sym ((r k l).others q n.0 n.1)) (omega (arith, ints))

pub start_known : (b : Basis) (cells : List ℤ) → b.columns ≤ 400 → length b.cells.items ≡ b.columns * (b.columns + 2) → length b.line.items ≡ b.columns + 2 → b.denominator ≡ pos 1 → b.cells.items ≡ cells
    → ArePlacedHeights b.columns b.places.items → ((k : ℕ) → k < b.columns → IsItself (k + 2) (row_at (b.columns + 2) cells k)) → IsKnownStem b []
start_known b cells few room line d e p r =
    let P : ℤ → Type 0 = λ z. StandsFor b.columns b.places.items b.cells.items z (start_table b.columns []).lines in
    let Q : List ℤ → Type 0 = λ xs. StandsFor b.columns b.places.items xs (pos 1) (start_table b.columns []).lines in
    let N : List ℤ → Type 0 = λ xs. AreNarrowRows b.columns (b.columns + 2) xs in
    record {
      sized = record {
        few = few;
        cells = room;
        line = line;
        narrow = subst N (sym e) (start-narrow b.columns b.places.items cells p r);
        positive = (let S : ℤ → Type 0 = λ z. pos 0 <ℤ z in subst S (sym d) (omega (arith, ints)));
        small = (let S : ℤ → Type 0 = λ z. unsigned_abs z < 2 ^ 30 in subst S (sym d) (omega (arith, ints)));
      };
      over = record { each = λ j f g. cc };
      stands = record { end = start_table b.columns []; ends = no-rows b.columns; stands = subst P (sym d) (subst Q (sym e) (start-stands b.columns b.places.items cells p r)) };
    }

-- ---- copies
pub copied : (b c : Basis) (fs : List Fold) → IsCopy b c → HasMemory c → IsKnownStem b fs → IsKnownStem c fs
copied b c fs i m k =
    let C : ℕ → Type 0 = λ n. AreFoldsOver n fs in
    record {
      sized = record {
        few = m.few;
        cells = m.cells;
        line = m.line;
        narrow = (let P : ℕ → Type 0 = λ n. AreNarrowRows n (n + 2) c.cells.items in let Q : List ℤ → Type 0 = λ xs. AreNarrowRows b.columns (b.columns + 2) xs in subst P (sym i.columns) (subst Q (sym i.cells) k.sized.narrow));
        positive = (let P : ℤ → Type 0 = λ z. pos 0 <ℤ z in subst P (sym i.denominator) k.sized.positive);
        small = (let P : ℤ → Type 0 = λ z. unsigned_abs z < 2 ^ 30 in subst P (sym i.denominator) k.sized.small);
      };
      over = subst C (sym i.columns) k.over;
      stands = stands-copied b c fs i.columns i.denominator i.cells i.places k.stands;
    }
  where
    stands-copied : (b c : Basis) (fs : List Fold) → c.columns ≡ b.columns → c.denominator ≡ b.denominator → c.cells.items ≡ b.cells.items → c.places.items ≡ b.places.items → StandsAtEnd b fs → StandsAtEnd c fs
    stands-copied b c fs ec ed el ep h =
        let t = h.end in
        let E : ℕ → Type 0 = λ n. EndsWith n (map (fold_row n) fs) t in
        let P : ℕ → Type 0 = λ n. StandsFor n c.places.items c.cells.items c.denominator t.lines in
        let Q : List Place → Type 0 = λ ps. StandsFor b.columns ps c.cells.items c.denominator t.lines in
        let R : List ℤ → Type 0 = λ xs. StandsFor b.columns b.places.items xs c.denominator t.lines in
        let S : ℤ → Type 0 = λ z. StandsFor b.columns b.places.items b.cells.items z t.lines in
        record { end = t; ends = subst E (sym ec) h.ends; stands = subst P (sym ec) (subst Q (sym ep) (subst R (sym el) (subst S (sym ed) h.stands))) }

-- ---- one more fold
pub view_known : (k : Bool) (xs fs : List Fold) → cond k (Some xs) None ≡ Some fs → (k ≡ true) × (xs ≡ fs)
view_known true xs fs e = (refl, (let f : xs ≡ fs = cc in f))
view_known false xs fs e = cc

pub more_over : (n : ℕ) (fs : List Fold) (f : Fold) → AreFoldsOver n fs → IsFoldOver n f → AreFoldsOver n (fs ++ f ∷ [])
more_over n fs f h i = record { each = λ j g e. at fs j g h.each e }
  where
    at : (gs : List Fold) (j : ℕ) (g : Fold) → ((j : ℕ) (g : Fold) → slice_get gs j ≡ Some g → IsFoldOver n g) → slice_get (gs ++ f ∷ []) j ≡ Some g → IsFoldOver n g
    at [] zero g h e = subst (λ k. IsFoldOver n k) (let q : f ≡ g = cc in q) i
    at [] (suc j) g h e = cc
    at (k ∷ gs) zero g h e = h zero g e
    at (k ∷ gs) (suc j) g h e = at gs j g (λ m q s. h (suc m) q s) e

-- what is known of a stem whose folds are known
pub known_now : (k : Bool) (b : Basis) (xs fs : List Fold) → (k ≡ true → IsKnownStem b xs) → cond k (Some xs) None ≡ Some fs → IsKnownStem b xs
known_now k b xs fs h e = h (view_known k xs fs e).0

pub memory_of : (b : Basis) → IsSized b → HasMemory b
memory_of b s = record { few = s.few; cells = s.cells; line = s.line }

pub known_after : (b : Basis) (n : ℕ) (gs xs : List Fold) → b.columns ≡ n → gs ≡ xs → AreFoldsOver n gs → StandsAtEnd b gs → IsSized b → IsKnownStem b xs
known_after b n gs xs e f over h s =
    let P : List Fold → Type 0 = λ k. StandsAtEnd b k in
    let Q : List Fold → Type 0 = λ k. AreFoldsOver n k in
    let R : ℕ → Type 0 = λ m. AreFoldsOver m xs in
    record { sized = s; over = subst R (sym e) (subst Q f over); stands = subst P f h }

pub stuck_within : (b : Basis) (fs : List Fold) (j : ℕ) → IsStuck b fs j → PlacesWithin (b.columns + 2) b.places.items
stuck_within b fs j h = record { each = λ v p e. (h.stands.stands.within v p e).1 }

pub stuck_rows : (b : Basis) (n : ℕ) (fs : List Fold) (j m : ℕ) → b.columns ≡ n → AreFoldsOver n fs → IsStuck b fs j → m ≡ length fs → b.columns + m ≤ length b.places.items
stuck_rows b n fs j m e over h f =
    let R : ℕ → Type 0 = λ k. AreFoldsOver k fs in
    let a = loaded-length b fs (subst R (sym e) over) h.stands in
    let c = h.stands.stands.count in
    omega arith

pub stuck_answer : (b : Basis) (n : ℕ) (gs xs : List Fold) (j m : ℕ) (low : List ℤ) (ms : List (ℕ × ℤ)) → b.columns ≡ n → gs ≡ xs → AreFoldsOver n gs → IsStuck b gs j → IsLowered b.line.items low → m ≡ length gs
    → ms ≡ multipliers_of b.columns m (b.columns + j) (line_in b.places.items low) → IsInfeasible n (map (fold_row n) xs) None ms
stuck_answer b n gs xs j m low ms e f over h l em ev =
    let R : ℕ → Type 0 = λ k. AreFoldsOver k gs in
    let P : ℕ → Type 0 = λ k. IsInfeasible k (map (fold_row k) xs) None ms in
    let Q : List Fold → Type 0 = λ ys. IsInfeasible b.columns (map (fold_row b.columns) ys) None ms in
    subst P e (subst Q f (stuck-end b gs (subst R (sym e) over) j h low l ms m em ev))

pub heights_answer : (b : Basis) (n : ℕ) (xs fs : List Fold) (line hs : List ℤ) → b.columns ≡ n → xs ≡ fs → StandsAtEnd b xs → HasHeights b line → length hs ≡ n → ((k : ℕ) → k < b.columns → get_or hs k (pos 0) ≡ number line (k + 1)) → IsFeasible n (map (fold_row n) fs) None hs
heights_answer b n xs fs line hs e f h t c each =
    let P : ℕ → Type 0 = λ k. IsFeasible k (map (fold_row k) fs) None hs in
    let Q : List Fold → Type 0 = λ ys. IsFeasible b.columns (map (fold_row b.columns) ys) None hs in
    subst P e (subst Q f (heights-are b xs h line t hs (c ∙ sym e) each))

-- a known stem has heights
pub some_heights : (b : Basis) (fs : List Fold) → IsKnownStem b fs → (hs : List ℤ) × IsFeasible b.columns (map (fold_row b.columns) fs) None hs
some_heights b fs k =
    let e = k.stands.ends in
    let t = k.stands.end in
    let table = reached-table b.columns (map (fold_row b.columns) fs) (are_rows b.columns fs) e.steps t e.reaches in
    (heights_by b.columns (scale_to t.lines b.columns) t.lines, end-heights b.columns (map (fold_row b.columns) fs) t (scales_of b.columns t.lines) _ e (scaling_is b.columns t.lines table))

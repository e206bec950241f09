-- The answers of a basis.
--     heights_line     the line with the heights, in lowest form
--     heights-are      they are the heights of the stated run
--     stuck-end        the multipliers of a line in lowest form are those of the stated run
use Rattle.std.proofs.Common.{◌≡◌, ℕ, zero, suc, ◌+◌, ◌*◌, ◌/◌, ◌<◌, ◌≤◌, ◌⊎◌, inl, inr, refl, sym, ap, ◌∙◌, subst, arith, ℤ, pos, negsuc, ◌+ℤ◌, ◌*ℤ◌, ◌<ℤ◌, List, [], ◌∷◌, map, length, get_or, unsigned_abs, Some, None, Option}
use Rattle.std.specs.Int.{◌∣◌}
use Rattle.std.proofs.lemmas.Int.{ints, unsigned_abs-mul}
use Rattle.std.proofs.lemmas.List.{get_or_default, length-map, same_lists}
use Rattle.std.proofs.lemmas.Nat.Gcd.{dvd-zero}
use Rattle.std.proofs.Math.Nat.{dvd-mul_right}
use Rattle.ntfe_nums.proofs.Ring.{ring, product_zero, sum_zero}
use Rattle.ntfe_nums.proofs.Ring.Expression.{var, times}
use Rattle.ntfe_model.specs.declared.nogood.Fold.{Fold}
use Rattle.ntfe_model.specs.Solver.{Line, start_table, fold_row, multipliers_of, IsReduced, IsFeasible, IsInfeasible}
use Rattle.strict_solver.specs.declared.place.Place.{Place}
use Rattle.strict_solver.specs.declared.place.Place.TheVariants.{Row, Column}
use Rattle.strict_solver.specs.declared.basis.Basis.{Basis}
use Rattle.strict_solver.specs.Rows.{number, number_at, line_in, IsLowered}
use Rattle.strict_solver.specs.Grids.{row_at}
use Rattle.strict_solver.specs.Scales.{scale_to, scales_of, height_by, heights_by}
use Rattle.strict_solver.specs.Starts.{AreFoldsOver}
use Rattle.strict_solver.specs.Continuing.{IsLowest, IsLineFor}
use Rattle.strict_solver.specs.Standing.{cell_at, StandsFor, StandsAtEnd, HasHeights, IsStuck}
use Rattle.strict_solver.proofs.Forms.{zero_factor, pos_some}
use Rattle.strict_solver.proofs.Pivots.{IsTable, get_there}
use Rattle.strict_solver.proofs.Rows.{number_past}
use Rattle.strict_solver.proofs.Moves.{first_slack-found, moving-infeasible}
use Rattle.strict_solver.proofs.Values.{common, values_by, length-values, value-none, values-hold, value-some, combination-none}
use Rattle.strict_solver.proofs.Placing.{coefficient_there}
use Rattle.strict_solver.proofs.Denominators.{quotient_of}
use Rattle.strict_solver.proofs.Scaling.{IsLeastScale, least_scale, scaling_is, ranged_length, ranged_get, height_is}
use Rattle.strict_solver.proofs.Unique.{cancel, proportion}
use Rattle.strict_solver.proofs.Outcome.{are_rows}
use Rattle.strict_solver.proofs.Elimination.{from_place}
use Rattle.strict_solver.proofs.LineOf.{line-reduced}
use Rattle.strict_solver.proofs.GoingOn.{start-lowest}
use Rattle.strict_solver.proofs.Joining.{run-lowest}
use Rattle.strict_solver.proofs.Path.{end-heights, fails-here}
use Rattle.strict_solver.proofs.SlackLines.{reached-table, still_some, lowest-same}
use Rattle.strict_solver.proofs.Standing.{place-basic}
use Rattle.strict_solver.proofs.StandingMoves.{loaded-table, raw, real}
use Rattle.strict_solver.proofs.One.{cancels}
use Rattle.ntfe_nums.proofs.Signs.{some_size}
use Rattle.ntfe_model.proofs.Lists.{some_once}

pub heights_line : (b : Basis) (gathered low line : List ℤ) → length gathered ≡ b.columns + 2 → number gathered 0 ≡ b.denominator → ((k : ℕ) → k < b.columns → number gathered (k + 1) ≡ cell_at b.columns b.cells.items 1 k)
    → number gathered (b.columns + 1) ≡ pos 0 → IsLowered gathered low → line ≡ low → HasHeights b line
heights_line b gathered low line count first each last h e = let P : List ℤ → Type 0 = λ l. HasHeights b l in subst P (sym e) (record {
  count = h.count ∙ count;
  factor = h.k;
  some = h.factor;
  first = sym (h.same 0) ∙ first;
  each = λ k l. sym (h.same (k + 1)) ∙ each k l;
  lowest = λ m all. h.lowest m (λ j. divides m all j (let c : (j < b.columns + 1) ⊎ (b.columns + 1 ≡ j) ⊎ (b.columns + 2 ≤ j) = grind arith in c));
})
  where
    none : (j : ℕ) → number gathered j ≡ pos 0 → number low j ≡ pos 0
    none j f = zero_factor (pos h.k) (number low j) (pos_some h.k h.factor) (sym (h.same j) ∙ f)

    divides : (m : ℕ) → ((j : ℕ) → j < b.columns + 1 → m ∣ unsigned_abs (number low j)) → (j : ℕ) → (j < b.columns + 1) ⊎ (b.columns + 1 ≡ j) ⊎ (b.columns + 2 ≤ j) → m ∣ unsigned_abs (number low j)
    divides m all j (inl l) = all j l
    divides m all j (inr (inl f)) = subst (λ z. m ∣ unsigned_abs z) (sym (none j (ap (number gathered) (sym f) ∙ last))) (dvd-zero m)
    divides m all j (inr (inr l)) = subst (λ z. m ∣ unsigned_abs z) (sym (none j (number_past gathered j (omega arith)))) (dvd-zero m)

-- ---- a height's row and its line
module _ (columns : ℕ) (places : List Place) (cells : List ℤ) (d : ℤ) (s : List (Option Line)) (w : IsTable s) (h : StandsFor columns places cells d s) where
  still : (k : ℕ) → k < columns → d *ℤ get_or (values_by (pos 1) s) k (pos 0) ≡ cell_at columns cells 1 k *ℤ (pos 1 *ℤ common s)
  still k l =
      ap (λ z. z *ℤ get_or (values_by (pos 1) s) k (pos 0)) (sym (h.first k l))
      ∙ h.holds (pos 1 *ℤ common s) (values_by (pos 1) s) (length-values (pos 1) s) (values-hold (pos 1) s w) k l
      ∙ ap (λ z. cell_at columns cells 1 k *ℤ (pos 1 *ℤ common s) +ℤ z) (combination-none (map (number_at (row_at (columns + 2) cells k)) places) (values_by (pos 1) s) none)
      ∙ sum_zero (cell_at columns cells 1 k *ℤ (pos 1 *ℤ common s))
    where
      none : (v : ℕ) → (get_or (map (number_at (row_at (columns + 2) cells k)) places) v (pos 0) ≡ pos 0) ⊎ (get_or (values_by (pos 1) s) v (pos 0) ≡ pos 0)
      none v = by (get_or s v None) refl
        where
          by : (o : Option Line) → get_or s v None ≡ o → (get_or (map (number_at (row_at (columns + 2) cells k)) places) v (pos 0) ≡ pos 0) ⊎ (get_or (values_by (pos 1) s) v (pos 0) ≡ pos 0)
          by None e = inr (value-none (pos 1) s v e)
          by (Some r) e = let p = place-basic columns places cells d s h v r e in inl (coefficient_there places (row_at (columns + 2) cells k) v (Row p.0) p.1)

  pub height-basic : (k : ℕ) (r : Line) → k < columns → get_or s k None ≡ Some r → r.d *ℤ cell_at columns cells 1 k ≡ d *ℤ r.c
  height-basic k r l e =
      proportion d r.d (cell_at columns cells 1 k) r.c (pos 1 *ℤ common s) (get_or (values_by (pos 1) s) k (pos 0)) (still_some [] s w) (still k l)
      (value-some (pos 1) s k r e ∙ ring ((pos 1 *ℤ common s) ∷ r.c ∷ []) (times (var 0) (var 1)) (times (var 1) (var 0)) refl)

  pub height-none : (k : ℕ) → k < columns → get_or s k None ≡ None → cell_at columns cells 1 k ≡ pos 0
  height-none k l e =
      zero_factor (pos 1 *ℤ common s) (cell_at columns cells 1 k) (still_some [] s w)
      (ring ((pos 1 *ℤ common s) ∷ cell_at columns cells 1 k ∷ []) (times (var 0) (var 1)) (times (var 1) (var 0)) refl ∙ sym (still k l) ∙ ap (λ z. d *ℤ z) (value-none (pos 1) s k e) ∙ product_zero d)

-- ---- the heights
module _ (b : Basis) (fs : List Fold) (h : StandsAtEnd b fs) (line : List ℤ) (t : HasHeights b line) where
  table : IsTable h.end.lines
  table = reached-table b.columns (map (fold_row b.columns) fs) (are_rows b.columns fs) h.ends.steps h.end h.ends.reaches

  scale : ℕ
  scale = scale_to h.end.lines b.columns

  least : IsLeastScale h.end.lines b.columns (scale_to h.end.lines b.columns)
  least = least_scale h.end.lines table b.columns

  positive : pos 0 <ℤ number line 0
  positive = by (number line 0) refl
    where
      by : (z : ℤ) → number line 0 ≡ z → pos 0 <ℤ number line 0
      by (pos zero) e = absurd (let a = h.stands.positive in let f : b.denominator ≡ pos 0 = sym t.first ∙ ap (λ z. pos t.factor *ℤ z) e ∙ product_zero (pos t.factor) in omega (arith, ints))
      by (pos (suc n)) e = omega (arith, ints)
      by (negsuc n) e = absurd (let a = h.stands.positive in let f : pos t.factor *ℤ negsuc n ≡ b.denominator = ap (λ z. pos t.factor *ℤ z) (sym e) ∙ t.first in let s = t.some in negative t.factor n s f a)
        where
          negative : (k n : ℕ) → 0 < k → pos k *ℤ negsuc n ≡ b.denominator → pos 0 <ℤ b.denominator → ⊥
          negative (suc k) n l f a = omega (arith, ints)
          negative zero n l f a = omega arith

  -- the first number is a scale, and the others are the heights
  basic-height : (k : ℕ) (r : Line) → k < b.columns → get_or h.end.lines k None ≡ Some r → r.d *ℤ number line (k + 1) ≡ number line 0 *ℤ r.c
  basic-height k r l e =
      cancel (pos t.factor) (r.d *ℤ number line (k + 1)) (number line 0 *ℤ r.c) (pos_some t.factor t.some)
      (ring (pos t.factor ∷ r.d ∷ number line (k + 1) ∷ []) (times (var 0) (times (var 1) (var 2))) (times (var 1) (times (var 0) (var 2))) refl
      ∙ ap (λ z. r.d *ℤ z) (t.each k l)
      ∙ height-basic b.columns b.places.items b.cells.items b.denominator h.end.lines table h.stands k r l e
      ∙ ap (λ z. z *ℤ r.c) (sym t.first)
      ∙ ring (pos t.factor ∷ number line 0 ∷ r.c ∷ []) (times (times (var 0) (var 1)) (var 2)) (times (var 0) (times (var 1) (var 2))) refl)

  other-height : (k : ℕ) → k < b.columns → get_or h.end.lines k None ≡ None → number line (k + 1) ≡ pos 0
  other-height k l e =
      zero_factor (pos t.factor) (number line (k + 1)) (pos_some t.factor t.some) (t.each k l ∙ height-none b.columns b.places.items b.cells.items b.denominator h.end.lines table h.stands k l e)

  divides : scale_to h.end.lines b.columns ∣ unsigned_abs (number line 0)
  divides = least.least (unsigned_abs (number line 0)) (λ k r l e.
      (let f = sym (unsigned_abs-mul (number line 0) r.c) ∙ ap unsigned_abs (sym (basic-height k r l e)) ∙ unsigned_abs-mul r.d (number line (k + 1)) in
      subst (λ n. unsigned_abs r.d ∣ n) (sym f) (dvd-mul_right (unsigned_abs r.d) (unsigned_abs (number line (k + 1))))))

  -- what is left of it divides all
  rest-divides : (a : ℕ) → unsigned_abs (number line 0) ≡ scale_to h.end.lines b.columns * a → a ≡ 1
  rest-divides a e = t.lowest a (λ j l. at j l)
    where
      M : ℕ
      M = scale_to h.end.lines b.columns

      at : (j : ℕ) → j < b.columns + 1 → a ∣ unsigned_abs (number line j)
      at zero l = subst (λ n. a ∣ n) (sym e ∙ refl) (subst (λ n. a ∣ n) (let f : a * scale_to h.end.lines b.columns ≡ scale_to h.end.lines b.columns * a = omega arith in f) (dvd-mul_right a (scale_to h.end.lines b.columns)))
      at (suc k) l = by (get_or h.end.lines k None) refl
        where
          kk : k + 1 ≡ suc k
          kk = omega arith

          by : (o : Option Line) → get_or h.end.lines k None ≡ o → a ∣ unsigned_abs (number line (suc k))
          by None f = subst (λ n. a ∣ unsigned_abs n) (sym (ap (number line) (sym kk) ∙ other-height k (omega arith) f)) (dvd-zero a)
          by (Some r) f = subst (λ n. a ∣ unsigned_abs (number line n)) kk (part (unsigned_abs r.d) (unsigned_abs (number line (k + 1))) (unsigned_abs r.c) (least.whole k r (omega arith) f) (some_size r.d (table k r f).positive) same)
            where
              same : unsigned_abs r.d * unsigned_abs (number line (k + 1)) ≡ scale_to h.end.lines b.columns * a * unsigned_abs r.c
              same = sym (unsigned_abs-mul r.d (number line (k + 1))) ∙ ap unsigned_abs (basic-height k r (omega arith) f) ∙ unsigned_abs-mul (number line 0) r.c ∙ ap (λ n. n * unsigned_abs r.c) e

              -- d g = M a c, where d divides M c
              part : (d g c : ℕ) → d ∣ scale_to h.end.lines b.columns * c → 0 < d → d * g ≡ scale_to h.end.lines b.columns * a * c → a ∣ g
              part d g c q p s =
                  let n = (scale_to h.end.lines b.columns * c) / d in
                  let e = quotient_of d (scale_to h.end.lines b.columns * c) q in
                  let f : d * g ≡ d * (a * n) = s ∙ turn (scale_to h.end.lines b.columns) a c ∙ ap (λ z. a * z) e ∙ swap a d n in
                  subst (λ z. a ∣ z) (sym (cancels d g (a * n) p f)) (dvd-mul_right a n)
                where
                  turn : (m a c : ℕ) → m * a * c ≡ a * (m * c)
                  turn m a c = omega arith

                  swap : (a d n : ℕ) → a * (d * n) ≡ d * (a * n)
                  swap a d n = omega arith

  scale-is : scale_to h.end.lines b.columns ≡ unsigned_abs (number line 0)
  scale-is =
      let a = unsigned_abs (number line 0) / scale_to h.end.lines b.columns in
      let e = quotient_of (scale_to h.end.lines b.columns) (unsigned_abs (number line 0)) divides in
      sym (e ∙ ap (λ n. scale_to h.end.lines b.columns * n) (rest-divides a e) ∙ one (scale_to h.end.lines b.columns))
    where
      one : (n : ℕ) → n * 1 ≡ n
      one n = omega arith

  scale-number : pos (scale_to h.end.lines b.columns) ≡ number line 0
  scale-number = let a = positive in let e = scale-is in omega (arith, ints)

  height-at : (k : ℕ) → k < b.columns → (o : Option Line) → get_or h.end.lines k None ≡ o → number line (k + 1) ≡ height_by (scale_to h.end.lines b.columns) o
  height-at k l None e = other-height k l e
  height-at k l (Some r) e =
      cancel r.d (number line (k + 1)) (height_by (scale_to h.end.lines b.columns) (Some r)) (λ f. (let a = (table k r e).positive in omega (arith, ints)))
      (basic-height k r l e ∙ ap (λ z. z *ℤ r.c) (sym scale-number)
      ∙ sym (height_is (scale_to h.end.lines b.columns) (Some r) (λ q f. (let P : Line → Type 0 = λ z. pos 0 <ℤ z.d in subst P (some_once r q f) (table k r e).positive))
      (λ q f. (let P : Line → Type 0 = λ z. unsigned_abs z.d ∣ scale_to h.end.lines b.columns * unsigned_abs z.c in subst P (some_once r q f) (least.whole k r l e)))))

  pub heights-are : (hs : List ℤ) → length hs ≡ b.columns → ((k : ℕ) → k < b.columns → get_or hs k (pos 0) ≡ number line (k + 1)) → IsFeasible b.columns (map (fold_row b.columns) fs) None hs
  heights-are hs c each =
      let P : List ℤ → Type 0 = λ xs. IsFeasible b.columns (map (fold_row b.columns) fs) None xs in
      subst P (sym all) (end-heights b.columns (map (fold_row b.columns) fs) h.end (scales_of b.columns h.end.lines) (heights_by b.columns (scale_to h.end.lines b.columns) h.end.lines) h.ends (scaling_is b.columns h.end.lines table))
    where
      count : length (heights_by b.columns (scale_to h.end.lines b.columns) h.end.lines) ≡ b.columns
      count = ranged_length (λ k. height_by (scale_to h.end.lines b.columns) (get_or h.end.lines k None)) b.columns

      all : hs ≡ heights_by b.columns (scale_to h.end.lines b.columns) h.end.lines
      all = same_lists hs (heights_by b.columns (scale_to h.end.lines b.columns) h.end.lines) (c ∙ sym count) (λ k d l.
          (get_or_default hs k d (pos 0) l
          ∙ each k (omega arith)
          ∙ height-at k (omega arith) (get_or h.end.lines k None) refl
          ∙ sym (ranged_get (λ k. height_by (scale_to h.end.lines b.columns) (get_or h.end.lines k None)) b.columns k d (omega arith))))

-- ---- the multipliers
module _ (b : Basis) (fs : List Fold) (over : AreFoldsOver b.columns fs) (j : ℕ) (h : IsStuck b fs j) (low : List ℤ) (l : IsLowered b.line.items low) where
  s : List (Option Line)
  s = h.stands.table.lines

  first : (r : Line) × (get_or h.stands.table.lines (b.columns + j) None ≡ Some r)
  first = let f = first_slack-found b.columns _ h.stands.table.lines (b.columns + j) (moving-infeasible b.columns h.stands.table.lines (b.columns + j) h.moves).0 in (f.row, f.is)

  number-is : (p : Place) → number_at b.line.items p ≡ pos l.k *ℤ number_at low p
  number-is (Row r) = sym (product_zero (pos l.k))
  number-is (Column p) = l.same p

  coefficients-are : (ps : List Place) → map (number_at b.line.items) ps ≡ map (λ z. pos l.k *ℤ z) (map (number_at low) ps)
  coefficients-are [] = refl
  coefficients-are (p ∷ ps) = λ i. number-is p i ∷ coefficients-are ps i

  rawly : IsLineFor (fold_row b.columns h.fold) h.stands.table.lines (line_in b.places.items b.line.items)
  rawly = raw b fs over h.stands j h.fold h.is b.line.items h.line.row

  low-positive : pos 0 <ℤ number low 0
  low-positive = by (number low 0) refl
    where
      by : (z : ℤ) → number low 0 ≡ z → pos 0 <ℤ number low 0
      by (pos zero) e = absurd (let a = rawly.positive in let f : number b.line.items 0 ≡ pos 0 = l.same 0 ∙ ap (λ z. pos l.k *ℤ z) e ∙ product_zero (pos l.k) in omega (arith, ints))
      by (pos (suc n)) e = omega (arith, ints)
      by (negsuc n) e = absurd (let a = rawly.positive in let f : pos l.k *ℤ negsuc n ≡ number b.line.items 0 = ap (λ z. pos l.k *ℤ z) (sym e) ∙ sym (l.same 0) in negative l.k n l.factor f a)
        where
          negative : (k n : ℕ) → 0 < k → pos k *ℤ negsuc n ≡ number b.line.items 0 → pos 0 <ℤ number b.line.items 0 → ⊥
          negative (suc k) n l f a = omega (arith, ints)
          negative zero n l f a = omega arith

  lowest : IsLowest (line_in b.places.items low)
  lowest m all = l.lowest m (λ p. at p (let c : (p ≡ 0) ⊎ (p ≡ 1) ⊎ ((2 ≤ p) × (p < b.columns + 2)) ⊎ (b.columns + 2 ≤ p) = grind arith in c))
    where
      at : (p : ℕ) → (p ≡ 0) ⊎ (p ≡ 1) ⊎ ((2 ≤ p) × (p < b.columns + 2)) ⊎ (b.columns + 2 ≤ p) → m ∣ unsigned_abs (number low p)
      at p (inl e) = subst (λ n. m ∣ unsigned_abs (number low n)) (sym e) (all 0 (pos 0) (omega arith))
      at p (inr (inl e)) = subst (λ n. m ∣ unsigned_abs (number low n)) (sym e) (all 1 (pos 0) (omega arith))
      at p (inr (inr (inl e))) =
          let v = h.stands.stands.taken p e.0 e.1 in
          subst (λ z. m ∣ unsigned_abs z) (coefficient_there b.places.items low v.0 (Column p) v.1)
          (all (suc (suc v.0)) (pos 0) (let a = (from_place b.places.items v.0 (Row 0) (Column p) v.1).0 in let c = length-map b.places.items (number_at low) in omega arith))
      at p (inr (inr (inr e))) = subst (λ z. m ∣ unsigned_abs z) (sym (number_past low p (let a = l.count in let c = h.line.row.count in omega arith))) (dvd-zero m)

  is-reduced : IsReduced (line_in b.places.items b.line.items) (line_in b.places.items low)
  is-reduced = record {
    k = l.k;
    factor = l.factor;
    same = λ i. l.same 0 i ∷ l.same 1 i ∷ coefficients-are b.places.items i;
    positive = low-positive;
    lowest = lowest;
  }

  same-line : line_in b.places.items low ≡ first.0
  same-line =
      let t = loaded-table b fs over h.stands in
      let r = h.stands.loaded.reaches in
      lowest-same (fold_row b.columns h.fold) h.stands.table.lines t (line_in b.places.items low) first.0
      (line-reduced (fold_row b.columns h.fold) h.stands.table.lines (line_in b.places.items b.line.items) (line_in b.places.items low) rawly is-reduced)
      (real b fs over h.stands j h.fold h.is b.line.items h.line.row first.0 first.1) lowest
      (run-lowest b.columns (start_table b.columns (map (fold_row b.columns) fs)) r.tables h.stands.table r.run (start-lowest b.columns (length (map (fold_row b.columns) fs)) (map (fold_row b.columns) fs)) (b.columns + j) first.0 first.1)

  pub stuck-end : (ms : List (ℕ × ℤ)) (n : ℕ) → n ≡ length fs → ms ≡ multipliers_of b.columns n (b.columns + j) (line_in b.places.items low) → IsInfeasible b.columns (map (fold_row b.columns) fs) None ms
  stuck-end ms n e f =
      let P : List (ℕ × ℤ) → Type 0 = λ xs. IsInfeasible b.columns (map (fold_row b.columns) fs) None xs in
      subst P (sym (f ∙ (λ i. multipliers_of b.columns ((e ∙ sym (length-map fs (fold_row b.columns))) i) (b.columns + j) (same-line i))))
      (fails-here b.columns (map (fold_row b.columns) fs) h.stands.table h.stands.loaded (b.columns + j) first.0 h.moves (get_there h.stands.table.lines (b.columns + j) first.0 first.1))

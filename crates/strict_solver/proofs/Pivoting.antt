-- The lines of a grid before and after a pivot.
--     solved_line      the solved row stands for the line that is solved for y
--     put_line         a combination stands for the line with the new line put in
--     pivot_lines      the table after the pivot
use Rattle.std.proofs.Common.{◌≡◌, ◌≢◌, ℕ, zero, suc, ◌+◌, ◌^◌, ◌<◌, ◌≤◌, ◌⊎◌, inl, inr, refl, sym, ap, ◌∙◌, subst, arith, ℤ, pos, negsuc, ◌+ℤ◌, ◌*ℤ◌, neg_ℤ, ◌<ℤ◌, List, [], ◌∷◌, map, length, get_or, set, length-set, get_or-set_same, get_or-set_other, unsigned_abs, Some}
use Rattle.std.specs.Prelude.{All, slice_get}
use Rattle.std.specs.Int.{◌∣◌}
use Rattle.std.proofs.lemmas.Int.{ints}
use Rattle.std.proofs.lemmas.List.{length-map, get_or-map, same_lists, get_or_default}
use Rattle.std.proofs.lemmas.Nat.Gcd.{dvd-zero}
use Rattle.ntfe_nums.specs.Vectors.{sign}
use Rattle.ntfe_nums.proofs.Ring.{product_zero, zero_product, one_product, sum_zero}
use Rattle.ntfe_model.specs.Solver.{line_numbers, coefficient_at, solved_for, with_put_in, IsReduced}
use Rattle.strict_solver.specs.declared.place.Place.{Place}
use Rattle.strict_solver.specs.declared.place.Place.TheVariants.{Row, Column}
use Rattle.strict_solver.specs.Rows.{number, number_at, line_in, IsLowRow, IsSolvedRow, IsCombination}
use Rattle.strict_solver.specs.Grids.{IsPlacing}
use Rattle.strict_solver.proofs.Rows.{number_past}
use Rattle.strict_solver.proofs.Elimination.{from_place}
use Rattle.strict_solver.proofs.Placing.{not_same, at_leaving, at_entering, at_others, somewhere, placing_after, coefficient_there}
use Rattle.strict_solver.proofs.Pivots.{coefficient-put_in, length-zipped, zero_terms}
use Rattle.strict_solver.proofs.Steps.{sign_positive}
use Rattle.ntfe_nums.proofs.Signs.{positive_product}

pub some_place : {X : Type 0} (xs : List X) (i : ℕ) → i < length xs → (x : X) × (slice_get xs i ≡ Some x)
some_place [] i h = absurd (omega arith)
some_place (z ∷ xs) zero h = (z, refl)
some_place (z ∷ xs) (suc i) h = some_place xs i (omega arith)

-- ---- sizes
size_signed : (z e : ℤ) → z ≢ pos 0 → unsigned_abs (sign z *ℤ e) ≡ unsigned_abs e
size_signed (pos zero) e n = absurd (n refl)
size_signed (pos (suc m)) e n = ap unsigned_abs (one_product e)
size_signed (negsuc m) e n = omega (arith, ints)

size_neg : (e : ℤ) → unsigned_abs (neg_ℤ e) ≡ unsigned_abs e
size_neg e = omega (arith, ints)

-- ---- the solved row
module _ (p : ℕ) (l2 : 2 ≤ p) (row new : List ℤ) (some : number row p ≢ pos 0) (h : IsSolvedRow row p new) where
  kinds : (j : ℕ) → (j ≡ 0) ⊎ (j ≡ p) ⊎ ((j ≢ 0) × (j ≢ p))
  kinds j = grind arith

  -- each number of the one row is as large as one of the other
  size_of_new : (j : ℕ) → (i : ℕ) × (unsigned_abs (number new j) ≡ unsigned_abs (number row i))
  size_of_new j = by (kinds j)
    where
      by : (j ≡ 0) ⊎ (j ≡ p) ⊎ ((j ≢ 0) × (j ≢ p)) → (i : ℕ) × (unsigned_abs (number new j) ≡ unsigned_abs (number row i))
      by (inl e) = (p, ap (λ k. unsigned_abs (number new k)) e ∙ ap unsigned_abs h.first ∙ size_signed (number row p) (number row p) some)
      by (inr (inl e)) = (0, ap (λ k. unsigned_abs (number new k)) e ∙ ap unsigned_abs h.at ∙ size_signed (number row p) (number row 0) some)
      by (inr (inr n)) = (j, ap unsigned_abs (h.others j n.0 n.1) ∙ size_neg (sign (number row p) *ℤ number row j) ∙ size_signed (number row p) (number row j) some)

  size_of_old : (j : ℕ) → (i : ℕ) × (unsigned_abs (number row j) ≡ unsigned_abs (number new i))
  size_of_old j = by (kinds j)
    where
      by : (j ≡ 0) ⊎ (j ≡ p) ⊎ ((j ≢ 0) × (j ≢ p)) → (i : ℕ) × (unsigned_abs (number row j) ≡ unsigned_abs (number new i))
      by (inl e) = (p, ap (λ k. unsigned_abs (number row k)) e ∙ sym (size_signed (number row p) (number row 0) some) ∙ sym (ap unsigned_abs h.at))
      by (inr (inl e)) = (0, ap (λ k. unsigned_abs (number row k)) e ∙ sym (size_signed (number row p) (number row p) some) ∙ sym (ap unsigned_abs h.first))
      by (inr (inr n)) = (j, sym (size_signed (number row p) (number row j) some) ∙ sym (size_neg (sign (number row p) *ℤ number row j)) ∙ sym (ap unsigned_abs (h.others j n.0 n.1)))

  pub solved_low : (width : ℕ) → IsLowRow width row → IsLowRow width new
  solved_low width low = record {
    positive = subst (λ z. pos 0 <ℤ z) (sym h.first) (sign_positive (number row p) some);
    narrow = record { each = λ k. (let s = size_of_new k in subst (λ n. n < 2 ^ width) (sym s.1) (low.narrow.each s.0)) };
    lowest = λ m all. low.lowest m (λ j. let s = size_of_old j in subst (λ n. m ∣ n) (sym s.1) (all s.0));
  }

-- what divides a line's numbers divides its row's
pub line_divides : (columns : ℕ) (places : List Place) → IsPlacing columns places → (row : List ℤ) → length row ≡ columns + 2 → (m : ℕ) → All (λ z. m ∣ unsigned_abs z) (line_numbers (line_in places row))
    → (j : ℕ) → m ∣ unsigned_abs (number row j)
line_divides columns places h row count m all zero = all 0 (pos 0) (omega arith)
line_divides columns places h row count m all (suc zero) = all 1 (pos 0) (omega arith)
line_divides columns places h row count m all (suc (suc j)) = by (let c : (suc (suc j) < columns + 2) ⊎ (columns + 2 ≤ suc (suc j)) = grind arith in c)
  where
    by : (suc (suc j) < columns + 2) ⊎ (columns + 2 ≤ suc (suc j)) → m ∣ unsigned_abs (number row (suc (suc j)))
    by (inl l) =
        let t = h.taken (suc (suc j)) (omega arith) l in
        let f = from_place places t.0 (Row 0) (Column (suc (suc j))) t.1 in
        let n = length-map places (number_at row) in
        subst (λ z. m ∣ unsigned_abs z) (coefficient_there places row t.0 (Column (suc (suc j))) t.1) (all (suc (suc t.0)) (pos 0) (let a = f.0 in omega arith))
    by (inr l) = subst (λ z. m ∣ unsigned_abs z) (sym (number_past row (suc (suc j)) (omega arith))) (dvd-zero m)

-- ---- lines
module _ (columns : ℕ) (places : List Place) (h : IsPlacing columns places) (x y r p : ℕ) (ex : slice_get places x ≡ Some (Row r)) (ey : slice_get places y ≡ Some (Column p)) where
  abbrev pub after : List Place
  after = set (set places x (Column p)) y (Row r)

  after_length : length (set (set places x (Column p)) y (Row r)) ≡ length places
  after_length = length-set (set places x (Column p)) y (Row r) ∙ length-set places x (Column p)

  l2 : 2 ≤ p
  l2 = (h.columns_within y p ey).0

  x_within : x < length places
  x_within = (from_place places x (Row r) (Row r) ex).0

  y_within : y < length places
  y_within = (from_place places y (Row r) (Column p) ey).0

  -- another column is another one
  other_column : (b q : ℕ) → b ≢ y → slice_get places b ≡ Some (Column q) → q ≢ p
  other_column b q n e f = n (h.apart b y (Column p) (e ∙ ap (λ k. Some (Column k)) f) ey)

  module _ (row new : List ℤ) (count : length new ≡ columns + 2) (some : number row p ≢ pos 0) (s : IsSolvedRow row p new) (low : (m : ℕ) → ((j : ℕ) → m ∣ unsigned_abs (number new j)) → m ≡ 1) where
    at_y : coefficient_at (line_in places row) y ≡ number row p
    at_y = coefficient_there places row y (Column p) ey

    solved_at : (b : ℕ) → b < length places → get_or (solved_for (line_in places row) x y).coefficients b (pos 0) ≡ coefficient_at (line_in (set (set places x (Column p)) y (Row r)) new) b
    solved_at b l = by (somewhere places x y r p ex ey b)
      where
        g : ℤ → ℤ
        g e = neg_ℤ (sign (coefficient_at (line_in places row) y) *ℤ e)

        first : List ℤ
        first = map (λ e. neg_ℤ (sign (coefficient_at (line_in places row) y) *ℤ e)) (map (number_at row) places)

        count_first : length (map (λ e. neg_ℤ (sign (coefficient_at (line_in places row) y) *ℤ e)) (map (number_at row) places)) ≡ length places
        count_first = length-map (map (number_at row) places) (λ e. neg_ℤ (sign (coefficient_at (line_in places row) y) *ℤ e)) ∙ length-map places (number_at row)

        by : (b ≡ x) ⊎ (b ≡ y) ⊎ ((b ≢ x) × (b ≢ y)) → get_or (solved_for (line_in places row) x y).coefficients b (pos 0) ≡ coefficient_at (line_in (set (set places x (Column p)) y (Row r)) new) b
        by (inl e) =
            ap (λ k. get_or (solved_for (line_in places row) x y).coefficients k (pos 0)) e
            ∙ get_or-set_same (set (map (λ e. neg_ℤ (sign (coefficient_at (line_in places row) y) *ℤ e)) (map (number_at row) places)) y (pos 0)) x (sign (coefficient_at (line_in places row) y) *ℤ number row 0) (pos 0)
            (let a = x_within in let c = count_first in let d = length-set (map (λ e. neg_ℤ (sign (coefficient_at (line_in places row) y) *ℤ e)) (map (number_at row) places)) y (pos 0) in omega arith)
            ∙ ap (λ z. sign z *ℤ number row 0) at_y ∙ sym s.at
            ∙ sym (coefficient_there (set (set places x (Column p)) y (Row r)) new x (Column p) (at_leaving places x y r p ex ey))
            ∙ ap (coefficient_at (line_in (set (set places x (Column p)) y (Row r)) new)) (sym e)
        by (inr (inl e)) =
            ap (λ k. get_or (solved_for (line_in places row) x y).coefficients k (pos 0)) e
            ∙ get_or-set_other (set (map (λ e. neg_ℤ (sign (coefficient_at (line_in places row) y) *ℤ e)) (map (number_at row) places)) y (pos 0)) x y (sign (coefficient_at (line_in places row) y) *ℤ number row 0) (pos 0)
            (λ f. not_same places x y r p ex ey (sym f))
            ∙ get_or-set_same (map (λ e. neg_ℤ (sign (coefficient_at (line_in places row) y) *ℤ e)) (map (number_at row) places)) y (pos 0) (pos 0) (let a = y_within in let c = count_first in omega arith)
            ∙ sym (coefficient_there (set (set places x (Column p)) y (Row r)) new y (Row r) (at_entering places x y r p ex ey))
            ∙ ap (coefficient_at (line_in (set (set places x (Column p)) y (Row r)) new)) (sym e)
        by (inr (inr n)) =
            get_or-set_other (set (map (λ e. neg_ℤ (sign (coefficient_at (line_in places row) y) *ℤ e)) (map (number_at row) places)) y (pos 0)) x b (sign (coefficient_at (line_in places row) y) *ℤ number row 0) (pos 0) n.0
            ∙ get_or-set_other (map (λ e. neg_ℤ (sign (coefficient_at (line_in places row) y) *ℤ e)) (map (number_at row) places)) y b (pos 0) (pos 0) n.1
            ∙ get_or-map (λ e. neg_ℤ (sign (coefficient_at (line_in places row) y) *ℤ e)) (map (number_at row) places) b (pos 0) (pos 0) (let c = length-map places (number_at row) in omega arith)
            ∙ (let o = some_place places b l in
            ap (λ z. neg_ℤ (sign (coefficient_at (line_in places row) y) *ℤ z)) (coefficient_there places row b o.0 o.1)
            ∙ on o.0 o.1
            ∙ sym (coefficient_there (set (set places x (Column p)) y (Row r)) new b o.0 (at_others places x y r p ex ey b n.0 n.1 ∙ o.1)))
          where
            on : (o : Place) → slice_get places b ≡ Some o → neg_ℤ (sign (coefficient_at (line_in places row) y) *ℤ number_at row o) ≡ number_at new o
            on (Row q) e = ap neg_ℤ (product_zero (sign (coefficient_at (line_in places row) y)))
            on (Column q) e =
                ap (λ z. neg_ℤ (sign z *ℤ number row q)) at_y
                ∙ sym (s.others q (λ f. let a = (h.columns_within b q e).0 in omega arith) (other_column b q n.1 e))

    pub solved_line : IsReduced (solved_for (line_in places row) x y) (line_in (set (set places x (Column p)) y (Row r)) new)
    solved_line = record {
      k = 1;
      factor = omega arith;
      same = λ i. d_same i ∷ c_same i ∷ (whole ∙ ones (map (number_at new) (set (set places x (Column p)) y (Row r)))) i;
      positive = subst (λ z. pos 0 <ℤ z) (sym s.first) (sign_positive (number row p) some);
      lowest = λ m all. low m (line_divides columns (set (set places x (Column p)) y (Row r)) (placing_after columns places h x y r p ex ey) new count m all);
    }
      where
        ones : (zs : List ℤ) → zs ≡ map (λ z. pos 1 *ℤ z) zs
        ones [] = refl
        ones (z ∷ zs) = λ i. sym (one_product z) i ∷ ones zs i

        d_same : (solved_for (line_in places row) x y).d ≡ pos 1 *ℤ number new 0
        d_same = ap (λ z. sign z *ℤ z) at_y ∙ sym s.first ∙ sym (one_product (number new 0))

        c_same : (solved_for (line_in places row) x y).c ≡ pos 1 *ℤ number new 1
        c_same =
            ap (λ z. neg_ℤ (sign z *ℤ number row 1)) at_y
            ∙ sym (s.others 1 (λ f. omega arith) (λ f. let a = l2 in omega arith))
            ∙ sym (one_product (number new 1))

        counted : length (solved_for (line_in places row) x y).coefficients ≡ length places
        counted =
            length-set (set (map (λ e. neg_ℤ (sign (coefficient_at (line_in places row) y) *ℤ e)) (map (number_at row) places)) y (pos 0)) x (sign (coefficient_at (line_in places row) y) *ℤ number row 0)
            ∙ length-set (map (λ e. neg_ℤ (sign (coefficient_at (line_in places row) y) *ℤ e)) (map (number_at row) places)) y (pos 0)
            ∙ length-map (map (number_at row) places) (λ e. neg_ℤ (sign (coefficient_at (line_in places row) y) *ℤ e)) ∙ length-map places (number_at row)

        whole : (solved_for (line_in places row) x y).coefficients ≡ map (number_at new) (set (set places x (Column p)) y (Row r))
        whole =
            same_lists _ _ (counted ∙ sym after_length ∙ sym (length-map (set (set places x (Column p)) y (Row r)) (number_at new)))
            (λ k d l.
            (let a = counted in
            let b = after_length in
            let c = length-map (set (set places x (Column p)) y (Row r)) (number_at new) in
            get_or_default (solved_for (line_in places row) x y).coefficients k d (pos 0) l
            ∙ solved_at k (omega arith)
            ∙ get_or_default (map (number_at new) (set (set places x (Column p)) y (Row r))) k (pos 0) d (omega arith)))

  -- ---- a line with the new line put in
  module _ (q m new : List ℤ) (count : length new ≡ columns + 2) (c : IsCombination q p (set m 0 (pos 0)) (number m 0) new) (qd : pos 0 <ℤ number q 0) (md : pos 0 <ℤ number m 0) (mc : length m ≡ columns + 2) (qc : length q ≡ columns + 2) where
    f_is : coefficient_at (line_in places q) y ≡ number q p
    f_is = coefficient_there places q y (Column p) ey

    first_zero : number (set m 0 (pos 0)) 0 ≡ pos 0
    first_zero = get_or-set_same m 0 (pos 0) (pos 0) (omega arith)

    -- the numbers of the combination at a column that is not p
    combined_at : (j : ℕ) → j ≢ p → j ≢ 0 → number q j *ℤ number m 0 +ℤ number q p *ℤ number m j ≡ pos c.k *ℤ number new j
    combined_at j n o =
        (λ i. sym (get_or-set_other q p j (pos 0) (pos 0) n) i *ℤ number m 0 +ℤ number q p *ℤ sym (get_or-set_other m 0 j (pos 0) (pos 0) o) i)
        ∙ c.same j

    put_at : (b : ℕ) → b < length places → coefficient_at (with_put_in (line_in places q) y (line_in (set (set places x (Column p)) y (Row r)) m)) b ≡ pos c.k *ℤ coefficient_at (line_in (set (set places x (Column p)) y (Row r)) new) b
    put_at b l =
        coefficient-put_in (line_in places q) (line_in (set (set places x (Column p)) y (Row r)) m) y b
        (let a = length-map places (number_at q) in omega arith)
        (let a = length-map (set (set places x (Column p)) y (Row r)) (number_at m) in let d = after_length in omega arith)
        ∙ (λ i. get_or (set (map (number_at q) places) y (pos 0)) b (pos 0) *ℤ number m 0 +ℤ f_is i *ℤ coefficient_at (line_in (set (set places x (Column p)) y (Row r)) m) b)
        ∙ by (somewhere places x y r p ex ey b)
      where
        by : (b ≡ x) ⊎ (b ≡ y) ⊎ ((b ≢ x) × (b ≢ y)) → get_or (set (map (number_at q) places) y (pos 0)) b (pos 0) *ℤ number m 0 +ℤ number q p *ℤ coefficient_at (line_in (set (set places x (Column p)) y (Row r)) m) b
            ≡ pos c.k *ℤ coefficient_at (line_in (set (set places x (Column p)) y (Row r)) new) b
        by (inl e) =
            let own : get_or (set (map (number_at q) places) y (pos 0)) b (pos 0) ≡ pos 0 =
            ap (λ k. get_or (set (map (number_at q) places) y (pos 0)) k (pos 0)) e
            ∙ get_or-set_other (map (number_at q) places) y x (pos 0) (pos 0) (not_same places x y r p ex ey)
            ∙ coefficient_there places q x (Row r) ex in
            let here : (row : List ℤ) → coefficient_at (line_in (set (set places x (Column p)) y (Row r)) row) b ≡ number row p =
            λ row. ap (coefficient_at (line_in (set (set places x (Column p)) y (Row r)) row)) e ∙ coefficient_there (set (set places x (Column p)) y (Row r)) row x (Column p) (at_leaving places x y r p ex ey) in
            let gone : number (set q p (pos 0)) p ≡ pos 0 = get_or-set_same q p (pos 0) (pos 0) (let a = (h.columns_within y p ey).1 in omega arith) in
            let kept : number (set m 0 (pos 0)) p ≡ number m p = get_or-set_other m 0 p (pos 0) (pos 0) (λ g. let a = l2 in omega arith) in
            (λ i. own i *ℤ number m 0 +ℤ number q p *ℤ here m i)
            ∙ (λ i. sym gone i *ℤ number m 0 +ℤ number q p *ℤ sym kept i)
            ∙ c.same p ∙ ap (λ z. pos c.k *ℤ z) (sym (here new))
        by (inr (inl e)) =
            let own : get_or (set (map (number_at q) places) y (pos 0)) b (pos 0) ≡ pos 0 =
            ap (λ k. get_or (set (map (number_at q) places) y (pos 0)) k (pos 0)) e
            ∙ get_or-set_same (map (number_at q) places) y (pos 0) (pos 0) (let a = y_within in let d = length-map places (number_at q) in omega arith) in
            let here : (row : List ℤ) → coefficient_at (line_in (set (set places x (Column p)) y (Row r)) row) b ≡ pos 0 =
            λ row. ap (coefficient_at (line_in (set (set places x (Column p)) y (Row r)) row)) e ∙ coefficient_there (set (set places x (Column p)) y (Row r)) row y (Row r) (at_entering places x y r p ex ey) in
            zero_terms (number m 0) (number q p) _ _ own (here m) ∙ sym (ap (λ z. pos c.k *ℤ z) (here new) ∙ product_zero (pos c.k))
        by (inr (inr n)) =
            let o = some_place places b l in
            (λ i. (get_or-set_other (map (number_at q) places) y b (pos 0) (pos 0) n.1 ∙ coefficient_there places q b o.0 o.1) i *ℤ number m 0
            +ℤ number q p *ℤ coefficient_there (set (set places x (Column p)) y (Row r)) m b o.0 (at_others places x y r p ex ey b n.0 n.1 ∙ o.1) i)
            ∙ on o.0 o.1
            ∙ ap (λ z. pos c.k *ℤ z) (sym (coefficient_there (set (set places x (Column p)) y (Row r)) new b o.0 (at_others places x y r p ex ey b n.0 n.1 ∙ o.1)))
          where
            on : (o : Place) → slice_get places b ≡ Some o → number_at q o *ℤ number m 0 +ℤ number q p *ℤ number_at m o ≡ pos c.k *ℤ number_at new o
            on (Row t) e = (λ i. zero_product (number m 0) i +ℤ product_zero (number q p) i) ∙ sym (product_zero (pos c.k))
            on (Column t) e = combined_at t (other_column b t n.1 e) (λ g. let a = (h.columns_within b t e).0 in omega arith)

    first_is : number q 0 *ℤ number m 0 ≡ pos c.k *ℤ number new 0
    first_is =
        sym (sum_zero (number q 0 *ℤ number m 0))
        ∙ ap (λ z. number q 0 *ℤ number m 0 +ℤ z) (sym (product_zero (number q p)))
        ∙ (λ i. sym (get_or-set_other q p 0 (pos 0) (pos 0) (λ g. let a = l2 in omega arith)) i *ℤ number m 0 +ℤ number q p *ℤ sym first_zero i)
        ∙ c.same 0

    pub combined_positive : pos 0 <ℤ number new 0
    combined_positive = at (number new 0) (subst (λ z. pos 0 <ℤ z) first_is (positive_product (number q 0) (number m 0) qd md))
      where
        at : (z : ℤ) → pos 0 <ℤ (pos c.k *ℤ z) → pos 0 <ℤ z
        at (pos zero) g = absurd (let e = product_zero (pos c.k) in omega (arith, ints))
        at (pos (suc n)) g = omega (arith, ints)
        at (negsuc n) g = absurd (never c.k n g)
          where
            never : (k n : ℕ) → pos 0 <ℤ (pos k *ℤ negsuc n) → ⊥
            never zero n g = let e = zero_product (negsuc n) in omega (arith, ints)
            never (suc k) n g = omega (arith, ints)

    pub put_line : IsReduced (with_put_in (line_in places q) y (line_in (set (set places x (Column p)) y (Row r)) m)) (line_in (set (set places x (Column p)) y (Row r)) new)
    put_line = record {
      k = c.k;
      factor = c.factor;
      same = λ i. first_is i ∷ second_is i ∷ whole i;
      positive = combined_positive;
      lowest = λ n all. c.lowest n (line_divides columns (set (set places x (Column p)) y (Row r)) (placing_after columns places h x y r p ex ey) new count n all);
    }
      where
        second_is : number q 1 *ℤ number m 0 +ℤ coefficient_at (line_in places q) y *ℤ number m 1 ≡ pos c.k *ℤ number new 1
        second_is = ap (λ z. number q 1 *ℤ number m 0 +ℤ z *ℤ number m 1) f_is ∙ combined_at 1 (λ g. let a = l2 in omega arith) (λ g. omega arith)

        counted : length (with_put_in (line_in places q) y (line_in (set (set places x (Column p)) y (Row r)) m)).coefficients ≡ length places
        counted =
            length-zipped (λ e. e.0 *ℤ number m 0 +ℤ coefficient_at (line_in places q) y *ℤ e.1) (length places) (set (map (number_at q) places) y (pos 0)) (map (number_at m) (set (set places x (Column p)) y (Row r)))
            (length-set (map (number_at q) places) y (pos 0) ∙ length-map places (number_at q))
            (length-map (set (set places x (Column p)) y (Row r)) (number_at m) ∙ after_length)

        whole : (with_put_in (line_in places q) y (line_in (set (set places x (Column p)) y (Row r)) m)).coefficients ≡ map (λ z. pos c.k *ℤ z) (map (number_at new) (set (set places x (Column p)) y (Row r)))
        whole =
            let d1 = length-map (set (set places x (Column p)) y (Row r)) (number_at new) in
            let d2 = length-map (map (number_at new) (set (set places x (Column p)) y (Row r))) (λ z. pos c.k *ℤ z) in
            same_lists _ _ (counted ∙ sym after_length ∙ sym d1 ∙ sym d2)
            (λ k d l.
            (let a = counted in
            let b = after_length in
            get_or_default (with_put_in (line_in places q) y (line_in (set (set places x (Column p)) y (Row r)) m)).coefficients k d (pos 0) l
            ∙ put_at k (omega arith)
            ∙ sym (get_or-map (λ z. pos c.k *ℤ z) (map (number_at new) (set (set places x (Column p)) y (Row r))) k (pos 0) d (omega arith))))

-- A basis that stands for a table: the rows of slacks that it gives, a slack that joins it, and its pivots.
--     raw-line       a slack's row is a line for its fold
--     joins          with one more slack, basic, it stands for the table with that slack's line
--     pivoted        with the slack's row put in, it stands for the table after the pivot
use Rattle.std.proofs.Common.{◌≡◌, ◌≢◌, ℕ, zero, suc, ◌+◌, ◌-◌, ◌<◌, ◌≤◌, ◌⊎◌, inl, inr, refl, sym, ap, ◌∙◌, subst, arith, ℤ, pos, ◌+ℤ◌, ◌-ℤ◌, ◌*ℤ◌, ◌<ℤ◌, List, [], ◌∷◌, ◌++◌, map, take, length, length-append, length-set, get_or, set, get_or-set_same, get_or-set_other, Some, None, Option}
use Rattle.std.specs.Prelude.{slice_get}
use Rattle.std.proofs.lemmas.Int.{ints}
use Rattle.std.proofs.lemmas.List.{length-map, get_or_past, map-append, length-take-le, get_or-take}
use Rattle.ntfe_nums.specs.Vectors.{sign}
use Rattle.ntfe_nums.proofs.Ring.{ring}
use Rattle.ntfe_nums.proofs.Ring.Expression.{var, num, plus, minus, times}
use Rattle.ntfe_model.specs.declared.nogood.Fold.{Fold}
use Rattle.ntfe_model.specs.Solver.{Line, fold_row, IsPivot}
use Rattle.strict_solver.specs.declared.place.Place.{Place}
use Rattle.strict_solver.specs.declared.place.Place.TheVariants.{Row, Column}
use Rattle.strict_solver.specs.Rows.{number, number_at, line_in}
use Rattle.strict_solver.specs.Grids.{row_at}
use Rattle.strict_solver.specs.Starts.{IsFoldOver}
use Rattle.strict_solver.specs.Equations.{combination, LineHolds, Holds}
use Rattle.strict_solver.specs.Continuing.{wider, wider_line, with_row, IsLowest, IsLineFor}
use Rattle.strict_solver.specs.Standing.{fold_sum, IsSlackRow, IsPutIn, StandsFor}
use Rattle.strict_solver.proofs.Forms.{combination-set}
use Rattle.strict_solver.proofs.Pivots.{IsTable, in_table, pivot-held, AreLowest, pivot-left, pivot-new, pivot-free, pivot-kept}
use Rattle.strict_solver.proofs.Placing.{coefficient_there, not_same, at_leaving, at_entering, at_others, somewhere, came, source, apart_after, column_after}
use Rattle.strict_solver.proofs.Pivoting.{some_place}
use Rattle.strict_solver.proofs.Elimination.{from_place}
use Rattle.strict_solver.proofs.Meaning.{row_value}
use Rattle.strict_solver.proofs.Deciding.{wider-holds}
use Rattle.strict_solver.proofs.Joining.{split-last, row-values, row-get, row-last, row-length}
use Rattle.strict_solver.proofs.Unique.{cancel}
use Rattle.strict_solver.proofs.Steps.{sign_positive}
use Rattle.strict_solver.proofs.Starting.{fold_row-length}
use Rattle.strict_solver.proofs.Entries.{not_both}

-- ---- sums over the variables
folded : (line a b c e : List ℤ) (al be : ℤ) (places : List Place) (vs : List ℤ) → ((v p : ℕ) → slice_get places v ≡ Some (Column p) → number line p ≡ number c p +ℤ number e p -ℤ al *ℤ number a p -ℤ be *ℤ number b p)
    → combination (map (number_at line) places) vs
    ≡ combination (map (number_at c) places) vs +ℤ combination (map (number_at e) places) vs -ℤ al *ℤ combination (map (number_at a) places) vs -ℤ be *ℤ combination (map (number_at b) places) vs
folded line a b c e al be [] vs h = ring (al ∷ be ∷ []) (num (pos 0)) (minus (minus (plus (num (pos 0)) (num (pos 0))) (times (var 0) (num (pos 0)))) (times (var 1) (num (pos 0)))) refl
folded line a b c e al be (o ∷ ps) [] h = ring (al ∷ be ∷ []) (num (pos 0)) (minus (minus (plus (num (pos 0)) (num (pos 0))) (times (var 0) (num (pos 0)))) (times (var 1) (num (pos 0)))) refl
folded line a b c e al be (Row r ∷ ps) (v ∷ vs) h =
    ap (λ z. pos 0 *ℤ v +ℤ z) (folded line a b c e al be ps vs (λ k p g. h (suc k) p g))
    ∙ ring (v ∷ al ∷ be ∷ combination (map (number_at a) ps) vs ∷ combination (map (number_at b) ps) vs ∷ combination (map (number_at c) ps) vs ∷ combination (map (number_at e) ps) vs ∷ [])
    (plus (times (num (pos 0)) (var 0)) (minus (minus (plus (var 5) (var 6)) (times (var 1) (var 3))) (times (var 2) (var 4))))
    (minus (minus (plus (plus (times (num (pos 0)) (var 0)) (var 5)) (plus (times (num (pos 0)) (var 0)) (var 6))) (times (var 1) (plus (times (num (pos 0)) (var 0)) (var 3)))) (times (var 2) (plus (times (num (pos 0)) (var 0)) (var 4)))) refl
folded line a b c e al be (Column p ∷ ps) (v ∷ vs) h =
    (λ t. h zero p refl t *ℤ v +ℤ folded line a b c e al be ps vs (λ k q g. h (suc k) q g) t)
    ∙ ring (v ∷ al ∷ be ∷ combination (map (number_at a) ps) vs ∷ combination (map (number_at b) ps) vs ∷ combination (map (number_at c) ps) vs ∷ combination (map (number_at e) ps) vs ∷ number a p ∷ number b p ∷ number c p ∷ number e p ∷ [])
    (plus (times (minus (minus (plus (var 9) (var 10)) (times (var 1) (var 7))) (times (var 2) (var 8))) (var 0)) (minus (minus (plus (var 5) (var 6)) (times (var 1) (var 3))) (times (var 2) (var 4))))
    (minus (minus (plus (plus (times (var 9) (var 0)) (var 5)) (plus (times (var 10) (var 0)) (var 6))) (times (var 1) (plus (times (var 7) (var 0)) (var 3)))) (times (var 2) (plus (times (var 8) (var 0)) (var 4)))) refl

-- a list each of whose numbers is mixed from those of two others
mixed : (d p x : ℤ) (new old line : List ℤ) (vs : List ℤ) → length new ≡ length old → length line ≡ length old → ((j : ℕ) → d *ℤ get_or new j (pos 0) ≡ p *ℤ get_or old j (pos 0) -ℤ x *ℤ get_or line j (pos 0))
    → d *ℤ combination new vs ≡ p *ℤ combination old vs -ℤ x *ℤ combination line vs
mixed d p x [] [] [] vs a b h = ring (d ∷ p ∷ x ∷ []) (times (var 0) (num (pos 0))) (minus (times (var 1) (num (pos 0))) (times (var 2) (num (pos 0)))) refl
mixed d p x [] [] (l ∷ line) vs a b h = absurd (omega arith)
mixed d p x [] (o ∷ old) line vs a b h = absurd (omega arith)
mixed d p x (n ∷ new) [] line vs a b h = absurd (omega arith)
mixed d p x (n ∷ new) (o ∷ old) [] vs a b h = absurd (omega arith)
mixed d p x (n ∷ new) (o ∷ old) (l ∷ line) [] a b h = ring (d ∷ p ∷ x ∷ []) (times (var 0) (num (pos 0))) (minus (times (var 1) (num (pos 0))) (times (var 2) (num (pos 0)))) refl
mixed d p x (n ∷ new) (o ∷ old) (l ∷ line) (v ∷ vs) a b h =
    ring (d ∷ n ∷ v ∷ combination new vs ∷ []) (times (var 0) (plus (times (var 1) (var 2)) (var 3))) (plus (times (times (var 0) (var 1)) (var 2)) (times (var 0) (var 3))) refl
    ∙ (λ t. h zero t *ℤ v +ℤ mixed d p x new old line vs (omega arith) (omega arith) (λ j. h (suc j)) t)
    ∙ ring (p ∷ x ∷ o ∷ l ∷ v ∷ combination old vs ∷ combination line vs ∷ [])
    (plus (times (minus (times (var 0) (var 2)) (times (var 1) (var 3))) (var 4)) (minus (times (var 0) (var 5)) (times (var 1) (var 6))))
    (minus (times (var 0) (plus (times (var 2) (var 4)) (var 5))) (times (var 1) (plus (times (var 3) (var 4)) (var 6)))) refl

-- ---- folds of values
combination-first : (es vs : List ℤ) (n : ℕ) → length es ≤ n → combination es (take n vs) ≡ combination es vs
combination-first [] vs n l = refl
combination-first (e ∷ es) vs zero l = absurd (omega arith)
combination-first (e ∷ es) [] (suc n) l = refl
combination-first (e ∷ es) (v ∷ vs) (suc n) l = ap (λ z. e *ℤ v +ℤ z) (combination-first es vs n (omega arith))

-- a fold's value at the first values, the heights
pub fold-values : (columns : ℕ) (f : Fold) (vs : List ℤ) → columns ≤ length vs → IsFoldOver columns f → combination (fold_row columns f) vs ≡ fold_sum (λ k. get_or vs k (pos 0)) f
fold-values columns f vs c h =
    sym (combination-first (fold_row columns f) vs columns (let a = fold_row-length columns f in omega arith))
    ∙ row_value columns f (take columns vs) (length-take-le columns vs c) h
    ∙ (λ t. at f.c h.c t +ℤ at f.d h.d t -ℤ f.alpha *ℤ at f.a h.a t -ℤ f.beta *ℤ at f.b h.b t)
  where
    at : (k : ℕ) → (1 ≤ k) × (k ≤ columns) → get_or (take columns vs) (k - 1) (pos 0) ≡ get_or vs (k - 1) (pos 0)
    at k l = get_or-take columns vs (k - 1) (pos 0) (let a = l.0 in let b = l.1 in omega arith)

module _ (columns : ℕ) (places : List Place) (cells : List ℤ) (d : ℤ) (s : List (Option Line)) (h : StandsFor columns places cells d s) where
  pub place-basic : (v : ℕ) (l : Line) → get_or s v None ≡ Some l → (r : ℕ) × (slice_get places v ≡ Some (Row r))
  place-basic v l e = let a = some_place places v (let b = in_table s v l e in let c = h.count in omega arith) in by a.0 a.1
    where
      by : (o : Place) → slice_get places v ≡ Some o → (r : ℕ) × (slice_get places v ≡ Some (Row r))
      by (Row r) g = (r, g)
      by (Column p) g = absurd (not_both (get_or s v None) l e (h.other v p g))

  pub place-other : (v : ℕ) → v < length s → get_or s v None ≡ None → (p : ℕ) × (slice_get places v ≡ Some (Column p))
  place-other v l e = let a = some_place places v (let c = h.count in omega arith) in by a.0 a.1
    where
      by : (o : Place) → slice_get places v ≡ Some o → (p : ℕ) × (slice_get places v ≡ Some (Column p))
      by (Column p) g = (p, g)
      by (Row r) g = let b = h.basic v r g in absurd (not_both (get_or s v None) b.0 b.1 e)

  -- ---- a slack's row
  pub raw-line : (f : Fold) (line : List ℤ) → columns ≤ length s → IsFoldOver columns f → IsSlackRow columns cells d f line → IsLineFor (fold_row columns f) s (line_in places line)
  raw-line f line cs over r = record {
    count = length-map places (number_at line) ∙ h.count;
    positive = (let P : ℤ → Type 0 = λ z. pos 0 <ℤ z in subst P (sym r.first) h.positive);
    zeros = λ b l e. (let p = place-basic b l e in coefficient_there places line b (Row p.0) p.1);
    value = value;
  }
    where
      row : ℕ → List ℤ
      row k = row_at (columns + 2) cells k

      sum : List ℤ → ℕ → ℤ
      sum vs k = combination (map (number_at (row_at (columns + 2) cells k)) places) vs

      value : (one : ℤ) (vs : List ℤ) → length vs ≡ length s → Holds one vs s
          → number line 0 *ℤ (combination (fold_row columns f) vs -ℤ one) ≡ number line 1 *ℤ one +ℤ combination (map (number_at line) places) vs
      value one vs c hs =
          (λ t. r.first t *ℤ (fold-values columns f vs (omega arith) over t -ℤ one))
          ∙ ring (d ∷ one ∷ at f.a ∷ at f.b ∷ at f.c ∷ at f.d ∷ f.alpha ∷ f.beta ∷ [])
          (times (var 0) (minus (minus (minus (plus (var 4) (var 5)) (times (var 6) (var 2))) (times (var 7) (var 3))) (var 1)))
          (minus (minus (minus (plus (times (var 0) (var 4)) (times (var 0) (var 5))) (times (var 6) (times (var 0) (var 2)))) (times (var 7) (times (var 0) (var 3)))) (times (var 0) (var 1))) refl
          ∙ (λ t. row-holds f.c over.c t +ℤ row-holds f.d over.d t -ℤ f.alpha *ℤ row-holds f.a over.a t -ℤ f.beta *ℤ row-holds f.b over.b t -ℤ d *ℤ one)
          ∙ ring (d ∷ one ∷ con f.a ∷ con f.b ∷ con f.c ∷ con f.d ∷ f.alpha ∷ f.beta ∷ sum vs (f.a - 1) ∷ sum vs (f.b - 1) ∷ sum vs (f.c - 1) ∷ sum vs (f.d - 1) ∷ [])
          (minus (minus (minus (plus (plus (times (var 4) (var 1)) (var 10)) (plus (times (var 5) (var 1)) (var 11))) (times (var 6) (plus (times (var 2) (var 1)) (var 8)))) (times (var 7) (plus (times (var 3) (var 1)) (var 9)))) (times (var 0) (var 1)))
          (plus (times (minus (minus (minus (plus (var 4) (var 5)) (times (var 6) (var 2))) (times (var 7) (var 3))) (var 0)) (var 1)) (minus (minus (plus (var 10) (var 11)) (times (var 6) (var 8))) (times (var 7) (var 9)))) refl
          ∙ (λ t. sym r.constant t *ℤ one +ℤ sym (folded line (row (f.a - 1)) (row (f.b - 1)) (row (f.c - 1)) (row (f.d - 1)) f.alpha f.beta places vs (λ v p e. let w = h.within v p e in r.coefficients p w.0 w.1)) t)
        where
          at : ℕ → ℤ
          at k = get_or vs (k - 1) (pos 0)

          con : ℕ → ℤ
          con k = number (row_at (columns + 2) cells (k - 1)) 1

          row-holds : (k : ℕ) → (1 ≤ k) × (k ≤ columns) → d *ℤ get_or vs (k - 1) (pos 0) ≡ number (row_at (columns + 2) cells (k - 1)) 1 *ℤ one +ℤ combination (map (number_at (row_at (columns + 2) cells (k - 1))) places) vs
          row-holds k l =
              let below : k - 1 < columns = (let a = l.0 in let b = l.1 in omega arith) in
              ap (λ z. z *ℤ get_or vs (k - 1) (pos 0)) (sym (h.first (k - 1) below)) ∙ h.holds one vs c hs (k - 1) below

  -- ---- one more slack
  pub joins : (q : List ℤ) (l : Line) → columns ≤ length s → IsTable s → AreLowest s → IsLineFor q s l → IsLowest l → StandsFor columns (places ++ Row 0 ∷ []) cells d (with_row s l)
  joins q l cs w low f ll = record {
    count = (let a = length-append places (Row 0 ∷ []) in let b = row-length s l in let c = h.count in omega arith);
    basic = λ v r e. basic v r (pushed places v (Row r) e);
    other = λ v p e. (let g = column v p e in row-get s l v (λ i. (let a = from_place places v (Row 0) (Column p) g in let b = h.count in let k = a.0 in omega arith)) ∙ ap wider_line (h.other v p g));
    within = λ v p e. h.within v p (column v p e);
    apart = λ u v p e g. h.apart u v p (column u p e) (column v p g);
    taken = λ p l m. (let a = h.taken p l m in (a.0, front a.0 (Column p) places a.1));
    positive = h.positive;
    first = h.first;
    holds = holds;
  }
    where
      front : (v : ℕ) (o : Place) (ps : List Place) → slice_get ps v ≡ Some o → slice_get (ps ++ Row 0 ∷ []) v ≡ Some o
      front v o [] e = cc
      front zero o (a ∷ ps) e = e
      front (suc v) o (a ∷ ps) e = front v o ps e

      pushed : (ps : List Place) (v : ℕ) (o : Place) → slice_get (ps ++ Row 0 ∷ []) v ≡ Some o → (slice_get ps v ≡ Some o) ⊎ ((v ≡ length ps) × (o ≡ Row 0))
      pushed [] zero o e = inr (refl, (let g : o ≡ Row 0 = cc in g))
      pushed [] (suc v) o e = cc
      pushed (a ∷ ps) zero o e = inl e
      pushed (a ∷ ps) (suc v) o e = by (pushed ps v o e)
        where
          by : (slice_get ps v ≡ Some o) ⊎ ((v ≡ length ps) × (o ≡ Row 0)) → (slice_get ps v ≡ Some o) ⊎ ((suc v ≡ suc (length ps)) × (o ≡ Row 0))
          by (inl g) = inl g
          by (inr g) = inr (ap suc g.0, g.1)

      column : (v p : ℕ) → slice_get (places ++ Row 0 ∷ []) v ≡ Some (Column p) → slice_get places v ≡ Some (Column p)
      column v p e = by (pushed places v (Column p) e)
        where
          by : (slice_get places v ≡ Some (Column p)) ⊎ ((v ≡ length places) × (Column p ≡ Row 0)) → slice_get places v ≡ Some (Column p)
          by (inl g) = g
          by (inr g) = let a = g.1 in cc

      basic : (v r : ℕ) → (slice_get places v ≡ Some (Row r)) ⊎ ((v ≡ length places) × (Row r ≡ Row 0)) → (k : Line) × (get_or (with_row s l) v None ≡ Some k)
      basic v r (inl g) =
          let b = h.basic v r g in
          (wider b.0, row-get s l v (λ i. (let a = from_place places v (Row 0) (Row r) g in let c = h.count in let k = a.0 in omega arith)) ∙ ap wider_line b.1)
      basic v r (inr g) = (wider l, ap (λ k. get_or (with_row s l) k None) (g.0 ∙ h.count) ∙ row-last s l)

      holds : (one : ℤ) (vs : List ℤ) → length vs ≡ length (with_row s l) → Holds one vs (with_row s l) → (k : ℕ) → k < columns → LineHolds one vs k (line_in (places ++ Row 0 ∷ []) (row_at (columns + 2) cells k))
      holds one vs c hs k lk =
          let row = row_at (columns + 2) cells k in
          let a = split-last (length s) vs (c ∙ row-length s l) in
          let P : List ℤ → Type 0 = λ z. Holds one z (with_row s l) in
          let Q : List ℤ → Type 0 = λ z. LineHolds one z k (line_in (places ++ Row 0 ∷ []) row) in
          let R : List ℤ → Type 0 = λ z. LineHolds one (a.0 ++ a.1 ∷ []) k (record { d = number row 0; c = number row 1; coefficients = z }) in
          let b = row-values q s l w low f ll one a.1 a.0 a.3 (subst P a.2 hs) in
          let count : length (map (number_at row) places) ≡ length a.0 = length-map places (number_at row) ∙ h.count ∙ sym a.3 in
          subst Q (sym a.2) (subst R (sym (map-append (number_at row) places (Row 0 ∷ []))) (wider-holds one a.1 a.0 k (line_in places row) count (let e = a.3 in omega arith) (h.holds one a.0 a.3 b.0 k lk)))

  -- ---- a pivot
  module _ (t : List (Option Line)) (x y r p : ℕ) (line new : List ℤ) (ws : IsTable s) (cs : columns ≤ length s) (ex : slice_get places x ≡ Some (Row r)) (ey : slice_get places y ≡ Some (Column p)) (pv : IsPivot x y s t)
      (slack : (one : ℤ) (vs : List ℤ) → length vs ≡ length s → Holds one vs s → d *ℤ get_or vs x (pos 0) ≡ number line 1 *ℤ one +ℤ combination (map (number_at line) places) vs)
      (some : number line p ≢ pos 0) (put : (k : ℕ) → k < columns → IsPutIn line p d (row_at (columns + 2) cells k) (row_at (columns + 2) new k)) where
    basic : (v q : ℕ) → slice_get (set (set places x (Column p)) y (Row r)) v ≡ Some (Row q) → (l : Line) × (get_or t v None ≡ Some l)
    basic v q e = by (came places x y r p ex ey v (Row q) e)
      where
        by : ((v ≡ x) × (Row q ≡ Column p)) ⊎ ((v ≡ y) × (Row q ≡ Row r)) ⊎ ((v ≢ x) × (v ≢ y) × (slice_get places v ≡ Some (Row q))) → (l : Line) × (get_or t v None ≡ Some l)
        by (inl a) = let f = a.1 in cc
        by (inr (inl a)) = (pv.new, ap (λ k. get_or t k None) a.0 ∙ pivot-new x y s t pv)
        by (inr (inr a)) = let l = h.basic v q a.2 in pivot-kept x y s t pv v l.0 l.1 a.0

    other : (v q : ℕ) → slice_get (set (set places x (Column p)) y (Row r)) v ≡ Some (Column q) → get_or t v None ≡ None
    other v q e = by (came places x y r p ex ey v (Column q) e)
      where
        by : ((v ≡ x) × (Column q ≡ Column p)) ⊎ ((v ≡ y) × (Column q ≡ Row r)) ⊎ ((v ≢ x) × (v ≢ y) × (slice_get places v ≡ Some (Column q))) → get_or t v None ≡ None
        by (inl a) = ap (λ k. get_or t k None) a.0 ∙ pivot-left x y s t pv
        by (inr (inl a)) = let f = a.1 in cc
        by (inr (inr a)) = pivot-free x y s t pv v (h.other v q a.2) a.1

    abbrev P : ℤ
    P = sign (number line p) *ℤ number line p

    height-holds : (one : ℤ) (vs : List ℤ) → length vs ≡ length s → Holds one vs s → (k : ℕ) → k < columns
        → LineHolds one vs k (line_in (set (set places x (Column p)) y (Row r)) (row_at (columns + 2) new k))
    height-holds one vs c hs k lk =
        cancel d (number (row_at (columns + 2) new k) 0 *ℤ vk) (number (row_at (columns + 2) new k) 1 *ℤ one +ℤ combination E vs) (λ e. (let a = h.positive in omega (arith, ints)))
        (ap (λ z. d *ℤ (z *ℤ vk)) i.first
        ∙ ring (d ∷ P ∷ vk ∷ []) (times (var 0) (times (var 1) (var 2))) (times (var 1) (times (var 0) (var 2))) refl
        ∙ ap (λ z. P *ℤ z) (ap (λ z. z *ℤ vk) (sym (h.first k lk)) ∙ h.holds one vs c hs k lk)
        ∙ ring (P ∷ X ∷ one ∷ number old 1 ∷ number line 1 ∷ combination O vs ∷ combination L vs ∷ [])
        (times (var 0) (plus (times (var 3) (var 2)) (var 5)))
        (plus (plus (times (minus (times (var 0) (var 3)) (times (var 1) (var 4))) (var 2)) (minus (times (var 0) (var 5)) (times (var 1) (var 6)))) (times (var 1) (plus (times (var 4) (var 2)) (var 6)))) refl
        ∙ (λ t. sym constant t *ℤ one +ℤ sym sums t +ℤ X *ℤ sym (slack one vs c hs) t)
        ∙ ring (d ∷ one ∷ number (row_at (columns + 2) new k) 1 ∷ combination E vs ∷ X ∷ vx ∷ [])
        (plus (plus (times (times (var 0) (var 2)) (var 1)) (times (var 0) (plus (var 3) (times (minus (num (pos 0)) (var 4)) (var 5))))) (times (var 4) (times (var 0) (var 5))))
        (times (var 0) (plus (times (var 2) (var 1)) (var 3))) refl)
      where
        old : List ℤ
        old = row_at (columns + 2) cells k

        i : IsPutIn line p d (row_at (columns + 2) cells k) (row_at (columns + 2) new k)
        i = put k lk

        X : ℤ
        X = sign (number line p) *ℤ number (row_at (columns + 2) cells k) p

        vk : ℤ
        vk = get_or vs k (pos 0)

        vx : ℤ
        vx = get_or vs x (pos 0)

        O : List ℤ
        O = map (number_at (row_at (columns + 2) cells k)) places

        L : List ℤ
        L = map (number_at line) places

        E : List ℤ
        E = map (number_at (row_at (columns + 2) new k)) (set (set places x (Column p)) y (Row r))

        after : (2 ≤ p) × (p < columns + 2)
        after = h.within y p ey

        constant : d *ℤ number (row_at (columns + 2) new k) 1 ≡ P *ℤ number (row_at (columns + 2) cells k) 1 -ℤ X *ℤ number line 1
        constant = i.others 1 (λ e. omega arith) (λ e. let a = after.0 in omega arith)

        count : length E ≡ length places
        count = length-map (set (set places x (Column p)) y (Row r)) (number_at (row_at (columns + 2) new k)) ∙ length-set (set places x (Column p)) y (Row r) ∙ length-set places x (Column p)

        lx : x < length places
        lx = (from_place places x (Row r) (Row r) ex).0

        nothing : d *ℤ pos 0 ≡ P *ℤ pos 0 -ℤ X *ℤ pos 0
        nothing = ring (d ∷ P ∷ X ∷ []) (times (var 0) (num (pos 0))) (minus (times (var 1) (num (pos 0))) (times (var 2) (num (pos 0)))) refl

        -- each number by those of the row and of the line
        each : (j : ℕ) → d *ℤ get_or (set E x (pos 0)) j (pos 0) ≡ P *ℤ get_or O j (pos 0) -ℤ X *ℤ get_or L j (pos 0)
        each j = by (somewhere places x y r p ex ey j) (let a : (j < length places) ⊎ (length places ≤ j) = grind arith in a)
          where
            by-three : (a b e : ℤ) → get_or (set E x (pos 0)) j (pos 0) ≡ a → get_or O j (pos 0) ≡ b → get_or L j (pos 0) ≡ e → d *ℤ a ≡ P *ℤ b -ℤ X *ℤ e
                → d *ℤ get_or (set E x (pos 0)) j (pos 0) ≡ P *ℤ get_or O j (pos 0) -ℤ X *ℤ get_or L j (pos 0)
            by-three a b e f g i q = ap (λ z. d *ℤ z) f ∙ q ∙ (λ t. P *ℤ sym g t -ℤ X *ℤ sym i t)

            at : (v : ℕ) (o : Place) → j ≡ v → slice_get places v ≡ Some o → (get_or O j (pos 0) ≡ number_at (row_at (columns + 2) cells k) o) × (get_or L j (pos 0) ≡ number_at line o)
            at v o e f = (ap (λ z. get_or O z (pos 0)) e ∙ coefficient_there places (row_at (columns + 2) cells k) v o f, ap (λ z. get_or L z (pos 0)) e ∙ coefficient_there places line v o f)

            standing : (o : Place) → j ≢ x → j ≢ y → slice_get places j ≡ Some o → d *ℤ get_or (set E x (pos 0)) j (pos 0) ≡ P *ℤ get_or O j (pos 0) -ℤ X *ℤ get_or L j (pos 0)
            standing (Row q) n m f =
                let a = at j (Row q) refl f in
                by-three (pos 0) (pos 0) (pos 0)
                (get_or-set_other E x j (pos 0) (pos 0) n ∙ coefficient_there (set (set places x (Column p)) y (Row r)) (row_at (columns + 2) new k) j (Row q) (at_others places x y r p ex ey j n m ∙ f)) a.0 a.1 nothing
            standing (Column q) n m f =
                let a = at j (Column q) refl f in
                let w = h.within j q f in
                by-three (number (row_at (columns + 2) new k) q) (number (row_at (columns + 2) cells k) q) (number line q)
                (get_or-set_other E x j (pos 0) (pos 0) n ∙ coefficient_there (set (set places x (Column p)) y (Row r)) (row_at (columns + 2) new k) j (Column q) (at_others places x y r p ex ey j n m ∙ f)) a.0 a.1
                (i.others q (λ e. let b = w.0 in omega arith) (λ e. m (h.apart j y q f (ey ∙ ap (λ z. Some (Column z)) (sym e)))))

            by : (j ≡ x) ⊎ (j ≡ y) ⊎ ((j ≢ x) × (j ≢ y)) → (j < length places) ⊎ (length places ≤ j) → d *ℤ get_or (set E x (pos 0)) j (pos 0) ≡ P *ℤ get_or O j (pos 0) -ℤ X *ℤ get_or L j (pos 0)
            by w (inr l) =
                by-three (pos 0) (pos 0) (pos 0) (get_or_past (set E x (pos 0)) j (pos 0) (let a = length-set E x (pos 0) in let b = count in omega arith))
                (get_or_past O j (pos 0) (let a = length-map places (number_at (row_at (columns + 2) cells k)) in omega arith)) (get_or_past L j (pos 0) (let a = length-map places (number_at line) in omega arith)) nothing
            by (inl e) (inl l) =
                let a = at x (Row r) e ex in
                by-three (pos 0) (pos 0) (pos 0) (ap (λ z. get_or (set E x (pos 0)) z (pos 0)) e ∙ get_or-set_same E x (pos 0) (pos 0) (let b = count in let c = lx in omega arith)) a.0 a.1 nothing
            by (inr (inl e)) (inl l) =
                let a = at y (Column p) e ey in
                by-three (pos 0) (number (row_at (columns + 2) cells k) p) (number line p)
                (ap (λ z. get_or (set E x (pos 0)) z (pos 0)) e ∙ get_or-set_other E x y (pos 0) (pos 0) (λ f. not_same places x y r p ex ey (sym f)) ∙ coefficient_there (set (set places x (Column p)) y (Row r)) (row_at (columns + 2) new k) y (Row r) (at_entering places x y r p ex ey)) a.0 a.1
                (ring (d ∷ sign (number line p) ∷ number line p ∷ number (row_at (columns + 2) cells k) p ∷ []) (times (var 0) (num (pos 0))) (minus (times (times (var 1) (var 2)) (var 3)) (times (times (var 1) (var 3)) (var 2))) refl)
            by (inr (inr n)) (inl l) = let o = some_place places j l in standing o.0 n.0 n.1 o.1

        sums : d *ℤ (combination E vs +ℤ (pos 0 -ℤ X) *ℤ vx) ≡ P *ℤ combination O vs -ℤ X *ℤ combination L vs
        sums =
            ap (λ z. d *ℤ z) (ap (λ z. combination E vs +ℤ (pos 0 -ℤ z) *ℤ vx) (sym (coefficient_there (set (set places x (Column p)) y (Row r)) (row_at (columns + 2) new k) x (Column p) (at_leaving places x y r p ex ey) ∙ i.at))
            ∙ sym (combination-set E vs x (pos 0) (let a = count in let b = lx in omega arith) (let a = count in let b = h.count in c-len a b)))
            ∙ mixed d P X (set E x (pos 0)) O L vs (length-set E x (pos 0) ∙ count ∙ sym (length-map places (number_at (row_at (columns + 2) cells k)))) (length-map places (number_at line) ∙ sym (length-map places (number_at (row_at (columns + 2) cells k)))) each
          where
            c-len : length E ≡ length places → length places ≡ length s → length E ≡ length vs
            c-len a b = a ∙ b ∙ sym c

    pub pivoted : StandsFor columns (set (set places x (Column p)) y (Row r)) new (sign (number line p) *ℤ number line p) t
    pivoted = record {
      count = length-set (set places x (Column p)) y (Row r) ∙ length-set places x (Column p) ∙ h.count ∙ sym pv.length_same;
      basic = basic;
      other = other;
      within = λ v q e. (let a = source places x y r p ex ey v (Column q) e in h.within a.0 q a.1);
      apart = λ u v q. apart_after places x y r p ex ey (Column q) (λ a b. h.apart a b q) u v;
      taken = λ q l m. (let a = h.taken q l m in column_after places x y r p ex ey q a.0 a.1);
      positive = sign_positive (number line p) some;
      first = λ k lk. (put k lk).first;
      holds = λ one vs c hs k lk. height-holds one vs (c ∙ pv.length_same) (pivot-held x y s t pv ws one vs (c ∙ pv.length_same) hs) k lk;
    }

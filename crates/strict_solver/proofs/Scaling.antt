-- The scaling of a table.
use Rattle.std.proofs.Common.{◌≡◌, ℕ, zero, suc, ◌+◌, ◌*◌, ◌^◌, ◌<◌, ◌≤◌, ◌⊎◌, inl, inr, refl, sym, ap, ◌∙◌, subst, arith, ℤ, pos, ◌*ℤ◌, ◌<ℤ◌, List, [], ◌∷◌, map, take, length, get_or, unsigned_abs, Option, Some, None}
use Rattle.std.specs.Prelude.{slice_get}
use Rattle.std.specs.Int.{◌∣◌}
use Rattle.std.specs.List.{range_with_len}
use Rattle.std.proofs.lemmas.Int.{unsigned_abs-mul}
use Rattle.std.proofs.lemmas.List.{length-map, get_or-map}
use Rattle.std.proofs.lemmas.Nat.Gcd.{dvd_trans, le_of_dvd}
use Rattle.std.proofs.Math.Nat.{dvd-mul_right, mul-dvd-mul_right}
use Rattle.ntfe_model.specs.Solver.{Line, first_wide, last_scale, IsScale, IsScaled, IsScaling}
use Rattle.strict_solver.specs.Scales.{reduced_denominator, common_multiple, scale_next, scale_to, scales_of, height_by, heights_by}
use Rattle.strict_solver.proofs.Rows.{exact_quotient}
use Rattle.strict_solver.proofs.Pivots.{IsTable}
use Rattle.strict_solver.proofs.Wide.{wide_first, narrow_first}
use Rattle.strict_solver.proofs.Denominators.{reduced_positive, whole_when, whole_only, multiple_first, multiple_second, multiple_least, multiple_positive}
use Rattle.ntfe_model.proofs.Lists.{range_length, range_get}
use Rattle.ntfe_nums.proofs.Comparisons.{not_le}
use Rattle.ntfe_nums.proofs.Signs.{some_size}
use Rattle.strict_solver.proofs.Moves.{le_true}

pub scale_start : (ls : List (Option Line)) → scale_to ls 0 ≡ 1
unfolding scale_to
scale_start ls = refl

pub scale_step : (ls : List (Option Line)) (k : ℕ) → scale_to ls (k + 1) ≡ scale_next (scale_to ls k) (get_or ls k None)
unfolding scale_to
scale_step ls k = ap (scale_to ls) (let e : k + 1 ≡ suc k = omega arith in e)

-- whole at each of the first k heights
abbrev IsWhole : List (Option Line) → ℕ → ℕ → Type 0
IsWhole ls k j = (i : ℕ) (r : Line) → i < k → get_or ls i None ≡ Some r → unsigned_abs r.d ∣ j * unsigned_abs r.c

pub record IsLeastScale (ls : List (Option Line)) (k m : ℕ) : Type 0 where
  pub positive : 0 < m
  pub whole : (i : ℕ) (r : Line) → i < k → get_or ls i None ≡ Some r → unsigned_abs r.d ∣ m * unsigned_abs r.c
  pub least : (j : ℕ) → ((i : ℕ) (r : Line) → i < k → get_or ls i None ≡ Some r → unsigned_abs r.d ∣ j * unsigned_abs r.c) → m ∣ j

one_divides : (n : ℕ) → 1 ∣ n
one_divides n = subst (λ z. 1 ∣ z) (let f : 1 * n ≡ n = omega arith in f) (dvd-mul_right 1 n)

pub least_scale : (ls : List (Option Line)) → IsTable ls → (k : ℕ) → IsLeastScale ls k (scale_to ls k)
least_scale ls w zero =
    let P : ℕ → Type 0 = λ m. IsLeastScale ls 0 m in
    subst P (sym (scale_start ls)) (record { positive = omega arith; whole = λ i r l e. absurd (omega arith); least = λ j h. one_divides j })
least_scale ls w (suc k) =
    let P : ℕ → Type 0 = λ m. IsLeastScale ls (suc k) m in
    let e : scale_to ls (suc k) ≡ scale_next (scale_to ls k) (get_or ls k None) = ap (scale_to ls) (let f : suc k ≡ k + 1 = omega arith in f) ∙ scale_step ls k in
    subst P (sym e) (by (get_or ls k None) refl (least_scale ls w k))
  where
    more : (m : ℕ) → m ≡ scale_to ls k → (i : ℕ) → i < suc k → (i < k) ⊎ (i ≡ k)
    more m e i l = grind arith

    by : (o : Option Line) → get_or ls k None ≡ o → IsLeastScale ls k (scale_to ls k) → IsLeastScale ls (suc k) (scale_next (scale_to ls k) o)
    by None e h = record {
      positive = h.positive;
      whole = λ i r l f. at i r f (let c : (i < k) ⊎ (i ≡ k) = grind arith in c);
      least = λ j g. h.least j (λ i r l f. g i r (omega arith) f);
    }
      where
        at : (i : ℕ) (r : Line) → get_or ls i None ≡ Some r → (i < k) ⊎ (i ≡ k) → unsigned_abs r.d ∣ scale_to ls k * unsigned_abs r.c
        at i r f (inl l) = h.whole i r l f
        at i r f (inr q) = let P : ℕ → Type 0 = λ n. get_or ls n None ≡ Some r in let g = subst P q f in cc
    by (Some t) e h =
        let d = unsigned_abs t.d in
        let c = unsigned_abs t.c in
        let pd = some_size t.d (w k t e).positive in
        let n = reduced_denominator d c in
        let pn = reduced_positive d c pd in
        let m = scale_to ls k in
        record {
          positive = multiple_positive m n h.positive pn;
          whole = λ i r l f. at i r f (let q : (i < k) ⊎ (i ≡ k) = grind arith in q);
          least = λ j g. multiple_least m n h.positive pn j (h.least j (λ i r l f. g i r (omega arith) f)) (whole_only d c pd j (g k t (omega arith) e));
        }
      where
        at : (i : ℕ) (r : Line) → get_or ls i None ≡ Some r → (i < k) ⊎ (i ≡ k) → unsigned_abs r.d ∣ common_multiple (scale_to ls k) (reduced_denominator (unsigned_abs t.d) (unsigned_abs t.c)) * unsigned_abs r.c
        at i r f (inl l) =
            dvd_trans (unsigned_abs r.d) (h.whole i r l f)
            (mul-dvd-mul_right (scale_to ls k) (multiple_first (scale_to ls k) (reduced_denominator (unsigned_abs t.d) (unsigned_abs t.c)) h.positive (reduced_positive (unsigned_abs t.d) (unsigned_abs t.c) (some_size t.d (w k t e).positive))) (unsigned_abs r.c))
        at i r f (inr q) =
            let P : ℕ → Type 0 = λ n. get_or ls n None ≡ Some r in
            let g : Some t ≡ Some r = sym e ∙ subst P q f in
            let u : t ≡ r = cc in
            let Q : Line → Type 0 = λ l. unsigned_abs l.d ∣ common_multiple (scale_to ls k) (reduced_denominator (unsigned_abs t.d) (unsigned_abs t.c)) * unsigned_abs l.c in
            subst Q u (whole_when (unsigned_abs t.d) (unsigned_abs t.c) (some_size t.d (w k t e).positive) _ (multiple_second (scale_to ls k) (reduced_denominator (unsigned_abs t.d) (unsigned_abs t.c)) h.positive (reduced_positive (unsigned_abs t.d) (unsigned_abs t.c) (some_size t.d (w k t e).positive))))

-- ---- lists taken from the front
taken_from : (ls : List (Option Line)) (n i : ℕ) (r : Line) → slice_get (take n ls) i ≡ Some (Some r) → (i < n) × (get_or ls i None ≡ Some r)
taken_from ls zero i r e = cc
taken_from [] (suc n) i r e = cc
taken_from (o ∷ ls) (suc n) zero r e = (omega arith, (let g : o ≡ Some r = cc in g))
taken_from (o ∷ ls) (suc n) (suc i) r e = let h = taken_from ls n i r e in (let a = h.0 in omega arith, h.1)

to_taken : (ls : List (Option Line)) (n i : ℕ) (r : Line) → i < n → get_or ls i None ≡ Some r → slice_get (take n ls) i ≡ Some (Some r)
to_taken ls zero i r l e = absurd (omega arith)
to_taken [] (suc n) i r l e = cc
to_taken (o ∷ ls) (suc n) zero r l e = ap Some e
to_taken (o ∷ ls) (suc n) (suc i) r l e = to_taken ls n i r (omega arith) e

pub scale_is : (ls : List (Option Line)) → IsTable ls → (k : ℕ) → IsScale (take k ls) (scale_to ls k)
scale_is ls w k =
    let h = least_scale ls w k in
    record {
      positive = h.positive;
      whole = λ i r e. (let t = taken_from ls k i r e in h.whole i r t.0 t.1);
      least = λ j p g. le_of_dvd p (h.least j (λ i r l e. g i r (to_taken ls k i r l e)));
    }

-- ---- ranges

pub ranged_length : {X : Type 0} (f : ℕ → X) (n : ℕ) → length (map f (range_with_len 0 n)) ≡ n
ranged_length f n = length-map (range_with_len 0 n) f ∙ range_length 0 n

pub ranged_get : {X : Type 0} (f : ℕ → X) (n k : ℕ) (d : X) → k < n → get_or (map f (range_with_len 0 n)) k d ≡ f k
ranged_get f n k d h = get_or-map f (range_with_len 0 n) k 0 d (let e = range_length 0 n in omega arith) ∙ ap f (range_get 0 n k h ∙ (let e : 0 + k ≡ k = omega arith in e))

last_of : (ms : List ℕ) (n : ℕ) → length ms ≡ suc n → last_scale ms ≡ get_or ms n 0
last_of [] n e = absurd (omega arith)
last_of (m ∷ []) zero e = refl
last_of (m ∷ []) (suc n) e = absurd (omega arith)
last_of (m ∷ o ∷ ms) zero e = absurd (omega arith)
last_of (m ∷ o ∷ ms) (suc n) e = last_of (o ∷ ms) n (omega arith)

pub last_is : (ls : List (Option Line)) (columns : ℕ) → last_scale (scales_of columns ls) ≡ scale_to ls columns
last_is ls zero = sym (scale_start ls)
last_is ls (suc n) =
    last_of (scales_of (suc n) ls) n (ranged_length (λ k. scale_to ls (k + 1)) (suc n)) ∙ ranged_get (λ k. scale_to ls (k + 1)) (suc n) n 0 (omega arith) ∙ ap (scale_to ls) (let e : n + 1 ≡ suc n = omega arith in e)

-- ---- the scaling
pub height_is : (m : ℕ) (o : Option Line) → ((r : Line) → o ≡ Some r → pos 0 <ℤ r.d) → ((r : Line) → o ≡ Some r → unsigned_abs r.d ∣ m * unsigned_abs r.c) → IsScaled m o (height_by m o)
height_is m None p w = refl
height_is m (Some r) p w = exact_quotient r.d (pos m *ℤ r.c) (p r refl) (subst (λ n. unsigned_abs r.d ∣ n) (sym (unsigned_abs-mul (pos m) r.c)) (w r refl))

pub scaling_is : (columns : ℕ) (ls : List (Option Line)) → IsTable ls → IsScaling columns ls (scales_of columns ls) (heights_by columns (scale_to ls columns) ls)
scaling_is columns ls w = record {
  counts = (ranged_length (λ k. scale_to ls (k + 1)) columns, ranged_length (λ k. height_by (scale_to ls columns) (get_or ls k None)) columns);
  scale = λ k h. (let P : ℕ → Type 0 = λ m. IsScale (take (k + 1) ls) m in subst P (sym (ranged_get (λ k. scale_to ls (k + 1)) columns k 0 h)) (scale_is ls w (k + 1)));
  scaled = λ k h. (let P : ℕ → Type 0 = λ m. IsScaled m (get_or ls k None) (get_or (heights_by columns (scale_to ls columns) ls) k (pos 0)) in
      let Q : ℤ → Type 0 = λ z. IsScaled (scale_to ls columns) (get_or ls k None) z in
      let least = least_scale ls w columns in
      subst P (sym (last_is ls columns))
      (subst Q (sym (ranged_get (λ k. height_by (scale_to ls columns) (get_or ls k None)) columns k (pos 0) h))
      (height_is (scale_to ls columns) (get_or ls k None) (λ r e. (w k r e).positive) (λ r e. least.whole k r h e))));
}

-- ---- the first wide number of a list by its places
pub wide_at : (width : ℕ) (zs : List ℤ) (k : ℕ) → k < length zs → ((i : ℕ) → i < k → unsigned_abs (get_or zs i (pos 0)) < 2 ^ width) → 2 ^ width ≤ unsigned_abs (get_or zs k (pos 0)) → first_wide width zs ≡ Some (get_or zs k (pos 0))
wide_at width [] k l h w = absurd (omega arith)
wide_at width (z ∷ zs) zero l h w = wide_first width z zs (le_true (2 ^ width) (unsigned_abs z) w)
wide_at width (z ∷ zs) (suc k) l h w = narrow_first width z zs (not_le (2 ^ width) (unsigned_abs z) (h 0 (omega arith))) ∙ wide_at width zs k (omega arith) (λ i j. h (suc i) (omega arith)) w

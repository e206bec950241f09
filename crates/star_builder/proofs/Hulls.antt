-- A linear form that no vertex lies below: neither does a vector, times a positive number, on which all dual vertices agree that it is in the polytope.
--     hull_over      the value there is not negative
use Rattle.std.proofs.Common.{◌≡◌, ◌≢◌, ℕ, zero, suc, ⊎_elim, refl, sym, ◌∙◌, subst, arith, ℤ, pos, negsuc, ◌+ℤ◌, ◌-ℤ◌, ◌*ℤ◌, ◌<ℤ◌, ◌≤ℤ◌, List, [], ◌∷◌}
use Rattle.std.specs.Prelude.{Contains}
use Rattle.std.proofs.lemmas.Int.{ints}
use Rattle.std.proofs.lemmas.List.Elements.{Contains-get_or}
use Rattle.ntfe_nums.specs.Vectors.{Vector, dot, multiple, origin}
use Rattle.ntfe_nums.proofs.Ring.{ring}
use Rattle.ntfe_nums.proofs.Ring.Expression.{var, num, minus, times}
use Rattle.ntfe_model.specs.Pairs.{VertexLists}
use Rattle.ntfe_model.specs.Reflexive.{IsTight, IsReflexive, at}
use Rattle.ntfe_nums.proofs.Exchanges.{cramer_form, swap_first, swap_middle, swap_last}
use Rattle.star_builder.proofs.Flanks.{numbers_of, has_number, number_within}
use Rattle.star_builder.proofs.LowSimplices.{turned_not_zero}
use Rattle.star_builder.proofs.Normals.{cancel_factor}
use Rattle.star_builder.proofs.Rises.{gap, rise, rise_gap, rise_first, rise_second, rise_third, rise_fourth, through, volume}
use Rattle.star_builder.proofs.Spanning.{spot, weight_of, facet_four, spanning_size, spanning_form}
use Rattle.star_builder.proofs.TouchedFacets.{depth_value, side_some, side_gap, alike, touched_facet}
use Rattle.star_builder.proofs.Tilts.{IsUnder, IsTiltedAlong, tilt_along, IsThrice, three_tilts}
use Rattle.star_builder.proofs.Searches.{some_not_zero}
use Rattle.ntfe_nums.proofs.Signs.{product_not_negative, sign_of, zero_or, zero_out, positive_product, zero_between}

module _ (p : VertexLists) (r : IsReflexive p) (m : Vector) (within : Contains p.dual m) (x : Vector) (k : ℤ) (positive : pos 0 <ℤ k) (level : dot m x ≡ pos 0 -ℤ k)
    (inside : (f : Vector) → Contains p.dual f → pos 0 ≤ℤ (k +ℤ dot f x)) where
  abbrev places : ℕ → Vector
  places = spot x p.vertices

  abbrev weights : ℕ → ℤ
  weights = weight_of k

  abbrev numbers : List ℕ
  numbers = numbers_of p.vertices

  abbrev value : ℤ → Vector → ℕ → ℤ
  value = gap places weights

  abbrev det : ℕ → ℕ → ℕ → ℕ → ℤ
  det = volume places weights

  -- ---- a form that is 0 at all vertices is 0

  spans_size : (s : ℤ) (n : Vector) → ((i : ℕ) → Contains numbers i → value s n i ≡ pos 0) → s ≡ pos 0
  spans_size s n none = spanning_size p r m within s n (λ i l. none (suc i) (has_number p.vertices i l))

  spans_form : (s : ℤ) (n : Vector) → ((i : ℕ) → Contains numbers i → value s n i ≡ pos 0) → dot n x ≡ pos 0
  spans_form s n none = spanning_form p r m within s n (λ i l. none (suc i) (has_number p.vertices i l)) x

  -- ---- three vertices that are independent with x

  abbrev HasBasis : Type 0
  HasBasis = (b : ℕ) × (c : ℕ) × (d : ℕ) × Contains numbers b × Contains numbers c × Contains numbers d × (det 0 b c d ≢ pos 0)

  first_swapped : (a b c d : ℕ) → det a b c d ≢ pos 0 → det b a c d ≢ pos 0
  first_swapped a b c d n = turned_not_zero (det a b c d) (det b a c d) (swap_first (places a) (places b) (places c) (places d)) n

  middle_swapped : (a b c d : ℕ) → det a b c d ≢ pos 0 → det a c b d ≢ pos 0
  middle_swapped a b c d n = turned_not_zero (det a b c d) (det a c b d) (swap_middle (places a) (places b) (places c) (places d)) n

  last_swapped : (a b c d : ℕ) → det a b c d ≢ pos 0 → det a b d c ≢ pos 0
  last_swapped a b c d n = turned_not_zero (det a b c d) (det a b d c) (swap_last (places a) (places b) (places c) (places d)) n

  basis_of : (a b c d : ℕ) → Contains numbers a → Contains numbers b → Contains numbers c → Contains numbers d
      → IsTight m (places a) → IsTight m (places b) → IsTight m (places c) → IsTight m (places d) → det a b c d ≢ pos 0 → HasBasis
  basis_of a b c d ha hb hc hd ta tb tc td independent =
      ⊎_elim (λ e1. ⊎_elim (λ e2. ⊎_elim (λ e3. ⊎_elim (λ e4. absurd (none e1 e2 e3 e4))
      (λ n. (a, b, c, ha, hb, hc, first_swapped a 0 b c (middle_swapped a b 0 c (last_swapped a b c 0 n)))) (zero_or (det a b c 0)))
      (λ n. (a, b, d, ha, hb, hd, first_swapped a 0 b d (middle_swapped a b 0 d n))) (zero_or (det a b 0 d)))
      (λ n. (a, c, d, ha, hc, hd, first_swapped a 0 c d n)) (zero_or (det a 0 c d)))
      (λ n. (b, c, d, hb, hc, hd, n)) (zero_or (det 0 b c d))
    where
      none : det 0 b c d ≡ pos 0 → det a 0 c d ≡ pos 0 → det a b 0 d ≡ pos 0 → det a b c 0 ≡ pos 0 → ⊥
      none e1 e2 e3 e4 =
          no k positive (cancel_factor (det a b c d) (pos 0 -ℤ k) (pos 0) independent
          ((λ i. det a b c d *ℤ sym level i) ∙ cramer_form m (places a) (places b) (places c) (places d) x
          ∙ (λ i. e1 i *ℤ ta i +ℤ e2 i *ℤ tb i +ℤ e3 i *ℤ tc i +ℤ e4 i *ℤ td i) ∙ sym (zero_out (det a b c d) (pos 0) refl)))
        where
          no : (k : ℤ) → pos 0 <ℤ k → pos 0 -ℤ k ≡ pos 0 → ⊥
          no k l e = absurd (omega (arith, ints, l, e))

  basis : HasBasis
  basis =
      let t = facet_four p r m within in
      let q = t.rising in
      basis_of (suc t.i) (suc t.j) (suc t.k) (suc t.l)
      (has_number p.vertices t.i (omega (arith, q.0, q.1, q.2, q.3))) (has_number p.vertices t.j (omega (arith, q.1, q.2, q.3))) (has_number p.vertices t.k (omega (arith, q.2, q.3))) (has_number p.vertices t.l q.3)
      t.four.first t.four.second t.four.third t.four.fourth t.four.independent

  -- ---- the form touches four vertices, and is negative at x

  module _ (s : ℤ) (n : Vector) (under : IsUnder places weights numbers s n) (negative : value s n 0 <ℤ pos 0) (a b c e : ℕ)
      (inside_list : Contains numbers a × Contains numbers b × Contains numbers c × Contains numbers e)
      (touches : (value s n a ≡ pos 0) × (value s n b ≡ pos 0) × (value s n c ≡ pos 0) × (value s n e ≡ pos 0))
      (independent : det a b c 0 ≢ pos 0) (apart : rise places weights a b c 0 e ≢ pos 0) where
    abbrev side : ℕ → ℤ
    side = rise places weights a b c e

    side_is : (i : ℕ) → side i ≡ value (det a b c e) (through places weights a b c e) i
    side_is i = side_gap p r x k s n 0 a b c e touches independent apart i

    -- some vertex is not level with the four
    not_level : (z : ℕ) × Contains numbers z × (side z ≢ pos 0)
    not_level = ⊎_elim (λ h. h) (λ none. absurd (flat none)) (some_not_zero side numbers)
      where
        flat : ((i : ℕ) → Contains (numbers_of p.vertices) i → rise (spot x p.vertices) (weight_of k) a b c e i ≡ pos 0) → ⊥
        flat none =
            side_some p r x k s n 0 a b c e touches independent apart (side_is 0 ∙ (λ t. spans_size (det a b c e) (through places weights a b c e) (λ i h. sym (side_is i) ∙ none i h) t *ℤ k -ℤ spans_form (det a b c e) (through places weights a b c e) (λ i h. sym (side_is i) ∙ none i h) t)
            ∙ ring (k ∷ []) (minus (times (num (pos 0)) (var 0)) (num (pos 0))) (num (pos 0)) refl)

    -- a number whose multiple by a negative number has a sign has the other
    other_sign_up : (v y z : ℤ) → v <ℤ pos 0 → v *ℤ y ≡ z → pos 0 ≤ℤ z → y ≤ℤ pos 0
    other_sign_up v y z l q o = ⊎_elim (λ h. absurd (no h)) (λ h. h) (sign_of y)
      where
        no : pos 0 <ℤ y → ⊥
        no h = clash ((pos 0 -ℤ v) *ℤ y) (v *ℤ y) z (positive_product (pos 0 -ℤ v) y (omega (arith, ints, l)) h) (ring (v ∷ y ∷ []) (times (minus (num (pos 0)) (var 0)) (var 1)) (minus (num (pos 0)) (times (var 0) (var 1))) refl) q o
          where
            clash : (f g z : ℤ) → pos 0 <ℤ f → f ≡ pos 0 -ℤ g → g ≡ z → pos 0 ≤ℤ z → ⊥
            clash f g z l1 e1 e2 l2 = absurd (omega (arith, ints, l1, e1, e2, l2))

    -- a dual vertex that is tight on the four is then tight on all vertices
    module _ (f : Vector) (h : Contains p.dual f) (ta : IsTight f (places a)) (tb : IsTight f (places b)) (tc : IsTight f (places c)) (te : IsTight f (places e)) where
      abbrev turned : Vector
      turned = multiple (negsuc 0) f

      turned_value : (i : ℕ) → value (pos 1) turned i ≡ weights i +ℤ dot f (places i)
      turned_value = depth_value p r x k f

      weight_one : (i : ℕ) → Contains numbers i → weights i ≡ pos 1
      weight_one zero q = absurd (let w = number_within p.vertices zero q in omega (arith, w.0))
      weight_one (suc i) q = refl

      tight_value : (i : ℕ) → Contains numbers i → IsTight f (places i) → value (pos 1) turned i ≡ pos 0
      tight_value i q t = turned_value i ∙ (λ j. weight_one i q j +ℤ t j)

      over : (i : ℕ) → Contains numbers i → pos 0 ≤ℤ value (pos 1) turned i
      over zero q = absurd (let w = number_within p.vertices zero q in omega (arith, w.0))
      over (suc i) q =
          by (value (pos 1) turned (suc i)) (dot f (at p.vertices i)) (turned_value (suc i))
          (r.within f (at p.vertices i) h (Contains-get_or p.vertices i origin (let w = number_within p.vertices (suc i) q in omega (arith, w.1))))
        where
          by : (z d : ℤ) → z ≡ pos 1 +ℤ d → negsuc 0 ≤ℤ d → pos 0 ≤ℤ z
          by z d q l = omega (arith, ints, q, l)

      none : (i : ℕ) → Contains numbers i → value (pos 1) turned i ≡ pos 0
      none i q =
          zero_between (value (pos 1) turned i) (over i q)
          (other_sign_up (value s n 0) (value (pos 1) turned i) (value (pos 1) turned 0 *ℤ value s n i) negative
          (alike p r x k s n 0 a b c e touches independent apart (pos 1) turned
          (tight_value a inside_list.0 ta, tight_value b inside_list.1 tb, tight_value c inside_list.2 tc, tight_value e inside_list.3 te) i)
          (product_not_negative (value (pos 1) turned 0) (value s n i) (subst (λ z. pos 0 ≤ℤ z) (sym (turned_value 0)) (inside f h)) (under i q)))

      tight_absurd : ⊥
      tight_absurd = no (spans_size (pos 1) turned none)
        where
          no : pos 1 ≡ pos 0 → ⊥
          no q = absurd (omega (arith, ints, q))

    touched_absurd : ⊥
    touched_absurd =
        (let h = touched_facet p r x k s n 0 a b c e touches independent apart under some inside_list not_level.0 not_level.1 not_level.2 in
        tight_absurd h.0 h.1 h.2 h.3 h.4 h.5)
      where
        some : gap (spot x p.vertices) (weight_of k) s n 0 ≢ pos 0
        some e = no (value s n 0) negative e
          where
            no : (z : ℤ) → z <ℤ pos 0 → z ≡ pos 0 → ⊥
            no z l q = absurd (omega (arith, ints, l, q))

  -- ---- a form that is negative at x

  behind : (a b c d : ℕ) → det a b c d ≢ pos 0 → det b c d a ≢ pos 0
  behind a b c d n = last_swapped b c a d (middle_swapped b a c d (first_swapped a b c d n))

  scaled_negative : (f y z : ℤ) → pos 0 <ℤ f → y ≡ f *ℤ z → z <ℤ pos 0 → y <ℤ pos 0
  scaled_negative f y z l e o =
      by y (f *ℤ z) (f *ℤ (pos 0 -ℤ z)) e (ring (f ∷ z ∷ []) (times (var 0) (minus (num (pos 0)) (var 1))) (minus (num (pos 0)) (times (var 0) (var 1))) refl) (positive_product f (pos 0 -ℤ z) l (omega (arith, ints, o)))
    where
      by : (y u w : ℤ) → y ≡ u → w ≡ pos 0 -ℤ u → pos 0 <ℤ w → y <ℤ pos 0
      by y u w e1 e2 l = omega (arith, ints, e1, e2, l)

  module _ (s : ℤ) (n : Vector) (under : IsUnder places weights numbers s n) (negative : value s n 0 <ℤ pos 0) where
    -- after three tilts about x the last is along the form through x and what is touched
    last_tilt : (t : IsThrice places weights numbers s n 0) (z : ℕ) → IsTiltedAlong places weights numbers t.size t.form (det t.y1 t.y2 t.y3 0) (through places weights t.y1 t.y2 t.y3 0) z → ⊥
    last_tilt t z u =
        touched_absurd u.size u.form u.under
        (scaled_negative u.factor (value u.size u.form 0) (value t.size t.form 0) u.positive (keeps 0 (rise_fourth places weights t.y1 t.y2 t.y3 0))
        (scaled_negative t.factor (value t.size t.form 0) (value s n 0) t.positive t.keeps negative))
        t.y1 t.y2 t.y3 u.y (t.within.0, t.within.1, t.within.2, u.within)
        (kept t.y1 (rise_first places weights t.y1 t.y2 t.y3 0) t.touches.0, kept t.y2 (rise_second places weights t.y1 t.y2 t.y3 0) t.touches.1, kept t.y3 (rise_third places weights t.y1 t.y2 t.y3 0) t.touches.2, u.touches)
        (behind 0 t.y1 t.y2 t.y3 t.independent)
        (λ q. u.apart (sym (rise_gap places weights t.y1 t.y2 t.y3 0 u.y) ∙ q))
      where
        keeps : (i : ℕ) → rise (spot x p.vertices) (weight_of k) t.y1 t.y2 t.y3 0 i ≡ pos 0
            → gap (spot x p.vertices) (weight_of k) u.size u.form i ≡ u.factor *ℤ gap (spot x p.vertices) (weight_of k) t.size t.form i
        keeps i e = u.keeps i (sym (rise_gap places weights t.y1 t.y2 t.y3 0 i) ∙ e)

        kept : (i : ℕ) → rise (spot x p.vertices) (weight_of k) t.y1 t.y2 t.y3 0 i ≡ pos 0 → gap (spot x p.vertices) (weight_of k) t.size t.form i ≡ pos 0
            → gap (spot x p.vertices) (weight_of k) u.size u.form i ≡ pos 0
        kept i e z = keeps i e ∙ zero_out u.factor (value t.size t.form i) z

    negative_absurd : ⊥
    negative_absurd = by (three_tilts places weights numbers s n under 0 basis.0 basis.1 basis.2 basis.3 basis.4 basis.5 basis.6)
      where
        some : (t : IsThrice (spot x p.vertices) (weight_of k) (numbers_of p.vertices) s n 0) → (z : ℕ) × Contains (numbers_of p.vertices) z × (gap (spot x p.vertices) (weight_of k) (det t.y1 t.y2 t.y3 0) (through (spot x p.vertices) (weight_of k) t.y1 t.y2 t.y3 0) z ≢ pos 0)
        some t =
            ⊎_elim (λ h. h) (λ none. absurd (behind 0 t.y1 t.y2 t.y3 t.independent (spans_size (det t.y1 t.y2 t.y3 0) (through places weights t.y1 t.y2 t.y3 0) none)))
            (some_not_zero (value (det t.y1 t.y2 t.y3 0) (through places weights t.y1 t.y2 t.y3 0)) numbers)

        by : IsThrice (spot x p.vertices) (weight_of k) (numbers_of p.vertices) s n 0 → ⊥
        by t = last_tilt t (some t).0 (tilt_along places weights numbers t.size t.form t.under (det t.y1 t.y2 t.y3 0) (through places weights t.y1 t.y2 t.y3 0) (some t).0 (some t).1 (some t).2)

  pub hull_over : (s : ℤ) (n : Vector) → IsUnder places weights numbers s n → pos 0 ≤ℤ value s n 0
  hull_over s n under = by (value s n 0) (λ l. negative_absurd s n under l)
    where
      by : (z : ℤ) → (z <ℤ pos 0 → ⊥) → pos 0 ≤ℤ z
      by (pos j) h = omega (arith, ints)
      by (negsuc j) h = absurd (h (omega (arith, ints)))

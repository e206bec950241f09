-- A point on two facets of a reflexive pair is on a facet that shares three independent vertices with the first.
--     The second facet's distance is a form that no vertex of the first lies below, and that is 0 at the point. It is tilted, away from the point, until it touches three
--     vertices; the first facet then turns about these until it meets another vertex.
--     IsRidgeAt      such a facet, and the vertices
--     ridge_at      it exists
use Rattle.std.proofs.Common.{◌≡◌, ◌≢◌, ℕ, zero, suc, ◌+◌, ◌<◌, ◌≤◌, ⊎_elim, refl, sym, ap, ◌∙◌, subst, arith, ℤ, pos, negsuc, ◌+ℤ◌, ◌-ℤ◌, ◌*ℤ◌, ◌<ℤ◌, ◌≤ℤ◌, neg_ℤ, List, [], ◌∷◌, length}
use Rattle.std.specs.Prelude.{Contains, filter}
use Rattle.std.proofs.lemmas.Int.{ints}
use Rattle.std.proofs.lemmas.Bool.Decides.{Decides-int_eq}
use Rattle.std.proofs.lemmas.List.Elements.{All-contains, Contains-get_or}
use Rattle.ntfe_nums.specs.Vectors.{Vector, origin, dot, difference, multiple, cofactors}
use Rattle.ntfe_nums.proofs.Ring.{ring}
use Rattle.ntfe_nums.proofs.Ring.Expression.{var, num, plus, minus, times, neg}
use Rattle.ntfe_nums.proofs.Exchanges.{swap_first, swap_middle, swap_last}
use Rattle.ntfe_nums.proofs.Signs.{above_zero, not_negative, positive_product, sign_of, square_positive, zero_between, zero_or, zero_out, positive_some}
use Rattle.ntfe_model.specs.Lists.{IsListing}
use Rattle.ntfe_model.specs.Pairs.{VertexLists}
use Rattle.ntfe_model.specs.Reflexive.{IsTight, IsReflexive}
use Rattle.ntfe_model.specs.Points.{SpanPlane, is_tight}
use Rattle.ntfe_model.proofs.Listings.{listing_filter, listing_range}
use Rattle.ntfe_model.proofs.PlaneNumbers.{zero_factor}
use Rattle.star_builder.proofs.FacetMembers.{lifted_along}
use Rattle.star_builder.proofs.Flanks.{numbers_of, has_number, number_within}
use Rattle.star_builder.proofs.Hulls.{hull_over}
use Rattle.star_builder.proofs.LowSimplices.{turned_not_zero}
use Rattle.star_builder.proofs.Normals.{normal_fixed}
use Rattle.star_builder.proofs.Rises.{gap, gap_multiple, gap_rise, gap_tilt, rise, volume}
use Rattle.star_builder.proofs.Searches.{some_not_zero, some_or_all}
use Rattle.star_builder.proofs.SpannedPlanes.{plane_spanned}
use Rattle.star_builder.proofs.Spanning.{spot, weight_of, facet_four, not_flat}
use Rattle.star_builder.proofs.TouchedFacets.{depth_value, side_some, alike, touched_facet}
use Rattle.star_builder.proofs.Tilts.{IsUnder, IsTiltedAlong, tilt_along, IsTilted, tilt_about, volume_gap, keeps_zero, IsThrice, three_held}

-- another facet with the point, and three vertices on both
pub record IsRidgeAt (p : VertexLists) (m x : Vector) : Type 0 where
  pub other : Vector
  pub among : Contains p.dual other
  pub differs : other ≢ m
  pub through_point : IsTight other x
  pub a : Vector
  pub b : Vector
  pub c : Vector
  pub vertices : Contains p.vertices a × Contains p.vertices b × Contains p.vertices c
  pub first : IsTight m a × IsTight m b × IsTight m c
  pub second : IsTight other a × IsTight other b × IsTight other c
  pub span : SpanPlane a b c

module _ (p : VertexLists) (r : IsReflexive p) (m : Vector) (within : Contains p.dual m) (x : Vector) (inside : (f : Vector) → Contains p.dual f → negsuc 0 ≤ℤ dot f x) (level : IsTight m x) where
  -- the point, for the number 0, and the vertices
  abbrev places : ℕ → Vector
  places = spot x p.vertices

  abbrev weights : ℕ → ℤ
  weights = weight_of (pos 1)

  abbrev numbers : List ℕ
  numbers = numbers_of p.vertices

  abbrev value : ℤ → Vector → ℕ → ℤ
  value = gap places weights

  abbrev det : ℕ → ℕ → ℕ → ℕ → ℤ
  det = volume places weights

  -- ---- how far they lie from a facet

  abbrev depth : Vector → ℕ → ℤ
  depth f = value (pos 1) (multiple (negsuc 0) f)

  depth_is : (f : Vector) (i : ℕ) → depth f i ≡ pos 1 +ℤ dot f (places i)
  depth_is f i = depth_value p r x (pos 1) f i ∙ ap (λ z. z +ℤ dot f (places i)) (one i)
    where
      one : (i : ℕ) → weight_of (pos 1) i ≡ pos 1
      one zero = refl
      one (suc i) = refl

  depth_none : (f : Vector) (i : ℕ) → IsTight f (places i) → depth f i ≡ pos 0
  depth_none f i t = depth_is f i ∙ ap (λ z. pos 1 +ℤ z) t

  depth_tight : (f : Vector) (i : ℕ) → depth f i ≡ pos 0 → IsTight f (places i)
  depth_tight f i e = by (dot f (places i)) (sym (depth_is f i) ∙ e)
    where
      by : (z : ℤ) → pos 1 +ℤ z ≡ pos 0 → z ≡ negsuc 0
      by z q = omega (arith, ints, q)

  vertex_of : (i : ℕ) → Contains numbers i → Contains p.vertices (places i)
  vertex_of zero c = absurd (let w = number_within p.vertices zero c in omega (arith, w.0))
  vertex_of (suc i) c = Contains-get_or p.vertices i origin (let w = number_within p.vertices (suc i) c in omega (arith, w.1))

  depth_over : (f : Vector) → Contains p.dual f → (i : ℕ) → Contains numbers i → pos 0 ≤ℤ depth f i
  depth_over f h i c = by (dot f (places i)) (depth f i) (r.within f (places i) h (vertex_of i c)) (depth_is f i)
    where
      by : (z d : ℤ) → negsuc 0 ≤ℤ z → d ≡ pos 1 +ℤ z → pos 0 ≤ℤ d
      by z d l e = omega (arith, ints, l, e)

  -- ---- the vertices of the facet

  abbrev on : List ℕ
  on = filter (λ k. is_tight m (places k)) numbers

  abbrev IsOn : ℕ → Type 0
  IsOn k = ((1 ≤ k) × (k < 1 + length p.vertices)) × IsTight m (places k)

  on_listing : IsListing (λ i j. i < j) IsOn on
  on_listing =
      listing_filter (λ i j. i < j) (λ k. (1 ≤ k) × (k < 1 + length p.vertices)) IsOn (λ k. is_tight m (places k)) numbers (listing_range 1 (length p.vertices))
      (λ k d e. (d, (Decides-int_eq (dot m (places k)) (negsuc 0)).0 e)) (λ k q. q.0) (λ k q. (Decides-int_eq (dot m (places k)) (negsuc 0)).1 q.1)

  on_number : (k : ℕ) → Contains on k → Contains numbers k
  on_number k c = (listing_range 1 (length p.vertices)).complete k (All-contains IsOn on k on_listing.sound c).0

  on_tight : (k : ℕ) → Contains on k → IsTight m (places k)
  on_tight k c = (All-contains IsOn on k on_listing.sound c).1

  in_on : (k : ℕ) → Contains numbers k → IsTight m (places k) → Contains on k
  in_on k c t = on_listing.complete k (number_within p.vertices k c, t)

  -- ---- a form that no vertex of the facet lies below, and a multiple of the depth, lie below all vertices

  abbrev lifted_size : ℤ → ℤ → ℤ
  lifted_size s l = pos 1 *ℤ s -ℤ neg_ℤ l *ℤ pos 1

  abbrev lifted_form : Vector → ℤ → Vector
  lifted_form n l = difference (multiple (pos 1) n) (multiple (neg_ℤ l) (multiple (negsuc 0) m))

  lifted_is : (s : ℤ) (n : Vector) (l : ℤ) (i : ℕ) → value s n i +ℤ l *ℤ depth m i ≡ value (lifted_size s l) (lifted_form n l) i
  lifted_is s n l i =
      ring (value s n i ∷ l ∷ depth m i ∷ []) (plus (var 0) (times (var 1) (var 2))) (minus (times (num (pos 1)) (var 0)) (times (neg (var 1)) (var 2))) refl
      ∙ gap_tilt places weights (pos 1) s (neg_ℤ l) (pos 1) n (multiple (negsuc 0) m) i

  lifted_none : (s : ℤ) (n : Vector) (l : ℤ) (i : ℕ) → IsTight m (places i) → value (lifted_size s l) (lifted_form n l) i ≡ value s n i
  lifted_none s n l i t = sym (lifted_is s n l i) ∙ by (value s n i) (l *ℤ depth m i) (zero_out l (depth m i) (depth_none m i t))
    where
      by : (y z : ℤ) → z ≡ pos 0 → y +ℤ z ≡ y
      by y z e = omega (arith, ints, e)

  module _ (s : ℤ) (n : Vector) (under : IsUnder places weights on s n) where
    factor : (l : ℤ) × (pos 0 ≤ℤ l) × ((i : ℕ) → Contains numbers i → pos 0 ≤ℤ (value s n i +ℤ l *ℤ depth m i))
    factor = lifted_along (value s n) (depth m) numbers (depth_over m within) (λ i c e. under i (in_on i c (depth_tight m i e)))

    lifted_under : IsUnder places weights numbers (lifted_size s factor.0) (lifted_form n factor.0)
    lifted_under i c = subst (λ z. pos 0 ≤ℤ z) (lifted_is s n factor.0 i) (factor.2 i c)

    -- so neither does the point
    over_point : pos 0 ≤ℤ value s n 0
    over_point =
        subst (λ z. pos 0 ≤ℤ z) (lifted_none s n factor.0 0 level)
        (hull_over p r m within x (pos 1) (omega (arith, ints)) level (λ f h. by (dot f x) (inside f h)) (lifted_size s factor.0) (lifted_form n factor.0) lifted_under)
      where
        by : (z : ℤ) → negsuc 0 ≤ℤ z → pos 0 ≤ℤ (pos 1 +ℤ z)
        by z l = omega (arith, ints, l)

  -- ---- a tilt that keeps the form 0 at the point: towards its side

  abbrev IsZeroAt : ℤ → Vector → Type 0
  IsZeroAt s n = value s n 0 ≡ pos 0

  -- some vertex of the facet is on the side of the point
  same_side : (i j k : ℕ) → det i j k 0 ≢ pos 0 → (e : ℕ) × Contains on e × (pos 0 <ℤ (det i j k e *ℤ det i j k 0))
  same_side i j k apart = ⊎_elim (λ h. h) (λ none. absurd (away none)) (some_or_all (λ e. pos 0 <ℤ (det i j k e *ℤ det i j k 0)) (λ e. (det i j k e *ℤ det i j k 0) ≤ℤ pos 0) (λ e. sign_of (det i j k e *ℤ det i j k 0)) on)
    where
      size : ℤ
      size = volume (spot x p.vertices) (weight_of (pos 1)) i j k 0

      form : Vector
      form = multiple size (cofactors (spot x p.vertices i) (spot x p.vertices j) (spot x p.vertices k))

      turned : (e : ℕ) → gap (spot x p.vertices) (weight_of (pos 1)) (size *ℤ pos 0) form e ≡ neg_ℤ (volume (spot x p.vertices) (weight_of (pos 1)) i j k e *ℤ size)
      turned e =
          sym (gap_multiple places weights size (pos 0) (cofactors (places i) (places j) (places k)) e) ∙ ap (λ z. size *ℤ z) (volume_gap places weights numbers i j k e)
          ∙ ring (size ∷ det i j k e ∷ []) (times (var 0) (neg (var 1))) (neg (times (var 1) (var 0))) refl

      away : ((e : ℕ) → Contains on e → (det i j k e *ℤ det i j k 0) ≤ℤ pos 0) → ⊥
      away none =
          clash (size *ℤ size) (square_positive size apart)
          (subst (λ z. pos 0 ≤ℤ z) (turned 0) (over_point (size *ℤ pos 0) form (λ e c. subst (λ z. pos 0 ≤ℤ z) (sym (turned e)) (up (det i j k e *ℤ size) (none e c)))))
        where
          up : (z : ℤ) → z ≤ℤ pos 0 → pos 0 ≤ℤ neg_ℤ z
          up z l = omega (arith, ints, l)

          clash : (z : ℤ) → pos 0 <ℤ z → pos 0 ≤ℤ neg_ℤ z → ⊥
          clash z l o = absurd (omega (arith, ints, l, o))

  turn : (s : ℤ) (n : Vector) → IsUnder places weights on s n → IsZeroAt s n → (i j k z : ℕ) → Contains on z → det i j k z ≢ pos 0
      → (e : ℕ) × (t : IsTilted places weights on s n i j k e) × IsZeroAt t.size t.form
  turn s n under zero_at i j k z hz apart = ⊎_elim flat (λ a. towards (same_side i j k a)) (zero_or (det i j k 0))
    where
      flat : det i j k 0 ≡ pos 0
          → (e : ℕ) × (t : IsTilted (spot x p.vertices) (weight_of (pos 1)) (filter (λ k. is_tight m (spot x p.vertices k)) (numbers_of p.vertices)) s n i j k e) × (gap (spot x p.vertices) (weight_of (pos 1)) t.size t.form 0 ≡ pos 0)
      flat e = let t = tilt_about places weights on s n under i j k z hz apart in (z, t, keeps_zero places weights on s n i j k z t 0 e zero_at)

      towards : (e : ℕ) × Contains on e × (pos 0 <ℤ (det i j k e *ℤ det i j k 0))
          → (e : ℕ) × (t : IsTilted (spot x p.vertices) (weight_of (pos 1)) (filter (λ k. is_tight m (spot x p.vertices k)) (numbers_of p.vertices)) s n i j k e) × (gap (spot x p.vertices) (weight_of (pos 1)) t.size t.form 0 ≡ pos 0)
      towards (e, h, l) =
          let t = tilt_about places weights on s n under i j k e h (some (det i j k e) (det i j k 0) l) in
          (e, t, zero_between (value t.size t.form 0) (over_point t.size t.form t.under) (subst (λ z. value t.size t.form 0 ≤ℤ z) (zero_out t.factor (value s n 0) zero_at) (t.falls 0 (not_negative (det i j k e *ℤ det i j k 0) l))))
        where
          some : (y z : ℤ) → pos 0 <ℤ (y *ℤ z) → y ≢ pos 0
          some y z l e = positive_some (y *ℤ z) l (ring (y ∷ z ∷ []) (times (var 0) (var 1)) (times (var 1) (var 0)) refl ∙ zero_out z y e)

  -- ---- the facet turns about three vertices

  behind : (a b c d : ℕ) → det a b c d ≢ pos 0 → det b c d a ≢ pos 0
  behind a b c d n =
      turned_not_zero (det b c a d) (det b c d a) (swap_last (places b) (places c) (places a) (places d))
      (turned_not_zero (det b a c d) (det b c a d) (swap_middle (places b) (places a) (places c) (places d))
      (turned_not_zero (det a b c d) (det b a c d) (swap_first (places a) (places b) (places c) (places d)) n))

  module _ (s : ℤ) (n : Vector) (a : ℕ) (ha : Contains on a) (high : pos 0 <ℤ value s n a) (t : IsThrice places weights on s n a) (zero_at : IsZeroAt t.size t.form) (w : ℕ) (hw : Contains numbers w) (away : depth m w ≢ pos 0) where
    abbrev lift : ℤ
    lift = (factor t.size t.form t.under).0

    turned_along : IsTiltedAlong places weights numbers (lifted_size t.size lift) (lifted_form t.form lift) (pos 1) (multiple (negsuc 0) m) w
    turned_along = tilt_along places weights numbers (lifted_size t.size lift) (lifted_form t.form lift) (lifted_under t.size t.form t.under) (pos 1) (multiple (negsuc 0) m) w hw away

    abbrev u : ℕ → ℤ
    u = value turned_along.size turned_along.form

    abbrev d : ℕ
    d = turned_along.y

    kept : (i : ℕ) → IsTight m (places i) → u i ≡ turned_along.factor *ℤ value t.size t.form i
    kept i e = turned_along.keeps i (depth_none m i e) ∙ ap (λ z. turned_along.factor *ℤ z) (lifted_none t.size t.form lift i e)

    kept_zero : (i : ℕ) → IsTight m (places i) → value t.size t.form i ≡ pos 0 → u i ≡ pos 0
    kept_zero i e z = kept i e ∙ zero_out turned_along.factor (value t.size t.form i) z

    above : pos 0 <ℤ u a
    above =
        subst (λ z. pos 0 <ℤ z) (sym (kept a (on_tight a ha) ∙ ap (λ z. turned_along.factor *ℤ z) t.keeps))
        (positive_product turned_along.factor (t.factor *ℤ value s n a) turned_along.positive (positive_product t.factor (value s n a) t.positive high))

    tight_first : IsTight m (places t.y1) × IsTight m (places t.y2) × IsTight m (places t.y3)
    tight_first = (on_tight t.y1 t.within.0, on_tight t.y2 t.within.1, on_tight t.y3 t.within.2)

    touches : (u t.y1 ≡ pos 0) × (u t.y2 ≡ pos 0) × (u t.y3 ≡ pos 0) × (u d ≡ pos 0)
    touches = (kept_zero t.y1 tight_first.0 t.touches.0, kept_zero t.y2 tight_first.1 t.touches.1, kept_zero t.y3 tight_first.2 t.touches.2, turned_along.touches)

    independent : det t.y1 t.y2 t.y3 a ≢ pos 0
    independent = behind a t.y1 t.y2 t.y3 t.independent

    -- the new vertex is not level with a
    apart : rise places weights t.y1 t.y2 t.y3 a d ≢ pos 0
    apart e =
        ⊎_elim independent turned_along.apart
        (zero_factor (det t.y1 t.y2 t.y3 a) (depth m d)
        (gap_rise places weights (pos 1) (multiple (negsuc 0) m) t.y1 t.y2 t.y3 a d (depth_none m t.y1 tight_first.0) (depth_none m t.y2 tight_first.1) (depth_none m t.y3 tight_first.2) (depth_none m a (on_tight a ha))
        ∙ zero_out (pos 1) (rise places weights t.y1 t.y2 t.y3 a d) e))

    found : (f : Vector) × Contains p.dual f × IsTight f (places t.y1) × IsTight f (places t.y2) × IsTight f (places t.y3) × IsTight f (places d) → IsRidgeAt p m x
    found (f, h, t1, t2, t3, td) = record {
      other = f;
      among = h;
      differs = λ e. turned_along.apart (depth_none m d (ap (λ v. dot v (places d)) (sym e) ∙ td));
      through_point = depth_tight f 0 (⊎_elim (λ e. absurd (positive_some (u a) above e)) (λ e. e)
          (zero_factor (u a) (depth f 0) (alike p r x (pos 1) turned_along.size turned_along.form a t.y1 t.y2 t.y3 d touches independent apart (pos 1) (multiple (negsuc 0) f) (depth_none f t.y1 t1, depth_none f t.y2 t2, depth_none f t.y3 t3, depth_none f d td) 0 ∙ zero_out (depth f a) (u 0) (kept_zero 0 level zero_at))));
      a = places t.y1;
      b = places t.y2;
      c = places t.y3;
      vertices = (vertex_of t.y1 (on_number t.y1 t.within.0), vertex_of t.y2 (on_number t.y2 t.within.1), vertex_of t.y3 (on_number t.y3 t.within.2));
      first = tight_first;
      second = (t1, t2, t3);
      span = plane_spanned (places t.y1) (places t.y2) (places t.y3) (places a) independent;
    }

    turned_ridge : IsRidgeAt p m x
    turned_ridge =
        found (touched_facet p r x (pos 1) turned_along.size turned_along.form a t.y1 t.y2 t.y3 d touches independent apart turned_along.under (positive_some (u a) above)
        (on_number t.y1 t.within.0, on_number t.y2 t.within.1, on_number t.y3 t.within.2, turned_along.within)
        a (on_number a ha) (side_some p r x (pos 1) turned_along.size turned_along.form a t.y1 t.y2 t.y3 d touches independent apart))

  -- ---- from another facet with the point

  module _ (n : Vector) (among : Contains p.dual n) (differs : n ≢ m) (tight : IsTight n x) where
    -- four independent vertices of the facet, the first outside the other facet
    abbrev HasBasis : Type 0
    HasBasis = (a : ℕ) × (b : ℕ) × (c : ℕ) × (d : ℕ) × Contains on a × Contains on b × Contains on c × Contains on d × (det a b c d ≢ pos 0) × (depth n a ≢ pos 0)

    basis : HasBasis
    basis =
        let f = facet_four p r m within in
        let q = f.rising in
        from (suc f.i) (suc f.j) (suc f.k) (suc f.l)
        (in_on (suc f.i) (has_number p.vertices f.i (omega (arith, q.0, q.1, q.2, q.3))) f.four.first) (in_on (suc f.j) (has_number p.vertices f.j (omega (arith, q.1, q.2, q.3))) f.four.second)
        (in_on (suc f.k) (has_number p.vertices f.k (omega (arith, q.2, q.3))) f.four.third) (in_on (suc f.l) (has_number p.vertices f.l q.3) f.four.fourth) f.four.independent
      where
        from : (a b c d : ℕ) → Contains on a → Contains on b → Contains on c → Contains on d → det a b c d ≢ pos 0 → HasBasis
        from a b c d ha hb hc hd free =
            ⊎_elim (λ e1. ⊎_elim (λ e2. ⊎_elim (λ e3. ⊎_elim (λ e4. absurd (differs (same e1 e2 e3 e4)))
            (λ i. (d, a, b, c, hd, ha, hb, hc, behind c d a b (behind b c d a (behind a b c d free)), i)) (zero_or (depth n d)))
            (λ i. (c, d, a, b, hc, hd, ha, hb, behind b c d a (behind a b c d free), i)) (zero_or (depth n c)))
            (λ i. (b, c, d, a, hb, hc, hd, ha, behind a b c d free, i)) (zero_or (depth n b)))
            (λ i. (a, b, c, d, ha, hb, hc, hd, free, i)) (zero_or (depth n a))
          where
            same : depth n a ≡ pos 0 → depth n b ≡ pos 0 → depth n c ≡ pos 0 → depth n d ≡ pos 0 → n ≡ m
            same e1 e2 e3 e4 =
                normal_fixed n m (places a) (places b) (places c) (places d) free (depth_tight n a e1 ∙ sym (on_tight a ha)) (depth_tight n b e2 ∙ sym (on_tight b hb))
                (depth_tight n c e3 ∙ sym (on_tight c hc)) (depth_tight n d e4 ∙ sym (on_tight d hd))

    -- a vertex that the facet lacks
    outside : (w : ℕ) × Contains numbers w × (depth m w ≢ pos 0)
    outside = ⊎_elim (λ h. h) (λ none. absurd (not_flat p r m within (λ i l. depth_tight m (suc i) (none (suc i) (has_number p.vertices i l))))) (some_not_zero (depth m) numbers)

    pub ridge_at : IsRidgeAt p m x
    ridge_at = by basis outside
      where
        by : HasBasis → (w : ℕ) × Contains numbers w × (depth m w ≢ pos 0) → IsRidgeAt p m x
        by (a, b, c, d, ha, hb, hc, hd, free, some) (w, hw, away) =
            let t = three_held places weights on IsZeroAt turn (pos 1) (multiple (negsuc 0) n) (λ i h. depth_over n among i (on_number i h)) (depth_none n 0 tight) a b c d hb hc hd free in
            turned_ridge (pos 1) (multiple (negsuc 0) n) a ha (above_zero (depth n a) (depth_over n among a (on_number a ha)) some) t.0 t.1 w hw away

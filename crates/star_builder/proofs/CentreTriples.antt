-- A triple of points of a face whose plane passes above no point is a triple of the item: the triple of the item that has its centre has the same plane.
use Rattle.std.proofs.Common.{◌≡◌, ◌≢◌, ℕ, zero, suc, ◌⊎◌, inl, inr, ⊎_elim, refl, sym, ap, ◌∙◌, subst, arith, ℤ, pos, negsuc, ◌+ℤ◌, ◌-ℤ◌, ◌*ℤ◌, ◌<ℤ◌, ◌≤ℤ◌, neg_ℤ, List, [], ◌∷◌}
use Rattle.std.specs.Prelude.{Contains}
use Rattle.std.proofs.lemmas.Int.{ints}
use Rattle.ntfe_nums.specs.Vectors.{Vector, coordinate, area}
use Rattle.ntfe_nums.proofs.Ring.{Expression, ring}
use Rattle.ntfe_nums.proofs.Ring.Expression.{var, plus, minus, times, neg}
use Rattle.ntfe_nums.proofs.Signs.{negative_or, positive_product, positive_some, negative_turned}
use Rattle.ntfe_model.specs.Charts.{Patch, axes, place, IsOf, AreApart}
use Rattle.ntfe_model.specs.Triangulations.{IsRotationOf, IsFine}
use Rattle.ntfe_model.specs.Choices.{height, IsAbove, IsRegularBy}
use Rattle.ntfe_model.specs.declared.triangulation.Triangulation.{Triangulation}
use Rattle.ntfe_model.specs.declared.triangle.Triangle.{Triangle}
use Rattle.ntfe_model.proofs.Triples.{Decided, decide_number}
use Rattle.ntfe_model.proofs.Folds.{unit_corner, opposite_balance}
use Rattle.ntfe_model.proofs.PlaneNumbers.{area_turn, area_swap, flat_last, flat_outer, flat_front, plane}
use Rattle.ntfe_model.proofs.UnitTriples.{area_of, unit_area}
use Rattle.ntfe_model.proofs.Levels.{level, plane_reached}
use Rattle.ntfe_model.proofs.FoldPlanes.{AreFoldsPositive, above_gives_folds, level_at_corner, opposite_apart, neighbour, opposite_positive, level_of, level_rise, highest_of, level_corner, level_most}

-- ---- whole numbers

-- a factor that is not negative keeps an order
times_keeps : (k x y : ℤ) → pos 0 ≤ℤ k → x ≤ℤ y → (k *ℤ x) ≤ℤ (k *ℤ y)
times_keeps (negsuc n) x y l m = absurd (omega (arith, ints, l))
times_keeps (pos zero) x y l m = zeros (pos 0 *ℤ x) (pos 0 *ℤ y) (omega (arith, ints)) (omega (arith, ints))
  where
    zeros : (u v : ℤ) → u ≡ pos 0 → v ≡ pos 0 → u ≤ℤ v
    zeros u v e f = omega (arith, ints, e, f)
times_keeps (pos (suc n)) x y l m = by (y -ℤ x) refl
  where
    open_up : pos (suc n) *ℤ (y -ℤ x) ≡ pos (suc n) *ℤ y -ℤ pos (suc n) *ℤ x
    open_up = ring (pos (suc n) ∷ x ∷ y ∷ []) (times (var 0) (minus (var 2) (var 1))) (minus (times (var 0) (var 2)) (times (var 0) (var 1))) refl

    positive : (u v g : ℤ) → pos 0 <ℤ g → g ≡ v -ℤ u → u ≤ℤ v
    positive u v g p e = omega (arith, ints, p, e)

    level_case : (u v g : ℤ) → g ≡ pos 0 → g ≡ v -ℤ u → u ≤ℤ v
    level_case u v g p e = omega (arith, ints, p, e)

    by : (z : ℤ) → y -ℤ x ≡ z → (pos (suc n) *ℤ x) ≤ℤ (pos (suc n) *ℤ y)
    by (pos zero) e =
        level_case (pos (suc n) *ℤ x) (pos (suc n) *ℤ y) (pos (suc n) *ℤ (y -ℤ x)) (ap (λ z. pos (suc n) *ℤ z) e ∙ omega (arith, ints)) open_up
    by (pos (suc k)) e =
        positive (pos (suc n) *ℤ x) (pos (suc n) *ℤ y) (pos (suc n) *ℤ (y -ℤ x)) (positive_product (pos (suc n)) (y -ℤ x) (omega (arith, ints)) (omega (arith, ints, e))) open_up
    by (negsuc k) e = absurd (omega (arith, ints, m, e))

-- a positive factor may be left out
factor_out : (k x y : ℤ) → pos 0 <ℤ k → (k *ℤ x) ≤ℤ (k *ℤ y) → x ≤ℤ y
factor_out k x y l m = by (negative_or (y -ℤ x))
  where
    back : pos 0 ≤ℤ (y -ℤ x) → x ≤ℤ y
    back p = omega (arith, ints, p)

    turned : (y -ℤ x) <ℤ pos 0 → pos 0 <ℤ (x -ℤ y)
    turned p = omega (arith, ints, p)

    clash : (u v g : ℤ) → pos 0 <ℤ g → g ≡ u -ℤ v → u ≤ℤ v → ⊥
    clash u v g p e q = absurd (omega (arith, ints, p, e, q))

    by : ((y -ℤ x) <ℤ pos 0) ⊎ (pos 0 ≤ℤ (y -ℤ x)) → x ≤ℤ y
    by (inr p) = back p
    by (inl p) =
        absurd (clash (k *ℤ x) (k *ℤ y) (k *ℤ (x -ℤ y)) (positive_product k (x -ℤ y) l (turned p))
        (ring (k ∷ x ∷ y ∷ []) (times (var 0) (minus (var 1) (var 2))) (minus (times (var 0) (var 1)) (times (var 0) (var 2))) refl) m)

-- ---- a plane at a combination of three points

abbrev flatE : ℕ → ℕ → ℕ → Expression
flatE a b c = minus (times (minus (var b) (var a)) (minus (var (suc c)) (var (suc a)))) (times (minus (var (suc b)) (var (suc a))) (minus (var c) (var a)))

-- the area of b, c and p, for p by its areas with the sides of the triple r, s, t
area_mix : (q : ℕ × ℕ) (r s t b c p : Vector)
    → area q r s t *ℤ area q b c p ≡ area q s t p *ℤ area q b c r +ℤ area q t r p *ℤ area q b c s +ℤ area q r s p *ℤ area q b c t
area_mix q r s t b c p =
    ring (coordinate q.0 r ∷ coordinate q.1 r ∷ coordinate q.0 s ∷ coordinate q.1 s ∷ coordinate q.0 t ∷ coordinate q.1 t ∷ coordinate q.0 b ∷ coordinate q.1 b ∷ coordinate q.0 c ∷ coordinate q.1 c ∷ coordinate q.0 p ∷ coordinate q.1 p ∷ [])
    (times (flatE 0 2 4) (flatE 6 8 10))
    (plus (plus (times (flatE 2 4 10) (flatE 6 8 0)) (times (flatE 4 0 10) (flatE 6 8 2))) (times (flatE 0 2 10) (flatE 6 8 4))) refl

pub plane_mix : (q : ℕ × ℕ) (r s t a b c : Vector) (x y z : ℤ) (p : Vector)
    → area q r s t *ℤ plane q a b c x y z p ≡ area q s t p *ℤ plane q a b c x y z r +ℤ area q t r p *ℤ plane q a b c x y z s +ℤ area q r s p *ℤ plane q a b c x y z t
plane_mix q r s t a b c x y z p =
    let k = area q r s t in let l = area q s t p in let m = area q t r p in let n = area q r s p in
    ring (k ∷ area q b c p ∷ area q c a p ∷ area q a b p ∷ x ∷ y ∷ z ∷ [])
    (times (var 0) (plus (plus (times (var 1) (var 4)) (times (var 2) (var 5))) (times (var 3) (var 6))))
    (plus (plus (times (times (var 0) (var 1)) (var 4)) (times (times (var 0) (var 2)) (var 5))) (times (times (var 0) (var 3)) (var 6))) refl
    ∙ (λ i. area_mix q r s t b c p i *ℤ x +ℤ area_mix q r s t c a p i *ℤ y +ℤ area_mix q r s t a b p i *ℤ z)
    ∙ ring (l ∷ m ∷ n ∷ area q b c r ∷ area q b c s ∷ area q b c t ∷ area q c a r ∷ area q c a s ∷ area q c a t ∷ area q a b r ∷ area q a b s ∷ area q a b t ∷ x ∷ y ∷ z ∷ [])
    (plus (plus (times (three 3 4 5) (var 12)) (times (three 6 7 8) (var 13))) (times (three 9 10 11) (var 14)))
    (plus (plus (times (var 0) (three_at 3 6 9)) (times (var 1) (three_at 4 7 10))) (times (var 2) (three_at 5 8 11))) refl
  where
    three : ℕ → ℕ → ℕ → Expression
    three i j k = plus (plus (times (var 0) (var i)) (times (var 1) (var j))) (times (var 2) (var k))

    three_at : ℕ → ℕ → ℕ → Expression
    three_at i j k = plus (plus (times (var i) (var 12)) (times (var j) (var 13))) (times (var k) (var 14))

-- a point above the triple's plane
pub level_above : (h : Patch) (w : List ℤ) (a b c p : ℕ) → pos 0 <ℤ area_of h a b c → IsAbove h w a b c p → level h w a b c p <ℤ (height w p *ℤ area_of h a b c)
level_above h w a b c p l r =
    let v = (pos 1 -ℤ r.s -ℤ r.t) *ℤ height w a +ℤ r.s *ℤ height w b +ℤ r.t *ℤ height w c in
    let k = area_of h a b c in
    let e = ap (plane (axes h) (place h a) (place h b) (place h c) (height w a) (height w b) (height w c)) r.lies ∙ plane_reached (axes h) (place h a) (place h b) (place h c) r.s r.t (height w a) (height w b) (height w c) in
    by (level h w a b c p) (v *ℤ k) (height w p *ℤ k) ((height w p -ℤ v) *ℤ k) e
    (positive_product (height w p -ℤ v) k (gap v (height w p) r.above) l)
    (ring (height w p ∷ v ∷ k ∷ []) (times (minus (var 0) (var 1)) (var 2)) (minus (times (var 0) (var 2)) (times (var 1) (var 2))) refl)
  where
    gap : (x y : ℤ) → x <ℤ y → pos 0 <ℤ (y -ℤ x)
    gap x y m = omega (arith, ints, m)

    by : (u x y g : ℤ) → u ≡ x → pos 0 <ℤ g → g ≡ y -ℤ x → u <ℤ y
    by u x y g e m f = omega (arith, ints, e, m, f)

-- ---- corners

abbrev pub IsCornerOf : Triangle → ℕ → Type 0
IsCornerOf t p = (p ≡ t.a) ⊎ ((p ≡ t.b) ⊎ (p ≡ t.c))

-- the other way round the area is negated
pub area_odd : (h : Patch) (a b c : ℕ) → area_of h a c b ≡ neg_ℤ (area_of h a b c)
area_odd h a b c =
    sym (area_turn (axes h) (place h a) (place h c) (place h b)) ∙ area_swap (axes h) (place h b) (place h c) (place h a)
    ∙ ap neg_ℤ (area_turn (axes h) (place h a) (place h b) (place h c))

-- three corners that turn to the left, of a triple that does so, are its corners in its order
corners_in_order : (h : Patch) (t : Triangle) (a b c : ℕ) → pos 0 <ℤ area_of h t.a t.b t.c → pos 0 <ℤ area_of h a b c → IsCornerOf t a → IsCornerOf t b → IsCornerOf t c → IsRotationOf t a b c
corners_in_order h t a b c l m = by
  where
    front : a ≢ b
    front e = positive_some (area_of h a b c) m (ap (λ k. area_of h k b c) e ∙ flat_front (axes h) (place h b) (place h c))

    last : b ≢ c
    last e = positive_some (area_of h a b c) m (ap (λ k. area_of h a k c) e ∙ flat_last (axes h) (place h a) (place h c))

    outer : a ≢ c
    outer e = positive_some (area_of h a b c) m (ap (λ k. area_of h k b c) e ∙ flat_outer (axes h) (place h c) (place h b))

    both : (x y : ℤ) → pos 0 <ℤ x → pos 0 <ℤ y → y ≡ neg_ℤ x → ⊥
    both x y j k e = absurd (omega (arith, ints, j, k, e))

    turned : (x y z : ℕ) → pos 0 <ℤ area_of h x y z → a ≡ x → b ≡ z → c ≡ y → ⊥
    turned x y z k e f g =
        both (area_of h x y z) (area_of h a b c) k m
        ((λ i. area_of h (e i) (f i) (g i)) ∙ area_odd h x y z)

    l2 : pos 0 <ℤ area_of h t.b t.c t.a
    l2 = let P : ℤ → Type 0 = λ z. pos 0 <ℤ z in subst P (sym (area_turn (axes h) (place h t.a) (place h t.b) (place h t.c))) l

    l3 : pos 0 <ℤ area_of h t.c t.a t.b
    l3 = let P : ℤ → Type 0 = λ z. pos 0 <ℤ z in subst P (area_turn (axes h) (place h t.c) (place h t.a) (place h t.b)) l

    by : IsCornerOf t a → IsCornerOf t b → IsCornerOf t c → IsRotationOf t a b c
    by (inl e) (inl f) r = absurd (front (e ∙ sym f))
    by (inl e) q (inl g) = absurd (outer (e ∙ sym g))
    by (inl e) (inr (inl f)) (inr (inl g)) = absurd (last (f ∙ sym g))
    by (inl e) (inr (inl f)) (inr (inr g)) = inl (sym e, sym f, sym g)
    by (inl e) (inr (inr f)) (inr (inl g)) = absurd (turned t.a t.b t.c l e f g)
    by (inl e) (inr (inr f)) (inr (inr g)) = absurd (last (f ∙ sym g))
    by (inr (inl e)) (inr (inl f)) r = absurd (front (e ∙ sym f))
    by (inr (inl e)) q (inr (inl g)) = absurd (outer (e ∙ sym g))
    by (inr (inl e)) (inl f) (inl g) = absurd (last (f ∙ sym g))
    by (inr (inl e)) (inl f) (inr (inr g)) = absurd (turned t.b t.c t.a l2 e f g)
    by (inr (inl e)) (inr (inr f)) (inl g) = inr (inl (sym e, sym f, sym g))
    by (inr (inl e)) (inr (inr f)) (inr (inr g)) = absurd (last (f ∙ sym g))
    by (inr (inr e)) (inr (inr f)) r = absurd (front (e ∙ sym f))
    by (inr (inr e)) q (inr (inr g)) = absurd (outer (e ∙ sym g))
    by (inr (inr e)) (inl f) (inl g) = absurd (last (f ∙ sym g))
    by (inr (inr e)) (inl f) (inr (inl g)) = inr (inr (sym e, sym f, sym g))
    by (inr (inr e)) (inr (inl f)) (inl g) = absurd (turned t.c t.a t.b l3 e f g)
    by (inr (inr e)) (inr (inl f)) (inr (inl g)) = absurd (last (f ∙ sym g))

decide_corner_of : (t : Triangle) (p : ℕ) → IsCornerOf t p ⊎ ((p ≢ t.a) × (p ≢ t.b) × (p ≢ t.c))
decide_corner_of t p = by (decide_number p t.a) (decide_number p t.b) (decide_number p t.c)
  where
    by : Decided (p ≡ t.a) → Decided (p ≡ t.b) → Decided (p ≡ t.c) → IsCornerOf t p ⊎ ((p ≢ t.a) × (p ≢ t.b) × (p ≢ t.c))
    by (inl e) q r = inl (inl e)
    by (inr k) (inl e) r = inl (inr (inl e))
    by (inr k) (inr l) (inl e) = inl (inr (inr e))
    by (inr k) (inr l) (inr m) = inr (k, l, m)

-- ---- a neighbour's plane, at each point

pub record IsHigherBeyond (h : Patch) (w : List ℤ) (ts : List Triangle) (t : Triangle) (y z : ℕ) : Type 0 where
  pub other : Triangle
  pub among : Contains ts other
  pub fold : ℤ
  pub positive : pos 0 <ℤ fold
  pub rise : (p : ℕ) → level_of h w p other ≡ level_of h w p t +ℤ neg_ℤ (area_of h y z p) *ℤ fold

module _ (h : Patch) (apart : AreApart h) (w : List ℤ) (x : Triangulation) (fine : IsFine h x.triangles) (lifts : IsRegularBy h w x) where
  folds : AreFoldsPositive h w x
  folds = above_gives_folds h w x fine lifts

  neighbour_higher : (t : Triangle) → Contains x.triangles t → (a b c p : ℕ) → IsRotationOf t a b c → IsOf h p → area_of h a b p <ℤ pos 0 → IsHigherBeyond h w x.triangles t a b
  neighbour_higher t i a b c p k o l =
      let r = neighbour h x.triangles fine t i a b c p k o l in
      let u = r.0 in let d = r.1 in
      let s = unit_corner h t a b c (fine.unit t i) k in
      let v = unit_corner h u b a d (fine.unit u r.2) r.3 in
      let far = opposite_apart h a b c d s v in
      let g = opposite_balance h a b c d s v in
      let F = height w c +ℤ height w d -ℤ (pos 2 -ℤ g.0) *ℤ height w a -ℤ g.0 *ℤ height w b in
      let f : pos 0 <ℤ F = opposite_positive h w x folds a b c d (pos 2 -ℤ g.0) g.0 (t, u, i, r.2, k, r.3) far.3 far.2 g.1 (two g.0) in
      record {
        other = u;
        among = r.2;
        fold = F;
        positive = f;
        rise = λ n. sym (level_at_corner h w u b a d n r.3) ∙ level_rise h w a b c d n (pos 2 -ℤ g.0) g.0 g.1 (two g.0) ∙ ap (λ z. z +ℤ neg_ℤ (area_of h a b n) *ℤ F) (level_at_corner h w t a b c n k);
      }
    where
      two : (z : ℤ) → pos 2 -ℤ z +ℤ z ≡ pos 2
      two z = omega (arith, ints)

  -- ---- the triple with the centre of a, b, c, and the heights of both planes there
  module _ (a b c : ℕ) (oa : IsOf h a) (ob : IsOf h b) (oc : IsOf h c) where
    -- three times the height at the centre, times the area
    centre : Triangle → ℤ
    centre t = level_of h w a t +ℤ level_of h w b t +ℤ level_of h w c t

    -- three times the centre's area over a side
    beside : ℕ → ℕ → ℤ
    beside y z = area_of h y z a +ℤ area_of h y z b +ℤ area_of h y z c

    some_negative : (k l m : ℤ) → (k +ℤ l +ℤ m) <ℤ pos 0 → (k <ℤ pos 0) ⊎ ((l <ℤ pos 0) ⊎ (m <ℤ pos 0))
    some_negative k l m s = by (negative_or k) (negative_or l)
      where
        by : (k <ℤ pos 0) ⊎ (pos 0 ≤ℤ k) → (l <ℤ pos 0) ⊎ (pos 0 ≤ℤ l) → (k <ℤ pos 0) ⊎ ((l <ℤ pos 0) ⊎ (m <ℤ pos 0))
        by (inl p) q = inl p
        by (inr p) (inl q) = inr (inl q)
        by (inr p) (inr q) = inr (inr (omega (arith, ints, s, p, q)))

    -- the centre lies beyond no side of the triple whose plane is highest there
    centre_inside : (m : Triangle) → Contains x.triangles m → ((u : Triangle) → Contains x.triangles u → centre u ≤ℤ centre m) → (y z v : ℕ) → IsRotationOf m y z v → pos 0 ≤ℤ beside y z
    unfolding centre beside
    centre_inside m i most y z v k = by (negative_or (beside y z))
      where
        higher : IsHigherBeyond h w x.triangles m y z → (beside y z <ℤ pos 0) → ⊥
        higher r l =
            clash (centre m) (centre r.other) (neg_ℤ (beside y z) *ℤ r.fold)
            (positive_product (neg_ℤ (beside y z)) r.fold (negative_turned (beside y z) l) r.positive)
            ((λ j. r.rise a j +ℤ r.rise b j +ℤ r.rise c j)
            ∙ sums (level_of h w a m) (level_of h w b m) (level_of h w c m) (area_of h y z a) (area_of h y z b) (area_of h y z c) r.fold)
            (most r.other r.among)
          where
            clash : (n o q : ℤ) → pos 0 <ℤ q → o ≡ n +ℤ q → o ≤ℤ n → ⊥
            clash n o q p e f = absurd (omega (arith, ints, p, e, f))

            sums : (k1 k2 k3 n1 n2 n3 f : ℤ) → k1 +ℤ neg_ℤ n1 *ℤ f +ℤ (k2 +ℤ neg_ℤ n2 *ℤ f) +ℤ (k3 +ℤ neg_ℤ n3 *ℤ f) ≡ k1 +ℤ k2 +ℤ k3 +ℤ neg_ℤ (n1 +ℤ n2 +ℤ n3) *ℤ f
            sums k1 k2 k3 n1 n2 n3 f =
                ring (k1 ∷ k2 ∷ k3 ∷ n1 ∷ n2 ∷ n3 ∷ f ∷ [])
                (plus (plus (plus (var 0) (times (neg (var 3)) (var 6))) (plus (var 1) (times (neg (var 4)) (var 6)))) (plus (var 2) (times (neg (var 5)) (var 6))))
                (plus (plus (plus (var 0) (var 1)) (var 2)) (times (neg (plus (plus (var 3) (var 4)) (var 5))) (var 6))) refl

        by : (beside y z <ℤ pos 0) ⊎ (pos 0 ≤ℤ beside y z) → pos 0 ≤ℤ beside y z
        by (inr p) = p
        by (inl p) =
            absurd (⊎_elim (λ q. higher (neighbour_higher m i y z v a k oa q) p)
            (⊎_elim (λ q. higher (neighbour_higher m i y z v b k ob q) p) (λ q. higher (neighbour_higher m i y z v c k oc q) p))
            (some_negative (area_of h y z a) (area_of h y z b) (area_of h y z c) p))

    -- the plane over a, b, c at a, b, c
    level_corners : (level h w a b c a ≡ height w a *ℤ area_of h a b c) × (level h w a b c b ≡ height w b *ℤ area_of h a b c) × (level h w a b c c ≡ height w c *ℤ area_of h a b c)
    level_corners =
        let t : Triangle = record { a = a; b = b; c = c } in
        (level_corner h w t a (inl refl), level_corner h w t b (inr (inl refl)), level_corner h w t c (inr (inr refl)))

    module _ (turns : pos 0 <ℤ area_of h a b c) (below : (p : ℕ) → IsOf h p → level h w a b c p ≤ℤ (height w p *ℤ area_of h a b c)) where
      -- at the centre the plane over a, b, c is not above that of the triple, and so both are equal at a, b and c
      centre_below : (m : Triangle) → Contains x.triangles m → pos 0 ≤ℤ beside m.b m.c → pos 0 ≤ℤ beside m.c m.a → pos 0 ≤ℤ beside m.a m.b
          → (area_of h m.a m.b m.c *ℤ (height w a +ℤ height w b +ℤ height w c)) ≤ℤ centre m
      unfolding centre beside
      centre_below m i l1 l2 l3 =
          let k = area_of h m.a m.b m.c in let n = area_of h a b c in
          let u = fine.unit m i in
          let L = level h w a b c in
          let at : (p : ℕ) → k *ℤ L p ≡ area_of h m.b m.c p *ℤ L m.a +ℤ area_of h m.c m.a p *ℤ L m.b +ℤ area_of h m.a m.b p *ℤ L m.c =
          (λ p. plane_mix (axes h) (place h m.a) (place h m.b) (place h m.c) (place h a) (place h b) (place h c) (height w a) (height w b) (height w c) (place h p)) in
          let e : k *ℤ L a +ℤ k *ℤ L b +ℤ k *ℤ L c ≡ beside m.b m.c *ℤ L m.a +ℤ beside m.c m.a *ℤ L m.b +ℤ beside m.a m.b *ℤ L m.c =
          ((λ j. at a j +ℤ at b j +ℤ at c j)
          ∙ nine (area_of h m.b m.c a) (area_of h m.c m.a a) (area_of h m.a m.b a) (area_of h m.b m.c b) (area_of h m.c m.a b) (area_of h m.a m.b b) (area_of h m.b m.c c) (area_of h m.c m.a c) (area_of h m.a m.b c) (L m.a) (L m.b) (L m.c)) in
          let f : n *ℤ (k *ℤ (height w a +ℤ height w b +ℤ height w c)) ≡ k *ℤ L a +ℤ k *ℤ L b +ℤ k *ℤ L c =
          (scaled n k (height w a) (height w b) (height w c) ∙ (λ j. k *ℤ sym level_corners.0 j +ℤ k *ℤ sym level_corners.1 j +ℤ k *ℤ sym level_corners.2 j)) in
          let g = three_below (beside m.b m.c *ℤ L m.a) (beside m.c m.a *ℤ L m.b) (beside m.a m.b *ℤ L m.c)
          (beside m.b m.c *ℤ (height w m.a *ℤ n)) (beside m.c m.a *ℤ (height w m.b *ℤ n)) (beside m.a m.b *ℤ (height w m.c *ℤ n))
          (times_keeps (beside m.b m.c) (L m.a) (height w m.a *ℤ n) l1 (below m.a u.points.0))
          (times_keeps (beside m.c m.a) (L m.b) (height w m.b *ℤ n) l2 (below m.b u.points.1))
          (times_keeps (beside m.a m.b) (L m.c) (height w m.c *ℤ n) l3 (below m.c u.points.2)) in
          let v = nine_back (area_of h m.b m.c a) (area_of h m.c m.a a) (area_of h m.a m.b a) (area_of h m.b m.c b) (area_of h m.c m.a b) (area_of h m.a m.b b) (area_of h m.b m.c c) (area_of h m.c m.a c) (area_of h m.a m.b c) (height w m.a) (height w m.b) (height w m.c) n in
          factor_out n (k *ℤ (height w a +ℤ height w b +ℤ height w c)) (centre m) turns (chain _ _ _ _ (f ∙ e) g v)
        where
          nine : (a1 a2 a3 b1 b2 b3 c1 c2 c3 u v o : ℤ)
              → (a1 *ℤ u +ℤ a2 *ℤ v +ℤ a3 *ℤ o) +ℤ (b1 *ℤ u +ℤ b2 *ℤ v +ℤ b3 *ℤ o) +ℤ (c1 *ℤ u +ℤ c2 *ℤ v +ℤ c3 *ℤ o)
              ≡ (a1 +ℤ b1 +ℤ c1) *ℤ u +ℤ (a2 +ℤ b2 +ℤ c2) *ℤ v +ℤ (a3 +ℤ b3 +ℤ c3) *ℤ o
          nine a1 a2 a3 b1 b2 b3 c1 c2 c3 u v o =
              ring (a1 ∷ a2 ∷ a3 ∷ b1 ∷ b2 ∷ b3 ∷ c1 ∷ c2 ∷ c3 ∷ u ∷ v ∷ o ∷ [])
              (plus (plus (row3 0) (row3 3)) (row3 6))
              (plus (plus (times (sum3 0) (var 9)) (times (sum3 1) (var 10))) (times (sum3 2) (var 11))) refl
            where
              row3 : ℕ → Expression
              row3 j = plus (plus (times (var j) (var 9)) (times (var (suc j)) (var 10))) (times (var (suc (suc j))) (var 11))

              sum3 : ℕ → Expression
              sum3 j = plus (plus (var j) (var (suc (suc (suc j))))) (var (suc (suc (suc (suc (suc (suc j)))))))

          nine_back : (a1 a2 a3 b1 b2 b3 c1 c2 c3 u v o n : ℤ)
              → (a1 +ℤ b1 +ℤ c1) *ℤ (u *ℤ n) +ℤ (a2 +ℤ b2 +ℤ c2) *ℤ (v *ℤ n) +ℤ (a3 +ℤ b3 +ℤ c3) *ℤ (o *ℤ n)
              ≡ n *ℤ ((a1 *ℤ u +ℤ a2 *ℤ v +ℤ a3 *ℤ o) +ℤ (b1 *ℤ u +ℤ b2 *ℤ v +ℤ b3 *ℤ o) +ℤ (c1 *ℤ u +ℤ c2 *ℤ v +ℤ c3 *ℤ o))
          nine_back a1 a2 a3 b1 b2 b3 c1 c2 c3 u v o n =
              ring (a1 ∷ a2 ∷ a3 ∷ b1 ∷ b2 ∷ b3 ∷ c1 ∷ c2 ∷ c3 ∷ u ∷ v ∷ o ∷ n ∷ [])
              (plus (plus (times (sum3 0) (times (var 9) (var 12))) (times (sum3 1) (times (var 10) (var 12)))) (times (sum3 2) (times (var 11) (var 12))))
              (times (var 12) (plus (plus (row3 0) (row3 3)) (row3 6))) refl
            where
              row3 : ℕ → Expression
              row3 j = plus (plus (times (var j) (var 9)) (times (var (suc j)) (var 10))) (times (var (suc (suc j))) (var 11))

              sum3 : ℕ → Expression
              sum3 j = plus (plus (var j) (var (suc (suc (suc j))))) (var (suc (suc (suc (suc (suc (suc j)))))))

          scaled : (n k u v o : ℤ) → n *ℤ (k *ℤ (u +ℤ v +ℤ o)) ≡ k *ℤ (u *ℤ n) +ℤ k *ℤ (v *ℤ n) +ℤ k *ℤ (o *ℤ n)
          scaled n k u v o =
              ring (n ∷ k ∷ u ∷ v ∷ o ∷ []) (times (var 0) (times (var 1) (plus (plus (var 2) (var 3)) (var 4))))
              (plus (plus (times (var 1) (times (var 2) (var 0))) (times (var 1) (times (var 3) (var 0)))) (times (var 1) (times (var 4) (var 0)))) refl

          three_below : (r s t u v o : ℤ) → r ≤ℤ u → s ≤ℤ v → t ≤ℤ o → (r +ℤ s +ℤ t) ≤ℤ (u +ℤ v +ℤ o)
          three_below r s t u v o i j l = omega (arith, ints, i, j, l)

          chain : (r s t u : ℤ) → r ≡ s → s ≤ℤ t → t ≡ u → r ≤ℤ u
          chain r s t u i j l = omega (arith, ints, i, j, l)

      -- the triple is one of the item
      pub lowest_triple : (some : Triangle) → Contains x.triangles some → (t : Triangle) × Contains x.triangles t × IsRotationOf t a b c
      unfolding centre beside
      lowest_triple some o =
          let r = highest_of centre x.triangles some o in
          let m = r.0 in
          let u = fine.unit m r.1 in
          let k = area_of h m.a m.b m.c in
          let low = centre_below m r.1
          (centre_inside m r.1 r.2 m.b m.c m.a (inr (inl (refl, refl, refl))))
          (centre_inside m r.1 r.2 m.c m.a m.b (inr (inr (refl, refl, refl))))
          (centre_inside m r.1 r.2 m.a m.b m.c (inl (refl, refl, refl))) in
          let most = level_most h apart w x fine folds m r.1 in
          let e = opened k (height w a) (height w b) (height w c) in
          let is : (p : ℕ) → IsOf h p → level_of h w p m ≡ height w p *ℤ k → IsCornerOf m p = (λ p i q. corner m r.1 p i q (decide_corner_of m p)) in (
            m,
            r.1,
            corners_in_order h m a b c (unit_area h m.a m.b m.c u) turns
                (is a oa (squeeze1 _ _ _ _ _ _ _ e low (most a oa) (most b ob) (most c oc)))
                (is b ob (squeeze2 _ _ _ _ _ _ _ e low (most a oa) (most b ob) (most c oc)))
                (is c oc (squeeze3 _ _ _ _ _ _ _ e low (most a oa) (most b ob) (most c oc))),
          )
        where
          opened : (k u v o : ℤ) → k *ℤ (u +ℤ v +ℤ o) ≡ u *ℤ k +ℤ v *ℤ k +ℤ o *ℤ k
          opened k u v o = ring (k ∷ u ∷ v ∷ o ∷ []) (times (var 0) (plus (plus (var 1) (var 2)) (var 3))) (plus (plus (times (var 1) (var 0)) (times (var 2) (var 0))) (times (var 3) (var 0))) refl

          squeeze1 : (s r1 r2 r3 u v o : ℤ) → s ≡ u +ℤ v +ℤ o → s ≤ℤ (r1 +ℤ r2 +ℤ r3) → r1 ≤ℤ u → r2 ≤ℤ v → r3 ≤ℤ o → r1 ≡ u
          squeeze1 s r1 r2 r3 u v o e f i j l = omega (arith, ints, e, f, i, j, l)

          squeeze2 : (s r1 r2 r3 u v o : ℤ) → s ≡ u +ℤ v +ℤ o → s ≤ℤ (r1 +ℤ r2 +ℤ r3) → r1 ≤ℤ u → r2 ≤ℤ v → r3 ≤ℤ o → r2 ≡ v
          squeeze2 s r1 r2 r3 u v o e f i j l = omega (arith, ints, e, f, i, j, l)

          squeeze3 : (s r1 r2 r3 u v o : ℤ) → s ≡ u +ℤ v +ℤ o → s ≤ℤ (r1 +ℤ r2 +ℤ r3) → r1 ≤ℤ u → r2 ≤ℤ v → r3 ≤ℤ o → r3 ≡ o
          squeeze3 s r1 r2 r3 u v o e f i j l = omega (arith, ints, e, f, i, j, l)

          strict : (n q : ℤ) → n <ℤ q → n ≡ q → ⊥
          strict n q l e = absurd (omega (arith, ints, l, e))

          corner : (m : Triangle) → Contains x.triangles m → (p : ℕ) → IsOf h p → level_of h w p m ≡ height w p *ℤ area_of h m.a m.b m.c → IsCornerOf m p ⊎ ((p ≢ m.a) × (p ≢ m.b) × (p ≢ m.c)) → IsCornerOf m p
          corner m i p j e (inl q) = q
          corner m i p j e (inr n) =
              absurd (strict (level_of h w p m) (height w p *ℤ area_of h m.a m.b m.c)
              (level_above h w m.a m.b m.c p (unit_area h m.a m.b m.c (fine.unit m i)) (lifts m i p j n.0 n.1 n.2)) e)

-- On a fine triangulation of a face whose points lie apart: all folds are positive exactly where every other point lies above each triple.
--     above_gives_folds      the folds are positive where the heights lift
--     folds_give_above      and the other way round
use Rattle.std.proofs.Common.{◌≡◌, ◌≢◌, ℕ, ◌<◌, ◌⊎◌, ◌↔◌, inl, inr, ⊎_elim, refl, sym, ap, ◌∙◌, subst, arith, ℤ, pos, negsuc, ◌+ℤ◌, ◌-ℤ◌, ◌*ℤ◌, ◌<ℤ◌, ◌≤ℤ◌, neg_ℤ, List, [], ◌∷◌}
use Rattle.std.specs.Prelude.{Contains}
use Rattle.std.proofs.lemmas.Int.{ints}
use Rattle.ntfe_nums.specs.Vectors.{vector_sum, multiple}
use Rattle.ntfe_model.specs.Charts.{Patch, axes, place, IsOf, IsUnit}
use Rattle.ntfe_model.specs.Triangulations.{IsRotationOf, IsSide, IsFine}
use Rattle.ntfe_model.specs.Choices.{height, IsAbove, IsRegularBy, AreOpposite, IsFoldOf, fold_value}
use Rattle.ntfe_model.specs.declared.triangulation.Triangulation.{Triangulation}
use Rattle.ntfe_model.specs.declared.triangle.Triangle.{Triangle}
use Rattle.ntfe_model.specs.declared.nogood.Fold.{Fold}
use Rattle.ntfe_model.proofs.Listings.{Contains-here, Contains-there, Contains-cases, Contains-none}
use Rattle.ntfe_nums.proofs.Ring.{ring}
use Rattle.ntfe_nums.proofs.Ring.Expression.{var, num, plus, minus, times}
use Rattle.ntfe_nums.proofs.Signs.{positive_product, less_or_least}
use Rattle.ntfe_model.proofs.PlaneNumbers.{sign_negative, area_turn, area_swap, flat_last, flat_outer, flat_front, plane_first, plane_rise}
use Rattle.ntfe_model.specs.Charts.{AreApart}
use Rattle.ntfe_model.proofs.Triples.{third_point, corner_side, decide_is_side}
use Rattle.ntfe_model.proofs.Folds.{unit_corner, opposite_balance, vector_swap}
use Rattle.ntfe_model.proofs.UnitTriples.{area_of, reached_once, balance_reached, unit_area, unit_areas, IsBeyond, corner_or_beyond}
use Rattle.ntfe_model.proofs.Levels.{level, level_turn, above_from_level, above_turn}

-- every fold of the item is positive
abbrev pub AreFoldsPositive : Patch → List ℤ → Triangulation → Type 0
AreFoldsPositive h w x = (r : Fold) → IsFoldOf h x r → pos 0 <ℤ fold_value w r

-- ---- triples up to rotation

along : (P : ℕ → ℕ → ℕ → Type 0) (a b c x y z : ℕ) → a ≡ x → b ≡ y → c ≡ z → P a b c → P x y z
along P a b c x y z e f g p =
    let P1 = λ (k : ℕ). P k b c in
    let P2 = λ (k : ℕ). P x k c in
    let P3 = λ (k : ℕ). P x y k in
    subst P3 g (subst P2 f (subst P1 e p))

-- what goes over from a triple to its rotation holds of it from each corner
pub at_corner : (P : ℕ → ℕ → ℕ → Type 0) → ((a b c : ℕ) → P a b c → P b c a) → (t : Triangle) (x y z : ℕ) → IsRotationOf t x y z → P t.a t.b t.c → P x y z
at_corner P next t x y z (inl (e, f, g)) p = along P t.a t.b t.c x y z e f g p
at_corner P next t x y z (inr (inl (e, f, g))) p = along P t.b t.c t.a x y z e f g (next t.a t.b t.c p)
at_corner P next t x y z (inr (inr (e, f, g))) p = along P t.c t.a t.b x y z e f g (next t.b t.c t.a (next t.a t.b t.c p))

pub level_at_corner : (h : Patch) (w : List ℤ) (t : Triangle) (x y z p : ℕ) → IsRotationOf t x y z → level h w x y z p ≡ level h w t.a t.b t.c p
level_at_corner h w t x y z p k =
    let L = level h w t.a t.b t.c p in
    let P : ℕ → ℕ → ℕ → Type 0 = λ a b c. level h w a b c p ≡ L in
    at_corner P (λ a b c e. level_turn h w a b c p ∙ e) t x y z k refl

-- a point that is none of x, y, z is no corner of the triple
pub other_than : (t : Triangle) (x y z p : ℕ) → IsRotationOf t x y z → p ≢ x → p ≢ y → p ≢ z → (p ≢ t.a) × (p ≢ t.b) × (p ≢ t.c)
other_than t x y z p (inl (e, f, g)) i j k = ((λ l. i (l ∙ e)), (λ l. j (l ∙ f)), (λ l. k (l ∙ g)))
other_than t x y z p (inr (inl (e, f, g))) i j k = ((λ l. k (l ∙ g)), (λ l. i (l ∙ e)), (λ l. j (l ∙ f)))
other_than t x y z p (inr (inr (e, f, g))) i j k = ((λ l. j (l ∙ f)), (λ l. k (l ∙ g)), (λ l. i (l ∙ e)))

-- ---- two triples on one side

-- the area of (b, a, d) is positive, so d is none of a, b, c
pub opposite_apart : (h : Patch) (a b c d : ℕ) → IsUnit h a b c → IsUnit h b a d → (d ≢ a) × (d ≢ b) × (d ≢ c) × (a ≢ b)
opposite_apart h a b c d u v = (
  (λ e. no (area_of h b a d) (unit_area h b a d v) (ap (area_of h b a) e ∙ flat_last (axes h) (place h b) (place h a))),
  (λ e. no (area_of h b a d) (unit_area h b a d v) (ap (area_of h b a) e ∙ flat_outer (axes h) (place h b) (place h a))),
  (λ e. both (area_of h b a d) (area_of h a b c) (unit_area h b a d v) (unit_area h a b c u) (ap (area_of h b a) e ∙ area_swap (axes h) (place h a) (place h b) (place h c))),
  (λ e. no (area_of h b a d) (unit_area h b a d v) (ap (λ k. area_of h b k d) e ∙ flat_front (axes h) (place h b) (place h d))),
)
  where
    no : (x : ℤ) → pos 0 <ℤ x → x ≡ pos 0 → ⊥
    no x l e = absurd (omega (arith, ints, l, e))

    both : (x y : ℤ) → pos 0 <ℤ x → pos 0 <ℤ y → x ≡ neg_ℤ y → ⊥
    both x y l m e = absurd (omega (arith, ints, l, m, e))

two_less : (m n : ℤ) → m +ℤ n ≡ pos 2 → m ≡ pos 2 -ℤ n
two_less m n e = omega (arith, ints, e)

-- ---- above each triple: each fold is positive

-- d above the plane over a, b and c
pub above_fold : (h : Patch) (w : List ℤ) (a b c d : ℕ) (m n : ℤ) → IsUnit h a b c → IsAbove h w a b c d
    → vector_sum (place h c) (place h d) ≡ vector_sum (multiple m (place h a)) (multiple n (place h b)) → m +ℤ n ≡ pos 2
    → pos 0 <ℤ (height w c +ℤ height w d -ℤ m *ℤ height w a -ℤ n *ℤ height w b)
above_fold h w a b c d m n u k e f =
    let g = two_less m n f in
    let o = reached_once (axes h) (place h a) (place h b) (place h c) k.s k.t n (negsuc 0) (unit_area h a b c u) (sym k.lies ∙ balance_reached (place h a) (place h b) (place h c) (place h d) m n e g) in
    turn_over k.s k.t m n (height w a) (height w b) (height w c) (height w d) o.0 o.1 g k.above
  where
    last : (x y z v : ℤ) → x <ℤ v → x ≡ y -ℤ z → pos 0 <ℤ (z +ℤ v -ℤ y)
    last x y z v l p = omega (arith, ints, l, p)

    split : (z v i j y : ℤ) → pos 0 <ℤ (z +ℤ v -ℤ y) → y ≡ i +ℤ j → pos 0 <ℤ (z +ℤ v -ℤ i -ℤ j)
    split z v i j y l p = omega (arith, ints, l, p)

    turn_over : (s t m n x y z v : ℤ) → s ≡ n → t ≡ negsuc 0 → m ≡ pos 2 -ℤ n → ((pos 1 -ℤ s -ℤ t) *ℤ x +ℤ s *ℤ y +ℤ t *ℤ z) <ℤ v
        → pos 0 <ℤ (z +ℤ v -ℤ m *ℤ x -ℤ n *ℤ y)
    turn_over s t m n x y z v i j g l =
        split z v (m *ℤ x) (n *ℤ y) ((pos 2 -ℤ n) *ℤ x +ℤ n *ℤ y)
        (last ((pos 1 -ℤ s -ℤ t) *ℤ x +ℤ s *ℤ y +ℤ t *ℤ z) ((pos 2 -ℤ n) *ℤ x +ℤ n *ℤ y) z v l
        ((λ r. (pos 1 -ℤ i r -ℤ j r) *ℤ x +ℤ i r *ℤ y +ℤ j r *ℤ z)
        ∙ ring (n ∷ x ∷ y ∷ z ∷ [])
        (plus (plus (times (minus (minus (num (pos 1)) (var 0)) (num (negsuc 0))) (var 1)) (times (var 0) (var 2))) (times (num (negsuc 0)) (var 3)))
        (minus (plus (times (minus (num (pos 2)) (var 0)) (var 1)) (times (var 0) (var 2))) (var 3)) refl))
        (λ r. sym g r *ℤ x +ℤ n *ℤ y)

above_opposite : (h : Patch) (w : List ℤ) (x : Triangulation) → IsFine h x.triangles → IsRegularBy h w x → (a b c d : ℕ) (m n : ℤ) → AreOpposite x.triangles a b c d
    → vector_sum (place h c) (place h d) ≡ vector_sum (multiple m (place h a)) (multiple n (place h b)) → m +ℤ n ≡ pos 2
    → pos 0 <ℤ (height w c +ℤ height w d -ℤ m *ℤ height w a -ℤ n *ℤ height w b)
above_opposite h w x fine lifts a b c d m n o e f =
    let t = o.0 in let r = o.1 in
    let u = unit_corner h t a b c (fine.unit t o.2) o.4 in
    let v = unit_corner h r b a d (fine.unit r o.3) o.5 in
    let p = opposite_apart h a b c d u v in
    let q = other_than t a b c d o.4 p.0 p.1 p.2 in
    let k = at_corner (λ i j l. IsAbove h w i j l d) (λ i j l. above_turn h w i j l d) t a b c o.4 (lifts t o.2 d v.points.2 q.0 q.1 q.2) in
    above_fold h w a b c d m n u k e f

-- where every other point lies above each triple, each fold is positive
pub above_gives_folds : (h : Patch) (w : List ℤ) (x : Triangulation) → IsFine h x.triangles → IsRegularBy h w x → AreFoldsPositive h w x
above_gives_folds h w x fine lifts r f = by f.opposite
  where
    swapped : (c d i j : ℤ) → pos 0 <ℤ (d +ℤ c -ℤ i -ℤ j) → pos 0 <ℤ (c +ℤ d -ℤ i -ℤ j)
    swapped c d i j l = omega (arith, ints, l)

    by : AreOpposite x.triangles r.a r.b r.c r.d ⊎ AreOpposite x.triangles r.a r.b r.d r.c → pos 0 <ℤ fold_value w r
    by (inl o) = above_opposite h w x fine lifts r.a r.b r.c r.d r.alpha r.beta o f.balance f.two
    by (inr o) =
        swapped (height w r.c) (height w r.d) (r.alpha *ℤ height w r.a) (r.beta *ℤ height w r.b)
        (above_opposite h w x fine lifts r.a r.b r.d r.c r.alpha r.beta o (vector_swap (place h r.d) (place h r.c) ∙ f.balance) f.two)

-- ---- positive folds: each triple's neighbours rise

-- beyond a side lies a neighbour
pub neighbour : (h : Patch) (ts : List Triangle) → IsFine h ts → (t : Triangle) → Contains ts t → (x y z p : ℕ) → IsRotationOf t x y z → IsOf h p → area_of h x y p <ℤ pos 0
    → (u : Triangle) × (d : ℕ) × Contains ts u × IsRotationOf u y x d
neighbour h ts fine t c x y z p k o l = by (decide_is_side ts y x)
  where
    by : IsSide ts y x ⊎ ¬ (IsSide ts y x) → (u : Triangle) × (d : ℕ) × Contains ts u × IsRotationOf u y x d
    by (inl s) = let r = third_point s.0 y x s.2 in (s.0, r.0, s.1, r.1)
    by (inr none) = let step = (fine.edge x y).0 ((t, c, corner_side t x y z k), none) in absurd (step.outer p o (sign_negative (area_of h x y p) l))

-- a positive fold at each two triples on one side, whatever the order of their points
pub opposite_positive : (h : Patch) (w : List ℤ) (x : Triangulation) → AreFoldsPositive h w x → (a b c d : ℕ) (m n : ℤ) → AreOpposite x.triangles a b c d → a ≢ b → d ≢ c
    → vector_sum (place h c) (place h d) ≡ vector_sum (multiple m (place h a)) (multiple n (place h b)) → m +ℤ n ≡ pos 2
    → pos 0 <ℤ (height w c +ℤ height w d -ℤ m *ℤ height w a -ℤ n *ℤ height w b)
opposite_positive h w x folds a b c d m n o i j e f = by (below a b i) (below d c j)
  where
    below : (k l : ℕ) → k ≢ l → (k < l) ⊎ (l < k)
    below k l n = grind (arith, n)

    number_swap : (k l : ℤ) → k +ℤ l ≡ l +ℤ k
    number_swap k l = omega (arith, ints)

    back : AreOpposite x.triangles b a d c
    back = (o.1, o.0, o.3, o.2, o.5, o.4)

    first : (k l u v : ℤ) → pos 0 <ℤ (l +ℤ k -ℤ u -ℤ v) → pos 0 <ℤ (k +ℤ l -ℤ u -ℤ v)
    first k l u v p = omega (arith, ints, p)

    second : (k l u v : ℤ) → pos 0 <ℤ (k +ℤ l -ℤ v -ℤ u) → pos 0 <ℤ (k +ℤ l -ℤ u -ℤ v)
    second k l u v p = omega (arith, ints, p)

    third : (k l u v : ℤ) → pos 0 <ℤ (l +ℤ k -ℤ v -ℤ u) → pos 0 <ℤ (k +ℤ l -ℤ u -ℤ v)
    third k l u v p = omega (arith, ints, p)

    by : (a < b) ⊎ (b < a) → (d < c) ⊎ (c < d) → pos 0 <ℤ (height w c +ℤ height w d -ℤ m *ℤ height w a -ℤ n *ℤ height w b)
    by (inl p) (inr q) = folds (record { a = a; b = b; c = c; d = d; alpha = m; beta = n }) (record { edge = p; ordered = q; opposite = inl o; balance = e; two = f })
    by (inl p) (inl q) =
        first (height w c) (height w d) (m *ℤ height w a) (n *ℤ height w b)
        (folds (record { a = a; b = b; c = d; d = c; alpha = m; beta = n }) (record { edge = p; ordered = q; opposite = inr o; balance = vector_swap (place h d) (place h c) ∙ e; two = f }))
    by (inr p) (inr q) =
        second (height w c) (height w d) (m *ℤ height w a) (n *ℤ height w b)
        (folds (record { a = b; b = a; c = c; d = d; alpha = n; beta = m }) (record { edge = p; ordered = q; opposite = inr back; balance = e ∙ vector_swap (multiple m (place h a)) (multiple n (place h b)); two = number_swap n m ∙ f }))
    by (inr p) (inl q) =
        third (height w c) (height w d) (m *ℤ height w a) (n *ℤ height w b)
        (folds (record { a = b; b = a; c = d; d = c; alpha = n; beta = m }) (record { edge = p; ordered = q; opposite = inl back; balance = vector_swap (place h d) (place h c) ∙ e ∙ vector_swap (multiple m (place h a)) (multiple n (place h b)); two = number_swap n m ∙ f }))

-- the area times the height of the triple's plane at p
abbrev pub level_of : Patch → List ℤ → ℕ → Triangle → ℤ
level_of h w p t = level h w t.a t.b t.c p

-- the comparison of two neighbours: the plane of (b, a, d) is higher at a point beyond the side from a to b
pub level_rise : (h : Patch) (w : List ℤ) (a b c d p : ℕ) (m n : ℤ) → vector_sum (place h c) (place h d) ≡ vector_sum (multiple m (place h a)) (multiple n (place h b)) → m +ℤ n ≡ pos 2
    → level h w b a d p ≡ level h w a b c p +ℤ neg_ℤ (area_of h a b p) *ℤ (height w c +ℤ height w d -ℤ m *ℤ height w a -ℤ n *ℤ height w b)
level_rise h w a b c d p m n e f =
    let F = height w c +ℤ height w d -ℤ m *ℤ height w a -ℤ n *ℤ height w b in
    plane_rise (axes h) (place h a) (place h b) (place h c) (place h d) (place h p) m n (height w a) (height w b) (height w c) (height w d) e (two_less m n f)
    ∙ ap (λ k. level h w a b c p +ℤ k *ℤ F) (area_swap (axes h) (place h a) (place h b) (place h p))

-- beyond a side of a triple lies a neighbour whose plane is higher there
pub neighbour_above : (h : Patch) (w : List ℤ) (x : Triangulation) → IsFine h x.triangles → AreFoldsPositive h w x → (t : Triangle) → Contains x.triangles t
    → (a b c p : ℕ) → IsRotationOf t a b c → IsOf h p → area_of h a b p <ℤ pos 0 → (u : Triangle) × Contains x.triangles u × (level_of h w p t <ℤ level_of h w p u)
neighbour_above h w x fine folds t i a b c p k o l =
    let r = neighbour h x.triangles fine t i a b c p k o l in
    let u = r.0 in let d = r.1 in
    let s = unit_corner h t a b c (fine.unit t i) k in
    let v = unit_corner h u b a d (fine.unit u r.2) r.3 in
    let far = opposite_apart h a b c d s v in
    let g = opposite_balance h a b c d s v in
    let F = height w c +ℤ height w d -ℤ (pos 2 -ℤ g.0) *ℤ height w a -ℤ g.0 *ℤ height w b in
    let f : pos 0 <ℤ F = opposite_positive h w x folds a b c d (pos 2 -ℤ g.0) g.0 (t, u, i, r.2, k, r.3) far.3 far.2 g.1 (two g.0) in
    let rise = level_rise h w a b c d p (pos 2 -ℤ g.0) g.0 g.1 (two g.0) in
    let more = positive_product (neg_ℤ (area_of h a b p)) F (up (area_of h a b p) l) f in
    (u, r.2, above (level h w a b c p) (level h w b a d p) (neg_ℤ (area_of h a b p) *ℤ F) (level_of h w p t) (level_of h w p u) rise more (level_at_corner h w t a b c p k) (level_at_corner h w u b a d p r.3))
  where
    two : (z : ℤ) → pos 2 -ℤ z +ℤ z ≡ pos 2
    two z = omega (arith, ints)

    up : (z : ℤ) → z <ℤ pos 0 → pos 0 <ℤ neg_ℤ z
    up z m = omega (arith, ints, m)

    above : (y z q y' z' : ℤ) → z ≡ y +ℤ q → pos 0 <ℤ q → y ≡ y' → z ≡ z' → y' <ℤ z'
    above y z q y' z' e m f g = omega (arith, ints, e, m, f, g)

-- beyond any side
pub beyond_above : (h : Patch) (w : List ℤ) (x : Triangulation) → IsFine h x.triangles → AreFoldsPositive h w x → (t : Triangle) → Contains x.triangles t → (p : ℕ) → IsOf h p
    → IsBeyond h t.a t.b t.c p → (u : Triangle) × Contains x.triangles u × (level_of h w p t <ℤ level_of h w p u)
beyond_above h w x fine folds t i p o (inl l) = neighbour_above h w x fine folds t i t.a t.b t.c p (inl (refl, refl, refl)) o l
beyond_above h w x fine folds t i p o (inr (inl l)) = neighbour_above h w x fine folds t i t.b t.c t.a p (inr (inl (refl, refl, refl))) o l
beyond_above h w x fine folds t i p o (inr (inr l)) = neighbour_above h w x fine folds t i t.c t.a t.b p (inr (inr (refl, refl, refl))) o l

-- ---- the walk ends: the highest of the planes at p is that of a triple with the corner p

highest : (f : Triangle → ℤ) (t : Triangle) (ts : List Triangle) → (m : Triangle) × Contains (t ∷ ts) m × ((u : Triangle) → Contains (t ∷ ts) u → f u ≤ℤ f m)
highest f t [] = (t, Contains-here t t [] refl, λ u c. only u (Contains-cases u t [] c))
  where
    self : (z : ℤ) → z ≤ℤ z
    self z = omega (arith, ints)

    only : (u : Triangle) → (u ≡ t) ⊎ Contains [] u → f u ≤ℤ f t
    only u (inl e) = let P = λ (k : Triangle). f k ≤ℤ f t in subst P (sym e) (self (f t))
    only u (inr c) = Contains-none u c
highest f t (s ∷ ts) = by (highest f s ts)
  where
    self : (z : ℤ) → z ≤ℤ z
    self z = omega (arith, ints)

    chain : (y z v : ℤ) → y ≤ℤ z → z ≤ℤ v → y ≤ℤ v
    chain y z v i j = omega (arith, ints, i, j)

    by : (m : Triangle) × Contains (s ∷ ts) m × ((u : Triangle) → Contains (s ∷ ts) u → f u ≤ℤ f m)
        → (m : Triangle) × Contains (t ∷ s ∷ ts) m × ((u : Triangle) → Contains (t ∷ s ∷ ts) u → f u ≤ℤ f m)
    by (m, c, most) = pick (less_or_least (f t) (f m))
      where
        first : f t ≤ℤ f m → (u : Triangle) → (u ≡ t) ⊎ Contains (s ∷ ts) u → f u ≤ℤ f m
        first l u (inl e) = let P = λ (k : Triangle). f k ≤ℤ f m in subst P (sym e) l
        first l u (inr d) = most u d

        second : f m ≤ℤ f t → (u : Triangle) → (u ≡ t) ⊎ Contains (s ∷ ts) u → f u ≤ℤ f t
        second l u (inl e) = let P = λ (k : Triangle). f k ≤ℤ f t in subst P (sym e) (self (f t))
        second l u (inr d) = chain (f u) (f m) (f t) (most u d) l

        pick : (f t ≤ℤ f m) ⊎ (f m ≤ℤ f t) → (m : Triangle) × Contains (t ∷ s ∷ ts) m × ((u : Triangle) → Contains (t ∷ s ∷ ts) u → f u ≤ℤ f m)
        pick (inl l) = (m, Contains-there m t (s ∷ ts) c, λ u d. first l u (Contains-cases u t (s ∷ ts) d))
        pick (inr l) = (t, Contains-here t t (s ∷ ts) refl, λ u d. second l u (Contains-cases u t (s ∷ ts) d))

-- of a list with an entry
pub highest_of : (f : Triangle → ℤ) (ts : List Triangle) (t : Triangle) → Contains ts t → (m : Triangle) × Contains ts m × ((u : Triangle) → Contains ts u → f u ≤ℤ f m)
highest_of f [] t c = Contains-none t c
highest_of f (s ∷ ts) t c = highest f s ts

-- the plane at a corner is the height of that corner
pub level_corner : (h : Patch) (w : List ℤ) (t : Triangle) (p : ℕ) → (p ≡ t.a) ⊎ ((p ≡ t.b) ⊎ (p ≡ t.c)) → level_of h w p t ≡ height w p *ℤ area_of h t.a t.b t.c
level_corner h w t p k = by k
  where
    first : (a b c : ℕ) → p ≡ a → level h w a b c p ≡ height w p *ℤ area_of h a b c
    first a b c e =
        let P = λ (k : ℕ). level h w a b c k ≡ height w k *ℤ area_of h a b c in
        subst P (sym e) (plane_first (axes h) (place h a) (place h b) (place h c) (height w a) (height w b) (height w c))

    by : (p ≡ t.a) ⊎ ((p ≡ t.b) ⊎ (p ≡ t.c)) → level_of h w p t ≡ height w p *ℤ area_of h t.a t.b t.c
    by (inl e) = first t.a t.b t.c e
    by (inr (inl e)) =
        sym (level_at_corner h w t t.b t.c t.a p (inr (inl (refl, refl, refl)))) ∙ first t.b t.c t.a e
        ∙ ap (λ k. height w p *ℤ k) (area_turn (axes h) (place h t.a) (place h t.b) (place h t.c))
    by (inr (inr e)) =
        sym (level_at_corner h w t t.c t.a t.b p (inr (inr (refl, refl, refl)))) ∙ first t.c t.a t.b e
        ∙ ap (λ k. height w p *ℤ k) (sym (area_turn (axes h) (place h t.c) (place h t.a) (place h t.b)))

-- no plane of a triple passes above a point
pub level_most : (h : Patch) → AreApart h → (w : List ℤ) (x : Triangulation) → IsFine h x.triangles → AreFoldsPositive h w x → (t : Triangle) → Contains x.triangles t → (p : ℕ) → IsOf h p
    → level_of h w p t ≤ℤ (height w p *ℤ area_of h t.a t.b t.c)
level_most h apart w x fine folds t i p o =
    let r = highest_of (level_of h w p) x.triangles t i in
    let m = r.0 in
    let v = fine.unit m r.1 in
    let e = unit_areas h m.a m.b m.c t.a t.b t.c v (fine.unit t i) in
    by m r.1 r.2 e (corner_or_beyond h apart m.a m.b m.c p v o)
  where
    last : (y z u v : ℤ) → y ≤ℤ z → z ≡ u → u ≡ v → y ≤ℤ v
    last y z u v l e f = omega (arith, ints, l, e, f)

    no : (y z : ℤ) → y <ℤ z → z ≤ℤ y → ⊥
    no y z l k = absurd (omega (arith, ints, l, k))

    by : (m : Triangle) → Contains x.triangles m → ((u : Triangle) → Contains x.triangles u → level_of h w p u ≤ℤ level_of h w p m) → area_of h m.a m.b m.c ≡ area_of h t.a t.b t.c
        → ((p ≡ m.a) ⊎ ((p ≡ m.b) ⊎ (p ≡ m.c))) ⊎ IsBeyond h m.a m.b m.c p → level_of h w p t ≤ℤ (height w p *ℤ area_of h t.a t.b t.c)
    by m c most e (inl k) = last (level_of h w p t) (level_of h w p m) (height w p *ℤ area_of h m.a m.b m.c) (height w p *ℤ area_of h t.a t.b t.c) (most t i) (level_corner h w m p k) (ap (λ z. height w p *ℤ z) e)
    by m c most e (inr b) = let u = beyond_above h w x fine folds m c p o b in absurd (no (level_of h w p m) (level_of h w p u.0) u.2 (most u.0 u.1))

-- where each fold is positive, every other point lies above each triple
pub folds_give_above : (h : Patch) → AreApart h → (w : List ℤ) (x : Triangulation) → IsFine h x.triangles → AreFoldsPositive h w x → IsRegularBy h w x
folds_give_above h apart w x fine folds t i p o a b c =
    above_from_level h w t.a t.b t.c p (fine.unit t i) o (by (corner_or_beyond h apart t.a t.b t.c p (fine.unit t i) o))
  where
    more : (y z v : ℤ) → y <ℤ z → z ≤ℤ v → y <ℤ v
    more y z v k l = omega (arith, ints, k, l)

    by : ((p ≡ t.a) ⊎ ((p ≡ t.b) ⊎ (p ≡ t.c))) ⊎ IsBeyond h t.a t.b t.c p → level_of h w p t <ℤ (height w p *ℤ area_of h t.a t.b t.c)
    by (inl k) = absurd (⊎_elim a (⊎_elim b c) k)
    by (inr k) =
        let u = beyond_above h w x fine folds t i p o k in
        let e = unit_areas h u.0.a u.0.b u.0.c t.a t.b t.c (fine.unit u.0 u.1) (fine.unit t i) in
        let most = level_most h apart w x fine folds u.0 u.1 p o in
        let P = λ (z : ℤ). level_of h w p u.0 ≤ℤ (height w p *ℤ z) in
        more (level_of h w p t) (level_of h w p u.0) (height w p *ℤ area_of h t.a t.b t.c) u.2 (subst P e most)

-- the folds are positive exactly where every other point lies above each triple
pub folds_exactly_above : (h : Patch) → AreApart h → (w : List ℤ) (x : Triangulation) → IsFine h x.triangles → AreFoldsPositive h w x ↔ IsRegularBy h w x
folds_exactly_above h apart w x fine = (folds_give_above h apart w x fine, above_gives_folds h w x fine)

-- Each inner edge of a fine set has exactly one fold.
--     unit_corner      a unit triple is one from each of its corners on
--     opposite_balance      where a, b, c and b, a, d are unit triples, c + d = (2 - s) a + s b for a whole s
--     third_fixed      one triple has a side, so its third point is determined
--     fold_exists, fold_unique      so each inner edge has one fold, and only one
use Rattle.std.proofs.Common.{◌≡◌, ◌≢◌, ℕ, zero, suc, ◌*◌, ◌-◌, ◌<◌, ◌≤◌, ◌⊎◌, inl, inr, refl, sym, ap, ◌∙◌, subst, arith, ℤ, pos, negsuc, ◌+ℤ◌, ◌-ℤ◌, ◌*ℤ◌, neg_ℤ, unsigned_abs, List, [], ◌∷◌, get_or}
use Rattle.std.specs.Prelude.{Contains}
use Rattle.std.proofs.lemmas.Int.{ints, unsigned_abs-mul}
use Rattle.ntfe_nums.specs.Vectors.{Vector, numbers, coordinate, area, vector_sum, multiple}
use Rattle.ntfe_model.specs.Charts.{Patch, IsUnit, axes, place, reached}
use Rattle.ntfe_model.specs.Triangulations.{IsRotationOf, IsFine}
use Rattle.ntfe_model.specs.Choices.{IsInnerEdge, AreOpposite, IsFoldOf}
use Rattle.ntfe_model.specs.declared.triangle.Triangle.{Triangle}
use Rattle.ntfe_model.specs.declared.triangulation.Triangulation.{Triangulation}
use Rattle.ntfe_model.specs.declared.nogood.Fold.{Fold}
use Rattle.ntfe_model.proofs.Areas.{IsPositive, positive_is}
use Rattle.ntfe_model.proofs.Triples.{AreThree, positive_three, third_point, corner_side, corner_same}
use Rattle.ntfe_model.proofs.PlaneNumbers.{flat, flatE, reachE, coordinate_reached}
use Rattle.ntfe_model.proofs.UnitTriples.{unit_turn, reached_balance}
use Rattle.ntfe_nums.proofs.Ring.{Expression, ring}
use Rattle.ntfe_nums.proofs.Ring.Expression.{var, num, plus, minus, times, neg}

-- ---- unit triples from each corner on

-- a + (s (b - a) + t (c - a)), in one coordinate
abbrev pub reached1 : ℤ → ℤ → ℤ → ℤ → ℤ → ℤ
reached1 a b c s t = a +ℤ (s *ℤ (b -ℤ a) +ℤ t *ℤ (c -ℤ a))

unit_moved : (h : Patch) (a b c x y z : ℕ) → a ≡ x → b ≡ y → c ≡ z → IsUnit h a b c → IsUnit h x y z
unit_moved h a b c x y z p q r u =
    let P : ℕ → Type 0 = λ k. IsUnit h k b c in let Q : ℕ → Type 0 = λ k. IsUnit h x k c in let R : ℕ → Type 0 = λ k. IsUnit h x y k in
    subst R r (subst Q q (subst P p u))

pub unit_corner : (h : Patch) (t : Triangle) (x y z : ℕ) → IsUnit h t.a t.b t.c → IsRotationOf t x y z → IsUnit h x y z
unit_corner h t x y z u (inl k) = unit_moved h t.a t.b t.c x y z k.0 k.1 k.2 u
unit_corner h t x y z u (inr (inl k)) = unit_moved h t.b t.c t.a x y z k.0 k.1 k.2 (unit_turn h t.a t.b t.c u)
unit_corner h t x y z u (inr (inr k)) = unit_moved h t.c t.a t.b x y z k.0 k.1 k.2 (unit_turn h t.b t.c t.a (unit_turn h t.a t.b t.c u))

-- ---- coordinates

at_mix : (j : ℕ) (a b : Vector) (s t : ℤ)
    → get_or (numbers (vector_sum (multiple s a) (multiple t b))) j (pos 0) ≡ s *ℤ get_or (numbers a) j (pos 0) +ℤ t *ℤ get_or (numbers b) j (pos 0)
at_mix zero a b s t = refl
at_mix (suc zero) a b s t = refl
at_mix (suc (suc zero)) a b s t = refl
at_mix (suc (suc (suc zero))) a b s t = refl
at_mix (suc (suc (suc (suc j)))) a b s t = ring (s ∷ t ∷ []) (num (pos 0)) (plus (times (var 0) (num (pos 0))) (times (var 1) (num (pos 0)))) refl

-- ---- the point across a side

across1 : (ai aj bi bj ci cj s t : ℤ) → flat bi bj ai aj (reached1 ai bi ci s t) (reached1 aj bj cj s t) ≡ neg_ℤ (t *ℤ flat ai aj bi bj ci cj)
across1 ai aj bi bj ci cj s t =
    ring (ai ∷ aj ∷ bi ∷ bj ∷ ci ∷ cj ∷ s ∷ t ∷ [])
    (flatE (var 2) (var 3) (var 0) (var 1) (reachE (var 0) (var 2) (var 4) (var 6) (var 7)) (reachE (var 1) (var 3) (var 5) (var 6) (var 7)))
    (neg (times (var 7) (flatE (var 0) (var 1) (var 2) (var 3) (var 4) (var 5)))) refl

-- seen from the reversed side, the area grows by -t
pub area_across : (q : ℕ × ℕ) (a b c d : Vector) (s t : ℤ) → d ≡ reached a b c s t → area q b a d ≡ neg_ℤ (t *ℤ area q a b c)
area_across q a b c d s t e =
    ap (λ v. area q b a v) e
    ∙ (λ i. flat (coordinate q.0 b) (coordinate q.1 b) (coordinate q.0 a) (coordinate q.1 a) (coordinate_reached q.0 a b c s t i) (coordinate_reached q.1 a b c s t i))
    ∙ across1 (coordinate q.0 a) (coordinate q.1 a) (coordinate q.0 b) (coordinate q.1 b) (coordinate q.0 c) (coordinate q.1 c) s t

-- ---- its factor is -1

factor : (t : ℤ) (m n : ℕ) → pos (suc n) ≡ neg_ℤ (t *ℤ pos (suc m)) → (k : ℕ) × (t ≡ negsuc k) × (suc n ≡ suc k * suc m)
factor (pos k) m n e = absurd (omega (arith, ints, e))
factor (negsuc k) m n e = (k, refl, omega (arith, ints, e))

grows : (k m n : ℕ) → suc n ≡ suc k * suc m → m ≤ n
grows k m n e = omega (arith, e)

not_grown : (k m n : ℕ) → suc n ≡ suc k * suc m → n ≤ m → k ≡ 0
not_grown zero m n e l = refl
not_grown (suc k) m n e l = absurd (omega (arith, e, l))

pub factor_one : (t r x y : ℤ) → IsPositive x → IsPositive y → y ≡ neg_ℤ (t *ℤ x) → x ≡ neg_ℤ (r *ℤ y) → t ≡ negsuc 0
factor_one t r x y p q e f =
    let (m, xm) = positive_is x p in let (n, yn) = positive_is y q in
    let k = factor t m n (sym yn ∙ e ∙ ap (λ z. neg_ℤ (t *ℤ z)) xm) in
    let l = factor r n m (sym xm ∙ f ∙ ap (λ z. neg_ℤ (r *ℤ z)) yn) in
    k.1 ∙ ap negsuc (not_grown k.0 m n k.2 (grows l.0 n m l.2))

-- ---- the balance

pub balanced : (a b c : Vector) (s : ℤ) → vector_sum c (reached a b c s (negsuc 0)) ≡ vector_sum (multiple (pos 2 -ℤ s) a) (multiple s b)
balanced a b c s = reached_balance a b c (reached a b c s (negsuc 0)) s refl

-- where a, b, c and b, a, d are unit triples, c + d = (2 - s) a + s b
pub opposite_balance : (h : Patch) (a b c d : ℕ) → IsUnit h a b c → IsUnit h b a d
    → (s : ℤ) × (vector_sum (place h c) (place h d) ≡ vector_sum (multiple (pos 2 -ℤ s) (place h a)) (multiple s (place h b)))
opposite_balance h a b c d u v =
    let A = place h a in let B = place h b in let C = place h c in let D = place h d in
    let q = axes h in
    let r = u.reaches d v.points.2 in
    let w = v.reaches c u.points.2 in
    let one = factor_one r.1 w.1 (area q A B C) (area q B A D) u.left v.left (area_across q A B C D r.0 r.1 r.2) (area_across q B A D C w.0 w.1 w.2) in
    (r.0, ap (λ x. vector_sum C x) (r.2 ∙ ap (λ k. reached A B C r.0 k) one) ∙ balanced A B C r.0)

-- ---- the third points

same_third : (t : Triangle) (x y z w : ℕ) → AreThree t → IsRotationOf t x y z → IsRotationOf t x y w → z ≡ w
same_third t x y z w n (inl h) (inl s) = sym h.2 ∙ s.2
same_third t x y z w n (inl h) (inr (inl s)) = absurd (n.0 (h.0 ∙ sym s.0))
same_third t x y z w n (inl h) (inr (inr s)) = absurd (n.2 (s.0 ∙ sym h.0))
same_third t x y z w n (inr (inl h)) (inl s) = absurd (n.0 (s.0 ∙ sym h.0))
same_third t x y z w n (inr (inl h)) (inr (inl s)) = sym h.2 ∙ s.2
same_third t x y z w n (inr (inl h)) (inr (inr s)) = absurd (n.1 (h.0 ∙ sym s.0))
same_third t x y z w n (inr (inr h)) (inl s) = absurd (n.2 (h.0 ∙ sym s.0))
same_third t x y z w n (inr (inr h)) (inr (inl s)) = absurd (n.1 (s.0 ∙ sym h.0))
same_third t x y z w n (inr (inr h)) (inr (inr s)) = sym h.2 ∙ s.2

pub unit_three : (h : Patch) (t : Triangle) → IsUnit h t.a t.b t.c → AreThree t
unit_three h t u = positive_three (axes h) (place h) t u.left

-- only one triple of a fine set has the side, so the third point is determined
pub third_fixed : (h : Patch) (ts : List Triangle) → IsFine h ts → (t u : Triangle) → Contains ts t → Contains ts u → (x y z w : ℕ) → IsRotationOf t x y z → IsRotationOf u x y w → z ≡ w
third_fixed h ts fine t u k l x y z w c d =
    same_third t x y z w (unit_three h t (fine.unit t k)) c
    (corner_same t u x y w (fine.once t u k l x y (corner_side t x y z c) (corner_side u x y w d)) d)

pub opposite_fixed : (h : Patch) (ts : List Triangle) → IsFine h ts → (a b c d i j : ℕ) → AreOpposite ts a b c d → AreOpposite ts a b i j → (c ≡ i) × (d ≡ j)
opposite_fixed h ts fine a b c d i j (t, u, kt, ku, ct, cu) (v, w, kv, kw, cv, cw) =
    (third_fixed h ts fine t v kt kv a b c i ct cv, third_fixed h ts fine u w ku kw b a d j cu cw)

pub opposite_exists : (ts : List Triangle) (a b : ℕ) → IsInnerEdge ts a b → (c : ℕ) × (d : ℕ) × AreOpposite ts a b c d
opposite_exists ts a b (l, (t, kt, st), (u, ku, su)) =
    let c = third_point t a b st in let d = third_point u b a su in
    (c.0, d.0, (t, u, kt, ku, c.1, d.1))

-- ---- the coefficients

no_sum : (a b : ℤ) → neg_ℤ (a *ℤ pos 0) +ℤ b *ℤ pos 0 ≡ pos 0
no_sum a b = omega (arith, ints)

gap_zero : (x y : ℤ) → x ≡ y → x -ℤ y ≡ pos 0
gap_zero x y e = omega (arith, ints, e)

equal_numbers : (x y : ℤ) → x -ℤ y ≡ pos 0 → x ≡ y
equal_numbers x y e = omega (arith, ints, e)

rest_of_two : (x y : ℤ) → x +ℤ y ≡ pos 2 → y ≡ pos 2 -ℤ x
rest_of_two x y e = omega (arith, ints, e)

abbrev gap1 : ℤ → ℤ → ℤ → ℤ → ℤ
gap1 a b k l = (k *ℤ a +ℤ (pos 2 -ℤ k) *ℤ b) -ℤ (l *ℤ a +ℤ (pos 2 -ℤ l) *ℤ b)

abbrev gapE : Expression → Expression → Expression → Expression → Expression
gapE a b k l = minus (plus (times k a) (times (minus (num (pos 2)) k) b)) (plus (times l a) (times (minus (num (pos 2)) l) b))

weighed : (ai aj bi bj ci cj k l : ℤ) → (k -ℤ l) *ℤ flat ai aj bi bj ci cj ≡ neg_ℤ ((cj -ℤ aj) *ℤ gap1 ai bi k l) +ℤ (ci -ℤ ai) *ℤ gap1 aj bj k l
weighed ai aj bi bj ci cj k l =
    ring (ai ∷ aj ∷ bi ∷ bj ∷ ci ∷ cj ∷ k ∷ l ∷ [])
    (times (minus (var 6) (var 7)) (flatE (var 0) (var 1) (var 2) (var 3) (var 4) (var 5)))
    (plus (neg (times (minus (var 5) (var 1)) (gapE (var 0) (var 2) (var 6) (var 7)))) (times (minus (var 4) (var 0)) (gapE (var 1) (var 3) (var 6) (var 7)))) refl

-- a product that is 0, by a positive number
zero_first : (z x : ℤ) → IsPositive x → z *ℤ x ≡ pos 0 → z ≡ pos 0
zero_first z x p e =
    let (n, xn) = positive_is x p in
    let s : unsigned_abs z * suc n ≡ 0 = sym (unsigned_abs-mul z (pos (suc n))) ∙ ap unsigned_abs (ap (λ y. z *ℤ y) (sym xn) ∙ e) in
    size z (nothing (unsigned_abs z) n s)
  where
    nothing : (m n : ℕ) → m * suc n ≡ 0 → m ≡ 0
    nothing zero n h = refl
    nothing (suc m) n h = absurd (omega (arith, h))

    size : (y : ℤ) → unsigned_abs y ≡ 0 → y ≡ pos 0
    size (pos n) h = ap pos h
    size (negsuc n) h = absurd (omega (arith, h))

-- two combinations of two places with weights that sum to 2 are one, where some third place makes an area with them
pub weights_fixed : (q : ℕ × ℕ) (a b c : Vector) (k l i j : ℤ) → IsPositive (area q a b c) → k +ℤ l ≡ pos 2 → i +ℤ j ≡ pos 2
    → vector_sum (multiple k a) (multiple l b) ≡ vector_sum (multiple i a) (multiple j b) → (k ≡ i) × (l ≡ j)
weights_fixed q a b c k l i j p e f same =
    let l2 = rest_of_two k l e in let j2 = rest_of_two i j f in
    let at = λ (m : ℕ). λ (v : Vector). get_or (numbers v) m (pos 0) in
    let gap : (m : ℕ) → gap1 (at m a) (at m b) k i ≡ pos 0 = (λ m.
    gap_zero (k *ℤ at m a +ℤ (pos 2 -ℤ k) *ℤ at m b) (i *ℤ at m a +ℤ (pos 2 -ℤ i) *ℤ at m b)
    (ap (λ w. k *ℤ at m a +ℤ w *ℤ at m b) (sym l2) ∙ sym (at_mix m a b k l) ∙ ap (at m) same ∙ at_mix m a b i j ∙ ap (λ w. i *ℤ at m a +ℤ w *ℤ at m b) j2)) in
    let z : (k -ℤ i) *ℤ area q a b c ≡ pos 0 =
    (weighed (coordinate q.0 a) (coordinate q.1 a) (coordinate q.0 b) (coordinate q.1 b) (coordinate q.0 c) (coordinate q.1 c) k i
    ∙ (λ t. neg_ℤ ((coordinate q.1 c -ℤ coordinate q.1 a) *ℤ gap (q.0 - 1) t) +ℤ (coordinate q.0 c -ℤ coordinate q.0 a) *ℤ gap (q.1 - 1) t)
    ∙ no_sum (coordinate q.1 c -ℤ coordinate q.1 a) (coordinate q.0 c -ℤ coordinate q.0 a)) in
    let r = equal_numbers k i (zero_first (k -ℤ i) (area q a b c) p z) in
    (r, l2 ∙ ap (λ w. pos 2 -ℤ w) (r) ∙ sym j2)

-- ---- each inner edge has a fold

sum_swap : (a b : ℤ) → a +ℤ b ≡ b +ℤ a
sum_swap a b = omega (arith, ints)

pub vector_swap : (a b : Vector) → vector_sum a b ≡ vector_sum b a
vector_swap a b = λ i. record { x1 = sum_swap a.x1 b.x1 i; x2 = sum_swap a.x2 b.x2 i; x3 = sum_swap a.x3 b.x3 i; x4 = sum_swap a.x4 b.x4 i }

two_weights : (s : ℤ) → (pos 2 -ℤ s) +ℤ s ≡ pos 2
two_weights s = omega (arith, ints)

order : (c d : ℕ) → c ≢ d → (c < d) ⊎ (d < c)
order c d n = grind (arith, n)

-- a third point is not on both sides of an edge
pub opposite_apart : (h : Patch) (a b c d : ℕ) → IsUnit h a b c → IsUnit h b a d → c ≢ d
opposite_apart h a b c d u v e =
    let q = axes h in
    let (m, x) = positive_is (area q (place h a) (place h b) (place h c)) u.left in
    let (n, y) = positive_is (area q (place h b) (place h a) (place h d)) v.left in
    let z : area q (place h b) (place h a) (place h d) ≡ neg_ℤ (area q (place h a) (place h b) (place h d)) =
    back (coordinate q.0 (place h a)) (coordinate q.1 (place h a)) (coordinate q.0 (place h b)) (coordinate q.1 (place h b)) (coordinate q.0 (place h d)) (coordinate q.1 (place h d)) in
    let w : pos (suc n) ≡ neg_ℤ (pos (suc m)) = sym y ∙ z ∙ ap (λ k. neg_ℤ (area q (place h a) (place h b) (place h k))) (sym e) ∙ ap neg_ℤ x in
    never m n w
  where
    back : (ai aj bi bj ci cj : ℤ) → flat bi bj ai aj ci cj ≡ neg_ℤ (flat ai aj bi bj ci cj)
    back ai aj bi bj ci cj =
        ring (ai ∷ aj ∷ bi ∷ bj ∷ ci ∷ cj ∷ []) (flatE (var 2) (var 3) (var 0) (var 1) (var 4) (var 5)) (neg (flatE (var 0) (var 1) (var 2) (var 3) (var 4) (var 5))) refl

    never : (m n : ℕ) → pos (suc n) ≡ neg_ℤ (pos (suc m)) → ⊥
    never m n w = absurd (omega (arith, ints, w))

pub fold_of_opposite : (h : Patch) (x : Triangulation) → IsFine h x.triangles → (a b c d : ℕ) → a < b → AreOpposite x.triangles a b c d
    → (r : Fold) × (r.a ≡ a) × (r.b ≡ b) × IsFoldOf h x r
fold_of_opposite h x fine a b c d l o = by (order c d (opposite_apart h a b c d u v))
  where
    u : IsUnit h a b c
    u = unit_corner h o.0 a b c (fine.unit o.0 o.2) o.4

    v : IsUnit h b a d
    v = unit_corner h o.1 b a d (fine.unit o.1 o.3) o.5

    by : ((c < d) ⊎ (d < c)) → (r : Fold) × (r.a ≡ a) × (r.b ≡ b) × IsFoldOf h x r
    by (inl k) =
        let s = opposite_balance h a b c d u v in (
          record { a = a; b = b; c = c; d = d; alpha = pos 2 -ℤ s.0; beta = s.0 },
          refl,
          refl,
          record { edge = l; ordered = k; opposite = inl o; balance = s.1; two = two_weights s.0 },
        )
    by (inr k) =
        let s = opposite_balance h a b c d u v in (
          record { a = a; b = b; c = d; d = c; alpha = pos 2 -ℤ s.0; beta = s.0 },
          refl,
          refl,
          record { edge = l; ordered = k; opposite = inr o; balance = vector_swap (place h d) (place h c) ∙ s.1; two = two_weights s.0 },
        )

-- each inner edge of a fine set has a fold,
pub fold_exists : (h : Patch) (x : Triangulation) → IsFine h x.triangles → (a b : ℕ) → IsInnerEdge x.triangles a b
    → (r : Fold) × (r.a ≡ a) × (r.b ≡ b) × IsFoldOf h x r
fold_exists h x fine a b e = let o = opposite_exists x.triangles a b e in fold_of_opposite h x fine a b o.0 o.1 e.0 o.2

-- a fold is of an inner edge,
pub fold_edge : (h : Patch) (x : Triangulation) (r : Fold) → IsFoldOf h x r → IsInnerEdge x.triangles r.a r.b
fold_edge h x r f = by f.opposite
  where
    of : (c d : ℕ) → AreOpposite x.triangles r.a r.b c d → IsInnerEdge x.triangles r.a r.b
    of c d o = (f.edge, (o.0, o.2, corner_side o.0 r.a r.b c o.4), (o.1, o.3, corner_side o.1 r.b r.a d o.5))

    by : AreOpposite x.triangles r.a r.b r.c r.d ⊎ AreOpposite x.triangles r.a r.b r.d r.c → IsInnerEdge x.triangles r.a r.b
    by (inl o) = of r.c r.d o
    by (inr o) = of r.d r.c o

-- ---- and only one

order_clash : (c d i j : ℕ) → c < d → i < j → c ≡ j → d ≡ i → ⊥
order_clash c d i j p q e f = absurd (omega (arith, p, q, e, f))

same_points : (h : Patch) (ts : List Triangle) → IsFine h ts → (a b c d i j : ℕ) → c < d → i < j → AreOpposite ts a b c d ⊎ AreOpposite ts a b d c
    → AreOpposite ts a b i j ⊎ AreOpposite ts a b j i → (c ≡ i) × (d ≡ j)
same_points h ts fine a b c d i j p q (inl o) (inl k) = opposite_fixed h ts fine a b c d i j o k
same_points h ts fine a b c d i j p q (inl o) (inr k) = let r = opposite_fixed h ts fine a b c d j i o k in absurd (order_clash c d i j p q r.0 r.1)
same_points h ts fine a b c d i j p q (inr o) (inl k) = let r = opposite_fixed h ts fine a b d c i j o k in absurd (order_clash c d i j p q r.1 r.0)
same_points h ts fine a b c d i j p q (inr o) (inr k) = let r = opposite_fixed h ts fine a b d c j i o k in (r.1, r.0)

-- the two ends of a fold make an area with some third point
fold_area : (h : Patch) (x : Triangulation) (r : Fold) → IsFine h x.triangles → IsFoldOf h x r → (c : ℕ) × IsPositive (area (axes h) (place h r.a) (place h r.b) (place h c))
fold_area h x r fine f = by f.opposite
  where
    by : AreOpposite x.triangles r.a r.b r.c r.d ⊎ AreOpposite x.triangles r.a r.b r.d r.c → (c : ℕ) × IsPositive (area (axes h) (place h r.a) (place h r.b) (place h c))
    by (inl o) = (r.c, (unit_corner h o.0 r.a r.b r.c (fine.unit o.0 o.2) o.4).left)
    by (inr o) = (r.d, (unit_corner h o.0 r.a r.b r.d (fine.unit o.0 o.2) o.4).left)

fold_moved : (h : Patch) (x : Triangulation) (q : Fold) (a b : ℕ) → q.a ≡ a → q.b ≡ b → IsFoldOf h x q
    → IsFoldOf h x (record { a = a; b = b; c = q.c; d = q.d; alpha = q.alpha; beta = q.beta })
fold_moved h x q a b e f k =
    let P : ℕ → Type 0 = λ m. IsFoldOf h x (record { a = m; b = q.b; c = q.c; d = q.d; alpha = q.alpha; beta = q.beta }) in
    let Q : ℕ → Type 0 = λ m. IsFoldOf h x (record { a = a; b = m; c = q.c; d = q.d; alpha = q.alpha; beta = q.beta }) in
    subst Q f (subst P e k)

-- the folds of one inner edge of a fine set are one
pub fold_unique : (h : Patch) (x : Triangulation) → IsFine h x.triangles → (r q : Fold) → IsFoldOf h x r → IsFoldOf h x q → r.a ≡ q.a → r.b ≡ q.b → r ≡ q
fold_unique h x fine r q f g ea eb =
    let k = fold_moved h x q r.a r.b (sym ea) (sym eb) g in
    let p = same_points h x.triangles fine r.a r.b r.c r.d q.c q.d f.ordered g.ordered f.opposite k.opposite in
    let n = fold_area h x r fine f in
    let w = weights_fixed (axes h) (place h r.a) (place h r.b) (place h n.0) r.alpha r.beta q.alpha q.beta n.1 f.two g.two
    (sym f.balance ∙ (λ i. vector_sum (place h (p.0 i)) (place h (p.1 i))) ∙ k.balance) in
    λ i. record { a = ea i; b = eb i; c = p.0 i; d = p.1 i; alpha = w.0 i; beta = w.1 i }

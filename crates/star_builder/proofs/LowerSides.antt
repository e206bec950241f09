-- The sides of triples that lie below all other points of a plane meet in ends alone.
--     meet_heights      two segments that meet, and the heights at the meeting point
--     lower_sides_meet      where sides of two lower triples meet, the point is an end of both, or they have the same two ends
use Rattle.std.proofs.Common.{◌≡◌, ◌≢◌, ℕ, suc, ◌⊎◌, inl, inr, ⊎_elim, refl, sym, ap, ◌∙◌, subst, arith, ℤ, pos, ◌+ℤ◌, ◌-ℤ◌, ◌*ℤ◌, ◌≤ℤ◌, [], ◌∷◌}
use Rattle.std.proofs.lemmas.Int.{ints}
use Rattle.ntfe_nums.proofs.Ring.{Expression, ring}
use Rattle.ntfe_nums.proofs.Ring.Expression.{var, num, plus, minus, times}
use Rattle.ntfe_model.specs.Triangulations.{HaveSameEnds}
use Rattle.ntfe_model.proofs.PlaneNumbers.{zero_factor}
use Rattle.star_builder.proofs.Planar.{wedge, lift, IsLower, lower_over, wedgeE, liftE, wedge_outer, wedge_last}
use Rattle.ntfe_nums.proofs.Signs.{product_not_negative, factor_not_negative, same_or, sum_not_negative, positive_some}

-- ---- numbers

-- two numbers that are not negative, with the sum 0
both_none : (y z : ℤ) → pos 0 ≤ℤ y → pos 0 ≤ℤ z → y +ℤ z ≡ pos 0 → (y ≡ pos 0) × (z ≡ pos 0)
both_none y z k l e = (omega (arith, ints, k, l, e), omega (arith, ints, k, l, e))

module _ (X Y v : ℕ → ℤ) where
  -- s1 a + s2 b and t1 c + t2 d are the same point, s1 + s2 = t1 + t2 times taken
  pub record DoMeet (a b c d : ℕ) (s1 s2 t1 t2 : ℤ) : Type 0 where
    pub not_negative : (pos 0 ≤ℤ s1) × (pos 0 ≤ℤ s2) × (pos 0 ≤ℤ t1) × (pos 0 ≤ℤ t2)
    pub weights : t1 +ℤ t2 ≡ s1 +ℤ s2
    pub first : t1 *ℤ X c +ℤ t2 *ℤ X d ≡ s1 *ℤ X a +ℤ s2 *ℤ X b
    pub second : t1 *ℤ Y c +ℤ t2 *ℤ Y d ≡ s1 *ℤ Y a +ℤ s2 *ℤ Y b

  pub meet_back : (a b c d : ℕ) (s1 s2 t1 t2 : ℤ) → DoMeet a b c d s1 s2 t1 t2 → DoMeet c d a b t1 t2 s1 s2
  meet_back a b c d s1 s2 t1 t2 m = record {
    not_negative = (m.not_negative.2, m.not_negative.3, m.not_negative.0, m.not_negative.1);
    weights = sym m.weights;
    first = sym m.first;
    second = sym m.second;
  }

  -- ---- heights at the meeting point

  -- the wedge of b, e and a point that is n times taken
  abbrev wedge_at : ℕ → ℕ → ℤ → ℤ → ℤ → ℤ
  wedge_at b e n x y = (X e -ℤ X b) *ℤ (y -ℤ n *ℤ Y b) -ℤ (Y e -ℤ Y b) *ℤ (x -ℤ n *ℤ X b)

  -- the lift of a point that is n times taken
  abbrev lift_at : ℕ → ℕ → ℕ → ℤ → ℤ → ℤ → ℤ → ℤ
  lift_at a b e n x y h = wedge X Y v a b e *ℤ h -ℤ (wedge_at b e n x y *ℤ v a +ℤ wedge_at e a n x y *ℤ v b +ℤ wedge_at a b n x y *ℤ v e)

  abbrev wedge_atE : ℕ → ℕ → Expression → Expression → Expression → Expression
  wedge_atE b e n x y = minus (times (minus (var e) (var b)) (minus y (times n (var (suc b))))) (times (minus (var (suc e)) (var (suc b))) (minus x (times n (var b))))

  abbrev lift_atE : ℕ → ℕ → ℕ → Expression → Expression → Expression → Expression → Expression
  lift_atE a b e n x y h =
      minus (times (wedgeE a b e) h)
      (plus (plus (times (wedge_atE b e n x y) (var (suc (suc a)))) (times (wedge_atE e a n x y) (var (suc (suc b))))) (times (wedge_atE a b n x y) (var (suc (suc e)))))

  abbrev mixE : ℕ → ℕ → ℕ → ℕ → Expression
  mixE s t i j = plus (times (var s) (var i)) (times (var t) (var j))

  -- the lifts of two points, mixed
  lifts_mixed : (a b e c d : ℕ) (t1 t2 : ℤ) → t1 *ℤ lift X Y v a b e c +ℤ t2 *ℤ lift X Y v a b e d
      ≡ lift_at a b e (t1 +ℤ t2) (t1 *ℤ X c +ℤ t2 *ℤ X d) (t1 *ℤ Y c +ℤ t2 *ℤ Y d) (t1 *ℤ v c +ℤ t2 *ℤ v d)
  lifts_mixed a b e c d t1 t2 =
      ring (X a ∷ Y a ∷ v a ∷ X b ∷ Y b ∷ v b ∷ X e ∷ Y e ∷ v e ∷ X c ∷ Y c ∷ v c ∷ X d ∷ Y d ∷ v d ∷ t1 ∷ t2 ∷ [])
      (plus (times (var 15) (liftE 0 3 6 9)) (times (var 16) (liftE 0 3 6 12)))
      (lift_atE 0 3 6 (plus (var 15) (var 16)) (mixE 15 16 9 12) (mixE 15 16 10 13) (mixE 15 16 11 14)) refl

  -- a point of the side
  side_lift : (a b e : ℕ) (s1 s2 h : ℤ) → lift_at a b e (s1 +ℤ s2) (s1 *ℤ X a +ℤ s2 *ℤ X b) (s1 *ℤ Y a +ℤ s2 *ℤ Y b) h ≡ wedge X Y v a b e *ℤ (h -ℤ (s1 *ℤ v a +ℤ s2 *ℤ v b))
  side_lift a b e s1 s2 h =
      ring (X a ∷ Y a ∷ v a ∷ X b ∷ Y b ∷ v b ∷ X e ∷ Y e ∷ v e ∷ s1 ∷ s2 ∷ h ∷ [])
      (lift_atE 0 3 6 (plus (var 9) (var 10)) (mixE 9 10 0 3) (mixE 9 10 1 4) (var 11))
      (times (wedgeE 0 3 6) (minus (var 11) (mixE 9 10 2 5))) refl

  meet_heights : (a b e c d : ℕ) (s1 s2 t1 t2 : ℤ) → DoMeet a b c d s1 s2 t1 t2
      → t1 *ℤ lift X Y v a b e c +ℤ t2 *ℤ lift X Y v a b e d ≡ wedge X Y v a b e *ℤ ((t1 *ℤ v c +ℤ t2 *ℤ v d) -ℤ (s1 *ℤ v a +ℤ s2 *ℤ v b))
  meet_heights a b e c d s1 s2 t1 t2 m =
      lifts_mixed a b e c d t1 t2
      ∙ (λ i. lift_at a b e (m.weights i) (m.first i) (m.second i) (t1 *ℤ v c +ℤ t2 *ℤ v d))
      ∙ side_lift a b e s1 s2 (t1 *ℤ v c +ℤ t2 *ℤ v d)

  -- the wedges of two points of one segment with the other
  meet_wedges : (a b c d : ℕ) (s1 s2 t1 t2 : ℤ) → DoMeet a b c d s1 s2 t1 t2 → t1 *ℤ wedge X Y v a b c +ℤ t2 *ℤ wedge X Y v a b d ≡ pos 0
  meet_wedges a b c d s1 s2 t1 t2 m =
      ring (X a ∷ Y a ∷ v a ∷ X b ∷ Y b ∷ v b ∷ X c ∷ Y c ∷ v c ∷ X d ∷ Y d ∷ v d ∷ t1 ∷ t2 ∷ [])
      (plus (times (var 12) (wedgeE 0 3 6)) (times (var 13) (wedgeE 0 3 9)))
      (wedge_atE 0 3 (plus (var 12) (var 13)) (mixE 12 13 6 9) (mixE 12 13 7 10)) refl
      ∙ (λ i. wedge_at a b (m.weights i) (m.first i) (m.second i))
      ∙ ring (X a ∷ Y a ∷ v a ∷ X b ∷ Y b ∷ v b ∷ s1 ∷ s2 ∷ [])
      (wedge_atE 0 3 (plus (var 6) (var 7)) (mixE 6 7 0 3) (mixE 6 7 1 4)) (num (pos 0)) refl

  module _ (On : ℕ → Type 0) where
    -- a segment that meets the side of a lower triple at its height has an end of weight 0, or the same ends
    level_ends : (a b e : ℕ) → IsLower X Y v On a b e → (c d : ℕ) → On c → On d → c ≢ d → (s1 s2 t1 t2 : ℤ) → DoMeet a b c d s1 s2 t1 t2
        → t1 *ℤ lift X Y v a b e c ≡ pos 0 → t2 *ℤ lift X Y v a b e d ≡ pos 0 → ((t1 ≡ pos 0) ⊎ (t2 ≡ pos 0)) ⊎ HaveSameEnds a b c d
    level_ends a b e l c d oc od n s1 s2 t1 t2 m ec ed = by (corner c oc t1 ec) (corner d od t2 ed)
      where
        corner : (p : ℕ) → On p → (t : ℤ) → t *ℤ lift X Y v a b e p ≡ pos 0 → (t ≡ pos 0) ⊎ ((p ≡ a) ⊎ ((p ≡ b) ⊎ (p ≡ e)))
        corner p o t z =
            ⊎_elim (λ k. inr (inl k)) (λ pa. ⊎_elim (λ k. inr (inr (inl k))) (λ pb. ⊎_elim (λ k. inr (inr (inr k)))
            (λ pe. ⊎_elim inl (λ k. absurd (positive_some (lift X Y v a b e p) (l.above p o pa pb pe) k)) (zero_factor t (lift X Y v a b e p) z)) (same_or p e)) (same_or p b)) (same_or p a)

        -- the third corner has weight 0, where the other is on the side
        third : (p r : ℕ) (t u : ℤ) → t *ℤ wedge X Y v a b p +ℤ u *ℤ wedge X Y v a b r ≡ pos 0 → p ≡ e → wedge X Y v a b r ≡ pos 0 → t ≡ pos 0
        third p r t u z i f =
            ⊎_elim (λ k. k) (λ k. absurd (positive_some (wedge X Y v a b e) l.left k))
            (zero_factor t (wedge X Y v a b e) (by (t *ℤ wedge X Y v a b p) u (wedge X Y v a b r) (t *ℤ wedge X Y v a b e) z f (ap (λ k. t *ℤ wedge X Y v a b k) i)))
          where
            by : (q u w r : ℤ) → q +ℤ u *ℤ w ≡ pos 0 → w ≡ pos 0 → q ≡ r → r ≡ pos 0
            by q u w r z f i = sum q (u *ℤ w) r (z) (ap (λ k. u *ℤ k) f ∙ omega (arith, ints)) i
              where
                sum : (q y r : ℤ) → q +ℤ y ≡ pos 0 → y ≡ pos 0 → q ≡ r → r ≡ pos 0
                sum q y r z f i = omega (arith, ints, z, f, i)

        wedges : t1 *ℤ wedge X Y v a b c +ℤ t2 *ℤ wedge X Y v a b d ≡ pos 0
        wedges = meet_wedges a b c d s1 s2 t1 t2 m

        wedges_turned : t2 *ℤ wedge X Y v a b d +ℤ t1 *ℤ wedge X Y v a b c ≡ pos 0
        wedges_turned = turned (t1 *ℤ wedge X Y v a b c) (t2 *ℤ wedge X Y v a b d) wedges
          where
            turned : (x y : ℤ) → x +ℤ y ≡ pos 0 → y +ℤ x ≡ pos 0
            turned x y z = omega (arith, ints, z)

        at_a : (p : ℕ) → p ≡ a → wedge X Y v a b p ≡ pos 0
        at_a p i = ap (wedge X Y v a b) i ∙ wedge_outer X Y v a b

        at_b : (p : ℕ) → p ≡ b → wedge X Y v a b p ≡ pos 0
        at_b p i = ap (wedge X Y v a b) i ∙ wedge_last X Y v a b

        by : (t1 ≡ pos 0) ⊎ ((c ≡ a) ⊎ ((c ≡ b) ⊎ (c ≡ e))) → (t2 ≡ pos 0) ⊎ ((d ≡ a) ⊎ ((d ≡ b) ⊎ (d ≡ e))) → ((t1 ≡ pos 0) ⊎ (t2 ≡ pos 0)) ⊎ HaveSameEnds a b c d
        by (inl z) q = inl (inl z)
        by (inr p) (inl z) = inl (inr z)
        by (inr (inl i)) (inr (inl j)) = absurd (n (i ∙ sym j))
        by (inr (inl i)) (inr (inr (inl j))) = inr (inl (sym i, sym j))
        by (inr (inl i)) (inr (inr (inr j))) = inl (inr (third d c t2 t1 wedges_turned j (at_a c i)))
        by (inr (inr (inl i))) (inr (inl j)) = inr (inr (sym j, sym i))
        by (inr (inr (inl i))) (inr (inr (inl j))) = absurd (n (i ∙ sym j))
        by (inr (inr (inl i))) (inr (inr (inr j))) = inl (inr (third d c t2 t1 wedges_turned j (at_b c i)))
        by (inr (inr (inr i))) (inr (inl j)) = inl (inl (third c d t1 t2 wedges i (at_a d j)))
        by (inr (inr (inr i))) (inr (inr (inl j))) = inl (inl (third c d t1 t2 wedges i (at_b d j)))
        by (inr (inr (inr i))) (inr (inr (inr j))) = absurd (n (i ∙ sym j))

    -- the mixed lifts are not negative
    lifts_over : (a b e : ℕ) → IsLower X Y v On a b e → (c d : ℕ) → On c → On d → (t1 t2 : ℤ) → pos 0 ≤ℤ t1 → pos 0 ≤ℤ t2
        → (pos 0 ≤ℤ (t1 *ℤ lift X Y v a b e c)) × (pos 0 ≤ℤ (t2 *ℤ lift X Y v a b e d))
    lifts_over a b e l c d oc od t1 t2 k1 k2 = (
      product_not_negative t1 (lift X Y v a b e c) k1 (lower_over X Y v On a b e l c oc),
      product_not_negative t2 (lift X Y v a b e d) k2 (lower_over X Y v On a b e l d od),
    )

    difference_over : (a b e : ℕ) → IsLower X Y v On a b e → (c d : ℕ) → On c → On d → (s1 s2 t1 t2 : ℤ) → DoMeet a b c d s1 s2 t1 t2
        → pos 0 ≤ℤ ((t1 *ℤ v c +ℤ t2 *ℤ v d) -ℤ (s1 *ℤ v a +ℤ s2 *ℤ v b))
    difference_over a b e l c d oc od s1 s2 t1 t2 m =
        let r = lifts_over a b e l c d oc od t1 t2 m.not_negative.2 m.not_negative.3 in
        factor_not_negative (wedge X Y v a b e) ((t1 *ℤ v c +ℤ t2 *ℤ v d) -ℤ (s1 *ℤ v a +ℤ s2 *ℤ v b)) l.left
        (subst (λ z. pos 0 ≤ℤ z) (meet_heights a b e c d s1 s2 t1 t2 m) (sum_not_negative (t1 *ℤ lift X Y v a b e c) (t2 *ℤ lift X Y v a b e d) r.0 r.1))

    -- one of the two ends has weight 0, or the ends are the same
    one_end : (a b e c d f : ℕ) → IsLower X Y v On a b e → IsLower X Y v On c d f → c ≢ d → (s1 s2 t1 t2 : ℤ) → DoMeet a b c d s1 s2 t1 t2
        → ((t1 ≡ pos 0) ⊎ (t2 ≡ pos 0)) ⊎ HaveSameEnds a b c d
    one_end a b e c d f l k n s1 s2 t1 t2 m =
        let r = lifts_over a b e l c d k.points.0 k.points.1 t1 t2 m.not_negative.2 m.not_negative.3 in
        let level = both_none (t1 *ℤ lift X Y v a b e c) (t2 *ℤ lift X Y v a b e d) r.0 r.1
        (meet_heights a b e c d s1 s2 t1 t2 m ∙ none (wedge X Y v a b e) (t1 *ℤ v c +ℤ t2 *ℤ v d) (s1 *ℤ v a +ℤ s2 *ℤ v b)
        (difference_over a b e l c d k.points.0 k.points.1 s1 s2 t1 t2 m) (difference_over c d f k a b l.points.0 l.points.1 t1 t2 s1 s2 (meet_back a b c d s1 s2 t1 t2 m))) in
        level_ends a b e l c d k.points.0 k.points.1 n s1 s2 t1 t2 m level.0 level.1
      where
        none : (w x y : ℤ) → pos 0 ≤ℤ (x -ℤ y) → pos 0 ≤ℤ (y -ℤ x) → w *ℤ (x -ℤ y) ≡ pos 0
        none w x y i j = ap (λ z. w *ℤ z) (zero x y i j) ∙ omega (arith, ints)
          where
            zero : (x y : ℤ) → pos 0 ≤ℤ (x -ℤ y) → pos 0 ≤ℤ (y -ℤ x) → x -ℤ y ≡ pos 0
            zero x y i j = omega (arith, ints, i, j)

    same_back : (a b c d : ℕ) → HaveSameEnds c d a b → HaveSameEnds a b c d
    same_back a b c d (inl e) = inl (sym e.0, sym e.1)
    same_back a b c d (inr e) = inr (sym e.1, sym e.0)

    pub lower_sides_meet : (a b e c d f : ℕ) → IsLower X Y v On a b e → IsLower X Y v On c d f → a ≢ b → c ≢ d → (s1 s2 t1 t2 : ℤ) → DoMeet a b c d s1 s2 t1 t2
        → (((s1 ≡ pos 0) ⊎ (s2 ≡ pos 0)) × ((t1 ≡ pos 0) ⊎ (t2 ≡ pos 0))) ⊎ HaveSameEnds a b c d
    lower_sides_meet a b e c d f l k na nc s1 s2 t1 t2 m =
        by (one_end a b e c d f l k nc s1 s2 t1 t2 m) (one_end c d f a b e k l na t1 t2 s1 s2 (meet_back a b c d s1 s2 t1 t2 m))
      where
        by : ((t1 ≡ pos 0) ⊎ (t2 ≡ pos 0)) ⊎ HaveSameEnds a b c d → ((s1 ≡ pos 0) ⊎ (s2 ≡ pos 0)) ⊎ HaveSameEnds c d a b
            → (((s1 ≡ pos 0) ⊎ (s2 ≡ pos 0)) × ((t1 ≡ pos 0) ⊎ (t2 ≡ pos 0))) ⊎ HaveSameEnds a b c d
        by (inl t) (inl s) = inl (s, t)
        by (inr q) p = inr q
        by (inl t) (inr p) = inr (same_back a b c d p)

-- Points of a plane with heights: triples that turn to the left and lie below all other points.
--     wedge a b c      twice the area of the triple, negative where it turns to the right
--     lift a b c p      how far p lies above the plane over the triple, times the wedge
--     IsLower      the triples that lie below all other points
--     lower_once      a side has at most one such triple on its left
--     step_lower, reverse_lower      where a side has one
use Rattle.std.proofs.Common.{◌≡◌, ◌≢◌, ℕ, suc, ◌<◌, ◌⊎◌, inl, inr, ⊎_elim, refl, sym, ap, ◌∙◌, subst, arith, ℤ, pos, negsuc, ◌+ℤ◌, ◌-ℤ◌, ◌*ℤ◌, ◌<ℤ◌, ◌≤ℤ◌, neg_ℤ, List, [], ◌∷◌}
use Rattle.std.proofs.lemmas.Int.{ints}
use Rattle.ntfe_nums.proofs.Ring.{Expression, ring, product_neg, neg_product}
use Rattle.ntfe_nums.proofs.Ring.Expression.{var, num, plus, minus, times, neg}
use Rattle.ntfe_model.proofs.PlaneNumbers.{positive_factor}
use Rattle.ntfe_model.proofs.Triples.{Decided, decide_both}
use Rattle.star_builder.proofs.Least.{least_with}
use Rattle.ntfe_nums.proofs.Signs.{above_zero, factor_not_negative, product_not_negative, same_or, sign_of, positive_product, not_negative, positive_some, zero_not_negative, zero_between}

-- ---- numbers

pub opposite_signs : (y z : ℤ) → y ≡ neg_ℤ z → pos 0 <ℤ y → pos 0 <ℤ z → ⊥
opposite_signs y z e k l = absurd (omega (arith, ints, e, k, l))

pub decide_positive : (z : ℤ) → Decided (pos 0 <ℤ z)
decide_positive z = ⊎_elim inl (λ l. inr (λ p. no z l p)) (sign_of z)
  where
    no : (z : ℤ) → z ≤ℤ pos 0 → pos 0 <ℤ z → ⊥
    no z l p = absurd (omega (arith, ints, l, p))

-- ---- expressions over points: the variables of a point are its two coordinates and its height

abbrev pub wedgeE : ℕ → ℕ → ℕ → Expression
wedgeE a b c = minus (times (minus (var b) (var a)) (minus (var (suc c)) (var (suc a)))) (times (minus (var (suc b)) (var (suc a))) (minus (var c) (var a)))

abbrev pub liftE : ℕ → ℕ → ℕ → ℕ → Expression
liftE a b c p =
    minus (times (wedgeE a b c) (var (suc (suc p))))
    (plus (plus (times (wedgeE b c p) (var (suc (suc a)))) (times (wedgeE c a p) (var (suc (suc b))))) (times (wedgeE a b p) (var (suc (suc c)))))

module _ (X Y v : ℕ → ℤ) where
  abbrev pub wedge : ℕ → ℕ → ℕ → ℤ
  wedge a b c = (X b -ℤ X a) *ℤ (Y c -ℤ Y a) -ℤ (Y b -ℤ Y a) *ℤ (X c -ℤ X a)

  abbrev pub lift : ℕ → ℕ → ℕ → ℕ → ℤ
  lift a b c p = wedge a b c *ℤ v p -ℤ (wedge b c p *ℤ v a +ℤ wedge c a p *ℤ v b +ℤ wedge a b p *ℤ v c)

  abbrev three_points : ℕ → ℕ → ℕ → List ℤ
  three_points a b c = X a ∷ Y a ∷ v a ∷ X b ∷ Y b ∷ v b ∷ X c ∷ Y c ∷ v c ∷ []

  abbrev four_points : ℕ → ℕ → ℕ → ℕ → List ℤ
  four_points a b c d = X a ∷ Y a ∷ v a ∷ X b ∷ Y b ∷ v b ∷ X c ∷ Y c ∷ v c ∷ X d ∷ Y d ∷ v d ∷ []

  -- ---- identities

  pub wedge_turn : (a b c : ℕ) → wedge b c a ≡ wedge a b c
  wedge_turn a b c = ring (three_points a b c) (wedgeE 3 6 0) (wedgeE 0 3 6) refl

  pub wedge_swap : (a b c : ℕ) → wedge b a c ≡ neg_ℤ (wedge a b c)
  wedge_swap a b c = ring (three_points a b c) (wedgeE 3 0 6) (neg (wedgeE 0 3 6)) refl

  pub wedge_outer : (a b : ℕ) → wedge a b a ≡ pos 0
  wedge_outer a b = ring (three_points a b b) (wedgeE 0 3 0) (num (pos 0)) refl

  pub wedge_last : (a b : ℕ) → wedge a b b ≡ pos 0
  wedge_last a b = ring (three_points a b b) (wedgeE 0 3 3) (num (pos 0)) refl

  pub lift_turn : (a b c p : ℕ) → lift b c a p ≡ lift a b c p
  lift_turn a b c p = ring (four_points a b c p) (liftE 3 6 0 9) (liftE 0 3 6 9) refl

  pub lift_exchange : (a b c p : ℕ) → lift a b p c ≡ neg_ℤ (lift a b c p)
  lift_exchange a b c p = ring (four_points a b c p) (liftE 0 3 9 6) (neg (liftE 0 3 6 9)) refl

  pub lift_first : (a b c : ℕ) → lift a b c a ≡ pos 0
  lift_first a b c = ring (three_points a b c) (liftE 0 3 6 0) (num (pos 0)) refl

  pub lift_second : (a b c : ℕ) → lift a b c b ≡ pos 0
  lift_second a b c = ring (three_points a b c) (liftE 0 3 6 3) (num (pos 0)) refl

  pub lift_third : (a b c : ℕ) → lift a b c c ≡ pos 0
  lift_third a b c = ring (three_points a b c) (liftE 0 3 6 6) (num (pos 0)) refl

  lift_swap : (a b c p : ℕ) → lift b a c p ≡ neg_ℤ (lift a b c p)
  lift_swap a b c p = ring (four_points a b c p) (liftE 3 0 6 9) (neg (liftE 0 3 6 9)) refl

  -- the lift by the differences from its first point
  abbrev lifted : ℤ → ℤ → ℤ → ℤ → ℤ → ℤ → ℤ → ℤ → ℤ → ℤ
  lifted b1 b2 hb c1 c2 hc p1 p2 hp = (b1 *ℤ c2 -ℤ b2 *ℤ c1) *ℤ hp +ℤ (c1 *ℤ p2 -ℤ c2 *ℤ p1) *ℤ hb +ℤ (p1 *ℤ b2 -ℤ p2 *ℤ b1) *ℤ hc

  lift_differences : (a b c p : ℕ) → lift a b c p ≡ lifted (X b -ℤ X a) (Y b -ℤ Y a) (v b -ℤ v a) (X c -ℤ X a) (Y c -ℤ Y a) (v c -ℤ v a) (X p -ℤ X a) (Y p -ℤ Y a) (v p -ℤ v a)
  lift_differences a b c p =
      let d = λ (i j : ℕ). minus (var i) (var j) in
      let cross = λ (i j : ℕ). minus (times (d i 0) (d (suc j) 1)) (times (d (suc i) 1) (d j 0)) in
      ring (four_points a b c p) (liftE 0 3 6 9)
      (plus (plus (times (cross 3 6) (d 11 2)) (times (cross 6 9) (d 5 2))) (times (cross 9 3) (d 8 2))) refl

  beside_differences : (b1 b2 hb c1 c2 hc d1 d2 hd p1 p2 hp : ℤ)
      → (b1 *ℤ d2 -ℤ b2 *ℤ d1) *ℤ lifted b1 b2 hb c1 c2 hc p1 p2 hp
      ≡ (b1 *ℤ c2 -ℤ b2 *ℤ c1) *ℤ lifted b1 b2 hb d1 d2 hd p1 p2 hp +ℤ (b1 *ℤ p2 -ℤ b2 *ℤ p1) *ℤ lifted b1 b2 hb c1 c2 hc d1 d2 hd
  beside_differences b1 b2 hb c1 c2 hc d1 d2 hd p1 p2 hp =
      let cross = λ (i j : ℕ). minus (times (var i) (var (suc j))) (times (var (suc i)) (var j)) in
      let l = λ (i j k : ℕ). plus (plus (times (cross i j) (var (suc (suc k)))) (times (cross j k) (var (suc (suc i))))) (times (cross k i) (var (suc (suc j)))) in
      ring (b1 ∷ b2 ∷ hb ∷ c1 ∷ c2 ∷ hc ∷ d1 ∷ d2 ∷ hd ∷ p1 ∷ p2 ∷ hp ∷ [])
      (times (cross 0 6) (l 0 3 9)) (plus (times (cross 0 3) (l 0 6 9)) (times (cross 0 9) (l 0 3 6))) refl

  -- the planes over a, b and c and over a, b and d, at p
  pub lift_beside : (a b c d p : ℕ) → wedge a b d *ℤ lift a b c p ≡ wedge a b c *ℤ lift a b d p +ℤ wedge a b p *ℤ lift a b c d
  lift_beside a b c d p =
      ap (λ z. wedge a b d *ℤ z) (lift_differences a b c p)
      ∙ beside_differences (X b -ℤ X a) (Y b -ℤ Y a) (v b -ℤ v a) (X c -ℤ X a) (Y c -ℤ Y a) (v c -ℤ v a) (X d -ℤ X a) (Y d -ℤ Y a) (v d -ℤ v a) (X p -ℤ X a) (Y p -ℤ Y a) (v p -ℤ v a)
      ∙ (λ i. wedge a b c *ℤ sym (lift_differences a b d p) i +ℤ wedge a b p *ℤ sym (lift_differences a b c d) i)

  -- the planes on the two sides of a and b
  pub lift_across : (a b c d p : ℕ) → wedge a b c *ℤ lift b a d p ≡ wedge b a d *ℤ lift a b c p +ℤ wedge a b p *ℤ lift a b c d
  lift_across a b c d p =
      ap (λ z. wedge a b c *ℤ z) (lift_swap a b d p)
      ∙ by (wedge a b c) (lift a b d p) (wedge a b d) (lift a b c p) (wedge a b p *ℤ lift a b c d) (lift_beside a b c d p)
      ∙ (λ i. sym (wedge_swap a b d) i *ℤ lift a b c p +ℤ wedge a b p *ℤ lift a b c d)
    where
      by : (k x l y z : ℤ) → l *ℤ y ≡ k *ℤ x +ℤ z → k *ℤ neg_ℤ x ≡ neg_ℤ l *ℤ y +ℤ z
      by k x l y z e =
          product_neg k x ∙ move (k *ℤ x) (l *ℤ y) z e ∙ (λ i. sym (neg_product l y) i +ℤ z)
        where
          move : (q r z : ℤ) → r ≡ q +ℤ z → neg_ℤ q ≡ neg_ℤ r +ℤ z
          move q r z e = omega (arith, ints, e)

  -- ---- triples below all other points

  module _ (On : ℕ → Type 0) where
    pub record IsLower (a b c : ℕ) : Type 0 where
      pub points : On a × On b × On c
      pub left : pos 0 <ℤ wedge a b c
      pub above : (p : ℕ) → On p → p ≢ a → p ≢ b → p ≢ c → pos 0 <ℤ lift a b c p

    pub lower_turn : (a b c : ℕ) → IsLower a b c → IsLower b c a
    lower_turn a b c l = record {
      points = (l.points.1, l.points.2, l.points.0);
      left = subst (λ z. pos 0 <ℤ z) (sym (wedge_turn a b c)) l.left;
      above = λ p o pb pc pa. subst (λ z. pos 0 <ℤ z) (sym (lift_turn a b c p)) (l.above p o pa pb pc);
    }

    -- a point to the left of a side is none of its ends
    pub left_apart : (a b p : ℕ) → pos 0 <ℤ wedge a b p → (p ≢ a) × (p ≢ b)
    left_apart a b p l = (
      (λ e. positive_some (wedge a b p) l (ap (wedge a b) e ∙ wedge_outer a b)),
      (λ e. positive_some (wedge a b p) l (ap (wedge a b) e ∙ wedge_last a b)),
    )

    -- no point lies below a lower triple
    pub lower_over : (a b c : ℕ) → IsLower a b c → (p : ℕ) → On p → pos 0 ≤ℤ lift a b c p
    lower_over a b c l p o =
        ⊎_elim (level a (lift_first a b c)) (λ na.
        ⊎_elim (level b (lift_second a b c)) (λ nb.
        ⊎_elim (level c (lift_third a b c)) (λ nc. not_negative (lift a b c p) (l.above p o na nb nc)) (same_or p c)) (same_or p b)) (same_or p a)
      where
        level : (k : ℕ) → lift a b c k ≡ pos 0 → p ≡ k → pos 0 ≤ℤ lift a b c p
        level k z e = zero_not_negative (lift a b c p) (ap (lift a b c) e ∙ z)

    -- two lower triples on one side are one
    pub lower_once : (a b c d : ℕ) → IsLower a b c → IsLower a b d → c ≡ d
    lower_once a b c d l m = ⊎_elim (λ e. e) (λ n. absurd (apart n)) (same_or c d)
      where
        apart : c ≢ d → ⊥
        apart n =
            let cs = left_apart a b c l.left in
            let ds = left_apart a b d m.left in
            opposite_signs (lift a b d c) (lift a b c d) (lift_exchange a b c d) (m.above c l.points.2 cs.0 cs.1 n) (l.above d m.points.2 ds.0 ds.1 (λ e. n (sym e)))

    -- no four points are level
    abbrev pub AreNeverLevel : Type 0
    AreNeverLevel = (a b c p : ℕ) → On a → On b → On c → On p → wedge a b c ≢ pos 0 → p ≢ a → p ≢ b → p ≢ c → lift a b c p ≢ pos 0

    module _ (never_level : AreNeverLevel) (decide : (p : ℕ) → Decided (On p)) (bound : ℕ) (below : (p : ℕ) → On p → p < bound) where
      -- of the points to the left of a side, one that lies below the planes through the others
      record IsLeast (a b c : ℕ) : Type 0 where
        point : On c
        left : pos 0 <ℤ wedge a b c
        least : (p : ℕ) → On p → p ≢ c → pos 0 <ℤ wedge a b p → pos 0 <ℤ lift a b c p

      module _ (a b : ℕ) (oa : On a) (ob : On b) where
        abbrev IsOnLeft : ℕ → Type 0
        IsOnLeft p = On p × (pos 0 <ℤ wedge a b p)

        abbrev IsUnder : ℕ → ℕ → Type 0
        IsUnder c p = pos 0 ≤ℤ lift a b c p

        total : (c p : ℕ) → IsOnLeft c → IsOnLeft p → IsUnder c p ⊎ IsUnder p c
        total c p k l = by (lift a b c p) (lift a b p c) (lift_exchange a b c p)
          where
            by : (y z : ℤ) → z ≡ neg_ℤ y → (pos 0 ≤ℤ y) ⊎ (pos 0 ≤ℤ z)
            by (pos n) z e = inl (omega (arith, ints))
            by (negsuc n) z e = inr (omega (arith, ints, e))

        chain : (c d p : ℕ) → IsOnLeft c → IsOnLeft d → IsOnLeft p → IsUnder c d → IsUnder d p → IsUnder c p
        chain c d p kc kd kp u r =
            factor_not_negative (wedge a b d) (lift a b c p) kd.1
            (sum (wedge a b d *ℤ lift a b c p) (wedge a b c *ℤ lift a b d p) (wedge a b p *ℤ lift a b c d) (lift_beside a b c d p)
            (product_not_negative (wedge a b c) (lift a b d p) (not_negative (wedge a b c) kc.1) r) (product_not_negative (wedge a b p) (lift a b c d) (not_negative (wedge a b p) kp.1) u))
          where
            sum : (x y z : ℤ) → x ≡ y +ℤ z → pos 0 ≤ℤ y → pos 0 ≤ℤ z → pos 0 ≤ℤ x
            sum x y z e k l = omega (arith, ints, e, k, l)

        least_left : (c : ℕ) → On c → pos 0 <ℤ wedge a b c → (d : ℕ) × IsLeast a b d
        least_left c oc left = by (least_with IsOnLeft IsUnder (λ p. decide_both (decide p) (decide_positive (wedge a b p))) total chain bound c (below c oc) (oc, left))
          where
            by : (d : ℕ) × IsOnLeft d × ((k : ℕ) → k < bound → IsOnLeft k → IsUnder d k) → (d : ℕ) × IsLeast a b d
            by (d, on, under) = (
              d,
              record {
                point = on.0;
                left = on.1;
                least = λ p o n l. (let q = left_apart a b p l in
                    above_zero (lift a b d p) (under p (below p o) (o, l)) (never_level a b d p oa ob on.0 o (λ e. positive_some (wedge a b d) on.1 e) q.0 q.1 n));
              },
            )

      -- no point lies to the right of the side, and those on its line lie above: some triple on its left is lower
      pub step_lower : (a b : ℕ) → On a → On b → ((p : ℕ) → On p → pos 0 ≤ℤ wedge a b p)
          → ((c p : ℕ) → On c → pos 0 <ℤ wedge a b c → On p → p ≢ a → p ≢ b → wedge a b p ≡ pos 0 → pos 0 <ℤ lift a b c p)
          → (c : ℕ) → On c → pos 0 <ℤ wedge a b c → (d : ℕ) × IsLower a b d
      step_lower a b oa ob outer line c oc left = by (least_left a b oa ob c oc left)
        where
          by : (d : ℕ) × IsLeast a b d → (d : ℕ) × IsLower a b d
          by (d, r) = (
            d,
            record {
              points = (oa, ob, r.point);
              left = r.left;
              above = λ p o pa pb pd. ⊎_elim (r.least p o pd) (λ l. line d p r.point r.left o pa pb (zero_between (wedge a b p) (outer p o) l)) (sign_of (wedge a b p));
            },
          )

      -- a lower triple and a point beyond one of its sides: there is a lower triple on the other side of it
      pub reverse_lower : (a b c : ℕ) → IsLower a b c → (p : ℕ) → On p → pos 0 <ℤ wedge b a p → (d : ℕ) × IsLower b a d
      reverse_lower a b c l p o beyond = by (least_left b a l.points.1 l.points.0 p o beyond)
        where
          by : (d : ℕ) × IsLeast b a d → (d : ℕ) × IsLower b a d
          by (d, r) = (d, record { points = (l.points.1, l.points.0, r.point); left = r.left; above = above })
            where
              d_above : pos 0 <ℤ lift a b c d
              d_above =
                  let q = left_apart b a d r.left in
                  l.above d r.point q.1 q.0 (λ e. opposite_signs (wedge b a c) (wedge a b c) (wedge_swap a b c) (subst (λ k. pos 0 <ℤ wedge b a k) e r.left) l.left)

              -- a point that is not beyond the side
              inside : (p : ℕ) → On p → p ≢ a → p ≢ b → pos 0 ≤ℤ wedge a b p → pos 0 <ℤ lift b a d p
              inside p o pa pb k =
                  positive_factor (lift b a d p) (wedge a b c) l.left
                  (⊎_elim at_third away (same_or p c))
                where
                  total_is : lift b a d p *ℤ wedge a b c ≡ wedge b a d *ℤ lift a b c p +ℤ wedge a b p *ℤ lift a b c d
                  total_is = ring (lift b a d p ∷ wedge a b c ∷ []) (times (var 0) (var 1)) (times (var 1) (var 0)) refl ∙ lift_across a b c d p

                  sum_first : (x y z : ℤ) → x ≡ y +ℤ z → pos 0 <ℤ y → pos 0 ≤ℤ z → pos 0 <ℤ x
                  sum_first x y z e k l = omega (arith, ints, e, k, l)

                  sum_second : (x y z : ℤ) → x ≡ y +ℤ z → pos 0 ≤ℤ y → pos 0 <ℤ z → pos 0 <ℤ x
                  sum_second x y z e k l = omega (arith, ints, e, k, l)

                  away : p ≢ c → pos 0 <ℤ (lift b a d p *ℤ wedge a b c)
                  away n =
                      sum_first _ (wedge b a d *ℤ lift a b c p) (wedge a b p *ℤ lift a b c d) total_is
                      (positive_product (wedge b a d) (lift a b c p) r.left (l.above p o pa pb n)) (product_not_negative (wedge a b p) (lift a b c d) k (not_negative (lift a b c d) d_above))

                  at_third : p ≡ c → pos 0 <ℤ (lift b a d p *ℤ wedge a b c)
                  at_third e =
                      sum_second _ (wedge b a d *ℤ lift a b c p) (wedge a b p *ℤ lift a b c d) total_is
                      (product_not_negative (wedge b a d) (lift a b c p) (not_negative (wedge b a d) r.left) (lower_over a b c l p o))
                      (positive_product (wedge a b p) (lift a b c d) (subst (λ k. pos 0 <ℤ wedge a b k) (sym e) l.left) d_above)

              not_beyond : (z y : ℤ) → y ≡ neg_ℤ z → y ≤ℤ pos 0 → pos 0 ≤ℤ z
              not_beyond z y e k = omega (arith, ints, e, k)

              above : (p : ℕ) → On p → p ≢ b → p ≢ a → p ≢ d → pos 0 <ℤ lift b a d p
              above p o pb pa pd = ⊎_elim (r.least p o pd) (λ k. inside p o pa pb (not_beyond (wedge a b p) (wedge b a p) (wedge_swap a b p) k)) (sign_of (wedge b a p))

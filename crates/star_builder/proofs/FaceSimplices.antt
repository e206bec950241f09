-- The triples of a two-face that lie below all its other points are those that low simplices leave there.
--     never_level      no four points of the two-face are level at generic heights
--     rise_of_lift, lift_of_rise      a point of the two-face rises above four points where it is lifted above three of them
--     low_lower      three points of a low simplex lie below all others of the two-face
--     lower_low      three points below all others of the two-face are part of a low simplex
use Rattle.std.proofs.Common.{◌≡◌, ◌≢◌, ℕ, ◌<◌, ⊎_elim, refl, sym, ap, ◌∙◌, subst, arith, ℤ, pos, negsuc, ◌+ℤ◌, ◌-ℤ◌, ◌*ℤ◌, ◌<ℤ◌, ◌≤ℤ◌, neg_ℤ, [], ◌∷◌, length}
use Rattle.std.specs.Prelude.{Contains}
use Rattle.std.proofs.lemmas.Int.{ints}
use Rattle.ntfe_nums.specs.Vectors.{Vector, dot, difference, multiple}
use Rattle.ntfe_nums.proofs.Ring.{ring}
use Rattle.ntfe_nums.proofs.Ring.Expression.{var, num, plus, minus, times, neg}
use Rattle.ntfe_nums.proofs.DetLemmas.{row, dotE}
use Rattle.ntfe_model.specs.Pairs.{entry}
use Rattle.ntfe_model.specs.Reflexive.{IsTight}
use Rattle.ntfe_model.specs.Points.{place_of_point}
use Rattle.ntfe_model.specs.Shapes.{Shape, IsShape, face_at}
use Rattle.ntfe_model.specs.Charts.{patch_at, IsOf}
use Rattle.ntfe_model.proofs.GeometryPoints.{point_within}
use Rattle.ntfe_model.proofs.PlaneNumbers.{cancel_other, positive_factor, zero_factor}
use Rattle.star_builder.proofs.FourWeights.{dot_mix}
use Rattle.star_builder.proofs.FacePlanes.{first_of, second_of, plane_weights, wedge_sum, outside_apart, plane_mix, plane_volume, plane_rise}
use Rattle.star_builder.proofs.FacetMembers.{lifted_along}
use Rattle.star_builder.proofs.FacePoints.{facet_below, number_second, IsOutside, some_outside, distance, outside_far, face_point_tight, tight_face_point}
use Rattle.star_builder.proofs.LowSimplices.{IsLow, IsGeneric}
use Rattle.star_builder.proofs.Planar.{wedge, lift, IsLower, AreNeverLevel, lower_over}
use Rattle.star_builder.proofs.Rises.{gap, gap_multiple, gap_tilt, rise, rise_gap, rise_first, rise_second, rise_third, through, volume}
use Rattle.ntfe_nums.proofs.Signs.{factor_not_negative, product_not_negative, square_not_negative, square_positive, zero_out, positive_product, product_exchanged, not_negative, positive_some}
use Rattle.star_builder.proofs.Supports.{tight_points, tight_number, tight_on, in_tight, low_support}
use Rattle.star_builder.proofs.Tilts.{IsTiltedAlong, tilt_along}

-- a facet with three points that mix to another with weights whose sum is theirs has it too
tight_sum : (k x y z t u : ℤ) → k ≢ pos 0 → k ≡ x +ℤ (y +ℤ z) → k *ℤ t ≡ x *ℤ negsuc 0 +ℤ (y *ℤ negsuc 0 +ℤ (z *ℤ negsuc 0 +ℤ pos 0 *ℤ u)) → t ≡ negsuc 0
tight_sum k x y z t u n e f =
    cancel_other t (negsuc 0) k n (ring (k ∷ t ∷ []) (times (var 1) (var 0)) (times (var 0) (var 1)) refl ∙ f ∙ gathered (pos 0 *ℤ u) (omega (arith, ints)))
  where
    gathered : (o : ℤ) → o ≡ pos 0 → x *ℤ negsuc 0 +ℤ (y *ℤ negsuc 0 +ℤ (z *ℤ negsuc 0 +ℤ o)) ≡ negsuc 0 *ℤ k
    gathered o i = omega (arith, ints, e, i)

module _ (g : Shape) (s : IsShape g) (f : ℕ) (within : f < length g.faces) (v : ℕ → ℤ) where
  abbrev On : ℕ → Type 0
  On = IsOf (patch_at g f)

  abbrev spot : ℕ → Vector
  spot = place_of_point g.points

  abbrev X : ℕ → ℤ
  X = first_of g s f within v

  abbrev Y : ℕ → ℤ
  Y = second_of g s f within v

  abbrev first : Vector
  first = entry g.pair.dual (face_at g f).first

  abbrev second : Vector
  second = entry g.pair.dual (face_at g f).second

  -- the points of the face that turn to the left, and lie below all others
  abbrev pub IsBelowFace : ℕ → ℕ → ℕ → Type 0
  IsBelowFace = IsLower (first_of g s f within v) (second_of g s f within v) v (IsOf (patch_at g f))

  -- a facet that has three points with a wedge has the face
  pub plane_tight : (m : Vector) (a b c : ℕ) → On a → On b → On c → wedge X Y v a b c ≢ pos 0 → IsTight m (spot a) → IsTight m (spot b) → IsTight m (spot c)
      → (p : ℕ) → On p → IsTight m (place_of_point g.points p)
  plane_tight m a b c oa ob oc flat ta tb tc p op =
      tight_sum (wedge X Y v a b c) (wedge X Y v b c p) (wedge X Y v c a p) (wedge X Y v a b p) (dot m (spot p)) (dot m (spot p)) flat (wedge_sum g s f within v a b c p)
      (dot_mix m (plane_weights g s f within v a b c p) (spot a) (spot b) (spot c) (spot p) (spot p) (plane_mix g s f within v a b c oa ob oc flat p op (spot p))
      ∙ (λ i. wedge X Y v b c p *ℤ ta i +ℤ (wedge X Y v c a p *ℤ tb i +ℤ (wedge X Y v a b p *ℤ tc i +ℤ pos 0 *ℤ dot m (spot p)))))

  pub outside_face : (d : ℕ) → IsOutside g s f within d → (p : ℕ) → On p → p ≢ d
  outside_face d out p op e = out.2 (ap (λ k. dot second (spot k)) (sym e) ∙ (face_point_tight g s f within p op).1)

  -- the rise above a simplex, as a lift in the plane
  signed_lift : (a b c d p : ℕ) → On a → On b → On c → wedge X Y v a b c ≢ pos 0 → On p
      → wedge X Y v a b c *ℤ (volume spot v a b c d *ℤ rise spot v a b c d p) ≡ (volume spot v a b c d *ℤ volume spot v a b c d) *ℤ lift X Y v a b c p
  signed_lift a b c d p oa ob oc flat op =
      let V = volume spot v a b c d in
      ring (wedge X Y v a b c ∷ V ∷ rise spot v a b c d p ∷ []) (times (var 0) (times (var 1) (var 2))) (times (var 1) (times (var 0) (var 2))) refl
      ∙ ap (λ z. V *ℤ z) (plane_rise g s f within v a b c oa ob oc flat p op d)
      ∙ ring (V ∷ lift X Y v a b c p ∷ []) (times (var 0) (times (var 0) (var 1))) (times (times (var 0) (var 0)) (var 1)) refl

  -- so they have one sign
  module _ (a b c d p : ℕ) (oa : On a) (ob : On b) (oc : On c) (op : On p) (left : pos 0 <ℤ wedge X Y v a b c) (independent : volume spot v a b c d ≢ pos 0) where
    abbrev size : ℤ
    size = volume spot v a b c d

    not_flat : wedge X Y v a b c ≢ pos 0
    not_flat e = positive_some (wedge X Y v a b c) left e

    pub rise_of_lift : pos 0 <ℤ lift X Y v a b c p → pos 0 <ℤ (volume spot v a b c d *ℤ rise spot v a b c d p)
    rise_of_lift l =
        positive_factor (size *ℤ rise spot v a b c d p) (wedge X Y v a b c) left
        (subst (λ z. pos 0 <ℤ z) (sym (signed_lift a b c d p oa ob oc not_flat op) ∙ product_exchanged (wedge X Y v a b c) (size *ℤ rise spot v a b c d p))
        (positive_product (size *ℤ size) (lift X Y v a b c p) (square_positive size independent) l))

    pub lift_of_rise : pos 0 <ℤ (volume spot v a b c d *ℤ rise spot v a b c d p) → pos 0 <ℤ lift X Y v a b c p
    lift_of_rise l =
        positive_factor (lift X Y v a b c p) (size *ℤ size) (square_positive size independent)
        (subst (λ z. pos 0 <ℤ z) (signed_lift a b c d p oa ob oc not_flat op ∙ product_exchanged (size *ℤ size) (lift X Y v a b c p))
        (positive_product (wedge X Y v a b c) (size *ℤ rise spot v a b c d p) left l))

    pub lift_least : pos 0 ≤ℤ (volume spot v a b c d *ℤ rise spot v a b c d p) → pos 0 ≤ℤ lift X Y v a b c p
    lift_least l =
        factor_not_negative (size *ℤ size) (lift X Y v a b c p) (square_positive size independent)
        (subst (λ z. pos 0 ≤ℤ z) (signed_lift a b c d p oa ob oc not_flat op) (product_not_negative (wedge X Y v a b c) (size *ℤ rise spot v a b c d p) (not_negative (wedge X Y v a b c) left) l))

  module _ (generic : IsGeneric g.points v) where
    pub never_level : AreNeverLevel (first_of g s f within v) (second_of g s f within v) v (IsOf (patch_at g f))
    never_level a b c p oa ob oc op flat pa pb pc z =
        generic a b c out.0 p (point_within g s f within a oa) (point_within g s f within b ob) (point_within g s f within c oc) out.1.0 (point_within g s f within p op) pa pb pc
        (outside_face out.0 out.1 p op) (outside_apart g s f within v a b c oa ob oc flat out.0 out.1)
        (⊎_elim (λ e. absurd (flat e)) (λ e. e)
        (zero_factor (wedge X Y v a b c) (rise spot v a b c out.0 p)
        (plane_rise g s f within v a b c oa ob oc flat p op out.0 ∙ zero_out (volume spot v a b c out.0) (lift X Y v a b c p) z)))
      where
        out : (d : ℕ) × IsOutside g s f within d
        out = some_outside g s f within

  -- ---- a low simplex lies below the face

  pub low_lower : (m : Vector) (a b c d : ℕ) → IsLow g.points v m a b c d → On a → On b → On c → pos 0 <ℤ wedge X Y v a b c → IsBelowFace a b c
  low_lower m a b c d low oa ob oc left = record { points = (oa, ob, oc); left = left; above = above }
    where
      flat : wedge X Y v a b c ≢ pos 0
      flat e = positive_some (wedge X Y v a b c) left e

      above : (p : ℕ) → On p → p ≢ a → p ≢ b → p ≢ c → pos 0 <ℤ lift X Y v a b c p
      above p op pa pb pc =
          lift_of_rise a b c d p oa ob oc op left low.independent
          (low.above p (point_within g s f within p op) pa pb pc (λ e. low.independent (ap (volume spot v a b c) (sym e) ∙ plane_volume g s f within v a b c oa ob oc flat p op d))
          (plane_tight m a b c oa ob oc flat low.tight.0 low.tight.1 low.tight.2 p op))

  -- ---- three points below the face are part of a low simplex

  module _ (generic : IsGeneric g.points v) (a b c : ℕ) (lower : IsBelowFace a b c) where
    flat : wedge X Y v a b c ≢ pos 0
    flat e = positive_some (wedge X Y v a b c) lower.left e

    base : ℕ
    base = (some_outside g s f within).0

    base_outside : IsOutside g s f within base
    unfolding base
    base_outside = (some_outside g s f within).1

    abbrev V : ℤ
    V = volume spot v a b c base

    independent : V ≢ pos 0
    independent = outside_apart g s f within v a b c lower.points.0 lower.points.1 lower.points.2 flat base base_outside

    -- how far x lies above the three and the point outside
    abbrev height_over : ℕ → ℤ
    height_over = gap spot v (V *ℤ V) (multiple V (through spot v a b c base))

    height_is : (x : ℕ) → V *ℤ rise spot v a b c base x ≡ height_over x
    height_is x = ap (λ z. V *ℤ z) (rise_gap spot v a b c base x) ∙ gap_multiple spot v V V (through spot v a b c base) x

    -- how far outside x lies
    abbrev depth : ℕ → ℤ
    depth = gap spot v (pos 0) (difference first second)

    depth_is : (x : ℕ) → depth x ≡ distance g s f within (spot x)
    depth_is x =
        let p = spot x in
        ring (first.x1 ∷ first.x2 ∷ first.x3 ∷ first.x4 ∷ second.x1 ∷ second.x2 ∷ second.x3 ∷ second.x4 ∷ p.x1 ∷ p.x2 ∷ p.x3 ∷ p.x4 ∷ v x ∷ [])
        (minus (times (num (pos 0)) (var 12)) (dotE (record { x1 = minus (var 0) (var 4); x2 = minus (var 1) (var 5); x3 = minus (var 2) (var 6); x4 = minus (var 3) (var 7) }) (row 8)))
        (minus (dotE (row 4) (row 8)) (dotE (row 0) (row 8))) refl

    depth_none : (x : ℕ) → On x → depth x ≡ pos 0
    depth_none x o = depth_is x ∙ (λ i. (face_point_tight g s f within x o).1 i -ℤ (face_point_tight g s f within x o).0 i)

    -- on the face the height is not negative
    height_on : (x : ℕ) → On x → pos 0 ≤ℤ height_over x
    height_on x o =
        subst (λ z. pos 0 ≤ℤ z) (height_is x)
        (factor_not_negative (wedge X Y v a b c) (V *ℤ rise spot v a b c base x) lower.left
        (subst (λ z. pos 0 ≤ℤ z) (sym (signed_lift a b c base x lower.points.0 lower.points.1 lower.points.2 flat o))
        (product_not_negative (V *ℤ V) (lift X Y v a b c x) (square_not_negative V) (lower_over X Y v (IsOf (patch_at g f)) a b c lower x o))))

    -- a multiple of the depth that lifts all points of the facet above the three
    factor : (k : ℤ) × (pos 0 ≤ℤ k) × ((x : ℕ) → Contains (tight_points first g.points) x → pos 0 ≤ℤ (height_over x +ℤ k *ℤ depth x))
    factor =
        lifted_along height_over depth (tight_points first g.points)
        (λ x h. over (dot second (spot x)) (dot first (spot x)) (depth x) (depth_is x) (facet_below g s f within (face_at g f).second (number_second g s f within) x (tight_number first g.points x h)) (tight_on first g.points x h))
        (λ x h e. height_on x (tight_face_point g s f within x (tight_number first g.points x h) (tight_on first g.points x h) (level (dot second (spot x)) (dot first (spot x)) (sym (depth_is x) ∙ e) (tight_on first g.points x h))))
      where
        over : (y z d : ℤ) → d ≡ y -ℤ z → negsuc 0 ≤ℤ y → z ≡ negsuc 0 → pos 0 ≤ℤ d
        over y z d e l q = omega (arith, ints, e, l, q)

        level : (y z : ℤ) → y -ℤ z ≡ pos 0 → z ≡ negsuc 0 → y ≡ negsuc 0
        level y z e q = omega (arith, ints, e, q)

    abbrev start_size : ℤ
    start_size = pos 1 *ℤ (V *ℤ V) -ℤ neg_ℤ factor.0 *ℤ pos 0

    abbrev start_form : Vector
    start_form = difference (multiple (pos 1) (multiple V (through spot v a b c base))) (multiple (neg_ℤ factor.0) (difference first second))

    start_is : (x : ℕ) → height_over x +ℤ factor.0 *ℤ depth x ≡ gap spot v start_size start_form x
    start_is x =
        ring (height_over x ∷ factor.0 ∷ depth x ∷ []) (plus (var 0) (times (var 1) (var 2))) (minus (times (num (pos 1)) (var 0)) (times (neg (var 1)) (var 2))) refl
        ∙ gap_tilt spot v (pos 1) (V *ℤ V) (neg_ℤ factor.0) (pos 0) (multiple V (through spot v a b c base)) (difference first second) x

    start_under : (x : ℕ) → Contains (tight_points first g.points) x → pos 0 ≤ℤ gap spot v start_size start_form x
    start_under x h = subst (λ z. pos 0 ≤ℤ z) (start_is x) (factor.2 x h)

    base_deep : depth base ≢ pos 0
    base_deep e = positive_some (distance g s f within (spot base)) (outside_far g s f within base base_outside) (sym (depth_is base) ∙ e)

    start_touches : (x : ℕ) → On x → rise spot v a b c base x ≡ pos 0 → gap spot v start_size start_form x ≡ pos 0
    start_touches x o e =
        sym (start_is x)
        ∙ (λ i. (sym (height_is x) ∙ zero_out V (rise spot v a b c base x) e) i +ℤ (zero_out factor.0 (depth x) (depth_none x o)) i)

    pub lower_low : (d : ℕ) × IsLow g.points v (entry g.pair.dual (face_at g f).first) a b c d
    lower_low =
        by (tilt_along spot v (tight_points first g.points) start_size start_form start_under (pos 0) (difference first second) base (in_tight first g.points base base_outside.0 base_outside.1) base_deep)
      where
        by : IsTiltedAlong (place_of_point g.points) v (tight_points (entry g.pair.dual (face_at g f).first) g.points) start_size start_form (pos 0) (difference first second) base
            → (d : ℕ) × IsLow g.points v (entry g.pair.dual (face_at g f).first) a b c d
        by t = (
          t.y,
          low_support g.points v generic first t.size t.form positive t.under a b c t.y (listed a lower.points.0) (listed b lower.points.1) (listed c lower.points.2) t.within
              (outside_apart g s f within v a b c lower.points.0 lower.points.1 lower.points.2 flat t.y
              (tight_number first g.points t.y t.within, tight_on first g.points t.y t.within, shallow))
              (kept a lower.points.0 (rise_first spot v a b c base)) (kept b lower.points.1 (rise_second spot v a b c base)) (kept c lower.points.2 (rise_third spot v a b c base)) t.touches,
        )
          where
            positive : pos 0 <ℤ t.size
            positive =
                subst (λ z. pos 0 <ℤ z)
                (ring (t.factor ∷ V ∷ factor.0 ∷ t.other ∷ []) (times (var 0) (times (var 1) (var 1)))
                (minus (times (var 0) (minus (times (num (pos 1)) (times (var 1) (var 1))) (times (neg (var 2)) (num (pos 0))))) (times (var 3) (num (pos 0)))) refl ∙ sym t.size_is)
                (positive_product t.factor (V *ℤ V) t.positive (square_positive V independent))

            listed : (k : ℕ) → On k → Contains (tight_points (entry g.pair.dual (face_at g f).first) g.points) k
            listed k o = in_tight first g.points k (point_within g s f within k o) (face_point_tight g s f within k o).0

            -- what is touched anew is not on the face
            shallow : dot (entry g.pair.dual (face_at g f).second) (place_of_point g.points t.y) ≢ negsuc 0
            shallow e = t.apart (depth_none t.y (tight_face_point g s f within t.y (tight_number first g.points t.y t.within) (tight_on first g.points t.y t.within) e))

            kept : (k : ℕ) → On k → rise spot v a b c base k ≡ pos 0 → gap (place_of_point g.points) v t.size t.form k ≡ pos 0
            kept k o e = t.keeps k (depth_none k o) ∙ zero_out t.factor (gap spot v start_size start_form k) (start_touches k o e)

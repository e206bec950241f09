-- The triples that a star leaves on a two-face are those that lie below all its other points, at whole heights.
--     face_used      each point of the two-face is used, where the star uses all points
--     together_lower, lower_together      three points stand together in a member where they lie below all others
--     together_area      such points have an area
--     left_lower      what is left lies below all other points
--     lower_left      what lies below all other points is left, up to rotation
use Rattle.std.proofs.Common.{◌≢◌, ℕ, ◌<◌, ◌⊎◌, inl, inr, refl, sym, subst, arith, ℤ, pos, ◌<ℤ◌, List, [], ◌∷◌, length}
use Rattle.std.specs.Prelude.{Contains}
use Rattle.ntfe_nums.specs.Vectors.{Vector}
use Rattle.ntfe_nums.proofs.Signs.{two_orders}
use Rattle.ntfe_model.specs.Lists.{IsNumberOf}
use Rattle.ntfe_model.specs.Pairs.{entry}
use Rattle.ntfe_model.specs.Points.{place_of_point}
use Rattle.ntfe_model.specs.Shapes.{Shape, IsShape, face_at}
use Rattle.ntfe_model.specs.Charts.{patch_at, IsOf}
use Rattle.ntfe_model.specs.Triangulations.{IsRotationOf}
use Rattle.ntfe_model.specs.Stars.{IsOrder, IsMember, IsStar, IsLeft, AreTogether}
use Rattle.ntfe_model.specs.declared.triangle.Triangle.{Triangle}
use Rattle.ntfe_model.proofs.GeometryPoints.{point_within}
use Rattle.ntfe_model.proofs.PlaneNumbers.{positive_sign, sign_positive}
use Rattle.ntfe_model.proofs.UnitTriples.{area_of}
use Rattle.star_builder.proofs.BeyondMembers.{star_member, member_split}
use Rattle.star_builder.proofs.FacePlanes.{first_of, second_of, area_wedge}
use Rattle.star_builder.proofs.FaceSimplices.{IsBelowFace, low_lower, lower_low}
use Rattle.star_builder.proofs.FacePoints.{facet_below, number_first}
use Rattle.star_builder.proofs.Inducing.{independent_area}
use Rattle.star_builder.proofs.LowSimplices.{IsLow, IsGeneric, generic, low_first, low_middle, low_last, low_apart, low_member, member_low, has_first, has_second, has_third}
use Rattle.star_builder.proofs.Planar.{wedge, lower_turn, left_apart}
use Rattle.star_builder.proofs.Ridges.{HaveSame, same_then, same_first_two, same_middle_two, same_last_two, shares_ridge}
use Rattle.star_builder.proofs.Sorting.{by_size}
use Rattle.star_builder.proofs.UsedPoints.{IsUsed}
use Rattle.star_builder.proofs.VertexPoints.{point_small}
use Rattle.star_builder.proofs.WholeHeights.{whole}

module _ (g : Shape) (s : IsShape g) (w : List ℤ) (order : List ℕ) (all : IsOrder (length g.points) order) (star : List (List ℕ)) (is : IsStar g.pair.dual g.points w order star) where
  -- heights by which the members are low
  abbrev pub star_heights : ℕ → ℤ
  star_heights = whole w order

  pub star_generic : IsGeneric g.points star_heights
  star_generic = generic g.pair.dual g.points w order all (point_small g s)

  -- the four points of a low simplex stand together, in any order
  module _ (facet : ℕ) (number : IsNumberOf g.pair.dual facet) (a b c d : ℕ) (low : IsLow g.points star_heights (entry g.pair.dual facet) a b c d) where
    abbrev m : Vector
    m = entry g.pair.dual facet

    abbrev Beside : ℕ → ℕ → ℕ → ℕ → Type 0
    Beside x y z t = IsLow g.points star_heights m x y z t × HaveSame (a ∷ b ∷ c ∷ d ∷ []) (x ∷ y ∷ z ∷ t ∷ [])

    sorted : (x : ℕ) × (y : ℕ) × (z : ℕ) × (t : ℕ) × (x < y) × (y < z) × (z < t) × Beside x y z t
    sorted =
        by_size Beside
        (λ x y z t h. (low_first g.points star_heights m x y z t h.0, same_then (a ∷ b ∷ c ∷ d ∷ []) (x ∷ y ∷ z ∷ t ∷ []) (y ∷ x ∷ z ∷ t ∷ []) h.1 (same_first_two x y z t)))
        (λ x y z t h. (low_middle g.points star_heights m x y z t h.0, same_then (a ∷ b ∷ c ∷ d ∷ []) (x ∷ y ∷ z ∷ t ∷ []) (x ∷ z ∷ y ∷ t ∷ []) h.1 (same_middle_two x y z t)))
        (λ x y z t h. (low_last g.points star_heights m x y z t h.0, same_then (a ∷ b ∷ c ∷ d ∷ []) (x ∷ y ∷ z ∷ t ∷ []) (x ∷ y ∷ t ∷ z ∷ []) h.1 (same_last_two x y z t)))
        (λ x y z t h. low_apart g.points star_heights m x y z t h.0)
        a b c d (low, (λ n h. h, λ n h. h))

    together_in : (x : ℕ) × (y : ℕ) × (z : ℕ) × (t : ℕ) × (x < y) × (y < z) × (z < t) × Beside x y z t → AreTogether star a b c
    together_in (x, y, z, t, xy, yz, zt, (l, same)) = (
      x ∷ y ∷ z ∷ t ∷ [],
      is.complete (x ∷ y ∷ z ∷ t ∷ []) (low_member g.pair.dual g.points w order all (point_small g s) facet number x y z t xy yz zt l),
      same.0 a (has_first a b c d),
      same.0 b (has_second a b c d),
      same.0 c (has_third a b c d),
    )

    low_together : AreTogether star a b c
    low_together = together_in sorted

  -- three points that stand together are part of a low simplex
  together_low : (a b c : ℕ) → a < b → b < c → AreTogether star a b c → (m : Vector) × (d : ℕ) × IsLow g.points star_heights m a b c d
  together_low a b c ab bc (members, inside, ha, hb, hc) =
      let r = shares_ridge g.points star_heights (entry g.pair.dual m.facet) m.a m.b m.c m.d m.ordered.1 m.ordered.2 m.ordered.3
      (member_low g.pair.dual g.points w order all (point_small g s) members m) a b c ab bc (named a ha) (named b hb) (named c hc) in
      (entry g.pair.dual m.facet, r.0, r.1)
    where
      m : IsMember g.pair.dual g.points w order members
      m = star_member g w order star s all is members inside

      named : (k : ℕ) → Contains members k → Contains (m.a ∷ m.b ∷ m.c ∷ m.d ∷ []) k
      named k h = subst (λ (ks : List ℕ). Contains ks k) m.is h

  module _ (f : ℕ) (within : f < length g.faces) where
    abbrev On : ℕ → Type 0
    On = IsOf (patch_at g f)

    abbrev wedged : ℕ → ℕ → ℕ → ℤ
    wedged = wedge (first_of g s f within star_heights) (second_of g s f within star_heights) star_heights

    -- below all other points of the two-face, at the heights
    abbrev pub IsUnderFace : ℕ → ℕ → ℕ → Type 0
    IsUnderFace = IsBelowFace g s f within star_heights

    pub face_used : ((k : ℕ) → IsNumberOf g.points k → (s : List ℕ) × Contains star s × Contains s k) → (p : ℕ) → IsOf (patch_at g f) p → IsUsed g.points star_heights p
    face_used uses_all p o =
        let u = uses_all p (point_within g s f within p o) in
        let m = star_member g w order star s all is u.0 u.1 in
        let r = member_split g w order star s all is u.0 m p u.2 in
        record { facet = entry g.pair.dual m.facet; below = λ k n. facet_below g s f within m.facet m.number k n; i = r.i; j = r.j; k = r.k; low = r.low }

    -- ---- what is left lies below

    pub together_lower : (a b c : ℕ) → IsOf (patch_at g f) a → IsOf (patch_at g f) b → IsOf (patch_at g f) c → a < b → a < c → pos 0 <ℤ wedged a b c → AreTogether star a b c
        → IsBelowFace g s f within star_heights a b c
    together_lower a b c oa ob oc ab ac left t = by (two_orders b c (λ e. (left_apart (first_of g s f within star_heights) (second_of g s f within star_heights) star_heights On a b c left).1 (sym e)))
      where
        by : (b < c) ⊎ (c < b) → IsUnderFace a b c
        by (inl bc) = let r = together_low a b c ab bc t in low_lower g s f within star_heights r.0 a b c r.1 r.2 oa ob oc left
        by (inr cb) =
            let r = together_low a c b ac cb (t.0, t.1, t.2, t.4, t.3) in
            low_lower g s f within star_heights r.0 a b c r.1 (low_middle g.points star_heights r.0 a c b r.1 r.2) oa ob oc left

    -- points that stand together in a member have an area
    pub together_area : (a b c : ℕ) → IsOf (patch_at g f) a → IsOf (patch_at g f) b → IsOf (patch_at g f) c → a < b → b < c → AreTogether star a b c → area_of (patch_at g f) a b c ≢ pos 0
    together_area a b c oa ob oc ab bc t = let r = together_low a b c ab bc t in independent_area g s f within a b c (place_of_point g.points r.1) oa ob oc r.2.independent

    pub left_lower : (t : Triangle) → IsLeft (patch_at g f) star t → IsBelowFace g s f within star_heights t.a t.b t.c
    left_lower t l =
        together_lower t.a t.b t.c l.points.0 l.points.1 l.points.2 l.least.0 l.least.1
        (subst (λ z. pos 0 <ℤ z) (area_wedge g s f within star_heights t.a t.b t.c l.points.0 l.points.1 l.points.2) (positive_sign (area_of (patch_at g f) t.a t.b t.c) l.turned)) l.together

    -- ---- what lies below is left

    pub lower_together : (a b c : ℕ) → IsBelowFace g s f within star_heights a b c → AreTogether star a b c
    lower_together a b c l = let r = lower_low g s f within star_heights star_generic a b c l in low_together (face_at g f).first (number_first g s f within) a b c r.0 r.1

    least_left : (a b c : ℕ) → IsUnderFace a b c → a < b → a < c → IsLeft (patch_at g f) star (record { a = a; b = b; c = c })
    least_left a b c l ab ac = record {
      points = l.points;
      together = lower_together a b c l;
      turned = sign_positive (area_of (patch_at g f) a b c) (subst (λ z. pos 0 <ℤ z) (sym (area_wedge g s f within star_heights a b c l.points.0 l.points.1 l.points.2)) l.left);
      least = (ab, ac);
    }

    pub lower_left : (a b c : ℕ) → IsBelowFace g s f within star_heights a b c → (t : Triangle) × IsLeft (patch_at g f) star t × IsRotationOf t a b c
    lower_left a b c l = by (first_least a b c (apart a b c l) (apart b c a lbca) (apart c a b lcab))
      where
        lbca : IsBelowFace g s f within star_heights b c a
        lbca = lower_turn (first_of g s f within star_heights) (second_of g s f within star_heights) star_heights (IsOf (patch_at g f)) a b c l

        lcab : IsBelowFace g s f within star_heights c a b
        lcab = lower_turn (first_of g s f within star_heights) (second_of g s f within star_heights) star_heights (IsOf (patch_at g f)) b c a lbca

        apart : (i j k : ℕ) → IsBelowFace g s f within star_heights i j k → k ≢ i
        apart i j k m = (left_apart (first_of g s f within star_heights) (second_of g s f within star_heights) star_heights (IsOf (patch_at g f)) i j k m.left).0

        first_least : (i j k : ℕ) → k ≢ i → i ≢ j → j ≢ k → ((i < j) × (i < k)) ⊎ (((j < k) × (j < i)) ⊎ ((k < i) × (k < j)))
        first_least i j k p q r = grind (arith, p, q, r)

        by : ((a < b) × (a < c)) ⊎ (((b < c) × (b < a)) ⊎ ((c < a) × (c < b))) → (t : Triangle) × IsLeft (patch_at g f) star t × IsRotationOf t a b c
        by (inl h) = (record { a = a; b = b; c = c }, least_left a b c l h.0 h.1, inl (refl, refl, refl))
        by (inr (inl h)) = (record { a = b; b = c; c = a }, least_left b c a lbca h.0 h.1, inr (inr (refl, refl, refl)))
        by (inr (inr h)) = (record { a = c; b = a; c = b }, least_left c a b lcab h.0 h.1, inr (inl (refl, refl, refl)))

-- A ridge of a member with a point of the facet on its other side: exactly one other member of the facet has it.
--     inner_ridge      that member
use Rattle.std.proofs.Common.{◌≡◌, ◌≢◌, ℕ, ◌<◌, ◌⊎◌, inl, inr, ⊎_elim, refl, sym, ◌∙◌, subst, arith, ℤ, pos, ◌-ℤ◌, ◌*ℤ◌, ◌<ℤ◌, ◌≤ℤ◌, List, [], ◌∷◌, length}
use Rattle.std.specs.Prelude.{Contains}
use Rattle.std.proofs.lemmas.Int.{ints}
use Rattle.std.proofs.lemmas.List.Elements.{All-contains}
use Rattle.ntfe_nums.specs.Vectors.{Vector, dot}
use Rattle.ntfe_nums.proofs.Ring.{ring}
use Rattle.ntfe_nums.proofs.Ring.Expression.{var, num, minus, times}
use Rattle.ntfe_model.specs.Pairs.{entry}
use Rattle.ntfe_model.specs.Points.{place_of_point}
use Rattle.ntfe_model.specs.Shapes.{Shape, IsShape}
use Rattle.ntfe_model.specs.Stars.{IsOrder, IsMember, IsStar, AreIn, HasRidge, IsBeyond}
use Rattle.ntfe_model.proofs.PlaneNumbers.{positive_factor, zero_factor}
use Rattle.star_builder.proofs.Covering.{heights_generic}
use Rattle.star_builder.proofs.FourPoints.{in_four}
use Rattle.star_builder.proofs.InnerRidges.{beyond_ridge, one_on_side}
use Rattle.star_builder.proofs.LowSimplices.{IsLow, low_first, low_middle, low_last, low_apart, low_tight, low_member, member_low, has_first, has_second, has_third, has_fourth}
use Rattle.star_builder.proofs.Normals.{normal_fixed}
use Rattle.star_builder.proofs.Ridges.{IsSplit, HaveSame, same_then, same_first_two, same_middle_two, same_last_two, rising_same, split_member, shares_ridge}
use Rattle.star_builder.proofs.Rises.{volume}
use Rattle.star_builder.proofs.Sorting.{by_size}
use Rattle.star_builder.proofs.Supports.{tight_points}
use Rattle.star_builder.proofs.VertexPoints.{point_small}
use Rattle.star_builder.proofs.WholeHeights.{whole}
use Rattle.ntfe_nums.proofs.Signs.{sign_of, square_positive, positive_product}

-- two numbers on the side that the first is not on
pub one_side : (z x y : ℤ) → z ≢ pos 0 → (z *ℤ x) <ℤ pos 0 → (z *ℤ y) <ℤ pos 0 → pos 0 <ℤ (x *ℤ y)
one_side z x y n l k =
    positive_factor (x *ℤ y) (z *ℤ z) (square_positive z n)
    (by (z *ℤ x) (z *ℤ y) ((x *ℤ y) *ℤ (z *ℤ z)) l k (ring (z ∷ x ∷ y ∷ []) (times (times (var 0) (var 1)) (times (var 0) (var 2))) (times (times (var 1) (var 2)) (times (var 0) (var 0))) refl))
  where
    by : (p q r : ℤ) → p <ℤ pos 0 → q <ℤ pos 0 → p *ℤ q ≡ r → pos 0 <ℤ r
    by p q r l k e = subst (λ y. pos 0 <ℤ y) (flip p q ∙ e) (positive_product (pos 0 -ℤ p) (pos 0 -ℤ q) (omega (arith, ints, l)) (omega (arith, ints, k)))
      where
        flip : (p q : ℤ) → (pos 0 -ℤ p) *ℤ (pos 0 -ℤ q) ≡ p *ℤ q
        flip p q = ring (p ∷ q ∷ []) (times (minus (num (pos 0)) (var 0)) (minus (num (pos 0)) (var 1))) (times (var 0) (var 1)) refl

-- not positive and not 0
pub below_zero : (z : ℤ) → z ≤ℤ pos 0 → z ≢ pos 0 → z <ℤ pos 0
below_zero z l n = grind (arith, ints)

module _ (g : Shape) (w : List ℤ) (order : List ℕ) (star : List (List ℕ)) (s : IsShape g) (all : IsOrder (length g.points) order) (is : IsStar g.pair.dual g.points w order star) where
  abbrev heights : ℕ → ℤ
  heights = whole w order

  abbrev at : ℕ → Vector
  at = place_of_point g.points

  pub star_member : (members : List ℕ) → Contains star members → IsMember g.pair.dual g.points w order members
  star_member members h = All-contains (IsMember g.pair.dual g.points w order) star members is.sound h

  pub member_split : (members : List ℕ) (r : IsMember g.pair.dual g.points w order members) (without : ℕ) → Contains members without
      → IsSplit g.points heights (entry g.pair.dual r.facet) (r.a ∷ r.b ∷ r.c ∷ r.d ∷ []) without
  member_split members r without h =
      split_member g.points heights (entry g.pair.dual r.facet) r.a r.b r.c r.d r.ordered.1 r.ordered.2 r.ordered.3
      (member_low g.pair.dual g.points w order all (point_small g s) members r) without (subst (λ (ks : List ℕ). Contains ks without) r.is h)

  -- a member that lies in a facet is low there
  pub low_in : (facet : ℕ) (t : List ℕ) (r : IsMember g.pair.dual g.points w order t) → AreIn g.pair.dual g.points facet t → IsLow g.points heights (entry g.pair.dual facet) r.a r.b r.c r.d
  low_in facet t r inside =
      subst (λ m. IsLow g.points heights m r.a r.b r.c r.d)
      (normal_fixed (entry g.pair.dual r.facet) (entry g.pair.dual facet) (at r.a) (at r.b) (at r.c) (at r.d) r.independent
      (same r.a (has_first r.a r.b r.c r.d)) (same r.b (has_second r.a r.b r.c r.d)) (same r.c (has_third r.a r.b r.c r.d)) (same r.d (has_fourth r.a r.b r.c r.d)))
      (member_low g.pair.dual g.points w order all (point_small g s) t r)
    where
      same : (k : ℕ) → Contains (r.a ∷ r.b ∷ r.c ∷ r.d ∷ []) k → dot (entry g.pair.dual r.facet) (place_of_point g.points k) ≡ dot (entry g.pair.dual facet) (place_of_point g.points k)
      same k h = let c = subst (λ (ks : List ℕ). Contains ks k) (sym r.is) h in r.tight k c ∙ sym (inside.1 k c)

  module _ (members : List ℕ) (r : IsMember g.pair.dual g.points w order members) (without : ℕ)
      (p : IsSplit g.points heights (entry g.pair.dual r.facet) (r.a ∷ r.b ∷ r.c ∷ r.d ∷ []) without)
      (e : ℕ) (low : IsLow g.points heights (entry g.pair.dual r.facet) p.i p.j p.k e)
      (opposite : (volume at heights p.i p.j p.k without *ℤ volume at heights p.i p.j p.k e) <ℤ pos 0) where
    abbrev m : Vector
    m = entry g.pair.dual r.facet

    abbrev four : List ℕ
    four = p.i ∷ p.j ∷ p.k ∷ e ∷ []

    abbrev Beside : ℕ → ℕ → ℕ → ℕ → Type 0
    Beside x y z t = IsLow g.points heights m x y z t × HaveSame four (x ∷ y ∷ z ∷ t ∷ [])

    -- the other member, by rising numbers
    sorted : (x : ℕ) × (y : ℕ) × (z : ℕ) × (t : ℕ) × (x < y) × (y < z) × (z < t) × Beside x y z t
    sorted =
        by_size Beside
        (λ x y z t h. (low_first g.points heights m x y z t h.0, same_then four (x ∷ y ∷ z ∷ t ∷ []) (y ∷ x ∷ z ∷ t ∷ []) h.1 (same_first_two x y z t)))
        (λ x y z t h. (low_middle g.points heights m x y z t h.0, same_then four (x ∷ y ∷ z ∷ t ∷ []) (x ∷ z ∷ y ∷ t ∷ []) h.1 (same_middle_two x y z t)))
        (λ x y z t h. (low_last g.points heights m x y z t h.0, same_then four (x ∷ y ∷ z ∷ t ∷ []) (x ∷ y ∷ t ∷ z ∷ []) h.1 (same_last_two x y z t)))
        (λ x y z t h. low_apart g.points heights m x y z t h.0)
        p.i p.j p.k e (low, (λ n h. h, λ n h. h))

    named : (k : ℕ) → Contains members k → Contains (p.i ∷ p.j ∷ p.k ∷ without ∷ []) k
    named k h = p.same.0 k (subst (λ (ks : List ℕ). Contains ks k) r.is h)

    back : (k : ℕ) → Contains (p.i ∷ p.j ∷ p.k ∷ without ∷ []) k → Contains members k
    back k h = subst (λ (ks : List ℕ). Contains ks k) (sym r.is) (p.same.1 k h)

    abbrev beside : List ℕ
    beside = sorted.0 ∷ sorted.1 ∷ sorted.2 ∷ sorted.3 ∷ []

    beside_member : IsMember g.pair.dual g.points w order beside
    beside_member = low_member g.pair.dual g.points w order all (point_small g s) r.facet r.number sorted.0 sorted.1 sorted.2 sorted.3 sorted.4 sorted.5 sorted.6 sorted.7.0

    apart_third : p.k ≢ without
    apart_third = low_apart g.points heights m p.i p.j p.k without p.low

    apart_second : p.j ≢ without
    apart_second = low_apart g.points heights m p.i p.k p.j without (low_middle g.points heights m p.i p.j p.k without p.low)

    apart_first : p.i ≢ without
    apart_first = low_apart g.points heights m p.j p.k p.i without (low_middle g.points heights m p.j p.i p.k without (low_first g.points heights m p.i p.j p.k without p.low))

    in_ridge : (k : ℕ) → Contains members k → k ≢ without → (k ≡ p.i) ⊎ ((k ≡ p.j) ⊎ (k ≡ p.k))
    in_ridge k h n = by (in_four p.i p.j p.k without k (named k h))
      where
        by : (k ≡ p.i) ⊎ ((k ≡ p.j) ⊎ ((k ≡ p.k) ⊎ (k ≡ without))) → (k ≡ p.i) ⊎ ((k ≡ p.j) ⊎ (k ≡ p.k))
        by (inl q) = inl q
        by (inr (inl q)) = inr (inl q)
        by (inr (inr (inl q))) = inr (inr q)
        by (inr (inr (inr q))) = absurd (n q)

    shares : HasRidge members without beside
    shares k h n = sorted.7.1.0 k (by (in_ridge k h n))
      where
        by : (k ≡ p.i) ⊎ ((k ≡ p.j) ⊎ (k ≡ p.k)) → Contains (p.i ∷ p.j ∷ p.k ∷ e ∷ []) k
        by (inl q) = subst (λ j. Contains (p.i ∷ p.j ∷ p.k ∷ e ∷ []) j) (sym q) (has_first p.i p.j p.k e)
        by (inr (inl q)) = subst (λ j. Contains (p.i ∷ p.j ∷ p.k ∷ e ∷ []) j) (sym q) (has_second p.i p.j p.k e)
        by (inr (inr q)) = subst (λ j. Contains (p.i ∷ p.j ∷ p.k ∷ e ∷ []) j) (sym q) (has_third p.i p.j p.k e)

    -- the new point is none of the member
    new_apart : without ≢ e
    new_apart q =
        no _ (subst (λ k. (volume at heights p.i p.j p.k without *ℤ volume at heights p.i p.j p.k k) <ℤ pos 0) (sym q) opposite) (square_positive (volume at heights p.i p.j p.k without) p.low.independent)
      where
        no : (z : ℤ) → z <ℤ pos 0 → pos 0 <ℤ z → ⊥
        no z l k = absurd (omega (arith, ints, l, k))

    new_outside : ¬ (Contains members e)
    new_outside h = by (in_four p.i p.j p.k without e (named e h))
      where
        by : (e ≡ p.i) ⊎ ((e ≡ p.j) ⊎ ((e ≡ p.k) ⊎ (e ≡ without))) → ⊥
        by (inl q) = low_apart g.points heights m p.j p.k p.i e (low_middle g.points heights m p.j p.i p.k e (low_first g.points heights m p.i p.j p.k e low)) (sym q)
        by (inr (inl q)) = low_apart g.points heights m p.i p.k p.j e (low_middle g.points heights m p.i p.j p.k e low) (sym q)
        by (inr (inr (inl q))) = low_apart g.points heights m p.i p.j p.k e low (sym q)
        by (inr (inr (inr q))) = new_apart (sym q)

    -- another member of the facet with the ridge is this one or that
    only : (t : List ℕ) → IsMember g.pair.dual g.points w order t → AreIn g.pair.dual g.points r.facet t → HasRidge members without t → (t ≡ members) ⊎ (t ≡ beside)
    only t u inside has =
        by (shares_ridge g.points heights m u.a u.b u.c u.d u.ordered.1 u.ordered.2 u.ordered.3 (low_in r.facet t u inside) p.i p.j p.k p.ij p.jk
        (within p.i (has_first p.i p.j p.k without) apart_first) (within p.j (has_second p.i p.j p.k without) apart_second) (within p.k (has_third p.i p.j p.k without) apart_third))
      where
        within : (k : ℕ) → Contains (p.i ∷ p.j ∷ p.k ∷ without ∷ []) k → k ≢ without → Contains (u.a ∷ u.b ∷ u.c ∷ u.d ∷ []) k
        within k h n = subst (λ (ks : List ℕ). Contains ks k) u.is (has k (back k h) n)

        by : (f : ℕ) × IsLow g.points heights (entry g.pair.dual r.facet) p.i p.j p.k f × HaveSame (u.a ∷ u.b ∷ u.c ∷ u.d ∷ []) (p.i ∷ p.j ∷ p.k ∷ f ∷ []) → (t ≡ members) ⊎ (t ≡ beside)
        by h = ⊎_elim near far (sign_of (volume at heights p.i p.j p.k without *ℤ volume at heights p.i p.j p.k h.0))
          where
            near : pos 0 <ℤ (volume at heights p.i p.j p.k without *ℤ volume at heights p.i p.j p.k h.0) → (t ≡ members) ⊎ (t ≡ beside)
            near l =
                let q = one_on_side g.points heights (heights_generic g w order star s all is) m p.i p.j p.k without p.low h.0 h.1 l in
                inl (u.is ∙ rising_same u.a u.b u.c u.d r.a r.b r.c r.d u.ordered.1 u.ordered.2 u.ordered.3 r.ordered.1 r.ordered.2 r.ordered.3
                (same_then (u.a ∷ u.b ∷ u.c ∷ u.d ∷ []) (p.i ∷ p.j ∷ p.k ∷ without ∷ []) (r.a ∷ r.b ∷ r.c ∷ r.d ∷ [])
                (subst (λ f. HaveSame (u.a ∷ u.b ∷ u.c ∷ u.d ∷ []) (p.i ∷ p.j ∷ p.k ∷ f ∷ [])) (sym q) h.2) (p.same.1, p.same.0)) ∙ sym r.is)

            far : (volume at heights p.i p.j p.k without *ℤ volume at heights p.i p.j p.k h.0) ≤ℤ pos 0 → (t ≡ members) ⊎ (t ≡ beside)
            far l =
                let below = below_zero (volume at heights p.i p.j p.k without *ℤ volume at heights p.i p.j p.k h.0) l
                (λ z. ⊎_elim p.low.independent h.1.independent (zero_factor (volume at heights p.i p.j p.k without) (volume at heights p.i p.j p.k h.0) z)) in
                let q = one_on_side g.points heights (heights_generic g w order star s all is) m p.i p.j p.k e low h.0 h.1
                (one_side (volume at heights p.i p.j p.k without) (volume at heights p.i p.j p.k e) (volume at heights p.i p.j p.k h.0) p.low.independent opposite below) in
                inr (u.is ∙ rising_same u.a u.b u.c u.d sorted.0 sorted.1 sorted.2 sorted.3 u.ordered.1 u.ordered.2 u.ordered.3 sorted.4 sorted.5 sorted.6
                (same_then (u.a ∷ u.b ∷ u.c ∷ u.d ∷ []) (p.i ∷ p.j ∷ p.k ∷ e ∷ []) (sorted.0 ∷ sorted.1 ∷ sorted.2 ∷ sorted.3 ∷ [])
                (subst (λ f. HaveSame (u.a ∷ u.b ∷ u.c ∷ u.d ∷ []) (p.i ∷ p.j ∷ p.k ∷ f ∷ [])) (sym q) h.2) sorted.7.1))

    is_beyond : IsBeyond g.pair.dual g.points w order members without beside
    is_beyond = record {
      is = beside_member;
      facet = r.facet;
      both = ((r.number, r.tight), (r.number, low_tight g.points heights m sorted.0 sorted.1 sorted.2 sorted.3 sorted.7.0));
      shares = shares;
      only = only;
      a = p.i;
      b = p.j;
      c = p.k;
      ridge = (p.ij, p.jk, apart_first, apart_second, apart_third, back p.i (has_first p.i p.j p.k without), back p.j (has_second p.i p.j p.k without), back p.k (has_third p.i p.j p.k without));
      fourth = e;
      new = (sorted.7.1.0 e (has_fourth p.i p.j p.k e), new_outside);
      opposite = opposite;
    }

  -- what lies beyond a ridge: the fourth point, and the member by rising numbers
  pub record IsCrossing (members : List ℕ) (r : IsMember g.pair.dual g.points w order members) (without : ℕ) (p : IsSplit g.points heights (entry g.pair.dual r.facet) (r.a ∷ r.b ∷ r.c ∷ r.d ∷ []) without) : Type 0 where
    pub fourth : ℕ
    pub low : IsLow g.points heights (entry g.pair.dual r.facet) p.i p.j p.k fourth
    pub opposite : (volume at heights p.i p.j p.k without *ℤ volume at heights p.i p.j p.k fourth) <ℤ pos 0
    pub a : ℕ
    pub b : ℕ
    pub c : ℕ
    pub d : ℕ
    pub rising : (a < b) × (b < c) × (c < d)
    pub same : HaveSame (p.i ∷ p.j ∷ p.k ∷ fourth ∷ []) (a ∷ b ∷ c ∷ d ∷ [])
    pub beyond : IsBeyond g.pair.dual g.points w order members without (a ∷ b ∷ c ∷ d ∷ [])

  -- where a point of the facet lies on the other side of the ridge
  pub inner_ridge : (members : List ℕ) (r : IsMember g.pair.dual g.points w order members) (without : ℕ) (p : IsSplit g.points heights (entry g.pair.dual r.facet) (r.a ∷ r.b ∷ r.c ∷ r.d ∷ []) without)
      → (z : ℕ) → Contains (tight_points (entry g.pair.dual r.facet) g.points) z → (volume at heights p.i p.j p.k without *ℤ volume at heights p.i p.j p.k z) <ℤ pos 0
      → IsCrossing members r without p
  inner_ridge members r without p z h l =
      let e = beyond_ridge g.points heights (heights_generic g w order star s all is) (entry g.pair.dual r.facet) p.i p.j p.k without p.low z h l in
      let n = sorted members r without p e.0 e.1 e.2 in
      record {
        fourth = e.0;
        low = e.1;
        opposite = e.2;
        a = n.0;
        b = n.1;
        c = n.2;
        d = n.3;
        rising = (n.4, n.5, n.6);
        same = n.7.1;
        beyond = is_beyond members r without p e.0 e.1 e.2;
      }

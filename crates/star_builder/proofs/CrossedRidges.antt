-- What a crossing of a ridge finds is the member beyond it, or that the ridge lies in two facets.
--     outer_not_across      no point lies across a ridge that lies in two facets
--     crossed_beyond      what the crossing finds
use Rattle.std.proofs.Common.{◌≡◌, ◌≢◌, ℕ, ◌-◌, ◌<◌, ◌⊎◌, ⊎_elim, refl, sym, ap, ◌∙◌, subst, arith, ℤ, pos, negsuc, ◌+ℤ◌, ◌-ℤ◌, ◌*ℤ◌, ◌<ℤ◌, ◌≤ℤ◌, List, [], ◌∷◌, length, All, get_or, Option, None, Some}
use Rattle.std.specs.Prelude.{Contains, MatchOption}
use Rattle.std.proofs.lemmas.Int.{ints}
use Rattle.std.proofs.lemmas.List.Elements.{Contains-get_or}
use Rattle.ntfe_nums.specs.Vectors.{Vector, origin, dot, det4}
use Rattle.ntfe_nums.proofs.Exchanges.{cramer_form}
use Rattle.ntfe_nums.proofs.Ring.{ring}
use Rattle.ntfe_nums.proofs.Ring.Expression.{var, plus, minus, times}
use Rattle.ntfe_nums.proofs.Signs.{above_zero, product_not_negative, square_not_negative, same_or, zero_or, two_orders}
use Rattle.ntfe_model.specs.Lists.{IsNumberOf}
use Rattle.ntfe_model.specs.Pairs.{IsSmall, entry}
use Rattle.ntfe_model.specs.Points.{place_of_point}
use Rattle.ntfe_model.specs.Reflexive.{IsTight, HasFacet, at}
use Rattle.ntfe_model.specs.Shapes.{Shape, IsShape}
use Rattle.ntfe_model.specs.Stars.{IsOrder, IsMember, AreIn, IsOuterRidge, IsBeyond, order_of}
use Rattle.ntfe_model.specs.TightBits.{IsFacetOf}
use Rattle.ntfe_model.specs.declared.nogood.Push.{Push}
use Rattle.ntfe_model.specs.declared.point.Point.{Point}
use Rattle.ntfe_model.proofs.PlaneNumbers.{negative_product}
use Rattle.ntfe_model.proofs.SmallVectors.{inside_small}
use Rattle.star_builder.specs.declared.four.Four.{Four}
use Rattle.star_builder.specs.declared.ridge.Ridge.{Ridge}
use Rattle.star_builder.specs.Fours.{members_of}
use Rattle.star_builder.specs.Ridges.{IsRidge, IsJoined, IsAcross, IsLowest, IsLowestTo, IsCrossed}
use Rattle.star_builder.proofs.BeyondMembers.{IsCrossing}
use Rattle.star_builder.proofs.ClosedRidges.{split_closes}
use Rattle.star_builder.proofs.Crossings.{joined_all}
use Rattle.star_builder.proofs.DualLemmas.{dual_unique}
use Rattle.star_builder.proofs.FacetPoints.{entries_apart}
use Rattle.star_builder.proofs.LowSimplices.{IsLow, has_first, has_second, has_third, has_fourth, member_low}
use Rattle.star_builder.proofs.MemberLemmas.{member_facet, member_independent, member_others}
use Rattle.star_builder.proofs.OuterRidges.{point_over}
use Rattle.star_builder.proofs.Ridges.{IsSplit, HaveSame, same_then, rising_same, split_ridge}
use Rattle.star_builder.proofs.StarListing.{star_exists, push_order}
use Rattle.star_builder.proofs.VertexPoints.{point_small}
use Rattle.star_builder.proofs.WholeHeights.{whole}

-- a form that is 0 on the ridge and nowhere negative has no values on both sides of it
one_sign : (V P U W : ℤ) → V *ℤ U ≡ P *ℤ W → (V *ℤ P) <ℤ pos 0 → pos 0 ≤ℤ U → pos 0 <ℤ W → ⊥
one_sign V P U W e l u w =
    clash ((V *ℤ P) *ℤ W) ((V *ℤ V) *ℤ U) (negative_product (V *ℤ P) W l w) (product_not_negative (V *ℤ V) U (square_not_negative V) u)
    (ring (V ∷ P ∷ W ∷ []) (times (times (var 0) (var 1)) (var 2)) (times (var 0) (times (var 1) (var 2))) refl ∙ ap (λ z. V *ℤ z) (sym e) ∙ ring (V ∷ U ∷ []) (times (var 0) (times (var 0) (var 1))) (times (times (var 0) (var 0)) (var 1)) refl)
  where
    clash : (p q : ℤ) → p <ℤ pos 0 → pos 0 ≤ℤ q → p ≡ q → ⊥
    clash p q k1 k2 e = absurd (omega (arith, ints, k1, k2, e))

-- two forms that agree at three points, by how far they differ at a fourth
forms_differ : (n m a b c d p : Vector) → dot n a ≡ dot m a → dot n b ≡ dot m b → dot n c ≡ dot m c
    → det4 a b c d *ℤ (dot n p -ℤ dot m p) ≡ det4 a b c p *ℤ (dot n d -ℤ dot m d)
forms_differ n m a b c d p ea eb ec =
    by (det4 a b c d) (dot n p) (dot m p) (det4 p b c d) (det4 a p c d) (det4 a b p d) (det4 a b c p) (dot n a) (dot n b) (dot n c) (dot n d) (dot m d)
    (cramer_form n a b c d p)
    (cramer_form m a b c d p ∙ (λ i. det4 p b c d *ℤ sym ea i +ℤ det4 a p c d *ℤ sym eb i +ℤ det4 a b p d *ℤ sym ec i +ℤ det4 a b c p *ℤ dot m d))
  where
    by : (V np mp l1 l2 l3 l4 a b c nd md : ℤ) → V *ℤ np ≡ l1 *ℤ a +ℤ l2 *ℤ b +ℤ l3 *ℤ c +ℤ l4 *ℤ nd → V *ℤ mp ≡ l1 *ℤ a +ℤ l2 *ℤ b +ℤ l3 *ℤ c +ℤ l4 *ℤ md → V *ℤ (np -ℤ mp) ≡ l4 *ℤ (nd -ℤ md)
    by V np mp l1 l2 l3 l4 a b c nd md e f =
        ring (V ∷ np ∷ mp ∷ []) (times (var 0) (minus (var 1) (var 2))) (minus (times (var 0) (var 1)) (times (var 0) (var 2))) refl ∙ (λ i. e i -ℤ f i)
        ∙ ring (l1 ∷ l2 ∷ l3 ∷ l4 ∷ a ∷ b ∷ c ∷ nd ∷ md ∷ [])
        (minus (plus (plus (plus (times (var 0) (var 4)) (times (var 1) (var 5))) (times (var 2) (var 6))) (times (var 3) (var 7))) (plus (plus (plus (times (var 0) (var 4)) (times (var 1) (var 5))) (times (var 2) (var 6))) (times (var 3) (var 8))))
        (times (var 3) (minus (var 7) (var 8))) refl

module _ (g : Shape) (s : IsShape g) (w : List ℤ) (order : List ℕ) (all : IsOrder (length g.points) order)
    (f : Four) (member : IsMember g.pair.dual g.points w order (members_of f)) (without : ℕ) (has : Contains (members_of f) without)
    (k : ℕ) (facet : IsFacetOf g.pair.dual (place_of_point g.points f.a) (place_of_point g.points f.b) (place_of_point g.points f.c) (place_of_point g.points f.d) k) where
  abbrev place : ℕ → Vector
  place = place_of_point g.points

  abbrev heights : ℕ → ℤ
  heights = whole w order

  abbrev m : Vector
  m = at g.pair.dual k

  abbrev own : Vector
  own = entry g.pair.dual member.facet

  -- the member's facet is the one that is known of the four
  facet_is : own ≡ m
  facet_is =
      dual_unique (place f.a) (place f.b) (place f.c) (place f.d) own m (member_independent g.pair.dual g.points w order f member)
      (member.tight f.a (has_first f.a f.b f.c f.d)) (member.tight f.b (has_second f.a f.b f.c f.d)) (member.tight f.c (has_third f.a f.b f.c f.d)) (member.tight f.d (has_fourth f.a f.b f.c f.d))
      facet.first facet.second facet.third facet.fourth

  module _ (r : Ridge) (ridge : IsRidge (members_of f) without r) where
    parts : IsLow g.points heights own r.a r.b r.c without × HaveSame (member.a ∷ member.b ∷ member.c ∷ member.d ∷ []) (r.a ∷ r.b ∷ r.c ∷ without ∷ [])
    parts =
        split_ridge g.points heights own member.a member.b member.c member.d member.ordered.1 member.ordered.2 member.ordered.3
        (member_low g.pair.dual g.points w order all (point_small g s) (members_of f) member) r without
        (subst (λ (ks : List ℕ). IsRidge ks without r) member.is ridge) (subst (λ (ks : List ℕ). Contains ks without) member.is has)

    split : IsSplit g.points heights own (member.a ∷ member.b ∷ member.c ∷ member.d ∷ []) without
    split = record { i = r.a; j = r.b; k = r.c; ij = ridge.ab; jk = ridge.bc; low = parts.0; same = parts.1 }

    -- ---- a ridge in two facets

    not_in_other : (n : ℕ) (o : IsOuterRidge g.pair.dual g.points (members_of f) without) → AreIn g.pair.dual g.points n o.ridge → entry g.pair.dual n ≢ m
        → (p : ℕ) → IsNumberOf g.points p → IsAcross g.points m r without p → ⊥
    unfolding split
    not_in_other n o inside apart p np across =
        ⊎_elim
        (λ z. apart (dual_unique (place r.a) (place r.b) (place r.c) (place without) (entry g.pair.dual n) m split.low.independent ta tb tc (level (dot (entry g.pair.dual n) (place without)) (dot m (place without)) (on without split.low.tight.3) z) (on r.a split.low.tight.0) (on r.b split.low.tight.1) (on r.c split.low.tight.2) (on without split.low.tight.3)))
        (λ z. one_sign (det4 (place r.a) (place r.b) (place r.c) (place without)) (det4 (place r.a) (place r.b) (place r.c) (place p)) (over p) (over without)
        (forms_differ (entry g.pair.dual n) m (place r.a) (place r.b) (place r.c) (place without) (place p) (ta ∙ sym (on r.a split.low.tight.0)) (tb ∙ sym (on r.b split.low.tight.1)) (tc ∙ sym (on r.c split.low.tight.2)))
        across.opposite (not_below p np across.tight) (above_zero (over without) (not_below without split.low.numbers.3 (on without split.low.tight.3)) z))
        (zero_or (over without))
      where
        over : ℕ → ℤ
        over j = dot (entry g.pair.dual n) (place j) -ℤ dot m (place j)

        on : (j : ℕ) → IsTight own (place j) → IsTight m (place j)
        on j t = subst (λ v. IsTight v (place j)) facet_is t

        ta : IsTight (entry g.pair.dual n) (place r.a)
        ta = inside.1 r.a (o.has r.a ridge.first ridge.not_a)

        tb : IsTight (entry g.pair.dual n) (place r.b)
        tb = inside.1 r.b (o.has r.b ridge.second ridge.not_b)

        tc : IsTight (entry g.pair.dual n) (place r.c)
        tc = inside.1 r.c (o.has r.c ridge.third ridge.not_c)

        not_below : (j : ℕ) → IsNumberOf g.points j → IsTight m (place j) → pos 0 ≤ℤ over j
        not_below j nj t =
            by (dot (entry g.pair.dual n) (place j)) (dot m (place j)) t
            (point_over g s n inside.0 (entry g.pair.dual n) (Contains-get_or g.pair.dual (n - 1) origin (let l = inside.0.0 in let h = inside.0.1 in omega arith)) j nj)
          where
            by : (x y : ℤ) → y ≡ negsuc 0 → negsuc 0 ≤ℤ x → pos 0 ≤ℤ (x -ℤ y)
            by x y e l = omega (arith, ints, e, l)

        level : (x y : ℤ) → y ≡ negsuc 0 → x -ℤ y ≡ pos 0 → x ≡ negsuc 0
        level x y e z = omega (arith, ints, e, z)

    pub outer_not_across : IsOuterRidge g.pair.dual g.points (members_of f) without → (p : ℕ) → IsNumberOf g.points p → IsAcross g.points m r without p → ⊥
    outer_not_across o p np across =
        ⊎_elim
        (λ e. not_in_other o.second o o.both.1 (λ q. apart o.first o.second o.both.0.0 o.both.1.0 o.differ (ap (entry g.pair.dual) e ∙ facet_is ∙ sym q)) p np across)
        (λ n. not_in_other o.first o o.both.0 (λ q. ⊎_elim (λ l. apart o.first member.facet o.both.0.0 member.number l (q ∙ sym facet_is)) (λ l. apart member.facet o.first member.number o.both.0.0 l (facet_is ∙ sym q)) (two_orders o.first member.facet n)) p np across)
        (same_or o.first member.facet)
      where
        apart : (i j : ℕ) → IsNumberOf g.pair.dual i → IsNumberOf g.pair.dual j → i < j → entry g.pair.dual i ≢ entry g.pair.dual j
        apart = entries_apart g.pair.dual s.reflexive.distinct_dual

    -- ---- what the crossing finds

    abbrev Beyond : Type 0
    Beyond = let star = star_exists g.pair.dual g.points w order in IsCrossing g w order star.0 s all star.1 (members_of f) member without split

    closes : IsOuterRidge g.pair.dual g.points (members_of f) without ⊎ Beyond
    closes = (let star = star_exists g.pair.dual g.points w order in split_closes g w order star.0 s all star.1 (members_of f) member without split)

    lowest_of : (c : Beyond) → IsLowest g.points w order m r without c.fourth
    unfolding split
    lowest_of c = record {
      number = c.low.numbers.3;
      across = record { tight = on c.fourth c.low.tight.3; opposite = c.opposite };
      four = four;
      joined = joined;
      above = member_others g.pair.dual g.points w order four c.beyond.is k (record { place = facet.place; first = all_on c.a (has_first c.a c.b c.c c.d); second = all_on c.b (has_second c.a c.b c.c c.d); third = all_on c.c (has_third c.a c.b c.c c.d); fourth = all_on c.d (has_fourth c.a c.b c.c c.d) });
    }
      where
        four : Four
        four = record { a = c.a; b = c.b; c = c.c; d = c.d }

        joined : IsJoined r c.fourth four
        joined = record { ab = c.rising.0; bc = c.rising.1; cd = c.rising.2; sound = c.same.1; complete = c.same.0 }

        on : (j : ℕ) → IsTight own (place j) → IsTight m (place j)
        on j t = subst (λ v. IsTight v (place j)) facet_is t

        all_on : (j : ℕ) → Contains (members_of four) j → IsTight m (place j)
        all_on = joined_all g.points m r c.fourth four joined (λ j. IsTight m (place j)) (on r.a c.low.tight.0) (on r.b c.low.tight.1) (on r.c c.low.tight.2) (on c.fourth c.low.tight.3)

    beyond_of : (c : Beyond) (p : ℕ) → c.fourth ≡ p → (other : Four) → IsJoined r p other → IsBeyond g.pair.dual g.points w order (members_of f) without (members_of other)
    unfolding split
    beyond_of c p e other joined =
        subst (λ (ks : List ℕ). IsBeyond g.pair.dual g.points w order (members_of f) without ks)
        (rising_same c.a c.b c.c c.d other.a other.b other.c other.d c.rising.0 c.rising.1 c.rising.2 joined.ab joined.bc joined.cd
        (same_then (c.a ∷ c.b ∷ c.c ∷ c.d ∷ []) (r.a ∷ r.b ∷ r.c ∷ c.fourth ∷ []) (members_of other) (c.same.1, c.same.0)
        (subst (λ q. HaveSame (r.a ∷ r.b ∷ r.c ∷ q ∷ []) (members_of other)) (sym e) (joined.complete, joined.sound))))
        c.beyond

    found_beyond : (found : Option Four)
        → MatchOption found (IsLowestTo g.points w order m r without (length g.points) None) (λ other. (p : ℕ) × IsLowestTo g.points w order m r without (length g.points) (Some p) × IsJoined r p other)
        → MatchOption found (IsOuterRidge g.pair.dual g.points (members_of f) without)
        (λ other. IsBeyond g.pair.dual g.points w order (members_of f) without (members_of other) × ¬ (IsOuterRidge g.pair.dual g.points (members_of f) without))
    found_beyond None h = ⊎_elim (λ o. o) (λ c. absurd (h c.fourth c.low.numbers.3.1 (lowest_of c))) closes
    found_beyond (Some other) (p, h, joined) = (
      ⊎_elim (λ o. absurd (outer_not_across o p h.0 h.2)) (λ c. beyond_of c p (h.3 c.fourth c.low.numbers.3.1 (lowest_of c)) other joined) closes,
      λ o. outer_not_across o p h.0 h.2,
    )

  pub crossed_beyond : (found : Option Four) → IsCrossed g.points w order m f without found
      → MatchOption found (IsOuterRidge g.pair.dual g.points (members_of f) without)
      (λ other. IsBeyond g.pair.dual g.points w order (members_of f) without (members_of other) × ¬ (IsOuterRidge g.pair.dual g.points (members_of f) without))
  crossed_beyond found c = found_beyond c.ridge c.is found c.crossed

-- ---- in terms of what the code has at hand

-- the points of a geometry are small
pub points_small : (g : Shape) → IsShape g → All (λ x. IsSmall x.place) g.points
points_small g s = λ k d l. inside_small g.pair (get_or g.points k d).place s.bounded.vertices.small (s.points.sound k d l).inside

-- the first four entries of a list
abbrev pub four_in : List ℕ → Four
four_in ks = record { a = get_or ks 0 0; b = get_or ks 1 0; c = get_or ks 2 0; d = get_or ks 3 0 }

module _ (g : Shape) (s : IsShape g) (w : List ℤ) (push : Push) (members : List ℕ) (member : IsMember g.pair.dual g.points w (order_of push (length g.points)) members) where
  abbrev order : List ℕ
  order = order_of push (length g.points)

  pub four_members : members ≡ members_of (four_in members)
  four_members = subst (λ (ks : List ℕ). ks ≡ members_of (four_in ks)) (sym member.is) refl

  four_member : IsMember g.pair.dual g.points w (order_of push (length g.points)) (members_of (four_in members))
  four_member = subst (λ (ks : List ℕ). IsMember g.pair.dual g.points w order ks) four_members member

  module _ (xs : List Point) (ms : List Vector) (same_points : xs ≡ g.points) (same_dual : ms ≡ g.pair.dual) where
    pub small_points : All (λ x. IsSmall x.place) xs
    small_points = subst (λ (ys : List Point). All (λ x. IsSmall x.place) ys) (sym same_points) (points_small g s)

    abbrev f : Four
    f = four_in members

    pub some_facet : HasFacet ms (place_of_point xs f.a) (place_of_point xs f.b) (place_of_point xs f.c) (place_of_point xs f.d)
    some_facet =
        subst (λ (u : List Vector × List Point). HasFacet u.0 (place_of_point u.1 f.a) (place_of_point u.1 f.b) (place_of_point u.1 f.c) (place_of_point u.1 f.d)) (λ i. (sym same_dual i, sym same_points i))
        (member_facet g.pair.dual g.points w order f four_member)

    module _ (ws : List ℤ) (same_heights : ws ≡ w) (without : ℕ) (has : Contains members without) (m : Vector) (k : ℕ) (found : Option Four) where
      pub among : Contains (members_of (four_in members)) without
      among = subst (λ (ks : List ℕ). Contains ks without) four_members has

      pub found_other : IsFacetOf ms (place_of_point xs f.a) (place_of_point xs f.b) (place_of_point xs f.c) (place_of_point xs f.d) k → m ≡ at ms k → IsCrossed xs ws (order_of push (length xs)) m f without found
          → MatchOption found (IsOuterRidge g.pair.dual g.points members without)
          (λ other. IsBeyond g.pair.dual g.points w (order_of push (length g.points)) members without (members_of other) × ¬ (IsOuterRidge g.pair.dual g.points members without))
      found_other =
          subst (λ (u : List Vector × List Point × List ℤ). IsFacetOf u.0 (place_of_point u.1 f.a) (place_of_point u.1 f.b) (place_of_point u.1 f.c) (place_of_point u.1 f.d) k → m ≡ at u.0 k → IsCrossed u.1 u.2 (order_of push (length u.1)) m f without found
          → MatchOption found (IsOuterRidge g.pair.dual g.points members without)
          (λ other. IsBeyond g.pair.dual g.points w order members without (members_of other) × ¬ (IsOuterRidge g.pair.dual g.points members without)))
          (λ i. (sym same_dual i, sym same_points i, sym same_heights i))
          (λ facet e c. subst (λ (ks : List ℕ). MatchOption found (IsOuterRidge g.pair.dual g.points ks without)
          (λ other. IsBeyond g.pair.dual g.points w order ks without (members_of other) × ¬ (IsOuterRidge g.pair.dual g.points ks without))) (sym four_members)
          (crossed_beyond g s w order (push_order push (length g.points)) f four_member without among k facet found (subst (λ v. IsCrossed g.points w order v f without found) e c)))

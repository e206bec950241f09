-- A two-face has a boundary step, so a fine triangulation of it has a triple.
use Rattle.std.proofs.Common.{◌≡◌, ◌≢◌, ℕ, zero, suc, ◌-◌, ◌<◌, ◌≤◌, ◌⊎◌, inl, inr, ⊎_elim, Bool, true, false, cond, not, refl, sym, ap, ◌∙◌, subst, arith, ℤ, pos, negsuc, ◌+ℤ◌, ◌-ℤ◌, ◌*ℤ◌, ◌<ℤ◌, ◌≤ℤ◌, neg_ℤ, List, [], ◌∷◌}
use Rattle.std.specs.Prelude.{Contains, Any, slice_index_or}
use Rattle.std.specs.List.{list_any}
use Rattle.std.specs.Ordering.{int_eq}
use Rattle.std.proofs.lemmas.Int.{ints}
use Rattle.std.proofs.lemmas.List.Folds.{Any-from_list_any, list_any-from_Any}
use Rattle.ntfe_nums.specs.Vectors.{Vector, numbers, vector_sum, multiple, coordinate, area}
use Rattle.ntfe_nums.proofs.Ring.{ring}
use Rattle.ntfe_nums.proofs.Ring.Expression.{var, num, plus, minus, times, neg}
use Rattle.ntfe_nums.proofs.Signs.{positive_product, product_exchanged, zero_out, sum_positive, least_once, zero_not_negative, positive_some, less_or_least}
use Rattle.ntfe_model.specs.Pairs.{IsSmall}
use Rattle.ntfe_model.specs.Charts.{Spot, Patch, axes, axis_pairs, first_that_spans, spans, place, spot_numbers, IsOf, turn, IsOnSegment, IsStep, AreApart}
use Rattle.ntfe_model.proofs.Listings.{Contains-cases, Contains-none}
use Rattle.ntfe_model.proofs.PlaneNumbers.{positive_factor, cancel, sign_not_right, zero_factor}
use Rattle.ntfe_model.proofs.Triples.{Decided, decide_listed}
use Rattle.ntfe_model.proofs.UnitTriples.{area_of}
use Rattle.star_builder.proofs.Decisions.{three_signs}
use Rattle.star_builder.proofs.FacetPoints.{int_eq_to}
use Rattle.star_builder.proofs.Least.{least_with}
use Rattle.ntfe_nums.proofs.Comparisons.{other_passes}
use Rattle.ntfe_model.proofs.Folds.{vector_swap}

-- ---- coordinates

coordinate_small : (k : ℕ) (v : Vector) → IsSmall v → (negsuc 1022 ≤ℤ coordinate k v) × (coordinate k v ≤ℤ pos 1023)
coordinate_small k v s = by (k - 1)
  where
    by : (i : ℕ) → (negsuc 1022 ≤ℤ slice_index_or (numbers v) i (pos 0)) × (slice_index_or (numbers v) i (pos 0) ≤ℤ pos 1023)
    by zero = (s.low1, s.high1)
    by (suc zero) = (s.low2, s.high2)
    by (suc (suc zero)) = (s.low3, s.high3)
    by (suc (suc (suc zero))) = (s.low4, s.high4)
    by (suc (suc (suc (suc i)))) = (omega (arith, ints), omega (arith, ints))

coordinate_segment : (k : ℕ) (a b x : Vector) (m n : ℤ) (q : ℤ) → multiple q x ≡ vector_sum (multiple m a) (multiple n b) → q *ℤ coordinate k x ≡ m *ℤ coordinate k a +ℤ n *ℤ coordinate k b
coordinate_segment k a b x m n q e = by (k - 1)
  where
    by : (i : ℕ) → q *ℤ slice_index_or (numbers x) i (pos 0) ≡ m *ℤ slice_index_or (numbers a) i (pos 0) +ℤ n *ℤ slice_index_or (numbers b) i (pos 0)
    by zero = ap (λ v. v.x1) e
    by (suc zero) = ap (λ v. v.x2) e
    by (suc (suc zero)) = ap (λ v. v.x3) e
    by (suc (suc (suc zero))) = ap (λ v. v.x4) e
    by (suc (suc (suc (suc i)))) = omega (arith, ints)

-- ---- the numbers of the argument: x, y for the coordinates from the first point, and one positive number for both

-- the turn from one vector to another
abbrev cross : ℤ → ℤ → ℤ → ℤ → ℤ
cross x y u v = x *ℤ v -ℤ y *ℤ u

-- large for the first coordinate, so that both are 0 where it is
abbrev weigh : ℤ → ℤ → ℤ
weigh x y = pos 4096 *ℤ x +ℤ y

-- of small numbers
weigh_both : (x y u v : ℤ) → negsuc 1022 ≤ℤ y → y ≤ℤ pos 1023 → negsuc 1022 ≤ℤ v → v ≤ℤ pos 1023 → weigh x y ≡ weigh u v → (x ≡ u) × (y ≡ v)
weigh_both x y u v i j k l e = (omega (arith, ints, i, j, k, l, e), omega (arith, ints, i, j, k, l, e))

chain_identity : (x1 y1 x2 y2 x3 y3 : ℤ) → weigh x2 y2 *ℤ cross x1 y1 x3 y3 ≡ weigh x3 y3 *ℤ cross x1 y1 x2 y2 +ℤ weigh x1 y1 *ℤ cross x2 y2 x3 y3
chain_identity x1 y1 x2 y2 x3 y3 =
    ring (x1 ∷ y1 ∷ x2 ∷ y2 ∷ x3 ∷ y3 ∷ [])
    (times (plus (times (num (pos 4096)) (var 2)) (var 3)) (minus (times (var 0) (var 5)) (times (var 1) (var 4))))
    (plus (times (plus (times (num (pos 4096)) (var 4)) (var 5)) (minus (times (var 0) (var 3)) (times (var 1) (var 2))))
    (times (plus (times (num (pos 4096)) (var 0)) (var 1)) (minus (times (var 2) (var 5)) (times (var 3) (var 4))))) refl

-- the first vector turns left to the second, or lies before it on one ray
abbrev IsFirst : ℤ → ℤ → ℤ → Type 0
IsFirst c m n = (pos 0 <ℤ c) ⊎ ((c ≡ pos 0) × (m ≤ℤ n))

first_chain : (m1 m2 m3 c12 c23 c13 : ℤ) → pos 0 <ℤ m1 → pos 0 <ℤ m2 → pos 0 <ℤ m3 → m2 *ℤ c13 ≡ m3 *ℤ c12 +ℤ m1 *ℤ c23 → IsFirst c12 m1 m2 → IsFirst c23 m2 m3 → IsFirst c13 m1 m3
first_chain m1 m2 m3 c12 c23 c13 p1 p2 p3 e r t = by r t
  where
    positive : (y z : ℤ) → m2 *ℤ c13 ≡ y +ℤ z → pos 0 <ℤ (y +ℤ z) → pos 0 <ℤ c13
    positive y z i l = positive_factor c13 m2 p2 (let P : ℤ → Type 0 = λ k. pos 0 <ℤ k in subst P (sym i ∙ product_exchanged m2 c13) l)

    left : (y z : ℤ) → pos 0 <ℤ y → z ≡ pos 0 → pos 0 <ℤ (y +ℤ z)
    left y z i j = omega (arith, ints, i, j)

    right : (y z : ℤ) → y ≡ pos 0 → pos 0 <ℤ z → pos 0 <ℤ (y +ℤ z)
    right y z i j = omega (arith, ints, i, j)

    sum_none : (y z : ℤ) → y ≡ pos 0 → z ≡ pos 0 → y +ℤ z ≡ pos 0
    sum_none y z i j = omega (arith, ints, i, j)

    longer : m1 ≤ℤ m2 → m2 ≤ℤ m3 → m1 ≤ℤ m3
    longer i j = omega (arith, ints, i, j)

    not_none : m2 ≡ pos 0 → ⊥
    not_none z = absurd (omega (arith, ints, p2, z))

    by : IsFirst c12 m1 m2 → IsFirst c23 m2 m3 → IsFirst c13 m1 m3
    by (inl i) (inl j) = inl (positive (m3 *ℤ c12) (m1 *ℤ c23) e (sum_positive _ _ (positive_product m3 c12 p3 i) (positive_product m1 c23 p1 j)))
    by (inl i) (inr (z, l)) = inl (positive (m3 *ℤ c12) (m1 *ℤ c23) e (left _ _ (positive_product m3 c12 p3 i) (zero_out m1 c23 z)))
    by (inr (z, l)) (inl j) = inl (positive (m3 *ℤ c12) (m1 *ℤ c23) e (right _ _ (zero_out m3 c12 z) (positive_product m1 c23 p1 j)))
    by (inr (z, l)) (inr (y, k)) =
        inr (⊎_elim (λ q. absurd (not_none q)) (λ q. q) (zero_factor m2 c13 (e ∙ sum_none _ _ (zero_out m3 c12 z) (zero_out m1 c23 y))), longer l k)

-- ---- the axes span the face

module _ (h : Patch) where
  -- three of its points have an area
  abbrev pub HaveArea : ℕ × ℕ → Type 0
  HaveArea q = (a : Spot) × (b : Spot) × (c : Spot) × Contains h a × Contains h b × Contains h c × (area q a.place b.place c.place ≢ pos 0)

  not_equal : (z : ℤ) → not (int_eq z (pos 0)) ≡ true → z ≢ pos 0
  not_equal z e f = let g : not true ≡ true = ap not (sym (int_eq_to z (pos 0) f)) ∙ e in cc

  to_any : (P : Spot → Type 0) (a : Spot) → Contains h a → P a → Any P h
  to_any P a c p = (c.0, a, c.1, c.2, p)

  spans_area : (q : ℕ × ℕ) → spans h q ≡ true → HaveArea q
  spans_area q e =
      let a = Any-from_list_any (λ (a : Spot). list_any (λ (b : Spot). list_any (λ (c : Spot). not (int_eq (area q a.place b.place c.place) (pos 0))) h) h) h e in
      let b = Any-from_list_any (λ (b : Spot). list_any (λ (c : Spot). not (int_eq (area q a.1.place b.place c.place) (pos 0))) h) h a.4 in
      let c = Any-from_list_any (λ (c : Spot). not (int_eq (area q a.1.place b.1.place c.place) (pos 0))) h b.4 in
      (a.1, b.1, c.1, (a.0, a.2, a.3), (b.0, b.2, b.3), (c.0, c.2, c.3), not_equal (area q a.1.place b.1.place c.1.place) c.4)

  area_spans : (q : ℕ × ℕ) → HaveArea q → spans h q ≡ true
  area_spans q (a, b, c, ia, ib, ic, n) =
      list_any-from_Any (λ (a : Spot). list_any (λ (b : Spot). list_any (λ (c : Spot). not (int_eq (area q a.place b.place c.place) (pos 0))) h) h) h
      (to_any (λ (d : Spot). list_any (λ (b : Spot). list_any (λ (c : Spot). not (int_eq (area q d.place b.place c.place) (pos 0))) h) h ≡ true) a ia
      (list_any-from_Any (λ (b : Spot). list_any (λ (c : Spot). not (int_eq (area q a.place b.place c.place) (pos 0))) h) h
      (to_any (λ (d : Spot). list_any (λ (c : Spot). not (int_eq (area q a.place d.place c.place) (pos 0))) h ≡ true) b ib
      (list_any-from_Any (λ (c : Spot). not (int_eq (area q a.place b.place c.place) (pos 0))) h
      (to_any (λ (d : Spot). not (int_eq (area q a.place b.place d.place) (pos 0)) ≡ true) c ic (other_passes (area q a.place b.place c.place) n))))))

  first_spans : (qs : List (ℕ × ℕ)) (q : ℕ × ℕ) → Contains qs q → HaveArea q → HaveArea (first_that_spans h qs)
  first_spans [] q c r = Contains-none q c
  first_spans (p ∷ qs) q c r = by (spans h p) refl (Contains-cases q p qs c) (λ d. first_spans qs q d r)
    where
      by : (b : Bool) → spans h p ≡ b → (q ≡ p) ⊎ Contains qs q → (Contains qs q → HaveArea (first_that_spans h qs)) → HaveArea (cond b p (first_that_spans h qs))
      by true e k rest = spans_area p e
      by false e (inr d) rest = rest d
      by false e (inl i) rest = let z : true ≡ false = sym (area_spans q r) ∙ ap (spans h) i ∙ e in cc

  pub axes_span : (q : ℕ × ℕ) → Contains axis_pairs q → HaveArea q → HaveArea (axes h)
  unfolding axes
  axes_span q c r = first_spans axis_pairs q c r

-- ---- a step from the first point

compare : (y z : ℤ) → (y ≤ℤ z) ⊎ (z <ℤ y)
compare y z = by (three_signs (y -ℤ z))
  where
    by : (pos 0 <ℤ (y -ℤ z)) ⊎ ((y -ℤ z ≡ pos 0) ⊎ (pos 0 <ℤ neg_ℤ (y -ℤ z))) → (y ≤ℤ z) ⊎ (z <ℤ y)
    by (inl l) = inr (omega (arith, ints, l))
    by (inr (inl e)) = inl (omega (arith, ints, e))
    by (inr (inr l)) = inl (omega (arith, ints, l))

module _ (h : Patch) (apart : AreApart h) (small : (p : ℕ) → IsOf h p → IsSmall (place h p)) (bound : ℕ) (below : (p : ℕ) → IsOf h p → p < bound) where
  abbrev x_of : ℕ → ℤ
  x_of p = coordinate (axes h).0 (place h p)

  abbrev y_of : ℕ → ℤ
  y_of p = coordinate (axes h).1 (place h p)

  abbrev rank : ℕ → ℤ
  rank p = weigh (x_of p) (y_of p)

  decide_of : (p : ℕ) → Decided (IsOf h p)
  decide_of p = decide_listed (spot_numbers h) p

  same_rank : (p r : ℕ) → IsOf h p → IsOf h r → rank p ≡ rank r → (x_of p ≡ x_of r) × (y_of p ≡ y_of r)
  same_rank p r i j e =
      let k = coordinate_small (axes h).1 (place h p) (small p i) in
      let l = coordinate_small (axes h).1 (place h r) (small r j) in
      weigh_both (x_of p) (y_of p) (x_of r) (y_of r) k.0 k.1 l.0 l.1 e

  module _ (a : ℕ) (oa : IsOf h a) (first : (p : ℕ) → p < bound → IsOf h p → rank a ≤ℤ rank p) where
    abbrev dx : ℕ → ℤ
    dx p = x_of p -ℤ x_of a

    abbrev dy : ℕ → ℤ
    dy p = y_of p -ℤ y_of a

    abbrev further : ℕ → ℤ
    further p = weigh (dx p) (dy p)

    abbrev IsLater : ℕ → Type 0
    IsLater p = IsOf h p × (rank a <ℤ rank p)

    abbrev IsBefore : ℕ → ℕ → Type 0
    IsBefore b p = IsFirst (cross (dx b) (dy b) (dx p) (dy p)) (further b) (further p)

    further_positive : (p : ℕ) → IsLater p → pos 0 <ℤ further p
    further_positive p l = by (x_of p) (y_of p) (x_of a) (y_of a) l.1
      where
        by : (x y u v : ℤ) → weigh u v <ℤ weigh x y → pos 0 <ℤ weigh (x -ℤ u) (y -ℤ v)
        by x y u v i = omega (arith, ints, i)

    decide_later : (p : ℕ) → Decided (IsLater p)
    decide_later p = by (decide_of p) (compare (rank p) (rank a))
      where
        no : (y z : ℤ) → y ≤ℤ z → z <ℤ y → ⊥
        no y z i j = absurd (omega (arith, ints, i, j))

        by : Decided (IsOf h p) → (rank p ≤ℤ rank a) ⊎ (rank a <ℤ rank p) → Decided (IsLater p)
        by (inr n) q = inr (λ l. n l.0)
        by (inl o) (inl i) = inr (λ l. no (rank p) (rank a) i l.1)
        by (inl o) (inr i) = inl (o, i)

    before_total : (b p : ℕ) → IsLater b → IsLater p → IsBefore b p ⊎ IsBefore p b
    before_total b p i j = by (three_signs (cross (dx b) (dy b) (dx p) (dy p))) (compare (further b) (further p))
      where
        back : cross (dx p) (dy p) (dx b) (dy b) ≡ neg_ℤ (cross (dx b) (dy b) (dx p) (dy p))
        back = ring (dx b ∷ dy b ∷ dx p ∷ dy p ∷ []) (minus (times (var 2) (var 1)) (times (var 3) (var 0))) (neg (minus (times (var 0) (var 3)) (times (var 1) (var 2)))) refl

        weaker : (y z : ℤ) → y <ℤ z → y ≤ℤ z
        weaker y z l = omega (arith, ints, l)

        none : (y z : ℤ) → y ≡ neg_ℤ z → z ≡ pos 0 → y ≡ pos 0
        none y z e f = omega (arith, ints, e, f)

        over : (y z : ℤ) → y ≡ neg_ℤ z → pos 0 <ℤ neg_ℤ z → pos 0 <ℤ y
        over y z e f = omega (arith, ints, e, f)

        by : (pos 0 <ℤ cross (dx b) (dy b) (dx p) (dy p)) ⊎ ((cross (dx b) (dy b) (dx p) (dy p) ≡ pos 0) ⊎ (pos 0 <ℤ neg_ℤ (cross (dx b) (dy b) (dx p) (dy p))))
            → (further b ≤ℤ further p) ⊎ (further p <ℤ further b) → IsBefore b p ⊎ IsBefore p b
        by (inl l) q = inl (inl l)
        by (inr (inl e)) (inl l) = inl (inr (e, l))
        by (inr (inl e)) (inr l) = inr (inr (none _ _ back e, weaker (further p) (further b) l))
        by (inr (inr l)) q = inr (inl (over _ _ back l))

    before_chain : (b p r : ℕ) → IsLater b → IsLater p → IsLater r → IsBefore b p → IsBefore p r → IsBefore b r
    before_chain b p r i j k =
        first_chain (further b) (further p) (further r) (cross (dx b) (dy b) (dx p) (dy p)) (cross (dx p) (dy p) (dx r) (dy r)) (cross (dx b) (dy b) (dx r) (dy r))
        (further_positive b i) (further_positive p j) (further_positive r k) (chain_identity (dx b) (dy b) (dx p) (dy p) (dx r) (dy r))

    module _ (b : ℕ) (later : IsLater b) (least : (p : ℕ) → p < bound → IsLater p → IsBefore b p) where
      outer : (p : ℕ) → IsOf h p → turn h a b p ≢ negsuc 0
      outer p o = sign_not_right (area_of h a b p) (by (compare (rank p) (rank a)))
        where
          not_left : (c m n : ℤ) → IsFirst c m n → pos 0 ≤ℤ c
          not_left c m n (inl l) = omega (arith, ints, l)
          not_left c m n (inr (e, l)) = omega (arith, ints, e)

          flat : (x y u v : ℤ) → pos 0 ≤ℤ (x *ℤ (v -ℤ v) -ℤ y *ℤ (u -ℤ u))
          flat x y u v = zero_not_negative _ (ring (x ∷ y ∷ u ∷ v ∷ []) (minus (times (var 0) (minus (var 3) (var 3))) (times (var 1) (minus (var 2) (var 2)))) (num (pos 0)) refl)

          by : (rank p ≤ℤ rank a) ⊎ (rank a <ℤ rank p) → pos 0 ≤ℤ area_of h a b p
          by (inr l) = not_left (cross (dx b) (dy b) (dx p) (dy p)) (further b) (further p) (least p (below p o) (o, l))
          by (inl l) =
              let e = same_rank p a o oa (least_once (rank p) (rank a) l (first p (below p o) o)) in
              let P : ℤ × ℤ → Type 0 = λ k. pos 0 ≤ℤ (dx b *ℤ (k.1 -ℤ y_of a) -ℤ dy b *ℤ (k.0 -ℤ x_of a)) in
              subst P (λ i. (sym e.0 i, sym e.1 i)) (flat (dx b) (dy b) (x_of a) (y_of a))

      next : (p : ℕ) → IsOf h p → p ≢ a → p ≢ b → ¬ (IsOnSegment (place h a) (place h b) (place h p))
      next p o na nb r = by (ends r.s r.n r.range.1)
        where
          ends : (s n : ℕ) → s ≤ n → (s ≡ 0) ⊎ ((s ≡ n) ⊎ ((0 < s) × (s < n)))
          ends s n l = grind (arith, l)

          at_end : (m n k : ℤ) (u v w : Vector) → pos 0 <ℤ k → multiple k w ≡ vector_sum (multiple m u) (multiple n v) → m ≡ k → n ≡ pos 0 → w ≡ u
          at_end m n k u v w l e f g =
              let one : (x : Vector → ℤ) → k *ℤ x w ≡ m *ℤ x u +ℤ n *ℤ x v → x w ≡ x u = (λ x i. cancel (x w) (x u) k l (last k (x w) (m *ℤ x u +ℤ n *ℤ x v) (k *ℤ x u) i (ap (λ z. z *ℤ x u +ℤ n *ℤ x v) f ∙ ap (λ z. k *ℤ x u +ℤ z *ℤ x v) g ∙ rest k (x u) (x v)) ∙ product_exchanged k (x u))) in
              let e1 = one (λ v. v.x1) (ap (λ v. v.x1) e) in let e2 = one (λ v. v.x2) (ap (λ v. v.x2) e) in let e3 = one (λ v. v.x3) (ap (λ v. v.x3) e) in let e4 = one (λ v. v.x4) (ap (λ v. v.x4) e) in
              λ i. record { x1 = e1 i; x2 = e2 i; x3 = e3 i; x4 = e4 i }
            where
              rest : (c y z : ℤ) → c *ℤ y +ℤ pos 0 *ℤ z ≡ c *ℤ y
              rest c y z = omega (arith, ints)

              last : (c y z t : ℤ) → c *ℤ y ≡ z → z ≡ t → y *ℤ c ≡ t
              last c y z t i j = product_exchanged y c ∙ i ∙ j

          some : pos 0 <ℤ pos r.n
          some = let k = r.range.0 in omega (arith, ints, k)

          -- the coordinates of p from a are those of b, s times of n
          part : (k : ℕ) → pos r.n *ℤ (coordinate k (place h p) -ℤ coordinate k (place h a)) ≡ pos r.s *ℤ (coordinate k (place h b) -ℤ coordinate k (place h a))
          part k =
              let x = coordinate k (place h p) in let u = coordinate k (place h a) in let v = coordinate k (place h b) in
              ring (pos r.n ∷ x ∷ u ∷ []) (times (var 0) (minus (var 1) (var 2))) (minus (times (var 0) (var 1)) (times (var 0) (var 2))) refl
              ∙ ap (λ z. z -ℤ pos r.n *ℤ u) (coordinate_segment k (place h a) (place h b) (place h p) (pos r.n -ℤ pos r.s) (pos r.s) (pos r.n) r.mix)
              ∙ ring (pos r.n ∷ pos r.s ∷ u ∷ v ∷ [])
              (minus (plus (times (minus (var 0) (var 1)) (var 2)) (times (var 1) (var 3))) (times (var 0) (var 2)))
              (times (var 1) (minus (var 3) (var 2))) refl

          weighed : pos r.n *ℤ further p ≡ pos r.s *ℤ further b
          weighed =
              ring (pos r.n ∷ dx p ∷ dy p ∷ []) (times (var 0) (plus (times (num (pos 4096)) (var 1)) (var 2))) (plus (times (num (pos 4096)) (times (var 0) (var 1))) (times (var 0) (var 2))) refl
              ∙ (λ i. pos 4096 *ℤ part (axes h).0 i +ℤ part (axes h).1 i)
              ∙ ring (pos r.s ∷ dx b ∷ dy b ∷ []) (plus (times (num (pos 4096)) (times (var 0) (var 1))) (times (var 0) (var 2))) (times (var 0) (plus (times (num (pos 4096)) (var 1)) (var 2))) refl

          on_ray : cross (dx b) (dy b) (dx p) (dy p) ≡ pos 0
          on_ray =
              ⊎_elim (λ z. absurd (positive_some (pos r.n) some z)) (λ z. z)
              (zero_factor (pos r.n) (cross (dx b) (dy b) (dx p) (dy p)) (
              ring (pos r.n ∷ dx b ∷ dy b ∷ dx p ∷ dy p ∷ []) (times (var 0) (minus (times (var 1) (var 4)) (times (var 2) (var 3))))
              (minus (times (var 1) (times (var 0) (var 4))) (times (var 2) (times (var 0) (var 3)))) refl
              ∙ (λ i. dx b *ℤ part (axes h).1 i -ℤ dy b *ℤ part (axes h).0 i)
              ∙ ring (pos r.s ∷ dx b ∷ dy b ∷ []) (minus (times (var 1) (times (var 0) (var 2))) (times (var 2) (times (var 0) (var 1)))) (num (pos 0)) refl
              ))

          positive : (y : ℤ) → pos 0 <ℤ y → pos 0 <ℤ (y *ℤ further b)
          positive y l = positive_product y (further b) l (further_positive b later)

          nearer : 0 < r.s → r.s < r.n → ⊥
          nearer i j =
              let t : pos 0 <ℤ pos r.s = omega (arith, ints, i) in
              let p1 : pos 0 <ℤ further p = positive_factor (further p) (pos r.n) some (let P : ℤ → Type 0 = λ z. pos 0 <ℤ z in subst P (sym weighed ∙ product_exchanged (pos r.n) (further p)) (positive (pos r.s) t)) in
              let g : pos 0 <ℤ (pos r.n -ℤ pos r.s) = omega (arith, ints, j) in
              let q1 : pos 0 <ℤ (further b -ℤ further p) =
              positive_factor (further b -ℤ further p) (pos r.n) some (let P : ℤ → Type 0 = λ z. pos 0 <ℤ z in subst P
              (ring (pos r.n ∷ pos r.s ∷ further b ∷ []) (times (minus (var 0) (var 1)) (var 2)) (minus (times (var 0) (var 2)) (times (var 1) (var 2))) refl
              ∙ (λ k. pos r.n *ℤ further b -ℤ sym weighed k)
              ∙ ring (pos r.n ∷ further b ∷ further p ∷ []) (minus (times (var 0) (var 1)) (times (var 0) (var 2))) (times (minus (var 1) (var 2)) (var 0)) refl) (positive (pos r.n -ℤ pos r.s) g)) in
              clash (least p (below p o) (o, later_from (x_of p) (y_of p) (x_of a) (y_of a) p1)) q1
            where
              later_from : (x y u v : ℤ) → pos 0 <ℤ weigh (x -ℤ u) (y -ℤ v) → weigh u v <ℤ weigh x y
              later_from x y u v l = omega (arith, ints, l)

              number : (c m n : ℤ) → c ≡ pos 0 → pos 0 <ℤ (m -ℤ n) → IsFirst c m n → ⊥
              number c m n z l (inl k) = absurd (omega (arith, ints, z, k))
              number c m n z l (inr (e, k)) = absurd (omega (arith, ints, l, k))

              clash : IsBefore b p → pos 0 <ℤ (further b -ℤ further p) → ⊥
              clash k l = number (cross (dx b) (dy b) (dx p) (dy p)) (further b) (further p) on_ray l k

          by : (r.s ≡ 0) ⊎ ((r.s ≡ r.n) ⊎ ((0 < r.s) × (r.s < r.n))) → ⊥
          by (inl e) = na (apart p a o oa (at_end (pos r.n -ℤ pos r.s) (pos r.s) (pos r.n) (place h a) (place h b) (place h p) some r.mix (zero_off (pos r.n) (pos r.s) (ap pos e)) (ap pos e)))
            where
              zero_off : (y z : ℤ) → z ≡ pos 0 → y -ℤ z ≡ y
              zero_off y z f = omega (arith, ints, f)
          by (inr (inl e)) =
              nb (apart p b o later.0 (at_end (pos r.s) (pos r.n -ℤ pos r.s) (pos r.n) (place h b) (place h a) (place h p) some
              (r.mix ∙ vector_swap (multiple (pos r.n -ℤ pos r.s) (place h a)) (multiple (pos r.s) (place h b))) (ap pos e) (none (pos r.n) (pos r.s) (ap pos e))))
            where
              none : (y z : ℤ) → z ≡ y → y -ℤ z ≡ pos 0
              none y z f = omega (arith, ints, f)
          by (inr (inr l)) = nearer l.0 l.1

      step : IsStep h a b
      step = record { points = (oa, later.0, (λ e. no (rank a) (rank b) later.1 (ap (λ k. rank k) e))); outer = outer; next = next }
        where
          no : (y z : ℤ) → y <ℤ z → y ≡ z → ⊥
          no y z l e = absurd (omega (arith, ints, l, e))

    -- of three points with an area, one is later
    some_later : (p q r : ℕ) → IsOf h p → IsOf h q → IsOf h r → area_of h p q r ≢ pos 0 → (k : ℕ) × IsLater k
    some_later p q r op oq or n = by (decide_later p) (decide_later q) (decide_later r)
      where
        equal : (y z : ℤ) → y ≤ℤ z → (y <ℤ z → ⊥) → z ≡ y
        equal y z l m = ⊎_elim (λ i. (let j = l in omega (arith, ints, i, j))) (λ i. absurd (m i)) (compare z y)

        same : (k : ℕ) → IsOf h k → ¬ (IsLater k) → (x_of k ≡ x_of a) × (y_of k ≡ y_of a)
        same k o m = same_rank k a o oa (equal (rank a) (rank k) (first k (below k o) o) (λ l. m (o, l)))

        by : Decided (IsLater p) → Decided (IsLater q) → Decided (IsLater r) → (k : ℕ) × IsLater k
        by (inl l) s t = (p, l)
        by (inr m) (inl l) t = (q, l)
        by (inr m) (inr i) (inl l) = (r, l)
        by (inr m) (inr i) (inr j) =
            let ep = same p op m in let eq = same q oq i in let er = same r or j in
            absurd (n ((λ k. (eq.0 k -ℤ ep.0 k) *ℤ (er.1 k -ℤ ep.1 k) -ℤ (eq.1 k -ℤ ep.1 k) *ℤ (er.0 k -ℤ ep.0 k))
            ∙ ring (x_of a ∷ y_of a ∷ []) (minus (times (minus (var 0) (var 0)) (minus (var 1) (var 1))) (times (minus (var 1) (var 1)) (minus (var 0) (var 0)))) (num (pos 0)) refl))

    step_from : (p q r : ℕ) → IsOf h p → IsOf h q → IsOf h r → area_of h p q r ≢ pos 0 → (b : ℕ) × IsStep h a b
    step_from p q r op oq or n =
        let k = some_later p q r op oq or n in
        let b = least_with IsLater IsBefore decide_later before_total before_chain bound k.0 (below k.0 k.1.0) k.1 in
        (b.0, step b.0 b.1 b.2)

  pub step_exists : (p q r : ℕ) → IsOf h p → IsOf h q → IsOf h r → area_of h p q r ≢ pos 0 → (a : ℕ) × (b : ℕ) × IsStep h a b
  step_exists p q r op oq or n =
      let a = least_with (IsOf h) (λ i j. rank i ≤ℤ rank j) decide_of total chain bound p (below p op) op in
      let b = step_from a.0 a.1 a.2 p q r op oq or n in
      (a.0, b.0, b.1)
    where
      total : (i j : ℕ) → IsOf h i → IsOf h j → (rank i ≤ℤ rank j) ⊎ (rank j ≤ℤ rank i)
      total i j k l = less_or_least (rank i) (rank j)

      longer : (x y z : ℤ) → x ≤ℤ y → y ≤ℤ z → x ≤ℤ z
      longer x y z l m = omega (arith, ints, l, m)

      chain : (i j k : ℕ) → IsOf h i → IsOf h j → IsOf h k → rank i ≤ℤ rank j → rank j ≤ℤ rank k → rank i ≤ℤ rank k
      chain i j k l m n u v = longer (rank i) (rank j) (rank k) u v

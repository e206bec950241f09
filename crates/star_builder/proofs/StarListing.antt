-- A star exists for any heights and any order of pushing: whether four points are a member is decided, so its listing is a filter.
use Rattle.std.proofs.Common.{◌≡◌, ◌≢◌, ℕ, zero, suc, ◌+◌, ◌<◌, ◌≤◌, ◌⊎◌, inl, inr, ⊎_elim, Bool, true, false, refl, sym, ap, ◌∙◌, subst, arith, ℤ, pos, negsuc, List, [], ◌∷◌, length, get_or}
use Rattle.std.specs.Prelude.{Contains, filter, flat_map}
use Rattle.std.specs.List.{range_with_len}
use Rattle.std.specs.Ordering.{nat_cmp, ordering_then}
use Rattle.std.specs.declared.cmp.Ordering.TheVariants.{Less, Equal}
use Rattle.std.specs.Cmp.{nat_cmp_is}
use Rattle.std.specs.Cmp.Lexicographic.{slice_cmp}
use Rattle.std.proofs.lemmas.List.Sorted.{IsPermutation-refl, IsPermutation-reverse}
use Rattle.ntfe_nums.specs.Vectors.{Vector, det4, dot, AreLinearlyIndependent}
use Rattle.ntfe_model.specs.Lists.{IsListing, IsBelow, IsNumberOf}
use Rattle.ntfe_model.specs.Pairs.{entry}
use Rattle.ntfe_model.specs.Reflexive.{IsTight}
use Rattle.ntfe_model.specs.Points.{place_of_point}
use Rattle.ntfe_model.specs.Stars.{IsLexAbove, IsMember, IsStar, IsOrder, order_of}
use Rattle.ntfe_model.specs.declared.point.Point.{Point}
use Rattle.ntfe_model.specs.declared.nogood.Push.{Push}
use Rattle.ntfe_model.specs.declared.nogood.Push.TheVariants.{Up, Down}
use Rattle.ntfe_model.proofs.Listings.{Contains-here, listing_filter, listing_groups, listing_range}
use Rattle.ntfe_model.proofs.Triples.{Decided, decide_number, decide_both, decide_all3, decide_not, decide_integer}
use Rattle.star_builder.proofs.Decisions.{decide_less, decide_at_most, decide_all_below, decide_some_below, decide_given, decide_both4}
use Rattle.star_builder.proofs.FourPoints.{in_four}
use Rattle.star_builder.proofs.LowSimplices.{none_of_four, has_first, has_second, has_third, has_fourth}
use Rattle.star_builder.proofs.WholeHeights.{decide_lex}

-- ---- whether four points are a member

module _ (ms : List Vector) (xs : List Point) (w : List ℤ) (order : List ℕ) where
  abbrev spot : ℕ → Vector
  spot = place_of_point xs

  decide_tight : (m : Vector) (k : ℕ) → Decided (IsTight m (spot k))
  decide_tight m k = decide_integer (dot m (spot k)) (negsuc 0)

  decide_number_of : {X : Type 0} (ys : List X) (k : ℕ) → Decided (IsNumberOf ys k)
  decide_number_of ys k = decide_both (decide_at_most 1 k) (decide_at_most k (length ys))

  module _ (a b c d : ℕ) where
    abbrev IsOther : ℕ → Type 0
    IsOther p = (p ≢ a) × (p ≢ b) × (p ≢ c) × (p ≢ d)

    -- the facet with this number has the four, and every other point of it is above them
    abbrev IsFacetOf : ℕ → Type 0
    IsFacetOf m =
        IsNumberOf ms m × (IsTight (entry ms m) (spot a) × IsTight (entry ms m) (spot b) × IsTight (entry ms m) (spot c) × IsTight (entry ms m) (spot d))
        × ((p : ℕ) → p < suc (length xs) → IsNumberOf xs p → IsOther p → IsTight (entry ms m) (spot p) → IsLexAbove xs w order a b c d p)

    abbrev AreMembers : Type 0
    AreMembers =
        (IsNumberOf xs a × IsNumberOf xs d) × ((a < b) × (b < c) × (c < d)) × AreLinearlyIndependent (spot a) (spot b) (spot c) (spot d)
        × ((m : ℕ) × (m < suc (length ms)) × IsFacetOf m)

    decide_facet : AreLinearlyIndependent (spot a) (spot b) (spot c) (spot d) → (m : ℕ) → Decided (IsFacetOf m)
    decide_facet independent m =
        decide_all3 (decide_number_of ms m)
        (decide_both4 (decide_tight (entry ms m) a) (decide_tight (entry ms m) b) (decide_tight (entry ms m) c) (decide_tight (entry ms m) d))
        (decide_all_below (λ p. IsNumberOf xs p → IsOther p → IsTight (entry ms m) (spot p) → IsLexAbove xs w order a b c d p)
        (λ p. decide_given (decide_number_of xs p)
        (decide_given (decide_both4 (decide_not (decide_number p a)) (decide_not (decide_number p b)) (decide_not (decide_number p c)) (decide_not (decide_number p d)))
        (decide_given (decide_tight (entry ms m) p) (decide_lex w order xs a b c d p independent)))) (suc (length xs)))

    decide_members : Decided AreMembers
    decide_members =
        by (decide_both (decide_number_of xs a) (decide_number_of xs d)) (decide_all3 (decide_less a b) (decide_less b c) (decide_less c d)) (decide_integer (det4 (spot a) (spot b) (spot c) (spot d)) (pos 0))
      where
        by : Decided (IsNumberOf xs a × IsNumberOf xs d) → Decided ((a < b) × (b < c) × (c < d)) → Decided (det4 (spot a) (spot b) (spot c) (spot d) ≡ pos 0) → Decided AreMembers
        by (inr n) q r = inr (λ m. n m.0)
        by (inl o) (inr n) r = inr (λ m. n m.1)
        by (inl o) (inl u) (inl e) = inr (λ m. m.2 e)
        by (inl o) (inl u) (inr i) = ⊎_elim (λ f. inl (o, u, i, f)) (λ n. inr (λ m. n m.3)) (decide_some_below IsFacetOf (decide_facet i) (suc (length ms)))

    to_member : AreMembers → IsMember ms xs w order (a ∷ b ∷ c ∷ d ∷ [])
    to_member (o, u, i, (m, l, f)) = record {
      a = a;
      b = b;
      c = c;
      d = d;
      is = refl;
      ordered = (o.0, u.0, u.1, u.2, o.1);
      facet = m;
      number = f.0;
      tight = λ k h. tight k (in_four a b c d k h);
      independent = i;
      others = λ p n out t. f.2 p (let k = n.1 in omega (arith, k)) n (none_of_four a b c d p out) t;
    }
      where
        tight : (k : ℕ) → (k ≡ a) ⊎ ((k ≡ b) ⊎ ((k ≡ c) ⊎ (k ≡ d))) → IsTight (entry ms m) (spot k)
        tight k (inl e) = ap (λ j. dot (entry ms m) (spot j)) e ∙ f.1.0
        tight k (inr (inl e)) = ap (λ j. dot (entry ms m) (spot j)) e ∙ f.1.1
        tight k (inr (inr (inl e))) = ap (λ j. dot (entry ms m) (spot j)) e ∙ f.1.2
        tight k (inr (inr (inr e))) = ap (λ j. dot (entry ms m) (spot j)) e ∙ f.1.3

  from_member : (v : List ℕ) (r : IsMember ms xs w order v) → AreMembers r.a r.b r.c r.d
  from_member v r = (
    (r.ordered.0, r.ordered.4),
    (r.ordered.1, r.ordered.2, r.ordered.3),
    r.independent,
    (
      r.facet,
      (let l = r.number.1 in omega (arith, l)),
      (
        r.number,
        (tight r.a (has_first r.a r.b r.c r.d), tight r.b (has_second r.a r.b r.c r.d), tight r.c (has_third r.a r.b r.c r.d), tight r.d (has_fourth r.a r.b r.c r.d)),
        (λ p l n o t. r.others p n (λ h. other p o (in_four r.a r.b r.c r.d p (subst (λ (ks : List ℕ). Contains ks p) r.is h))) t),
      ),
    ),
  )
    where
      tight : (k : ℕ) → Contains (r.a ∷ r.b ∷ r.c ∷ r.d ∷ []) k → IsTight (entry ms r.facet) (spot k)
      tight k h = r.tight k (subst (λ (ks : List ℕ). Contains ks k) (sym r.is) h)

      other : (p : ℕ) → IsOther r.a r.b r.c r.d p → (p ≡ r.a) ⊎ ((p ≡ r.b) ⊎ ((p ≡ r.c) ⊎ (p ≡ r.d))) → ⊥
      other p o (inl e) = o.0 e
      other p o (inr (inl e)) = o.1 e
      other p o (inr (inr (inl e))) = o.2 e
      other p o (inr (inr (inr e))) = o.3 e

  -- a member has four points
  four_long : (v : List ℕ) → IsMember ms xs w order v → length v ≡ 4
  four_long v r = ap length r.is

  decide_member : (v : List ℕ) → Decided (IsMember ms xs w order v)
  decide_member [] = inr (λ r. (let e = four_long [] r in absurd (omega (arith, e))))
  decide_member (a ∷ []) = inr (λ r. (let e = four_long (a ∷ []) r in absurd (omega (arith, e))))
  decide_member (a ∷ b ∷ []) = inr (λ r. (let e = four_long (a ∷ b ∷ []) r in absurd (omega (arith, e))))
  decide_member (a ∷ b ∷ c ∷ []) = inr (λ r. (let e = four_long (a ∷ b ∷ c ∷ []) r in absurd (omega (arith, e))))
  decide_member (a ∷ b ∷ c ∷ d ∷ []) = ⊎_elim (λ m. inl (to_member a b c d m)) (λ n. inr (λ r. n (moved r))) (decide_members a b c d)
    where
      moved : IsMember ms xs w order (a ∷ b ∷ c ∷ d ∷ []) → AreMembers a b c d
      moved r =
          subst (λ (t : ℕ × ℕ × ℕ × ℕ). AreMembers t.0 t.1 t.2 t.3)
          (λ i. (sym (ap (λ v. get_or v 0 0) r.is) i, sym (ap (λ v. get_or v 1 0) r.is) i, sym (ap (λ v. get_or v 2 0) r.is) i, sym (ap (λ v. get_or v 3 0) r.is) i))
          (from_member (a ∷ b ∷ c ∷ d ∷ []) r)
  decide_member (a ∷ b ∷ c ∷ d ∷ e ∷ v) = inr (λ r. (let l = four_long (a ∷ b ∷ c ∷ d ∷ e ∷ v) r in absurd (omega (arith, l))))

-- ---- all lists of numbers of one length, in order

abbrev IsInRange : ℕ → ℕ → List ℕ → Type 0
IsInRange n zero v = v ≡ []
IsInRange n (suc k) v = (a : ℕ) × ((1 ≤ a) × (a < 1 + n)) × ((r : List ℕ) × IsInRange n k r × (v ≡ a ∷ r))

abbrev in_range : ℕ → ℕ → List (List ℕ)
in_range n zero = [] ∷ []
in_range n (suc k) = flat_map (λ a. flat_map (λ r. (a ∷ r) ∷ []) (in_range n k)) (range_with_len 1 n)

one_listed : (v : List ℕ) → IsListing IsBelow (λ y. y ≡ v) (v ∷ [])
one_listed v = record {
  ordered = λ i j d h k. absurd (omega arith);
  sound = λ i d l. only i d l;
  complete = λ y e. Contains-here y v [] e;
}
  where
    only : (i : ℕ) (d : List ℕ) → i < 1 → get_or (v ∷ []) i d ≡ v
    only zero d l = refl
    only (suc i) d l = absurd (omega (arith, l))

less_first : (a b : ℕ) (v w : List ℕ) → a < b → IsBelow (a ∷ v) (b ∷ w)
less_first a b v w l = ap (λ o. ordering_then o (slice_cmp nat_cmp v w)) (sym (nat_cmp_is a b Less l))

same_first : (a : ℕ) (v w : List ℕ) → IsBelow v w → IsBelow (a ∷ v) (a ∷ w)
same_first a v w l = ap (λ o. ordering_then o (slice_cmp nat_cmp v w)) (sym (nat_cmp_is a a Equal refl)) ∙ l

listing_in_range : (n k : ℕ) → IsListing IsBelow (IsInRange n k) (in_range n k)
listing_in_range n zero = one_listed []
listing_in_range n (suc k) =
    listing_groups (λ i j. i < j) IsBelow (λ a. (1 ≤ a) × (a < 1 + n)) (λ a v. (r : List ℕ) × IsInRange n k r × (v ≡ a ∷ r)) (λ a. flat_map (λ r. (a ∷ r) ∷ []) (in_range n k)) (range_with_len 1 n)
    (listing_range 1 n)
    (λ a d. listing_groups IsBelow IsBelow (IsInRange n k) (λ r v. v ≡ a ∷ r) (λ r. (a ∷ r) ∷ []) (in_range n k) (listing_in_range n k) (λ r i. one_listed (a ∷ r))
    (λ r t v u i j l e f. moved (a ∷ r) (a ∷ t) v u e f (same_first a r t l)))
    (λ a b v u i j l p q. moved (a ∷ p.0) (b ∷ q.0) v u p.2 q.2 (less_first a b p.0 q.0 l))
  where
    moved : (x y v u : List ℕ) → v ≡ x → u ≡ y → IsBelow x y → IsBelow v u
    moved x y v u e f l = (λ i. slice_cmp nat_cmp (e i) (f i)) ∙ l

-- ---- the star

module _ (ms : List Vector) (xs : List Point) (w : List ℤ) (order : List ℕ) where
  is_member : List ℕ → Bool
  is_member v = ⊎_elim (λ i. true) (λ n. false) (decide_member ms xs w order v)

  yields : (v : List ℕ) → is_member v ≡ true → IsMember ms xs w order v
  unfolding is_member
  yields v e = by (decide_member ms xs w order v) e
    where
      by : (d : Decided (IsMember ms xs w order v)) → ⊎_elim (λ i. true) (λ n. false) d ≡ true → IsMember ms xs w order v
      by (inl r) f = r
      by (inr n) f = let z : false ≡ true = f in cc

  passes : (v : List ℕ) → IsMember ms xs w order v → is_member v ≡ true
  unfolding is_member
  passes v r = by (decide_member ms xs w order v)
    where
      by : (d : Decided (IsMember ms xs w order v)) → ⊎_elim (λ i. true) (λ n. false) d ≡ true
      by (inl k) = refl
      by (inr n) = absurd (n r)

  ranged : (v : List ℕ) → IsMember ms xs w order v → IsInRange (length xs) 4 v
  ranged v r =
      let o = r.ordered in
      let l0 = o.0.0 in let l1 = o.1 in let l2 = o.2 in let l3 = o.3 in let l4 = o.4.1 in (
        r.a,
        (l0, omega (arith, l1, l2, l3, l4)),
        (
          r.b ∷ r.c ∷ r.d ∷ [],
          (
            r.b,
            (omega (arith, l0, l1), omega (arith, l2, l3, l4)),
            (
              r.c ∷ r.d ∷ [],
              (
                r.c,
                (omega (arith, l0, l1, l2), omega (arith, l3, l4)),
                (r.d ∷ [], (r.d, (omega (arith, l0, l1, l2, l3), omega (arith, l4)), ([], refl, refl)), refl),
              ),
              refl,
            ),
          ),
          r.is,
        ),
      )

  pub star_exists : (star : List (List ℕ)) × IsStar ms xs w order star
  star_exists =
      (filter is_member (in_range (length xs) 4), listing_filter IsBelow (IsInRange (length xs) 4) (IsMember ms xs w order) is_member (in_range (length xs) 4) (listing_in_range (length xs) 4) (λ v d e. yields v e) ranged passes)

-- both ways of pushing are orders of all points
pub push_order : (push : Push) (n : ℕ) → IsOrder n (order_of push n)
push_order Up n = IsPermutation-refl (range_with_len 1 n)
push_order Down n = IsPermutation-reverse (range_with_len 1 n)

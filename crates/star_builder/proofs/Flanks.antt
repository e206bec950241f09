-- Four vertices with all vertices on one side: a dual vertex is tight on them, in whatever order they come.
--     numbers_of vs      the numbers of the vertices
--     facet_through      the dual vertex
use Rattle.std.proofs.Common.{◌≡◌, ◌≢◌, ℕ, zero, suc, ◌+◌, ◌<◌, ◌≤◌, ◌⊎◌, inl, inr, sym, ap, ◌∙◌, subst, arith, ℤ, pos, ◌≤ℤ◌, neg_ℤ, List, length}
use Rattle.std.specs.Prelude.{Contains, All}
use Rattle.std.specs.List.{range_with_len}
use Rattle.std.proofs.lemmas.Int.{ints}
use Rattle.std.proofs.lemmas.List.{get_or_default}
use Rattle.std.proofs.lemmas.List.Elements.{All-contains}
use Rattle.ntfe_nums.specs.Vectors.{Vector, origin, dot, difference, normal, side_of}
use Rattle.ntfe_nums.proofs.DetLemmas.{side-normal}
use Rattle.ntfe_model.specs.Pairs.{VertexLists}
use Rattle.ntfe_model.specs.Reflexive.{IsTight, IsReflexive, IsOnOneSide, at}
use Rattle.ntfe_model.proofs.Listings.{All-from_contains, listing_range}
use Rattle.star_builder.proofs.Rises.{rise, rise_swap_first, rise_swap_middle, rise_swap_last}
use Rattle.star_builder.proofs.LowSimplices.{turned_not_zero}
use Rattle.star_builder.proofs.Sides.{side_rise}
use Rattle.star_builder.proofs.Sorting.{by_size}
use Rattle.star_builder.proofs.Spanning.{spot, weight_of}

abbrev pub numbers_of : List Vector → List ℕ
numbers_of vs = range_with_len 1 (length vs)

pub has_number : (vs : List Vector) (i : ℕ) → i < length vs → Contains (numbers_of vs) (suc i)
has_number vs i l = (listing_range 1 (length vs)).complete (suc i) (omega arith, omega (arith, l))

pub number_within : (vs : List Vector) (k : ℕ) → Contains (numbers_of vs) k → (1 ≤ k) × (k < 1 + length vs)
number_within vs k c = All-contains (λ i. (1 ≤ i) × (i < 1 + length vs)) (numbers_of vs) k (listing_range 1 (length vs)).sound c

-- what holds at each place holds of each entry
pub each_entry : (P : Vector → Type 0) (vs : List Vector) → ((i : ℕ) → i < length vs → P (at vs i)) → All P vs
each_entry P vs h = All-from_contains P vs (λ x c. subst P (get_or_default vs c.0 origin x c.1 ∙ c.2) (h c.0 c.1))

module _ (p : VertexLists) (r : IsReflexive p) (x : Vector) (k : ℤ) where
  abbrev places : ℕ → Vector
  places = spot x p.vertices

  abbrev weights : ℕ → ℤ
  weights = weight_of k

  abbrev side : ℕ → ℕ → ℕ → ℕ → ℕ → ℤ
  side = rise places weights

  -- all vertices lie on one side of the four, and not all level with them
  pub record IsFlank (a b c d : ℕ) : Type 0 where
    pub numbers : Contains (numbers_of p.vertices) a × Contains (numbers_of p.vertices) b × Contains (numbers_of p.vertices) c × Contains (numbers_of p.vertices) d
    pub z : ℕ
    pub within : Contains (numbers_of p.vertices) z
    pub apart : side a b c d z ≢ pos 0
    pub one_side : ((i : ℕ) → Contains (numbers_of p.vertices) i → side a b c d i ≤ℤ pos 0) ⊎ ((i : ℕ) → Contains (numbers_of p.vertices) i → pos 0 ≤ℤ side a b c d i)

  abbrev AreTight : ℕ → ℕ → ℕ → ℕ → Type 0
  AreTight a b c d = (f : Vector) × Contains p.dual f × IsTight f (places a) × IsTight f (places b) × IsTight f (places c) × IsTight f (places d)

  turned_sides : (a b c d a' b' c' d' : ℕ) → ((i : ℕ) → side a' b' c' d' i ≡ neg_ℤ (side a b c d i))
      → ((i : ℕ) → Contains (numbers_of p.vertices) i → side a b c d i ≤ℤ pos 0) ⊎ ((i : ℕ) → Contains (numbers_of p.vertices) i → pos 0 ≤ℤ side a b c d i)
      → ((i : ℕ) → Contains (numbers_of p.vertices) i → side a' b' c' d' i ≤ℤ pos 0) ⊎ ((i : ℕ) → Contains (numbers_of p.vertices) i → pos 0 ≤ℤ side a' b' c' d' i)
  turned_sides a b c d a' b' c' d' e (inl h) = inr (λ i q. up (side a b c d i) (side a' b' c' d' i) (e i) (h i q))
    where
      up : (y z : ℤ) → z ≡ neg_ℤ y → y ≤ℤ pos 0 → pos 0 ≤ℤ z
      up y z q l = omega (arith, ints, q, l)
  turned_sides a b c d a' b' c' d' e (inr h) = inl (λ i q. down (side a b c d i) (side a' b' c' d' i) (e i) (h i q))
    where
      down : (y z : ℤ) → z ≡ neg_ℤ y → pos 0 ≤ℤ y → z ≤ℤ pos 0
      down y z q l = omega (arith, ints, q, l)

  -- the same four in another order
  abbrev Flanks : (ℕ × ℕ × ℕ × ℕ) → ℕ → ℕ → ℕ → ℕ → Type 0
  Flanks q a b c d = IsFlank a b c d × (AreTight a b c d → AreTight q.0 q.1 q.2 q.3)

  module _ (q : ℕ × ℕ × ℕ × ℕ) where
    flank_first : (a b c d : ℕ) → Flanks q a b c d → Flanks q b a c d
    flank_first a b c d h = (
      record {
        numbers = (h.0.numbers.1, h.0.numbers.0, h.0.numbers.2, h.0.numbers.3);
        z = h.0.z;
        within = h.0.within;
        apart = turned_not_zero (side a b c d h.0.z) (side b a c d h.0.z) (rise_swap_first places weights a b c d h.0.z) h.0.apart;
        one_side = turned_sides a b c d b a c d (rise_swap_first places weights a b c d) h.0.one_side;
      },
      λ t. h.1 (t.0, t.1, t.3, t.2, t.4, t.5),
    )

    flank_middle : (a b c d : ℕ) → Flanks q a b c d → Flanks q a c b d
    flank_middle a b c d h = (
      record {
        numbers = (h.0.numbers.0, h.0.numbers.2, h.0.numbers.1, h.0.numbers.3);
        z = h.0.z;
        within = h.0.within;
        apart = turned_not_zero (side a b c d h.0.z) (side a c b d h.0.z) (rise_swap_middle places weights a b c d h.0.z) h.0.apart;
        one_side = turned_sides a b c d a c b d (rise_swap_middle places weights a b c d) h.0.one_side;
      },
      λ t. h.1 (t.0, t.1, t.2, t.4, t.3, t.5),
    )

    flank_last : (a b c d : ℕ) → Flanks q a b c d → Flanks q a b d c
    flank_last a b c d h = (
      record {
        numbers = (h.0.numbers.0, h.0.numbers.1, h.0.numbers.3, h.0.numbers.2);
        z = h.0.z;
        within = h.0.within;
        apart = turned_not_zero (side a b c d h.0.z) (side a b d c h.0.z) (rise_swap_last places weights a b c d h.0.z) h.0.apart;
        one_side = turned_sides a b c d a b d c (rise_swap_last places weights a b c d) h.0.one_side;
      },
      λ t. h.1 (t.0, t.1, t.2, t.3, t.5, t.4),
    )

    flank_apart : (a b c d : ℕ) → Flanks q a b c d → c ≢ d
    flank_apart a b c d h e = h.0.apart (by (side a b c d h.0.z) (side a b d c h.0.z) (rise_swap_last places weights a b c d h.0.z) (λ i. side a b (e i) (sym e i) h.0.z))
      where
        by : (y z : ℤ) → z ≡ neg_ℤ y → y ≡ z → y ≡ pos 0
        by y z f g = omega (arith, ints, f, g)

  -- four places that rise
  at_places : (i j l n : ℕ) → i < j → j < l → l < n → IsFlank (suc i) (suc j) (suc l) (suc n) → AreTight (suc i) (suc j) (suc l) (suc n)
  at_places i j l n ij jl ln h = r.closed i j l n (ij, jl, ln, below n h.numbers.3) independent (sides h.one_side)
    where
      below : (n : ℕ) → Contains (numbers_of p.vertices) (suc n) → n < length p.vertices
      below n c = (let w = number_within p.vertices (suc n) c in omega (arith, w.1))

      independent : normal (at p.vertices i) (at p.vertices j) (at p.vertices l) (at p.vertices n) ≢ origin
      independent e = by h.z h.within h.apart
        where
          by : (z : ℕ) → Contains (numbers_of p.vertices) z → rise (spot x p.vertices) (weight_of k) (suc i) (suc j) (suc l) (suc n) z ≢ pos 0 → ⊥
          by zero c a = absurd (let w = number_within p.vertices zero c in omega (arith, w.0))
          by (suc z) c a =
              a (sym (side_rise (at p.vertices i) (at p.vertices j) (at p.vertices l) (at p.vertices n) (at p.vertices z))
              ∙ side-normal (at p.vertices i) (at p.vertices j) (at p.vertices l) (at p.vertices n) (at p.vertices z)
              ∙ ap (λ v. dot v (difference (at p.vertices z) (at p.vertices i))) e ∙ nothing (difference (at p.vertices z) (at p.vertices i)))
            where
              nothing : (v : Vector) → dot origin v ≡ pos 0
              nothing v = omega (arith, ints)

      sides : ((z : ℕ) → Contains (numbers_of p.vertices) z → rise (spot x p.vertices) (weight_of k) (suc i) (suc j) (suc l) (suc n) z ≤ℤ pos 0)
          ⊎ ((z : ℕ) → Contains (numbers_of p.vertices) z → pos 0 ≤ℤ rise (spot x p.vertices) (weight_of k) (suc i) (suc j) (suc l) (suc n) z)
          → IsOnOneSide (at p.vertices i) (at p.vertices j) (at p.vertices l) (at p.vertices n) p.vertices
      sides (inl s) =
          inl (each_entry (λ v. side_of (at p.vertices i) (at p.vertices j) (at p.vertices l) (at p.vertices n) v ≤ℤ pos 0) p.vertices
          (λ z w. subst (λ y. y ≤ℤ pos 0) (sym (side_rise (at p.vertices i) (at p.vertices j) (at p.vertices l) (at p.vertices n) (at p.vertices z))) (s (suc z) (has_number p.vertices z w))))
      sides (inr s) =
          inr (each_entry (λ v. pos 0 ≤ℤ side_of (at p.vertices i) (at p.vertices j) (at p.vertices l) (at p.vertices n) v) p.vertices
          (λ z w. subst (λ y. pos 0 ≤ℤ y) (sym (side_rise (at p.vertices i) (at p.vertices j) (at p.vertices l) (at p.vertices n) (at p.vertices z))) (s (suc z) (has_number p.vertices z w))))

  rising : (a b c d : ℕ) → a < b → b < c → c < d → IsFlank a b c d → AreTight a b c d
  rising zero b c d ab bc cd h = absurd (let w = number_within p.vertices zero h.numbers.0 in omega (arith, w.0))
  rising (suc i) zero c d ab bc cd h = absurd (omega (arith, ab))
  rising (suc i) (suc j) zero d ab bc cd h = absurd (omega (arith, bc))
  rising (suc i) (suc j) (suc l) zero ab bc cd h = absurd (omega (arith, cd))
  rising (suc i) (suc j) (suc l) (suc n) ab bc cd h = at_places i j l n (omega (arith, ab)) (omega (arith, bc)) (omega (arith, cd)) h

  pub facet_through : (a b c d : ℕ) → IsFlank a b c d → (f : Vector) × Contains p.dual f × IsTight f (places a) × IsTight f (places b) × IsTight f (places c) × IsTight f (places d)
  facet_through a b c d h =
      let q : ℕ × ℕ × ℕ × ℕ = (a, b, c, d) in
      let s = by_size (Flanks q) (flank_first q) (flank_middle q) (flank_last q) (flank_apart q) a b c d (h, λ t. t) in
      s.7.1 (rising s.0 s.1 s.2 s.3 s.4 s.5 s.6 s.7.0)

-- Every fine triangulation of a two-face is an item: those with lesser words are finitely many, and stand in a list.
--     all_from      all words that lead on from where some triples stand
--     steps_all      all triangulations, where the boundary steps are known
--     item_exists      the number of a triangulation
use Rattle.std.proofs.Common.{◌≡◌, ℕ, zero, suc, ◌+◌, ◌*◌, ◌<◌, ◌⊎◌, inl, inr, ⊎_elim, Bool, true, refl, sym, ap, subst, arith, List, [], ◌∷◌, ◌++◌, map, length, length-append}
use Rattle.std.specs.Prelude.{Contains, AllPairs, filter, flat_map}
use Rattle.std.specs.Ordering.{nat_cmp, is_lt}
use Rattle.std.specs.declared.cmp.Ordering.{Ordering}
use Rattle.std.specs.declared.cmp.Ordering.TheVariants.{Less, Equal, Greater}
use Rattle.std.specs.Cmp.Lexicographic.{slice_cmp}
use Rattle.std.proofs.lemmas.List.Elements.{All-contains, All-nil}
use Rattle.std.proofs.lemmas.List.Kept.{AllPairs-cons}
use Rattle.ntfe_model.proofs.Lists.{listing_map}
use Rattle.ntfe_model.specs.Lists.{IsListing, IsBelow}
use Rattle.ntfe_model.specs.Charts.{Patch, spot_numbers, IsOf, IsUnit, IsStep, AreSteps, AreApart}
use Rattle.ntfe_model.specs.Words.{written, IsTriangulation, IsItem}
use Rattle.ntfe_model.specs.declared.triangle.Triangle.{Triangle}
use Rattle.ntfe_model.specs.declared.triangulation.Triangulation.{Triangulation}
use Rattle.ntfe_model.proofs.Listings.{Contains-here, Contains-there, Contains-cases, Contains-none, AllPairs-head, AllPairs-tail, All-from_contains, listing_nil, listing_same, listing_filter, listing_groups}
use Rattle.ntfe_model.proofs.Orders.{WordBelow}
use Rattle.ntfe_model.proofs.Triples.{Decided, decide_listed}
use Rattle.fine_stream.specs.Paths.{AreOf, IsPart, Completes}
use Rattle.fine_stream.proofs.Bound.{part_bound}
use Rattle.fine_stream.proofs.Parts.{part_left}
use Rattle.fine_stream.proofs.Searches.{closed, closed_of, completes_fits, completes_more, completes_rest, first_empty, fits_unit, head_below, same_below, written_of}
use Rattle.fine_stream.proofs.Waiting.{triangulation_completes, completes_triangulation}
use Rattle.fine_stream.proofs.PartDecisions.{decide_fits}

-- with one number and its triple in front
abbrev extended : ℕ → Triangle → Triangulation → Triangulation
extended c t v = record { word = c ∷ v.word; triangles = t ∷ v.triangles }

module _ (h : Patch) (apart : AreApart h) (rising : AllPairs (λ j k. j < k) (spot_numbers h)) (a b c : ℕ) (known : IsUnit h a b c) where
  -- all words that lead on from here to the end, with their triples
  abbrev pub AreListed : List Triangle → List (ℕ × ℕ) → Type 0
  AreListed ts steps = (xs : List Triangulation) × IsListing WordBelow (λ y. Completes h ts steps y.word y.triangles) xs

  numbers_listing : IsListing (λ j k. j < k) (IsOf h) (spot_numbers h)
  numbers_listing = record { ordered = rising; sound = All-from_contains (IsOf h) (spot_numbers h) (λ k i. i); complete = λ k i. i }

  -- ---- nothing waits

  empty_listed : (ts : List Triangle) → IsPart h ts → AreListed ts []
  empty_listed ts part = (
    record { word = []; triangles = [] } ∷ [],
    record {
      ordered = λ i j d k m. absurd (omega arith);
      sound = All-from_contains (λ y. Completes h ts [] y.word y.triangles) (record { word = []; triangles = [] } ∷ []) (λ y k. subst (λ z. Completes h ts [] z.word z.triangles) (sym (only y k)) none);
      complete = λ y k. Contains-here y (record { word = []; triangles = [] }) [] (empty y.word y.triangles k);
    },
  )
    where
      none : Completes h ts [] [] []
      none = (first_empty h ts (λ v. Contains (v ∷ []) v) part (Contains-here [] [] [] refl)).completes

      only : (y : Triangulation) → Contains (record { word = []; triangles = [] } ∷ []) y → y ≡ record { word = []; triangles = [] }
      only y k = ⊎_elim (λ e. e) (λ n. Contains-none y n) (Contains-cases y (record { word = []; triangles = [] }) [] k)

      empty : (w : List ℕ) (us : List Triangle) → Completes h ts [] w us → (let y : Triangulation = record { word = w; triangles = us } in let z : Triangulation = record { word = []; triangles = [] } in y ≡ z)
      empty [] [] k = refl
      empty [] (u ∷ us) k = absurd k.closes
      empty (d ∷ w) us k = absurd k.closes

  -- ---- a step waits: the words by their first number

  module _ (ts : List Triangle) (part : IsPart h ts) (x y : ℕ) (fs : List (ℕ × ℕ)) (of : AreOf h ((x, y) ∷ fs))
      (go : (d : ℕ) → IsOf h d → IsPart h (ts ++ written x y d ∷ []) → AreListed (ts ++ written x y d ∷ []) (closed x y d fs)) where
    abbrev Begins : ℕ → Triangulation → Type 0
    Begins d z = (v : Triangulation) × Completes h (ts ++ written x y d ∷ []) (closed x y d fs) v.word v.triangles × (z ≡ extended d (written x y d) v)

    ends_of : IsOf h x × IsOf h y
    ends_of = All-contains (λ e. IsOf h e.0 × IsOf h e.1) ((x, y) ∷ fs) (x, y) of (Contains-here (x, y) (x, y) fs refl)

    group : (d : ℕ) → (xs : List Triangulation) × (IsOf h d → IsListing WordBelow (Begins d) xs)
    group d = by (decide_listed (spot_numbers h) d)
      where
        by : Decided (IsOf h d) → (xs : List Triangulation) × (IsOf h d → IsListing WordBelow (Begins d) xs)
        by (inr n) = ([], λ o. absurd (n o))
        by (inl o) = fit (decide_fits h apart a b c known ts part (written x y d) (written_of (IsOf h) x y d ends_of.0 ends_of.1 o))
          where
            fit : Decided (IsPart h (ts ++ written x y d ∷ [])) → (xs : List Triangulation) × (IsOf h d → IsListing WordBelow (Begins d) xs)
            fit (inl p) =
                (let r = go d o p in (
                  map (extended d (written x y d)) r.0,
                  λ i. listing_map WordBelow WordBelow (λ v. Completes h (ts ++ written x y d ∷ []) (closed x y d fs) v.word v.triangles) (extended d (written x y d)) (λ v z l. same_below d v.word z.word l) r.0 r.1,
                ))
            fit (inr n) = ([], λ i. listing_nil WordBelow (Begins d) (λ z q. n (part_left h (ts ++ written x y d ∷ []) q.0.triangles q.1.part)))

    first_before : (d e : ℕ) (z w : Triangulation) → d < e → Begins d z → Begins e w → WordBelow z w
    first_before d e z w l p q =
        subst (λ v. WordBelow v w) (sym p.2) (subst (λ v. WordBelow (extended d (written x y d) p.0) v) (sym q.2) (head_below d e p.0.word q.0.word l))

    split : (w : List ℕ) (us : List Triangle) → Completes h ts ((x, y) ∷ fs) w us → (d : ℕ) × IsOf h d × Begins d (record { word = w; triangles = us })
    split [] us k = absurd k.closes
    split (d ∷ w) [] k = absurd k.closes
    split (d ∷ w) (u ∷ us) k = (
      d,
      (fits_unit h ts x y d (completes_fits h ts x y d fs w (u ∷ us) k)).points.2,
      (record { word = w; triangles = us }, completes_rest h ts x y d fs w u us k, λ i. record { word = d ∷ w; triangles = k.closes.0 i ∷ us }),
    )

    pub step_listed : AreListed ts ((x, y) ∷ fs)
    step_listed = (
      flat_map (λ d. (group d).0) (spot_numbers h),
      listing_same WordBelow (λ z. (d : ℕ) × IsOf h d × Begins d z) (λ z. Completes h ts ((x, y) ∷ fs) z.word z.triangles) (flat_map (λ d. (group d).0) (spot_numbers h))
          (listing_groups (λ j k. j < k) WordBelow (IsOf h) Begins (λ d. (group d).0) (spot_numbers h) numbers_listing (λ d o. (group d).1 o) (λ d e z w i j l p q. first_before d e z w l p q))
          (λ z r. subst (λ v. Completes h ts ((x, y) ∷ fs) v.word v.triangles) (sym r.2.2) (completes_more h ts x y r.0 fs r.2.0.word r.2.0.triangles r.2.1))
          (λ z k. split z.word z.triangles k),
    )

  abbrev most : ℕ
  most = length (spot_numbers h) * length (spot_numbers h)

  pub all_from : (n : ℕ) (ts : List Triangle) (steps : List (ℕ × ℕ)) → IsPart h ts → AreOf h steps → most < n + length ts → AreListed ts steps
  all_from zero ts steps part of l = absurd (let k = part_bound h ts part in omega (arith, k, l))
  all_from (suc n) ts [] part of l = empty_listed ts part
  all_from (suc n) ts ((x, y) ∷ fs) part of l =
      step_listed ts part x y fs of (λ d o p. all_from n (ts ++ written x y d ∷ []) (closed x y d fs) p (closed_of h x y d fs of o) (more (length ts) (length (ts ++ written x y d ∷ [])) (length-append ts (written x y d ∷ [])) l))
    where
      more : (m k : ℕ) → k ≡ m + 1 → most < suc n + m → most < n + k
      more m k e i = omega (arith, e, i)

  -- ---- the number of a triangulation

  less_of : (r : Ordering) → is_lt r ≡ true → r ≡ Less
  less_of Less e = refl
  less_of Equal e = cc
  less_of Greater e = cc

  abbrev is_lesser : Triangulation → Triangulation → Bool
  is_lesser x y = is_lt (slice_cmp nat_cmp y.word x.word)

  -- all triangulations, where the boundary steps are known
  pub steps_all : (steps : List (ℕ × ℕ)) → AreSteps h steps → AreListed [] steps
  steps_all steps boundary =
      all_from (suc most) [] steps (record { unit = All-nil (λ t. IsUnit h t.a t.b t.c); compatible = λ i j d k m. absurd (omega arith) })
      (All-from_contains (λ e. IsOf h e.0 × IsOf h e.1) steps (λ e k. (let p = (All-contains (λ d. IsStep h d.0 d.1) steps e boundary.sound k).points in (p.0, p.1))))
      (omega arith)

  pub item_exists : (x : Triangulation) → IsTriangulation h x → (n : ℕ) × IsItem h n x
  item_exists x is =
      let all = steps_all is.steps is.boundary in (
        length (filter (is_lesser x) all.0),
        record {
          is = is;
          lesser = filter (is_lesser x) all.0;
          listing = listing_filter WordBelow (λ y. Completes h [] is.steps y.word y.triangles) (λ y. IsTriangulation h y × IsBelow y.word x.word) (is_lesser x) all.0 all.1
              (λ y k e. (completes_triangulation h apart is.steps y is.boundary k, less_of (slice_cmp nat_cmp y.word x.word) e))
              (λ y p. triangulation_completes h is.steps y is.boundary p.0) (λ y p. ap is_lt p.1);
          count = refl;
        },
      )

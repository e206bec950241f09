-- The facets through a place, and the points of one place.
use Rattle.std.proofs.Common.{◌≡◌, ℕ, ◌+◌, ◌-◌, ◌<◌, ◌≤◌, Bool, true, false, cond, refl, sym, ap, ◌∙◌, arith, List, [], ◌∷◌, ◌++◌, length, get_or}
use Rattle.std.specs.Prelude.{filter}
use Rattle.std.specs.List.{range_with_len}
use Rattle.std.proofs.lemmas.List.{append-nil}
use Rattle.std.proofs.lemmas.List.Elements.{filter-append, All-cons, All-nil}
use Rattle.ntfe_nums.specs.Vectors.{Vector, origin, Precedes}
use Rattle.ntfe_model.proofs.Lists.{range_more}
use Rattle.ntfe_model.specs.Lists.{IsListing}
use Rattle.ntfe_model.specs.Pairs.{VertexLists, entry}
use Rattle.ntfe_model.specs.Points.{IsInside, is_tight, facets_through}
use Rattle.ntfe_model.proofs.Listings.{Contains-here}
use Rattle.lattice_points.specs.Scans.{IsPointWith}

-- one more number, which passes a test or fails it
module _ (test : ℕ → Bool) (i : ℕ) where
  filter_next : filter test (range_with_len 1 (i + 1)) ≡ filter test (range_with_len 1 i) ++ cond (test (1 + i)) ((1 + i) ∷ []) []
  filter_next = ap (filter test) (range_more 1 i) ∙ filter-append test (range_with_len 1 i) ((1 + i) ∷ [])

  pub passes_next : test (1 + i) ≡ true → filter test (range_with_len 1 i) ++ (i + 1) ∷ [] ≡ filter test (range_with_len 1 (i + 1))
  passes_next t =
      let c : i + 1 ≡ 1 + i = omega arith in
      sym (filter_next ∙ (λ j. filter test (range_with_len 1 i) ++ cond (t j) (sym c j ∷ []) []))

  pub fails_next : test (1 + i) ≡ false → filter test (range_with_len 1 i) ≡ filter test (range_with_len 1 (i + 1))
  fails_next t = sym (filter_next ∙ ap (λ b. filter test (range_with_len 1 i) ++ cond b ((1 + i) ∷ []) []) t ∙ append-nil (filter test (range_with_len 1 i)))

-- the test of one more dual vertex
pub tight_at_next : (ms : List Vector) (x m : Vector) (i : ℕ) (b : Bool) → m ≡ get_or ms i origin → is_tight m x ≡ b → is_tight (entry ms (1 + i)) x ≡ b
tight_at_next ms x m i b e t = ap (λ n. is_tight n x) (ap (λ k. get_or ms k origin) (let k : 1 + i - 1 ≡ i = omega arith in k) ∙ sym e) ∙ t

-- ---- one place

module _ (p : VertexLists) (x : Vector) where
  pub listing_none : length (facets_through p.dual x) < 2 → IsListing (λ a b. Precedes a.place b.place) (IsPointWith p (λ v. v ≡ x)) []
  listing_none h = record {
    ordered = λ i j d k l. absurd (omega arith);
    sound = All-nil (IsPointWith p (λ v. v ≡ x));
    complete = λ q k. (
        let t = k.point.two in
        let e : length q.facets ≡ length (facets_through p.dual x) = ap length (k.point.facets ∙ ap (facets_through p.dual) k.place) in
        absurd (omega arith));
  }

  pub listing_one : (fs : List ℕ) → fs ≡ facets_through p.dual x → 2 ≤ length fs → IsInside p x → IsListing (λ a b. Precedes a.place b.place) (IsPointWith p (λ v. v ≡ x)) (record { place = x; facets = fs } ∷ [])
  listing_one fs e h k = record {
    ordered = λ i j d a b. absurd (omega arith);
    sound = All-cons (IsPointWith p (λ v. v ≡ x)) (record { place = x; facets = fs }) [] (record { point = record { inside = k; facets = e; two = h }; place = refl }) (All-nil (IsPointWith p (λ v. v ≡ x)));
    complete = λ q c. Contains-here q (record { place = x; facets = fs }) [] (λ i. record { place = c.place i; facets = (c.point.facets ∙ ap (facets_through p.dual) c.place ∙ sym e) i });
  }

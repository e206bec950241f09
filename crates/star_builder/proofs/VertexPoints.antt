-- The vertices of a geometry are among its points.
--     vertex_number      the number of a vertex
--     number_point      what the numbers name
--     point_small      the points are small
use Rattle.std.proofs.Common.{◌≡◌, ◌≢◌, ℕ, suc, ◌-◌, ◌<◌, ◌≤◌, ⊎_elim, refl, sym, ap, ◌∙◌, arith, ℤ, negsuc, ◌≤ℤ◌, List, [], ◌∷◌, get_or, length}
use Rattle.std.specs.Prelude.{Any, Contains}
use Rattle.std.specs.List.{range_with_len}
use Rattle.std.proofs.lemmas.Int.{ints}
use Rattle.std.proofs.lemmas.List.{get_or_default}
use Rattle.std.proofs.lemmas.List.Elements.{Contains-get_or}
use Rattle.ntfe_nums.specs.Vectors.{Vector, dot}
use Rattle.ntfe_model.specs.Lists.{IsNumberOf}
use Rattle.ntfe_model.specs.Pairs.{VertexLists, IsSmall, entry}
use Rattle.ntfe_model.specs.Reflexive.{IsReflexive, at}
use Rattle.ntfe_model.specs.Points.{is_tight, facets_through, IsPointOf, ArePoints, place_of_point, no_point}
use Rattle.ntfe_model.specs.Shapes.{Shape, IsShape}
use Rattle.ntfe_model.specs.declared.point.Point.{Point}
use Rattle.ntfe_model.proofs.Listings.{Contains-cases, Contains-none, Contains-filter, listing_range}
use Rattle.ntfe_model.proofs.SmallVectors.{inside_small}
use Rattle.star_builder.proofs.FacetPoints.{int_eq_to, dot_swap}

pub two_members : (ks : List ℕ) (a b : ℕ) → Contains ks a → Contains ks b → a ≢ b → 2 ≤ length ks
two_members [] a b i j n = Contains-none a i
two_members (k ∷ []) a b i j n = absurd (n (only a i ∙ sym (only b j)))
  where
    only : (c : ℕ) → Contains (k ∷ []) c → c ≡ k
    only c h = ⊎_elim (λ e. e) (λ d. Contains-none c d) (Contains-cases c k [] h)
two_members (k ∷ l ∷ ks) a b i j n = omega arith

facet_listed : (ms : List Vector) (v : Vector) (i : ℕ) → i < length ms → dot (at ms i) v ≡ negsuc 0 → Contains (facets_through ms v) (suc i)
facet_listed ms v i l e =
    Contains-filter (λ k. is_tight (entry ms k) v) (range_with_len 1 (length ms)) (suc i)
    ((listing_range 1 (length ms)).complete (suc i) (omega arith, omega (arith, l)))
    (let same : suc i - 1 ≡ i = omega arith in
    int_eq_to (dot (entry ms (suc i)) v) (negsuc 0) (ap (λ k. dot (at ms k) v) same ∙ e))

-- a vertex is a point
pub vertex_point : (p : VertexLists) → IsReflexive p → (v : Vector) → Contains p.vertices v → IsPointOf p (record { place = v; facets = facets_through p.dual v })
vertex_point p r v c =
    let four = r.corners v c in
    record {
      inside = record {
        box = record { low1 = itself (λ u. u.x1 ≤ℤ v.x1) (self v.x1); high1 = itself (λ u. v.x1 ≤ℤ u.x1) (self v.x1); low2 = itself (λ u. u.x2 ≤ℤ v.x2) (self v.x2); high2 = itself (λ u. v.x2 ≤ℤ u.x2) (self v.x2); low3 = itself (λ u. u.x3 ≤ℤ v.x3) (self v.x3); high3 = itself (λ u. v.x3 ≤ℤ u.x3) (self v.x3); low4 = itself (λ u. u.x4 ≤ℤ v.x4) (self v.x4); high4 = itself (λ u. v.x4 ≤ℤ u.x4) (self v.x4) };
        hull = λ i d l. r.within (get_or p.dual i d) v (Contains-get_or p.dual i d l) c;
      };
      facets = refl;
      two = two_members (facets_through p.dual v) (suc four.i) (suc four.j)
          (facet_listed p.dual v four.i (let a = four.rising in omega (arith, a.0, a.1, a.2, a.3)) (dot_swap (at p.dual four.i) v ∙ four.four.first))
          (facet_listed p.dual v four.j (let a = four.rising in omega (arith, a.1, a.2, a.3)) (dot_swap (at p.dual four.j) v ∙ four.four.second))
          (λ e. (let a = four.rising in absurd (omega (arith, a.0, e))));
    }
  where
    self : (z : ℤ) → z ≤ℤ z
    self z = omega (arith, ints)

    itself : (P : Vector → Type 0) → P v → Any P p.vertices
    itself P h = (c.0, v, c.1, c.2, h)

-- with its number
pub vertex_number : (p : VertexLists) (xs : List Point) → IsReflexive p → ArePoints p xs → (v : Vector) → Contains p.vertices v → (k : ℕ) × IsNumberOf xs k × (place_of_point xs k ≡ v)
vertex_number p xs r l v c =
    let x : Point = record { place = v; facets = facets_through p.dual v } in
    let h = l.complete x (vertex_point p r v c) in
    let same : suc h.0 - 1 ≡ h.0 = omega arith in
    (suc h.0, (omega arith, h.1), ap (λ i. (get_or xs i no_point).place) same ∙ ap (λ y. y.place) (get_or_default xs h.0 no_point x h.1 ∙ h.2))

module _ (g : Shape) (s : IsShape g) where
  pub number_point : (k : ℕ) → IsNumberOf g.points k → IsPointOf g.pair (get_or g.points (k - 1) no_point)
  number_point k n = s.points.sound (k - 1) no_point (omega (arith, n.0, n.1))

  pub point_small : (k : ℕ) → IsNumberOf g.points k → IsSmall (place_of_point g.points k)
  point_small k n = inside_small g.pair (place_of_point g.points k) s.bounded.vertices.small (number_point k n).inside

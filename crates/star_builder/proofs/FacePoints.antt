-- The points of a two-face are those on both of its facets, and some points of the first facet lie outside the second.
--     face_point_tight, tight_face_point      which points of the facets are on the two-face
--     facet_below      no point lies beyond a facet
--     some_outside      a point of the first facet outside the second
--     distance, outside_far      how far from the two-face it lies
use Rattle.std.proofs.Common.{◌≡◌, ◌≢◌, ℕ, zero, suc, ◌-◌, ◌<◌, ◌&&◌, inl, inr, Bool, true, false, refl, sym, ap, ◌∙◌, subst, arith, ℤ, pos, negsuc, ◌-ℤ◌, ◌<ℤ◌, ◌≤ℤ◌, List, length, get_or}
use Rattle.std.specs.Prelude.{Contains, filter}
use Rattle.std.specs.List.{range_with_len}
use Rattle.std.proofs.lemmas.Int.{ints}
use Rattle.std.proofs.lemmas.List.Elements.{All-contains, filter_passes}
use Rattle.ntfe_nums.specs.Vectors.{Vector, dot}
use Rattle.ntfe_model.specs.Lists.{IsNumberOf}
use Rattle.ntfe_model.specs.Pairs.{entry}
use Rattle.ntfe_model.specs.Reflexive.{IsTight, IsTightOnFour, at}
use Rattle.ntfe_model.specs.Points.{IsPointOf, IsFaceOf, points_on_both, is_tight, place_of_point, no_point}
use Rattle.ntfe_model.specs.Shapes.{Shape, IsShape, face_at, no_face}
use Rattle.ntfe_model.specs.Charts.{patch_at, IsOf}
use Rattle.ntfe_model.proofs.Listings.{Contains-filter, listing_range}
use Rattle.ntfe_model.proofs.GeometryPoints.{numbers_of}
use Rattle.ntfe_model.proofs.Triples.{Decided, decide_integer}
use Rattle.star_builder.proofs.Normals.{normal_fixed}
use Rattle.star_builder.proofs.FacetPoints.{int_eq_from, int_eq_to, entry_in, place_in, entries_apart}
use Rattle.star_builder.proofs.VertexPoints.{vertex_number}

-- ---- lists

pub from_filter : {X : Type 0} (test : X → Bool) (xs : List X) (x : X) → Contains (filter test xs) x → test x ≡ true
from_filter test xs x c = All-contains (λ y. test y ≡ true) (filter test xs) x (filter_passes test xs) c

both_true : (a b : Bool) → a && b ≡ true → (a ≡ true) × (b ≡ true)
both_true true true e = (refl, refl)
both_true true false e = cc
both_true false true e = cc
both_true false false e = cc

-- ---- a two-face and its two facets

module _ (g : Shape) (s : IsShape g) (f : ℕ) (within : f < length g.faces) where
  abbrev spot : ℕ → Vector
  spot = place_of_point g.points

  abbrev first : Vector
  first = entry g.pair.dual (face_at g f).first

  abbrev second : Vector
  second = entry g.pair.dual (face_at g f).second

  pub face_is : IsFaceOf g.pair g.points (face_at g f)
  face_is = s.faces.sound f no_face within

  pub number_first : IsNumberOf g.pair.dual (face_at g f).first
  number_first = let o = face_is.meet.ordered in (o.0, (let a = o.1 in let b = o.2 in omega (arith, a, b)))

  pub number_second : IsNumberOf g.pair.dual (face_at g f).second
  number_second = let o = face_is.meet.ordered in ((let a = o.0 in let b = o.1 in omega (arith, a, b)), o.2)

  both_tight : ℕ → Bool
  both_tight k = is_tight first (spot k) && is_tight second (spot k)

  -- the points of the two-face are those on both facets
  pub face_point_tight : (p : ℕ) → IsOf (patch_at g f) p
      → IsTight (entry g.pair.dual (face_at g f).first) (place_of_point g.points p) × IsTight (entry g.pair.dual (face_at g f).second) (place_of_point g.points p)
  unfolding both_tight
  face_point_tight p o =
      let c : Contains (face_at g f).points p = subst (λ (ks : List ℕ). Contains ks p) (numbers_of (face_at g f).points (place_of_point g.points)) o in
      let d : Contains (points_on_both g.pair g.points (face_at g f).first (face_at g f).second) p = subst (λ (ks : List ℕ). Contains ks p) face_is.points c in
      let t = both_true (is_tight first (spot p)) (is_tight second (spot p)) (from_filter both_tight (range_with_len 1 (length g.points)) p d) in
      (int_eq_from (dot first (spot p)) (negsuc 0) t.0, int_eq_from (dot second (spot p)) (negsuc 0) t.1)

  pub tight_face_point : (p : ℕ) → IsNumberOf g.points p → IsTight (entry g.pair.dual (face_at g f).first) (place_of_point g.points p)
      → IsTight (entry g.pair.dual (face_at g f).second) (place_of_point g.points p) → IsOf (patch_at g f) p
  unfolding both_tight
  tight_face_point p n t u =
      let test : both_tight p ≡ true = (λ i. int_eq_to (dot first (spot p)) (negsuc 0) t i && int_eq_to (dot second (spot p)) (negsuc 0) u i) in
      let d : Contains (points_on_both g.pair g.points (face_at g f).first (face_at g f).second) p =
      Contains-filter both_tight (range_with_len 1 (length g.points)) p ((listing_range 1 (length g.points)).complete p (n.0, (let a = n.1 in omega (arith, a)))) test in
      subst (λ (ks : List ℕ). Contains ks p) (sym (numbers_of (face_at g f).points (place_of_point g.points)))
      (subst (λ (ks : List ℕ). Contains ks p) (sym face_is.points) d)

  -- no point lies beyond a facet
  pub facet_below : (m : ℕ) → IsNumberOf g.pair.dual m → (p : ℕ) → IsNumberOf g.points p → negsuc 0 ≤ℤ dot (entry g.pair.dual m) (place_of_point g.points p)
  facet_below m i p n =
      let q : IsPointOf g.pair (get_or g.points (p - 1) no_point) = s.points.sound (p - 1) no_point (let a = n.0 in let b = n.1 in omega (arith, a, b)) in
      All-contains (λ u. negsuc 0 ≤ℤ dot u (place_of_point g.points p)) g.pair.dual (entry g.pair.dual m) q.inside.hull (entry_in g.pair.dual m i)

  -- four independent vertices of the first facet
  corners : IsTightOnFour first g.pair.vertices
  corners = s.reflexive.facets first (entry_in g.pair.dual (face_at g f).first number_first)

  -- the points of the first facet outside the second
  abbrev pub IsOutside : ℕ → Type 0
  IsOutside p = IsNumberOf g.points p × IsTight first (spot p) × (dot second (spot p) ≢ negsuc 0)

  pub some_outside : (p : ℕ) × IsOutside p
  some_outside =
      by (decide_integer (dot second (at vs r.i)) (negsuc 0)) (decide_integer (dot second (at vs r.j)) (negsuc 0)) (decide_integer (dot second (at vs r.k)) (negsuc 0)) (decide_integer (dot second (at vs r.l)) (negsuc 0))
    where
      vs : List Vector
      vs = g.pair.vertices

      r : IsTightOnFour first g.pair.vertices
      r = corners

      found : (i : ℕ) → i < length g.pair.vertices → IsTight first (at g.pair.vertices i) → (dot second (at g.pair.vertices i) ≢ negsuc 0) → (p : ℕ) × IsOutside p
      found i l t n =
          let k = vertex_number g.pair g.points s.reflexive s.points (at g.pair.vertices i) (place_in g.pair.vertices i l) in
          (k.0, (k.1, ap (dot first) k.2 ∙ t, (λ e. n (sym (ap (dot second) k.2) ∙ e))))

      below : (a b c d n : ℕ) → a < b → b < c → c < d → d < n → (a < n) × (b < n) × (c < n)
      below a b c d n i j k l = (omega (arith, i, j, k, l), omega (arith, j, k, l), omega (arith, k, l))

      low : (r.i < length g.pair.vertices) × (r.j < length g.pair.vertices) × (r.k < length g.pair.vertices)
      low = below r.i r.j r.k r.l (length g.pair.vertices) r.rising.0 r.rising.1 r.rising.2 r.rising.3

      by : Decided (dot second (at g.pair.vertices r.i) ≡ negsuc 0) → Decided (dot second (at g.pair.vertices r.j) ≡ negsuc 0) → Decided (dot second (at g.pair.vertices r.k) ≡ negsuc 0)
          → Decided (dot second (at g.pair.vertices r.l) ≡ negsuc 0) → (p : ℕ) × IsOutside p
      by (inr n) q u v = found r.i low.0 r.four.first n
      by (inl e) (inr n) u v = found r.j low.1 r.four.second n
      by (inl e) (inl e') (inr n) v = found r.k low.2 r.four.third n
      by (inl e) (inl e') (inl e'') (inr n) = found r.l r.rising.3 r.four.fourth n
      by (inl e1) (inl e2) (inl e3) (inl e4) =
          absurd (entries_apart g.pair.dual s.reflexive.distinct_dual (face_at g f).first (face_at g f).second number_first number_second face_is.meet.ordered.1
          (normal_fixed first second (at g.pair.vertices r.i) (at g.pair.vertices r.j) (at g.pair.vertices r.k) (at g.pair.vertices r.l) r.four.independent
          (r.four.first ∙ sym e1) (r.four.second ∙ sym e2) (r.four.third ∙ sym e3) (r.four.fourth ∙ sym e4)))

  -- the distance from the two-face, counted by the second facet
  abbrev pub distance : Vector → ℤ
  distance v = dot second v -ℤ dot first v

  pub outside_far : (p : ℕ) → IsOutside p → pos 0 <ℤ distance (spot p)
  outside_far p o = by (dot second (spot p)) (dot first (spot p)) (facet_below (face_at g f).second number_second p o.0) o.1 o.2
    where
      by : (y z : ℤ) → negsuc 0 ≤ℤ y → z ≡ negsuc 0 → y ≢ negsuc 0 → pos 0 <ℤ (y -ℤ z)
      by (pos k) z l e n = omega (arith, ints, e)
      by (negsuc zero) z l e n = absurd (n refl)
      by (negsuc (suc k)) z l e n = absurd (omega (arith, ints, l))

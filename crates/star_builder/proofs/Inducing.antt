-- Three points of a two-face have an area, as independent points do, and a fine triangulation of it has a triple.
use Rattle.std.proofs.Common.{◌≡◌, ◌≢◌, ℕ, suc, ◌<◌, ◌≤◌, ◌⊎◌, inl, inr, refl, sym, ap, ◌∙◌, subst, arith, ℤ, pos, List, length}
use Rattle.std.specs.Prelude.{Contains}
use Rattle.ntfe_nums.specs.Vectors.{Vector, dot, area, det4}
use Rattle.ntfe_model.proofs.Lists.{Contains-map, Contains-from_map}
use Rattle.ntfe_model.specs.Reflexive.{IsTight}
use Rattle.ntfe_model.specs.Pairs.{entry}
use Rattle.ntfe_model.specs.Points.{place_of_point, MeetInTwoFace}
use Rattle.ntfe_model.specs.Shapes.{Shape, IsShape, face_at}
use Rattle.ntfe_model.specs.Charts.{Spot, patch_at, axes, axis_pairs, place, IsOf}
use Rattle.ntfe_model.specs.Triangulations.{IsFine}
use Rattle.ntfe_model.specs.declared.triangle.Triangle.{Triangle}
use Rattle.ntfe_model.proofs.GeometryPoints.{numbers_of, point_small, point_within, point_place}
use Rattle.ntfe_model.proofs.UnitTriples.{area_of}
use Rattle.star_builder.proofs.VertexPoints.{vertex_number}
use Rattle.star_builder.proofs.FaceLevels.{face_apart}
use Rattle.star_builder.proofs.FacePoints.{face_is, tight_face_point}
use Rattle.star_builder.proofs.FacePlanes.{area_wedge, line_of_all}
use Rattle.star_builder.proofs.FirstStep.{HaveArea, axes_span, step_exists}

-- a pair of coordinates is one of the six
pair_listed : (i j : ℕ) → 1 ≤ i → i < j → j ≤ 4 → Contains axis_pairs (i, j)
pair_listed i j k l m = by (ways i j k l m)
  where
    ways : (i j : ℕ) → 1 ≤ i → i < j → j ≤ 4
        → ((i ≡ 1) × (j ≡ 2)) ⊎ (((i ≡ 1) × (j ≡ 3)) ⊎ (((i ≡ 1) × (j ≡ 4)) ⊎ (((i ≡ 2) × (j ≡ 3)) ⊎ (((i ≡ 2) × (j ≡ 4)) ⊎ ((i ≡ 3) × (j ≡ 4))))))
    ways i j k l m = grind (arith, k, l, m)

    to : (x y n : ℕ) → i ≡ x → j ≡ y → Contains axis_pairs (x, y) → Contains axis_pairs (i, j)
    to x y n e f c = let P : ℕ × ℕ → Type 0 = Contains axis_pairs in subst P (λ k. (sym e k, sym f k)) c

    by : ((i ≡ 1) × (j ≡ 2)) ⊎ (((i ≡ 1) × (j ≡ 3)) ⊎ (((i ≡ 1) × (j ≡ 4)) ⊎ (((i ≡ 2) × (j ≡ 3)) ⊎ (((i ≡ 2) × (j ≡ 4)) ⊎ ((i ≡ 3) × (j ≡ 4)))))) → Contains axis_pairs (i, j)
    by (inl r) = to 1 2 0 r.0 r.1 (0, omega arith, refl)
    by (inr (inl r)) = to 1 3 1 r.0 r.1 (1, omega arith, refl)
    by (inr (inr (inl r))) = to 1 4 2 r.0 r.1 (2, omega arith, refl)
    by (inr (inr (inr (inl r)))) = to 2 3 3 r.0 r.1 (3, omega arith, refl)
    by (inr (inr (inr (inr (inl r))))) = to 2 4 4 r.0 r.1 (4, omega arith, refl)
    by (inr (inr (inr (inr (inr r))))) = to 3 4 5 r.0 r.1 (5, omega arith, refl)

module _ (g : Shape) (s : IsShape g) (f : ℕ) (within : f < length g.faces) where
  abbrev spot_of : ℕ → Spot
  spot_of k = record { number = k; place = place_of_point g.points k }

  spot_in : (k : ℕ) → IsOf (patch_at g f) k → Contains (patch_at g f) (spot_of k)
  spot_in k o = Contains-map spot_of (face_at g f).points k (subst (λ (ks : List ℕ). Contains ks k) (numbers_of (face_at g f).points (place_of_point g.points)) o)

  -- a spot of the patch is a point of the face in its place
  spot_from : (a : Spot) → Contains (patch_at g f) a → (k : ℕ) × IsOf (patch_at g f) k × (place (patch_at g f) k ≡ a.place)
  spot_from a c =
      let r = Contains-from_map spot_of (face_at g f).points a c in
      let o : IsOf (patch_at g f) r.0 = subst (λ (ks : List ℕ). Contains ks r.0) (sym (numbers_of (face_at g f).points (place_of_point g.points))) r.1 in
      (r.0, o, point_place g s f within r.0 o ∙ ap (λ b. b.place) (sym r.2))

  -- a vertex on both facets is a point of the two-face
  vertex_on_face : (v : Vector) → Contains g.pair.vertices v → IsTight (entry g.pair.dual (face_at g f).first) v → IsTight (entry g.pair.dual (face_at g f).second) v
      → (k : ℕ) × IsOf (patch_at g f) k × (place_of_point g.points k ≡ v)
  vertex_on_face v c t u =
      let r = vertex_number g.pair g.points s.reflexive s.points v c in
      (r.0, tight_face_point g s f within r.0 r.1 (ap (dot (entry g.pair.dual (face_at g f).first)) r.2 ∙ t) (ap (dot (entry g.pair.dual (face_at g f).second)) r.2 ∙ u), r.2)

  -- the area of spots, and of points in their places
  area_moved : (q : ℕ × ℕ) (a b c u v w : Vector) → a ≡ u → b ≡ v → c ≡ w → area q u v w ≢ pos 0 → area q a b c ≢ pos 0
  area_moved q a b c u v w ea eb ec n z = n ((λ i. area q (sym ea i) (sym eb i) (sym ec i)) ∙ z)

  abbrev HavePointsWithArea : Type 0
  HavePointsWithArea = (a : ℕ) × (b : ℕ) × (c : ℕ) × IsOf (patch_at g f) a × IsOf (patch_at g f) b × IsOf (patch_at g f) c × (area_of (patch_at g f) a b c ≢ pos 0)

  points_of_spots : (a b c : Spot) → Contains (patch_at g f) a → Contains (patch_at g f) b → Contains (patch_at g f) c → area (axes (patch_at g f)) a.place b.place c.place ≢ pos 0
      → HavePointsWithArea
  points_of_spots a b c ia ib ic n = by (spot_from a ia) (spot_from b ib) (spot_from c ic)
    where
      by : (k : ℕ) × IsOf (patch_at g f) k × (place (patch_at g f) k ≡ a.place) → (k : ℕ) × IsOf (patch_at g f) k × (place (patch_at g f) k ≡ b.place)
          → (k : ℕ) × IsOf (patch_at g f) k × (place (patch_at g f) k ≡ c.place) → HavePointsWithArea
      by (x, ox, ex) (y, oy, ey) (z, oz, ez) =
          (x, y, z, ox, oy, oz, area_moved (axes (patch_at g f)) (place (patch_at g f) x) (place (patch_at g f) y) (place (patch_at g f) z) a.place b.place c.place ex ey ez n)

  spots_with_area : (q : ℕ × ℕ) (u v w : Vector) → 1 ≤ q.0 → q.0 < q.1 → q.1 ≤ 4 → area q u v w ≢ pos 0
      → (k : ℕ) × IsOf (patch_at g f) k × (place_of_point g.points k ≡ u) → (k : ℕ) × IsOf (patch_at g f) k × (place_of_point g.points k ≡ v)
      → (k : ℕ) × IsOf (patch_at g f) k × (place_of_point g.points k ≡ w) → HaveArea (patch_at g f) q
  spots_with_area q u v w h1 h2 h3 n (a, oa, ea) (b, ob, eb) (c, oc, ec) = (
    spot_of a,
    spot_of b,
    spot_of c,
    spot_in a oa,
    spot_in b ob,
    spot_in c oc,
    area_moved q (place_of_point g.points a) (place_of_point g.points b) (place_of_point g.points c) u v w ea eb ec n,
  )

  -- three points of the two-face have an area in its axes
  pub area_exists : (a : ℕ) × (b : ℕ) × (c : ℕ) × IsOf (patch_at g f) a × IsOf (patch_at g f) b × IsOf (patch_at g f) c × (area_of (patch_at g f) a b c ≢ pos 0)
  area_exists = by (face_is g s f within).meet
    where
      spots : HaveArea (patch_at g f) (axes (patch_at g f)) → HavePointsWithArea
      spots (a, b, c, ia, ib, ic, n) = points_of_spots a b c ia ib ic n

      by : MeetInTwoFace g.pair (face_at g f).first (face_at g f).second → HavePointsWithArea
      by m =
          spots (axes_span (patch_at g f) m.span.0 (pair_listed m.span.0.0 m.span.0.1 m.span.1 m.span.2 m.span.3)
          (spots_with_area m.span.0 m.a m.b m.c m.span.1 m.span.2 m.span.3 m.span.4
          (vertex_on_face m.a m.vertices.0 m.first.0 m.second.0) (vertex_on_face m.b m.vertices.1 m.first.1 m.second.1) (vertex_on_face m.c m.vertices.2 m.first.2 m.second.2)))

  -- and so have all that are independent of some vector
  pub independent_area : (a b c : ℕ) (d : Vector) → IsOf (patch_at g f) a → IsOf (patch_at g f) b → IsOf (patch_at g f) c
      → det4 (place_of_point g.points a) (place_of_point g.points b) (place_of_point g.points c) d ≢ pos 0 → area_of (patch_at g f) a b c ≢ pos 0
  independent_area a b c d oa ob oc independent z = by area_exists
    where
      level : ℕ → ℤ
      level k = pos 0

      by : HavePointsWithArea → ⊥
      by (p, q, r, op, oq, os, n) =
          n (area_wedge g s f within level p q r op oq os
          ∙ line_of_all g s f within level a b c oa ob oc d independent (sym (area_wedge g s f within level a b c oa ob oc) ∙ z) p q r op oq os)

  -- a fine triangulation of it has a triple
  pub some_triple : (ts : List Triangle) → IsFine (patch_at g f) ts → (t : Triangle) × Contains ts t
  some_triple ts fine =
      let r = area_exists in
      let e = step_exists (patch_at g f) (face_apart g s f within) (point_small g s f within) (suc (length g.points)) (λ p o. (let k = point_within g s f within p o in let l = k.1 in omega (arith, l))) r.0 r.1 r.2 r.3 r.4 r.5 r.6 in
      let side = ((fine.edge e.0 e.1).1 e.2).0 in
      (side.0, side.1)

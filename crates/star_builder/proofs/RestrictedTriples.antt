-- The restriction of a star that induces a choice has the triples of the items.
use Rattle.std.proofs.Common.{◌≡◌, ◌≢◌, ℕ, ◌<◌, ◌⊎◌, inl, inr, ⊎_elim, refl, ap, ◌∙◌, arith, ℤ, pos, ◌<ℤ◌, neg_ℤ, List, length}
use Rattle.std.specs.Prelude.{Contains, slice_index, ◌↔◌}
use Rattle.std.proofs.lemmas.Int.{ints}
use Rattle.std.proofs.lemmas.List.Elements.{All-contains}
use Rattle.ntfe_model.specs.Shapes.{Shape}
use Rattle.ntfe_model.specs.Charts.{Patch, axes, place, patch_at, IsUnit}
use Rattle.ntfe_model.specs.Triangulations.{IsRotationOf, IsTripleOf, IsFine}
use Rattle.ntfe_model.specs.Words.{IsItem}
use Rattle.ntfe_model.specs.Stars.{AreTogether, IsLeft, IsRestriction, Leaves, Induces}
use Rattle.ntfe_model.specs.declared.triangle.Triangle.{Triangle}
use Rattle.ntfe_model.specs.declared.triangulation.Triangulation.{Triangulation}
use Rattle.ntfe_model.proofs.Triples.{corner_same}
use Rattle.ntfe_model.proofs.Folds.{unit_corner}
use Rattle.ntfe_model.proofs.PlaneNumbers.{positive_sign, flat_front, flat_last, flat_outer}
use Rattle.ntfe_model.proofs.UnitTriples.{area_of, unit_area}
use Rattle.star_builder.proofs.CentreTriples.{area_odd}
use Rattle.ntfe_nums.proofs.Signs.{two_orders, positive_some}

module _ (h : Patch) (x : Triangulation) (fine : IsFine h x.triangles) (star : List (List ℕ)) (leaves : Leaves h star x) (ts : List Triangle) (is : IsRestriction h star ts) where
  -- three points that have an area are three
  three_apart : (a b c : ℕ) → pos 0 <ℤ area_of h a b c → (a ≢ b) × (b ≢ c) × (a ≢ c)
  three_apart a b c l = (
    (λ e. positive_some (area_of h a b c) l (ap (λ k. area_of h k b c) e ∙ flat_front (axes h) (place h b) (place h c))),
    (λ e. positive_some (area_of h a b c) l (ap (λ k. area_of h a k c) e ∙ flat_last (axes h) (place h a) (place h c))),
    (λ e. positive_some (area_of h a b c) l (ap (λ k. area_of h k b c) e ∙ flat_outer (axes h) (place h c) (place h b))),
  )

  -- of the two ways round, a triple of the item has the one that turns to the left
  turns_left : (v : Triangle) → Contains x.triangles v → (a b c : ℕ) → pos 0 <ℤ area_of h a b c → IsRotationOf v a b c ⊎ IsRotationOf v a c b → IsRotationOf v a b c
  turns_left v i a b c l (inl r) = r
  turns_left v i a b c l (inr r) = absurd (clash (area_of h a b c) (area_of h a c b) l (unit_area h a c b (unit_corner h v a c b (fine.unit v i) r)) (area_odd h a b c))
    where
      clash : (y z : ℤ) → pos 0 <ℤ y → pos 0 <ℤ z → z ≡ neg_ℤ y → ⊥
      clash y z p q e = absurd (omega (arith, ints, p, q, e))

  to_item : (t : Triangle) → IsTripleOf ts t → IsTripleOf x.triangles t
  to_item t (u, c, same) =
      let v = found (two_orders u.b u.c (three_apart u.a u.b u.c area).1) in
      (v.0, v.1, corner_same v.0 u t.a t.b t.c v.2 same)
    where
      left : IsLeft h star u
      left = All-contains (IsLeft h star) ts u is.sound c

      area : pos 0 <ℤ area_of h u.a u.b u.c
      area = positive_sign (area_of h u.a u.b u.c) left.turned

      found : (u.b < u.c) ⊎ (u.c < u.b) → (v : Triangle) × Contains x.triangles v × IsRotationOf v u.a u.b u.c
      found (inl l) =
          let r = (leaves u.a u.b u.c left.least.0 l left.points.0 left.points.1 left.points.2).0 left.together in
          (r.0, r.1, turns_left r.0 r.1 u.a u.b u.c area r.2)
      found (inr l) =
          let k = left.together in
          let r = (leaves u.a u.c u.b left.least.1 l left.points.0 left.points.2 left.points.1).0 (k.0, k.1, k.2, k.4, k.3) in
          (r.0, r.1, turns_left r.0 r.1 u.a u.b u.c area (⊎_elim inr inl r.2))

  -- a triple of the item with its least number first
  least_first : (v : Triangle) → Contains x.triangles v → (a b c : ℕ) → IsRotationOf v a b c → a < b → a < c → Contains ts (record { a = a; b = b; c = c })
  least_first v i a b c r ab ac =
      let u = unit_corner h v a b c (fine.unit v i) r in
      is.complete (record { a = a; b = b; c = c }) (record {
        points = u.points;
        together = together u (two_orders b c (three_apart a b c (unit_area h a b c u)).1);
        turned = u.left;
        least = (ab, ac);
      })
    where
      together : IsUnit h a b c → (b < c) ⊎ (c < b) → AreTogether star a b c
      together u (inl l) = (leaves a b c ab l u.points.0 u.points.1 u.points.2).1 (v, i, inl r)
      together u (inr l) = let k = (leaves a c b ac l u.points.0 u.points.2 u.points.1).1 (v, i, inr r) in (k.0, k.1, k.2, k.4, k.3)

  from_item : (t : Triangle) → IsTripleOf x.triangles t → IsTripleOf ts t
  from_item t (v, i, same) =
      by (two_orders v.a v.b apart.0) (two_orders v.b v.c apart.1) (two_orders v.a v.c apart.2)
    where
      apart : (v.a ≢ v.b) × (v.b ≢ v.c) × (v.a ≢ v.c)
      apart = three_apart v.a v.b v.c (unit_area h v.a v.b v.c (fine.unit v i))

      to : (u : Triangle) → Contains ts u → IsRotationOf u v.a v.b v.c → IsTripleOf ts t
      to u c r = (u, c, corner_same u v t.a t.b t.c r same)

      first : v.a < v.b → v.a < v.c → IsTripleOf ts t
      first l k = to (record { a = v.a; b = v.b; c = v.c }) (least_first v i v.a v.b v.c (inl (refl, refl, refl)) l k) (inl (refl, refl, refl))

      second : v.b < v.c → v.b < v.a → IsTripleOf ts t
      second l k = to (record { a = v.b; b = v.c; c = v.a }) (least_first v i v.b v.c v.a (inr (inl (refl, refl, refl))) l k) (inr (inr (refl, refl, refl)))

      third : v.c < v.a → v.c < v.b → IsTripleOf ts t
      third l k = to (record { a = v.c; b = v.a; c = v.b }) (least_first v i v.c v.a v.b (inr (inr (refl, refl, refl))) l k) (inr (inl (refl, refl, refl)))

      by : (v.a < v.b) ⊎ (v.b < v.a) → (v.b < v.c) ⊎ (v.c < v.b) → (v.a < v.c) ⊎ (v.c < v.a) → IsTripleOf ts t
      by (inl l) q (inl k) = first l k
      by (inl l) (inl k) (inr j) = absurd (omega (arith, l, k, j))
      by (inl l) (inr k) (inr j) = third j k
      by (inr l) (inl k) j = second k l
      by (inr l) (inr k) j = third (omega (arith, l, k)) k

-- the restriction of a star that induces the choice has the triples of the chosen item
pub restriction_triples : (g : Shape) (choice : List ℕ) (star : List (List ℕ)) → Induces g star choice → (f : ℕ) → f < length g.faces → (x : Triangulation) → IsItem (patch_at g f) (slice_index choice f) x
    → (ts : List Triangle) → IsRestriction (patch_at g f) star ts → (t : Triangle) → IsTripleOf ts t ↔ IsTripleOf x.triangles t
restriction_triples g choice star induces f within x item ts is t =
    let leaves = induces f within x item in
    (to_item (patch_at g f) x item.is.fine star leaves ts is t, from_item (patch_at g f) x item.is.fine star leaves ts is t)

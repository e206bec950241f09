-- What a fine regular star triangulation leaves on a two-face is a fine triangulation of it.
use Rattle.std.proofs.Common.{◌≡◌, ◌≢◌, ℕ, ◌<◌, ◌≤◌, ◌⊎◌, inl, inr, ⊎_elim, refl, sym, ◌∙◌, subst, arith, ℤ, pos, ◌+ℤ◌, ◌-ℤ◌, ◌*ℤ◌, ◌<ℤ◌, ◌≤ℤ◌, List, length}
use Rattle.std.specs.Prelude.{Contains, ◌↔◌}
use Rattle.std.proofs.lemmas.Int.{ints}
use Rattle.std.proofs.lemmas.List.Elements.{All-contains}
use Rattle.ntfe_nums.specs.Vectors.{Vector, coordinate, vector_sum, multiple}
use Rattle.ntfe_model.specs.Points.{place_of_point}
use Rattle.ntfe_model.specs.Shapes.{Shape, IsShape}
use Rattle.ntfe_model.specs.Charts.{patch_at, axes, place, IsOf, IsStep}
use Rattle.ntfe_model.specs.Triangulations.{HasSide, IsRotationOf, IsSameTriple, IsSide, HaveSameEnds, mixed, IsEndOf, DoCross, IsFine}
use Rattle.ntfe_model.specs.Stars.{IsFrst, IsLeft, IsRestriction}
use Rattle.ntfe_model.specs.declared.triangle.Triangle.{Triangle}
use Rattle.ntfe_model.proofs.FoldPlanes.{at_corner}
use Rattle.ntfe_model.proofs.GeometryPoints.{point_place}
use Rattle.ntfe_model.proofs.Triples.{third_point, corner_side, corner_next}
use Rattle.star_builder.proofs.EmptyTriples.{lower_unit}
use Rattle.star_builder.proofs.FacePlanes.{first_of, second_of}
use Rattle.star_builder.proofs.FaceSimplices.{IsBelowFace}
use Rattle.star_builder.proofs.FaceSteps.{coordinate_meet, lower_step, step_triple, step_alone}
use Rattle.star_builder.proofs.FaceTriples.{star_heights, star_generic, face_used, left_lower, lower_left}
use Rattle.star_builder.proofs.LowSimplices.{IsGeneric}
use Rattle.star_builder.proofs.LowerSides.{DoMeet, lower_sides_meet}
use Rattle.star_builder.proofs.Planar.{wedge_turn, lower_turn, lower_once, left_apart}
use Rattle.star_builder.proofs.UsedPoints.{IsUsed}

-- triples with the same corners, from the same one on, are one
rotation_moved : (t : Triangle) (x y z i j k : ℕ) → x ≡ i → y ≡ j → z ≡ k → IsRotationOf t x y z → IsRotationOf t i j k
rotation_moved t x y z i j k e f g r = subst (λ n. IsRotationOf t i j n) g (subst (λ n. IsRotationOf t i n z) f (subst (λ n. IsRotationOf t n y z) e r))

rotations_same : (t u : Triangle) (x y z : ℕ) → IsRotationOf t x y z → IsRotationOf u x y z → IsSameTriple t u
rotations_same t u x y z r (inl e) = rotation_moved t x y z u.a u.b u.c (sym e.0) (sym e.1) (sym e.2) r
rotations_same t u x y z r (inr (inl e)) = rotation_moved t z x y u.a u.b u.c (sym e.2) (sym e.0) (sym e.1) (corner_next t y z x (corner_next t x y z r))
rotations_same t u x y z r (inr (inr e)) = rotation_moved t y z x u.a u.b u.c (sym e.1) (sym e.2) (sym e.0) (corner_next t x y z r)

-- an end of a segment
end_first : (n s : ℕ) (a b : Vector) → pos s ≡ pos 0 → mixed n s a b ≡ multiple (pos n) a
end_first n s a b e =
    (λ i. vector_sum (multiple (pos n -ℤ e i) a) (multiple (e i) b))
    ∙ (λ i. record { x1 = number (pos n) a.x1 b.x1 i; x2 = number (pos n) a.x2 b.x2 i; x3 = number (pos n) a.x3 b.x3 i; x4 = number (pos n) a.x4 b.x4 i })
  where
    number : (k x y : ℤ) → (k -ℤ pos 0) *ℤ x +ℤ pos 0 *ℤ y ≡ k *ℤ x
    number k x y = (λ i. same k i *ℤ x +ℤ pos 0 *ℤ y) ∙ omega (arith, ints)
      where
        same : (k : ℤ) → k -ℤ pos 0 ≡ k
        same k = omega (arith, ints)

end_second : (n s : ℕ) (a b : Vector) → pos n -ℤ pos s ≡ pos 0 → mixed n s a b ≡ multiple (pos n) b
end_second n s a b e =
    (λ i. vector_sum (multiple (e i) a) (multiple (whole (pos n) (pos s) e i) b))
    ∙ (λ i. record { x1 = number (pos n) a.x1 b.x1 i; x2 = number (pos n) a.x2 b.x2 i; x3 = number (pos n) a.x3 b.x3 i; x4 = number (pos n) a.x4 b.x4 i })
  where
    number : (k x y : ℤ) → pos 0 *ℤ x +ℤ k *ℤ y ≡ k *ℤ y
    number k x y = omega (arith, ints)

    whole : (m l : ℤ) → m -ℤ l ≡ pos 0 → l ≡ m
    whole m l e = omega (arith, ints, e)

is_end : (n s : ℕ) (a b : Vector) → (pos n -ℤ pos s ≡ pos 0) ⊎ (pos s ≡ pos 0) → IsEndOf n (mixed n s a b) a b
is_end n s a b (inl e) = inr (end_second n s a b e)
is_end n s a b (inr e) = inl (end_first n s a b e)

module _ (g : Shape) (s : IsShape g) (star : List (List ℕ)) (frst : IsFrst g.pair.dual g.points star) (f : ℕ) (within : f < length g.faces) (ts : List Triangle)
    (sound : (t : Triangle) → Contains ts t → IsLeft (patch_at g f) star t) (complete : (t : Triangle) → IsLeft (patch_at g f) star t → Contains ts t) where
  abbrev v : ℕ → ℤ
  v = star_heights g s frst.heights frst.order frst.order_of_all star frst.is

  generic : IsGeneric g.points v
  generic = star_generic g s frst.heights frst.order frst.order_of_all star frst.is

  used : (p : ℕ) → IsOf (patch_at g f) p → IsUsed g.points v p
  used = face_used g s frst.heights frst.order frst.order_of_all star frst.is f within frst.uses_all

  abbrev X : ℕ → ℤ
  X = first_of g s f within v

  abbrev Y : ℕ → ℤ
  Y = second_of g s f within v

  abbrev IsUnder : ℕ → ℕ → ℕ → Type 0
  IsUnder = IsBelowFace g s f within v

  corner_lower : (t : Triangle) → Contains ts t → (x y z : ℕ) → IsRotationOf t x y z → IsUnder x y z
  corner_lower t c x y z r =
      at_corner IsUnder (λ i j k l. lower_turn X Y v (IsOf (patch_at g f)) i j k l) t x y z r
      (left_lower g s frst.heights frst.order frst.order_of_all star frst.is f within t (sound t c))

  -- the third point of a side
  side_lower : (x y : ℕ) → IsSide ts x y → (z : ℕ) × IsUnder x y z
  side_lower x y (t, c, h) = (let r = third_point t x y h in (r.0, corner_lower t c x y r.0 r.1))

  lower_side : (x y z : ℕ) → IsUnder x y z → IsSide ts x y
  lower_side x y z l = (let r = lower_left g s frst.heights frst.order frst.order_of_all star frst.is f within x y z l in (r.0, complete r.0 r.1, corner_side r.0 x y z r.2))

  ends_apart : (x y z : ℕ) → IsUnder x y z → x ≢ y
  ends_apart x y z l = (left_apart X Y v (IsOf (patch_at g f)) y z x (subst (λ n. pos 0 <ℤ n) (sym (wedge_turn X Y v x y z)) l.left)).0

  once : (t u : Triangle) → Contains ts t → Contains ts u → (x y : ℕ) → HasSide t x y → HasSide u x y → IsSameTriple t u
  once t u c d x y h k =
      let r = third_point t x y h in
      let q = third_point u x y k in
      let e = lower_once X Y v (IsOf (patch_at g f)) x y r.0 q.0 (corner_lower t c x y r.0 r.1) (corner_lower u d x y q.0 q.1) in
      rotations_same t u x y q.0 (subst (λ n. IsRotationOf t x y n) e r.1) q.1

  edge : (x y : ℕ) → (IsSide ts x y × ¬ (IsSide ts y x)) ↔ IsStep (patch_at g f) x y
  edge x y = (
    (λ h. (let l = side_lower x y h.0 in lower_step g s f within v used generic x y l.0 l.1 (λ d m. h.1 (lower_side y x d m)))),
    (λ step. (
      (let l = step_triple g s f within v used generic x y step in lower_side x y l.0 l.1),
      (λ back. (let l = side_lower y x back in step_alone g s f within v used generic x y step l.0 l.1)),
    )),
  )

  module _ (a b c d : ℕ) (first : IsSide ts a b) (second : IsSide ts c d) (differ : ¬ (HaveSameEnds a b c d)) (cross : DoCross (place (patch_at g f) a) (place (patch_at g f) b) (place (patch_at g f) c) (place (patch_at g f) d)) where
    abbrev spot : ℕ → Vector
    spot = place_of_point g.points

    abbrev l : IsUnder a b (side_lower a b first).0
    l = (side_lower a b first).1

    abbrev k : IsUnder c d (side_lower c d second).0
    k = (side_lower c d second).1

    -- where they meet, in a coordinate
    coordinates_meet : (i : ℕ) → (pos cross.n -ℤ pos cross.t) *ℤ coordinate i (spot c) +ℤ pos cross.t *ℤ coordinate i (spot d) ≡ (pos cross.n -ℤ pos cross.s) *ℤ coordinate i (spot a) +ℤ pos cross.s *ℤ coordinate i (spot b)
    coordinates_meet i = coordinate_meet i (pos cross.n -ℤ pos cross.t) (pos cross.t) (pos cross.n -ℤ pos cross.s) (pos cross.s) (spot c) (spot d) (spot a) (spot b)
        ((λ j. mixed cross.n cross.t (sym (point_place g s f within c k.points.0) j) (sym (point_place g s f within d k.points.1) j)) ∙ sym cross.meet
        ∙ (λ j. mixed cross.n cross.s (point_place g s f within a l.points.0 j) (point_place g s f within b l.points.1 j)))

    low : (m n : ℕ) → m ≤ n → pos 0 ≤ℤ (pos n -ℤ pos m)
    low m n h = omega (arith, ints, h)

    meet : DoMeet X Y v a b c d (pos cross.n -ℤ pos cross.s) (pos cross.s) (pos cross.n -ℤ pos cross.t) (pos cross.t)
    meet = record {
      not_negative = (low cross.s cross.n cross.range.1, omega (arith, ints), low cross.t cross.n cross.range.2, omega (arith, ints));
      weights = same (pos cross.n) (pos cross.t) (pos cross.s);
      first = coordinates_meet (axes (patch_at g f)).0;
      second = coordinates_meet (axes (patch_at g f)).1;
    }
      where
        same : (x y z : ℤ) → (x -ℤ y) +ℤ y ≡ (x -ℤ z) +ℤ z
        same x y z = omega (arith, ints)

    no_cross : ⊥
    no_cross =
        ⊎_elim (λ e. cross.no_end (
          is_end cross.n cross.s (place (patch_at g f) a) (place (patch_at g f) b) e.0,
          subst (λ u. IsEndOf cross.n u (place (patch_at g f) c) (place (patch_at g f) d)) (sym cross.meet) (is_end cross.n cross.t (place (patch_at g f) c) (place (patch_at g f) d) e.1),
        ))
        differ
        (lower_sides_meet X Y v (IsOf (patch_at g f)) a b (side_lower a b first).0 c d (side_lower c d second).0 l k (ends_apart a b (side_lower a b first).0 l) (ends_apart c d (side_lower c d second).0 k)
        (pos cross.n -ℤ pos cross.s) (pos cross.s) (pos cross.n -ℤ pos cross.t) (pos cross.t) meet)

  pub restriction_fine : IsFine (patch_at g f) ts
  restriction_fine = record {
    unit = λ t c. lower_unit g s f within v used t.a t.b t.c (corner_lower t c t.a t.b t.c (inl (refl, refl, refl)));
    once = once;
    edge = edge;
    apart = no_cross;
  }

pub restrictions_fine : (g : Shape) (star : List (List ℕ)) (f : ℕ) (ts : List Triangle) → IsShape g → IsFrst g.pair.dual g.points star → f < length g.faces → IsRestriction (patch_at g f) star ts
    → IsFine (patch_at g f) ts
restrictions_fine g star f ts s frst within r = restriction_fine g s star frst f within ts (λ t c. All-contains (IsLeft (patch_at g f) star) ts t r.sound c) r.complete

-- The triples that a star of heights that extend a choice leaves on a two-face are those of the chosen item.
--     item_together      the corners of a triple of the item stand together in a member
--     star_induces      the star induces the choice
use Rattle.std.proofs.Common.{ℕ, ◌<◌, ◌⊎◌, inl, inr, sym, subst, arith, ℤ, pos, ◌<ℤ◌, neg_ℤ, List, length}
use Rattle.std.specs.Prelude.{Contains}
use Rattle.ntfe_model.specs.Shapes.{Shape, IsShape}
use Rattle.ntfe_model.specs.Charts.{patch_at, IsOf}
use Rattle.ntfe_model.specs.Triangulations.{IsRotationOf, IsFine}
use Rattle.ntfe_model.specs.Choices.{IsRegularBy, Extends}
use Rattle.ntfe_model.specs.Stars.{IsOrder, IsStar, AreTogether, AreCorners, Leaves, Induces}
use Rattle.ntfe_model.specs.declared.triangulation.Triangulation.{Triangulation}
use Rattle.ntfe_model.specs.declared.triangle.Triangle.{Triangle}
use Rattle.ntfe_model.proofs.FoldPlanes.{at_corner}
use Rattle.ntfe_model.proofs.UnitTriples.{area_of}
use Rattle.star_builder.proofs.CentreTriples.{area_odd}
use Rattle.star_builder.proofs.Decisions.{two_signs}
use Rattle.star_builder.proofs.FaceLevels.{regular_lower, lower_triple}
use Rattle.star_builder.proofs.FacePlanes.{first_of, second_of, area_wedge}
use Rattle.star_builder.proofs.FaceSimplices.{IsBelowFace}
use Rattle.star_builder.proofs.FaceTriples.{together_lower, lower_together, together_area}
use Rattle.star_builder.proofs.Inducing.{some_triple}
use Rattle.star_builder.proofs.Planar.{lower_turn}
use Rattle.star_builder.proofs.WholeHeights.{whole}

module _ (g : Shape) (s : IsShape g) (w : List ℤ) (order : List ℕ) (all : IsOrder (length g.points) order) (star : List (List ℕ)) (is : IsStar g.pair.dual g.points w order star)
    (f : ℕ) (within : f < length g.faces) (x : Triangulation) (fine : IsFine (patch_at g f) x.triangles) (lifts : IsRegularBy (patch_at g f) w x) where
  abbrev v : ℕ → ℤ
  v = whole w order

  pub item_together : (t : Triangle) → Contains x.triangles t → (a b c : ℕ) → IsRotationOf t a b c → AreTogether star a b c
  item_together t i a b c r =
      lower_together g s w order all star is f within a b c
      (at_corner (IsBelowFace g s f within v) (λ j k l. lower_turn (first_of g s f within v) (second_of g s f within v) v (IsOf (patch_at g f)) j k l) t a b c r
      (regular_lower g s f within w order all t.a t.b t.c (fine.unit t i) (lifts t i)))

  corners_together : (a b c : ℕ) → AreCorners x.triangles a b c → AreTogether star a b c
  corners_together a b c (t, i, inl r) = item_together t i a b c r
  corners_together a b c (t, i, inr r) = (let m = item_together t i a c b r in (m.0, m.1, m.2, m.4, m.3))

  -- the least of three points first, turned to the left
  left_triple : (t : Triangle) → Contains x.triangles t → (a b c : ℕ) → IsOf (patch_at g f) a → IsOf (patch_at g f) b → IsOf (patch_at g f) c → a < b → a < c → pos 0 <ℤ area_of (patch_at g f) a b c
      → AreTogether star a b c → (u : Triangle) × Contains x.triangles u × IsRotationOf u a b c
  left_triple t i a b c oa ob oc ab ac left m =
      lower_triple g s f within w order all x fine lifts t i a b c
      (together_lower g s w order all star is f within a b c oa ob oc ab ac (subst (λ z. pos 0 <ℤ z) (area_wedge g s f within v a b c oa ob oc) left) m)

  pub star_leaves : (t : Triangle) → Contains x.triangles t → Leaves (patch_at g f) star x
  star_leaves t i a b c ab bc oa ob oc = ((λ m. by m (two_signs (area_of (patch_at g f) a b c) (together_area g s w order all star is f within a b c oa ob oc ab bc m))), corners_together a b c)
    where
      ac : a < c
      ac = omega (arith, ab, bc)

      by : AreTogether star a b c → (pos 0 <ℤ area_of (patch_at g f) a b c) ⊎ (pos 0 <ℤ neg_ℤ (area_of (patch_at g f) a b c)) → AreCorners x.triangles a b c
      by m (inl l) = (let u = left_triple t i a b c oa ob oc ab ac l m in (u.0, u.1, inl u.2))
      by m (inr l) =
          (let u = left_triple t i a c b oa oc ob ac ab (subst (λ z. pos 0 <ℤ z) (sym (area_odd (patch_at g f) a b c)) l) (m.0, m.1, m.2, m.4, m.3) in
          (u.0, u.1, inr u.2))

-- the star of heights that extend a choice leaves the triples of its items
pub star_induces : (g : Shape) (choice : List ℕ) (w : List ℤ) (order : List ℕ) (star : List (List ℕ)) → IsShape g → IsOrder (length g.points) order → Extends g w choice
    → IsStar g.pair.dual g.points w order star → Induces g star choice
star_induces g choice w order star s all extends is f within x item =
    let t = some_triple g s f within x.triangles item.is.fine in
    star_leaves g s w order all star is f within x item.is.fine (extends.lifts f within x item) t.0 t.1

-- The star of heights that extend a choice uses every point, so it is a fine regular star triangulation, and extendable choices are induced.
use Rattle.std.proofs.Common.{◌≡◌, ℕ, ◌<◌, ◌⊎◌, inl, inr, refl, sym, subst, arith, ℤ, ◌<ℤ◌, ◌≤ℤ◌, List, length}
use Rattle.std.specs.Prelude.{Contains, slice_index}
use Rattle.std.proofs.lemmas.Int.{ints}
use Rattle.ntfe_model.specs.Lists.{IsNumberOf}
use Rattle.ntfe_model.specs.Shapes.{Shape, IsShape}
use Rattle.ntfe_model.specs.Charts.{Patch, patch_at, IsOf, AreApart}
use Rattle.ntfe_model.specs.Triangulations.{IsFine}
use Rattle.ntfe_model.specs.Words.{IsItem}
use Rattle.ntfe_model.specs.Choices.{IsRegularBy, IsChoice, Extends, IsExtendable}
use Rattle.ntfe_model.specs.Stars.{AreTogether, IsOrder, IsStar, IsFrst, Induces, IsInduced, order_of}
use Rattle.ntfe_model.specs.declared.nogood.Push.TheVariants.{Up}
use Rattle.ntfe_model.specs.declared.triangle.Triangle.{Triangle}
use Rattle.ntfe_model.specs.declared.triangulation.Triangulation.{Triangulation}
use Rattle.ntfe_model.proofs.UnitTriples.{IsBeyond, corner_or_beyond}
use Rattle.ntfe_model.proofs.FoldPlanes.{AreFoldsPositive, above_gives_folds, level_of, highest_of, beyond_above}
use Rattle.star_builder.proofs.CentreTriples.{IsCornerOf}
use Rattle.star_builder.proofs.FaceLevels.{face_apart}
use Rattle.star_builder.proofs.Inducing.{some_triple}
use Rattle.star_builder.proofs.StarTriples.{item_together, star_induces}
use Rattle.star_builder.proofs.PointFaces.{point_on_face}
use Rattle.star_builder.proofs.StarListing.{star_exists, push_order}

-- each point of a face is a corner of a triple of an item that heights give: of one whose plane is highest there
corner_exists : (h : Patch) → AreApart h → (w : List ℤ) (x : Triangulation) → IsFine h x.triangles → IsRegularBy h w x → (t : Triangle) → Contains x.triangles t → (p : ℕ) → IsOf h p
    → (u : Triangle) × Contains x.triangles u × IsCornerOf u p
corner_exists h apart w x fine lifts t i p o =
    let r = highest_of (level_of h w p) x.triangles t i in
    (r.0, r.1, by r.0 r.1 r.2 (corner_or_beyond h apart r.0.a r.0.b r.0.c p (fine.unit r.0 r.1) o))
  where
    folds : AreFoldsPositive h w x
    folds = above_gives_folds h w x fine lifts

    clash : (y z : ℤ) → y <ℤ z → z ≤ℤ y → ⊥
    clash y z l k = absurd (omega (arith, ints, l, k))

    by : (m : Triangle) → Contains x.triangles m → ((u : Triangle) → Contains x.triangles u → level_of h w p u ≤ℤ level_of h w p m) → IsCornerOf m p ⊎ IsBeyond h m.a m.b m.c p → IsCornerOf m p
    by m c most (inl k) = k
    by m c most (inr b) = let u = beyond_above h w x fine folds m c p o b in absurd (clash (level_of h w p m) (level_of h w p u.0) u.2 (most u.0 u.1))

module _ (g : Shape) (s : IsShape g) (choice : List ℕ) (choices : IsChoice g choice) (w : List ℤ) (extends : Extends g w choice) (order : List ℕ) (is_order : IsOrder (length g.points) order)
    (star : List (List ℕ)) (is : IsStar g.pair.dual g.points w order star) where
  -- a member with all corners of a triple of an item
  triple_member : (f : ℕ) (within : f < length g.faces) (x : Triangulation) → IsFine (patch_at g f) x.triangles → IsRegularBy (patch_at g f) w x → (t : Triangle) → Contains x.triangles t
      → (k : ℕ) → IsCornerOf t k → (v : List ℕ) × Contains star v × Contains v k
  triple_member f within x fine lifts t i k corner = (m.0, m.1, has corner)
    where
      m : AreTogether star t.a t.b t.c
      m = item_together g s w order is_order star is f within x fine lifts t i t.a t.b t.c (inl (refl, refl, refl))

      moved : (j : ℕ) → k ≡ j → Contains m.0 j → Contains m.0 k
      moved j e c = let P : ℕ → Type 0 = Contains m.0 in subst P (sym e) c

      has : IsCornerOf t k → Contains m.0 k
      has (inl e) = moved t.a e m.2
      has (inr (inl e)) = moved t.b e m.3
      has (inr (inr e)) = moved t.c e m.4

  uses_all : (k : ℕ) → IsNumberOf g.points k → (v : List ℕ) × Contains star v × Contains v k
  uses_all k n = by (point_on_face g s k n)
    where
      by : (f : ℕ) × (f < length g.faces) × IsOf (patch_at g f) k → (v : List ℕ) × Contains star v × Contains v k
      by (f, within, o) = of_item (choices.items f within).1
        where
          of_item : (x : Triangulation) × IsItem (patch_at g f) (slice_index choice f) x → (v : List ℕ) × Contains star v × Contains v k
          of_item (x, item) =
              let fine = item.is.fine in
              let lifts = extends.lifts f within x item in
              let t = some_triple g s f within x.triangles fine in
              let u = corner_exists (patch_at g f) (face_apart g s f within) w x fine lifts t.0 t.1 k o in
              triple_member f within x fine lifts u.0 u.1 k u.2

  is_frst : IsFrst g.pair.dual g.points star
  is_frst = record { heights = w; order = order; heights_of = extends.heights; order_of_all = is_order; is = is; uses_all = uses_all }

-- the star of heights that extend a choice
pub extended_star : (g : Shape) (choice : List ℕ) (w : List ℤ) (order : List ℕ) (star : List (List ℕ)) → IsShape g → IsChoice g choice → Extends g w choice → IsOrder (length g.points) order
    → IsStar g.pair.dual g.points w order star → IsFrst g.pair.dual g.points star × Induces g star choice
extended_star g choice w order star s choices extends is_order is =
    (is_frst g s choice choices w extends order is_order star is, star_induces g choice w order star s is_order extends is)

pub extendable_induced : (g : Shape) (choice : List ℕ) → IsShape g → IsExtendable g choice → IsInduced g choice
extendable_induced g choice s e =
    let r = star_exists g.pair.dual g.points e.heights (order_of Up (length g.points)) in
    let t = extended_star g choice e.heights (order_of Up (length g.points)) r.0 s e.items e.extends (push_order Up (length g.points)) r.1 in
    record { items = e.items; star = r.0; frst = t.0; induces = t.1 }

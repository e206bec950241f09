-- The folds of a part's item: what is known of their factors and points, and when a form is one.
use Rattle.std.proofs.Common.{◌≡◌, ℕ, ◌<◌, inl, inr, sym, subst, length, pos, ◌+ℤ◌}
use Rattle.ntfe_nums.specs.Vectors.{vector_sum, multiple}
use Rattle.ntfe_model.specs.Shapes.{Shape, IsShape}
use Rattle.ntfe_model.specs.Charts.{Patch, patch_at, place, IsOf}
use Rattle.ntfe_model.specs.Words.{IsItem}
use Rattle.ntfe_model.specs.Choices.{IsFoldOf, IsSmallFold}
use Rattle.ntfe_model.specs.declared.triangulation.Triangulation.{Triangulation}
use Rattle.ntfe_model.specs.declared.nogood.Fold.{Fold}
use Rattle.ntfe_model.specs.declared.nogood.Part.{Part}
use Rattle.ntfe_model.proofs.Folds.{unit_corner}
use Rattle.ntfe_model.proofs.FoldSizes.{fold_small}
use Rattle.ntfe_model.proofs.GeometryPoints.{point_within, point_place, point_small, geometry_place_small}
use Rattle.ntfe_model.proofs.Items.{item_fixed}
use Rattle.farkas_check.specs.Folds.{HasThirds, IsSmallPoint, HasSmallPoints, IsBalanced}
use Rattle.farkas_check.specs.Parts.{IsFoldOfPart}

-- the four points of a form are points of the patch
pub record ArePointsOf (h : Patch) (r : Fold) : Type 0 where
  pub a : IsOf h r.a
  pub b : IsOf h r.b
  pub c : IsOf h r.c
  pub d : IsOf h r.d

-- the factors of a fold of any item of a two-face are small
pub fold_factors : (g : Shape) → IsShape g → (f n : ℕ) → f < length g.faces → (x : Triangulation) → IsItem (patch_at g f) n x → (r : Fold) → IsFoldOf (patch_at g f) x r → IsSmallFold r
fold_factors g s f n within x item r k = fold_small (patch_at g f) x r item.is.fine.unit (λ a o. point_small g s f within a o) k

module _ (g : Shape) (s : IsShape g) (p : Part) (within : p.face < length g.faces) (x : Triangulation) (item : IsItem (patch_at g p.face) p.item x) (r : Fold) where
  pub fold_of_item : IsFoldOfPart g p r → IsFoldOf (patch_at g p.face) x r
  fold_of_item k = let P : Triangulation → Type 0 = λ y. IsFoldOf (patch_at g p.face) y r in subst P (item_fixed (patch_at g p.face) p.item k.0 x k.1 item) k.2

  pub part_factors : IsFoldOfPart g p r → IsSmallFold r
  part_factors k = fold_factors g s p.face p.item within k.0 k.1 r k.2

  pub thirds_points : HasThirds x.triangles r → ArePointsOf (patch_at g p.face) r
  thirds_points (inl o) =
      let u = unit_corner (patch_at g p.face) o.0 r.a r.b r.c (item.is.fine.unit o.0 o.2) o.4 in
      let v = unit_corner (patch_at g p.face) o.1 r.b r.a r.d (item.is.fine.unit o.1 o.3) o.5 in
      record { a = u.points.0; b = u.points.1; c = u.points.2; d = v.points.2 }
  thirds_points (inr o) =
      let u = unit_corner (patch_at g p.face) o.0 r.a r.b r.d (item.is.fine.unit o.0 o.2) o.4 in
      let v = unit_corner (patch_at g p.face) o.1 r.b r.a r.c (item.is.fine.unit o.1 o.3) o.5 in
      record { a = u.points.0; b = u.points.1; c = v.points.2; d = u.points.2 }

  pub points_small : ArePointsOf (patch_at g p.face) r → HasSmallPoints g.points r
  points_small o = record { a = at r.a o.a; b = at r.b o.b; c = at r.c o.c; d = at r.d o.d }
    where
      at : (k : ℕ) → IsOf (patch_at g p.face) k → IsSmallPoint g.points k
      at k i = (point_within g s p.face within k i, geometry_place_small g s p.face within k i)

  module _ (o : ArePointsOf (patch_at g p.face) r) where
    same : (vector_sum (place (patch_at g p.face) r.c) (place (patch_at g p.face) r.d) ≡ vector_sum (multiple r.alpha (place (patch_at g p.face) r.a)) (multiple r.beta (place (patch_at g p.face) r.b))) ≡ IsBalanced g.points r
    same = λ i. vector_sum (point_place g s p.face within r.c o.c i) (point_place g s p.face within r.d o.d i)
        ≡ vector_sum (multiple r.alpha (point_place g s p.face within r.a o.a i)) (multiple r.beta (point_place g s p.face within r.b o.b i))

    pub part_balance : IsFoldOfPart g p r → IsBalanced g.points r
    part_balance k = let P : Type 0 → Type 0 = λ X. X in subst P same (fold_of_item k).balance

    pub part_fold : r.a < r.b → r.c < r.d → r.alpha +ℤ r.beta ≡ pos 2 → HasThirds x.triangles r → IsBalanced g.points r → IsFoldOfPart g p r
    part_fold l m two h e =
        let P : Type 0 → Type 0 = λ X. X in
        (x, item, record { edge = l; ordered = m; opposite = h; balance = subst P (sym same) e; two = two })

-- Heights extend a choice exactly where all its folds are positive.
use Rattle.std.proofs.Common.{◌≡◌, ℕ, ◌<◌, ◌↔◌, subst, arith, ℤ, pos, ◌<ℤ◌, List, length, get_or}
use Rattle.std.specs.Prelude.{All}
use Rattle.ntfe_model.specs.Shapes.{Shape, IsShape}
use Rattle.ntfe_model.specs.Charts.{patch_at}
use Rattle.ntfe_model.specs.Words.{IsItem}
use Rattle.ntfe_model.specs.Choices.{Extends, IsRegularBy, fold_value}
use Rattle.ntfe_model.specs.Keys.{AreHeadFolds}
use Rattle.ntfe_model.specs.declared.triangulation.Triangulation.{Triangulation}
use Rattle.ntfe_model.specs.declared.nogood.Fold.{Fold}
use Rattle.ntfe_model.proofs.Items.{item_fixed}
use Rattle.ntfe_model.proofs.FoldPlanes.{above_gives_folds}
use Rattle.face_chart.proofs.FaceLemmas.{shape_apart}
use Rattle.fold_rows.proofs.RowLemmas.{listed_exactly_regular}
use Rattle.node_probe.proofs.Heads.{head_at, head_all}

module _ (g : Shape) (s : IsShape g) (w : List ℤ) (heights : length w ≡ length g.points) (choice : List ℕ) (faces : length choice ≡ length g.faces) (rs : List Fold) (folds : AreHeadFolds g 0 choice rs) where
  abbrev IsPositive : Fold → Type 0
  IsPositive r = pos 0 <ℤ fold_value w r

  pub folds_extend : All IsPositive rs → Extends g w choice
  folds_extend a = record { heights = heights; lifts = at }
    where
      at : (f : ℕ) → f < length g.faces → (x : Triangulation) → IsItem (patch_at g f) (get_or choice f 0) x → IsRegularBy (patch_at g f) w x
      at f l x i =
          let h = head_at g IsPositive choice rs folds a f (omega (arith, l, faces)) in
          let e = item_fixed (patch_at g f) (get_or choice f 0) h.item x h.is_item i in
          let r = (listed_exactly_regular (patch_at g f) h.item (shape_apart g s f l) h.is_item.is.fine h.folds h.are_folds w).0 h.all in
          let P : Triangulation → Type 0 = IsRegularBy (patch_at g f) w in
          subst P e r

  pub extends_folds : Extends g w choice → All IsPositive rs
  extends_folds h =
      head_all g IsPositive choice rs folds (λ f l x i r k. above_gives_folds (patch_at g f) w x i.is.fine (h.lifts f (omega (arith, l, faces)) x i) r k)

  -- all folds of the choice are positive exactly where the heights extend it
  pub folds_exactly_extend : All IsPositive rs ↔ Extends g w choice
  folds_exactly_extend = (folds_extend, extends_folds)

-- Each extendable choice has its heights, and so its block: the stated solver without a width comes to an end on the folds of a choice,
-- with heights exactly where the choice is extendable.
--     choice_folds      the folds of a choice exist
--     choice_decided      a choice has heights of the stated solver that extend it, or no heights extend it
--     extendable_block      the block of an extendable choice
use Rattle.std.proofs.Common.{◌≡◌, ℕ, suc, ◌+◌, ◌<◌, ◌⊎◌, inl, inr, refl, subst, arith, ℤ, List, [], ◌∷◌, ◌++◌, length, map, get_or, None}
use Rattle.std.specs.Prelude.{Option}
use Rattle.ntfe_model.specs.Shapes.{Shape, IsShape}
use Rattle.ntfe_model.specs.Charts.{patch_at}
use Rattle.ntfe_model.specs.Words.{HasItemAt}
use Rattle.ntfe_model.specs.Choices.{IsChoice, Extends, IsExtendable}
use Rattle.ntfe_model.specs.Solver.{fold_row, IsFeasible, IsInfeasible}
use Rattle.ntfe_model.specs.Keys.{AreHeadFolds, AreHeightsOf, IsAfter}
use Rattle.ntfe_model.specs.RunText.{Form, Block, IsBlockOf}
use Rattle.ntfe_model.specs.declared.nogood.Fold.{Fold}
use Rattle.face_chart.proofs.FineSets.{folds_exist}
use Rattle.strict_solver.proofs.Ending.{comes_to_end}
use Rattle.strict_solver.proofs.Outcome.{are_rows}
use Rattle.node_probe.proofs.Extending.{extends_folds}
use Rattle.node_probe.proofs.Lifted.{lifted_not_infeasible}
use Rattle.steal_workers.proofs.ClassBlocks.{star_at, with_star}
use Rattle.steal_workers.proofs.HeightsExtend.{choice_over, feasible_extends}

-- the heights of the stated solver, which extend the choice
abbrev pub HasHeights : Shape → List ℕ → Type 0
HasHeights g choice = (w : List ℤ) × AreHeightsOf g choice w × Extends g w choice

module _ (g : Shape) where
  head_folds : (f : ℕ) (ns : List ℕ) → ((j : ℕ) → j < length ns → HasItemAt (patch_at g (f + j)) (get_or ns j 0)) → (rs : List Fold) × AreHeadFolds g f ns rs
  head_folds f [] each = ([], refl)
  head_folds f (n ∷ ns) each =
      let here : f + 0 ≡ f = omega arith in
      let item = subst (λ k. HasItemAt (patch_at g k) n) here (each 0 (omega arith)) in
      let first = folds_exist (patch_at g f) item.0 item.1.is.fine in
      let rest = head_folds (f + 1) ns (λ j l.
      (let there : f + suc j ≡ f + 1 + j = omega arith in
      subst (λ k. HasItemAt (patch_at g k) (get_or ns j 0)) there (each (suc j) (omega (arith, l))))) in
      (first.0 ++ rest.0, (item.0, first.0, rest.0, item.1, first.1, rest.1, refl))

  pub choice_folds : (choice : List ℕ) → IsChoice g choice → (rs : List Fold) × AreHeadFolds g 0 choice rs
  choice_folds choice items = head_folds 0 choice at
    where
      at : (j : ℕ) → j < length choice → HasItemAt (patch_at g (0 + j)) (get_or choice j 0)
      at j l =
          let same : j ≡ 0 + j = omega arith in
          let e = items.faces in
          subst (λ k. HasItemAt (patch_at g k) (get_or choice j 0)) same (items.items j (omega (arith, l, e))).1

module _ (g : Shape) (s : IsShape g) where
  pub choice_decided : (choice : List ℕ) → IsChoice g choice → HasHeights g choice ⊎ ((w : List ℤ) → Extends g w choice → ⊥)
  choice_decided choice items = by (comes_to_end n (map (fold_row n) rs) (are_rows n rs))
    where
      n : ℕ
      n = length g.points

      rs : List Fold
      rs = (choice_folds g choice items).0

      folds : AreHeadFolds g 0 choice rs
      folds = (choice_folds g choice items).1

      by : ((w : List ℤ) × IsFeasible n (map (fold_row n) rs) None w) ⊎ ((ms : List (ℕ × ℤ)) × IsInfeasible n (map (fold_row n) rs) None ms) → HasHeights g choice ⊎ ((w : List ℤ) → Extends g w choice → ⊥)
      by (inl (w, h)) = inl (w, (rs, folds, h), feasible_extends g s choice items rs folds w h)
      by (inr (ms, h)) = inr (λ w e. lifted_not_infeasible n None rs ms (choice_over g s choice items rs folds) (w, e.heights, extends_folds g s w e.heights choice items.faces rs folds e) h)

  pub extendable_heights : (choice : List ℕ) → IsExtendable g choice → HasHeights g choice
  extendable_heights choice e = by (choice_decided choice e.items)
    where
      by : HasHeights g choice ⊎ ((w : List ℤ) → Extends g w choice → ⊥) → HasHeights g choice
      by (inl h) = h
      by (inr never) = absurd (never e.heights e.extends)

  -- the heights of a choice with their star are its block
  pub heights_block : (form : Form) (start : Option (List ℕ)) (choice : List ℕ) → IsChoice g choice → IsAfter start choice → HasHeights g choice → (b : Block) × (b.choice ≡ choice) × IsBlockOf g form start b
  heights_block form start choice items after (w, are, extends) =
      let star = star_at g form w in (
        record { choice = choice; heights = w; star = star.0 },
        refl,
        record {
          extendable = record { items = items; heights = w; extends = extends };
          after = after;
          heights = are;
          star = (with_star g form choice w star.0 star.1).starred;
        },
      )

  pub extendable_block : (form : Form) (start : Option (List ℕ)) (choice : List ℕ) → IsExtendable g choice → IsAfter start choice → (b : Block) × (b.choice ≡ choice) × IsBlockOf g form start b
  extendable_block form start choice e after = heights_block form start choice e.items after (extendable_heights choice e)

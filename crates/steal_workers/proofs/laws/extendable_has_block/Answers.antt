use Rattle.std.proofs.Common.{inl, inr, ◌⊎◌, ℕ, ℤ, List}
use Rattle.ntfe_model.specs.Shapes.{Shape, IsShape}
use Rattle.ntfe_model.specs.Choices.{IsChoice, Extends, IsExtendable}
use Rattle.steal_workers.proofs.ClassBlocks.{block_fixed}
use Rattle.steal_workers.proofs.ExtendableBlocks.{HasHeights, choice_decided, extendable_heights, extendable_block}
use Rattle.steal_workers.proofs.laws.extendable_has_block.Goals as goal

decided : (g : Shape) (choice : List ℕ) → IsShape g → IsChoice g choice → HasHeights g choice ⊎ ¬ (IsExtendable g choice)
decided g choice s items = by (choice_decided g s choice items)
  where
    by : HasHeights g choice ⊎ ((w : List ℤ) → Extends g w choice → ⊥) → HasHeights g choice ⊎ ¬ (IsExtendable g choice)
    by (inl h) = inl h
    by (inr never) = inr (λ e. never e.heights e.extends)

pub returns : goal.returns
returns c = record {
  decided = decided;
  heights = λ g choice s e. extendable_heights g s choice e;
  block = λ g form start choice s e after. extendable_block g s form start choice e after;
  only = block_fixed;
}

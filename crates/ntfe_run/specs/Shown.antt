-- That a text shows a choice.
use Rattle.std.specs.Prelude.{◌≡◌, ℕ, List, ◌++◌}
use Rattle.ntfe_model.specs.Shapes.{Shape}
use Rattle.ntfe_model.specs.Choices.{Extends}
use Rattle.ntfe_model.specs.Keys.{AreHeightsOf}
use Rattle.ntfe_model.specs.RunText.{Form, Block, IsStarOf, block_text}

-- the block of the choice stands in the text, with heights of the stated solver that extend it and, where stars are written, their star
pub record ShowsChoice (g : Shape) (form : Form) (choice text : List ℕ) : Type 0 where
  pub block : Block
  pub of : block.choice ≡ choice
  pub heights : AreHeightsOf g choice block.heights
  pub extends : Extends g block.heights choice
  pub star : IsStarOf g form block block.star
  pub before : List ℕ
  pub behind : List ℕ
  pub stands : text ≡ before ++ block_text block ++ behind

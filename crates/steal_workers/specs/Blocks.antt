-- The writing of one block.
use Rattle.std.specs.Prelude.{◌≡◌, ℕ, ℤ, List, [], Option, Some, Result}
use Rattle.io_edge.specs.Lines.{WritesText}
use Rattle.io_edge.specs.declared.line_fault.LineFault.{LineFault}
use Rattle.ntfe_model.specs.Shapes.{Shape}
use Rattle.ntfe_model.specs.RunText.{Form, Block, IsStarOf, block_text}
use Rattle.choice_board.specs.Settling.{counted}
use Rattle.choice_board.specs.declared.outcome.Outcome.{Outcome}
use Rattle.choice_board.specs.declared.outcome.Outcome.TheVariants as outcome
use Rattle.steal_workers.specs.Listings.{Progress}

-- the block of a class, with its star where stars are written
pub record IsClassBlock (g : Shape) (form : Form) (choice : List ℕ) (w : List ℤ) (b : Block) : Type 0 where
  pub of : b.choice ≡ choice
  pub lifted : b.heights ≡ w
  pub starred : IsStarOf g form b b.star

-- the star of the heights, where stars are written
abbrev pub IsStarAt : Shape → Form → List ℤ → Option (List (List ℕ)) → Type 0
IsStarAt g form w star = IsStarOf g form (record { choice = []; heights = w; star = star }) star

-- the class's block was written, or a prefix of it where that failed
pub record WritesBlock (g : Shape) (form : Form) (choice : List ℕ) (w : List ℤ) (before now : Option (List ℕ)) (faults faults' : ℕ) (result : Result (Unit {0}) LineFault) : Type 0 where
  pub block : Block
  pub is : IsClassBlock g form choice w block
  pub writes : WritesText before now faults faults' result (block_text block)

-- the class is the last one now, and is counted
abbrev pub MovesTo : Progress → Progress → Outcome → Type 0
MovesTo p q (outcome.Class choice w) = q ≡ record p { last = Some choice; count = counted p.count }
MovesTo p q o = ⊥

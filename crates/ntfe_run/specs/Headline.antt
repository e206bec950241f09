-- The headline: a listing that comes to its end lists exactly the choices that fine regular star triangulations induce.
use Rattle.std.specs.Prelude.{◌≡◌, ℕ, cond, List, Some, None, length}
use Rattle.ntfe_model.specs.Lists.{IsListing, IsBelow}
use Rattle.ntfe_model.specs.Shapes.{Shape}
use Rattle.ntfe_model.specs.Choices.{Extends}
use Rattle.ntfe_model.specs.Keys.{IsAfter, AreHeightsOf}
use Rattle.ntfe_model.specs.Stars.{IsStar, IsFrst, IsInduced, Induces, order_of}
use Rattle.ntfe_model.specs.declared.nogood.Push.{Push}
use Rattle.ntfe_model.specs.RunText.{Form, Block, Kept, text_without_limit}

-- the star of the heights with this order of pushing is such a triangulation, and induces the choice
pub record IsInducingStar (g : Shape) (b : Block) (push : Push) (star : List (List ℕ)) : Type 0 where
  pub is_star : IsStar g.pair.dual g.points b.heights (order_of push (length g.points)) star
  pub frst : IsFrst g.pair.dual g.points star
  pub induces : Induces g star b.choice

-- the block of a choice that some fine regular star triangulation induces. Its heights are those of the stated solver, and extend the choice;
-- with either order of pushing their star is such a triangulation, and that with the form's order is shown where stars are written
pub record IsInducedBlock (g : Shape) (form : Form) (b : Block) : Type 0 where
  pub induced : IsInduced g b.choice
  pub heights : AreHeightsOf g b.choice b.heights
  pub extends : Extends g b.heights b.choice
  pub star : Push → List (List ℕ)
  pub either : (push : Push) → IsInducingStar g b push (star push)
  pub shown : b.star ≡ cond form.stars (Some (star form.push)) None

-- the text lists exactly these blocks after what is kept, each choice once, in lexicographic order
pub record IsHeadlineText (form : Form) (g : Shape) (kept : Kept) (text : List ℕ) : Type 0 where
  pub blocks : List Block
  pub are : IsListing (λ b c. IsBelow b.choice c.choice) (λ b. IsInducedBlock g form b × IsAfter kept.last b.choice) blocks
  pub is : text ≡ text_without_limit g.pair form kept blocks

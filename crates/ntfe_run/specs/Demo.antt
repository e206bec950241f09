-- What `demo` counts, and the lines that it writes.
use Rattle.std.specs.Prelude.{◌≡◌, ◌⊎◌, ℕ, ◌<◌, false, List, [], ◌∷◌, ◌++◌, length, codes, decimal, Option, None, unwrap_or}
use Rattle.ntfe_model.specs.Lists.{IsListing, IsBelow}
use Rattle.ntfe_model.specs.Shapes.{Shape, IsShape}
use Rattle.ntfe_model.specs.declared.nogood.Push.TheVariants.{Up}
use Rattle.ntfe_model.specs.RunText.{Form, Block, IsBlockOf, spaced, number_line}
use Rattle.polygon_demo.specs.Polygons.{demo_pair}
use Rattle.steal_workers.specs.Listings.{IsUpTo, last_choice}
use Rattle.ntfe_run.specs.Headline.{IsInducedBlock}

-- the product of polygon 1 and the polygon with this number, with its points and two-faces
pub record IsDemoOf (number : ℕ) (g : Shape) : Type 0 where
  pub pair : g.pair ≡ demo_pair number
  pub shape : IsShape g

-- the greatest number of classes that are counted
abbrev pub demo_limit : ℕ
demo_limit = 1000

-- the classes are listed with pushing up and without stars
abbrev pub demo_form : Form
demo_form = record { push = Up; stars = false }

-- ---- the lines

-- the number of the demo, and the sizes of its pair and geometry
abbrev pub size_lines : ℕ → Shape → List ℕ
size_lines number g =
    number_line (codes "demo") (number ∷ [])
    ++ number_line (codes "vertices") (length g.pair.vertices ∷ [])
    ++ number_line (codes "dual") (length g.pair.dual ∷ [])
    ++ number_line (codes "points") (length g.points ∷ [])
    ++ number_line (codes "faces") (length g.faces ∷ [])

-- how many classes there are, and by `end` or `limit` how the counting came to its end
abbrev pub classes_line : ℕ → List ℕ → List ℕ
classes_line count how = codes "classes" ++ spaced (decimal count) ++ spaced how ++ 10 ∷ []

-- the items of the last choice that was counted, none where there is none
abbrev pub last_line : Option (List ℕ) → List ℕ
last_line last = number_line (codes "last") (unwrap_or last [])

-- the seven lines
abbrev pub demo_text : ℕ → Shape → ℕ → List ℕ → Option (List ℕ) → List ℕ
demo_text number g count how last = size_lines number g ++ (classes_line count how ++ last_line last)

-- ---- what is counted

-- exactly the blocks with P are counted, fewer than the limit
pub record IsWholeCount (P : Block → Type 0) (number : ℕ) (g : Shape) (text : List ℕ) : Type 0 where
  pub blocks : List Block
  pub are : IsListing (λ b c. IsBelow b.choice c.choice) P blocks
  pub few : length blocks < demo_limit
  pub is : text ≡ demo_text number g (length blocks) (codes "end") (last_choice None blocks)

-- exactly the blocks with P up to one of them are counted, as many as the limit
pub record IsLimitedCount (P : Block → Type 0) (number : ℕ) (g : Shape) (text : List ℕ) : Type 0 where
  pub last : Option (List ℕ)
  pub blocks : List Block
  pub are : IsListing (λ b c. IsBelow b.choice c.choice) (λ b. P b × IsUpTo last b.choice) blocks
  pub last_is : last ≡ last_choice None blocks
  pub count : length blocks ≡ demo_limit
  pub is : text ≡ demo_text number g demo_limit (codes "limit") last

abbrev pub IsCountOf : (Block → Type 0) → ℕ → Shape → List ℕ → Type 0
IsCountOf P number g text = IsWholeCount P number g text ⊎ IsLimitedCount P number g text

-- the text: exactly the extendable choices are counted, all of them or the first ones
abbrev pub IsDemoText : ℕ → Shape → List ℕ → Type 0
IsDemoText number g = IsCountOf (IsBlockOf g demo_form None) number g

-- the same list in the words of triangulations: exactly the choices that fine regular star triangulations induce
abbrev pub IsDemoHeadline : ℕ → Shape → List ℕ → Type 0
IsDemoHeadline number g = IsCountOf (IsInducedBlock g demo_form) number g

-- where the counting stops at a choice or a key, nothing is written; all extendable choices below it are counted, fewer than the limit
pub record IsStoppedCount (g : Shape) (bound : List ℕ) (text : List ℕ) : Type 0 where
  pub blocks : List Block
  pub are : IsListing (λ b c. IsBelow b.choice c.choice) (λ b. IsBlockOf g demo_form None b × IsBelow b.choice bound) blocks
  pub few : length blocks < demo_limit
  pub nothing : text ≡ []

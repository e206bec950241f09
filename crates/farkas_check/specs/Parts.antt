-- The parts of a nogood whose items a book keeps.
use Rattle.std.specs.Prelude.{ℕ, ◌<◌, ◌≤◌, length, Option, All}
use Rattle.ntfe_model.specs.Shapes.{Shape}
use Rattle.ntfe_model.specs.Charts.{patch_at}
use Rattle.ntfe_model.specs.Words.{IsItem, HasItem}
use Rattle.ntfe_model.specs.Choices.{IsFoldOf}
use Rattle.ntfe_model.specs.Keys.{item_limit}
use Rattle.ntfe_model.specs.Books.{KeepsItem}
use Rattle.ntfe_model.specs.declared.triangulation.Triangulation.{Triangulation}
use Rattle.ntfe_model.specs.declared.nogood.Fold.{Fold}
use Rattle.ntfe_model.specs.declared.nogood.Part.{Part}
use Rattle.ntfe_model.specs.declared.nogood.Nogood.{Nogood}

-- the part's two-face exists, its number is at most the item limit, and its item is kept
abbrev pub KeepsPart : (ℕ → ℕ → Option Triangulation) → Shape → Part → Type 0
KeepsPart keeps g p = (p.face < length g.faces) × (p.item ≤ item_limit g) × KeepsItem keeps p.face p.item

-- each part's item is kept
abbrev pub KeepsParts : (ℕ → ℕ → Option Triangulation) → Shape → Nogood → Type 0
KeepsParts keeps g n = All (KeepsPart keeps g) n.parts

-- there is such a two-face, and it has such an item
abbrev pub HasItemOf : Shape → Part → Type 0
HasItemOf g p = (p.face < length g.faces) × HasItem g p.face p.item

-- the form is a fold of the part's item
abbrev pub IsFoldOfPart : Shape → Part → Fold → Type 0
IsFoldOfPart g p r = (x : Triangulation) × IsItem (patch_at g p.face) p.item x × IsFoldOf (patch_at g p.face) x r

-- Whether the item of a part was fetched.
use Rattle.std.specs.Prelude.{ℕ, ◌<◌, ◌⊎◌, Bool, List, Option, Contains, MatchBool}
use Rattle.ntfe_model.specs.Shapes.{Shape}
use Rattle.ntfe_model.specs.Keys.{item_limit}
use Rattle.ntfe_model.specs.declared.triangulation.Triangulation.{Triangulation}
use Rattle.ntfe_model.specs.declared.nogood.Part.{Part}
use Rattle.farkas_check.specs.Parts.{KeepsPart, HasItemOf}

-- the part's item is kept, or there is none, or its number is over the item limit
abbrev pub IsFetched : (ℕ → ℕ → Option Triangulation) → Shape → Part → Bool → Type 0
IsFetched keeps g p found = MatchBool found (KeepsPart keeps g p) ((¬ (HasItemOf g p)) ⊎ (item_limit g < p.item))

-- the item of some part is not, or its number is over the item limit
abbrev pub HasUnfetched : Shape → List Part → Type 0
HasUnfetched g ps = (p : Part) × Contains ps p × ((¬ (HasItemOf g p)) ⊎ (item_limit g < p.item))

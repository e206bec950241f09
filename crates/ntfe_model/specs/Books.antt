-- What a book keeps of the items of a geometry.
use Rattle.std.specs.Prelude.{◌≡◌, ℕ, Option, Some}
use Rattle.ntfe_model.specs.declared.triangulation.Triangulation.{Triangulation}

-- an item is kept for the two-face and the number
abbrev pub KeepsItem : (ℕ → ℕ → Option Triangulation) → ℕ → ℕ → Type 0
KeepsItem keeps face number = (x : Triangulation) × (keeps face number ≡ Some x)

-- all that was kept before is kept
abbrev pub KeepsAll : (ℕ → ℕ → Option Triangulation) → (ℕ → ℕ → Option Triangulation) → Type 0
KeepsAll before after = (face number : ℕ) (x : Triangulation) → before face number ≡ Some x → after face number ≡ Some x

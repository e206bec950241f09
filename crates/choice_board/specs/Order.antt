-- When a recorded outcome comes before all that is open.
use Rattle.std.specs.Prelude.{◌≡◌, ℕ, List, [], ◌∷◌, ◌++◌, All}
use Rattle.ntfe_model.specs.Lists.{IsBelow}
use Rattle.choice_board.specs.declared.record.Record.{Record}

-- the last of the row is below all the keys
abbrev pub ComesFirst : List Record → List (List ℕ) → Type 0
ComesFirst recorded keys = (rest : List Record) × (r : Record) × (recorded ≡ rest ++ r ∷ []) × All (IsBelow r.key) keys

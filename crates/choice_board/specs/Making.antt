-- What becomes of a closed key, and what is new beside it.
use Rattle.std.specs.Prelude.{ℕ, List, [], ◌∷◌, Option, Some, None}
use Rattle.ntfe_model.specs.declared.nogood.Nogood.{Nogood}
use Rattle.choice_board.specs.Places.{raised, first_under}
use Rattle.choice_board.specs.declared.opening.Made.{Made}
use Rattle.choice_board.specs.declared.opening.Made.TheVariants.{Nothing, Raised, Told, Blocked}
use Rattle.choice_board.specs.declared.record.Record.{Record}
use Rattle.choice_board.specs.declared.verdict.Verdict.{Verdict}
use Rattle.choice_board.specs.declared.verdict.Verdict.TheVariants.{End, Pruned, Class, Wide, Far, Descend}

-- of the keys that the verdict opens, the one beside the key itself
abbrev pub new_by : List ℕ → Verdict → Option (List ℕ)
new_by key End = None
new_by key (Pruned n) = Some (raised key)
new_by key (Class w) = Some (raised key)
new_by key (Wide step number) = Some (raised key)
new_by key Far = None
new_by key Descend = Some (first_under key)

-- the other one: the key itself, raised
abbrev pub raised_by : List ℕ → Verdict → Option (List ℕ)
raised_by key End = None
raised_by key (Pruned n) = None
raised_by key (Class w) = None
raised_by key (Wide step number) = None
raised_by key Far = None
raised_by key Descend = Some (raised key)

-- the key that is open again
abbrev pub key_made : List ℕ → Made → Option (List ℕ)
key_made key Nothing = None
key_made key Raised = Some (raised key)
key_made key (Told found) = None
key_made key (Blocked n) = None

-- the outcome that is recorded
abbrev pub record_made : List ℕ → Made → Option Record
record_made key Nothing = None
record_made key Raised = None
record_made key (Told found) = Some (record { key = key; found = found })
record_made key (Blocked n) = None

-- the key with the certificate that blocks it
abbrev pub pruned_made : List ℕ → Made → List (List ℕ × Nogood)
pruned_made key Nothing = []
pruned_made key Raised = []
pruned_made key (Told found) = []
pruned_made key (Blocked n) = (key, n) ∷ []

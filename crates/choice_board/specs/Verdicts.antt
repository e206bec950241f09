-- What a verdict says of a key, and what it does to it.
use Rattle.std.specs.Prelude.{ℕ, List, [], ◌∷◌, Option, Some, None}
use Rattle.ntfe_model.specs.Shapes.{Shape}
use Rattle.ntfe_model.specs.Keys.{IsEnd, IsFar, IsPruned, IsClass, IsWideKey, IsInner}
use Rattle.ntfe_model.specs.declared.nogood.Nogood.{Nogood}
use Rattle.choice_board.specs.Places.{raised, first_under}
use Rattle.choice_board.specs.declared.verdict.Verdict.{Verdict}
use Rattle.choice_board.specs.declared.verdict.Verdict.TheVariants.{End, Pruned, Class, Wide, Far, Descend}
use Rattle.choice_board.specs.declared.record.Record.{Record}
use Rattle.choice_board.specs.declared.record.Found.TheVariants.{Class as FoundClass, Wide as FoundWide, Far as FoundFar}

-- the verdict is true of the key
abbrev pub IsTrueOf : Shape → List ℕ → Verdict → Type 0
IsTrueOf g key End = IsEnd g key
IsTrueOf g key (Pruned n) = IsPruned g key n
IsTrueOf g key (Class w) = IsClass g key w
IsTrueOf g key (Wide step number) = IsWideKey g key step number
IsTrueOf g key Far = IsFar g key
IsTrueOf g key Descend = IsInner g key

-- the keys that are opened where the key is closed, from the least up
abbrev pub opened_by : List ℕ → Verdict → List (List ℕ)
opened_by key End = []
opened_by key (Pruned n) = raised key ∷ []
opened_by key (Class w) = raised key ∷ []
opened_by key (Wide step number) = raised key ∷ []
opened_by key Far = []
opened_by key Descend = first_under key ∷ raised key ∷ []

-- the outcome that is recorded
abbrev pub recorded_by : List ℕ → Verdict → Option Record
recorded_by key End = None
recorded_by key (Pruned n) = None
recorded_by key (Class w) = Some (record { key = key; found = FoundClass key w })
recorded_by key (Wide step number) = Some (record { key = key; found = FoundWide key step number })
recorded_by key Far = Some (record { key = key; found = FoundFar })
recorded_by key Descend = None

-- the key with the certificate that blocks it
abbrev pub pruned_by : List ℕ → Verdict → List (List ℕ × Nogood)
pruned_by key End = []
pruned_by key (Pruned n) = (key, n) ∷ []
pruned_by key (Class w) = []
pruned_by key (Wide step number) = []
pruned_by key Far = []
pruned_by key Descend = []

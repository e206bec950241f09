-- A source and a sink in memory, whose calls with certain numbers fail.
use Rattle.std.specs.Prelude.{◌≡◌, ℕ, ◌-◌, ◌≤◌, ◌⊎◌, min, List, ◌++◌, length, take, drop, Contains, Result, MatchResult}
use Rattle.io_edge.specs.Causes.{raised}

-- what a source has left, how many bytes it gives at most at once, how many calls were made, which calls fail, and how many have failed
pub record SourceState : Type 0 where
  pub left : List ℕ
  pub step : ℕ
  pub calls : ℕ
  pub failing : List ℕ
  pub faults : ℕ

-- a call gives the next bytes, as many as the step and the buffer allow; one of the failing calls gives none, and is counted
abbrev pub Gives : {E : Type 0} → SourceState → SourceState → Result ℕ E → ℕ → Type 0
Gives old new result room =
    MatchResult result
    (λ n. ¬ (Contains old.failing old.calls) × (n ≡ min (length old.left) (min old.step room))
    × (new ≡ record old { left = drop n old.left; calls = raised old.calls }))
    (λ _. Contains old.failing old.calls × (new ≡ record old { calls = raised old.calls; faults = raised old.faults }))

-- what a sink has taken, how many bytes it has room for in all, how many calls were made, which calls fail, and how many have failed
pub record SinkState : Type 0 where
  pub taken : List ℕ
  pub room : ℕ
  pub calls : ℕ
  pub failing : List ℕ
  pub faults : ℕ

-- the next call fails: it is one of the failing calls, or finds no room
abbrev pub Refuses : SinkState → Type 0
Refuses s = Contains s.failing s.calls ⊎ (s.room ≤ length s.taken)

-- a call takes as much of the bytes as the room leaves; one that fails takes none, and is counted
abbrev pub Takes : {E : Type 0} → SinkState → SinkState → Result ℕ E → List ℕ → Type 0
Takes old new result bytes =
    MatchResult result
    (λ n. ¬ (Refuses old) × (n ≡ min (length bytes) (old.room - length old.taken))
    × (new ≡ record old { taken = old.taken ++ take n bytes; calls = raised old.calls }))
    (λ _. Refuses old × (new ≡ record old { calls = raised old.calls; faults = raised old.faults }))

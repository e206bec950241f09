-- What settling a key does to a board.
use Rattle.std.specs.Prelude.{◌≡◌, ◌≢◌, ℕ, ◌+◌, ◌^◌, ◌⊎◌, ◌↔◌, nat_lt, cond, Bool, true, false, List, ◌++◌, Some, Contains}
use Rattle.choice_board.specs.Verdicts.{opened_by, recorded_by, pruned_by}
use Rattle.choice_board.specs.States.{State}
use Rattle.choice_board.specs.declared.record.Record.{Record}
use Rattle.choice_board.specs.declared.totals.Totals.{Totals}
use Rattle.choice_board.specs.declared.verdict.Settled.{Settled}
use Rattle.choice_board.specs.declared.verdict.Settled.TheVariants.{Stale, Taken}
use Rattle.choice_board.specs.declared.verdict.Verdict.{Verdict}
use Rattle.choice_board.specs.declared.verdict.Verdict.TheVariants.{End, Pruned, Class, Wide, Far, Descend}

-- one more, up to 2^63
abbrev pub counted : ℕ → ℕ
counted n = cond (nat_lt n (2 ^ 63)) (n + 1) n

-- the totals where one more verdict came too late
abbrev pub totals_stale : Totals → Totals
totals_stale c = record c { stale = counted c.stale }

-- the totals where one more key is closed with the verdict
abbrev pub totals_taken : Totals → Verdict → Totals
totals_taken c End = record c { settled = counted c.settled }
totals_taken c (Pruned n) = record c { settled = counted c.settled; pruned = counted c.pruned }
totals_taken c (Class w) = record c { settled = counted c.settled; classes = counted c.classes }
totals_taken c (Wide step number) = record c { settled = counted c.settled }
totals_taken c Far = record c { settled = counted c.settled }
totals_taken c Descend = record c { settled = counted c.settled }

-- the key is closed with the verdict, and all else stays
pub record IsSettled (s t : State) (key : List ℕ) (v : Verdict) : Type 0 where
  -- the key leaves the open keys, and those that the verdict opens come
  pub open_keys : (j : List ℕ) → Contains t.open_keys j ↔ ((Contains s.open_keys j × (j ≢ key)) ⊎ Contains (opened_by key v) j)
  -- an outcome is recorded
  pub recorded : (r : Record) → Contains t.recorded r ↔ (Contains s.recorded r ⊎ (recorded_by key v ≡ Some r))
  pub pruned : t.pruned ≡ s.pruned ++ pruned_by key v
  pub totals : t.totals ≡ totals_taken s.totals v
  pub geometry : t.geometry ≡ s.geometry
  pub last : t.last ≡ s.last
  pub stop : t.stop ≡ s.stop
  pub closed : t.closed ≡ s.closed

-- a verdict on a key that is not open is counted, and nothing else changes
abbrev pub IsStale : State → State → List ℕ → Type 0
IsStale s t key = ¬ (Contains s.open_keys key) × (t ≡ record s { totals = totals_stale s.totals })

-- whether the key was open: it is closed with the verdict then
abbrev pub IsKeySettled : State → State → List ℕ → Verdict → Bool → Type 0
IsKeySettled s t key v true = Contains s.open_keys key × IsSettled s t key v
IsKeySettled s t key v false = IsStale s t key

-- the same, with the keys that were opened
abbrev pub IsSettledAs : State → State → List ℕ → Verdict → Settled → Type 0
IsSettledAs s t key v Stale = IsStale s t key
IsSettledAs s t key v (Taken opened) = Contains s.open_keys key × IsSettled s t key v × (opened ≡ opened_by key v)

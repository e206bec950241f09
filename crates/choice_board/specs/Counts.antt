-- What the totals say of the calls on a board.
use Rattle.std.specs.Prelude.{◌≡◌, ℕ, ◌^◌, min, Bool, true, false, List, count_by}
use Rattle.choice_board.specs.Courses.{Event, settles, tells}
use Rattle.choice_board.specs.declared.outcome.Outcome.TheVariants.{Class as TellsClass}
use Rattle.choice_board.specs.declared.totals.Totals.{Totals}
use Rattle.choice_board.specs.declared.verdict.Settled.TheVariants.{Stale, Taken}
use Rattle.choice_board.specs.declared.verdict.Verdict.TheVariants.{Pruned, Class}

-- a key was closed
abbrev pub is_taken : Event → Bool
is_taken (settles key v (Taken opened)) = true
is_taken e = false

-- a verdict came on a key that was not open
abbrev pub is_stale : Event → Bool
is_stale (settles key v Stale) = true
is_stale e = false

-- a class was recorded
abbrev pub is_class : Event → Bool
is_class (settles key (Class w) (Taken opened)) = true
is_class e = false

-- a key was pruned
abbrev pub is_pruned : Event → Bool
is_pruned (settles key (Pruned n) (Taken opened)) = true
is_pruned e = false

-- a class was handed out
abbrev pub is_written : Event → Bool
is_written (tells (TellsClass choice w)) = true
is_written e = false

-- how many of the events pass, up to 2^63
abbrev pub capped : (Event → Bool) → List Event → ℕ
capped test events = min (count_by test events) (2 ^ 63)

-- the totals count the events, each up to 2^63
pub record AreCounted (events : List Event) (totals : Totals) : Type 0 where
  pub settled : totals.settled ≡ capped is_taken events
  pub stale : totals.stale ≡ capped is_stale events
  pub classes : totals.classes ≡ capped is_class events
  pub pruned : totals.pruned ≡ capped is_pruned events
  pub written : totals.written ≡ capped is_written events

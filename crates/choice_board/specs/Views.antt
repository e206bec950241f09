-- The view of a board.
use Rattle.std.specs.Prelude.{ℕ, Bool, List, Option}
use Rattle.ntfe_model.specs.Shapes.{Shape}
use Rattle.ntfe_model.specs.declared.nogood.Nogood.{Nogood}
use Rattle.choice_board.specs.States.{State}
use Rattle.choice_board.specs.declared.record.Record.{Record}
use Rattle.choice_board.specs.declared.record.Stop.{Stop}
use Rattle.choice_board.specs.declared.totals.Totals.{Totals}

-- the state with these parts
abbrev pub state_of : Shape → Option (List ℕ) → List (List ℕ) → List Record → List (List ℕ × Nogood) → Option Stop → Bool → Totals → State
state_of g last keys recorded pruned stop closed totals = record {
  geometry = g;
  last = last;
  open_keys = keys;
  recorded = recorded;
  pruned = pruned;
  stop = stop;
  closed = closed;
  totals = totals;
}

-- A board as it begins.
use Rattle.std.specs.Prelude.{ℕ, ◌+◌, nat_eq, false, cond, List, [], ◌∷◌, ◌++◌, length, take, map, slice_index, Option, Some, None}
use Rattle.std.specs.List.{range_with_len}
use Rattle.ntfe_model.specs.Shapes.{Shape}
use Rattle.choice_board.specs.States.{State}

-- the first k numbers of the start, and then one more than the next
abbrev pub key_past : List ℕ → ℕ → List ℕ
key_past start k = take k start ++ (slice_index start k + 1) ∷ []

-- the keys whose cones have all choices above the start, and no others; the key 0 where there is no start
abbrev pub start_keys : ℕ → Option (List ℕ) → List (List ℕ)
start_keys count None = cond (nat_eq count 0) [] ((0 ∷ []) ∷ [])
start_keys count (Some start) = map (key_past start) (range_with_len 0 (length start))

-- nothing was found yet
abbrev pub new_board : Shape → Option (List ℕ) → State
new_board g after = record {
  geometry = g;
  last = after;
  open_keys = start_keys (length g.faces) after;
  recorded = [];
  pruned = [];
  stop = None;
  closed = false;
  totals = record { settled = 0; stale = 0; classes = 0; pruned = 0; written = 0 };
}

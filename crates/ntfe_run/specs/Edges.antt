-- What a run did to its source and its sink.
use Rattle.std.specs.Prelude.{◌≡◌, ℕ, List, Option}
use Rattle.io_edge.specs.Changes.{Change}

-- the bytes that are left in the source, and its count of faults; the bytes that the sink has taken, and its count of faults
pub record Edges : Type 0 where
  pub left : Change (Option (List ℕ))
  pub read_faults : Change ℕ
  pub taken : Change (Option (List ℕ))
  pub write_faults : Change ℕ

-- nothing was read: the source is as it was
pub record IsUntouched (e : Edges) : Type 0 where
  pub left : e.left.after ≡ e.left.before
  pub faults : e.read_faults.after ≡ e.read_faults.before

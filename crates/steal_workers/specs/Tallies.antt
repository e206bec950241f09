-- What a worker counts.
use Rattle.std.specs.Prelude.{◌≡◌, ℕ, ◌+◌, ◌-◌, ◌^◌, ◌||◌, min, Bool, false}

-- a worker's counts, and its share of the pool's ledger: how many parts, and how many settled keys are booked on them
pub record Counts : Type 0 where
  pub worker : ℕ
  pub settled : ℕ
  pub blocked : ℕ
  pub memory : Bool
  pub alone : Bool
  pub parts : ℕ
  pub booked : ℕ

-- nothing was counted yet
abbrev pub no_counts : ℕ → Counts
no_counts worker = record { worker = worker; settled = 0; blocked = 0; memory = false; alone = false; parts = 1; booked = 0 }

-- the lesser of 2^64 - 1 and the sum
abbrev pub capped_sum : ℕ → ℕ → ℕ
capped_sum m n = min (2 ^ 64 - 1) (m + n)

-- both together, as the first worker's
abbrev pub joined : Counts → Counts → Counts
joined s t = record {
  worker = s.worker;
  settled = capped_sum s.settled t.settled;
  blocked = capped_sum s.blocked t.blocked;
  memory = s.memory || t.memory;
  alone = s.alone || t.alone;
  parts = s.parts + t.parts;
  booked = s.booked + t.booked;
}

-- the tally of the same worker, with the same parts of the ledger, where a server may have left the board
pub record IsSameShare (s t : Counts) : Type 0 where
  pub worker : t.worker ≡ s.worker
  pub parts : t.parts ≡ s.parts

-- the tally of the same worker, with the same parts of the ledger
pub record IsSameTally (s t : Counts) : Type 0 where
  pub worker : t.worker ≡ s.worker
  pub alone : t.alone ≡ s.alone
  pub parts : t.parts ≡ s.parts

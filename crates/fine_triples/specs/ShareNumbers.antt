-- Shares as the program holds them.
use Rattle.std.specs.Prelude.{◌≡◌, ℕ, ◌^◌, ◌≤◌, ℤ, pos, ◌-ℤ◌, ◌*ℤ◌, ◌<ℤ◌, unsigned_abs, List, slice_index_or}
use Rattle.fine_triples.specs.declared.meeting.Shares.{Shares}

-- each is so small that its products with coordinates fit 64 bits
pub record AreSmallShares (m : Shares) : Type 0 where
  pub whole : unsigned_abs m.n ≤ 2 ^ 49
  pub first : unsigned_abs m.s ≤ 2 ^ 49
  pub second : unsigned_abs m.t ≤ 2 ^ 49

-- both are more than nothing and less than the whole
pub record AreInside (m : Shares) : Type 0 where
  pub first : (pos 0 <ℤ m.s) × (m.s <ℤ m.n)
  pub second : (pos 0 <ℤ m.t) × (m.t <ℤ m.n)

-- s d - t e = n r, in the coordinate at this place
abbrev pub IsMetAt : Shares → List ℤ → List ℤ → List ℤ → ℕ → Type 0
IsMetAt m d e r i = m.s *ℤ slice_index_or d i (pos 0) -ℤ m.t *ℤ slice_index_or e i (pos 0) ≡ m.n *ℤ slice_index_or r i (pos 0)

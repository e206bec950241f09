-- The columns over one line, and what the dual vertices leave of them.
use Rattle.std.specs.Prelude.{◌≡◌, ℕ, ◌<◌, ℤ, pos, negsuc, ◌+ℤ◌, ◌*ℤ◌, ◌≤ℤ◌, List, length, slice_index_or, All}
use Rattle.ntfe_nums.specs.Vectors.{Vector, origin, dot}
use Rattle.lattice_points.specs.declared.column.Line.{Line}

abbrev pub place : ℤ → ℤ → ℤ → ℤ → Vector
place a b c d = record { x1 = a; x2 = b; x3 = c; x4 = d }

-- what the first two coordinates give to the scalar product with m
abbrev pub head_sum : Vector → ℤ → ℤ → ℤ
head_sum m x1 x2 = m.x1 *ℤ x1 +ℤ m.x2 *ℤ x2

-- the line keeps these sums, one for each dual vertex
pub record KeepsSums (ms : List Vector) (line : Line) : Type 0 where
  pub sums : (k : ℕ) → k < length ms → slice_index_or line.sums k (pos 0) ≡ head_sum (slice_index_or ms k origin) line.x1 line.x2

-- no dual vertex shuts the place out
abbrev pub IsOpen : List Vector → Vector → Type 0
IsOpen ms x = All (λ m. negsuc 0 ≤ℤ dot m x) ms

-- The scaling of a table as functions.
use Rattle.std.specs.Prelude.{ℕ, zero, suc, ◌+◌, ◌*◌, ◌/◌, ◌%◌, ◌==◌, cond, ℤ, pos, ◌*ℤ◌, unsigned_abs, List, map, slice_index_or, Option, Some, None}
use Rattle.std.specs.Int.Signed.{quot_z}
use Rattle.std.specs.List.{range_with_len}
use Rattle.ntfe_model.specs.Solver.{Line}

-- the greatest common divisor, by Euclid's algorithm in at most so many steps
abbrev pub gcd_by : ℕ → ℕ → ℕ → ℕ
gcd_by zero a b = a
gcd_by (suc f) a b = cond (b == 0) a (gcd_by f b (a % b))

unfoldable pub gcd_of : ℕ → ℕ → ℕ
gcd_of a b = gcd_by b a b

-- the denominator of c / d in lowest terms
abbrev pub reduced_denominator : ℕ → ℕ → ℕ
reduced_denominator d c = d / gcd_of d c

-- the least common multiple
abbrev pub common_multiple : ℕ → ℕ → ℕ
common_multiple m n = m * (n / gcd_of m n)

abbrev pub scale_next : ℕ → Option Line → ℕ
scale_next m None = m
scale_next m (Some r) = common_multiple m (reduced_denominator (unsigned_abs r.d) (unsigned_abs r.c))

-- the number that makes the first heights whole
unfoldable pub scale_to : List (Option Line) → ℕ → ℕ
scale_to ls zero = 1
scale_to ls (suc k) = scale_next (scale_to ls k) (slice_index_or ls k None)

abbrev pub scales_of : ℕ → List (Option Line) → List ℕ
scales_of columns ls = map (λ k. scale_to ls (k + 1)) (range_with_len 0 columns)

abbrev pub height_by : ℕ → Option Line → ℤ
height_by m None = pos 0
height_by m (Some r) = quot_z (pos m *ℤ r.c) r.d

abbrev pub heights_by : ℕ → ℕ → List (Option Line) → List ℤ
heights_by columns m ls = map (λ k. height_by m (slice_index_or ls k None)) (range_with_len 0 columns)

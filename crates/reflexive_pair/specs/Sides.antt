-- The sides of a hyperplane through a point, by its normal.
use Rattle.std.specs.Prelude.{◌≤ℤ◌, List, All}
use Rattle.ntfe_nums.specs.Vectors.{Vector, dot}

-- no point of the list is higher than a along n, or lower
abbrev pub NoneAbove : Vector → Vector → List Vector → Type 0
NoneAbove n a xs = All (λ x. dot n x ≤ℤ dot n a) xs

abbrev pub NoneBelow : Vector → Vector → List Vector → Type 0
NoneBelow n a xs = All (λ x. dot n a ≤ℤ dot n x) xs

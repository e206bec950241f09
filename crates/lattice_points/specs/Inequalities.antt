-- Inequalities that the dual vertices give.
use Rattle.std.specs.Prelude.{◌≡◌, ◌^◌, ℤ, pos, negsuc, ◌+ℤ◌, ◌*ℤ◌, ◌≤ℤ◌, List, [], ◌∷◌, All}
use Rattle.ntfe_nums.specs.Sizes.{AreWithin}
use Rattle.ntfe_nums.specs.Vectors.{Vector}
use Rattle.lattice_points.specs.Lines.{IsOpen}
use Rattle.lattice_points.specs.declared.inequality.Inequality.{Inequality}
use Rattle.lattice_points.specs.declared.inequality.Cancelled.{Cancelled}
use Rattle.lattice_points.specs.declared.inequality.Cancelled.TheVariants.{Third, Fourth}
use Rattle.lattice_points.specs.declared.sums.Sums.{Sums}

-- its numbers are short
abbrev pub IsShort : Inequality → Type 0
IsShort s = AreWithin (2 ^ 21) (s.c1 ∷ s.c2 ∷ s.c3 ∷ s.c4 ∷ s.rest ∷ [])

-- what the inequality says is at least -1
abbrev pub value_at : Inequality → Vector → ℤ
value_at s x = s.c1 *ℤ x.x1 +ℤ s.c2 *ℤ x.x2 +ℤ s.c3 *ℤ x.x3 +ℤ s.c4 *ℤ x.x4 +ℤ s.rest

-- the inequality has short numbers, and holds where no dual vertex shuts the place out
pub record IsGiven (ms : List Vector) (s : Inequality) : Type 0 where
  pub short : IsShort s
  pub holds : (x : Vector) → IsOpen ms x → negsuc 0 ≤ℤ value_at s x

-- the coordinate has cancelled, and those behind it
abbrev pub Lacks : Cancelled → Inequality → Type 0
Lacks Third s = (s.c3 ≡ pos 0) × (s.c4 ≡ pos 0)
Lacks Fourth s = s.c4 ≡ pos 0

-- an inequality that the dual vertices give, in which the coordinate has cancelled
abbrev pub IsSum : List Vector → Cancelled → Inequality → Type 0
IsSum ms k s = IsGiven ms s × Lacks k s

-- sums in the first three coordinates, and in the first two
pub record AreSums (ms : List Vector) (sums : Sums) : Type 0 where
  pub three : All (IsSum ms Fourth) sums.three.items
  pub two : All (IsSum ms Third) sums.two.items

-- Rows as equations.
use Rattle.std.specs.Prelude.{◌≡◌, ℕ, ℤ, pos, ◌+ℤ◌, ◌*ℤ◌, List, [], ◌∷◌, slice_index_or, Option, Some, None}
use Rattle.ntfe_model.specs.Solver.{Line}

-- the sum of the coefficients times the values
abbrev pub combination : List ℤ → List ℤ → ℤ
combination [] vs = pos 0
combination (e ∷ es) [] = pos 0
combination (e ∷ es) (v ∷ vs) = e *ℤ v +ℤ combination es vs

-- the row of the variable z holds at the values, where `one` stands for the number 1
abbrev pub LineHolds : ℤ → List ℤ → ℕ → Line → Type 0
LineHolds one vs z r = r.d *ℤ slice_index_or vs z (pos 0) ≡ r.c *ℤ one +ℤ combination r.coefficients vs

-- all rows of a table hold at the values
abbrev pub Holds : ℤ → List ℤ → List (Option Line) → Type 0
Holds one vs s = (z : ℕ) (r : Line) → slice_index_or s z None ≡ Some r → LineHolds one vs z r

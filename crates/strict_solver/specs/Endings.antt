-- How a run ends, as a basis has it.
use Rattle.std.specs.Prelude.{◌≡◌, pos, ◌≤ℤ◌, List, [], ◌∷◌, ◌++◌}
use Rattle.ntfe_model.specs.declared.nogood.Fold.{Fold}
use Rattle.strict_solver.specs.declared.basis.Basis.{Basis}
use Rattle.strict_solver.specs.declared.stepping.Ending.{Ending}
use Rattle.strict_solver.specs.declared.stepping.Ending.TheVariants.{Feasible, Infeasible, Unknown}
use Rattle.strict_solver.specs.declared.stepping.Effect.{Effect}
use Rattle.strict_solver.specs.declared.stepping.Effect.TheVariants.{Loads, Moves, Stays}
use Rattle.strict_solver.specs.Standing.{constant_of, IsSized, StandsAtEnd, IsStuck, LoadsNothing, IsFirstHeight, HasOneMore}

-- where it is known how the run on the folds ends, the basis stands there
abbrev pub HasEndedAs : Basis → List Fold → Ending → Type 0
HasEndedAs b fs Feasible = StandsAtEnd b fs × IsSized b
HasEndedAs b fs (Infeasible j) = IsStuck b fs j × IsSized b
HasEndedAs b fs Unknown = Unit {0}

-- the basis stands at the end of the run on the folds without this one, which comes last
pub record StandsBefore (b : Basis) (fs : List Fold) (f : Fold) : Type 0 where
  pub before : List Fold
  pub all : fs ≡ before ++ f ∷ []
  pub stands : StandsAtEnd b before

-- what the fold does to the basis
abbrev pub HasEffect : Basis → Fold → Effect → Type 0
HasEffect b f (Loads k) = IsFirstHeight b f k
HasEffect b f Moves = LoadsNothing b f
HasEffect b f Stays = LoadsNothing b f × (pos 0 ≤ℤ constant_of b f)

-- where the fold does nothing, the basis has only its place more
abbrev pub HasStayed : Basis → Basis → Effect → Type 0
HasStayed b c (Loads k) = Unit {0}
HasStayed b c Moves = Unit {0}
HasStayed b c Stays = HasOneMore b c

-- What a further row does to a stem.
use Rattle.std.specs.Prelude.{◌≡◌, ℕ, ℤ, List, [], ◌∷◌, ◌++◌, map, take, Some, None}
use Rattle.ntfe_model.specs.declared.nogood.Fold.{Fold}
use Rattle.ntfe_model.specs.Solver.{fold_row, IsInfeasible}
use Rattle.strict_solver.specs.declared.stem.Pushed.{Pushed}
use Rattle.strict_solver.specs.declared.stem.Pushed.TheVariants.{Feasible, Infeasible, Unknown}
use Rattle.strict_solver.specs.Solving.{AreMultipliers}
use Rattle.strict_solver.specs.declared.basis.Basis.{Basis}
use Rattle.strict_solver.specs.Stems.{StemValue, IsKnownStem, IsSettled}

-- the fold comes after the others: the run on all ends feasible, or it ends infeasible, with these multipliers, or nothing is known
abbrev pub HasPushed : StemValue → StemValue → Fold → Pushed → Type 0
HasPushed old new f Feasible = (fs : List Fold) → old.folds ≡ Some fs → new.folds ≡ Some (fs ++ f ∷ [])
HasPushed old new f Infeasible = (fs : List Fold) → old.folds ≡ Some fs → IsInfeasible old.columns (map (fold_row old.columns) (fs ++ f ∷ [])) None new.multipliers
HasPushed old new f Unknown = Unit {0}

-- the stem stands at the end of the run on so many of the folds, which is feasible; or the folds cancel with these multipliers; or nothing is known
abbrev pub HasExtended : StemValue → List Fold → ℕ → Pushed → Type 0
HasExtended new fs n Feasible = new.folds ≡ Some (take n fs)
HasExtended new fs n Infeasible = AreMultipliers new.columns (map (fold_row new.columns) fs) new.multipliers
HasExtended new fs n Unknown = Unit {0}

-- the basis stands at the end of the run on the folds, of which those behind the first s changed no number; or the folds cancel with these multipliers; or nothing is known
abbrev pub HasGoneOn : Basis → List Fold → ℕ → List (ℕ × ℤ) → Pushed → Type 0
HasGoneOn b fs s ms Feasible = IsKnownStem b fs × IsSettled b fs s
HasGoneOn b fs s ms Infeasible = IsInfeasible b.columns (map (fold_row b.columns) fs) None ms
HasGoneOn b fs s ms Unknown = Unit {0}

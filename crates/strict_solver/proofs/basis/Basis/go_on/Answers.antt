use Rattle.std.proofs.Common.{◌≡◌, ℕ, ◌++◌, ◌∷◌, [], sym, subst, List, Result, Ok, Err, IfOk}
use Rattle.std.specs.declared.alloc.AllocError.{AllocError}
use Rattle.ntfe_model.specs.declared.nogood.Fold.{Fold}
use Rattle.strict_solver.specs.declared.basis.Basis.{Basis}
use Rattle.strict_solver.specs.declared.stepping.Ending.{Ending}
use Rattle.strict_solver.specs.declared.stepping.Effect.{Effect}
use Rattle.strict_solver.specs.Starts.{IsFoldOver, AreFoldsOver}
use Rattle.strict_solver.specs.Standing.{StandsAtEnd}
use Rattle.strict_solver.specs.Endings.{HasEndedAs, HasEffect}
use Rattle.strict_solver.proofs.Settling.{last_over, end_stays}
use Rattle.strict_solver.proofs.Cutting.{stays_sized}
use Rattle.strict_solver.proofs.basis.Basis.go_on.Goals as goal

fold_over : (n : ℕ) (fs before : List Fold) (f : Fold) → fs ≡ before ++ f ∷ [] → AreFoldsOver n fs → IsFoldOver n f
fold_over n fs before f all h = let P : List Fold → Type 0 = λ gs. AreFoldsOver n gs in last_over n before f (subst P all h)

pub load-requires-clause-fold : goal.load-requires-clause-fold
load-requires-clause-fold c = let s = c.requires.stands in fold_over c.args.self.now.columns c.args.folds.now s.before c.args.fold.now s.all c.requires.folds

pub returns-in-Loads-clause-answer : goal.returns-in-Loads-clause-answer
returns-in-Loads-clause-answer c = let s = c.requires.stands in ends_here c.load.result c.args.self.now c.load.new.self c.args.folds.now s.before c.args.fold.now c.load.ensures.answer s.all s.stands
  where
    ends_here : (r : Result Ending AllocError) (b d : Basis) (fs before : List Fold) (f : Fold) → IfOk r (λ e. (gs : List Fold) → StandsAtEnd b gs → HasEndedAs d (gs ++ f ∷ []) e) → fs ≡ before ++ f ∷ [] → StandsAtEnd b before → IfOk r (λ e. HasEndedAs d fs e)
    ends_here (Ok e) b d fs before f h all s = let P : List Fold → Type 0 = λ gs. HasEndedAs d gs e in subst P (sym all) (h before s)
    ends_here (Err x) b d fs before f h all s = tt

pub returns-in_ok-stay-in-Stays-clause-answer : goal.returns-in_ok-stay-in-Stays-clause-answer
returns-in_ok-stay-in-Stays-clause-answer c =
    let b = c.args.self.now in
    let s = c.requires.stands in
    let o = c.in_ok-stay-in-Stays.ensures.stays in
    let P : Effect → Type 0 = λ e. HasEffect b c.args.fold.now e in
    let Q : List Fold → Type 0 = λ gs. AreFoldsOver b.columns gs in
    let R : List Fold → Type 0 = λ gs. StandsAtEnd c.stay.new.self gs in
    let e = subst P c.in-Stays.is c.requires.effect in
    (subst R (sym s.all) (end_stays b s.before s.stands c.args.fold.now (subst Q s.all c.requires.folds) e.0 c.stay.new.self o.columns o.cells o.denominator o.places e.1), stays_sized b c.stay.new.self o c.requires.sized)

pub move_on-requires-clause-last : goal.move_on-requires-clause-last
move_on-requires-clause-last c = let P : Effect → Type 0 = λ e. HasEffect c.args.self.now c.args.fold.now e in (c.args.fold.now, c.requires.stands, subst P c.in-Moves.is c.requires.effect)

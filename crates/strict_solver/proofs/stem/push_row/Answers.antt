use Rattle.std.proofs.Common.{◌≡◌, ◌∙◌, ◌++◌, ◌∷◌, [], ℕ, List, ap, sym, subst, arith, length}
use Rattle.ntfe_model.specs.declared.nogood.Fold.{Fold}
use Rattle.strict_solver.specs.declared.stepping.Ending.{Ending}
use Rattle.strict_solver.specs.declared.stepping.Effect.{Effect}
use Rattle.strict_solver.specs.Starts.{AreFoldsOver}
use Rattle.strict_solver.specs.Stems.{IsKnownStem, IsSettled}
use Rattle.strict_solver.specs.Endings.{HasEndedAs, HasStayed}
use Rattle.strict_solver.proofs.Stems.{more_over, known_after, stuck_within, stuck_rows, stuck_answer}
use Rattle.strict_solver.proofs.Cutting.{settled_here, settled_more}
use Rattle.strict_solver.proofs.stem.push_row.Goals as goal
use Rattle.strict_solver.proofs.stem.push_row.Goals.{After-deref}

module _ (c : After-deref) where
  all : c.deref.result.now ≡ c.args.folds.now.items ++ c.args.fold.now ∷ []
  all = c.deref.ensures.value ∙ c.in_ok-push.ensures.items

  over : AreFoldsOver c.args.basis.now.columns c.deref.result.now
  over = let P : List Fold → Type 0 = λ fs. AreFoldsOver c.args.basis.now.columns fs in subst P (sym all) (more_over c.args.basis.now.columns c.args.folds.now.items c.args.fold.now c.requires.known.over c.requires.fold)

  count : length c.deref.result.now ≡ length c.push.new.self.items
  count = ap (λ (fs : List Fold). length fs) c.deref.ensures.value

pub go_on-requires-clause-folds : goal.go_on-requires-clause-folds
go_on-requires-clause-folds c = over (goal.at.go_on-requires-clause-folds c).After-deref

pub write_multipliers-requires-clause-within : goal.write_multipliers-requires-clause-within
write_multipliers-requires-clause-within c =
    let P : Ending → Type 0 = λ e. HasEndedAs c.go_on.new.self c.deref.result.now e in
    let h = subst P c.in-Infeasible.is c.in_ok-go_on.ensures.answer in
    stuck_within c.go_on.new.self c.deref.result.now c.in-Infeasible.row h.0

pub write_multipliers-requires-clause-rows : goal.write_multipliers-requires-clause-rows
write_multipliers-requires-clause-rows c =
    let a = (goal.at.write_multipliers-requires-clause-rows c).After-deref in
    let P : Ending → Type 0 = λ e. HasEndedAs c.go_on.new.self c.deref.result.now e in
    let h = subst P c.in-Infeasible.is c.in_ok-go_on.ensures.answer in
    let k = c.push.new.self.ok.0 in
    let n = count a in
    stuck_rows c.go_on.new.self c.args.basis.now.columns c.deref.result.now c.in-Infeasible.row c.len-in-Infeasible.result c.in_ok-go_on.ensures.sizes.columns (over a) h.0 (let m = c.len-in-Infeasible.ensures in omega arith)

pub returns-in_ok-write_multipliers-in-Infeasible-clause-pushed :
    goal.returns-in_ok-write_multipliers-in-Infeasible-clause-pushed
returns-in_ok-write_multipliers-in-Infeasible-clause-pushed c =
    let a = (goal.at.returns-in_ok-write_multipliers-in-Infeasible-clause-pushed c).After-deref in
    let P : Ending → Type 0 = λ e. HasEndedAs c.go_on.new.self c.deref.result.now e in
    let R : ℕ → Type 0 = λ n. AreFoldsOver n c.deref.result.now in
    let h = subst P c.in-Infeasible.is c.in_ok-go_on.ensures.answer in
    let w = c.in_ok-write_multipliers-in-Infeasible.ensures in
    let k = c.push.new.self.ok.0 in
    let n = count a in
    stuck_answer c.go_on.new.self c.write_multipliers.new.self.columns c.deref.result.now c.push.new.self.items c.in-Infeasible.row c.len-in-Infeasible.result c.write_multipliers.new.self.line.items c.write_multipliers.new.multipliers.items
    (sym w.others.columns) c.deref.ensures.value (subst R (sym (w.others.columns ∙ c.in_ok-go_on.ensures.sizes.columns)) (over a)) h.0 w.lowered (let m = c.len-in-Infeasible.ensures in omega arith) w.value

pub returns-then-changes-clause-pushed : goal.returns-then-changes-clause-pushed
returns-then-changes-clause-pushed c =
    let a = (goal.at.returns-then-changes-clause-pushed c).After-deref in
    let P : Ending → Type 0 = λ e. HasEndedAs c.go_on.new.self c.deref.result.now e in
    let h = subst P c.in-Feasible.is c.in_ok-go_on.ensures.answer in
    let k = known_after c.go_on.new.self c.args.basis.now.columns c.deref.result.now c.push.new.self.items c.in_ok-go_on.ensures.sizes.columns c.deref.ensures.value (over a) h.0 h.1 in
    let v = c.push.new.self.ok.0 in
    (k, settled_here c.go_on.new.self c.push.new.self.items c.len-then-changes.result (let m = c.len-then-changes.ensures in omega arith) k)

pub returns-else-changes-clause-pushed : goal.returns-else-changes-clause-pushed
returns-else-changes-clause-pushed c =
    let a = (goal.at.returns-else-changes-clause-pushed c).After-deref in
    let P : Ending → Type 0 = λ e. HasEndedAs c.go_on.new.self c.deref.result.now e in
    let Q : Effect → Type 0 = λ x. HasStayed c.args.basis.now c.go_on.new.self x in
    let K : List Fold → Type 0 = λ fs. IsKnownStem c.go_on.new.self fs in
    let S : List Fold → Type 0 = λ fs. IsSettled c.go_on.new.self fs c.args.settled.now in
    let h = subst P c.in-Feasible.is c.in_ok-go_on.ensures.answer in
    let k = known_after c.go_on.new.self c.args.basis.now.columns c.deref.result.now c.push.new.self.items c.in_ok-go_on.ensures.sizes.columns c.deref.ensures.value (over a) h.0 h.1 in
    let e = c.in_ok-push.ensures.items in
    (k, subst S (sym e) (settled_more c.args.basis.now c.go_on.new.self c.args.folds.now.items c.args.fold.now c.args.settled.now c.requires.known c.requires.settled (subst Q c.if-changes.ensures c.in_ok-go_on.ensures.stays) (subst K e k)))

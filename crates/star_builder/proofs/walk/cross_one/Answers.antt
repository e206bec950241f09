use Rattle.std.proofs.Common.{◌∙◌, List, ℕ, Option, length, sym, subst}
use Rattle.std.specs.Prelude.{Contains, MatchOption}
use Rattle.ntfe_model.specs.Stars.{IsBeyond, IsOuterRidge, order_of}
use Rattle.star_builder.proofs.WalkSteps.{found_list, step_outer, step_there, step_one}
use Rattle.star_builder.proofs.walk.cross_one.Goals as goal

pub returns-in_default : goal.returns-in_default
returns-in_default c =
    let g = c.args.geometry.now in
    let P : Option (List ℕ) → Type 0 = λ found. MatchOption found (IsOuterRidge g.pair.dual g.points c.args.member.now c.args.without)
    (λ other. IsBeyond g.pair.dual g.points c.args.heights.now (order_of c.args.push (length g.points)) c.args.member.now c.args.without other × ¬ (IsOuterRidge g.pair.dual g.points c.args.member.now c.args.without)) in
    step_outer g.pair.dual g.points c.args.heights.now (order_of c.args.push (length g.points)) c.args.member.now c.args.without c.args.reached.now.items (subst P c.in_default.is c.beyond.ensures)

pub returns-then-contains : goal.returns-then-contains
returns-then-contains c =
    let g = c.args.geometry.now in
    let P : Option (List ℕ) → Type 0 = λ found. MatchOption found (IsOuterRidge g.pair.dual g.points c.args.member.now c.args.without)
    (λ other. IsBeyond g.pair.dual g.points c.args.heights.now (order_of c.args.push (length g.points)) c.args.member.now c.args.without other × ¬ (IsOuterRidge g.pair.dual g.points c.args.member.now c.args.without)) in
    let h = subst P c.in-Some.is c.beyond.ensures in
    step_there g.pair.dual g.points c.args.heights.now (order_of c.args.push (length g.points)) c.args.member.now c.args.without c.args.reached.now.items c.in-Some.other h.0
    (subst (λ (ts : List (List ℕ)). Contains ts c.in-Some.other) c.deref.ensures.value (found_list c.deref.result.now c.in-Some.other (sym c.contains.ensures.value ∙ c.if-contains.true)))

pub returns : goal.returns
returns c =
    let g = c.args.geometry.now in
    let P : Option (List ℕ) → Type 0 = λ found. MatchOption found (IsOuterRidge g.pair.dual g.points c.args.member.now c.args.without)
    (λ other. IsBeyond g.pair.dual g.points c.args.heights.now (order_of c.args.push (length g.points)) c.args.member.now c.args.without other × ¬ (IsOuterRidge g.pair.dual g.points c.args.member.now c.args.without)) in
    let h = subst P c.in-Some.is c.beyond.ensures in
    step_one g.pair.dual g.points c.args.heights.now (order_of c.args.push (length g.points)) c.args.member.now c.args.without c.args.reached.now.items c.push.new.self.items c.in-Some.other h.0 c.in_ok-push.ensures.items

use Rattle.std.proofs.Common.{◌∙◌, ◌<◌, ◌++◌, ◌∷◌, [], ℕ, List, get_or, length, ap, sym, subst, arith}
use Rattle.std.proofs.lemmas.List.{get_or_default}
use Rattle.std.proofs.lemmas.List.Elements.{Contains-get_or}
use Rattle.ntfe_model.specs.Stars.{IsMember, order_of}
use Rattle.star_builder.proofs.WalkSteps.{walked_first, walked_next, walked_all}
use Rattle.star_builder.proofs.walk.reach.Goals as goal
use Rattle.star_builder.proofs.walk.reach.Goals.{else-loop-next-test, then-loop-next-test+then-next-len}

pub loop-next-init : goal.loop-next-init
loop-next-init c =
    let g = c.args.geometry.now in
    walked_first g.pair.dual g.points c.args.heights.now (order_of c.args.push (length g.points)) c.args.facet c.args.first c.requires.first c.push.new.self.items
    (c.in_ok-push.ensures.items ∙ ap (λ (ts : List (List ℕ)). ts ++ c.args.first ∷ []) c.new-reached.ensures.items)

pub cross_all-requires-clause-member : goal.cross_all-requires-clause-member
cross_all-requires-clause-member c =
    let g = c.args.geometry.now in
    let l : c.loop-next.next < length c.loop-next.reached.items = (let t = c.if-next-len.false in let e = c.len.ensures in omega arith) in
    subst (λ (u : List ℕ). IsMember g.pair.dual g.points c.args.heights.now (order_of c.args.push (length g.points)) u)
    (sym (c.index-member.ensures ∙ get_or_default c.loop-next.reached.items c.loop-next.next c.index-member.result.now [] l))
    (c.loop-next.invariant.members (get_or c.loop-next.reached.items c.loop-next.next []) (Contains-get_or c.loop-next.reached.items c.loop-next.next [] l)).0

pub loop-next-preserved : goal.loop-next-preserved
loop-next-preserved c =
    let g = c.args.geometry.now in
    let l : c.loop-next.next < length c.loop-next.reached.items = (let t = c.if-next-len.false in let e = c.len.ensures in omega arith) in
    walked_next g.pair.dual g.points c.args.heights.now (order_of c.args.push (length g.points)) c.args.facet c.loop-next.next c.loop-next.reached.items c.cross_all.new.reached.items c.index-member.result.now
    l (c.index-member.ensures ∙ get_or_default c.loop-next.reached.items c.loop-next.next c.index-member.result.now [] l) c.in_ok-cross_all.ensures c.loop-next.invariant

pub returns : goal.returns
returns c =
    let g = c.args.geometry.now in
    walked_all g.pair.dual g.points c.args.heights.now (order_of c.args.push (length g.points)) c.args.facet c.loop-next.next c.loop-next.reached.items
    (elim c.loop-next-test.branch [
      | else-loop-next-test w ↦ (let t = w.loop-next-test.false in let s = c.loop-next.reached.small in let o = c.loop-next.reached.ok in omega arith)
      | then-loop-next-test+then-next-len w ↦ (let t = w.if-next-len.true in let e = w.len.ensures in omega arith)
    ])
    c.loop-next.invariant

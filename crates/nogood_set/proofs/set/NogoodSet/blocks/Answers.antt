use Rattle.std.proofs.Common.{◌≡◌, ◌∙◌, length, subst, rules, ℕ}
use Rattle.nogood_set.proofs.Walks.{Found, finds, ends_found}
use Rattle.nogood_set.proofs.set.NogoodSet.blocks.Goals as goal

pub loop-face-preserved : goal.loop-face-preserved
loop-face-preserved c = finds _ _ _ _ _ _ _ (c.as_slice-head.ensures ∙ c.key.view_is) c.loop-face.invariant c.first_ending.ensures.blocks c.first_ending.ensures.first c.first_of-first.ensures.either c.first_of-first.ensures.least

pub returns : goal.returns
returns c =
    let all : c.loop-face.face ≡ length c.args.key.now = search rules in
    ends_found c.args.self.now c.args.key.now c.loop-face.first (subst (λ (m : ℕ). Found c.args.self.now c.args.key.now m c.loop-face.first) all c.loop-face.invariant)

use Rattle.std.proofs.Common.{◌≡◌, ◌≤◌, ◌∙◌, sym, ap, subst, arith, ◌-◌, ◌+◌, ℕ, List, length, get_or}
use Rattle.std.proofs.Math.Facts.{Fits-below}
use Rattle.ntfe_model.specs.Shapes.{Shape}
use Rattle.ntfe_model.specs.Keys.{AllItemsExist}
use Rattle.node_probe.proofs.KeyLemmas.{match_true}
use Rattle.node_probe.proofs.FindingLemmas.{key_few, near_last, blocked_at}
use Rattle.node_probe.proofs.probing.found_before.Goals as goal

pub fetch_head-requires-clause-few : goal.fetch_head-requires-clause-few
fetch_head-requires-clause-few g c = let k = key_few c.args.geometry.now c.requires.geometry c.args.key.now c.requires.key in omega (arith, k)

pub overflow_cast-result : goal.overflow_cast-result
overflow_cast-result g c =
    let k = key_few c.args.geometry.now c.requires.geometry c.args.key.now c.requires.key in
    let e = ap length (c.as_slice-numbers.ensures ∙ c.key.view_is) in
    Fits-below tt (let r : length c.as_slice-numbers.result.now - 1 ≤ 4294967295 = omega (arith, k, e) in r)

pub returns-then-numbers-face-eq-ITEM_LIMIT-clause-finding :
    goal.returns-then-numbers-face-eq-ITEM_LIMIT-clause-finding
returns-then-numbers-face-eq-ITEM_LIMIT-clause-finding g c =
    let e = c.as_slice-numbers.ensures ∙ c.key.view_is in
    let found = match_true _ _ c.in_ok-fetch_head.field-0 c.in_ok-fetch_head.ensures.answer c.if-not-branch.false in
    let P : Shape → Type 0 = λ h. AllItemsExist h c.args.key.now in
    let n = ap length e in
    let s = c.requires.key.some in
    λ width. (
      (ap (λ (ks : List ℕ). get_or ks (length ks - 1) 0) (sym e) ∙ c.if-numbers-face-eq-ITEM_LIMIT.true, subst P c.requires.shape found.1),
      (let r : length c.args.key.now ≡ length c.as_slice-numbers.result.now - 1 + 1 = omega (arith, n, s) in r),
    )

pub returns-in-Some-clause-finding : goal.returns-in-Some-clause-finding
returns-in-Some-clause-finding g c =
    let e = c.as_slice-numbers.ensures ∙ c.key.view_is in
    let found = match_true _ _ c.in_ok-fetch_head.field-0 c.in_ok-fetch_head.ensures.answer c.if-not-branch.false in
    let P : Shape → Type 0 = λ h. AllItemsExist h c.args.key.now in
    let near = near_last c.args.geometry.now c.args.key.now c.as_slice-numbers.result.now c.requires.key e c.if-numbers-face-eq-ITEM_LIMIT.false in
    λ width. ((subst P c.requires.shape found.1, near), blocked_at c.args.geometry.now c.args.set.now c.args.key.now c.in-Some.place c.requires.set near c.in-Some.ensures)

pub returns-clause-finding : goal.returns-clause-finding
returns-clause-finding g c =
    let e = c.as_slice-numbers.ensures ∙ c.key.view_is in
    let found = match_true _ _ c.in_ok-fetch_head.field-0 c.in_ok-fetch_head.ensures.answer c.if-not-branch.false in
    let P : Shape → Type 0 = λ h. AllItemsExist h c.args.key.now in
    let near = near_last c.args.geometry.now c.args.key.now c.as_slice-numbers.result.now c.requires.key e c.if-numbers-face-eq-ITEM_LIMIT.false in
    ((subst P c.requires.shape found.1, near), c.in_default.ensures, found.0)

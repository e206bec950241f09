use Rattle.std.proofs.Common.{◌∙◌, ◌≡◌, subst, List, ℕ}
use Rattle.ntfe_model.specs.Words.{with_step}
use Rattle.std.specs.List.{insert}
use Rattle.fine_triples.proofs.Insertion.{insert_is}
use Rattle.fine_triples.proofs.waiting.insert.Goals as goal

pub returns : goal.returns
returns c =
    let place = c.place_of-place.ensures in
    let at : insert c.deref.result.now c.place_of-place.result c.args.step ≡ with_step c.args.step c.deref.result.now = insert_is c.args.step c.deref.result.now c.place_of-place.result place.within place.behind place.before in
    c.in_ok-insert.ensures.items
    ∙ subst (λ (fs : List (ℕ × ℕ)). insert fs c.place_of-place.result c.args.step ≡ with_step c.args.step fs) c.deref.ensures.value at

use Rattle.std.proofs.Common.{◌≡◌, ◌+◌, ◌<◌, ◌∙◌, sym, ap, subst, arith, length, List, filter}
use Rattle.std.specs.Prelude.{◌&&◌}
use Rattle.std.specs.List.{range_with_len}
use Rattle.std.proofs.lemmas.List.Elements.{All-weaker}
use Rattle.ntfe_model.specs.Pairs.{IsSmall}
use Rattle.ntfe_model.specs.Points.{IsPointOf, is_tight, place_of_point}
use Rattle.ntfe_model.specs.declared.face.Face.{Face}
use Rattle.ntfe_model.proofs.SmallVectors.{inside_small}
use Rattle.two_faces.specs.Added.{AddsFaces}
use Rattle.two_faces.proofs.ListLemmas.{row_start, entry_next, pair_yes, pair_no, pair_step}
use Rattle.two_faces.proofs.list.add_faces.Goals as goal
use Rattle.two_faces.proofs.list.add_faces.Goals.{then-meet_in_two_face+in_ok-numbers+in_ok-push, else-meet_in_two_face}

pub loop-j-init : goal.loop-j-init
loop-j-init c = row_start c.args.pair.now c.args.points.now c.args.i c.args.list.now.items

pub numbers_on_both-requires-clause-small : goal.numbers_on_both-requires-clause-small
numbers_on_both-requires-clause-small c =
    let p = c.args.pair.now in
    All-weaker (IsPointOf p) (λ x. IsSmall x.place) (λ x k. inside_small p x.place c.dual-dual.ensures.bounded.vertices.small k.inside) c.args.points.now c.requires.points.sound

pub loop-j-preserved : goal.loop-j-preserved
loop-j-preserved c =
    let p = c.args.pair.now in
    let xs = c.args.points.now in
    let i = c.args.i in
    let j = c.loop-j.j in
    let ms = c.dual-dual.result.now in
    let l : j < length ms = c.loop-j-test.true in
    let e = ap length c.dual-dual.ensures.value in
    let h : i < j = (let k = c.loop-j.auto.j in omega arith) in
    let em = entry_next p.dual ms i c.index-dual-i.result c.dual-dual.ensures.value (omega arith) c.index-dual-i.is in
    let en = entry_next p.dual ms j c.index-dual-j.result c.dual-dual.ensures.value l c.index-dual-j.is in
    let k : j < length p.dual = omega arith in
    pair_step p xs i j c.index-dual-i.result c.index-dual-j.result c.vertices.result.now c.vertices.ensures.value em en h k c.args.list.now.items c.loop-j.list.items c.if-meet_in_two_face.list.items c.loop-j.invariant
    (elim c.if-meet_in_two_face.branch [
      | then-meet_in_two_face+in_ok-numbers+in_ok-push w ↦
          (let m = w.index-dual-i-then-meet_in_two_face in
          let n = w.index-dual-j-then-meet_in_two_face in
          let sm = sym (entry_next p.dual ms i m.result c.dual-dual.ensures.value (omega arith) m.is) ∙ em in
          let sn = sym (entry_next p.dual ms j n.result c.dual-dual.ensures.value l n.is) ∙ en in
          pair_yes p xs i j c.index-dual-i.result c.index-dual-j.result c.vertices.result.now c.vertices.ensures.value em en h k w.from_vec.result c.loop-j.list.items c.if-meet_in_two_face.list.items
          (c.meet_in_two_face.ensures.when_true w.if-meet_in_two_face.true)
          (w.from_vec.ensures ∙ w.in_ok-numbers.ensures ∙ (λ t. filter (λ k. is_tight (sm t) (place_of_point xs k) && is_tight (sn t) (place_of_point xs k)) (range_with_len 1 (length xs))))
          (ap (λ u. u.items) w.list-is ∙ w.in_ok-push.ensures.items))
      | else-meet_in_two_face w ↦
          subst (λ (fs : List Face). AddsFaces p xs (λ a b. (a ≡ i + 1) × (b ≡ j + 1)) c.loop-j.list.items fs) (sym (ap (λ u. u.items) w.list-is))
          (pair_no p xs i j c.index-dual-i.result c.index-dual-j.result c.vertices.result.now c.vertices.ensures.value em en h k c.loop-j.list.items (c.meet_in_two_face.ensures.when_false w.if-meet_in_two_face.false))
    ])

use Rattle.std.proofs.Common.{below_more, ◌∙◌, refl, sym, ap, subst, arith, ℕ, List, length, get_or}
use Rattle.ntfe_model.specs.Shapes.{Shape}
use Rattle.ntfe_model.specs.Books.{KeepsItem}
use Rattle.ntfe_model.specs.Words.{HasItem}
use Rattle.ntfe_model.proofs.Books.{keeps_all_in_turn}
use Rattle.node_probe.proofs.KeyLemmas.{key_low, head_kept, match_true, match_false}
use Rattle.node_probe.proofs.fetching.fetch_head.Goals as goal

pub loop-face-init : goal.loop-face-init
loop-face-init g c = (refl, (λ f n x e. e), (λ k l. absurd (omega (arith, l))), (λ k l. absurd (omega (arith, l))))

pub has_item-requires-clause-face : goal.has_item-requires-clause-face
has_item-requires-clause-face g c =
    let e = ap length (c.as_slice-numbers.ensures ∙ c.key.view_is) in
    let s = ap (λ (h : Shape). length h.faces) c.loop-face.invariant.0 in
    let l = c.loop-face-test.true in
    let m = c.requires.key.at_most in
    omega (arith, e, s, l, m)

pub has_item-requires-clause-number : goal.has_item-requires-clause-number
has_item-requires-clause-number g c =
    let e = c.as_slice-numbers.ensures ∙ c.key.view_is in
    let k = key_low (g.B.Book.shape c.args.book.now) c.args.key.now c.requires.key c.loop-face.face (let m = ap length e in let l = c.loop-face-test.true in omega (arith, m, l)) in
    let r = ap (λ (ks : List ℕ). get_or ks c.loop-face.face 0) e in
    omega (arith, k, r)

pub returns-in_err-has_item-clause-shape : goal.returns-in_err-has_item-clause-shape
returns-in_err-has_item-clause-shape g c = c.has_item.ensures.shape ∙ c.loop-face.invariant.0

pub returns-in_err-has_item-clause-kept : goal.returns-in_err-has_item-clause-kept
returns-in_err-has_item-clause-kept g c = keeps_all_in_turn (g.B.Book.keeps c.args.book.now) (g.B.Book.keeps c.loop-face.book) (g.B.Book.keeps c.has_item.new.book) c.loop-face.invariant.1 c.has_item.ensures.kept

pub returns-then-not-branch-clause-shape : goal.returns-then-not-branch-clause-shape
returns-then-not-branch-clause-shape g c = c.has_item.ensures.shape ∙ c.loop-face.invariant.0

pub returns-then-not-branch-clause-kept : goal.returns-then-not-branch-clause-kept
returns-then-not-branch-clause-kept g c = keeps_all_in_turn (g.B.Book.keeps c.args.book.now) (g.B.Book.keeps c.loop-face.book) (g.B.Book.keeps c.has_item.new.book) c.loop-face.invariant.1 c.has_item.ensures.kept

pub returns-then-not-branch-clause-answer : goal.returns-then-not-branch-clause-answer
returns-then-not-branch-clause-answer g c =
    let e = c.as_slice-numbers.ensures ∙ c.key.view_is in
    let none = match_false _ _ c.in_ok-has_item.field-0 c.in_ok-has_item.ensures.answer c.if-not-branch.true in
    let P : Shape × ℕ → Type 0 = λ t. HasItem t.0 c.loop-face.face t.1 in (
      c.loop-face.face,
      (let m = ap length e in let l = c.loop-face-test.true in omega (arith, m, l)),
      (λ h. none (subst P (λ i. (sym c.loop-face.invariant.0 i, get_or (sym e i) c.loop-face.face 0)) h)),
    )

pub loop-face-preserved : goal.loop-face-preserved
loop-face-preserved g c =
    let before = g.B.Book.keeps c.loop-face.book in
    let after = g.B.Book.keeps c.has_item.new.book in
    let e = c.as_slice-numbers.ensures ∙ c.key.view_is in
    let new = match_true _ _ c.in_ok-has_item.field-0 c.in_ok-has_item.ensures.answer c.if-not-branch.false in
    let P : ℕ → Type 0 = λ n. KeepsItem after c.loop-face.face n in
    let Q : Shape × ℕ → Type 0 = λ t. HasItem t.0 c.loop-face.face t.1 in (
      c.has_item.ensures.shape ∙ c.loop-face.invariant.0,
      keeps_all_in_turn (g.B.Book.keeps c.args.book.now) before after c.loop-face.invariant.1 c.has_item.ensures.kept,
      head_kept before after c.args.key.now c.loop-face.face c.has_item.ensures.kept c.loop-face.invariant.2 (subst P (ap (λ (ks : List ℕ). get_or ks c.loop-face.face 0) e) new.0),
      below_more (λ k. HasItem (g.B.Book.shape c.args.book.now) k (get_or c.args.key.now k 0)) c.loop-face.face c.loop-face.invariant.3
          (subst Q (λ i. (c.loop-face.invariant.0 i, get_or (e i) c.loop-face.face 0)) new.1),
    )

pub returns-clause-shape : goal.returns-clause-shape
returns-clause-shape g c = c.loop-face.invariant.0

pub returns-clause-kept : goal.returns-clause-kept
returns-clause-kept g c = c.loop-face.invariant.1

pub returns-clause-answer : goal.returns-clause-answer
returns-clause-answer g c =
    let e = ap length (c.as_slice-numbers.ensures ∙ c.key.view_is) in
    let t = c.loop-face-test.false in
    ((λ f l. c.loop-face.invariant.2 f (omega (arith, l, t, e))), (λ f l. c.loop-face.invariant.3 f (omega (arith, l, t, e))))

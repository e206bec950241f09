use Rattle.std.proofs.Common.{◌≡◌, ◌<◌, false, sym, ap, subst, refl, List, length}
use Rattle.std.specs.Prelude.{All, AllPairs}
use Rattle.ntfe_model.specs.declared.nogood.Part.{Part}
use Rattle.ntfe_model.specs.declared.nogood.Term.{Term}
use Rattle.ntfe_model.specs.Choices.{IsSmallFold}
use Rattle.farkas_check.specs.Parts.{KeepsPart, HasItemOf}
use Rattle.farkas_check.proofs.Refuting.{blocked_refuted}
use Rattle.farkas_check.proofs.TermLemmas.{terms_small, certificate_of, cancels, answers}
use Rattle.farkas_check.proofs.certificate.verify.Goals as goal

pub returns-then-not-are_rising-clause-verdict : goal.returns-then-not-are_rising-clause-verdict
returns-then-not-are_rising-clause-verdict g c =
    answers false (λ e. cc)
    (λ e k. let P : List Part → Type 0 = AllPairs (λ p q. p.face < q.face) in c.if-not-are_rising.ensures.when_false refl (subst P (sym c.as_slice-parts.ensures) k.1.rising))

pub returns-then-not-are_kept-clause-verdict : goal.returns-then-not-are_kept-clause-verdict
returns-then-not-are_kept-clause-verdict g c =
    answers false (λ e. cc)
    (λ e k. let P : List Part → Type 0 = All (KeepsPart (g.B.Book.keeps c.args.book.now) c.args.geometry.now) in c.if-not-are_kept.ensures.when_false refl (subst P (sym c.as_slice-parts.ensures) k.0))

pub are_terms-requires-clause-kept : goal.are_terms-requires-clause-kept
are_terms-requires-clause-kept g c =
    let P : List Part → Type 0 = All (KeepsPart (g.B.Book.keeps c.args.book.now) c.args.geometry.now) in
    subst P c.as_slice-parts.ensures (c.if-not-are_kept.ensures.when_true refl)

pub are_cancelling-requires-clause-small : goal.are_cancelling-requires-clause-small
are_cancelling-requires-clause-small g c =
    let P : List Part → Type 0 = All (HasItemOf c.args.geometry.now) in
    let Q : List Term → Type 0 = All (λ t. IsSmallFold t.fold) in
    subst Q (sym c.as_slice-terms.ensures)
    (terms_small c.args.geometry.now c.points-points.ensures.shape c.args.nogood.now (subst P c.as_slice-parts.ensures (c.if-not-are_kept.ensures.exist refl)) (c.if-not-are_terms.ensures.when_true refl))

pub returns-clause-verdict : goal.returns-clause-verdict
returns-clause-verdict g c =
    let P : List Part → Type 0 = All (KeepsPart (g.B.Book.keeps c.args.book.now) c.args.geometry.now) in
    let n = c.args.nogood.now in
    let points : length c.points-points.result.now ≡ length c.args.geometry.now.points = ap length c.points-points.ensures.value in
    answers c.are_cancelling.result
    (λ e. (
      subst P c.as_slice-parts.ensures (c.if-not-are_kept.ensures.when_true refl),
      certificate_of c.args.geometry.now n _ _ _ c.as_slice-parts.ensures c.as_slice-terms.ensures points (c.if-not-are_rising.ensures.when_true refl) (c.if-not-are_kept.ensures.exist refl)
          (c.if-not-are_terms.ensures.when_true refl) (sym c.if-is_empty.ensures) c.if-terms.false (c.are_cancelling.ensures.when_true e),
    ))
    (λ e k. c.are_cancelling.ensures.when_false e (cancels c.args.geometry.now n _ _ _ c.as_slice-parts.ensures c.as_slice-terms.ensures points k.1))

pub returns-clause-refutes : goal.returns-clause-refutes
returns-clause-refutes g c = λ e key choice blocked begins extends.
    let n = c.args.nogood.now in
    let points : length c.points-points.result.now ≡ length c.args.geometry.now.points = ap length c.points-points.ensures.value in
    let certificate = certificate_of c.args.geometry.now n _ _ _ c.as_slice-parts.ensures c.as_slice-terms.ensures points (c.if-not-are_rising.ensures.when_true refl) (c.if-not-are_kept.ensures.exist refl)
    (c.if-not-are_terms.ensures.when_true refl) (sym c.if-is_empty.ensures) c.if-terms.false (c.are_cancelling.ensures.when_true e)
    in
    blocked_refuted c.args.geometry.now n key choice c.points-points.ensures.shape certificate blocked begins extends

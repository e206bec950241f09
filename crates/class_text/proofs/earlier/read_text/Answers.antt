use Rattle.std.proofs.Common.{◌≡◌, length, ◌∙◌, subst, arith, rules}
use Rattle.std.proofs.lemmas.Result.{err_from_is_err_and}
use Rattle.class_text.specs.Forms.{layout_of}
use Rattle.class_text.specs.Earlier.{IsBehind, IsRefusedAt}
use Rattle.class_text.proofs.ReadLines.{head_cause, body_cause}
use Rattle.class_text.proofs.earlier.read_text.Goals as goal

pub returns-in_err-behind-clause-fault : goal.returns-in_err-behind-clause-fault
returns-in_err-behind-clause-fault c =
    let p = err_from_is_err_and c.from_residual-in_err-behind.result c.from_residual-in_err-behind.ensures.1 in
    rw (p.1, p.2) (head_cause (layout_of c.args.form.now) c.deref.result.now c.args.bytes.now (c.deref.ensures.value ∙ c.in_ok-head.ensures.ok) _ c.in_err-behind.ensures.fault)

pub returns-in_err-reader-clause-fault : goal.returns-in_err-reader-clause-fault
returns-in_err-reader-clause-fault c =
    let p = err_from_is_err_and c.from_residual-in_err-reader.result c.from_residual-in_err-reader.ensures.1 in
    let size : c.len.result ≡ length c.deref.result.now = omega (arith, c.len.ensures, c.deref.ensures.len) in
    let is_behind : IsBehind c.deref.result.now c.args.bytes.now c.in-Some.behind.lines c.in-Some.behind.rest.now = search rules in
    let fault = subst (λ n. IsRefusedAt (layout_of c.args.form.now) n c.in-Some.behind.rest.now c.in-Some.behind.lines c.in_err-reader.field-0.0) size c.in_err-reader.ensures.fault in
    rw (p.1, p.2)
    (body_cause (layout_of c.args.form.now) c.deref.result.now c.args.bytes.now (c.deref.ensures.value ∙ c.in_ok-head.ensures.ok) c.in-Some.behind.lines c.in-Some.behind.rest.now _ is_behind fault)

use Rattle.std.proofs.Common.{◌≡◌, ◌∙◌, sym, ap, subst, arith, length}
use Rattle.std.specs.Prelude.{slice_get}
use Rattle.std.proofs.lemmas.Option.{slice_get_read, slice_get_past}
use Rattle.ntfe_model.specs.Charts.{Patch}
use Rattle.ntfe_model.specs.Words.{IsItem}
use Rattle.fine_stream.proofs.row.Row.get.Goals as goal

pub returns-then-number-len-clause-item : goal.returns-then-number-len-clause-item
returns-then-number-len-clause-item c =
    let P : Patch → Type 0 = λ h. IsItem h c.args.number c.index.result.now in
    let e : c.len.result ≡ length c.self.inside.items.items = omega arith in
    subst P (ap (λ r. r.patch) c.self.view_is)
    (c.self.invariant.items c.args.number c.index.result.now (slice_get_read c.self.inside.items.items c.len.result c.args.number c.index.result.now e c.if-number-len.true c.index.ensures))

pub returns-clause-value : goal.returns-clause-value
returns-clause-value c =
    let e : length c.self.inside.items.items ≡ c.len.result = omega arith in
    ap (λ r. slice_get r.items c.args.number) (sym c.self.view_is) ∙ slice_get_past c.self.inside.items.items c.args.number (omega arith)

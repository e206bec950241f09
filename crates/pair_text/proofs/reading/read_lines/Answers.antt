use Rattle.std.proofs.Common.{List, [], ◌∷◌, ◌++◌, refl, sym, ap, ◌∙◌, append_assoc}
use Rattle.std.specs.Prelude.{codes}
use Rattle.std.proofs.lemmas.Result.{err_from_is_err_and}
use Rattle.ntfe_model.specs.PairText.{Line, nothing, IsDueInList, IsDue}
use Rattle.pair_text.specs.declared.fault.TextFault.TheVariants.{Long}
use Rattle.pair_text.specs.Cursors.{line_of, lines_left}
use Rattle.pair_text.proofs.Faults.{line_cause, cause_behind}
use Rattle.pair_text.proofs.Pairs.{vertices_lead, dual_lead, nothing_due, pair_bounded}
use Rattle.pair_text.proofs.reading.read_lines.Goals as goal

pub returns-in_err-vertices-clause-fault : goal.returns-in_err-vertices-clause-fault
returns-in_err-vertices-clause-fault c =
    let p = err_from_is_err_and c.from_residual.result c.from_residual.ensures.1 in
    rw (p.1, p.2) (cause_behind (IsDueInList (codes "vertices")) IsDue [] _ _ _ (sym c.new-lines.ensures.lines) vertices_lead c.in_err-vertices.ensures.fault)

pub returns-in_err-dual-clause-fault : goal.returns-in_err-dual-clause-fault
returns-in_err-dual-clause-fault c =
    let p = err_from_is_err_and c.from_residual-in_err-dual.result c.from_residual-in_err-dual.ensures.1 in
    let t = c.in_ok-vertices.ensures.ok in
    rw (p.1, p.2) (cause_behind (IsDueInList (codes "dual")) IsDue t.taken _ _ _ (sym c.new-lines.ensures.lines ∙ t.lines_are) (dual_lead c.in_ok-vertices.vertices.items t.taken t.is)
    c.in_err-dual.ensures.fault)

pub new-requires : goal.new-requires
new-requires c =
    let t = c.in_ok-vertices.ensures.ok in
    let u = c.in_ok-dual.ensures.ok in
    pair_bounded c.in_ok-vertices.vertices.items c.in_ok-dual.dual.items t.taken u.taken t.is u.is

pub returns-in-Some-clause-fault : goal.returns-in-Some-clause-fault
returns-in-Some-clause-fault c =
    let t = c.in_ok-vertices.ensures.ok in
    let u = c.in_ok-dual.ensures.ok in
    let line = line_of c.in-Some.line in
    let later = lines_left c.take_unskipped.new.self in
    line_cause IsDue (t.taken ++ u.taken) line later _ nothing (Long line.number)
    (sym c.new-lines.ensures.lines ∙ t.lines_are ∙ ap (λ (x : List Line). t.taken ++ x) (u.lines_are ∙ ap (λ (x : List Line). u.taken ++ x) c.in-Some.ensures.line)
    ∙ sym (append_assoc t.taken u.taken (line ∷ later)))
    (nothing_due c.in_ok-vertices.vertices.items c.in_ok-dual.dual.items t.taken u.taken t.is u.is) (refl, refl)

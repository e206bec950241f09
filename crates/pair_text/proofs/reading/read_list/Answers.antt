use Rattle.std.proofs.Common.{◌≡◌, List, [], ◌∷◌, length, refl, ap, ◌∙◌}
use Rattle.std.specs.List.{AllZip}
use Rattle.std.proofs.lemmas.Result.{err_from_is_err_and, IfErr-weaker}
use Rattle.ntfe_model.specs.PairText.{Line, count_of, IsVectorLine, AreListLines, IsDueInList}
use Rattle.pair_text.specs.Cursors.{line_of, lines_left, Takes}
use Rattle.pair_text.specs.Faults.{IsCauseIn, IsDueInVectors}
use Rattle.pair_text.proofs.Faults.{line_cause, cause_behind, vectors_lead, list_lines, both_ok}
use Rattle.pair_text.proofs.reading.read_list.Goals as goal

pub returns-in_default-clause-fault : goal.returns-in_default-clause-fault
returns-in_default-clause-fault c = record { due = count_of c.args.word.now; next = (c.in_default.ensures.line, refl); more = λ e. cc }

pub returns-in_err-count-clause-fault : goal.returns-in_err-count-clause-fault
returns-in_err-count-clause-fault c =
    let p = err_from_is_err_and c.from_residual.result c.from_residual.ensures.1 in
    rw (p.1, p.2) (line_cause (IsDueInList c.args.word.now) [] (line_of c.in-Some.head) (lines_left c.take_unskipped.new.self) _ (count_of c.args.word.now) _ c.in-Some.ensures.line (refl, refl)
    c.in_err-count.ensures.fault)

pub returns-clause-ok : goal.returns-clause-ok
returns-clause-ok c =
    let head = line_of c.in-Some.head in
    both_ok c.read_vectors.result (λ vs. Takes (λ taken. AllZip IsVectorLine taken vs.items) c.take_unskipped.new.self c.read_vectors.new.lines) (λ vs. length vs.items ≡ c.in_ok-count.count)
    (λ vs. Takes (AreListLines c.args.word.now vs.items) c.args.lines.now c.read_vectors.new.lines)
    (λ vs t e. record {
      taken = head ∷ t.taken;
      lines_are = c.in-Some.ensures.line ∙ ap (λ (x : List Line). head ∷ x) t.lines_are;
      is = list_lines c.args.word.now head t.taken vs.items c.in_ok-count.count c.in_ok-count.ensures.ok c.in_ok-count.ensures.at_least c.in_ok-count.ensures.at_most t.is e;
    })
    c.read_vectors.ensures.ok c.read_vectors.ensures.count

pub returns-clause-fault : goal.returns-clause-fault
returns-clause-fault c =
    let head = line_of c.in-Some.head in
    IfErr-weaker c.read_vectors.result (λ e. IsCauseIn (IsDueInVectors c.in_ok-count.count) (lines_left c.take_unskipped.new.self) e)
    (λ e. IsCauseIn (IsDueInList c.args.word.now) (lines_left c.args.lines.now) e)
    (λ e h. cause_behind (IsDueInVectors c.in_ok-count.count) (IsDueInList c.args.word.now) (head ∷ []) (lines_left c.take_unskipped.new.self) _ e c.in-Some.ensures.line
    (vectors_lead c.args.word.now head c.in_ok-count.count c.in_ok-count.ensures.ok c.in_ok-count.ensures.at_least c.in_ok-count.ensures.at_most) h)
    c.read_vectors.ensures.fault

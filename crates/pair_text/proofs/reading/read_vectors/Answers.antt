use Rattle.std.proofs.Common.{List, [], ◌∷◌, ◌++◌, refl, sym, ap, ◌∙◌, append_assoc, arith}
use Rattle.std.proofs.lemmas.Result.{err_from_is_err_and}
use Rattle.std.proofs.lemmas.Slice.Zip.{all_zipped_more}
use Rattle.ntfe_model.specs.PairText.{Line, four_numbers, IsVectorLine}
use Rattle.pair_text.specs.Cursors.{line_of, lines_left}
use Rattle.pair_text.specs.Faults.{IsDueInVectors}
use Rattle.pair_text.proofs.Faults.{line_cause}
use Rattle.pair_text.proofs.reading.read_vectors.Goals as goal

pub returns-in_err-vector-clause-fault : goal.returns-in_err-vector-clause-fault
returns-in_err-vector-clause-fault c =
    let p = err_from_is_err_and c.from_residual.result c.from_residual.ensures.1 in
    let t = c.loop.invariant.takes in
    let next : IsDueInVectors c.args.count t.taken four_numbers = record { vectors = c.loop.vectors.items; are = t.is; fewer = omega (arith, c.loop.invariant.count); is = refl } in
    rw (p.1, p.2) (line_cause (IsDueInVectors c.args.count) t.taken (line_of c.in-Some.line) (lines_left c.take_unskipped.new.self) _ four_numbers _
    (t.lines_are ∙ ap (λ (x : List Line). t.taken ++ x) c.in-Some.ensures.line) next c.in_err-vector.ensures)

pub loop-preserved : goal.loop-preserved
loop-preserved c =
    let t = c.loop.invariant.takes in
    let line = line_of c.in-Some.line in
    record {
      few = c.in-Some.ensures.few;
      takes = record {
        taken = t.taken ++ line ∷ [];
        lines_are = t.lines_are ∙ ap (λ (x : List Line). t.taken ++ x) c.in-Some.ensures.line ∙ sym (append_assoc t.taken (line ∷ []) (lines_left c.take_unskipped.new.self));
        is = rw c.in_ok-push.ensures.items (all_zipped_more IsVectorLine t.taken c.loop.vectors.items line c.in_ok-vector.vector t.is c.in_ok-vector.ensures);
      };
      count = omega (arith, c.in_ok-push.ensures.len);
    }

use Rattle.std.proofs.Common.{◌+◌, ◌∙◌, ◌++◌, ◌∷◌, [], ap, sym, pos, int_lt, length, take, drop}
use Rattle.strict_solver.specs.Rows.{line_in}
use Rattle.strict_solver.proofs.Words.{word30}
use Rattle.strict_solver.proofs.Multipliers.{more_kept, more_left}
use Rattle.strict_solver.proofs.basis.Basis.write_multipliers.Goals as goal
use Rattle.strict_solver.proofs.basis.Basis.write_multipliers.Goals.{then-times-gt0+in_ok-push, else-times-gt0}

pub loop-row-preserved : goal.loop-row-preserved
loop-row-preserved c =
    let b = c.args.self.now in
    let row = c.loop-row.row in
    let z = c.multiplier-times.result in
    let word = word30 z c.multiplier-times.ensures.size in
    elim c.if-times-gt0.branch [
      | then-times-gt0+in_ok-push w ↦
          ap (λ v. v.items) w.multipliers-is ∙ w.in_ok-push.ensures.items
          ∙ (λ t. c.loop-row.invariant t ++ (row, word t) ∷ [])
          ∙ sym (more_kept b.columns row (b.columns + c.args.slack) (line_in b.places.items (take b.line.len (c.lower.new.row ++ drop (length c.lower.new.row) b.line.items))) z c.multiplier-times.ensures.value (ap (int_lt (pos 0)) (sym word) ∙ w.if-times-gt0.true))
      | else-times-gt0 w ↦
          ap (λ v. v.items) w.multipliers-is ∙ c.loop-row.invariant
          ∙ sym (more_left b.columns row (b.columns + c.args.slack) (line_in b.places.items (take b.line.len (c.lower.new.row ++ drop (length c.lower.new.row) b.line.items))) z c.multiplier-times.ensures.value (ap (int_lt (pos 0)) (sym word) ∙ w.if-times-gt0.false))
    ]

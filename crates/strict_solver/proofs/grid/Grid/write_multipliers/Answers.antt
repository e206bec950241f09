use Rattle.std.proofs.Common.{◌≡◌, ℕ, ◌+◌, ◌++◌, ◌∷◌, [], ◌∙◌, sym, ap, arith, ℤ, pos, int_lt, length, List}
use Rattle.std.specs.Prelude.{vec_capacity}
use Rattle.std.proofs.lemmas.List.{length_push}
use Rattle.strict_solver.proofs.Rows.{unwrap64}
use Rattle.strict_solver.proofs.Multipliers.{more_kept, more_left}
use Rattle.strict_solver.proofs.grid.Grid.write_multipliers.Goals as goal
use Rattle.strict_solver.proofs.grid.Grid.write_multipliers.Goals.{then-times-gt0, else-times-gt0}

pub loop-row-preserved : goal.loop-row-preserved
loop-row-preserved c =
    let g = c.args.self.now in
    let row = c.loop-row.row in
    let i = c.loop-row.invariant in
    let z = c.multiplier-times.result in
    let word = unwrap64 z c.multiplier-times.ensures.size in
    record {
      capacity = elim c.if-times-gt0.branch [
        | then-times-gt0 w ↦ ap vec_capacity w.multipliers-is ∙ w.push_reserved.ensures.capacity ∙ i.capacity
        | else-times-gt0 w ↦ ap vec_capacity w.multipliers-is ∙ i.capacity
      ];
      few = elim c.if-times-gt0.branch [
        | then-times-gt0 w ↦
            (let e : length c.if-times-gt0.multipliers.items ≡ length c.loop-row.multipliers.items + 1 = ap (λ v. length v.items) w.multipliers-is ∙ ap (λ (l : List (ℕ × ℤ)). length l) w.push_reserved.ensures.items ∙ length_push c.loop-row.multipliers.items _ in
            let f = i.few in
            omega arith)
        | else-times-gt0 w ↦ (let e : length c.if-times-gt0.multipliers.items ≡ length c.loop-row.multipliers.items = ap (λ v. length v.items) w.multipliers-is in let f = i.few in omega arith)
      ];
      value = λ line e. elim c.if-times-gt0.branch [
        | then-times-gt0 w ↦
            ap (λ v. v.items) w.multipliers-is ∙ w.push_reserved.ensures.items
            ∙ (λ t. i.value line e t ++ (row, word t) ∷ [])
            ∙ sym (more_kept g.columns row c.args.slack line z (c.multiplier-times.ensures.value line e) (ap (int_lt (pos 0)) (sym word) ∙ w.if-times-gt0.true))
        | else-times-gt0 w ↦
            ap (λ v. v.items) w.multipliers-is ∙ i.value line e
            ∙ sym (more_left g.columns row c.args.slack line z (c.multiplier-times.ensures.value line e) (ap (int_lt (pos 0)) (sym word) ∙ w.if-times-gt0.false))
      ];
    }

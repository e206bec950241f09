use Rattle.std.proofs.Common.{◌∙◌, ℤ, List, ap, refl, length}
use Rattle.strict_solver.proofs.Parts.{lent_back}
use Rattle.strict_solver.proofs.Stems.{start_known}
use Rattle.strict_solver.proofs.basis.Basis.start.Goals as goal

pub returns-clause-stands : goal.returns-clause-stands
returns-clause-stands c =
    let b = c.args.self.now in
    let back = lent_back b.cells.len c.clear_rows.new.cells b.cells.items (c.clear_rows.ensures.count ∙ c.deref_mut.ensures.len) in
    start_known _ c.clear_rows.new.cells c.requires.few (ap (λ (xs : List ℤ). length xs) back ∙ c.clear_rows.ensures.count ∙ ap (λ (xs : List ℤ). length xs) c.deref_mut.ensures.value ∙ c.requires.cells) c.requires.line refl back c.in_ok-place_heights.ensures c.clear_rows.ensures.rows

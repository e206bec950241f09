use Rattle.std.proofs.Common.{◌≡◌, sym, ap, ◌∙◌, arith, Some, to_z, of_z}
use Rattle.std.specs.Int.{w128}
use Rattle.std.proofs.lemmas.Int.{ints}
use Rattle.strict_solver.specs.Grids.{lines_of}
use Rattle.strict_solver.proofs.Outcome.{heights_answer, scales_wide}
use Rattle.strict_solver.proofs.grid.Grid.write_heights.Goals as goal

pub returns-in-Ok : goal.returns-in-Ok
returns-in-Ok c = heights_answer c.args.self.now.columns c.args.width c.in-Ok.scale (lines_of c.args.self.now) c.scale_heights.result c.scale_heights.new.heights c.in-Ok.ensures.0 c.in-Ok.ensures.1 c.scale_heights.ensures

pub returns-in-Err : goal.returns-in-Err
returns-in-Err c =
    let word : to_z w128 (of_z w128 c.in-Err.number) ≡ c.in-Err.number = omega (arith, ints) in
    scales_wide c.args.self.now.columns c.args.width (lines_of c.args.self.now) c.in-Err.number c.in-Err.ensures ∙ ap Some (sym word)

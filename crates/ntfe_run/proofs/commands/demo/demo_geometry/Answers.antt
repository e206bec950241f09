use Rattle.std.proofs.Common.{sym, ◌∙◌}
use Rattle.ntfe_run.proofs.DemoEnds.{small_listed}
use Rattle.ntfe_run.proofs.commands.demo.demo_geometry.Goals as goal

pub unreachable-requires : goal.unreachable-requires
unreachable-requires c =
    let f = c.in-Err-TooWide in
    small_listed c.in_ok-pair.pair c.in_ok-pair.ensures.small f.field-0 f.ensures.cause (λ e. let k = sym f.field-0-is ∙ e in cc)

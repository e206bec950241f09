use Rattle.std.proofs.Common.{◌≡◌, ◌^◌, leb, ap, ◌∙◌, arith, unsigned_abs}
use Rattle.std.proofs.lemmas.Int.{ints}
use Rattle.strict_solver.proofs.Wide.{wide_shifted}
use Rattle.strict_solver.proofs.row.is_wide.Goals as goal

pub returns : goal.returns
returns c =
    let e : c.unsigned_abs.result ≡ unsigned_abs c.args.number.now = omega (arith, ints) in
    wide_shifted c.unsigned_abs.result c.args.width ∙ ap (λ n. leb (2 ^ c.args.width) n) e

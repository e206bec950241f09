use Rattle.std.proofs.Common.{List, subst, sym}
use Rattle.std.specs.Prelude.{All}
use Rattle.lattice_points.specs.Inequalities.{IsSum}
use Rattle.lattice_points.specs.declared.inequality.Inequality.{Inequality}
use Rattle.ntfe_model.proofs.Listings.{all_next}
use Rattle.lattice_points.proofs.inequality.add.Goals as goal

pub returns-in_ok-push : goal.returns-in_ok-push
returns-in_ok-push c = λ ms k h old.
    let P : List Inequality → Type 0 = λ xs. All (IsSum ms k) xs in
    subst P (sym c.in_ok-push.ensures.items) (all_next (IsSum ms k) c.args.sums.now.items c.args.sum old h)

use Rattle.std.proofs.Common.{List, subst, sym}
use Rattle.std.specs.Prelude.{All}
use Rattle.lattice_points.specs.Inequalities.{IsSum}
use Rattle.lattice_points.specs.declared.inequality.Inequality.{Inequality}
use Rattle.ntfe_model.proofs.Listings.{all_next}
use Rattle.lattice_points.proofs.inequality.add_sum.Goals as goal

pub returns-in_ok-push-in-Some : goal.returns-in_ok-push-in-Some
returns-in_ok-push-in-Some c = λ ms hm hn old.
    let Q : Inequality → Type 0 = IsSum ms c.args.cancelled in
    let P : List Inequality → Type 0 = λ xs. All Q xs in
    subst P (sym c.in_ok-push-in-Some.ensures.items) (all_next Q c.args.sums.now.items c.in-Some.sum old (c.in-Some.ensures ms hm hn))

use Rattle.std.proofs.Common.{List, subst, sym}
use Rattle.std.specs.Prelude.{All, Contains}
use Rattle.std.proofs.lemmas.List.Elements.{Contains-get_or}
use Rattle.ntfe_nums.specs.Vectors.{Vector}
use Rattle.lattice_points.specs.Inequalities.{IsGiven}
use Rattle.lattice_points.specs.declared.inequality.Inequality.{Inequality}
use Rattle.ntfe_model.proofs.Listings.{all_next}
use Rattle.lattice_points.proofs.inequality.inequalities_of.Goals as goal

pub loop-m-preserved : goal.loop-m-preserved
loop-m-preserved c =
    let ms = c.args.dual.now in
    let P : Vector → Type 0 = λ v. Contains ms v in
    let Q : List Inequality → Type 0 = λ xs. All (IsGiven ms) xs in
    let k = subst P (sym c.m-item.is) (Contains-get_or ms c.loop-m.m-index _ c.loop-m-test.true) in
    subst Q (sym c.in_ok-push.ensures.items) (all_next (IsGiven ms) c.loop-m.given.items c.of.result c.loop-m.invariant (c.of.ensures ms k))

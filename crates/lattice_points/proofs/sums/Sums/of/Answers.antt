use Rattle.std.proofs.Common.{List, subst, sym}
use Rattle.std.specs.Prelude.{All}
use Rattle.lattice_points.specs.Inequalities.{IsGiven}
use Rattle.lattice_points.specs.declared.inequality.Inequality.{Inequality}
use Rattle.lattice_points.specs.declared.inequality.Cancelled.TheVariants.{Fourth}
use Rattle.lattice_points.proofs.InequalityLemmas.{short_all, given_all}
use Rattle.lattice_points.proofs.sums.Sums.of.Goals as goal

pub eliminate-requires : goal.eliminate-requires
eliminate-requires c =
    let ms = c.args.dual.now in
    let P : List Inequality → Type 0 = λ xs. All (IsGiven ms) xs in
    short_all ms c.as_slice.result.now (subst P (sym c.as_slice.ensures.value) c.in_ok-given.ensures)

pub eliminate-requires-2 : goal.eliminate-requires-2
eliminate-requires-2 c =
    let ms = c.args.dual.now in
    let P : List Inequality → Type 0 = λ xs. All (IsGiven ms) xs in
    let three = c.in_ok-three.ensures ms (subst P (sym c.as_slice.ensures.value) c.in_ok-given.ensures) in
    short_all ms c.as_slice-2.result.now (subst P (sym c.as_slice-2.ensures.value) (given_all ms Fourth c.in_ok-three.three.items three))

pub returns : goal.returns
returns c =
    let ms = c.args.dual.now in
    let P : List Inequality → Type 0 = λ xs. All (IsGiven ms) xs in
    let three = c.in_ok-three.ensures ms (subst P (sym c.as_slice.ensures.value) c.in_ok-given.ensures) in
    record { three = three; two = c.in_ok-two.ensures ms (subst P (sym c.as_slice-2.ensures.value) (given_all ms Fourth c.in_ok-three.three.items three)) }

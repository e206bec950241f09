use Rattle.std.proofs.Common.{◌≡◌, sym, subst, rules}
use Rattle.ntfe_model.specs.Pairs.{VertexLists, IsBounded}
use Rattle.ntfe_model.specs.Reflexive.{IsReflexive}
use Rattle.polygon_demo.specs.Limits.{IsSmallPair}
use Rattle.polygon_demo.specs.Polygons.{demo_pair}
use Rattle.polygon_demo.proofs.DemoPairs.{demo_bounded, demo_reflexive, demo_small}
use Rattle.polygon_demo.proofs.pairs.demo.Goals as goal

pub new-requires : goal.new-requires
new-requires c =
    let pair : VertexLists = record { vertices = c.append_products.new.out.items; dual = c.append_products-3.new.out.items } in
    let e : pair ≡ demo_pair c.args.number = search rules in
    subst IsBounded (sym e) (demo_bounded c.args.number c.requires.low c.requires.high)

pub returns-clause-reflexive : goal.returns-clause-reflexive
returns-clause-reflexive c =
    let e : c.new.result ≡ demo_pair c.args.number = search rules in
    subst IsReflexive (sym e) (demo_reflexive c.args.number c.requires.low c.requires.high)

pub returns-clause-small : goal.returns-clause-small
returns-clause-small c =
    let e : c.new.result ≡ demo_pair c.args.number = search rules in
    subst IsSmallPair (sym e) (demo_small c.args.number c.requires.low c.requires.high)

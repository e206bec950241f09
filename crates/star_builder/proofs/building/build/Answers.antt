use Rattle.std.proofs.Common.{◌∙◌, ℕ, List, length, sym, subst}
use Rattle.std.proofs.lemmas.List.Filters.{dedup_is}
use Rattle.ntfe_model.specs.Stars.{IsStar, order_of}
use Rattle.star_builder.proofs.FacetWalks.{listed}
use Rattle.star_builder.proofs.building.build.Goals as goal

pub returns : goal.returns
returns c =
    let g = c.args.geometry.now in
    let order = order_of c.args.push (length g.points) in
    record {
      star = subst (λ (ss : List (List ℕ)). IsStar g.pair.dual g.points c.args.heights.now order ss) (sym (c.from_vec.ensures ∙ dedup_is _ _ _ c.dedup.ensures.filtered))
          (listed g.pair.dual g.points c.args.heights.now order c.add_all.new.simplices.items c.sort_unstable.new.self.items c.in_ok-add_all.ensures c.sort_unstable.ensures.permutation c.sort_unstable.ensures.sorted);
    }

use Rattle.std.proofs.Common.{◌∙◌, sym, ap, length, arith, [], ◌∷◌, ◌++◌, refl}
use Rattle.std.proofs.lemmas.List.{append-nil}
use Rattle.ntfe_model.specs.Points.{facets_through}
use Rattle.lattice_points.proofs.FoundLemmas.{listing_none, listing_one}
use Rattle.lattice_points.proofs.found.Found.look_at.Goals as goal

pub returns-then-len-lt2-clause-adds : goal.returns-then-len-lt2-clause-adds
returns-then-len-lt2-clause-adds c =
    let e = c.in_ok-facets.ensures ∙ ap (λ ms. facets_through ms c.args.place) c.dual.ensures.value in
    let n = c.len.ensures in
    let v = c.in_ok-facets.facets.ok.0 in
    let l = c.if-len-lt2.true in
    let k = ap length e in
    record {
      added = [];
      listing = listing_none c.args.pair.now c.args.place (omega arith);
      count = omega arith;
      kept = λ h. sym (append-nil c.args.self.now.points.items);
    }

pub returns-in_ok-push-clause-adds : goal.returns-in_ok-push-clause-adds
returns-in_ok-push-clause-adds c =
    let e = c.in_ok-facets.ensures ∙ ap (λ ms. facets_through ms c.args.place) c.dual.ensures.value in
    let n = c.len.ensures in
    let v = c.in_ok-facets.facets.ok.0 in
    let l = c.if-len-lt2.false in
    record {
      added = record { place = c.args.place; facets = c.in_ok-facets.facets.items } ∷ [];
      listing = listing_one c.args.pair.now c.args.place c.in_ok-facets.facets.items e (omega arith) c.requires.inside;
      count = refl;
      kept = λ h. c.in_ok-push.ensures.items ∙ ap (λ fs. c.args.self.now.points.items ++ (record { place = c.args.place; facets = fs }) ∷ []) c.from_vec-facets.ensures;
    }

pub returns-else-self-le-POINT_LIMIT-clause-adds : goal.returns-else-self-le-POINT_LIMIT-clause-adds
returns-else-self-le-POINT_LIMIT-clause-adds c =
    let e = c.in_ok-facets.ensures ∙ ap (λ ms. facets_through ms c.args.place) c.dual.ensures.value in
    let n = c.len.ensures in
    let v = c.in_ok-facets.facets.ok.0 in
    let l = c.if-len-lt2.false in
    let over = c.if-self-le-POINT_LIMIT.false in
    record {
      added = record { place = c.args.place; facets = c.in_ok-facets.facets.items } ∷ [];
      listing = listing_one c.args.pair.now c.args.place c.in_ok-facets.facets.items e (omega arith) c.requires.inside;
      count = refl;
      kept = λ h. (let none : ⊥ = omega arith in absurd none);
    }

use Rattle.std.proofs.Common.{◌∙◌, sym, ap, arith, map, take, [], ◌∷◌, ◌++◌}
use Rattle.std.proofs.lemmas.List.{map_more, take_all}
use Rattle.ntfe_model.specs.Charts.{axes}
use Rattle.ntfe_model.specs.Flats.{flat_of}
use Rattle.face_chart.specs.Tables.{patch}
use Rattle.face_chart.proofs.table.Table.new.Goals as goal

pub loop-place-init : goal.loop-place-init
loop-place-init c = c.in_ok-flat.ensures.items

pub loop-place-preserved : goal.loop-place-preserved
loop-place-preserved c =
    let vs = c.deref-place-items.result.now in
    let i = c.loop-place.place-index in
    let f = flat_of c.axes_of-axes.result in
    c.in_ok-push.ensures.items ∙ ap (λ fs. fs ++ c.flatten.result ∷ []) c.loop-place.invariant
    ∙ ap (λ x. map f (take i vs) ++ x ∷ []) (c.flatten.ensures.value ∙ ap f c.place-item.is) ∙ sym (map_more f vs i c.place-item.result c.loop-place-test.true)

pub invariant_of-result : goal.invariant_of-result
invariant_of-result c =
    let vs = c.deref-place-items.result.now in
    let i = c.loop-place.place-index in
    record {
      known = c.requires.known;
      small = c.requires.small;
      flat =
          c.loop-place.invariant ∙ ap (map (flat_of c.axes_of-axes.result)) (take_all i vs (omega arith)) ∙ ap (map (flat_of c.axes_of-axes.result)) c.deref-place-items.ensures.value
          ∙ ap (λ q. map (flat_of q) c.args.places.items) (c.axes_of-axes.ensures.value ∙ (λ t. axes (patch (c.as_slice.ensures.value t) (c.as_slice-2.ensures.value t))));
    }

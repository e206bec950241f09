use Rattle.std.proofs.Common.{◌≡◌, ◌∙◌, sym, ap, subst, List, ◌<◌}
use Rattle.std.specs.Prelude.{All, AllPairs, IfOk}
use Rattle.ntfe_nums.specs.Vectors.{Vector}
use Rattle.ntfe_model.specs.Pairs.{IsSmall}
use Rattle.ntfe_model.specs.Charts.{Patch, spot_numbers}
use Rattle.ntfe_model.specs.Charts.{AreApart}
use Rattle.face_chart.proofs.FaceLemmas.{places, shape_small, known_read, patch_read, patch_rises, shape_apart}
use Rattle.face_chart.proofs.charting.chart.Goals as goal

pub new-requires-clause-known : goal.new-requires-clause-known
new-requires-clause-known c =
    known_read c.args.geometry.now c.points.ensures.shape c.args.face c.requires c.faces.result.now c.index-faces-face.result c.as_slice.result.now c.in_ok-numbers.numbers.items c.in_ok-places.places.items
    c.faces.ensures.value c.index-faces-face.is c.as_slice.ensures c.in_ok-numbers.ensures.items (c.in_ok-places.ensures ∙ ap places c.points.ensures.value)

pub new-requires-clause-small : goal.new-requires-clause-small
new-requires-clause-small c =
    let m = c.in_ok-places.ensures ∙ ap places c.points.ensures.value in
    let P : List Vector → Type 0 = All IsSmall in
    subst P (sym m) (shape_small c.args.geometry.now c.points.ensures.shape c.args.face c.requires)

pub from_table-requires-clause-apart : goal.from_table-requires-clause-apart
from_table-requires-clause-apart c =
    let P : Patch → Type 0 = AreApart in
    let p =
    patch_read c.args.geometry.now c.points.ensures.shape c.args.face c.requires c.faces.result.now c.index-faces-face.result c.as_slice.result.now c.in_ok-numbers.numbers.items c.in_ok-places.places.items c.in_ok-table.table
    c.faces.ensures.value c.index-faces-face.is c.as_slice.ensures c.in_ok-numbers.ensures.items (c.in_ok-places.ensures ∙ ap places c.points.ensures.value) c.in_ok-table.ensures
    in
    subst P (sym p) (shape_apart c.args.geometry.now c.points.ensures.shape c.args.face c.requires)

pub from_table-requires-clause-rising : goal.from_table-requires-clause-rising
from_table-requires-clause-rising c =
    let P : Patch → Type 0 = λ h. AllPairs (λ j k. j < k) (spot_numbers h) in
    let p =
    patch_read c.args.geometry.now c.points.ensures.shape c.args.face c.requires c.faces.result.now c.index-faces-face.result c.as_slice.result.now c.in_ok-numbers.numbers.items c.in_ok-places.places.items c.in_ok-table.table
    c.faces.ensures.value c.index-faces-face.is c.as_slice.ensures c.in_ok-numbers.ensures.items (c.in_ok-places.ensures ∙ ap places c.points.ensures.value) c.in_ok-table.ensures
    in
    subst P (sym p) (patch_rises c.args.geometry.now c.points.ensures.shape c.args.face c.requires)

pub returns : goal.returns
returns c =
    let P : Patch → Type 0 = λ h. IfOk c.from_table.result (λ x. x ≡ h) in
    let p =
    patch_read c.args.geometry.now c.points.ensures.shape c.args.face c.requires c.faces.result.now c.index-faces-face.result c.as_slice.result.now c.in_ok-numbers.numbers.items c.in_ok-places.places.items c.in_ok-table.table
    c.faces.ensures.value c.index-faces-face.is c.as_slice.ensures c.in_ok-numbers.ensures.items (c.in_ok-places.ensures ∙ ap places c.points.ensures.value) c.in_ok-table.ensures
    in
    subst P p c.from_table.ensures

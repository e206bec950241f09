use Rattle.std.proofs.Common.{◌≡◌, ◌∙◌, ℕ, List, [], map, get_or, ap, sym, subst}
use Rattle.std.proofs.lemmas.List.{get_or_default}
use Rattle.std.proofs.lemmas.List.Filters.{dedup_is}
use Rattle.ntfe_model.specs.Charts.{patch_at, Patch}
use Rattle.ntfe_model.specs.Shapes.{face_at, no_face}
use Rattle.ntfe_model.specs.Stars.{IsRestriction, AreTogether}
use Rattle.ntfe_model.specs.declared.point.Point.{Point}
use Rattle.ntfe_model.specs.declared.triangle.Triangle.{Triangle}
use Rattle.ntfe_model.proofs.GeometryPoints.{numbers_within}
use Rattle.star_builder.specs.Gathered.{Gathers, triangle_of}
use Rattle.star_builder.specs.FaceCharts.{patch, AreKnown, AreLeft}
use Rattle.star_builder.proofs.RestrictLemmas.{restriction_listed}
use Rattle.star_builder.proofs.restriction.restrict.Goals as goal

pub new-chart-requires-clause-known : goal.new-chart-requires-clause-known
new-chart-requires-clause-known c =
    let g = c.args.geometry.now in
    let same : c.as_slice-numbers.result.now ≡ (face_at g c.args.face).points =
    c.as_slice-numbers.ensures ∙ ap (λ f. f.points) (ap (λ fs. get_or fs c.args.face c.index-faces-face.result) c.faces.ensures.value ∙ get_or_default g.faces c.args.face c.index-faces-face.result no_face c.requires.face) in
    subst (λ (u : List ℕ × List Point). AreKnown u.0 u.1) (λ i. (sym same i, sym c.points.ensures.value i)) (numbers_within g c.faces.ensures.shape c.args.face c.requires.face)

pub returns : goal.returns
returns c =
    let g = c.args.geometry.now in
    let same : c.as_slice-numbers.result.now ≡ (face_at g c.args.face).points =
    c.as_slice-numbers.ensures ∙ ap (λ f. f.points) (ap (λ fs. get_or fs c.args.face c.index-faces-face.result) c.faces.ensures.value ∙ get_or_default g.faces c.args.face c.index-faces-face.result no_face c.requires.face) in
    let h : Patch = patch_at g c.args.face in
    let same_patch : patch c.new-chart.result.numbers.now c.new-chart.result.points.now ≡ h =
    λ i. patch ((c.new-chart.ensures.numbers ∙ same) i) ((c.new-chart.ensures.points ∙ c.points.ensures.value) i) in
    let star = c.args.star.now.simplices in
    let gathered = c.gather_all.new.triples.items in
    let all : Gathers (λ i j k. AreTogether star i j k × AreLeft h i j k) [] gathered =
    subst (λ (u : List (List ℕ) × Patch × List (List ℕ)). Gathers (λ i j k. AreTogether u.0 i j k × AreLeft u.1 i j k) u.2 gathered)
    (λ i. (c.as_slice.ensures i, same_patch i, c.new-triples.ensures.items i)) c.in_ok-gather_all.ensures in
    let once = dedup_is _ _ _ c.dedup.ensures.filtered in
    record {
      restriction = subst (λ (ts : List Triangle). IsRestriction h star ts)
          (sym (c.from_vec.ensures ∙ c.in_ok-triangles.ensures ∙ ap (map triangle_of) (c.as_slice-2.ensures.value ∙ once)))
          (restriction_listed h star gathered c.sort_unstable.new.self.items all c.sort_unstable.ensures.permutation c.sort_unstable.ensures.sorted);
    }

-- What a fine regular star triangulation leaves on a two-face is an item of it.
use Rattle.std.proofs.Common.{ℕ, ◌<◌, sym, subst, List, length}
use Rattle.std.specs.Prelude.{AllPairs}
use Rattle.ntfe_model.specs.Points.{place_of_point}
use Rattle.ntfe_model.specs.Shapes.{Shape, IsShape, face_at}
use Rattle.ntfe_model.specs.Charts.{patch_at, spot_numbers}
use Rattle.ntfe_model.specs.Words.{IsItem}
use Rattle.ntfe_model.specs.Stars.{IsFrst, Leaves}
use Rattle.ntfe_model.specs.declared.triangulation.Triangulation.{Triangulation}
use Rattle.ntfe_model.proofs.GeometryPoints.{numbers_of, numbers_rise}
use Rattle.face_chart.proofs.FineSets.{word_exists}
use Rattle.fine_stream.proofs.AllItems.{item_exists}
use Rattle.star_builder.proofs.FaceLevels.{face_apart}
use Rattle.star_builder.proofs.Inducing.{some_triple}
use Rattle.star_builder.proofs.LeftTriples.{left_triples, left_fine, fine_leaves}

pub restrictions_are_items : (g : Shape) (star : List (List ℕ)) (f : ℕ) → IsShape g → IsFrst g.pair.dual g.points star → f < length g.faces
    → (n : ℕ) × (x : Triangulation) × IsItem (patch_at g f) n x × Leaves (patch_at g f) star x
restrictions_are_items g star f s frst within =
    let ts = left_triples (patch_at g f) star in
    let fine = left_fine g s star frst f within ts.0 ts.1 in
    let word = word_exists (patch_at g f) ts.0 fine in
    let t = some_triple g s f within ts.0 fine in
    let x = word.1.triangulation in
    let item = item_exists (patch_at g f) (face_apart g s f within) rising t.0.a t.0.b t.0.c (fine.unit t.0 t.1) x word.1.is in
    (item.0, x, item.1, fine_leaves g s star frst f within ts.0 ts.1 x word.1.same)
  where
    rising : AllPairs (λ j k. j < k) (spot_numbers (patch_at g f))
    rising = subst (AllPairs (λ j k. j < k)) (sym (numbers_of (face_at g f).points (place_of_point g.points))) (numbers_rise g s f within)

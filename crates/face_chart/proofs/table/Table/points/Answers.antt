use Rattle.std.proofs.Common.{◌∙◌}
use Rattle.face_chart.proofs.PatchLemmas.{points_are}
use Rattle.face_chart.proofs.table.Table.points.Goals as goal

pub returns : goal.returns
returns c = c.as_slice.ensures.value ∙ points_are c.self.inside.numbers.items c.self.inside.places.items c.args.self.now c.self.view_is

use Rattle.std.proofs.Common.{◌+◌, ◌-◌, ◌*◌, length, drop}
use Rattle.ntfe_model.specs.Charts.{spot_numbers}
use Rattle.fine_stream.proofs.Finding.{IsTurning, points_of}
use Rattle.fine_stream.specs.Places.{ArePlaced}
use Rattle.fine_stream.proofs.search.+first.Given as goal

abbrev pub decreases-add_first : goal.decreases-add_first
decreases-add_first l = 2 * (length (spot_numbers l.chart.now) * length (spot_numbers l.chart.now) - length l.path.now.triangles.items) + 1

abbrev pub decreases-add_with : goal.decreases-add_with
decreases-add_with l = 2 * (length (spot_numbers l.chart.now) * length (spot_numbers l.chart.now) - length l.path.now.triangles.items)

abbrev pub invariant-add_first-loop-candidate : goal.invariant-add_first-loop-candidate
invariant-add_first-loop-candidate l =
    IsTurning l.chart (drop l.start l.fn.path.steps.items) l.limit (points_of l.candidate-items) l.candidate-index l.fn.path l.path × ArePlaced l.tables l.path

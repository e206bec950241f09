use Rattle.std.proofs.Common.{◌≡◌, take}
use Rattle.std.specs.Prelude.{All}
use Rattle.face_chart.specs.Tables.{place_at}
use Rattle.face_chart.proofs.table.Table.same.Given as goal

abbrev pub invariant-loop-number : goal.invariant-loop-number
invariant-loop-number l = All (λ k. place_at l.places k ≡ place_at l.others k) (take l.number-index l.numbers)

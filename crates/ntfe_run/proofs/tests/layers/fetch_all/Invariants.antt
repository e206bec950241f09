use Rattle.std.proofs.Common.{◌≡◌}
use Rattle.ntfe_run.proofs.tests.layers.fetch_all.Given as goal

-- the book stays one of the geometry
abbrev pub invariant-loop-face : goal.invariant-loop-face
invariant-loop-face l = l.book.shape ≡ l.fn.book.shape

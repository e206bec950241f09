use Rattle.std.proofs.Common.{◌≡◌}
use Rattle.ntfe_run.proofs.tests.items.fetched.Given as goal

-- the book stays one of the geometry
abbrev pub invariant-loop-number : goal.invariant-loop-number
invariant-loop-number g l = g.B.Book.shape l.book ≡ g.B.Book.shape l.fn.book

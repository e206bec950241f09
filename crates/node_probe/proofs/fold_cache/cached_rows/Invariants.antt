use Rattle.std.proofs.Common.{◌≡◌, take}
use Rattle.node_probe.specs.Heads.{AreHeadRows}
use Rattle.node_probe.proofs.fold_cache.cached_rows.Given as goal

abbrev pub invariant-loop-face : goal.invariant-loop-face
invariant-loop-face g l = (l.caches.items ≡ l.initial.caches.items) × AreHeadRows (g.B.Book.shape l.book) (take l.face l.key) l.rows.folds.items l.rows.faces.items

use Rattle.std.proofs.Common.{◌%◌}
use Rattle.node_probe.proofs.FoldCacheLemmas.{put_there}
use Rattle.node_probe.proofs.fold_cache.keep_folds.Goals as goal

pub returns-clause-folds : goal.returns-clause-folds
returns-clause-folds c = put_there c.make_place.new.kept.items (c.args.number % 1024) (record { number = c.args.number; folds = c.in_ok-folds.folds }) c.in_ok-make_place.ensures.place

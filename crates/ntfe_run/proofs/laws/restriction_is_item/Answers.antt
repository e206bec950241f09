use Rattle.ntfe_run.proofs.RestrictedItems.{restrictions_are_items}
use Rattle.ntfe_run.proofs.laws.restriction_is_item.Goals as goal

pub returns : goal.returns
returns c = restrictions_are_items

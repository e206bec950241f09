use Rattle.choice_board.proofs.CourseLemmas.{without_gaps}
use Rattle.choice_board.proofs.laws.classes_have_no_gaps.Goals as goal

pub returns : goal.returns
returns c = without_gaps

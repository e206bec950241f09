use Rattle.choice_board.proofs.CountLemmas.{course_counted}
use Rattle.choice_board.proofs.laws.totals_count_the_calls.Goals as goal

pub returns : goal.returns
returns c = course_counted

use Rattle.mn_boxes.proofs.Marks.{members_zeros}
use Rattle.mn_boxes.proofs.value_set.ValueSet.new.Goals as goal

pub returns-clause-none : goal.returns-clause-none
returns-clause-none c = λ a. rw c.in_ok-words.ensures.zeros (members_zeros _ _ a)

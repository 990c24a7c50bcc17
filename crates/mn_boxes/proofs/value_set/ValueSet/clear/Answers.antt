use Rattle.mn_boxes.proofs.Marks.{members_none}
use Rattle.mn_boxes.proofs.value_set.ValueSet.clear.Goals as goal

pub returns-clause-none : goal.returns-clause-none
returns-clause-none c = λ a. members_none c.self.inside.low c.clear_all.new.words.items a c.clear_all.ensures.zeros

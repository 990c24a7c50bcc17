use Rattle.mn_boxes.proofs.Declared.{around_boxes, declared_box}
use Rattle.mn_boxes.proofs.laws.declared_sets_are_a_box.Goals as goal

pub returns : goal.returns
returns c = record { declared = declared_box; around = around_boxes }

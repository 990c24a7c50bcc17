use Rattle.mn_closure.proofs.Wider.{wider_supported, wider_possible}
use Rattle.mn_closure.proofs.laws.wider_boxes_keep.Goals as goal

pub returns-clause-supported : goal.returns-clause-supported
returns-clause-supported c = wider_supported

pub returns-clause-possible : goal.returns-clause-possible
returns-clause-possible c = wider_possible

use Rattle.mn_boxes.proofs.Parting.{either_fires, fires_both}
use Rattle.mn_boxes.proofs.laws.two_changes_fire_as_one.Goals as goal

pub returns : goal.returns
returns c = record { one = either_fires; both = fires_both }

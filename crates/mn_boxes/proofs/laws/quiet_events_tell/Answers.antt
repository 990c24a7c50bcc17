use Rattle.mn_boxes.proofs.Quiet.{quiet_boxes, quiet_ends, quiet_values}
use Rattle.mn_boxes.proofs.laws.quiet_events_tell.Goals as goal

pub returns : goal.returns
returns c = record { any = quiet_boxes; ends = quiet_ends; values = quiet_values }

-- The better of a best candidate so far and one place more.
use Rattle.std.specs.Prelude.{◌==◌, if◌then◌else◌, Option, Some, None}
use Rattle.mn_order.specs.Choose.{beats}
use Rattle.mn_order.specs.declared.choice.Choice.{Choice}
use Rattle.mn_order.specs.declared.scan.Candidate.{Candidate}

-- the later one, where it beats the earlier or there is none
abbrev pub better_of_two : Choice → Option Candidate → Candidate → Option Candidate
better_of_two choice None next = Some next
better_of_two choice (Some first) next = if beats choice next first then Some next else Some first

-- the same, where a place with one value is passed over
abbrev pub better_of : Choice → Option Candidate → Candidate → Option Candidate
better_of choice best next = if next.size == 1 then best else better_of_two choice best next

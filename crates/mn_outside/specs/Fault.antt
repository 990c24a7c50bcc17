-- What a fault of fetching a whole file tells.
use Rattle.std.specs.Prelude.{ℕ, ◌≤◌, List, Option}
use Rattle.mn_outside.specs.declared.helpers.FetchFault.{FetchFault}
use Rattle.mn_outside.specs.declared.helpers.FetchFault.TheVariants.{Failed, TooLong, NoMemory}
use Rattle.mn_outside.specs.Content.{FileMap}
use Rattle.mn_outside.specs.Reading.{IsLongerFile}

-- Where the fault is that the file is too long, it is longer than the limit, and so many lines end before the limit.
abbrev pub TellsLength : Option FileMap → List ℕ → ℕ → FetchFault → Type 0
TellsLength told name limit (TooLong lines) = (lines ≤ limit) × IsLongerFile told name limit lines
TellsLength told name limit Failed = Unit {0}
TellsLength told name limit NoMemory = Unit {0}

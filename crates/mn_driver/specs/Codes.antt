-- The numbers that the program ends with.
use Rattle.std.specs.Prelude.{ℕ}
use Rattle.mn_report.specs.declared.lines.Outcome.{Outcome}
use Rattle.mn_report.specs.declared.lines.Outcome.TheVariants as outcome
use Rattle.mn_driver.specs.declared.status.Status.{Status}
use Rattle.mn_driver.specs.declared.status.Status.TheVariants.{Complete, AtSolutionLimit, AtNodeLimit, Printed, Refused, Usage, ReadFault, WriteFault, DumpTooLong, NoMemory}

abbrev pub code_of : Status → ℕ
code_of Complete = 0
code_of AtSolutionLimit = 0
code_of AtNodeLimit = 0
code_of Printed = 0
code_of (Refused why) = 1
code_of (Usage why) = 2
code_of ReadFault = 3
code_of WriteFault = 4
code_of (DumpTooLong n) = 5
code_of NoMemory = 6

-- the status of a run whose report is whole, by its outcome
abbrev pub status_of : Outcome → Status
status_of outcome.Complete = Complete
status_of outcome.SolutionLimit = AtSolutionLimit
status_of outcome.NodeLimit = AtNodeLimit

-- the status of a run whose last flush failed
abbrev pub unflushed : Status → Status
unflushed Complete = WriteFault
unflushed AtSolutionLimit = WriteFault
unflushed AtNodeLimit = WriteFault
unflushed Printed = WriteFault
unflushed other = other

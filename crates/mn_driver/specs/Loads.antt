-- Why no instance came of the named file, or of the rule of a generated model.
use Rattle.std.specs.Prelude.{◌≢◌, ℕ, ◌+◌, ◌≤◌, List, Option}
use Rattle.mn_model.specs.declared.refusal.Refusal.{Refusal}
use Rattle.mn_model.specs.declared.refusal.Refusal.TheVariants as refusals
use Rattle.mn_outside.specs.Content.{FileMap}
use Rattle.mn_model.specs.declared.limits.TheConstants.{TEXT_BYTES}
use Rattle.mn_model.specs.declared.refusal.Which.TheVariants.{Text}
use Rattle.mn_outside.specs.declared.helpers.FetchFault.{FetchFault}
use Rattle.mn_outside.specs.declared.helpers.FetchFault.TheVariants as faults
use Rattle.mn_report.specs.Lines.{place_of}
use Rattle.mn_driver.specs.Runs.{IsTheRefused, line_at}
use Rattle.mn_driver.specs.Sources.{Origin}
use Rattle.mn_driver.specs.declared.load.Unloaded.{Unloaded}
use Rattle.mn_driver.specs.declared.load.Unloaded.TheVariants.{Failed, Refused, NoMemory}

-- a refusal of the text has a cause in the text: want of memory isn't one
abbrev pub IsOfText : Unloaded → Type 0
IsOfText (Refused why line) = why ≢ refusals.NoMemory
IsOfText _ = Unit {0}

-- the lines that end before the limit are few enough to print the number of the next
abbrev pub HasFewLines : FetchFault → Type 0
HasFewLines (faults.TooLong lines) = lines ≤ TEXT_BYTES
HasFewLines _ = Unit {0}

-- why nothing was loaded, by the fault of fetching, and by the refusal of what was fetched
abbrev pub unfetched : FetchFault → Unloaded
unfetched faults.Failed = Failed
unfetched (faults.TooLong lines) = Refused (refusals.Limit Text TEXT_BYTES) (lines + 1)
unfetched faults.NoMemory = NoMemory

abbrev pub unread : Refusal → List ℕ → Unloaded
unread refusals.NoMemory text = NoMemory
unread why text = Refused why (line_at text (place_of why))

-- what the named file holds where it was refused
abbrev pub Unloads : Option FileMap → Origin → Unloaded → Type 0
Unloads told origin Failed = Unit {0}
Unloads told origin (Refused why line) = IsTheRefused told origin why line
Unloads told origin NoMemory = Unit {0}

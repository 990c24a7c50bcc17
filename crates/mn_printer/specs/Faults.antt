-- What printing may answer in place of a text.
use Rattle.std.specs.Prelude.{◌≡◌, ℕ, ◌<◌, min, List, length}
use Rattle.mn_model.specs.declared.limits.TheConstants.{TEXT_BYTES}
use Rattle.mn_printer.specs.Pages.{greatest}
use Rattle.mn_printer.specs.declared.sections.PrintFault.{PrintFault}
use Rattle.mn_printer.specs.declared.sections.PrintFault.TheVariants.{TooLong, NoMemory}

-- a text past the limit has no page: the fault tells its length, up to the greatest number
abbrev pub IsFaultOf : List ℕ → PrintFault → Type 0
IsFaultOf text (TooLong n) = (TEXT_BYTES < length text) × (n ≡ min (length text) greatest)
IsFaultOf text NoMemory = Unit {0}

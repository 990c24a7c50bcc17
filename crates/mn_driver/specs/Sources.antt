-- Where a model comes from.
use Rattle.std.specs.Prelude.{ℕ, List, Option, Some, None, string_bytes}
use Rattle.mn_gen.specs.Made.{IsSize}
use Rattle.mn_options.specs.declared.told.Wanted.{Wanted}
use Rattle.mn_driver.specs.declared.request.Source.{Source}
use Rattle.mn_driver.specs.declared.request.Source.TheVariants as source

-- from the file of that name, or it is generated
pub data Origin : Type 0 where
  Named : List ℕ → Origin
  Made : Wanted → Origin

-- the same as it is handed on
abbrev pub origin_of : Source → Origin
origin_of (source.Named name) = Named (string_bytes name)
origin_of (source.Made wanted) = Made wanted

-- from a file if one is named, and else as it is to be generated
abbrev pub origin_told : Option (List ℕ) → Option Wanted → Option Origin
origin_told (Some name) wanted = Some (Named name)
origin_told None (Some wanted) = Some (Made wanted)
origin_told None None = None

-- a model that is generated has a size that there is
abbrev pub HasSize : Origin → Type 0
HasSize (Named name) = Unit {0}
HasSize (Made wanted) = IsSize wanted.n

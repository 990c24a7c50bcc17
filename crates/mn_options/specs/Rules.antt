-- Which rule the words of the command line break first.
use Rattle.std.specs.Prelude.{ℕ, Bool, true, false, ◌&&◌, ◌||◌, if◌then◌else◌, List, [], ◌∷◌, ◌++◌, length, Option, Some, None}
use Rattle.std.specs.List.{list_any}
use Rattle.std.specs.Option.{option_or}
use Rattle.mn_options.specs.Words.{same_option, words_of}
use Rattle.mn_options.specs.declared.table.CommandOption.{CommandOption}
use Rattle.mn_options.specs.declared.table.CommandOption.TheVariants.{Generate}
use Rattle.mn_options.specs.declared.usage.Usage.{Usage}
use Rattle.mn_options.specs.declared.usage.Usage.TheVariants.{Unknown, MissingValue, BadNumber, Twice, NoModel, SecondModel, Clash}
use Rattle.mn_options.specs.declared.words.Word.{Word}
use Rattle.mn_options.specs.declared.words.Word.TheVariants.{Listed, Bare, Limit, Order, Kind, Seed, Size, Unlisted, Model}

-- the word is this option
abbrev pub is_option : CommandOption → Word → Bool
is_option option (Listed other) = same_option option other
is_option option _ = false

-- the word names a model
abbrev pub is_model : Word → Bool
is_model Model = true
is_model _ = false

-- one of the words is this option
abbrev pub asks_for : CommandOption → List Word → Bool
asks_for option words = list_any (is_option option) words

-- one of the words names a model
abbrev pub names_model : List Word → Bool
names_model words = list_any is_model words

-- the rule that a word breaks after those before it
abbrev pub broken_by : List Word → Word → Option Usage
broken_by before Unlisted = Some (Unknown (length before))
broken_by before (Bare option) = Some (MissingValue (length before))
broken_by before (Listed option) = if asks_for option before then Some (Twice (length before)) else if same_option option Generate && names_model before then Some (Clash (length before)) else None
broken_by before (Limit option None) = Some (BadNumber (length before))
broken_by before (Limit option (Some limit)) = None
broken_by before (Order None) = Some (Unknown (length before))
broken_by before (Order (Some choice)) = None
broken_by before (Kind None) = Some (Unknown (length before))
broken_by before (Kind (Some kind)) = None
broken_by before (Seed None) = Some (BadNumber (length before))
broken_by before (Seed (Some seed)) = None
broken_by before (Size None) = Some (BadNumber (length before))
broken_by before (Size (Some size)) = None
broken_by before Model = if names_model before then Some (SecondModel (length before)) else if asks_for Generate before then Some (Clash (length before)) else None

-- a model is named, or is to be generated
abbrev pub has_model : List Word → Bool
has_model words = names_model words || asks_for Generate words

-- the rule that words break first after others: the first word that breaks one decides, and only where none does, that there is a
-- model
abbrev pub first_broken_behind : List Word → List Word → Option Usage
first_broken_behind before [] = if has_model before then None else Some NoModel
first_broken_behind before (word ∷ words) = option_or (broken_by before word) (first_broken_behind (before ++ word ∷ []) words)

-- the rule that all words of the command line break first, if they break one
abbrev pub first_broken : List (List ℕ) → Option Usage
first_broken words = first_broken_behind [] (words_of words)

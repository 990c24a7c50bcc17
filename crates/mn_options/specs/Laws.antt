-- What the tables and the rules come to.
use Rattle.std.specs.Prelude.{◌≡◌, ◌↔◌, ◌⊎◌, ℕ, Bool, true, false, not, ⊤, List, filter, map, Some, None}
use Rattle.std.specs.List.{AllByRecursion}
use Rattle.mn_model.specs.Members.{AreDistinct, HasMember}
use Rattle.mn_options.specs.Rules.{first_broken}
use Rattle.mn_options.specs.Words.{kind_table, looked_up, option_table, order_table, word_of, words_of}
use Rattle.mn_options.specs.declared.table.CommandOption.TheVariants.{Generate}
use Rattle.mn_options.specs.declared.words.Word.{Word}
use Rattle.mn_options.specs.declared.words.Word.TheVariants.{Listed, Bare, Limit, Order, Kind, Seed, Size, Unlisted, Model}

-- no word has two lines of a table
abbrev pub OptionsAreDistinct : Type 0
OptionsAreDistinct = AreDistinct (map (λ line. line.0) option_table)

abbrev pub OrdersAreDistinct : Type 0
OrdersAreDistinct = AreDistinct (map (λ line. line.0) order_table)

abbrev pub KindsAreDistinct : Type 0
KindsAreDistinct = AreDistinct (map (λ line. line.0) kind_table)

-- each word of a table stands for what is on its line
abbrev pub OptionsAreFound : Type 0
OptionsAreFound = AllByRecursion (λ line. word_of line.0 3 ≡ Listed line.1) option_table

abbrev pub OrdersAreFound : Type 0
OrdersAreFound = AllByRecursion (λ line. looked_up order_table line.0 ≡ Some line.1) order_table

abbrev pub KindsAreFound : Type 0
KindsAreFound = AllByRecursion (λ line. looked_up kind_table line.0 ≡ Some line.1) kind_table

-- an option is known and has its values, and a value is one that the option can have
abbrev pub IsFit : Word → Type 0
IsFit Unlisted = ⊥
IsFit (Bare option) = ⊥
IsFit (Limit option None) = ⊥
IsFit (Order None) = ⊥
IsFit (Kind None) = ⊥
IsFit (Seed None) = ⊥
IsFit (Size None) = ⊥
IsFit _ = ⊤

-- the word is an option's value
abbrev pub is_value : Word → Bool
is_value (Limit option limit) = true
is_value (Order order) = true
is_value (Kind kind) = true
is_value (Seed seed) = true
is_value (Size size) = true
is_value _ = false

-- no option and no model is there twice; values may be the same
abbrev pub AreOnce : List Word → Type 0
AreOnce words = AreDistinct (filter (λ word. not (is_value word)) words)

-- each word fits, no option and no model is there twice, and a model is named or is to be generated, and not both
pub record AreLawful (words : List Word) : Type 0 where
  pub fit : AllByRecursion IsFit words
  pub once : AreOnce words
  pub source : HasMember words Model ⊎ HasMember words (Listed Generate)
  pub one : HasMember words Model → HasMember words (Listed Generate) → ⊥

-- such words break no rule, and no others do
abbrev pub LawfulBreakNoRule : Type 0
LawfulBreakNoRule = (words : List (List ℕ)) → (first_broken words ≡ None) ↔ AreLawful (words_of words)

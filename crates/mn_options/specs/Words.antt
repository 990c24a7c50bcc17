-- What each word of the command line is in its place.
use Rattle.std.specs.Prelude.{ℕ, Bool, true, false, ◌==◌, leb, if◌then◌else◌, List, [], ◌∷◌, length, map, Option, Some, None, option_map, unwrap_or, slice_index}
use Rattle.std.specs.Str.{byte, bytes_eq}
use Rattle.mn_order.specs.declared.choice.Choice.{Choice}
use Rattle.mn_gen.specs.declared.kind.GenKind.{GenKind}
use Rattle.mn_options.specs.Limits.{limit_in, number_in, size_in}
use Rattle.mn_options.specs.declared.table.CommandOption.{CommandOption}
use Rattle.mn_options.specs.declared.table.CommandOption.TheVariants.{FindAllSols, Generate, NodeLimit, NoPrintSols, NoResume, Redump, SolLimit, VarOrder}
use Rattle.mn_options.specs.declared.table.TheConstants.{KINDS, ORDERS, TABLE}
use Rattle.mn_options.specs.declared.words.Awaited.{Awaited}
use Rattle.mn_options.specs.declared.words.Awaited.TheVariants as awaited
use Rattle.mn_options.specs.declared.words.Word.{Word}
use Rattle.mn_options.specs.declared.words.Word.TheVariants.{Listed, Bare, Limit, Order, Kind, Seed, Size, Unlisted, Model}

-- the options, each after the bytes of its word, the orders and the kinds of generated models
abbrev pub option_table : List (List ℕ × CommandOption)
option_table = map (λ line. (line.0.now, line.1)) TABLE

abbrev pub order_table : List (List ℕ × Choice)
order_table = map (λ line. (line.0.now, line.1)) ORDERS

abbrev pub kind_table : List (List ℕ × GenKind)
kind_table = map (λ line. (line.0.now, line.1)) KINDS

-- what a table has after this word
abbrev pub looked_up : {X : Type 0} → List (List ℕ × X) → List ℕ → Option X
looked_up [] word = None
looked_up (line ∷ lines) word = if bytes_eq line.0 word then Some line.1 else looked_up lines word

-- the two are one option
abbrev pub same_option : CommandOption → CommandOption → Bool
same_option FindAllSols FindAllSols = true
same_option Generate Generate = true
same_option NodeLimit NodeLimit = true
same_option NoPrintSols NoPrintSols = true
same_option NoResume NoResume = true
same_option Redump Redump = true
same_option SolLimit SolLimit = true
same_option VarOrder VarOrder = true
same_option _ _ = false

-- so many words after the option are its values
abbrev pub value_count : CommandOption → ℕ
value_count FindAllSols = 0
value_count Generate = 3
value_count NodeLimit = 1
value_count NoPrintSols = 0
value_count NoResume = 0
value_count Redump = 0
value_count SolLimit = 1
value_count VarOrder = 1

-- a word in an option's place
abbrev pub begins_option : List ℕ → Bool
begins_option word = slice_index word 0 == byte "-"

-- an option is bare where values are missing: so many words are left after it
abbrev pub listed_word : CommandOption → ℕ → Word
listed_word option left = if leb (value_count option) left then Listed option else Bare option

-- what a word is that is no value: one that begins with `-` is an option of the table or unlisted, any other names a model
abbrev pub word_of : List ℕ → ℕ → Word
word_of word left =
    if begins_option word then unwrap_or (option_map (λ option. listed_word option left) (looked_up option_table word)) Unlisted else Model

-- what a word is that is a value, by what is awaited, whatever it begins with
abbrev pub value_of : Awaited → List ℕ → Word
value_of (awaited.LimitOf option) word = Limit option (limit_in word)
value_of awaited.AnOrder word = Order (looked_up order_table word)
value_of awaited.AKind word = Kind (looked_up kind_table word)
value_of awaited.ASeed word = Seed (number_in word)
value_of awaited.ASize word = Size (size_in word)

-- what a word is, where a value is awaited or none, and so many words are left after it
abbrev pub word_at : Option Awaited → List ℕ → ℕ → Word
word_at None word left = word_of word left
word_at (Some value) word left = value_of value word

-- what is awaited after an option: its first value
abbrev pub first_value : CommandOption → Option Awaited
first_value FindAllSols = None
first_value Generate = Some awaited.AKind
first_value NodeLimit = Some (awaited.LimitOf NodeLimit)
first_value NoPrintSols = None
first_value NoResume = None
first_value Redump = None
first_value SolLimit = Some (awaited.LimitOf SolLimit)
first_value VarOrder = Some awaited.AnOrder

-- what is awaited after a word
abbrev pub awaited_behind : Word → Option Awaited
awaited_behind (Listed option) = first_value option
awaited_behind (Kind kind) = Some awaited.ASeed
awaited_behind (Seed seed) = Some awaited.ASize
awaited_behind _ = None

-- what each of the words is where a value is awaited, or none
abbrev pub words_behind : Option Awaited → List (List ℕ) → List Word
words_behind value [] = []
words_behind value (word ∷ words) =
    let next = word_at value word (length words) in
    next ∷ words_behind (awaited_behind next) words

-- what each of the command line's words is
abbrev pub words_of : List (List ℕ) → List Word
words_of words = words_behind None words

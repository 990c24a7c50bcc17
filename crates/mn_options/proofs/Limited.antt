-- What words tell is what a number's word can write: a limit is never 0 and has few digits, and a size is one that there is.
use Rattle.std.proofs.Common.{◌≡◌, ℕ, ◌<◌, ◌^◌, ◌==◌, ◌&&◌, not, Bool, true, false, if◌then◌else◌, leb, List, [], ◌∷◌, length, Option, Some, None, refl, subst, arith}
use Rattle.std.specs.Prelude.{IfSome, unwrap_or, option_map}
use Rattle.std.specs.Char.{is_ascii_digit}
use Rattle.std.specs.List.{list_all}
use Rattle.std.specs.Option.{option_or}
use Rattle.std.specs.Str.Parse.{digits_value}
use Rattle.std.proofs.lemmas.Bool.{leb-true}
use Rattle.std.proofs.lemmas.Bool.Decides.{nat_tests}
use Rattle.std.proofs.lemmas.List.{take_all}
use Rattle.mn_gen.specs.Made.{IsSize}
use Rattle.mn_gen.specs.declared.kind.GenKind.{GenKind}
use Rattle.mn_options.proofs.Digits.{front_below}
use Rattle.mn_options.specs.Limits.{IsLimit, is_number, is_size, limit_in, size_in}
use Rattle.mn_options.specs.Meant.{first_told, kind_at, limit_at, limit_of, seed_at, size_at, wanted, wanted_of}
use Rattle.mn_options.specs.Words.{awaited_behind, begins_option, listed_word, looked_up, option_table, same_option, value_count, word_at, word_of, words_behind}
use Rattle.mn_options.specs.declared.limits.TheConstants.{MOST_DIGITS}
use Rattle.mn_options.specs.declared.table.CommandOption.{CommandOption}
use Rattle.mn_options.specs.declared.told.Wanted.{Wanted}
use Rattle.mn_options.specs.declared.words.Awaited.{Awaited}
use Rattle.mn_options.specs.declared.words.Awaited.TheVariants as awaited
use Rattle.mn_options.specs.declared.words.Word.{Word}
use Rattle.mn_options.specs.declared.words.Word.TheVariants.{Listed, Bare, Unlisted, Model}

abbrev IfLimit : Option ℕ → Type 0
IfLimit limit = IfSome limit IsLimit

abbrev IfSize : Option ℕ → Type 0
IfSize size = IfSome size IsSize

both_parts : (a b : Bool) → a && b ≡ true → (a ≡ true) × (b ≡ true)
both_parts true b e = (refl, e)
both_parts false b e = cc

-- a number that isn't 0
limit_by : (number : Bool) (value : ℕ) → (number ≡ true → value < 10 ^ 18) → IfLimit (if number && not (value == 0) then Some value else None)
limit_by false value below = tt
limit_by true value below = by_zero (value == 0) refl
  where
    by_zero : (none : Bool) → (value == 0) ≡ none → IfLimit (if not none then Some value else None)
    by_zero true is = tt
    by_zero false is = record { some = grind (arith, nat_tests); below = below refl }

number_below : (word : List ℕ) → is_number word ≡ true → digits_value 10 word < 10 ^ 18
number_below word is =
    let (sized, digits) = both_parts (leb 1 (length word) && leb (length word) MOST_DIGITS) (list_all is_ascii_digit word) is in
    let (long, short) = both_parts (leb 1 (length word)) (leb (length word) MOST_DIGITS) sized in
    subst (λ ds. digits_value 10 ds < 10 ^ 18) (take_all (length word) word (omega arith)) (front_below 18 word (length word) digits (leb-true (length word) 18 short))

written : (word : List ℕ) → IfLimit (limit_in word)
written word = limit_by (is_number word) (digits_value 10 word) (number_below word)

-- a number that is a size
size_by : (number : Bool) (value : ℕ) → IfSize (if number && is_size value then Some value else None)
size_by false value = tt
size_by true value = by_size (is_size value) refl
  where
    by_size : (size : Bool) → is_size value ≡ size → IfSize (if size then Some value else None)
    by_size false is = tt
    by_size true is = let (least, most) = both_parts (leb 1 value) (leb value 64) is in (leb-true 1 value least, leb-true value 64 most)

sized : (word : List ℕ) → IfSize (size_in word)
sized word = size_by (is_number word) (digits_value 10 word)

-- what is told of no word that isn't a value
pub record TellsOfValues {X : Type 0} (told : Word → Option X) : Type 0 where
  pub listed : (p : CommandOption) → told (Listed p) ≡ None
  pub bare : (p : CommandOption) → told (Bare p) ≡ None
  pub unlisted : told Unlisted ≡ None
  pub model : told Model ≡ None

of_option : {X : Type 0} (told : Word → Option X) → TellsOfValues told → (p : CommandOption) (left : ℕ) → told (listed_word p left) ≡ None
of_option told values p left = by_values (leb (value_count p) left)
  where
    by_values : (enough : Bool) → told (if enough then Listed p else Bare p) ≡ None
    by_values true = values.listed p
    by_values false = values.bare p

of_line : {X : Type 0} (told : Word → Option X) → TellsOfValues told → (line : Option CommandOption) (left : ℕ) → told (unwrap_or (option_map (λ p. listed_word p left) line) Unlisted) ≡ None
of_line told values None left = values.unlisted
of_line told values (Some p) left = of_option told values p left

pub of_word : {X : Type 0} (told : Word → Option X) → TellsOfValues told → (word : List ℕ) (left : ℕ) → told (word_of word left) ≡ None
of_word told values word left = by_place (begins_option word)
  where
    by_place : (option : Bool) → told (if option then unwrap_or (option_map (λ p. listed_word p left) (looked_up option_table word)) Unlisted else Model) ≡ None
    by_place true = of_line told values (looked_up option_table word) left
    by_place false = values.model

-- what each value's word tells is so, hence what all words tell
either : {X : Type 0} (P : X → Type 0) (a b : Option X) → IfSome a P → IfSome b P → IfSome (option_or a b) P
either P None b here later = later
either P (Some n) b here later = here

at_word : {X : Type 0} (P : X → Type 0) (told : Word → Option X) → TellsOfValues told → ((value : Awaited) (word : List ℕ) (left : ℕ) → IfSome (told (word_at (Some value) word left)) P) → (value : Option Awaited) (word : List ℕ) (left : ℕ) → IfSome (told (word_at value word left)) P
at_word P told values so None word left = rw (of_word told values word left) tt
at_word P told values so (Some value) word left = so value word left

told_so : {X : Type 0} (P : X → Type 0) (told : Word → Option X) → TellsOfValues told → ((value : Awaited) (word : List ℕ) (left : ℕ) → IfSome (told (word_at (Some value) word left)) P) → (value : Option Awaited) (words : List (List ℕ)) → IfSome (first_told told (words_behind value words)) P
told_so P told values so value [] = tt
told_so P told values so value (word ∷ words) =
    let next = word_at value word (length words) in
    either P (told next) (first_told told (words_behind (awaited_behind next) words)) (at_word P told values so value word (length words)) (told_so P told values so (awaited_behind next) words)

-- limits
limits_of_values : (o : CommandOption) → TellsOfValues (limit_at o)
limits_of_values o = record { listed = λ p. refl; bare = λ p. refl; unlisted = refl; model = refl }

if_same : (same : Bool) (limit : Option ℕ) → IfLimit limit → IfLimit (if same then limit else None)
if_same true limit is = is
if_same false limit is = tt

limit_value : (o : CommandOption) (value : Awaited) (word : List ℕ) (left : ℕ) → IfLimit (limit_at o (word_at (Some value) word left))
limit_value o (awaited.LimitOf p) word left = if_same (same_option o p) (limit_in word) (written word)
limit_value o awaited.AnOrder word left = tt
limit_value o awaited.AKind word left = tt
limit_value o awaited.ASeed word left = tt
limit_value o awaited.ASize word left = tt

limited : (o : CommandOption) (words : List (List ℕ)) → IfLimit (limit_of o (words_behind None words))
limited o words = told_so IsLimit (limit_at o) (limits_of_values o) (limit_value o) None words

pub limit_is : (o : CommandOption) (words : List (List ℕ)) (limit : Option ℕ) → limit ≡ limit_of o (words_behind None words) → IfLimit limit
limit_is o words limit is = rw is (limited o words)

-- sizes
sizes_of_values : TellsOfValues size_at
sizes_of_values = record { listed = λ p. refl; bare = λ p. refl; unlisted = refl; model = refl }

size_value : (value : Awaited) (word : List ℕ) (left : ℕ) → IfSize (size_at (word_at (Some value) word left))
size_value (awaited.LimitOf p) word left = tt
size_value awaited.AnOrder word left = tt
size_value awaited.AKind word left = tt
size_value awaited.ASeed word left = tt
size_value awaited.ASize word left = sized word

abbrev IfOfSize : Option Wanted → Type 0
IfOfSize made = IfSome made (λ w. IsSize w.n)

size_of_wanted : (kind : Option GenKind) (seed size : Option ℕ) → IfSize size → IfOfSize (wanted kind seed size)
size_of_wanted None seed size is = tt
size_of_wanted (Some kind) None size is = tt
size_of_wanted (Some kind) (Some seed) None is = tt
size_of_wanted (Some kind) (Some seed) (Some n) is = is

-- a model that is to be generated has a size that there is
pub wanted_has_size : (words : List (List ℕ)) (made : Option Wanted) → made ≡ wanted_of (words_behind None words) → IfOfSize made
wanted_has_size words made is =
    let ws = words_behind None words in
    rw is (size_of_wanted (first_told kind_at ws) (first_told seed_at ws) (first_told size_at ws) (told_so IsSize size_at sizes_of_values size_value None words))

-- What lawful words ask for.
use Rattle.std.specs.Prelude.{◌≡◌, ℕ, not, if◌then◌else◌, List, [], ◌∷◌, Option, Some, None, option_map, unwrap_or, chars}
use Rattle.std.specs.Option.{option_or}
use Rattle.mn_gen.specs.declared.kind.GenKind.{GenKind}
use Rattle.mn_order.specs.declared.choice.Choice.{Choice}
use Rattle.mn_order.specs.declared.choice.Choice.TheVariants.{Fixed}
use Rattle.mn_options.specs.Rules.{asks_for, is_model}
use Rattle.mn_options.specs.Words.{same_option, words_of}
use Rattle.mn_options.specs.declared.options.Options.{Options}
use Rattle.mn_options.specs.declared.told.Wanted.{Wanted}
use Rattle.mn_options.specs.declared.table.CommandOption.{CommandOption}
use Rattle.mn_options.specs.declared.table.CommandOption.TheVariants.{FindAllSols, NodeLimit, NoPrintSols, Redump, SolLimit}
use Rattle.mn_options.specs.declared.words.Word.{Word}
use Rattle.mn_options.specs.declared.words.Word.TheVariants.{Limit, Order, Kind, Seed, Size}

-- the first that something tells of the words
abbrev pub first_told : {X : Type 0} → (Word → Option X) → List Word → Option X
first_told told [] = None
first_told told (word ∷ words) = option_or (told word) (first_told told words)

-- the limit that a word gives this option
abbrev pub limit_at : CommandOption → Word → Option ℕ
limit_at option (Limit other limit) = if same_option option other then limit else None
limit_at option _ = None

-- the limit that the words give it
abbrev pub limit_of : CommandOption → List Word → Option ℕ
limit_of option words = first_told (limit_at option) words

-- the order that a word names
abbrev pub order_at : Word → Option Choice
order_at (Order order) = order
order_at _ = None

-- how the words choose a variable: the first of its order where they don't say
abbrev pub choice_of : List Word → Choice
choice_of words = unwrap_or (first_told order_at words) Fixed

-- the kind, the seed and the size of a generated model, where a word tells them
abbrev pub kind_at : Word → Option GenKind
kind_at (Kind kind) = kind
kind_at _ = None

abbrev pub seed_at : Word → Option ℕ
seed_at (Seed seed) = seed
seed_at _ = None

abbrev pub size_at : Word → Option ℕ
size_at (Size size) = size
size_at _ = None

-- the model that is to be generated, where all three are told
abbrev pub wanted : Option GenKind → Option ℕ → Option ℕ → Option Wanted
wanted (Some kind) (Some seed) (Some n) = Some (record { kind = kind; seed = seed; n = n })
wanted _ _ _ = None

abbrev pub wanted_of : List Word → Option Wanted
wanted_of words = wanted (first_told kind_at words) (first_told seed_at words) (first_told size_at words)

-- the text beside the word that names the model
abbrev pub named_by : List Word → List (List ℕ) → Option (List ℕ)
named_by [] texts = None
named_by (word ∷ words) [] = None
named_by (word ∷ words) (text ∷ texts) = if is_model word then Some text else named_by words texts

-- the word that names the model
abbrev pub model_name : List (List ℕ) → Option (List ℕ)
model_name words = named_by (words_of words) words

-- the options are those that the words ask for, and the model is the one that they name
pub record AreOptions (words : List (List ℕ)) (o : Options) : Type 0 where
  pub model : o.model ≡ option_map chars (model_name words)
  pub generate : o.generate ≡ wanted_of (words_of words)
  pub find_all : o.find_all ≡ asks_for FindAllSols (words_of words)
  pub sol_limit : o.sol_limit ≡ limit_of SolLimit (words_of words)
  pub node_limit : o.node_limit ≡ limit_of NodeLimit (words_of words)
  pub choice : o.choice ≡ choice_of (words_of words)
  pub print_sols : o.print_sols ≡ not (asks_for NoPrintSols (words_of words))
  pub redump : o.redump ≡ asks_for Redump (words_of words)

-- A model is to be generated exactly where lawful words ask for one, and one is named exactly where they don't.
use Rattle.std.proofs.Common.{◌≡◌, ◌⊎◌, ◌∙◌, ℕ, ◌≤◌, Bool, true, false, if◌then◌else◌, leb, List, [], ◌∷◌, length, Option, Some, None, IsSome, refl, subst, inl, inr, arith, chars, option_map}
use Rattle.std.specs.Prelude.{unwrap_or}
use Rattle.std.specs.List.{AllByRecursion}
use Rattle.std.specs.Option.{option_or}
use Rattle.std.proofs.lemmas.Bool.{false_from_ne_true, leb-true}
use Rattle.mn_gen.specs.declared.kind.GenKind.{GenKind}
use Rattle.mn_model.specs.Members.{HasMember}
use Rattle.mn_options.proofs.Lawful.{named_text, no_text}
use Rattle.mn_options.proofs.Limited.{TellsOfValues, of_word}
use Rattle.mn_options.proofs.Unbroken.{lawful, named, namer}
use Rattle.mn_options.specs.Laws.{AreLawful, IsFit}
use Rattle.mn_options.specs.Meant.{first_told, kind_at, model_name, seed_at, size_at, wanted, wanted_of}
use Rattle.mn_options.specs.Rules.{first_broken, names_model}
use Rattle.mn_options.specs.Words.{awaited_behind, begins_option, kind_table, listed_word, looked_up, option_table, value_count, value_of, word_at, word_of, words_behind, words_of}
use Rattle.mn_options.specs.Limits.{number_in, size_in}
use Rattle.mn_options.specs.declared.table.CommandOption.{CommandOption}
use Rattle.mn_options.specs.declared.table.CommandOption.TheVariants.{FindAllSols, Generate, NodeLimit, NoPrintSols, NoResume, Redump, SolLimit, VarOrder}
use Rattle.mn_options.specs.declared.told.Wanted.{Wanted}
use Rattle.mn_options.specs.declared.words.Awaited.{Awaited}
use Rattle.mn_options.specs.declared.words.Awaited.TheVariants as awaited
use Rattle.mn_options.specs.declared.words.Word.{Word}
use Rattle.mn_options.specs.declared.words.Word.TheVariants.{Listed, Bare, Limit, Order, Kind, Seed, Size, Unlisted, Model}

-- the words tell a kind, a seed and a size
record TellAll (words : List Word) : Type 0 where
  kind : IsSome (first_told kind_at words)
  seed : IsSome (first_told seed_at words)
  size : IsSome (first_told size_at words)

is_later : {X : Type 0} (a b : Option X) → IsSome b → IsSome (option_or a b)
is_later None b is = is
is_later (Some x) b is = refl

tell_later : (word : Word) (words : List Word) → TellAll words → TellAll (word ∷ words)
tell_later word words all = record {
  kind = is_later (kind_at word) (first_told kind_at words) all.kind;
  seed = is_later (seed_at word) (first_told seed_at words) all.seed;
  size = is_later (size_at word) (first_told size_at words) all.size;
}

-- three values behind the option tell all, since they fit
tell_by : (kind : Option GenKind) (seed size : Option ℕ) (option : Word) (words : List Word) → AllByRecursion IsFit (option ∷ Kind kind ∷ Seed seed ∷ Size size ∷ words) → TellAll (option ∷ Kind kind ∷ Seed seed ∷ Size size ∷ words)
tell_by None seed size option words fit = absurd fit.1.0
tell_by (Some kind) None size option words fit = absurd fit.1.1.0
tell_by (Some kind) (Some seed) None option words fit = absurd fit.1.1.1.0
tell_by (Some kind) (Some seed) (Some size) option words fit = record {
  kind = is_later (kind_at option) (Some kind) refl;
  seed = is_later (seed_at option) (Some seed) refl;
  size = is_later (size_at option) (Some size) refl;
}

-- an option that is listed has its values after it, and is no value
listed_has_values : (o : CommandOption) (word : List ℕ) (left : ℕ) → word_of word left ≡ Listed o → value_count o ≤ left
listed_has_values o word left is = by_place (begins_option word) is
  where
    by_values : (p : CommandOption) (enough : Bool) → leb (value_count p) left ≡ enough → (if enough then Listed p else Bare p) ≡ Listed o → value_count o ≤ left
    by_values p true enough same = leb-true (value_count o) left (subst (λ q. leb (value_count q) left ≡ true) (unlisted p o same) enough)
      where
        unlisted : (p q : CommandOption) → Listed p ≡ Listed q → p ≡ q
        unlisted p q same = cc
    by_values p false enough same = absurd cc

    by_line : (line : Option CommandOption) → unwrap_or (option_map (λ p. listed_word p left) line) Unlisted ≡ Listed o → value_count o ≤ left
    by_line None same = absurd cc
    by_line (Some p) same = by_values p (leb (value_count p) left) refl same

    by_place : (option : Bool) → (if option then unwrap_or (option_map (λ p. listed_word p left) (looked_up option_table word)) Unlisted else Model) ≡ Listed o → value_count o ≤ left
    by_place true same = by_line (looked_up option_table word) same
    by_place false same = absurd cc

value_not_listed : (value : Awaited) (word : List ℕ) (o : CommandOption) → value_of value word ≡ Listed o → ⊥
value_not_listed (awaited.LimitOf p) word o is = cc
value_not_listed awaited.AnOrder word o is = cc
value_not_listed awaited.AKind word o is = cc
value_not_listed awaited.ASeed word o is = cc
value_not_listed awaited.ASize word o is = cc

-- so the words from it on tell all
tell_behind : (texts : List (List ℕ)) → 3 ≤ length texts → AllByRecursion IsFit (Listed Generate ∷ words_behind (Some awaited.AKind) texts) → TellAll (Listed Generate ∷ words_behind (Some awaited.AKind) texts)
tell_behind [] enough fit = absurd (omega arith)
tell_behind (a ∷ []) enough fit = absurd (omega arith)
tell_behind (a ∷ b ∷ []) enough fit = absurd (omega arith)
tell_behind (a ∷ b ∷ c ∷ texts) enough fit = tell_by (looked_up kind_table a) (number_in b) (size_in c) (Listed Generate) (words_behind None texts) fit

tell_here : (value : Option Awaited) (text : List ℕ) (texts : List (List ℕ)) → word_at value text (length texts) ≡ Listed Generate → AllByRecursion IsFit (words_behind value (text ∷ texts)) → TellAll (words_behind value (text ∷ texts))
tell_here None text texts is fit =
    let here = rw is at fit in
    rw is (tell_behind texts (listed_has_values Generate text (length texts) is) here)
tell_here (Some value) text texts is fit = absurd (value_not_listed value text Generate is)

tell_all : (value : Option Awaited) (texts : List (List ℕ)) → AllByRecursion IsFit (words_behind value texts) → HasMember (words_behind value texts) (Listed Generate) → TellAll (words_behind value texts)
tell_all value [] fit member = absurd member
tell_all value (text ∷ texts) fit (inl same) = tell_here value text texts same fit
tell_all value (text ∷ texts) fit (inr later) =
    let next = word_at value text (length texts) in
    tell_later next (words_behind (awaited_behind next) texts) (tell_all (awaited_behind next) texts fit.1 later)

wanted_by : (kind : Option GenKind) (seed size : Option ℕ) → IsSome kind → IsSome seed → IsSome size → IsSome (wanted kind seed size)
wanted_by None seed size k s n = absurd cc
wanted_by (Some kind) None size k s n = absurd cc
wanted_by (Some kind) (Some seed) None k s n = absurd cc
wanted_by (Some kind) (Some seed) (Some size) k s n = refl

wanted_told : (words : List Word) → TellAll words → IsSome (wanted_of words)
wanted_told words all = wanted_by (first_told kind_at words) (first_told seed_at words) (first_told size_at words) all.kind all.seed all.size

-- a kind is awaited behind that option alone
abbrev NoKind : Option Awaited → Type 0
NoKind value = value ≡ Some awaited.AKind → ⊥

no_kind_behind : (word : Word) → (word ≡ Listed Generate → ⊥) → NoKind (awaited_behind word)
no_kind_behind (Listed FindAllSols) other is = cc
no_kind_behind (Listed Generate) other is = other refl
no_kind_behind (Listed NodeLimit) other is = cc
no_kind_behind (Listed NoPrintSols) other is = cc
no_kind_behind (Listed NoResume) other is = cc
no_kind_behind (Listed Redump) other is = cc
no_kind_behind (Listed SolLimit) other is = cc
no_kind_behind (Listed VarOrder) other is = cc
no_kind_behind (Bare p) other is = cc
no_kind_behind (Limit p limit) other is = cc
no_kind_behind (Order order) other is = cc
no_kind_behind (Kind kind) other is = cc
no_kind_behind (Seed seed) other is = cc
no_kind_behind (Size size) other is = cc
no_kind_behind Unlisted other is = cc
no_kind_behind Model other is = cc

kinds_of_values : TellsOfValues kind_at
kinds_of_values = record { listed = λ p. refl; bare = λ p. refl; unlisted = refl; model = refl }

no_kind_at : (value : Option Awaited) (text : List ℕ) (left : ℕ) → NoKind value → kind_at (word_at value text left) ≡ None
no_kind_at None text left other = of_word kind_at kinds_of_values text left
no_kind_at (Some (awaited.LimitOf p)) text left other = refl
no_kind_at (Some awaited.AnOrder) text left other = refl
no_kind_at (Some awaited.AKind) text left other = absurd (other refl)
no_kind_at (Some awaited.ASeed) text left other = refl
no_kind_at (Some awaited.ASize) text left other = refl

no_kind : (value : Option Awaited) (texts : List (List ℕ)) → NoKind value → (HasMember (words_behind value texts) (Listed Generate) → ⊥) → first_told kind_at (words_behind value texts) ≡ None
no_kind value [] other none = refl
no_kind value (text ∷ texts) other none =
    let next = word_at value text (length texts) in
    rw (no_kind_at value text (length texts) other) (no_kind (awaited_behind next) texts (no_kind_behind next (λ is. none (inl is))) (λ member. none (inr member)))

wanted_none : (kind : Option GenKind) (seed size : Option ℕ) → kind ≡ None → wanted kind seed size ≡ None
wanted_none None seed size is = refl
wanted_none (Some kind) seed size is = absurd cc

none_awaited : NoKind None
none_awaited is = cc

-- where lawful words name a model none is to be generated, and where they don't one is
abbrev pub HasOneSource : Option (List ℕ) → Option Wanted → Type 0
HasOneSource model made = (IsSome model × (made ≡ None)) ⊎ ((model ≡ None) × IsSome made)

pub one_source : (words : List (List ℕ)) (text : Option (List ℕ)) (made : Option Wanted) → first_broken words ≡ None → text ≡ option_map chars (model_name words) → made ≡ wanted_of (words_of words) → HasOneSource text made
one_source words text made kept is from = by_source all.source
  where
    all : AreLawful (words_of words)
    all = lawful (words_of words) kept

    by_source : HasMember (words_of words) Model ⊎ HasMember (words_of words) (Listed Generate) → HasOneSource text made
    by_source (inl member) =
        inl (
          named_text words text (named (words_of words) member) is,
          from ∙ wanted_none (first_told kind_at (words_of words)) _ _ (no_kind None words none_awaited (all.one member)),
        )
    by_source (inr member) =
        inr (
          no_text words text (false_from_ne_true (names_model (words_of words)) (λ e. all.one (namer (words_of words) e) member)) is,
          rw from (wanted_told (words_of words) (tell_all None words all.fit member)),
        )

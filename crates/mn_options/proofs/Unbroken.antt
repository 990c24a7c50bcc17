-- Words that break no rule are lawful, and lawful words break none.
use Rattle.std.proofs.Common.{◌≡◌, ◌⊎◌, ◌&&◌, ◌∙◌, if◌then◌else◌, Bool, true, false, cond, not, List, [], ◌∷◌, ◌++◌, append-nil, append_assoc, Option, Some, None, refl, sym, ap, subst, inl, inr}
use Rattle.std.specs.Prelude.{filter}
use Rattle.std.specs.List.{AllByRecursion}
use Rattle.std.specs.Option.{option_or}
use Rattle.std.proofs.lemmas.Bool.{false_from_ne_true, or_cases, or_left, or_right}
use Rattle.mn_model.specs.Members.{HasMember}
use Rattle.mn_model.proofs.Lists.{all_so, all_passed, member_front, all_both, member_back, member_of_either}
use Rattle.mn_options.proofs.Lawful.{is_named, neither}
use Rattle.mn_options.specs.Laws.{AreLawful, AreOnce, IsFit, is_value}
use Rattle.mn_options.specs.Rules.{asks_for, broken_by, first_broken_behind, has_model, names_model}
use Rattle.mn_options.specs.Words.{same_option}
use Rattle.mn_options.specs.declared.table.CommandOption.{CommandOption}
use Rattle.mn_options.specs.declared.table.CommandOption.TheVariants.{FindAllSols, Generate, NodeLimit, NoPrintSols, NoResume, Redump, SolLimit, VarOrder}
use Rattle.mn_options.specs.declared.words.Word.{Word}
use Rattle.mn_options.specs.declared.words.Word.TheVariants.{Listed, Bare, Limit, Order, Kind, Seed, Size, Unlisted, Model}

same_itself : (o : CommandOption) → same_option o o ≡ true
same_itself FindAllSols = refl
same_itself Generate = refl
same_itself NodeLimit = refl
same_itself NoPrintSols = refl
same_itself NoResume = refl
same_itself Redump = refl
same_itself SolLimit = refl
same_itself VarOrder = refl

same_is : (o p : CommandOption) → same_option o p ≡ true → o ≡ p
same_is FindAllSols FindAllSols e = refl
same_is Generate Generate e = refl
same_is NodeLimit NodeLimit e = refl
same_is NoPrintSols NoPrintSols e = refl
same_is NoResume NoResume e = refl
same_is Redump Redump e = refl
same_is SolLimit SolLimit e = refl
same_is VarOrder VarOrder e = refl
same_is _ _ e = cc

first_none : {X : Type 0} (a b : Option X) → option_or a b ≡ None → a ≡ None
first_none None b e = refl
first_none (Some x) b e = cc

-- an option is asked for where it is one of the words
asked : (o : CommandOption) (words : List Word) → HasMember words (Listed o) → asks_for o words ≡ true
asked o [] member = absurd member
asked o (word ∷ words) (inl same) = rw same (or_left (same_option o o) (asks_for o words) (same_itself o))
asked o (word ∷ words) (inr later) = or_right _ (asks_for o words) (asked o words later)

asker : (o : CommandOption) (words : List Word) → asks_for o words ≡ true → HasMember words (Listed o)
asker o [] e = cc
asker o (Listed p ∷ words) e = elim (or_cases (same_option o p) (asks_for o words) e) [ inl here ↦ inl (ap Listed (sym (same_is o p here))) | inr later ↦ inr (asker o words later) ]
asker o (Bare p ∷ words) e = inr (asker o words e)
asker o (Limit p limit ∷ words) e = inr (asker o words e)
asker o (Order order ∷ words) e = inr (asker o words e)
asker o (Kind kind ∷ words) e = inr (asker o words e)
asker o (Seed seed ∷ words) e = inr (asker o words e)
asker o (Size size ∷ words) e = inr (asker o words e)
asker o (Unlisted ∷ words) e = inr (asker o words e)
asker o (Model ∷ words) e = inr (asker o words e)

-- and so is a model named
pub named : (words : List Word) → HasMember words Model → names_model words ≡ true
named [] member = absurd member
named (word ∷ words) (inl same) = rw same refl
named (word ∷ words) (inr later) = or_right _ (names_model words) (named words later)

pub namer : (words : List Word) → names_model words ≡ true → HasMember words Model
namer [] e = cc
namer (Listed p ∷ words) e = inr (namer words e)
namer (Bare p ∷ words) e = inr (namer words e)
namer (Limit p limit ∷ words) e = inr (namer words e)
namer (Order order ∷ words) e = inr (namer words e)
namer (Kind kind ∷ words) e = inr (namer words e)
namer (Seed seed ∷ words) e = inr (namer words e)
namer (Size size ∷ words) e = inr (namer words e)
namer (Unlisted ∷ words) e = inr (namer words e)
namer (Model ∷ words) e = inl refl

unless_true : {X : Type 0} (b : Bool) (x : X) → cond b (Some x) None ≡ None → b ≡ true → ⊥
unless_true true x e is = cc
unless_true false x e is = cc

-- a model is named and one is to be generated: not both
abbrev Apart : List Word → Type 0
Apart words = HasMember words Model → HasMember words (Listed Generate) → ⊥

-- the word doesn't bring a second source of a model
record BringsNoOther (before : List Word) (word : Word) : Type 0 where
  generated : word ≡ Listed Generate → HasMember before Model → ⊥
  named : word ≡ Model → HasMember before (Listed Generate) → ⊥

neither_so : {X : Type 0} (a b : Bool) (x y : X) → (if a then Some x else if b then Some y else None) ≡ None → (a ≡ false) × (b ≡ false)
neither_so true b x y e = absurd cc
neither_so false true x y e = absurd cc
neither_so false false x y e = (refl, refl)

so_neither : {X : Type 0} (a b : Bool) (x y : X) → a ≡ false → b ≡ false → (if a then Some x else if b then Some y else None) ≡ None
so_neither true b x y e f = absurd cc
so_neither false true x y e f = absurd cc
so_neither false false x y e f = refl

not_both : (b : Bool) → b ≡ false → b ≡ true → ⊥
not_both true e is = absurd cc
not_both false e is = absurd cc

both_true : (a b : Bool) → a ≡ true → b ≡ true → (a && b) ≡ true
both_true true true e f = refl
both_true true false e f = absurd cc
both_true false b e f = absurd cc

parts_true : (a b : Bool) → (a && b) ≡ true → (a ≡ true) × (b ≡ true)
parts_true true b e = (refl, e)
parts_true false b e = absurd cc

same_listed : (o p : CommandOption) → Listed o ≡ Listed p → o ≡ p
same_listed o p e = cc

model_not_listed : (o : CommandOption) → Listed o ≡ Model → ⊥
model_not_listed o e = cc

-- a word that breaks no rule fits, is new if it isn't a value, and brings no second source
record BreaksNone (before : List Word) (word : Word) : Type 0 where
  fits : IsFit word
  new : is_value word ≡ false → HasMember before word → ⊥
  other : BringsNoOther before word

value_fits : (before : List Word) (word : Word) → IsFit word → is_value word ≡ true → (word ≡ Listed Generate → ⊥) → (word ≡ Model → ⊥) → BreaksNone before word
value_fits before word fits value listed model = record {
  fits = fits;
  new = λ other. absurd (not_both (is_value word) other value);
  other = record { generated = λ is. absurd (listed is); named = λ is. absurd (model is) };
}

broken_none : (before : List Word) (word : Word) → broken_by before word ≡ None → BreaksNone before word
broken_none before (Listed o) e =
    let free = neither_so (asks_for o before) (same_option o Generate && names_model before) _ _ e in
    record {
      fits = tt;
      new = λ _ member. not_both (asks_for o before) free.0 (asked o before member);
      other = record {
        generated = λ is member. not_both (same_option o Generate && names_model before) free.1
            (both_true (same_option o Generate) (names_model before) (subst (λ p. same_option p Generate ≡ true) (sym (same_listed o Generate is)) refl) (named before member));
        named = λ is. absurd (model_not_listed o is);
      };
    }
broken_none before (Bare o) e = absurd cc
broken_none before (Limit o None) e = absurd cc
broken_none before (Limit o (Some limit)) e = value_fits before (Limit o (Some limit)) tt refl (λ is. cc) (λ is. cc)
broken_none before (Order None) e = absurd cc
broken_none before (Order (Some order)) e = value_fits before (Order (Some order)) tt refl (λ is. cc) (λ is. cc)
broken_none before (Kind None) e = absurd cc
broken_none before (Kind (Some kind)) e = value_fits before (Kind (Some kind)) tt refl (λ is. cc) (λ is. cc)
broken_none before (Seed None) e = absurd cc
broken_none before (Seed (Some seed)) e = value_fits before (Seed (Some seed)) tt refl (λ is. cc) (λ is. cc)
broken_none before (Size None) e = absurd cc
broken_none before (Size (Some size)) e = value_fits before (Size (Some size)) tt refl (λ is. cc) (λ is. cc)
broken_none before Unlisted e = absurd cc
broken_none before Model e =
    let free = neither_so (names_model before) (asks_for Generate before) _ _ e in
    record {
      fits = tt;
      new = λ _ member. not_both (names_model before) free.0 (named before member);
      other = record {
        generated = λ is. absurd (model_not_listed Generate (sym is));
        named = λ _ member. not_both (asks_for Generate before) free.1 (asked Generate before member);
      };
    }

none_broken : (before : List Word) (word : Word) → BreaksNone before word → broken_by before word ≡ None
none_broken before (Listed o) all =
    so_neither (asks_for o before) (same_option o Generate && names_model before) _ _
    (false_from_ne_true (asks_for o before) (λ e. all.new refl (asker o before e)))
    (false_from_ne_true (same_option o Generate && names_model before) (λ e.
    (let both = parts_true (same_option o Generate) (names_model before) e in
    all.other.generated (ap Listed (same_is o Generate both.0)) (namer before both.1))))
none_broken before (Bare o) all = absurd all.fits
none_broken before (Limit o None) all = absurd all.fits
none_broken before (Limit o (Some limit)) all = refl
none_broken before (Order None) all = absurd all.fits
none_broken before (Order (Some order)) all = refl
none_broken before (Kind None) all = absurd all.fits
none_broken before (Kind (Some kind)) all = refl
none_broken before (Seed None) all = absurd all.fits
none_broken before (Seed (Some seed)) all = refl
none_broken before (Size None) all = absurd all.fits
none_broken before (Size (Some size)) all = refl
none_broken before Unlisted all = absurd all.fits
none_broken before Model all =
    so_neither (names_model before) (asks_for Generate before) _ _
    (false_from_ne_true (names_model before) (λ e. all.new refl (namer before e)))
    (false_from_ne_true (asks_for Generate before) (λ e. all.other.named refl (asker Generate before e)))

only : (word x : Word) → HasMember (word ∷ []) x → word ≡ x
only word x (inl same) = same
only word x (inr none) = absurd none

-- the words that aren't values
abbrev single : List Word → List Word
single words = filter (λ word. not (is_value word)) words

-- there is a model: one is named, or is to be generated
abbrev HasSource : List Word → Type 0
HasSource words = HasMember words Model ⊎ HasMember words (Listed Generate)

sourced : (words : List Word) → has_model words ≡ true → HasSource words
sourced words e = elim (or_cases (names_model words) (asks_for Generate words) e) [ inl here ↦ inl (namer words here) | inr there ↦ inr (asker Generate words there) ]

has_source : (words : List Word) → HasSource words → has_model words ≡ true
has_source words (inl member) = or_left (names_model words) (asks_for Generate words) (named words member)
has_source words (inr member) = or_right (names_model words) (asks_for Generate words) (asked Generate words member)

-- one more word leaves them apart, if it brings no second source
apart_more : (before : List Word) (word : Word) → Apart before → BringsNoOther before word → Apart (before ++ word ∷ [])
apart_more before word apart other model generate = by (member_of_either before (word ∷ []) Model model) (member_of_either before (word ∷ []) (Listed Generate) generate)
  where
    by : HasMember before Model ⊎ HasMember (word ∷ []) Model → HasMember before (Listed Generate) ⊎ HasMember (word ∷ []) (Listed Generate) → ⊥
    by (inl m) (inl g) = apart m g
    by (inl m) (inr g) = other.generated (only word (Listed Generate) g) m
    by (inr m) (inl g) = other.named (only word Model m) g
    by (inr m) (inr g) = model_not_listed Generate (sym (only word (Listed Generate) g) ∙ only word Model m)

-- words that are lawful behind others
record AreLawfulBehind (before words : List Word) : Type 0 where
  fit : AllByRecursion IsFit words
  new : AllByRecursion (λ word. HasMember before word → ⊥) (single words)
  once : AreOnce words
  source : HasSource (before ++ words)
  one : Apart (before ++ words)

lawful_behind : (before words : List Word) → Apart before → first_broken_behind before words ≡ None → AreLawfulBehind before words
lawful_behind before [] apart e = record { fit = tt; new = tt; once = tt; source = rw append-nil (sourced before (is_named (has_model before) e)); one = rw append-nil apart }
lawful_behind before (word ∷ words) apart e =
    let here = broken_none before word (first_none (broken_by before word) (first_broken_behind (before ++ word ∷ []) words) e) in
    let later = lawful_behind (before ++ word ∷ []) words (apart_more before word apart here.other) (neither (broken_by before word) (first_broken_behind (before ++ word ∷ []) words) e) in
    by_kind (is_value word) refl here later
  where
    by_kind : (value : Bool) → is_value word ≡ value → BreaksNone before word → AreLawfulBehind (before ++ word ∷ []) words → AreLawfulBehind before (word ∷ words)
    by_kind true is here later = record {
      fit = (here.fits, later.fit);
      new = rw is (all_so (λ x. HasMember (before ++ word ∷ []) x → ⊥) (λ x. HasMember before x → ⊥) (λ x not member. not (member_front before (word ∷ []) x member)) (single words) later.new);
      once = rw is later.once;
      source = subst HasSource (append_assoc before (word ∷ []) words) later.source;
      one = subst Apart (append_assoc before (word ∷ []) words) later.one;
    }
    by_kind false is here later = record {
      fit = (here.fits, later.fit);
      new = rw is (here.new is, all_so (λ x. HasMember (before ++ word ∷ []) x → ⊥) (λ x. HasMember before x → ⊥) (λ x not member. not (member_front before (word ∷ []) x member)) (single words) later.new);
      once = rw is (all_so (λ x. HasMember (before ++ word ∷ []) x → ⊥) (λ x. word ≡ x → ⊥) (λ x not same. not (subst (HasMember (before ++ word ∷ [])) same (member_back before (word ∷ []) word (inl refl)))) (single words) later.new, later.once);
      source = subst HasSource (append_assoc before (word ∷ []) words) later.source;
      one = subst Apart (append_assoc before (word ∷ []) words) later.one;
    }

-- a value is no word that isn't one
apart : (word x : Word) → is_value word ≡ true → not (is_value x) ≡ true → word ≡ x → ⊥
apart word x is passes same = let value = rw same at is in let bad = rw value at passes in cc

-- a word of lawful ones brings no second source
brings_none : (before : List Word) (word : Word) (words : List Word) → Apart (before ++ word ∷ words) → BringsNoOther before word
brings_none before word words one = record {
  generated = λ is member. one (member_front before (word ∷ words) Model member) (member_back before (word ∷ words) (Listed Generate) (inl is));
  named = λ is member. one (member_back before (word ∷ words) Model (inl is)) (member_front before (word ∷ words) (Listed Generate) member);
}

unbroken_behind : (before words : List Word) → AreLawfulBehind before words → first_broken_behind before words ≡ None
unbroken_behind before [] all = rw (has_source before (rw append-nil at all.source)) refl
unbroken_behind before (word ∷ words) all = by_kind (is_value word) refl (unbroken_behind (before ++ word ∷ []) words)
  where
    other : BringsNoOther before word
    other = brings_none before word words all.one

    by_kind : (value : Bool) → is_value word ≡ value → (AreLawfulBehind (before ++ word ∷ []) words → first_broken_behind (before ++ word ∷ []) words ≡ None) → first_broken_behind before (word ∷ words) ≡ None
    by_kind true is later =
        let new = rw is at all.new in
        let once = rw is at all.once in
        rw (none_broken before word (record { fits = all.fit.0; new = λ single. absurd (not_both (is_value word) single is); other = other }))
        (later (record {
          fit = all.fit.1;
          new = all_both (λ x. HasMember before x → ⊥) (λ x. word ≡ x → ⊥) (λ x. HasMember (before ++ word ∷ []) x → ⊥)
              (λ x new differs member. elim (member_of_either before (word ∷ []) x member) [ inl here ↦ new here | inr there ↦ differs (only word x there) ]) (single words) new (all_passed (λ x. word ≡ x → ⊥) (λ x. not (is_value x)) (λ x passes same. apart word x is passes same) words);
          once = once;
          source = subst HasSource (sym (append_assoc before (word ∷ []) words)) all.source;
          one = subst Apart (sym (append_assoc before (word ∷ []) words)) all.one;
        }))
    by_kind false is later =
        let new = rw is at all.new in
        let once = rw is at all.once in
        rw (none_broken before word (record { fits = all.fit.0; new = λ _. new.0; other = other }))
        (later (record {
          fit = all.fit.1;
          new = all_both (λ x. HasMember before x → ⊥) (λ x. word ≡ x → ⊥) (λ x. HasMember (before ++ word ∷ []) x → ⊥)
              (λ x new differs member. elim (member_of_either before (word ∷ []) x member) [ inl here ↦ new here | inr there ↦ differs (only word x there) ]) (single words) new.1 once.0;
          once = once.1;
          source = subst HasSource (sym (append_assoc before (word ∷ []) words)) all.source;
          one = subst Apart (sym (append_assoc before (word ∷ []) words)) all.one;
        }))

nothing_before : (words : List Word) → AllByRecursion (λ word. HasMember [] word → ⊥) words
nothing_before [] = tt
nothing_before (word ∷ words) = (λ member. member, nothing_before words)

pub lawful : (words : List Word) → first_broken_behind [] words ≡ None → AreLawful words
lawful words e = let all = lawful_behind [] words (λ model generate. model) e in record { fit = all.fit; once = all.once; source = all.source; one = all.one }

pub unbroken : (words : List Word) → AreLawful words → first_broken_behind [] words ≡ None
unbroken words all = unbroken_behind [] words (record { fit = all.fit; new = nothing_before (single words); once = all.once; source = all.source; one = all.one })

-- The name of a model that words name.
use Rattle.std.proofs.Common.{◌≡◌, ℕ, zero, suc, ◌+◌, ◌<◌, Bool, true, false, List, [], ◌∷◌, length, map, drop, get_or, add-one, Option, Some, None, IsSome, refl, ap, ◌∙◌, cond, chars, option_map, arith}
use Rattle.std.specs.Option.{option_or}
use Rattle.mn_options.specs.Meant.{model_name, named_by}
use Rattle.mn_options.specs.Rules.{is_model, names_model}
use Rattle.mn_options.specs.Words.{awaited_behind, word_at, words_behind, words_of}
use Rattle.mn_options.specs.declared.usage.Usage.TheVariants.{NoModel}
use Rattle.mn_options.specs.declared.words.Awaited.{Awaited}
use Rattle.mn_options.specs.declared.words.Word.{Word}

-- neither is there where the first or else the second isn't
pub neither : {X : Type 0} (a b : Option X) → option_or a b ≡ None → b ≡ None
neither None b e = e
neither (Some x) b e = cc

pub is_named : (named : Bool) → (cond named None (Some NoModel)) ≡ None → named ≡ true
is_named true e = refl
is_named false e = cc

-- each text is one word
pub length-words : (value : Option Awaited) (texts : List (List ℕ)) → length (words_behind value texts) ≡ length texts
length-words value [] = refl
length-words value (text ∷ texts) = ap suc (length-words (awaited_behind (word_at value text (length texts))) texts)

-- the model that words name has a name, and there is none where they name none
pub model_has_name : (words : List Word) (texts : List (List ℕ)) → length words ≡ length texts → names_model words ≡ true → IsSome (named_by words texts)
model_has_name [] texts same e = cc
model_has_name (word ∷ words) [] same e = absurd (omega arith)
model_has_name (word ∷ words) (text ∷ texts) same e = by_word (is_model word) refl (model_has_name words texts (omega arith))
  where
    by_word : (named : Bool) → is_model word ≡ named → (names_model words ≡ true → IsSome (named_by words texts)) → IsSome (named_by (word ∷ words) (text ∷ texts))
    by_word true is others = rw is refl
    by_word false is others = let rest = rw is at e in rw is (others rest)

text_is_some : (name : Option (List ℕ)) → IsSome name → IsSome (option_map chars name)
text_is_some (Some name) e = refl
text_is_some None e = cc

pub named_text : (words : List (List ℕ)) (text : Option (List ℕ)) → names_model (words_of words) ≡ true → text ≡ option_map chars (model_name words) → IsSome text
named_text words text named is = rw is (text_is_some (model_name words) (model_has_name (words_of words) words (length-words None words) named))

no_name : (words : List Word) (texts : List (List ℕ)) → names_model words ≡ false → named_by words texts ≡ None
no_name [] texts none = refl
no_name (word ∷ words) [] none = refl
no_name (word ∷ words) (text ∷ texts) none = by_word (is_model word) refl (no_name words texts)
  where
    by_word : (named : Bool) → is_model word ≡ named → (names_model words ≡ false → named_by words texts ≡ None) → named_by (word ∷ words) (text ∷ texts) ≡ None
    by_word true is later = let bad = rw is at none in cc
    by_word false is later = let rest = rw is at none in rw is (later rest)

pub no_text : (words : List (List ℕ)) (text : Option (List ℕ)) → names_model (words_of words) ≡ false → text ≡ option_map chars (model_name words) → text ≡ None
no_text words text none is = is ∙ ap (option_map chars) (no_name (words_of words) words none)

-- a step past a word that names no model
named-drop : {Y : Type 0} (f : Y → List ℕ) (words : List Word) (texts : List Y) (i : ℕ) (d : Word) → i < length words → length words ≡ length texts → is_model (get_or words i d) ≡ false → named_by (drop i words) (map f (drop i texts)) ≡ named_by (drop (suc i) words) (map f (drop (suc i) texts))
named-drop f [] texts i d within same other = absurd (omega arith)
named-drop f (word ∷ words) [] i d within same other = absurd (omega arith)
named-drop f (word ∷ words) (text ∷ texts) zero d within same other = rw other refl
named-drop f (word ∷ words) (text ∷ texts) (suc i) d within same other = named-drop f words texts i d (omega arith) (omega arith) other

pub named_next : {Y : Type 0} (f : Y → List ℕ) (words : List Word) (texts : List Y) (i : ℕ) (d : Word) → i < length words → length words ≡ length texts → is_model (get_or words i d) ≡ false → named_by (drop i words) (map f (drop i texts)) ≡ named_by (drop (i + 1) words) (map f (drop (i + 1) texts))
named_next f words texts i d within same other = rw (add-one i) (named-drop f words texts i d within same other)

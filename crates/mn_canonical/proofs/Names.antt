-- Names of the model are words that the language takes as names.
use Rattle.std.proofs.Common.{◌≡◌, ℕ, true, false, List, [], ◌∷◌, refl, sym, subst}
use Rattle.std.specs.List.{list_all}
use Rattle.std.proofs.lemmas.Bool.{and_parts, and_from, or_left}
use Rattle.mn_lexer.specs.Bytes.{is_word_byte}
use Rattle.mn_lexer.specs.Forms.{IsWord}
use Rattle.mn_lexer.specs.Terminals.{word}
use Rattle.mn_model.specs.Name.{begins_name, continues_name, IsName}
use Rattle.mn_sections.specs.Trees.{name_from}
use Rattle.mn_sections.proofs.Names.{name_of_model}
use Rattle.mn_canonical.proofs.Saying.{Says}
use Rattle.mn_canonical.proofs.Tokens.{says_word}

-- what goes on with a name goes on with a word
goes_on : (bs : List ℕ) → list_all continues_name bs ≡ true → list_all is_word_byte bs ≡ true
goes_on [] all = refl
goes_on (b ∷ bs) all = let parts = and_parts (continues_name b) _ all in and_from (is_word_byte b) _ (or_left (continues_name b) _ parts.0) (goes_on bs parts.1)

name_is_word : (bytes : List ℕ) → IsName bytes → IsWord bytes
name_is_word [] named = absurd cc
name_is_word (b ∷ []) named = (or_left _ _ named, refl)
name_is_word (b ∷ c ∷ bs) named =
    let parts = and_parts (begins_name b) _ named in
    (parts.0, goes_on (c ∷ bs) (and_parts (continues_name b) _ parts.1).1)

pub says_name : (bytes : List ℕ) → IsName bytes → Says false bytes (word (name_from bytes).bytes ∷ []) true
says_name bytes named = subst (λ bs. Says false bytes (word bs ∷ []) true) (sym (name_of_model bytes named)) (says_word bytes (name_is_word bytes named))

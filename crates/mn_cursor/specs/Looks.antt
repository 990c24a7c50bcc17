-- A look at the next token, and what it tells of the readers of one token.
use Rattle.std.specs.Prelude.{◌≡◌, ◌⊎◌, ℕ, List, [], ◌∷◌, Option, Some, None, Ok, Err, Result}
use Rattle.mn_lexer.specs.Terminals.{Terminal, word, number, head, mark}
use Rattle.std.proofs.Common.{inl, inr}
use Rattle.mn_lexer.specs.Forms.{IsWord}
use Rattle.mn_model.specs.Domain.{IsValue}
use Rattle.mn_model.specs.Name.{IsName}
use Rattle.mn_grammar.specs.Reading.{refused}
use Rattle.mn_grammar.specs.declared.site.Site.{Site}
use Rattle.mn_grammar.specs.declared.Stop.{Stop}
use Rattle.mn_grammar.specs.declared.Stop.TheVariants.{Refused}
use Rattle.mn_cursor.specs.declared.heads.Head.{Head}
use Rattle.mn_cursor.specs.declared.looks.First.{First}
use Rattle.mn_cursor.specs.declared.looks.First.TheVariants as firsts
use Rattle.mn_cursor.specs.declared.looks.Seen.{Seen}
use Rattle.mn_cursor.specs.declared.looks.Seen.TheVariants as seen

-- the token that is seen
abbrev pub terminal_of : Seen → Terminal
terminal_of (seen.Word bytes) = word bytes.now
terminal_of (seen.Number n) = number n
terminal_of (seen.Head bytes) = head bytes.now
terminal_of (seen.Mark m) = mark m

-- a word has the form of one, and a number keeps the limit
abbrev pub IsFair : Seen → Type 0
IsFair (seen.Word bytes) = IsWord bytes.now
IsFair (seen.Number n) = IsValue n
IsFair _ = Unit {0}

-- a name or a head that is seen
abbrev pub first_value : First → List ℕ ⊎ Head
first_value (firsts.Name bytes) = inl bytes.now
first_value (firsts.Head h) = inr h

-- a name that is seen is one of the model
abbrev pub IsFirstName : First → Type 0
IsFirstName (firsts.Name bytes) = IsName bytes.now
IsFirstName (firsts.Head h) = Unit {0}

-- what the first token stands for in a class, if it is one of it
abbrev pub first_as : {W : Type 0} → (Terminal → Option W) → List Terminal → Option W
first_as classify [] = None
first_as classify (t ∷ ts) = classify t

-- A look for a token of a class gives what it stands for, or refuses what stands there.
abbrev pub Sees : {A W : Type 0} → Site → (Terminal → Option W) → (A → W) → List Terminal → Result A Stop → Type 0
Sees site classify view ts (Ok a) = first_as classify ts ≡ Some (view a)
Sees site classify view ts (Err e) = (first_as classify ts ≡ None) × (e ≡ Refused (refused site ts))

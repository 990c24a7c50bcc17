-- What stands where an entry of a section of variables may begin, and after one.
use Rattle.std.specs.Prelude.{◌≡◌, ◌⊎◌, ◌<◌, List, length, Option}
use Rattle.std.proofs.Common.{inl, inr}
use Rattle.mn_lexer.specs.Terminals.{Terminal}
use Rattle.mn_model.specs.Problem.{Problem}
use Rattle.mn_cursor.specs.Progress.{Progress, rest}
use Rattle.mn_cursor.specs.Sections.{IsRead}
use Rattle.mn_cursor.specs.declared.heads.Head.{Head}
use Rattle.mn_references.specs.declared.want.Unfit.{Unfit}
use Rattle.mn_decls.specs.Variables.{EntryWord, kind_word, alias_word, entries_at}
use Rattle.mn_decls.specs.declared.declaring.Turn.{Turn}
use Rattle.mn_decls.specs.declared.declaring.Turn.TheVariants.{On, End}
use Rattle.mn_decls.specs.declared.declaring.Word.{Word}
use Rattle.mn_decls.specs.declared.declaring.Word.TheVariants as words

-- the word of an entry that is seen, or the head
abbrev pub word_value : Word → EntryWord ⊎ Head
word_value (words.Kind k) = inl (kind_word k)
word_value words.Alias = inl alias_word
word_value (words.Head h) = inr h

-- Behind an entry the section's reader goes on and answers the same; else the section ends.
abbrev pub IsTurn : Problem → Option Unfit → List Terminal → Progress → Turn → Type 0
IsTurn p behind ts new (On next) =
    (entries_at (record { problem = new.problem; behind = next }) (rest new) ≡ entries_at (record { problem = p; behind = behind }) ts)
    × (length (rest new) < length ts)
IsTurn p behind ts new End = IsRead new (entries_at (record { problem = p; behind = behind }) ts)

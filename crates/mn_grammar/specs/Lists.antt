-- Bracketed lists, behind the mark that opens them.
use Rattle.std.specs.Prelude.{List, [], ◌∷◌, ◌++◌, length, Option, Some, None}
use Rattle.mn_lexer.specs.Terminals.{Terminal, mark}
use Rattle.mn_lexer.specs.declared.marks.Mark.{Mark}
use Rattle.mn_lexer.specs.declared.marks.Mark.TheVariants.{Comma}
use Rattle.mn_grammar.specs.Tokens.{is_the_mark}
use Rattle.mn_grammar.specs.Places.{Break, on, behind}
use Rattle.mn_grammar.specs.Reading.{Reader, MarksOnly, Turn, then_read, ret, or_else, loop, mark_at, end_at}
use Rattle.mn_grammar.specs.declared.Kind.{Kind}

-- one or more entries
pub data Items (A : Type 0) : Type 0 where
  final : A → Items A
  also : A → Items A → Items A

-- with `,` between, and behind the last the mark that closes the list
abbrev pub spell_items : {A : Type 0} → Mark → (A → List Terminal) → Items A → List Terminal
spell_items shut spell (final a) = spell a ++ mark shut ∷ []
spell_items shut spell (also a more) = spell a ++ mark Comma ∷ spell_items shut spell more

-- the same where the list may be empty
abbrev pub spell_maybe : {A : Type 0} → Mark → (A → List Terminal) → Option (Items A) → List Terminal
spell_maybe shut spell None = mark shut ∷ []
spell_maybe shut spell (Some items) = spell_items shut spell items

-- What the marks of a list say: the state behind an entry, and the conditions on the `,` and on the closing mark
-- behind it, by the state before the entry and its value.
pub record Ends (S V : Type 0) : Type 0 where
  pub next : S → V → S
  pub comma : S → V → Option Kind
  pub close : S → V → Option Kind

-- How a list is judged, entry by entry: how an entry is spelled, what it breaks and stands for by the state before it,
-- and its ends.
pub record Judge (A S V : Type 0) : Type 0 where
  pub spell : A → List Terminal
  pub breaks : S → A → List Break
  pub value : S → A → V
  pub ends : Ends S V

-- what a list breaks, from a state on
abbrev pub breaks_items : {A S V : Type 0} → Judge A S V → Items A → S → List Break
breaks_items j (final a) s = j.breaks s a ++ behind (length (j.spell a)) (on (j.ends.close s (j.value s a)))
breaks_items j (also a more) s =
    j.breaks s a ++ behind (length (j.spell a)) (on (j.ends.comma s (j.value s a)) ++ behind 1 (breaks_items j more (j.ends.next s (j.value s a))))

-- what a list stands for
abbrev pub value_items : {A S V R : Type 0} → Judge A S V → (S → V → R) → Items A → S → R
value_items j result (final a) s = result s (j.value s a)
value_items j result (also a more) s = value_items j result more (j.ends.next s (j.value s a))

-- its reader, of a reader for an entry
abbrev pub turn_at : {S V R : Type 0} → Mark → Ends S V → (S → V → R) → (S → Reader V) → S → Reader (Turn S R)
turn_at shut ends result entry s = then_read (entry s) (λ v. end_at shut (ends.comma s v) (ends.close s v) (ends.next s v) (result s v))

-- the reader of the list, behind the mark that opens it
unfoldable pub items_at : {S V R : Type 0} → Mark → Ends S V → (S → V → R) → (S → Reader V) → S → Reader R
items_at shut ends result entry s = loop (turn_at shut ends result entry) s

-- the same where the list may be empty: a condition and a value are then those of its closing mark
abbrev pub breaks_maybe : {A S V : Type 0} → Judge A S V → Option Kind → Option (Items A) → S → List Break
breaks_maybe j empty None s = on empty
breaks_maybe j empty (Some items) s = breaks_items j items s

-- what it stands for
abbrev pub value_maybe : {A S V R : Type 0} → Judge A S V → R → (S → V → R) → Option (Items A) → S → R
value_maybe j none result None s = none
value_maybe j none result (Some items) s = value_items j result items s

-- its reader
unfoldable pub maybe_at : {S V R : Type 0} → Mark → Ends S V → Option Kind → R → (S → V → R) → (S → Reader V) → S → Reader R
maybe_at shut ends empty none result entry s =
    or_else (is_the_mark shut) (then_read (mark_at MarksOnly shut empty) (λ _. ret none)) (items_at shut ends result entry s)

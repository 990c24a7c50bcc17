-- The readers of references, terms, entries, vectors and rows: what the public calls of this crate answer, token by token. That
-- they read exactly the language of `References.antt` and `Entries.antt` is a law of its own.
use Rattle.std.specs.Prelude.{ℕ, ℤ, ◌⊎◌, true, List, [], Option, Some, None, if◌then◌else◌, codes}
use Rattle.std.specs.Str.{bytes_eq}
use Rattle.std.proofs.Common.{inl, inr}
use Rattle.mn_lexer.specs.Terminals.{Terminal, word, number}
use Rattle.mn_lexer.specs.declared.marks.Mark.TheVariants.{OpenSquare, CloseSquare, Bang}
use Rattle.mn_model.specs.Problem.{Problem}
use Rattle.mn_model.specs.declared.constraint.Term.{Term}
use Rattle.mn_grammar.specs.Tokens.{name_of, number_of, is_the_mark}
use Rattle.mn_grammar.specs.Reading.{Reader, one, ret, then_read, or_else, which_either, which_mark, mark_at, name_at}
use Rattle.mn_grammar.specs.Lists.{items_at, maybe_at}
use Rattle.mn_grammar.specs.declared.site.Site.TheVariants.{Free, MarksOnly}
use Rattle.mn_grammar.specs.declared.Kind.{Kind}
use Rattle.mn_references.specs.Conditions.{lesser}
use Rattle.mn_references.specs.References.{Sub, only, each, Within, at_start, Aim, Lead, Found, at_name, at_open, at_index, sub_ends, found_at, found_bare, lead_of, lead, one_place}
use Rattle.mn_references.specs.Entries.{Place, Placed, placed, denied, constant, in_list, list_ends, at_enough, listed_terms, a_vector, within_brackets, any_number, Rows, one_by_one, one_row}
use Rattle.mn_references.specs.declared.want.Bounds.{Bounds}

-- an index
abbrev pub which_sub : Terminal → Option Sub
which_sub (number z) = Some (only z)
which_sub (word bs) = if bytes_eq bs (codes "_") then Some each else None
which_sub _ = None

unfoldable pub sub_at : Aim → Within → Reader Sub
sub_at aim w = one Free which_sub (at_index aim w)

-- the indices after `[`
unfoldable pub subs_at : Aim → Lead → Reader Found
subs_at aim l = items_at CloseSquare (sub_ends aim l) (found_at l) (sub_at aim) (at_start l.dims)

-- what stands after a name
unfoldable pub behind_name : Aim → Lead → Reader Found
behind_name aim l = or_else (is_the_mark OpenSquare) (then_read (mark_at MarksOnly OpenSquare (at_open l)) (λ u. subs_at aim l)) (ret (found_bare aim l))

-- a reference
unfoldable pub ref_at : Problem → Aim → Reader Found
ref_at p aim = then_read (name_at (λ w. at_name aim (lead_of p w))) (λ w. behind_name aim (lead p w))

-- the first token of an entry: a name, a number or `!`
abbrev pub EntryStart : Type 0
EntryStart = List ℕ ⊎ (ℤ ⊎ Unit {0})

abbrev pub which_entry : Terminal → Option EntryStart
which_entry = which_either name_of (which_either number_of (which_mark Bang))

abbrev pub at_entry : Problem → Place → EntryStart → Option Kind
at_entry p want (inl w) = lesser want.first (at_name want.aim (lead_of p w))
at_entry p want (inr (inl z)) = lesser want.first (want.number z)
at_entry p want (inr (inr u)) = want.first

-- what follows it
unfoldable pub behind_entry : Problem → Place → EntryStart → Reader Placed
behind_entry p want (inl w) = then_read (behind_name want.aim (lead p w)) (λ f. ret (placed f))
behind_entry p want (inr (inl z)) = ret (constant z)
behind_entry p want (inr (inr u)) = then_read (ref_at p (one_place p true)) (λ f. ret (denied f))

-- an entry
unfoldable pub entry_at : Problem → Place → Reader Placed
entry_at p want = then_read (one Free which_entry (at_entry p want)) (behind_entry p want)

-- a bracketed list of entries, after its `[`
unfoldable pub list_at : Problem → Bounds → Reader (List Term)
list_at p b = maybe_at CloseSquare (list_ends b) (at_enough b 0) [] listed_terms (λ terms. entry_at p (in_list p b terms)) []

-- the first token of a vector: a name or `[`
abbrev pub VectorStart : Type 0
VectorStart = List ℕ ⊎ Unit {0}

abbrev pub which_vector : Terminal → Option VectorStart
which_vector = which_either name_of (which_mark OpenSquare)

abbrev pub at_vector : Problem → Bounds → VectorStart → Option Kind
at_vector p b (inl w) = at_name (a_vector p b) (lead_of p w)
at_vector p b (inr u) = None

unfoldable pub behind_vector : Problem → Bounds → VectorStart → Reader Placed
behind_vector p b (inl w) = then_read (behind_name (a_vector p b) (lead p w)) (λ f. ret (placed f))
behind_vector p b (inr u) = then_read (list_at p b) (λ terms. ret (within_brackets terms))

-- a vector
unfoldable pub vector_at : Problem → Bounds → Reader Placed
vector_at p b = then_read (one Free which_vector (at_vector p b)) (behind_vector p b)

-- the first token of a row: that of an entry, or `[`
abbrev pub RowStart : Type 0
RowStart = EntryStart ⊎ Unit {0}

abbrev pub which_row : Terminal → Option RowStart
which_row = which_either which_entry (which_mark OpenSquare)

abbrev pub at_row : Problem → RowStart → Option Kind
at_row p (inl e) = at_entry p (in_list p any_number []) e
at_row p (inr u) = None

unfoldable pub behind_row : Problem → RowStart → Reader Rows
behind_row p (inl e) = then_read (behind_entry p (in_list p any_number []) e) (λ v. ret (one_by_one v))
behind_row p (inr u) = then_read (list_at p any_number) (λ terms. ret (one_row terms))

-- a row
unfoldable pub row_at : Problem → Reader Rows
row_at p = then_read (one Free which_row (at_row p)) (behind_row p)

-- What the code reads of terms, bracketed lists, vectors and rows.
use Rattle.std.specs.Prelude.{◌≡◌, ◌≤◌, ℕ, Bool, true, false, List, [], ◌∷◌, Option, if◌then◌else◌}
use Rattle.std.specs.List.{AllByRecursion}
use Rattle.mn_lexer.specs.declared.marks.Mark.{Mark}
use Rattle.mn_grammar.specs.Reading.{Reader, Turn, goes_on, is_done, one}
use Rattle.mn_grammar.specs.declared.Kind.{Kind}
use Rattle.mn_grammar.specs.declared.site.Site.TheVariants.{MarksOnly}
use Rattle.mn_model.specs.Problem.{size_of_dims}
use Rattle.mn_cursor.specs.Lists.{which_comma_or}
use Rattle.mn_references.specs.declared.lists.Listed.{Listed}

-- `,`, with which a list goes on, or the mark that closes it, each with a condition on it
unfoldable pub ends_at : Mark → Option Kind → Option Kind → Reader Bool
ends_at shut comma close = one MarksOnly (which_comma_or shut) (λ more. if more then comma else close)

-- after an entry a list goes on in a state, or that is what it stands for
abbrev pub turn_of : {S : Type 0} → S → Bool → Turn S S
turn_of s true = goes_on s
turn_of s false = is_done s

-- terms as they are read
abbrev pub listed_seen : Listed → Rattle.mn_references.specs.Entries.Placed
listed_seen l = record { terms = l.terms; dims = l.dims.now; behind = l.behind }

-- a whole matrix has a variable for each of its places
abbrev pub IsWhole : List ℕ → ℕ → Type 0
IsWhole [] n = Unit {0}
IsWhole (dim ∷ dims) n = AllByRecursion (λ d. 1 ≤ d) (dim ∷ dims) × (n ≡ size_of_dims (dim ∷ dims))

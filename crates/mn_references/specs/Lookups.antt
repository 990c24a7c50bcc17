-- What the code looks up by a name, and how far it has read a reference.
use Rattle.std.specs.Prelude.{◌≡◌, ℕ, [], map, ◌+◌, ◌*◌, ◌<◌, ◌≤◌, Bool, true, not, List, length, Option, Some, None, if◌then◌else◌, unwrap_or, slice_get}
use Rattle.mn_lexer.specs.declared.marks.Mark.TheVariants.{CloseSquare}
use Rattle.std.specs.List.{AllByRecursion}
use Rattle.mn_model.specs.Problem.{Problem, size_of_dims, variable_count}
use Rattle.mn_model.specs.Variable.{number_of, variable}
use Rattle.mn_model.specs.declared.limits.TheConstants.{VARIABLES}
use Rattle.mn_model.specs.declared.variable.VarId.{VarId}
use Rattle.mn_references.specs.References.{Aim, Lead, Sub, only, each, is_outside, Within, Found}
use Rattle.mn_grammar.specs.Reading.{Reader, Turn, goes_on, is_done, end_at}
use Rattle.mn_grammar.specs.Places.{when}
use Rattle.mn_grammar.specs.declared.Kind.{Kind}
use Rattle.mn_grammar.specs.declared.Kind.TheVariants.{Shape}
use Rattle.mn_references.specs.Conditions.{as_kind}
use Rattle.mn_references.specs.declared.references.Reference.{Reference}
use Rattle.mn_references.specs.declared.references.Step.{Step}
use Rattle.mn_references.specs.declared.references.Step.TheVariants.{On, Done}
use Rattle.mn_references.specs.declared.indices.Index.{Index}
use Rattle.mn_references.specs.declared.indices.Index.TheVariants.{Only, Each}
use Rattle.mn_references.specs.declared.indices.Indices.{Indices}
use Rattle.mn_references.specs.declared.lookup.Lookup.{Lookup}
use Rattle.mn_references.specs.declared.lookup.Source.{Source}
use Rattle.mn_references.specs.declared.lookup.Source.TheVariants.{From, Listed}

-- the variable at each place
abbrev pub at_source : Source → ℕ → VarId
at_source (From first) place = variable (number_of first + place)
at_source (Listed vars) place = unwrap_or (slice_get vars.now place) (variable 0)

-- what was looked up, as a lead
abbrev pub lead_seen : Lookup → Lead
lead_seen l = record { dims = l.dims.now; at = at_source l.source }

-- a list has a variable for each place
abbrev pub IsFilled : Source → ℕ → Type 0
IsFilled (From first) size = Unit {0}
IsFilled (Listed vars) size = length vars.now ≡ size

-- it fits the problem: its size is known, and all its variables are declared
pub record IsLookup (p : Problem) (l : Lookup) : Type 0 where
  pub shaped : AllByRecursion (λ dim. 1 ≤ dim) l.dims.now
  pub size : l.size ≡ size_of_dims l.dims.now
  pub filled : IsFilled l.source l.size
  pub known : (place : ℕ) → place < l.size → number_of (at_source l.source place) < variable_count p.decls
  pub few : variable_count p.decls ≤ VARIABLES

-- an index as it is read
abbrev pub sub_seen : Index → Sub
sub_seen (Only z) = only z
sub_seen Each = each

-- a number is one of its dimension
abbrev pub is_fine : List ℕ → Sub → Bool
is_fine dims (only z) = not (is_outside dims z)
is_fine dims each = true

-- the indices so far
abbrev pub within_seen : Indices → Within
within_seen i = record { dims = i.dims.now; places = i.places.items; full = i.full }

-- the places that they lead to stay within the matrix, whatever indices follow
pub record IsInside (i : Indices) : Type 0 where
  pub shaped : AllByRecursion (λ dim. 1 ≤ dim) i.dims.now
  pub within : AllByRecursion (λ place. (place + 1) * size_of_dims i.dims.now ≤ i.size) i.places.items

-- what a reference stands for, as it is read
abbrev pub found_seen : Reference → Found
found_seen r = record { vars = r.vars; dims = r.dims.now; behind = r.behind }

-- after an index: there are more, or the reference is whole
abbrev pub subs_turn : Step → Turn Within Found
subs_turn (On i) = goes_on (within_seen i)
subs_turn (Done r) = is_done (found_seen r)

-- the indices so far stay within the matrix
abbrev pub IsOn : ℕ → Step → Type 0
IsOn size (On i) = IsInside i × (i.size ≡ size)
IsOn size (Done r) = Unit {0}

-- the places that indices lead to, as a reference to their variables
abbrev pub found_within : Lead → Within → Found
found_within l z = record { vars = map l.at z.places; dims = []; behind = None }

-- the end of the reference, where no index is missing
abbrev pub ends_within : Aim → Lead → Within → Option Kind
ends_within aim l z = as_kind (aim.ends z.full (map l.at z.places))

-- what stands after an index that leads so far, by whether it has the last of the dimensions
unfoldable pub behind_index : Aim → Lead → Bool → Within → Reader (Turn Within Found)
behind_index aim l last z =
    end_at CloseSquare (when last Shape) (if last then ends_within aim l z else Some Shape) z (found_within l z)

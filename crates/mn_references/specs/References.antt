-- References: what a name and the indices after it lead to, how they are spelled, and what they break.
use Rattle.std.specs.Prelude.{ℕ, ◌+◌, ◌*◌, ℤ, pos, negsuc, int_lt, ltb, Bool, true, false, not, ◌&&◌, ◌||◌, List, [], ◌∷◌, ◌++◌, length, map, Option, Some, None, unwrap_or, slice_get, if◌then◌else◌, codes}
use Rattle.std.specs.List.{flat_map, list_all, range_with_len}
use Rattle.std.specs.Ordering.{int_eq}
use Rattle.mn_lexer.specs.Terminals.{Terminal, word, number, mark}
use Rattle.mn_lexer.specs.declared.marks.Mark.TheVariants.{OpenSquare, CloseSquare}
use Rattle.mn_model.specs.Problem.{Problem, size_of_dims, declared_as, aliased_as, domains_of}
use Rattle.mn_model.specs.Variable.{number_of, variable}
use Rattle.mn_model.specs.declared.declaration.Alias.{Alias}
use Rattle.mn_model.specs.declared.declaration.Decl.{Decl}
use Rattle.mn_model.specs.declared.limits.TheConstants.{PLACES}
use Rattle.mn_model.specs.declared.variable.VarId.{VarId}
use Rattle.mn_grammar.specs.Tokens.{Name}
use Rattle.mn_grammar.specs.Places.{Break, when, on, behind}
use Rattle.mn_grammar.specs.Lists.{Items, spell_items, Ends, Judge, breaks_items, value_items}
use Rattle.mn_grammar.specs.declared.Kind.{Kind}
use Rattle.mn_grammar.specs.declared.Kind.TheVariants as kinds
use Rattle.mn_references.specs.Conditions.{as_kind, unfit}
use Rattle.mn_references.specs.declared.want.Unfit.{Unfit}
use Rattle.mn_references.specs.declared.want.Unfit.TheVariants.{Form, Length}
use Rattle.mn_references.specs.declared.want.Want.{Want}

-- What a name leads to: its dimensions, none for a single variable, and the variable at each place, the last index
-- running fastest.
pub record Lead : Type 0 where
  pub dims : List ℕ
  pub at : ℕ → VarId

-- the lead of a declaration, or else of an alias
abbrev pub lead_by : Option Decl → Option Alias → Option Lead
lead_by (Some d) a = Some (record { dims = d.dims; at = λ place. variable (number_of d.first + place) })
lead_by None (Some a) = Some (record { dims = a.dims; at = λ place. unwrap_or (slice_get a.vars place) (variable 0) })
lead_by None None = None

-- what a name leads to, if it is declared
abbrev pub lead_of : Problem → List ℕ → Option Lead
lead_of p name = lead_by (declared_as p.decls name) (aliased_as p.aliases name)

-- all variables of a name, in order; a name with no dimensions has one
abbrev pub all_of : Lead → List VarId
all_of l = map l.at (range_with_len 0 (size_of_dims l.dims))

-- no dimensions: the name is that of a single variable
abbrev pub is_single : List ℕ → Bool
is_single [] = true
is_single (dim ∷ dims) = false

-- no dimension after the first
abbrev pub is_last : List ℕ → Bool
is_last [] = true
is_last (dim ∷ dims) = is_single dims

-- an index: a number, or `_`, which is each of them
pub data Sub : Type 0 where
  only : ℤ → Sub
  each : Sub

abbrev pub sub_token : Sub → Terminal
sub_token (only z) = number z
sub_token each = word (codes "_")

-- the number of an index that isn't below 0
abbrev pub as_index : ℤ → ℕ
as_index (pos i) = i
as_index (negsuc i) = 0

-- the places that an index leads to, from one place, and from those that the indices before it lead to
abbrev pub places_from : ℕ → Sub → ℕ → List ℕ
places_from dim (only z) place = (place * dim + as_index z) ∷ []
places_from dim each place = map (λ i. place * dim + i) (range_with_len 0 dim)

abbrev pub places_below : ℕ → Sub → List ℕ → List ℕ
places_below dim sub places = flat_map (places_from dim sub) places

-- an index is a number
abbrev pub is_only : Sub → Bool
is_only (only z) = true
is_only each = false

-- Where the indices so far lead: the dimensions that are left, the places that they lead to, and whether none of them
-- is `_`.
pub record Within : Type 0 where
  pub dims : List ℕ
  pub places : List ℕ
  pub full : Bool

-- with no index yet
abbrev pub at_start : List ℕ → Within
at_start dims = record { dims = dims; places = 0 ∷ []; full = true }

-- with one more index; what is too many leads nowhere
abbrev pub entered_in : List ℕ → Within → Sub → Within
entered_in [] w sub = w
entered_in (dim ∷ dims) w sub = record { dims = dims; places = places_below dim sub w.places; full = w.full && is_only sub }

abbrev pub entered : Within → Sub → Within
entered w sub = entered_in w.dims w sub

-- the trees: a name, and its indices if it has any
pub record Ref : Type 0 where
  pub name : Name
  pub subs : Option (Items Sub)

-- how indices are spelled, and a reference
abbrev pub spell_sub : Sub → List Terminal
spell_sub sub = sub_token sub ∷ []

abbrev pub spell_subs : Option (Items Sub) → List Terminal
spell_subs None = []
spell_subs (Some subs) = mark OpenSquare ∷ spell_items CloseSquare spell_sub subs

abbrev pub spell_ref : Ref → List Terminal
spell_ref r = word r.name.bytes ∷ spell_subs r.subs

-- What is wanted of a reference: whether `_` may stand, and what its end breaks, by whether it names one variable in
-- full, and by the variables that it names.
pub record Aim : Type 0 where
  pub slices : Bool
  pub ends : Bool → List VarId → Option Unfit

-- What a reference stands for: the variables that it names; where it is a whole matrix without indices, the matrix's
-- dimensions, and what its end breaks, which is the token after it.
pub record Found : Type 0 where
  pub vars : List VarId
  pub dims : List ℕ
  pub behind : Option Unfit

-- At the name: it is declared; and where it is a single variable, it is the end of the reference.
abbrev pub at_name : Aim → Option Lead → Option Kind
at_name aim None = Some kinds.Name
at_name aim (Some l) = if is_single l.dims then as_kind (aim.ends true (all_of l)) else None

-- At the `[`: the name is that of a matrix.
abbrev pub at_open : Lead → Option Kind
at_open l = when (is_single l.dims) kinds.Shape

-- an index isn't one of its dimension
abbrev pub is_outside : List ℕ → ℤ → Bool
is_outside [] z = false
is_outside (dim ∷ dims) z = int_lt z (pos 0) || not (int_lt z (pos dim))

-- At an index: a number is at least 0 and below its dimension, and `_` stands only where more than one may be named.
abbrev pub index_kind : Bool → List ℕ → Sub → Option Kind
index_kind slices dims (only z) = when (is_outside dims z) kinds.Shape
index_kind slices dims each = when (not slices) kinds.Shape

abbrev pub at_index : Aim → Within → Sub → Option Kind
at_index aim w = index_kind aim.slices w.dims

-- At the `,` after an index: there is a dimension for one more.
abbrev pub at_comma : Within → Sub → Option Kind
at_comma w sub = when (is_last w.dims) kinds.Shape

-- At the `]`: no index is missing; then it is the end of the reference.
abbrev pub at_close : Aim → Lead → Within → Sub → Option Kind
at_close aim l w sub = if is_last w.dims then as_kind (aim.ends (entered w sub).full (map l.at (entered w sub).places)) else Some kinds.Shape

-- how indices are judged, one by one
abbrev pub sub_ends : Aim → Lead → Ends Within Sub
sub_ends aim l = record { next = entered; comma = at_comma; close = at_close aim l }

abbrev pub sub_judge : Aim → Lead → Judge Sub Within Sub
sub_judge aim l = record { spell = spell_sub; breaks = λ w sub. on (at_index aim w sub); value = λ w sub. sub; ends = sub_ends aim l }

-- what indices lead to
abbrev pub found_at : Lead → Within → Sub → Found
found_at l w sub = record { vars = map l.at (entered w sub).places; dims = []; behind = None }

-- what a name without indices leads to
abbrev pub found_bare : Aim → Lead → Found
found_bare aim l = record {
  vars = all_of l;
  dims = l.dims;
  behind = if is_single l.dims then None else aim.ends false (all_of l);
}

-- what stands after a name breaks, and what it stands for
abbrev pub breaks_subs : Aim → Lead → Option (Items Sub) → List Break
breaks_subs aim l None = []
breaks_subs aim l (Some subs) = on (at_open l) ++ behind 1 (breaks_items (sub_judge aim l) subs (at_start l.dims))

abbrev pub value_subs : Aim → Lead → Option (Items Sub) → Found
value_subs aim l None = found_bare aim l
value_subs aim l (Some subs) = value_items (sub_judge aim l) (found_at l) subs (at_start l.dims)

-- the lead of a name; one that isn't declared is refused, and leads nowhere
abbrev pub lead_or_none : Option Lead → Lead
lead_or_none None = record { dims = []; at = λ place. variable place }
lead_or_none (Some l) = l

abbrev pub lead : Problem → List ℕ → Lead
lead p name = lead_or_none (lead_of p name)

-- what a reference breaks, and what it stands for
abbrev pub breaks_ref : Problem → Aim → Ref → List Break
breaks_ref p aim r = on (at_name aim (lead_of p r.name.bytes)) ++ behind 1 (breaks_subs aim (lead p r.name.bytes) r.subs)

abbrev pub value_ref : Problem → Aim → Ref → Found
value_ref p aim r = value_subs aim (lead p r.name.bytes) r.subs

-- values that all are 0 or 1
abbrev pub are_zero_one : Option (List ℤ) → Bool
are_zero_one None = false
are_zero_one (Some values) = list_all (λ a. int_eq a (pos 0) || int_eq a (pos 1)) values

-- variables that all have no other values
abbrev pub are_bits : Problem → List VarId → Bool
are_bits p vars = list_all (λ v. are_zero_one (slice_get (domains_of p.decls) (number_of v))) vars

-- One variable is wanted, where `bits` one that is 0 or 1. However many it names, that is all that its end breaks.
abbrev pub one_place : Problem → Bool → Aim
one_place p bits = record { slices = false; ends = λ full vars. unfit (not full || (bits && not (are_bits p vars))) Form }

-- it names too few or too many, or isn't of the form that is wanted, or isn't 0/1 where that is wanted
abbrev pub is_unwanted : Problem → Want → Bool → List VarId → Bool
is_unwanted p want full vars =
    ltb (length vars) want.least || ltb want.most (length vars) || (want.bits && not (are_bits p vars))
    || (if full then not want.single else not want.slices)

-- What is wanted is told. More variables than the limit leaves pass it, and else every other want counts alike.
abbrev pub as_wanted : Problem → Want → Aim
as_wanted p want = record {
  slices = want.slices;
  ends = λ full vars. if ltb want.room (length vars) then Some Length else unfit (is_unwanted p want full vars) Form;
}

-- Part of VARORDER, after n variables: as many as the limit leaves.
abbrev pub order_aim_behind : ℕ → Aim
order_aim_behind n = record { slices = true; ends = λ full vars. unfit (ltb PLACES (n + length vars)) Length }

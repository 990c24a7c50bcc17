-- The section of variables: its language, what it breaks, what it stands for, and its reader.
use Rattle.std.specs.Prelude.{◌⊎◌, ℕ, ℤ, pos, ◌+ℤ◌, ◌-ℤ◌, ◌*ℤ◌, Bool, true, false, ◌||◌, ◌&&◌, leb, List, [], ◌∷◌, ◌++◌, length, filter, codes, Option, Some, None, is_some, if◌then◌else◌, nat_abs, int_lt}
use Rattle.std.proofs.Common.{inl, inr}
use Rattle.mn_lexer.specs.Terminals.{Terminal, word, number, mark}
use Rattle.mn_lexer.specs.declared.marks.Mark.TheVariants.{OpenSquare, CloseSquare, OpenCurly, CloseCurly, Dots, Equals}
use Rattle.mn_grammar.specs.Tokens.{Name, is_the_mark}
use Rattle.mn_grammar.specs.Places.{Break, when, on, behind}
use Rattle.mn_grammar.specs.Reading.{Reader, which_of, which_either, one, name_at, number_at, mark_at, then_read, ret, or_else}
use Rattle.mn_grammar.specs.Lists.{Items, Ends, Judge, spell_items, spell_maybe, breaks_items, breaks_maybe, value_items, value_maybe, items_at, maybe_at}
use Rattle.mn_grammar.specs.Bodies.{body_at}
use Rattle.mn_grammar.specs.Lawful.{Spec}
use Rattle.mn_grammar.specs.declared.site.Site.TheVariants.{Fixed, MarksOnly}
use Rattle.mn_grammar.specs.declared.Kind.{Kind}
use Rattle.mn_grammar.specs.declared.Kind.TheVariants as kinds
use Rattle.mn_grammar.specs.declared.Limit.TheVariants as limits
use Rattle.mn_model.specs.Domain.{stretch}
use Rattle.mn_model.specs.Problem.{Problem, declared_as, aliased_as, size_of_dims, variable_count}
use Rattle.mn_model.specs.declared.limits.TheConstants.{SPAN, VARIABLES}
use Rattle.mn_model.specs.declared.variable.Kind as variable
use Rattle.mn_model.specs.declared.variable.Kind.TheVariants.{Binary, Bounded, Sparse, Discrete}
use Rattle.mn_model.specs.declared.variable.VarId.{VarId}
use Rattle.mn_cursor.specs.Added.{with_declaration, with_alias}
use Rattle.mn_cursor.specs.Heads.{head_token, head_of}
use Rattle.mn_cursor.specs.declared.heads.Head.{Head}
use Rattle.mn_cursor.specs.declared.heads.Head.TheVariants.{End}
use Rattle.mn_references.specs.Conditions.{lesser, as_kind}
use Rattle.mn_references.specs.References.{Ref, spell_ref, Found, breaks_ref, value_ref, one_place}
use Rattle.mn_references.specs.Referring.{ref_at}
use Rattle.mn_references.specs.declared.want.Unfit.{Unfit}
use Rattle.mn_decls.specs.Aliases.{Nest, spell_nest, breaks_nest, with_nest, nest_at}

-- 1. The language

-- the word that declares variables of a kind
abbrev pub kind_text : variable.Kind → List ℕ
kind_text Binary = codes "BOOL"
kind_text Bounded = codes "BOUND"
kind_text Sparse = codes "SPARSEBOUND"
kind_text Discrete = codes "DISCRETE"

abbrev pub kind_token : variable.Kind → Terminal
kind_token k = word (kind_text k)

abbrev pub all_kinds : List variable.Kind
all_kinds = Binary ∷ Bounded ∷ Sparse ∷ Discrete ∷ []

abbrev pub kind_of : Terminal → Option variable.Kind
kind_of = which_of kind_token all_kinds

-- a part of a domain: a value, or all from one to another
pub data Part : Type 0 where
  one_value : ℤ → Part
  range : ℤ → ℤ → Part

-- what stands after the dimensions: nothing, the ends of a stretch, or parts
abbrev pub Written : variable.Kind → Type 0
Written Binary = Unit {0}
Written Bounded = ℤ × ℤ
Written Sparse = Option (Items Part)
Written Discrete = ℤ × ℤ

-- a declaration as it is written
pub record Declaration : Type 0 where
  pub kind : variable.Kind
  pub name : Name
  pub dims : Option (Items ℤ)
  pub domain : Written kind

abbrev pub spell_number : ℤ → List Terminal
spell_number z = number z ∷ []

abbrev pub spell_dims : Option (Items ℤ) → List Terminal
spell_dims None = []
spell_dims (Some l) = mark OpenSquare ∷ spell_items CloseSquare spell_number l

abbrev pub spell_part : Part → List Terminal
spell_part (one_value a) = number a ∷ []
spell_part (range a b) = number a ∷ mark Dots ∷ number b ∷ []

abbrev pub spell_stretch : ℤ → ℤ → List Terminal
spell_stretch lo hi = mark OpenCurly ∷ number lo ∷ mark Dots ∷ number hi ∷ mark CloseCurly ∷ []

abbrev pub spell_domain : (k : variable.Kind) → Written k → List Terminal
spell_domain Binary u = []
spell_domain Bounded d = spell_stretch d.0 d.1
spell_domain Sparse d = mark OpenCurly ∷ spell_maybe CloseCurly spell_part d
spell_domain Discrete d = spell_stretch d.0 d.1

abbrev pub spell_declaration : Declaration → List Terminal
spell_declaration d = kind_token d.kind ∷ word d.name.bytes ∷ spell_dims d.dims ++ spell_domain d.kind d.domain

-- what an alias leads to: one variable, or a matrix of them by its dimensions
pub data Target : Type 0 where
  of_var : Ref → Target
  of_matrix : Items ℤ → Nest → Target

-- an alias as it is written
pub record Naming : Type 0 where
  pub name : Name
  pub target : Target

abbrev pub spell_matrix : Items ℤ → Nest → List Terminal
spell_matrix l n = spell_items CloseSquare spell_number l ++ mark Equals ∷ spell_nest n

abbrev pub spell_target : Target → List Terminal
spell_target (of_var r) = mark Equals ∷ spell_ref r
spell_target (of_matrix l n) = mark OpenSquare ∷ spell_matrix l n

-- the section: declarations and aliases, and the head after them
pub data Entry : Type 0 where
  declares : Declaration → Entry
  names : Naming → Entry

abbrev pub alias_token : Terminal
alias_token = word (codes "ALIAS")

abbrev pub spell_entry : Entry → List Terminal
spell_entry (declares d) = spell_declaration d
spell_entry (names a) = alias_token ∷ word a.name.bytes ∷ spell_target a.target

abbrev pub spell_declarations : List Entry → Head → List Terminal
spell_declarations [] h = head_token h ∷ []
spell_declarations (e ∷ es) h = spell_entry e ++ spell_declarations es h

-- 2. Its conditions, each on its token

-- a kind's word: there is room for one more variable
abbrev pub room_for_one : Problem → Option Kind
room_for_one p = when (leb VARIABLES (variable_count p.decls)) (kinds.Limit limits.Variables)

-- a name: it is declared neither as a variable or a matrix nor as an alias
abbrev pub new_name : Problem → List ℕ → Option Kind
new_name p name = when (is_some (declared_as p.decls name) || is_some (aliased_as p.aliases name)) kinds.Name

-- a dimension after others: it is at least 1, and with it there is room for the variables
abbrev pub fair_dim : Problem → List ℕ → ℤ → Option Kind
fair_dim p before dim =
    if int_lt dim (pos 1) then Some kinds.Shape
    else when (int_lt (pos VARIABLES) (pos (variable_count p.decls) +ℤ pos (size_of_dims before) *ℤ dim)) (kinds.Limit limits.Variables)

-- a dimension of an alias: it is at least 1
abbrev pub alias_dim : ℤ → Option Kind
alias_dim dim = when (int_lt dim (pos 1)) kinds.Shape

-- the second number of a stretch: it isn't below the first, and in a limited domain there aren't too many values
abbrev pub fair_end : Bool → ℤ → ℤ → Option Kind
fair_end limited lo hi =
    if int_lt hi lo then Some kinds.EmptyDomain
    else when (limited && int_lt (pos SPAN) (hi -ℤ lo +ℤ pos 1)) (kinds.Limit limits.Span)

-- the values with all from lo to hi, where they ascend
abbrev pub with_range : List ℤ → ℤ → ℤ → List ℤ
with_range values lo hi = filter (λ x. int_lt x lo) values ++ (stretch lo hi ++ filter (λ x. int_lt hi x) values)

abbrev pub is_past_span : List ℤ → Bool
is_past_span values = int_lt (pos SPAN) (pos (length values))

-- the first number of a part: it is a value itself, and there may be too many with it
abbrev pub fair_first : List ℤ → ℤ → Option Kind
fair_first values a = when (is_past_span (with_range values a a)) (kinds.Limit limits.Span)

-- the second number of a part
abbrev pub fair_last : List ℤ → ℤ → ℤ → Option Kind
fair_last values a b = if int_lt b a then Some kinds.EmptyDomain else when (is_past_span (with_range values a b)) (kinds.Limit limits.Span)

-- 3. How lists are judged

-- dimensions, by those before
abbrev pub with_dim : List ℕ → ℤ → List ℕ
with_dim before dim = before ++ nat_abs dim ∷ []

abbrev pub dims_ends : Ends (List ℕ) ℤ
dims_ends = record { next = with_dim; comma = λ s z. None; close = λ s z. None }

abbrev pub dims_judge : Problem → Judge ℤ (List ℕ) ℤ
dims_judge p = record {
  spell = spell_number;
  breaks = λ before z. on (fair_dim p before z);
  value = λ before z. z;
  ends = dims_ends;
}

-- those of an alias
abbrev pub alias_dims_judge : Judge ℤ (List ℕ) ℤ
alias_dims_judge = record { spell = spell_number; breaks = λ before z. on (alias_dim z); value = λ before z. z; ends = dims_ends }

-- parts of a domain, by the values before: a part stands for its ends
abbrev pub ends_of_part : Part → ℤ × ℤ
ends_of_part (one_value a) = (a, a)
ends_of_part (range a b) = (a, b)

abbrev pub breaks_part : List ℤ → Part → List Break
breaks_part values (one_value a) = on (fair_first values a)
breaks_part values (range a b) = on (fair_first values a) ++ behind 2 (on (fair_last values a b))

abbrev pub with_part : List ℤ → ℤ × ℤ → List ℤ
with_part values part = with_range values part.0 part.1

abbrev pub parts_ends : Ends (List ℤ) (ℤ × ℤ)
parts_ends = record { next = with_part; comma = λ s v. None; close = λ s v. None }

abbrev pub parts_judge : Judge Part (List ℤ) (ℤ × ℤ)
parts_judge = record { spell = spell_part; breaks = breaks_part; value = λ values part. ends_of_part part; ends = parts_ends }

-- 4. What a declaration breaks, and what it stands for

abbrev pub breaks_dims : Problem → Option (Items ℤ) → List Break
breaks_dims p None = []
breaks_dims p (Some l) = behind 1 (breaks_items (dims_judge p) l [])

abbrev pub dims_of : Problem → Option (Items ℤ) → List ℕ
dims_of p None = []
dims_of p (Some l) = value_items (dims_judge p) with_dim l []

abbrev pub breaks_domain : (k : variable.Kind) → Written k → List Break
breaks_domain Binary u = []
breaks_domain Bounded d = behind 3 (on (fair_end false d.0 d.1))
breaks_domain Sparse d = behind 1 (breaks_maybe parts_judge (Some kinds.EmptyDomain) d [])
breaks_domain Discrete d = behind 3 (on (fair_end true d.0 d.1))

abbrev pub domain_of : (k : variable.Kind) → Written k → List ℤ
domain_of Binary u = stretch (pos 0) (pos 1)
domain_of Bounded d = stretch d.0 d.1
domain_of Sparse d = value_maybe parts_judge [] with_part d []
domain_of Discrete d = stretch d.0 d.1

-- after its kind's word
abbrev pub breaks_behind : Problem → Declaration → List Break
breaks_behind p d =
    on (new_name p d.name.bytes)
    ++ behind 1 (breaks_dims p d.dims ++ behind (length (spell_dims d.dims)) (breaks_domain d.kind d.domain))

abbrev pub declared : Problem → Declaration → Problem
declared p d = with_declaration p d.name.bytes (dims_of p d.dims) d.kind (domain_of d.kind d.domain)

-- 5. What an alias breaks, and what it stands for

-- What is declared so far, and what the next token breaks, whatever it is: an alias that leads to a whole matrix in place
-- of one variable ends only there.
pub record Declaring : Type 0 where
  pub problem : Problem
  pub behind : Option Unfit

abbrev pub so_far : Problem → Declaring
so_far p = record { problem = p; behind = None }

-- an alias whose end is broken isn't declared
abbrev pub with_alias_by : Option Unfit → Problem → List ℕ → List VarId → Problem
with_alias_by None p name vars = with_alias p name [] vars
with_alias_by (Some u) p name vars = p

abbrev pub with_one : Problem → List ℕ → Found → Declaring
with_one p name f = record { problem = with_alias_by f.behind p name f.vars; behind = f.behind }

abbrev pub with_matrix : Problem → List ℕ → List ℕ → List VarId → Declaring
with_matrix p name dims vars = so_far (with_alias p name dims vars)

abbrev pub matrix_dims : Items ℤ → List ℕ
matrix_dims l = value_items alias_dims_judge with_dim l []

abbrev pub breaks_matrix : Problem → Items ℤ → Nest → List Break
breaks_matrix p l n =
    breaks_items alias_dims_judge l []
    ++ behind (length (spell_items CloseSquare spell_number l)) (behind 1 (breaks_nest p n (matrix_dims l)))

abbrev pub breaks_target : Problem → Target → List Break
breaks_target p (of_var r) = behind 1 (breaks_ref p (one_place p false) r)
breaks_target p (of_matrix l n) = behind 1 (breaks_matrix p l n)

abbrev pub named : Problem → List ℕ → Target → Declaring
named p name (of_var r) = with_one p name (value_ref p (one_place p false) r)
named p name (of_matrix l n) = with_matrix p name (matrix_dims l) (with_nest p n [])

-- 6. What the section breaks, and what it stands for

-- at the word ALIAS there is nothing beside the end before it
abbrev pub breaks_entry : Declaring → Entry → List Break
breaks_entry s (declares d) = on (lesser (as_kind s.behind) (room_for_one s.problem)) ++ behind 1 (breaks_behind s.problem d)
breaks_entry s (names a) =
    on (as_kind s.behind) ++ behind 1 (on (new_name s.problem a.name.bytes) ++ behind 1 (breaks_target s.problem a.target))

abbrev pub value_entry : Declaring → Entry → Declaring
value_entry s (declares d) = so_far (declared s.problem d)
value_entry s (names a) = named s.problem a.name.bytes a.target

abbrev pub breaks_entries : Declaring → List Entry → List Break
breaks_entries s [] = on (as_kind s.behind)
breaks_entries s (e ∷ es) = breaks_entry s e ++ behind (length (spell_entry e)) (breaks_entries (value_entry s e) es)

abbrev pub value_entries : Declaring → List Entry → Declaring
value_entries s [] = s
value_entries s (e ∷ es) = value_entries (value_entry s e) es

abbrev pub breaks_declarations : Problem → List Entry → List Break
breaks_declarations p es = breaks_entries (so_far p) es

abbrev pub value_declarations : Problem → List Entry → Problem
value_declarations p es = (value_entries (so_far p) es).problem

-- 7. The readers

abbrev pub dim_at : Problem → List ℕ → Reader ℤ
dim_at p before = number_at (fair_dim p before)

unfoldable pub dims_list_at : Problem → Reader (List ℕ)
dims_list_at p = items_at CloseSquare dims_ends with_dim (dim_at p) []

unfoldable pub dims_at : Problem → Reader (List ℕ)
dims_at p = or_else (is_the_mark OpenSquare) (then_read (mark_at MarksOnly OpenSquare None) (λ u. dims_list_at p)) (ret [])

abbrev pub any_number : ℤ → Option Kind
any_number z = None

unfoldable pub stretch_at : Bool → Reader (List ℤ)
stretch_at limited =
    then_read (mark_at MarksOnly OpenCurly None) (λ u. then_read (number_at any_number) (λ lo.
    then_read (mark_at MarksOnly Dots None) (λ u. then_read (number_at (fair_end limited lo)) (λ hi.
    then_read (mark_at MarksOnly CloseCurly None) (λ u. ret (stretch lo hi))))))

abbrev pub range_at : List ℤ → ℤ → Reader (ℤ × ℤ)
range_at values a = then_read (mark_at MarksOnly Dots None) (λ u. then_read (number_at (fair_last values a)) (λ b. ret (a, b)))

unfoldable pub part_at : List ℤ → Reader (ℤ × ℤ)
part_at values = then_read (number_at (fair_first values)) (λ a. or_else (is_the_mark Dots) (range_at values a) (ret (a, a)))

-- one part or more, and the mark that closes them
unfoldable pub parts_list_at : Reader (List ℤ)
parts_list_at = items_at CloseCurly parts_ends with_part part_at []

unfoldable pub parts_at : Reader (List ℤ)
parts_at =
    then_read (mark_at MarksOnly OpenCurly None) (λ u. maybe_at CloseCurly parts_ends (Some kinds.EmptyDomain) [] with_part part_at [])

unfoldable pub domain_at : variable.Kind → Reader (List ℤ)
domain_at Binary = ret (stretch (pos 0) (pos 1))
domain_at Bounded = stretch_at false
domain_at Sparse = parts_at
domain_at Discrete = stretch_at true

unfoldable pub declaration_at : Problem → variable.Kind → Reader Problem
declaration_at p k =
    then_read (name_at (new_name p)) (λ name. then_read (dims_at p) (λ dims. then_read (domain_at k) (λ values.
    ret (with_declaration p name dims k values))))

-- dimensions of an alias
unfoldable pub alias_dims_at : Reader (List ℕ)
alias_dims_at = items_at CloseSquare dims_ends with_dim (λ before. number_at alias_dim) []

unfoldable pub matrix_at : Problem → List ℕ → Reader Declaring
matrix_at p name =
    then_read alias_dims_at (λ dims. then_read (mark_at MarksOnly Equals None) (λ u. then_read (nest_at p dims []) (λ v.
    ret (with_matrix p name dims v.vars))))

unfoldable pub var_at : Problem → List ℕ → Reader Declaring
var_at p name =
    then_read (mark_at MarksOnly Equals None) (λ u. then_read (ref_at p (one_place p false)) (λ f. ret (with_one p name f)))

-- what stands after the name of an alias
unfoldable pub target_at : Problem → List ℕ → Reader Declaring
target_at p name =
    or_else (is_the_mark OpenSquare) (then_read (mark_at MarksOnly OpenSquare None) (λ u. matrix_at p name)) (var_at p name)

-- and after its word
unfoldable pub alias_at : Problem → Reader Declaring
alias_at p = then_read (name_at (new_name p)) (target_at p)

-- the words that entries begin with
pub data EntryWord : Type 0 where
  kind_word : variable.Kind → EntryWord
  alias_word : EntryWord

abbrev pub entry_token : EntryWord → Terminal
entry_token (kind_word k) = kind_token k
entry_token alias_word = alias_token

abbrev pub entry_words : List EntryWord
entry_words = kind_word Binary ∷ kind_word Bounded ∷ kind_word Sparse ∷ kind_word Discrete ∷ alias_word ∷ []

abbrev pub which_word : Terminal → Option (EntryWord ⊎ Head)
which_word = which_either (which_of entry_token entry_words) head_of

abbrev pub judge_word : Declaring → EntryWord ⊎ Head → Option Kind
judge_word s (inl (kind_word k)) = lesser (as_kind s.behind) (room_for_one s.problem)
judge_word s (inl alias_word) = as_kind s.behind
judge_word s (inr h) = as_kind s.behind

unfoldable pub word_at : Declaring → Reader (EntryWord ⊎ Head)
word_at s = one Fixed which_word (judge_word s)

-- what follows an entry's word
unfoldable pub entry_at : Declaring → EntryWord → Reader Declaring
entry_at s (kind_word k) = then_read (declaration_at s.problem k) (λ q. ret (so_far q))
entry_at s alias_word = alias_at s.problem

abbrev pub declared_before : Declaring → Head → Problem × Head
declared_before s h = (s.problem, h)

unfoldable pub entries_at : Declaring → Reader (Problem × Head)
entries_at s = body_at word_at entry_at declared_before s

-- the section in a problem
abbrev pub variables_at : Problem → Reader (Problem × Head)
variables_at p = entries_at (so_far p)

-- the language of the section in a problem
abbrev pub variables_spec : Problem → Spec (List Entry × Head) (Problem × Head)
variables_spec p = record {
  spell = λ x. spell_declarations x.0 x.1;
  breaks = λ x. breaks_declarations p x.0;
  value = λ x. (value_declarations p x.0, x.1);
  blocks = λ x t. false;
  start = Fixed;
  any = ([], End);
}

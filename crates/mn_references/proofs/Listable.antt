-- Terms, entries, bracketed lists, vectors and rows are read lawfully.
use Rattle.std.proofs.Common.{◌≡◌, ◌⊎◌, ℕ, ℤ, pos, leb, ltb, Bool, true, false, List, [], ◌∷◌, length, ◌++◌, Option, Some, None, is_some, refl, sym, ap, inl, inr, append-nil}
use Rattle.mn_lexer.specs.Terminals.{Terminal, word, number, head, mark}
use Rattle.mn_lexer.specs.declared.marks.Mark.TheVariants.{OpenSquare, CloseSquare, Comma, Bang}
use Rattle.mn_model.specs.Problem.{Problem}
use Rattle.mn_model.specs.declared.constraint.Term.{Term}
use Rattle.mn_model.specs.declared.limits.TheConstants.{PLACES}
use Rattle.mn_grammar.specs.Tokens.{Name, name_of, number_of, is_head, is_the_mark}
use Rattle.mn_grammar.specs.Kinds.{is_condition}
use Rattle.mn_grammar.specs.Reading.{then_read, one, which_either, which_mark, either_of}
use Rattle.mn_grammar.specs.Lawful.{Spec, OnlyMarks, first, Lawful}
use Rattle.mn_grammar.specs.Lists.{Items}
use Rattle.mn_grammar.proofs.Breaks.{kind_when}
use Rattle.mn_grammar.proofs.Leaves.{leaf, nothing, IsClass, Lawful-one, Lawful-ret}
use Rattle.mn_grammar.proofs.Marks.{is_no_other, mark_class}
use Rattle.mn_grammar.proofs.Words.{name_token, name_class, number_class}
use Rattle.mn_grammar.proofs.Classes.{either_token, either_value, either_class}
use Rattle.mn_grammar.proofs.Joins.{joined}
use Rattle.mn_grammar.proofs.Steps.{valued, Lawful-valued, Lawful-leaf_then}
use Rattle.mn_grammar.proofs.Views.{Lawful-view}
use Rattle.mn_grammar.proofs.Items.{Entries, maybe_spec, Lawful-maybe}
use Rattle.mn_grammar.specs.declared.site.Site.TheVariants.{Free, MarksOnly}
use Rattle.mn_grammar.specs.declared.Kind.{Kind}
use Rattle.mn_grammar.specs.declared.Kind.TheVariants.{Limit, Shape}
use Rattle.mn_grammar.specs.declared.Limit.TheVariants.{Vector as OfVector}
use Rattle.mn_references.specs.Conditions.{as_kind}
use Rattle.mn_references.specs.References.{Sub, Ref, lead_of, lead, at_name, one_place}
use Rattle.mn_references.specs.Entries.{Entry, of_ref, of_number, of_not, spell_entry, Place, Placed, placed, denied, constant, breaks_entry, value_entry, at_number, a_term, any_number, in_list, at_more, at_enough, list_judge, listed_terms, Vector, whole, listed, spell_vector, a_vector, within_brackets, breaks_vector, value_vector, Row, plain, bracketed, spell_row, breaks_row, value_row, Rows, one_by_one, one_row}
use Rattle.mn_references.specs.declared.want.Bounds.{Bounds}
use Rattle.mn_references.specs.Referring.{EntryStart, which_entry, at_entry, behind_entry, entry_at, list_at, VectorStart, which_vector, at_vector, behind_vector, vector_at, RowStart, which_row, at_row, behind_row, row_at}
use Rattle.mn_references.proofs.Referable.{as_kind_kinds, lesser_kinds, at_name_kinds, blocks_subs, subs_spec, subs_law, some_name, ref_spec, ref_law}

-- What may be wanted of an entry has conditions' kinds.
pub record IsPlace (want : Place) : Type 0 where
  pub first : (kind : Kind) → want.first ≡ Some kind → is_condition kind ≡ true
  pub number : (z : ℤ) (kind : Kind) → want.number z ≡ Some kind → is_condition kind ≡ true

number_kinds : (bits : Bool) (z : ℤ) (kind : Kind) → at_number bits z ≡ Some kind → is_condition kind ≡ true
number_kinds bits z kind e = kind_when _ Shape refl kind e

pub a_term_place : (p : Problem) (bits : Bool) → IsPlace (a_term p bits)
a_term_place p bits = record { first = λ kind e. cc; number = number_kinds bits }

pub in_list_place : (p : Problem) (b : Bounds) (terms : List Term) → IsPlace (in_list p b terms)
in_list_place p b terms = record { first = λ kind e. kind_when (leb b.most (length terms)) Shape refl kind e; number = number_kinds b.bits }

-- 1. The first token of an entry
abbrev EntryFirst : Type 0
EntryFirst = Name ⊎ (ℤ ⊎ Unit {0})

abbrev bang_token : Unit {0} → Terminal
bang_token u = mark Bang

abbrev number_token : ℤ → Terminal
number_token z = number z

abbrev entry_token : EntryFirst → Terminal
entry_token = either_token name_token (either_token number_token bang_token)

abbrev entry_value : EntryFirst → EntryStart
entry_value = either_value (λ n. n.bytes) (either_value (λ z. z) (λ u. u))

abbrev other_class : IsClass (either_token number_token bang_token) (either_value (λ z. z) (λ u. u)) (which_either number_of (which_mark Bang))
other_class = either_class number_token (λ z. z) number_of bang_token (λ u. u) (which_mark Bang) number_class (mark_class Bang) (λ u. refl)

entry_class : IsClass entry_token entry_value which_entry
entry_class =
    either_class name_token (λ n. n.bytes) name_of (either_token number_token bang_token) (either_value (λ z. z) (λ u. u)) (which_either number_of (which_mark Bang))
    name_class other_class (elim [ inl z ↦ refl | inr u ↦ refl ])

entry_no_head : (t : Terminal) → is_head t ≡ true → is_some (which_entry t) ≡ false
entry_no_head (head bs) e = refl
entry_no_head (word bs) e = cc
entry_no_head (number z) e = cc
entry_no_head (mark m) e = cc

entry_names : (t : Terminal) (w : List ℕ) → name_of t ≡ Some w → is_some (which_entry t) ≡ true
entry_names t w e = ap (λ o. is_some (either_of o (which_either number_of (which_mark Bang) t))) e

entry_kinds : (p : Problem) (want : Place) → IsPlace want → (w : EntryStart) (kind : Kind) → at_entry p want w ≡ Some kind → is_condition kind ≡ true
entry_kinds p want is (inl w) kind e = lesser_kinds want.first (at_name want.aim (lead_of p w)) is.first (at_name_kinds want.aim (lead_of p w)) kind e
entry_kinds p want is (inr (inl z)) kind e = lesser_kinds want.first (want.number z) is.first (is.number z) kind e
entry_kinds p want is (inr (inr u)) kind e = is.first kind e

-- 2. What follows it
abbrev EntryRest : EntryFirst → Type 0
EntryRest (inl n) = Option (Items Sub)
EntryRest (inr (inl z)) = Unit {0}
EntryRest (inr (inr u)) = Ref

abbrev rest_spec : Problem → Place → (x : EntryFirst) → Spec (EntryRest x) Placed
rest_spec p want (inl n) = valued placed (subs_spec want.aim (lead p n.bytes))
rest_spec p want (inr (inl z)) = nothing MarksOnly (constant z)
rest_spec p want (inr (inr u)) = valued denied (ref_spec p (one_place p true))

rest_law : (p : Problem) (want : Place) (x : EntryFirst) → Lawful (rest_spec p want x) (behind_entry p want (entry_value x))
unfolding behind_entry
rest_law p want (inl n) = Lawful-valued placed (subs_spec want.aim (lead p n.bytes)) _ (subs_law want.aim (lead p n.bytes))
rest_law p want (inr (inl z)) = Lawful-ret MarksOnly (constant z)
rest_law p want (inr (inr u)) = Lawful-valued denied (ref_spec p (one_place p true)) _ (ref_law p (one_place p true))

-- 3. Entries
abbrev pub blocks_entry : Entry → Terminal → Bool
blocks_entry (of_ref r) t = blocks_subs r.subs t
blocks_entry (of_number z) t = false
blocks_entry (of_not r) t = blocks_subs r.subs t

abbrev pub entry_spec : Problem → Place → Spec Entry Placed
entry_spec p want = record {
  spell = spell_entry;
  breaks = breaks_entry p want;
  value = value_entry p want;
  blocks = blocks_entry;
  start = Free;
  any = of_number (pos 0);
}

abbrev entry_onto : (x : EntryFirst) → EntryRest x → Entry
entry_onto (inl n) subs = of_ref (record { name = n; subs = subs })
entry_onto (inr (inl z)) u = of_number z
entry_onto (inr (inr u)) r = of_not r

abbrev entry_back : Entry → (x : EntryFirst) × EntryRest x
entry_back (of_ref r) = (inl r.name, r.subs)
entry_back (of_number z) = (inr (inl z), tt)
entry_back (of_not r) = (inr (inr tt), r)

entry_again : (e : Entry) → entry_onto (entry_back e).0 (entry_back e).1 ≡ e
entry_again (of_ref r) = refl
entry_again (of_number z) = refl
entry_again (of_not r) = refl

module _ (p : Problem) (want : Place) where
  abbrev first_entry : Spec EntryFirst EntryStart
  first_entry = leaf Free entry_token entry_value (at_entry p want) (inl some_name)

  abbrev pair_entry : Spec ((x : EntryFirst) × EntryRest x) Placed
  pair_entry = joined first_entry (rest_spec p want)

  entry_spells : (x : EntryFirst) (y : EntryRest x) → spell_entry (entry_onto x y) ≡ pair_entry.spell (x, y)
  entry_spells (inl n) y = refl
  entry_spells (inr (inl z)) y = refl
  entry_spells (inr (inr u)) y = refl

  entry_breaks : (x : EntryFirst) (y : EntryRest x) → breaks_entry p want (entry_onto x y) ≡ pair_entry.breaks (x, y)
  entry_breaks (inl n) y = refl
  entry_breaks (inr (inl z)) y = sym (append-nil _)
  entry_breaks (inr (inr u)) y = refl

  entry_means : (x : EntryFirst) (y : EntryRest x) → value_entry p want (entry_onto x y) ≡ pair_entry.value (x, y)
  entry_means (inl n) y = refl
  entry_means (inr (inl z)) y = refl
  entry_means (inr (inr u)) y = refl

  entry_goes_on : (x : EntryFirst) (y : EntryRest x) (t : Terminal) → blocks_entry (entry_onto x y) t ≡ pair_entry.blocks (x, y) t
  entry_goes_on (inl n) y t = refl
  entry_goes_on (inr (inl z)) y t = refl
  entry_goes_on (inr (inr u)) y t = refl

pub entry_law : (p : Problem) (want : Place) → IsPlace want → Lawful (entry_spec p want) (entry_at p want)
unfolding entry_at
entry_law p want is =
    Lawful-view (pair_entry p want) (entry_spec p want)
    (record {
      onto = λ y. entry_onto y.0 y.1;
      back = entry_back;
      again = entry_again;
      spell = λ y. entry_spells p want y.0 y.1;
      breaks = λ y. ap first (entry_breaks p want y.0 y.1);
      value = λ y. entry_means p want y.0 y.1;
      blocks = λ y t. entry_goes_on p want y.0 y.1 t;
      start = refl;
    })
    (then_read (one Free which_entry (at_entry p want)) (behind_entry p want))
    (Lawful-leaf_then Free entry_token entry_value (at_entry p want) (inl some_name) (one Free which_entry (at_entry p want)) (rest_spec p want) (behind_entry p want)
    (Lawful-one Free entry_token entry_value which_entry (at_entry p want) (inl some_name) (record {
      class = entry_class;
      is_site = (entry_no_head, inl entry_names);
      kinds = entry_kinds p want is;
    }))
    (rest_law p want))

-- 4. Lists
pub subs_marks : (o : Option (Items Sub)) → OnlyMarks (blocks_subs o)
subs_marks None = is_no_other OpenSquare
subs_marks (Some subs) = λ t e. refl

pub entry_marks : (e : Entry) → OnlyMarks (blocks_entry e)
entry_marks (of_ref r) = subs_marks r.subs
entry_marks (of_number z) = λ t e. refl
entry_marks (of_not r) = subs_marks r.subs

pub subs_no_comma : (o : Option (Items Sub)) → blocks_subs o (mark Comma) ≡ false
subs_no_comma None = refl
subs_no_comma (Some subs) = refl

pub subs_no_shut : (o : Option (Items Sub)) → blocks_subs o (mark CloseSquare) ≡ false
subs_no_shut None = refl
subs_no_shut (Some subs) = refl

pub entry_no_comma : (e : Entry) → blocks_entry e (mark Comma) ≡ false
entry_no_comma (of_ref r) = subs_no_comma r.subs
entry_no_comma (of_number z) = refl
entry_no_comma (of_not r) = subs_no_comma r.subs

pub entry_no_shut : (e : Entry) → blocks_entry e (mark CloseSquare) ≡ false
entry_no_shut (of_ref r) = subs_no_shut r.subs
entry_no_shut (of_number z) = refl
entry_no_shut (of_not r) = subs_no_shut r.subs

pub entry_solid : (e : Entry) → spell_entry e ≡ [] → ⊥
entry_solid (of_ref r) e = cc
entry_solid (of_number z) e = cc
entry_solid (of_not r) e = cc

pub entry_not_shut : (a : Entry) (t : Terminal) (q : List Terminal) → spell_entry a ≡ t ∷ q → is_the_mark CloseSquare t ≡ false
entry_not_shut (of_ref r) t q e = let same : word r.name.bytes ≡ t = cc in ap (is_the_mark CloseSquare) (sym same)
entry_not_shut (of_number z) t q e = let same : number z ≡ t = cc in ap (is_the_mark CloseSquare) (sym same)
entry_not_shut (of_not r) t q e = let same : mark Bang ≡ t = cc in ap (is_the_mark CloseSquare) (sym same)

more_kinds : (b : Bounds) (n : ℕ) (kind : Kind) → at_more b n ≡ Some kind → is_condition kind ≡ true
more_kinds b n kind e = lesser_kinds _ _ (kind_when (leb PLACES n) (Limit OfVector) refl) (kind_when (leb b.most n) Shape refl) kind e

enough_kinds : (b : Bounds) (n : ℕ) (kind : Kind) → at_enough b n ≡ Some kind → is_condition kind ≡ true
enough_kinds b n kind e = kind_when (ltb n b.least) Shape refl kind e

abbrev pub list_spec : Problem → Bounds → Spec (Option (Items Entry)) (List Term)
list_spec p b = maybe_spec CloseSquare (list_judge p b) blocks_entry Free (of_number (pos 0)) (at_enough b 0) [] listed_terms []

pub are_entries : (p : Problem) (b : Bounds) → Entries CloseSquare (list_judge p b) blocks_entry Free (of_number (pos 0))
are_entries p b = record {
  other = refl;
  solid = entry_solid;
  marks = entry_marks;
  no_comma = entry_no_comma;
  no_shut = entry_no_shut;
  comma_kinds = λ terms v kind e. lesser_kinds (as_kind v.behind) _ (as_kind_kinds v.behind) (more_kinds b (length (terms ++ v.terms))) kind e;
  close_kinds = λ terms v kind e. lesser_kinds (as_kind v.behind) _ (as_kind_kinds v.behind) (enough_kinds b (length (terms ++ v.terms))) kind e;
}

pub list_law : (p : Problem) (b : Bounds) → Lawful (list_spec p b) (list_at p b)
unfolding list_at
list_law p b =
    Lawful-maybe CloseSquare (list_judge p b) blocks_entry Free (of_number (pos 0)) (at_enough b 0) [] listed_terms
    (are_entries p b) entry_not_shut (enough_kinds b 0) [] (λ terms. entry_at p (in_list p b terms)) (λ terms. entry_law p (in_list p b terms) (in_list_place p b terms))

-- 5. Vectors
abbrev open_token : Unit {0} → Terminal
open_token u = mark OpenSquare

abbrev VectorFirst : Type 0
VectorFirst = Name ⊎ Unit {0}

abbrev vector_token : VectorFirst → Terminal
vector_token = either_token name_token open_token

abbrev vector_value : VectorFirst → VectorStart
vector_value = either_value (λ n. n.bytes) (λ u. u)

vector_class : IsClass vector_token vector_value which_vector
vector_class = either_class name_token (λ n. n.bytes) name_of open_token (λ u. u) (which_mark OpenSquare) name_class (mark_class OpenSquare) (λ u. refl)

vector_no_head : (t : Terminal) → is_head t ≡ true → is_some (which_vector t) ≡ false
vector_no_head (head bs) e = refl
vector_no_head (word bs) e = cc
vector_no_head (number z) e = cc
vector_no_head (mark m) e = cc

vector_names : (t : Terminal) (w : List ℕ) → name_of t ≡ Some w → is_some (which_vector t) ≡ true
vector_names t w e = ap (λ o. is_some (either_of o (which_mark OpenSquare t))) e

vector_kinds : (p : Problem) (b : Bounds) (w : VectorStart) (kind : Kind) → at_vector p b w ≡ Some kind → is_condition kind ≡ true
vector_kinds p b (inl w) kind e = at_name_kinds (a_vector p b) (lead_of p w) kind e
vector_kinds p b (inr u) kind e = cc

abbrev VectorRest : VectorFirst → Type 0
VectorRest (inl n) = Option (Items Sub)
VectorRest (inr u) = Option (Items Entry)

abbrev vector_rest : Problem → Bounds → (x : VectorFirst) → Spec (VectorRest x) Placed
vector_rest p b (inl n) = valued placed (subs_spec (a_vector p b) (lead p n.bytes))
vector_rest p b (inr u) = valued within_brackets (list_spec p b)

vector_rest_law : (p : Problem) (b : Bounds) (x : VectorFirst) → Lawful (vector_rest p b x) (behind_vector p b (vector_value x))
unfolding behind_vector
vector_rest_law p b (inl n) = Lawful-valued placed (subs_spec (a_vector p b) (lead p n.bytes)) _ (subs_law (a_vector p b) (lead p n.bytes))
vector_rest_law p b (inr u) = Lawful-valued within_brackets (list_spec p b) _ (list_law p b)

abbrev pub blocks_vector : Vector → Terminal → Bool
blocks_vector (whole r) t = blocks_subs r.subs t
blocks_vector (listed l) t = false

abbrev pub vector_spec : Problem → Bounds → Spec Vector Placed
vector_spec p b = record { spell = spell_vector; breaks = breaks_vector p b; value = value_vector p b; blocks = blocks_vector; start = Free; any = listed None }

abbrev vector_onto : (x : VectorFirst) → VectorRest x → Vector
vector_onto (inl n) subs = whole (record { name = n; subs = subs })
vector_onto (inr u) l = listed l

abbrev vector_back : Vector → (x : VectorFirst) × VectorRest x
vector_back (whole r) = (inl r.name, r.subs)
vector_back (listed l) = (inr tt, l)

vector_again : (v : Vector) → vector_onto (vector_back v).0 (vector_back v).1 ≡ v
vector_again (whole r) = refl
vector_again (listed l) = refl

module _ (p : Problem) (b : Bounds) where
  abbrev pair_vector : Spec ((x : VectorFirst) × VectorRest x) Placed
  pair_vector = joined (leaf Free vector_token vector_value (at_vector p b) (inl some_name)) (vector_rest p b)

  vector_spells : (x : VectorFirst) (y : VectorRest x) → spell_vector (vector_onto x y) ≡ pair_vector.spell (x, y)
  vector_spells (inl n) y = refl
  vector_spells (inr u) y = refl

  vector_breaks : (x : VectorFirst) (y : VectorRest x) → breaks_vector p b (vector_onto x y) ≡ pair_vector.breaks (x, y)
  vector_breaks (inl n) y = refl
  vector_breaks (inr u) y = refl

  vector_means : (x : VectorFirst) (y : VectorRest x) → value_vector p b (vector_onto x y) ≡ pair_vector.value (x, y)
  vector_means (inl n) y = refl
  vector_means (inr u) y = refl

  vector_goes_on : (x : VectorFirst) (y : VectorRest x) (t : Terminal) → blocks_vector (vector_onto x y) t ≡ pair_vector.blocks (x, y) t
  vector_goes_on (inl n) y t = refl
  vector_goes_on (inr u) y t = refl

pub vector_law : (p : Problem) (b : Bounds) → Lawful (vector_spec p b) (vector_at p b)
unfolding vector_at
vector_law p b =
    Lawful-view (pair_vector p b) (vector_spec p b)
    (record {
      onto = λ y. vector_onto y.0 y.1;
      back = vector_back;
      again = vector_again;
      spell = λ y. vector_spells p b y.0 y.1;
      breaks = λ y. ap first (vector_breaks p b y.0 y.1);
      value = λ y. vector_means p b y.0 y.1;
      blocks = λ y t. vector_goes_on p b y.0 y.1 t;
      start = refl;
    })
    (then_read (one Free which_vector (at_vector p b)) (behind_vector p b))
    (Lawful-leaf_then Free vector_token vector_value (at_vector p b) (inl some_name) (one Free which_vector (at_vector p b)) (vector_rest p b) (behind_vector p b)
    (Lawful-one Free vector_token vector_value which_vector (at_vector p b) (inl some_name) (record {
      class = vector_class;
      is_site = (vector_no_head, inl vector_names);
      kinds = vector_kinds p b;
    }))
    (vector_rest_law p b))

-- 6. Rows
abbrev RowFirst : Type 0
RowFirst = EntryFirst ⊎ Unit {0}

abbrev row_token : RowFirst → Terminal
row_token = either_token entry_token open_token

abbrev row_value : RowFirst → RowStart
row_value = either_value entry_value (λ u. u)

row_class : IsClass row_token row_value which_row
row_class = either_class entry_token entry_value which_entry open_token (λ u. u) (which_mark OpenSquare) entry_class (mark_class OpenSquare) (λ u. refl)

row_no_head : (t : Terminal) → is_head t ≡ true → is_some (which_row t) ≡ false
row_no_head (head bs) e = refl
row_no_head (word bs) e = cc
row_no_head (number z) e = cc
row_no_head (mark m) e = cc

row_names : (t : Terminal) (w : List ℕ) → name_of t ≡ Some w → is_some (which_row t) ≡ true
row_names t w e = ap (λ o. is_some (either_of (either_of o (which_either number_of (which_mark Bang) t)) (which_mark OpenSquare t))) e

row_kinds : (p : Problem) (w : RowStart) (kind : Kind) → at_row p w ≡ Some kind → is_condition kind ≡ true
row_kinds p (inl w) kind e = entry_kinds p (in_list p any_number []) (in_list_place p any_number []) w kind e
row_kinds p (inr u) kind e = cc

abbrev RowRest : RowFirst → Type 0
RowRest (inl x) = EntryRest x
RowRest (inr u) = Option (Items Entry)

abbrev row_rest : Problem → (x : RowFirst) → Spec (RowRest x) Rows
row_rest p (inl x) = valued one_by_one (rest_spec p (in_list p any_number []) x)
row_rest p (inr u) = valued one_row (list_spec p any_number)

row_rest_law : (p : Problem) (x : RowFirst) → Lawful (row_rest p x) (behind_row p (row_value x))
unfolding behind_row
row_rest_law p (inl x) = Lawful-valued one_by_one (rest_spec p (in_list p any_number []) x) _ (rest_law p (in_list p any_number []) x)
row_rest_law p (inr u) = Lawful-valued one_row (list_spec p any_number) _ (list_law p any_number)

abbrev pub blocks_row : Row → Terminal → Bool
blocks_row (plain e) t = blocks_entry e t
blocks_row (bracketed l) t = false

abbrev pub row_spec : Problem → Spec Row Rows
row_spec p = record { spell = spell_row; breaks = breaks_row p; value = value_row p; blocks = blocks_row; start = Free; any = bracketed None }

abbrev row_onto : (x : RowFirst) → RowRest x → Row
row_onto (inl x) y = plain (entry_onto x y)
row_onto (inr u) l = bracketed l

abbrev row_back : Row → (x : RowFirst) × RowRest x
row_back (plain e) = (inl (entry_back e).0, (entry_back e).1)
row_back (bracketed l) = (inr tt, l)

row_again : (r : Row) → row_onto (row_back r).0 (row_back r).1 ≡ r
row_again (plain e) = ap (λ a. plain a) (entry_again e)
row_again (bracketed l) = refl

module _ (p : Problem) where
  abbrev pair_row : Spec ((x : RowFirst) × RowRest x) Rows
  pair_row = joined (leaf Free row_token row_value (at_row p) (inr tt)) (row_rest p)

  row_spells : (x : RowFirst) (y : RowRest x) → spell_row (row_onto x y) ≡ pair_row.spell (x, y)
  row_spells (inl x) y = entry_spells p (in_list p any_number []) x y
  row_spells (inr u) y = refl

  row_breaks : (x : RowFirst) (y : RowRest x) → breaks_row p (row_onto x y) ≡ pair_row.breaks (x, y)
  row_breaks (inl x) y = entry_breaks p (in_list p any_number []) x y
  row_breaks (inr u) y = refl

  row_means : (x : RowFirst) (y : RowRest x) → value_row p (row_onto x y) ≡ pair_row.value (x, y)
  row_means (inl x) y = ap one_by_one (entry_means p (in_list p any_number []) x y)
  row_means (inr u) y = refl

  row_goes_on : (x : RowFirst) (y : RowRest x) (t : Terminal) → blocks_row (row_onto x y) t ≡ pair_row.blocks (x, y) t
  row_goes_on (inl x) y t = entry_goes_on p (in_list p any_number []) x y t
  row_goes_on (inr u) y t = refl

pub row_law : (p : Problem) → Lawful (row_spec p) (row_at p)
unfolding row_at
row_law p =
    Lawful-view (pair_row p) (row_spec p)
    (record {
      onto = λ y. row_onto y.0 y.1;
      back = row_back;
      again = row_again;
      spell = λ y. row_spells p y.0 y.1;
      breaks = λ y. ap first (row_breaks p y.0 y.1);
      value = λ y. row_means p y.0 y.1;
      blocks = λ y t. row_goes_on p y.0 y.1 t;
      start = refl;
    })
    (then_read (one Free which_row (at_row p)) (behind_row p))
    (Lawful-leaf_then Free row_token row_value (at_row p) (inr tt) (one Free which_row (at_row p)) (row_rest p) (behind_row p)
    (Lawful-one Free row_token row_value which_row (at_row p) (inr tt) (record {
      class = row_class;
      is_site = (row_no_head, inl row_names);
      kinds = row_kinds p;
    }))
    (row_rest_law p))

-- Nests are read lawfully, whatever dimensions are left, and so are aliases.
use Rattle.std.proofs.Common.{◌≡◌, ◌⊎◌, ℕ, ℤ, pos, leb, ltb, int_lt, Bool, true, false, ◌||◌, ◌&&◌, List, [], ◌∷◌, ◌++◌, length, codes, Option, Some, None, is_some, refl, sym, ap, inl, inr, append-nil}
use Rattle.mn_lexer.specs.Terminals.{Terminal, word, number, head, mark}
use Rattle.mn_lexer.specs.declared.marks.Mark.TheVariants.{OpenSquare, CloseSquare, Comma, Equals}
use Rattle.mn_model.specs.Problem.{Problem}
use Rattle.mn_model.specs.declared.variable.VarId.{VarId}
use Rattle.mn_grammar.specs.Tokens.{Name, name_of, is_head, is_the_mark}
use Rattle.mn_grammar.specs.Kinds.{is_condition}
use Rattle.mn_grammar.specs.Places.{on, behind}
use Rattle.mn_grammar.specs.Reading.{Reader, then_read, ret, mark_at, name_at, number_at, which_mark, either_of}
use Rattle.mn_grammar.specs.Lawful.{Spec, OnlyMarks, first, Sound, Lawful}
use Rattle.mn_grammar.specs.Lists.{Items, final, also, spell_items, Judge, breaks_items, value_items}
use Rattle.mn_grammar.proofs.Breaks.{kind_when}
use Rattle.mn_grammar.proofs.Sites.{Fits-nothing}
use Rattle.mn_grammar.proofs.Leaves.{leaf, IsClass, Lawful-one}
use Rattle.mn_grammar.proofs.Marks.{is_no_other, the_mark, mark_class}
use Rattle.mn_grammar.proofs.Words.{name_token, name_class, a_name_leaf, Lawful-name, Lawful-number}
use Rattle.mn_grammar.proofs.Classes.{either_token, either_value, either_class}
use Rattle.mn_grammar.proofs.Joins.{joined, Join, Lawful-then}
use Rattle.mn_grammar.proofs.Choices.{either, Choice, Lawful-or}
use Rattle.mn_grammar.proofs.Steps.{join_leaf, valued, Lawful-valued, Lawful-leaf_then, mark_then, Lawful-mark_then, on_kept}
use Rattle.mn_grammar.proofs.Views.{IsView, Lawful-view}
use Rattle.mn_grammar.proofs.Items.{Entries, items_spec, Lawful-items}
use Rattle.mn_grammar.proofs.Nested.{unread, Sound-unread}
use Rattle.mn_grammar.specs.declared.site.Site.TheVariants.{Free, MarksOnly}
use Rattle.mn_grammar.specs.declared.Kind.{Kind}
use Rattle.mn_grammar.specs.declared.Kind.TheVariants as kinds
use Rattle.mn_references.specs.Conditions.{as_kind}
use Rattle.mn_references.specs.References.{Sub, Ref, spell_subs, value_ref, at_name, lead, lead_of, one_place}
use Rattle.mn_references.specs.declared.want.Unfit.{Unfit}
use Rattle.mn_references.proofs.Referable.{as_kind_kinds, lesser_kinds, at_name_kinds, blocks_subs, subs_spec, subs_law, some_name, ref_spec, ref_law}
use Rattle.mn_references.proofs.Unbroken.{lesser_kept}
use Rattle.mn_references.proofs.Listable.{subs_marks}
use Rattle.mn_decls.specs.Aliases.{Nest, one_var, nest_of, Nests, last_nest, nest_and, spell_nest, spell_nests, at_var, at_next, at_last, behind_nest, breaks_nest, breaks_nests, with_nest, with_nests, Led, led_to, Entering, nests_ends, nests_led, NestStart, which_nest, at_nest, nest_first, var_rest, nests_rest, nest_at}
use Rattle.mn_decls.specs.Variables.{Target, of_var, of_matrix, spell_number, spell_target, new_name, alias_dim, with_dim, alias_dims_judge, matrix_dims, Declaring, with_one, with_matrix, breaks_target, named, alias_dims_at, matrix_at, var_at, target_at, alias_at}

-- 1. Kinds of conditions
var_kinds : (p : Problem) (dims name : List ℕ) (kind : Kind) → at_var p dims name ≡ Some kind → is_condition kind ≡ true
var_kinds p [] name kind e = at_name_kinds (one_place p false) (lead_of p name) kind e
var_kinds p (dim ∷ dims) name kind e =
    lesser_kinds (at_name (one_place p false) (lead_of p name)) (Some kinds.Shape) (at_name_kinds (one_place p false) (lead_of p name)) (λ k f. kind_when true kinds.Shape refl k f) kind e

nest_kinds : (p : Problem) (dims : List ℕ) (x : NestStart) (kind : Kind) → at_nest p dims x ≡ Some kind → is_condition kind ≡ true
nest_kinds p dims (inl name) kind e = var_kinds p dims name kind e
nest_kinds p [] (inr u) kind e = kind_when true kinds.Shape refl kind e
nest_kinds p (dim ∷ dims) (inr u) kind e = cc

next_kinds : (wanted : ℕ) (unfit : Option Unfit) (kind : Kind) → at_next wanted unfit ≡ Some kind → is_condition kind ≡ true
next_kinds wanted unfit kind e = lesser_kinds (as_kind unfit) _ (as_kind_kinds unfit) (λ k f. kind_when (leb wanted 1) kinds.Shape refl k f) kind e

last_kinds : (wanted : ℕ) (unfit : Option Unfit) (kind : Kind) → at_last wanted unfit ≡ Some kind → is_condition kind ≡ true
last_kinds wanted unfit kind e = lesser_kinds (as_kind unfit) _ (as_kind_kinds unfit) (λ k f. kind_when (ltb 1 wanted) kinds.Shape refl k f) kind e

-- 2. The first token of a nest
abbrev NestFirst : Type 0
NestFirst = Name ⊎ Unit {0}

abbrev open_token : Unit {0} → Terminal
open_token u = mark OpenSquare

abbrev nest_token : NestFirst → Terminal
nest_token = either_token name_token open_token

abbrev nest_value : NestFirst → NestStart
nest_value = either_value (λ n. n.bytes) (λ u. u)

nest_class : IsClass nest_token nest_value which_nest
nest_class = either_class name_token (λ n. n.bytes) name_of open_token (λ u. u) (which_mark OpenSquare) name_class (mark_class OpenSquare) (λ u. refl)

nest_no_head : (t : Terminal) → is_head t ≡ true → is_some (which_nest t) ≡ false
nest_no_head (head bs) e = refl
nest_no_head (word bs) e = cc
nest_no_head (number z) e = cc
nest_no_head (mark m) e = cc

nest_names : (t : Terminal) (w : List ℕ) → name_of t ≡ Some w → is_some (which_nest t) ≡ true
nest_names t w e = ap (λ o. is_some (either_of o (which_mark OpenSquare t))) e

abbrev start_spec : Problem → List ℕ → Spec NestFirst NestStart
start_spec p dims = leaf Free nest_token nest_value (at_nest p dims) (inl some_name)

start_law : (p : Problem) (dims : List ℕ) → Lawful (start_spec p dims) (nest_first p dims)
unfolding nest_first
start_law p dims = Lawful-one Free nest_token nest_value which_nest (at_nest p dims) (inl some_name) (record {
  class = nest_class;
  is_site = (nest_no_head, inl nest_names);
  kinds = nest_kinds p dims;
})

-- 3. A nest
abbrev some_nest : Nest
some_nest = one_var (record { name = some_name; subs = None })

abbrev pub blocks_nest : List ℕ → Nest → Terminal → Bool
blocks_nest [] (one_var r) t = blocks_subs r.subs t
blocks_nest (dim ∷ dims) (one_var r) t = false
blocks_nest [] (nest_of ns) t = false
blocks_nest (dim ∷ dims) (nest_of ns) t = false

abbrev value_nest : Problem → List VarId → Nest → Led
value_nest p vars n = record { vars = with_nest p n vars; behind = behind_nest p n }

abbrev pub nest_spec : Problem → List ℕ → List VarId → Spec Nest Led
nest_spec p dims vars = record {
  spell = spell_nest;
  breaks = λ n. breaks_nest p n dims;
  value = value_nest p vars;
  blocks = blocks_nest dims;
  start = Free;
  any = some_nest;
}

abbrev NestRest : NestFirst → Type 0
NestRest (inl n) = Option (Items Sub)
NestRest (inr u) = Nests

abbrev nest_onto : (x : NestFirst) → NestRest x → Nest
nest_onto (inl n) subs = one_var (record { name = n; subs = subs })
nest_onto (inr u) ns = nest_of ns

abbrev nest_back : Nest → (x : NestFirst) × NestRest x
nest_back (one_var r) = (inl r.name, r.subs)
nest_back (nest_of ns) = (inr tt, ns)

nest_again : (n : Nest) → nest_onto (nest_back n).0 (nest_back n).1 ≡ n
nest_again (one_var r) = refl
nest_again (nest_of ns) = refl

-- where one variable is wanted
module _ (p : Problem) (vars : List VarId) where
  abbrev following_var : (x : NestFirst) → Spec (NestRest x) Led
  following_var (inl n) = valued (led_to vars) (subs_spec (one_place p false) (lead p n.bytes))
  following_var (inr u) = unread spell_nests (λ ns. record { vars = with_nests p ns vars; behind = None }) Free (last_nest some_nest)

  name_then : (n : Name) → Lawful (following_var (inl n)) (var_rest p vars (inl n.bytes))
  unfolding var_rest
  name_then n = Lawful-valued (led_to vars) (subs_spec (one_place p false) (lead p n.bytes)) _ (subs_law (one_place p false) (lead p n.bytes))

  var_sound : (x : NestFirst) → Sound (following_var x)
  var_sound (inl n) = (name_then n).sound
  var_sound (inr u) = Sound-unread _ _ Free (last_nest some_nest)

  var_law : (x : NestFirst) → (start_spec p []).breaks x ≡ [] → Lawful (following_var x) (var_rest p vars (nest_value x))
  var_law (inl n) kept = name_then n
  var_law (inr u) kept = absurd cc

  abbrev var_pairs : Spec ((x : NestFirst) × NestRest x) Led
  var_pairs = joined (start_spec p []) following_var

  var_spells : (x : NestFirst) (y : NestRest x) → spell_nest (nest_onto x y) ≡ var_pairs.spell (x, y)
  var_spells (inl n) y = refl
  var_spells (inr u) y = refl

  var_breaks : (x : NestFirst) (y : NestRest x) → breaks_nest p (nest_onto x y) [] ≡ var_pairs.breaks (x, y)
  var_breaks (inl n) y = refl
  var_breaks (inr u) y = refl

  var_means : (x : NestFirst) (y : NestRest x) → value_nest p vars (nest_onto x y) ≡ var_pairs.value (x, y)
  var_means (inl n) y = refl
  var_means (inr u) y = refl

  var_goes_on : (x : NestFirst) (y : NestRest x) (t : Terminal) → blocks_nest [] (nest_onto x y) t ≡ var_pairs.blocks (x, y) t
  var_goes_on (inl n) y t = refl
  var_goes_on (inr u) y t = refl

  no_dims_law : Lawful (nest_spec p [] vars) (nest_at p [] vars)
  no_dims_law =
      Lawful-view var_pairs (nest_spec p [] vars)
      (record {
        onto = λ y. nest_onto y.0 y.1;
        back = nest_back;
        again = nest_again;
        spell = λ y. var_spells y.0 y.1;
        breaks = λ y. ap first (var_breaks y.0 y.1);
        value = λ y. var_means y.0 y.1;
        blocks = λ y t. var_goes_on y.0 y.1 t;
        start = refl;
      })
      (nest_at p [] vars)
      (Lawful-then (start_spec p []) following_var (join_leaf Free nest_token nest_value (at_nest p []) (inl some_name) following_var)
      (nest_first p []) (var_rest p vars) (start_law p []) var_sound var_law)

-- where entries are wanted, each with the other dimensions
abbrev pub nests_judge : Problem → List ℕ → Judge Nest Entering Led
nests_judge p dims = record {
  spell = spell_nest;
  breaks = λ s n. breaks_nest p n dims;
  value = λ s n. value_nest p s.vars n;
  ends = nests_ends;
}

nest_solid : (n : Nest) → spell_nest n ≡ [] → ⊥
nest_solid (one_var r) e = cc
nest_solid (nest_of ns) e = cc

pub nest_marks : (dims : List ℕ) (n : Nest) → OnlyMarks (blocks_nest dims n)
nest_marks [] (one_var r) t e = subs_marks r.subs t e
nest_marks (dim ∷ dims) (one_var r) t e = refl
nest_marks [] (nest_of ns) t e = refl
nest_marks (dim ∷ dims) (nest_of ns) t e = refl

subs_other : (o : Option (Items Sub)) (t : Terminal) → is_the_mark OpenSquare t ≡ false → blocks_subs o t ≡ false
subs_other None t e = e
subs_other (Some subs) t e = refl

nest_other : (dims : List ℕ) (n : Nest) (t : Terminal) → is_the_mark OpenSquare t ≡ false → blocks_nest dims n t ≡ false
nest_other [] (one_var r) t e = subs_other r.subs t e
nest_other (dim ∷ dims) (one_var r) t e = refl
nest_other [] (nest_of ns) t e = refl
nest_other (dim ∷ dims) (nest_of ns) t e = refl

pub nests_are : (p : Problem) (dims : List ℕ) → Entries CloseSquare (nests_judge p dims) (blocks_nest dims) Free some_nest
nests_are p dims = record {
  other = refl;
  solid = nest_solid;
  marks = nest_marks dims;
  no_comma = λ n. nest_other dims n (mark Comma) refl;
  no_shut = λ n. nest_other dims n (mark CloseSquare) refl;
  comma_kinds = λ s v kind e. next_kinds s.wanted v.behind kind e;
  close_kinds = λ s v kind e. last_kinds s.wanted v.behind kind e;
}

abbrev nests_of : Items Nest → Nests
nests_of (final n) = last_nest n
nests_of (also n l) = nest_and n (nests_of l)

abbrev items_of : Nests → Items Nest
items_of (last_nest n) = final n
items_of (nest_and n ns) = also n (items_of ns)

nests_again : (ns : Nests) → nests_of (items_of ns) ≡ ns
nests_again (last_nest n) = refl
nests_again (nest_and n ns) = ap (λ r. nest_and n r) (nests_again ns)

nests_spell : (l : Items Nest) → spell_nests (nests_of l) ≡ spell_items CloseSquare spell_nest l
nests_spell (final n) = refl
nests_spell (also n l) = ap (λ r. spell_nest n ++ mark Comma ∷ r) (nests_spell l)

module _ (p : Problem) (dims : List ℕ) where
  abbrev nests_spec : Entering → Spec Nests Led
  nests_spec s = record {
    spell = spell_nests;
    breaks = λ ns. breaks_nests p ns s.wanted dims;
    value = λ ns. record { vars = with_nests p ns s.vars; behind = None };
    blocks = λ ns t. false;
    start = Free;
    any = last_nest some_nest;
  }

  nests_breaks : (l : Items Nest) (s : Entering) → breaks_nests p (nests_of l) s.wanted dims ≡ breaks_items (nests_judge p dims) l s
  nests_breaks (final n) s = refl
  nests_breaks (also n l) s =
      ap (λ r. breaks_nest p n dims ++ behind (length (spell_nest n)) (on (at_next s.wanted (behind_nest p n)) ++ behind 1 r))
      (nests_breaks l (nests_ends.next s (value_nest p s.vars n)))

  nests_means : (l : Items Nest) (s : Entering) → ◌≡◌ {A = Led} (record { vars = with_nests p (nests_of l) s.vars; behind = None }) (value_items (nests_judge p dims) nests_led l s)
  nests_means (final n) s = refl
  nests_means (also n l) s = nests_means l (nests_ends.next s (value_nest p s.vars n))

  abbrev listed : Entering → Spec (Items Nest) Led
  listed s = items_spec CloseSquare (nests_judge p dims) (blocks_nest dims) Free some_nest nests_led s

  nests_view : (s : Entering) → IsView (listed s) (nests_spec s)
  nests_view s = record {
    onto = nests_of;
    back = items_of;
    again = nests_again;
    spell = nests_spell;
    breaks = λ l. ap first (nests_breaks l s);
    value = λ l. nests_means l s;
    blocks = λ l t. refl;
    start = refl;
  }

  abbrev following_list : Entering → (x : NestFirst) → Spec (NestRest x) Led
  following_list s (inl n) = unread spell_subs (λ subs. led_to s.vars (value_ref p (one_place p false) (record { name = n; subs = subs }))) MarksOnly None
  following_list s (inr u) = nests_spec s

  module _ (read : Entering → Reader Led) (law : (s : Entering) → Lawful (nest_spec p dims s.vars) (read s)) where
    bracket_then : (s : Entering) → Lawful (nests_spec s) (nests_rest read s (inr tt))
    unfolding nests_rest
    bracket_then s =
        Lawful-view (listed s) (nests_spec s) (nests_view s) _
        (Lawful-items CloseSquare (nests_judge p dims) (blocks_nest dims) Free some_nest nests_led (nests_are p dims) read law s)

    list_sound : (s : Entering) (x : NestFirst) → Sound (following_list s x)
    list_sound s (inl n) = Sound-unread _ _ MarksOnly None
    list_sound s (inr u) = (bracket_then s).sound

    list_law : (dim : ℕ) (s : Entering) (x : NestFirst) → (start_spec p (dim ∷ dims)).breaks x ≡ [] → Lawful (following_list s x) (nests_rest read s (nest_value x))
    list_law dim s (inl n) kept = absurd (never_kept (lesser_kept (at_name (one_place p false) (lead_of p n.bytes)) (Some kinds.Shape) (on_kept _ kept)).1)
      where
        never_kept : ◌≡◌ {A = Option Kind} (Some kinds.Shape) None → ⊥
        never_kept e = cc
    list_law dim s (inr u) kept = bracket_then s

    module _ (dim : ℕ) (s : Entering) where
      abbrev list_pairs : Spec ((x : NestFirst) × NestRest x) Led
      list_pairs = joined (start_spec p (dim ∷ dims)) (following_list s)

      list_spells : (x : NestFirst) (y : NestRest x) → spell_nest (nest_onto x y) ≡ list_pairs.spell (x, y)
      list_spells (inl n) y = refl
      list_spells (inr u) y = refl

      list_breaks : s.wanted ≡ dim → (x : NestFirst) (y : NestRest x) → breaks_nest p (nest_onto x y) (dim ∷ dims) ≡ list_pairs.breaks (x, y)
      list_breaks same (inl n) y = sym (append-nil (on (at_var p (dim ∷ dims) n.bytes)))
      list_breaks same (inr u) y = ap (λ d. behind 1 (breaks_nests p y d dims)) (sym same)

      list_means : (x : NestFirst) (y : NestRest x) → value_nest p s.vars (nest_onto x y) ≡ list_pairs.value (x, y)
      list_means (inl n) y = refl
      list_means (inr u) y = refl

      list_goes_on : (x : NestFirst) (y : NestRest x) (t : Terminal) → blocks_nest (dim ∷ dims) (nest_onto x y) t ≡ list_pairs.blocks (x, y) t
      list_goes_on (inl n) y t = refl
      list_goes_on (inr u) y t = refl

      some_dims_law : s.wanted ≡ dim → Lawful (nest_spec p (dim ∷ dims) s.vars) (then_read (nest_first p (dim ∷ dims)) (nests_rest read s))
      some_dims_law same =
          Lawful-view list_pairs (nest_spec p (dim ∷ dims) s.vars)
          (record {
            onto = λ y. nest_onto y.0 y.1;
            back = nest_back;
            again = nest_again;
            spell = λ y. list_spells y.0 y.1;
            breaks = λ y. ap first (list_breaks same y.0 y.1);
            value = λ y. list_means y.0 y.1;
            blocks = λ y t. list_goes_on y.0 y.1 t;
            start = refl;
          })
          (then_read (nest_first p (dim ∷ dims)) (nests_rest read s))
          (Lawful-then (start_spec p (dim ∷ dims)) (following_list s) (join_leaf Free nest_token nest_value (at_nest p (dim ∷ dims)) (inl some_name) (following_list s))
          (nest_first p (dim ∷ dims)) (nests_rest read s) (start_law p (dim ∷ dims)) (list_sound s) (list_law dim s))

-- so nests are, whatever dimensions are left
pub nest_law : (p : Problem) (dims : List ℕ) (vars : List VarId) → Lawful (nest_spec p dims vars) (nest_at p dims vars)
nest_law p [] vars = no_dims_law p vars
nest_law p (dim ∷ dims) vars =
    some_dims_law p dims (λ s. nest_at p dims s.vars) (λ s. nest_law p dims s.vars) dim (record { wanted = dim; vars = vars }) refl

-- 4. What stands behind the name of an alias
abbrev alias_dims_spec : Spec (Items ℤ) (List ℕ)
alias_dims_spec = items_spec CloseSquare alias_dims_judge (λ z t. false) Free (pos 0) with_dim []

pub alias_dims_are : Entries CloseSquare alias_dims_judge (λ z t. false) Free (pos 0)
alias_dims_are = record {
  other = refl;
  solid = λ z e. cc;
  marks = λ z t e. refl;
  no_comma = λ z. refl;
  no_shut = λ z. refl;
  comma_kinds = λ s v kind e. cc;
  close_kinds = λ s v kind e. cc;
}

pub alias_dim_law : Lawful (record { spell = spell_number; breaks = λ z. on (alias_dim z); value = λ z. z; blocks = λ z t. false; start = Free; any = pos 0 }) (number_at alias_dim)
alias_dim_law = Lawful-number alias_dim (λ z kind e. kind_when (int_lt z (pos 1)) kinds.Shape refl kind e)

alias_dims_law : Lawful alias_dims_spec alias_dims_at
unfolding alias_dims_at
alias_dims_law = Lawful-items CloseSquare alias_dims_judge (λ z t. false) Free (pos 0) with_dim alias_dims_are (λ before. number_at alias_dim) (λ before. alias_dim_law) []

module _ (p : Problem) (name : List ℕ) where
  abbrev behind_dims : Items ℤ → Spec Nest Declaring
  behind_dims l = mark_then Equals None (valued (λ v. with_matrix p name (matrix_dims l) v.vars) (nest_spec p (matrix_dims l) []))

  abbrev matrix_spec : Spec ((l : Items ℤ) × Nest) Declaring
  matrix_spec = joined alias_dims_spec behind_dims

  dims_solid : (l : Items ℤ) → spell_items CloseSquare spell_number l ≡ [] → ⊥
  dims_solid (final z) e = cc
  dims_solid (also z l) e = cc

  matrix_join : Join alias_dims_spec behind_dims
  matrix_join = record { apart = λ l n t q e. refl; fits = λ l. Fits-nothing MarksOnly; starts = λ l e. absurd (dims_solid l e) }

  behind_dims_law : (dims : List ℕ) → Lawful (mark_then Equals None (valued (λ v. with_matrix p name dims v.vars) (nest_spec p dims []))) (then_read (mark_at MarksOnly Equals None) (λ u. then_read (nest_at p dims []) (λ v. ret (with_matrix p name dims v.vars))))
  behind_dims_law dims =
      let law : Lawful {V = Declaring} (valued (λ v. with_matrix p name dims v.vars) (nest_spec p dims [])) (then_read (nest_at p dims []) (λ v. ret (with_matrix p name dims v.vars))) =
      Lawful-valued (λ v. with_matrix p name dims v.vars) (nest_spec p dims []) (nest_at p dims []) (nest_law p dims []) in
      Lawful-mark_then Equals None (λ k e. cc) (valued (λ v. with_matrix p name dims v.vars) (nest_spec p dims [])) _ law.sound (λ kept. law)

  matrix_law : Lawful matrix_spec (matrix_at p name)
  unfolding matrix_at
  matrix_law =
      Lawful-then alias_dims_spec behind_dims matrix_join alias_dims_at
      (λ dims. then_read (mark_at MarksOnly Equals None) (λ u. then_read (nest_at p dims []) (λ v. ret (with_matrix p name dims v.vars))))
      alias_dims_law (λ l. (behind_dims_law (matrix_dims l)).sound) (λ l kept. behind_dims_law (matrix_dims l))

  abbrev opened : Spec ((l : Items ℤ) × Nest) Declaring
  opened = mark_then OpenSquare None matrix_spec

  opened_law : Lawful opened (then_read (mark_at MarksOnly OpenSquare None) (λ u. matrix_at p name))
  opened_law = Lawful-mark_then OpenSquare None (λ k e. cc) matrix_spec (matrix_at p name) matrix_law.sound (λ kept. matrix_law)

  abbrev var_spec : Spec Ref Declaring
  var_spec = mark_then Equals None (valued (with_one p name) (ref_spec p (one_place p false)))

  one_law : Lawful var_spec (var_at p name)
  unfolding var_at
  one_law =
      let law = Lawful-valued (with_one p name) (ref_spec p (one_place p false)) _ (ref_law p (one_place p false)) in
      Lawful-mark_then Equals None (λ k e. cc) (valued (with_one p name) (ref_spec p (one_place p false))) _ law.sound (λ kept. law)

  target_choice : Choice (is_the_mark OpenSquare) opened var_spec
  target_choice = record {
    begins = λ x. (mark OpenSquare, _, refl, refl);
    starts = λ t e. ((final (pos 0), some_nest), _, ap (λ u. u ∷ matrix_spec.spell (final (pos 0), some_nest)) (sym (the_mark OpenSquare t e)));
    apart = λ r t q e. let same : mark Equals ≡ t = cc in ap (is_the_mark OpenSquare) (sym same);
    fits = is_no_other OpenSquare;
  }

  abbrev pub blocks_target : Target → Terminal → Bool
  blocks_target (of_var r) t = blocks_subs r.subs t
  blocks_target (of_matrix l n) t = blocks_nest (matrix_dims l) n t

  abbrev pub target_spec : Spec Target Declaring
  target_spec = record {
    spell = spell_target;
    breaks = breaks_target p;
    value = named p name;
    blocks = blocks_target;
    start = MarksOnly;
    any = of_var (record { name = some_name; subs = None });
  }

  abbrev target_onto : ((l : Items ℤ) × Nest) ⊎ Ref → Target
  target_onto (inl x) = of_matrix x.0 x.1
  target_onto (inr r) = of_var r

  abbrev target_back : Target → ((l : Items ℤ) × Nest) ⊎ Ref
  target_back (of_matrix l n) = inl (l, n)
  target_back (of_var r) = inr r

  nothing_before : (b c : Bool) → c ≡ ((b && false) || c)
  nothing_before true c = refl
  nothing_before false c = refl

  pub target_law : Lawful target_spec (target_at p name)
  unfolding target_at
  target_law =
      Lawful-view (either (is_the_mark OpenSquare) opened var_spec) target_spec
      (record {
        onto = target_onto;
        back = target_back;
        again = elim [ of_matrix l n ↦ refl | of_var r ↦ refl ];
        spell = elim [ inl x ↦ refl | inr r ↦ refl ];
        breaks = elim [ inl x ↦ refl | inr r ↦ refl ];
        value = elim [ inl x ↦ refl | inr r ↦ refl ];
        blocks = elim [ inl x ↦ λ t. refl | inr r ↦ λ t. nothing_before (is_the_mark OpenSquare t) (blocks_subs r.subs t) ];
        start = refl;
      })
      (target_at p name)
      (Lawful-or (is_the_mark OpenSquare) opened var_spec target_choice (then_read (mark_at MarksOnly OpenSquare None) (λ u. matrix_at p name)) (var_at p name) opened_law one_law)

  pub target_marks : (x : Target) → OnlyMarks (blocks_target x)
  target_marks (of_var r) = subs_marks r.subs
  target_marks (of_matrix l n) = nest_marks (matrix_dims l) n

-- 5. An alias behind its word
abbrev pub alias_spec : Problem → Spec ((n : Name) × Target) Declaring
alias_spec p = joined (a_name_leaf (new_name p)) (λ n. target_spec p n.bytes)

pub alias_law : (p : Problem) → ((w : List ℕ) (kind : Kind) → new_name p w ≡ Some kind → is_condition kind ≡ true) → Lawful (alias_spec p) (alias_at p)
unfolding alias_at
alias_law p kinds =
    Lawful-leaf_then Free name_token (λ n. n.bytes) (new_name p) (record { bytes = codes "a"; lawful = refl }) (name_at (new_name p)) (λ n. target_spec p n.bytes) (target_at p)
    (Lawful-name (new_name p) kinds) (λ n. target_law p n.bytes)

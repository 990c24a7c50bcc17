-- The constraints of an instance as those of a text, and the whole text.
use Rattle.std.specs.Prelude.{ℤ, pos, List, [], ◌∷◌, map, slice_get, Option, Some, None}
use Rattle.mn_model.specs.Problem.{Problem}
use Rattle.mn_model.specs.declared.constraint.Con.{Con}
use Rattle.mn_model.specs.declared.constraint.Cons.{Cons}
use Rattle.mn_model.specs.declared.constraint.Con.TheBlock.{more_of-Con, more_of-Cons}
use Rattle.mn_model.specs.declared.constraint.Con.TheVariants as con
use Rattle.mn_model.specs.declared.constraint.Tab.{Tab}
use Rattle.mn_model.specs.declared.constraint.Tab.TheVariants.{Named, Here}
use Rattle.mn_model.specs.declared.declaration.Tuples.{Tuples}
use Rattle.mn_grammar.specs.Lists.{Items}
use Rattle.mn_grammar.specs.Tokens.{Name}
use Rattle.mn_language.specs.Arguments.{Table, named, here}
use Rattle.mn_language.specs.Constraints.{Constraint, Children, simple, gathers_none, gathers, ties, one_child, child_and}
use Rattle.mn_language.specs.Texts.{Section, variables, tuple_lists, search, constraints}
use Rattle.mn_language.specs.declared.forms.Gather.{Gather}
use Rattle.mn_language.specs.declared.forms.Gather.TheVariants.{Or, And}
use Rattle.mn_language.specs.declared.forms.Leaf.TheVariants as form
use Rattle.mn_language.specs.declared.forms.Tie.TheVariants.{Reify, Reifyimply}
use Rattle.mn_sections.specs.Matrices.{tuples_of}
use Rattle.mn_sections.specs.Trees.{name_from, items_from, maybe_items, entry_of, vector_of, variables_of, tuple_list_of, search_of}

-- a tuple; where it has no numbers, which no table allows, it has one
abbrev pub tuple_of : List ℤ → Items ℤ
tuple_of [] = items_from (pos 0) []
tuple_of (z ∷ zs) = items_from z zs

-- a table: the name of its tuple list, or its tuples
abbrev pub list_name : Option Tuples → Name
list_name None = name_from []
list_name (Some t) = name_from t.name

abbrev pub table_of : Problem → Tab → Table
table_of p (Named n) = named (list_name (slice_get p.tuples n))
table_of p (Here arity cells) = here (maybe_items (map tuple_of (tuples_of arity cells)))

-- constraints inside one
abbrev pub children_from : Constraint → List Constraint → Children
children_from c [] = one_child c
children_from c (d ∷ others) = child_and c (children_from d others)

abbrev pub gathered : Gather → List Constraint → Constraint
gathered g [] = gathers_none g
gathered g (c ∷ others) = gathers g (children_from c others)

-- A constraint. No instance holds a negation, which has no form: it is written as what it negates.
abbrev mutual
  pub constraint_of : Problem → Con → Constraint
  constraint_of p (con.Eq x y) = simple form.Eq (entry_of p x, (entry_of p y, tt))
  constraint_of p (con.Diseq x y) = simple form.Diseq (entry_of p x, (entry_of p y, tt))
  constraint_of p (con.Ineq x y k) = simple form.Ineq (entry_of p x, (entry_of p y, (k, tt)))
  constraint_of p (con.Watchless x y) = simple form.Watchless (entry_of p x, (entry_of p y, tt))
  constraint_of p (con.Minuseq x y) = simple form.Minuseq (entry_of p x, (entry_of p y, tt))
  constraint_of p (con.Abs x y) = simple form.Abs (entry_of p x, (entry_of p y, tt))
  constraint_of p (con.Difference x y z) = simple form.Difference (entry_of p x, (entry_of p y, (entry_of p z, tt)))
  constraint_of p (con.Product x y z) = simple form.Product (entry_of p x, (entry_of p y, (entry_of p z, tt)))
  constraint_of p (con.Div x y z) = simple form.Div (entry_of p x, (entry_of p y, (entry_of p z, tt)))
  constraint_of p (con.Modulo x y z) = simple form.Modulo (entry_of p x, (entry_of p y, (entry_of p z, tt)))
  constraint_of p (con.Max v x) = simple form.Max (vector_of p v, (entry_of p x, tt))
  constraint_of p (con.Min v x) = simple form.Min (vector_of p v, (entry_of p x, tt))
  constraint_of p (con.Sumleq v x) = simple form.Sumleq (vector_of p v, (entry_of p x, tt))
  constraint_of p (con.Sumgeq v x) = simple form.Sumgeq (vector_of p v, (entry_of p x, tt))
  constraint_of p (con.Weightedsumleq ks v x) = simple form.Weightedsumleq (maybe_items ks, (vector_of p v, (entry_of p x, tt)))
  constraint_of p (con.Weightedsumgeq ks v x) = simple form.Weightedsumgeq (maybe_items ks, (vector_of p v, (entry_of p x, tt)))
  constraint_of p (con.Watchsumleq v k) = simple form.Watchsumleq (vector_of p v, (k, tt))
  constraint_of p (con.Watchsumgeq v k) = simple form.Watchsumgeq (vector_of p v, (k, tt))
  constraint_of p (con.Litsumgeq v ks k) = simple form.Litsumgeq (vector_of p v, (maybe_items ks, (k, tt)))
  constraint_of p (con.Element v x y) = simple form.Element (vector_of p v, (entry_of p x, (entry_of p y, tt)))
  constraint_of p (con.Watchelement v x y) = simple form.Watchelement (vector_of p v, (entry_of p x, (entry_of p y, tt)))
  constraint_of p (con.ElementOne v x y) = simple form.ElementOne (vector_of p v, (entry_of p x, (entry_of p y, tt)))
  constraint_of p (con.WatchelementOne v x y) = simple form.WatchelementOne (vector_of p v, (entry_of p x, (entry_of p y, tt)))
  constraint_of p (con.Table v tab) = simple form.Table (vector_of p v, (table_of p tab, tt))
  constraint_of p (con.Negativetable v tab) = simple form.Negativetable (vector_of p v, (table_of p tab, tt))
  constraint_of p (con.Alldiff v) = simple form.Alldiff (vector_of p v, tt)
  constraint_of p (con.Lexleq v w) = simple form.Lexleq (vector_of p v, (vector_of p w, tt))
  constraint_of p (con.Lexless v w) = simple form.Lexless (vector_of p v, (vector_of p w, tt))
  constraint_of p (con.Watchvecneq v w) = simple form.Watchvecneq (vector_of p v, (vector_of p w, tt))
  constraint_of p (con.Hamming v w k) = simple form.Hamming (vector_of p v, (vector_of p w, (k, tt)))
  constraint_of p (con.Occurrence v k x) = simple form.Occurrence (vector_of p v, (k, (entry_of p x, tt)))
  constraint_of p (con.Occurrenceleq v k k2) = simple form.Occurrenceleq (vector_of p v, (k, (k2, tt)))
  constraint_of p (con.Occurrencegeq v k k2) = simple form.Occurrencegeq (vector_of p v, (k, (k2, tt)))
  constraint_of p (con.Nvalueleq v x) = simple form.Nvalueleq (vector_of p v, (entry_of p x, tt))
  constraint_of p (con.WLiteral x k) = simple form.WLiteral (entry_of p x, (k, tt))
  constraint_of p (con.WNotliteral x k) = simple form.WNotliteral (entry_of p x, (k, tt))
  constraint_of p (con.WInset x ks) = simple form.WInset (entry_of p x, (maybe_items ks, tt))
  constraint_of p (con.WNotinset x ks) = simple form.WNotinset (entry_of p x, (maybe_items ks, tt))
  constraint_of p (con.WInrange x k k2) = simple form.WInrange (entry_of p x, ((k, k2), tt))
  constraint_of p (con.WNotinrange x k k2) = simple form.WNotinrange (entry_of p x, ((k, k2), tt))
  constraint_of p (con.WInintervalset x ks) = simple form.WInintervalset (entry_of p x, (maybe_items ks, tt))
  constraint_of p con.Always = simple form.Always tt
  constraint_of p con.Never = simple form.Never tt
  constraint_of p (con.WatchedOr cs) = gathered Or (children_of p cs)
  constraint_of p (con.WatchedAnd cs) = gathered And (children_of p cs)
  constraint_of p (con.Reify' q (more_of-Con c none) r) = ties Reify (constraint_of p c) (entry_of p r)
  constraint_of p (con.Reifyimply' q (more_of-Con c none) r) = ties Reifyimply (constraint_of p c) (entry_of p r)
  constraint_of p (con.Negated' q (more_of-Con c none)) = constraint_of p c

  pub children_of : Problem → Cons → List Constraint
  children_of p con.End = []
  children_of p (con.More' q (more_of-Con c none) r (more_of-Cons cs nothing)) = constraint_of p c ∷ children_of p cs

-- the whole text: its four sections
abbrev pub sections_of : Problem → List Section
sections_of p =
    variables (variables_of p) ∷ tuple_lists (map tuple_list_of p.tuples) ∷ search (search_of p) ∷ constraints (map (constraint_of p) p.cons) ∷ []

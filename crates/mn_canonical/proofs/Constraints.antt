-- What constraints say.
use Rattle.std.proofs.Common.{◌≡◌, true, false, List, [], ◌∷◌, ◌++◌, length}
use Rattle.std.specs.List.{AllByRecursion}
use Rattle.mn_model.specs.Domain.{IsValue}
use Rattle.mn_model.specs.Lawful.{IsLawful, IsLawfulCon, IsLawfulTerm, SuitsTable}
use Rattle.mn_model.specs.Parts.{places, places_of, constants, constants_of, cells_here, tables, tables_of, IsShaped, AreShaped}
use Rattle.mn_model.specs.Problem.{Problem, domains_of}
use Rattle.mn_model.specs.declared.constraint.Con.{Con}
use Rattle.mn_model.specs.declared.constraint.Con.TheBlock.{more_of-Con, more_of-Cons}
use Rattle.mn_model.specs.declared.constraint.Con.TheVariants as con
use Rattle.mn_model.specs.declared.constraint.Cons.{Cons}
use Rattle.mn_model.specs.declared.constraint.Tab.{Tab}
use Rattle.mn_model.specs.declared.constraint.Term.{Term}
use Rattle.mn_model.proofs.Lists.{filled_length, all_back, all_front}
use Rattle.mn_references.specs.Entries.{spell_entry, spell_vector}
use Rattle.mn_language.specs.Arguments.{spell_table}
use Rattle.mn_language.specs.Constraints.{spell_constraint}
use Rattle.mn_language.specs.declared.forms.Gather.TheVariants.{Or, And}
use Rattle.mn_language.specs.declared.forms.Leaf.TheVariants as form
use Rattle.mn_language.specs.declared.forms.Tie.TheVariants.{Reify, Reifyimply}
use Rattle.mn_pieces.specs.Printed.{NumbersAreRead}
use Rattle.mn_sections.specs.Constraining.{table_of, constraint_of, children_of}
use Rattle.mn_sections.specs.Trees.{maybe_items, entry_of, vector_of}
use Rattle.mn_canonical.specs.Constraints.{constraint_text, children_texts}
use Rattle.mn_canonical.specs.Names.{term_text, vector_text}
use Rattle.mn_canonical.specs.Tables.{table_text}
use Rattle.mn_canonical.proofs.Saying.{Says}
use Rattle.mn_canonical.proofs.Listing.{AllSaid}
use Rattle.mn_canonical.proofs.Forms.{says_leaf, says_gathered, says_tied, says_numbers, says_range}
use Rattle.mn_canonical.proofs.Numbers.{says_value}
use Rattle.mn_canonical.proofs.References.{says_term, says_vector}
use Rattle.mn_canonical.proofs.Tuples.{says_table}

-- what the text of a constraint rests on
record IsSayable (p : Problem) (c : Con) : Type 0 where
  named : AllByRecursion (IsLawfulTerm (domains_of p.decls)) (places c)
  valued : AllByRecursion IsValue (constants c)
  suits : AllByRecursion (SuitsTable p.tuples) (tables c)
  shaped : IsShaped c

record AreSayable (p : Problem) (cs : Cons) : Type 0 where
  named : AllByRecursion (IsLawfulTerm (domains_of p.decls)) (places_of cs)
  valued : AllByRecursion IsValue (constants_of cs)
  suits : AllByRecursion (SuitsTable p.tuples) (tables_of cs)
  shaped : AreShaped cs

module _ (read : NumbersAreRead) (p : Problem) (lawful : IsLawful p) where
  abbrev Named : List Term → Type 0
  Named terms = AllByRecursion (IsLawfulTerm (domains_of p.decls)) terms

  -- a term, a vector, a vector in front of others, a number, numbers and a table
  one : (x : Term) → IsLawfulTerm (domains_of p.decls) x → Says false (term_text p x) (spell_entry (entry_of p x)) true
  one x named = says_term read p lawful x named

  vector : (v : List Term) → Named v → Says false (vector_text p v) (spell_vector (vector_of p v)) true
  vector v named = says_vector read p lawful v named

  front : (v others : List Term) → Named (v ++ others) → Says false (vector_text p v) (spell_vector (vector_of p v)) true
  front v others named = vector v (all_front (IsLawfulTerm (domains_of p.decls)) v others named)

  back : (v others : List Term) → Named (v ++ others) → Named others
  back v others named = all_back (IsLawfulTerm (domains_of p.decls)) v others named

  table : (v : List Term) (tab : Tab) → (v ≡ [] → ⊥) → AllByRecursion (SuitsTable p.tuples) ((length v, tab) ∷ []) → AllByRecursion IsValue (cells_here tab) → Says false (table_text p tab) (spell_table (table_of p tab)) true
  table v tab some suits valued = says_table read p tab (length v) lawful (filled_length v some) suits.0 valued

  mutual
    says_con : (c : Con) → IsSayable p c → Says false (constraint_text p c) (spell_constraint (constraint_of p c)) true
    says_con (con.Eq x y) s = says_leaf form.Eq (entry_of p x, (entry_of p y, tt)) _ (one x s.named.0, (one y s.named.1.0, tt))
    says_con (con.Diseq x y) s = says_leaf form.Diseq (entry_of p x, (entry_of p y, tt)) _ (one x s.named.0, (one y s.named.1.0, tt))
    says_con (con.Ineq x y k) s = says_leaf form.Ineq (entry_of p x, (entry_of p y, (k, tt))) _ (one x s.named.0, (one y s.named.1.0, (says_value read k s.valued.0, tt)))
    says_con (con.Watchless x y) s = says_leaf form.Watchless (entry_of p x, (entry_of p y, tt)) _ (one x s.named.0, (one y s.named.1.0, tt))
    says_con (con.Minuseq x y) s = says_leaf form.Minuseq (entry_of p x, (entry_of p y, tt)) _ (one x s.named.0, (one y s.named.1.0, tt))
    says_con (con.Abs x y) s = says_leaf form.Abs (entry_of p x, (entry_of p y, tt)) _ (one x s.named.0, (one y s.named.1.0, tt))
    says_con (con.Difference x y z) s = says_leaf form.Difference (entry_of p x, (entry_of p y, (entry_of p z, tt))) _ (one x s.named.0, (one y s.named.1.0, (one z s.named.1.1.0, tt)))
    says_con (con.Product x y z) s = says_leaf form.Product (entry_of p x, (entry_of p y, (entry_of p z, tt))) _ (one x s.named.0, (one y s.named.1.0, (one z s.named.1.1.0, tt)))
    says_con (con.Div x y z) s = says_leaf form.Div (entry_of p x, (entry_of p y, (entry_of p z, tt))) _ (one x s.named.0, (one y s.named.1.0, (one z s.named.1.1.0, tt)))
    says_con (con.Modulo x y z) s = says_leaf form.Modulo (entry_of p x, (entry_of p y, (entry_of p z, tt))) _ (one x s.named.0, (one y s.named.1.0, (one z s.named.1.1.0, tt)))
    says_con (con.Max v x) s = says_leaf form.Max (vector_of p v, (entry_of p x, tt)) _ (front v (x ∷ []) s.named, (one x (back v (x ∷ []) s.named).0, tt))
    says_con (con.Min v x) s = says_leaf form.Min (vector_of p v, (entry_of p x, tt)) _ (front v (x ∷ []) s.named, (one x (back v (x ∷ []) s.named).0, tt))
    says_con (con.Sumleq v x) s = says_leaf form.Sumleq (vector_of p v, (entry_of p x, tt)) _ (front v (x ∷ []) s.named, (one x (back v (x ∷ []) s.named).0, tt))
    says_con (con.Sumgeq v x) s = says_leaf form.Sumgeq (vector_of p v, (entry_of p x, tt)) _ (front v (x ∷ []) s.named, (one x (back v (x ∷ []) s.named).0, tt))
    says_con (con.Weightedsumleq ks v x) s = says_leaf form.Weightedsumleq (maybe_items ks, (vector_of p v, (entry_of p x, tt))) _ (says_numbers read ks s.valued, (front v (x ∷ []) s.named, (one x (back v (x ∷ []) s.named).0, tt)))
    says_con (con.Weightedsumgeq ks v x) s = says_leaf form.Weightedsumgeq (maybe_items ks, (vector_of p v, (entry_of p x, tt))) _ (says_numbers read ks s.valued, (front v (x ∷ []) s.named, (one x (back v (x ∷ []) s.named).0, tt)))
    says_con (con.Watchsumleq v k) s = says_leaf form.Watchsumleq (vector_of p v, (k, tt)) _ (vector v s.named, (says_value read k s.valued.0, tt))
    says_con (con.Watchsumgeq v k) s = says_leaf form.Watchsumgeq (vector_of p v, (k, tt)) _ (vector v s.named, (says_value read k s.valued.0, tt))
    says_con (con.Litsumgeq v ks k) s = says_leaf form.Litsumgeq (vector_of p v, (maybe_items ks, (k, tt))) _ (vector v s.named, (says_numbers read ks (all_front IsValue ks (k ∷ []) s.valued), (says_value read k (all_back IsValue ks (k ∷ []) s.valued).0, tt)))
    says_con (con.Element v x y) s = says_leaf form.Element (vector_of p v, (entry_of p x, (entry_of p y, tt))) _ (front v (x ∷ y ∷ []) s.named, (one x (back v (x ∷ y ∷ []) s.named).0, (one y (back v (x ∷ y ∷ []) s.named).1.0, tt)))
    says_con (con.Watchelement v x y) s = says_leaf form.Watchelement (vector_of p v, (entry_of p x, (entry_of p y, tt))) _ (front v (x ∷ y ∷ []) s.named, (one x (back v (x ∷ y ∷ []) s.named).0, (one y (back v (x ∷ y ∷ []) s.named).1.0, tt)))
    says_con (con.ElementOne v x y) s = says_leaf form.ElementOne (vector_of p v, (entry_of p x, (entry_of p y, tt))) _ (front v (x ∷ y ∷ []) s.named, (one x (back v (x ∷ y ∷ []) s.named).0, (one y (back v (x ∷ y ∷ []) s.named).1.0, tt)))
    says_con (con.WatchelementOne v x y) s = says_leaf form.WatchelementOne (vector_of p v, (entry_of p x, (entry_of p y, tt))) _ (front v (x ∷ y ∷ []) s.named, (one x (back v (x ∷ y ∷ []) s.named).0, (one y (back v (x ∷ y ∷ []) s.named).1.0, tt)))
    says_con (con.Table v tab) s = says_leaf form.Table (vector_of p v, (table_of p tab, tt)) _ (vector v s.named, (table v tab s.shaped s.suits s.valued, tt))
    says_con (con.Negativetable v tab) s = says_leaf form.Negativetable (vector_of p v, (table_of p tab, tt)) _ (vector v s.named, (table v tab s.shaped s.suits s.valued, tt))
    says_con (con.Alldiff v) s = says_leaf form.Alldiff (vector_of p v, tt) _ (vector v s.named, tt)
    says_con (con.Lexleq v w) s = says_leaf form.Lexleq (vector_of p v, (vector_of p w, tt)) _ (front v w s.named, (vector w (back v w s.named), tt))
    says_con (con.Lexless v w) s = says_leaf form.Lexless (vector_of p v, (vector_of p w, tt)) _ (front v w s.named, (vector w (back v w s.named), tt))
    says_con (con.Watchvecneq v w) s = says_leaf form.Watchvecneq (vector_of p v, (vector_of p w, tt)) _ (front v w s.named, (vector w (back v w s.named), tt))
    says_con (con.Hamming v w k) s = says_leaf form.Hamming (vector_of p v, (vector_of p w, (k, tt))) _ (front v w s.named, (vector w (back v w s.named), (says_value read k s.valued.0, tt)))
    says_con (con.Occurrence v k x) s = says_leaf form.Occurrence (vector_of p v, (k, (entry_of p x, tt))) _ (front v (x ∷ []) s.named, (says_value read k s.valued.0, (one x (back v (x ∷ []) s.named).0, tt)))
    says_con (con.Occurrenceleq v k k2) s = says_leaf form.Occurrenceleq (vector_of p v, (k, (k2, tt))) _ (vector v s.named, (says_value read k s.valued.0, (says_value read k2 s.valued.1.0, tt)))
    says_con (con.Occurrencegeq v k k2) s = says_leaf form.Occurrencegeq (vector_of p v, (k, (k2, tt))) _ (vector v s.named, (says_value read k s.valued.0, (says_value read k2 s.valued.1.0, tt)))
    says_con (con.Nvalueleq v x) s = says_leaf form.Nvalueleq (vector_of p v, (entry_of p x, tt)) _ (front v (x ∷ []) s.named, (one x (back v (x ∷ []) s.named).0, tt))
    says_con (con.WLiteral x k) s = says_leaf form.WLiteral (entry_of p x, (k, tt)) _ (one x s.named.0, (says_value read k s.valued.0, tt))
    says_con (con.WNotliteral x k) s = says_leaf form.WNotliteral (entry_of p x, (k, tt)) _ (one x s.named.0, (says_value read k s.valued.0, tt))
    says_con (con.WInset x ks) s = says_leaf form.WInset (entry_of p x, (maybe_items ks, tt)) _ (one x s.named.0, (says_numbers read ks s.valued, tt))
    says_con (con.WNotinset x ks) s = says_leaf form.WNotinset (entry_of p x, (maybe_items ks, tt)) _ (one x s.named.0, (says_numbers read ks s.valued, tt))
    says_con (con.WInrange x k k2) s = says_leaf form.WInrange (entry_of p x, ((k, k2), tt)) _ (one x s.named.0, (says_range read k k2 s.valued.0 s.valued.1.0, tt))
    says_con (con.WNotinrange x k k2) s = says_leaf form.WNotinrange (entry_of p x, ((k, k2), tt)) _ (one x s.named.0, (says_range read k k2 s.valued.0 s.valued.1.0, tt))
    says_con (con.WInintervalset x ks) s = says_leaf form.WInintervalset (entry_of p x, (maybe_items ks, tt)) _ (one x s.named.0, (says_numbers read ks s.valued, tt))
    says_con con.Always s = says_leaf form.Always tt _ tt
    says_con con.Never s = says_leaf form.Never tt _ tt
    says_con (con.WatchedOr cs) s = says_gathered Or (children_texts p cs) (children_of p cs) (said_children cs (record { named = s.named; valued = s.valued; suits = s.suits; shaped = s.shaped }))
    says_con (con.WatchedAnd cs) s = says_gathered And (children_texts p cs) (children_of p cs) (said_children cs (record { named = s.named; valued = s.valued; suits = s.suits; shaped = s.shaped }))
    says_con (con.Reify' q (more_of-Con c none) r) s =
        says_tied Reify _ _ _ _ (says_con c (record { named = all_front (IsLawfulTerm (domains_of p.decls)) (places c) (r ∷ []) s.named; valued = s.valued; suits = s.suits; shaped = s.shaped })) (one r (back (places c) (r ∷ []) s.named).0)
    says_con (con.Reifyimply' q (more_of-Con c none) r) s =
        says_tied Reifyimply _ _ _ _ (says_con c (record { named = all_front (IsLawfulTerm (domains_of p.decls)) (places c) (r ∷ []) s.named; valued = s.valued; suits = s.suits; shaped = s.shaped })) (one r (back (places c) (r ∷ []) s.named).0)
    says_con (con.Negated' q (more_of-Con c none)) s = says_con c (record { named = s.named; valued = s.valued; suits = s.suits; shaped = s.shaped })

    said_children : (cs : Cons) → AreSayable p cs → AllSaid spell_constraint (children_texts p cs) (children_of p cs)
    said_children con.End s = tt
    said_children (con.More' q (more_of-Con c none) r (more_of-Cons cs nothing)) s = (
      says_con c (record {
        named = all_front (IsLawfulTerm (domains_of p.decls)) (places c) (places_of cs) s.named;
        valued = all_front IsValue (constants c) (constants_of cs) s.valued;
        suits = all_front (SuitsTable p.tuples) (tables c) (tables_of cs) s.suits;
        shaped = s.shaped.0;
      }),
      said_children cs (record {
        named = all_back (IsLawfulTerm (domains_of p.decls)) (places c) (places_of cs) s.named;
        valued = all_back IsValue (constants c) (constants_of cs) s.valued;
        suits = all_back (SuitsTable p.tuples) (tables c) (tables_of cs) s.suits;
        shaped = s.shaped.1;
      }),
    )

  pub says_constraint : (c : Con) → IsLawfulCon (domains_of p.decls) p.tuples c → Says false (constraint_text p c) (spell_constraint (constraint_of p c)) true
  says_constraint c is = says_con c (record { named = is.named; valued = is.constants; suits = is.tables; shaped = is.shaped })

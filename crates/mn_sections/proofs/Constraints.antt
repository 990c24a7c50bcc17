-- The constraints of an instance break nothing as those of a text, and stand for themselves.
use Rattle.std.proofs.Common.{◌≡◌, ℕ, zero, suc, ◌+◌, ◌≤◌, leb, true, false, List, [], ◌∷◌, ◌++◌, length, map, None, refl, sym, ap, ap₂, ◌∙◌, subst, arith, append_assoc, append-nil, length-append}
use Rattle.std.specs.List.{AllByRecursion}
use Rattle.std.proofs.Math.Nat.{le-max_left, le-max_right}
use Rattle.mn_model.specs.Lawful.{IsLawfulCon, IsLawfulTerm, IsBit, IsShort, SuitsTable}
use Rattle.mn_model.specs.Negation.{followed_by}
use Rattle.mn_model.specs.Parts.{places, places_of, bits, bits_of, vectors, vectors_of, tables, tables_of, cell_count, cell_count_of, nesting, nesting_of, AreShaped, AreWritten}
use Rattle.mn_model.specs.Problem.{Problem, domains_of, total, cells_of}
use Rattle.mn_model.specs.declared.constraint.Con.{Con}
use Rattle.mn_model.specs.declared.constraint.Cons.{Cons}
use Rattle.mn_model.specs.declared.constraint.Con.TheBlock.{more_of-Con, end_of-Con, more_of-Cons, end_of-Cons}
use Rattle.mn_model.specs.declared.constraint.Con.TheVariants as con
use Rattle.mn_model.specs.declared.constraint.Term.{Term}
use Rattle.mn_model.specs.declared.limits.TheConstants.{CELLS, CONSTRAINTS, NESTING}
use Rattle.mn_model.proofs.Kept.{total-push}
use Rattle.mn_model.proofs.Lists.{all_back, all_front}
use Rattle.mn_grammar.specs.Places.{on, behind}
use Rattle.mn_references.specs.Conditions.{as_kind}
use Rattle.mn_references.specs.Entries.{Placed, spell_entry, breaks_entry, value_entry, a_term}
use Rattle.mn_language.specs.Arguments.{of_numbers, of_tuples, term_of}
use Rattle.mn_language.specs.Constraints.{tied, Constraint, gathers_none, gathers, ties, Children, one_child, child_and, spell_constraint, before_all, inside, cells_behind, value_constraint, value_children, breaks_constraint, breaks_children, with_constraint, after_constraint, breaks_section, value_section}
use Rattle.mn_language.specs.Constraints as language
use Rattle.mn_language.specs.declared.forms.Gather.{Gather}
use Rattle.mn_language.specs.declared.forms.Gather.TheVariants.{Or, And}
use Rattle.mn_language.specs.declared.forms.Leaf.TheVariants as form
use Rattle.mn_language.specs.declared.forms.Tie.{Tie}
use Rattle.mn_language.specs.declared.forms.Tie.TheVariants.{Reify, Reifyimply}
use Rattle.mn_sections.specs.Constraining.{gathered, children_from, constraint_of, children_of}
use Rattle.mn_sections.specs.Trees.{entry_of}
use Rattle.mn_sections.proofs.Forms.{StandsFor, IsSayable, simple_stands, two_terms, three_terms, terms_number, term_number, term_numbers, term_pairs, term_range, vector_alone, vector_term, some_term, vector_terms, bits_number, vector_number_term, vector_two_numbers, vector_numbers, weighted, two_vectors, two_vectors_number, vector_table}
use Rattle.mn_sections.proofs.Rows.{one_term, whole_vector, one_number}
use Rattle.mn_sections.proofs.Entries.{term_breaks, term_value}
use Rattle.mn_sections.proofs.References.{HasVariables}
use Rattle.mn_sections.proofs.Kept.{part_nothing, leb_not}

-- 1. What the constraints inside another keep
pub record AreSayable (p : Problem) (n d : ℕ) (cs : Cons) : Type 0 where
  pub named : AllByRecursion (IsLawfulTerm (domains_of p.decls)) (places_of cs)
  pub bits : AllByRecursion (IsBit (domains_of p.decls)) (bits_of cs)
  pub short : AllByRecursion IsShort (vectors_of cs)
  pub tables : AllByRecursion (SuitsTable p.tuples) (tables_of cs)
  pub shaped : AreShaped cs
  pub nested : nesting_of cs ≤ d
  pub written : AreWritten cs
  pub room : n + cell_count_of cs ≤ CELLS

abbrev more : Con → Cons → Cons
more c cs = con.More' tt (more_of-Con c end_of-Con) tt (more_of-Cons cs end_of-Cons)

first_sayable : (p : Problem) (n d : ℕ) (c : Con) (cs : Cons) → AreSayable p n d (more c cs) → IsSayable p n d c
first_sayable p n d c cs is =
    let deep = is.nested in
    let left = le-max_left (nesting c) (nesting_of cs) in
    let room = is.room in
    record {
      named = all_front (IsLawfulTerm (domains_of p.decls)) (places c) (places_of cs) is.named;
      bits = all_front (IsBit (domains_of p.decls)) (bits c) (bits_of cs) is.bits;
      short = all_front IsShort (vectors c) (vectors_of cs) is.short;
      tables = all_front (SuitsTable p.tuples) (tables c) (tables_of cs) is.tables;
      shaped = is.shaped.0;
      nested = omega (arith, deep, left);
      written = is.written.0;
      room = omega (arith, room);
    }

others_sayable : (p : Problem) (n m d : ℕ) (c : Con) (cs : Cons) → AreSayable p n d (more c cs) → m ≡ n + cell_count c → AreSayable p m d cs
others_sayable p n m d c cs is cells =
    let deep = is.nested in
    let right = le-max_right (nesting c) (nesting_of cs) in
    let room = is.room in
    record {
      named = all_back (IsLawfulTerm (domains_of p.decls)) (places c) (places_of cs) is.named;
      bits = all_back (IsBit (domains_of p.decls)) (bits c) (bits_of cs) is.bits;
      short = all_back IsShort (vectors c) (vectors_of cs) is.short;
      tables = all_back (SuitsTable p.tuples) (tables c) (tables_of cs) is.tables;
      shaped = is.shaped.1;
      nested = omega (arith, deep, right);
      written = is.written.1;
      room = omega (arith, room, cells);
    }

-- the constraints of a form, one by one
abbrev list_of : Cons → List Con
list_of con.End = []
list_of (con.More' u (more_of-Con c end_of-Con) v (more_of-Cons cs end_of-Cons)) = c ∷ list_of cs

listed_again : (cs : Cons) → followed_by (list_of cs) con.End ≡ cs
listed_again con.End = refl
listed_again (con.More' u (more_of-Con c end_of-Con) v (more_of-Cons cs end_of-Cons)) = ap (more c) (listed_again cs)

-- 2. Forms around others
abbrev gathering : Gather → Cons → Con
gathering Or cs = con.WatchedOr cs
gathering And cs = con.WatchedAnd cs

gathered_again : (g : Gather) (cs : Cons) → language.gathered g (list_of cs) ≡ gathering g cs
gathered_again Or cs = ap (λ (ds : Cons). con.WatchedOr ds) (listed_again cs)
gathered_again And cs = ap (λ (ds : Cons). con.WatchedAnd ds) (listed_again cs)

-- the constraints in a form break nothing, and stand for these behind those before them
record AllStand (q : Problem) (trees : Children) (cs : List Con) (d n : ℕ) (before : List Con) : Type 0 where
  kept : breaks_children q trees d n before ≡ []
  means : value_children q trees n before ≡ before ++ cs

module _ (q : Problem) where
  none_stands : (d n : ℕ) (g : Gather) → StandsFor q (gathers_none g) (gathering g con.End) (suc d) n
  none_stands d n g = record { kept = refl; means = gathered_again g con.End }

  gathers_stand : (d n : ℕ) (g : Gather) (trees : Children) (cs : Cons) → AllStand q trees (list_of cs) d n [] → StandsFor q (gathers g trees) (gathering g cs) (suc d) n
  gathers_stand d n g trees cs is = record {
    kept = ap (behind 3) is.kept;
    means = ap (language.gathered g) is.means ∙ gathered_again g cs;
  }

  last_stands : (d n : ℕ) (before : List Con) (tree : Constraint) (c : Con) → StandsFor q tree c d (cells_behind n before) → AllStand q (one_child tree) (c ∷ []) d n before
  last_stands d n before tree c is = record { kept = is.kept; means = ap (λ (x : Con). before ++ x ∷ []) is.means }

  more_stand : (d n : ℕ) (before : List Con) (tree : Constraint) (c : Con) (trees : Children) (cs : List Con) → StandsFor q tree c d (cells_behind n before) → AllStand q trees cs d n (before ++ c ∷ []) → AllStand q (child_and tree trees) (c ∷ cs) d n before
  more_stand d n before tree c trees cs is are = record {
    kept =
        part_nothing (length (spell_constraint tree)) (breaks_constraint q tree d (inside (cells_behind n before))) (behind 1 (breaks_children q trees d n (before ++ value_constraint q tree (cells_behind n before) ∷ []))) is.kept
        (ap (λ (x : Con). behind 1 (breaks_children q trees d n (before ++ x ∷ []))) is.means ∙ ap (behind 1) are.kept);
    means = ap (λ (x : Con). value_children q trees n (before ++ x ∷ [])) is.means ∙ (are.means ∙ append_assoc before (c ∷ []) cs);
  }

module _ (p q : Problem) (has : HasVariables p q) where
  tied_stands : (d n : ℕ) (t : Tie) (tree : Constraint) (c : Con) (r : Term) → StandsFor q tree c d n → IsLawfulTerm (domains_of p.decls) r → IsBit (domains_of p.decls) r → StandsFor q (ties t tree (entry_of p r)) (tied t c r) (suc d) n
  tied_stands d n t tree c r is lawful bit =
      let value : value_entry q (a_term q true) (entry_of p r) ≡ record { terms = r ∷ []; dims = []; behind = None } = term_value p q has true r lawful in
      record {
        kept = ap (behind 2)
            (part_nothing (length (spell_constraint tree)) (breaks_constraint q tree d (inside n)) (behind 1 (breaks_entry q (a_term q true) (entry_of p r) ++ behind (length (spell_entry (entry_of p r))) (on (as_kind (value_entry q (a_term q true) (entry_of p r)).behind)))) is.kept
            (ap (behind 1)
            (part_nothing (length (spell_entry (entry_of p r))) (breaks_entry q (a_term q true) (entry_of p r)) (on (as_kind (value_entry q (a_term q true) (entry_of p r)).behind)) (term_breaks p q has true r lawful (λ yes. bit))
            (ap (λ (v : Placed). on (as_kind v.behind)) value))));
        means = ap₂ (tied t) is.means (ap (λ (v : Placed). term_of v.terms) value);
      }

-- 3. Every constraint that may be said
module _ (p q : Problem) (has : HasVariables p q) (same : q.tuples ≡ p.tuples) where
  mutual
    stands : (c : Con) (d n : ℕ) → IsSayable p n d c → StandsFor q (constraint_of p c) c d n
    stands (con.Eq x y) d n is = simple_stands q d n form.Eq _ (one_term x ∷ one_term y ∷ []) (two_terms p q has same n x y is.named)
    stands (con.Diseq x y) d n is = simple_stands q d n form.Diseq _ (one_term x ∷ one_term y ∷ []) (two_terms p q has same n x y is.named)
    stands (con.Ineq x y k) d n is = simple_stands q d n form.Ineq _ (one_term x ∷ one_term y ∷ one_number k ∷ []) (terms_number p q has same n x y k is.named)
    stands (con.Watchless x y) d n is = simple_stands q d n form.Watchless _ (one_term x ∷ one_term y ∷ []) (two_terms p q has same n x y is.named)
    stands (con.Minuseq x y) d n is = simple_stands q d n form.Minuseq _ (one_term x ∷ one_term y ∷ []) (two_terms p q has same n x y is.named)
    stands (con.Abs x y) d n is = simple_stands q d n form.Abs _ (one_term x ∷ one_term y ∷ []) (two_terms p q has same n x y is.named)
    stands (con.Difference x y z) d n is = simple_stands q d n form.Difference _ (one_term x ∷ one_term y ∷ one_term z ∷ []) (three_terms p q has same n x y z is.named)
    stands (con.Product x y z) d n is = simple_stands q d n form.Product _ (one_term x ∷ one_term y ∷ one_term z ∷ []) (three_terms p q has same n x y z is.named)
    stands (con.Div x y z) d n is = simple_stands q d n form.Div _ (one_term x ∷ one_term y ∷ one_term z ∷ []) (three_terms p q has same n x y z is.named)
    stands (con.Modulo x y z) d n is = simple_stands q d n form.Modulo _ (one_term x ∷ one_term y ∷ one_term z ∷ []) (three_terms p q has same n x y z is.named)
    stands (con.Max v x) d n is = simple_stands q d n form.Max _ (whole_vector v ∷ one_term x ∷ []) (some_term p q has same n v x is.named is.short.0 is.shaped)
    stands (con.Min v x) d n is = simple_stands q d n form.Min _ (whole_vector v ∷ one_term x ∷ []) (some_term p q has same n v x is.named is.short.0 is.shaped)
    stands (con.Sumleq v x) d n is = simple_stands q d n form.Sumleq _ (whole_vector v ∷ one_term x ∷ []) (vector_term p q has same n v x is.named is.short.0)
    stands (con.Sumgeq v x) d n is = simple_stands q d n form.Sumgeq _ (whole_vector v ∷ one_term x ∷ []) (vector_term p q has same n v x is.named is.short.0)
    stands (con.Weightedsumleq ks v x) d n is = simple_stands q d n form.Weightedsumleq _ (of_numbers ks ∷ whole_vector v ∷ one_term x ∷ []) (weighted p q has same n ks v x is.named is.short.0 is.shaped)
    stands (con.Weightedsumgeq ks v x) d n is = simple_stands q d n form.Weightedsumgeq _ (of_numbers ks ∷ whole_vector v ∷ one_term x ∷ []) (weighted p q has same n ks v x is.named is.short.0 is.shaped)
    stands (con.Watchsumleq v k) d n is = simple_stands q d n form.Watchsumleq _ (whole_vector v ∷ one_number k ∷ []) (bits_number p q has same n v k is.named is.short.0 is.bits)
    stands (con.Watchsumgeq v k) d n is = simple_stands q d n form.Watchsumgeq _ (whole_vector v ∷ one_number k ∷ []) (bits_number p q has same n v k is.named is.short.0 is.bits)
    stands (con.Litsumgeq v ks k) d n is = simple_stands q d n form.Litsumgeq _ (whole_vector v ∷ of_numbers ks ∷ one_number k ∷ []) (vector_numbers p q has same n v ks k is.named is.short.0 is.shaped)
    stands (con.Element v x y) d n is = simple_stands q d n form.Element _ (whole_vector v ∷ one_term x ∷ one_term y ∷ []) (vector_terms p q has same n v x y is.named is.short.0)
    stands (con.Watchelement v x y) d n is = simple_stands q d n form.Watchelement _ (whole_vector v ∷ one_term x ∷ one_term y ∷ []) (vector_terms p q has same n v x y is.named is.short.0)
    stands (con.ElementOne v x y) d n is = simple_stands q d n form.ElementOne _ (whole_vector v ∷ one_term x ∷ one_term y ∷ []) (vector_terms p q has same n v x y is.named is.short.0)
    stands (con.WatchelementOne v x y) d n is = simple_stands q d n form.WatchelementOne _ (whole_vector v ∷ one_term x ∷ one_term y ∷ []) (vector_terms p q has same n v x y is.named is.short.0)
    stands (con.Table v tab) d n is = simple_stands q d n form.Table _ (whole_vector v ∷ of_tuples tab ∷ []) (vector_table p q has same n v tab is.named is.short.0 is.shaped is.tables.0 is.room)
    stands (con.Negativetable v tab) d n is = simple_stands q d n form.Negativetable _ (whole_vector v ∷ of_tuples tab ∷ []) (vector_table p q has same n v tab is.named is.short.0 is.shaped is.tables.0 is.room)
    stands (con.Alldiff v) d n is = simple_stands q d n form.Alldiff _ (whole_vector v ∷ []) (vector_alone p q has same n v is.named is.short.0)
    stands (con.Lexleq v w) d n is = simple_stands q d n form.Lexleq _ (whole_vector v ∷ whole_vector w ∷ []) (two_vectors p q has same n v w is.named is.short.0 is.short.1.0 is.shaped)
    stands (con.Lexless v w) d n is = simple_stands q d n form.Lexless _ (whole_vector v ∷ whole_vector w ∷ []) (two_vectors p q has same n v w is.named is.short.0 is.short.1.0 is.shaped)
    stands (con.Watchvecneq v w) d n is = simple_stands q d n form.Watchvecneq _ (whole_vector v ∷ whole_vector w ∷ []) (two_vectors p q has same n v w is.named is.short.0 is.short.1.0 is.shaped)
    stands (con.Hamming v w k) d n is = simple_stands q d n form.Hamming _ (whole_vector v ∷ whole_vector w ∷ one_number k ∷ []) (two_vectors_number p q has same n v w k is.named is.short.0 is.short.1.0 is.shaped)
    stands (con.Occurrence v k x) d n is = simple_stands q d n form.Occurrence _ (whole_vector v ∷ one_number k ∷ one_term x ∷ []) (vector_number_term p q has same n v k x is.named is.short.0)
    stands (con.Occurrenceleq v k k2) d n is = simple_stands q d n form.Occurrenceleq _ (whole_vector v ∷ one_number k ∷ one_number k2 ∷ []) (vector_two_numbers p q has same n v k k2 is.named is.short.0)
    stands (con.Occurrencegeq v k k2) d n is = simple_stands q d n form.Occurrencegeq _ (whole_vector v ∷ one_number k ∷ one_number k2 ∷ []) (vector_two_numbers p q has same n v k k2 is.named is.short.0)
    stands (con.Nvalueleq v x) d n is = simple_stands q d n form.Nvalueleq _ (whole_vector v ∷ one_term x ∷ []) (vector_term p q has same n v x is.named is.short.0)
    stands (con.WLiteral x k) d n is = simple_stands q d n form.WLiteral _ (one_term x ∷ one_number k ∷ []) (term_number p q has same n x k is.named)
    stands (con.WNotliteral x k) d n is = simple_stands q d n form.WNotliteral _ (one_term x ∷ one_number k ∷ []) (term_number p q has same n x k is.named)
    stands (con.WInset x ks) d n is = simple_stands q d n form.WInset _ (one_term x ∷ of_numbers ks ∷ []) (term_numbers p q has same n x ks is.named)
    stands (con.WNotinset x ks) d n is = simple_stands q d n form.WNotinset _ (one_term x ∷ of_numbers ks ∷ []) (term_numbers p q has same n x ks is.named)
    stands (con.WInrange x k k2) d n is = simple_stands q d n form.WInrange _ (one_term x ∷ of_numbers (k ∷ k2 ∷ []) ∷ []) (term_range p q has same n x k k2 is.named)
    stands (con.WNotinrange x k k2) d n is = simple_stands q d n form.WNotinrange _ (one_term x ∷ of_numbers (k ∷ k2 ∷ []) ∷ []) (term_range p q has same n x k k2 is.named)
    stands (con.WInintervalset x ks) d n is = simple_stands q d n form.WInintervalset _ (one_term x ∷ of_numbers ks ∷ []) (term_pairs p q has same n x ks is.named is.shaped)
    stands con.Always d n is = simple_stands q d n form.Always tt [] tt
    stands con.Never d n is = simple_stands q d n form.Never tt [] tt
    stands (con.WatchedOr cs) zero n is = let deep = is.nested in absurd (omega (arith, deep))
    stands (con.WatchedOr cs) (suc d) n is =
        let deep = is.nested in
        gathered_stands Or cs d n (record { named = is.named; bits = is.bits; short = is.short; tables = is.tables; shaped = is.shaped; nested = omega (arith, deep); written = is.written; room = is.room })
    stands (con.WatchedAnd cs) zero n is = let deep = is.nested in absurd (omega (arith, deep))
    stands (con.WatchedAnd cs) (suc d) n is =
        let deep = is.nested in
        gathered_stands And cs d n (record { named = is.named; bits = is.bits; short = is.short; tables = is.tables; shaped = is.shaped; nested = omega (arith, deep); written = is.written; room = is.room })
    stands (con.Reify' u (more_of-Con c end_of-Con) r) zero n is = let deep = is.nested in absurd (omega (arith, deep))
    stands (con.Reify' u (more_of-Con c end_of-Con) r) (suc d) n is =
        let deep = is.nested in
        tied_stands p q has d n Reify (constraint_of p c) c r
        (stands c d n (record { named = all_front (IsLawfulTerm (domains_of p.decls)) (places c) (r ∷ []) is.named; bits = all_front (IsBit (domains_of p.decls)) (bits c) (r ∷ []) is.bits; short = is.short; tables = is.tables; shaped = is.shaped; nested = omega (arith, deep); written = is.written; room = is.room }))
        (all_back (IsLawfulTerm (domains_of p.decls)) (places c) (r ∷ []) is.named).0 (all_back (IsBit (domains_of p.decls)) (bits c) (r ∷ []) is.bits).0
    stands (con.Reifyimply' u (more_of-Con c end_of-Con) r) zero n is = let deep = is.nested in absurd (omega (arith, deep))
    stands (con.Reifyimply' u (more_of-Con c end_of-Con) r) (suc d) n is =
        let deep = is.nested in
        tied_stands p q has d n Reifyimply (constraint_of p c) c r
        (stands c d n (record { named = all_front (IsLawfulTerm (domains_of p.decls)) (places c) (r ∷ []) is.named; bits = all_front (IsBit (domains_of p.decls)) (bits c) (r ∷ []) is.bits; short = is.short; tables = is.tables; shaped = is.shaped; nested = omega (arith, deep); written = is.written; room = is.room }))
        (all_back (IsLawfulTerm (domains_of p.decls)) (places c) (r ∷ []) is.named).0 (all_back (IsBit (domains_of p.decls)) (bits c) (r ∷ []) is.bits).0
    stands (con.Negated' u (more_of-Con c end_of-Con)) d n is = absurd is.written

    gathered_stands : (g : Gather) (cs : Cons) (d n : ℕ) → AreSayable p n d cs → StandsFor q (gathered g (children_of p cs)) (gathering g cs) (suc d) n
    gathered_stands g con.End d n are = none_stands q d n g
    gathered_stands g (con.More' u (more_of-Con c end_of-Con) v (more_of-Cons cs end_of-Cons)) d n are =
        let begins : cells_behind n [] ≡ n = omega arith in
        let added : cells_behind n (c ∷ []) ≡ n + cell_count c = omega arith in
        gathers_stand q d n g (children_from (constraint_of p c) (children_of p cs)) (more c cs)
        (others_stand cs d n [] (constraint_of p c) c (subst (StandsFor q (constraint_of p c) c d) (sym begins) (stands c d n (first_sayable p n d c cs are)))
        (others_sayable p n (cells_behind n (c ∷ [])) d c cs are added))

    -- a constraint, and those behind it
    others_stand : (cs : Cons) (d n : ℕ) (before : List Con) (tree : Constraint) (c : Con) → StandsFor q tree c d (cells_behind n before) → AreSayable p (cells_behind n (before ++ c ∷ [])) d cs → AllStand q (children_from tree (children_of p cs)) (c ∷ list_of cs) d n before
    others_stand con.End d n before tree c is are = last_stands q d n before tree c is
    others_stand (con.More' u (more_of-Con x end_of-Con) v (more_of-Cons cs end_of-Cons)) d n before tree c is are =
        let m : ℕ = cells_behind n (before ++ c ∷ []) in
        let size = total-push cell_count (before ++ c ∷ []) x in
        let added : cells_behind n ((before ++ c ∷ []) ++ x ∷ []) ≡ m + cell_count x = omega (arith, size) in
        more_stand q d n before tree c (children_from (constraint_of p x) (children_of p cs)) (x ∷ list_of cs) is
        (others_stand cs d n (before ++ c ∷ []) (constraint_of p x) x (stands x d m (first_sayable p m d x cs are))
        (others_sayable p m (cells_behind n ((before ++ c ∷ []) ++ x ∷ [])) d x cs are added))

-- 4. The section
total-split : (cs ds : List Con) → total cell_count (cs ++ ds) ≡ total cell_count cs + total cell_count ds
total-split [] ds = omega arith
total-split (c ∷ cs) ds = omega (arith, total-split cs ds)

-- What q has said of p before these constraints.
record IsBefore (p q : Problem) (cs : List Con) : Type 0 where
  has : HasVariables p q
  same : q.tuples ≡ p.tuples
  split : p.cons ≡ q.cons ++ cs

lawful_says : (p : Problem) (n : ℕ) (c : Con) → IsLawfulCon (domains_of p.decls) p.tuples c → n + cell_count c ≤ CELLS → IsSayable p n NESTING c
lawful_says p n c is room =
    record { named = is.named; bits = is.bits; short = is.short; tables = is.tables; shaped = is.shaped; nested = is.nested; written = is.written; room = room }

-- the next constraint keeps the limits
record HasRoom (p q : Problem) (c : Con) : Type 0 where
  lawful : IsLawfulCon (domains_of p.decls) p.tuples c
  count : leb CONSTRAINTS (length q.cons) ≡ false
  cells : cells_of q + cell_count c ≤ CELLS

has_room : (p q : Problem) (c : Con) (cs : List Con) → IsBefore p q (c ∷ cs) → HasRoom p q c
has_room p q c cs is =
    let law = is.has.lawful in
    let few = law.few_constraints in
    let room = law.few_cells in
    let many : length p.cons ≡ length q.cons + suc (length cs) = ap length is.split ∙ length-append q.cons (c ∷ cs) in
    let written : total cell_count p.cons ≡ total cell_count q.cons + (cell_count c + total cell_count cs) = ap (total cell_count) is.split ∙ total-split q.cons (c ∷ cs) in
    let listed : total (λ t. length t.cells) q.tuples ≡ total (λ t. length t.cells) p.tuples = ap (total (λ t. length t.cells)) is.same in
    record {
      lawful = (all_back (IsLawfulCon (domains_of p.decls) p.tuples) q.cons (c ∷ cs) (subst (AllByRecursion (IsLawfulCon (domains_of p.decls) p.tuples)) is.split law.cons)).0;
      count = leb_not CONSTRAINTS (length q.cons) (omega (arith, many, few));
      cells = omega (arith, written, listed, room);
    }

-- the next constraint stands in the section
next_stands : (p q : Problem) (c : Con) (cs : List Con) → IsBefore p q (c ∷ cs) → StandsFor q (constraint_of p c) c NESTING (cells_of q)
next_stands p q c cs is =
    let next = has_room p q c cs is in
    stands p q is.has is.same c NESTING (cells_of q) (lawful_says p (cells_of q) c next.lawful next.cells)

next_before : (p q : Problem) (c : Con) (cs : List Con) → IsBefore p q (c ∷ cs) → IsBefore p (with_constraint q c) cs
next_before p q c cs is = record {
  has = record { lawful = is.has.lawful; same = is.has.same };
  same = is.same;
  split = is.split ∙ sym (append_assoc q.cons (c ∷ []) cs);
}

rest_breaks : (p q : Problem) (cs : List Con) → IsBefore p q cs → breaks_section q (map (constraint_of p) cs) ≡ []
rest_breaks p q [] is = refl
rest_breaks p q (c ∷ cs) is =
    let next = next_stands p q c cs is in
    part_nothing (length (spell_constraint (constraint_of p c))) (breaks_constraint q (constraint_of p c) NESTING (before_all q)) (breaks_section (after_constraint q (constraint_of p c)) (map (constraint_of p) cs))
    (ap (λ full. breaks_constraint q (constraint_of p c) NESTING (record { full = full; cells = cells_of q })) (has_room p q c cs is).count ∙ next.kept)
    (ap (λ (x : Con). breaks_section (with_constraint q x) (map (constraint_of p) cs)) next.means ∙ rest_breaks p (with_constraint q c) cs (next_before p q c cs is))

rest_stands : (p q : Problem) (cs : List Con) → IsBefore p q cs → value_section q (map (constraint_of p) cs) ≡ record q { cons = q.cons ++ cs }
rest_stands p q [] is = ap (λ (ds : List Con). record q { cons = ds }) (sym (append-nil q.cons))
rest_stands p q (c ∷ cs) is =
    ap (λ (x : Con). value_section (with_constraint q x) (map (constraint_of p) cs)) (next_stands p q c cs is).means
    ∙ (rest_stands p (with_constraint q c) cs (next_before p q c cs is)
    ∙ ap (λ (ds : List Con). record q { cons = ds }) (append_assoc q.cons (c ∷ []) cs))

-- all constraints of an instance, where the text has said all else
pub constraints_said : (p q : Problem) → HasVariables p q → q.tuples ≡ p.tuples → q.cons ≡ [] → (breaks_section q (map (constraint_of p) p.cons) ≡ []) × (value_section q (map (constraint_of p) p.cons) ≡ record q { cons = p.cons })
constraints_said p q has same none =
    let before : IsBefore p q p.cons = record { has = has; same = same; split = sym (ap (λ (ds : List Con). ds ++ p.cons) none) } in
    (rest_breaks p q p.cons before, rest_stands p q p.cons before ∙ ap (λ (ds : List Con). record q { cons = ds ++ p.cons }) none)

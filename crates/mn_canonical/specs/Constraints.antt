-- How constraints are written: a word, and the arguments in order.
use Rattle.std.specs.Prelude.{ℕ, ℤ, List, [], ◌∷◌, ◌++◌, map, codes}
use Rattle.std.specs.Fmt.{signed_decimal}
use Rattle.mn_model.specs.Problem.{Problem}
use Rattle.mn_model.specs.declared.constraint.Con.{Con}
use Rattle.mn_model.specs.declared.constraint.Cons.{Cons}
use Rattle.mn_model.specs.declared.constraint.Con.TheBlock.{more_of-Con, more_of-Cons}
use Rattle.mn_model.specs.declared.constraint.Con.TheVariants as con
use Rattle.mn_canonical.specs.Lists.{with_commas, bracketed, braced}
use Rattle.mn_canonical.specs.Names.{term_text, vector_text}
use Rattle.mn_canonical.specs.Tables.{table_text}

-- a list of numbers
abbrev pub numbers_text : List ℤ → List ℕ
numbers_text ks = bracketed (map signed_decimal ks)

-- a range of numbers
abbrev pub range_text : ℤ → ℤ → List ℕ
range_text k k2 = numbers_text (k ∷ k2 ∷ [])

-- a form: its word, and its arguments
unfoldable pub form_text : List ℕ → List (List ℕ) → List ℕ
form_text word arguments = word ++ codes "(" ++ with_commas arguments ++ codes ")"

-- a form with several constraints inside
abbrev pub gathered_text : List ℕ → List (List ℕ) → List ℕ
gathered_text word children = form_text word (braced children ∷ [])

-- A constraint. No instance holds a negation, which has no form: its text is that of what it negates.
abbrev mutual
  pub constraint_text : Problem → Con → List ℕ
  constraint_text p (con.Eq x y) = form_text (codes "eq") (term_text p x ∷ term_text p y ∷ [])
  constraint_text p (con.Diseq x y) = form_text (codes "diseq") (term_text p x ∷ term_text p y ∷ [])
  constraint_text p (con.Ineq x y k) = form_text (codes "ineq") (term_text p x ∷ term_text p y ∷ signed_decimal k ∷ [])
  constraint_text p (con.Watchless x y) = form_text (codes "watchless") (term_text p x ∷ term_text p y ∷ [])
  constraint_text p (con.Minuseq x y) = form_text (codes "minuseq") (term_text p x ∷ term_text p y ∷ [])
  constraint_text p (con.Abs x y) = form_text (codes "abs") (term_text p x ∷ term_text p y ∷ [])
  constraint_text p (con.Difference x y z) = form_text (codes "difference") (term_text p x ∷ term_text p y ∷ term_text p z ∷ [])
  constraint_text p (con.Product x y z) = form_text (codes "product") (term_text p x ∷ term_text p y ∷ term_text p z ∷ [])
  constraint_text p (con.Div x y z) = form_text (codes "div") (term_text p x ∷ term_text p y ∷ term_text p z ∷ [])
  constraint_text p (con.Modulo x y z) = form_text (codes "modulo") (term_text p x ∷ term_text p y ∷ term_text p z ∷ [])
  constraint_text p (con.Max v x) = form_text (codes "max") (vector_text p v ∷ term_text p x ∷ [])
  constraint_text p (con.Min v x) = form_text (codes "min") (vector_text p v ∷ term_text p x ∷ [])
  constraint_text p (con.Sumleq v x) = form_text (codes "sumleq") (vector_text p v ∷ term_text p x ∷ [])
  constraint_text p (con.Sumgeq v x) = form_text (codes "sumgeq") (vector_text p v ∷ term_text p x ∷ [])
  constraint_text p (con.Weightedsumleq ks v x) = form_text (codes "weightedsumleq") (numbers_text ks ∷ vector_text p v ∷ term_text p x ∷ [])
  constraint_text p (con.Weightedsumgeq ks v x) = form_text (codes "weightedsumgeq") (numbers_text ks ∷ vector_text p v ∷ term_text p x ∷ [])
  constraint_text p (con.Watchsumleq v k) = form_text (codes "watchsumleq") (vector_text p v ∷ signed_decimal k ∷ [])
  constraint_text p (con.Watchsumgeq v k) = form_text (codes "watchsumgeq") (vector_text p v ∷ signed_decimal k ∷ [])
  constraint_text p (con.Litsumgeq v ks k) = form_text (codes "litsumgeq") (vector_text p v ∷ numbers_text ks ∷ signed_decimal k ∷ [])
  constraint_text p (con.Element v x y) = form_text (codes "element") (vector_text p v ∷ term_text p x ∷ term_text p y ∷ [])
  constraint_text p (con.Watchelement v x y) = form_text (codes "watchelement") (vector_text p v ∷ term_text p x ∷ term_text p y ∷ [])
  constraint_text p (con.ElementOne v x y) = form_text (codes "element_one") (vector_text p v ∷ term_text p x ∷ term_text p y ∷ [])
  constraint_text p (con.WatchelementOne v x y) = form_text (codes "watchelement_one") (vector_text p v ∷ term_text p x ∷ term_text p y ∷ [])
  constraint_text p (con.Table v tab) = form_text (codes "table") (vector_text p v ∷ table_text p tab ∷ [])
  constraint_text p (con.Negativetable v tab) = form_text (codes "negativetable") (vector_text p v ∷ table_text p tab ∷ [])
  constraint_text p (con.Alldiff v) = form_text (codes "alldiff") (vector_text p v ∷ [])
  constraint_text p (con.Lexleq v w) = form_text (codes "lexleq") (vector_text p v ∷ vector_text p w ∷ [])
  constraint_text p (con.Lexless v w) = form_text (codes "lexless") (vector_text p v ∷ vector_text p w ∷ [])
  constraint_text p (con.Watchvecneq v w) = form_text (codes "watchvecneq") (vector_text p v ∷ vector_text p w ∷ [])
  constraint_text p (con.Hamming v w k) = form_text (codes "hamming") (vector_text p v ∷ vector_text p w ∷ signed_decimal k ∷ [])
  constraint_text p (con.Occurrence v k x) = form_text (codes "occurrence") (vector_text p v ∷ signed_decimal k ∷ term_text p x ∷ [])
  constraint_text p (con.Occurrenceleq v k k2) = form_text (codes "occurrenceleq") (vector_text p v ∷ signed_decimal k ∷ signed_decimal k2 ∷ [])
  constraint_text p (con.Occurrencegeq v k k2) = form_text (codes "occurrencegeq") (vector_text p v ∷ signed_decimal k ∷ signed_decimal k2 ∷ [])
  constraint_text p (con.Nvalueleq v x) = form_text (codes "nvalueleq") (vector_text p v ∷ term_text p x ∷ [])
  constraint_text p (con.WLiteral x k) = form_text (codes "w-literal") (term_text p x ∷ signed_decimal k ∷ [])
  constraint_text p (con.WNotliteral x k) = form_text (codes "w-notliteral") (term_text p x ∷ signed_decimal k ∷ [])
  constraint_text p (con.WInset x ks) = form_text (codes "w-inset") (term_text p x ∷ numbers_text ks ∷ [])
  constraint_text p (con.WNotinset x ks) = form_text (codes "w-notinset") (term_text p x ∷ numbers_text ks ∷ [])
  constraint_text p (con.WInrange x k k2) = form_text (codes "w-inrange") (term_text p x ∷ range_text k k2 ∷ [])
  constraint_text p (con.WNotinrange x k k2) = form_text (codes "w-notinrange") (term_text p x ∷ range_text k k2 ∷ [])
  constraint_text p (con.WInintervalset x ks) = form_text (codes "w-inintervalset") (term_text p x ∷ numbers_text ks ∷ [])
  constraint_text p con.Always = form_text (codes "true") []
  constraint_text p con.Never = form_text (codes "false") []
  constraint_text p (con.WatchedOr cs) = gathered_text (codes "watched-or") (children_texts p cs)
  constraint_text p (con.WatchedAnd cs) = gathered_text (codes "watched-and") (children_texts p cs)
  constraint_text p (con.Reify' q (more_of-Con c none) r) = form_text (codes "reify") (constraint_text p c ∷ term_text p r ∷ [])
  constraint_text p (con.Reifyimply' q (more_of-Con c none) r) = form_text (codes "reifyimply") (constraint_text p c ∷ term_text p r ∷ [])
  constraint_text p (con.Negated' q (more_of-Con c none)) = constraint_text p c

  pub children_texts : Problem → Cons → List (List ℕ)
  children_texts p con.End = []
  children_texts p (con.More' q (more_of-Con c none) r (more_of-Cons cs nothing)) = constraint_text p c ∷ children_texts p cs

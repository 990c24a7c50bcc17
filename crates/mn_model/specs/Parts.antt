-- What a constraint is made of, the constraints nested in it included.
use Rattle.std.specs.Prelude.{◌≡◌, ℕ, suc, ◌+◌, max, ℤ, List, [], ◌∷◌, ◌++◌, length}
use Rattle.mn_model.specs.declared.constraint.Con.{Con}
use Rattle.mn_model.specs.declared.constraint.Cons.{Cons}
use Rattle.mn_model.specs.declared.constraint.Con.TheVariants as con
use Rattle.mn_model.specs.declared.constraint.Con.TheBlock.{more_of-Con, more_of-Cons}
use Rattle.mn_model.specs.declared.constraint.Tab.{Tab}
use Rattle.mn_model.specs.declared.constraint.Tab.TheVariants.{Named, Here}
use Rattle.mn_model.specs.declared.constraint.Term.{Term}

-- the places: each term and each entry of a vector, in written order
abbrev mutual
  pub places : Con → List Term
  places (con.Eq x y) = x ∷ y ∷ []
  places (con.Diseq x y) = x ∷ y ∷ []
  places (con.Ineq x y k) = x ∷ y ∷ []
  places (con.Watchless x y) = x ∷ y ∷ []
  places (con.Minuseq x y) = x ∷ y ∷ []
  places (con.Abs x y) = x ∷ y ∷ []
  places (con.Difference x y z) = x ∷ y ∷ z ∷ []
  places (con.Product x y z) = x ∷ y ∷ z ∷ []
  places (con.Div x y z) = x ∷ y ∷ z ∷ []
  places (con.Modulo x y z) = x ∷ y ∷ z ∷ []
  places (con.Max v x) = v ++ x ∷ []
  places (con.Min v x) = v ++ x ∷ []
  places (con.Sumleq v x) = v ++ x ∷ []
  places (con.Sumgeq v x) = v ++ x ∷ []
  places (con.Weightedsumleq ks v x) = v ++ x ∷ []
  places (con.Weightedsumgeq ks v x) = v ++ x ∷ []
  places (con.Watchsumleq v k) = v
  places (con.Watchsumgeq v k) = v
  places (con.Litsumgeq v ks k) = v
  places (con.Element v x y) = v ++ x ∷ y ∷ []
  places (con.Watchelement v x y) = v ++ x ∷ y ∷ []
  places (con.ElementOne v x y) = v ++ x ∷ y ∷ []
  places (con.WatchelementOne v x y) = v ++ x ∷ y ∷ []
  places (con.Table v tab) = v
  places (con.Negativetable v tab) = v
  places (con.Alldiff v) = v
  places (con.Lexleq v w) = v ++ w
  places (con.Lexless v w) = v ++ w
  places (con.Watchvecneq v w) = v ++ w
  places (con.Hamming v w k) = v ++ w
  places (con.Occurrence v k x) = v ++ x ∷ []
  places (con.Occurrenceleq v k k2) = v
  places (con.Occurrencegeq v k k2) = v
  places (con.Nvalueleq v x) = v ++ x ∷ []
  places (con.WLiteral x k) = x ∷ []
  places (con.WNotliteral x k) = x ∷ []
  places (con.WInset x ks) = x ∷ []
  places (con.WNotinset x ks) = x ∷ []
  places (con.WInrange x k k2) = x ∷ []
  places (con.WNotinrange x k k2) = x ∷ []
  places (con.WInintervalset x ks) = x ∷ []
  places con.Always = []
  places con.Never = []
  places (con.WatchedOr cs) = places_of cs
  places (con.WatchedAnd cs) = places_of cs
  places (con.Reify' p (more_of-Con c none) r) = places c ++ r ∷ []
  places (con.Reifyimply' p (more_of-Con c none) r) = places c ++ r ∷ []
  places (con.Negated' p (more_of-Con c none)) = places c

  pub places_of : Cons → List Term
  places_of con.End = []
  places_of (con.More' p (more_of-Con c none) q (more_of-Cons cs nothing)) = places c ++ places_of cs

-- the places where a 0/1 term is wanted
abbrev mutual
  pub bits : Con → List Term
  bits (con.Eq x y) = []
  bits (con.Diseq x y) = []
  bits (con.Ineq x y k) = []
  bits (con.Watchless x y) = []
  bits (con.Minuseq x y) = []
  bits (con.Abs x y) = []
  bits (con.Difference x y z) = []
  bits (con.Product x y z) = []
  bits (con.Div x y z) = []
  bits (con.Modulo x y z) = []
  bits (con.Max v x) = []
  bits (con.Min v x) = []
  bits (con.Sumleq v x) = []
  bits (con.Sumgeq v x) = []
  bits (con.Weightedsumleq ks v x) = []
  bits (con.Weightedsumgeq ks v x) = []
  bits (con.Watchsumleq v k) = v
  bits (con.Watchsumgeq v k) = v
  bits (con.Litsumgeq v ks k) = []
  bits (con.Element v x y) = []
  bits (con.Watchelement v x y) = []
  bits (con.ElementOne v x y) = []
  bits (con.WatchelementOne v x y) = []
  bits (con.Table v tab) = []
  bits (con.Negativetable v tab) = []
  bits (con.Alldiff v) = []
  bits (con.Lexleq v w) = []
  bits (con.Lexless v w) = []
  bits (con.Watchvecneq v w) = []
  bits (con.Hamming v w k) = []
  bits (con.Occurrence v k x) = []
  bits (con.Occurrenceleq v k k2) = []
  bits (con.Occurrencegeq v k k2) = []
  bits (con.Nvalueleq v x) = []
  bits (con.WLiteral x k) = []
  bits (con.WNotliteral x k) = []
  bits (con.WInset x ks) = []
  bits (con.WNotinset x ks) = []
  bits (con.WInrange x k k2) = []
  bits (con.WNotinrange x k k2) = []
  bits (con.WInintervalset x ks) = []
  bits con.Always = []
  bits con.Never = []
  bits (con.WatchedOr cs) = bits_of cs
  bits (con.WatchedAnd cs) = bits_of cs
  bits (con.Reify' p (more_of-Con c none) r) = bits c ++ r ∷ []
  bits (con.Reifyimply' p (more_of-Con c none) r) = bits c ++ r ∷ []
  bits (con.Negated' p (more_of-Con c none)) = bits c

  pub bits_of : Cons → List Term
  bits_of con.End = []
  bits_of (con.More' p (more_of-Con c none) q (more_of-Cons cs nothing)) = bits c ++ bits_of cs

-- the tuples that are written in the constraint itself, one number after another
abbrev pub cells_here : Tab → List ℤ
cells_here (Named n) = []
cells_here (Here arity cells) = cells

-- the numbers that stand beside the places
abbrev mutual
  pub constants : Con → List ℤ
  constants (con.Eq x y) = []
  constants (con.Diseq x y) = []
  constants (con.Ineq x y k) = k ∷ []
  constants (con.Watchless x y) = []
  constants (con.Minuseq x y) = []
  constants (con.Abs x y) = []
  constants (con.Difference x y z) = []
  constants (con.Product x y z) = []
  constants (con.Div x y z) = []
  constants (con.Modulo x y z) = []
  constants (con.Max v x) = []
  constants (con.Min v x) = []
  constants (con.Sumleq v x) = []
  constants (con.Sumgeq v x) = []
  constants (con.Weightedsumleq ks v x) = ks
  constants (con.Weightedsumgeq ks v x) = ks
  constants (con.Watchsumleq v k) = k ∷ []
  constants (con.Watchsumgeq v k) = k ∷ []
  constants (con.Litsumgeq v ks k) = ks ++ k ∷ []
  constants (con.Element v x y) = []
  constants (con.Watchelement v x y) = []
  constants (con.ElementOne v x y) = []
  constants (con.WatchelementOne v x y) = []
  constants (con.Table v tab) = cells_here tab
  constants (con.Negativetable v tab) = cells_here tab
  constants (con.Alldiff v) = []
  constants (con.Lexleq v w) = []
  constants (con.Lexless v w) = []
  constants (con.Watchvecneq v w) = []
  constants (con.Hamming v w k) = k ∷ []
  constants (con.Occurrence v k x) = k ∷ []
  constants (con.Occurrenceleq v k k2) = k ∷ k2 ∷ []
  constants (con.Occurrencegeq v k k2) = k ∷ k2 ∷ []
  constants (con.Nvalueleq v x) = []
  constants (con.WLiteral x k) = k ∷ []
  constants (con.WNotliteral x k) = k ∷ []
  constants (con.WInset x ks) = ks
  constants (con.WNotinset x ks) = ks
  constants (con.WInrange x k k2) = k ∷ k2 ∷ []
  constants (con.WNotinrange x k k2) = k ∷ k2 ∷ []
  constants (con.WInintervalset x ks) = ks
  constants con.Always = []
  constants con.Never = []
  constants (con.WatchedOr cs) = constants_of cs
  constants (con.WatchedAnd cs) = constants_of cs
  constants (con.Reify' p (more_of-Con c none) r) = constants c
  constants (con.Reifyimply' p (more_of-Con c none) r) = constants c
  constants (con.Negated' p (more_of-Con c none)) = constants c

  pub constants_of : Cons → List ℤ
  constants_of con.End = []
  constants_of (con.More' p (more_of-Con c none) q (more_of-Cons cs nothing)) = constants c ++ constants_of cs

-- the vectors
abbrev mutual
  pub vectors : Con → List (List Term)
  vectors (con.Eq x y) = []
  vectors (con.Diseq x y) = []
  vectors (con.Ineq x y k) = []
  vectors (con.Watchless x y) = []
  vectors (con.Minuseq x y) = []
  vectors (con.Abs x y) = []
  vectors (con.Difference x y z) = []
  vectors (con.Product x y z) = []
  vectors (con.Div x y z) = []
  vectors (con.Modulo x y z) = []
  vectors (con.Max v x) = v ∷ []
  vectors (con.Min v x) = v ∷ []
  vectors (con.Sumleq v x) = v ∷ []
  vectors (con.Sumgeq v x) = v ∷ []
  vectors (con.Weightedsumleq ks v x) = v ∷ []
  vectors (con.Weightedsumgeq ks v x) = v ∷ []
  vectors (con.Watchsumleq v k) = v ∷ []
  vectors (con.Watchsumgeq v k) = v ∷ []
  vectors (con.Litsumgeq v ks k) = v ∷ []
  vectors (con.Element v x y) = v ∷ []
  vectors (con.Watchelement v x y) = v ∷ []
  vectors (con.ElementOne v x y) = v ∷ []
  vectors (con.WatchelementOne v x y) = v ∷ []
  vectors (con.Table v tab) = v ∷ []
  vectors (con.Negativetable v tab) = v ∷ []
  vectors (con.Alldiff v) = v ∷ []
  vectors (con.Lexleq v w) = v ∷ w ∷ []
  vectors (con.Lexless v w) = v ∷ w ∷ []
  vectors (con.Watchvecneq v w) = v ∷ w ∷ []
  vectors (con.Hamming v w k) = v ∷ w ∷ []
  vectors (con.Occurrence v k x) = v ∷ []
  vectors (con.Occurrenceleq v k k2) = v ∷ []
  vectors (con.Occurrencegeq v k k2) = v ∷ []
  vectors (con.Nvalueleq v x) = v ∷ []
  vectors (con.WLiteral x k) = []
  vectors (con.WNotliteral x k) = []
  vectors (con.WInset x ks) = []
  vectors (con.WNotinset x ks) = []
  vectors (con.WInrange x k k2) = []
  vectors (con.WNotinrange x k k2) = []
  vectors (con.WInintervalset x ks) = []
  vectors con.Always = []
  vectors con.Never = []
  vectors (con.WatchedOr cs) = vectors_of cs
  vectors (con.WatchedAnd cs) = vectors_of cs
  vectors (con.Reify' p (more_of-Con c none) r) = vectors c
  vectors (con.Reifyimply' p (more_of-Con c none) r) = vectors c
  vectors (con.Negated' p (more_of-Con c none)) = vectors c

  pub vectors_of : Cons → List (List Term)
  vectors_of con.End = []
  vectors_of (con.More' p (more_of-Con c none) q (more_of-Cons cs nothing)) = vectors c ++ vectors_of cs

-- the tables, each with the length of its vector
abbrev mutual
  pub tables : Con → List (ℕ × Tab)
  tables (con.Eq x y) = []
  tables (con.Diseq x y) = []
  tables (con.Ineq x y k) = []
  tables (con.Watchless x y) = []
  tables (con.Minuseq x y) = []
  tables (con.Abs x y) = []
  tables (con.Difference x y z) = []
  tables (con.Product x y z) = []
  tables (con.Div x y z) = []
  tables (con.Modulo x y z) = []
  tables (con.Max v x) = []
  tables (con.Min v x) = []
  tables (con.Sumleq v x) = []
  tables (con.Sumgeq v x) = []
  tables (con.Weightedsumleq ks v x) = []
  tables (con.Weightedsumgeq ks v x) = []
  tables (con.Watchsumleq v k) = []
  tables (con.Watchsumgeq v k) = []
  tables (con.Litsumgeq v ks k) = []
  tables (con.Element v x y) = []
  tables (con.Watchelement v x y) = []
  tables (con.ElementOne v x y) = []
  tables (con.WatchelementOne v x y) = []
  tables (con.Table v tab) = (length v, tab) ∷ []
  tables (con.Negativetable v tab) = (length v, tab) ∷ []
  tables (con.Alldiff v) = []
  tables (con.Lexleq v w) = []
  tables (con.Lexless v w) = []
  tables (con.Watchvecneq v w) = []
  tables (con.Hamming v w k) = []
  tables (con.Occurrence v k x) = []
  tables (con.Occurrenceleq v k k2) = []
  tables (con.Occurrencegeq v k k2) = []
  tables (con.Nvalueleq v x) = []
  tables (con.WLiteral x k) = []
  tables (con.WNotliteral x k) = []
  tables (con.WInset x ks) = []
  tables (con.WNotinset x ks) = []
  tables (con.WInrange x k k2) = []
  tables (con.WNotinrange x k k2) = []
  tables (con.WInintervalset x ks) = []
  tables con.Always = []
  tables con.Never = []
  tables (con.WatchedOr cs) = tables_of cs
  tables (con.WatchedAnd cs) = tables_of cs
  tables (con.Reify' p (more_of-Con c none) r) = tables c
  tables (con.Reifyimply' p (more_of-Con c none) r) = tables c
  tables (con.Negated' p (more_of-Con c none)) = tables c

  pub tables_of : Cons → List (ℕ × Tab)
  tables_of con.End = []
  tables_of (con.More' p (more_of-Con c none) q (more_of-Cons cs nothing)) = tables c ++ tables_of cs

-- how many cells the tables have that are written in the constraint
abbrev mutual
  pub cell_count : Con → ℕ
  cell_count (con.Eq x y) = 0
  cell_count (con.Diseq x y) = 0
  cell_count (con.Ineq x y k) = 0
  cell_count (con.Watchless x y) = 0
  cell_count (con.Minuseq x y) = 0
  cell_count (con.Abs x y) = 0
  cell_count (con.Difference x y z) = 0
  cell_count (con.Product x y z) = 0
  cell_count (con.Div x y z) = 0
  cell_count (con.Modulo x y z) = 0
  cell_count (con.Max v x) = 0
  cell_count (con.Min v x) = 0
  cell_count (con.Sumleq v x) = 0
  cell_count (con.Sumgeq v x) = 0
  cell_count (con.Weightedsumleq ks v x) = 0
  cell_count (con.Weightedsumgeq ks v x) = 0
  cell_count (con.Watchsumleq v k) = 0
  cell_count (con.Watchsumgeq v k) = 0
  cell_count (con.Litsumgeq v ks k) = 0
  cell_count (con.Element v x y) = 0
  cell_count (con.Watchelement v x y) = 0
  cell_count (con.ElementOne v x y) = 0
  cell_count (con.WatchelementOne v x y) = 0
  cell_count (con.Table v tab) = length (cells_here tab)
  cell_count (con.Negativetable v tab) = length (cells_here tab)
  cell_count (con.Alldiff v) = 0
  cell_count (con.Lexleq v w) = 0
  cell_count (con.Lexless v w) = 0
  cell_count (con.Watchvecneq v w) = 0
  cell_count (con.Hamming v w k) = 0
  cell_count (con.Occurrence v k x) = 0
  cell_count (con.Occurrenceleq v k k2) = 0
  cell_count (con.Occurrencegeq v k k2) = 0
  cell_count (con.Nvalueleq v x) = 0
  cell_count (con.WLiteral x k) = 0
  cell_count (con.WNotliteral x k) = 0
  cell_count (con.WInset x ks) = 0
  cell_count (con.WNotinset x ks) = 0
  cell_count (con.WInrange x k k2) = 0
  cell_count (con.WNotinrange x k k2) = 0
  cell_count (con.WInintervalset x ks) = 0
  cell_count con.Always = 0
  cell_count con.Never = 0
  cell_count (con.WatchedOr cs) = cell_count_of cs
  cell_count (con.WatchedAnd cs) = cell_count_of cs
  cell_count (con.Reify' p (more_of-Con c none) r) = cell_count c
  cell_count (con.Reifyimply' p (more_of-Con c none) r) = cell_count c
  cell_count (con.Negated' p (more_of-Con c none)) = cell_count c

  pub cell_count_of : Cons → ℕ
  cell_count_of con.End = 0
  cell_count_of (con.More' p (more_of-Con c none) q (more_of-Cons cs nothing)) = cell_count c + cell_count_of cs

-- how many nested forms stand inside one another at most; leaves don't count
abbrev mutual
  pub nesting : Con → ℕ
  nesting (con.Eq x y) = 0
  nesting (con.Diseq x y) = 0
  nesting (con.Ineq x y k) = 0
  nesting (con.Watchless x y) = 0
  nesting (con.Minuseq x y) = 0
  nesting (con.Abs x y) = 0
  nesting (con.Difference x y z) = 0
  nesting (con.Product x y z) = 0
  nesting (con.Div x y z) = 0
  nesting (con.Modulo x y z) = 0
  nesting (con.Max v x) = 0
  nesting (con.Min v x) = 0
  nesting (con.Sumleq v x) = 0
  nesting (con.Sumgeq v x) = 0
  nesting (con.Weightedsumleq ks v x) = 0
  nesting (con.Weightedsumgeq ks v x) = 0
  nesting (con.Watchsumleq v k) = 0
  nesting (con.Watchsumgeq v k) = 0
  nesting (con.Litsumgeq v ks k) = 0
  nesting (con.Element v x y) = 0
  nesting (con.Watchelement v x y) = 0
  nesting (con.ElementOne v x y) = 0
  nesting (con.WatchelementOne v x y) = 0
  nesting (con.Table v tab) = 0
  nesting (con.Negativetable v tab) = 0
  nesting (con.Alldiff v) = 0
  nesting (con.Lexleq v w) = 0
  nesting (con.Lexless v w) = 0
  nesting (con.Watchvecneq v w) = 0
  nesting (con.Hamming v w k) = 0
  nesting (con.Occurrence v k x) = 0
  nesting (con.Occurrenceleq v k k2) = 0
  nesting (con.Occurrencegeq v k k2) = 0
  nesting (con.Nvalueleq v x) = 0
  nesting (con.WLiteral x k) = 0
  nesting (con.WNotliteral x k) = 0
  nesting (con.WInset x ks) = 0
  nesting (con.WNotinset x ks) = 0
  nesting (con.WInrange x k k2) = 0
  nesting (con.WNotinrange x k k2) = 0
  nesting (con.WInintervalset x ks) = 0
  nesting con.Always = 0
  nesting con.Never = 0
  nesting (con.WatchedOr cs) = suc (nesting_of cs)
  nesting (con.WatchedAnd cs) = suc (nesting_of cs)
  nesting (con.Reify' p (more_of-Con c none) r) = suc (nesting c)
  nesting (con.Reifyimply' p (more_of-Con c none) r) = suc (nesting c)
  nesting (con.Negated' p (more_of-Con c none)) = nesting c

  pub nesting_of : Cons → ℕ
  nesting_of con.End = 0
  nesting_of (con.More' p (more_of-Con c none) q (more_of-Cons cs nothing)) = max (nesting c) (nesting_of cs)

-- there is one for every two
abbrev pub IsEven : {X : Type 0} → List X → Type 0
IsEven [] = Unit {0}
IsEven (x ∷ []) = ⊥
IsEven (x ∷ y ∷ xs) = IsEven xs

-- lists that must agree in length do, none is empty that may not be, and ends of intervals come in pairs
abbrev mutual
  pub IsShaped : Con → Type 0
  IsShaped (con.Eq x y) = Unit {0}
  IsShaped (con.Diseq x y) = Unit {0}
  IsShaped (con.Ineq x y k) = Unit {0}
  IsShaped (con.Watchless x y) = Unit {0}
  IsShaped (con.Minuseq x y) = Unit {0}
  IsShaped (con.Abs x y) = Unit {0}
  IsShaped (con.Difference x y z) = Unit {0}
  IsShaped (con.Product x y z) = Unit {0}
  IsShaped (con.Div x y z) = Unit {0}
  IsShaped (con.Modulo x y z) = Unit {0}
  IsShaped (con.Max v x) = v ≡ [] → ⊥
  IsShaped (con.Min v x) = v ≡ [] → ⊥
  IsShaped (con.Sumleq v x) = Unit {0}
  IsShaped (con.Sumgeq v x) = Unit {0}
  IsShaped (con.Weightedsumleq ks v x) = length ks ≡ length v
  IsShaped (con.Weightedsumgeq ks v x) = length ks ≡ length v
  IsShaped (con.Watchsumleq v k) = Unit {0}
  IsShaped (con.Watchsumgeq v k) = Unit {0}
  IsShaped (con.Litsumgeq v ks k) = length ks ≡ length v
  IsShaped (con.Element v x y) = Unit {0}
  IsShaped (con.Watchelement v x y) = Unit {0}
  IsShaped (con.ElementOne v x y) = Unit {0}
  IsShaped (con.WatchelementOne v x y) = Unit {0}
  IsShaped (con.Table v tab) = v ≡ [] → ⊥
  IsShaped (con.Negativetable v tab) = v ≡ [] → ⊥
  IsShaped (con.Alldiff v) = Unit {0}
  IsShaped (con.Lexleq v w) = length w ≡ length v
  IsShaped (con.Lexless v w) = length w ≡ length v
  IsShaped (con.Watchvecneq v w) = length w ≡ length v
  IsShaped (con.Hamming v w k) = length w ≡ length v
  IsShaped (con.Occurrence v k x) = Unit {0}
  IsShaped (con.Occurrenceleq v k k2) = Unit {0}
  IsShaped (con.Occurrencegeq v k k2) = Unit {0}
  IsShaped (con.Nvalueleq v x) = Unit {0}
  IsShaped (con.WLiteral x k) = Unit {0}
  IsShaped (con.WNotliteral x k) = Unit {0}
  IsShaped (con.WInset x ks) = Unit {0}
  IsShaped (con.WNotinset x ks) = Unit {0}
  IsShaped (con.WInrange x k k2) = Unit {0}
  IsShaped (con.WNotinrange x k k2) = Unit {0}
  IsShaped (con.WInintervalset x ks) = IsEven ks
  IsShaped con.Always = Unit {0}
  IsShaped con.Never = Unit {0}
  IsShaped (con.WatchedOr cs) = AreShaped cs
  IsShaped (con.WatchedAnd cs) = AreShaped cs
  IsShaped (con.Reify' p (more_of-Con c none) r) = IsShaped c
  IsShaped (con.Reifyimply' p (more_of-Con c none) r) = IsShaped c
  IsShaped (con.Negated' p (more_of-Con c none)) = IsShaped c

  pub AreShaped : Cons → Type 0
  AreShaped con.End = Unit {0}
  AreShaped (con.More' p (more_of-Con c none) q (more_of-Cons cs nothing)) = IsShaped c × AreShaped cs

-- it holds no `Negated`, so it can be written
abbrev mutual
  pub IsWritten : Con → Type 0
  IsWritten (con.Eq x y) = Unit {0}
  IsWritten (con.Diseq x y) = Unit {0}
  IsWritten (con.Ineq x y k) = Unit {0}
  IsWritten (con.Watchless x y) = Unit {0}
  IsWritten (con.Minuseq x y) = Unit {0}
  IsWritten (con.Abs x y) = Unit {0}
  IsWritten (con.Difference x y z) = Unit {0}
  IsWritten (con.Product x y z) = Unit {0}
  IsWritten (con.Div x y z) = Unit {0}
  IsWritten (con.Modulo x y z) = Unit {0}
  IsWritten (con.Max v x) = Unit {0}
  IsWritten (con.Min v x) = Unit {0}
  IsWritten (con.Sumleq v x) = Unit {0}
  IsWritten (con.Sumgeq v x) = Unit {0}
  IsWritten (con.Weightedsumleq ks v x) = Unit {0}
  IsWritten (con.Weightedsumgeq ks v x) = Unit {0}
  IsWritten (con.Watchsumleq v k) = Unit {0}
  IsWritten (con.Watchsumgeq v k) = Unit {0}
  IsWritten (con.Litsumgeq v ks k) = Unit {0}
  IsWritten (con.Element v x y) = Unit {0}
  IsWritten (con.Watchelement v x y) = Unit {0}
  IsWritten (con.ElementOne v x y) = Unit {0}
  IsWritten (con.WatchelementOne v x y) = Unit {0}
  IsWritten (con.Table v tab) = Unit {0}
  IsWritten (con.Negativetable v tab) = Unit {0}
  IsWritten (con.Alldiff v) = Unit {0}
  IsWritten (con.Lexleq v w) = Unit {0}
  IsWritten (con.Lexless v w) = Unit {0}
  IsWritten (con.Watchvecneq v w) = Unit {0}
  IsWritten (con.Hamming v w k) = Unit {0}
  IsWritten (con.Occurrence v k x) = Unit {0}
  IsWritten (con.Occurrenceleq v k k2) = Unit {0}
  IsWritten (con.Occurrencegeq v k k2) = Unit {0}
  IsWritten (con.Nvalueleq v x) = Unit {0}
  IsWritten (con.WLiteral x k) = Unit {0}
  IsWritten (con.WNotliteral x k) = Unit {0}
  IsWritten (con.WInset x ks) = Unit {0}
  IsWritten (con.WNotinset x ks) = Unit {0}
  IsWritten (con.WInrange x k k2) = Unit {0}
  IsWritten (con.WNotinrange x k k2) = Unit {0}
  IsWritten (con.WInintervalset x ks) = Unit {0}
  IsWritten con.Always = Unit {0}
  IsWritten con.Never = Unit {0}
  IsWritten (con.WatchedOr cs) = AreWritten cs
  IsWritten (con.WatchedAnd cs) = AreWritten cs
  IsWritten (con.Reify' p (more_of-Con c none) r) = IsWritten c
  IsWritten (con.Reifyimply' p (more_of-Con c none) r) = IsWritten c
  IsWritten (con.Negated' p (more_of-Con c none)) = ⊥

  pub AreWritten : Cons → Type 0
  AreWritten con.End = Unit {0}
  AreWritten (con.More' p (more_of-Con c none) q (more_of-Cons cs nothing)) = IsWritten c × AreWritten cs

-- The forms of constraints: which are leaves, and what is denied and reified inside one.
use Rattle.std.specs.Prelude.{List}
use Rattle.mn_model.specs.Lawful.{IsMeant}
use Rattle.mn_model.specs.Negation.{negation}
use Rattle.mn_model.specs.Parts.{IsWritten}
use Rattle.mn_model.specs.declared.constraint.Con.{Con}
use Rattle.mn_model.specs.declared.constraint.Cons.{Cons}
use Rattle.mn_model.specs.declared.constraint.Con.TheVariants as con
use Rattle.mn_model.specs.declared.constraint.Con.TheBlock.{more_of-Con, more_of-Cons, end_of-Con}
use Rattle.mn_model.specs.declared.constraint.Term.{Term}
use Rattle.mn_model.specs.declared.declaration.Tuples.{Tuples}

-- the constraint, implied by r = 1
abbrev pub implied : Con → Term → Con
implied c r = con.Reifyimply' tt (more_of-Con c end_of-Con) r

-- it is narrowed as one: none of the four forms whose parts are narrowed each by itself
abbrev pub IsLeaf : Con → Type 0
IsLeaf (con.Eq x y) = Unit {0}
IsLeaf (con.Diseq x y) = Unit {0}
IsLeaf (con.Ineq x y k) = Unit {0}
IsLeaf (con.Watchless x y) = Unit {0}
IsLeaf (con.Minuseq x y) = Unit {0}
IsLeaf (con.Abs x y) = Unit {0}
IsLeaf (con.Difference x y z) = Unit {0}
IsLeaf (con.Product x y z) = Unit {0}
IsLeaf (con.Div x y z) = Unit {0}
IsLeaf (con.Modulo x y z) = Unit {0}
IsLeaf (con.Max v x) = Unit {0}
IsLeaf (con.Min v x) = Unit {0}
IsLeaf (con.Sumleq v x) = Unit {0}
IsLeaf (con.Sumgeq v x) = Unit {0}
IsLeaf (con.Weightedsumleq ks v x) = Unit {0}
IsLeaf (con.Weightedsumgeq ks v x) = Unit {0}
IsLeaf (con.Watchsumleq v k) = Unit {0}
IsLeaf (con.Watchsumgeq v k) = Unit {0}
IsLeaf (con.Litsumgeq v ks k) = Unit {0}
IsLeaf (con.Element v x y) = Unit {0}
IsLeaf (con.Watchelement v x y) = Unit {0}
IsLeaf (con.ElementOne v x y) = Unit {0}
IsLeaf (con.WatchelementOne v x y) = Unit {0}
IsLeaf (con.Table v tab) = Unit {0}
IsLeaf (con.Negativetable v tab) = Unit {0}
IsLeaf (con.Alldiff v) = Unit {0}
IsLeaf (con.Lexleq v w) = Unit {0}
IsLeaf (con.Lexless v w) = Unit {0}
IsLeaf (con.Watchvecneq v w) = Unit {0}
IsLeaf (con.Hamming v w k) = Unit {0}
IsLeaf (con.Occurrence v k x) = Unit {0}
IsLeaf (con.Occurrenceleq v k k2) = Unit {0}
IsLeaf (con.Occurrencegeq v k k2) = Unit {0}
IsLeaf (con.Nvalueleq v x) = Unit {0}
IsLeaf (con.WLiteral x k) = Unit {0}
IsLeaf (con.WNotliteral x k) = Unit {0}
IsLeaf (con.WInset x ks) = Unit {0}
IsLeaf (con.WNotinset x ks) = Unit {0}
IsLeaf (con.WInrange x k k2) = Unit {0}
IsLeaf (con.WNotinrange x k k2) = Unit {0}
IsLeaf (con.WInintervalset x ks) = Unit {0}
IsLeaf con.Always = Unit {0}
IsLeaf con.Never = Unit {0}
IsLeaf (con.WatchedOr cs) = ⊥
IsLeaf (con.WatchedAnd cs) = ⊥
IsLeaf (con.Reify' p (more_of-Con c none) r) = ⊥
IsLeaf (con.Reifyimply' p (more_of-Con c none) r) = ⊥
IsLeaf (con.Negated' p (more_of-Con c none)) = Unit {0}

-- it is one of these four
abbrev pub HasParts : Con → Type 0
HasParts (con.WatchedOr cs) = Unit {0}
HasParts (con.WatchedAnd cs) = Unit {0}
HasParts (con.Reify' p (more_of-Con c none) r) = Unit {0}
HasParts (con.Reifyimply' p (more_of-Con c none) r) = Unit {0}
HasParts c = ⊥

-- a leaf that can be written
abbrev pub IsWrittenLeaf : Con → Type 0
IsWrittenLeaf c = IsLeaf c × IsWritten c

-- each constraint that is denied inside this one (it stands behind `Negated`) has one property, and each that is reified
-- there has another
abbrev mutual
  pub HasInside : (Con → Type 0) → (Con → Type 0) → Con → Type 0
  HasInside Denied Reified (con.Eq x y) = Unit {0}
  HasInside Denied Reified (con.Diseq x y) = Unit {0}
  HasInside Denied Reified (con.Ineq x y k) = Unit {0}
  HasInside Denied Reified (con.Watchless x y) = Unit {0}
  HasInside Denied Reified (con.Minuseq x y) = Unit {0}
  HasInside Denied Reified (con.Abs x y) = Unit {0}
  HasInside Denied Reified (con.Difference x y z) = Unit {0}
  HasInside Denied Reified (con.Product x y z) = Unit {0}
  HasInside Denied Reified (con.Div x y z) = Unit {0}
  HasInside Denied Reified (con.Modulo x y z) = Unit {0}
  HasInside Denied Reified (con.Max v x) = Unit {0}
  HasInside Denied Reified (con.Min v x) = Unit {0}
  HasInside Denied Reified (con.Sumleq v x) = Unit {0}
  HasInside Denied Reified (con.Sumgeq v x) = Unit {0}
  HasInside Denied Reified (con.Weightedsumleq ks v x) = Unit {0}
  HasInside Denied Reified (con.Weightedsumgeq ks v x) = Unit {0}
  HasInside Denied Reified (con.Watchsumleq v k) = Unit {0}
  HasInside Denied Reified (con.Watchsumgeq v k) = Unit {0}
  HasInside Denied Reified (con.Litsumgeq v ks k) = Unit {0}
  HasInside Denied Reified (con.Element v x y) = Unit {0}
  HasInside Denied Reified (con.Watchelement v x y) = Unit {0}
  HasInside Denied Reified (con.ElementOne v x y) = Unit {0}
  HasInside Denied Reified (con.WatchelementOne v x y) = Unit {0}
  HasInside Denied Reified (con.Table v tab) = Unit {0}
  HasInside Denied Reified (con.Negativetable v tab) = Unit {0}
  HasInside Denied Reified (con.Alldiff v) = Unit {0}
  HasInside Denied Reified (con.Lexleq v w) = Unit {0}
  HasInside Denied Reified (con.Lexless v w) = Unit {0}
  HasInside Denied Reified (con.Watchvecneq v w) = Unit {0}
  HasInside Denied Reified (con.Hamming v w k) = Unit {0}
  HasInside Denied Reified (con.Occurrence v k x) = Unit {0}
  HasInside Denied Reified (con.Occurrenceleq v k k2) = Unit {0}
  HasInside Denied Reified (con.Occurrencegeq v k k2) = Unit {0}
  HasInside Denied Reified (con.Nvalueleq v x) = Unit {0}
  HasInside Denied Reified (con.WLiteral x k) = Unit {0}
  HasInside Denied Reified (con.WNotliteral x k) = Unit {0}
  HasInside Denied Reified (con.WInset x ks) = Unit {0}
  HasInside Denied Reified (con.WNotinset x ks) = Unit {0}
  HasInside Denied Reified (con.WInrange x k k2) = Unit {0}
  HasInside Denied Reified (con.WNotinrange x k k2) = Unit {0}
  HasInside Denied Reified (con.WInintervalset x ks) = Unit {0}
  HasInside Denied Reified con.Always = Unit {0}
  HasInside Denied Reified con.Never = Unit {0}
  HasInside Denied Reified (con.WatchedOr cs) = HaveInside Denied Reified cs
  HasInside Denied Reified (con.WatchedAnd cs) = HaveInside Denied Reified cs
  HasInside Denied Reified (con.Reify' p (more_of-Con c none) r) = Reified c × HasInside Denied Reified c
  HasInside Denied Reified (con.Reifyimply' p (more_of-Con c none) r) = HasInside Denied Reified c
  HasInside Denied Reified (con.Negated' p (more_of-Con c none)) = Denied c

  pub HaveInside : (Con → Type 0) → (Con → Type 0) → Cons → Type 0
  HaveInside Denied Reified con.End = Unit {0}
  HaveInside Denied Reified (con.More' p (more_of-Con c none) q (more_of-Cons cs nothing)) = HasInside Denied Reified c × HaveInside Denied Reified cs

-- `Negated` stands before leaves alone, as negations make it
abbrev pub DeniesLeaves : Con → Type 0
DeniesLeaves c = HasInside IsWrittenLeaf (λ inner. Unit {0}) c

-- so it is with the children of a form
abbrev pub DenyLeaves : Cons → Type 0
DenyLeaves cs = HaveInside IsWrittenLeaf (λ inner. Unit {0}) cs

-- and what is reified has a meaning where it is denied, too
abbrev pub CanBeSigned : List Tuples → Con → Type 0
CanBeSigned lists c = HasInside IsWrittenLeaf (λ inner. IsMeant lists (negation inner)) c

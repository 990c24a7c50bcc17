-- The negation of a constraint.
use Rattle.std.specs.Prelude.{ℤ, pos, negsuc, neg_ℤ, ◌-ℤ◌, ◌+ℤ◌, List, [], ◌∷◌, ◌++◌, length, replicate}
use Rattle.mn_model.specs.declared.constraint.Con.{Con}
use Rattle.mn_model.specs.declared.constraint.Cons.{Cons}
use Rattle.mn_model.specs.declared.constraint.Con.TheVariants as con
use Rattle.mn_model.specs.declared.constraint.Con.TheBlock.{more_of-Con, end_of-Con, more_of-Cons, end_of-Cons}
use Rattle.mn_model.specs.declared.constraint.Term.{Term}
use Rattle.mn_model.specs.declared.constraint.Term.TheVariants.{Var, Const, Not}

-- constraints around another
abbrev pub reified : Con → Term → Con
reified c r = con.Reify' tt (more_of-Con c end_of-Con) r

abbrev pub negated : Con → Con
negated c = con.Negated' tt (more_of-Con c end_of-Con)

-- a child in front of others
abbrev pub more : Con → Cons → Cons
more c cs = con.More' tt (more_of-Con c end_of-Con) tt (more_of-Cons cs end_of-Cons)

-- these constraints in front of others
abbrev pub followed_by : List Con → Cons → Cons
followed_by [] others = others
followed_by (c ∷ cs) others = more c (followed_by cs others)

-- the other of the values 0 and 1
abbrev pub other : Term → Term
other (Var v) = Not v
other (Const k) = Const (pos 1 -ℤ k)
other (Not v) = Var v

-- the sum of a vector less x is at least, at most a number
abbrev pub at_least_above : List ℤ → List Term → Term → Con
at_least_above ks v x = con.Weightedsumgeq (ks ++ negsuc 0 ∷ []) (v ++ x ∷ []) (Const (pos 1))

abbrev pub at_most_below : List ℤ → List Term → Term → Con
at_most_below ks v x = con.Weightedsumleq (ks ++ negsuc 0 ∷ []) (v ++ x ∷ []) (Const (negsuc 0))

-- as many ones as the vector has places
abbrev pub ones : List Term → List ℤ
ones v = replicate (length v) (pos 1)

-- what holds exactly where the constraint doesn't
abbrev mutual
  pub negation : Con → Con
  negation (con.Eq x y) = con.Diseq x y
  negation (con.Diseq x y) = con.Eq x y
  negation (con.Ineq x y k) = con.Ineq y x (neg_ℤ k -ℤ pos 1)
  negation (con.Watchless x y) = con.Ineq y x (pos 0)
  negation (con.Minuseq x y) = negated (con.Minuseq x y)
  negation (con.Abs x y) = negated (con.Abs x y)
  negation (con.Difference x y z) = negated (con.Difference x y z)
  negation (con.Product x y z) = negated (con.Product x y z)
  negation (con.Div x y z) = negated (con.Div x y z)
  negation (con.Modulo x y z) = negated (con.Modulo x y z)
  negation (con.Max v x) = negated (con.Max v x)
  negation (con.Min v x) = negated (con.Min v x)
  negation (con.Sumleq v x) = at_least_above (ones v) v x
  negation (con.Sumgeq v x) = at_most_below (ones v) v x
  negation (con.Weightedsumleq ks v x) = at_least_above ks v x
  negation (con.Weightedsumgeq ks v x) = at_most_below ks v x
  negation (con.Watchsumleq v k) = con.Watchsumgeq v (k +ℤ pos 1)
  negation (con.Watchsumgeq v k) = con.Watchsumleq v (k -ℤ pos 1)
  negation (con.Litsumgeq v ks k) = negated (con.Litsumgeq v ks k)
  negation (con.Element v x y) = negated (con.Element v x y)
  negation (con.Watchelement v x y) = negated (con.Watchelement v x y)
  negation (con.ElementOne v x y) = negated (con.ElementOne v x y)
  negation (con.WatchelementOne v x y) = negated (con.WatchelementOne v x y)
  negation (con.Table v tab) = con.Negativetable v tab
  negation (con.Negativetable v tab) = con.Table v tab
  negation (con.Alldiff v) = negated (con.Alldiff v)
  negation (con.Lexleq v w) = con.Lexless w v
  negation (con.Lexless v w) = con.Lexleq w v
  negation (con.Watchvecneq v w) = negated (con.Watchvecneq v w)
  negation (con.Hamming v w k) = negated (con.Hamming v w k)
  negation (con.Occurrence v k x) = negated (con.Occurrence v k x)
  negation (con.Occurrenceleq v k k2) = con.Occurrencegeq v k (k2 +ℤ pos 1)
  negation (con.Occurrencegeq v k k2) = con.Occurrenceleq v k (k2 -ℤ pos 1)
  negation (con.Nvalueleq v x) = negated (con.Nvalueleq v x)
  negation (con.WLiteral x k) = con.WNotliteral x k
  negation (con.WNotliteral x k) = con.WLiteral x k
  negation (con.WInset x ks) = con.WNotinset x ks
  negation (con.WNotinset x ks) = con.WInset x ks
  negation (con.WInrange x k k2) = con.WNotinrange x k k2
  negation (con.WNotinrange x k k2) = con.WInrange x k k2
  negation (con.WInintervalset x ks) = negated (con.WInintervalset x ks)
  negation con.Always = con.Never
  negation con.Never = con.Always
  negation (con.WatchedOr cs) = con.WatchedAnd (negations cs)
  negation (con.WatchedAnd cs) = con.WatchedOr (negations cs)
  negation (con.Reify' p (more_of-Con c none) r) = reified c (other r)
  negation (con.Reifyimply' p (more_of-Con c none) r) = con.WatchedAnd (more (con.WLiteral r (pos 1)) (more (negation c) con.End))
  negation (con.Negated' p (more_of-Con c none)) = c

  pub negations : Cons → Cons
  negations con.End = con.End
  negations (con.More' p (more_of-Con c none) q (more_of-Cons cs nothing)) = more (negation c) (negations cs)

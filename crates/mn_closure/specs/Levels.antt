-- How far the values of a constraint's places are narrowed.
use Rattle.std.specs.Prelude.{Bool, true, false}
use Rattle.mn_model.specs.declared.constraint.Con.{Con}
use Rattle.mn_model.specs.declared.constraint.Con.TheVariants as con
use Rattle.mn_model.specs.declared.constraint.Con.TheBlock.{more_of-Con}

-- Arc: to the values that stand in a choice which meets the constraint. Hull: to ends that do so among all numbers between
-- the ends. Fixed: to the values that no other place has alone. Last: to those that meet it where all else is single
pub data Level : Type 0 where
  Arc : Level
  Fixed : Level
  Hull : Level
  Last : Level

-- the level of each form in the language (this project's profile of the Minion manual)
abbrev pub level_of : Con → Level
level_of (con.Eq x y) = Arc
level_of (con.Diseq x y) = Arc
level_of (con.Ineq x y k) = Arc
level_of (con.Watchless x y) = Arc
level_of (con.Minuseq x y) = Arc
level_of (con.Abs x y) = Arc
level_of (con.Difference x y z) = Hull
level_of (con.Product x y z) = Hull
level_of (con.Div x y z) = Last
level_of (con.Modulo x y z) = Last
level_of (con.Max v x) = Arc
level_of (con.Min v x) = Arc
level_of (con.Sumleq v x) = Arc
level_of (con.Sumgeq v x) = Arc
level_of (con.Weightedsumleq ks v x) = Arc
level_of (con.Weightedsumgeq ks v x) = Arc
level_of (con.Watchsumleq v k) = Arc
level_of (con.Watchsumgeq v k) = Arc
level_of (con.Litsumgeq v ks k) = Arc
level_of (con.Element v x y) = Arc
level_of (con.Watchelement v x y) = Arc
level_of (con.ElementOne v x y) = Arc
level_of (con.WatchelementOne v x y) = Arc
level_of (con.Table v tab) = Arc
level_of (con.Negativetable v tab) = Arc
level_of (con.Alldiff v) = Fixed
level_of (con.Lexleq v w) = Arc
level_of (con.Lexless v w) = Arc
level_of (con.Watchvecneq v w) = Arc
level_of (con.Hamming v w k) = Arc
level_of (con.Occurrence v k x) = Arc
level_of (con.Occurrenceleq v k k2) = Arc
level_of (con.Occurrencegeq v k k2) = Arc
level_of (con.Nvalueleq v x) = Last
level_of (con.WLiteral x k) = Arc
level_of (con.WNotliteral x k) = Arc
level_of (con.WInset x ks) = Arc
level_of (con.WNotinset x ks) = Arc
level_of (con.WInrange x k k2) = Arc
level_of (con.WNotinrange x k k2) = Arc
level_of (con.WInintervalset x ks) = Arc
level_of con.Always = Arc
level_of con.Never = Arc
level_of (con.WatchedOr cs) = Last
level_of (con.WatchedAnd cs) = Last
level_of (con.Reify' p (more_of-Con c none) r) = Last
level_of (con.Reifyimply' p (more_of-Con c none) r) = Last
level_of (con.Negated' p (more_of-Con c none)) = Last

-- the forms that have a propagator of their own today
abbrev pub is_built : Con → Bool
is_built (con.Eq x y) = true
is_built (con.Diseq x y) = true
is_built (con.Ineq x y k) = true
is_built (con.Watchless x y) = true
is_built (con.Minuseq x y) = true
is_built (con.Abs x y) = true
is_built (con.Difference x y z) = true
is_built (con.Product x y z) = true
is_built (con.Div x y z) = false
is_built (con.Modulo x y z) = false
is_built (con.Max v x) = true
is_built (con.Min v x) = true
is_built (con.Sumleq v x) = true
is_built (con.Sumgeq v x) = true
is_built (con.Weightedsumleq ks v x) = true
is_built (con.Weightedsumgeq ks v x) = true
is_built (con.Watchsumleq v k) = true
is_built (con.Watchsumgeq v k) = true
is_built (con.Litsumgeq v ks k) = true
is_built (con.Element v x y) = true
is_built (con.Watchelement v x y) = true
is_built (con.ElementOne v x y) = true
is_built (con.WatchelementOne v x y) = true
is_built (con.Table v tab) = true
is_built (con.Negativetable v tab) = true
is_built (con.Alldiff v) = true
is_built (con.Lexleq v w) = true
is_built (con.Lexless v w) = true
is_built (con.Watchvecneq v w) = true
is_built (con.Hamming v w k) = true
is_built (con.Occurrence v k x) = true
is_built (con.Occurrenceleq v k k2) = true
is_built (con.Occurrencegeq v k k2) = true
is_built (con.Nvalueleq v x) = true
is_built (con.WLiteral x k) = true
is_built (con.WNotliteral x k) = true
is_built (con.WInset x ks) = true
is_built (con.WNotinset x ks) = true
is_built (con.WInrange x k k2) = true
is_built (con.WNotinrange x k k2) = true
is_built (con.WInintervalset x ks) = true
is_built con.Always = true
is_built con.Never = true
is_built (con.WatchedOr cs) = false
is_built (con.WatchedAnd cs) = false
is_built (con.Reify' p c r) = false
is_built (con.Reifyimply' p c r) = false
is_built (con.Negated' p c) = false

-- until it has one it is narrowed as a form of level Last
abbrev pub level_when : Bool → Level → Level
level_when true l = l
level_when false l = Last

abbrev pub level : Con → Level
level c = level_when (is_built c) (level_of c)

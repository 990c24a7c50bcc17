-- The constraint that a `Basic` narrows.
use Rattle.std.specs.Prelude.{Bool, true, false}
use Rattle.mn_model.specs.declared.constraint.Con.{Con}
use Rattle.mn_model.specs.declared.constraint.Con.TheVariants as con
use Rattle.mn_prop.specs.Forwards.{checked}
use Rattle.mn_prop.specs.Posts.{Posted}
use Rattle.mn_basic.specs.Binaries.{differ_of, ineq_of}
use Rattle.mn_basic.specs.Ties.{tied_of}
use Rattle.mn_basic.specs.Unaries.{in_one_change, unary_of}
use Rattle.mn_basic.specs.declared.basic.Basic.{Basic}
use Rattle.mn_basic.specs.declared.basic.Basic.TheVariants.{Differ, Ineq, Tied, Unary, Forward}

-- the forms of this crate: those of two terms and of one, and those that are checked forward. The others have a crate of their
-- own
abbrev pub is_basic : Con → Bool
is_basic (con.Sumleq v x) = false
is_basic (con.Sumgeq v x) = false
is_basic (con.Weightedsumleq ks v x) = false
is_basic (con.Weightedsumgeq ks v x) = false
is_basic (con.Watchsumleq v k) = false
is_basic (con.Watchsumgeq v k) = false
is_basic (con.Litsumgeq v ks k) = false
is_basic (con.Element v x y) = false
is_basic (con.Watchelement v x y) = false
is_basic (con.ElementOne v x y) = false
is_basic (con.WatchelementOne v x y) = false
is_basic (con.Difference x y z) = false
is_basic (con.Product x y z) = false
is_basic (con.Div x y z) = false
is_basic (con.Modulo x y z) = false
is_basic (con.Max v x) = false
is_basic (con.Min v x) = false
is_basic (con.Table v tab) = false
is_basic (con.Negativetable v tab) = false
is_basic (con.Occurrence v k x) = false
is_basic (con.Occurrenceleq v k k2) = false
is_basic (con.Occurrencegeq v k k2) = false
is_basic (con.Alldiff v) = false
is_basic (con.Hamming v w k) = false
is_basic (con.Lexleq v w) = false
is_basic (con.Lexless v w) = false
is_basic (con.Watchvecneq v w) = false
is_basic c = true

abbrev pub posted_of : Basic → Posted
posted_of (Differ d) = differ_of d
posted_of (Ineq i) = ineq_of i
posted_of (Tied t) = tied_of t
posted_of (Unary u) = unary_of u
posted_of (Forward f) = checked f

-- whether a pass leaves nothing for another one to do
abbrev pub rests_of : Basic → Bool
rests_of (Differ d) = true
rests_of (Ineq i) = true
rests_of (Tied t) = false
rests_of (Unary u) = in_one_change u.numbers
rests_of (Forward f) = false

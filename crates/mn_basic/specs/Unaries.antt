-- Constraints of one place.
use Rattle.std.specs.Prelude.{◌≡◌, ◌≢◌, ℤ, ◌≤ℤ◌, Bool, true, false}
use Rattle.mn_model.specs.Domain.{Has}
use Rattle.mn_model.specs.declared.constraint.Con.{Con}
use Rattle.mn_model.specs.declared.constraint.Con.TheVariants as con
use Rattle.mn_model.specs.declared.constraint.Term.{Term}
use Rattle.mn_meaning.specs.Families.{InIntervals}
use Rattle.mn_prop.specs.Posts.{Posted, beside}
use Rattle.mn_basic.specs.declared.numbers.Numbers.{Numbers}
use Rattle.mn_basic.specs.declared.numbers.Numbers.TheVariants.{Is, IsNot, Among, NotAmong, Between, NotBetween, Within}
use Rattle.mn_basic.specs.declared.unary.Unary.{Unary}

-- the constraint that lets the numbers alone stand at a place
abbrev pub literal_of : Numbers → Term → Con
literal_of (Is k) x = con.WLiteral x k
literal_of (IsNot k) x = con.WNotliteral x k
literal_of (Among ks) x = con.WInset x ks.now
literal_of (NotAmong ks) x = con.WNotinset x ks.now
literal_of (Between lo hi) x = con.WInrange x lo hi
literal_of (NotBetween lo hi) x = con.WNotinrange x lo hi
literal_of (Within ends) x = con.WInintervalset x ends.now

abbrev pub unary_of : Unary → Posted
unary_of u = beside u.inst.now.tuples (literal_of u.numbers u.x)

-- a is one of the numbers
abbrev pub IsOneOf : Numbers → ℤ → Type 0
IsOneOf (Is k) a = a ≡ k
IsOneOf (IsNot k) a = a ≢ k
IsOneOf (Among ks) a = Has ks.now a
IsOneOf (NotAmong ks) a = Has ks.now a → ⊥
IsOneOf (Between lo hi) a = (lo ≤ℤ a) × (a ≤ℤ hi)
IsOneOf (NotBetween lo hi) a = (lo ≤ℤ a) × (a ≤ℤ hi) → ⊥
IsOneOf (Within ends) a = InIntervals ends.now a

-- whether one change of a place leaves them alone: a single number, all numbers but one, or an interval
abbrev pub in_one_change : Numbers → Bool
in_one_change (Is k) = true
in_one_change (IsNot k) = true
in_one_change (Among ks) = false
in_one_change (NotAmong ks) = false
in_one_change (Between lo hi) = true
in_one_change (NotBetween lo hi) = false
in_one_change (Within ends) = false

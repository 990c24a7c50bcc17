-- The constraint that an `Arith` narrows.
use Rattle.std.specs.Prelude.{Bool, true, false}
use Rattle.mn_model.specs.declared.constraint.Con.{Con}
use Rattle.mn_model.specs.declared.constraint.Con.TheVariants as con
use Rattle.mn_prop.specs.Forwards.{checked}
use Rattle.mn_prop.specs.Posts.{Posted}
use Rattle.mn_arith.specs.Extremes.{extreme_of}
use Rattle.mn_arith.specs.Hulls.{computed_of}
use Rattle.mn_arith.specs.declared.arith.Arith.{Arith}
use Rattle.mn_arith.specs.declared.arith.Arith.TheVariants.{Computed, Extremum, Forward}

abbrev pub posted_of : Arith → Posted
posted_of (Extremum e) = extreme_of e.of
posted_of (Computed k) = computed_of k
posted_of (Forward f) = checked f

-- the forms of arithmetic
abbrev pub is_arithmetic : Con → Bool
is_arithmetic (con.Difference x y z) = true
is_arithmetic (con.Product x y z) = true
is_arithmetic (con.Div x y z) = true
is_arithmetic (con.Modulo x y z) = true
is_arithmetic (con.Max v x) = true
is_arithmetic (con.Min v x) = true
is_arithmetic c = false

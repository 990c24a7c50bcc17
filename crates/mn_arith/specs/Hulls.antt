-- Three places the third of which is computed from the other two.
use Rattle.std.specs.Prelude.{ℤ}
use Rattle.mn_model.specs.declared.constraint.Con.{Con}
use Rattle.mn_model.specs.declared.constraint.Con.TheVariants as con
use Rattle.mn_model.specs.declared.constraint.Term.{Term}
use Rattle.mn_closure.specs.Supports.{difference, product}
use Rattle.mn_prop.specs.Posts.{Posted, beside}
use Rattle.mn_arith.specs.declared.hull.Computed.{Computed}
use Rattle.mn_arith.specs.declared.hull.Operation.{Operation}
use Rattle.mn_arith.specs.declared.hull.Operation.TheVariants.{Difference, Product}

-- what is computed of two numbers
abbrev pub value_by : Operation → ℤ → ℤ → ℤ
value_by Difference a b = difference a b
value_by Product a b = product a b

abbrev pub computed_con : Operation → Term → Term → Term → Con
computed_con Difference x y z = con.Difference x y z
computed_con Product x y z = con.Product x y z

abbrev pub computed_of : Computed → Posted
computed_of k = beside k.inst.now.tuples (computed_con k.operation k.x k.y k.z)

-- What the code wants of a reference.
use Rattle.std.specs.Prelude.{◌<◌, List}
use Rattle.std.specs.List.{AllByRecursion}
use Rattle.mn_model.specs.Problem.{Problem, variable_count}
use Rattle.mn_model.specs.Variable.{number_of}
use Rattle.mn_model.specs.declared.variable.VarId.{VarId}
use Rattle.mn_references.specs.References.{Aim, as_wanted, one_place, order_aim_behind}
use Rattle.mn_references.specs.Entries.{a_vector, in_list_aim}
use Rattle.mn_references.specs.declared.aims.Aimed.{Aimed}
use Rattle.mn_references.specs.declared.aims.Aimed.TheVariants.{One, Told, Whole, Part, Ordered}

-- one variable, a reference by a want, a vector by itself, a part of a list, a part of VARORDER
abbrev pub aim_seen : Problem → Aimed → Aim
aim_seen p (One bits) = one_place p bits
aim_seen p (Told want) = as_wanted p want
aim_seen p (Whole bounds) = a_vector p bounds
aim_seen p (Part bounds before) = in_list_aim p bounds before
aim_seen p (Ordered before) = order_aim_behind before

-- the variables are declared
abbrev pub AreDeclared : Problem → List VarId → Type 0
AreDeclared p vars = AllByRecursion (λ v. number_of v < variable_count p.decls) vars

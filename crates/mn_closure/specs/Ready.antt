-- What a constraint keeps beside variables and tuple lists, so that it can be propagated.
use Rattle.std.specs.Prelude.{ℤ, List, map}
use Rattle.std.specs.List.{AllByRecursion}
use Rattle.mn_model.specs.Domain.{Ascends}
use Rattle.mn_model.specs.Lawful.{IsBit, IsLawfulTerm, IsMeant}
use Rattle.mn_model.specs.Parts.{places, bits, IsShaped}
use Rattle.mn_model.specs.declared.constraint.Con.{Con}
use Rattle.mn_model.specs.declared.constraint.Cons.{Cons}
use Rattle.mn_model.specs.declared.constraint.Con.TheVariants as con
use Rattle.mn_model.specs.declared.constraint.Con.TheBlock.{more_of-Con, more_of-Cons}
use Rattle.mn_model.specs.declared.declaration.Tuples.{Tuples}
use Rattle.mn_boxes.specs.Sets.{Variable}
use Rattle.mn_closure.specs.Forms.{CanBeSigned}

-- the declared values of each variable
abbrev pub declared_sets : List Variable → List (List ℤ)
declared_sets vars = map (λ var. var.declared) vars

-- they ascend
abbrev pub DeclaredAscend : List Variable → Type 0
DeclaredAscend vars = AllByRecursion (λ var. Ascends var.declared) vars

-- the constraint's terms name variables, 0/1 terms stand where they are wanted, and its lists agree in length
pub record Suits (vars : List Variable) (c : Con) : Type 0 where
  pub named : AllByRecursion (IsLawfulTerm (declared_sets vars)) (places c)
  pub bits : AllByRecursion (IsBit (declared_sets vars)) (bits c)
  pub shaped : IsShaped c

-- all that propagation asks of a constraint: it suits the variables, it has a meaning beside the tuple lists, and so has what
-- may have to be denied in it
pub record IsReady (vars : List Variable) (lists : List Tuples) (c : Con) : Type 0 where
  pub suits : Suits vars c
  pub meant : IsMeant lists c
  pub signed : CanBeSigned lists c

-- so it is with each child of a form
abbrev pub AreReady : List Variable → List Tuples → Cons → Type 0
AreReady vars lists con.End = Unit {0}
AreReady vars lists (con.More' p (more_of-Con c none) q (more_of-Cons cs nothing)) = IsReady vars lists c × AreReady vars lists cs

-- What the definitions of boxes and events come to.
use Rattle.std.specs.Prelude.{◌≡◌, ℕ, ◌≤◌, ◌⊎◌, ℤ, true, false, List}
use Rattle.std.specs.List.{AllByRecursion}
use Rattle.mn_model.specs.Lawful.{IsLawfulDecl}
use Rattle.mn_model.specs.Problem.{domains_of}
use Rattle.mn_model.specs.declared.declaration.Decl.{Decl}
use Rattle.mn_boxes.specs.Boxes.{Inside, IsBox, count_of, declared_variables, set_of, variable_at}
use Rattle.mn_boxes.specs.Events.{Event, Lower, Upper, Any, Gone, Fires}
use Rattle.mn_boxes.specs.Sets.{Variable}

abbrev pub InsideIsTransitive : Type 0
InsideIsTransitive = (inner box outer : List (List ℤ)) → Inside inner box → Inside box outer → Inside inner outer

-- a box inside another one has no more values
abbrev pub InsideHasNoMore : Type 0
InsideHasNoMore = (vars : List Variable) (inner outer : List (List ℤ)) → IsBox vars inner → IsBox vars outer → Inside inner outer → count_of inner ≤ count_of outer

-- and where it has as many it is the other one
abbrev pub AsManyAreTheSame : Type 0
AsManyAreTheSame = (vars : List Variable) (inner outer : List (List ℤ)) → IsBox vars inner → IsBox vars outer → Inside inner outer → count_of inner ≡ count_of outer → inner ≡ outer

-- the declared sets are a box
abbrev pub DeclaredSetsAreABox : Type 0
DeclaredSetsAreABox = (decls : List Decl) → AllByRecursion IsLawfulDecl decls → IsBox (declared_variables decls) (domains_of decls)

-- which is around every other one
abbrev pub BoxesAreInsideTheDeclared : Type 0
BoxesAreInsideTheDeclared = (decls : List Decl) (box : List (List ℤ)) → IsBox (declared_variables decls) box → Inside box (domains_of decls)

-- an event is fired only where the set changed
abbrev pub EventsAreChanges : Type 0
EventsAreChanges = (vars : List Variable) (v : ℕ) (e : Event) (old new : List (List ℤ)) → Fires vars v e old new → Fires vars v Any old new

-- what two changes together fire one of them fires
abbrev pub OneOfTwoFires : Type 0
OneOfTwoFires = (vars : List Variable) (v : ℕ) (e : Event) (old between new : List (List ℤ)) → Fires vars v e old new → Fires vars v e old between ⊎ Fires vars v e between new

-- and where values only go, what one of them fires both together fire
abbrev pub BothFire : Type 0
BothFire = (vars : List Variable) (v : ℕ) (e : Event) (old between new : List (List ℤ)) → IsBox vars old → IsBox vars between → IsBox vars new → Inside between old → Inside new between
    → Fires vars v e old between ⊎ Fires vars v e between new → Fires vars v e old new

-- where no set changed the boxes are the same
abbrev pub QuietBoxesAreTheSame : Type 0
QuietBoxesAreTheSame = (vars : List Variable) (old new : List (List ℤ)) → IsBox vars old → IsBox vars new → ((v : ℕ) → Fires vars v Any old new → ⊥) → new ≡ old

-- where values go at the ends alone and neither end moved, the set is the same
abbrev pub QuietEndsTell : Type 0
QuietEndsTell = (vars : List Variable) (v : ℕ) (old new : List (List ℤ)) → IsBox vars old → IsBox vars new → Inside new old → (variable_at vars v).bounded ≡ true
    → (Fires vars v Lower old new → ⊥) → (Fires vars v Upper old new → ⊥) → set_of new v ≡ set_of old v

-- where any value may go and none is gone, the set is the same
abbrev pub QuietValuesTell : Type 0
QuietValuesTell = (vars : List Variable) (v : ℕ) (old new : List (List ℤ)) → IsBox vars old → IsBox vars new → Inside new old → (variable_at vars v).bounded ≡ false
    → ((a : ℤ) → Fires vars v (Gone a) old new → ⊥) → set_of new v ≡ set_of old v

-- What the definitions of closed boxes come to.
use Rattle.std.specs.Prelude.{◌≡◌, ◌≢◌, ◌↔◌, ◌⊎◌, ℕ, ℤ, Bool, true, false, List, ◌++◌, Some, None}
use Rattle.std.specs.List.{AllByRecursion}
use Rattle.mn_model.specs.Decided.{Decided}
use Rattle.mn_model.specs.Lawful.{IsLawfulCon, IsLawfulDecl, IsBit, IsMeant}
use Rattle.mn_model.specs.Negation.{negation, reified}
use Rattle.mn_model.specs.Parts.{bits, places, IsWritten}
use Rattle.mn_model.specs.Problem.{domains_of}
use Rattle.mn_model.specs.declared.constraint.Con.{Con}
use Rattle.mn_model.specs.declared.constraint.Cons.{Cons}
use Rattle.mn_model.specs.declared.constraint.Con.TheVariants as con
use Rattle.mn_model.specs.declared.constraint.Con.TheBlock.{more_of-Con, more_of-Cons}
use Rattle.mn_model.specs.declared.constraint.Term.{Term}
use Rattle.mn_model.specs.declared.declaration.Decl.{Decl}
use Rattle.mn_model.specs.declared.declaration.Tuples.{Tuples}
use Rattle.mn_boxes.specs.Boxes.{IsBox, Inside, declared_variables}
use Rattle.mn_boxes.specs.Places.{PlaceHas}
use Rattle.mn_boxes.specs.Sets.{Variable}
use Rattle.mn_meaning.specs.Laws.{IsAssignment}
use Rattle.mn_meaning.specs.Meaning.{Holds, HoldsAll, Meets}
use Rattle.mn_closure.specs.Closed.{LeafClosed, signed, IfSays, PartsPossible, OnePossible, TwoPossible, PartsClosed, OneClosed, Possible, Closed}
use Rattle.mn_closure.specs.Closures.{IsJoin, join, singles, IsClosure, NoClosure}
use Rattle.mn_closure.specs.Computed.{closure_of}
use Rattle.mn_closure.specs.Forms.{implied, DeniesLeaves, HasParts, IsLeaf}
use Rattle.mn_closure.specs.Levels.{Level}
use Rattle.mn_closure.specs.Ready.{AreReady, IsReady}
pub use Rattle.mn_closure.specs.Ready.{Suits, DeclaredAscend, declared_sets}
use Rattle.mn_closure.specs.Seen.{HasLiterals, IsQuietAt, IsShown, SamePlaces, SomeChanged, literal_of, literals_of}
use Rattle.mn_closure.specs.Supports.{Choice, SomeChoice, SomeOpen, LeafPossible, StandsAt, SupportedAt}

-- a lawful constraint suits the declared variables
abbrev pub LawfulConstraintsSuit : Type 0
LawfulConstraintsSuit = (decls : List Decl) (lists : List Tuples) (c : Con) → IsLawfulCon (domains_of decls) lists c → Suits (declared_variables decls) c

abbrev pub LawfulValuesAscend : Type 0
LawfulValuesAscend = (decls : List Decl) → AllByRecursion IsLawfulDecl decls → DeclaredAscend (declared_variables decls)

-- and is ready to be propagated
abbrev pub LawfulIsReady : Type 0
LawfulIsReady = (decls : List Decl) (lists : List Tuples) (c : Con) → IsLawfulCon (domains_of decls) lists c → IsReady (declared_variables decls) lists c

-- so is its negation
abbrev pub LawfulNegationIsReady : Type 0
LawfulNegationIsReady = (decls : List Decl) (lists : List Tuples) (c : Con) → IsLawfulCon (domains_of decls) lists c → IsReady (declared_variables decls) lists (negation c)

-- and the negation of whatever is ready, where it has a meaning
abbrev pub NegationIsReady : Type 0
NegationIsReady = (vars : List Variable) (lists : List Tuples) (c : Con) → IsReady vars lists c → IsMeant lists (negation c) → IsReady vars lists (negation c)

-- the children of what is ready are ready
abbrev pub ChildrenAreReady : Type 0
ChildrenAreReady = (vars : List Variable) (lists : List Tuples) (cs : Cons) → IsReady vars lists (con.WatchedOr cs) ⊎ IsReady vars lists (con.WatchedAnd cs) → AreReady vars lists cs

-- so is what is reified, and its negation
abbrev pub ReifiedIsReady : Type 0
ReifiedIsReady = (vars : List Variable) (lists : List Tuples) (c : Con) (r : Term) → IsReady vars lists (reified c r) → IsReady vars lists c × IsReady vars lists (negation c)

-- and what is implied
abbrev pub ImpliedIsReady : Type 0
ImpliedIsReady = (vars : List Variable) (lists : List Tuples) (c : Con) (r : Term) → IsReady vars lists (implied c r) → IsReady vars lists c

-- what can be written denies nothing, what is ready nothing but leaves
abbrev pub WrittenDeniesLeaves : Type 0
WrittenDeniesLeaves = (c : Con) → IsWritten c → DeniesLeaves c

abbrev pub ReadyDeniesLeaves : Type 0
ReadyDeniesLeaves = (vars : List Variable) (lists : List Tuples) (c : Con) → IsReady vars lists c → DeniesLeaves c

-- each form is a leaf, or is one of the four that have parts
abbrev pub LeafOrParts : Type 0
LeafOrParts = (c : Con) → IsLeaf c ⊎ HasParts c

-- a leaf is possible as a whole
abbrev pub LeavesArePossible : Type 0
LeavesArePossible = (lists : List Tuples) (c : Con) (says : Bool) (box : List (List ℤ)) → IsLeaf c → PartsPossible lists c says box ↔ LeafPossible lists (signed says c) box

-- and a box is closed under it as a whole
abbrev pub LeavesAreClosed : Type 0
LeavesAreClosed =
    (vars : List Variable) (lists : List Tuples) (c : Con) (says : Bool) (box : List (List ℤ)) → IsLeaf c → PartsClosed vars lists c says box ↔ LeafClosed vars lists (signed says c) box

-- what is supported in a box, at whatever level, is so in every box around it
abbrev pub SupportStays : Type 0
SupportStays = (l : Level) (lists : List Tuples) (c : Con) (i : ℕ) (a : ℤ) (inner outer : List (List ℤ)) → Inside inner outer → SupportedAt l lists c i a inner → SupportedAt l lists c i a outer

-- and what a box can meet, every box around it can
abbrev pub PossibleStays : Type 0
PossibleStays = (lists : List Tuples) (c : Con) (says : Bool) (inner outer : List (List ℤ)) → Inside inner outer → Possible lists c says inner → Possible lists c says outer

-- whether a constraint, or its negation, is possible can be told
abbrev pub PossibleIsDecided : Type 0
PossibleIsDecided = (lists : List Tuples) (c : Con) (says : Bool) (box : List (List ℤ)) → Decided (Possible lists c says box)

-- and whether a box is closed under it
abbrev pub ClosedIsDecided : Type 0
ClosedIsDecided = (vars : List Variable) (lists : List Tuples) (c : Con) (says : Bool) (box : List (List ℤ)) → Decided (Closed vars lists c says box)

-- a box that is closed under a constraint can meet it
abbrev pub ClosedIsPossible : Type 0
ClosedIsPossible =
    (vars : List Variable) (lists : List Tuples) (c : Con) (says : Bool) (box : List (List ℤ)) → IsBox vars box → Suits vars c → Closed vars lists c says box → Possible lists c says box

-- both speak of the sets at the constraint's places alone
abbrev pub ClosedByPlaces : Type 0
ClosedByPlaces =
    (vars : List Variable) (lists : List Tuples) (c : Con) (says : Bool) (one another : List (List ℤ)) → SamePlaces one another c → Closed vars lists c says one ↔ Closed vars lists c says another

abbrev pub PossibleByPlaces : Type 0
PossibleByPlaces = (lists : List Tuples) (c : Con) (says : Bool) (one another : List (List ℤ)) → SamePlaces one another c → Possible lists c says one ↔ Possible lists c says another

-- these sets are the same exactly where no change of them is fired
abbrev pub SamePlacesAreQuiet : Type 0
SamePlacesAreQuiet = (vars : List Variable) (c : Con) (old new : List (List ℤ)) → SamePlaces old new c ↔ AllByRecursion (IsQuietAt vars old new) (places c)

-- they are all the same in two boxes, or one of them isn't
abbrev pub PlacesAreSameOrNot : Type 0
PlacesAreSameOrNot = (c : Con) (one another : List (List ℤ)) → SamePlaces one another c ⊎ SomeChanged c one another

-- the literals of a choice are those of each box that has the choice
abbrev pub ChoiceHasItsLiterals : Type 0
ChoiceHasItsLiterals = (box : List (List ℤ)) (ts : List Term) (values : List ℤ) → Choice box ts values → HasLiterals box (literals_of ts values)

-- those of a choice that meets a constraint show, in each box that has them, that some choice meets it
abbrev pub ChoiceIsShown : Type 0
ChoiceIsShown =
    (lists : List Tuples) (c : Con) (values : List ℤ) (box another : List (List ℤ)) → Choice box (places c) values → Meets lists c values
    → HasLiterals another (literals_of (places c) values) → SomeChoice lists c another

-- those of two values at a place show that it is open
abbrev pub OpenIsShown : Type 0
OpenIsShown =
    (c : Con) (i : ℕ) (t : Term) (a b : ℤ) (box another : List (List ℤ)) → StandsAt c i t → PlaceHas box t a → PlaceHas box t b → a ≢ b
    → HasLiterals another (literal_of t a ++ literal_of t b) → SomeOpen c another

-- so whatever is possible is shown by literals of the box
abbrev pub PossibleIsShown : Type 0
PossibleIsShown = (lists : List Tuples) (c : Con) (says : Bool) (box : List (List ℤ)) → Possible lists c says box → IsShown (Possible lists c says) box

-- exactly one child is possible, and the box is closed under it
abbrev pub OnlyOneClosed : List Variable → List Tuples → Cons → Bool → List (List ℤ) → Type 0
OnlyOneClosed vars lists con.End says box = ⊥
OnlyOneClosed vars lists (con.More' p (more_of-Con c none) q (more_of-Cons cs nothing)) says box =
    (PartsPossible lists c says box × PartsClosed vars lists c says box × (OnePossible lists cs says box → ⊥)) ⊎ ((PartsPossible lists c says box → ⊥) × OnlyOneClosed vars lists cs says box)

-- where two aren't, one that is possible and under which the box is closed is the only one
abbrev pub OneIsTheOnly : Type 0
OneIsTheOnly =
    (vars : List Variable) (lists : List Tuples) (cs : Cons) (says : Bool) (box : List (List ℤ))
    → (TwoPossible lists cs says box ⊎ OneClosed vars lists cs says box) ↔ (TwoPossible lists cs says box ⊎ OnlyOneClosed vars lists cs says box)

-- the join is the least box around two
abbrev pub JoinIsTheLeast : Type 0
JoinIsTheLeast = (vars : List Variable) (one another : List (List ℤ)) → DeclaredAscend vars → IsBox vars one → IsBox vars another → IsJoin vars one another (join vars one another)

-- there is no other
abbrev pub JoinIsUnique : Type 0
JoinIsUnique = (vars : List Variable) (one another box other : List (List ℤ)) → IsJoin vars one another box → IsJoin vars one another other → other ≡ box

-- it is closed where both boxes are
abbrev pub JoinIsClosed : Type 0
JoinIsClosed =
    (vars : List Variable) (lists : List Tuples) (c : Con) (says : Bool) (one another : List (List ℤ)) → DeclaredAscend vars → AllByRecursion (IsBit (declared_sets vars)) (bits c) → IsBox vars one → IsBox vars another
    → Closed vars lists c says one → Closed vars lists c says another → Closed vars lists c says (join vars one another)

-- the greatest closed box is one
abbrev pub ClosureIsUnique : Type 0
ClosureIsUnique = (vars : List Variable) (lists : List Tuples) (cons : List Con) (outer box other : List (List ℤ)) → IsClosure vars lists cons outer box → IsClosure vars lists cons outer other → other ≡ box

-- and where there is one it isn't so that there is none
abbrev pub ClosureIsThere : Type 0
ClosureIsThere = (vars : List Variable) (lists : List Tuples) (cons : List Con) (outer box : List (List ℤ)) → IsClosure vars lists cons outer box → NoClosure vars lists cons outer → ⊥

-- the closure is computed, where there is one
abbrev pub ClosureIsComputed : Type 0
ClosureIsComputed =
    (vars : List Variable) (lists : List Tuples) (cons : List Con) (outer inner : List (List ℤ)) → DeclaredAscend vars → AllByRecursion (Suits vars) cons → IsBox vars outer
    → (closure_of vars lists cons outer ≡ Some inner) ↔ IsClosure vars lists cons outer inner

-- and so is it that there is none
abbrev pub NoClosureIsComputed : Type 0
NoClosureIsComputed =
    (vars : List Variable) (lists : List Tuples) (cons : List Con) (outer : List (List ℤ)) → DeclaredAscend vars → AllByRecursion (Suits vars) cons → IsBox vars outer
    → (closure_of vars lists cons outer ≡ None) ↔ NoClosure vars lists cons outer

-- a closure of the box
pub record HasClosure (vars : List Variable) (lists : List Tuples) (cons : List Con) (outer : List (List ℤ)) : Type 0 where
  pub inner : List (List ℤ)
  pub is : IsClosure vars lists cons outer inner

-- each box has one, or has none
abbrev pub ClosureOrNone : Type 0
ClosureOrNone =
    (vars : List Variable) (lists : List Tuples) (cons : List Con) (outer : List (List ℤ)) → DeclaredAscend vars → AllByRecursion (Suits vars) cons → IsBox vars outer
    → HasClosure vars lists cons outer ⊎ NoClosure vars lists cons outer

-- single values are closed under a constraint exactly where it holds, and under its negation exactly where it doesn't
abbrev pub SinglesTellClosed : Type 0
SinglesTellClosed =
    (vars : List Variable) (lists : List Tuples) (c : Con) (says : Bool) (s : List ℤ) → Suits vars c → IsAssignment (declared_sets vars) s
    → Closed vars lists c says (singles s) ↔ IfSays says (Holds lists s c) (Holds lists s c → ⊥)

-- and so it is with what they can meet
abbrev pub SinglesTellPossible : Type 0
SinglesTellPossible =
    (vars : List Variable) (lists : List Tuples) (c : Con) (says : Bool) (s : List ℤ) → Suits vars c → IsAssignment (declared_sets vars) s
    → Possible lists c says (singles s) ↔ IfSays says (Holds lists s c) (Holds lists s c → ⊥)

-- where all constraints hold of values that are in the box, these are in its closure
abbrev pub SolutionsAreInClosures : Type 0
SolutionsAreInClosures =
    (vars : List Variable) (lists : List Tuples) (cons : List Con) (outer inner : List (List ℤ)) (s : List ℤ) → AllByRecursion (Suits vars) cons → IsBox vars outer → IsAssignment outer s
    → HoldsAll lists cons s → IsClosure vars lists cons outer inner → IsAssignment inner s

-- where there is no closure there are no such values
abbrev pub NoClosureNoSolution : Type 0
NoClosureNoSolution =
    (vars : List Variable) (lists : List Tuples) (cons : List Con) (outer : List (List ℤ)) (s : List ℤ) → AllByRecursion (Suits vars) cons → IsBox vars outer → IsAssignment outer s
    → HoldsAll lists cons s → NoClosure vars lists cons outer → ⊥

-- a box is closed under the negation of a constraint as the sign says
abbrev pub NegationIsDenied : Type 0
NegationIsDenied = (vars : List Variable) (lists : List Tuples) (c : Con) (box : List (List ℤ)) → DeniesLeaves c → Closed vars lists (negation c) true box ↔ Closed vars lists c false box

-- and can meet it as the sign says
abbrev pub NegationIsPossible : Type 0
NegationIsPossible = (lists : List Tuples) (c : Con) (box : List (List ℤ)) → DeniesLeaves c → Possible lists (negation c) true box ↔ Possible lists c false box

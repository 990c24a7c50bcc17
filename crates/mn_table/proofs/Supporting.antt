-- What is supported of a table.
use Rattle.std.proofs.Common.{◌≡◌, ℕ, ℤ, List, [], ◌∷◌, sym, subst, arith}
use Rattle.std.specs.List.{AllByRecursion}
use Rattle.mn_model.specs.Lawful.{IsLawfulTerm}
use Rattle.mn_model.specs.Members.{HasMember}
use Rattle.mn_model.specs.declared.constraint.Tab.{Tab}
use Rattle.mn_model.specs.declared.constraint.Con.TheVariants as con
use Rattle.mn_model.specs.declared.constraint.Term.{Term}
use Rattle.mn_model.specs.declared.constraint.Term.TheVariants.{Var, Const, Not}
use Rattle.mn_model.specs.declared.declaration.Tuples.{Tuples}
use Rattle.mn_boxes.specs.Sets.{Variable}
use Rattle.mn_meaning.specs.Meaning.{tuples_of}
use Rattle.mn_closure.specs.Supports.{Supported}
use Rattle.mn_closure.specs.Ready.{declared_sets}
use Rattle.std.proofs.lemmas.List.{length-map}
use Rattle.mn_prop.specs.Contexts.{IsNamed}
use Rattle.mn_table.specs.Tables.{RowWith}

-- a row with the value is a choice that meets the constraint, and each such choice is one
pub row_supports : (lists : List Tuples) (v : List Term) (tab : Tab) (rows box : List (List ℤ)) (i : ℕ) (a : ℤ) → tuples_of lists tab ≡ rows → RowWith box v i a rows → Supported lists (con.Table v tab) i a box
row_supports lists v tab rows box i a is r = record { values = r.row; chosen = r.chosen; given = r.given; meets = subst (λ (list : List (List ℤ)). HasMember list r.row) (sym is) r.stands }

pub supporting_row : (lists : List Tuples) (v : List Term) (tab : Tab) (rows box : List (List ℤ)) (i : ℕ) (a : ℤ) → tuples_of lists tab ≡ rows → Supported lists (con.Table v tab) i a box → RowWith box v i a rows
supporting_row lists v tab rows box i a is s = record { row = s.values; stands = subst (λ (list : List (List ℤ)). HasMember list s.values) is s.meets; chosen = s.chosen; given = s.given }

-- the places of a vector that is lawful may be asked for
lawful_named : (vars : List Variable) (t : Term) → IsLawfulTerm (declared_sets vars) t → IsNamed vars t
lawful_named vars (Var v) known = omega (arith, length-map vars (λ (var : Variable). var.declared), known)
lawful_named vars (Const k) known = tt
lawful_named vars (Not v) known = omega (arith, length-map vars (λ (var : Variable). var.declared), known.0)

pub all_named : (vars : List Variable) (v : List Term) → AllByRecursion (IsLawfulTerm (declared_sets vars)) v → AllByRecursion (IsNamed vars) v
all_named vars [] lawful = tt
all_named vars (t ∷ v) lawful = (lawful_named vars t lawful.0, all_named vars v lawful.1)

-- What is known of the places of a constraint that is ready.
use Rattle.std.proofs.Common.{◌≡◌, ℕ, zero, suc, List, [], ◌∷◌, slice_get, Some, subst, arith}
use Rattle.std.proofs.lemmas.List.{length-map}
use Rattle.std.specs.List.{AllByRecursion}
use Rattle.mn_model.specs.Lawful.{IsLawfulTerm}
use Rattle.mn_model.specs.Parts.{places}
use Rattle.mn_model.specs.declared.constraint.Term.{Term}
use Rattle.mn_model.specs.declared.constraint.Term.TheVariants.{Var, Const, Not}
use Rattle.mn_boxes.specs.Sets.{Variable}
use Rattle.mn_closure.specs.Laws.{declared_sets}
use Rattle.mn_closure.specs.Supports.{StandsAt}
use Rattle.mn_prop.specs.Contexts.{IsNamed}
use Rattle.mn_prop.specs.Posts.{IsReadyToRun, Posted}

lawful_named : (vars : List Variable) (t : Term) → IsLawfulTerm (declared_sets vars) t → IsNamed vars t
lawful_named vars (Var v) known = omega (arith, length-map vars (λ (var : Variable). var.declared), known)
lawful_named vars (Const k) known = tt
lawful_named vars (Not v) known = omega (arith, length-map vars (λ (var : Variable). var.declared), known.0)

nth_lawful : (P : Term → Type 0) (ts : List Term) (i : ℕ) (t : Term) → AllByRecursion P ts → slice_get ts i ≡ Some t → P t
nth_lawful P [] i t all at = cc
nth_lawful P (u ∷ ts) zero t all at = let same : u ≡ t = cc in subst P same all.0
nth_lawful P (u ∷ ts) (suc i) t all at = nth_lawful P ts i t all.1 at

-- a place of a constraint that is ready names a variable or is a constant
pub ready_named : {vars : List Variable} {t : Term} (posted : Posted) (i : ℕ) → IsReadyToRun vars posted → StandsAt posted.con i t → IsNamed vars t
ready_named {vars = vars} {t = t} posted i ready stands = lawful_named vars t (nth_lawful (IsLawfulTerm (declared_sets vars)) (places posted.con) i t ready.suits.named stands)

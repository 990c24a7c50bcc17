-- The ends of what is declared.
use Rattle.std.proofs.Common.{◌≡◌, ◌<◌, ℤ, ◌≤ℤ◌, ◌⊎◌, inl, inr, List, sym, subst, arith}
use Rattle.std.proofs.lemmas.List.{length-map}
use Rattle.mn_model.specs.Domain.{IsDomain, IsFirst, IsLast, IsValue}
use Rattle.mn_model.specs.Lawful.{IsLawfulTerm}
use Rattle.mn_model.specs.Problem.{variable_count, variables_of}
use Rattle.mn_model.specs.Variable.{number_of}
use Rattle.mn_model.specs.declared.constraint.Term.TheVariants.{Var}
use Rattle.mn_model.specs.declared.declaration.Decl.{Decl}
use Rattle.mn_model.specs.declared.variable.VarId.{VarId}
use Rattle.mn_model.proofs.Ordered.{each_valued}
use Rattle.mn_boxes.specs.Boxes.{declared_variables}
use Rattle.mn_boxes.specs.Sets.{Variable, variable_of}
use Rattle.mn_boxes.proofs.Members.{stands_first, stands_last}
use Rattle.mn_closure.specs.Ready.{declared_sets}

-- values of a model, in order
pub record AreEnds (lo hi : ℤ) : Type 0 where
  pub low : IsValue lo
  pub high : IsValue hi
  pub order : lo ≤ℤ hi

pub ends_of_domain : (xs : List ℤ) (lo hi : ℤ) → IsDomain xs → IsFirst lo xs → IsLast hi xs → AreEnds lo hi
ends_of_domain xs lo hi domain first last =
    let f = stands_first xs lo domain.ascends first in
    let l = stands_last xs hi domain.ascends last in
    record { low = each_valued xs lo domain.valued f.has; high = each_valued xs hi domain.valued l.has; order = f.others hi l.has }

pub one_of_both : (P : ℤ → Type 0) (a b c : ℤ) → P a → P b → (c ≡ a) ⊎ (c ≡ b) → P c
one_of_both P a b c first second (inl same) = subst P (sym same) first
one_of_both P a b c first second (inr same) = subst P (sym same) second

pub is_declared : (decls : List Decl) (v : VarId) → IsLawfulTerm (declared_sets (declared_variables decls)) (Var v) → number_of v < variable_count decls
is_declared decls v known = omega (arith, length-map (declared_variables decls) (λ (var : Variable). var.declared), length-map (variables_of decls) variable_of, known)

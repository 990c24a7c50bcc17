-- What is looked up by a name fits the problem.
use Rattle.std.proofs.Common.{ℕ, ℤ, zero, suc, ◌<◌, List, [], ◌∷◌, length, slice_get, unwrap_or, subst, arith}
use Rattle.std.specs.List.{AllByRecursion}
use Rattle.mn_model.specs.Lawful.{IsKnown}
use Rattle.mn_model.specs.Problem.{Problem, variable_count, domains_of}
use Rattle.mn_model.specs.Variable.{number_of, variable}
use Rattle.mn_model.specs.declared.variable.VarId.{VarId}
use Rattle.mn_model.proofs.Variables.{length-domains_of}

pub picked_known : (domains : List (List ℤ)) (vars : List VarId) (place : ℕ) → AllByRecursion (IsKnown domains) vars → place < length vars → number_of (unwrap_or (slice_get vars place) (variable 0)) < length domains
picked_known domains [] place all within = absurd (omega arith)
picked_known domains (v ∷ vars) zero all within = all.0
picked_known domains (v ∷ vars) (suc place) all within = picked_known domains vars place all.1 (omega arith)

pub listed_known : (p : Problem) (vars : List VarId) (place : ℕ) → AllByRecursion (IsKnown (domains_of p.decls)) vars → place < length vars → number_of (unwrap_or (slice_get vars place) (variable 0)) < variable_count p.decls
listed_known p vars place all within =
    subst (λ n. number_of (unwrap_or (slice_get vars place) (variable 0)) < n) (length-domains_of p.decls) (picked_known (domains_of p.decls) vars place all within)

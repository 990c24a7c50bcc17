-- A board whose constraints aren't all there yet.
use Rattle.std.specs.Prelude.{◌≡◌, ℕ, ◌-◌, [], codes}
use Rattle.mn_model.specs.Parts.{cell_count}
use Rattle.mn_model.specs.Problem.{Problem, total}
use Rattle.mn_gen.specs.Generated.{posing, variables_named}

-- the instance has the queens of n rows, no tuple lists, and constraints without tuples
pub record IsBoard (n : ℕ) (p : Problem) : Type 0 where
  pub posed : p ≡ posing (variables_named (codes "q") n (n - 1)) [] p.cons
  pub bare : total cell_count p.cons ≡ 0

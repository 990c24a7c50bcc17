-- Each kind as a sum that is at most a bound.
use Rattle.std.specs.Prelude.{Bool, true, false, ◌≡◌, ◌+◌, ◌≤◌, ℤ, pos, negsuc, neg_ℤ, ◌≤ℤ◌, List, [], ◌∷◌, ◌++◌, length, map}
use Rattle.std.specs.List.{AllByRecursion}
use Rattle.mn_model.specs.Lawful.{IsNear}
use Rattle.mn_model.specs.Parts.{places}
use Rattle.mn_model.specs.declared.constraint.Con.{Con}
use Rattle.mn_model.specs.declared.constraint.Con.TheVariants as con
use Rattle.mn_model.specs.declared.declaration.Tuples.{Tuples}
use Rattle.mn_model.specs.declared.limits.TheConstants.{PLACES}
use Rattle.mn_meaning.specs.Meaning.{Meets}
use Rattle.mn_closure.specs.Levels.{Arc, level}
use Rattle.mn_sums.specs.Parts.{made_of, number_in, term_of, total}
use Rattle.mn_sums.specs.declared.build.Making.TheVariants.{Weight, Opposite, Number}
use Rattle.mn_sums.specs.declared.part.Part.{Part}
use Rattle.mn_sums.specs.declared.part.Part.TheVariants.{Times}

-- whether it is a constraint of this crate
abbrev pub is_sum : Con → Bool
is_sum (con.Sumleq v x) = true
is_sum (con.Sumgeq v x) = true
is_sum (con.Weightedsumleq ks v x) = true
is_sum (con.Weightedsumgeq ks v x) = true
is_sum (con.Watchsumleq v k) = true
is_sum (con.Watchsumgeq v k) = true
is_sum (con.Litsumgeq v ks k) = true
is_sum c = false

-- what its places add, where the sum is at least something with the opposite signs
abbrev pub parts_of : Con → List Part
parts_of (con.Sumleq v x) = map (λ t. Times (pos 1) t) v ++ Times (negsuc 0) x ∷ []
parts_of (con.Sumgeq v x) = map (λ t. Times (negsuc 0) t) v ++ Times (pos 1) x ∷ []
parts_of (con.Weightedsumleq ks v x) = made_of Weight ks v ++ Times (negsuc 0) x ∷ []
parts_of (con.Weightedsumgeq ks v x) = made_of Opposite ks v ++ Times (pos 1) x ∷ []
parts_of (con.Watchsumleq v k) = map (λ t. Times (pos 1) t) v
parts_of (con.Watchsumgeq v k) = map (λ t. Times (negsuc 0) t) v
parts_of (con.Litsumgeq v ks k) = made_of Number ks v
parts_of c = []

-- and what that is at most
abbrev pub bound_of : Con → ℤ
bound_of (con.Watchsumleq v k) = k
bound_of (con.Watchsumgeq v k) = neg_ℤ k
bound_of (con.Litsumgeq v ks k) = neg_ℤ k
bound_of c = pos 0

-- the constraint says that what its places add together is at most the bound
pub record IsAtMost (lists : List Tuples) (c : Con) (ps : List Part) (bound : ℤ) : Type 0 where
  pub arc : level c ≡ Arc
  pub placed : map term_of ps ≡ places c
  pub meets : (values : List ℤ) → length values ≡ length ps → Meets lists c values → total ps values ≤ℤ bound
  pub met : (values : List ℤ) → length values ≡ length ps → total ps values ≤ℤ bound → Meets lists c values
  pub near : AllByRecursion (λ p. IsNear (number_in p)) ps
  pub few : length ps ≤ PLACES + 2

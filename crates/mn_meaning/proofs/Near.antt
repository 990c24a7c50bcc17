-- Numbers at most one past the limit, and their products.
use Rattle.std.proofs.Common.{◌≡◌, ℕ, ◌≤◌, ℤ, pos, negsuc, neg_ℤ, nat_abs, ◌+ℤ◌, ◌*ℤ◌, ◌≤ℤ◌, List, [], ◌∷◌, ◌⊎◌, ⊎_elim, refl, arith}
use Rattle.std.proofs.Math.Nat.{mul-le-mul}
use Rattle.std.proofs.lemmas.Int.{ints, unsigned_abs-mul}
use Rattle.mn_model.specs.Domain.{IsValue}
use Rattle.mn_model.specs.Lawful.{IsNear, IsNearTerm}
use Rattle.mn_model.specs.Variable.{number_of}
use Rattle.mn_model.specs.declared.constraint.Term.{Term}
use Rattle.mn_model.specs.declared.constraint.Term.TheVariants.{Var, Const, Not}
use Rattle.mn_meaning.specs.Families.{weighted_sum}
use Rattle.mn_meaning.specs.Meaning.{value_of}
use Rattle.mn_meaning.proofs.Quotients.{between}

-- the value of a term that is so
pub near_value : (f : ℕ → ℤ) → ((n : ℕ) → IsValue (f n)) → (t : Term) → IsNearTerm t → IsNear (value_of f t)
near_value f valued (Var v) near = let value = valued (number_of v) in (omega (arith, ints, value.0), omega (arith, ints, value.1))
near_value f valued (Const k) near = near
near_value f valued (Not v) near = let value = valued (number_of v) in (omega (arith, ints, value.1), omega (arith, ints, value.0))

near_abs : (a : ℤ) → IsNear a → nat_abs a ≤ 1000000001
near_abs (pos n) near = omega (arith, ints, near.1)
near_abs (negsuc n) near = omega (arith, ints, near.0)

-- the product of two
pub near_product : (a b : ℤ) → IsNear a → IsNear b → (neg_ℤ (pos 1000000002000000001) ≤ℤ (a *ℤ b)) × ((a *ℤ b) ≤ℤ pos 1000000002000000001)
near_product a b near nigh = between (a *ℤ b) 1000000002000000001 (rw (unsigned_abs-mul a b) (mul-le-mul (near_abs a near) (near_abs b nigh)))

-- a weighted sum, of the first place and those behind it, and where one list has ended
pub weighted_sum-next : (k a : ℤ) (ks weights values others : List ℤ) → ks ≡ k ∷ weights → values ≡ a ∷ others → weighted_sum ks values ≡ (k *ℤ a) +ℤ weighted_sum weights others
weighted_sum-next k a ks weights values others next follows = λ i. weighted_sum (next i) (follows i)

nil≢cons : {a : ℤ} {xs : List ℤ} → a ∷ xs ≡ [] → ⊥
nil≢cons e = cc

pub weighted_sum-end : (ks values : List ℤ) → (ks ≡ []) ⊎ (values ≡ []) → weighted_sum ks values ≡ pos 0
weighted_sum-end [] values either = refl
weighted_sum-end (k ∷ ks) [] either = refl
weighted_sum-end (k ∷ ks) (a ∷ values) either = absurd (⊎_elim nil≢cons nil≢cons either)

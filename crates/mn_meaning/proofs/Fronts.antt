-- The values at the places of a constraint, part by part.
use Rattle.std.proofs.Common.{◌≡◌, ◌↔◌, ℕ, ℤ, List, [], ◌∷◌, ◌++◌, length, refl, sym, ap, subst, ◌∙◌}
use Rattle.mn_model.specs.declared.constraint.Term.{Term}
use Rattle.mn_model.proofs.Sizes.{suc_plus_one}
use Rattle.mn_meaning.specs.Meaning.{at, front, behind, last, rest, values_at, value_of}

-- a vector in front
pub front_values : (f : ℕ → ℤ) (v w : List Term) → front v (values_at f (v ++ w)) ≡ values_at f v
front_values f [] w = refl
front_values f (x ∷ v) w = ap (λ (values : List ℤ). value_of f x ∷ values) (front_values f v w)

-- what stands behind it
pub rest_values : (f : ℕ → ℤ) (v w : List Term) → rest v (values_at f (v ++ w)) ≡ values_at f w
rest_values f [] w = refl
rest_values f (x ∷ v) w = rest_values f v w

pub behind_value : (f : ℕ → ℤ) (v : List Term) (x : Term) (w : List Term) → behind v (values_at f (v ++ x ∷ w)) ≡ value_of f x
behind_value f [] x w = refl
behind_value f (y ∷ v) x w = behind_value f v x w

pub last_value : (f : ℕ → ℤ) (v : List Term) (x y : Term) → last v (values_at f (v ++ x ∷ y ∷ [])) ≡ value_of f y
last_value f [] x y = refl
last_value f (z ∷ v) x y = ap (at (value_of f z ∷ values_at f (v ++ x ∷ y ∷ []))) (suc_plus_one (length v)) ∙ last_value f v x y

-- a fact of a vector and the place behind it, and of the places of both
pub with_behind : (P : List ℤ → ℤ → Type 0) (f : ℕ → ℤ) (v : List Term) (x : Term) {T : Type 0} → T ↔ P (values_at f v) (value_of f x) → T ↔ P (front v (values_at f (v ++ x ∷ []))) (behind v (values_at f (v ++ x ∷ [])))
with_behind P f v x {T} holds =
    subst (λ (values : List ℤ). T ↔ P values (behind v (values_at f (v ++ x ∷ [])))) (sym (front_values f v (x ∷ [])))
    (subst (λ (a : ℤ). T ↔ P (values_at f v) a) (sym (behind_value f v x [])) holds)

-- of a vector and two places behind it
pub with_two_behind : (P : List ℤ → ℤ → ℤ → Type 0) (f : ℕ → ℤ) (v : List Term) (x y : Term) {T : Type 0} → T ↔ P (values_at f v) (value_of f x) (value_of f y) → T ↔ P (front v (values_at f (v ++ x ∷ y ∷ []))) (behind v (values_at f (v ++ x ∷ y ∷ []))) (last v (values_at f (v ++ x ∷ y ∷ [])))
with_two_behind P f v x y {T} holds =
    subst (λ (values : List ℤ). T ↔ P values (behind v (values_at f (v ++ x ∷ y ∷ []))) (last v (values_at f (v ++ x ∷ y ∷ [])))) (sym (front_values f v (x ∷ y ∷ [])))
    (subst (λ (a : ℤ). T ↔ P (values_at f v) a (last v (values_at f (v ++ x ∷ y ∷ [])))) (sym (behind_value f v x (y ∷ [])))
    (subst (λ (a : ℤ). T ↔ P (values_at f v) (value_of f x) a) (sym (last_value f v x y)) holds))

-- of two vectors
pub with_rest : (P : List ℤ → List ℤ → Type 0) (f : ℕ → ℤ) (v w : List Term) {T : Type 0} → T ↔ P (values_at f v) (values_at f w) → T ↔ P (front v (values_at f (v ++ w))) (rest v (values_at f (v ++ w)))
with_rest P f v w {T} holds =
    subst (λ (values : List ℤ). T ↔ P values (rest v (values_at f (v ++ w)))) (sym (front_values f v w))
    (subst (λ (values : List ℤ). T ↔ P (values_at f v) values) (sym (rest_values f v w)) holds)

-- Values that ascend and are as many as the numbers between their ends are all these numbers.
use Rattle.std.proofs.Common.{ℤ, pos, ◌+ℤ◌, ◌-ℤ◌, ◌≤ℤ◌, ◌<ℤ◌, inl, inr, List, [], ◌∷◌, length, refl, subst, arith}
use Rattle.std.specs.List.{AllByRecursion}
use Rattle.std.proofs.lemmas.Int.{ints}
use Rattle.mn_model.specs.Domain.{Ascends, Has}
use Rattle.mn_prop.proofs.Trying.{at_most_or}

beyond : (x : ℤ) (xs : List ℤ) (a : ℤ) → AllByRecursion (λ other. x <ℤ other) xs → Has xs a → x <ℤ a
beyond x [] a all there = absurd there
beyond x (y ∷ ys) a all (inl same) = subst (λ b. x <ℤ b) same all.0
beyond x (y ∷ ys) a all (inr later) = beyond x ys a all.1 later

-- the values from x on are at most as many as the numbers
fewer : (xs : List ℤ) (lo hi : ℤ) → Ascends xs → ((a : ℤ) → Has xs a → lo ≤ℤ a) → ((a : ℤ) → Has xs a → a ≤ℤ hi) → lo ≤ℤ (hi +ℤ pos 1) → pos (length xs) ≤ℤ ((hi +ℤ pos 1) -ℤ lo)
fewer [] lo hi up low high order = omega (arith, ints)
fewer (x ∷ xs) lo hi up low high order =
    let first : lo ≤ℤ x = low x (inl refl) in
    let last : x ≤ℤ hi = high x (inl refl) in
    let above : (a : ℤ) → Has xs a → (x +ℤ pos 1) ≤ℤ a = λ a there. let over : x <ℤ a = beyond x xs a up.0 there in omega (arith, ints) in
    let rest : pos (length xs) ≤ℤ ((hi +ℤ pos 1) -ℤ (x +ℤ pos 1)) = fewer xs (x +ℤ pos 1) hi up.1 above (λ a there. high a (inr there)) (omega (arith, ints)) in
    omega (arith, ints)

pub all_there : (xs : List ℤ) (lo hi k : ℤ) → Ascends xs → ((a : ℤ) → Has xs a → lo ≤ℤ a) → ((a : ℤ) → Has xs a → a ≤ℤ hi) → ((hi +ℤ pos 1) -ℤ lo) ≤ℤ pos (length xs) → lo ≤ℤ k → k ≤ℤ hi → Has xs k
all_there [] lo hi k up low high many from to = absurd (omega (arith, ints))
all_there (x ∷ xs) lo hi k up low high many from to =
    let first : lo ≤ℤ x = low x (inl refl) in
    let last : x ≤ℤ hi = high x (inl refl) in
    let above : (a : ℤ) → Has xs a → (x +ℤ pos 1) ≤ℤ a = λ a there. let over : x <ℤ a = beyond x xs a up.0 there in omega (arith, ints) in
    let within : (a : ℤ) → Has xs a → a ≤ℤ hi = λ a there. high a (inr there) in
    let few : pos (length xs) ≤ℤ ((hi +ℤ pos 1) -ℤ (x +ℤ pos 1)) = fewer xs (x +ℤ pos 1) hi up.1 above within (omega (arith, ints)) in
    elim (at_most_or k x) [
      | inl most ↦ inl (omega (arith, ints))
      | inr less ↦ inr (all_there xs (x +ℤ pos 1) hi k up.1 above within (omega (arith, ints)) (omega (arith, ints)) to)
    ]

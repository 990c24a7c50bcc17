-- How often a number stands in a list.
use Rattle.std.proofs.Common.{◌≡◌, ◌≢◌, ℕ, zero, suc, ◌+◌, ◌≤◌, ◌<◌, Bool, true, false, not, cond, nat_eq, List, [], ◌∷◌, length, refl, sym, ap, subst, ◌∙◌, zero-add, arith}
use Rattle.std.specs.Prelude.{All}
use Rattle.std.proofs.lemmas.List.Elements.{All-cons, All-head, All-tail}
use Rattle.std.proofs.lemmas.List.Filters.{length-filter_both}
use Rattle.std.proofs.lemmas.List.Sums.{length-filter, sum_by-cons}
use Rattle.mn_lists.specs.Standing.{count_of, without}
use Rattle.mn_lists.proofs.Cases.{by_same}

pub count_of-cons_same : (n x : ℕ) (xs : List ℕ) → nat_eq x n ≡ true → count_of n (x ∷ xs) ≡ 1 + count_of n xs
count_of-cons_same n x xs test = sum_by-cons (λ y. cond (nat_eq y n) 1 0) x xs ∙ ap (λ (b : Bool). cond b 1 0 + count_of n xs) test

pub count_of-cons_other : (n x : ℕ) (xs : List ℕ) → nat_eq x n ≡ false → count_of n (x ∷ xs) ≡ count_of n xs
count_of-cons_other n x xs test = sum_by-cons (λ y. cond (nat_eq y n) 1 0) x xs ∙ ap (λ (b : Bool). cond b 1 0 + count_of n xs) test ∙ zero-add (count_of n xs)

pub count_of-cons-le : (n x : ℕ) (xs : List ℕ) → count_of n xs ≤ count_of n (x ∷ xs)
count_of-cons-le n x xs = omega (arith, sum_by-cons (λ y. cond (nat_eq y n) 1 0) x xs)

pub count_of-without_same : (t : ℕ) (xs : List ℕ) → count_of t (without t xs) ≡ 0
count_of-without_same t [] = refl
count_of-without_same t (x ∷ xs) =
    let P : Bool → Type 0 = λ b. count_of t (cond (not b) (x ∷ without t xs) (without t xs)) ≡ 0 in
    by_same x t (λ same test. subst P (sym test) (count_of-without_same t xs))
    (λ other test. subst P (sym test) (count_of-cons_other t x (without t xs) test ∙ count_of-without_same t xs))

pub count_of-without_other : (t u : ℕ) (xs : List ℕ) → u ≢ t → count_of u (without t xs) ≡ count_of u xs
count_of-without_other t u [] far = refl
count_of-without_other t u (x ∷ xs) far =
    let P : Bool → Type 0 = λ b. count_of u (cond (not b) (x ∷ without t xs) (without t xs)) ≡ count_of u (x ∷ xs) in
    let rest = count_of-without_other t u xs far in
    by_same x t (λ same test. subst P (sym test) (by_same x u (λ s _. absurd (far (sym s ∙ same))) (λ _ unlike. rest ∙ sym (count_of-cons_other u x xs unlike))))
    (λ other test. subst P (sym test) (by_same x u (λ _ like. count_of-cons_same u x (without t xs) like ∙ ap (λ (k : ℕ). 1 + k) rest ∙ sym (count_of-cons_same u x xs like)) (λ _ unlike. count_of-cons_other u x (without t xs) unlike ∙ rest ∙ sym (count_of-cons_other u x xs unlike))))

pub count_of-without-le : (t u : ℕ) (xs : List ℕ) → count_of u (without t xs) ≤ count_of u xs
count_of-without-le t u xs = by_same u t
    (λ same _. subst (λ (k : ℕ). count_of k (without t xs) ≤ count_of k xs) (sym same) (omega (arith, count_of-without_same t xs)))
    (λ other _. omega (arith, count_of-without_other t u xs other))

pub length-without : (t : ℕ) (xs : List ℕ) → count_of t xs + length (without t xs) ≡ length xs
length-without t xs =
    omega (arith, length-filter_both (λ x. nat_eq x t) (λ x. not (nat_eq x t)) (λ x. refl) xs, length-filter (λ x. nat_eq x t) xs)

-- a number of the list that is below n + 1, but for n, is below n
below_but : (n x : ℕ) → x < suc n → x ≢ n → x < n
below_but n x h far = omega arith

only_without : (n : ℕ) (xs : List ℕ) → All (λ x. x < suc n) xs → All (λ x. x < n) (without n xs)
only_without n [] only = λ k d h. absurd (omega arith)
only_without n (x ∷ xs) only =
    let rest = only_without n xs (All-tail (λ x. x < suc n) x xs only) in
    let P : Bool → Type 0 = λ b. All (λ x. x < n) (cond (not b) (x ∷ without n xs) (without n xs)) in
    by_same x n (λ same test. subst P (sym test) rest)
    (λ other test. subst P (sym test) (All-cons (λ x. x < n) x (without n xs) (below_but n x (All-head (λ x. x < suc n) x xs only) other) rest))

-- numbers below n of which none stands twice are at most n
pub few : (n : ℕ) (xs : List ℕ) → All (λ x. x < n) xs → ((x : ℕ) → x < n → count_of x xs ≤ 1) → length xs ≤ n
few zero [] only once = omega arith
few zero (x ∷ xs) only once = absurd (omega (arith, All-head (λ x. x < 0) x xs only))
few (suc n) xs only once =
    let rest = few n (without n xs) (only_without n xs only) (λ x h. omega (arith, count_of-without-le n x xs, once x (omega arith))) in
    omega (arith, length-without n xs, once n (omega arith), rest)

pub none_stands : (n : ℕ) (xs : List ℕ) → count_of n xs ≡ 0 → All (λ x. x ≢ n) xs
none_stands n [] none = λ k d h. absurd (omega arith)
none_stands n (x ∷ xs) none =
    by_same x n (λ same test. absurd (omega (arith, count_of-cons_same n x xs test)))
    (λ other test. All-cons (λ x. x ≢ n) x xs other (none_stands n xs (sym (count_of-cons_other n x xs test) ∙ none)))

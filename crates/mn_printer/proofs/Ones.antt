-- Dimensions of 1 before others.
use Rattle.std.proofs.Common.{◌≡◌, ℕ, zero, suc, ◌+◌, ◌-◌, ◌<◌, ◌≤◌, List, [], ◌∷◌, ◌++◌, length, take, drop, replicate, get_or, codes, refl, ap, sym, ◌∙◌, arith, take_all}
use Rattle.std.proofs.lemmas.Grind.{common_steps}
use Rattle.mn_model.specs.Problem.{Problem, size_of_dims}
use Rattle.mn_model.specs.declared.variable.VarId.{VarId}
use Rattle.mn_model.proofs.Sizes.{suc_plus_one}
use Rattle.mn_canonical.specs.Declarations.{nested_text}
use Rattle.mn_canonical.specs.Lists.{bracketed, repeated}
use Rattle.mn_printer.specs.Pages.{Written, onto}
use Rattle.mn_printer.proofs.Joining.{onto_joined}

less_one : (n : ℕ) → suc n - 1 ≡ n
less_one n = omega arith

pub one_more_repeated : (w u : Written) (left : ℕ) (bytes : List ℕ) → 0 < left → u ≡ onto w bytes → onto u (repeated (left - 1) bytes) ≡ onto w (repeated left bytes)
one_more_repeated w u zero bytes some written = absurd (omega arith)
one_more_repeated w u (suc left) bytes some written =
    ap (λ t. onto t (repeated (suc left - 1) bytes)) written ∙ onto_joined w bytes (repeated (suc left - 1) bytes) ∙ ap (λ n. onto w (bytes ++ repeated n bytes)) (less_one left)

pub no_more_repeated : (left : ℕ) (bytes : List ℕ) → left ≤ 0 → repeated left bytes ≡ []
no_more_repeated zero bytes none = refl
no_more_repeated (suc left) bytes none = absurd (omega arith)

plus_one : (i : ℕ) → i + 1 ≡ suc i
plus_one i = omega arith

-- one dimension of 1 more is passed
pub one_more_passed : (ones : ℕ) (dims : List ℕ) → ones < length dims → get_or dims ones 0 ≡ 1 → dims ≡ replicate ones 1 ++ drop ones dims → dims ≡ replicate (ones + 1) 1 ++ drop (ones + 1) dims
one_more_passed zero [] within is passed = absurd (omega arith)
one_more_passed zero (dim ∷ dims) within is passed = ap (λ d. d ∷ dims) is
one_more_passed (suc ones) [] within is passed = absurd (omega arith)
one_more_passed (suc ones) (dim ∷ dims) within is passed =
    let same : dim ≡ 1 = ap (λ ds. get_or ds 0 0) passed in
    let rest : dims ≡ replicate ones 1 ++ drop ones dims = ap (drop 1) passed in
    rw (suc_plus_one ones) ((λ i. same i ∷ one_more_passed ones dims (omega arith) is rest i))

-- they change neither the size nor the shape
pub size_passed : (ones : ℕ) (dims : List ℕ) → size_of_dims (replicate ones 1 ++ dims) ≡ size_of_dims dims
size_passed zero dims = refl
size_passed (suc ones) dims = omega (arith, size_passed ones dims)

repeated_last : (n : ℕ) (b : ℕ) → b ∷ repeated n (b ∷ []) ≡ repeated n (b ∷ []) ++ b ∷ []
repeated_last zero b = refl
repeated_last (suc n) b = ap (λ bs. b ∷ bs) (repeated_last n b)

-- they are written by as many brackets on both sides
pub nested_ones : (p : Problem) (ones : ℕ) (dims : List ℕ) (vars : List VarId) → length vars ≤ size_of_dims dims
    → nested_text p (replicate ones 1 ++ dims) vars ≡ (repeated ones (codes "[") ++ nested_text p dims vars) ++ repeated ones (codes "]")
unfolding bracketed
nested_ones p zero dims vars short = grind (arith, common_steps)
nested_ones p (suc ones) dims vars short =
    let size = size_of_dims (replicate ones 1 ++ dims) in
    let all : take size vars ≡ vars = take_all size vars (omega (arith, size_passed ones dims)) in
    ap (λ vs. (codes "[" ++ (nested_text p (replicate ones 1 ++ dims) vs ++ [])) ++ codes "]") all
    ∙ ap (λ text. (codes "[" ++ (text ++ [])) ++ codes "]") (nested_ones p ones dims vars short)
    ∙ regrouped (repeated ones (codes "[")) (nested_text p dims vars) (repeated ones (codes "]"))
    ∙ ap (λ close. (codes "[" ++ (repeated ones (codes "[") ++ nested_text p dims vars)) ++ close) (sym (repeated_last ones 93))
  where
    regrouped : (xs ys zs : List ℕ) → (codes "[" ++ (((xs ++ ys) ++ zs) ++ [])) ++ codes "]" ≡ (codes "[" ++ (xs ++ ys)) ++ (zs ++ codes "]")
    regrouped xs ys zs = grind (arith, common_steps)

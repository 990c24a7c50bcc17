-- The declaration of a variable, by the variable's number.
use Rattle.std.proofs.Common.{◌≡◌, ℕ, zero, suc, ◌+◌, ◌-◌, ◌<◌, ◌≤◌, List, [], ◌∷◌, length, replicate, get_or, slice_get, nat_lt, if◌then◌else◌, Bool, true, false, Option, Some, None, refl, ap, sym, ◌∙◌, subst, arith, length-append}
use Rattle.std.proofs.lemmas.Bool.Decides.{nat_tests}
use Rattle.std.proofs.lemmas.List.{length-replicate}
use Rattle.std.proofs.lemmas.Option.{same_Some, slice_get_read}
use Rattle.mn_model.specs.Lawful.{AreNumberedFrom}
use Rattle.mn_model.specs.Problem.{size_of_dims, variables_of, variable_count}
use Rattle.mn_model.specs.Variable.{number_of}
use Rattle.mn_model.specs.declared.declaration.Decl.{Decl}
use Rattle.mn_model.proofs.Lists.{some_there}
use Rattle.mn_canonical.specs.Names.{numbered_text, place_text}

abbrev pub or_else : {X : Type 0} → X → Option X → X
or_else x None = x
or_else x (Some y) = y

pub item_same : {X : Type 0} (xs : List X) (i : ℕ) (x y : X) → i < length xs → x ≡ get_or xs i x → slice_get xs i ≡ Some y → x ≡ y
item_same xs i x y within e is = same_Some x y (sym (slice_get_read xs (length xs) i x refl within e) ∙ is)

pub none_there : {X : Type 0} (i : ℕ) (x : X) → slice_get [] i ≡ Some x → ⊥
none_there i x is = cc

-- no declaration begins before the first
pub begins_behind : (b : ℕ) (decls : List Decl) (i : ℕ) (d : Decl) → AreNumberedFrom b decls → slice_get decls i ≡ Some d → b ≤ number_of d.first
begins_behind b [] i d numbered is = absurd (none_there i d is)
begins_behind b (e ∷ decls) zero d numbered is = omega (arith, numbered.0, ap (λ (x : Decl). number_of x.first) (same_Some e d is))
begins_behind b (e ∷ decls) (suc i) d numbered is = omega (arith, begins_behind (b + size_of_dims e.dims) decls i d numbered.1 is)

first_holds : (d : Decl) (decls : List Decl) (n : ℕ) → n < size_of_dims d.dims → numbered_text (d ∷ decls) n ≡ place_text d n
first_holds d decls n below = by (nat_lt n (size_of_dims d.dims)) refl
  where
    by : (t : Bool) → nat_lt n (size_of_dims d.dims) ≡ t → numbered_text (d ∷ decls) n ≡ place_text d n
    by true e = ap (λ (t : Bool). if t then place_text d n else numbered_text decls (n - size_of_dims d.dims)) e
    by false e = absurd (never e)
      where
        never : nat_lt n (size_of_dims d.dims) ≡ false → ⊥
        never e = grind (arith, nat_tests)

first_passed : (d : Decl) (decls : List Decl) (n : ℕ) → size_of_dims d.dims ≤ n → numbered_text (d ∷ decls) n ≡ numbered_text decls (n - size_of_dims d.dims)
first_passed d decls n above = by (nat_lt n (size_of_dims d.dims)) refl
  where
    by : (t : Bool) → nat_lt n (size_of_dims d.dims) ≡ t → numbered_text (d ∷ decls) n ≡ numbered_text decls (n - size_of_dims d.dims)
    by false e = ap (λ (t : Bool). if t then place_text d n else numbered_text decls (n - size_of_dims d.dims)) e
    by true e = absurd (never e)
      where
        never : nat_lt n (size_of_dims d.dims) ≡ true → ⊥
        never e = grind (arith, nat_tests)

minus_both : (n b s : ℕ) → (n - b) - s ≡ n - (b + s)
minus_both n b s = omega arith

-- the declaration that begins at the number or before it, and isn't passed by it, has it
pub numbered_at : (b n : ℕ) (decls : List Decl) (i : ℕ) (d : Decl) → AreNumberedFrom b decls → slice_get decls i ≡ Some d → number_of d.first ≤ n → n - number_of d.first < size_of_dims d.dims
    → numbered_text decls (n - b) ≡ place_text d (n - number_of d.first)
numbered_at b n [] i d numbered is begins below = absurd (none_there i d is)
numbered_at b n (e ∷ decls) zero d numbered is begins below =
    let same : e ≡ d = same_Some e d is in
    let at : number_of d.first ≡ b = ap (λ (x : Decl). number_of x.first) (sym same) ∙ numbered.0 in
    let small : n - b < size_of_dims e.dims = omega (arith, ap (λ (x : Decl). size_of_dims x.dims) same) in
    first_holds e decls (n - b) small ∙ ap (λ k. place_text e (n - k)) (sym at) ∙ ap (λ (x : Decl). place_text x (n - number_of d.first)) same
numbered_at b n (e ∷ decls) (suc i) d numbered is begins below =
    let behind : b + size_of_dims e.dims ≤ number_of d.first = begins_behind (b + size_of_dims e.dims) decls i d numbered.1 is in
    first_passed e decls (n - b) (omega arith) ∙ ap (numbered_text decls) (minus_both n b (size_of_dims e.dims)) ∙ numbered_at (b + size_of_dims e.dims) n decls i d numbered.1 is begins below

-- where the last one that begins at the number or before it is passed, nothing has it
pub unnumbered : (b n : ℕ) (decls : List Decl) (count : ℕ) → AreNumberedFrom b decls → b ≤ n → count ≤ length decls
    → ((k : ℕ) (d : Decl) → suc k ≡ count → slice_get decls k ≡ Some d → number_of d.first + size_of_dims d.dims ≤ n)
    → ((d : Decl) → slice_get decls count ≡ Some d → n < number_of d.first)
    → numbered_text decls (n - b) ≡ []
unnumbered b n [] count numbered from within last next = refl
unnumbered b n (e ∷ decls) zero numbered from within last next = absurd (never (next e refl))
  where
    never : n < number_of e.first → ⊥
    never before = omega (arith, numbered.0)
unnumbered b n (e ∷ decls) (suc zero) numbered from within last next =
    let passed : b + size_of_dims e.dims ≤ n = omega (arith, numbered.0, last 0 e refl refl) in
    first_passed e decls (n - b) (omega arith) ∙ ap (numbered_text decls) (minus_both n b (size_of_dims e.dims))
    ∙ unnumbered (b + size_of_dims e.dims) n decls 0 numbered.1 passed (omega arith) (λ k d far is. absurd (omega arith)) next
unnumbered b n (e ∷ decls) (suc (suc k)) numbered from within last next =
    let there : k < length decls = omega arith in
    let found = some_there decls k there in
    let behind : b + size_of_dims e.dims ≤ number_of found.0.first = begins_behind (b + size_of_dims e.dims) decls k found.0 numbered.1 found.1 in
    let passed : b + size_of_dims e.dims ≤ n = omega (arith, behind, last (suc k) found.0 refl found.1) in
    first_passed e decls (n - b) (omega arith) ∙ ap (numbered_text decls) (minus_both n b (size_of_dims e.dims))
    ∙ unnumbered (b + size_of_dims e.dims) n decls (suc k) numbered.1 passed (omega arith) (λ j d far is. last (suc j) d (ap suc far) is) next

-- a declaration has no more variables than all of them
pub size_within : (decls : List Decl) (i : ℕ) (d : Decl) → slice_get decls i ≡ Some d → size_of_dims d.dims ≤ variable_count decls
size_within [] i d is = absurd (none_there i d is)
size_within (e ∷ decls) zero d is =
    omega (arith, ap (λ (x : Decl). size_of_dims x.dims) (same_Some e d is), length-append (replicate (size_of_dims e.dims) e) (variables_of decls), length-replicate (size_of_dims e.dims) e)
size_within (e ∷ decls) (suc i) d is =
    omega (arith, size_within decls i d is, length-append (replicate (size_of_dims e.dims) e) (variables_of decls))

-- the last declaration that begins at a number or before it
pub last_begun : (found decls : List Decl) → found ≡ decls → (count : ℕ) (d : Decl) → (count ≡ 0 → ⊥) → count ≤ length found → d ≡ get_or found (count - 1) d → slice_get decls (count - 1) ≡ Some d
last_begun found decls e count d some within is =
    ap (λ ds. slice_get ds (count - 1)) (sym e) ∙ slice_get_read found (length found) (count - 1) d refl (omega arith) is

pub begins_before : (found : List Decl) (count n : ℕ) (d : Decl) → (count ≡ 0 → ⊥) → count ≤ length found → d ≡ get_or found (count - 1) d
    → ((k : ℕ) (e : Decl) → suc k ≡ count → slice_get found k ≡ Some e → number_of e.first ≤ n) → number_of d.first ≤ n
begins_before found count n d some within is last = last (count - 1) d (omega arith) (slice_get_read found (length found) (count - 1) d refl (omega arith) is)

-- where the last one is passed, or there is none, nothing has the number
pub none_has : (found decls : List Decl) (count n : ℕ) → found ≡ decls → AreNumberedFrom 0 decls → count ≤ length found
    → ((k : ℕ) (d : Decl) → suc k ≡ count → slice_get found k ≡ Some d → number_of d.first + size_of_dims d.dims ≤ n)
    → ((d : Decl) → slice_get found count ≡ Some d → n < number_of d.first)
    → numbered_text decls n ≡ []
none_has found decls count n e numbered within last next =
    let whole : numbered_text found (n - 0) ≡ [] = unnumbered 0 n found count (subst (AreNumberedFrom 0) (sym e) numbered) (omega arith) within last next in
    ap (λ ds. numbered_text ds n) (sym e) ∙ ap (numbered_text found) (omega arith) ∙ whole

-- what is passed at one place is passed at all places that are it
pub passed_there : (found : List Decl) (count n : ℕ) (d : Decl) → (count ≡ 0 → ⊥) → count ≤ length found → d ≡ get_or found (count - 1) d → number_of d.first + size_of_dims d.dims ≤ n
    → (k : ℕ) (e : Decl) → suc k ≡ count → slice_get found k ≡ Some e → number_of e.first + size_of_dims e.dims ≤ n
passed_there found count n d some within is passed k e at there =
    let here : k ≡ count - 1 = omega arith in
    let same : d ≡ e = item_same found (count - 1) d e (omega arith) is (ap (slice_get found) (sym here) ∙ there) in
    omega (arith, passed, ap (λ (x : Decl). number_of x.first + size_of_dims x.dims) same)

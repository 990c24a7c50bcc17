-- Lists of what is broken, and the first of them.
use Rattle.std.proofs.Common.{◌≡◌, ◌⊎◌, ℕ, ◌+◌, ◌<◌, ◌≤◌, Bool, true, false, cond, ltb, eqb, List, [], ◌∷◌, ◌++◌, get_or, Option, Some, None, refl, sym, ap, ap₂, ◌∙◌, subst, inl, inr, ⊎_elim, arith, append-nil}
use Rattle.std.proofs.lemmas.Bool.{cases_Bool, and_parts, or_cases, or_parts, and_cases, ltb-true, ltb-false, eqb-true, eqb-false}
use Rattle.mn_grammar.specs.Kinds.{rank, is_condition}
use Rattle.mn_grammar.specs.Places.{Break, when, on, behind, Has}
use Rattle.mn_grammar.specs.Lawful.{is_before, earlier, first}
use Rattle.mn_grammar.specs.declared.Kind.{Kind}
use Rattle.mn_grammar.specs.declared.Kind.TheVariants.{Lex, NumberRange, Unsupported, Syntax, Again, Name, EmptyDomain, Limit, Shape}
use Rattle.mn_grammar.specs.declared.Limit.TheVariants.{Variables, Constraints, Cells, Nesting, Span, Vector}

-- all kinds by rank
abbrev ranked : List Kind
ranked =
    Lex ∷ NumberRange ∷ Unsupported ∷ Syntax ∷ Again ∷ Name ∷ EmptyDomain ∷ Limit Variables ∷ Limit Constraints
    ∷ Limit Cells ∷ Limit Nesting ∷ Limit Span ∷ Limit Vector ∷ []

of_rank : (k : Kind) → get_or ranked (rank k) Shape ≡ k
of_rank Lex = refl
of_rank NumberRange = refl
of_rank Unsupported = refl
of_rank Syntax = refl
of_rank Again = refl
of_rank Name = refl
of_rank EmptyDomain = refl
of_rank (Limit Variables) = refl
of_rank (Limit Constraints) = refl
of_rank (Limit Cells) = refl
of_rank (Limit Nesting) = refl
of_rank (Limit Span) = refl
of_rank (Limit Vector) = refl
of_rank Shape = refl

-- two kinds of one rank are one
pub same_kind : (j k : Kind) → rank j ≡ rank k → j ≡ k
same_kind j k e = sym (of_rank j) ∙ ap (λ n. get_or ranked n Shape) e ∙ of_rank k

-- c doesn't come before b
abbrev pub NotBefore : Break → ℕ → Kind → Type 0
NotBefore b place kind = (b.0 < place) ⊎ ((b.0 ≡ place) × (rank b.1 ≤ rank kind))

-- b is the first of the list, where it has one
abbrev pub IsFirst : List Break → Option Break → Type 0
IsFirst bs None = bs ≡ []
IsFirst bs (Some b) = Has bs b.0 b.1 × ((place : ℕ) (kind : Kind) → Has bs place kind → NotBefore b place kind)

before_at : (c b : Break) → is_before c b ≡ true → NotBefore c b.0 b.1
before_at c b e =
    ⊎_elim
    (λ less. inl (ltb-true c.0 b.0 less))
    (λ same. inr (eqb-true c.0 b.0 (and_parts _ _ same).0, let r = ltb-true (rank c.1) (rank b.1) (and_parts _ _ same).1 in omega arith))
    (or_cases (ltb c.0 b.0) _ e)

not_before_at : (c b : Break) → is_before c b ≡ false → NotBefore b c.0 c.1
not_before_at c b e =
    let parts = or_parts (ltb c.0 b.0) _ e in
    let above = ltb-false c.0 b.0 parts.0 in
    ⊎_elim
    (λ apart. let ne = eqb-false c.0 b.0 apart in inl (omega arith))
    (λ above_rank. let r = ltb-false (rank c.1) (rank b.1) above_rank in
    ⊎_elim (λ (less : b.0 < c.0). inl less) (λ (same : b.0 ≡ c.0). inr (same, r)) (split b.0 c.0 above))
    (and_cases (eqb c.0 b.0) _ parts.1)
  where
    split : (m n : ℕ) → m ≤ n → (m < n) ⊎ (m ≡ n)
    split m n h = ⊎_elim (λ e. inr (eqb-true m n e)) (λ e. let ne = eqb-false m n e in inl (omega arith)) (cases_Bool (eqb m n))

not_before_trans : (a b : Break) (place : ℕ) (kind : Kind) → NotBefore a b.0 b.1 → NotBefore b place kind → NotBefore a place kind
not_before_trans a b place kind (inl x) (inl y) = inl (omega arith)
not_before_trans a b place kind (inl x) (inr y) = let e = y.0 in inl (omega arith)
not_before_trans a b place kind (inr x) (inl y) = let e = x.0 in inl (omega arith)
not_before_trans a b place kind (inr x) (inr y) = let e = x.0 in let f = y.0 in let g = x.1 in let h = y.1 in inr (omega arith, omega arith)

earlier_is : (b : Break) (bs : List Break) (o : Option Break) → IsFirst bs o → IsFirst (b ∷ bs) (Some (earlier b o))
earlier_is b bs None none = (
  inl (refl, refl),
  λ place kind has. ⊎_elim (λ here. inr (here.0, let e = ap rank here.1 in omega arith)) (λ later. absurd (subst (λ l. Has l place kind) none later)) has,
)
earlier_is b bs (Some c) is =
    ⊎_elim
    (λ before. subst (λ d. IsFirst (b ∷ bs) (Some d)) (sym (ap (λ x. cond x c b) before)) (
      inr is.0,
      λ place kind has. ⊎_elim (λ here. subst (λ k. NotBefore c place k) here.1 (subst (λ p. NotBefore c p b.1) here.0 (before_at c b before))) (λ later. is.1 place kind later) has,
    ))
    (λ not_before. subst (λ d. IsFirst (b ∷ bs) (Some d)) (sym (ap (λ x. cond x c b) not_before)) (
      inl (refl, refl),
      λ place kind has. ⊎_elim (λ here. inr (here.0, let e = ap rank here.1 in omega arith)) (λ later. not_before_trans b c place kind (not_before_at c b not_before) (is.1 place kind later)) has,
    ))
    (cases_Bool (is_before c b))

pub first_is : (bs : List Break) → IsFirst bs (first bs)
first_is [] = refl
first_is (b ∷ bs) = earlier_is b bs (first bs) (first_is bs)

both_first : (a b : Break) → NotBefore a b.0 b.1 → NotBefore b a.0 a.1 → a ≡ b
both_first a b (inl x) (inl y) = absurd (omega arith)
both_first a b (inl x) (inr y) = let e = y.0 in absurd (omega arith)
both_first a b (inr x) (inl y) = let e = x.0 in absurd (omega arith)
both_first a b (inr x) (inr y) =
    let same : a.1 ≡ b.1 = same_kind a.1 b.1 (let r = x.1 in let q = y.1 in omega arith) in
    λ i. (x.0 i, same i)

pub first_unique : (bs : List Break) (o p : Option Break) → IsFirst bs o → IsFirst bs p → o ≡ p
first_unique bs None None a b = refl
first_unique bs None (Some c) a b = absurd (subst (λ l. Has l c.0 c.1) a b.0)
first_unique bs (Some c) None a b = absurd (subst (λ l. Has l c.0 c.1) b a.0)
first_unique bs (Some c) (Some d) a b = ap (λ x. Some x) (both_first c d (a.1 d.0 d.1 b.0) (b.1 c.0 c.1 a.0))

-- what is broken in one of two lists, or behind n tokens
pub has_front : (bs cs : List Break) (place : ℕ) (kind : Kind) → Has bs place kind → Has (bs ++ cs) place kind
has_front [] cs place kind has = absurd has
has_front (b ∷ bs) cs place kind (inl here) = inl here
has_front (b ∷ bs) cs place kind (inr later) = inr (has_front bs cs place kind later)

pub has_back : (bs cs : List Break) (place : ℕ) (kind : Kind) → Has cs place kind → Has (bs ++ cs) place kind
has_back [] cs place kind has = has
has_back (b ∷ bs) cs place kind has = inr (has_back bs cs place kind has)

pub has_either : (bs cs : List Break) (place : ℕ) (kind : Kind) → Has (bs ++ cs) place kind → Has bs place kind ⊎ Has cs place kind
has_either [] cs place kind has = inr has
has_either (b ∷ bs) cs place kind (inl here) = inl (inl here)
has_either (b ∷ bs) cs place kind (inr later) = ⊎_elim (λ x. inl (inr x)) (λ x. inr x) (has_either bs cs place kind later)

pub has_behind : (n : ℕ) (bs : List Break) (place : ℕ) (kind : Kind) → Has bs place kind → Has (behind n bs) (n + place) kind
has_behind n [] place kind has = absurd has
has_behind n (b ∷ bs) place kind (inl here) = inl (ap (λ x. n + x) here.0, here.1)
has_behind n (b ∷ bs) place kind (inr later) = inr (has_behind n bs place kind later)

pub behind_has : (n : ℕ) (bs : List Break) (place : ℕ) (kind : Kind) → Has (behind n bs) place kind → (j : ℕ) × (n + j ≡ place) × Has bs j kind
behind_has n [] place kind has = absurd has
behind_has n (b ∷ bs) place kind (inl here) = (b.0, here.0, inl (refl, here.1))
behind_has n (b ∷ bs) place kind (inr later) = let r = behind_has n bs place kind later in (r.0, r.1, inr r.2)

-- the first of two lists of which the second is behind the first one's tokens
pub first_front : (n : ℕ) (bs cs : List Break) (b : Break) → b.0 < n → first bs ≡ Some b → first (bs ++ behind n cs) ≡ Some b
first_front n bs cs b within e =
    let is : IsFirst bs (Some b) = subst (λ o. IsFirst bs o) e (first_is bs) in
    first_unique (bs ++ behind n cs) _ (Some b) (first_is (bs ++ behind n cs)) (
      has_front bs (behind n cs) b.0 b.1 is.0,
      λ place kind has. ⊎_elim
          (λ front. is.1 place kind front)
          (λ back. let r = behind_has n cs place kind back in let p = r.1 in inl (omega arith))
          (has_either bs (behind n cs) place kind has),
    )

abbrev pub moved : ℕ → Option Break → Option Break
moved n None = None
moved n (Some b) = Some (n + b.0, b.1)

-- the first of two, of which the second is behind n tokens
abbrev pub or_moved : ℕ → Option Break → Option Break → Option Break
or_moved n (Some b) p = Some b
or_moved n None p = moved n p

first_moved : (n : ℕ) (bs : List Break) (o : Option Break) → IsFirst bs o → IsFirst (behind n bs) (moved n o)
first_moved n bs None none = ap (behind n) none
first_moved n bs (Some b) is = (
  has_behind n bs b.0 b.1 is.0,
  λ place kind has. let r = behind_has n bs place kind has in let p = r.1 in
      ⊎_elim (λ less. inl (omega arith)) (λ same. let e = same.0 in inr (omega arith, same.1)) (is.1 r.0 kind r.2),
)

pub first_behind : (n : ℕ) (bs : List Break) → first (behind n bs) ≡ moved n (first bs)
first_behind n bs = first_unique (behind n bs) _ _ (first_is (behind n bs)) (first_moved n bs (first bs) (first_is bs))

pub none_first : (bs : List Break) → first bs ≡ None → bs ≡ []
none_first bs e = subst (λ o. IsFirst bs o) e (first_is bs)

pub behind_behind : (m n : ℕ) (bs : List Break) → behind m (behind n bs) ≡ behind (m + n) bs
behind_behind m n [] = refl
behind_behind m n (b ∷ bs) =
    let place : m + (n + b.0) ≡ (m + n) + b.0 = omega arith in
    λ i. (place i, b.1) ∷ behind_behind m n bs i

pub behind_append : (n : ℕ) (bs cs : List Break) → behind n (bs ++ cs) ≡ behind n bs ++ behind n cs
behind_append n [] cs = refl
behind_append n (b ∷ bs) cs = ap (λ l. (n + b.0, b.1) ∷ l) (behind_append n bs cs)

pub behind_none : (bs : List Break) → behind 0 bs ≡ bs
behind_none [] = refl
behind_none (b ∷ bs) =
    let place : 0 + b.0 ≡ b.0 = omega arith in
    λ i. (place i, b.1) ∷ behind_none bs i

-- the first of two lists, where the first of the one lies before all of the other
pub first_joined : (n : ℕ) (bs cs : List Break) → ((b : Break) → first bs ≡ Some b → b.0 < n) → (o : Option Break) → first bs ≡ o → first (bs ++ behind n cs) ≡ or_moved n o (first cs)
first_joined n bs cs within (Some b) e = first_front n bs cs b (within b e) e
first_joined n bs cs within None e = ap (λ l. first (l ++ behind n cs)) (none_first bs e) ∙ first_behind n cs

-- all that is broken lies behind n tokens exactly where the first does
abbrev LiesBehind : ℕ → Option Break → Type 0
LiesBehind n None = Unit {0}
LiesBehind n (Some b) = n ≤ b.0

all_behind : (n : ℕ) (bs : List Break) (o : Option Break) → IsFirst bs o → LiesBehind n o → (place : ℕ) (kind : Kind) → Has bs place kind → n ≤ place
all_behind n bs None is lies place kind has = absurd (subst (λ l. Has l place kind) is has)
all_behind n bs (Some b) is lies place kind has = at (is.1 place kind has)
  where
    at : NotBefore b place kind → n ≤ place
    at (inl less) = omega arith
    at (inr same) = let e = same.0 in omega arith

first_lies : (n : ℕ) (bs : List Break) (o : Option Break) → IsFirst bs o → ((place : ℕ) (kind : Kind) → Has bs place kind → n ≤ place) → LiesBehind n o
first_lies n bs None is all = tt
first_lies n bs (Some b) is all = all b.0 b.1 is.0

-- so two lists with one first lie alike
pub lies_alike : (n : ℕ) (bs cs : List Break) → first bs ≡ first cs → ((place : ℕ) (kind : Kind) → Has bs place kind → n ≤ place) → (place : ℕ) (kind : Kind) → Has cs place kind → n ≤ place
lies_alike n bs cs e all = all_behind n cs (first cs) (first_is cs) (subst (λ o. LiesBehind n o) e (first_lies n bs (first bs) (first_is bs) all))

-- the first of two lists is that of their firsts
abbrev pub first_of_both : Option Break → Option Break → Option Break
first_of_both None p = p
first_of_both (Some b) p = Some (earlier b p)

both_is : (bs cs : List Break) (o p : Option Break) → IsFirst bs o → IsFirst cs p → IsFirst (bs ++ cs) (first_of_both o p)
both_is bs cs None p none is = subst (λ l. IsFirst (l ++ cs) p) (sym none) is
both_is bs cs (Some b) None is none = subst (λ l. IsFirst l (Some b)) (sym (ap (λ l. bs ++ l) none ∙ append-nil bs)) is
both_is bs cs (Some b) (Some c) is also = ⊎_elim
    (λ before. subst (λ d. IsFirst (bs ++ cs) (Some d)) (sym (ap (λ x. cond x c b) before)) (
      has_back bs cs c.0 c.1 also.0,
      λ place kind has. ⊎_elim
          (λ front. not_before_trans c b place kind (before_at c b before) (is.1 place kind front))
          (λ back. also.1 place kind back)
          (has_either bs cs place kind has),
    ))
    (λ not_before. subst (λ d. IsFirst (bs ++ cs) (Some d)) (sym (ap (λ x. cond x c b) not_before)) (
      has_front bs cs b.0 b.1 is.0,
      λ place kind has. ⊎_elim
          (λ front. is.1 place kind front)
          (λ back. not_before_trans b c place kind (not_before_at c b not_before) (also.1 place kind back))
          (has_either bs cs place kind has),
    ))
    (cases_Bool (is_before c b))

pub first_append : (bs cs : List Break) → first (bs ++ cs) ≡ first_of_both (first bs) (first cs)
first_append bs cs = first_unique (bs ++ cs) _ _ (first_is (bs ++ cs)) (both_is bs cs (first bs) (first cs) (first_is bs) (first_is cs))

-- so only the first of a part counts
pub alike_append : (bs cs ds es : List Break) → first bs ≡ first cs → first ds ≡ first es → first (bs ++ ds) ≡ first (cs ++ es)
alike_append bs cs ds es e f = first_append bs ds ∙ ap₂ first_of_both e f ∙ sym (first_append cs es)

pub alike_behind : (n : ℕ) (bs cs : List Break) → first bs ≡ first cs → first (behind n bs) ≡ first (behind n cs)
alike_behind n bs cs e = first_behind n bs ∙ ap (moved n) e ∙ sym (first_behind n cs)

-- two conditions on one token, of which the first has the lesser rank, are one
abbrev pub or_then : Option Kind → Option Kind → Option Kind
or_then None d = d
or_then (Some k) d = Some k

pub on_both : (c d : Option Kind) → ((j k : Kind) → c ≡ Some j → d ≡ Some k → rank j ≤ rank k) → first (on c ++ on d) ≡ first (on (or_then c d))
on_both None d below = refl
on_both (Some j) None below = refl
on_both (Some j) (Some k) below =
    let le = below j k refl refl in
    first_unique (on (Some j) ++ on (Some k)) _ _ (first_is (on (Some j) ++ on (Some k))) (
      inl (refl, refl),
      λ place kind has. ⊎_elim
          (λ here. inr (here.0, let e = ap rank here.1 in omega arith))
          (λ later. ⊎_elim (λ (there : (0 ≡ place) × (k ≡ kind)). inr (there.0, let e = ap rank there.1 in omega arith)) (λ none. absurd none) later)
          has,
    )

-- the kind of a condition that is broken where a test holds
pub kind_when : (b : Bool) (j : Kind) → is_condition j ≡ true → (k : Kind) → when b j ≡ Some k → is_condition k ≡ true
kind_when true j is k e = let same : j ≡ k = cc in subst (λ x. is_condition x ≡ true) same is
kind_when false j is k e = cc

pub kind_or : (c d : Option Kind) → ((k : Kind) → c ≡ Some k → is_condition k ≡ true) → ((k : Kind) → d ≡ Some k → is_condition k ≡ true) → (k : Kind) → or_then c d ≡ Some k → is_condition k ≡ true
kind_or None d a b k e = b k e
kind_or (Some j) d a b k e = a k e

-- two of them on one token
pub on_when : (b c : Bool) (j k : Kind) → rank j ≤ rank k → first (on (when b j) ++ on (when c k)) ≡ first (on (or_then (when b j) (when c k)))
on_when true true j k below = on_both (Some j) (Some k) (λ x y e f. let p : j ≡ x = cc in let q : k ≡ y = cc in subst (λ z. rank z ≤ rank y) p (subst (λ z. rank j ≤ rank z) q below))
on_when true false j k below = refl
on_when false c j k below = refl

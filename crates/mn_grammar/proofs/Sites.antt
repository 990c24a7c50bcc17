-- What is wanted at a place, and lists that don't begin with certain tokens.
use Rattle.std.proofs.Common.{◌≡◌, Bool, true, false, cond, not, ◌||◌, ◌&&◌, List, [], ◌∷◌, ◌++◌, refl, sym, ◌∙◌, subst, inl, inr}
use Rattle.std.proofs.lemmas.Bool.{or_parts, or_from, or_right}
use Rattle.mn_lexer.specs.Terminals.{Terminal, word, number, head, mark}
use Rattle.mn_grammar.specs.Tokens.{is_head, is_mark, is_known_head}
use Rattle.mn_grammar.specs.Kinds.{is_condition}
use Rattle.mn_grammar.specs.Reading.{Site, MarksOnly, Free, Fixed, Mixed, kind_at}
use Rattle.mn_grammar.specs.Lawful.{IsOpen, OnlyMarks, IsSite, Fits, Lacks}
use Rattle.mn_grammar.specs.declared.Kind.TheVariants.{Unsupported, Syntax}

either_kind : (b : Bool) → is_condition (cond b Unsupported Syntax) ≡ false
either_kind true = refl
either_kind false = refl

kind_or : (b : Bool) → is_condition (cond b Syntax Unsupported) ≡ false
kind_or true = refl
kind_or false = refl

-- a refusal by the grammar has no kind of a condition
pub kind_of_site : (s : Site) (us : List Terminal) → is_condition (kind_at s us) ≡ false
kind_of_site Fixed (t ∷ us) = kind_or (is_mark t)
kind_of_site Mixed (t ∷ us) = either_kind (is_head t && not (is_known_head t))
kind_of_site MarksOnly (t ∷ us) = refl
kind_of_site Free (t ∷ us) = refl
kind_of_site Fixed [] = refl
kind_of_site Mixed [] = refl
kind_of_site MarksOnly [] = refl
kind_of_site Free [] = refl

open_wider : (f g : Terminal → Bool) → IsOpen f → IsOpen (λ t. g t || f t)
open_wider f g (inl names) = inl (λ t w e. or_right (g t) (f t) (names t w e))
open_wider f g (inr numbers) = inr (λ t e. or_right (g t) (f t) (numbers t e))

-- a site stays the same where tokens that fit it are wanted too
pub IsSite-wider : (s : Site) (g f : Terminal → Bool) → Fits s g → IsSite s f → IsSite s (λ t. g t || f t)
IsSite-wider MarksOnly g f fits is = λ t e. or_from (g t) (f t) (fits t e) (is t e)
IsSite-wider Free g f fits is = (λ t e. or_from (g t) (f t) (fits t e) (is.0 t e), open_wider f g is.1)
IsSite-wider Fixed g f fits is = ((or_from _ _ fits.0 is.0.0, or_from _ _ fits.1 is.0.1), (is.1.0, is.1.1, or_right (g is.1.0) (f is.1.0) is.1.2))
IsSite-wider Mixed g f fits is = ((is.0.0, is.0.1, or_right (g is.0.0) (f is.0.0) is.0.2), open_wider f g is.1)

or_swap : (x y : Bool) → (x || y) ≡ (y || x)
or_swap true true = refl
or_swap true false = refl
or_swap false true = refl
or_swap false false = refl

-- the same, with the wider tokens behind
pub IsSite-wider_back : (s : Site) (f g : Terminal → Bool) → IsSite s f → Fits s g → IsSite s (λ t. f t || g t)
IsSite-wider_back s f g is fits = subst (IsSite s) (λ i t. or_swap (g t) (f t) i) (IsSite-wider s g f fits is)

pub head_no_mark : (t : Terminal) → is_head t ≡ true → is_mark t ≡ false
head_no_mark (head bs) e = refl
head_no_mark (word bs) e = cc
head_no_mark (number n) e = cc
head_no_mark (mark m) e = cc

-- marks fit each site, and so does nothing
pub Fits-marks : (s : Site) (g : Terminal → Bool) → OnlyMarks g → Fits s g
Fits-marks MarksOnly g only = only
Fits-marks Free g only = λ t e. only t (head_no_mark t e)
Fits-marks Fixed g only = (only _ refl, only _ refl)
Fits-marks Mixed g only = tt

pub Fits-nothing : (s : Site) → Fits s (λ t. false)
Fits-nothing s = Fits-marks s (λ t. false) (λ t e. refl)

abbrev pub is_nil : {A : Type 0} → List A → Bool
is_nil [] = true
is_nil (x ∷ xs) = false

pub nil_of : {A : Type 0} (xs : List A) → is_nil xs ≡ true → xs ≡ []
nil_of [] e = refl
nil_of (x ∷ xs) e = cc

pub both_nil : {A : Type 0} (xs ys : List A) → xs ++ ys ≡ [] → (xs ≡ []) × (ys ≡ [])
both_nil [] ys e = (refl, e)
both_nil (x ∷ xs) ys e = absurd cc

and_true : (x : Bool) → (x && true) ≡ x
and_true true = refl
and_true false = refl

and_false : (x : Bool) → (x && false) ≡ false
and_false true = refl
and_false false = refl

pub Fits-none : (s : Site) {g : Terminal → Bool} → ((t : Terminal) → g t ≡ false) → Fits s g
Fits-none s {g} none = Fits-marks s g (λ t e. none t)

-- tokens that are wanted where p is empty
pub Fits-where : (p : List Terminal) (s : Site) (g : Terminal → Bool) → (p ≡ [] → Fits s g) → Fits s (λ t. g t && is_nil p)
Fits-where [] s g fits = subst (Fits s) (λ i t. sym (and_true (g t)) i) (fits refl)
Fits-where (u ∷ p) s g fits = subst (Fits s) (λ i t. sym (and_false (g t)) i) (Fits-nothing s)

-- no token of two classes at the front
pub Lacks-parts : (f g : Terminal → Bool) (us : List Terminal) → Lacks (λ t. f t || g t) us → Lacks f us × Lacks g us
Lacks-parts f g [] lacks = (tt, tt)
Lacks-parts f g (t ∷ us) lacks = or_parts (f t) (g t) lacks

pub Lacks-both : (f g : Terminal → Bool) (us : List Terminal) → Lacks f us → Lacks g us → Lacks (λ t. f t || g t) us
Lacks-both f g [] a b = tt
Lacks-both f g (t ∷ us) a b = or_from (f t) (g t) a b

-- the front of p, or where p is empty what follows
pub Lacks-front : (g : Terminal → Bool) (p us vs : List Terminal) → Lacks g (p ++ us) → Lacks (λ t. g t && is_nil p) vs → Lacks g (p ++ vs)
Lacks-front g [] us [] a b = tt
Lacks-front g [] us (v ∷ vs) a b = sym (and_true (g v)) ∙ b
Lacks-front g (t ∷ p) us vs a b = a

pub Lacks-behind : (g : Terminal → Bool) (p us : List Terminal) → Lacks g (p ++ us) → Lacks (λ t. g t && is_nil p) us
Lacks-behind g [] [] a = tt
Lacks-behind g [] (u ∷ us) a = and_true (g u) ∙ a
Lacks-behind g (t ∷ p) [] a = tt
Lacks-behind g (t ∷ p) (u ∷ us) a = and_false (g u)

pub Lacks-same : (g : Terminal → Bool) (p : List Terminal) (t : Terminal) (us vs : List Terminal) → Lacks g (p ++ t ∷ us) → Lacks g (p ++ t ∷ vs)
Lacks-same g [] t us vs a = a
Lacks-same g (u ∷ p) t us vs a = a

pub Lacks-none : (us : List Terminal) → Lacks (λ t. false) us
Lacks-none [] = tt
Lacks-none (t ∷ us) = refl

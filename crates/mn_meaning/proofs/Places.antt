-- A walk over the places of a vector: what the values that are left are, and what they count.
use Rattle.std.proofs.Common.{◌≡◌, ℕ, ◌+◌, ◌<◌, ◌≤◌, ℤ, List, [], ◌∷◌, ◌⊎◌, inl, inr, ⊎_elim, length, drop, get_or, Bool, true, false, if◌then◌else◌, refl, ap, sym, ◌∙◌, of_z, to_z, nat_eq}
use Rattle.std.proofs.lemmas.List.{drop_more, drop_all}
use Rattle.std.proofs.lemmas.Bool.Decides.{Decides-eqb, Decides-int_eq}
use Rattle.std.proofs.lemmas.Int.{to_z-of_z}
use Rattle.std.specs.Bool.{Decides}
use Rattle.std.specs.Int.RustNames.{FitsSigned}
use Rattle.std.specs.Ordering.{int_eq}
use mir.Syntax.{Width}
use Rattle.mn_model.specs.declared.constraint.Term.{Term}
use Rattle.mn_meaning.specs.Families.{occurrences, agreeing, differing}
use Rattle.mn_meaning.specs.Meaning.{values_at, value_of}

-- the value at the next place is in front of those behind it
pub at_next : (f : ℕ → ℤ) (items v : List Term) (i : ℕ) (d : Term) (a : ℤ) → items ≡ v → i < length items → a ≡ value_of f (get_or items i d) → values_at f (drop i v) ≡ a ∷ values_at f (drop (i + 1) v)
at_next f items v i d a same within is =
    ap (λ (ts : List Term). values_at f (drop i ts)) (sym same)
    ∙ (ap (values_at f) (drop_more items i d within)
    ∙ (ap (λ (b : ℤ). b ∷ values_at f (drop (i + 1) items)) (sym is) ∙ ap (λ (ts : List Term). a ∷ values_at f (drop (i + 1) ts)) same))

-- a test of two numbers, once they are known to be equal, or to differ
pub int_eq-same : (a b : ℤ) → a ≡ b → int_eq a b ≡ true
int_eq-same a b same = (Decides-int_eq a b).1 same

pub int_eq-other : (a b : ℤ) → (a ≡ b → ⊥) → int_eq a b ≡ false
int_eq-other a b differs = by (int_eq a b) (Decides-int_eq a b).0
  where
    by : (t : Bool) → (t ≡ true → a ≡ b) → t ≡ false
    by true tells = absurd (differs (tells refl))
    by false tells = refl

-- how many values are k, where the first one is or isn't
pub occurrences-same : (k a : ℤ) (here rest : List ℤ) → here ≡ a ∷ rest → a ≡ k → occurrences k here ≡ 1 + occurrences k rest
occurrences-same k a here rest is same = ap (occurrences k) is ∙ ap (λ (t : Bool). (if t then 1 else 0) + occurrences k rest) (int_eq-same a k same)

pub occurrences-other : (k a : ℤ) (here rest : List ℤ) → here ≡ a ∷ rest → (a ≡ k → ⊥) → occurrences k here ≡ 0 + occurrences k rest
occurrences-other k a here rest is differs = ap (occurrences k) is ∙ ap (λ (t : Bool). (if t then 1 else 0) + occurrences k rest) (int_eq-other a k differs)

-- two numbers have the same bits exactly where they, or what they are, are equal
pub same_bits : (w : Width) (x y a b : ℤ) → FitsSigned w x → FitsSigned w y → x ≡ a → y ≡ b → Decides (nat_eq (of_z w x) (of_z w y)) (a ≡ b)
same_bits w x y a b fits suits is has = (
  λ e. sym is ∙ (sym (to_z-of_z w x fits) ∙ (ap (to_z w) ((Decides-eqb (of_z w x) (of_z w y)).0 e) ∙ (to_z-of_z w y suits ∙ has))),
  λ e. (Decides-eqb (of_z w x) (of_z w y)).1 (ap (of_z w) (is ∙ (e ∙ sym has))),
)

-- behind the last place there is none
pub at_end : (f : ℕ → ℤ) (items v : List Term) (i : ℕ) → items ≡ v → length items ≤ i → values_at f (drop i v) ≡ []
at_end f items v i same past = ap (λ (ts : List Term). values_at f (drop i ts)) (sym same) ∙ ap (values_at f) (drop_all i items past)

-- at how many places two lists agree, differ, where the first ones are or aren't equal, and where one list has ended
module _ (a b : ℤ) (xs ys others : List ℤ) (next : xs ≡ a ∷ others) (ends : List ℤ) (follows : ys ≡ b ∷ ends) where
  pub agreeing-same : a ≡ b → agreeing xs ys ≡ 1 + agreeing others ends
  agreeing-same same = (λ i. agreeing (next i) (follows i)) ∙ ap (λ (t : Bool). (if t then 1 else 0) + agreeing others ends) (int_eq-same a b same)

  pub agreeing-other : (a ≡ b → ⊥) → agreeing xs ys ≡ 0 + agreeing others ends
  agreeing-other differs = (λ i. agreeing (next i) (follows i)) ∙ ap (λ (t : Bool). (if t then 1 else 0) + agreeing others ends) (int_eq-other a b differs)

  pub differing-same : a ≡ b → differing xs ys ≡ 0 + differing others ends
  differing-same same = (λ i. differing (next i) (follows i)) ∙ ap (λ (t : Bool). (if t then 0 else 1) + differing others ends) (int_eq-same a b same)

  pub differing-other : (a ≡ b → ⊥) → differing xs ys ≡ 1 + differing others ends
  differing-other differs = (λ i. differing (next i) (follows i)) ∙ ap (λ (t : Bool). (if t then 0 else 1) + differing others ends) (int_eq-other a b differs)

nil≢cons : {a : ℤ} {xs : List ℤ} → [] ≡ a ∷ xs → ⊥
nil≢cons e = cc

pub agreeing-end : (xs ys : List ℤ) → (xs ≡ []) ⊎ (ys ≡ []) → agreeing xs ys ≡ 0
agreeing-end [] ys either = refl
agreeing-end (a ∷ xs) [] either = refl
agreeing-end (a ∷ xs) (b ∷ ys) either = ⊎_elim (λ e. absurd (nil≢cons (sym e))) (λ e. absurd (nil≢cons (sym e))) either

pub differing-end : (xs ys : List ℤ) → (xs ≡ []) ⊎ (ys ≡ []) → differing xs ys ≡ 0
differing-end [] ys either = refl
differing-end (a ∷ xs) [] either = refl
differing-end (a ∷ xs) (b ∷ ys) either = ⊎_elim (λ e. absurd (nil≢cons (sym e))) (λ e. absurd (nil≢cons (sym e))) either

-- of two walks one has ended: so has that over the values
pub values_end : (f : ℕ → ℤ) (xs : List Term) (ys : List ℤ) → (xs ≡ []) ⊎ (ys ≡ []) → (values_at f xs ≡ []) ⊎ (ys ≡ [])
values_end f xs ys either = ⊎_elim (λ e. inl (ap (values_at f) e)) inr either

-- the value of the next term is in front of those of the others
pub value_next : (f : ℕ → ℤ) (v : List Term) (t : Term) (others : List Term) (a : ℤ) → v ≡ t ∷ others → a ≡ value_of f t → values_at f v ≡ a ∷ values_at f others
value_next f v t others a next is = ap (values_at f) next ∙ ap (λ (b : ℤ). b ∷ values_at f others) (sym is)

-- of two walks over terms one has ended: so has that over their values
pub both_end : (f : ℕ → ℤ) (v w : List Term) → (v ≡ []) ⊎ (w ≡ []) → (values_at f v ≡ []) ⊎ (values_at f w ≡ [])
both_end f v w either = ⊎_elim (λ e. inl (ap (values_at f) e)) (λ e. inr (ap (values_at f) e)) either

pub values_follow : (f : ℕ → ℤ) (ys : List ℤ) (xs : List Term) → (ys ≡ []) ⊎ (xs ≡ []) → (ys ≡ []) ⊎ (values_at f xs ≡ [])
values_follow f ys xs either = ⊎_elim inl (λ e. inr (ap (values_at f) e)) either

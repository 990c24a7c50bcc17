-- Values that rise from 0 on and end at 1 at the latest are 0 and 1.
use Rattle.std.proofs.Common.{◌≡◌, ℤ, pos, negsuc, zero, suc, ◌-◌, ◌≤ℤ◌, ◌<ℤ◌, Bool, true, false, ◌||◌, ◌&&◌, List, [], ◌∷◌, length, slice_get, Option, Some, ⊎_elim, refl, sym, ap, ◌∙◌, subst, arith, int_le}
use Rattle.std.proofs.lemmas.Int.{ints}
use Rattle.std.specs.List.{list_all}
use Rattle.std.specs.Ordering.{int_eq}
use Rattle.std.proofs.lemmas.Bool.{and_parts, or_cases}
use Rattle.std.proofs.lemmas.Bool.Decides.{Decides-int_eq}
use Rattle.mn_model.specs.Domain.{Ascends, IsDomain, IsFirst, IsLast}
use Rattle.mn_references.specs.References.{are_zero_one}

abbrev is_zero_one : ℤ → Bool
is_zero_one a = int_eq a (pos 0) || int_eq a (pos 1)

-- the last of the others is the last of all
last_of_rest : (v w : ℤ) (others : List ℤ) (hi : ℤ) → IsLast hi (v ∷ w ∷ others) → IsLast hi (w ∷ others)
last_of_rest v w others hi last =
    let same : length (v ∷ w ∷ others) - 1 ≡ suc (length (w ∷ others) - 1) = omega arith in
    subst (λ n. slice_get (v ∷ w ∷ others) n ≡ Some hi) same last

-- each is at most the last
below_last : (v : ℤ) (others : List ℤ) (hi : ℤ) → Ascends (v ∷ others) → IsLast hi (v ∷ others) → v ≤ℤ hi
below_last v [] hi up last = let same : v ≡ hi = cc in omega (arith, ints)
below_last v (w ∷ others) hi up last = let le = below_last w others hi up.1 (last_of_rest v w others hi last) in let less = up.0.0 in omega (arith, ints)

between : (a : ℤ) → pos 0 ≤ℤ a → a ≤ℤ pos 1 → is_zero_one a ≡ true
between (pos zero) low high = refl
between (pos (suc zero)) low high = refl
between (pos (suc (suc n))) low high = absurd (omega (arith, ints))
between (negsuc n) low high = absurd (omega (arith, ints))

-- from 0 to 1
all_between : (v : ℤ) (others : List ℤ) (hi : ℤ) → Ascends (v ∷ others) → IsLast hi (v ∷ others) → pos 0 ≤ℤ v → hi ≤ℤ pos 1 → list_all is_zero_one (v ∷ others) ≡ true
all_between v [] hi up last low high = let le = below_last v [] hi up last in ap (λ b. b && true) (between v low (omega (arith, ints)))
all_between v (w ∷ others) hi up last low high =
    let le = below_last v (w ∷ others) hi up last in
    let less = up.0.0 in
    ap (λ b. b && list_all is_zero_one (w ∷ others)) (between v low (omega (arith, ints)))
    ∙ all_between w others hi up.1 (last_of_rest v w others hi last) (omega (arith, ints)) high

value_of : (a : ℤ) → is_zero_one a ≡ true → (pos 0 ≤ℤ a) × (a ≤ℤ pos 1)
value_of a is = ⊎_elim
    (λ e. let same : a ≡ pos 0 = (Decides-int_eq a (pos 0)).0 e in (omega (arith, ints), omega (arith, ints)))
    (λ e. let same : a ≡ pos 1 = (Decides-int_eq a (pos 1)).0 e in (omega (arith, ints), omega (arith, ints)))
    (or_cases (int_eq a (pos 0)) (int_eq a (pos 1)) is)

last_is : (v : ℤ) (others : List ℤ) (hi : ℤ) → IsLast hi (v ∷ others) → list_all is_zero_one (v ∷ others) ≡ true → hi ≤ℤ pos 1
last_is v [] hi last all = let same : v ≡ hi = cc in let le = (value_of v (and_parts (is_zero_one v) true all).0).1 in omega (arith, ints)
last_is v (w ∷ others) hi last all = last_is w others hi (last_of_rest v w others hi last) (and_parts (is_zero_one v) (list_all is_zero_one (w ∷ others)) all).1

-- so the two tests of a domain's ends decide
high_decides : (values : List ℤ) (lo hi h : ℤ) (b : Bool) → IsDomain values → IsFirst lo values → IsLast hi values → pos 0 ≤ℤ lo → h ≡ hi → int_le h (pos 1) ≡ b → b ≡ list_all is_zero_one values
high_decides [] lo hi h b domain first last low same test = absurd (domain.filled refl)
high_decides (v ∷ others) lo hi h true domain first last low same test =
    let is : v ≡ lo = cc in sym (all_between v others hi domain.ascends last (omega (arith, ints)) (omega (arith, ints)))
high_decides (v ∷ others) lo hi h false domain first last low same test =
    sym (not_all (list_all is_zero_one (v ∷ others)) refl)
  where
    not_all : (b : Bool) → list_all is_zero_one (v ∷ others) ≡ b → b ≡ false
    not_all true all = let le = last_is v others hi last all in absurd (omega (arith, ints))
    not_all false all = refl

pub then_decides : (o : Option (List ℤ)) (values : List ℤ) (lo hi l h : ℤ) → o ≡ Some values → IsDomain values → IsFirst lo values → IsLast hi values → l ≡ lo → h ≡ hi → pos 0 ≤ℤ l → int_le h (pos 1) ≡ are_zero_one o
then_decides o values lo hi l h is domain first last same also low =
    high_decides values lo hi h (int_le h (pos 1)) domain first last (omega (arith, ints)) also refl ∙ sym (ap are_zero_one is)

low_decides : (values : List ℤ) (lo : ℤ) → IsDomain values → IsFirst lo values → lo <ℤ pos 0 → list_all is_zero_one values ≡ false
low_decides [] lo domain first low = absurd (domain.filled refl)
low_decides (v ∷ others) lo domain first low = not_all (list_all is_zero_one (v ∷ others)) refl
  where
    not_all : (b : Bool) → list_all is_zero_one (v ∷ others) ≡ b → b ≡ false
    not_all true all = let same : v ≡ lo = cc in let le = (value_of v (and_parts (is_zero_one v) (list_all is_zero_one others) all).0).0 in absurd (omega (arith, ints))
    not_all false all = refl

pub else_decides : (o : Option (List ℤ)) (values : List ℤ) (lo l : ℤ) → o ≡ Some values → IsDomain values → IsFirst lo values → l ≡ lo → int_le (pos 0) l ≡ false → int_le (pos 0) l ≡ are_zero_one o
else_decides o values lo l is domain first same low = low ∙ sym (ap are_zero_one is ∙ low_decides values lo domain first (omega (arith, ints)))

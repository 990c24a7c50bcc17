-- A stretch of numbers is a domain between its two ends.
use Rattle.std.proofs.Common.{◌≡◌, ℕ, zero, suc, ◌-◌, ◌<◌, ℤ, pos, ◌-ℤ◌, negsuc, ◌+ℤ◌, ◌<ℤ◌, ◌≤ℤ◌, neg_ℤ, ◌⊎◌, inl, inr, ◌↔◌, List, [], ◌∷◌, length, slice_get, Some, refl, sym, ap, subst, ◌∙◌, arith}
use Rattle.std.proofs.lemmas.Int.{ints}
use Rattle.std.specs.Int.{int_gap}
use Rattle.std.specs.List.{AllByRecursion}
use Rattle.mn_model.specs.Decided.{Decided, decide_int}
use Rattle.mn_model.specs.Domain.{numbers_from, stretch, values_of, Has, IsValue, Ascends, IsDomain, IsDomainFrom}
use Rattle.mn_model.specs.declared.limits.TheConstants.{VALUE}

pub length-numbers_from : (lo : ℤ) (n : ℕ) → length (numbers_from lo n) ≡ n
unfolding numbers_from
length-numbers_from lo zero = refl
length-numbers_from lo (suc n) = ap suc (length-numbers_from (lo +ℤ pos 1) n)

-- the number at place i
pub slice_get-numbers_from : (lo : ℤ) (n i : ℕ) → i < n → slice_get (numbers_from lo n) i ≡ Some (lo +ℤ pos i)
unfolding numbers_from
slice_get-numbers_from lo zero i below = absurd (omega arith)
slice_get-numbers_from lo (suc n) zero below = ap Some (omega (arith, ints))
slice_get-numbers_from lo (suc n) (suc i) below = slice_get-numbers_from (lo +ℤ pos 1) n i (omega arith) ∙ ap Some (omega (arith, ints))

below-numbers_from : (a lo : ℤ) (n : ℕ) → a <ℤ lo → AllByRecursion (λ b. a <ℤ b) (numbers_from lo n)
unfolding numbers_from
below-numbers_from a lo zero below = tt
below-numbers_from a lo (suc n) below = (below, below-numbers_from a (lo +ℤ pos 1) n (omega (arith, ints)))

pub Ascends-numbers_from : (lo : ℤ) (n : ℕ) → Ascends (numbers_from lo n)
unfolding numbers_from
Ascends-numbers_from lo zero = tt
Ascends-numbers_from lo (suc n) = (below-numbers_from lo (lo +ℤ pos 1) n (omega (arith, ints)), Ascends-numbers_from (lo +ℤ pos 1) n)

pub valued-numbers_from : (lo : ℤ) (n : ℕ) → neg_ℤ VALUE ≤ℤ lo → (lo +ℤ pos n) ≤ℤ (VALUE +ℤ pos 1) → AllByRecursion IsValue (numbers_from lo n)
unfolding numbers_from
valued-numbers_from lo zero low high = tt
valued-numbers_from lo (suc n) low high = ((low, omega (arith, ints)), valued-numbers_from (lo +ℤ pos 1) n (omega (arith, ints)) (omega (arith, ints)))

-- from lo the gap leads to hi
pub plus-int_gap : (lo hi : ℤ) → lo ≤ℤ hi → lo +ℤ pos (int_gap lo hi) ≡ hi
plus-int_gap (pos a) (pos b) ordered = omega (arith, ints)
plus-int_gap (pos a) (negsuc b) ordered = omega (arith, ints)
plus-int_gap (negsuc a) (pos b) ordered = omega (arith, ints)
plus-int_gap (negsuc a) (negsuc b) ordered = omega (arith, ints)

pub IsDomain-stretch : (lo hi : ℤ) → lo ≤ℤ hi → IsValue lo → IsValue hi → IsDomain (stretch lo hi)
unfolding stretch numbers_from
IsDomain-stretch lo hi ordered low high = record {
  filled = λ e. cc;
  ascends = Ascends-numbers_from lo (suc (int_gap lo hi));
  valued = valued-numbers_from lo (suc (int_gap lo hi)) low.0 (omega (arith, ints, plus-int_gap lo hi ordered, high.1));
}

pub IsDomainFrom-stretch : (lo hi : ℤ) → lo ≤ℤ hi → IsValue lo → IsValue hi → IsDomainFrom lo hi (stretch lo hi)
unfolding stretch
IsDomainFrom-stretch lo hi ordered low high = record {
  ordered = ordered;
  low = low;
  high = high;
  domain = IsDomain-stretch lo hi ordered low high;
  first = slice_get-numbers_from lo (suc (int_gap lo hi)) 0 (omega arith) ∙ ap Some (omega (arith, ints));
  last = rw (length-numbers_from lo (suc (int_gap lo hi))) (rw (slice_get-numbers_from lo (suc (int_gap lo hi)) (suc (int_gap lo hi) - 1) (omega arith)) (ap Some (omega (arith, ints, plus-int_gap lo hi ordered))));
}

pub Ascends-stretch : (lo hi : ℤ) → Ascends (stretch lo hi)
unfolding stretch
Ascends-stretch lo hi = Ascends-numbers_from lo (suc (int_gap lo hi))

pub length-stretch : (lo hi : ℤ) → lo ≤ℤ hi → pos (length (stretch lo hi)) ≡ hi -ℤ lo +ℤ pos 1
unfolding stretch
length-stretch lo hi ordered = ap pos (length-numbers_from lo (suc (int_gap lo hi))) ∙ omega (arith, ints, plus-int_gap lo hi ordered)

pub slice_get-stretch : (lo hi : ℤ) (i : ℕ) → i < length (stretch lo hi) → slice_get (stretch lo hi) i ≡ Some (lo +ℤ pos i)
unfolding stretch
slice_get-stretch lo hi i within = slice_get-numbers_from lo (suc (int_gap lo hi)) i (omega (arith, length-numbers_from lo (suc (int_gap lo hi))))

-- what is listed is nothing: the values are those of the stretch
pub values_of-none : (lo hi : ℤ) (listed : List ℤ) → listed ≡ [] → values_of lo hi listed ≡ stretch lo hi
values_of-none lo hi [] none = refl
values_of-none lo hi (value ∷ others) none = cc

-- what is listed is something: it is the values
pub values_of-some : (lo hi : ℤ) (listed : List ℤ) → (listed ≡ [] → ⊥) → values_of lo hi listed ≡ listed
values_of-some lo hi [] some = absurd (some refl)
values_of-some lo hi (value ∷ others) some = refl

-- a domain whose values are those of the stretch
pub domain_is_stretch : (lo hi : ℤ) (listed values : List ℤ) → listed ≡ [] → values_of lo hi listed ≡ values → values ≡ stretch lo hi
domain_is_stretch lo hi listed values none is = sym is ∙ values_of-none lo hi listed none

-- the value at a place of such a domain
pub record StretchedTo (lo hi : ℤ) (values : List ℤ) (i : ℕ) : Type 0 where
  pub value : slice_get values i ≡ Some (lo +ℤ pos i)
  pub bound : (lo +ℤ pos i) ≤ℤ hi

pub stretched_to : (lo hi : ℤ) (listed values : List ℤ) (i : ℕ) → lo ≤ℤ hi → listed ≡ [] → values_of lo hi listed ≡ values → i < length values → StretchedTo lo hi values i
stretched_to lo hi listed values i ordered none is within =
    let same = domain_is_stretch lo hi listed values none is in
    let inside : i < length (stretch lo hi) = subst (λ vs. i < length vs) same within in
    record {
      value = ap (λ vs. slice_get vs i) same ∙ slice_get-stretch lo hi i inside;
      bound = omega (arith, ints, length-stretch lo hi ordered);
    }

-- a number is among those from lo on exactly where it is between the ends
Has-from_numbers : (lo : ℤ) (n : ℕ) (a : ℤ) → Has (numbers_from lo n) a → (lo ≤ℤ a) × (a <ℤ (lo +ℤ pos n))
unfolding numbers_from
Has-from_numbers lo zero a has = absurd has
Has-from_numbers lo (suc n) a (inl is) = (omega (arith, ints, is), omega (arith, ints, is))
Has-from_numbers lo (suc n) a (inr later) = let has = Has-from_numbers (lo +ℤ pos 1) n a later in (omega (arith, ints, has.0), omega (arith, ints, has.1))

Has-numbers_from : (lo : ℤ) (n : ℕ) (a : ℤ) → lo ≤ℤ a → a <ℤ (lo +ℤ pos n) → Has (numbers_from lo n) a
unfolding numbers_from
Has-numbers_from lo zero a low high = absurd (omega (arith, ints))
Has-numbers_from lo (suc n) a low high = by (decide_int lo a) (λ above. Has-numbers_from (lo +ℤ pos 1) n a above (omega (arith, ints)))
  where
    by : Decided (lo ≡ a) → ((lo +ℤ pos 1) ≤ℤ a → Has (numbers_from (lo +ℤ pos 1) n) a) → (lo ≡ a) ⊎ Has (numbers_from (lo +ℤ pos 1) n) a
    by (inl is) later = inl is
    by (inr differs) later = inr (later (omega (arith, ints, differs)))

-- a stretch has the numbers between its ends
pub Has-stretch : (lo hi a : ℤ) → lo ≤ℤ hi → Has (stretch lo hi) a ↔ ((lo ≤ℤ a) × (a ≤ℤ hi))
unfolding stretch
Has-stretch lo hi a ordered = (
  λ has. let between = Has-from_numbers lo (suc (int_gap lo hi)) a has in (between.0, omega (arith, ints, between.1, plus-int_gap lo hi ordered)),
  λ between. Has-numbers_from lo (suc (int_gap lo hi)) a between.0 (omega (arith, ints, between.1, plus-int_gap lo hi ordered)),
)

-- so has a domain whose values are those of the stretch
pub has_stretch : (lo hi : ℤ) (listed values : List ℤ) (a : ℤ) → lo ≤ℤ hi → listed ≡ [] → values_of lo hi listed ≡ values → Has values a ↔ ((lo ≤ℤ a) × (a ≤ℤ hi))
has_stretch lo hi listed values a ordered none is = subst (λ vs. Has vs a ↔ ((lo ≤ℤ a) × (a ≤ℤ hi))) (sym (domain_is_stretch lo hi listed values none is)) (Has-stretch lo hi a ordered)

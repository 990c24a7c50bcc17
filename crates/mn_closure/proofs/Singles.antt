-- A leaf in a box of single values.
use Rattle.std.proofs.Common.{◌≡◌, ◌≢◌, ℕ, zero, suc, ◌<◌, ℤ, pos, ◌-ℤ◌, ◌≤ℤ◌, inl, inr, ⊎_elim, Bool, true, false, List, [], ◌∷◌, length, map, slice_get, Some, refl, sym, subst, ap, ◌∙◌, arith}
use Rattle.std.proofs.lemmas.Int.{ints}
use Rattle.std.specs.List.{AllByRecursion}
use Rattle.mn_model.specs.Domain.{Has}
use Rattle.mn_model.specs.Parts.{places}
use Rattle.mn_model.specs.Variable.{number_of}
use Rattle.mn_model.specs.declared.constraint.Con.{Con}
use Rattle.mn_model.specs.declared.constraint.Con.TheVariants as con
use Rattle.mn_model.specs.declared.constraint.Con.TheBlock.{more_of-Con}
use Rattle.mn_model.specs.declared.constraint.Term.{Term}
use Rattle.mn_model.specs.declared.constraint.Term.TheVariants.{Var, Const, Not}
use Rattle.mn_model.specs.declared.declaration.Tuples.{Tuples}
use Rattle.mn_boxes.specs.Boxes.{set_of}
use Rattle.mn_boxes.specs.Places.{PlaceHas, IsPlaceEnd}
use Rattle.mn_boxes.specs.Sets.{IsEnd, Variable}
use Rattle.mn_meaning.specs.Families.{AllDiffer}
use Rattle.mn_meaning.specs.Meaning.{at, value_of, Meets, Holds}
use Rattle.mn_closure.specs.Closed.{Asked, LeafClosed}
use Rattle.mn_closure.specs.Closures.{singles}
use Rattle.mn_closure.specs.Levels.{Level, Arc, Fixed, Hull, Last, level_of, level_when, is_built, level}
use Rattle.mn_closure.specs.Supports.{Choice, SomeChoice, ChoiceWith, StandsAt, IsOpen, NoneElse, IsBetweenEnds, SomeBetweenEnds, HullSupported, HullSupports, SupportedAt, LeafPossibleAt, product, difference}

-- the term names one of n variables, or none
abbrev pub Known : ℕ → Term → Type 0
Known n (Var v) = number_of v < n
Known n (Const k) = Unit {0}
Known n (Not v) = number_of v < n

-- the set of a variable
single_set : (s : List ℤ) (v : ℕ) → v < length s → set_of (singles s) v ≡ at s v ∷ []
single_set [] v below = absurd (omega (arith, below))
single_set (a ∷ s) zero below = refl
single_set (a ∷ s) (suc v) below = single_set s v (omega (arith, below))

single_is : (s : List ℤ) (v : ℕ) (a : ℤ) → Has (set_of (singles s) v) a → at s v ≡ a
single_is [] v a has = absurd has
single_is (b ∷ s) zero a (inl is) = is
single_is (b ∷ s) zero a (inr none) = absurd none
single_is (b ∷ s) (suc v) a has = single_is s v a has

single_has : (s : List ℤ) (v : ℕ) (a : ℤ) → v < length s → at s v ≡ a → Has (set_of (singles s) v) a
single_has s v a below is = subst (λ xs. Has xs a) (sym (single_set s v below)) (inl is)

single_end : (s : List ℤ) (v : ℕ) (a : ℤ) → v < length s → at s v ≡ a → IsEnd a (set_of (singles s) v)
single_end s v a below is = subst (IsEnd a) (sym (single_set s v below)) (inl (ap Some is))

-- what stands at a place is its value
pub place_is : (s : List ℤ) (t : Term) (a : ℤ) → PlaceHas (singles s) t a → value_of (at s) t ≡ a
place_is s (Var v) a has = single_is s (number_of v) a has
place_is s (Const k) a has = has
place_is s (Not v) a has = let is = single_is s (number_of v) (pos 1 -ℤ a) has in omega (arith, ints, is)

pub place_has : (s : List ℤ) (t : Term) (a : ℤ) → Known (length s) t → value_of (at s) t ≡ a → PlaceHas (singles s) t a
place_has s (Var v) a known is = single_has s (number_of v) a known is
place_has s (Const k) a known is = is
place_has s (Not v) a known is = single_has s (number_of v) (pos 1 -ℤ a) known (omega (arith, ints, is))

pub place_end : (s : List ℤ) (t : Term) (a : ℤ) → Known (length s) t → value_of (at s) t ≡ a → IsPlaceEnd (singles s) t a
place_end s (Var v) a known is = single_end s (number_of v) a known is
place_end s (Const k) a known is = is
place_end s (Not v) a known is = single_end s (number_of v) (pos 1 -ℤ a) known (omega (arith, ints, is))

-- no place is open
single_closed : (s : List ℤ) (t : Term) → IsOpen (singles s) t → ⊥
single_closed s t two = two.differ (sym (place_is s t two.one two.has_one) ∙ place_is s t two.another two.has_another)

-- there is one choice
choice_is : (s : List ℤ) (ts : List Term) (values : List ℤ) → Choice (singles s) ts values → values ≡ map (value_of (at s)) ts
choice_is s [] [] chosen = refl
choice_is s [] (a ∷ values) chosen = absurd chosen
choice_is s (t ∷ ts) [] chosen = absurd chosen
choice_is s (t ∷ ts) (a ∷ values) chosen = let first = place_is s t a chosen.0 in let later = choice_is s ts values chosen.1 in λ i. sym first i ∷ later i

choice_there : (s : List ℤ) (ts : List Term) → AllByRecursion (Known (length s)) ts → Choice (singles s) ts (map (value_of (at s)) ts)
choice_there s [] known = tt
choice_there s (t ∷ ts) known = (place_has s t (value_of (at s) t) known.0 refl, choice_there s ts known.1)

some_holds : (lists : List Tuples) (s : List ℤ) (c : Con) → SomeChoice lists c (singles s) → Holds lists s c
some_holds lists s c some = subst (Meets lists c) (choice_is s (places c) some.values some.chosen) some.meets

with_holds : (lists : List Tuples) (s : List ℤ) (c : Con) (i : ℕ) (a : ℤ) → ChoiceWith lists c i a (singles s) → Holds lists s c
with_holds lists s c i a some = subst (Meets lists c) (choice_is s (places c) some.values some.chosen) some.meets

holds_some : (lists : List Tuples) (s : List ℤ) (c : Con) → AllByRecursion (Known (length s)) (places c) → Holds lists s c → SomeChoice lists c (singles s)
holds_some lists s c known holds = record { values = map (value_of (at s)) (places c); chosen = choice_there s (places c) known; meets = holds }

-- a place and its value
pub value_at : (f : Term → ℤ) (ts : List Term) (i : ℕ) (t : Term) → slice_get ts i ≡ Some t → at (map f ts) i ≡ f t
value_at f [] i t stands = absurd (cc)
value_at f (u ∷ ts) zero t stands = ap f (cc)
value_at f (u ∷ ts) (suc i) t stands = value_at f ts i t stands

pub known_at : (n : ℕ) (ts : List Term) (i : ℕ) (t : Term) → AllByRecursion (Known n) ts → slice_get ts i ≡ Some t → Known n t
known_at n [] i t known stands = absurd (cc)
known_at n (u ∷ ts) zero t known stands = let same : u ≡ t = cc in subst (Known n) same known.0
known_at n (u ∷ ts) (suc i) t known stands = known_at n ts i t known.1 stands

-- a leaf is possible exactly where it holds
pub possible_holds : (l : Level) (lists : List Tuples) (s : List ℤ) (c : Con) → LeafPossibleAt l lists c (singles s) → Holds lists s c
possible_holds Arc lists s c p = some_holds lists s c p
possible_holds Fixed lists s c p = ⊎_elim (λ o. absurd (single_closed s o.term o.is_open)) (some_holds lists s c) p
possible_holds Hull lists s c p = ⊎_elim (λ o. absurd (single_closed s o.term o.is_open)) (some_holds lists s c) p
possible_holds Last lists s c p = ⊎_elim (λ o. absurd (single_closed s o.term o.is_open)) (some_holds lists s c) p

pub holds_possible : (l : Level) (lists : List Tuples) (s : List ℤ) (c : Con) → AllByRecursion (Known (length s)) (places c) → Holds lists s c → LeafPossibleAt l lists c (singles s)
holds_possible Arc lists s c known holds = holds_some lists s c known holds
holds_possible Fixed lists s c known holds = inr (holds_some lists s c known holds)
holds_possible Hull lists s c known holds = inr (holds_some lists s c known holds)
holds_possible Last lists s c known holds = inr (holds_some lists s c known holds)

-- the forms of the two levels that don't speak of choices
abbrev IsAlldiff : Con → Type 0
IsAlldiff (con.Alldiff v) = Unit {0}
IsAlldiff c = ⊥

abbrev IsHull : Con → Type 0
IsHull (con.Product x y z) = Unit {0}
IsHull (con.Difference x y z) = Unit {0}
IsHull c = ⊥

abbrev Fits : Level → Con → Type 0
Fits Arc c = Unit {0}
Fits Fixed c = IsAlldiff c
Fits Hull c = IsHull c
Fits Last c = Unit {0}

fits_of : (c : Con) → Fits (level_of c) c
fits_of (con.Difference x y z) = tt
fits_of (con.Product x y z) = tt
fits_of (con.Alldiff v) = tt
fits_of (con.Reify' p (more_of-Con c none) r) = tt
fits_of (con.Reifyimply' p (more_of-Con c none) r) = tt
fits_of (con.Negated' p (more_of-Con c none)) = tt
fits_of c = tt

fits_when : (built : Bool) (l : Level) (c : Con) → Fits l c → Fits (level_when built l) c
fits_when true l c fits = fits
fits_when false l c fits = tt

fits : (c : Con) → Fits (level c) c
fits c = fits_when (is_built c) (level_of c) c (fits_of c)

-- different places have different values
apart : (f : Term → ℤ) (b : ℤ) (ts : List Term) → ((j : ℕ) (t : Term) → slice_get ts j ≡ Some t → b ≢ f t) → AllByRecursion (λ a. b ≢ a) (map f ts)
apart f b [] differ = tt
apart f b (t ∷ ts) differ = (differ 0 t refl, apart f b ts (λ j. differ (suc j)))

apart_at : (f : Term → ℤ) (b : ℤ) (ts : List Term) → AllByRecursion (λ a. b ≢ a) (map f ts) → (j : ℕ) (t : Term) → slice_get ts j ≡ Some t → b ≢ f t
apart_at f b [] all j t stands = absurd (cc)
apart_at f b (u ∷ ts) all zero t stands = let same : u ≡ t = cc in subst (λ w. b ≢ f w) same all.0
apart_at f b (u ∷ ts) all (suc j) t stands = apart_at f b ts all.1 j t stands

abbrev AllApart : (Term → ℤ) → List Term → Type 0
AllApart f ts = (i j : ℕ) (t u : Term) → slice_get ts i ≡ Some t → slice_get ts j ≡ Some u → j ≢ i → f u ≢ f t

all_differ : (f : Term → ℤ) (ts : List Term) → AllApart f ts → AllDiffer (map f ts)
all_differ f [] differ = tt
all_differ f (t ∷ ts) differ = (apart f (f t) ts (λ j u stands. differ (suc j) 0 u t stands refl (λ e. absurd (omega (arith, e)))), all_differ f ts (λ i j u w at_u at_w other. differ (suc i) (suc j) u w at_u at_w (λ e. other (omega (arith, e)))))

differ_all : (f : Term → ℤ) (ts : List Term) → AllDiffer (map f ts) → AllApart f ts
differ_all f [] all i j t u at_t at_u other = absurd (cc)
differ_all f (w ∷ ts) all zero zero t u at_t at_u other = absurd (other refl)
differ_all f (w ∷ ts) all zero (suc j) t u at_t at_u other = let same : w ≡ t = cc in λ e. apart_at f (f w) ts all.0 j u at_u (ap f same ∙ sym e)
differ_all f (w ∷ ts) all (suc i) zero t u at_t at_u other = let same : w ≡ u = cc in λ e. apart_at f (f w) ts all.0 i t at_t (ap f same ∙ e)
differ_all f (w ∷ ts) all (suc i) (suc j) t u at_t at_u other = differ_all f ts all.1 i j t u at_t at_u (λ e. other (ap suc e))

-- a number between the ends is the value
within_is : (s : List ℤ) (t : Term) (b : ℤ) → IsBetweenEnds (singles s) t b → value_of (at s) t ≡ b
within_is s t b w = let low = place_is s t w.low w.has_low in let high = place_is s t w.high w.has_high in omega (arith, ints, low, high, w.from, w.to)

within : (s : List ℤ) (t : Term) → Known (length s) t → IsBetweenEnds (singles s) t (value_of (at s) t)
within s t known = record {
  low = value_of (at s) t;
  high = value_of (at s) t;
  has_low = place_has s t (value_of (at s) t) known refl;
  has_high = place_has s t (value_of (at s) t) known refl;
  from = omega (arith, ints);
  to = omega (arith, ints);
}

some_within : (s : List ℤ) (t u : Term) (R : ℤ → ℤ → Type 0) → Known (length s) t → Known (length s) u → R (value_of (at s) t) (value_of (at s) u) → SomeBetweenEnds (singles s) t u R
some_within s t u R known_t known_u related = record { first = value_of (at s) t; second = value_of (at s) u; within_first = within s t known_t; within_second = within s u known_u; related = related }

within_related : (s : List ℤ) (t u : Term) (R : ℤ → ℤ → Type 0) → SomeBetweenEnds (singles s) t u R → R (value_of (at s) t) (value_of (at s) u)
within_related s t u R some = subst (λ a. R a (value_of (at s) u)) (sym (within_is s t some.first some.within_first)) (subst (R some.first) (sym (within_is s u some.second some.within_second)) some.related)

hull_holds : (s : List ℤ) (f : ℤ → ℤ → ℤ) (x y z : Term) → HullSupported f x y z 0 (value_of (at s) x) (singles s) → value_of (at s) z ≡ f (value_of (at s) x) (value_of (at s) y)
hull_holds s f x y z supported = sym (within_related s y z (λ b c. f (value_of (at s) x) b ≡ c) supported)

holds_hull : (s : List ℤ) (f : ℤ → ℤ → ℤ) (x y z : Term) (i : ℕ) (t : Term) (a : ℤ) → Known (length s) x → Known (length s) y → Known (length s) z → value_of (at s) z ≡ f (value_of (at s) x) (value_of (at s) y)
    → slice_get (x ∷ y ∷ z ∷ []) i ≡ Some t → value_of (at s) t ≡ a → HullSupported f x y z i a (singles s)
holds_hull s f x y z zero t a known_x known_y known_z holds stands is =
    let same : x ≡ t = cc in some_within s y z (λ b c. f a b ≡ c) known_y known_z (ap (λ b. f b (value_of (at s) y)) (sym is ∙ ap (value_of (at s)) (sym same)) ∙ sym holds)
holds_hull s f x y z (suc zero) t a known_x known_y known_z holds stands is =
    let same : y ≡ t = cc in some_within s x z (λ b c. f b a ≡ c) known_x known_z (ap (f (value_of (at s) x)) (sym is ∙ ap (value_of (at s)) (sym same)) ∙ sym holds)
holds_hull s f x y z (suc (suc zero)) t a known_x known_y known_z holds stands is =
    let same : z ≡ t = cc in let reached : f (value_of (at s) x) (value_of (at s) y) ≡ a = sym holds ∙ ap (value_of (at s)) same ∙ is in record {
      below = some_within s x y (λ b c. f b c ≤ℤ a) known_x known_y (omega (arith, ints, reached));
      above = some_within s x y (λ b c. a ≤ℤ f b c) known_x known_y (omega (arith, ints, reached));
    }
holds_hull s f x y z (suc (suc (suc i))) t a known_x known_y known_z holds stands is = absurd (cc)

-- where each place's value is supported, a leaf with places holds
abbrev ValuesSupported : Level → List Tuples → List ℤ → Con → Type 0
ValuesSupported l lists s c = (i : ℕ) (t : Term) → StandsAt c i t → SupportedAt l lists c i (value_of (at s) t) (singles s)

alldiff_holds : (lists : List Tuples) (s : List ℤ) (c : Con) → IsAlldiff c → ValuesSupported Fixed lists s c → Holds lists s c
alldiff_holds lists s (con.Alldiff v) is supported = all_differ (value_of (at s)) v (λ i j t u at_t at_u other. differ t u (supported i t at_t j u at_u other))
  where
    differ : (t u : Term) → (b : ℤ) × PlaceHas (singles s) u b × (b ≢ value_of (at s) t) → value_of (at s) u ≢ value_of (at s) t
    differ t u b e = b.2 (sym (place_is s u b.0 b.1) ∙ e)
alldiff_holds lists s c is supported = absurd is

holds_alldiff : (lists : List Tuples) (s : List ℤ) (c : Con) → IsAlldiff c → AllByRecursion (Known (length s)) (places c) → Holds lists s c → (i : ℕ) (t : Term) → StandsAt c i t → NoneElse c i (value_of (at s) t) (singles s)
holds_alldiff lists s (con.Alldiff v) is known holds i t at_t = λ j u at_u other. (value_of (at s) u, place_has s u (value_of (at s) u) (known_at (length s) v j u known at_u) refl, differ_all (value_of (at s)) v holds i j t u at_t at_u other)
holds_alldiff lists s c is known holds i t at_t = absurd is

hulled_holds : (lists : List Tuples) (s : List ℤ) (c : Con) → IsHull c → ValuesSupported Hull lists s c → Holds lists s c
hulled_holds lists s (con.Product x y z) is supported = hull_holds s product x y z (supported 0 x refl)
hulled_holds lists s (con.Difference x y z) is supported = hull_holds s difference x y z (supported 0 x refl)
hulled_holds lists s c is supported = absurd is

holds_hulled : (lists : List Tuples) (s : List ℤ) (c : Con) → IsHull c → AllByRecursion (Known (length s)) (places c) → Holds lists s c → (i : ℕ) (t : Term) → StandsAt c i t → HullSupports c i (value_of (at s) t) (singles s)
holds_hulled lists s (con.Product x y z) is known holds i t at_t = holds_hull s product x y z i t (value_of (at s) t) known.0 known.1.0 known.1.1.0 holds at_t refl
holds_hulled lists s (con.Difference x y z) is known holds i t at_t = holds_hull s difference x y z i t (value_of (at s) t) known.0 known.1.0 known.1.1.0 holds at_t refl
holds_hulled lists s c is known holds i t at_t = absurd is

supported_holds : (l : Level) (lists : List Tuples) (s : List ℤ) (c : Con) → Fits l c → (t : Term) → StandsAt c 0 t → ValuesSupported l lists s c → Holds lists s c
supported_holds Arc lists s c fits t first supported = with_holds lists s c 0 (value_of (at s) t) (supported 0 t first)
supported_holds Fixed lists s c fits t first supported = alldiff_holds lists s c fits supported
supported_holds Hull lists s c fits t first supported = hulled_holds lists s c fits supported
supported_holds Last lists s c fits t first supported = ⊎_elim (λ o. absurd (single_closed s o.term o.is_open)) (with_holds lists s c 0 (value_of (at s) t)) (supported 0 t first)

holds_supported : (l : Level) (lists : List Tuples) (s : List ℤ) (c : Con) → Fits l c → AllByRecursion (Known (length s)) (places c) → Holds lists s c → (i : ℕ) (t : Term) → StandsAt c i t → SupportedAt l lists c i (value_of (at s) t) (singles s)
holds_supported Arc lists s c fits known holds i t stands = record { values = map (value_of (at s)) (places c); chosen = choice_there s (places c) known; given = value_at (value_of (at s)) (places c) i t stands; meets = holds }
holds_supported Fixed lists s c fits known holds i t stands = holds_alldiff lists s c fits known holds i t stands
holds_supported Hull lists s c fits known holds i t stands = holds_hulled lists s c fits known holds i t stands
holds_supported Last lists s c fits known holds i t stands = inr (record { values = map (value_of (at s)) (places c); chosen = choice_there s (places c) known; given = value_at (value_of (at s)) (places c) i t stands; meets = holds })

-- the box is closed under a leaf exactly where it holds
asked_value : (l : Level) (vars : List Variable) (s : List ℤ) (t : Term) → Known (length s) t → Asked l vars (singles s) t (value_of (at s) t)
asked_value l vars s t known = record { there = place_has s t (value_of (at s) t) known refl; ends = λ either. place_end s t (value_of (at s) t) known refl }

pub leaf_holds : (vars : List Variable) (lists : List Tuples) (s : List ℤ) (c : Con) → AllByRecursion (Known (length s)) (places c) → LeafClosed vars lists c (singles s) → Holds lists s c
leaf_holds vars lists s c known closed = by (places c) refl
  where
    supported : ValuesSupported (level c) lists s c
    supported i t stands = closed.supported i t (value_of (at s) t) stands (asked_value (level c) vars s t (known_at (length s) (places c) i t known stands))

    by : (ts : List Term) → places c ≡ ts → Holds lists s c
    by [] none = subst (λ ts. Meets lists c (map (value_of (at s)) ts)) (sym none) (closed.bare none)
    by (t ∷ ts) some = supported_holds (level c) lists s c (fits c) t (ap (λ us. slice_get us 0) some) supported

pub holds_leaf : (vars : List Variable) (lists : List Tuples) (s : List ℤ) (c : Con) → AllByRecursion (Known (length s)) (places c) → Holds lists s c → LeafClosed vars lists c (singles s)
holds_leaf vars lists s c known holds = record {
  bare = λ none. subst (λ ts. Meets lists c (map (value_of (at s)) ts)) none holds;
  supported = λ i t a stands asked. subst (λ b. SupportedAt (level c) lists c i b (singles s)) (place_is s t a asked.there) (holds_supported (level c) lists s c (fits c) known holds i t stands);
}

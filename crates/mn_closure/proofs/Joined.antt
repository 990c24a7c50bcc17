-- The least box around two.
use Rattle.std.proofs.Common.{◌≡◌, ℕ, zero, suc, ℤ, ◌≤ℤ◌, ◌&&◌, ◌||◌, ◌⊎◌, inl, inr, int_le, Bool, true, false, List, [], ◌∷◌, ◌++◌, filter, refl, subst, ap, ◌∙◌, arith}
use Rattle.std.proofs.lemmas.Int.{ints}
use Rattle.std.specs.List.{AllByRecursion, list_any}
use Rattle.std.specs.Ordering.{int_eq}
use Rattle.mn_model.specs.Domain.{Ascends, Has}
use Rattle.mn_model.proofs.Filtered.{filter_has, has_filter, filter_ascends, Passes}
use Rattle.mn_model.proofs.Ordered.{le_so, le_true}
use Rattle.mn_boxes.specs.Boxes.{Inside, IsBox, set_of, variable_at}
use Rattle.mn_boxes.specs.Sets.{IsSetOf, Variable}
use Rattle.mn_boxes.proofs.Members.{PartOf}
use Rattle.mn_closure.specs.Closures.{is_among, is_between, is_joined, join, IsJoin}

-- the members of two lists together
pub has_front : (xs ys : List ℤ) (a : ℤ) → Has xs a → Has (xs ++ ys) a
has_front [] ys a has = absurd has
has_front (x ∷ xs) ys a (inl is) = inl is
has_front (x ∷ xs) ys a (inr later) = inr (has_front xs ys a later)

pub has_back : (xs ys : List ℤ) (a : ℤ) → Has ys a → Has (xs ++ ys) a
has_back [] ys a has = has
has_back (x ∷ xs) ys a has = inr (has_back xs ys a has)

pub has_either : (xs ys : List ℤ) (a : ℤ) → Has (xs ++ ys) a → Has xs a ⊎ Has ys a
has_either [] ys a has = inr has
has_either (x ∷ xs) ys a (inl is) = inl (inl is)
has_either (x ∷ xs) ys a (inr later) = elim (has_either xs ys a later) [ inl front ↦ inl (inr front) | inr back ↦ inr back ]

-- some member passes a test
any_has : (p : ℤ → Bool) (xs : List ℤ) → list_any p xs ≡ true → (b : ℤ) × Has xs b × (p b ≡ true)
any_has p [] e = absurd (cc)
any_has p (x ∷ xs) e = by (p x) refl (any_has p xs) e
  where
    by : (t : Bool) → p x ≡ t → (list_any p xs ≡ true → (b : ℤ) × Has xs b × (p b ≡ true)) → (t || list_any p xs) ≡ true → (b : ℤ) × Has (x ∷ xs) b × (p b ≡ true)
    by true is later any = (x, inl refl, is)
    by false is later any = let rest = later any in (rest.0, inr rest.1, rest.2)

has_any : (p : ℤ → Bool) (xs : List ℤ) (b : ℤ) → Has xs b → p b ≡ true → list_any p xs ≡ true
has_any p [] b has is = absurd has
has_any p (x ∷ xs) b (inl same) is = let here : p x ≡ true = ap p same ∙ is in rw here
has_any p (x ∷ xs) b (inr later) is = by (p x) (has_any p xs b later is)
  where
    by : (t : Bool) → list_any p xs ≡ true → (t || list_any p xs) ≡ true
    by true any = refl
    by false any = any

-- the two tests
equal_true : (a b : ℤ) → int_eq b a ≡ true → b ≡ a
equal_true a b e = grind (arith, ints, e)

true_equal : (a b : ℤ) → b ≡ a → int_eq b a ≡ true
true_equal a b e = grind (arith, ints, e)

among_has : (values : List ℤ) (a : ℤ) → is_among values a ≡ true → Has values a
among_has values a e = let b = any_has (λ b. int_eq b a) values e in subst (Has values) (equal_true a b.0 b.2) b.1

has_among : (values : List ℤ) (a : ℤ) → Has values a → is_among values a ≡ true
has_among values a has = has_any (λ b. int_eq b a) values a has (true_equal a a refl)

-- a is between two of the values
pub record Spans (values : List ℤ) (a : ℤ) : Type 0 where
  pub low : ℤ
  pub high : ℤ
  pub has_low : Has values low
  pub has_high : Has values high
  pub from : low ≤ℤ a
  pub to : a ≤ℤ high

both_parts : (s t : Bool) → (s && t) ≡ true → (s ≡ true) × (t ≡ true)
both_parts true t e = (refl, e)
both_parts false t e = absurd (cc)

between_spans : (values : List ℤ) (a : ℤ) → is_between values a ≡ true → Spans values a
between_spans values a e =
    let both = both_parts (list_any (λ b. int_le b a) values) (list_any (λ b. int_le a b) values) e in
    let l = any_has (λ b. int_le b a) values both.0 in
    let h = any_has (λ b. int_le a b) values both.1 in
    record { low = l.0; high = h.0; has_low = l.1; has_high = h.1; from = le_so l.0 a l.2; to = le_so a h.0 h.2 }

spans_between : (values : List ℤ) (a : ℤ) → Spans values a → is_between values a ≡ true
spans_between values a s = rw (has_any (λ b. int_le b a) values s.low s.has_low (le_true s.low a s.from), has_any (λ b. int_le a b) values s.high s.has_high (le_true a s.high s.to))

spans_itself : (values : List ℤ) (a : ℤ) → Has values a → Spans values a
spans_itself values a has = record { low = a; high = a; has_low = has; has_high = has; from = omega (arith, ints); to = omega (arith, ints) }

joined_spans : (bounded : Bool) (values : List ℤ) (a : ℤ) → is_joined bounded values a ≡ true → Spans values a
joined_spans true values a e = between_spans values a e
joined_spans false values a e = spans_itself values a (among_has values a e)

has_joined : (bounded : Bool) (values : List ℤ) (a : ℤ) → Has values a → is_joined bounded values a ≡ true
has_joined true values a has = spans_between values a (spans_itself values a has)
has_joined false values a has = has_among values a has

-- what the joined set js of two has
pub record Joins (bounded : Bool) (xs ys js : List ℤ) : Type 0 where
  pub has_x : PartOf xs js
  pub has_y : PartOf ys js
  pub ascends : Ascends js
  pub spans : (a : ℤ) → Has js a → Spans (xs ++ ys) a
  pub among : bounded ≡ false → (a : ℤ) → Has js a → Has (xs ++ ys) a

among_when : (bounded : Bool) (values : List ℤ) (a : ℤ) → is_joined bounded values a ≡ true → bounded ≡ false → Has values a
among_when true values a e unbounded = absurd (cc)
among_when false values a e unbounded = among_has values a e

joined_set : Variable → List ℤ → List ℤ → List ℤ
joined_set var xs ys = filter (is_joined var.bounded (xs ++ ys)) var.declared

joins_set : (var : Variable) (xs ys : List ℤ) → Ascends var.declared → IsSetOf var xs → IsSetOf var ys → Joins var.bounded xs ys (filter (is_joined var.bounded (xs ++ ys)) var.declared)
joins_set var xs ys up set_x set_y = record {
  has_x = λ a has. filter_has (is_joined var.bounded (xs ++ ys)) var.declared a (set_x.declared a has) (has_joined var.bounded (xs ++ ys) a (has_front xs ys a has));
  has_y = λ a has. filter_has (is_joined var.bounded (xs ++ ys)) var.declared a (set_y.declared a has) (has_joined var.bounded (xs ++ ys) a (has_back xs ys a has));
  ascends = filter_ascends (is_joined var.bounded (xs ++ ys)) var.declared up;
  spans = λ a has. joined_spans var.bounded (xs ++ ys) a (has_filter (is_joined var.bounded (xs ++ ys)) var.declared a has).passes;
  among = λ unbounded a has. among_when var.bounded (xs ++ ys) a (has_filter (is_joined var.bounded (xs ++ ys)) var.declared a has).passes unbounded;
}

-- it is a set of the variable
first_of : (xs : List ℤ) → (xs ≡ [] → ⊥) → (a : ℤ) × Has xs a
first_of [] filled = absurd (filled refl)
first_of (x ∷ xs) filled = (x, inl refl)

none_there : (xs : List ℤ) (a : ℤ) → Has xs a → xs ≡ [] → ⊥
none_there xs a has none = subst (λ zs. Has zs a) none has

is_set : (var : Variable) (xs ys : List ℤ) → Ascends var.declared → IsSetOf var xs → IsSetOf var ys → IsSetOf var (filter (is_joined var.bounded (xs ++ ys)) var.declared)
is_set var xs ys up set_x set_y = record {
  filled = λ none. let f = first_of xs set_x.filled in none_there (filter (is_joined var.bounded (xs ++ ys)) var.declared) f.0 ((joins_set var xs ys up set_x set_y).has_x f.0 f.1) none;
  ascends = filter_ascends (is_joined var.bounded (xs ++ ys)) var.declared up;
  declared = λ a has. (has_filter (is_joined var.bounded (xs ++ ys)) var.declared a has).has;
  stretch = λ bounded a b c has_a has_c low high has.
      let s = (joins_set var xs ys up set_x set_y).spans a has_a in
      let t = (joins_set var xs ys up set_x set_y).spans c has_c in
      filter_has (is_joined var.bounded (xs ++ ys)) var.declared b has (stretched var.bounded (xs ++ ys) b bounded (record { low = s.low; high = t.high; has_low = s.has_low; has_high = t.has_high; from = below a b c s low; to = above a b c t high }));
}
  where
    below : (a b c : ℤ) → (s : Spans (xs ++ ys) a) → a ≤ℤ b → s.low ≤ℤ b
    below a b c s low = omega (arith, ints, s.from, low)

    above : (a b c : ℤ) → (t : Spans (xs ++ ys) c) → b ≤ℤ c → b ≤ℤ t.high
    above a b c t high = omega (arith, ints, t.to, high)

    stretched : (bounded : Bool) (values : List ℤ) (b : ℤ) → bounded ≡ true → Spans values b → is_joined bounded values b ≡ true
    stretched true values b is s = spans_between values b s
    stretched false values b is s = absurd (cc)

pub join_box : (vars : List Variable) (one another : List (List ℤ)) → AllByRecursion (λ var. Ascends var.declared) vars → IsBox vars one → IsBox vars another → IsBox vars (join vars one another)
join_box [] one another up is_one is_another = tt
join_box (var ∷ vars) [] another up is_one is_another = absurd is_one
join_box (var ∷ vars) (xs ∷ one) [] up is_one is_another = absurd is_another
join_box (var ∷ vars) (xs ∷ one) (ys ∷ another) up is_one is_another = (is_set var xs ys up.0 is_one.0 is_another.0, join_box vars one another up.1 is_one.1 is_another.1)

-- the sets of a number that no variable has
no_joins : Joins false [] [] []
no_joins = record { has_x = λ a has. has; has_y = λ a has. has; ascends = tt; spans = λ a has. absurd has; among = λ unbounded a has. has }

pub joins_at : (vars : List Variable) (one another : List (List ℤ)) → AllByRecursion (λ var. Ascends var.declared) vars → IsBox vars one → IsBox vars another → (v : ℕ)
    → Joins (variable_at vars v).bounded (set_of one v) (set_of another v) (set_of (join vars one another) v)
joins_at [] [] [] up is_one is_another v = no_joins
joins_at [] [] (ys ∷ another) up is_one is_another v = absurd is_another
joins_at [] (xs ∷ one) another up is_one is_another v = absurd is_one
joins_at (var ∷ vars) [] another up is_one is_another v = absurd is_one
joins_at (var ∷ vars) (xs ∷ one) [] up is_one is_another v = absurd is_another
joins_at (var ∷ vars) (xs ∷ one) (ys ∷ another) up is_one is_another zero = joins_set var xs ys up.0 is_one.0 is_another.0
joins_at (var ∷ vars) (xs ∷ one) (ys ∷ another) up is_one is_another (suc v) = joins_at vars one another up.1 is_one.1 is_another.1 v

-- it is the least box around both
least_set : (var : Variable) (xs ys zs : List ℤ) → IsSetOf var zs → PartOf xs zs → PartOf ys zs → PartOf (filter (is_joined var.bounded (xs ++ ys)) var.declared) zs
least_set var xs ys zs set_z part_x part_y a has = by var.bounded refl
  where
    kept : Passes (is_joined var.bounded (xs ++ ys)) var.declared a
    kept = has_filter (is_joined var.bounded (xs ++ ys)) var.declared a has

    inside : (b : ℤ) → Has (xs ++ ys) b → Has zs b
    inside b has = elim (has_either xs ys b has) [ inl x ↦ part_x b x | inr y ↦ part_y b y ]

    by : (t : Bool) → var.bounded ≡ t → Has zs a
    by true is = let s = joined_spans var.bounded (xs ++ ys) a kept.passes in set_z.stretch is s.low a s.high (inside s.low s.has_low) (inside s.high s.has_high) s.from s.to kept.has
    by false is = inside a (among_when var.bounded (xs ++ ys) a kept.passes is)

least_box : (vars : List Variable) (one another around : List (List ℤ)) → IsBox vars one → IsBox vars another → IsBox vars around → Inside one around → Inside another around
    → (v : ℕ) (a : ℤ) → Has (set_of (join vars one another) v) a → Has (set_of around v) a
least_box [] one another around is_one is_another is_around i k v a has = absurd has
least_box (var ∷ vars) [] another around is_one is_another is_around i k v a has = absurd is_one
least_box (var ∷ vars) (xs ∷ one) [] around is_one is_another is_around i k v a has = absurd is_another
least_box (var ∷ vars) (xs ∷ one) (ys ∷ another) [] is_one is_another is_around i k v a has = absurd is_around
least_box (var ∷ vars) (xs ∷ one) (ys ∷ another) (zs ∷ around) is_one is_another is_around i k zero a has =
    least_set var xs ys zs is_around.0 (λ b x. i.within 0 b x) (λ b y. k.within 0 b y) a has
least_box (var ∷ vars) (xs ∷ one) (ys ∷ another) (zs ∷ around) is_one is_another is_around i k (suc v) a has =
    least_box vars one another around is_one.1 is_another.1 is_around.1 (record { within = λ u b x. i.within (suc u) b x }) (record { within = λ u b y. k.within (suc u) b y }) v a has

pub is_join : (vars : List Variable) (one another : List (List ℤ)) → AllByRecursion (λ var. Ascends var.declared) vars → IsBox vars one → IsBox vars another → IsJoin vars one another (join vars one another)
is_join vars one another up is_one is_another = record {
  lawful = join_box vars one another up is_one is_another;
  around_one = record { within = λ v a has. (joins_at vars one another up is_one is_another v).has_x a has };
  around_another = record { within = λ v a has. (joins_at vars one another up is_one is_another v).has_y a has };
  least = λ around is_around i k. record { within = least_box vars one another around is_one is_another is_around i k };
}

-- It can be told whether a value is supported, whether a constraint is possible, and whether a box is closed.
use Rattle.std.proofs.Common.{◌≡◌, ◌≢◌, ℕ, zero, suc, ℤ, pos, ◌-ℤ◌, ◌≤ℤ◌, ◌⊎◌, inl, inr, ⊎_elim, ◌↔◌, Bool, true, false, not, List, [], ◌∷◌, map, slice_get, Option, Some, None, refl, sym, subst, ap, arith}
use Rattle.std.proofs.lemmas.Int.{ints}
use Rattle.mn_model.specs.Decided.{Decided, decide_all, decide_at_most, decide_both, decide_either, decide_int, decide_nat, decide_never, decide_not}
use Rattle.mn_model.specs.Domain.{Has, stretch}
use Rattle.mn_model.specs.Parts.{places}
use Rattle.mn_model.specs.Variable.{number_of}
use Rattle.mn_model.specs.declared.constraint.Con.{Con}
use Rattle.mn_model.specs.declared.constraint.Cons.{Cons}
use Rattle.mn_model.specs.declared.constraint.Con.TheVariants as con
use Rattle.mn_model.specs.declared.constraint.Con.TheBlock.{more_of-Con, more_of-Cons}
use Rattle.mn_model.specs.declared.constraint.Term.{Term}
use Rattle.mn_model.specs.declared.constraint.Term.TheVariants.{Var, Const, Not}
use Rattle.mn_model.specs.declared.declaration.Tuples.{Tuples}
use Rattle.mn_model.proofs.Stretches.{Has-stretch}
use Rattle.mn_boxes.specs.Boxes.{set_of}
use Rattle.mn_boxes.specs.Places.{PlaceHas, IsPlaceEnd, is_place_bounded}
use Rattle.mn_boxes.specs.Sets.{IsEnd, Variable}
use Rattle.mn_meaning.specs.Families.{decide_has, decide_implies}
use Rattle.mn_meaning.specs.Meaning.{at, Meets, decide_meets}
use Rattle.mn_closure.specs.Closed.{Asked, LeafClosed, signed, bit, IfSays, IfApart, IsAlone, PartsPossible, OnePossible, EachPossible, TwoPossible, Possible, PartsClosed, OneClosed, EachClosed, Closed, ClosedAll, is_taken_apart}
use Rattle.mn_closure.specs.Levels.{Level, Arc, Fixed, Hull, Last, level}
use Rattle.mn_closure.specs.Supports.{Choice, SomeChoice, ChoiceWith, IsOpen, SomeOpen, OtherOpen, NoneElse, IsBetweenEnds, SomeBetweenEnds, HullSupported, HullSupports, SupportedAt, LeafPossibleAt, product, difference}

-- ---- of all and of some

-- what is so exactly where something else is
pub decided_as : {P Q : Type 0} → P ↔ Q → Decided P → Decided Q
decided_as same (inl p) = inl (same.0 p)
decided_as same (inr none) = inr (λ q. none (same.1 q))

-- where it isn't so that something isn't, it is
settled : {P : Type 0} → Decided P → ((P → ⊥) → ⊥) → P
settled (inl p) never = p
settled (inr none) never = absurd (never none)

-- all that is P is Q, or something isn't
pub decide_each : {X : Type 0} (P Q : X → Type 0) → ((x : X) → Decided (Q x)) → Decided ((x : X) × P x × (Q x → ⊥)) → Decided ((x : X) → P x → Q x)
decide_each P Q decide (inl found) = inr (λ all. found.2 (all found.0 found.1))
decide_each P Q decide (inr none) = inl (λ x p. settled (decide x) (λ never. none (x, p, never)))

-- some member of a list is Q
pub decide_among : (Q : ℤ → Type 0) → ((a : ℤ) → Decided (Q a)) → (xs : List ℤ) → Decided ((a : ℤ) × Has xs a × Q a)
decide_among Q decide [] = inr (λ found. found.1)
decide_among Q decide (x ∷ xs) = by (decide x) (decide_among Q decide xs)
  where
    by : Decided (Q x) → Decided ((a : ℤ) × Has xs a × Q a) → Decided ((a : ℤ) × Has (x ∷ xs) a × Q a)
    by (inl here) rest = inl (x, inl refl, here)
    by (inr none) (inl found) = inl (found.0, inr found.1, found.2)
    by (inr none) (inr never) = inr (λ found. ⊎_elim (λ same. none (subst Q (sym same) found.2)) (λ later. never (found.0, later, found.2)) found.1)

-- ---- at a place

-- the values there
abbrev at_place : List (List ℤ) → Term → List ℤ
at_place box (Var v) = set_of box (number_of v)
at_place box (Const k) = k ∷ []
at_place box (Not v) = map (λ a. pos 1 -ℤ a) (set_of box (number_of v))

turned_has : (xs : List ℤ) (a : ℤ) → Has (map (λ b. pos 1 -ℤ b) xs) a ↔ Has xs (pos 1 -ℤ a)
turned_has [] a = (λ has. has, λ has. has)
turned_has (x ∷ xs) a = let rest = turned_has xs a in (⊎_elim (λ e. inl (omega (arith, ints, e))) (λ h. inr (rest.0 h)), ⊎_elim (λ e. inl (omega (arith, ints, e))) (λ h. inr (rest.1 h)))

at_place_has : (box : List (List ℤ)) (t : Term) (a : ℤ) → Has (at_place box t) a ↔ PlaceHas box t a
at_place_has box (Var v) a = (λ has. has, λ has. has)
at_place_has box (Const k) a = (⊎_elim (λ is. is) (λ none. absurd none), inl)
at_place_has box (Not v) a = turned_has (set_of box (number_of v)) a

pub decide_place : (box : List (List ℤ)) (t : Term) (a : ℤ) → Decided (PlaceHas box t a)
decide_place box t a = decided_as (at_place_has box t a) (decide_has (at_place box t) a)

-- some value there is Q, and each is
pub decide_some_there : (box : List (List ℤ)) (t : Term) (Q : ℤ → Type 0) → ((a : ℤ) → Decided (Q a)) → Decided ((a : ℤ) × PlaceHas box t a × Q a)
decide_some_there box t Q decide =
    decided_as (λ found. (found.0, (at_place_has box t found.0).0 found.1, found.2), λ found. (found.0, (at_place_has box t found.0).1 found.1, found.2)) (decide_among Q decide (at_place box t))

pub decide_each_there : (box : List (List ℤ)) (t : Term) (Q : ℤ → Type 0) → ((a : ℤ) → Decided (Q a)) → Decided ((a : ℤ) → PlaceHas box t a → Q a)
decide_each_there box t Q decide = decide_each (PlaceHas box t) Q decide (decide_some_there box t (λ a. Q a → ⊥) (λ a. decide_not (decide a)))

-- two values are there
decide_open : (box : List (List ℤ)) (t : Term) → Decided (IsOpen box t)
decide_open box t = decided_as
    (λ found. record { one = found.0; another = found.2.0; has_one = found.1; has_another = found.2.1; differ = found.2.2 }, λ two. (two.one, two.has_one, (two.another, two.has_another, two.differ)))
    (decide_some_there box t (λ a. (b : ℤ) × PlaceHas box t b × (a ≢ b)) (λ a. decide_some_there box t (λ b. a ≢ b) (λ b. decide_not (decide_int a b))))

-- it is the least or the greatest there
decide_found : (found : Option ℤ) (a : ℤ) → Decided (found ≡ Some a)
decide_found None a = inr (λ e. cc)
decide_found (Some b) a = decided_as (λ e. ap Some e, λ e. cc) (decide_int b a)

decide_end : (a : ℤ) (xs : List ℤ) → Decided (IsEnd a xs)
decide_end a xs = decide_either (decide_found (slice_get xs 0) a) (decide_found _ a)

decide_place_end : (box : List (List ℤ)) (t : Term) (a : ℤ) → Decided (IsPlaceEnd box t a)
decide_place_end box (Var v) a = decide_end a (set_of box (number_of v))
decide_place_end box (Const k) a = decide_int k a
decide_place_end box (Not v) a = decide_end (pos 1 -ℤ a) (set_of box (number_of v))

-- ---- at some place, and at each

decide_stands : (ts : List Term) (Q : ℕ → Term → Type 0) → ((i : ℕ) (t : Term) → Decided (Q i t)) → Decided ((i : ℕ) × (t : Term) × (slice_get ts i ≡ Some t) × Q i t)
decide_stands [] Q decide = inr (λ found. let e = found.2 in absurd (cc))
decide_stands (t ∷ ts) Q decide = by (decide 0 t) (decide_stands ts (λ i. Q (suc i)) (λ i. decide (suc i)))
  where
    neither : (Q 0 t → ⊥) → ((i : ℕ) × (u : Term) × (slice_get ts i ≡ Some u) × Q (suc i) u → ⊥) → (i : ℕ) (u : Term) → slice_get (t ∷ ts) i ≡ Some u → Q i u → ⊥
    neither here later zero u e q = let same : t ≡ u = cc in here (subst (Q 0) (sym same) q)
    neither here later (suc i) u e q = later (i, u, e, q)

    by : Decided (Q 0 t) → Decided ((i : ℕ) × (u : Term) × (slice_get ts i ≡ Some u) × Q (suc i) u) → Decided ((i : ℕ) × (u : Term) × (slice_get (t ∷ ts) i ≡ Some u) × Q i u)
    by (inl here) rest = inl (0, t, refl, here)
    by (inr none) (inl found) = inl (suc found.0, found.1, found.2, found.3)
    by (inr none) (inr never) = inr (λ found. neither none never found.0 found.1 found.2 found.3)

decide_places : (ts : List Term) (Q : ℕ → Term → Type 0) → ((i : ℕ) (t : Term) → Decided (Q i t)) → Decided ((i : ℕ) (t : Term) → slice_get ts i ≡ Some t → Q i t)
decide_places ts Q decide = by (decide_stands ts (λ i t. Q i t → ⊥) (λ i t. decide_not (decide i t)))
  where
    by : Decided ((i : ℕ) × (t : Term) × (slice_get ts i ≡ Some t) × (Q i t → ⊥)) → Decided ((i : ℕ) (t : Term) → slice_get ts i ≡ Some t → Q i t)
    by (inl found) = inr (λ all. found.3 (all found.0 found.1 found.2))
    by (inr none) = inl (λ i t e. settled (decide i t) (λ never. none (i, t, e, never)))

pub decide_some_open : (c : Con) (box : List (List ℤ)) → Decided (SomeOpen c box)
decide_some_open c box = decided_as
    (λ found. record { place = found.0; term = found.1; stands = found.2; is_open = found.3 }, λ some. (some.place, some.term, some.stands, some.is_open))
    (decide_stands (places c) (λ i t. IsOpen box t) (λ i t. decide_open box t))

decide_other_open : (c : Con) (i : ℕ) (box : List (List ℤ)) → Decided (OtherOpen c i box)
decide_other_open c i box = decided_as
    (λ found. record { place = found.0; term = found.1; stands = found.2; other = found.3.0; is_open = found.3.1 }, λ some. (some.place, some.term, some.stands, (some.other, some.is_open)))
    (decide_stands (places c) (λ j t. (j ≢ i) × IsOpen box t) (λ j t. decide_both (decide_not (decide_nat j i)) (decide_open box t)))

decide_none_else : (c : Con) (i : ℕ) (a : ℤ) (box : List (List ℤ)) → Decided (NoneElse c i a box)
decide_none_else c i a box =
    decide_places (places c) (λ j t. j ≢ i → (b : ℤ) × PlaceHas box t b × (b ≢ a)) (λ j t. decide_implies (decide_not (decide_nat j i)) (decide_some_there box t (λ b. b ≢ a) (λ b. decide_not (decide_int b a))))

-- ---- by choices

record Chosen (box : List (List ℤ)) (ts : List Term) (P : List ℤ → Type 0) : Type 0 where
  values : List ℤ
  chosen : Choice box ts values
  holds : P values

decide_choice : (box : List (List ℤ)) (ts : List Term) (P : List ℤ → Type 0) → ((values : List ℤ) → Decided (P values)) → Decided (Chosen box ts P)
decide_choice box [] P decide = by (decide [])
  where
    none : (values : List ℤ) → Choice box [] values → (P [] → ⊥) → P values → ⊥
    none [] chosen never holds = never holds
    none (a ∷ values) chosen never holds = absurd chosen

    by : Decided (P []) → Decided (Chosen box [] P)
    by (inl here) = inl (record { values = []; chosen = tt; holds = here })
    by (inr never) = inr (λ found. none found.values found.chosen never found.holds)
decide_choice box (t ∷ ts) P decide = decided_as
    (λ found. record { values = found.0 ∷ found.2.values; chosen = (found.1, found.2.chosen); holds = found.2.holds }, λ found. back found.values found.chosen found.holds)
    (decide_some_there box t (λ a. Chosen box ts (λ values. P (a ∷ values))) (λ a. decide_choice box ts (λ values. P (a ∷ values)) (λ values. decide (a ∷ values))))
  where
    back : (values : List ℤ) → Choice box (t ∷ ts) values → P values → (a : ℤ) × PlaceHas box t a × Chosen box ts (λ values. P (a ∷ values))
    back [] chosen holds = absurd chosen
    back (a ∷ values) chosen holds = (a, chosen.0, record { values = values; chosen = chosen.1; holds = holds })

decide_some_choice : (lists : List Tuples) (c : Con) (box : List (List ℤ)) → Decided (SomeChoice lists c box)
decide_some_choice lists c box = decided_as
    (λ found. record { values = found.values; chosen = found.chosen; meets = found.holds }, λ some. record { values = some.values; chosen = some.chosen; holds = some.meets })
    (decide_choice box (places c) (Meets lists c) (decide_meets lists c))

decide_choice_with : (lists : List Tuples) (c : Con) (i : ℕ) (a : ℤ) (box : List (List ℤ)) → Decided (ChoiceWith lists c i a box)
decide_choice_with lists c i a box = decided_as
    (λ found. record { values = found.values; chosen = found.chosen; given = found.holds.0; meets = found.holds.1 }, λ some. record { values = some.values; chosen = some.chosen; holds = (some.given, some.meets) })
    (decide_choice box (places c) (λ values. (at values i ≡ a) × Meets lists c values) (λ values. decide_both (decide_int (at values i) a) (decide_meets lists c values)))

-- ---- by numbers between ends

-- some number between two others is Q
decide_between : (low high : ℤ) (Q : ℤ → Type 0) → ((b : ℤ) → Decided (Q b)) → Decided ((b : ℤ) × ((low ≤ℤ b) × (b ≤ℤ high)) × Q b)
decide_between low high Q decide = by (decide_at_most low high)
  where
    by : Decided (low ≤ℤ high) → Decided ((b : ℤ) × ((low ≤ℤ b) × (b ≤ℤ high)) × Q b)
    by (inl ordered) = decided_as (λ found. (found.0, (Has-stretch low high found.0 ordered).0 found.1, found.2), λ found. (found.0, (Has-stretch low high found.0 ordered).1 found.1, found.2)) (decide_among Q decide (stretch low high))
    by (inr none) = inr (λ found. none (let from = found.1.0 in let to = found.1.1 in omega (arith, ints, from, to)))

decide_some_within : (box : List (List ℤ)) (t : Term) (Q : ℤ → Type 0) → ((b : ℤ) → Decided (Q b)) → Decided ((b : ℤ) × IsBetweenEnds box t b × Q b)
decide_some_within box t Q decide = decided_as (to, from) (decide_some_there box t Low (λ low. decide_some_there box t (High low) (λ high. decide_between low high Q decide)))
  where
    High : ℤ → ℤ → Type 0
    High low high = (b : ℤ) × ((low ≤ℤ b) × (b ≤ℤ high)) × Q b

    Low : ℤ → Type 0
    Low low = (high : ℤ) × PlaceHas box t high × High low high

    to : (low : ℤ) × PlaceHas box t low × Low low → (b : ℤ) × IsBetweenEnds box t b × Q b
    to found = let rest = found.2 in let inside = rest.2 in
        (inside.0, record { low = found.0; high = rest.0; has_low = found.1; has_high = rest.1; from = inside.1.0; to = inside.1.1 }, inside.2)

    from : (b : ℤ) × IsBetweenEnds box t b × Q b → (low : ℤ) × PlaceHas box t low × Low low
    from found = let w = found.1 in (w.low, w.has_low, (w.high, w.has_high, (found.0, (w.from, w.to), found.2)))

decide_two_within : (box : List (List ℤ)) (t u : Term) (R : ℤ → ℤ → Type 0) → ((b c : ℤ) → Decided (R b c)) → Decided (SomeBetweenEnds box t u R)
decide_two_within box t u R decide = decided_as
    (λ found. record { first = found.0; second = found.2.0; within_first = found.1; within_second = found.2.1; related = found.2.2 }, λ some. (some.first, some.within_first, (some.second, some.within_second, some.related)))
    (decide_some_within box t (λ b. (c : ℤ) × IsBetweenEnds box u c × R b c) (λ b. decide_some_within box u (R b) (decide b)))

decide_hull : (f : ℤ → ℤ → ℤ) (x y z : Term) (i : ℕ) (a : ℤ) (box : List (List ℤ)) → Decided (HullSupported f x y z i a box)
decide_hull f x y z zero a box = decide_two_within box y z (λ b c. f a b ≡ c) (λ b c. decide_int (f a b) c)
decide_hull f x y z (suc zero) a box = decide_two_within box x z (λ b c. f b a ≡ c) (λ b c. decide_int (f b a) c)
decide_hull f x y z (suc (suc i)) a box = decided_as
    (λ both. record { below = both.0; above = both.1 }, λ reached. (reached.below, reached.above))
    (decide_both (decide_two_within box x y (λ b c. f b c ≤ℤ a) (λ b c. decide_at_most (f b c) a)) (decide_two_within box x y (λ b c. a ≤ℤ f b c) (λ b c. decide_at_most a (f b c))))

decide_hulled : (c : Con) (i : ℕ) (a : ℤ) (box : List (List ℤ)) → Decided (HullSupports c i a box)
decide_hulled (con.Product x y z) i a box = decide_hull product x y z i a box
decide_hulled (con.Difference x y z) i a box = decide_hull difference x y z i a box
decide_hulled c i a box = decide_never

-- ---- leaves

pub decide_supported : (l : Level) (lists : List Tuples) (c : Con) (i : ℕ) (a : ℤ) (box : List (List ℤ)) → Decided (SupportedAt l lists c i a box)
decide_supported Arc lists c i a box = decide_choice_with lists c i a box
decide_supported Fixed lists c i a box = decide_none_else c i a box
decide_supported Hull lists c i a box = decide_hulled c i a box
decide_supported Last lists c i a box = decide_either (decide_other_open c i box) (decide_choice_with lists c i a box)

decide_leaf : (l : Level) (lists : List Tuples) (c : Con) (box : List (List ℤ)) → Decided (LeafPossibleAt l lists c box)
decide_leaf Arc lists c box = decide_some_choice lists c box
decide_leaf Fixed lists c box = decide_either (decide_some_open c box) (decide_some_choice lists c box)
decide_leaf Hull lists c box = decide_either (decide_some_open c box) (decide_some_choice lists c box)
decide_leaf Last lists c box = decide_either (decide_some_open c box) (decide_some_choice lists c box)

-- whether the ends alone are asked for
decide_hull_level : (l : Level) → Decided (l ≡ Hull)
decide_hull_level Arc = inr (λ e. cc)
decide_hull_level Fixed = inr (λ e. cc)
decide_hull_level Hull = inl refl
decide_hull_level Last = inr (λ e. cc)

pub ends_alone : (bounded : Bool) (l : Level) → Decided (bounded ≡ true ⊎ (l ≡ Hull))
ends_alone true l = inl (inl refl)
ends_alone false l = decide_either (inr (λ e. cc)) (decide_hull_level l)

decide_asked : (l : Level) (vars : List Variable) (box : List (List ℤ)) (t : Term) (a : ℤ) → Decided (Asked l vars box t a)
decide_asked l vars box t a = decided_as (λ both. record { there = both.0; ends = both.1 }, λ asked. (asked.there, asked.ends))
    (decide_both (decide_place box t a) (decide_implies (ends_alone (is_place_bounded vars t) l) (decide_place_end box t a)))

decide_none : (ts : List Term) → Decided (ts ≡ [])
decide_none [] = inl refl
decide_none (t ∷ ts) = inr (λ e. cc)

decide_leaf_closed : (vars : List Variable) (lists : List Tuples) (c : Con) (box : List (List ℤ)) → Decided (LeafClosed vars lists c box)
decide_leaf_closed vars lists c box = decided_as
    (λ both. record { bare = both.0; supported = λ i t a stands asked. both.1 i t stands a asked.there asked }, λ closed. (closed.bare, λ i t stands a there asked. closed.supported i t a stands asked))
    (decide_both (decide_implies (decide_none (places c)) (decide_meets lists c []))
    (decide_places (places c) (λ i t. (a : ℤ) → PlaceHas box t a → Asked (level c) vars box t a → SupportedAt (level c) lists c i a box)
    (λ i t. decide_each_there box t (λ a. Asked (level c) vars box t a → SupportedAt (level c) lists c i a box) (λ a. decide_implies (decide_asked (level c) vars box t a) (decide_supported (level c) lists c i a box)))))

-- ---- constraints by their parts

decide_says : (says : Bool) {P Q : Type 0} → Decided P → Decided Q → Decided (IfSays says P Q)
decide_says true p q = p
decide_says false p q = q

decide_apart : (b : Bool) {P Q : Type 0} → Decided P → Decided Q → Decided (IfApart b P Q)
decide_apart true p q = p
decide_apart false p q = q

mutual
  pub decide_parts : (lists : List Tuples) (c : Con) (says : Bool) (box : List (List ℤ)) → Decided (PartsPossible lists c says box)
  decide_parts lists (con.WatchedOr cs) says box = decide_says says (decide_one lists cs true box) (decide_every lists cs false box)
  decide_parts lists (con.WatchedAnd cs) says box = decide_says says (decide_every lists cs true box) (decide_one lists cs false box)
  decide_parts lists (con.Reify' p (more_of-Con c none) r) says box =
      decide_either (decide_both (decide_place box r (bit says)) (decide_parts lists c true box)) (decide_both (decide_place box r (bit (not says))) (decide_parts lists c false box))
  decide_parts lists (con.Reifyimply' p (more_of-Con c none) r) says box = decide_says says
      (decide_either (decide_place box r (pos 0)) (decide_both (decide_place box r (pos 1)) (decide_parts lists c true box)))
      (decide_both (decide_place box r (pos 1)) (decide_parts lists c false box))
  decide_parts lists c says box = decide_leaf (level (signed says c)) lists (signed says c) box

  pub decide_one : (lists : List Tuples) (cs : Cons) (says : Bool) (box : List (List ℤ)) → Decided (OnePossible lists cs says box)
  decide_one lists con.End says box = decide_never
  decide_one lists (con.More' p (more_of-Con c none) q (more_of-Cons cs nothing)) says box = decide_either (decide_parts lists c says box) (decide_one lists cs says box)

  decide_every : (lists : List Tuples) (cs : Cons) (says : Bool) (box : List (List ℤ)) → Decided (EachPossible lists cs says box)
  decide_every lists con.End says box = inl tt
  decide_every lists (con.More' p (more_of-Con c none) q (more_of-Cons cs nothing)) says box = decide_both (decide_parts lists c says box) (decide_every lists cs says box)

decide_two : (lists : List Tuples) (cs : Cons) (says : Bool) (box : List (List ℤ)) → Decided (TwoPossible lists cs says box)
decide_two lists con.End says box = decide_never
decide_two lists (con.More' p (more_of-Con c none) q (more_of-Cons cs nothing)) says box = decide_either (decide_both (decide_parts lists c says box) (decide_one lists cs says box)) (decide_two lists cs says box)

decide_alone : (box : List (List ℤ)) (r : Term) (a : ℤ) → Decided (IsAlone box r a)
decide_alone box r a = decide_each_there box r (λ b. b ≡ a) (λ b. decide_int b a)

decide_four : {A B C D : Type 0} → Decided A → Decided B → Decided C → Decided D → Decided (A × B × C × D)
decide_four a b c d = decided_as (λ h. (h.0.0, h.0.1, h.1.0, h.1.1), λ h. ((h.0, h.1), (h.2, h.3))) (decide_both (decide_both a b) (decide_both c d))

mutual
  decide_parts_closed : (vars : List Variable) (lists : List Tuples) (c : Con) (says : Bool) (box : List (List ℤ)) → Decided (PartsClosed vars lists c says box)
  decide_parts_closed vars lists (con.WatchedOr cs) says box = decide_says says (decide_either (decide_two lists cs true box) (decide_one_closed vars lists cs true box)) (decide_each_closed vars lists cs false box)
  decide_parts_closed vars lists (con.WatchedAnd cs) says box = decide_says says (decide_each_closed vars lists cs true box) (decide_either (decide_two lists cs false box) (decide_one_closed vars lists cs false box))
  decide_parts_closed vars lists (con.Reify' p (more_of-Con c none) r) says box = decide_four
      (decide_implies (decide_place box r (bit says)) (decide_parts lists c true box)) (decide_implies (decide_place box r (bit (not says))) (decide_parts lists c false box))
      (decide_implies (decide_alone box r (bit says)) (decide_parts_closed vars lists c true box)) (decide_implies (decide_alone box r (bit (not says))) (decide_parts_closed vars lists c false box))
  decide_parts_closed vars lists (con.Reifyimply' p (more_of-Con c none) r) says box = decide_says says
      (decide_both (decide_implies (decide_place box r (pos 1)) (decide_parts lists c true box)) (decide_implies (decide_alone box r (pos 1)) (decide_parts_closed vars lists c true box)))
      (decide_both (decide_leaf_closed vars lists (con.WLiteral r (pos 1)) box) (decide_parts_closed vars lists c false box))
  decide_parts_closed vars lists c says box = decide_leaf_closed vars lists (signed says c) box

  decide_one_closed : (vars : List Variable) (lists : List Tuples) (cs : Cons) (says : Bool) (box : List (List ℤ)) → Decided (OneClosed vars lists cs says box)
  decide_one_closed vars lists con.End says box = decide_never
  decide_one_closed vars lists (con.More' p (more_of-Con c none) q (more_of-Cons cs nothing)) says box =
      decide_either (decide_both (decide_parts lists c says box) (decide_parts_closed vars lists c says box)) (decide_one_closed vars lists cs says box)

  decide_each_closed : (vars : List Variable) (lists : List Tuples) (cs : Cons) (says : Bool) (box : List (List ℤ)) → Decided (EachClosed vars lists cs says box)
  decide_each_closed vars lists con.End says box = inl tt
  decide_each_closed vars lists (con.More' p (more_of-Con c none) q (more_of-Cons cs nothing)) says box = decide_both (decide_parts_closed vars lists c says box) (decide_each_closed vars lists cs says box)

-- ---- what is told

pub decide_possible : (lists : List Tuples) (c : Con) (says : Bool) (box : List (List ℤ)) → Decided (Possible lists c says box)
decide_possible lists c says box = decide_apart is_taken_apart (decide_parts lists c says box) (decide_leaf (level (signed says c)) lists (signed says c) box)

pub decide_closed : (vars : List Variable) (lists : List Tuples) (c : Con) (says : Bool) (box : List (List ℤ)) → Decided (Closed vars lists c says box)
decide_closed vars lists c says box = decide_apart is_taken_apart (decide_parts_closed vars lists c says box) (decide_leaf_closed vars lists (signed says c) box)

pub decide_closed_all : (vars : List Variable) (lists : List Tuples) (cons : List Con) (box : List (List ℤ)) → Decided (ClosedAll vars lists cons box)
decide_closed_all vars lists cons box = decide_all (λ c. decide_closed vars lists c true box) cons

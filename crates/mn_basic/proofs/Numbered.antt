-- What is supported of a constraint of one place.
use Rattle.std.proofs.Common.{◌≡◌, ◌≢◌, ◌↔◌, ℕ, zero, suc, ◌<◌, ℤ, ◌≤ℤ◌, Bool, IsTrue, List, [], ◌∷◌, length, slice_get, Some, Result, Ok, Err, OnOk, true, false, refl, sym, subst, ap, ◌∙◌, true≢false, arith}
use Rattle.std.proofs.lemmas.Int.{ints}
use Rattle.mn_model.specs.Parts.{places}
use Rattle.mn_model.specs.declared.constraint.Term.{Term}
use Rattle.mn_model.specs.declared.declaration.Tuples.{Tuples}
use Rattle.mn_boxes.specs.Boxes.{IsBox, Inside}
use Rattle.mn_boxes.specs.Places.{PlaceHas}
use Rattle.mn_boxes.specs.Sets.{Variable}
use Rattle.mn_meaning.specs.Meaning.{Meets, at}
use Rattle.mn_closure.specs.Closed.{Asked, LeafClosed}
use Rattle.mn_closure.specs.Levels.{Arc, level}
use Rattle.mn_closure.specs.Supports.{Choice, ChoiceWith, StandsAt, Supported, SupportedAt}
use Rattle.mn_closure.proofs.Wider.{wider_place}
use Rattle.mn_prop.specs.Contexts.{Context, IsGreatestAt, IsLeastAt, IsNamed, box_of, vars_of}
use Rattle.mn_prop.specs.Losses.{Unsupported}
use Rattle.mn_prop.specs.Passes.{IsStep, Narrows}
use Rattle.mn_prop.specs.Posts.{HasAt, IsReady, beside}
use Rattle.mn_prop.specs.declared.context.Fail.{Fail}
use Rattle.mn_prop.proofs.Alone.{same_term}
use Rattle.mn_prop.proofs.Ended.{greatest_of, least_of}
use Rattle.mn_prop.proofs.Narrowing.{narrows_as}
use Rattle.mn_prop.proofs.Ready.{ready_named}
use Rattle.mn_prop.proofs.Stepping.{as_step, by_rule}
use Rattle.mn_basic.specs.Binaries.{EachAsked}
use Rattle.mn_basic.specs.Intervals.{AllIn, IsIn, OutOf}
use Rattle.mn_basic.specs.Losses.{ThatAt}
use Rattle.mn_basic.specs.Unaries.{IsOneOf, in_one_change, literal_of}
use Rattle.mn_basic.specs.declared.interval.Interval.{Interval}
use Rattle.mn_basic.specs.declared.numbers.Numbers.{Numbers}
use Rattle.mn_basic.specs.declared.numbers.Numbers.TheVariants.{Is, IsNot, Among, NotAmong, Between, NotBetween, Within}
use Rattle.mn_basic.proofs.Reached.{between}

literal_level : (n : Numbers) (x : Term) → level (literal_of n x) ≡ Arc
literal_level (Is k) x = refl
literal_level (IsNot k) x = refl
literal_level (Among ks) x = refl
literal_level (NotAmong ks) x = refl
literal_level (Between lo hi) x = refl
literal_level (NotBetween lo hi) x = refl
literal_level (Within ends) x = refl

literal_places : (n : Numbers) (x : Term) → places (literal_of n x) ≡ x ∷ []
literal_places (Is k) x = refl
literal_places (IsNot k) x = refl
literal_places (Among ks) x = refl
literal_places (NotAmong ks) x = refl
literal_places (Between lo hi) x = refl
literal_places (NotBetween lo hi) x = refl
literal_places (Within ends) x = refl

meets_one : (n : Numbers) (x : Term) (lists : List Tuples) (s : List ℤ) → Meets lists (literal_of n x) s → IsOneOf n (at s 0)
meets_one (Is k) x lists s m = m
meets_one (IsNot k) x lists s m = m
meets_one (Among ks) x lists s m = m
meets_one (NotAmong ks) x lists s m = m
meets_one (Between lo hi) x lists s m = m
meets_one (NotBetween lo hi) x lists s m = m
meets_one (Within ends) x lists s m = m

one_meets : (n : Numbers) (x : Term) (lists : List Tuples) (s : List ℤ) → IsOneOf n (at s 0) → Meets lists (literal_of n x) s
one_meets (Is k) x lists s m = m
one_meets (IsNot k) x lists s m = m
one_meets (Among ks) x lists s m = m
one_meets (NotAmong ks) x lists s m = m
one_meets (Between lo hi) x lists s m = m
one_meets (NotBetween lo hi) x lists s m = m
one_meets (Within ends) x lists s m = m

-- a value is supported exactly where it is one of the numbers
pub supported_one : (n : Numbers) (x : Term) (lists : List Tuples) (a : ℤ) (box : List (List ℤ)) → Supported lists (literal_of n x) 0 a box → IsOneOf n a
supported_one n x lists a box supported = subst (IsOneOf n) choice.given (meets_one n x lists choice.values choice.meets)
  where
    choice : ChoiceWith lists (literal_of n x) 0 a box
    choice = subst (λ l. SupportedAt l lists (literal_of n x) 0 a box) (literal_level n x) supported

one_supported : (n : Numbers) (x : Term) (lists : List Tuples) (a : ℤ) (box : List (List ℤ)) → PlaceHas box x a → IsOneOf n a → Supported lists (literal_of n x) 0 a box
one_supported n x lists a box has one = subst (λ l. SupportedAt l lists (literal_of n x) 0 a box) (sym (literal_level n x)) (record {
  values = a ∷ [];
  chosen = subst (λ ts. Choice box ts (a ∷ [])) (sym (literal_places n x)) (has, tt);
  given = refl;
  meets = one_meets n x lists (a ∷ []) one;
})

pub literal_stands : (n : Numbers) (x : Term) → StandsAt (literal_of n x) 0 x
literal_stands n x = ap (λ ts. slice_get ts 0) (literal_places n x)

literal_closed : (n : Numbers) (x : Term) (lists : List Tuples) (vars : List Variable) (box : List (List ℤ)) → EachAsked vars x (IsOneOf n) box → LeafClosed vars lists (literal_of n x) box
literal_closed n x lists vars box each = record { bare = λ none. absurd (filled (sym (literal_places n x) ∙ none)); supported = stands_at }
  where
    filled : x ∷ [] ≡ [] → ⊥
    filled e = cc

    stands_at : (i : ℕ) (t : Term) (a : ℤ) → StandsAt (literal_of n x) i t → Asked (level (literal_of n x)) vars box t a → Supported lists (literal_of n x) i a box
    stands_at zero t a stands asked =
        let own : Asked (level (literal_of n x)) vars box x a = subst (λ u. Asked (level (literal_of n x)) vars box u a) (same_term (literal_of n x) 0 t x stands (literal_stands n x)) asked in
        one_supported n x lists a box own.there (each a (subst (λ l. Asked l vars box x a) (literal_level n x) own))
    stands_at (suc i) t a stands asked = absurd (past (subst (λ ts. slice_get ts (suc i) ≡ Some t) (literal_places n x) stands))
      where
        past : slice_get (x ∷ []) (suc i) ≡ Some t → ⊥
        past e = cc

closed_literal : (n : Numbers) (x : Term) (lists : List Tuples) (vars : List Variable) (box : List (List ℤ)) → LeafClosed vars lists (literal_of n x) box → EachAsked vars x (IsOneOf n) box
closed_literal n x lists vars box closed a asked = supported_one n x lists a box (closed.supported 0 x a (literal_stands n x) (subst (λ l. Asked l vars box x a) (sym (literal_level n x)) asked))

pub literal_named : (n : Numbers) (x : Term) (lists : List Tuples) (vars : List Variable) → IsReady vars lists (literal_of n x) → IsNamed vars x
literal_named n x lists vars ready = ready_named (beside lists (literal_of n x)) 0 ready (literal_stands n x)

-- a value that isn't one of the numbers isn't supported
none_of_them : (n : Numbers) (x : Term) (lists : List Tuples) (box : List (List ℤ)) (u : Term) (a : ℤ) → u ≡ x → (IsOneOf n a → ⊥) → Unsupported (beside lists (literal_of n x)) box u a
none_of_them n x lists box u a same other = (0, subst (StandsAt (literal_of n x) 0) (sym same) (literal_stands n x), λ supported. other (supported_one n x lists a box supported))

-- whether a value is one of the numbers is whether it is supported
pub one_told : (n : Numbers) (x : Term) (lists : List Tuples) (i : ℕ) (a : ℤ) (box : List (List ℤ)) (m : Bool) → i < length (places (literal_of n x)) → HasAt (literal_of n x) i a box → IsTrue m ↔ IsOneOf n a → IsTrue m ↔ Supported lists (literal_of n x) i a box
one_told n x lists zero a box m within there tells = (λ e. one_supported n x lists a box (there x (literal_stands n x)) (tells.0 e), λ supported. tells.1 (supported_one n x lists a box supported))
one_told n x lists (suc i) a box m within there tells = let one = ap length (literal_places n x) in absurd (omega (arith, one, within))

-- ---- steps

-- where the ends of a place are in an interval, all of it is
all_in : (n : Numbers) (x : Term) (lists : List Tuples) (vars : List Variable) (box : List (List ℤ)) (s : Interval) → IsBox vars box → IsReady vars lists (literal_of n x) → ((b : ℤ) → PlaceHas box x b → IsOneOf n b → IsIn s b) → LeafClosed vars lists (literal_of n x) box → AllIn s x box
all_in n x lists vars box s is ready within closed a has =
    let named = literal_named n x lists vars ready in
    let least = least_of Arc vars box x is named in
    let great = greatest_of Arc vars box x is named in
    let each = closed_literal n x lists vars box closed in
    between s least.value great.value a (within least.value least.least.there (each least.value least.asked)) (within great.value great.greatest.there (each great.value great.asked)) (least.least.least a has) (great.greatest.greatest a has)

-- the numbers of an interval
module _ (n : Numbers) (s : Interval) where
  is_within : (k : ℤ) → n ≡ Is k → s.lo ≡ k → s.hi ≡ k → (b : ℤ) → IsIn s b → IsOneOf n b
  is_within k is is_lo is_hi b both = let from = both.0 in let to = both.1 in subst (λ m. IsOneOf m b) (sym is) (omega (arith, ints, from, to, is_lo, is_hi))

  between_within : (lo hi : ℤ) → n ≡ Between lo hi → s.lo ≡ lo → s.hi ≡ hi → (b : ℤ) → IsIn s b → IsOneOf n b
  between_within lo hi is is_lo is_hi b both = let from = both.0 in let to = both.1 in subst (λ m. IsOneOf m b) (sym is) (omega (arith, ints, from, is_lo), omega (arith, ints, to, is_hi))

module _ (n : Numbers) (x : Term) (lists : List Tuples) (s : Interval) (old new : Context) (result : Result (Unit {0}) Fail) (ready : IsReady (vars_of old) lists (literal_of n x)) where
  pub reach_narrows : (own : Interval) (lo hi : ℤ) → IsLeastAt (box_of old) x lo → IsGreatestAt (box_of old) x hi → own.lo ≡ lo → own.hi ≡ hi → ((b : ℤ) → IsOneOf n b → IsIn own b → IsIn s b) → IsStep (OutOf s x) (AllIn s x) old new result
      → Narrows (Unsupported (beside lists (literal_of n x))) (LeafClosed (vars_of old) lists (literal_of n x)) old new result
  reach_narrows own lo hi low high is_lo is_hi reach step =
      narrows_as (λ box is i closed. all_in n x lists (vars_of old) box s is ready (λ b has one. here box i b has one) closed)
      (by_rule (λ box i u a has out. none_of_them n x lists box u a out.0 (λ one. out.1 (here box i a (subst (λ t. PlaceHas box t a) out.0 has) one))) step)
    where
      here : (box : List (List ℤ)) → Inside box (box_of old) → (b : ℤ) → PlaceHas box x b → IsOneOf n b → IsIn s b
      here box i b has one =
          let had = wider_place box (box_of old) i x b has in
          let from = low.least b had in
          let to = high.greatest b had in
          reach b one (omega (arith, ints, from, is_lo), omega (arith, ints, to, is_hi))

  -- where the numbers are those of the interval
  interval_step : ((b : ℤ) → IsOneOf n b → IsIn s b) → ((b : ℤ) → IsIn s b → IsOneOf n b) → IsStep (OutOf s x) (AllIn s x) old new result → IsStep (Unsupported (beside lists (literal_of n x))) (LeafClosed (vars_of old) lists (literal_of n x)) old new result
  interval_step within only step =
      as_step (λ box is i closed. all_in n x lists (vars_of old) box s is ready (λ b has one. within b one) closed)
      (λ all. literal_closed n x lists (vars_of old) (box_of old) (λ a asked. only a (all a asked.there)))
      (by_rule (λ box i u a has out. none_of_them n x lists box u a out.0 (λ one. out.1 (within a one))) step)

  pub is_step : (k : ℤ) → n ≡ Is k → s.lo ≡ k → s.hi ≡ k → IsStep (OutOf s x) (AllIn s x) old new result → IsStep (Unsupported (beside lists (literal_of n x))) (LeafClosed (vars_of old) lists (literal_of n x)) old new result
  is_step k is is_lo is_hi step = interval_step (λ b one. (let same : b ≡ k = subst (λ m. IsOneOf m b) is one in (omega (arith, ints, same, is_lo), omega (arith, ints, same, is_hi)))) (is_within n s k is is_lo is_hi) step

  pub between_step : (lo hi : ℤ) → n ≡ Between lo hi → s.lo ≡ lo → s.hi ≡ hi → IsStep (OutOf s x) (AllIn s x) old new result → IsStep (Unsupported (beside lists (literal_of n x))) (LeafClosed (vars_of old) lists (literal_of n x)) old new result
  between_step lo hi is is_lo is_hi step = interval_step
      (λ b one. (let both : (lo ≤ℤ b) × (b ≤ℤ hi) = subst (λ m. IsOneOf m b) is one in let from = both.0 in let to = both.1 in (omega (arith, ints, from, is_lo), omega (arith, ints, to, is_hi))))
      (between_within n s lo hi is is_lo is_hi) step

module _ (n : Numbers) (x : Term) (lists : List Tuples) (old new : Context) (result : Result (Unit {0}) Fail) where
  pub not_step : (k : ℤ) → n ≡ IsNot k → IsStep (ThatAt x k) (EachAsked (vars_of old) x (λ b. b ≢ k)) old new result → IsStep (Unsupported (beside lists (literal_of n x))) (LeafClosed (vars_of old) lists (literal_of n x)) old new result
  not_step k is step =
      as_step (λ box lawful i closed a asked. subst (λ m. IsOneOf m a) is (closed_literal n x lists (vars_of old) box closed a asked))
      (λ each. literal_closed n x lists (vars_of old) (box_of old) (λ a asked. subst (λ m. IsOneOf m a) (sym is) (each a asked)))
      (by_rule (λ box i u a has that. none_of_them n x lists box u a that.0 (λ one. (let other : a ≢ k = subst (λ m. IsOneOf m a) is one in other that.1))) step)

-- ---- after a pass

-- the box is closed
abbrev ClosedAfter : Numbers → Term → List Tuples → List Variable → List (List ℤ) → Result (Unit {0}) Fail → Type 0
ClosedAfter n x lists vars box result = OnOk result (in_one_change n ≡ true → LeafClosed vars lists (literal_of n x) box)

module _ (n : Numbers) (x : Term) (lists : List Tuples) (vars : List Variable) (box : List (List ℤ)) where
  interval_settles : (s : Interval) (result : Result (Unit {0}) Fail) → ((b : ℤ) → IsIn s b → IsOneOf n b) → OnOk result (AllIn s x box) → ClosedAfter n x lists vars box result
  interval_settles s (Ok done) only all = λ e. literal_closed n x lists vars box (λ a asked. only a (all a asked.there))
  interval_settles s (Err fail) only none = tt

  pub is_settles : (s : Interval) (k : ℤ) (result : Result (Unit {0}) Fail) → n ≡ Is k → s.lo ≡ k → s.hi ≡ k → OnOk result (AllIn s x box) → ClosedAfter n x lists vars box result
  is_settles s k result is is_lo is_hi all = interval_settles s result (is_within n s k is is_lo is_hi) all

  pub between_settles : (s : Interval) (lo hi : ℤ) (result : Result (Unit {0}) Fail) → n ≡ Between lo hi → s.lo ≡ lo → s.hi ≡ hi → OnOk result (AllIn s x box) → ClosedAfter n x lists vars box result
  between_settles s lo hi result is is_lo is_hi all = interval_settles s result (between_within n s lo hi is is_lo is_hi) all

  pub not_settles : (k : ℤ) (result : Result (Unit {0}) Fail) → n ≡ IsNot k → OnOk result (EachAsked vars x (λ b. b ≢ k) box) → ClosedAfter n x lists vars box result
  not_settles k (Ok done) is each = λ e. literal_closed n x lists vars box (λ a asked. subst (λ m. IsOneOf m a) (sym is) (each a asked))
  not_settles k (Err fail) is none = tt

  -- of other numbers nothing is said
  pub other_settles : (result : Result (Unit {0}) Fail) → in_one_change n ≡ false → ClosedAfter n x lists vars box result
  other_settles (Ok done) other = λ e. absurd (true≢false (sym e ∙ other))
  other_settles (Err fail) other = tt

-- What is supported of a constraint that a value stands so often.
use Rattle.std.proofs.Common.{◌≡◌, ℕ, ◌+◌, ◌≤◌, ℤ, pos, ◌≤ℤ◌, List, [], ◌∷◌, ◌++◌, length, take, slice_get, Some, ◌⊎◌, inl, inr, refl, sym, subst, ap, ◌∙◌}
use Rattle.std.proofs.lemmas.Option.{slice_get_within}
use Rattle.mn_model.specs.declared.constraint.Con.TheVariants as con
use Rattle.mn_model.specs.declared.constraint.Term.{Term}
use Rattle.mn_model.specs.declared.declaration.Tuples.{Tuples}
use Rattle.mn_model.specs.declared.limits.TheConstants.{PLACES}
use Rattle.mn_boxes.specs.Boxes.{Inside, IsBox}
use Rattle.mn_boxes.specs.Places.{PlaceHas}
use Rattle.mn_boxes.specs.Sets.{Variable}
use Rattle.mn_meaning.specs.Families.{occurrences}
use Rattle.mn_meaning.specs.Meaning.{Meets, at}
use Rattle.mn_closure.specs.Closed.{Asked, LeafClosed}
use Rattle.mn_closure.specs.Levels.{Arc, level}
use Rattle.mn_closure.specs.Supports.{Choice, ChoiceWith, StandsAt, Supported, SupportedAt}
use Rattle.mn_closure.proofs.Wider.{wider_place}
use Rattle.mn_prop.specs.Contexts.{IsNamed}
use Rattle.mn_prop.specs.Posts.{IsReady, beside}
use Rattle.mn_prop.proofs.Ended.{least_of}
use Rattle.mn_prop.proofs.Ready.{ready_named}
use Rattle.mn_count.specs.declared.occurrence.Amount.{Amount}
use Rattle.mn_count.specs.declared.occurrence.Amount.TheVariants.{AtMost, AtLeast, Is}
use Rattle.mn_count.specs.Occurrences.{IsAllowed, con_of}
use Rattle.mn_count.proofs.Entries.{at_front, at_take, behind_is, choice_inside, chosen_behind, chosen_both, chosen_front, front_is, in_front, never_empty, no_place, of_either, stands_behind}

pub is_arc : (v : List Term) (k : ℤ) (amount : Amount) → level (con_of v k amount) ≡ Arc
is_arc v k (AtMost most) = refl
is_arc v k (AtLeast least) = refl
is_arc v k (Is x) = refl

-- what is allowed in a box is allowed in one around it
pub allowed_inside : (box old : List (List ℤ)) (amount : Amount) (n : ℕ) → Inside box old → IsAllowed amount box n → IsAllowed amount old n
allowed_inside box old (AtMost most) n inside allowed = allowed
allowed_inside box old (AtLeast least) n inside allowed = allowed
allowed_inside box old (Is x) n inside allowed = wider_place box old inside x (pos n) allowed

-- a choice of the entries that has k as often as it may
pub record IsCounted (box : List (List ℤ)) (v : List Term) (k : ℤ) (amount : Amount) (i : ℕ) (a : ℤ) : Type 0 where
  pub values : List ℤ
  pub chosen : Choice box v values
  pub given : at values i ≡ a
  pub allowed : IsAllowed amount box (occurrences k values)

module _ (lists : List Tuples) (v : List Term) (k : ℤ) where
  pub entry_stands : (amount : Amount) (i : ℕ) (t : Term) → slice_get v i ≡ Some t → StandsAt (con_of v k amount) i t
  entry_stands (AtMost most) i t stands = stands
  entry_stands (AtLeast least) i t stands = stands
  entry_stands (Is x) i t stands = in_front v x i t stands

  pub counter_stands : (x : Term) → StandsAt (con_of v k (Is x)) (length v) x
  counter_stands x = stands_behind v x

  choice_of : (amount : Amount) (i : ℕ) (a : ℤ) (box : List (List ℤ)) → Supported lists (con_of v k amount) i a box → ChoiceWith lists (con_of v k amount) i a box
  choice_of amount i a box supported = subst (λ l. SupportedAt l lists (con_of v k amount) i a box) (is_arc v k amount) supported

  of_choice : (amount : Amount) (i : ℕ) (a : ℤ) (box : List (List ℤ)) → ChoiceWith lists (con_of v k amount) i a box → Supported lists (con_of v k amount) i a box
  of_choice amount i a box choice = subst (λ l. SupportedAt l lists (con_of v k amount) i a box) (sym (is_arc v k amount)) choice

  -- an entry
  pub supported_counted : (amount : Amount) (i : ℕ) (t : Term) (a : ℤ) (box : List (List ℤ)) → slice_get v i ≡ Some t → Supported lists (con_of v k amount) i a box → IsCounted box v k amount i a
  supported_counted (AtMost most) i t a box stands supported =
      let choice = choice_of (AtMost most) i a box supported in
      record { values = choice.values; chosen = choice.chosen; given = choice.given; allowed = choice.meets }
  supported_counted (AtLeast least) i t a box stands supported =
      let choice = choice_of (AtLeast least) i a box supported in
      record { values = choice.values; chosen = choice.chosen; given = choice.given; allowed = choice.meets }
  supported_counted (Is x) i t a box stands supported =
      let choice = choice_of (Is x) i a box supported in
      record {
        values = take (length v) choice.values;
        chosen = chosen_front (PlaceHas box) v x choice.values choice.chosen;
        given = at_take (length v) choice.values i (slice_get_within v i t stands) ∙ choice.given;
        allowed = subst (PlaceHas box x) choice.meets (chosen_behind (PlaceHas box) v x choice.values choice.chosen);
      }

  -- a choice with the number behind it
  numbered : (box : List (List ℤ)) (x : Term) (s : List ℤ) → Choice box v s → Meets lists (con.Occurrence v k x) (s ++ pos (occurrences k s) ∷ [])
  numbered box x s chosen = behind_is (PlaceHas box) v s (pos (occurrences k s)) chosen ∙ ap (λ l. pos (occurrences k l)) (sym (front_is (PlaceHas box) v s (pos (occurrences k s)) chosen))

  pub counted_supported : (amount : Amount) (i : ℕ) (t : Term) (a : ℤ) (box : List (List ℤ)) → slice_get v i ≡ Some t → IsCounted box v k amount i a → Supported lists (con_of v k amount) i a box
  counted_supported (AtMost most) i t a box stands counted = of_choice (AtMost most) i a box (record { values = counted.values; chosen = counted.chosen; given = counted.given; meets = counted.allowed })
  counted_supported (AtLeast least) i t a box stands counted = of_choice (AtLeast least) i a box (record { values = counted.values; chosen = counted.chosen; given = counted.given; meets = counted.allowed })
  counted_supported (Is x) i t a box stands counted = of_choice (Is x) i a box (record {
    values = counted.values ++ pos (occurrences k counted.values) ∷ [];
    chosen = chosen_both (PlaceHas box) v x counted.values (pos (occurrences k counted.values)) counted.chosen counted.allowed;
    given = at_front (PlaceHas box) v counted.values (pos (occurrences k counted.values)) i t counted.chosen stands ∙ counted.given;
    meets = numbered box x counted.values counted.chosen;
  })

  -- the place that says how often
  pub number_chosen : (x : Term) (a : ℤ) (box : List (List ℤ)) → Supported lists (con_of v k (Is x)) (length v) a box → (s : List ℤ) × Choice box v s × (pos (occurrences k s) ≡ a)
  number_chosen x a box supported =
      let choice = choice_of (Is x) (length v) a box supported in
      (take (length v) choice.values, chosen_front (PlaceHas box) v x choice.values choice.chosen, sym choice.meets ∙ choice.given)

  pub chosen_number : (x : Term) (s : List ℤ) (a : ℤ) (box : List (List ℤ)) → Choice box v s → pos (occurrences k s) ≡ a → PlaceHas box x a → Supported lists (con_of v k (Is x)) (length v) a box
  chosen_number x s a box chosen is has = of_choice (Is x) (length v) a box (record {
    values = s ++ pos (occurrences k s) ∷ [];
    chosen = chosen_both (PlaceHas box) v x s (pos (occurrences k s)) chosen (subst (PlaceHas box x) (sym is) has);
    given = behind_is (PlaceHas box) v s (pos (occurrences k s)) chosen ∙ is;
    meets = numbered box x s chosen;
  })

  -- what has to be supported in a closed box is
  pub closed_entry : (amount : Amount) (vars : List Variable) (box : List (List ℤ)) (i : ℕ) (t : Term) (a : ℤ) → LeafClosed vars lists (con_of v k amount) box → slice_get v i ≡ Some t → Asked Arc vars box t a → IsCounted box v k amount i a
  closed_entry amount vars box i t a closed stands asked =
      supported_counted amount i t a box stands (closed.supported i t a (entry_stands amount i t stands) (subst (λ l. Asked l vars box t a) (sym (is_arc v k amount)) asked))

  pub closed_counter : (x : Term) (vars : List Variable) (box : List (List ℤ)) (a : ℤ) → LeafClosed vars lists (con_of v k (Is x)) box → Asked Arc vars box x a → (s : List ℤ) × Choice box v s × (pos (occurrences k s) ≡ a)
  closed_counter x vars box a closed asked = number_chosen x a box (closed.supported (length v) x a (counter_stands x) (subst (λ l. Asked l vars box x a) (sym (is_arc v k (Is x))) asked))

  pub entry_named : (amount : Amount) (vars : List Variable) (i : ℕ) (t : Term) → IsReady vars lists (con_of v k amount) → slice_get v i ≡ Some t → IsNamed vars t
  entry_named amount vars i t ready stands = ready_named (beside lists (con_of v k amount)) i ready (entry_stands amount i t stands)

  pub few_entries : (amount : Amount) (vars : List Variable) → IsReady vars lists (con_of v k amount) → length v ≤ PLACES + 1
  few_entries (AtMost most) vars ready = ready.meant.short.0
  few_entries (AtLeast least) vars ready = ready.meant.short.0
  few_entries (Is x) vars ready = ready.meant.short.0

  pub counter_named : (x : Term) (vars : List Variable) → IsReady vars lists (con_of v k (Is x)) → IsNamed vars x
  counter_named x vars ready = ready_named (beside lists (con_of v k (Is x))) (length v) ready (counter_stands x)

  -- each value of the place that says how often is some number from low to high
  abbrev pub NumbersWithin : Amount → List (List ℤ) → ℕ → ℕ → Type 0
  NumbersWithin (AtMost most) box low high = Unit {0}
  NumbersWithin (AtLeast least) box low high = Unit {0}
  NumbersWithin (Is x) box low high = (a : ℤ) → PlaceHas box x a → (n : ℕ) × (a ≡ pos n) × (low ≤ n) × (n ≤ high)

  -- a box is closed where each of these is counted, and each number is reached
  pub entries_closed : (amount : Amount) (vars : List Variable) (box : List (List ℤ)) (low high : ℕ) → (v ≡ [] → IsAllowed amount box 0) → ((i : ℕ) (t : Term) (a : ℤ) → slice_get v i ≡ Some t → Asked Arc vars box t a → IsCounted box v k amount i a)
      → NumbersWithin amount box low high → ((n : ℕ) → low ≤ n → n ≤ high → (s : List ℤ) × Choice box v s × (occurrences k s ≡ n)) → LeafClosed vars lists (con_of v k amount) box
  entries_closed (AtMost most) vars box low high bare counted numbers reach = record {
    bare = bare;
    supported = λ i t a stands asked. counted_supported (AtMost most) i t a box stands (counted i t a stands (subst (λ l. Asked l vars box t a) (is_arc v k (AtMost most)) asked));
  }
  entries_closed (AtLeast least) vars box low high bare counted numbers reach = record {
    bare = bare;
    supported = λ i t a stands asked. counted_supported (AtLeast least) i t a box stands (counted i t a stands (subst (λ l. Asked l vars box t a) (is_arc v k (AtLeast least)) asked));
  }
  entries_closed (Is x) vars box low high bare counted numbers reach = record {
    bare = λ none. absurd (never_empty v x none);
    supported = λ i t a stands asked. by i t a (subst (λ l. Asked l vars box t a) (is_arc v k (Is x)) asked) (of_either v x i t stands);
  }
    where
      number : (a : ℤ) → PlaceHas box x a → (n : ℕ) × (a ≡ pos n) × (low ≤ n) × (n ≤ high) → Supported lists (con_of v k (Is x)) (length v) a box
      number a has found =
          let some = reach found.0 found.2 found.3 in
          chosen_number x some.0 a box some.1 (ap pos some.2 ∙ sym found.1) has

      by : (i : ℕ) (t : Term) (a : ℤ) → Asked Arc vars box t a → (slice_get v i ≡ Some t) ⊎ ((i ≡ length v) × (t ≡ x)) → Supported lists (con_of v k (Is x)) i a box
      by i t a asked (inl front) = counted_supported (Is x) i t a box front (counted i t a front asked)
      by i t a asked (inr behind) =
          let has = subst (λ u. PlaceHas box u a) behind.1 asked.there in
          subst (λ j. Supported lists (con_of v k (Is x)) j a box) (sym behind.0) (number a has (numbers a has))

  -- where no choice has k as often as it may, no box is closed
  counted_never : (amount : Amount) (vars : List Variable) (old box : List (List ℤ)) → IsReady vars lists (con_of v k amount) → IsBox vars box → Inside box old → ((s : List ℤ) → Choice old v s → IsAllowed amount old (occurrences k s) → ⊥)
      → (v ≡ [] → IsAllowed amount old 0) → LeafClosed vars lists (con_of v k amount) box → ⊥
  counted_never amount vars old box ready is inside never bare closed = no_place v (λ none. never [] (subst (λ l. Choice old l []) (sym none) tt) (bare none)) first
    where
      first : (t : Term) → slice_get v 0 ≡ Some t → ⊥
      first t stands =
          let low = least_of Arc vars box t is (entry_named amount vars 0 t ready stands) in
          let counted = closed_entry amount vars box 0 t low.value closed stands low.asked in
          never counted.values (choice_inside box old v counted.values inside counted.chosen) (allowed_inside box old amount (occurrences k counted.values) inside counted.allowed)

  pub most_never : (most : ℤ) (vars : List Variable) (old box : List (List ℤ)) → IsReady vars lists (con_of v k (AtMost most)) → IsBox vars box → Inside box old → ((s : List ℤ) → Choice old v s → pos (occurrences k s) ≤ℤ most → ⊥) → LeafClosed vars lists (con_of v k (AtMost most)) box → ⊥
  most_never most vars old box ready is inside never closed = counted_never (AtMost most) vars old box ready is inside never (λ none. closed.bare none) closed

  pub least_never : (least : ℤ) (vars : List Variable) (old box : List (List ℤ)) → IsReady vars lists (con_of v k (AtLeast least)) → IsBox vars box → Inside box old → ((s : List ℤ) → Choice old v s → least ≤ℤ pos (occurrences k s) → ⊥) → LeafClosed vars lists (con_of v k (AtLeast least)) box → ⊥
  least_never least vars old box ready is inside never closed = counted_never (AtLeast least) vars old box ready is inside never (λ none. closed.bare none) closed

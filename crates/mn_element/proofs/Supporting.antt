-- What is supported of a constraint of an index.
use Rattle.std.proofs.Common.{◌≡◌, ℕ, ◌+◌, ℤ, pos, negsuc, ◌+ℤ◌, ◌-ℤ◌, inl, inr, List, [], ◌∷◌, ◌++◌, length, slice_get, slice_set, slice_index_or, Some, refl, sym, subst, ap, ◌∙◌, arith}
use Rattle.std.proofs.lemmas.Int.{ints}
use Rattle.std.specs.List.{AllZip}
use Rattle.mn_model.specs.Decided.{Decided, decide_nat}
use Rattle.mn_model.specs.Lawful.{IsLawfulTerm}
use Rattle.mn_model.specs.Parts.{places}
use Rattle.mn_model.specs.declared.constraint.Con.{Con}
use Rattle.mn_model.specs.declared.constraint.Term.{Term}
use Rattle.mn_model.specs.declared.declaration.Tuples.{Tuples}
use Rattle.mn_model.proofs.Lists.{all_at}
use Rattle.mn_boxes.specs.Boxes.{IsBox}
use Rattle.mn_boxes.specs.Places.{PlaceHas}
use Rattle.mn_boxes.specs.Sets.{Variable}
use Rattle.mn_meaning.specs.Families.{IsEntry}
use Rattle.mn_meaning.specs.Meaning.{Meets, at, behind, front, last}
use Rattle.mn_closure.specs.Levels.{Arc, level}
use Rattle.mn_closure.specs.Ready.{declared_sets}
use Rattle.mn_closure.specs.Supports.{ChoiceWith, StandsAt, Supported, SupportedAt}
use Rattle.mn_prop.specs.Contexts.{IsNamed}
use Rattle.mn_prop.specs.Posts.{IsReady, beside}
use Rattle.mn_prop.proofs.Boxing.{some_value}
use Rattle.mn_prop.proofs.Ready.{ready_named}
use Rattle.mn_element.specs.Elements.{entry_is, first_index}
use Rattle.mn_element.specs.Picks.{IsWanted, Picks, PicksAt}
use Rattle.mn_element.specs.declared.indexed.Form.{Form}
use Rattle.mn_element.specs.declared.indexed.Form.TheVariants.{FromZero, WatchedFromZero, FromOne, WatchedFromOne}
use Rattle.mn_element.specs.declared.picking.Wanted.{Wanted}
use Rattle.mn_element.specs.declared.picking.Wanted.TheVariants.{Anything, OfEntry, OfResult}
use Rattle.mn_element.proofs.Chosen.{Parted, at_front, at_other, at_rest, at_there, chosen_at, chosen_both, chosen_with, front_of, got_there, in_front, in_rest, parted, some_chosen}

-- the constraint says that the entry at x is y, where the first entry has an index
pub record IsIndexed (c : Con) (v : List Term) (x y : Term) (first : ℤ) : Type 0 where
  pub arc : level c ≡ Arc
  pub placed : places c ≡ v ++ x ∷ y ∷ []
  pub meets : (lists : List Tuples) (s : List ℤ) → Meets lists c s → IsEntry (front v s) (behind v s -ℤ first) (last v s)
  pub met : (lists : List Tuples) (s : List ℤ) → IsEntry (front v s) (behind v s -ℤ first) (last v s) → Meets lists c s

less_none : (a : ℤ) → a -ℤ pos 0 ≡ a
less_none a = omega (arith, ints)

from_zero : (v : List Term) (s : List ℤ) → IsEntry (front v s) (behind v s) (last v s) → IsEntry (front v s) (behind v s -ℤ pos 0) (last v s)
from_zero v s = subst (λ i. IsEntry (front v s) i (last v s)) (sym (less_none (behind v s)))

to_zero : (v : List Term) (s : List ℤ) → IsEntry (front v s) (behind v s -ℤ pos 0) (last v s) → IsEntry (front v s) (behind v s) (last v s)
to_zero v s = subst (λ i. IsEntry (front v s) i (last v s)) (less_none (behind v s))

pub is_indexed : (f : Form) (v : List Term) (x y : Term) → IsIndexed (entry_is f v x y) v x y (first_index f)
is_indexed FromZero v x y = record { arc = refl; placed = refl; meets = λ lists s m. from_zero v s m; met = λ lists s m. to_zero v s m }
is_indexed WatchedFromZero v x y = record { arc = refl; placed = refl; meets = λ lists s m. from_zero v s m; met = λ lists s m. to_zero v s m }
is_indexed FromOne v x y = record { arc = refl; placed = refl; meets = λ lists s m. m; met = λ lists s m. m }
is_indexed WatchedFromOne v x y = record { arc = refl; placed = refl; meets = λ lists s m. m; met = λ lists s m. m }

-- the entry at an index, by its number
entry_number : (xs : List ℤ) (i first a : ℤ) → IsEntry xs (i -ℤ first) a → (k : ℕ) × (i ≡ pos k +ℤ first) × (slice_get xs k ≡ Some a)
entry_number xs i first a is = by (i -ℤ first) refl is
  where
    by : (n : ℤ) → i -ℤ first ≡ n → IsEntry xs n a → (k : ℕ) × (i ≡ pos k +ℤ first) × (slice_get xs k ≡ Some a)
    by (pos k) e is = (k, omega (arith, ints, e), is)
    by (negsuc k) e is = absurd is

number_entry : (xs : List ℤ) (k : ℕ) (i first a : ℤ) → i ≡ pos k +ℤ first → slice_get xs k ≡ Some a → IsEntry xs (i -ℤ first) a
number_entry xs k i first a is got = subst (λ n. IsEntry xs n a) (sym (let e : i -ℤ first ≡ pos k = omega (arith, ints, is) in e)) got

-- what a choice says: the number of the entry, and the values
pub record Told (box : List (List ℤ)) (v : List Term) (x y : Term) (first : ℤ) (s : List ℤ) : Type 0 where
  pub parts : Parted (PlaceHas box) v x y s
  pub entry : ℕ
  pub index : parts.a ≡ pos entry +ℤ first
  pub got : slice_get parts.front entry ≡ Some parts.b

module _ {c : Con} {v : List Term} {x y : Term} {first : ℤ} (is : IsIndexed c v x y first) where
  told : (lists : List Tuples) (box : List (List ℤ)) (s : List ℤ) → AllZip (PlaceHas box) (v ++ x ∷ y ∷ []) s → Meets lists c s → Told box v x y first s
  told lists box s chosen meets =
      let p = parted (PlaceHas box) v x y s chosen in
      let ys : List ℤ = p.a ∷ p.b ∷ [] in
      let entry = subst (λ l. IsEntry (front v l) (behind v l -ℤ first) (last v l)) p.is (is.meets lists s meets) in
      let is_front = front_of (PlaceHas box) v p.front ys p.chosen in
      let is_behind = at_rest (PlaceHas box) v p.front ys (length v) 0 p.chosen (omega arith) in
      let is_last = at_rest (PlaceHas box) v p.front ys (length v + 1) 1 p.chosen refl in
      let entry_front = subst (λ l. IsEntry l (behind v (p.front ++ ys) -ℤ first) (last v (p.front ++ ys))) is_front entry in
      let entry_behind = subst (λ a. IsEntry p.front (a -ℤ first) (last v (p.front ++ ys))) is_behind entry_front in
      let entry_last = subst (λ b. IsEntry p.front (p.a -ℤ first) b) is_last entry_behind in
      let number = entry_number p.front p.a first p.b entry_last in
      record { parts = p; entry = number.0; index = number.1; got = number.2 }

  -- values of the vector, of which the one at an entry is b, make a choice with the index of that entry and b
  entry_meets : (lists : List Tuples) (box : List (List ℤ)) (xs : List ℤ) (k : ℕ) (i b : ℤ) → AllZip (PlaceHas box) v xs → i ≡ pos k +ℤ first → slice_get xs k ≡ Some b → Meets lists c (xs ++ i ∷ b ∷ [])
  entry_meets lists box xs k i b chosen index got =
      let ys : List ℤ = i ∷ b ∷ [] in
      let is_front = front_of (PlaceHas box) v xs ys chosen in
      let is_behind = at_rest (PlaceHas box) v xs ys (length v) 0 chosen (omega arith) in
      let is_last = at_rest (PlaceHas box) v xs ys (length v + 1) 1 chosen refl in
      let entry_last = subst (λ d. IsEntry xs (i -ℤ first) d) (sym is_last) (number_entry xs k i first b index got) in
      let entry_behind = subst (λ a. IsEntry xs (a -ℤ first) (last v (xs ++ ys))) (sym is_behind) entry_last in
      let entry_front = subst (λ l. IsEntry l (behind v (xs ++ ys) -ℤ first) (last v (xs ++ ys))) (sym is_front) entry_behind in
      is.met lists (xs ++ ys) entry_front

  choice_of : (lists : List Tuples) (i : ℕ) (a : ℤ) (box : List (List ℤ)) → Supported lists c i a box → ChoiceWith lists c i a box
  choice_of lists i a box supported = subst (λ l. SupportedAt l lists c i a box) is.arc supported

  told_of : (lists : List Tuples) (i : ℕ) (a : ℤ) (box : List (List ℤ)) (choice : ChoiceWith lists c i a box) → Told box v x y first choice.values
  told_of lists i a box choice = told lists box choice.values (subst (λ ts. AllZip (PlaceHas box) ts choice.values) is.placed choice.chosen) choice.meets

  -- the entry that a choice picks
  picked : (box : List (List ℤ)) (s : List ℤ) (wanted : Wanted) (t : Told box v x y first s) → IsWanted wanted t.entry t.parts.b → Picks box first v x y wanted
  picked box s wanted t so =
      let at_entry = chosen_at (PlaceHas box) v t.parts.front t.entry t.parts.b t.parts.chosen t.got in
      record {
        index = t.parts.a;
        there = t.parts.has_x;
        at_index = record {
          entry = t.entry;
          is = t.index;
          picks = record { term = at_entry.0; value = t.parts.b; stands = at_entry.1; has_entry = at_entry.2; has_result = t.parts.has_y; so = so };
        };
      }

  some_of : (n : ℤ) (m : ℤ) → Some n ≡ Some m → n ≡ m
  some_of n m e = cc

  -- what is supported of an entry, of the index and of the result
  pub entry_picks : (lists : List Tuples) (i : ℕ) (t : Term) (a : ℤ) (box : List (List ℤ)) → slice_get v i ≡ Some t → Supported lists c i a box → Picks box first v x y (OfEntry i a)
  entry_picks lists i t a box stands supported =
      let choice = choice_of lists i a box supported in
      let t_old = told_of lists i a box choice in
      let p = t_old.parts in
      let given : slice_index_or p.front i (pos 0) ≡ a = sym (at_front (PlaceHas box) v p.front (p.a ∷ p.b ∷ []) i t p.chosen stands) ∙ (sym (ap (λ l. at l i) p.is) ∙ choice.given) in
      let got = got_there (PlaceHas box) v p.front i t p.chosen stands in
      picked box choice.values (OfEntry i a) t_old (λ same. some_of p.b (slice_index_or p.front i (pos 0)) (sym t_old.got ∙ (ap (slice_get p.front) same ∙ got)) ∙ given)

  pub index_picks : (lists : List Tuples) (i : ℕ) (a : ℤ) (box : List (List ℤ)) → i ≡ length v → Supported lists c i a box → PlaceHas box x a × PicksAt box first v y Anything a
  unfolding told_of picked
  index_picks lists i a box place supported =
      let choice = choice_of lists i a box supported in
      let t_old = told_of lists i a box choice in
      let p = t_old.parts in
      let given : p.a ≡ a = sym (at_rest (PlaceHas box) v p.front (p.a ∷ p.b ∷ []) i 0 p.chosen (omega (arith, place))) ∙ (sym (ap (λ l. at l i) p.is) ∙ choice.given) in
      let picks = picked box choice.values Anything t_old tt in
      (subst (PlaceHas box x) given picks.there, subst (PicksAt box first v y Anything) given picks.at_index)

  pub result_picks : (lists : List Tuples) (i : ℕ) (a : ℤ) (box : List (List ℤ)) → i ≡ length v + 1 → Supported lists c i a box → Picks box first v x y (OfResult a)
  result_picks lists i a box place supported =
      let choice = choice_of lists i a box supported in
      let t_old = told_of lists i a box choice in
      let p = t_old.parts in
      let given : p.b ≡ a = sym (at_rest (PlaceHas box) v p.front (p.a ∷ p.b ∷ []) i 1 p.chosen place) ∙ (sym (ap (λ l. at l i) p.is) ∙ choice.given) in
      picked box choice.values (OfResult a) t_old given

  -- where each place has a value, what is picked makes a choice
  module _ (lists : List Tuples) (box : List (List ℤ)) (some : (i : ℕ) (t : Term) → slice_get v i ≡ Some t → (a : ℤ) × PlaceHas box t a) where
    -- with the values of the vector beside it
    supports : (wanted : Wanted) (i : ℕ) (a : ℤ) (xs : List ℤ) (p : Picks box first v x y wanted) → AllZip (PlaceHas box) v xs → slice_get xs p.at_index.entry ≡ Some p.at_index.picks.value → at (xs ++ p.index ∷ p.at_index.picks.value ∷ []) i ≡ a → Supported lists c i a box
    supports wanted i a xs p chosen got given = subst (λ l. SupportedAt l lists c i a box) (sym is.arc) (record {
      values = xs ++ p.index ∷ p.at_index.picks.value ∷ [];
      chosen = subst (λ ts. AllZip (PlaceHas box) ts (xs ++ p.index ∷ p.at_index.picks.value ∷ [])) (sym is.placed) (chosen_both (PlaceHas box) v (x ∷ y ∷ []) xs (p.index ∷ p.at_index.picks.value ∷ []) chosen (p.there, (p.at_index.picks.has_result, tt)));
      given = given;
      meets = entry_meets lists box xs p.at_index.entry p.index p.at_index.picks.value chosen p.at_index.is got;
    })

    -- values of the vector with one that is picked
    abbrev with_picked : (wanted : Wanted) (p : Picks box first v x y wanted) → List ℤ → List ℤ
    with_picked wanted p xs = slice_set xs p.at_index.entry p.at_index.picks.value

    with_chosen : (wanted : Wanted) (p : Picks box first v x y wanted) (xs : List ℤ) → AllZip (PlaceHas box) v xs → AllZip (PlaceHas box) v (with_picked wanted p xs)
    with_chosen wanted p xs chosen = let e = p.at_index.picks in chosen_with (PlaceHas box) v xs p.at_index.entry e.term e.value chosen e.stands e.has_entry

    with_got : (wanted : Wanted) (p : Picks box first v x y wanted) (xs : List ℤ) → AllZip (PlaceHas box) v xs → slice_get (with_picked wanted p xs) p.at_index.entry ≡ Some p.at_index.picks.value
    with_got wanted p xs chosen =
        let e = p.at_index.picks in
        got_there (PlaceHas box) v (with_picked wanted p xs) p.at_index.entry e.term (with_chosen wanted p xs chosen) e.stands
        ∙ ap (λ b. Some b) (at_there (PlaceHas box) v xs p.at_index.entry e.term e.value chosen e.stands)

    pub picks_index : (i : ℕ) (a : ℤ) → i ≡ length v → PlaceHas box x a → PicksAt box first v y Anything a → Supported lists c i a box
    picks_index i a place has picks =
        let p : Picks box first v x y Anything = record { index = a; there = has; at_index = picks } in
        let xs = some_chosen (PlaceHas box) v some in
        supports Anything i a (with_picked Anything p xs.0) p (with_chosen Anything p xs.0 xs.1) (with_got Anything p xs.0 xs.1)
        (at_rest (PlaceHas box) v (with_picked Anything p xs.0) (a ∷ picks.picks.value ∷ []) i 0 (with_chosen Anything p xs.0 xs.1) (omega (arith, place)))

    pub picks_result : (i : ℕ) (a : ℤ) → i ≡ length v + 1 → Picks box first v x y (OfResult a) → Supported lists c i a box
    picks_result i a place p =
        let w = OfResult a in
        let xs = some_chosen (PlaceHas box) v some in
        supports w i a (with_picked w p xs.0) p (with_chosen w p xs.0 xs.1) (with_got w p xs.0 xs.1)
        (at_rest (PlaceHas box) v (with_picked w p xs.0) (p.index ∷ p.at_index.picks.value ∷ []) i 1 (with_chosen w p xs.0 xs.1) place ∙ p.at_index.picks.so)

    pub picks_entry : (i : ℕ) (t : Term) (a : ℤ) → slice_get v i ≡ Some t → PlaceHas box t a → Picks box first v x y (OfEntry i a) → Supported lists c i a box
    picks_entry i t a stands has p =
        let w = OfEntry i a in
        let xs = some_chosen (PlaceHas box) v some in
        let ys = slice_set xs.0 i a in
        let chosen = chosen_with (PlaceHas box) v xs.0 i t a xs.1 stands has in
        let all = with_chosen w p ys chosen in
        supports w i a (with_picked w p ys) p all (with_got w p ys chosen) (at_front (PlaceHas box) v (with_picked w p ys) (p.index ∷ p.at_index.picks.value ∷ []) i t all stands ∙ value_at ys chosen (at_there (PlaceHas box) v xs.0 i t a xs.1 stands))
      where
        value_at : (ys : List ℤ) → AllZip (PlaceHas box) v ys → at ys i ≡ a → at (slice_set ys p.at_index.entry p.at_index.picks.value) i ≡ a
        value_at ys chosen at_i = by (decide_nat i p.at_index.entry)
          where
            by : Decided (i ≡ p.at_index.entry) → at (slice_set ys p.at_index.entry p.at_index.picks.value) i ≡ a
            by (inl same) = ap (at (slice_set ys p.at_index.entry p.at_index.picks.value)) same ∙ (at_there (PlaceHas box) v ys p.at_index.entry p.at_index.picks.term p.at_index.picks.value chosen p.at_index.picks.stands ∙ p.at_index.picks.so (sym same))
            by (inr other) = at_other (PlaceHas box) v ys p.at_index.entry i p.at_index.picks.value other ∙ at_i

  -- places
  pub entry_stands : (i : ℕ) (t : Term) → slice_get v i ≡ Some t → StandsAt c i t
  entry_stands i t stands = subst (λ ts. slice_get ts i ≡ Some t) (sym is.placed) (in_front v (x ∷ y ∷ []) i t stands)

  pub index_stands : StandsAt c (length v) x
  index_stands = subst (λ ts. slice_get ts (length v) ≡ Some x) (sym is.placed) (in_rest v (x ∷ y ∷ []) (length v) 0 x (omega arith) refl)

  pub result_stands : StandsAt c (length v + 1) y
  result_stands = subst (λ ts. slice_get ts (length v + 1) ≡ Some y) (sym is.placed) (in_rest v (x ∷ y ∷ []) (length v + 1) 1 y refl refl)

  module _ (vars : List Variable) (lists : List Tuples) (ready : IsReady vars lists c) where
    pub entry_named : (i : ℕ) (t : Term) → slice_get v i ≡ Some t → IsNamed vars t
    entry_named i t stands = ready_named (beside lists c) i ready (entry_stands i t stands)

    pub index_named : IsNamed vars x
    index_named = ready_named (beside lists c) (length v) ready index_stands

    pub result_named : IsNamed vars y
    result_named = ready_named (beside lists c) (length v + 1) ready result_stands

    -- each entry has a value
    pub some_entry : (box : List (List ℤ)) → IsBox vars box → (i : ℕ) (t : Term) → slice_get v i ≡ Some t → (a : ℤ) × PlaceHas box t a
    some_entry box lawful i t stands = some_value vars box t lawful (entry_named i t stands)

    -- the places may be asked for
    pub entry_lawful : (i : ℕ) (t : Term) → slice_get v i ≡ Some t → IsLawfulTerm (declared_sets vars) t
    entry_lawful i t stands = all_at (IsLawfulTerm (declared_sets vars)) (places c) i t ready.suits.named (entry_stands i t stands)

    pub index_lawful : IsLawfulTerm (declared_sets vars) x
    index_lawful = all_at (IsLawfulTerm (declared_sets vars)) (places c) (length v) x ready.suits.named index_stands

    pub result_lawful : IsLawfulTerm (declared_sets vars) y
    result_lawful = all_at (IsLawfulTerm (declared_sets vars)) (places c) (length v + 1) y ready.suits.named result_stands

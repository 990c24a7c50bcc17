-- What is supported of a constraint of two vectors.
use Rattle.std.proofs.Common.{◌≡◌, ℕ, suc, ◌+◌, ℤ, pos, ◌-ℤ◌, ◌≤ℤ◌, ◌⊎◌, inl, inr, List, [], ◌∷◌, ◌++◌, length, take, drop, slice_get, slice_index_or, Some, refl, sym, subst, ◌∙◌, arith}
use Rattle.std.proofs.lemmas.Int.{ints}
use Rattle.std.proofs.lemmas.Option.{slice_get_within}
use Rattle.std.specs.List.{AllByRecursion}
use Rattle.mn_model.specs.Domain.{Has}
use Rattle.mn_model.specs.Parts.{places}
use Rattle.mn_model.specs.Variable.{number_of}
use Rattle.mn_model.specs.declared.constraint.Con.{Con}
use Rattle.mn_model.specs.declared.constraint.Term.{Term}
use Rattle.mn_model.specs.declared.constraint.Term.TheVariants.{Var, Const, Not}
use Rattle.mn_model.specs.declared.declaration.Tuples.{Tuples}
use Rattle.mn_boxes.specs.Boxes.{IsBox, set_of}
use Rattle.mn_boxes.specs.Places.{PlaceHas}
use Rattle.mn_boxes.specs.Sets.{Variable}
use Rattle.mn_boxes.proofs.Members.{is_first, is_last}
use Rattle.mn_boxes.proofs.Quiet.{ascends_at}
use Rattle.mn_meaning.specs.Meaning.{Meets}
use Rattle.mn_closure.specs.Closed.{Asked, LeafClosed}
use Rattle.mn_closure.specs.Levels.{Arc, level}
use Rattle.mn_closure.specs.Supports.{Choice, ChoiceWith, StandsAt, Supported, SupportedAt}
use Rattle.mn_prop.specs.Contexts.{IsGreatestAt, IsLeastAt, IsNamed, place_hi, place_lo}
use Rattle.mn_prop.specs.Posts.{IsReady, beside}
use Rattle.mn_prop.proofs.Ended.{greatest_of, least_of}
use Rattle.mn_prop.proofs.PlaceLemmas.{back, high_not, high_var, low_not, low_var}
use Rattle.mn_prop.proofs.Ready.{ready_named}
use Rattle.mn_count.proofs.Entries.{at_take}
use Rattle.mn_count.proofs.Joined.{at_drop, at_front, at_rest, chosen_both, chosen_front, chosen_rest, drop_none, front_of, in_front, in_rest, of_either, rest_of, take_none, InRest}

-- the least value of a place and the greatest are there, and all others are between them
pub record HasEnds (box : List (List ℤ)) (t : Term) : Type 0 where
  pub has_lo : PlaceHas box t (place_lo box t)
  pub has_hi : PlaceHas box t (place_hi box t)
  pub low : (a : ℤ) → PlaceHas box t a → place_lo box t ≤ℤ a
  pub high : (a : ℤ) → PlaceHas box t a → a ≤ℤ place_hi box t

abbrev pub AllEnds : List (List ℤ) → List Term → Type 0
AllEnds box ts = AllByRecursion (HasEnds box) ts

-- the constraint says R of the values of two vectors
pub record IsOf (c : Con) (v w : List Term) (R : List ℤ → List ℤ → Type 0) : Type 0 where
  pub arc : level c ≡ Arc
  pub placed : places c ≡ v ++ w
  pub meets : (lists : List Tuples) (s : List ℤ) → Meets lists c s → R (take (length v) s) (drop (length v) s)
  pub met : (lists : List Tuples) (s : List ℤ) → R (take (length v) s) (drop (length v) s) → Meets lists c s

-- values of both vectors that stand in R, of which one is a
pub record VectorsWith (box : List (List ℤ)) (v w : List Term) (R : List ℤ → List ℤ → Type 0) (pick : List ℤ → List ℤ → ℤ) (a : ℤ) : Type 0 where
  pub xs : List ℤ
  pub ys : List ℤ
  pub first : Choice box v xs
  pub second : Choice box w ys
  pub given : pick xs ys ≡ a
  pub related : R xs ys

abbrev pub first_at : ℕ → List ℤ → List ℤ → ℤ
first_at i xs ys = slice_index_or xs i (pos 0)

abbrev pub second_at : ℕ → List ℤ → List ℤ → ℤ
second_at i xs ys = slice_index_or ys i (pos 0)

module _ {c : Con} {v w : List Term} {R : List ℤ → List ℤ → Type 0} (is : IsOf c v w R) where
  choice_of : (lists : List Tuples) (i : ℕ) (a : ℤ) (box : List (List ℤ)) → Supported lists c i a box → ChoiceWith lists c i a box
  choice_of lists i a box supported = subst (λ l. SupportedAt l lists c i a box) is.arc supported

  placed_choice : (lists : List Tuples) (i : ℕ) (a : ℤ) (box : List (List ℤ)) (choice : ChoiceWith lists c i a box) → Choice box (v ++ w) choice.values
  placed_choice lists i a box choice = subst (λ ts. Choice box ts choice.values) is.placed choice.chosen

  -- what a choice has of each vector
  pub supported_first : (lists : List Tuples) (i : ℕ) (x : Term) (a : ℤ) (box : List (List ℤ)) → slice_get v i ≡ Some x → Supported lists c i a box → VectorsWith box v w R (first_at i) a
  supported_first lists i x a box stands supported =
      let choice = choice_of lists i a box supported in
      let chosen = placed_choice lists i a box choice in
      record {
        xs = take (length v) choice.values;
        ys = drop (length v) choice.values;
        first = chosen_front (PlaceHas box) v w choice.values chosen;
        second = chosen_rest (PlaceHas box) v w choice.values chosen;
        given = at_take (length v) choice.values i (slice_get_within v i x stands) ∙ choice.given;
        related = is.meets lists choice.values choice.meets;
      }

  pub supported_second : (lists : List Tuples) (i k : ℕ) (a : ℤ) (box : List (List ℤ)) → i ≡ length v + k → Supported lists c i a box → VectorsWith box v w R (second_at k) a
  supported_second lists i k a box at_k supported =
      let choice = choice_of lists i a box supported in
      let chosen = placed_choice lists i a box choice in
      record {
        xs = take (length v) choice.values;
        ys = drop (length v) choice.values;
        first = chosen_front (PlaceHas box) v w choice.values chosen;
        second = chosen_rest (PlaceHas box) v w choice.values chosen;
        given = at_drop (length v) choice.values i k at_k ∙ choice.given;
        related = is.meets lists choice.values choice.meets;
      }

  -- and values of both make a choice
  both_supported : (lists : List Tuples) (i : ℕ) (a : ℤ) (box : List (List ℤ)) (xs ys : List ℤ) → Choice box v xs → Choice box w ys → R xs ys → slice_index_or (xs ++ ys) i (pos 0) ≡ a → Supported lists c i a box
  both_supported lists i a box xs ys first second related given = subst (λ l. SupportedAt l lists c i a box) (sym is.arc) (record {
    values = xs ++ ys;
    chosen = subst (λ ts. Choice box ts (xs ++ ys)) (sym is.placed) (chosen_both (PlaceHas box) v w xs ys first second);
    given = given;
    meets = is.met lists (xs ++ ys) (subst (λ l. R l (drop (length v) (xs ++ ys))) (sym (front_of (PlaceHas box) v xs ys first)) (subst (R xs) (sym (rest_of (PlaceHas box) v xs ys first)) related));
  })

  pub first_supported : (lists : List Tuples) (i : ℕ) (x : Term) (a : ℤ) (box : List (List ℤ)) → slice_get v i ≡ Some x → VectorsWith box v w R (first_at i) a → Supported lists c i a box
  first_supported lists i x a box stands some = both_supported lists i a box some.xs some.ys some.first some.second some.related (at_front (PlaceHas box) v some.xs some.ys i x some.first stands ∙ some.given)

  pub second_supported : (lists : List Tuples) (i k : ℕ) (a : ℤ) (box : List (List ℤ)) → i ≡ length v + k → VectorsWith box v w R (second_at k) a → Supported lists c i a box
  second_supported lists i k a box at_k some = both_supported lists i a box some.xs some.ys some.first some.second some.related (at_rest (PlaceHas box) v some.xs some.ys i k some.first at_k ∙ some.given)

  -- places
  pub first_stands : (i : ℕ) (x : Term) → slice_get v i ≡ Some x → StandsAt c i x
  first_stands i x stands = subst (λ ts. slice_get ts i ≡ Some x) (sym is.placed) (in_front v w i x stands)

  pub second_stands : (k : ℕ) (y : Term) → slice_get w k ≡ Some y → StandsAt c (length v + k) y
  second_stands k y stands = subst (λ ts. slice_get ts (length v + k) ≡ Some y) (sym is.placed) (in_rest v w (length v + k) k y refl stands)

  pub first_named : (vars : List Variable) (lists : List Tuples) (i : ℕ) (x : Term) → IsReady vars lists c → slice_get v i ≡ Some x → IsNamed vars x
  first_named vars lists i x ready stands = ready_named (beside lists c) i ready (first_stands i x stands)

  pub second_named : (vars : List Variable) (lists : List Tuples) (k : ℕ) (y : Term) → IsReady vars lists c → slice_get w k ≡ Some y → IsNamed vars y
  second_named vars lists k y ready stands = ready_named (beside lists c) (length v + k) ready (second_stands k y stands)

  -- the box is closed where each value that has to be supported is one of such values
  pub closed_vectors : (vars : List Variable) (lists : List Tuples) (box : List (List ℤ)) → (v ++ w ≡ [] → R [] []) → ((i : ℕ) (x : Term) (a : ℤ) → slice_get v i ≡ Some x → Asked Arc vars box x a → VectorsWith box v w R (first_at i) a)
      → ((k : ℕ) (y : Term) (b : ℤ) → slice_get w k ≡ Some y → Asked Arc vars box y b → VectorsWith box v w R (second_at k) b) → LeafClosed vars lists c box
  closed_vectors vars lists box bare first second = record {
    bare = λ none. is.met lists [] (empty (bare (sym is.placed ∙ none)));
    supported = λ i t a stands asked. by i t a (subst (λ l. Asked l vars box t a) is.arc asked) (of_either v w i t (subst (λ ts. slice_get ts i ≡ Some t) is.placed stands));
  }
    where
      empty : R [] [] → R (take (length v) []) (drop (length v) [])
      empty related = subst (λ l. R l (drop (length v) [])) (sym (take_none (length v) [] refl)) (subst (R []) (sym (drop_none (length v) [] refl)) related)

      by : (i : ℕ) (t : Term) (a : ℤ) → Asked Arc vars box t a → (slice_get v i ≡ Some t) ⊎ InRest v w i t → Supported lists c i a box
      by i t a asked (inl front) = first_supported lists i t a box front (first i t a front asked)
      by i t a asked (inr rest) = second_supported lists i rest.place a box rest.is (second rest.place t a rest.stands asked)

  -- what has to be supported in a closed box is
  pub closed_first : (vars : List Variable) (lists : List Tuples) (box : List (List ℤ)) (i : ℕ) (x : Term) (a : ℤ) → LeafClosed vars lists c box → slice_get v i ≡ Some x → Asked Arc vars box x a → Supported lists c i a box
  closed_first vars lists box i x a closed stands asked = closed.supported i x a (first_stands i x stands) (subst (λ l. Asked l vars box x a) (sym is.arc) asked)

  pub closed_second : (vars : List Variable) (lists : List Tuples) (box : List (List ℤ)) (k : ℕ) (y : Term) (b : ℤ) → LeafClosed vars lists c box → slice_get w k ≡ Some y → Asked Arc vars box y b → Supported lists c (length v + k) b box
  closed_second vars lists box k y b closed stands asked = closed.supported (length v + k) y b (second_stands k y stands) (subst (λ l. Asked l vars box y b) (sym is.arc) asked)

-- ---- the ends of places

least_is : (vars : List Variable) (box : List (List ℤ)) (t : Term) → IsBox vars box → IsNamed vars t → IsLeastAt box t (place_lo box t)
least_is vars box (Var v) lawful named =
    let l = least_of Arc vars box (Var v) lawful named in
    let up = ascends_at vars box (number_of v) lawful in
    let tells = low_var box v l.value up (is_first (set_of box (number_of v)) l.value up (record { has = l.least.there; others = l.least.least })) in
    subst (IsLeastAt box (Var v)) tells.is tells.least
least_is vars box (Const k) lawful named = record { there = refl; least = λ b same. omega (arith, ints, same) }
least_is vars box (Not v) lawful named =
    let l = least_of Arc vars box (Not v) lawful named in
    let up = ascends_at vars box (number_of v) lawful in
    let tells = low_not box v (pos 1 -ℤ l.value) up (is_last (set_of box (number_of v)) (pos 1 -ℤ l.value) up
    (record { has = l.least.there; others = λ b has. (let le = l.least.least (pos 1 -ℤ b) (subst (Has (set_of box (number_of v))) (sym (back b)) has) in omega (arith, ints, le)) })) in
    subst (IsLeastAt box (Not v)) tells.is tells.least

greatest_is : (vars : List Variable) (box : List (List ℤ)) (t : Term) → IsBox vars box → IsNamed vars t → IsGreatestAt box t (place_hi box t)
greatest_is vars box (Var v) lawful named =
    let g = greatest_of Arc vars box (Var v) lawful named in
    let up = ascends_at vars box (number_of v) lawful in
    let tells = high_var box v g.value up (is_last (set_of box (number_of v)) g.value up (record { has = g.greatest.there; others = g.greatest.greatest })) in
    subst (IsGreatestAt box (Var v)) tells.is tells.greatest
greatest_is vars box (Const k) lawful named = record { there = refl; greatest = λ b same. omega (arith, ints, same) }
greatest_is vars box (Not v) lawful named =
    let g = greatest_of Arc vars box (Not v) lawful named in
    let up = ascends_at vars box (number_of v) lawful in
    let tells = high_not box v (pos 1 -ℤ g.value) up (is_first (set_of box (number_of v)) (pos 1 -ℤ g.value) up
    (record { has = g.greatest.there; others = λ b has. (let le = g.greatest.greatest (pos 1 -ℤ b) (subst (Has (set_of box (number_of v))) (sym (back b)) has) in omega (arith, ints, le)) })) in
    subst (IsGreatestAt box (Not v)) tells.is tells.greatest

pub has_ends : (vars : List Variable) (box : List (List ℤ)) (t : Term) → IsBox vars box → IsNamed vars t → HasEnds box t
has_ends vars box t lawful named =
    let l = least_is vars box t lawful named in
    let g = greatest_is vars box t lawful named in
    record { has_lo = l.there; has_hi = g.there; low = l.least; high = g.greatest }

-- what is so at each place is so of all
each_all : (P : Term → Type 0) (ts : List Term) → ((i : ℕ) (t : Term) → slice_get ts i ≡ Some t → P t) → AllByRecursion P ts
each_all P [] each = tt
each_all P (t ∷ ts) each = (each 0 t refl, each_all P ts (λ i u stands. each (suc i) u stands))

module _ {c : Con} {v w : List Term} {R : List ℤ → List ℤ → Type 0} (is : IsOf c v w R) (vars : List Variable) (lists : List Tuples) (box : List (List ℤ)) (lawful : IsBox vars box) (ready : IsReady vars lists c) where
  pub first_ends : AllEnds box v
  first_ends = each_all (HasEnds box) v (λ i t stands. has_ends vars box t lawful (first_named is vars lists i t ready stands))

  pub second_ends : AllEnds box w
  second_ends = each_all (HasEnds box) w (λ i t stands. has_ends vars box t lawful (second_named is vars lists i t ready stands))

-- a closed box has values of both vectors that stand in R
pub record SomeVectors (box : List (List ℤ)) (v w : List Term) (R : List ℤ → List ℤ → Type 0) : Type 0 where
  pub xs : List ℤ
  pub ys : List ℤ
  pub first : Choice box v xs
  pub second : Choice box w ys
  pub related : R xs ys

pub closed_some : {c : Con} {R : List ℤ → List ℤ → Type 0} (vars : List Variable) (lists : List Tuples) (box : List (List ℤ)) (v w : List Term) → IsOf c v w R → length w ≡ length v → IsBox vars box → IsReady vars lists c → LeafClosed vars lists c box → SomeVectors box v w R
closed_some vars lists box [] [] is long lawful ready closed = record { xs = []; ys = []; first = tt; second = tt; related = is.meets lists [] (closed.bare is.placed) }
closed_some vars lists box [] (y ∷ w) is long lawful ready closed = absurd (omega (arith, long))
closed_some vars lists box (x ∷ v) w is long lawful ready closed =
    let l = least_of Arc vars box x lawful (first_named is vars lists 0 x ready refl) in
    let some = supported_first is lists 0 x l.value box refl (closed_first is vars lists box 0 x l.value closed refl l.asked) in
    record { xs = some.xs; ys = some.ys; first = some.first; second = some.second; related = some.related }

-- What is supported of a constraint of two places that is narrowed to the values which stand in a choice.
use Rattle.std.proofs.Common.{◌≡◌, ℕ, zero, suc, ℤ, List, [], ◌∷◌, slice_get, Some, refl, sym, subst, ap, ◌∙◌}
use Rattle.mn_model.specs.Parts.{places}
use Rattle.mn_model.specs.declared.constraint.Con.{Con}
use Rattle.mn_model.specs.declared.constraint.Term.{Term}
use Rattle.mn_model.specs.declared.declaration.Tuples.{Tuples}
use Rattle.mn_boxes.specs.Places.{PlaceHas}
use Rattle.mn_boxes.specs.Sets.{Variable}
use Rattle.mn_meaning.specs.Meaning.{Meets, at}
use Rattle.mn_closure.specs.Closed.{Asked, LeafClosed}
use Rattle.mn_closure.specs.Levels.{Arc, level}
use Rattle.mn_closure.specs.Supports.{Choice, ChoiceWith, StandsAt, Supported, SupportedAt}
use Rattle.mn_prop.specs.Contexts.{IsNamed}
use Rattle.mn_prop.specs.Losses.{Unsupported}
use Rattle.mn_prop.specs.Posts.{IsReady, beside}
use Rattle.mn_prop.proofs.Ready.{ready_named}
use Rattle.mn_basic.specs.Binaries.{SomeAt}

-- the constraint says R of the values of x and y
pub record IsBinary (c : Con) (x y : Term) (R : ℤ → ℤ → Type 0) : Type 0 where
  pub arc : level c ≡ Arc
  pub two : places c ≡ x ∷ y ∷ []
  pub meets : (lists : List Tuples) (a b : ℤ) → Meets lists c (a ∷ b ∷ []) → R a b
  pub met : (lists : List Tuples) (a b : ℤ) → R a b → Meets lists c (a ∷ b ∷ [])

-- a value of x and one of y that stand in R, and one of which is a
pub record TwoRelated (x y : Term) (R : ℤ → ℤ → Type 0) (i : ℕ) (a : ℤ) (box : List (List ℤ)) : Type 0 where
  pub first : ℤ
  pub second : ℤ
  pub has_first : PlaceHas box x first
  pub has_second : PlaceHas box y second
  pub given : at (first ∷ second ∷ []) i ≡ a
  pub related : R first second

module _ {c : Con} {x y : Term} {R : ℤ → ℤ → Type 0} (is : IsBinary c x y R) where
  pub supported_two : (lists : List Tuples) (i : ℕ) (a : ℤ) (box : List (List ℤ)) → Supported lists c i a box → TwoRelated x y R i a box
  supported_two lists i a box supported = by choice.values (subst (λ ts. Choice box ts choice.values) is.two choice.chosen) choice.given choice.meets
    where
      choice : ChoiceWith lists c i a box
      choice = subst (λ l. SupportedAt l lists c i a box) is.arc supported

      by : (s : List ℤ) → Choice box (x ∷ y ∷ []) s → at s i ≡ a → Meets lists c s → TwoRelated x y R i a box
      by [] chosen given meets = absurd chosen
      by (b ∷ []) chosen given meets = absurd chosen.1
      by (b ∷ d ∷ []) chosen given meets = record { first = b; second = d; has_first = chosen.0; has_second = chosen.1.0; given = given; related = is.meets lists b d meets }
      by (b ∷ d ∷ e ∷ s) chosen given meets = absurd chosen.1.1

  pub two_supported : (lists : List Tuples) (i : ℕ) (a : ℤ) (box : List (List ℤ)) → TwoRelated x y R i a box → Supported lists c i a box
  two_supported lists i a box pair = subst (λ l. SupportedAt l lists c i a box) (sym is.arc) (record {
    values = pair.first ∷ pair.second ∷ [];
    chosen = subst (λ ts. Choice box ts (pair.first ∷ pair.second ∷ [])) (sym is.two) (pair.has_first, (pair.has_second, tt));
    given = pair.given;
    meets = is.met lists pair.first pair.second pair.related;
  })

  pub first_stands : StandsAt c 0 x
  first_stands = ap (λ ts. slice_get ts 0) is.two

  pub second_stands : StandsAt c 1 y
  second_stands = ap (λ ts. slice_get ts 1) is.two

  -- both places are named
  pub first_named : (vars : List Variable) (lists : List Tuples) → IsReady vars lists c → IsNamed vars x
  first_named vars lists ready = ready_named (beside lists c) 0 ready first_stands

  pub second_named : (vars : List Variable) (lists : List Tuples) → IsReady vars lists c → IsNamed vars y
  second_named vars lists ready = ready_named (beside lists c) 1 ready second_stands

  -- a value of x with a partner at y is supported, and one of y with a partner at x
  first_supported : (lists : List Tuples) (a : ℤ) (box : List (List ℤ)) → PlaceHas box x a → SomeAt box y (λ b. R a b) → Supported lists c 0 a box
  first_supported lists a box has some = two_supported lists 0 a box (record { first = a; second = some.value; has_first = has; has_second = some.there; given = refl; related = some.has })

  second_supported : (lists : List Tuples) (b : ℤ) (box : List (List ℤ)) → PlaceHas box y b → SomeAt box x (λ a. R a b) → Supported lists c 1 b box
  second_supported lists b box has some = two_supported lists 1 b box (record { first = some.value; second = b; has_first = some.there; has_second = has; given = refl; related = some.has })

  -- and only such ones are
  pub first_partner : (lists : List Tuples) (a : ℤ) (box : List (List ℤ)) → Supported lists c 0 a box → SomeAt box y (λ b. R a b)
  first_partner lists a box supported =
      let pair = supported_two lists 0 a box supported in
      record { value = pair.second; there = pair.has_second; has = subst (λ b. R b pair.second) pair.given pair.related }

  pub second_partner : (lists : List Tuples) (b : ℤ) (box : List (List ℤ)) → Supported lists c 1 b box → SomeAt box x (λ a. R a b)
  second_partner lists b box supported =
      let pair = supported_two lists 1 b box supported in
      record { value = pair.first; there = pair.has_first; has = subst (λ d. R pair.first d) pair.given pair.related }

  pub no_second : (lists : List Tuples) (box : List (List ℤ)) (u : Term) (a : ℤ) → u ≡ x → ((b : ℤ) → PlaceHas box y b → R a b → ⊥) → Unsupported (beside lists c) box u a
  no_second lists box u a same none = (0, subst (StandsAt c 0) (sym same) first_stands, λ supported. (let some = first_partner lists a box supported in none some.value some.there some.has))

  pub no_first : (lists : List Tuples) (box : List (List ℤ)) (u : Term) (b : ℤ) → u ≡ y → ((a : ℤ) → PlaceHas box x a → R a b → ⊥) → Unsupported (beside lists c) box u b
  no_first lists box u b same none = (1, subst (StandsAt c 1) (sym same) second_stands, λ supported. (let some = second_partner lists b box supported in none some.value some.there some.has))

  -- a box is closed exactly where each value that has to be supported has a partner
  pub closed_first : (vars : List Variable) (lists : List Tuples) (box : List (List ℤ)) (a : ℤ) → LeafClosed vars lists c box → Asked Arc vars box x a → SomeAt box y (λ b. R a b)
  closed_first vars lists box a closed asked = first_partner lists a box (closed.supported 0 x a first_stands (subst (λ l. Asked l vars box x a) (sym is.arc) asked))

  pub closed_second : (vars : List Variable) (lists : List Tuples) (box : List (List ℤ)) (b : ℤ) → LeafClosed vars lists c box → Asked Arc vars box y b → SomeAt box x (λ a. R a b)
  closed_second vars lists box b closed asked = second_partner lists b box (closed.supported 1 y b second_stands (subst (λ l. Asked l vars box y b) (sym is.arc) asked))

  pub closed_two : (vars : List Variable) (lists : List Tuples) (box : List (List ℤ)) → ((a : ℤ) → Asked Arc vars box x a → SomeAt box y (λ b. R a b)) → ((b : ℤ) → Asked Arc vars box y b → SomeAt box x (λ a. R a b)) → LeafClosed vars lists c box
  closed_two vars lists box first second = record { bare = λ none. absurd (filled (sym is.two ∙ none)); supported = stands_at }
    where
      filled : x ∷ y ∷ [] ≡ [] → ⊥
      filled e = cc

      by : (i : ℕ) (t : Term) (a : ℤ) → slice_get (x ∷ y ∷ []) i ≡ Some t → Asked Arc vars box t a → Supported lists c i a box
      by zero t a stands asked =
          let same : x ≡ t = cc in
          let own = subst (λ u. Asked Arc vars box u a) (sym same) asked in
          first_supported lists a box own.there (first a own)
      by (suc zero) t a stands asked =
          let same : y ≡ t = cc in
          let own = subst (λ u. Asked Arc vars box u a) (sym same) asked in
          second_supported lists a box own.there (second a own)
      by (suc (suc i)) t a stands asked = cc

      stands_at : (i : ℕ) (t : Term) (a : ℤ) → StandsAt c i t → Asked (level c) vars box t a → Supported lists c i a box
      stands_at i t a stands asked = by i t a (subst (λ ts. slice_get ts i ≡ Some t) is.two stands) (subst (λ l. Asked l vars box t a) is.arc asked)

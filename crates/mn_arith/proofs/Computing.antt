-- What is supported of places one of which is computed from two others.
use Rattle.std.proofs.Common.{◌≡◌, ◌↔◌, ℕ, zero, suc, ◌<◌, ℤ, pos, ◌-ℤ◌, ◌≤ℤ◌, Bool, IsTrue, List, [], ◌∷◌, length, slice_get, Some, refl, sym, subst, ap, ◌∙◌, arith}
use Rattle.std.proofs.Math.IntN.{*ℤ_comm}
use Rattle.std.proofs.lemmas.Int.{ints}
use Rattle.mn_model.specs.Lawful.{IsNear, IsNearTerm}
use Rattle.mn_model.specs.Parts.{places}
use Rattle.mn_model.specs.Variable.{number_of}
use Rattle.mn_model.specs.declared.constraint.Con.{Con}
use Rattle.mn_model.specs.declared.constraint.Term.{Term}
use Rattle.mn_model.specs.declared.constraint.Term.TheVariants.{Var, Const, Not}
use Rattle.mn_model.specs.declared.declaration.Tuples.{Tuples}
use Rattle.mn_model.proofs.Lists.{all_at, some_there}
use Rattle.mn_boxes.specs.Boxes.{IsBox}
use Rattle.mn_boxes.specs.Places.{PlaceHas}
use Rattle.mn_boxes.specs.Sets.{Variable}
use Rattle.mn_closure.specs.Levels.{Hull, level}
use Rattle.mn_closure.specs.Supports.{HullSupported, IsBetweenEnds, SomeBetweenEnds, StandsAt, Supported}
use Rattle.mn_prop.specs.Contexts.{AreValued}
use Rattle.mn_prop.specs.Posts.{HasAt, IsReady}
use Rattle.mn_prop.proofs.Valued.{valued_at}
use Rattle.mn_arith.specs.Hulls.{computed_con, value_by}
use Rattle.mn_arith.specs.Spans.{GivesAbove, GivesBelow, HasPartner, IsIn, IsNearSpan, IsSpanOf, SomeIn}
use Rattle.mn_arith.specs.declared.hull.Operation.{Operation}
use Rattle.mn_arith.specs.declared.hull.Operation.TheVariants.{Difference, Product}
use Rattle.mn_arith.specs.declared.span.Span.{Span}
use Rattle.mn_arith.proofs.Distances.{turned_difference}

-- ---- spans of places

module _ (box : List (List ℤ)) (t : Term) (s : Span) (is : IsSpanOf box t s) where
  between_in : (b : ℤ) → IsBetweenEnds box t b → IsIn s b
  between_in b ends =
      let from = ends.from in
      let to = ends.to in
      let low = is.low.least ends.low ends.has_low in
      let high = is.high.greatest ends.high ends.has_high in
      (omega (arith, ints, from, low), omega (arith, ints, to, high))

  in_between : (b : ℤ) → IsIn s b → IsBetweenEnds box t b
  in_between b within = record { low = s.lo; high = s.hi; has_low = is.low.there; has_high = is.high.there; from = within.0; to = within.1 }

pub ends_in : (box : List (List ℤ)) (t u : Term) (s r : Span) (R : ℤ → ℤ → Type 0) → IsSpanOf box t s → IsSpanOf box u r → SomeBetweenEnds box t u R → SomeIn s r R
ends_in box t u s r R one another some = record { first = some.first; second = some.second; in_first = between_in box t s one some.first some.within_first; in_second = between_in box u r another some.second some.within_second; related = some.related }

pub in_ends : (box : List (List ℤ)) (t u : Term) (s r : Span) (R : ℤ → ℤ → Type 0) → IsSpanOf box t s → IsSpanOf box u r → SomeIn s r R → SomeBetweenEnds box t u R
in_ends box t u s r R one another some = record { first = some.first; second = some.second; within_first = in_between box t s one some.first some.in_first; within_second = in_between box u r another some.second some.in_second; related = some.related }

-- the values of a place are near
pub near_at : (vars : List Variable) (lists : List Tuples) (c : Con) (box : List (List ℤ)) (i : ℕ) (t : Term) (a : ℤ) → IsBox vars box → AreValued vars → IsReady vars lists c → StandsAt c i t → PlaceHas box t a → IsNear a
near_at vars lists c box i t a is valued ready stands has = by t (all_at IsNearTerm (places c) i t ready.meant.near.places stands) has
  where
    by : (u : Term) → IsNearTerm u → PlaceHas box u a → IsNear a
    by (Var v) near has = let value = valued_at vars box (number_of v) a is valued has in (omega (arith, ints, value.0), omega (arith, ints, value.1))
    by (Const k) near has = subst IsNear has near
    by (Not v) near has = let value = valued_at vars box (number_of v) (pos 1 -ℤ a) is valued has in (omega (arith, ints, value.0, value.1), omega (arith, ints, value.0, value.1))

pub near_span : (vars : List Variable) (lists : List Tuples) (c : Con) (box : List (List ℤ)) (i : ℕ) (t : Term) (s : Span) → IsBox vars box → AreValued vars → IsReady vars lists c → StandsAt c i t → IsSpanOf box t s → IsNearSpan s
near_span vars lists c box i t s is valued ready stands span = record {
  low = near_at vars lists c box i t s.lo is valued ready stands span.low.there;
  high = near_at vars lists c box i t s.hi is valued ready stands span.high.there;
  filled = span.low.least s.hi span.high.there;
}

-- ---- support

module _ (f : Operation) (x y z : Term) where
  pub its_places : places (computed_con f x y z) ≡ x ∷ y ∷ z ∷ []
  its_places = by f
    where
      by : (g : Operation) → places (computed_con g x y z) ≡ x ∷ y ∷ z ∷ []
      by Difference = refl
      by Product = refl

  pub is_hull : level (computed_con f x y z) ≡ Hull
  is_hull = by f
    where
      by : (g : Operation) → level (computed_con g x y z) ≡ Hull
      by Difference = refl
      by Product = refl

  pub first_stands : StandsAt (computed_con f x y z) 0 x
  first_stands = ap (λ ts. slice_get ts 0) its_places

  pub second_stands : StandsAt (computed_con f x y z) 1 y
  second_stands = ap (λ ts. slice_get ts 1) its_places

  pub third_stands : StandsAt (computed_con f x y z) 2 z
  third_stands = ap (λ ts. slice_get ts 2) its_places

  module _ (lists : List Tuples) (i : ℕ) (a : ℤ) (box : List (List ℤ)) where
    hull_so : HullSupported (value_by f) x y z i a box → Supported lists (computed_con f x y z) i a box
    hull_so = by f
      where
        by : (g : Operation) → HullSupported (value_by g) x y z i a box → Supported lists (computed_con g x y z) i a box
        by Difference is = is
        by Product is = is

    so_hull : Supported lists (computed_con f x y z) i a box → HullSupported (value_by f) x y z i a box
    so_hull = by f
      where
        by : (g : Operation) → Supported lists (computed_con g x y z) i a box → HullSupported (value_by g) x y z i a box
        by Difference is = is
        by Product is = is

-- the value of a place that is asked about is near
pub given_near : (f : Operation) (x y z : Term) (vars : List Variable) (lists : List Tuples) (box : List (List ℤ)) (i : ℕ) (a : ℤ) → IsBox vars box → AreValued vars → IsReady vars lists (computed_con f x y z) → i < length (places (computed_con f x y z)) → HasAt (computed_con f x y z) i a box → IsNear a
given_near f x y z vars lists box i a is valued ready within there =
    let some = some_there (places (computed_con f x y z)) i within in
    near_at vars lists (computed_con f x y z) box i some.0 a is valued ready some.1 (there some.0 some.1)

-- which of the two comes first makes no difference
turned : (f : Operation) (a b : ℤ) → value_by f a b ≡ value_by f b a
turned Difference a b = turned_difference a b
turned Product a b = *ℤ_comm a b

turn_related : (f : Operation) (a : ℤ) (s z : Span) → SomeIn s z (λ b c. value_by f b a ≡ c) → HasPartner (value_by f) a s z
turn_related f a s z some = record { first = some.first; second = some.second; in_first = some.in_first; in_second = some.in_second; related = turned f a some.first ∙ some.related }

turn_back : (f : Operation) (a : ℤ) (s z : Span) → HasPartner (value_by f) a s z → SomeIn s z (λ b c. value_by f b a ≡ c)
turn_back f a s z some = record { first = some.first; second = some.second; in_first = some.in_first; in_second = some.in_second; related = turned f some.first a ∙ some.related }

module _ (f : Operation) (x y z : Term) (lists : List Tuples) (a : ℤ) (box : List (List ℤ)) (m : Bool) where
  pub first_told : (i : ℕ) (s u : Span) → i ≡ 0 → IsSpanOf box y s → IsSpanOf box z u → IsTrue m ↔ HasPartner (value_by f) a s u → IsTrue m ↔ Supported lists (computed_con f x y z) i a box
  first_told zero s u same own other tells = (
    λ e. hull_so f x y z lists 0 a box (in_ends box y z s u (λ b c. value_by f a b ≡ c) own other (tells.0 e)),
    λ supported. tells.1 (ends_in box y z s u (λ b c. value_by f a b ≡ c) own other (so_hull f x y z lists 0 a box supported)),
  )
  first_told (suc i) s u same own other tells = cc

  pub second_told : (i : ℕ) (s u : Span) → i ≡ 1 → IsSpanOf box x s → IsSpanOf box z u → IsTrue m ↔ HasPartner (value_by f) a s u → IsTrue m ↔ Supported lists (computed_con f x y z) i a box
  second_told zero s u same own other tells = cc
  second_told (suc zero) s u same own other tells = (
    λ e. hull_so f x y z lists 1 a box (in_ends box x z s u (λ b c. value_by f b a ≡ c) own other (turn_back f a s u (tells.0 e))),
    λ supported. tells.1 (turn_related f a s u (ends_in box x z s u (λ b c. value_by f b a ≡ c) own other (so_hull f x y z lists 1 a box supported))),
  )
  second_told (suc (suc i)) s u same own other tells = cc

  pub third_told : (i : ℕ) (s u : Span) → (i ≡ 0 → ⊥) → (i ≡ 1 → ⊥) → IsSpanOf box x s → IsSpanOf box y u → IsTrue m ↔ (GivesBelow (value_by f) a s u × GivesAbove (value_by f) a s u) → IsTrue m ↔ Supported lists (computed_con f x y z) i a box
  third_told zero s u first second own other tells = absurd (first refl)
  third_told (suc zero) s u first second own other tells = absurd (second refl)
  third_told (suc (suc i)) s u first second own other tells = (
    λ e. (let both = tells.0 e in hull_so f x y z lists (suc (suc i)) a box (record { below = in_ends box x y s u (λ b c. value_by f b c ≤ℤ a) own other both.0; above = in_ends box x y s u (λ b c. a ≤ℤ value_by f b c) own other both.1 })),
    λ supported. (let reached = so_hull f x y z lists (suc (suc i)) a box supported in tells.1 (ends_in box x y s u (λ b c. value_by f b c ≤ℤ a) own other reached.below, ends_in box x y s u (λ b c. a ≤ℤ value_by f b c) own other reached.above)),
  )

-- what is so of all values that have a partner is so of those that are supported
value_in : (f : Operation) (x y z : Term) (box : List (List ℤ)) (i : ℕ) (t u : Term) (r : Span) (a : ℤ) → StandsAt (computed_con f x y z) i u → IsSpanOf box u r → StandsAt (computed_con f x y z) i t → PlaceHas box t a → IsIn r a
value_in f x y z box i t u r a own span stands has =
    let both : Some t ≡ Some u = sym stands ∙ own in
    let same : t ≡ u = cc in
    let there = subst (λ v. PlaceHas box v a) same has in
    (span.low.least a there, span.high.greatest a there)

module _ (f : Operation) (x y z : Term) (lists : List Tuples) (box : List (List ℤ)) (P : ℤ → Type 0) where
  pub first_so : (i : ℕ) (r s u : Span) → i ≡ 0 → IsSpanOf box x r → IsSpanOf box y s → IsSpanOf box z u → ((a : ℤ) → IsIn r a → HasPartner (value_by f) a s u → P a) → (t : Term) (a : ℤ) → StandsAt (computed_con f x y z) i t → PlaceHas box t a → Supported lists (computed_con f x y z) i a box → P a
  first_so zero r s u same given own other so t a stands has supported = so a (value_in f x y z box 0 t x r a (first_stands f x y z) given stands has) (ends_in box y z s u (λ b c. value_by f a b ≡ c) own other (so_hull f x y z lists 0 a box supported))
  first_so (suc i) r s u same given own other so t a stands has supported = cc

  pub second_so : (i : ℕ) (r s u : Span) → i ≡ 1 → IsSpanOf box y r → IsSpanOf box x s → IsSpanOf box z u → ((a : ℤ) → IsIn r a → HasPartner (value_by f) a s u → P a) → (t : Term) (a : ℤ) → StandsAt (computed_con f x y z) i t → PlaceHas box t a → Supported lists (computed_con f x y z) i a box → P a
  second_so zero r s u same given own other so t a stands has supported = cc
  second_so (suc zero) r s u same given own other so t a stands has supported = so a (value_in f x y z box 1 t y r a (second_stands f x y z) given stands has) (turn_related f a s u (ends_in box x z s u (λ b c. value_by f b a ≡ c) own other (so_hull f x y z lists 1 a box supported)))
  second_so (suc (suc i)) r s u same given own other so t a stands has supported = cc

  pub third_so : (i : ℕ) (s u : Span) → (i ≡ 0 → ⊥) → (i ≡ 1 → ⊥) → IsSpanOf box x s → IsSpanOf box y u → ((a : ℤ) → GivesBelow (value_by f) a s u → GivesAbove (value_by f) a s u → P a) → (a : ℤ) → Supported lists (computed_con f x y z) i a box → P a
  third_so zero s u first second own other so a supported = absurd (first refl)
  third_so (suc zero) s u first second own other so a supported = absurd (second refl)
  third_so (suc (suc i)) s u first second own other so a supported =
      let reached = so_hull f x y z lists (suc (suc i)) a box supported in
      so a (ends_in box x y s u (λ b c. value_by f b c ≤ℤ a) own other reached.below) (ends_in box x y s u (λ b c. a ≤ℤ value_by f b c) own other reached.above)

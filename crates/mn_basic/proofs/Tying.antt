-- Cuts at both ends of an interval, and places that are tied.
use Rattle.std.proofs.Common.{◌≡◌, ◌↔◌, Bool, ℕ, zero, suc, ◌<◌, ℤ, ◌≤ℤ◌, int_le, IsTrue, List, length, Result, Ok, Err, IsErr, OnOk, refl, sym, subst, ap, arith}
use Rattle.std.proofs.lemmas.Int.{ints}
use Rattle.mn_model.specs.Lawful.{IsNear}
use Rattle.mn_model.specs.Parts.{places}
use Rattle.mn_model.specs.declared.constraint.Con.{Con}
use Rattle.mn_model.specs.declared.constraint.Term.{Term}
use Rattle.mn_model.specs.declared.declaration.Tuples.{Tuples}
use Rattle.mn_model.proofs.Ordered.{le_so}
use Rattle.mn_boxes.specs.Boxes.{Inside, IsBox}
use Rattle.mn_boxes.specs.Places.{PlaceHas}
use Rattle.mn_closure.specs.Closed.{LeafClosed}
use Rattle.mn_closure.specs.Levels.{Arc}
use Rattle.mn_closure.specs.Supports.{StandsAt, Supported}
use Rattle.mn_closure.proofs.Wider.{wider_place}
use Rattle.mn_prop.specs.Contexts.{AreValued, ChangedAt, Context, IsChange, IsGreatestAt, IsLeastAt, IsNamed, box_of, vars_of}
use Rattle.mn_prop.specs.Losses.{Unsupported}
use Rattle.mn_prop.specs.Passes.{AtLeastAt, AtMostAt, IsStep, Narrows}
use Rattle.mn_prop.specs.Posts.{HasAt, IsReady, beside}
use Rattle.mn_prop.specs.declared.context.Fail.{Fail}
use Rattle.mn_prop.proofs.Ended.{greatest_of, least_of}
use Rattle.mn_prop.proofs.Narrowing.{high_step, low_step, narrows_as}
use Rattle.mn_prop.proofs.Stepping.{as_step, by_rule, change_passes, changed_vars, goes_inside, stop_step, then_step}
use Rattle.mn_basic.specs.Binaries.{SomeAt}
use Rattle.mn_basic.specs.Intervals.{AllIn, IsIn, IsSmall, OutOf}
use Rattle.mn_basic.specs.Ties.{IsTied, tie_of}
use Rattle.mn_basic.specs.declared.interval.Interval.{Interval}
use Rattle.mn_basic.specs.declared.tie.Tie.{Tie}
use Rattle.mn_basic.specs.declared.tie.Tie.TheVariants.{Equal, Opposite, Absolute}
use Rattle.mn_basic.proofs.Binary.{IsBinary, closed_first, closed_second, first_named, first_partner, first_stands, no_first, no_second, second_named, second_partner, second_stands, two_supported}
use Rattle.mn_prop.proofs.Kept.{near_at}
use Rattle.mn_basic.proofs.Reached.{between}

-- ---- cuts

module _ (s : Interval) (t : Term) where
  low_out : {old mid : Context} {result : Result (Unit {0}) Fail} → IsNamed (vars_of old) t → ChangedAt (λ a. int_le s.lo a) t old mid result → IsStep (OutOf s t) (AtLeastAt t s.lo) old mid result
  low_out named changed = by_rule (λ box i u a has less. (less.0, λ inside. (let out = less.1 in let le = inside.0 in omega (arith, ints, out, le)))) (low_step s.lo t named changed)

  high_out : {mid new : Context} {result : Result (Unit {0}) Fail} → IsNamed (vars_of mid) t → ChangedAt (λ a. int_le a s.hi) t mid new result → IsStep (OutOf s t) (AtMostAt t s.hi) mid new result
  high_out named changed = by_rule (λ box i u a has more. (more.0, λ inside. (let out = more.1 in let le = inside.1 in omega (arith, ints, out, le)))) (high_step s.hi t named changed)

  pub keep_stop : (old mid : Context) (result end : Result (Unit {0}) Fail) (fail : Fail) → IsNamed (vars_of old) t → ChangedAt (λ a. int_le s.lo a) t old mid result → result ≡ Err fail → IsErr end → IsStep (OutOf s t) (AllIn s t) old mid end
  keep_stop old mid result end fail named changed is err = stop_step fail is (λ box lawful i all a has. (all a has).0) (low_out named changed) err

  pub keep_step : (old mid new : Context) (done : Unit {0}) (result : Result (Unit {0}) Fail) → IsNamed (vars_of old) t → IsChange (λ a. int_le s.lo a) t old mid → ChangedAt (λ a. int_le a s.hi) t mid new result → IsStep (OutOf s t) (AllIn s t) old new result
  keep_step old mid new done result named first second =
      let one : IsStep (OutOf s t) (AtLeastAt t s.lo) old mid (Ok done) = low_out named first in
      let two : IsStep (OutOf s t) (AtMostAt t s.hi) mid new result = high_out (subst (λ vars. IsNamed vars t) (sym (changed_vars first)) named) second in
      as_step (λ box is i all. (λ a has. (all a has).0, λ a has. (all a has).1)) (λ both a has. (both.0 a has, both.1 a has)) (then_step one two)

  pub keep_settles : (old mid new : Context) (result : Result (Unit {0}) Fail) → IsNamed (vars_of old) t → IsChange (λ a. int_le s.lo a) t old mid → ChangedAt (λ a. int_le a s.hi) t mid new result → OnOk result (AllIn s t (box_of new))
  keep_settles old mid new (Ok done) named first second = λ a has.
      let two : IsStep (OutOf s t) (AtMostAt t s.hi) mid new (Ok done) = high_out (subst (λ vars. IsNamed vars t) (sym (changed_vars first)) named) second in
      (le_so s.lo a (change_passes (λ d. int_le s.lo d) t old mid first a (wider_place (box_of new) (box_of mid) (goes_inside two.loses) t a has)), le_so a s.hi (change_passes (λ d. int_le d s.hi) t mid new second a has))
  keep_settles old mid new (Err fail) named first second = tt

-- ---- support

-- where each place stands
module _ {c : Con} {x y : Term} {R : ℤ → ℤ → Type 0} (is : IsBinary c x y R) where
  pub first_at : (i : ℕ) → i ≡ 0 → StandsAt c i x
  first_at i same = subst (λ n. StandsAt c n x) (sym same) (first_stands is)

  pub second_at : (i : ℕ) → i < length (places c) → (i ≡ 0 → ⊥) → StandsAt c i y
  second_at zero within other = absurd (other refl)
  second_at (suc zero) within other = second_stands is
  second_at (suc (suc i)) within other = let same = ap length is.two in absurd (omega (arith, same, within))

-- a value of the first place is supported exactly where one of the second stands in the relation to it
module _ {c : Con} {x y : Term} {R : ℤ → ℤ → Type 0} (is : IsBinary c x y R) (lists : List Tuples) (a : ℤ) (box : List (List ℤ)) (m : Bool) where
  pub first_told : (i : ℕ) → i ≡ 0 → HasAt c i a box → IsTrue m ↔ SomeAt box y (λ b. R a b) → IsTrue m ↔ Supported lists c i a box
  first_told zero same there tells = (
    λ e. (let some = tells.0 e in two_supported is lists 0 a box (record { first = a; second = some.value; has_first = there x (first_stands is); has_second = some.there; given = refl; related = some.has })),
    λ supported. tells.1 (first_partner is lists a box supported),
  )
  first_told (suc i) same there tells = cc

  -- and of the second place
  pub second_told : (i : ℕ) → i < length (places c) → (i ≡ 0 → ⊥) → HasAt c i a box → IsTrue m ↔ SomeAt box x (λ b. R b a) → IsTrue m ↔ Supported lists c i a box
  second_told zero within other there tells = absurd (other refl)
  second_told (suc zero) within other there tells = (
    λ e. (let some = tells.0 e in two_supported is lists 1 a box (record { first = some.value; second = a; has_first = some.there; has_second = there y (second_stands is); given = refl; related = some.has })),
    λ supported. tells.1 (second_partner is lists a box supported),
  )
  second_told (suc (suc i)) within other there tells = let same = ap length is.two in absurd (omega (arith, same, within))

-- ---- ties

pub is_tie : (e : Tie) (x y : Term) → IsBinary (tie_of e x y) x y (λ a b. IsTied e a b)
is_tie Equal x y = record { arc = refl; two = refl; meets = λ lists a b m. m; met = λ lists a b m. m }
is_tie Opposite x y = record { arc = refl; two = refl; meets = λ lists a b m. m; met = λ lists a b m. m }
is_tie Absolute x y = record { arc = refl; two = refl; meets = λ lists a b m. m; met = λ lists a b m. m }

module _ (e : Tie) (x y : Term) (lists : List Tuples) (s : Interval) (lo hi : ℤ) where
  -- what the ends of the second place leave of the first
  pub first_narrows : (old new : Context) (result : Result (Unit {0}) Fail) → IsReady (vars_of old) lists (tie_of e x y) → IsLeastAt (box_of old) y lo → IsGreatestAt (box_of old) y hi → ((a b : ℤ) → IsTied e a b → (lo ≤ℤ b) × (b ≤ℤ hi) → IsIn s a) → IsStep (OutOf s x) (AllIn s x) old new result
      → Narrows (Unsupported (beside lists (tie_of e x y))) (LeafClosed (vars_of old) lists (tie_of e x y)) old new result
  first_narrows old new result ready low high spans step = narrows_as all (by_rule (λ box i u a has out. no_second (is_tie e x y) lists box u a out.0 (λ b at tied. out.1 (spans a b tied (here box i b at)))) step)
    where
      here : (box : List (List ℤ)) → Inside box (box_of old) → (b : ℤ) → PlaceHas box y b → (lo ≤ℤ b) × (b ≤ℤ hi)
      here box i b has = let had = wider_place box (box_of old) i y b has in (low.least b had, high.greatest b had)

      all : (box : List (List ℤ)) → IsBox (vars_of old) box → Inside box (box_of old) → LeafClosed (vars_of old) lists (tie_of e x y) box → AllIn s x box
      all box is i closed a has =
          let named = first_named (is_tie e x y) (vars_of old) lists ready in
          let least = least_of Arc (vars_of old) box x is named in
          let great = greatest_of Arc (vars_of old) box x is named in
          let one = closed_first (is_tie e x y) (vars_of old) lists box least.value closed least.asked in
          let another = closed_first (is_tie e x y) (vars_of old) lists box great.value closed great.asked in
          between s least.value great.value a (spans least.value one.value one.has (here box i one.value one.there)) (spans great.value another.value another.has (here box i another.value another.there)) (least.least.least a has) (great.greatest.greatest a has)

  -- and what those of the first leave of the second
  pub second_narrows : (low high : ℤ) (old new : Context) (result : Result (Unit {0}) Fail) → IsReady (vars_of old) lists (tie_of e x y) → IsLeastAt (box_of old) x lo → IsGreatestAt (box_of old) x hi → IsLeastAt (box_of old) y low → IsGreatestAt (box_of old) y high
      → ((a b : ℤ) → IsTied e a b → (lo ≤ℤ a) × (a ≤ℤ hi) → (low ≤ℤ b) × (b ≤ℤ high) → IsIn s b) → IsStep (OutOf s y) (AllIn s y) old new result → Narrows (Unsupported (beside lists (tie_of e x y))) (LeafClosed (vars_of old) lists (tie_of e x y)) old new result
  second_narrows low high old new result ready is_lo is_hi is_low is_high spans step = narrows_as all (by_rule (λ box i u b has out. no_first (is_tie e x y) lists box u b out.0 (λ a at tied. out.1 (spans a b tied (here box i a at) (itself box i b (subst (λ t. PlaceHas box t b) out.0 has))))) step)
    where
      here : (box : List (List ℤ)) → Inside box (box_of old) → (a : ℤ) → PlaceHas box x a → (lo ≤ℤ a) × (a ≤ℤ hi)
      here box i a has = let had = wider_place box (box_of old) i x a has in (is_lo.least a had, is_hi.greatest a had)

      itself : (box : List (List ℤ)) → Inside box (box_of old) → (b : ℤ) → PlaceHas box y b → (low ≤ℤ b) × (b ≤ℤ high)
      itself box i b has = let had = wider_place box (box_of old) i y b has in (is_low.least b had, is_high.greatest b had)

      all : (box : List (List ℤ)) → IsBox (vars_of old) box → Inside box (box_of old) → LeafClosed (vars_of old) lists (tie_of e x y) box → AllIn s y box
      all box is i closed b has =
          let named = second_named (is_tie e x y) (vars_of old) lists ready in
          let least = least_of Arc (vars_of old) box y is named in
          let great = greatest_of Arc (vars_of old) box y is named in
          let one = closed_second (is_tie e x y) (vars_of old) lists box least.value closed least.asked in
          let another = closed_second (is_tie e x y) (vars_of old) lists box great.value closed great.asked in
          between s least.value great.value b (spans one.value least.value one.has (here box i one.value one.there) (itself box i least.value least.least.there)) (spans another.value great.value another.has (here box i another.value another.there) (itself box i great.value great.greatest.there)) (least.least.least b has)
          (great.greatest.greatest b has)

-- ---- ends

-- the ends of a place have a number on the other side of 0
pub ends_small : (s : Interval) (lo hi : ℤ) → IsNear lo → IsNear hi → s.lo ≡ lo → s.hi ≡ hi → IsSmall s
ends_small s lo hi low high is_lo is_hi = let from = low.0 in let to = high.0 in (omega (arith, ints, from, is_lo), omega (arith, ints, to, is_hi))

-- what is between the ends is in their interval
pub ends_in : (s : Interval) (lo hi : ℤ) → s.lo ≡ lo → s.hi ≡ hi → (b : ℤ) → (lo ≤ℤ b) × (b ≤ℤ hi) → IsIn s b
ends_in s lo hi is_lo is_hi b both = let from = both.0 in let to = both.1 in (omega (arith, ints, from, is_lo), omega (arith, ints, to, is_hi))

module _ (e : Tie) (x y : Term) (lists : List Tuples) (c : Context) (b : ℤ) where
  -- the values of both places are near
  pub first_near : IsBox (vars_of c) (box_of c) → AreValued (vars_of c) → IsReady (vars_of c) lists (tie_of e x y) → PlaceHas (box_of c) x b → IsNear b
  first_near is valued ready has = near_at (vars_of c) lists (tie_of e x y) (box_of c) 0 x b is valued ready (first_stands (is_tie e x y)) has

  pub second_near : IsBox (vars_of c) (box_of c) → AreValued (vars_of c) → IsReady (vars_of c) lists (tie_of e x y) → PlaceHas (box_of c) y b → IsNear b
  second_near is valued ready has = near_at (vars_of c) lists (tie_of e x y) (box_of c) 1 y b is valued ready (second_stands (is_tie e x y)) has

-- A value that is taken out of a place, and places that differ.
use Rattle.std.proofs.Common.{◌≡◌, ◌≢◌, ℕ, ℤ, pos, ◌-ℤ◌, ◌⊎◌, inl, inr, IsTrue, List, Result, Ok, Err, OnOk, refl, sym, subst, ◌∙◌}
use Rattle.mn_model.specs.Decided.{Decided, decide_int}
use Rattle.mn_model.specs.Domain.{Has}
use Rattle.mn_model.specs.Variable.{number_of}
use Rattle.mn_model.specs.declared.constraint.Con.TheVariants as con
use Rattle.mn_model.specs.declared.constraint.Term.{Term}
use Rattle.mn_model.specs.declared.constraint.Term.TheVariants.{Var, Const, Not}
use Rattle.mn_model.specs.declared.declaration.Tuples.{Tuples}
use Rattle.mn_boxes.specs.Boxes.{Inside, IsBox, set_of, variable_at}
use Rattle.mn_boxes.specs.Places.{PlaceHas}
use Rattle.mn_boxes.specs.Sets.{IsEnd, Variable}
use Rattle.mn_boxes.proofs.Members.{is_first, is_last, stands_first, stands_last}
use Rattle.mn_boxes.proofs.Quiet.{ascends_at}
use Rattle.mn_closure.specs.Closed.{Asked, IsAlone, LeafClosed}
use Rattle.mn_closure.specs.Levels.{Arc, Hull}
use Rattle.mn_closure.specs.Supports.{IsOpen}
use Rattle.mn_closure.proofs.Wider.{wider_place}
use Rattle.mn_domains.specs.Changes.{is_not}
use Rattle.mn_domains.proofs.Filtered.{is_not_so, is_not_true}
use Rattle.mn_prop.specs.Contexts.{ChangedAt, Context, IsNamed, MayGoAt, box_of, vars_of}
use Rattle.mn_prop.specs.Losses.{Unsupported}
use Rattle.mn_prop.specs.Passes.{IsStep}
use Rattle.mn_prop.specs.Posts.{IsReady, beside}
use Rattle.mn_prop.specs.declared.context.Fail.{Fail}
use Rattle.mn_prop.proofs.Ended.{least_of}
use Rattle.mn_prop.proofs.Revisions.{taken_alone}
use Rattle.mn_prop.proofs.Stepping.{as_step, box_again, by_rule, change_passes, change_step, goes_inside, same_vars}
use Rattle.mn_basic.specs.Binaries.{EachAsked, SomeAt}
use Rattle.mn_basic.specs.Losses.{ThatAt}
use Rattle.mn_basic.proofs.Binary.{IsBinary, closed_first, closed_second, closed_two, first_named, no_first, no_second, second_named}

-- an end of a set is one of each part that has it
end_inside : (vars : List Variable) (inner outer : List (List ℤ)) (v : ℕ) (a : ℤ) → IsBox vars inner → IsBox vars outer → Inside inner outer → Has (set_of inner v) a → IsEnd a (set_of outer v) → IsEnd a (set_of inner v)
end_inside vars inner outer v a is around i has (inl first) =
    let f = stands_first (set_of outer v) a (ascends_at vars outer v around) first in
    inl (is_first (set_of inner v) a (ascends_at vars inner v is) (record { has = has; others = λ b at. f.others b (i.within v b at) }))
end_inside vars inner outer v a is around i has (inr last) =
    let l = stands_last (set_of outer v) a (ascends_at vars outer v around) last in
    inr (is_last (set_of inner v) a (ascends_at vars inner v is) (record { has = has; others = λ b at. l.others b (i.within v b at) }))

-- what may go from the sets has to be supported in each box inside them
goes_asked : (vars : List Variable) (box old : List (List ℤ)) (t : Term) (a : ℤ) → IsBox vars box → IsBox vars old → Inside box old → MayGoAt vars t old a → PlaceHas box t a → Asked Arc vars box t a
goes_asked vars box old (Var v) a is around i may has = record { there = has; ends = λ e. by e }
  where
    by : IsTrue (variable_at vars (number_of v)).bounded ⊎ (Arc ≡ Hull) → IsEnd a (set_of box (number_of v))
    by (inl bounded) = end_inside vars box old (number_of v) a is around i has (may bounded (i.within (number_of v) a has))
    by (inr hull) = cc
goes_asked vars box old (Const k) a is around i may has = record { there = has; ends = λ e. has }
goes_asked vars box old (Not v) a is around i may has = record { there = has; ends = λ e. by e }
  where
    by : IsTrue (variable_at vars (number_of v)).bounded ⊎ (Arc ≡ Hull) → IsEnd (pos 1 -ℤ a) (set_of box (number_of v))
    by (inl bounded) = end_inside vars box old (number_of v) (pos 1 -ℤ a) is around i has (may bounded (i.within (number_of v) (pos 1 -ℤ a) has))
    by (inr hull) = cc

-- and what has to be supported may go
asked_goes : (vars : List Variable) (box : List (List ℤ)) (t : Term) (a : ℤ) → Asked Arc vars box t a → MayGoAt vars t box a
asked_goes vars box (Var v) a asked = λ bounded has. asked.ends (inl bounded)
asked_goes vars box (Const k) a asked = tt
asked_goes vars box (Not v) a asked = λ bounded has. asked.ends (inl bounded)

-- ---- one value

module _ (t : Term) (a : ℤ) where
  pub stays : (c : Context) → (MayGoAt (vars_of c) t (box_of c) a → ⊥) → EachAsked (vars_of c) t (λ b. b ≢ a) (box_of c)
  stays c may b asked same = may (asked_goes (vars_of c) (box_of c) t a (subst (Asked Arc (vars_of c) (box_of c) t) same asked))

  pub drop_step : (old new : Context) (result : Result (Unit {0}) Fail) → IsBox (vars_of old) (box_of old) → IsNamed (vars_of old) t → MayGoAt (vars_of old) t (box_of old) a → ChangedAt (is_not a) t old new result → IsStep (ThatAt t a) (EachAsked (vars_of old) t (λ b. b ≢ a)) old new result
  drop_step old new result is named may changed =
      as_step
      (λ box lawful i each b has. is_not_true a b (λ same. each a (goes_asked (vars_of old) box (box_of old) t a lawful is i may (subst (PlaceHas box t) same has)) refl))
      (λ all b asked. is_not_so a b (all b asked.there)) (change_step (is_not a) t named (λ b has out. (refl, taken_alone a b out)) changed)

  pub dropped : (old new : Context) (result : Result (Unit {0}) Fail) → ChangedAt (is_not a) t old new result → OnOk result (EachAsked (vars_of old) t (λ b. b ≢ a) (box_of new))
  dropped old new (Ok done) change = λ b asked. is_not_so a b (change_passes (is_not a) t old new change b asked.there)
  dropped old new (Err fail) changed = tt

-- ---- places that differ

pub is_diseq : (x y : Term) → IsBinary (con.Diseq x y) x y (λ a b. a ≢ b)
is_diseq x y = record { arc = refl; two = refl; meets = λ lists a b m. m; met = λ lists a b m. m }

module _ (x y : Term) (lists : List Tuples) where
  other_at : (box : List (List ℤ)) (t : Term) (a : ℤ) → IsOpen box t → SomeAt box t (λ b. a ≢ b)
  other_at box t a two = by (decide_int two.one a)
    where
      by : Decided (two.one ≡ a) → SomeAt box t (λ b. a ≢ b)
      by (inl same) = record { value = two.another; there = two.has_another; has = λ e. two.differ (same ∙ e) }
      by (inr differs) = record { value = two.one; there = two.has_one; has = λ e. differs (sym e) }

  -- where both have several values nothing is to be done
  pub open_closed : (vars : List Variable) (box : List (List ℤ)) → IsOpen box x → IsOpen box y → LeafClosed vars lists (con.Diseq x y) box
  open_closed vars box one two = closed_two (is_diseq x y) vars lists box (λ a asked. other_at box y a two) (λ b asked. (let some = other_at box x b one in record { value = some.value; there = some.there; has = λ e. some.has (sym e) }))

  -- where the one has a alone, and no value of the other that has to be supported is a, the box is closed
  pub first_apart : (vars : List Variable) (box : List (List ℤ)) (a : ℤ) → IsBox vars box → IsReady vars lists (con.Diseq x y) → IsAlone box x a → EachAsked vars y (λ b. b ≢ a) box → LeafClosed vars lists (con.Diseq x y) box
  first_apart vars box a is ready alone each =
      let mine = least_of Arc vars box x is (first_named (is_diseq x y) vars lists ready) in
      let other = least_of Arc vars box y is (second_named (is_diseq x y) vars lists ready) in
      closed_two (is_diseq x y) vars lists box (λ d asked. record { value = other.value; there = other.least.there; has = λ e. each other.value other.asked (sym e ∙ alone d asked.there) })
      (λ b asked. record { value = mine.value; there = mine.least.there; has = λ e. each b asked (sym e ∙ alone mine.value mine.least.there) })

  pub second_apart : (vars : List Variable) (box : List (List ℤ)) (a : ℤ) → IsBox vars box → IsReady vars lists (con.Diseq x y) → IsAlone box y a → EachAsked vars x (λ b. b ≢ a) box → LeafClosed vars lists (con.Diseq x y) box
  second_apart vars box a is ready alone each =
      let mine = least_of Arc vars box y is (second_named (is_diseq x y) vars lists ready) in
      let other = least_of Arc vars box x is (first_named (is_diseq x y) vars lists ready) in
      closed_two (is_diseq x y) vars lists box (λ b asked. record { value = mine.value; there = mine.least.there; has = λ e. each b asked (e ∙ alone mine.value mine.least.there) })
      (λ d asked. record { value = other.value; there = other.least.there; has = λ e. each other.value other.asked (e ∙ alone d asked.there) })

  -- so a step that takes it is one towards that
  pub first_step : (old new : Context) (a : ℤ) (result : Result (Unit {0}) Fail) → IsBox (vars_of old) (box_of old) → IsReady (vars_of old) lists (con.Diseq x y) → IsAlone (box_of old) x a → IsStep (ThatAt y a) (EachAsked (vars_of old) y (λ b. b ≢ a)) old new result
      → IsStep (Unsupported (beside lists (con.Diseq x y))) (LeafClosed (vars_of old) lists (con.Diseq x y)) old new result
  first_step old new a result is ready alone step = by_rule (λ box i u b has that. no_first (is_diseq x y) lists box u b that.0 (λ d at differ. differ (alone d (wider_place box (box_of old) i x d at) ∙ sym that.1)))
      (as_step
      (λ box lawful i closed b asked. (let some = closed_second (is_diseq x y) (vars_of old) lists box b closed asked in λ same. some.has (alone some.value (wider_place box (box_of old) i x some.value some.there) ∙ sym same)))
      (λ each. first_apart (vars_of old) (box_of old) a is ready alone each) step)

  pub second_step : (old new : Context) (a : ℤ) (result : Result (Unit {0}) Fail) → IsBox (vars_of old) (box_of old) → IsReady (vars_of old) lists (con.Diseq x y) → IsAlone (box_of old) y a → IsStep (ThatAt x a) (EachAsked (vars_of old) x (λ b. b ≢ a)) old new result
      → IsStep (Unsupported (beside lists (con.Diseq x y))) (LeafClosed (vars_of old) lists (con.Diseq x y)) old new result
  second_step old new a result is ready alone step = by_rule (λ box i u b has that. no_second (is_diseq x y) lists box u b that.0 (λ d at differ. differ (that.1 ∙ sym (alone d (wider_place box (box_of old) i y d at)))))
      (as_step
      (λ box lawful i closed b asked. (let some = closed_first (is_diseq x y) (vars_of old) lists box b closed asked in λ same. some.has (same ∙ sym (alone some.value (wider_place box (box_of old) i y some.value some.there)))))
      (λ each. second_apart (vars_of old) (box_of old) a is ready alone each) step)

  -- and after it the box is closed
  pub first_settles : (old new : Context) (a : ℤ) (result : Result (Unit {0}) Fail) → IsBox (vars_of old) (box_of old) → IsReady (vars_of old) lists (con.Diseq x y) → IsAlone (box_of old) x a → IsStep (ThatAt y a) (EachAsked (vars_of old) y (λ b. b ≢ a)) old new result
      → OnOk result (EachAsked (vars_of old) y (λ b. b ≢ a) (box_of new)) → OnOk result (LeafClosed (vars_of old) lists (con.Diseq x y) (box_of new))
  first_settles old new a (Ok done) is ready alone step each =
      first_apart (vars_of old) (box_of new) a (subst (λ vars. IsBox vars (box_of new)) (same_vars step.loses) (box_again step.loses is)) ready (λ b has. alone b (wider_place (box_of new) (box_of old) (goes_inside step.loses) x b has)) each
  first_settles old new a (Err fail) is ready alone step each = tt

  pub second_settles : (old new : Context) (a : ℤ) (result : Result (Unit {0}) Fail) → IsBox (vars_of old) (box_of old) → IsReady (vars_of old) lists (con.Diseq x y) → IsAlone (box_of old) y a → IsStep (ThatAt x a) (EachAsked (vars_of old) x (λ b. b ≢ a)) old new result
      → OnOk result (EachAsked (vars_of old) x (λ b. b ≢ a) (box_of new)) → OnOk result (LeafClosed (vars_of old) lists (con.Diseq x y) (box_of new))
  second_settles old new a (Ok done) is ready alone step each =
      second_apart (vars_of old) (box_of new) a (subst (λ vars. IsBox vars (box_of new)) (same_vars step.loses) (box_again step.loses is)) ready (λ b has. alone b (wider_place (box_of new) (box_of old) (goes_inside step.loses) y b has)) each
  second_settles old new a (Err fail) is ready alone step each = tt

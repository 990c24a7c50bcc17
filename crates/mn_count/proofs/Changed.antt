-- A value that is taken out of a place.
use Rattle.std.proofs.Common.{◌≡◌, ◌≢◌, ℕ, ℤ, pos, ◌-ℤ◌, ◌⊎◌, inl, inr, Bool, true, false, not, IsTrue, List, Result, refl, sym, subst, ap, ◌∙◌, true≢false}
use Rattle.std.specs.Ordering.{int_eq}
use Rattle.mn_model.specs.Domain.{Has}
use Rattle.mn_model.specs.Variable.{number_of}
use Rattle.mn_model.specs.declared.constraint.Term.{Term}
use Rattle.mn_model.specs.declared.constraint.Term.TheVariants.{Var, Const, Not}
use Rattle.mn_boxes.specs.Boxes.{Inside, IsBox, set_of, variable_at}
use Rattle.mn_boxes.specs.Places.{PlaceHas}
use Rattle.mn_boxes.specs.Sets.{IsEnd, Variable}
use Rattle.mn_boxes.proofs.Members.{is_first, is_last, stands_first, stands_last}
use Rattle.mn_boxes.proofs.Quiet.{ascends_at}
use Rattle.mn_closure.specs.Closed.{Asked}
use Rattle.mn_closure.specs.Levels.{Arc, Hull}
use Rattle.mn_domains.specs.Changes.{is_not}
use Rattle.mn_domains.proofs.Filtered.{eq_so, is_not_so, is_not_true}
use Rattle.mn_prop.specs.Contexts.{ChangedAt, Context, IsNamed, MayGoAt, box_of, vars_of}
use Rattle.mn_prop.specs.Passes.{IsStep}
use Rattle.mn_prop.specs.declared.context.Fail.{Fail}
use Rattle.mn_prop.proofs.Stepping.{as_step, change_step}
use Rattle.mn_count.specs.Singles.{EachAsked, ThatAt}

-- an end of a set is one of each part that has it
end_inside : (vars : List Variable) (inner outer : List (List ℤ)) (v : ℕ) (a : ℤ) → IsBox vars inner → IsBox vars outer → Inside inner outer → Has (set_of inner v) a → IsEnd a (set_of outer v) → IsEnd a (set_of inner v)
end_inside vars inner outer v a is around i has (inl first) =
    let f = stands_first (set_of outer v) a (ascends_at vars outer v around) first in
    inl (is_first (set_of inner v) a (ascends_at vars inner v is) (record { has = has; others = λ b at. f.others b (i.within v b at) }))
end_inside vars inner outer v a is around i has (inr last) =
    let l = stands_last (set_of outer v) a (ascends_at vars outer v around) last in
    inr (is_last (set_of inner v) a (ascends_at vars inner v is) (record { has = has; others = λ b at. l.others b (i.within v b at) }))

-- what may go from the sets has to be supported in each box inside them
goes_asked : (vars : List Variable) (box old : List (List ℤ)) (t : Term) (a : ℤ) → IsBox vars box → IsBox vars old → Inside box old → MayGoAt vars t old a → PlaceHas box t a → Asked Arc vars box t a
goes_asked vars box old (Var v) a is around i may has = record { there = has; ends = λ e. by e }
  where
    by : IsTrue (variable_at vars (number_of v)).bounded ⊎ (Arc ≡ Hull) → IsEnd a (set_of box (number_of v))
    by (inl bounded) = end_inside vars box old (number_of v) a is around i has (may bounded (i.within (number_of v) a has))
    by (inr hull) = cc
goes_asked vars box old (Const k) a is around i may has = record { there = has; ends = λ e. has }
goes_asked vars box old (Not v) a is around i may has = record { there = has; ends = λ e. by e }
  where
    by : IsTrue (variable_at vars (number_of v)).bounded ⊎ (Arc ≡ Hull) → IsEnd (pos 1 -ℤ a) (set_of box (number_of v))
    by (inl bounded) = end_inside vars box old (number_of v) (pos 1 -ℤ a) is around i has (may bounded (i.within (number_of v) (pos 1 -ℤ a) has))
    by (inr hull) = cc

-- and what has to be supported may go
asked_goes : (vars : List Variable) (box : List (List ℤ)) (t : Term) (a : ℤ) → Asked Arc vars box t a → MayGoAt vars t box a
asked_goes vars box (Var v) a asked = λ bounded has. asked.ends (inl bounded)
asked_goes vars box (Const k) a asked = tt
asked_goes vars box (Not v) a asked = λ bounded has. asked.ends (inl bounded)

-- what isn't another value is the value
taken_alone : (a b : ℤ) → is_not a b ≡ false → b ≡ a
taken_alone a b e = by (int_eq b a) refl
  where
    by : (t : Bool) → int_eq b a ≡ t → b ≡ a
    by true same = eq_so b a same
    by false differs = absurd (true≢false (sym (ap not differs) ∙ e))

module _ (t : Term) (a : ℤ) where
  pub stays : (c : Context) → (MayGoAt (vars_of c) t (box_of c) a → ⊥) → EachAsked (vars_of c) t (λ b. b ≢ a) (box_of c)
  stays c may b asked same = may (asked_goes (vars_of c) (box_of c) t a (subst (Asked Arc (vars_of c) (box_of c) t) same asked))

  pub drop_step : (old new : Context) (result : Result (Unit {0}) Fail) → IsBox (vars_of old) (box_of old) → IsNamed (vars_of old) t → MayGoAt (vars_of old) t (box_of old) a → ChangedAt (is_not a) t old new result → IsStep (ThatAt t a) (EachAsked (vars_of old) t (λ b. b ≢ a)) old new result
  drop_step old new result is named may changed =
      as_step
      (λ box lawful i each b has. is_not_true a b (λ same. each a (goes_asked (vars_of old) box (box_of old) t a lawful is i may (subst (PlaceHas box t) same has)) refl))
      (λ all b asked. is_not_so a b (all b asked.there)) (change_step (is_not a) t named (λ b has out. (refl, taken_alone a b out)) changed)

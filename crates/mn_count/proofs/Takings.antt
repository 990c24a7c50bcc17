-- What is known of the values that places have alone, as they are taken one by one, and then taken out of all open places.
use Rattle.std.proofs.Common.{◌≡◌, ◌≢◌, ℕ, ◌-◌, ◌<◌, ℤ, ◌⊎◌, inl, inr, Bool, true, false, not, ◌||◌, List, length, get_or, slice_get, Some, Result, refl, sym, subst, ap, ◌∙◌, arith, true≢false}
use Rattle.std.proofs.lemmas.List.{length-set}
use Rattle.std.proofs.lemmas.Option.{slice_get_within}
use Rattle.std.specs.Ordering.{int_eq}
use Rattle.mn_model.specs.Decided.{Decided, decide_nat}
use Rattle.mn_model.specs.declared.constraint.Con.TheVariants as con
use Rattle.mn_model.specs.declared.constraint.Term.{Term}
use Rattle.mn_model.specs.declared.declaration.Tuples.{Tuples}
use Rattle.mn_boxes.specs.Boxes.{Inside, IsBox}
use Rattle.mn_boxes.specs.Places.{PlaceHas}
use Rattle.mn_boxes.specs.Sets.{Variable}
use Rattle.mn_boxes.specs.Values.{Values, members}
use Rattle.mn_closure.specs.Closed.{Asked, IsAlone, LeafClosed}
use Rattle.mn_closure.specs.Levels.{Arc}
use Rattle.mn_closure.specs.Supports.{IsOpen, NoneElse}
use Rattle.mn_closure.proofs.Wider.{wider_place}
use Rattle.mn_domains.proofs.Filtered.{eq_so}
use Rattle.mn_prop.specs.Contexts.{Context, IsNamed, box_of, vars_of}
use Rattle.mn_prop.specs.Losses.{Unsupported}
use Rattle.mn_prop.specs.Passes.{IsStep, NoneHas}
use Rattle.mn_prop.specs.Posts.{IsReady, beside}
use Rattle.mn_prop.specs.Sifting.{IsSifted}
use Rattle.mn_prop.specs.declared.context.Fail.{Fail}
use Rattle.mn_prop.proofs.Boxing.{inside_through}
use Rattle.mn_prop.proofs.Ended.{least_of}
use Rattle.mn_prop.proofs.Ready.{ready_named}
use Rattle.mn_prop.proofs.Stepping.{as_step, by_rule}
use Rattle.mn_count.specs.Rows.{IsIn, IsRow, Row, StandsIn, without}
use Rattle.mn_count.specs.Singles.{EachAsked}
use Rattle.mn_count.specs.Takings.{AreFree, HasTaken, IsFreeAt, IsOpenAt, IsTakenBy, IsTaking}
use Rattle.mn_count.proofs.Rows.{gone_out, kept_in, still_in}
use Rattle.mn_count.proofs.Sifted.{FailsAt, sift_asked}
use Rattle.mn_count.proofs.Spread.{alone_inside, fixed_asked, same_term, spread_closed}

-- in smaller boxes all the more
pub taking_inside : (v : List Term) (taken : Values) (row : Row) (inner box : List (List ℤ)) → Inside inner box → IsTaking v taken row box → IsTaking v taken row inner
taking_inside v taken row inner box inside s = record {
  room = s.room;
  from = λ a is. (let by = s.from a is in record { place = by.place; term = by.term; stands = by.stands; past = by.past; alone = alone_inside inner box by.term a inside by.alone });
  each = λ i t at. shrunk t (s.each i t at);
  one = λ i j t u a at_i at_j past_i past_j has had. s.one i j t u a at_i at_j past_i past_j (wider_place inner box inside t a has) (wider_place inner box inside u a had);
}
  where
    shrunk : {i : ℕ} (t : Term) → IsIn row i ⊎ HasTaken taken box t → IsIn row i ⊎ HasTaken taken inner t
    shrunk t (inl in_use) = inl in_use
    shrunk t (inr has) = inr (record { value = has.value; is_taken = has.is_taken; alone = alone_inside inner box t has.value inside has.alone })

-- at the beginning no value is taken
pub none_taken : (v : List Term) (taken : Values) (row : Row) (box : List (List ℤ)) → length row.items ≡ length v → ((i : ℕ) → i < length v → StandsIn row i i) → ((a : ℤ) → members taken a ≡ false) → IsTaking v taken row box
none_taken v taken row box room all none = record {
  room = room;
  from = λ a is. absurd (true≢false (sym is ∙ none a));
  each = λ i t at. inl (i, all i (slice_get_within v i t at));
  one = λ i j t u a at_i at_j past_i past_j has had. absurd (past_i (i, all i (slice_get_within v i t at_i)));
}

module _ (v : List Term) (lists : List Tuples) where
  -- a taken value isn't supported at an open place of a box inside
  taken_elsewhere : (taken : Values) (row : Row) (box inner : List (List ℤ)) (k : ℕ) (a : ℤ) → IsTaking v taken row box → Inside inner box → k < row.left → members taken a ≡ true → NoneElse (con.Alldiff v) (get_or row.items k 0) a inner → ⊥
  taken_elsewhere taken row box inner k a s inside less is else =
      let by = s.from a is in
      let some = else by.place by.term by.stands (λ e. by.past (k, (less, sym e))) in
      some.2 (alone_inside inner box by.term a inside by.alone some.0 some.1)

  -- a closed box inside has no taken value at an open place
  pub closed_free : (vars : List Variable) (taken : Values) (row : Row) (box inner : List (List ℤ)) → IsTaking v taken row box → Inside inner box → LeafClosed vars lists (con.Alldiff v) inner → AreFree vars v taken row inner
  closed_free vars taken row box inner s inside closed k less t at a asked = by (members taken a) refl
    where
      by : (b : Bool) → members taken a ≡ b → members taken a ≡ false
      by true e = absurd (taken_elsewhere taken row box inner k a s inside less e (closed.supported (get_or row.items k 0) t a at (fixed_asked asked)))
      by false e = e

  -- a place has the taken value of another one alone: there is no closed box
  pub taken_twice : (vars : List Variable) (taken : Values) (row : Row) (box : List (List ℤ)) (k : ℕ) (t : Term) (a : ℤ) → IsReady vars lists (con.Alldiff v) → IsTaking v taken row box → k < row.left → slice_get v (get_or row.items k 0) ≡ Some t → IsAlone box t a → members taken a ≡ true → NoneHas vars (LeafClosed vars lists (con.Alldiff v)) box
  taken_twice vars taken row box k t a ready s less at alone is inner lawful inside closed =
      let l = least_of Arc vars inner t lawful (ready_named (beside lists (con.Alldiff v)) (get_or row.items k 0) ready at) in
      let same : l.value ≡ a = alone_inside inner box t a inside alone l.value l.least.there in
      let free = closed_free vars taken row box inner s inside closed k less t at l.value l.asked in
      true≢false (sym is ∙ (ap (members taken) (sym same) ∙ free))

  -- the box is closed where each open place has two values, and none that is taken and has to be supported
  pub free_closed : (vars : List Variable) (taken : Values) (row : Row) (box : List (List ℤ)) → IsBox vars box → IsReady vars lists (con.Alldiff v) → IsTaking v taken row box → AreFree vars v taken row box → ((k : ℕ) → k < row.left → IsOpenAt v row k box) → LeafClosed vars lists (con.Alldiff v) box
  free_closed vars taken row box lawful ready s free opens = spread_closed v lists vars box lawful ready (λ i within t a at alone j u at_u other b asked same. apart i j t u a b at at_u alone other asked same)
    where
      -- an open place has no value alone
      never_alone : (i : ℕ) (t : Term) (a : ℤ) → slice_get v i ≡ Some t → IsAlone box t a → IsIn row i → ⊥
      never_alone i t a at alone in_use =
          let two = opens in_use.0 in_use.1.0 t (ap (slice_get v) in_use.1.1 ∙ at) in
          two.differ (alone two.one two.has_one ∙ sym (alone two.another two.has_another))

      apart : (i j : ℕ) (t u : Term) (a b : ℤ) → slice_get v i ≡ Some t → slice_get v j ≡ Some u → IsAlone box t a → j ≢ i → Asked Arc vars box u b → b ≡ a → ⊥
      apart i j t u a b at at_u alone other asked same = by (s.each i t at) (s.each j u at_u)
        where
          has : PlaceHas box t a
          has = let l = least_of Arc vars box t lawful (ready_named (beside lists (con.Alldiff v)) i ready at) in subst (PlaceHas box t) (alone l.value l.least.there) l.least.there

          by : IsIn row i ⊎ HasTaken taken box t → IsIn row j ⊎ HasTaken taken box u → ⊥
          by (inl in_use) two = never_alone i t a at alone in_use
          by (inr one) (inl in_use) =
              let out = free in_use.0 in_use.1.0 u (ap (slice_get v) in_use.1.1 ∙ at_u) b asked in
              true≢false (sym one.is_taken ∙ (ap (members taken) (sym (same ∙ one.alone a has)) ∙ out))
          by (inr one) (inr two) = other (s.one j i u t a at_u at (never_alone j u two.value at_u two.alone) (never_alone i t a at alone) (subst (PlaceHas box u) same asked.there) has)

  -- taking the taken values out of an open place
  module _ (old : Context) (taken : Values) (row : Row) (s : IsTaking v taken row (box_of old)) where
    pub free_step : {now new : Context} {result : Result (Unit {0}) Fail} (k : ℕ) (t : Term) → k < row.left → slice_get v (get_or row.items k 0) ≡ Some t → Inside (box_of now) (box_of old) → vars_of now ≡ vars_of old → IsNamed (vars_of now) t → IsSifted (λ a. not (members taken a)) t now new result
        → IsStep (Unsupported (beside lists (con.Alldiff v))) (IsFreeAt (vars_of old) v taken row k) now new result
    free_step {now = now} {new = new} {result = result} k t less at inside vars named sifted =
        by_rule rule (as_step (λ box lawful i free a asked. passes (members taken a) (free t at a asked)) (λ each u at_u a asked. fails (members taken a) (each a (subst (λ x. Asked Arc (vars_of old) (box_of now) x a) (same_term v (get_or row.items k 0) u t at_u at) asked))) own)
      where
        own : IsStep (FailsAt (λ a. not (members taken a)) t) (EachAsked (vars_of old) t (λ a. not (members taken a) ≡ true)) now new result
        own = subst (λ xs. IsStep (FailsAt (λ a. not (members taken a)) t) (EachAsked xs t (λ a. not (members taken a) ≡ true)) now new result) vars (sift_asked t named sifted)

        passes : (b : Bool) → b ≡ false → not b ≡ true
        passes b e = ap not e

        fails : (b : Bool) → not b ≡ true → b ≡ false
        fails true e = absurd (true≢false (sym e))
        fails false e = refl

        taken_so : (b : Bool) → not b ≡ false → b ≡ true
        taken_so true e = refl
        taken_so false e = absurd (true≢false e)

        rule : (box : List (List ℤ)) → Inside box (box_of now) → (u : Term) (a : ℤ) → PlaceHas box u a → FailsAt (λ d. not (members taken d)) t box u a → Unsupported (beside lists (con.Alldiff v)) box u a
        rule box i u a has that = (get_or row.items k 0, at ∙ ap Some (sym that.0), λ supported. taken_elsewhere taken row (box_of old) box k a s (inside_through i inside) less (taken_so (members taken a) that.1) supported)

-- ---- one place

pub open_there : (v : List Term) (row : Row) (box : List (List ℤ)) (k i : ℕ) (t : Term) → slice_get v i ≡ Some t → StandsIn row k i → IsOpen box t → IsOpenAt v row k box
open_there v row box k i t at stands two u at_u = subst (IsOpen box) (same_term v i t u at (subst (λ n. slice_get v n ≡ Some u) stands.1 at_u)) two

-- a value is taken, and its place isn't among the open ones any more
module _ (v : List Term) (taken new : Values) (row : Row) (box : List (List ℤ)) (k i : ℕ) (t : Term) (a : ℤ) (is : IsRow row) (s : IsTaking v taken row box) (stands : StandsIn row k i) (at : slice_get v i ≡ Some t) (has : PlaceHas box t a) (alone : IsAlone box t a) (first : members taken a ≡ false) (more : (x : ℤ) → members new x ≡ (int_eq x a || members taken x)) where
  either_taken : (b c : Bool) → c ≡ true → (b || c) ≡ true
  either_taken true c e = refl
  either_taken false c e = e

  itself_taken : members new a ≡ true
  itself_taken = more a ∙ ap (λ b. b || members taken a) (same_eq a)
    where
      same_eq : (x : ℤ) → int_eq x x ≡ true
      same_eq x = grind arith

  -- another place with the same value would have it alone, so it would be taken
  alone_once : (j : ℕ) (u : Term) (x : ℤ) → slice_get v j ≡ Some u → j ≢ i → (IsIn (without k row) j → ⊥) → PlaceHas box t x → PlaceHas box u x → ⊥
  alone_once j u x at_u differ past here there = by (s.each j u at_u)
    where
      by : IsIn row j ⊎ HasTaken taken box u → ⊥
      by (inl in_use) = past (kept_in row is k stands.0 i j stands.1 differ in_use)
      by (inr other) = true≢false (sym other.is_taken ∙ (ap (members taken) (sym (other.alone x there) ∙ alone x here) ∙ first))

  pub one_taken : IsTaking v new (without k row) box
  one_taken = record {
    room = length-set row.items k (get_or row.items (row.left - 1) 0) ∙ s.room;
    from = λ x is_taken. source x is_taken (int_eq x a) refl;
    each = λ j u at_u. target j u at_u (decide_nat j i);
    one = λ j m u w x at_j at_m past_j past_m here there. same j m u w x at_j at_m past_j past_m here there (decide_nat j i) (decide_nat m i);
  }
    where
      source : (x : ℤ) → members new x ≡ true → (b : Bool) → int_eq x a ≡ b → IsTakenBy v (without k row) box x
      source x is_taken true e = record { place = i; term = t; stands = at; past = gone_out row is k stands.0 i stands.1; alone = subst (IsAlone box t) (sym (eq_so x a e)) alone }
      source x is_taken false e =
          let by = s.from x (sym (more x ∙ ap (λ b. b || members taken x) e) ∙ is_taken) in
          record { place = by.place; term = by.term; stands = by.stands; past = λ in_use. by.past (still_in row is k stands.0 by.place in_use); alone = by.alone }

      target : (j : ℕ) (u : Term) → slice_get v j ≡ Some u → Decided (j ≡ i) → IsIn (without k row) j ⊎ HasTaken new box u
      target j u at_u (inl here) = inr (record { value = a; is_taken = itself_taken; alone = subst (λ w. IsAlone box w a) (same_term v i t u at (subst (λ n. slice_get v n ≡ Some u) here at_u)) alone })
      target j u at_u (inr differ) = by (s.each j u at_u)
        where
          by : IsIn row j ⊎ HasTaken taken box u → IsIn (without k row) j ⊎ HasTaken new box u
          by (inl in_use) = inl (kept_in row is k stands.0 i j stands.1 differ in_use)
          by (inr other) = inr (record { value = other.value; is_taken = more other.value ∙ either_taken (int_eq other.value a) (members taken other.value) other.is_taken; alone = other.alone })

      same : (j m : ℕ) (u w : Term) (x : ℤ) → slice_get v j ≡ Some u → slice_get v m ≡ Some w → (IsIn (without k row) j → ⊥) → (IsIn (without k row) m → ⊥) → PlaceHas box u x → PlaceHas box w x → Decided (j ≡ i) → Decided (m ≡ i) → j ≡ m
      same j m u w x at_j at_m past_j past_m here there (inl one) (inl two) = one ∙ sym two
      same j m u w x at_j at_m past_j past_m here there (inl one) (inr differ) =
          absurd (alone_once m w x at_m differ past_m (subst (λ y. PlaceHas box y x) (same_term v i u t (subst (λ n. slice_get v n ≡ Some u) one at_j) at) here) there)
      same j m u w x at_j at_m past_j past_m here there (inr differ) (inl two) =
          absurd (alone_once j u x at_j differ past_j (subst (λ y. PlaceHas box y x) (same_term v i w t (subst (λ n. slice_get v n ≡ Some w) two at_m) at) there) here)
      same j m u w x at_j at_m past_j past_m here there (inr one) (inr two) =
          s.one j m u w x at_j at_m (λ in_use. past_j (kept_in row is k stands.0 i j stands.1 one in_use)) (λ in_use. past_m (kept_in row is k stands.0 i m stands.1 two in_use)) here there

-- What a revision takes, place by place.
use Rattle.std.proofs.Common.{◌≡◌, ℕ, ◌+◌, ◌<◌, ◌≤◌, ℤ, pos, ◌-ℤ◌, ◌<ℤ◌, ◌≤ℤ◌, ◌⊎◌, ⊎_elim, inl, inr, Bool, true, false, List, [], length, Some, None, Result, Ok, Err, IsErr, refl, sym, subst, ◌∙◌, true≢false, arith}
use Rattle.std.proofs.lemmas.Bool.{not-false}
use Rattle.std.proofs.lemmas.Int.{ints}
use borrow.Author.Count.{below_more}
use Rattle.std.proofs.lemmas.Option.{slice_get_within}
use Rattle.std.specs.Int.{int_gap}
use Rattle.std.specs.Ordering.{int_eq}
use Rattle.mn_model.proofs.Stretches.{plus-int_gap}
use Rattle.mn_model.specs.Domain.{Has}
use Rattle.mn_model.specs.Parts.{places}
use Rattle.mn_model.specs.Variable.{number_of}
use Rattle.mn_model.specs.declared.constraint.Term.{Term}
use Rattle.mn_model.specs.declared.constraint.Term.TheVariants.{Var, Const, Not}
use Rattle.mn_boxes.specs.Boxes.{Inside, IsBox, set_of}
use Rattle.mn_boxes.specs.Places.{IsPlaceEnd, PlaceHas, is_place_bounded}
use Rattle.mn_boxes.specs.Sets.{Variable}
use Rattle.mn_boxes.proofs.Members.{is_first, is_last, stands_first, stands_last}
use Rattle.mn_boxes.proofs.Quiet.{ascends_at}
use Rattle.mn_meaning.specs.Meaning.{Meets}
use Rattle.mn_closure.specs.Closed.{Asked}
use Rattle.mn_closure.specs.Levels.{level}
use Rattle.mn_closure.specs.Supports.{StandsAt, Supported}
use Rattle.mn_closure.proofs.Wider.{wider_supported, wider_place}
use Rattle.mn_domains.specs.Changes.{is_not}
use Rattle.mn_domains.proofs.Filtered.{eq_so, is_not_false, is_not_so, is_not_true}
use Rattle.mn_boxes.specs.Boxes.{count_of}
use Rattle.mn_prop.specs.Contexts.{ChangedAt, Context, IsGreatestAt, IsLeastAt, IsNamed, IsNextAt, MayGoAt, box_of, vars_of}
use Rattle.mn_prop.specs.Losses.{Unsupported}
use Rattle.mn_prop.specs.Passes.{AllPass, IsStep}
use Rattle.mn_prop.specs.Posts.{ClosedUnderLeaf, Posted}
use Rattle.mn_prop.specs.Revising.{AllSupported, AsksEach, AsksEnds, EndSupported, EndsAlone, PlaceClosed, ValueSupported}
use Rattle.mn_prop.specs.declared.context.Fail.{Fail}
use Rattle.mn_prop.proofs.Boxing.{fewer_at}
use Rattle.mn_prop.proofs.Going.{Going, arrives, begins, goes_on, goes_wrong, same_before}
use Rattle.mn_prop.proofs.PlaceLemmas.{back}
use Rattle.mn_prop.proofs.Stepping.{as_step, change_step, changed_box, failing, same_vars, then_step}
use Rattle.mn_prop.proofs.Trying.{at_most_or}

-- ---- ends of places

pub least_end : (vars : List Variable) (sets : List (List ℤ)) (t : Term) (a : ℤ) → IsBox vars sets → IsLeastAt sets t a → IsPlaceEnd sets t a
least_end vars sets (Var v) a is least = inl (is_first (set_of sets (number_of v)) a (ascends_at vars sets (number_of v) is) (record { has = least.there; others = least.least }))
least_end vars sets (Const k) a is least = least.there
least_end vars sets (Not v) a is least =
    inr (is_last (set_of sets (number_of v)) (pos 1 -ℤ a) (ascends_at vars sets (number_of v) is)
    (record { has = least.there; others = λ b has. (let le = least.least (pos 1 -ℤ b) (subst (Has (set_of sets (number_of v))) (sym (back b)) has) in omega (arith, ints, le)) }))

pub greatest_end : (vars : List Variable) (sets : List (List ℤ)) (t : Term) (a : ℤ) → IsBox vars sets → IsGreatestAt sets t a → IsPlaceEnd sets t a
greatest_end vars sets (Var v) a is great = inr (is_last (set_of sets (number_of v)) a (ascends_at vars sets (number_of v) is) (record { has = great.there; others = great.greatest }))
greatest_end vars sets (Const k) a is great = great.there
greatest_end vars sets (Not v) a is great =
    inl (is_first (set_of sets (number_of v)) (pos 1 -ℤ a) (ascends_at vars sets (number_of v) is)
    (record { has = great.there; others = λ b has. (let le = great.greatest (pos 1 -ℤ b) (subst (Has (set_of sets (number_of v))) (sym (back b)) has) in omega (arith, ints, le)) }))

-- an end is the least or the greatest value
pub end_is : (vars : List Variable) (sets : List (List ℤ)) (t : Term) (a : ℤ) → IsBox vars sets → IsPlaceEnd sets t a → IsLeastAt sets t a ⊎ IsGreatestAt sets t a
end_is vars sets (Var v) a is end = by end
  where
    by : IsPlaceEnd sets (Var v) a → IsLeastAt sets (Var v) a ⊎ IsGreatestAt sets (Var v) a
    by (inl first) = let f = stands_first (set_of sets (number_of v)) a (ascends_at vars sets (number_of v) is) first in inl (record { there = f.has; least = f.others })
    by (inr last) = let l = stands_last (set_of sets (number_of v)) a (ascends_at vars sets (number_of v) is) last in inr (record { there = l.has; greatest = l.others })
end_is vars sets (Const k) a is end = inl (record { there = end; least = λ b has. (let same : a ≡ b = sym end ∙ has in omega (arith, ints, same)) })
end_is vars sets (Not v) a is end = by end
  where
    by : IsPlaceEnd sets (Not v) a → IsLeastAt sets (Not v) a ⊎ IsGreatestAt sets (Not v) a
    by (inl first) = let f = stands_first (set_of sets (number_of v)) (pos 1 -ℤ a) (ascends_at vars sets (number_of v) is) first in inr (record { there = f.has; greatest = λ b has. (let le = f.others (pos 1 -ℤ b) has in omega (arith, ints, le)) })
    by (inr last) = let l = stands_last (set_of sets (number_of v)) (pos 1 -ℤ a) (ascends_at vars sets (number_of v) is) last in inl (record { there = l.has; least = λ b has. (let le = l.others (pos 1 -ℤ b) has in omega (arith, ints, le)) })

-- what may be taken out of a place: an end, and any value where they don't go at the ends alone
pub end_may : (vars : List Variable) (sets : List (List ℤ)) (t : Term) (a : ℤ) → IsPlaceEnd sets t a → MayGoAt vars t sets a
end_may vars sets (Var v) a end = λ bounded has. end
end_may vars sets (Const k) a end = tt
end_may vars sets (Not v) a end = λ bounded has. end

pub free_may : (vars : List Variable) (sets : List (List ℤ)) (t : Term) (a : ℤ) → is_place_bounded vars t ≡ false → MayGoAt vars t sets a
free_may vars sets (Var v) a free = λ bounded has. absurd (true≢false (sym bounded ∙ free))
free_may vars sets (Const k) a free = tt
free_may vars sets (Not v) a free = λ bounded has. absurd (true≢false (sym bounded ∙ free))

may_end : (vars : List Variable) (sets : List (List ℤ)) (t : Term) (a : ℤ) → is_place_bounded vars t ≡ true → MayGoAt vars t sets a → PlaceHas sets t a → IsPlaceEnd sets t a
may_end vars sets (Var v) a bounded may has = may bounded has
may_end vars sets (Const k) a bounded may has = has
may_end vars sets (Not v) a bounded may has = may bounded has

-- values go between the ends where one does
pub goes_free : (vars : List Variable) (sets : List (List ℤ)) (t : Term) (a lo hi : ℤ) → IsBox vars sets → IsLeastAt sets t lo → IsGreatestAt sets t hi → lo <ℤ a → (a ≡ hi → ⊥) → PlaceHas sets t a → MayGoAt vars t sets a → is_place_bounded vars t ≡ false
goes_free vars sets t a lo hi is least great above differs has may = by (is_place_bounded vars t) refl
  where
    either : IsLeastAt sets t a ⊎ IsGreatestAt sets t a → ⊥
    either (inl first) = let le = first.least lo least.there in omega (arith, ints, le, above)
    either (inr last) = differs (let from = last.greatest hi great.there in let to = great.greatest a has in omega (arith, ints, from, to))

    by : (b : Bool) → is_place_bounded vars t ≡ b → b ≡ false
    by true bounded = absurd (either (end_is vars sets t a is (may_end vars sets t a bounded may has)))
    by false free = refl

-- and at the ends alone where that one may not
pub goes_at_ends : (vars : List Variable) (sets : List (List ℤ)) (t : Term) (a : ℤ) → (MayGoAt vars t sets a → ⊥) → EndsAlone vars t sets
goes_at_ends vars sets t a not = by (is_place_bounded vars t) refl
  where
    by : (b : Bool) → is_place_bounded vars t ≡ b → EndsAlone vars t sets
    by true bounded = inl bounded
    by false free = absurd (not (free_may vars sets t a free))

-- or where there is none between them
pub no_inner : (vars : List Variable) (sets : List (List ℤ)) (t : Term) (lo hi : ℤ) → IsLeastAt sets t lo → IsGreatestAt sets t hi → ((b : ℤ) → PlaceHas sets t b → (b ≤ℤ lo) ⊎ (hi ≤ℤ b)) → EndsAlone vars t sets
no_inner vars sets t lo hi least great outer = inr (λ b has. by b has (outer b has))
  where
    by : (b : ℤ) → PlaceHas sets t b → (b ≤ℤ lo) ⊎ (hi ≤ℤ b) → IsLeastAt sets t b ⊎ IsGreatestAt sets t b
    by b has (inl le) = inl (record { there = has; least = λ x at. (let from = least.least x at in omega (arith, ints, from, le)) })
    by b has (inr ge) = inr (record { there = has; greatest = λ x at. (let to = great.greatest x at in omega (arith, ints, to, ge)) })

-- ---- one value

pub taken_alone : (a b : ℤ) → is_not a b ≡ false → b ≡ a
taken_alone a b e = eq_so b a (not-false (int_eq b a) e)

-- to take a value out leaves fewer
pub removed_fewer : {old new : Context} {done : Unit {0}} (t : Term) (a : ℤ) → PlaceHas (box_of old) t a → ChangedAt (is_not a) t old new (Ok done) → count_of (box_of new) < count_of (box_of old)
removed_fewer {old = old} {new = new} t a has change = subst (λ box. count_of box < count_of (box_of old)) (sym (changed_box change)) (fewer_at (is_not a) t (box_of old) a change.some has (is_not_false a a refl))

-- a value that isn't supported in the sets isn't in a box inside them where it would have to be
gone : (posted : Posted) (i : ℕ) (t : Term) (a : ℤ) (box sets : List (List ℤ)) → Inside box sets → (Supported posted.lists posted.con i a sets → ⊥) → (PlaceHas box t a → Supported posted.lists posted.con i a box) → AllPass (is_not a) t box
gone posted i t a box sets inside unsupported has_to b has = is_not_true a b (λ same. unsupported (wider_supported (level posted.con) posted.lists posted.con i a box sets inside (has_to (subst (PlaceHas box t) same has))))

-- to take it is a step
value_step : {old new : Context} {result : Result (Unit {0}) Fail} (posted : Posted) (i : ℕ) (t : Term) (a : ℤ) → IsNamed (vars_of old) t → StandsAt posted.con i t → (Supported posted.lists posted.con i a (box_of old) → ⊥) → ChangedAt (is_not a) t old new result → IsStep (Unsupported posted) (AllPass (is_not a) t) old new result
value_step {old = old} posted i t a named stands unsupported changed =
    change_step (is_not a) t named (λ b has out. (i, stands, λ supported. unsupported (subst (λ x. Supported posted.lists posted.con i x (box_of old)) (taken_alone a b out) supported))) changed

pub taken : {old new : Context} {result : Result (Unit {0}) Fail} (posted : Posted) (i : ℕ) (t : Term) (a : ℤ) → IsNamed (vars_of old) t → StandsAt posted.con i t → (Supported posted.lists posted.con i a (box_of old) → ⊥) → ChangedAt (is_not a) t old new result → IsStep (Unsupported posted) (ValueSupported posted i t a) old new result
taken {old = old} posted i t a named stands unsupported changed =
    as_step (λ box lawful inside has_to. gone posted i t a box (box_of old) inside unsupported has_to) (λ pass has. absurd (is_not_so a a (pass a has) refl)) (value_step posted i t a named stands unsupported changed)

-- ---- ends

-- the least value of a place is an end of it, and the greatest
pub record IsEndOf (IsEndAt : List (List ℤ) → Term → ℤ → Type 0) (t : Term) : Type 0 where
  pub unique : (box : List (List ℤ)) (a b : ℤ) → IsEndAt box t a → IsEndAt box t b → a ≡ b
  pub within : (box sets : List (List ℤ)) (a : ℤ) → Inside box sets → IsEndAt sets t a → PlaceHas box t a → IsEndAt box t a

pub least_is : (t : Term) → IsEndOf IsLeastAt t
least_is t = record {
  unique = λ box a b one another. (let le = one.least b another.there in let ge = another.least a one.there in omega (arith, ints, le, ge));
  within = λ box sets a inside least has. record { there = has; least = λ b at. least.least b (wider_place box sets inside t b at) };
}

pub greatest_is : (t : Term) → IsEndOf IsGreatestAt t
greatest_is t = record {
  unique = λ box a b one another. (let le = one.greatest b another.there in let ge = another.greatest a one.there in omega (arith, ints, le, ge));
  within = λ box sets a inside great has. record { there = has; greatest = λ b at. great.greatest b (wider_place box sets inside t b at) };
}

module _ (E : List (List ℤ) → Term → ℤ → Type 0) (t : Term) (of : IsEndOf E t) (posted : Posted) (i : ℕ) where
  pub pruned : {old mid new : Context} {done : Unit {0}} (a : ℤ) → Going (Unsupported posted) (EndSupported E posted i t) old mid → IsNamed (vars_of mid) t → StandsAt posted.con i t → E (box_of mid) t a → (Supported posted.lists posted.con i a (box_of mid) → ⊥)
      → ChangedAt (is_not a) t mid new (Ok done) → Going (Unsupported posted) (EndSupported E posted i t) old new
  pruned {old = old} {mid = mid} a going named stands end unsupported changed =
      goes_on going (λ box lawful inside supported. gone posted i t a box (box_of mid) inside unsupported (λ has. supported a (of.within box (box_of mid) a inside end has))) (value_step posted i t a named stands unsupported changed)

  pub prune_fails : {old mid new : Context} {fail : Fail} {end : Result (Unit {0}) Fail} (a : ℤ) → Going (Unsupported posted) (EndSupported E posted i t) old mid → IsNamed (vars_of mid) t → StandsAt posted.con i t → E (box_of mid) t a → (Supported posted.lists posted.con i a (box_of mid) → ⊥)
      → ChangedAt (is_not a) t mid new (Err fail) → IsErr end → IsStep (Unsupported posted) (EndSupported E posted i t) old new end
  prune_fails {old = old} {mid = mid} a going named stands at unsupported changed err =
      goes_wrong going (λ box lawful inside supported. gone posted i t a box (box_of mid) inside unsupported (λ has. supported a (of.within box (box_of mid) a inside at has))) (value_step posted i t a named stands unsupported changed) err

  pub prune_ends : {old now : Context} (a : ℤ) → Going (Unsupported posted) (EndSupported E posted i t) old now → E (box_of now) t a → Supported posted.lists posted.con i a (box_of now) → IsStep (Unsupported posted) (EndSupported E posted i t) old now (Ok tt)
  prune_ends {old = old} {now = now} a going end supported =
      arrives going (λ same. subst (EndSupported E posted i t) same (λ b other. subst (λ x. Supported posted.lists posted.con i x (box_of now)) (of.unique (box_of now) a b end other) supported))

-- ---- each value

module _ (posted : Posted) (i : ℕ) (t : Term) where
  -- the values below a are tested
  pub record TestedBelow (old now : Context) (a : ℤ) : Type 0 where
    pub going : Going (Unsupported posted) (AllSupported posted i t) old now
    pub there : PlaceHas (box_of now) t a
    pub below : box_of now ≡ box_of old → (x : ℤ) → PlaceHas (box_of old) t x → x <ℤ a → Supported posted.lists posted.con i x (box_of old)

  pub first_below : (c : Context) (lo : ℤ) → IsLeastAt (box_of c) t lo → TestedBelow c c lo
  first_below c lo least = record { going = begins c; there = least.there; below = λ same x has less. absurd (let le = least.least x has in omega (arith, ints, le, less)) }

  -- up to a they are, after a itself is
  up_to : {old now new : Context} {a : ℤ} {done : Unit {0}} → TestedBelow old now a → IsStep (Unsupported posted) (ValueSupported posted i t a) now new (Ok done) → box_of new ≡ box_of old → (x : ℤ) → PlaceHas (box_of old) t x → x ≤ℤ a → Supported posted.lists posted.con i x (box_of old)
  up_to {old = old} {now = now} {new = new} {a = a} tests step same x has le = by (at_most_or a x)
    where
      before : box_of now ≡ box_of old
      before = same_before tests.going step.loses same

      by : (a ≤ℤ x) ⊎ (x <ℤ a) → Supported posted.lists posted.con i x (box_of old)
      by (inl ge) =
          let is : a ≡ x = omega (arith, ints, ge, le) in
          let still : box_of new ≡ box_of now → ValueSupported posted i t a (box_of now) = step.still in
          subst (λ y. Supported posted.lists posted.con i y (box_of old)) is (subst (Supported posted.lists posted.con i a) before (still (same ∙ sym before) tests.there))
      by (inr less) = tests.below before x has less

  pub next_below : {old now new : Context} {a b : ℤ} {done : Unit {0}} → TestedBelow old now a → IsStep (Unsupported posted) (ValueSupported posted i t a) now new (Ok done) → IsNextAt (box_of new) t a (Some b) → TestedBelow old new b
  next_below {old = old} {now = now} {new = new} {a = a} {b = b} tests step next = record {
    going = goes_on tests.going (λ box is inside all has. all a has) step;
    there = next.0;
    below = λ same x has less. up_to tests step same x has (either x less (next.2 x (subst (λ sets. PlaceHas sets t x) (sym same) has)));
  }
    where
      either : (x : ℤ) → x <ℤ b → (x ≤ℤ a) ⊎ (b ≤ℤ x) → x ≤ℤ a
      either x less (inl le) = le
      either x less (inr ge) = absurd (omega (arith, ints, ge, less))

  pub last_below : {old now new : Context} {a : ℤ} {done : Unit {0}} → TestedBelow old now a → IsStep (Unsupported posted) (ValueSupported posted i t a) now new (Ok done) → IsNextAt (box_of new) t a None → IsStep (Unsupported posted) (AllSupported posted i t) old new (Ok tt)
  last_below {old = old} {now = now} {new = new} {a = a} tests step none =
      arrives (goes_on tests.going (λ box is inside all has. all a has) step) (λ same x has. up_to tests step same x has (none x (subst (λ sets. PlaceHas sets t x) (sym same) has)))

  pub test_fails : {old now new : Context} {a : ℤ} {fail : Fail} {end : Result (Unit {0}) Fail} → TestedBelow old now a → IsStep (Unsupported posted) (ValueSupported posted i t a) now new (Err fail) → IsErr end → IsStep (Unsupported posted) (AllSupported posted i t) old new end
  test_fails {old = old} {now = now} {new = new} {a = a} tests step err = goes_wrong tests.going (λ box is inside all has. all a has) step err

  -- ---- a place

  the_term : (u : Term) → StandsAt posted.con i t → StandsAt posted.con i u → t ≡ u
  the_term u one another = cc (one, another)

  pub each_closed : {old new : Context} {result : Result (Unit {0}) Fail} → StandsAt posted.con i t → AsksEach (vars_of old) posted.con t → IsStep (Unsupported posted) (AllSupported posted i t) old new result → IsStep (Unsupported posted) (PlaceClosed (vars_of old) posted i) old new result
  each_closed {old = old} stands each step =
      as_step (λ box is inside closed a has. closed t a stands (record { there = has; ends = λ either. absurd (⊎_elim (λ bounded. true≢false (sym bounded ∙ each.unbounded)) each.inner either) }))
      (λ all u a at asked. all a (subst (λ x. PlaceHas (box_of old) x a) (sym (the_term u stands at)) asked.there)) step

  least_closed : (vars : List Variable) (box : List (List ℤ)) → StandsAt posted.con i t → IsBox vars box → PlaceClosed vars posted i box → EndSupported IsLeastAt posted i t box
  least_closed vars box stands is closed a least = closed t a stands (record { there = least.there; ends = λ either. least_end vars box t a is least })

  greatest_closed : (vars : List Variable) (box : List (List ℤ)) → StandsAt posted.con i t → IsBox vars box → PlaceClosed vars posted i box → EndSupported IsGreatestAt posted i t box
  greatest_closed vars box stands is closed a great = closed t a stands (record { there = great.there; ends = λ either. greatest_end vars box t a is great })

  ends_close : (vars : List Variable) (sets : List (List ℤ)) → StandsAt posted.con i t → IsBox vars sets → AsksEnds vars posted.con t sets → EndSupported IsLeastAt posted i t sets × EndSupported IsGreatestAt posted i t sets → PlaceClosed vars posted i sets
  ends_close vars sets stands is asks both u a at asked = supported (which asks (subst (λ x. Asked (level posted.con) vars sets x a) (sym (the_term u stands at)) asked))
    where
      which : AsksEnds vars posted.con t sets → Asked (level posted.con) vars sets t a → IsLeastAt sets t a ⊎ IsGreatestAt sets t a
      which (inl hull) asked = end_is vars sets t a is (asked.ends (inr hull))
      which (inr (inl bounded)) asked = end_is vars sets t a is (asked.ends (inl bounded))
      which (inr (inr ends)) asked = ends a asked.there

      supported : IsLeastAt sets t a ⊎ IsGreatestAt sets t a → Supported posted.lists posted.con i a sets
      supported (inl least) = both.0 a least
      supported (inr great) = both.1 a great

  pub ends_closed : {old mid new : Context} {done : Unit {0}} {result : Result (Unit {0}) Fail} → StandsAt posted.con i t → IsBox (vars_of old) (box_of old) → AsksEnds (vars_of old) posted.con t (box_of old) → IsStep (Unsupported posted) (EndSupported IsLeastAt posted i t) old mid (Ok done)
      → IsStep (Unsupported posted) (EndSupported IsGreatestAt posted i t) mid new result → IsStep (Unsupported posted) (PlaceClosed (vars_of old) posted i) old new result
  ends_closed {old = old} stands is_old asks one two =
      as_step (λ box is inside closed. (least_closed (vars_of old) box stands is closed, greatest_closed (vars_of old) box stands is closed)) (ends_close (vars_of old) (box_of old) stands is_old asks) (then_step one two)

  pub end_fails : {old new : Context} {fail : Fail} {end : Result (Unit {0}) Fail} → StandsAt posted.con i t → IsStep (Unsupported posted) (EndSupported IsLeastAt posted i t) old new (Err fail) → IsErr end → IsStep (Unsupported posted) (PlaceClosed (vars_of old) posted i) old new end
  end_fails {old = old} {new = new} {fail = fail} {end = Ok done} stands step err = cc
  end_fails {old = old} {new = new} {fail = fail} {end = Err f} stands step err = failing f step.loses (λ box is inside closed. step.fail box is inside (least_closed (vars_of old) box stands is closed))

-- the numbers behind a in a word are fewer behind a greater one
pub gap_falls : (a b m : ℤ) → a <ℤ b → b ≤ℤ m → int_gap b m < int_gap a m
gap_falls a b m less le = let from = plus-int_gap a m (omega (arith, ints, less, le)) in let next = plus-int_gap b m le in omega (arith, ints, from, next, less)

-- ---- all places

module _ (posted : Posted) where
  -- the first n places are narrowed
  pub record RevisedTo (old now : Context) (n : ℕ) : Type 0 where
    pub going : Going (Unsupported posted) (ClosedUnderLeaf (vars_of old) posted) old now
    pub before : box_of now ≡ box_of old → (j : ℕ) → j < n → PlaceClosed (vars_of old) posted j (box_of old)

  pub none_revised : (c : Context) → RevisedTo c c 0
  none_revised c = record { going = begins c; before = λ same j less. absurd (omega (arith, less)) }

  place_of : {old now : Context} (i : ℕ) → Going (Unsupported posted) (ClosedUnderLeaf (vars_of old) posted) old now → (box : List (List ℤ)) → ClosedUnderLeaf (vars_of old) posted box → PlaceClosed (vars_of now) posted i box
  place_of i going box closed t a stands asked = closed.supported i t a stands (subst (λ vars. Asked (level posted.con) vars box t a) (same_vars going.loses) asked)

  pub one_more_revised : {old now new : Context} {n : ℕ} {done : Unit {0}} → RevisedTo old now n → IsStep (Unsupported posted) (PlaceClosed (vars_of now) posted n) now new (Ok done) → RevisedTo old new (n + 1)
  one_more_revised {old = old} {now = now} {new = new} {n = n} revised step = record {
    going = goes_on revised.going (λ box is inside closed. place_of n revised.going box closed) step;
    before = λ same j less.
        (let unchanged : box_of now ≡ box_of old = same_before revised.going step.loses same in
        let still : box_of new ≡ box_of now → PlaceClosed (vars_of now) posted n (box_of now) = step.still in
        let here : PlaceClosed (vars_of old) posted n (box_of old) = subst (PlaceClosed (vars_of old) posted n) unchanged (subst (λ vars. PlaceClosed vars posted n (box_of now)) (same_vars revised.going.loses) (still (same ∙ sym unchanged))) in
        below_more (λ k. PlaceClosed (vars_of old) posted k (box_of old)) n (revised.before unchanged) here j less);
  }

  pub revise_fails : {old now new : Context} {n : ℕ} {fail : Fail} {end : Result (Unit {0}) Fail} → RevisedTo old now n → IsStep (Unsupported posted) (PlaceClosed (vars_of now) posted n) now new (Err fail) → IsErr end → IsStep (Unsupported posted) (ClosedUnderLeaf (vars_of old) posted) old new end
  revise_fails {old = old} {now = now} {new = new} {n = n} revised step err = goes_wrong revised.going (λ box is inside closed. place_of n revised.going box closed) step err

  pub all_revised : {old now : Context} {n : ℕ} → length (places posted.con) ≤ n → (places posted.con ≡ [] → Meets posted.lists posted.con []) → RevisedTo old now n → IsStep (Unsupported posted) (ClosedUnderLeaf (vars_of old) posted) old now (Ok tt)
  all_revised whole bare revised =
      arrives revised.going (λ same. record { bare = bare; supported = λ i t a stands asked. revised.before same i (let within = slice_get_within (places posted.con) i t stands in omega (arith, within, whole)) t a stands asked })

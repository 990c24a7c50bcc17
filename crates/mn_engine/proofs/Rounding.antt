-- A round of passes, and rounds until the sets are closed.
use Rattle.std.proofs.Common.{◌≡◌, ℕ, zero, suc, ◌+◌, ◌-◌, ◌<◌, ◌≤◌, ◌⊎◌, ℤ, inl, inr, Bool, true, false, not, List, [], ◌∷◌, length, map, option_map, slice_get, slice_set, Some, Result, Ok, Err, IsErr, OnErr, refl, sym, subst, ap, ◌∙◌, arith}
use Rattle.std.proofs.lemmas.Option.{slice_get-map, slice_get_within}
use Rattle.std.specs.List.{AllByRecursion}
use Rattle.mn_model.specs.Decided.{Decided, decide_nat}
use Rattle.mn_model.proofs.Lists.{all_at}
use Rattle.mn_boxes.specs.Boxes.{IsBox, Inside, count_of}
use Rattle.mn_boxes.specs.Sets.{Variable}
use Rattle.mn_prop.specs.Contexts.{Context, box_of, vars_of}
use Rattle.mn_prop.specs.Passes.{IsStep, Keeps, NoneHas, OnlyTakes}
use Rattle.mn_prop.specs.Posts.{ClosedUnder, IsReadyToRun, Posted}
use Rattle.mn_prop.specs.declared.context.Fail.{Fail}
use Rattle.mn_prop.proofs.Boxing.{inside_itself}
use Rattle.mn_prop.proofs.Stepping.{Rules, no_more, none_gone, noted, only_takes, some_gone, taken_at_rest, taken_through, taken_vars}
use Rattle.mn_engine.specs.Settling.{AreReady, ClosedEach, ComesAt, FirstClosed, IsAmong, IsSettled, closed_last}

-- ---- places, from the first one or from the last

one_among : (back : Bool) (len i at k : ℕ) → ComesAt back len i at → IsAmong back len (i + 1) k → (k ≡ at → ⊥) → IsAmong back len i k
one_among false len i at k comes among differs = omega (arith, comes, among, differs)
one_among true len i at k comes among differs = omega (arith, comes, among, differs)

-- those that are among one more and not among so many are the one
only_one : (back : Bool) (len i at k : ℕ) → ComesAt back len i at → IsAmong back len (i + 1) k → (IsAmong back len i k → ⊥) → k ≡ at
only_one false len i at k comes among not_yet = omega (arith, comes, among, not_yet)
only_one true len i at k comes among not_yet = omega (arith, comes, among, not_yet)

all_among : (back : Bool) (len k : ℕ) → k < len → IsAmong back len len k
all_among false len k within = within
all_among true len k within = omega (arith, within)

-- the last of them are the first in the other direction
turned_round : (back : Bool) (len last k : ℕ) → k < len → last ≤ len → IsAmong (not back) len last k → IsAmong back len (len - last) k → ⊥
turned_round false len last k within few among front = omega (arith, within, few, among, front)
turned_round true len last k within few among front = omega (arith, within, few, among, front)

pub comes_within : (back : Bool) (len i at : ℕ) → i < len → ComesAt back len i at → at < len
comes_within false len i at below comes = omega (arith, below, comes)
comes_within true len i at below comes = omega (arith, below, comes)

-- one or the other, and not the one
pub otherwise : {A B : Type 0} → A ⊎ B → (A → ⊥) → B
otherwise (inl a) not_a = absurd (not_a a)
otherwise (inr b) not_a = b

-- what is so of an error
pub on_err : {A E X : Type 0} (r : Result A E) → IsErr r → X → OnErr r X
on_err (Ok a) err x = tt
on_err (Err e) err x = x

-- ---- what the propagators were posted for

pub posted_at : {P : Type 0} (f : P → Posted) (ys : List P) (m : ℕ) (y : P) → slice_get ys m ≡ Some y → slice_get (map f ys) m ≡ Some (f y)
posted_at f ys m y at = slice_get-map f ys m ∙ ap (option_map f) at

-- one that has passed stands in the place of the one before
pub posted_set : {P : Type 0} (f : P → Posted) (ys : List P) (m : ℕ) (y z : P) → slice_get ys m ≡ Some y → f z ≡ f y → map f (slice_set ys m z) ≡ map f ys
posted_set f [] m y z at same = refl
posted_set f (w ∷ ys) zero y z at same = let is : w ≡ y = cc in ap (λ p. p ∷ map f ys) (same ∙ sym (ap f is))
posted_set f (w ∷ ys) (suc m) y z at same = ap (λ ps. f w ∷ ps) (posted_set f ys m y z at same)

all_from : (Q : Posted → Type 0) (posts : List Posted) → ((k : ℕ) (p : Posted) → slice_get posts k ≡ Some p → Q p) → AllByRecursion Q posts
all_from Q [] each = tt
all_from Q (p ∷ posts) each = (each 0 p refl, all_from Q posts (λ k q at. each (suc k) q at))

-- ---- passes one behind another

-- values alone went so far, and each box that is closed under each is left
pub record Onward (posts : List Posted) (old now : Context) : Type 0 where
  pub takes : OnlyTakes old now
  pub sound : Keeps (vars_of old) (ClosedEach (vars_of old) posts) (box_of old) (box_of now)
  pub no_more : count_of (box_of now) ≤ count_of (box_of old)

onward_itself : (posts : List Posted) (c : Context) → Onward posts c c
onward_itself posts c = record { takes = record { frame = refl; boxes = λ is. is; inside = inside_itself (box_of c) }; sound = λ box is i closed. i; no_more = omega arith }

abbrev pub at_rest : Context → Context
at_rest c = record c { moved = false }

module _ {posts : List Posted} {old now : Context} {p : Posted} (onward : Onward posts old now) (m : ℕ) (at : slice_get posts m ≡ Some p) where
  -- a box that is closed under each is closed under the one that passes
  closed_here : (box : List (List ℤ)) → ClosedEach (vars_of old) posts box → ClosedUnder (vars_of now) p box
  closed_here box closed = subst (λ vars. ClosedUnder vars p box) (sym (taken_vars onward.takes)) (all_at (λ q. ClosedUnder (vars_of old) q box) posts m p closed at)

  box_here : (box : List (List ℤ)) → IsBox (vars_of old) box → IsBox (vars_of now) box
  box_here box is = subst (λ vars. IsBox vars box) (sym (taken_vars onward.takes)) is

  one_onward : {R : Rules} {new : Context} {done : Unit {0}} → IsStep R (ClosedUnder (vars_of now) p) (at_rest now) new (Ok done) → Onward posts old new
  one_onward {new = new} step =
      let next : (box : List (List ℤ)) → IsBox (vars_of now) box → Inside box (box_of now) → ClosedUnder (vars_of now) p box → Inside box (box_of new) = step.sound in
      let few = no_more step.loses in
      let was = onward.no_more in
      record {
        takes = taken_through onward.takes (taken_through (taken_at_rest now) (only_takes step.loses));
        sound = λ box is i closed. next box (box_here box is) (onward.sound box is i closed) (closed_here box closed);
        no_more = omega (arith, few, was);
      }

  -- or it fails
  pub none_onward : {R : Rules} {new : Context} {fail : Fail} → IsStep R (ClosedUnder (vars_of now) p) (at_rest now) new (Err fail) → NoneHas (vars_of old) (ClosedEach (vars_of old) posts) (box_of old)
  none_onward step box is i closed =
      let none : (b : List (List ℤ)) → IsBox (vars_of now) b → Inside b (box_of now) → ClosedUnder (vars_of now) p b → ⊥ = step.fail in
      none box (box_here box is) (onward.sound box is i closed) (closed_here box closed)

  pub taken_onward : {R : Rules} {new : Context} {result : Result (Unit {0}) Fail} → IsStep R (ClosedUnder (vars_of now) p) (at_rest now) new result → OnlyTakes old new
  taken_onward step = taken_through onward.takes (taken_through (taken_at_rest now) (only_takes step.loses))

-- ---- a round

-- all up to place i have passed, and the sets are closed under the last of them
pub record Passing (back : Bool) (posts : List Posted) (old now : Context) (i last : ℕ) : Type 0 where
  pub onward : Onward posts old now
  pub within : i ≤ length posts
  pub few : last ≤ i
  pub closed : (k : ℕ) (p : Posted) → slice_get posts k ≡ Some p → IsAmong back (length posts) i k → (IsAmong back (length posts) (i - last) k → ⊥) → ClosedUnder (vars_of old) p (box_of now)
  pub fewer : (last ≡ i) ⊎ (count_of (box_of now) < count_of (box_of old))

pub none_passed : {back : Bool} {posts : List Posted} {c : Context} {from : ℕ} → from ≤ length posts → FirstClosed back (vars_of c) posts from (box_of c) → Passing back posts c c from from
none_passed {back = back} {posts = posts} {c = c} {from = from} within first = record { onward = onward_itself posts c; within = within; few = omega arith; closed = λ k p at among front. first k p at among; fewer = inl refl }

module _ {R : Rules} {back : Bool} {posts : List Posted} {old now new : Context} {i last : ℕ} {p : Posted} {done : Unit {0}} (passing : Passing back posts old now i last) (m : ℕ) (below : i < length posts) (comes : ComesAt back (length posts) i m) (at : slice_get posts m ≡ Some p)
    (step : IsStep R (ClosedUnder (vars_of now) p) (at_rest now) new (Ok done)) where
  the_one : (q : Posted) (k : ℕ) → slice_get posts k ≡ Some q → k ≡ m → p ≡ q
  the_one q k stands same = one (subst (λ n. slice_get posts n ≡ Some q) same stands) at
    where
      one : slice_get posts m ≡ Some q → slice_get posts m ≡ Some p → p ≡ q
      one a b = cc

  here : (box : List (List ℤ)) → ClosedUnder (vars_of now) p box → ClosedUnder (vars_of old) p box
  here box closed = subst (λ vars. ClosedUnder vars p box) (taken_vars passing.onward.takes) closed

  -- nothing went
  one_at_rest : new.moved ≡ false → Passing back posts old new (i + 1) (last + 1)
  one_at_rest quiet = record {
    onward = one_onward passing.onward m at step;
    within = omega (arith, below);
    few = let few = passing.few in omega (arith, few);
    closed = λ k q stands among front. subst (ClosedUnder (vars_of old) q) (sym same) (by k q stands among (λ before. front (subst (λ n. IsAmong back (length posts) n k) less before)) (decide_nat k m));
    fewer = as_before passing.fewer;
  }
    where
      same : box_of new ≡ box_of now
      same = none_gone (at_rest now) new quiet (noted step.loses)

      less : i - last ≡ (i + 1) - (last + 1)
      less = omega arith

      still : box_of new ≡ box_of now → ClosedUnder (vars_of now) p (box_of now)
      still = step.still

      by : (k : ℕ) (q : Posted) → slice_get posts k ≡ Some q → IsAmong back (length posts) (i + 1) k → (IsAmong back (length posts) (i - last) k → ⊥) → Decided (k ≡ m) → ClosedUnder (vars_of old) q (box_of now)
      by k q stands among front (inl is) = subst (λ r. ClosedUnder (vars_of old) r (box_of now)) (the_one q k stands is) (here (box_of now) (still same))
      by k q stands among front (inr differs) = passing.closed k q stands (one_among back (length posts) i m k comes among differs) front

      as_before : (last ≡ i) ⊎ (count_of (box_of now) < count_of (box_of old)) → (last + 1 ≡ i + 1) ⊎ (count_of (box_of new) < count_of (box_of old))
      as_before (inl is) = inl (omega (arith, is))
      as_before (inr less) = inr (let count = ap count_of same in omega (arith, less, count))

  now_fewer : new.moved ≡ true → count_of (box_of new) < count_of (box_of old)
  now_fewer moved = let less = some_gone (at_rest now) new refl moved (noted step.loses) in let was = passing.onward.no_more in omega (arith, less, was)

  -- a value went, and the sets are closed under the one that passed
  one_settled : new.moved ≡ true → ClosedUnder (vars_of now) p (box_of new) → Passing back posts old new (i + 1) 1
  one_settled moved settled = record {
    onward = one_onward passing.onward m at step;
    within = omega (arith, below);
    few = omega arith;
    closed = λ k q stands among front.
        subst (λ r. ClosedUnder (vars_of old) r (box_of new)) (the_one q k stands (only_one back (length posts) i m k comes among (λ before. front (subst (λ n. IsAmong back (length posts) n k) less before)))) (here (box_of new) settled);
    fewer = inr (now_fewer moved);
  }
    where
      less : i ≡ (i + 1) - 1
      less = omega arith

  -- or maybe not
  none_settled : new.moved ≡ true → Passing back posts old new (i + 1) 0
  none_settled moved = record {
    onward = one_onward passing.onward m at step;
    within = omega (arith, below);
    few = omega arith;
    closed = λ k q stands among front. absurd (front (subst (λ n. IsAmong back (length posts) n k) less among));
    fewer = inr (now_fewer moved);
  }
    where
      less : i + 1 ≡ (i + 1) - 0
      less = omega arith

  pub passed : (moved settles : Bool) → new.moved ≡ moved → (settles ≡ true → ClosedUnder (vars_of now) p (box_of new)) → Passing back posts old new (i + 1) (closed_last moved settles last)
  passed false settles is settled = one_at_rest is
  passed true true is settled = one_settled is (settled refl)
  passed true false is settled = none_settled is

-- at the end the sets are closed under the first ones in the other direction
pub first_closed : {back : Bool} {posts : List Posted} {old now : Context} {i last : ℕ} → Passing back posts old now i last → length posts ≤ i → FirstClosed (not back) (vars_of old) posts last (box_of now)
first_closed {back = back} {posts = posts} {old = old} {now = now} {i = i} {last = last} passing le k p at among =
    let within = slice_get_within posts k p at in
    let all = passing.within in
    let few = passing.few in
    let end : length posts ≡ i = omega (arith, all, le) in
    passing.closed k p at (subst (λ n. IsAmong back (length posts) n k) end (all_among back (length posts) k within))
    (λ front. turned_round back (length posts) last k within (omega (arith, few, all)) among (subst (λ n. IsAmong back (length posts) (n - last) k) (sym end) front))

-- the one at a place is ready
pub is_ready : {vars now_vars : List Variable} {p : Posted} (posts : List Posted) (m : ℕ) → now_vars ≡ vars → AreReady vars posts → slice_get posts m ≡ Some p → IsReadyToRun now_vars p
is_ready {vars = vars} {now_vars = now_vars} {p = p} posts m same ready at = subst (λ v. IsReadyToRun v p) (sym same) (all_at (IsReadyToRun vars) posts m p ready at)

-- ---- rounds

-- rounds took values alone so far, and the sets are closed under the first of the propagators, which stand as they were
-- posted
pub record Rounds (back : Bool) (posts now_posts : List Posted) (old now : Context) (closed : ℕ) : Type 0 where
  pub posted : now_posts ≡ posts
  pub onward : Onward posts old now
  pub within : closed ≤ length posts
  pub first : FirstClosed back (vars_of old) posts closed (box_of now)

pub no_round : (back : Bool) (posts : List Posted) (c : Context) → Rounds back posts posts c c 0
no_round back posts c = record { posted = refl; onward = onward_itself posts c; within = omega arith; first = λ k p at among. absurd (none back k (slice_get_within posts k p at) among) }
  where
    none : (b : Bool) (k : ℕ) → k < length posts → IsAmong b (length posts) 0 k → ⊥
    none false k within among = omega (arith, among)
    none true k within among = omega (arith, within, among)

module _ {back : Bool} {posts now_posts : List Posted} {old now : Context} {closed : ℕ} (rounds : Rounds back posts now_posts old now closed) where
  same_vars : vars_of now ≡ vars_of old
  same_vars = taken_vars rounds.onward.takes

  pub ready_again : AreReady (vars_of old) posts → AreReady (vars_of now) now_posts
  ready_again ready = subst (λ vars. AreReady vars now_posts) (sym same_vars) (subst (AreReady (vars_of old)) (sym rounds.posted) ready)

  pub closed_again : FirstClosed back (vars_of now) now_posts closed (box_of now)
  closed_again = subst (λ vars. FirstClosed back vars now_posts closed (box_of now)) (sym same_vars) (subst (λ ps. FirstClosed back (vars_of old) ps closed (box_of now)) (sym rounds.posted) rounds.first)

  -- what another round says, of the variables and the propagators of before
  sound_again : (new : Context) → Keeps (vars_of now) (ClosedEach (vars_of now) now_posts) (box_of now) (box_of new) → Keeps (vars_of old) (ClosedEach (vars_of old) posts) (box_of old) (box_of new)
  sound_again new sound box is i closed =
      sound box (subst (λ vars. IsBox vars box) (sym same_vars) is) (rounds.onward.sound box is i closed) (subst (λ vars. ClosedEach vars now_posts box) (sym same_vars) (subst (λ ps. ClosedEach (vars_of old) ps box) (sym rounds.posted) closed))

  first_again : (new : Context) (last : ℕ) → FirstClosed (not back) (vars_of now) now_posts last (box_of new) → FirstClosed (not back) (vars_of old) posts last (box_of new)
  first_again new last first = subst (λ ps. FirstClosed (not back) (vars_of old) ps last (box_of new)) rounds.posted (subst (λ vars. FirstClosed (not back) vars now_posts last (box_of new)) same_vars first)

  pub one_round : {new : Context} {new_posts : List Posted} (last : ℕ) → new_posts ≡ now_posts → OnlyTakes now new → Keeps (vars_of now) (ClosedEach (vars_of now) now_posts) (box_of now) (box_of new) → last ≤ length now_posts → FirstClosed (not back) (vars_of now) now_posts last (box_of new)
      → count_of (box_of new) < count_of (box_of now) → Rounds (not back) posts new_posts old new last
  one_round {new = new} {new_posts = new_posts} last posted takes sound within first fewer = record {
    posted = posted ∙ rounds.posted;
    onward = record { takes = taken_through rounds.onward.takes takes; sound = sound_again new sound; no_more = let few = rounds.onward.no_more in omega (arith, few, fewer) };
    within = subst (λ ps. last ≤ length ps) rounds.posted within;
    first = first_again new last first;
  }

  pub last_round : {new : Context} (last : ℕ) → IsBox (vars_of old) (box_of old) → OnlyTakes now new → Keeps (vars_of now) (ClosedEach (vars_of now) now_posts) (box_of now) (box_of new) → last ≡ length now_posts → FirstClosed (not back) (vars_of now) now_posts last (box_of new)
      → IsSettled (vars_of old) posts (box_of old) (box_of new)
  last_round {new = new} last is takes sound whole first =
      let all = taken_through rounds.onward.takes takes in
      record {
        lawful = subst (λ vars. IsBox vars (box_of new)) (taken_vars all) (all.boxes is);
        closed = all_from (λ p. ClosedUnder (vars_of old) p (box_of new)) posts (λ k p at. first_again new last first k p at (subst (λ n. IsAmong (not back) (length posts) n k) (sym (whole ∙ ap length rounds.posted)) (all_among (not back) (length posts) k (slice_get_within posts k p at))));
        kept = sound_again new sound;
      }

  pub no_more_rounds : NoneHas (vars_of now) (ClosedEach (vars_of now) now_posts) (box_of now) → NoneHas (vars_of old) (ClosedEach (vars_of old) posts) (box_of old)
  no_more_rounds none box is i closed =
      none box (subst (λ vars. IsBox vars box) (sym same_vars) is) (rounds.onward.sound box is i closed) (subst (λ vars. ClosedEach vars now_posts box) (sym same_vars) (subst (λ ps. ClosedEach (vars_of old) ps box) (sym rounds.posted) closed))

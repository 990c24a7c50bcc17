-- Two vectors that differ at so many places at least.
use Rattle.std.proofs.Common.{◌≡◌, ◌≢◌, ℕ, ◌+◌, ◌<◌, ◌≤◌, ℤ, pos, ◌≤ℤ◌, ◌<ℤ◌, ◌⊎◌, inl, inr, Bool, true, false, List, [], ◌∷◌, ◌++◌, length, slice_get, slice_index_or, Some, Result, Ok, Err, IsErr, refl, sym, subst, ap, ◌∙◌, arith, true≢false}
use Rattle.std.proofs.lemmas.Int.{ints}
use Rattle.std.proofs.lemmas.Option.{slice_get_within}
use borrow.Author.Count.{below_more}
use Rattle.mn_model.proofs.Lists.{some_there}
use Rattle.mn_model.specs.Decided.{Decided, decide_int}
use Rattle.mn_model.specs.declared.constraint.Con.TheVariants as con
use Rattle.mn_model.specs.declared.constraint.Term.{Term}
use Rattle.mn_model.specs.declared.declaration.Tuples.{Tuples}
use Rattle.mn_boxes.specs.Boxes.{Inside, IsBox}
use Rattle.mn_boxes.specs.Places.{PlaceHas}
use Rattle.mn_boxes.specs.Sets.{Variable}
use Rattle.mn_meaning.specs.Families.{differing}
use Rattle.mn_closure.specs.Closed.{Asked, IsAlone, LeafClosed}
use Rattle.mn_closure.specs.Levels.{Arc}
use Rattle.mn_closure.specs.Supports.{Choice, IsOpen, Supported}
use Rattle.mn_closure.proofs.Wider.{wider_place}
use Rattle.mn_prop.specs.Contexts.{Context, IsNamed, box_of, vars_of}
use Rattle.mn_prop.specs.Losses.{Unsupported, nothing_goes}
use Rattle.mn_prop.specs.Passes.{IsStep}
use Rattle.mn_prop.specs.Posts.{IsReady, beside}
use Rattle.mn_prop.specs.declared.context.Fail.{Fail}
use Rattle.mn_prop.proofs.Boxing.{inside_through}
use Rattle.mn_prop.proofs.Ended.{Least, least_of}
use Rattle.mn_prop.proofs.Going.{Going, arrives, begins, goes_on, goes_wrong, same_before}
use Rattle.mn_prop.proofs.Stepping.{as_step, by_rule, failing, goes_inside, same_vars}
use Rattle.mn_count.specs.Distances.{AreParted, CanDiffer, IsSharedIn, is_one, open_pairs}
use Rattle.mn_count.specs.Singles.{EachAsked, ThatAt}
use Rattle.mn_count.proofs.Entries.{choice_inside, chosen_there, same_entry}
use Rattle.mn_count.proofs.OpenPairs.{MostWith, at_most_open, fewer_open, most_with, one_so}
use Rattle.mn_count.proofs.Vectors.{AllEnds, IsOf, VectorsWith, closed_first, closed_second, closed_some, closed_vectors, first_at, first_ends, first_named, first_stands, has_ends, second_at, second_ends, second_named, second_stands, supported_first, supported_second}

-- ---- one pair

-- a value other than a given one, at a place with two
other_at : (box : List (List ℤ)) (t : Term) (a : ℤ) → IsOpen box t → (b : ℤ) × PlaceHas box t b × (a ≢ b)
other_at box t a two = by (decide_int two.one a)
  where
    by : Decided (two.one ≡ a) → (b : ℤ) × PlaceHas box t b × (a ≢ b)
    by (inl same) = (two.another, two.has_another, λ e. two.differ (same ∙ e))
    by (inr differs) = (two.one, two.has_one, λ e. differs (sym e))

pub open_parted : {vars : List Variable} {box : List (List ℤ)} (x y : Term) → IsOpen box x → IsOpen box y → AreParted vars x y box
open_parted {box = box} x y one two = (λ a asked. other_at box y a two, λ b asked. (let other = other_at box x b one in (other.0, other.1, λ e. other.2 (sym e))))

module _ (old new : Context) (result : Result (Unit {0}) Fail) (x y : Term) (a : ℤ) (lawful : IsBox (vars_of old) (box_of old)) (named_x : IsNamed (vars_of old) x) (named_y : IsNamed (vars_of old) y) where
  pub first_parts : IsAlone (box_of old) x a → IsStep (ThatAt y a) (EachAsked (vars_of old) y (λ b. b ≢ a)) old new result → IsStep (IsSharedIn x y) (AreParted (vars_of old) x y) old new result
  first_parts alone step =
      by_rule (λ box inside t b has that. inl (that.0, λ d at. alone d (wider_place box (box_of old) inside x d at) ∙ sym that.1))
      (as_step (λ box is inside parted b asked same. (let other = parted.1 b asked in other.2 (alone other.0 (wider_place box (box_of old) inside x other.0 other.1) ∙ sym same))) parted_so step)
    where
      mine : Least Arc (vars_of old) (box_of old) x
      mine = least_of Arc (vars_of old) (box_of old) x lawful named_x

      yours : Least Arc (vars_of old) (box_of old) y
      yours = least_of Arc (vars_of old) (box_of old) y lawful named_y

      parted_so : EachAsked (vars_of old) y (λ b. b ≢ a) (box_of old) → AreParted (vars_of old) x y (box_of old)
      parted_so each = (λ d asked. (yours.value, yours.least.there, λ e. each yours.value yours.asked (sym e ∙ alone d asked.there)), λ b asked. (mine.value, mine.least.there, λ e. each b asked (sym e ∙ alone mine.value mine.least.there)))

  pub second_parts : IsAlone (box_of old) y a → IsStep (ThatAt x a) (EachAsked (vars_of old) x (λ b. b ≢ a)) old new result → IsStep (IsSharedIn x y) (AreParted (vars_of old) x y) old new result
  second_parts alone step =
      by_rule (λ box inside t b has that. inr (that.0, λ d at. alone d (wider_place box (box_of old) inside y d at) ∙ sym that.1))
      (as_step (λ box is inside parted b asked same. (let other = parted.0 b asked in other.2 (same ∙ sym (alone other.0 (wider_place box (box_of old) inside y other.0 other.1))))) parted_so step)
    where
      mine : Least Arc (vars_of old) (box_of old) x
      mine = least_of Arc (vars_of old) (box_of old) x lawful named_x

      yours : Least Arc (vars_of old) (box_of old) y
      yours = least_of Arc (vars_of old) (box_of old) y lawful named_y

      parted_so : EachAsked (vars_of old) x (λ b. b ≢ a) (box_of old) → AreParted (vars_of old) x y (box_of old)
      parted_so each = (λ d asked. (yours.value, yours.least.there, λ e. each d asked (e ∙ alone yours.value yours.least.there)), λ b asked. (mine.value, mine.least.there, λ e. each mine.value mine.asked (e ∙ alone b asked.there)))

-- ---- all pairs

no_pairs : (box : List (List ℤ)) (v w : List Term) → v ++ w ≡ [] → open_pairs box v w ≡ 0
no_pairs box [] w none = refl
no_pairs box (x ∷ v) w none = cc

module _ (v w : List Term) (k : ℤ) (lists : List Tuples) where
  abbrev pub AreFar : List ℤ → List ℤ → Type 0
  AreFar xs ys = k ≤ℤ pos (differing xs ys)

  pub hamming_is : IsOf (con.Hamming v w k) v w AreFar
  hamming_is = record { arc = refl; placed = refl; meets = λ tables s m. m; met = λ tables s m. m }

  -- pair i is parted, if it could differ in the old box
  abbrev pub IsApartAt : List Variable → List (List ℤ) → ℕ → List (List ℤ) → Type 0
  IsApartAt vars old i box = (x y : Term) → slice_get v i ≡ Some x → slice_get w i ≡ Some y → is_one old x y ≡ false → AreParted vars x y box

  module _ (vars : List Variable) (box : List (List ℤ)) (lawful : IsBox vars box) (ready : IsReady vars lists (con.Hamming v w k)) where
    firsts : AllEnds box v
    firsts = first_ends hamming_is vars lists box lawful ready

    seconds : AllEnds box w
    seconds = second_ends hamming_is vars lists box lawful ready

    long : length w ≡ length v
    long = ready.suits.shaped

    -- a value with one of the other place makes a choice in which almost all pairs differ that can
    beside_it : (i : ℕ) (x y : Term) (a b : ℤ) → slice_get v i ≡ Some x → slice_get w i ≡ Some y → PlaceHas box x a → PlaceHas box y b → (k <ℤ pos (open_pairs box v w)) ⊎ ((k ≡ pos (open_pairs box v w)) × ((a ≢ b) ⊎ (is_one box x y ≡ true))) → VectorsWith box v w AreFar (first_at i) a × VectorsWith box v w AreFar (second_at i) b
    beside_it i x y a b at_x at_y has had enough = (record { xs = m.xs; ys = m.ys; first = m.first; second = m.second; given = m.one; related = far enough }, record { xs = m.xs; ys = m.ys; first = m.first; second = m.second; given = m.another; related = far enough })
      where
        m : MostWith box v w i x y a b
        m = most_with box v w i x y a b long firsts seconds at_x at_y has had

        far : (k <ℤ pos (open_pairs box v w)) ⊎ ((k ≡ pos (open_pairs box v w)) × ((a ≢ b) ⊎ (is_one box x y ≡ true))) → AreFar m.xs m.ys
        far (inl more) = let nearly = m.nearly in omega (arith, ints, nearly, more)
        far (inr tight) = let all = m.all tight.1 in let is = tight.0 in omega (arith, ints, all, is)

    -- more pairs can differ than have to
    pub many_closed : k <ℤ pos (open_pairs box v w) → LeafClosed vars lists (con.Hamming v w k) box
    many_closed more = closed_vectors hamming_is vars lists box (λ none. (let zero = no_pairs box v w none in omega (arith, ints, more, zero)))
        (λ i x a at asked. (
        let y = some_there w i (let within = slice_get_within v i x at in let same = long in omega (arith, within, same)) in
        let other = least_of Arc vars box y.0 lawful (second_named hamming_is vars lists i y.0 ready y.1) in
        (beside_it i x y.0 a other.value at y.1 asked.there other.least.there (inl more)).0))
        (λ i y b at asked. (
        let x = some_there v i (let within = slice_get_within w i y at in let same = long in omega (arith, within, same)) in
        let other = least_of Arc vars box x.0 lawful (first_named hamming_is vars lists i x.0 ready x.1) in
        (beside_it i x.0 y other.value b x.1 at other.least.there asked.there (inl more)).1))

    -- as many can as have to, and each of them is parted
    pub parted_closed : pos (open_pairs box v w) ≡ k → ((i : ℕ) → i < length v → IsApartAt vars box i box) → LeafClosed vars lists (con.Hamming v w k) box
    parted_closed tight apart = closed_vectors hamming_is vars lists box (λ none. (let zero = no_pairs box v w none in omega (arith, ints, tight, zero)))
        (λ i x a at asked. (
        let y = some_there w i (let within = slice_get_within v i x at in let same = long in omega (arith, within, same)) in
        first i x y.0 a at y.1 asked (is_one box x y.0) refl))
        (λ i y b at asked. (
        let x = some_there v i (let within = slice_get_within w i y at in let same = long in omega (arith, within, same)) in
        second i x.0 y b x.1 at asked (is_one box x.0 y) refl))
      where
        first : (i : ℕ) (x y : Term) (a : ℤ) → slice_get v i ≡ Some x → slice_get w i ≡ Some y → Asked Arc vars box x a → (t : Bool) → is_one box x y ≡ t → VectorsWith box v w AreFar (first_at i) a
        first i x y a at_x at_y asked true e =
            let other = least_of Arc vars box y lawful (second_named hamming_is vars lists i y ready at_y) in
            (beside_it i x y a other.value at_x at_y asked.there other.least.there (inr (sym tight, inr e))).0
        first i x y a at_x at_y asked false e =
            let other = (apart i (slice_get_within v i x at_x) x y at_x at_y e).0 a asked in
            (beside_it i x y a other.0 at_x at_y asked.there other.1 (inr (sym tight, inl other.2))).0

        second : (i : ℕ) (x y : Term) (b : ℤ) → slice_get v i ≡ Some x → slice_get w i ≡ Some y → Asked Arc vars box y b → (t : Bool) → is_one box x y ≡ t → VectorsWith box v w AreFar (second_at i) b
        second i x y b at_x at_y asked true e =
            let other = least_of Arc vars box x lawful (first_named hamming_is vars lists i x ready at_x) in
            (beside_it i x y other.value b at_x at_y other.least.there asked.there (inr (sym tight, inr e))).1
        second i x y b at_x at_y asked false e =
            let other = (apart i (slice_get_within v i x at_x) x y at_x at_y e).1 b asked in
            (beside_it i x y other.0 b at_x at_y other.1 asked.there (inr (sym tight, inl other.2))).1

  -- ---- steps

  module _ (old : Context) where
    -- the first n pairs are parted
    pub record PartedTo (now : Context) (n : ℕ) : Type 0 where
      pub going : Going (Unsupported (beside lists (con.Hamming v w k))) (LeafClosed (vars_of old) lists (con.Hamming v w k)) old now
      pub before : box_of now ≡ box_of old → (i : ℕ) → i < n → IsApartAt (vars_of old) (box_of old) i (box_of old)

  module _ (old : Context) (lawful : IsBox (vars_of old) (box_of old)) (ready : IsReady (vars_of old) lists (con.Hamming v w k)) where
    -- too few pairs can differ
    pub few_fails : (fail : Fail) → pos (open_pairs (box_of old) v w) <ℤ k → IsStep (Unsupported (beside lists (con.Hamming v w k))) (LeafClosed (vars_of old) lists (con.Hamming v w k)) old old (Err fail)
    few_fails fail few = failing fail (nothing_goes old) (λ box is inside closed. (
        let some = closed_some (vars_of old) lists box v w hamming_is ready.suits.shaped is ready closed in
        let most = at_most_open (box_of old) v w some.xs some.ys (firsts (vars_of old) (box_of old) lawful ready) (seconds (vars_of old) (box_of old) lawful ready) (choice_inside box (box_of old) v some.xs inside some.first) (choice_inside box (box_of old) w some.ys inside some.second) in
        let far = some.related in
        omega (arith, ints, few, most, far)))

    module _ (tight : pos (open_pairs (box_of old) v w) ≡ k) where
      -- values of both places of a pair that can differ aren't the same in a choice
      never_same : (box : List (List ℤ)) (i : ℕ) (x y : Term) (xs ys : List ℤ) → Inside box (box_of old) → slice_get v i ≡ Some x → slice_get w i ≡ Some y → is_one (box_of old) x y ≡ false → Choice box v xs → Choice box w ys → AreFar xs ys → slice_index_or xs i (pos 0) ≡ slice_index_or ys i (pos 0) → ⊥
      never_same box i x y xs ys inside at_x at_y e first second far same =
          let fewer = fewer_open (box_of old) v w xs ys i x y (firsts (vars_of old) (box_of old) lawful ready) (seconds (vars_of old) (box_of old) lawful ready) (choice_inside box (box_of old) v xs inside first) (choice_inside box (box_of old) w ys inside second) at_x at_y e same in
          omega (arith, ints, fewer, far, tight)

      closed_apart : (box : List (List ℤ)) (i : ℕ) → Inside box (box_of old) → LeafClosed (vars_of old) lists (con.Hamming v w k) box → IsApartAt (vars_of old) (box_of old) i box
      closed_apart box i inside closed x y at_x at_y e = (
        λ a asked. (
            let some = supported_first hamming_is lists i x a box at_x (closed_first hamming_is (vars_of old) lists box i x a closed at_x asked) in
            (slice_index_or some.ys i (pos 0), chosen_there (PlaceHas box) w some.ys i y some.second at_y, λ same. never_same box i x y some.xs some.ys inside at_x at_y e some.first some.second some.related (some.given ∙ same))),
        λ b asked. (
            let some = supported_second hamming_is lists (length v + i) i b box refl (closed_second hamming_is (vars_of old) lists box i y b closed at_y asked) in
            (slice_index_or some.xs i (pos 0), chosen_there (PlaceHas box) v some.xs i x some.first at_x, λ same. never_same box i x y some.xs some.ys inside at_x at_y e some.first some.second some.related (same ∙ sym some.given))),
      )

      shared_out : (box : List (List ℤ)) (i : ℕ) (x y t : Term) (a : ℤ) → Inside box (box_of old) → slice_get v i ≡ Some x → slice_get w i ≡ Some y → is_one (box_of old) x y ≡ false → IsSharedIn x y box t a → Unsupported (beside lists (con.Hamming v w k)) box t a
      shared_out box i x y t a inside at_x at_y e (inl shared) = (length v + i, second_stands hamming_is i t (at_y ∙ ap Some (sym shared.0)), λ supported. never supported)
        where
          never : Supported lists (con.Hamming v w k) (length v + i) a box → ⊥
          never supported =
              let some = supported_second hamming_is lists (length v + i) i a box refl supported in
              never_same box i x y some.xs some.ys inside at_x at_y e some.first some.second some.related (shared.1 (slice_index_or some.xs i (pos 0)) (chosen_there (PlaceHas box) v some.xs i x some.first at_x) ∙ sym some.given)
      shared_out box i x y t a inside at_x at_y e (inr shared) = (i, first_stands hamming_is i t (at_x ∙ ap Some (sym shared.0)), λ supported. never supported)
        where
          never : Supported lists (con.Hamming v w k) i a box → ⊥
          never supported =
              let some = supported_first hamming_is lists i t a box (at_x ∙ ap Some (sym shared.0)) supported in
              never_same box i x y some.xs some.ys inside at_x at_y e some.first some.second some.related (some.given ∙ sym (shared.1 (slice_index_or some.ys i (pos 0)) (chosen_there (PlaceHas box) w some.ys i y some.second at_y)))

      pub none_parted : PartedTo old old 0
      none_parted = record { going = begins old; before = λ same i less. absurd (omega (arith, less)) }

      pub ready_now : {now : Context} {n : ℕ} → PartedTo old now n → IsReady (vars_of now) lists (con.Hamming v w k)
      ready_now to = subst (λ vars. IsReady vars lists (con.Hamming v w k)) (sym (same_vars to.going.loses)) ready

      -- a pair that can differ now could differ before
      could_differ : (now : Context) (x y : Term) → Inside (box_of now) (box_of old) → IsNamed (vars_of old) x → IsNamed (vars_of old) y → CanDiffer (box_of now) x y → is_one (box_of old) x y ≡ false
      could_differ now x y inside named_x named_y can = by (is_one (box_of old) x y) refl
        where
          by : (t : Bool) → is_one (box_of old) x y ≡ t → is_one (box_of old) x y ≡ false
          by true e = absurd (can.differ (one_so (box_of old) x y (has_ends (vars_of old) (box_of old) x lawful named_x) (has_ends (vars_of old) (box_of old) y lawful named_y) e can.first can.second (wider_place (box_of now) (box_of old) inside x can.first can.has_first) (wider_place (box_of now) (box_of old) inside y can.second can.has_second)))
          by false e = e

      own_step : {now new : Context} {result : Result (Unit {0}) Fail} (n : ℕ) (x y : Term) → PartedTo old now n → slice_get v n ≡ Some x → slice_get w n ≡ Some y → CanDiffer (box_of now) x y → IsStep (IsSharedIn x y) (AreParted (vars_of now) x y) now new result → IsStep (Unsupported (beside lists (con.Hamming v w k))) (AreParted (vars_of old) x y) now new result
      own_step {now = now} {new = new} {result = result} n x y to at_x at_y can step =
          let inside = goes_inside to.going.loses in
          let e = could_differ now x y inside (first_named hamming_is (vars_of old) lists n x ready at_x) (second_named hamming_is (vars_of old) lists n y ready at_y) can in
          by_rule (λ box i t a has shared. shared_out box n x y t a (inside_through i inside) at_x at_y e shared) (subst (λ vars. IsStep (IsSharedIn x y) (AreParted vars x y) now new result) (same_vars to.going.loses) step)

      parted_less : {now : Context} (n : ℕ) (x y : Term) → PartedTo old now n → slice_get v n ≡ Some x → slice_get w n ≡ Some y → CanDiffer (box_of now) x y → (box : List (List ℤ)) → IsBox (vars_of old) box → Inside box (box_of now) → LeafClosed (vars_of old) lists (con.Hamming v w k) box → AreParted (vars_of old) x y box
      parted_less {now = now} n x y to at_x at_y can box is i closed =
          let inside = goes_inside to.going.loses in
          let e = could_differ now x y inside (first_named hamming_is (vars_of old) lists n x ready at_x) (second_named hamming_is (vars_of old) lists n y ready at_y) can in
          closed_apart box n (inside_through i inside) closed x y at_x at_y e

      pub next_parted : {now new : Context} {done : Unit {0}} (n : ℕ) (x y : Term) → PartedTo old now n → slice_get v n ≡ Some x → slice_get w n ≡ Some y → CanDiffer (box_of now) x y → IsStep (IsSharedIn x y) (AreParted (vars_of now) x y) now new (Ok done) → PartedTo old new (n + 1)
      next_parted {now = now} {new = new} {done = done} n x y to at_x at_y can step = record {
        going = goes_on to.going (parted_less n x y to at_x at_y can) own;
        before = λ same i less. (let unchanged : box_of now ≡ box_of old = same_before to.going own.loses same in below_more (λ j. IsApartAt (vars_of old) (box_of old) j (box_of old)) n (to.before unchanged) (here unchanged (own.still (same ∙ sym unchanged))) i less);
      }
        where
          own : IsStep (Unsupported (beside lists (con.Hamming v w k))) (AreParted (vars_of old) x y) now new (Ok done)
          own = own_step n x y to at_x at_y can step

          here : box_of now ≡ box_of old → AreParted (vars_of old) x y (box_of now) → IsApartAt (vars_of old) (box_of old) n (box_of old)
          here unchanged parted s t at_s at_t e =
              subst (λ z. AreParted (vars_of old) z t (box_of old)) (same_entry v n x s at_x at_s) (subst (λ z. AreParted (vars_of old) x z (box_of old)) (same_entry w n y t at_y at_t) (subst (AreParted (vars_of old) x y) unchanged parted))

      pub wrong_parted : {now new : Context} {fail : Fail} {end : Result (Unit {0}) Fail} (n : ℕ) (x y : Term) → PartedTo old now n → slice_get v n ≡ Some x → slice_get w n ≡ Some y → CanDiffer (box_of now) x y → IsStep (IsSharedIn x y) (AreParted (vars_of now) x y) now new (Err fail) → IsErr end
          → IsStep (Unsupported (beside lists (con.Hamming v w k))) (LeafClosed (vars_of old) lists (con.Hamming v w k)) old new end
      wrong_parted n x y to at_x at_y can step err = goes_wrong to.going (parted_less n x y to at_x at_y can) (own_step n x y to at_x at_y can step) err

      -- a pair that is one value now is passed over
      pub passed_parted : {now : Context} (n : ℕ) (x y : Term) → PartedTo old now n → slice_get v n ≡ Some x → slice_get w n ≡ Some y → is_one (box_of now) x y ≡ true → PartedTo old now (n + 1)
      passed_parted {now = now} n x y to at_x at_y one = record { going = to.going; before = λ same i less. below_more (λ j. IsApartAt (vars_of old) (box_of old) j (box_of old)) n (to.before same) (here same) i less }
        where
          here : box_of now ≡ box_of old → IsApartAt (vars_of old) (box_of old) n (box_of old)
          here same s t at_s at_t e = absurd (true≢false (sym (subst (λ box. is_one box x y ≡ true) same one) ∙ (ap (λ z. is_one (box_of old) z y) (same_entry v n x s at_x at_s) ∙ (ap (λ z. is_one (box_of old) s z) (same_entry w n y t at_y at_t) ∙ e))))

      pub all_parted : {now : Context} (n : ℕ) → length v ≤ n → PartedTo old now n → IsStep (Unsupported (beside lists (con.Hamming v w k))) (LeafClosed (vars_of old) lists (con.Hamming v w k)) old now (Ok tt)
      all_parted n whole to = arrives to.going (λ same. parted_closed (vars_of old) (box_of old) lawful ready tight (λ i within. to.before same i (omega (arith, within, whole))))

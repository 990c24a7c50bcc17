-- What the parts of a pass are towards, and that together they close the box.
use Rattle.std.proofs.Common.{◌≡◌, ◌≢◌, ◌↔◌, ℕ, zero, suc, ◌+◌, ◌<◌, ℤ, pos, ◌+ℤ◌, ◌⊎◌, inl, inr, Bool, true, false, int_lt, IsTrue, List, [], ◌∷◌, ◌++◌, length, slice_get, Some, None, Result, Ok, Err, IsErr, refl, sym, subst, ap, ◌∙◌, arith}
use Rattle.std.proofs.lemmas.Int.{ints}
use Rattle.std.proofs.lemmas.Option.{slice_get_within}
use Rattle.mn_model.specs.Decided.{Decided, decide_int, decide_nat}
use Rattle.mn_model.specs.Parts.{places}
use Rattle.mn_model.specs.declared.constraint.Con.{Con}
use Rattle.mn_model.specs.declared.constraint.Term.{Term}
use Rattle.mn_model.specs.declared.declaration.Tuples.{Tuples}
use Rattle.mn_model.proofs.Lists.{some_there}
use Rattle.mn_model.proofs.Ordered.{at_least, le_so, lt_so}
use Rattle.mn_boxes.specs.Boxes.{Inside, IsBox}
use Rattle.mn_boxes.specs.Places.{PlaceHas}
use Rattle.mn_boxes.specs.Sets.{Variable}
use Rattle.mn_closure.specs.Closed.{Asked, IsAlone, LeafClosed}
use Rattle.mn_closure.specs.Levels.{Arc, level}
use Rattle.mn_closure.specs.Supports.{StandsAt, Supported}
use Rattle.mn_closure.proofs.Wider.{wider_place}
use Rattle.mn_prop.specs.Contexts.{Context, IsGreatestAt, IsLeastAt, box_of, vars_of}
use Rattle.mn_prop.specs.Losses.{Unsupported}
use Rattle.mn_prop.specs.Passes.{IsStep}
use Rattle.mn_prop.specs.Posts.{HasAt, IsReady, beside}
use Rattle.mn_prop.specs.Revising.{PlaceClosed}
use Rattle.mn_prop.specs.declared.context.Fail.{Fail}
use Rattle.mn_prop.proofs.Ended.{Greatest, Least, greatest_of, least_of}
use Rattle.mn_prop.proofs.Stepping.{as_step, no_step, same_vars, stop_step, then_step}
use Rattle.mn_element.specs.Picks.{EntryClosed, IsEntryAt, Picks, PicksAt}
use Rattle.mn_element.specs.declared.picking.Wanted.TheVariants.{Anything, OfEntry, OfResult}
use Rattle.mn_element.proofs.Chosen.{InRest, of_either}
use Rattle.mn_element.proofs.Supporting.{IsIndexed, entry_picks, entry_stands, index_named, index_picks, index_stands, picks_entry, picks_index, picks_result, result_picks, some_entry}

module _ {c : Con} {v : List Term} {x y : Term} {first : ℤ} (is : IsIndexed c v x y first) where
  -- there are places
  pub filled : places c ≡ [] → ⊥
  filled none = by v (sym is.placed ∙ none)
    where
      by : (v : List Term) → v ++ x ∷ y ∷ [] ≡ [] → ⊥
      by [] e = cc
      by (t ∷ v) e = cc

  pub place_count : length (places c) ≡ length v + 2
  place_count = ap length is.placed ∙ by v
    where
      by : (v : List Term) → length (v ++ x ∷ y ∷ []) ≡ length v + 2
      by [] = refl
      by (t ∷ v) = let more = by v in omega (arith, more)

  -- ---- support

  module _ (vars : List Variable) (lists : List Tuples) (ready : IsReady vars lists c) (box : List (List ℤ)) (lawful : IsBox vars box) (i : ℕ) (a : ℤ) (m : Bool) where
    pub entry_told : i < length v → HasAt c i a box → IsTrue m ↔ Picks box first v x y (OfEntry i a) → IsTrue m ↔ Supported lists c i a box
    entry_told within there tells =
        let t = some_there v i within in (
          λ e. picks_entry is lists box (some_entry is vars lists ready box lawful) i t.0 a t.1 (there t.0 (entry_stands is i t.0 t.1)) (tells.0 e),
          λ supported. tells.1 (entry_picks is lists i t.0 a box t.1 supported),
        )

    pub index_told : i ≡ length v → HasAt c i a box → IsTrue m ↔ PicksAt box first v y Anything a → IsTrue m ↔ Supported lists c i a box
    index_told place there tells = (
      λ e. picks_index is lists box (some_entry is vars lists ready box lawful) i a place (there x (subst (λ n. StandsAt c n x) (sym place) (index_stands is))) (tells.0 e),
      λ supported. tells.1 (index_picks is lists i a box place supported).1,
    )

    pub result_told : i ≡ length v + 1 → IsTrue m ↔ Picks box first v x y (OfResult a) → IsTrue m ↔ Supported lists c i a box
    result_told place tells = (
      λ e. picks_result is lists box (some_entry is vars lists ready box lawful) i a place (tells.0 e),
      λ supported. tells.1 (result_picks is lists i a box place supported),
    )

  -- ---- closed boxes

  closed_place : (vars : List Variable) (lists : List Tuples) (box : List (List ℤ)) (i : ℕ) → LeafClosed vars lists c box → PlaceClosed vars (beside lists c) i box
  closed_place vars lists box i closed = λ t a stands asked. closed.supported i t a stands asked

  pub closed_entry : (vars : List Variable) (lists : List Tuples) (box : List (List ℤ)) → LeafClosed vars lists c box → EntryClosed vars (beside lists c) first v x box
  closed_entry vars lists box closed = λ k within alone. closed_place vars lists box k closed

  -- a box is closed where the index and the result are, and an entry that the index has alone
  module _ (vars : List Variable) (lists : List Tuples) (ready : IsReady vars lists c) (box : List (List ℤ)) (lawful : IsBox vars box) where
    -- an entry has all its values where the index has another one
    by_other : (i : ℕ) (t : Term) (a index : ℤ) → slice_get v i ≡ Some t → PlaceHas box t a → PlaceHas box x index → (p : PicksAt box first v y Anything index) → p.entry ≢ i → Supported lists c i a box
    by_other i t a index stands has there p other = picks_entry is lists box (some_entry is vars lists ready box lawful) i t a stands has (record {
      index = index;
      there = there;
      at_index = record {
        entry = p.entry;
        is = p.is;
        picks = record { term = p.picks.term; value = p.picks.value; stands = p.picks.stands; has_entry = p.picks.has_entry; has_result = p.picks.has_result; so = λ same. absurd (other same) };
      };
    })

    pub all_closed : PlaceClosed vars (beside lists c) (length v) box → PlaceClosed vars (beside lists c) (length v + 1) box → EntryClosed vars (beside lists c) first v x box → LeafClosed vars lists c box
    all_closed index result entry = record { bare = λ none. absurd (filled none); supported = λ i t a stands asked. by i t a stands asked (of_either v (x ∷ y ∷ []) i t (subst (λ ts. slice_get ts i ≡ Some t) is.placed stands)) }
      where
        l : Least Arc vars box x
        l = least_of Arc vars box x lawful (index_named is vars lists ready)

        g : Greatest Arc vars box x
        g = greatest_of Arc vars box x lawful (index_named is vars lists ready)

        index_at : (i : ℤ) → Asked Arc vars box x i → PicksAt box first v y Anything i
        index_at i asked = (index_picks is lists (length v) i box refl (index x i (index_stands is) (subst (λ l. Asked l vars box x i) (sym is.arc) asked))).1

        low : PicksAt box first v y Anything l.value
        low = index_at l.value l.asked

        high : PicksAt box first v y Anything g.value
        high = index_at g.value g.asked

        of_entry : (i : ℕ) (t : Term) (a : ℤ) → slice_get v i ≡ Some t → StandsAt c i t → Asked (level c) vars box t a → Decided (low.entry ≡ i) → Decided (l.value ≡ g.value) → Supported lists c i a box
        of_entry i t a stands at asked (inr other) d = by_other i t a l.value stands asked.there l.asked.there low other
        of_entry i t a stands at asked (inl same) (inr differ) = by_other i t a g.value stands asked.there g.asked.there high (λ again. differ (low.is ∙ (ap (λ k. pos k +ℤ first) (same ∙ sym again) ∙ sym high.is)))
        of_entry i t a stands at asked (inl same) (inl one) = entry i within alone t a at asked
          where
            within : i < length v
            within = slice_get_within v i t stands

            alone : IsAlone box x (pos i +ℤ first)
            alone b has = let from = l.least.least b has in let to = g.greatest.greatest b has in let here : l.value ≡ pos i +ℤ first = low.is ∙ ap (λ k. pos k +ℤ first) same in omega (arith, ints, from, to, one, here)

        of_rest : (i k : ℕ) (t : Term) (a : ℤ) → i ≡ length v + k → slice_get (x ∷ y ∷ []) k ≡ Some t → StandsAt c i t → Asked (level c) vars box t a → Supported lists c i a box
        of_rest i zero t a place stands at asked =
            let here : i ≡ length v = omega (arith, place) in
            subst (λ n. Supported lists c n a box) (sym here) (index t a (subst (λ n. StandsAt c n t) here at) asked)
        of_rest i (suc zero) t a place stands at asked = subst (λ n. Supported lists c n a box) (sym place) (result t a (subst (λ n. StandsAt c n t) place at) asked)
        of_rest i (suc (suc k)) t a place stands at asked = cc

        by : (i : ℕ) (t : Term) (a : ℤ) → StandsAt c i t → Asked (level c) vars box t a → (slice_get v i ≡ Some t) ⊎ InRest v (x ∷ y ∷ []) i t → Supported lists c i a box
        by i t a at asked (inl stands) = of_entry i t a stands at asked (decide_nat low.entry i) (decide_int l.value g.value)
        by i t a at asked (inr rest) = of_rest i rest.place t a rest.is rest.stands at asked

  -- ---- steps

  module _ (lists : List Tuples) (old : Context) where
    -- nothing of an entry is to be taken where the index has two values, or none of an entry
    pub open_index : (lo hi : ℤ) → IsLeastAt (box_of old) x lo → IsGreatestAt (box_of old) x hi → int_lt lo hi ≡ true → IsStep (Unsupported (beside lists c)) (EntryClosed (vars_of old) (beside lists c) first v x) old old (Ok tt)
    open_index lo hi least great test = no_step old (λ k within alone. absurd (let less = lt_so lo hi test in let one = alone lo least.there in let another = alone hi great.there in omega (arith, ints, one, another, less)))

    pub no_entry : (lo : ℤ) → IsLeastAt (box_of old) x lo → IsEntryAt first v lo None → IsStep (Unsupported (beside lists c)) (EntryClosed (vars_of old) (beside lists c) first v x) old old (Ok tt)
    no_entry lo least none = no_step old (λ k within alone. absurd (none k within (alone lo least.there)))

    -- and where it has one, that of its entry
    pub one_entry : (new : Context) (result : Result (Unit {0}) Fail) (lo hi : ℤ) (k : ℕ) → IsLeastAt (box_of old) x lo → IsGreatestAt (box_of old) x hi → int_lt lo hi ≡ false → IsEntryAt first v lo (Some k) → IsStep (Unsupported (beside lists c)) (PlaceClosed (vars_of old) (beside lists c) k) old new result
        → IsStep (Unsupported (beside lists c)) (EntryClosed (vars_of old) (beside lists c) first v x) old new result
    one_entry new result lo hi k least great test at_k step = as_step (λ box lawful i closed. closed k at_k.0 (alone box i)) (λ closed j within one. subst (λ n. PlaceClosed (vars_of old) (beside lists c) n (box_of old)) (sym (same j (one lo least.there))) closed) step
      where
        alone : (box : List (List ℤ)) → Inside box (box_of old) → IsAlone box x (pos k +ℤ first)
        alone box i b has =
            let had = wider_place box (box_of old) i x b has in
            let from = least.least b had in
            let to = great.greatest b had in
            let here = at_k.1 in
            let le = le_so hi lo (at_least lo hi test) in
            omega (arith, ints, from, to, le, here)

        same : (j : ℕ) → lo ≡ pos j +ℤ first → j ≡ k
        same j there = let here = at_k.1 in omega (arith, ints, here, there)

  -- the first part of a pass fails, the second, and all three
  module _ (lists : List Tuples) (n : ℕ) (index : n ≡ length v) where
    abbrev Gone : List (List ℤ) → Term → ℤ → Type 0
    Gone = Unsupported (beside lists c)

    pub index_stops : (old mid : Context) (result end : Result (Unit {0}) Fail) (fail : Fail) → IsStep Gone (PlaceClosed (vars_of old) (beside lists c) n) old mid result → result ≡ Err fail → IsErr end → IsStep Gone (LeafClosed (vars_of old) lists c) old mid end
    index_stops old mid result end fail step failed err = stop_step fail failed (λ box lawful i closed. closed_place (vars_of old) lists box n closed) step err

    both : (old mid late : Context) (d : Unit {0}) (result : Result (Unit {0}) Fail) → IsStep Gone (PlaceClosed (vars_of old) (beside lists c) n) old mid (Ok d) → IsStep Gone (PlaceClosed (vars_of mid) (beside lists c) (n + 1)) mid late result
        → IsStep Gone (λ box. PlaceClosed (vars_of old) (beside lists c) n box × PlaceClosed (vars_of old) (beside lists c) (n + 1) box) old late result
    both old mid late d result one two = then_step one (subst (λ vars. IsStep Gone (PlaceClosed vars (beside lists c) (n + 1)) mid late result) (same_vars one.loses) two)

    pub result_stops : (old mid late : Context) (d : Unit {0}) (result end : Result (Unit {0}) Fail) (fail : Fail) → IsStep Gone (PlaceClosed (vars_of old) (beside lists c) n) old mid (Ok d) → IsStep Gone (PlaceClosed (vars_of mid) (beside lists c) (n + 1)) mid late result → result ≡ Err fail → IsErr end
        → IsStep Gone (LeafClosed (vars_of old) lists c) old late end
    result_stops old mid late d result end fail one two failed err =
        stop_step fail failed (λ box lawful i closed. (closed_place (vars_of old) lists box n closed, closed_place (vars_of old) lists box (n + 1) closed)) (both old mid late d result one two) err

    pub pass_step : (old mid late new : Context) (d e : Unit {0}) (result : Result (Unit {0}) Fail) → IsBox (vars_of old) (box_of old) → IsReady (vars_of old) lists c → IsStep Gone (PlaceClosed (vars_of old) (beside lists c) n) old mid (Ok d) → IsStep Gone (PlaceClosed (vars_of mid) (beside lists c) (n + 1)) mid late (Ok e)
        → IsStep Gone (EntryClosed (vars_of late) (beside lists c) first v x) late new result → IsStep Gone (LeafClosed (vars_of old) lists c) old new result
    pass_step old mid late new d e result lawful ready one two three =
        let first_two = both old mid late d (Ok e) one two in
        let last = subst (λ vars. IsStep Gone (EntryClosed vars (beside lists c) first v x) late new result) (same_vars first_two.loses) three in
        as_step
        (λ box of_box i closed. ((closed_place (vars_of old) lists box n closed, closed_place (vars_of old) lists box (n + 1) closed), closed_entry (vars_of old) lists box closed))
        (λ all. all_closed (vars_of old) lists ready (box_of old) lawful (subst (λ k. PlaceClosed (vars_of old) (beside lists c) k (box_of old)) index all.0.0) (subst (λ k. PlaceClosed (vars_of old) (beside lists c) (k + 1) (box_of old)) index all.0.1) all.1) (then_step first_two last)

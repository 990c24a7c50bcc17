-- Cuts of two vectors towards lexicographic order.
use Rattle.std.proofs.Common.{◌≡◌, ℕ, suc, ◌+◌, ◌<◌, ◌≤◌, ℤ, pos, ◌+ℤ◌, ◌-ℤ◌, ◌<ℤ◌, ◌≤ℤ◌, ◌⊎◌, inl, inr, Bool, false, IsTrue, List, [], ◌∷◌, ◌++◌, length, drop, slice_get, slice_set, slice_index_or, Some, Result, Ok, Err, IsErr, refl, sym, subst, ap, ◌∙◌, arith, true≢false}
use Rattle.std.proofs.lemmas.Int.{ints}
use Rattle.std.proofs.lemmas.Option.{slice_get_within}
use Rattle.mn_model.specs.declared.constraint.Term.{Term}
use Rattle.mn_model.specs.declared.declaration.Tuples.{Tuples}
use Rattle.mn_boxes.specs.Boxes.{Inside, IsBox}
use Rattle.mn_boxes.specs.Places.{PlaceHas}
use Rattle.mn_boxes.specs.Sets.{Variable}
use Rattle.mn_closure.specs.Closed.{LeafClosed}
use Rattle.mn_closure.specs.Levels.{Arc, level}
use Rattle.mn_closure.specs.Supports.{Supported}
use Rattle.mn_closure.proofs.Wider.{wider_place, wider_supported}
use Rattle.mn_prop.specs.Contexts.{Context, box_of, place_hi, place_lo, vars_of}
use Rattle.mn_prop.specs.Losses.{Unsupported, nothing_goes}
use Rattle.mn_prop.specs.Passes.{IsStep, Narrows}
use Rattle.mn_prop.specs.Posts.{IsReady, beside}
use Rattle.mn_prop.specs.declared.context.Fail.{Fail}
use Rattle.mn_prop.proofs.Ended.{greatest_of, least_of}
use Rattle.mn_prop.proofs.Going.{Going, begins, goes_on, goes_wrong}
use Rattle.mn_prop.proofs.Narrowing.{narrows_step}
use Rattle.mn_prop.proofs.Stepping.{as_step, box_again, by_rule, failing, goes_inside, no_step, same_vars}
use Rattle.mn_lex.specs.Leading.{Leads}
use Rattle.mn_lex.specs.Lexicals.{in_order}
use Rattle.mn_lex.specs.Orders.{AreOne, AreOneWhere, AreOrdered, CanBeLess, greatest_values, least_values}
use Rattle.mn_lex.specs.Pairs.{IsCut, IsOut}
use Rattle.mn_lex.proofs.Chosen.{at_there, chosen_there, chosen_with}
use Rattle.mn_lex.proofs.Leaders.{AllEnds, Chosen, below_or_same, drop_all, drop_is, first_leads, greatest_chosen, least_chosen, leads_sooner, one_more, ordered_from, pair_leads, second_leads}
use Rattle.mn_lex.proofs.Vectors.{closed_first, closed_second, closed_some, closed_vectors, first_ends, first_named, first_stands, has_ends, order_is, second_ends, second_named, second_stands, supported_first, supported_second}

-- where all pairs have one value no choice comes first
none_first : (box : List (List ℤ)) (v w : List Term) (xs ys : List ℤ) → Chosen box v xs → Chosen box w ys → AreOneWhere (λ j. Unit {0}) box v w → Leads false xs ys → ⊥
none_first box [] w [] [] one two same leads = true≢false (sym leads)
none_first box [] w [] (b ∷ ys) one two same leads = leads
none_first box [] w (a ∷ xs) ys one two same leads = one
none_first box (x ∷ v) w [] ys one two same leads = one
none_first box (x ∷ v) w (a ∷ xs) [] one two same leads = leads
none_first box (x ∷ v) [] (a ∷ xs) (b ∷ ys) one two same leads = two
none_first box (x ∷ v) (y ∷ w) (a ∷ xs) (b ∷ ys) one two same (inl less) = let is = same 0 x y tt refl refl a b one.0 two.0 in absurd (omega (arith, ints, is, less))
none_first box (x ∷ v) (y ∷ w) (a ∷ xs) (b ∷ ys) one two same (inr both) = none_first box v w xs ys one.1 two.1 (λ j t s all at_t at_s. same (suc j) t s tt at_t at_s) both.1

-- pairs that have one value still have it where values went
pub one_inside : (P : ℕ → Type 0) (inner outer : List (List ℤ)) (v w : List Term) → Inside inner outer → AreOneWhere P outer v w → AreOneWhere P inner v w
one_inside P inner outer v w inside same j x y here at_x at_y a b has had = same j x y here at_x at_y a b (wider_place inner outer inside x a has) (wider_place inner outer inside y b had)

module _ (e : Bool) (v w : List Term) (lists : List Tuples) where
  ordered_closed : (vars : List Variable) (box : List (List ℤ)) → IsBox vars box → IsReady vars lists (in_order e v w) → AreOrdered e box v w → LeafClosed vars lists (in_order e v w) box
  ordered_closed vars box lawful ready ordered = closed_vectors (order_is e v w) vars lists box (bare v w ordered)
      (λ i x a stands asked. record {
        xs = slice_set (least_values box v) i a;
        ys = greatest_values box w;
        first = chosen_with (PlaceHas box) v (least_values box v) i x a (least_chosen box v ends) stands asked.there;
        second = greatest_chosen box w others;
        given = at_there (PlaceHas box) v (least_values box v) i x a (least_chosen box v ends) stands;
        related = first_leads box e v w i x a ends others ordered stands asked.there;
      })
      (λ k y b stands asked. record {
        xs = least_values box v;
        ys = slice_set (greatest_values box w) k b;
        first = least_chosen box v ends;
        second = chosen_with (PlaceHas box) w (greatest_values box w) k y b (greatest_chosen box w others) stands asked.there;
        given = at_there (PlaceHas box) w (greatest_values box w) k y b (greatest_chosen box w others) stands;
        related = second_leads box e v w k y b ends others ordered stands asked.there;
      })
    where
      ends : AllEnds box v
      ends = first_ends (order_is e v w) vars lists box lawful ready

      others : AllEnds box w
      others = second_ends (order_is e v w) vars lists box lawful ready

      bare : (v w : List Term) → AreOrdered e box v w → v ++ w ≡ [] → Leads e [] []
      bare [] [] ordered none = ordered
      bare [] (y ∷ w) ordered none = absurd ordered
      bare (x ∷ v) w ordered none = cc

  -- ---- the pair behind those that have one value

  module _ (c : Context) (i : ℕ) (x y : Term) (lawful : IsBox (vars_of c) (box_of c)) (ready : IsReady (vars_of c) lists (in_order e v w)) (at_x : slice_get v i ≡ Some x) (at_y : slice_get w i ≡ Some y) (same : AreOneWhere (λ j. j < i) (box_of c) v w) where
    -- what stands behind it
    abbrev pub behind_first : List ℤ
    behind_first = least_values (box_of c) (drop (suc i) v)

    abbrev pub behind_second : List ℤ
    behind_second = greatest_values (box_of c) (drop (suc i) w)

    -- a value that is supported leads, with the greatest one of the other place
    pair_first : (a : ℤ) → Supported lists (in_order e v w) i a (box_of c) → Leads e (a ∷ behind_first) (place_hi (box_of c) y ∷ behind_second)
    pair_first a supported =
        let some = supported_first (order_is e v w) lists i x a (box_of c) at_x supported in
        let there = chosen_there (PlaceHas (box_of c)) w some.ys i y some.second at_y in
        let leads = pair_leads (box_of c) e i v w some.xs some.ys x y (first_ends (order_is e v w) (vars_of c) lists (box_of c) lawful ready) (second_ends (order_is e v w) (vars_of c) lists (box_of c) lawful ready) some.first some.second same at_x at_y some.related in
        leads_sooner e (slice_index_or some.xs i (pos 0)) (slice_index_or some.ys i (pos 0)) a (place_hi (box_of c) y) behind_first behind_second (let is = some.given in omega (arith, ints, is)) ((has_ends (vars_of c) (box_of c) y lawful (second_named (order_is e v w) (vars_of c) lists i y ready at_y)).high (slice_index_or some.ys i (pos 0)) there) leads

    pair_second : (b : ℤ) → Supported lists (in_order e v w) (length v + i) b (box_of c) → Leads e (place_lo (box_of c) x ∷ behind_first) (b ∷ behind_second)
    pair_second b supported =
        let some = supported_second (order_is e v w) lists (length v + i) i b (box_of c) refl supported in
        let there = chosen_there (PlaceHas (box_of c)) v some.xs i x some.first at_x in
        let leads = pair_leads (box_of c) e i v w some.xs some.ys x y (first_ends (order_is e v w) (vars_of c) lists (box_of c) lawful ready) (second_ends (order_is e v w) (vars_of c) lists (box_of c) lawful ready) some.first some.second same at_x at_y some.related in
        leads_sooner e (slice_index_or some.xs i (pos 0)) (slice_index_or some.ys i (pos 0)) (place_lo (box_of c) x) b behind_first behind_second ((has_ends (vars_of c) (box_of c) x lawful (first_named (order_is e v w) (vars_of c) lists i x ready at_x)).low (slice_index_or some.xs i (pos 0)) there) (let is = some.given in omega (arith, ints, is)) leads

    -- bounds that no supported value is past
    pub record AreBounds (most least : ℤ) : Type 0 where
      pub above : (a : ℤ) → Leads e (a ∷ behind_first) (place_hi (box_of c) y ∷ behind_second) → a ≤ℤ most
      pub below : (b : ℤ) → Leads e (place_lo (box_of c) x ∷ behind_first) (b ∷ behind_second) → least ≤ℤ b

    -- each closed box is within them
    pub closed_cut : (most least : ℤ) → AreBounds most least → (box : List (List ℤ)) → IsBox (vars_of c) box → Inside box (box_of c) → LeafClosed (vars_of c) lists (in_order e v w) box → IsCut x y most least box
    closed_cut most least bounds box is inside closed = (
      λ a has.
          (let top = greatest_of Arc (vars_of c) box x is (first_named (order_is e v w) (vars_of c) lists i x ready at_x) in
          let high = bounds.above top.value (pair_first top.value (wider_supported (level (in_order e v w)) lists (in_order e v w) i top.value box (box_of c) inside (closed_first (order_is e v w) (vars_of c) lists box i x top.value closed at_x top.asked))) in
          let le = top.greatest.greatest a has in
          omega (arith, ints, le, high)),
      λ b has.
          (let bottom = least_of Arc (vars_of c) box y is (second_named (order_is e v w) (vars_of c) lists i y ready at_y) in
          let low = bounds.below bottom.value (pair_second bottom.value (wider_supported (level (in_order e v w)) lists (in_order e v w) (length v + i) bottom.value box (box_of c) inside (closed_second (order_is e v w) (vars_of c) lists box i y bottom.value closed at_y bottom.asked))) in
          let ge = bottom.least.least b has in
          omega (arith, ints, ge, low)),
    )

    -- what is past them isn't supported
    pub cut_rule : {P : List (List ℤ) → Type 0} {new : Context} {result : Result (Unit {0}) Fail} (most least : ℤ) → AreBounds most least → IsStep (IsOut x y most least) P c new result → IsStep (Unsupported (beside lists (in_order e v w))) P c new result
    cut_rule most least bounds step = by_rule (λ box inside t a has out. by box inside t a out) step
      where
        by : (box : List (List ℤ)) → Inside box (box_of c) → (t : Term) (a : ℤ) → IsOut x y most least box t a → Unsupported (beside lists (in_order e v w)) box t a
        by box inside t a (inl more) = (
          i,
          first_stands (order_is e v w) i t (at_x ∙ ap Some (sym more.0)),
          λ supported. (let le = bounds.above a (pair_first a (wider_supported (level (in_order e v w)) lists (in_order e v w) i a box (box_of c) inside supported)) in let out = more.1 in omega (arith, ints, le, out)),
        )
        by box inside t a (inr less) = (
          length v + i,
          second_stands (order_is e v w) i t (at_y ∙ ap Some (sym less.0)),
          λ supported. (let le = bounds.below a (pair_second a (wider_supported (level (in_order e v w)) lists (in_order e v w) (length v + i) a box (box_of c) inside supported)) in let out = less.1 in omega (arith, ints, le, out)),
        )

    -- the ends of the two places are such bounds, and the numbers before and behind them where what stands behind can't lead
    pub end_bounds : (most least : ℤ) → most ≡ place_hi (box_of c) y → least ≡ place_lo (box_of c) x → AreBounds most least
    end_bounds most least is_most is_least = record {
      above = λ a leads. (let le = at_most a (place_hi (box_of c) y) leads in omega (arith, ints, le, is_most));
      below = λ b leads. (let le = at_most (place_lo (box_of c) x) b leads in omega (arith, ints, le, is_least));
    }
      where
        at_most : (a b : ℤ) → Leads e (a ∷ behind_first) (b ∷ behind_second) → a ≤ℤ b
        at_most a b (inl less) = omega (arith, ints, less)
        at_most a b (inr both) = let is = both.0 in omega (arith, ints, is)

    pub strict_bounds : (most least : ℤ) → most ≡ place_hi (box_of c) y -ℤ pos 1 → least ≡ place_lo (box_of c) x +ℤ pos 1 → (Leads e behind_first behind_second → ⊥) → AreBounds most least
    strict_bounds most least is_most is_least never = record {
      above = λ a leads. (let less = below a (place_hi (box_of c) y) leads in omega (arith, ints, less, is_most));
      below = λ b leads. (let less = below (place_lo (box_of c) x) b leads in omega (arith, ints, less, is_least));
    }
      where
        below : (a b : ℤ) → Leads e (a ∷ behind_first) (b ∷ behind_second) → a <ℤ b
        below a b (inl less) = less
        below a b (inr both) = absurd (never both.1)

    -- where the first can be less, and its values and those of the other lead, the box is closed
    pub pair_closed : length w ≡ length v → CanBeLess e (box_of c) x y (drop (suc i) v) (drop (suc i) w) → LeafClosed (vars_of c) lists (in_order e v w) (box_of c)
    pair_closed long can =
        ordered_closed (vars_of c) (box_of c) lawful ready (ordered_from (box_of c) e i v w long same
        (subst (λ us. AreOrdered e (box_of c) us (drop i w)) (sym (drop_is i v x at_x)) (subst (AreOrdered e (box_of c) (x ∷ drop (suc i) v)) (sym (drop_is i w y at_y)) (inl can))))

    pub end_closed : (most least : ℤ) → length w ≡ length v → place_lo (box_of c) x <ℤ place_hi (box_of c) y → most ≡ place_hi (box_of c) y → least ≡ place_lo (box_of c) x → Leads e behind_first behind_second → IsCut x y most least (box_of c) → LeafClosed (vars_of c) lists (in_order e v w) (box_of c)
    end_closed most least long less is_most is_least leads cut = pair_closed long (record {
      less = less;
      first = λ a has. by a (place_hi (box_of c) y) (below_or_same a (place_hi (box_of c) y) (let le = cut.0 a has in omega (arith, ints, le, is_most)));
      second = λ b has. by (place_lo (box_of c) x) b (below_or_same (place_lo (box_of c) x) b (let le = cut.1 b has in omega (arith, ints, le, is_least)));
    })
      where
        by : (a b : ℤ) → (a <ℤ b) ⊎ (a ≡ b) → Leads e (a ∷ behind_first) (b ∷ behind_second)
        by a b (inl less) = inl less
        by a b (inr is) = inr (is, leads)

    pub strict_closed : (most least : ℤ) → length w ≡ length v → place_lo (box_of c) x <ℤ place_hi (box_of c) y → most ≡ place_hi (box_of c) y -ℤ pos 1 → least ≡ place_lo (box_of c) x +ℤ pos 1 → IsCut x y most least (box_of c) → LeafClosed (vars_of c) lists (in_order e v w) (box_of c)
    strict_closed most least long less is_most is_least cut = pair_closed long (record { less = less; first = λ a has. inl (let le = cut.0 a has in omega (arith, ints, le, is_most)); second = λ b has. inl (let le = cut.1 b has in omega (arith, ints, le, is_least)) })

    next : i + 1 ≡ suc i
    next = omega arith

    -- the pair is cut, and that is all
    pub end_step : {new : Context} {result : Result (Unit {0}) Fail} (most least : ℤ) → length w ≡ length v → place_lo (box_of c) x <ℤ place_hi (box_of c) y → most ≡ place_hi (box_of c) y → least ≡ place_lo (box_of c) x → Leads e (least_values (box_of c) (drop (i + 1) v)) (greatest_values (box_of c) (drop (i + 1) w))
        → IsStep (IsOut x y most least) (IsCut x y most least) c new result → IsStep (Unsupported (beside lists (in_order e v w))) (LeafClosed (vars_of c) lists (in_order e v w)) c new result
    end_step most least long less is_most is_least leads step =
        let bounds = end_bounds most least is_most is_least in
        as_step (closed_cut most least bounds) (end_closed most least long less is_most is_least (subst (λ n. Leads e (least_values (box_of c) (drop n v)) (greatest_values (box_of c) (drop n w))) next leads)) (cut_rule most least bounds step)

    pub strict_step : {new : Context} {result : Result (Unit {0}) Fail} (most least : ℤ) → length w ≡ length v → place_lo (box_of c) x <ℤ place_hi (box_of c) y → most ≡ place_hi (box_of c) y -ℤ pos 1 → least ≡ place_lo (box_of c) x +ℤ pos 1
        → (Leads e (least_values (box_of c) (drop (i + 1) v)) (greatest_values (box_of c) (drop (i + 1) w)) → ⊥) → IsStep (IsOut x y most least) (IsCut x y most least) c new result → IsStep (Unsupported (beside lists (in_order e v w))) (LeafClosed (vars_of c) lists (in_order e v w)) c new result
    strict_step most least long less is_most is_least never step =
        let bounds = strict_bounds most least is_most is_least (λ leads. never (subst (λ n. Leads e (least_values (box_of c) (drop n v)) (greatest_values (box_of c) (drop n w))) (sym next) leads)) in
        as_step (closed_cut most least bounds) (strict_closed most least long less is_most is_least) (cut_rule most least bounds step)

    -- where it can't be less it has one value after the cut
    pub one_after : (new : Context) (most least : ℤ) → Inside (box_of new) (box_of c) → most ≡ place_hi (box_of c) y → least ≡ place_lo (box_of c) x → most ≤ℤ least → IsCut x y most least (box_of new) → AreOne (box_of new) x y
    one_after new most least inside is_most is_least never cut a b has had =
        let low = (has_ends (vars_of c) (box_of c) x lawful (first_named (order_is e v w) (vars_of c) lists i x ready at_x)).low a (wider_place (box_of new) (box_of c) inside x a has) in
        let high = (has_ends (vars_of c) (box_of c) y lawful (second_named (order_is e v w) (vars_of c) lists i y ready at_y)).high b (wider_place (box_of new) (box_of c) inside y b had) in
        let le = cut.0 a has in
        let ge = cut.1 b had in
        omega (arith, ints, low, high, le, ge, never, is_most, is_least)

  -- ---- pair after pair

  -- the first n pairs have one value
  pub record OrderedTo (old now : Context) (n : ℕ) : Type 0 where
    pub going : Going (Unsupported (beside lists (in_order e v w))) (LeafClosed (vars_of old) lists (in_order e v w)) old now
    pub same : AreOneWhere (λ j. j < n) (box_of now) v w

  pub none_ordered : (c : Context) → OrderedTo c c 0
  none_ordered c = record { going = begins c; same = λ j x y less at_x at_y. absurd (omega (arith, less)) }

  module _ {old now : Context} {n : ℕ} (lawful : IsBox (vars_of old) (box_of old)) (ready : IsReady (vars_of old) lists (in_order e v w)) (to : OrderedTo old now n) where
    pub box_now : IsBox (vars_of now) (box_of now)
    box_now = box_again to.going.loses lawful

    pub ready_now : IsReady (vars_of now) lists (in_order e v w)
    ready_now = subst (λ vars. IsReady vars lists (in_order e v w)) (sym (same_vars to.going.loses)) ready

    closed_now : (box : List (List ℤ)) → LeafClosed (vars_of old) lists (in_order e v w) box → LeafClosed (vars_of now) lists (in_order e v w) box
    closed_now box closed = subst (λ vars. LeafClosed vars lists (in_order e v w) box) (sym (same_vars to.going.loses)) closed

    -- a step that does the rest
    pub ends_with : {new : Context} {result : Result (Unit {0}) Fail} → IsStep (Unsupported (beside lists (in_order e v w))) (LeafClosed (vars_of now) lists (in_order e v w)) now new result → IsStep (Unsupported (beside lists (in_order e v w))) (LeafClosed (vars_of old) lists (in_order e v w)) old new result
    ends_with step =
        let so_far : Narrows (Unsupported (beside lists (in_order e v w))) (LeafClosed (vars_of old) lists (in_order e v w)) old now (Ok tt) = record { loses = to.going.loses; sound = to.going.sound; fail = tt } in
        narrows_step (λ vars. LeafClosed vars lists (in_order e v w)) so_far step

    module _ (x y : Term) (most least : ℤ) (at_x : slice_get v n ≡ Some x) (at_y : slice_get w n ≡ Some y) (is_most : most ≡ place_hi (box_of now) y) (is_least : least ≡ place_lo (box_of now) x) where
      bounds : AreBounds now n x y box_now ready_now at_x at_y to.same most least
      bounds = end_bounds now n x y box_now ready_now at_x at_y to.same most least is_most is_least

      less_closed : (box : List (List ℤ)) → IsBox (vars_of old) box → Inside box (box_of now) → LeafClosed (vars_of old) lists (in_order e v w) box → IsCut x y most least box
      less_closed box is inside closed = closed_cut now n x y box_now ready_now at_x at_y to.same most least bounds box (subst (λ vars. IsBox vars box) (sym (same_vars to.going.loses)) is) inside (closed_now box closed)

      -- one more pair, or none can be
      pub one_more_ordered : {new : Context} {done : Unit {0}} → most ≤ℤ least → IsStep (IsOut x y most least) (IsCut x y most least) now new (Ok done) → IsCut x y most least (box_of new) → OrderedTo old new (n + 1)
      one_more_ordered {new = new} never step cut = record {
        going = goes_on to.going less_closed (cut_rule now n x y box_now ready_now at_x at_y to.same most least bounds step);
        same = one_more (box_of new) n v w x y (one_inside (λ j. j < n) (box_of new) (box_of now) v w inside to.same) at_x at_y (one_after now n x y box_now ready_now at_x at_y to.same new most least inside is_most is_least never cut);
      }
        where
          inside : Inside (box_of new) (box_of now)
          inside = goes_inside step.loses

      pub cut_fails : {new : Context} {fail : Fail} {end : Result (Unit {0}) Fail} → IsStep (IsOut x y most least) (IsCut x y most least) now new (Err fail) → IsErr end → IsStep (Unsupported (beside lists (in_order e v w))) (LeafClosed (vars_of old) lists (in_order e v w)) old new end
      cut_fails step err = goes_wrong to.going less_closed (cut_rule now n x y box_now ready_now at_x at_y to.same most least bounds step) err

    -- a pair that has one value already
    pub one_passed : (x y : Term) → slice_get v n ≡ Some x → slice_get w n ≡ Some y → AreOne (box_of now) x y → OrderedTo old now (n + 1)
    one_passed x y at_x at_y one = record { going = to.going; same = one_more (box_of now) n v w x y to.same at_x at_y one }

    -- all pairs have one value
    all_one : length v ≤ n → AreOneWhere (λ j. Unit {0}) (box_of now) v w
    all_one past j x y here at_x at_y = to.same j x y (let within = slice_get_within v j x at_x in omega (arith, within, past)) at_x at_y

    pub all_ordered : length w ≡ length v → length v ≤ n → IsTrue e → IsStep (Unsupported (beside lists (in_order e v w))) (LeafClosed (vars_of old) lists (in_order e v w)) old now (Ok tt)
    all_ordered long past equal = ends_with (no_step now (ordered_closed (vars_of now) (box_of now) box_now ready_now (ordered_from (box_of now) e n v w long to.same
        (subst (λ us. AreOrdered e (box_of now) us (drop n w)) (sym (drop_all n v past)) (subst (AreOrdered e (box_of now) []) (sym (drop_all n w (omega (arith, long, past)))) equal)))))

    pub never_ordered : (fail : Fail) → length w ≡ length v → length v ≤ n → e ≡ false → IsStep (Unsupported (beside lists (in_order e v w))) (LeafClosed (vars_of old) lists (in_order e v w)) old now (Err fail)
    never_ordered fail long past strict = ends_with (failing fail (nothing_goes now) (λ box is inside closed.
        (let some = closed_some (vars_of now) lists box v w (order_is e v w) long is ready_now closed in
        none_first box v w some.xs some.ys some.first some.second (one_inside (λ j. Unit {0}) box (box_of now) v w inside (all_one past)) (subst (λ b. Leads b some.xs some.ys) strict some.related))))

-- Two vectors that are kept apart.
use Rattle.std.proofs.Common.{◌≡◌, ◌≢◌, ℕ, ◌+◌, ◌<◌, ◌≤◌, ℤ, pos, inl, inr, List, [], ◌∷◌, ◌++◌, length, slice_get, slice_index_or, Some, Result, Ok, Err, OnOk, refl, sym, subst, ap, ◌∙◌, arith}
use Rattle.std.proofs.lemmas.Option.{slice_get_within}
use Rattle.mn_model.specs.Decided.{Decided, decide_int, decide_nat}
use Rattle.mn_model.proofs.Lists.{some_there}
use Rattle.mn_model.specs.declared.constraint.Con.TheVariants as con
use Rattle.mn_model.specs.declared.constraint.Term.{Term}
use Rattle.mn_model.specs.declared.declaration.Tuples.{Tuples}
use Rattle.mn_boxes.specs.Boxes.{Inside, IsBox}
use Rattle.mn_boxes.specs.Places.{PlaceHas}
use Rattle.mn_boxes.specs.Sets.{Variable}
use Rattle.mn_closure.specs.Closed.{Asked, IsAlone, LeafClosed}
use Rattle.mn_closure.specs.Levels.{Arc}
use Rattle.mn_closure.specs.Supports.{IsOpen, Supported}
use Rattle.mn_closure.proofs.Wider.{wider_place}
use Rattle.mn_prop.specs.Contexts.{Context, box_of, vars_of}
use Rattle.mn_prop.specs.Losses.{Unsupported, nothing_goes}
use Rattle.mn_prop.specs.Passes.{IsStep}
use Rattle.mn_prop.specs.Posts.{IsReady, beside}
use Rattle.mn_prop.specs.declared.context.Fail.{Fail}
use Rattle.mn_prop.proofs.Ended.{least_of}
use Rattle.mn_prop.proofs.Stepping.{as_step, box_again, by_rule, failing, goes_inside, same_vars}
use Rattle.mn_lex.specs.Leading.{Differ}
use Rattle.mn_lex.specs.Orders.{AreOneWhere, CanDiffer}
use Rattle.mn_lex.specs.Pairs.{EachAsked, IsOpenPair, ThatAt}
use Rattle.mn_lex.proofs.Chosen.{chosen_there}
use Rattle.mn_lex.proofs.Differing.{differ_at, differ_there, none_differ, with_both}
use Rattle.mn_lex.proofs.Leaders.{some_is}
use Rattle.mn_lex.proofs.Ordered.{one_inside}
use Rattle.mn_lex.proofs.Vectors.{VectorsWith, apart_is, closed_first, closed_second, closed_some, closed_vectors, first_at, first_ends, first_named, first_stands, second_at, second_ends, second_named, second_stands, supported_first, supported_second}

-- none is open from i on
pub none_open : (box : List (List ℤ)) (from i : ℕ) (v w : List Term) → length v ≤ i → AreOneWhere (λ j. (from ≤ j) × (j < i)) box v w → AreOneWhere (λ j. from ≤ j) box v w
none_open box from i v w past same j x y behind at_x at_y = same j x y (behind, let within = slice_get_within v j x at_x in omega (arith, within, past)) at_x at_y

module _ (v w : List Term) (lists : List Tuples) where
  -- no pair is open
  pub none_apart : (c : Context) (fail : Fail) → length w ≡ length v → IsReady (vars_of c) lists (con.Watchvecneq v w) → AreOneWhere (λ j. 0 ≤ j) (box_of c) v w
      → IsStep (Unsupported (beside lists (con.Watchvecneq v w))) (LeafClosed (vars_of c) lists (con.Watchvecneq v w)) c c (Err fail)
  none_apart c fail long ready same = failing fail (nothing_goes c) (λ box is inside closed.
      (let some = closed_some (vars_of c) lists box v w (apart_is v w) long is ready closed in
      none_differ box v w some.xs some.ys some.first some.second (λ j x y here at_x at_y a b has had. same j x y (omega arith) at_x at_y a b (wider_place box (box_of c) inside x a has) (wider_place box (box_of c) inside y b had)) some.related))

  module _ (vars : List Variable) (box : List (List ℤ)) (lawful : IsBox vars box) (ready : IsReady vars lists (con.Watchvecneq v w)) where
    -- a value at a place is supported by a pair that can differ: another pair, or its own with that value
    by_first : (k q : ℕ) (x y t : Term) (c : ℤ) (can : CanDiffer box x y) → slice_get v k ≡ Some x → slice_get w k ≡ Some y → slice_get v q ≡ Some t → PlaceHas box t c → (q ≡ k → can.first ≡ c) → VectorsWith box v w Differ (first_at q) c
    by_first k q x y t c can at_x at_y at_t has own =
        let one = with_both box v k q x t can.first c (first_ends (apart_is v w) vars lists box lawful ready) at_x at_t can.has_first has own in
        let two = with_both box w k k y y can.second can.second (second_ends (apart_is v w) vars lists box lawful ready) at_y at_y can.has_second can.has_second (λ e. refl) in
        record {
          xs = one.values;
          ys = two.values;
          first = one.chosen;
          second = two.chosen;
          given = one.another;
          related = differ_at box k v w x y one.values two.values one.chosen two.chosen at_x at_y (λ e. can.differ (sym one.one ∙ (e ∙ two.one)));
        }

    by_second : (k q : ℕ) (x y t : Term) (c : ℤ) (can : CanDiffer box x y) → slice_get v k ≡ Some x → slice_get w k ≡ Some y → slice_get w q ≡ Some t → PlaceHas box t c → (q ≡ k → can.second ≡ c) → VectorsWith box v w Differ (second_at q) c
    by_second k q x y t c can at_x at_y at_t has own =
        let one = with_both box v k k x x can.first can.first (first_ends (apart_is v w) vars lists box lawful ready) at_x at_x can.has_first can.has_first (λ e. refl) in
        let two = with_both box w k q y t can.second c (second_ends (apart_is v w) vars lists box lawful ready) at_y at_t can.has_second has own in
        record {
          xs = one.values;
          ys = two.values;
          first = one.chosen;
          second = two.chosen;
          given = two.another;
          related = differ_at box k v w x y one.values two.values one.chosen two.chosen at_x at_y (λ e. can.differ (sym one.one ∙ (e ∙ two.one)));
        }

    filled : (i : ℕ) (x : Term) (us ws : List Term) → slice_get us i ≡ Some x → us ++ ws ≡ [] → ⊥
    filled i x [] ws at_x none = cc
    filled i x (u ∷ us) ws at_x none = cc

    -- two open pairs
    pub two_closed : (i k : ℕ) (x y s t : Term) → i ≢ k → CanDiffer box x y → CanDiffer box s t → slice_get v i ≡ Some x → slice_get w i ≡ Some y → slice_get v k ≡ Some s → slice_get w k ≡ Some t → LeafClosed vars lists (con.Watchvecneq v w) box
    two_closed i k x y s t differ one two at_x at_y at_s at_t = closed_vectors (apart_is v w) vars lists box (λ none. absurd (filled i x v w at_x none)) (λ q u a stands asked. first q u a stands asked.there (decide_nat q i)) (λ q u a stands asked. second q u a stands asked.there (decide_nat q i))
      where
        first : (q : ℕ) (u : Term) (a : ℤ) → slice_get v q ≡ Some u → PlaceHas box u a → Decided (q ≡ i) → VectorsWith box v w Differ (first_at q) a
        first q u a stands has (inl here) = by_first k q s t u a two at_s at_t stands has (λ e. absurd (differ (sym here ∙ e)))
        first q u a stands has (inr other) = by_first i q x y u a one at_x at_y stands has (λ e. absurd (other e))

        second : (q : ℕ) (u : Term) (a : ℤ) → slice_get w q ≡ Some u → PlaceHas box u a → Decided (q ≡ i) → VectorsWith box v w Differ (second_at q) a
        second q u a stands has (inl here) = by_second k q s t u a two at_s at_t stands has (λ e. absurd (differ (sym here ∙ e)))
        second q u a stands has (inr other) = by_second i q x y u a one at_x at_y stands has (λ e. absurd (other e))

    pub pairs_closed : (i k : ℕ) → length w ≡ length v → IsOpenPair 0 i box v w → IsOpenPair (i + 1) k box v w → LeafClosed vars lists (con.Watchvecneq v w) box
    pairs_closed i k long one two =
        let x = some_there v i one.within in
        let y = some_there w i (let within = one.within in omega (arith, within, long)) in
        let s = some_there v k two.within in
        let t = some_there w k (let within = two.within in omega (arith, within, long)) in
        two_closed i k x.0 y.0 s.0 t.0 (λ e. (let later = two.behind in omega (arith, later, e))) (one.differ x.0 y.0 x.1 y.1) (two.differ s.0 t.0 s.1 t.1) x.1 y.1 s.1 t.1

    -- one pair, each of whose values that has to be supported differs from some other
    pub pair_apart : (i : ℕ) (x y : Term) → slice_get v i ≡ Some x → slice_get w i ≡ Some y → ((a : ℤ) → Asked Arc vars box x a → (b : ℤ) × PlaceHas box y b × (a ≢ b)) → ((b : ℤ) → Asked Arc vars box y b → (a : ℤ) × PlaceHas box x a × (a ≢ b)) → LeafClosed vars lists (con.Watchvecneq v w) box
    pair_apart i x y at_x at_y firsts seconds = closed_vectors (apart_is v w) vars lists box (λ none. absurd (filled i x v w at_x none)) (λ q u a stands asked. first q u a stands asked (decide_nat q i)) (λ q u b stands asked. second q u b stands asked (decide_nat q i))
      where
        some : CanDiffer box x y
        some =
            let l = least_of Arc vars box x lawful (first_named (apart_is v w) vars lists i x ready at_x) in
            let other = firsts l.value l.asked in
            record { first = l.value; second = other.0; has_first = l.least.there; has_second = other.1; differ = other.2 }

        first : (q : ℕ) (u : Term) (a : ℤ) → slice_get v q ≡ Some u → Asked Arc vars box u a → Decided (q ≡ i) → VectorsWith box v w Differ (first_at q) a
        first q u a stands asked (inl here) =
            let own = subst (λ t. Asked Arc vars box t a) (some_is (sym stands ∙ (ap (slice_get v) here ∙ at_x))) asked in
            let other = firsts a own in
            by_first i q x y u a (record { first = a; second = other.0; has_first = own.there; has_second = other.1; differ = other.2 }) at_x at_y stands asked.there (λ e. refl)
        first q u a stands asked (inr other) = by_first i q x y u a some at_x at_y stands asked.there (λ e. absurd (other e))

        second : (q : ℕ) (u : Term) (b : ℤ) → slice_get w q ≡ Some u → Asked Arc vars box u b → Decided (q ≡ i) → VectorsWith box v w Differ (second_at q) b
        second q u b stands asked (inl here) =
            let own = subst (λ t. Asked Arc vars box t b) (some_is (sym stands ∙ (ap (slice_get w) here ∙ at_y))) asked in
            let other = seconds b own in
            by_second i q x y u b (record { first = other.0; second = b; has_first = other.1; has_second = own.there; differ = other.2 }) at_x at_y stands asked.there (λ e. refl)
        second q u b stands asked (inr other) = by_second i q x y u b some at_x at_y stands asked.there (λ e. absurd (other e))

    -- where both places have several values nothing is to be done
    other_at : (t : Term) (a : ℤ) → IsOpen box t → (b : ℤ) × PlaceHas box t b × (a ≢ b)
    other_at t a two = by (decide_int two.one a)
      where
        by : Decided (two.one ≡ a) → (b : ℤ) × PlaceHas box t b × (a ≢ b)
        by (inl same) = (two.another, two.has_another, λ e. two.differ (same ∙ e))
        by (inr differs) = (two.one, two.has_one, λ e. differs (sym e))

    pub open_closed : (i : ℕ) (x y : Term) → slice_get v i ≡ Some x → slice_get w i ≡ Some y → IsOpen box x → IsOpen box y → LeafClosed vars lists (con.Watchvecneq v w) box
    open_closed i x y at_x at_y one two = pair_apart i x y at_x at_y (λ a asked. other_at y a two) (λ b asked. (let other = other_at x b one in (other.0, other.1, λ e. other.2 (sym e))))

    -- where the one place has a alone, and no value of the other that has to be supported is a
    pub first_apart : (i : ℕ) (x y : Term) (a : ℤ) → slice_get v i ≡ Some x → slice_get w i ≡ Some y → IsAlone box x a → EachAsked vars y (λ b. b ≢ a) box → LeafClosed vars lists (con.Watchvecneq v w) box
    first_apart i x y a at_x at_y alone each =
        let mine = least_of Arc vars box x lawful (first_named (apart_is v w) vars lists i x ready at_x) in
        let other = least_of Arc vars box y lawful (second_named (apart_is v w) vars lists i y ready at_y) in
        pair_apart i x y at_x at_y (λ d asked. (other.value, other.least.there, λ e. each other.value other.asked (sym e ∙ alone d asked.there)))
        (λ b asked. (mine.value, mine.least.there, λ e. each b asked (sym e ∙ alone mine.value mine.least.there)))

    pub second_apart : (i : ℕ) (x y : Term) (a : ℤ) → slice_get v i ≡ Some x → slice_get w i ≡ Some y → IsAlone box y a → EachAsked vars x (λ b. b ≢ a) box → LeafClosed vars lists (con.Watchvecneq v w) box
    second_apart i x y a at_x at_y alone each =
        let mine = least_of Arc vars box y lawful (second_named (apart_is v w) vars lists i y ready at_y) in
        let other = least_of Arc vars box x lawful (first_named (apart_is v w) vars lists i x ready at_x) in
        pair_apart i x y at_x at_y (λ d asked. (mine.value, mine.least.there, λ e. each d asked (e ∙ alone mine.value mine.least.there)))
        (λ b asked. (other.value, other.least.there, λ e. each other.value other.asked (e ∙ alone b asked.there)))

  -- ---- steps

  module _ (old : Context) (i : ℕ) (x y : Term) (a : ℤ) (lawful : IsBox (vars_of old) (box_of old)) (ready : IsReady (vars_of old) lists (con.Watchvecneq v w)) (at_x : slice_get v i ≡ Some x) (at_y : slice_get w i ≡ Some y) (same : AreOneWhere (λ j. j ≢ i) (box_of old) v w) where
    -- the value of a place that has one alone isn't supported at the other
    second_never : (box : List (List ℤ)) → Inside box (box_of old) → IsAlone (box_of old) x a → Supported lists (con.Watchvecneq v w) (length v + i) a box → ⊥
    second_never box inside alone supported =
        let some = supported_second (apart_is v w) lists (length v + i) i a box refl supported in
        let there = chosen_there (PlaceHas box) v some.xs i x some.first at_x in
        differ_there box i v w some.xs some.ys some.first some.second (one_inside (λ j. j ≢ i) box (box_of old) v w inside same) some.related (alone (slice_index_or some.xs i (pos 0)) (wider_place box (box_of old) inside x (slice_index_or some.xs i (pos 0)) there) ∙ sym some.given)

    first_never : (box : List (List ℤ)) → Inside box (box_of old) → IsAlone (box_of old) y a → Supported lists (con.Watchvecneq v w) i a box → ⊥
    first_never box inside alone supported =
        let some = supported_first (apart_is v w) lists i x a box at_x supported in
        let there = chosen_there (PlaceHas box) w some.ys i y some.second at_y in
        differ_there box i v w some.xs some.ys some.first some.second (one_inside (λ j. j ≢ i) box (box_of old) v w inside same) some.related (some.given ∙ sym (alone (slice_index_or some.ys i (pos 0)) (wider_place box (box_of old) inside y (slice_index_or some.ys i (pos 0)) there)))

    pub first_step : (new : Context) (result : Result (Unit {0}) Fail) → IsAlone (box_of old) x a → IsStep (ThatAt y a) (EachAsked (vars_of old) y (λ b. b ≢ a)) old new result
        → IsStep (Unsupported (beside lists (con.Watchvecneq v w))) (LeafClosed (vars_of old) lists (con.Watchvecneq v w)) old new result
    first_step new result alone step =
        by_rule (λ box inside t b has that. (length v + i, second_stands (apart_is v w) i t (at_y ∙ ap Some (sym that.0)), λ supported. second_never box inside alone (subst (λ d. Supported lists (con.Watchvecneq v w) (length v + i) d box) that.1 supported)))
        (as_step (λ box is inside closed b asked is_a. second_never box inside alone (subst (λ d. Supported lists (con.Watchvecneq v w) (length v + i) d box) is_a (closed_second (apart_is v w) (vars_of old) lists box i y b closed at_y asked)))
        (first_apart (vars_of old) (box_of old) lawful ready i x y a at_x at_y alone) step)

    pub second_step : (new : Context) (result : Result (Unit {0}) Fail) → IsAlone (box_of old) y a → IsStep (ThatAt x a) (EachAsked (vars_of old) x (λ b. b ≢ a)) old new result
        → IsStep (Unsupported (beside lists (con.Watchvecneq v w))) (LeafClosed (vars_of old) lists (con.Watchvecneq v w)) old new result
    second_step new result alone step =
        by_rule (λ box inside t b has that. (i, first_stands (apart_is v w) i t (at_x ∙ ap Some (sym that.0)), λ supported. first_never box inside alone (subst (λ d. Supported lists (con.Watchvecneq v w) i d box) that.1 supported)))
        (as_step (λ box is inside closed b asked is_a. first_never box inside alone (subst (λ d. Supported lists (con.Watchvecneq v w) i d box) is_a (closed_first (apart_is v w) (vars_of old) lists box i x b closed at_x asked)))
        (second_apart (vars_of old) (box_of old) lawful ready i x y a at_x at_y alone) step)

    -- and after it the box is closed
    pub first_settles : (new : Context) (result : Result (Unit {0}) Fail) → IsAlone (box_of old) x a → IsStep (ThatAt y a) (EachAsked (vars_of old) y (λ b. b ≢ a)) old new result → OnOk result (EachAsked (vars_of old) y (λ b. b ≢ a) (box_of new)) → OnOk result (LeafClosed (vars_of old) lists (con.Watchvecneq v w) (box_of new))
    first_settles new (Ok done) alone step each =
        first_apart (vars_of old) (box_of new) (subst (λ vars. IsBox vars (box_of new)) (same_vars step.loses) (box_again step.loses lawful)) ready i x y a at_x at_y (λ b has. alone b (wider_place (box_of new) (box_of old) (goes_inside step.loses) x b has)) each
    first_settles new (Err fail) alone step each = tt

    pub second_settles : (new : Context) (result : Result (Unit {0}) Fail) → IsAlone (box_of old) y a → IsStep (ThatAt x a) (EachAsked (vars_of old) x (λ b. b ≢ a)) old new result → OnOk result (EachAsked (vars_of old) x (λ b. b ≢ a) (box_of new)) → OnOk result (LeafClosed (vars_of old) lists (con.Watchvecneq v w) (box_of new))
    second_settles new (Ok done) alone step each =
        second_apart (vars_of old) (box_of new) (subst (λ vars. IsBox vars (box_of new)) (same_vars step.loses) (box_again step.loses lawful)) ready i x y a at_x at_y (λ b has. alone b (wider_place (box_of new) (box_of old) (goes_inside step.loses) y b has)) each
    second_settles new (Err fail) alone step each = tt

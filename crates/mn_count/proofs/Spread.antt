-- Values that places have alone, taken out of all others.
use Rattle.std.proofs.Common.{◌≡◌, ◌≢◌, ℕ, ◌+◌, ◌<◌, ◌≤◌, ℤ, ◌⊎◌, inl, inr, IsTrue, List, length, slice_get, Some, Result, Ok, Err, IsErr, refl, sym, subst, ap, ◌∙◌, arith}
use Rattle.std.proofs.lemmas.Int.{ints}
use Rattle.std.proofs.lemmas.Option.{slice_get_within}
use Rattle.mn_model.specs.Decided.{Decided, decide_int}
use Rattle.mn_model.specs.declared.constraint.Con.TheVariants as con
use Rattle.mn_model.specs.declared.constraint.Term.{Term}
use Rattle.mn_model.specs.declared.declaration.Tuples.{Tuples}
use Rattle.mn_boxes.specs.Boxes.{Inside, IsBox}
use Rattle.mn_boxes.specs.Places.{PlaceHas, IsPlaceEnd, is_place_bounded}
use Rattle.mn_boxes.specs.Sets.{Variable}
use Rattle.mn_closure.specs.Closed.{Asked, IsAlone, LeafClosed}
use Rattle.mn_closure.specs.Levels.{Arc, Fixed, Hull}
use Rattle.mn_closure.specs.Supports.{IsOpen, NoneElse}
use Rattle.mn_closure.proofs.Wider.{wider_place}
use Rattle.mn_prop.specs.Contexts.{Context, IsNamed, box_of, vars_of}
use Rattle.mn_prop.specs.Losses.{Unsupported}
use Rattle.mn_prop.specs.Passes.{IsStep}
use Rattle.mn_prop.specs.Posts.{IsReady, beside}
use Rattle.mn_prop.specs.declared.context.Fail.{Fail}
use Rattle.mn_prop.proofs.Boxing.{inside_through}
use Rattle.mn_prop.proofs.Ended.{Greatest, Least, greatest_of, least_of}
use Rattle.mn_prop.proofs.Ready.{ready_named}
use Rattle.mn_prop.proofs.Stepping.{as_step, by_rule, goes_inside, no_step, same_vars}
use Rattle.mn_count.specs.Singles.{EachAsked, IsGoneFrom, IsSpread, ThatAt}
use Rattle.mn_count.proofs.Turning.{TurnsTo, all_turned, no_turn, one_more_turn, passed_turn, turn_fails}

-- what has to be supported at one of the levels has to be at the other
pub fixed_asked : {vars : List Variable} {box : List (List ℤ)} {t : Term} {a : ℤ} → Asked Arc vars box t a → Asked Fixed vars box t a
fixed_asked {vars = vars} {box = box} {t = t} {a = a} asked = record { there = asked.there; ends = λ e. by e }
  where
    by : IsTrue (is_place_bounded vars t) ⊎ (Fixed ≡ Hull) → IsPlaceEnd box t a
    by (inl bounded) = asked.ends (inl bounded)
    by (inr hull) = cc

arc_asked : {vars : List Variable} {box : List (List ℤ)} {t : Term} {a : ℤ} → Asked Fixed vars box t a → Asked Arc vars box t a
arc_asked {vars = vars} {box = box} {t = t} {a = a} asked = record { there = asked.there; ends = λ e. by e }
  where
    by : IsTrue (is_place_bounded vars t) ⊎ (Arc ≡ Hull) → IsPlaceEnd box t a
    by (inl bounded) = asked.ends (inl bounded)
    by (inr hull) = cc

pub same_term : (v : List Term) (i : ℕ) (t u : Term) → slice_get v i ≡ Some t → slice_get v i ≡ Some u → t ≡ u
same_term v i t u one another = cc (one, another)

-- a place that has one value alone has it alone in each box inside
pub alone_inside : (box old : List (List ℤ)) (t : Term) (a : ℤ) → Inside box old → IsAlone old t a → IsAlone box t a
alone_inside box old t a inside alone b has = alone b (wider_place box old inside t b has)

module _ (v : List Term) (lists : List Tuples) where
  -- the value a of place i is gone from the other ones of n places, and what each of n places has alone from all others
  abbrev pub SpreadTo : ℕ → ℤ → Context → Context → ℕ → Type 0
  SpreadTo i a old now n = TurnsTo (Unsupported (beside lists (con.Alldiff v))) (IsSpread (vars_of old) v i) (IsGoneFrom (vars_of old) v i a) old now n

  abbrev pub DiffersTo : Context → Context → ℕ → Type 0
  DiffersTo old now n = TurnsTo (Unsupported (beside lists (con.Alldiff v))) (LeafClosed (vars_of old) lists (con.Alldiff v)) (IsSpread (vars_of old) v) old now n

  -- a box is closed exactly where what a place has alone is gone from all others
  closed_spread : (vars : List Variable) (box : List (List ℤ)) (i : ℕ) → LeafClosed vars lists (con.Alldiff v) box → IsSpread vars v i box
  closed_spread vars box i closed t a at alone j u at_u other b asked same =
      let else : NoneElse (con.Alldiff v) j b box = closed.supported j u b at_u (fixed_asked asked) in
      let some = else i t at (λ e. other (sym e)) in
      some.2 (alone some.0 some.1 ∙ sym same)

  pub spread_closed : (vars : List Variable) (box : List (List ℤ)) → IsBox vars box → IsReady vars lists (con.Alldiff v) → ((i : ℕ) → i < length v → IsSpread vars v i box) → LeafClosed vars lists (con.Alldiff v) box
  spread_closed vars box is ready spread = record { bare = λ none. tt; supported = λ i t a at asked j u at_u other. none_else i t a at (arc_asked asked) j u at_u other }
    where
      none_else : (i : ℕ) (t : Term) (a : ℤ) → slice_get v i ≡ Some t → Asked Arc vars box t a → (j : ℕ) (u : Term) → slice_get v j ≡ Some u → j ≢ i → (b : ℤ) × PlaceHas box u b × (b ≢ a)
      none_else i t a at asked j u at_u other = by (decide_int low.value a) (decide_int high.value a)
        where
          named : IsNamed vars u
          named = ready_named (beside lists (con.Alldiff v)) j ready at_u

          low : Least Arc vars box u
          low = least_of Arc vars box u is named

          high : Greatest Arc vars box u
          high = greatest_of Arc vars box u is named

          alone : low.value ≡ a → high.value ≡ a → IsAlone box u a
          alone same too b has = let from = low.least.least b has in let to = high.greatest.greatest b has in omega (arith, ints, from, to, same, too)

          by : Decided (low.value ≡ a) → Decided (high.value ≡ a) → (b : ℤ) × PlaceHas box u b × (b ≢ a)
          by (inr differs) more = (low.value, low.least.there, differs)
          by (inl same) (inr differs) = (high.value, high.greatest.there, differs)
          by (inl same) (inl too) = absurd (spread j (slice_get_within v j u at_u) u a at_u (alone same too) i t at (λ e. other (sym e)) a asked refl)

  -- ---- one place

  -- with two values it has none alone
  pub open_spread : (c : Context) (i : ℕ) (t : Term) → slice_get v i ≡ Some t → IsOpen (box_of c) t → IsStep (Unsupported (beside lists (con.Alldiff v))) (IsSpread (vars_of c) v i) c c (Ok tt)
  open_spread c i t at two = no_step c (λ u a at_u alone. absurd (never u a at_u alone))
    where
      never : (u : Term) (a : ℤ) → slice_get v i ≡ Some u → IsAlone (box_of c) u a → ⊥
      never u a at_u alone =
          let same = same_term v i u t at_u at in
          let own = subst (λ x. IsAlone (box_of c) x a) same alone in
          two.differ (own two.one two.has_one ∙ sym (own two.another two.has_another))

  -- a is alone at place i
  module _ (old : Context) (i : ℕ) (t : Term) (a : ℤ) (at : slice_get v i ≡ Some t) (alone : IsAlone (box_of old) t a) where
    pub none_spread : SpreadTo i a old old 0
    none_spread = no_turn (IsGoneFrom (vars_of old) v i a) old

    gone : (now : Context) (j : ℕ) → Inside (box_of now) (box_of old) → (box : List (List ℤ)) → IsBox (vars_of old) box → Inside box (box_of now) → IsSpread (vars_of old) v i box → IsGoneFrom (vars_of old) v i a j box
    gone now j around box is inside spread = spread t a at (alone_inside box (box_of old) t a (inside_through inside around) alone) j

    unsupported : (now : Context) (j : ℕ) (u : Term) → Inside (box_of now) (box_of old) → slice_get v j ≡ Some u → j ≢ i → (box : List (List ℤ)) → Inside box (box_of now) → (s : Term) (b : ℤ) → PlaceHas box s b → ThatAt u a box s b → Unsupported (beside lists (con.Alldiff v)) box s b
    unsupported now j u around at_u other box inside s b has that = (j, at_u ∙ ap Some (sym that.0), λ supported. never supported)
      where
        never : NoneElse (con.Alldiff v) j b box → ⊥
        never else =
            let some = else i t at (λ e. other (sym e)) in
            some.2 (alone_inside box (box_of old) t a (inside_through inside around) alone some.0 some.1 ∙ sym that.1)

    turn : {now new : Context} {result : Result (Unit {0}) Fail} (j : ℕ) (u : Term) → Inside (box_of now) (box_of old) → vars_of now ≡ vars_of old → slice_get v j ≡ Some u → j ≢ i → IsStep (ThatAt u a) (EachAsked (vars_of now) u (λ b. b ≢ a)) now new result
        → IsStep (Unsupported (beside lists (con.Alldiff v))) (IsGoneFrom (vars_of old) v i a j) now new result
    turn {now = now} {new = new} {result = result} j u around vars at_u other step =
        let own : IsStep (ThatAt u a) (EachAsked (vars_of old) u (λ b. b ≢ a)) now new result = subst (λ xs. IsStep (ThatAt u a) (EachAsked xs u (λ b. b ≢ a)) now new result) vars step in
        by_rule (unsupported now j u around at_u other) (as_step (λ box is inside goes. goes u at_u other) (λ each s at_s differs. subst (λ x. EachAsked (vars_of old) x (λ b. b ≢ a) (box_of now)) (same_term v j u s at_u at_s) each) own)

    pub one_more_spread : {now new : Context} {j : ℕ} {done : Unit {0}} (u : Term) → SpreadTo i a old now j → slice_get v j ≡ Some u → j ≢ i → IsStep (ThatAt u a) (EachAsked (vars_of now) u (λ b. b ≢ a)) now new (Ok done) → SpreadTo i a old new (j + 1)
    one_more_spread {now = now} {j = j} u turns at_u other step =
        one_more_turn (IsGoneFrom (vars_of old) v i a) turns (gone now j (goes_inside turns.going.loses)) (turn j u (goes_inside turns.going.loses) (same_vars turns.going.loses) at_u other step)

    pub spread_fails : {now new : Context} {j : ℕ} {fail : Fail} {end : Result (Unit {0}) Fail} (u : Term) → SpreadTo i a old now j → slice_get v j ≡ Some u → j ≢ i → IsStep (ThatAt u a) (EachAsked (vars_of now) u (λ b. b ≢ a)) now new (Err fail) → IsErr end
        → IsStep (Unsupported (beside lists (con.Alldiff v))) (IsSpread (vars_of old) v i) old new end
    spread_fails {now = now} {j = j} u turns at_u other step err =
        turn_fails (IsGoneFrom (vars_of old) v i a) turns (gone now j (goes_inside turns.going.loses)) (turn j u (goes_inside turns.going.loses) (same_vars turns.going.loses) at_u other step) err

    pub itself_spread : {now : Context} {j : ℕ} → SpreadTo i a old now j → j ≡ i → SpreadTo i a old now (j + 1)
    itself_spread turns same = passed_turn (IsGoneFrom (vars_of old) v i a) turns (λ u at_u other. absurd (other same))

    pub all_spread : {now : Context} {j : ℕ} → PlaceHas (box_of old) t a → SpreadTo i a old now j → length v ≤ j → IsStep (Unsupported (beside lists (con.Alldiff v))) (IsSpread (vars_of old) v i) old now (Ok tt)
    all_spread {j = n} there turns whole = all_turned (IsGoneFrom (vars_of old) v i a) turns enough
      where
        enough : ((j : ℕ) → j < n → IsGoneFrom (vars_of old) v i a j (box_of old)) → IsSpread (vars_of old) v i (box_of old)
        enough done s b at_s sole j u at_u other d asked same =
            let only = subst (λ x. IsAlone (box_of old) x b) (same_term v i s t at_s at) sole in
            let within = slice_get_within v j u at_u in
            done j (omega (arith, within, whole)) u at_u other d asked (same ∙ sym (only a there))

  -- ---- all places

  module _ (old : Context) (is : IsBox (vars_of old) (box_of old)) (ready : IsReady (vars_of old) lists (con.Alldiff v)) where
    pub none_differs : DiffersTo old old 0
    none_differs = no_turn (IsSpread (vars_of old) v) old

    pub ready_now : {now : Context} {n : ℕ} → DiffersTo old now n → IsReady (vars_of now) lists (con.Alldiff v)
    ready_now turns = subst (λ vars. IsReady vars lists (con.Alldiff v)) (sym (same_vars turns.going.loses)) ready

    own_step : {now new : Context} {result : Result (Unit {0}) Fail} {n : ℕ} → DiffersTo old now n → IsStep (Unsupported (beside lists (con.Alldiff v))) (IsSpread (vars_of now) v n) now new result → IsStep (Unsupported (beside lists (con.Alldiff v))) (IsSpread (vars_of old) v n) now new result
    own_step {now = now} {new = new} {result = result} {n = n} turns step = subst (λ vars. IsStep (Unsupported (beside lists (con.Alldiff v))) (IsSpread vars v n) now new result) (same_vars turns.going.loses) step

    pub one_more_differs : {now new : Context} {n : ℕ} {done : Unit {0}} → DiffersTo old now n → IsStep (Unsupported (beside lists (con.Alldiff v))) (IsSpread (vars_of now) v n) now new (Ok done) → DiffersTo old new (n + 1)
    one_more_differs {n = n} turns step = one_more_turn (IsSpread (vars_of old) v) turns (λ box lawful inside closed. closed_spread (vars_of old) box n closed) (own_step turns step)

    pub differs_fails : {now new : Context} {n : ℕ} {fail : Fail} {end : Result (Unit {0}) Fail} → DiffersTo old now n → IsStep (Unsupported (beside lists (con.Alldiff v))) (IsSpread (vars_of now) v n) now new (Err fail) → IsErr end → IsStep (Unsupported (beside lists (con.Alldiff v))) (LeafClosed (vars_of old) lists (con.Alldiff v)) old new end
    differs_fails {n = n} turns step err = turn_fails (IsSpread (vars_of old) v) turns (λ box lawful inside closed. closed_spread (vars_of old) box n closed) (own_step turns step) err

    pub all_differ : {now : Context} {n : ℕ} → DiffersTo old now n → length v ≤ n → IsStep (Unsupported (beside lists (con.Alldiff v))) (LeafClosed (vars_of old) lists (con.Alldiff v)) old now (Ok tt)
    all_differ turns whole = all_turned (IsSpread (vars_of old) v) turns (λ done. spread_closed (vars_of old) (box_of old) is ready (λ i within. done i (omega (arith, within, whole))))

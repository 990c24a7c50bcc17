-- What the parts of a pass by sets are towards, and that together they close the box.
use Rattle.std.proofs.Common.{◌≡◌, ◌+◌, ℤ, Bool, true, List, length, Some, Result, Ok, Err, IsErr, refl, sym, subst, ◌∙◌, true≢false}
use Rattle.mn_model.specs.Lawful.{IsLawfulTerm}
use Rattle.mn_model.specs.declared.constraint.Con.{Con}
use Rattle.mn_model.specs.declared.constraint.Term.{Term}
use Rattle.mn_model.specs.declared.declaration.Tuples.{Tuples}
use Rattle.mn_boxes.specs.Boxes.{Inside, IsBox}
use Rattle.mn_boxes.specs.Places.{PlaceHas}
use Rattle.mn_boxes.specs.Values.{members}
use Rattle.mn_closure.specs.Closed.{Asked, LeafClosed}
use Rattle.mn_closure.specs.Levels.{Arc, level}
use Rattle.mn_closure.specs.Ready.{declared_sets}
use Rattle.mn_closure.specs.Supports.{Supported}
use Rattle.mn_closure.proofs.Wider.{wider_place, wider_supported}
use Rattle.mn_prop.specs.Contexts.{Context, IsNamed, box_of, vars_of}
use Rattle.mn_prop.specs.Losses.{Unsupported}
use Rattle.mn_prop.specs.Passes.{IsStep}
use Rattle.mn_prop.specs.Posts.{IsReady, beside}
use Rattle.mn_prop.specs.Revising.{PlaceClosed}
use Rattle.mn_prop.specs.Sifting.{IsSifted}
use Rattle.mn_prop.specs.declared.context.Fail.{Fail}
use Rattle.mn_prop.proofs.Stepping.{as_step, goes_inside, same_vars, stop_step, then_step}
use Rattle.mn_element.specs.Gathers.{IsGathered}
use Rattle.mn_element.specs.Picks.{EntryClosed}
use Rattle.mn_element.specs.declared.gathered.Picked.{Picked}
use Rattle.mn_element.proofs.Closing.{all_closed, closed_entry}
use Rattle.mn_element.proofs.Sifting.{AskedPass, sift_asked}
use Rattle.mn_element.proofs.Supporting.{IsIndexed, index_named, index_picks, index_stands, picks_index, picks_result, result_lawful, result_named, result_picks, result_stands, some_entry}

some_same : (t u : Term) → Some t ≡ Some u → t ≡ u
some_same t u e = cc

module _ {c : Con} {v : List Term} {x y : Term} {first : ℤ} (is : IsIndexed c v x y first) (lists : List Tuples) (p : Picked) where
  abbrev Gone : List (List ℤ) → Term → ℤ → Type 0
  Gone = Unsupported (beside lists c)

  abbrev HasIndex : ℤ → Bool
  HasIndex = members p.indices.set

  abbrev HasResult : ℤ → Bool
  HasResult = members p.found.set

  module _ (old : Context) (lawful : IsBox (vars_of old) (box_of old)) (ready : IsReady (vars_of old) lists c) (gathered : IsGathered (box_of old) first v x y (λ i. Unit {0}) p) where
    -- what was gathered is what is supported
    index_there : (a : ℤ) → Supported lists c (length v) a (box_of old) → HasIndex a ≡ true
    index_there a supported = let s = index_picks is lists (length v) a (box_of old) refl supported in (gathered.indices a).1 (s.0, tt, s.1)

    there_index : (a : ℤ) → HasIndex a ≡ true → Supported lists c (length v) a (box_of old)
    there_index a e = let s = (gathered.indices a).0 e in picks_index is lists (box_of old) (some_entry is (vars_of old) lists ready (box_of old) lawful) (length v) a refl s.0 s.2

    result_there : (a : ℤ) → PlaceHas (box_of old) y a → Supported lists c (length v + 1) a (box_of old) → HasResult a ≡ true
    result_there a has supported = let s = result_picks is lists (length v + 1) a (box_of old) refl supported in (gathered.found a has).1 (record { index = s.index; there = s.there; among = tt; picks = s.at_index })

    there_result : (a : ℤ) → PlaceHas (box_of old) y a → HasResult a ≡ true → Supported lists c (length v + 1) a (box_of old)
    there_result a has e =
        let s = (gathered.found a has).0 e in
        picks_result is lists (box_of old) (some_entry is (vars_of old) lists ready (box_of old) lawful) (length v + 1) a refl (record { index = s.index; there = s.there; at_index = s.picks })

    -- the steps
    pub index_step : (mid : Context) (result : Result (Unit {0}) Fail) → IsSifted HasIndex x old mid result → IsStep Gone (AskedPass (vars_of old) HasIndex x) old mid result
    index_step mid result sifted = sift_asked x (index_named is (vars_of old) lists ready) (λ a has out. (length v, index_stands is, λ supported. true≢false (sym (index_there a supported) ∙ out))) sifted

    pub result_step : (mid late : Context) (done : Unit {0}) (result : Result (Unit {0}) Fail) → IsStep Gone (AskedPass (vars_of old) HasIndex x) old mid (Ok done) → IsSifted HasResult y mid late result → IsStep Gone (AskedPass (vars_of old) HasResult y) mid late result
    result_step mid late done result one sifted =
        subst (λ vars. IsStep Gone (AskedPass vars HasResult y) mid late result) (same_vars one.loses) (sift_asked y (subst (λ vars. IsNamed vars y) (sym (same_vars one.loses)) (result_named is (vars_of old) lists ready))
        (λ a has out. (length v + 1, result_stands is, λ supported. true≢false (sym (result_there a (wider_place (box_of mid) (box_of old) inside y a has) (wider_supported (level c) lists c (length v + 1) a (box_of mid) (box_of old) inside supported)) ∙ out))) sifted)
      where
        inside : Inside (box_of mid) (box_of old)
        inside = goes_inside one.loses

    -- a closed box has none but them
    asked_as : (box : List (List ℤ)) (t : Term) (a : ℤ) → Asked Arc (vars_of old) box t a → Asked (level c) (vars_of old) box t a
    asked_as box t a asked = subst (λ l. Asked l (vars_of old) box t a) (sym is.arc) asked

    closed_index : (box : List (List ℤ)) → Inside box (box_of old) → LeafClosed (vars_of old) lists c box → AskedPass (vars_of old) HasIndex x box
    closed_index box inside closed a asked = index_there a (wider_supported (level c) lists c (length v) a box (box_of old) inside (closed.supported (length v) x a (index_stands is) (asked_as box x a asked)))

    closed_result : (box : List (List ℤ)) → Inside box (box_of old) → LeafClosed (vars_of old) lists c box → AskedPass (vars_of old) HasResult y box
    closed_result box inside closed a asked =
        result_there a (wider_place box (box_of old) inside y a asked.there) (wider_supported (level c) lists c (length v + 1) a box (box_of old) inside (closed.supported (length v + 1) y a (result_stands is) (asked_as box y a asked)))

    -- and the old one, of which they are all, is closed there
    index_closed : AskedPass (vars_of old) HasIndex x (box_of old) → PlaceClosed (vars_of old) (beside lists c) (length v) (box_of old)
    index_closed pass t a stands asked =
        let same = some_same t x (sym stands ∙ index_stands is) in
        there_index a (pass a (subst (λ u. Asked Arc (vars_of old) (box_of old) u a) same (subst (λ l. Asked l (vars_of old) (box_of old) t a) is.arc asked)))

    result_closed : AskedPass (vars_of old) HasResult y (box_of old) → PlaceClosed (vars_of old) (beside lists c) (length v + 1) (box_of old)
    result_closed pass t a stands asked =
        let same = some_same t y (sym stands ∙ result_stands is) in
        let at = subst (λ u. Asked Arc (vars_of old) (box_of old) u a) same (subst (λ l. Asked l (vars_of old) (box_of old) t a) is.arc asked) in
        there_result a at.there (pass a at)

    -- the first part of a pass fails, the second, and all three
    pub index_stops : (mid : Context) (result end : Result (Unit {0}) Fail) (fail : Fail) → IsSifted HasIndex x old mid result → result ≡ Err fail → IsErr end → IsStep Gone (LeafClosed (vars_of old) lists c) old mid end
    index_stops mid result end fail sifted failed err = stop_step fail failed (λ box is inside closed. closed_index box inside closed) (index_step mid result sifted) err

    pub result_stops : (mid late : Context) (done : Unit {0}) (result end : Result (Unit {0}) Fail) (fail : Fail) → IsSifted HasIndex x old mid (Ok done) → IsSifted HasResult y mid late result → result ≡ Err fail → IsErr end → IsStep Gone (LeafClosed (vars_of old) lists c) old late end
    result_stops mid late done result end fail one two failed err =
        let first_step = index_step mid (Ok done) one in
        stop_step fail failed (λ box is inside closed. (closed_index box inside closed, closed_result box inside closed)) (then_step first_step (result_step mid late done result first_step two)) err

    pub pass_by_sets : (mid late new : Context) (done over : Unit {0}) (result : Result (Unit {0}) Fail) → IsSifted HasIndex x old mid (Ok done) → IsSifted HasResult y mid late (Ok over) → IsStep Gone (EntryClosed (vars_of late) (beside lists c) first v x) late new result
        → IsStep Gone (LeafClosed (vars_of old) lists c) old new result
    pass_by_sets mid late new done over result one two three =
        let first_step = index_step mid (Ok done) one in
        let both = then_step first_step (result_step mid late done (Ok over) first_step two) in
        let last = subst (λ vars. IsStep Gone (EntryClosed vars (beside lists c) first v x) late new result) (same_vars both.loses) three in
        as_step
        (λ box of_box inside closed. ((closed_index box inside closed, closed_result box inside closed), closed_entry is (vars_of old) lists box closed))
        (λ all. all_closed is (vars_of old) lists ready (box_of old) lawful (index_closed all.0.0) (result_closed all.0.1) all.1)
        (then_step both last)

    pub later_ready : (mid late : Context) (done over : Unit {0}) → IsSifted HasIndex x old mid (Ok done) → IsSifted HasResult y mid late (Ok over) → IsReady (vars_of late) lists c
    later_ready mid late done over one two =
        let first_step = index_step mid (Ok done) one in
        let both = then_step first_step (result_step mid late done (Ok over) first_step two) in
        subst (λ vars. IsReady vars lists c) (sym (same_vars both.loses)) ready

    -- the result may be asked for after the first
    pub later_lawful : (mid : Context) (done : Unit {0}) → IsSifted HasIndex x old mid (Ok done) → IsLawfulTerm (declared_sets (vars_of mid)) y
    later_lawful mid done one = subst (λ vars. IsLawfulTerm (declared_sets vars) y) (sym (same_vars (index_step mid (Ok done) one).loses)) (result_lawful is (vars_of old) lists ready)

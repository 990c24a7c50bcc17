-- What was gathered of the places, and keeping it in x.
use Rattle.std.proofs.Common.{◌≡◌, ◌↔◌, ℕ, ◌+◌, ◌<◌, ◌≤◌, ℤ, ◌≤ℤ◌, ◌⊎◌, inl, inr, Bool, true, false, IsTrue, List, length, slice_get, Some, Result, refl, sym, subst, ap, ◌∙◌, arith, true≢false}
use Rattle.std.proofs.lemmas.Int.{ints}
use Rattle.mn_model.proofs.Stretches.{plus-int_gap}
use Rattle.std.proofs.lemmas.Option.{slice_get_within}
use Rattle.mn_model.specs.Decided.{Decided, decide_nat}
use Rattle.mn_model.specs.Lawful.{IsLawfulTerm}
use Rattle.mn_model.specs.Parts.{places}
use Rattle.mn_model.specs.declared.constraint.Term.{Term}
use Rattle.mn_model.specs.declared.declaration.Tuples.{Tuples}
use Rattle.mn_model.proofs.Lists.{all_at}
use Rattle.mn_boxes.specs.Boxes.{Inside}
use Rattle.mn_boxes.specs.Places.{PlaceHas}
use Rattle.mn_boxes.specs.Sets.{Variable}
use Rattle.mn_boxes.specs.Values.{IsCovered, Values, members}
use Rattle.mn_closure.specs.Closed.{Asked}
use Rattle.mn_closure.specs.Levels.{level}
use Rattle.mn_closure.specs.Ready.{declared_sets}
use Rattle.mn_closure.specs.Supports.{StandsAt, Supported}
use Rattle.mn_closure.proofs.Wider.{wider_place}
use Rattle.mn_prop.specs.Contexts.{Context, IsGreatestAt, IsLeastAt, box_of, vars_of}
use Rattle.mn_prop.specs.Posts.{IsReady, beside}
use Rattle.mn_prop.specs.Sifting.{IsSifted}
use Rattle.mn_prop.specs.declared.context.Fail.{Fail}
use Rattle.mn_prop.proofs.Ready.{ready_named}
use Rattle.mn_arith.specs.Extremes.{OnceReached, extreme_con}
use Rattle.mn_arith.specs.Finds.{HasFirst, IsFoundIn, Spans}
use Rattle.mn_arith.specs.Pruning.{IsPart}
use Rattle.mn_arith.proofs.Choosing.{behind_is, behind_long}
use Rattle.mn_arith.proofs.Pruned.{part_as, part_of_step}
use Rattle.mn_arith.proofs.Sifting.{AskedPass, sift_asked}
use Rattle.mn_arith.proofs.Spreading.{place_stands, x_stands}
use Rattle.mn_arith.proofs.Told.{beside_it, behind_told, is_arc, its_places}

pub covered_between : (s : Values) (lo hi a : ℤ) → IsCovered s lo → IsCovered s hi → lo ≤ℤ a → a ≤ℤ hi → IsCovered s a
covered_between s lo hi a low high at_least at_most =
    let from : s.low ≤ℤ a = (let first = low.low in omega (arith, ints, first, at_least)) in
    let here = plus-int_gap s.low a from in
    let there = plus-int_gap s.low hi high.low in
    let few = high.high in
    record { low = from; high = omega (arith, ints, here, there, few, at_most) }

-- a place is between the ends where its own are
pub spans_so : (box : List (List ℤ)) (t : Term) (lo hi least greatest : ℤ) → IsLeastAt box t least → IsGreatestAt box t greatest → lo ≤ℤ least → greatest ≤ℤ hi → Spans box lo hi t
spans_so box t lo hi least greatest low high from to a has = let le = low.least a has in let ge = high.greatest a has in (omega (arith, ints, le, from), omega (arith, ints, ge, to))

-- the places in order
pub found_first : (v : List Term) (box : List (List ℤ)) (set : Values) → ((a : ℤ) → members set a ≡ false) → IsFoundIn v 0 box set
found_first v box set none a = (λ e. absurd (true≢false (sym e ∙ none a)), λ first. absurd (let below = first.below in omega (arith, below)))

pub found_next : (v : List Term) (k : ℕ) (t : Term) (box : List (List ℤ)) (old new : Values) → slice_get v k ≡ Some t → IsFoundIn v k box old → ((a : ℤ) → IsTrue (members new a) ↔ (IsTrue (members old a) ⊎ PlaceHas box t a)) → IsFoundIn v (k + 1) box new
found_next v k t box old new stands so_far more a = (λ e. so ((more a).0 e), λ first. (more a).1 (back first (decide_nat first.place k)))
  where
    so : IsTrue (members old a) ⊎ PlaceHas box t a → HasFirst v (k + 1) box a
    so (inl before) = let first = (so_far a).0 before in let below = first.below in record { place = first.place; term = first.term; below = omega (arith, below); stands = first.stands; there = first.there }
    so (inr there) = record { place = k; term = t; below = omega arith; stands = stands; there = there }

    back : (first : HasFirst v (k + 1) box a) → Decided (first.place ≡ k) → IsTrue (members old a) ⊎ PlaceHas box t a
    back first (inl same) = let at_place = first.stands in let is : first.term ≡ t = cc (same, stands, at_place) in inr (subst (λ u. PlaceHas box u a) is first.there)
    back first (inr other) = let below = first.below in inl ((so_far a).1 (record { place = first.place; term = first.term; below = omega (arith, below, other); stands = first.stands; there = first.there }))

pub found_all : (v us : List Term) (k : ℕ) (box : List (List ℤ)) (set : Values) → us ≡ v → k ≤ length us → length us ≤ k → IsFoundIn v k box set → IsFoundIn v (length v) box set
found_all v us k box set same to past so_far = let long = ap length same in subst (λ n. IsFoundIn v n box set) (omega (arith, to, past, long)) so_far

-- ---- what is found stays in x

module _ (g : Bool) (v : List Term) (x : Term) (lists : List Tuples) where
  pub x_lawful : (vars : List Variable) → IsReady vars lists (extreme_con g v x) → IsLawfulTerm (declared_sets vars) x
  x_lawful vars ready = all_at (IsLawfulTerm (declared_sets vars)) (places (extreme_con g v x)) (length v) x ready.suits.named (x_stands g v x lists)

  pub place_lawful : (vars : List Variable) → IsReady vars lists (extreme_con g v x) → (j : ℕ) (t : Term) → slice_get v j ≡ Some t → IsLawfulTerm (declared_sets vars) t
  place_lawful vars ready j t stands = all_at (IsLawfulTerm (declared_sets vars)) (places (extreme_con g v x)) j t ready.suits.named (place_stands g v x lists j t stands)

  module _ (old new : Context) (result : Result (Unit {0}) Fail) (ready : IsReady (vars_of old) lists (extreme_con g v x)) (set : Values) (found : IsFoundIn v (length v) (box_of old) set) where
    held : (a : ℤ) (box : List (List ℤ)) → Inside box (box_of old) → Supported lists (extreme_con g v x) (length v) a box → members set a ≡ true
    held a box inside supported =
        let b = beside_it g v x lists box (length v) a supported in
        (found a).1 (record { place = b.place; term = b.term; below = slice_get_within v b.place b.term b.stands; stands = b.stands; there = wider_place box (box_of old) inside b.term a (subst (PlaceHas box b.term) (b.is_last refl) b.found) })

    pub found_part : IsSifted (members set) x old new result → IsPart (beside lists (extreme_con g v x)) (OnceReached (vars_of old) (beside lists (extreme_con g v x)) g v x) old new result
    found_part sifted = part_as closes (part_of_step
        (λ box lawful inside closed. λ a asked. held a box inside (closed.supported (length v) x a (x_stands g v x lists) (subst (λ l. Asked l (vars_of old) box x a) (sym (is_arc g v x)) asked)))
        (sift_asked x (ready_named (beside lists (extreme_con g v x)) (length v) ready (x_stands g v x lists))
        (λ a has out. (length v, x_stands g v x lists, λ supported. true≢false (sym (held a (box_of old) (record { within = λ w b h. h }) supported) ∙ out))) sifted))
      where
        closes : AskedPass (vars_of old) (members set) x (box_of old) → OnceReached (vars_of old) (beside lists (extreme_con g v x)) g v x (box_of old)
        closes passes reach = λ t a stands asked. (
            let is = behind_is v x (length v) t (subst (λ ts. slice_get ts (length v) ≡ Some t) (its_places g v x) stands) (λ below. omega (arith, below)) in
            let at_x = subst (λ u. Asked (level (extreme_con g v x)) (vars_of old) (box_of old) u a) (sym is.1) asked in
            let first = (found a).0 (passes a (subst (λ l. Asked l (vars_of old) (box_of old) x a) (is_arc g v x) at_x)) in
            let below = first.below in
            (behind_told g v x lists (box_of old) (length v) a true (λ less. omega (arith, less)) (long below) (λ u at_u. same_there u at_u a at_x.there) (λ e. (record { place = first.place; term = first.term; stands = first.stands; other = λ same. omega (arith, below, same); there = first.there }, λ j u at_j differs. reach a j u at_x.there at_j), λ both. refl)).0 refl
            )
          where
            long : {k : ℕ} → k < length v → length v < length (places (extreme_con g v x))
            long less = let is = ap length (its_places g v x) in let longer = behind_long v x in omega (arith, is, longer)

            same_there : (u : Term) → StandsAt (extreme_con g v x) (length v) u → (a : ℤ) → PlaceHas (box_of old) x a → PlaceHas (box_of old) u a
            same_there u at_u a has = subst (λ w. PlaceHas (box_of old) w a) (behind_is v x (length v) u (subst (λ ts. slice_get ts (length v) ≡ Some u) (its_places g v x) at_u) (λ below. omega (arith, below))).1 has

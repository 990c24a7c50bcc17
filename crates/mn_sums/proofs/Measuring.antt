-- A run over the places that measures the sum, and one that cuts them.
use Rattle.std.proofs.Common.{◌≡◌, ℕ, zero, suc, ◌+◌, ◌*◌, ◌<◌, ◌≤◌, ℤ, pos, neg_ℤ, ◌+ℤ◌, ◌-ℤ◌, ◌<ℤ◌, ◌≤ℤ◌, ◌⊎◌, inl, inr, List, [], ◌∷◌, length, drop, get_or, slice_get, Some, Result, Ok, Err, IsErr, refl, sym, subst, ap, ◌∙◌, arith}
use Rattle.std.proofs.lemmas.Int.{ints}
use Rattle.std.proofs.lemmas.Option.{slice_get-get_or, slice_get_within}
use Rattle.mn_model.specs.Lawful.{IsNearTerm}
use Rattle.mn_model.specs.Parts.{places}
use Rattle.mn_model.specs.declared.constraint.Con.{Con}
use Rattle.mn_model.specs.declared.declaration.Tuples.{Tuples}
use Rattle.mn_model.proofs.Lists.{all_at}
use Rattle.mn_boxes.specs.Boxes.{Inside, IsBox}
use Rattle.mn_boxes.specs.Sets.{Variable}
use Rattle.mn_closure.specs.Closed.{LeafClosed}
use Rattle.mn_closure.specs.Supports.{StandsAt}
use Rattle.mn_closure.proofs.Wider.{wider_place}
use Rattle.mn_prop.specs.Contexts.{Context, IsNamed, box_of, vars_of}
use Rattle.mn_prop.specs.Losses.{Unsupported}
use Rattle.mn_prop.specs.Passes.{IsStep}
use Rattle.mn_prop.specs.Posts.{IsReady, beside}
use Rattle.mn_prop.specs.declared.context.Fail.{Fail}
use Rattle.mn_prop.proofs.Boxing.{inside_through}
use Rattle.mn_prop.proofs.Trying.{at_most_or}
use Rattle.mn_prop.proofs.Going.{Going, arrives, begins, goes_on, goes_wrong, same_before}
use Rattle.mn_prop.proofs.Ready.{ready_named}
use Rattle.mn_prop.proofs.Stepping.{box_again, by_rule, goes_inside, no_step, same_vars}
use Rattle.mn_sums.specs.Parts.{AllFit, IsMeasured, IsPartOf, IsSpan, TooMuch, cost, least_cost, least_total, term_of}
use Rattle.mn_sums.specs.Sums.{IsAtMost}
use Rattle.mn_sums.specs.declared.part.Part.{Part}
use Rattle.mn_sums.proofs.Costs.{AreParts, cheapest}
use Rattle.mn_sums.proofs.Fitting.{closed_fits, fits_closed, part_stands, past_fails, stands, supported_fits}

-- ---- what is known of the parts of a constraint that is ready

module _ (vars : List Variable) (lists : List Tuples) (c : Con) (ps : List Part) (bound : ℤ) (is : IsAtMost lists c ps bound) (ready : IsReady vars lists c) where
  parts_named : (qs : List Part) → ((i : ℕ) (p : Part) → slice_get qs i ≡ Some p → IsNamed vars (term_of p)) → AreParts vars qs
  parts_named [] each = tt
  parts_named (q ∷ qs) each = (each 0 q refl, parts_named qs (λ i p here. each (suc i) p here))

  at_place : (i : ℕ) (p : Part) → slice_get ps i ≡ Some p → StandsAt c i (term_of p)
  at_place i p here = subst (λ ts. slice_get ts i ≡ Some (term_of p)) is.placed (part_stands ps i p here)

  pub named_parts : AreParts vars ps
  named_parts = parts_named ps (λ i p here. ready_named (beside lists c) i ready (at_place i p here))

  pub part_of_ready : (i : ℕ) (p : Part) → slice_get ps i ≡ Some p → IsPartOf vars p
  part_of_ready i p here = record {
    named = ready_named (beside lists c) i ready (at_place i p here);
    near_term = all_at IsNearTerm (places c) i (term_of p) ready.meant.near.places (at_place i p here);
    near_number = all_at _ ps i p is.near here;
  }

-- the part at an index
pub part_here : (ps items : List Part) (i : ℕ) (d : Part) → items ≡ ps → i < length items → slice_get ps i ≡ Some (get_or items i d)
part_here ps items i d same inside = subst (λ qs. slice_get qs i ≡ Some (get_or items i d)) same (slice_get-get_or items i d inside)

-- ---- measuring

-- the places so far are measured
pub record MeasuredTo (box : List (List ℤ)) (ps : List Part) (i : ℕ) (least widest : ℤ) : Type 0 where
  pub whole : least +ℤ least_total box (drop i ps) ≡ least_total box ps
  pub within : (j : ℕ) (p : Part) → j < i → slice_get ps j ≡ Some p → AllFit p (least_cost box p +ℤ widest) box
  pub low : neg_ℤ (pos (1000000002000000001 * i)) ≤ℤ least
  pub high : least ≤ℤ pos (1000000002000000001 * i)

pub none_measured : (box : List (List ℤ)) (ps : List Part) → MeasuredTo box ps 0 (pos 0) (pos 0)
none_measured box ps = record { whole = omega (arith, ints); within = λ j p below. absurd (omega (arith, below)); low = omega (arith, ints); high = omega (arith, ints) }

-- up to the next one
up_to : (j i : ℕ) → j < i + 1 → (j < i) ⊎ (j ≡ i)
up_to j i below = by (at_most_or (pos i) (pos j))
  where
    by : (pos i ≤ℤ pos j) ⊎ (pos j <ℤ pos i) → (j < i) ⊎ (j ≡ i)
    by (inl le) = inr (omega (arith, ints, le, below))
    by (inr less) = inl (omega (arith, ints, less))

drop_at : (ps : List Part) (i : ℕ) (p : Part) → slice_get ps i ≡ Some p → drop i ps ≡ p ∷ drop (suc i) ps
drop_at [] i p here = cc
drop_at (q ∷ ps) zero p here = let same : q ≡ p = cc in ap (λ r. r ∷ ps) same
drop_at (q ∷ ps) (suc i) p here = drop_at ps i p here

same_part : (ps : List Part) (i j : ℕ) (p q : Part) → j ≡ i → slice_get ps i ≡ Some p → slice_get ps j ≡ Some q → p ≡ q
same_part ps i j p q same here there = let both : Some p ≡ Some q = sym here ∙ (sym (ap (slice_get ps) same) ∙ there) in cc both

pub next_measured : (box : List (List ℤ)) (ps : List Part) (i : ℕ) (least widest low high more wider : ℤ) (p : Part) → MeasuredTo box ps i least widest → slice_get ps i ≡ Some p → IsSpan box p low high → more ≡ least +ℤ low → widest ≤ℤ wider → (high -ℤ low) ≤ℤ wider → MeasuredTo box ps (i + 1) more wider
next_measured box ps i least widest low high more wider p so_far here span is_more no_less enough = record {
  whole = (let whole = so_far.whole in let e = span.is in omega (arith, ints, whole, e, step, is_more));
  within = λ j q below there. by j q there (up_to j i below);
  low = (let small = span.small_low.0 in let before = so_far.low in omega (arith, ints, small, before, is_more));
  high = (let small = span.small_low.1 in let before = so_far.high in omega (arith, ints, small, before, is_more));
}
  where
    step : least_total box (drop i ps) ≡ least_cost box p +ℤ least_total box (drop (i + 1) ps)
    step = let next : suc i ≡ i + 1 = omega arith in subst (λ n. least_total box (drop i ps) ≡ least_cost box p +ℤ least_total box (drop n ps)) next (ap (least_total box) (drop_at ps i p here))

    by : (j : ℕ) (q : Part) → slice_get ps j ≡ Some q → (j < i) ⊎ (j ≡ i) → AllFit q (least_cost box q +ℤ wider) box
    by j q there (inl below) a has = let fits = so_far.within j q below there a has in omega (arith, ints, fits, no_less)
    by j q there (inr same) a has =
        let e = same_part ps i j p q same here there in
        let fit : AllFit p (least_cost box p +ℤ wider) box = λ b at. (let most = span.most b at in let f = span.is in omega (arith, ints, most, f, enough)) in
        subst (λ r. AllFit r (least_cost box r +ℤ wider) box) e fit a has

pub all_measured : (box : List (List ℤ)) (ps : List Part) (i : ℕ) (least widest : ℤ) → MeasuredTo box ps i least widest → length ps ≤ i → i ≤ 65538 → IsMeasured box ps least widest
all_measured box ps i least widest so_far all few = record {
  few = (let low = so_far.low in let high = so_far.high in (omega (arith, ints, low, few), omega (arith, ints, high, few)));
  is = (let whole = so_far.whole in let none : least_total box (drop i ps) ≡ pos 0 = ap (least_total box) (drop_all ps i all) in omega (arith, ints, whole, none));
  within = λ j p here. so_far.within j p (let inside = slice_get_within ps j p here in omega (arith, inside, all)) here;
}
  where
    drop_all : (qs : List Part) (n : ℕ) → length qs ≤ n → drop n qs ≡ []
    drop_all [] zero le = refl
    drop_all [] (suc n) le = refl
    drop_all (q ∷ qs) zero le = absurd (omega (arith, le))
    drop_all (q ∷ qs) (suc n) le = drop_all qs n (omega (arith, le))

-- ---- cutting

-- what a place may add at most
abbrev pub most_of : List Part → ℤ → List (List ℤ) → Part → ℤ
most_of ps bound box p = (bound -ℤ least_total box ps) +ℤ least_cost box p

-- the places so far are cut, and where no value went their values fit
pub record CutTo (lists : List Tuples) (c : Con) (ps : List Part) (bound : ℤ) (old now : Context) (i : ℕ) : Type 0 where
  pub going : Going (Unsupported (beside lists c)) (LeafClosed (vars_of old) lists c) old now
  pub done : box_of now ≡ box_of old → (j : ℕ) (p : Part) → j < i → slice_get ps j ≡ Some p → AllFit p (most_of ps bound (box_of old) p) (box_of old)

pub none_cut : (lists : List Tuples) (c : Con) (ps : List Part) (bound : ℤ) (old : Context) → CutTo lists c ps bound old old 0
none_cut lists c ps bound old = record { going = begins old; done = λ same j p below. absurd (omega (arith, below)) }

module _ (lists : List Tuples) (c : Con) (ps : List Part) (bound : ℤ) (old : Context) (is : IsAtMost lists c ps bound) (ready : IsReady (vars_of old) lists c) (lawful : IsBox (vars_of old) (box_of old)) where
  named : AreParts (vars_of old) ps
  named = named_parts (vars_of old) lists c ps bound is ready

  -- a place adds no less where values are gone
  grows : {now : Context} → Going (Unsupported (beside lists c)) (LeafClosed (vars_of old) lists c) old now → (p : Part) → IsNamed (vars_of old) (term_of p) → least_cost (box_of old) p ≤ℤ least_cost (box_of now) p
  grows {now = now} going p at =
      let vars = same_vars going.loses in
      let box = subst (λ vs. IsBox vs (box_of now)) vars (box_again going.loses lawful) in
      let here = cheapest (vars_of old) (box_of now) p box at in
      let e = here.is in
      let less = (cheapest (vars_of old) (box_of old) p lawful at).others here.value (wider_place (box_of now) (box_of old) (goes_inside going.loses) (term_of p) here.value here.there) in
      omega (arith, ints, e, less)

  at_part : (i : ℕ) (p : Part) → slice_get ps i ≡ Some p → IsNamed (vars_of old) (term_of p)
  at_part i p here = (part_of_ready (vars_of old) lists c ps bound is ready i p here).named

  -- what a cut takes isn't supported, and a closed box keeps what it leaves
  cut_rule : {now new : Context} {result : Result (Unit {0}) Fail} {P : List (List ℤ) → Type 0} (i : ℕ) (p : Part) (slack : ℤ) → Going (Unsupported (beside lists c)) (LeafClosed (vars_of old) lists c) old now → slice_get ps i ≡ Some p → slack ≡ bound -ℤ least_total (box_of old) ps
      → IsStep (TooMuch p (least_cost (box_of now) p +ℤ slack)) P now new result → IsStep (Unsupported (beside lists c)) P now new result
  cut_rule {now = now} i p slack going here e step = by_rule (λ box inside t a has too. (
    i,
    subst (StandsAt c i) (sym too.0) (stands (vars_of old) lists c ps bound is named i p here),
    λ supported. (
        let fits = supported_fits (vars_of old) lists c ps bound is named (box_of old) box i p a lawful (inside_through inside (goes_inside going.loses)) here supported in
        let more = too.1 in
        let less = grows going p (at_part i p here) in
        absurd (omega (arith, ints, fits, more, less, e))),
  )) step

  cut_keeps : {now : Context} (i : ℕ) (p : Part) (slack : ℤ) → Going (Unsupported (beside lists c)) (LeafClosed (vars_of old) lists c) old now → slice_get ps i ≡ Some p → slack ≡ bound -ℤ least_total (box_of old) ps
      → (box : List (List ℤ)) → IsBox (vars_of old) box → Inside box (box_of now) → LeafClosed (vars_of old) lists c box → AllFit p (least_cost (box_of now) p +ℤ slack) box
  cut_keeps {now = now} i p slack going here e box is_box inside closed a has =
      let fits = closed_fits (vars_of old) lists c ps bound is named (box_of old) box i p lawful is_box (inside_through inside (goes_inside going.loses)) here closed a has in
      let less = grows going p (at_part i p here) in
      omega (arith, ints, fits, less, e)

  pub next_cut : {now new : Context} {done : Unit {0}} (i : ℕ) (p : Part) (slack : ℤ) → CutTo lists c ps bound old now i → slice_get ps i ≡ Some p → slack ≡ bound -ℤ least_total (box_of old) ps
      → IsStep (TooMuch p (least_cost (box_of now) p +ℤ slack)) (AllFit p (least_cost (box_of now) p +ℤ slack)) now new (Ok done) → CutTo lists c ps bound old new (i + 1)
  next_cut {now = now} {new = new} i p slack so_far here e step = record {
    going = goes_on so_far.going (cut_keeps i p slack so_far.going here e) (cut_rule i p slack so_far.going here e step);
    done = λ same j q below there. by same j q there (up_to j i below);
  }
    where
      before : box_of new ≡ box_of old → box_of now ≡ box_of old
      before same = same_before so_far.going step.loses same

      own : box_of new ≡ box_of old → AllFit p (most_of ps bound (box_of old) p) (box_of old)
      own same a has =
          let still : box_of new ≡ box_of now → AllFit p (least_cost (box_of now) p +ℤ slack) (box_of now) = step.still in
          let fits : cost p a ≤ℤ (least_cost (box_of old) p +ℤ slack) = subst (λ box. AllFit p (least_cost box p +ℤ slack) box) (before same) (still (same ∙ sym (before same))) a has in
          omega (arith, ints, fits, e)

      by : box_of new ≡ box_of old → (j : ℕ) (q : Part) → slice_get ps j ≡ Some q → (j < i) ⊎ (j ≡ i) → AllFit q (most_of ps bound (box_of old) q) (box_of old)
      by same j q there (inl below) = so_far.done (before same) j q below there
      by same j q there (inr at) = subst (λ r. AllFit r (most_of ps bound (box_of old) r) (box_of old)) (same_part ps i j p q at here there) (own same)

  pub wrong_cut : {now new : Context} {fail : Fail} {end : Result (Unit {0}) Fail} (i : ℕ) (p : Part) (slack : ℤ) → CutTo lists c ps bound old now i → slice_get ps i ≡ Some p → slack ≡ bound -ℤ least_total (box_of old) ps
      → IsStep (TooMuch p (least_cost (box_of now) p +ℤ slack)) (AllFit p (least_cost (box_of now) p +ℤ slack)) now new (Err fail) → IsErr end → IsStep (Unsupported (beside lists c)) (LeafClosed (vars_of old) lists c) old new end
  wrong_cut i p slack so_far here e step err = goes_wrong so_far.going (cut_keeps i p slack so_far.going here e) (cut_rule i p slack so_far.going here e step) err

  pub all_cut : {now : Context} (i : ℕ) → CutTo lists c ps bound old now i → length ps ≤ i → least_total (box_of old) ps ≤ℤ bound → IsStep (Unsupported (beside lists c)) (LeafClosed (vars_of old) lists c) old now (Ok tt)
  all_cut i so_far all least = arrives so_far.going (λ same. fits_closed (vars_of old) lists c ps bound is named (box_of old) lawful least (λ j p here. so_far.done same j p (let inside = slice_get_within ps j p here in omega (arith, inside, all)) here))

  -- ---- without a cut

  pub none_wide : (widest least : ℤ) → IsMeasured (box_of old) ps least widest → least ≤ℤ bound → widest ≤ℤ (bound -ℤ least) → IsStep (Unsupported (beside lists c)) (LeafClosed (vars_of old) lists c) old old (Ok tt)
  none_wide widest least measured some wide =
      let e = measured.is in
      no_step old (fits_closed (vars_of old) lists c ps bound is named (box_of old) lawful (omega (arith, ints, e, some)) (λ j p here a has. (let fits = measured.within j p here a has in omega (arith, ints, fits, e, wide))))

  pub none_left : (fail : Fail) → bound <ℤ least_total (box_of old) ps → IsStep (Unsupported (beside lists c)) (LeafClosed (vars_of old) lists c) old old (Err fail)
  none_left fail past = past_fails (vars_of old) lists c ps bound is named old fail refl lawful past

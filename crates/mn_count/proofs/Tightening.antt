-- A value that is taken out of all entries that have others, and one that is kept alone wherever it is.
use Rattle.std.proofs.Common.{◌≡◌, ◌≢◌, ℕ, ◌+◌, ◌≤◌, ℤ, inl, inr, false, OnOk, List, length, slice_get, slice_set, Some, Result, Ok, Err, IsErr, refl, sym, subst, ap, ◌∙◌, arith, true≢false}
use Rattle.std.proofs.lemmas.Int.{ints}
use Rattle.std.specs.Ordering.{int_eq}
use borrow.Author.Count.{below_more}
use Rattle.mn_model.specs.Decided.{Decided, decide_int}
use Rattle.mn_model.specs.declared.constraint.Term.{Term}
use Rattle.mn_model.specs.declared.declaration.Tuples.{Tuples}
use Rattle.mn_boxes.specs.Boxes.{Inside, IsBox}
use Rattle.mn_boxes.specs.Places.{PlaceHas}
use Rattle.mn_domains.proofs.Filtered.{eq_so, eq_true}
use Rattle.mn_meaning.specs.Families.{occurrences}
use Rattle.mn_meaning.specs.Meaning.{at}
use Rattle.mn_closure.specs.Closed.{Asked, IsAlone, LeafClosed}
use Rattle.mn_closure.specs.Levels.{Arc}
use Rattle.mn_closure.specs.Supports.{Choice, IsOpen}
use Rattle.mn_closure.proofs.Wider.{wider_place}
use Rattle.mn_prop.specs.Contexts.{ChangedAt, Context, IsChange, IsNamed, NonePasses, box_of, vars_of}
use Rattle.mn_prop.specs.Losses.{Unsupported}
use Rattle.mn_prop.specs.Passes.{AllPass, IsStep, Narrows}
use Rattle.mn_prop.specs.Posts.{beside}
use Rattle.mn_prop.specs.declared.context.Fail.{Fail}
use Rattle.mn_prop.proofs.Boxing.{inside_through}
use Rattle.mn_prop.proofs.Ended.{greatest_of, least_of}
use Rattle.mn_prop.proofs.Going.{goes_on, goes_wrong, same_before}
use Rattle.mn_prop.proofs.Narrowing.{narrows_as}
use Rattle.mn_prop.proofs.Stepping.{Property, Rules, by_rule, change_step, goes_inside, same_vars}
use Rattle.mn_count.specs.declared.occurrence.Amount.{Amount}
use Rattle.mn_count.specs.Occurrences.{AllDropped, AllKept, IsDropped, IsFull, IsKept, IsShort, con_of}
use Rattle.mn_count.specs.Singles.{EachAsked, ThatAt}
use Rattle.mn_count.proofs.Amounts.{IsCounted, allowed_inside, closed_entry, entry_stands, supported_counted}
use Rattle.mn_count.proofs.Counting.{one_other, one_same, set_count}
use Rattle.mn_count.proofs.Entries.{chosen_with, choice_inside, same_entry}
use Rattle.mn_count.proofs.Tallies.{HasOther, open_other}
use Rattle.mn_count.proofs.Turning.{TurnsTo, no_turn}

-- ---- loops

-- a turn that is a step towards S, which a box with P has and which brings the turn's property
more_turn : {R : Rules} {P S : Property} (Q : ℕ → Property) {old now new : Context} {n : ℕ} {done : Unit {0}} → TurnsTo R P Q old now n → ((box : List (List ℤ)) → IsBox (vars_of old) box → Inside box (box_of now) → P box → S box) → (S (box_of now) → Q n (box_of now)) → IsStep R S now new (Ok done) → TurnsTo R P Q old new (n + 1)
more_turn {S = S} Q {old = old} {now = now} {new = new} {n = n} turns less more step = record {
  going = goes_on turns.going less step;
  before = λ same j within.
      (let unchanged : box_of now ≡ box_of old = same_before turns.going step.loses same in
      let still : box_of new ≡ box_of now → S (box_of now) = step.still in
      below_more (λ i. Q i (box_of old)) n (turns.before unchanged) (subst (Q n) unchanged (more (still (same ∙ sym unchanged)))) j within);
}

-- one that does nothing
past_turn : {R : Rules} {P : Property} (Q : ℕ → Property) {old now : Context} {n : ℕ} → TurnsTo R P Q old now n → Q n (box_of now) → TurnsTo R P Q old now (n + 1)
past_turn Q {old = old} {n = n} turns here = record { going = turns.going; before = λ same j within. below_more (λ i. Q i (box_of old)) n (turns.before same) (subst (Q n) same here) j within }

as_narrow : {R : Rules} {P : Property} {old new : Context} {result : Result (Unit {0}) Fail} → IsStep R P old new result → Narrows R P old new result
as_narrow step = narrows_as (λ box is inside p. p) step

turned : {R : Rules} {P : Property} {Q : ℕ → Property} {old now : Context} {n : ℕ} → TurnsTo R P Q old now n → Narrows R P old now (Ok tt)
turned turns = record { loses = turns.going.loses; sound = turns.going.sound; fail = tt }

-- a result that failed says nothing of sets that stay
pub still_failed : (P : Type 0) (end : Result (Unit {0}) Fail) → IsErr end → OnOk end P
still_failed P (Ok done) err = cc
still_failed P (Err fail) err = tt

module _ (lists : List Tuples) (v : List Term) (k : ℤ) (amount : Amount) where
  -- ---- the value goes from the entries that have others

  abbrev pub DropsTo : Context → Context → ℕ → Type 0
  DropsTo old now i = TurnsTo (Unsupported (beside lists (con_of v k amount))) (LeafClosed (vars_of old) lists (con_of v k amount)) (λ j box. IsDropped (vars_of old) k v box j) old now i

  pub none_dropped : (c : Context) → DropsTo c c 0
  none_dropped c = no_turn (λ j box. IsDropped (vars_of c) k v box j) c

  module _ (old : Context) (full : IsFull (box_of old) k v amount) where
    -- it isn't supported at a place that has another value
    never_itself : (box : List (List ℤ)) (i : ℕ) (t : Term) → Inside box (box_of old) → slice_get v i ≡ Some t → HasOther (box_of old) t k → IsCounted box v k amount i k → ⊥
    never_itself box i t inside stands other counted = more (choice_inside box (box_of old) v counted.values inside counted.chosen)
      where
        more : Choice (box_of old) v counted.values → ⊥
        more chosen =
            let set = set_count (PlaceHas (box_of old)) v k counted.values i t other.value chosen stands in
            let was = one_same k (at counted.values i) counted.given in
            let none = one_other k other.value other.differs in
            let least = full.least (slice_set counted.values i other.value) (chosen_with (PlaceHas (box_of old)) v counted.values i t other.value chosen stands other.there) in
            let most = full.allowed (occurrences k counted.values) (allowed_inside box (box_of old) amount (occurrences k counted.values) inside counted.allowed) in
            omega (arith, set, was, none, least, most)

    other_before : (now : Context) (t : Term) → Inside (box_of now) (box_of old) → HasOther (box_of now) t k → HasOther (box_of old) t k
    other_before now t inside other = record { value = other.value; there = wider_place (box_of now) (box_of old) inside t other.value other.there; differs = other.differs }

    drops_unsupported : (now : Context) (i : ℕ) (t : Term) → Inside (box_of now) (box_of old) → slice_get v i ≡ Some t → HasOther (box_of now) t k → (box : List (List ℤ)) → Inside box (box_of now) → (u : Term) (b : ℤ) → PlaceHas box u b → ThatAt t k box u b → Unsupported (beside lists (con_of v k amount)) box u b
    drops_unsupported now i t around stands other box inside u b has that = (
      i,
      entry_stands lists v k amount i u (stands ∙ ap Some (sym that.0)),
      λ supported. never_itself box i t (inside_through inside around) stands (other_before now t around other) (subst (λ d. IsCounted box v k amount i d) that.1 (supported_counted lists v k amount i t b box stands supported)),
    )

    drops_gone : (now : Context) (i : ℕ) (t : Term) → Inside (box_of now) (box_of old) → slice_get v i ≡ Some t → HasOther (box_of now) t k → (box : List (List ℤ)) → IsBox (vars_of old) box → Inside box (box_of now) → LeafClosed (vars_of old) lists (con_of v k amount) box → EachAsked (vars_of old) t (λ b. b ≢ k) box
    drops_gone now i t around stands other box is inside closed a asked same =
        never_itself box i t (inside_through inside around) stands (other_before now t around other) (subst (λ d. IsCounted box v k amount i d) same (closed_entry lists v k amount (vars_of old) box i t a closed stands asked))

    drops_step : (now new : Context) (result : Result (Unit {0}) Fail) (i : ℕ) (t : Term) → Inside (box_of now) (box_of old) → vars_of now ≡ vars_of old → slice_get v i ≡ Some t → HasOther (box_of now) t k → IsStep (ThatAt t k) (EachAsked (vars_of now) t (λ b. b ≢ k)) now new result
        → IsStep (Unsupported (beside lists (con_of v k amount))) (EachAsked (vars_of old) t (λ b. b ≢ k)) now new result
    drops_step now new result i t around vars stands other step =
        by_rule (drops_unsupported now i t around stands other) (subst (λ xs. IsStep (ThatAt t k) (EachAsked xs t (λ b. b ≢ k)) now new result) vars step)

    pub one_more_drop : {now new : Context} {i : ℕ} {done : Unit {0}} (t : Term) → DropsTo old now i → slice_get v i ≡ Some t → IsOpen (box_of now) t → IsStep (ThatAt t k) (EachAsked (vars_of now) t (λ b. b ≢ k)) now new (Ok done) → DropsTo old new (i + 1)
    one_more_drop {now = now} {new = new} {i = i} {done = done} t turns stands two step =
        more_turn (λ j box. IsDropped (vars_of old) k v box j) turns (drops_gone now i t (goes_inside turns.going.loses) stands (open_other (box_of now) t k two))
        (λ each u at_u asked. absurd (each k (subst (λ x. Asked Arc (vars_of old) (box_of now) x k) (sym (same_entry v i t u stands at_u)) asked) refl))
        (drops_step now new (Ok done) i t (goes_inside turns.going.loses) (same_vars turns.going.loses) stands (open_other (box_of now) t k two) step)

    pub drop_fails : {now new : Context} {i : ℕ} {fail : Fail} {end : Result (Unit {0}) Fail} (t : Term) → DropsTo old now i → slice_get v i ≡ Some t → IsOpen (box_of now) t → IsStep (ThatAt t k) (EachAsked (vars_of now) t (λ b. b ≢ k)) now new (Err fail) → IsErr end
        → Narrows (Unsupported (beside lists (con_of v k amount))) (LeafClosed (vars_of old) lists (con_of v k amount)) old new end
    drop_fails {now = now} {new = new} {i = i} {fail = fail} t turns stands two step err =
        as_narrow (goes_wrong turns.going (drops_gone now i t (goes_inside turns.going.loses) stands (open_other (box_of now) t k two))
        (drops_step now new (Err fail) i t (goes_inside turns.going.loses) (same_vars turns.going.loses) stands (open_other (box_of now) t k two) step) err)

    pub single_dropped : {now : Context} {i : ℕ} (t : Term) (a : ℤ) → DropsTo old now i → slice_get v i ≡ Some t → IsAlone (box_of now) t a → DropsTo old now (i + 1)
    single_dropped {now = now} {i = i} t a turns stands alone =
        past_turn (λ j box. IsDropped (vars_of old) k v box j) turns (λ u at_u asked b has. (let own = subst (λ x. IsAlone (box_of now) x a) (same_entry v i t u stands at_u) alone in own b has ∙ sym (own k asked.there)))

    pub all_dropped : {now : Context} {i : ℕ} → DropsTo old now i → Narrows (Unsupported (beside lists (con_of v k amount))) (LeafClosed (vars_of old) lists (con_of v k amount)) old now (Ok tt)
    all_dropped turns = turned turns

    pub dropped_still : {now : Context} {i : ℕ} → DropsTo old now i → length v ≤ i → box_of now ≡ box_of old → AllDropped (vars_of old) k v (box_of old)
    dropped_still turns whole same i within = turns.before same i (omega (arith, within, whole))

  -- ---- the value is kept alone wherever it is

  abbrev pub KeepsTo : Context → Context → ℕ → Type 0
  KeepsTo old now i = TurnsTo (Unsupported (beside lists (con_of v k amount))) (LeafClosed (vars_of old) lists (con_of v k amount)) (λ j box. IsKept k v box j) old now i

  pub none_kept : (c : Context) → KeepsTo c c 0
  none_kept c = no_turn (λ j box. IsKept k v box j) c

  module _ (old : Context) (short : IsShort (box_of old) k v amount) where
    -- no other value is supported at a place that has it
    never_another : (box : List (List ℤ)) (i : ℕ) (t : Term) (a : ℤ) → Inside box (box_of old) → slice_get v i ≡ Some t → PlaceHas (box_of old) t k → a ≢ k → IsCounted box v k amount i a → ⊥
    never_another box i t a inside stands has differs counted = less (choice_inside box (box_of old) v counted.values inside counted.chosen)
      where
        less : Choice (box_of old) v counted.values → ⊥
        less chosen =
            let set = set_count (PlaceHas (box_of old)) v k counted.values i t k chosen stands in
            let was = one_other k (at counted.values i) (λ same. differs (sym counted.given ∙ same)) in
            let one = one_same k k refl in
            let most = short.most (slice_set counted.values i k) (chosen_with (PlaceHas (box_of old)) v counted.values i t k chosen stands has) in
            let least = short.allowed (occurrences k counted.values) (allowed_inside box (box_of old) amount (occurrences k counted.values) inside counted.allowed) in
            omega (arith, set, was, one, most, least)

    is_itself : (box : List (List ℤ)) (i : ℕ) (t : Term) (a : ℤ) → Inside box (box_of old) → slice_get v i ≡ Some t → PlaceHas (box_of old) t k → IsCounted box v k amount i a → a ≡ k
    is_itself box i t a inside stands has counted = by (decide_int a k)
      where
        by : Decided (a ≡ k) → a ≡ k
        by (inl same) = same
        by (inr differs) = absurd (never_another box i t a inside stands has differs counted)

    differs_so : (a b : ℤ) → int_eq a b ≡ false → a ≢ b
    differs_so a b e same = true≢false (sym (eq_true a b same) ∙ e)

    keeps_unsupported : (now : Context) (i : ℕ) (t : Term) → Inside (box_of now) (box_of old) → slice_get v i ≡ Some t → PlaceHas (box_of now) t k → (a : ℤ) → PlaceHas (box_of now) t a → int_eq a k ≡ false → Unsupported (beside lists (con_of v k amount)) (box_of now) t a
    keeps_unsupported now i t around stands has a there out = (
      i,
      entry_stands lists v k amount i t stands,
      λ supported. never_another (box_of now) i t a around stands (wider_place (box_of now) (box_of old) around t k has) (differs_so a k out) (supported_counted lists v k amount i t a (box_of now) stands supported),
    )

    -- of a closed box both ends of the place are k
    keeps_alone : (now : Context) (i : ℕ) (t : Term) → IsNamed (vars_of old) t → Inside (box_of now) (box_of old) → slice_get v i ≡ Some t → PlaceHas (box_of now) t k → (box : List (List ℤ)) → IsBox (vars_of old) box → Inside box (box_of now) → LeafClosed (vars_of old) lists (con_of v k amount) box → AllPass (λ a. int_eq a k) t box
    keeps_alone now i t named around stands has box is inside closed a there =
        let low = least_of Arc (vars_of old) box t is named in
        let high = greatest_of Arc (vars_of old) box t is named in
        let outer = inside_through inside around in
        let before = wider_place (box_of now) (box_of old) around t k has in
        let low_is = is_itself box i t low.value outer stands before (closed_entry lists v k amount (vars_of old) box i t low.value closed stands low.asked) in
        let high_is = is_itself box i t high.value outer stands before (closed_entry lists v k amount (vars_of old) box i t high.value closed stands high.asked) in
        let from = low.least.least a there in
        let to = high.greatest.greatest a there in
        eq_true a k (omega (arith, ints, low_is, high_is, from, to))

    keeps_step : (now new : Context) (result : Result (Unit {0}) Fail) (i : ℕ) (t : Term) → IsNamed (vars_of now) t → Inside (box_of now) (box_of old) → slice_get v i ≡ Some t → PlaceHas (box_of now) t k → ChangedAt (λ x. int_eq x k) t now new result
        → IsStep (Unsupported (beside lists (con_of v k amount))) (AllPass (λ x. int_eq x k) t) now new result
    keeps_step now new result i t named around stands has changed = change_step (λ x. int_eq x k) t named (keeps_unsupported now i t around stands has) changed

    old_named : {now : Context} {i : ℕ} (t : Term) → KeepsTo old now i → IsNamed (vars_of now) t → IsNamed (vars_of old) t
    old_named t turns named = subst (λ vars. IsNamed vars t) (same_vars turns.going.loses) named

    pub one_more_kept : {now new : Context} {i : ℕ} (t : Term) → KeepsTo old now i → IsNamed (vars_of now) t → slice_get v i ≡ Some t → PlaceHas (box_of now) t k → IsChange (λ x. int_eq x k) t now new → KeepsTo old new (i + 1)
    one_more_kept {now = now} {new = new} {i = i} t turns named stands has changed =
        more_turn (λ j box. IsKept k v box j) turns (keeps_alone now i t (old_named t turns named) (goes_inside turns.going.loses) stands has)
        (λ all u at_u there b has_b. eq_so b k (all b (subst (λ x. PlaceHas (box_of now) x b) (sym (same_entry v i t u stands at_u)) has_b)))
        (keeps_step now new (Ok tt) i t named (goes_inside turns.going.loses) stands has changed)

    pub keep_fails : {now new : Context} {i : ℕ} {end : Result (Unit {0}) Fail} (t : Term) → KeepsTo old now i → IsNamed (vars_of now) t → slice_get v i ≡ Some t → PlaceHas (box_of now) t k → NonePasses (λ x. int_eq x k) t (box_of now) × (new ≡ now) → IsErr end
        → Narrows (Unsupported (beside lists (con_of v k amount))) (LeafClosed (vars_of old) lists (con_of v k amount)) old new end
    keep_fails {now = now} {new = new} {i = i} t turns named stands has changed err =
        as_narrow (goes_wrong turns.going (keeps_alone now i t (old_named t turns named) (goes_inside turns.going.loses) stands has) (keeps_step now new (Err (record {})) i t named (goes_inside turns.going.loses) stands has changed) err)

    pub other_kept : {now : Context} {i : ℕ} (t : Term) → KeepsTo old now i → slice_get v i ≡ Some t → (PlaceHas (box_of now) t k → ⊥) → KeepsTo old now (i + 1)
    other_kept {now = now} {i = i} t turns stands none = past_turn (λ j box. IsKept k v box j) turns (λ u at_u has. absurd (none (subst (λ x. PlaceHas (box_of now) x k) (sym (same_entry v i t u stands at_u)) has)))

    pub all_kept : {now : Context} {i : ℕ} → KeepsTo old now i → Narrows (Unsupported (beside lists (con_of v k amount))) (LeafClosed (vars_of old) lists (con_of v k amount)) old now (Ok tt)
    all_kept turns = turned turns

    pub kept_still : {now : Context} {i : ℕ} → KeepsTo old now i → length v ≤ i → box_of now ≡ box_of old → AllKept k v (box_of old)
    kept_still turns whole same i within = turns.before same i (omega (arith, within, whole))

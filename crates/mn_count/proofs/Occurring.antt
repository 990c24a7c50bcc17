-- When a box is closed under a constraint that a value stands so often, and steps towards it.
use Rattle.std.proofs.Common.{◌≡◌, ◌≢◌, ℕ, zero, suc, ◌+◌, ◌≤◌, ℤ, pos, negsuc, ◌≤ℤ◌, ◌<ℤ◌, ◌⊎◌, inl, inr, Bool, int_le, OnOk, List, [], ◌∷◌, length, slice_get, Some, Result, Ok, Err, IsErr, refl, sym, subst, ap, ◌∙◌, arith}
use Rattle.std.proofs.lemmas.Int.{ints}
use Rattle.std.proofs.lemmas.Option.{slice_get_within}
use Rattle.mn_model.specs.Decided.{Decided, decide_int}
use Rattle.mn_model.specs.declared.constraint.Term.{Term}
use Rattle.mn_model.specs.declared.declaration.Tuples.{Tuples}
use Rattle.mn_model.proofs.Ordered.{le_so}
use Rattle.mn_boxes.specs.Boxes.{Inside, IsBox}
use Rattle.mn_boxes.specs.Places.{PlaceHas}
use Rattle.mn_boxes.specs.Sets.{Variable}
use Rattle.mn_meaning.specs.Families.{occurrences}
use Rattle.mn_closure.specs.Closed.{Asked, LeafClosed}
use Rattle.mn_closure.specs.Levels.{Arc}
use Rattle.mn_closure.specs.Supports.{Choice, StandsAt}
use Rattle.mn_closure.proofs.Wider.{wider_place}
use Rattle.mn_prop.specs.Contexts.{Context, IsChange, IsGreatestAt, IsLeastAt, IsNamed, NonePasses, box_of, vars_of}
use Rattle.mn_prop.specs.Losses.{LessAt, MoreAt, Unsupported, nothing_goes}
use Rattle.mn_prop.specs.Passes.{AtLeastAt, AtMostAt, IsStep, Narrows}
use Rattle.mn_prop.specs.Posts.{IsReady, beside}
use Rattle.mn_prop.specs.declared.context.Fail.{Fail}
use Rattle.mn_prop.proofs.Boxing.{inside_through, kept_inside}
use Rattle.mn_prop.proofs.Ended.{greatest_of, least_of}
use Rattle.mn_prop.proofs.Going.{Going, arrives, begins, goes_on, goes_wrong, same_before}
use Rattle.mn_prop.proofs.Narrowing.{high_step, low_step}
use Rattle.mn_prop.proofs.Stepping.{Property, Rules, by_rule, change_passes, changed_box, failing, goes_inside, loses_more, no_step, same_vars}
use Rattle.mn_count.specs.declared.occurrence.Amount.{Amount}
use Rattle.mn_count.specs.declared.occurrence.Amount.TheVariants.{AtMost, AtLeast, Is}
use Rattle.mn_count.specs.Occurrences.{AllDropped, AllKept, IsAllowed, IsFewest, IsFull, IsMost, IsShort, IsTally, con_of}
use Rattle.mn_count.proofs.Amounts.{IsCounted, NumbersWithin, closed_counter, counter_named, counter_stands, entries_closed, least_never, most_never, number_chosen}
use Rattle.mn_count.proofs.Entries.{choice_inside}
use Rattle.mn_count.proofs.Tallies.{few_many, flat, reached, with_another, with_itself}

-- a step of a part that may leave more, where the sets have the property if they stay
pub whole_by : {R : Rules} {P : Property} {old new : Context} (Q : Type 0) (result : Result (Unit {0}) Fail) → Narrows R P old new result → OnOk result (box_of new ≡ box_of old → Q) → (Q → P (box_of old)) → IsStep R P old new result
whole_by Q (Ok done) narrows still closes = record { loses = narrows.loses; sound = narrows.sound; fail = tt; still = λ same. closes (still same) }
whole_by Q (Err fail) narrows still closes = record { loses = narrows.loses; sound = tt; fail = narrows.fail; still = tt }

-- what is left after a change was there before
change_within : {p : ℤ → Bool} {t : Term} {old new : Context} → IsChange p t old new → Inside (box_of new) (box_of old)
change_within {p = p} {t = t} {old = old} {new = new} change = subst (λ box. Inside box (box_of old)) (sym (changed_box change)) (kept_inside p t (box_of old))

-- and of one behind others
pub ends_by : {R : Rules} {old mid new : Context} (P : List Variable → Property) (Q : Type 0) (result : Result (Unit {0}) Fail) → Going R (P (vars_of old)) old mid → Narrows R (P (vars_of mid)) mid new result → OnOk result (box_of new ≡ box_of mid → Q) → (box_of mid ≡ box_of old → Q → P (vars_of old) (box_of old))
    → IsStep R (P (vars_of old)) old new result
ends_by {R = R} {old = old} {mid = mid} {new = new} P Q (Ok done) going narrows still closes =
    let own : Narrows R (P (vars_of old)) mid new (Ok done) = subst (λ vars. Narrows R (P vars) mid new (Ok done)) (same_vars going.loses) narrows in
    let sound : (box : List (List ℤ)) → IsBox (vars_of mid) box → Inside box (box_of mid) → P (vars_of old) box → Inside box (box_of new) = own.sound in
    let stays : box_of new ≡ box_of mid → Q = still in
    record {
      loses = loses_more going.loses own.loses;
      sound = λ box is i p. sound box (subst (λ vars. IsBox vars box) (sym (same_vars going.loses)) is) (going.sound box is i p) p;
      fail = tt;
      still = λ same. (let before = same_before going own.loses same in closes before (stays (same ∙ sym before)));
    }
ends_by {R = R} {old = old} {mid = mid} {new = new} P Q (Err fail) going narrows still closes =
    let own : Narrows R (P (vars_of old)) mid new (Err fail) = subst (λ vars. Narrows R (P vars) mid new (Err fail)) (same_vars going.loses) narrows in
    let none : (box : List (List ℤ)) → IsBox (vars_of mid) box → Inside box (box_of mid) → P (vars_of old) box → ⊥ = own.fail in
    record {
      loses = loses_more going.loses own.loses;
      sound = tt;
      fail = λ box is i p. none box (subst (λ vars. IsBox vars box) (sym (same_vars going.loses)) is) (going.sound box is i p) p;
      still = tt;
    }

most_empty : (box : List (List ℤ)) (k : ℤ) (v : List Term) (n : ℕ) → IsMost box k v n → v ≡ [] → n ≡ 0
most_empty box k v n g none = by g.values (subst (λ l. Choice box l g.values) none g.chosen) g.is
  where
    by : (s : List ℤ) → Choice box [] s → occurrences k s ≡ n → n ≡ 0
    by [] chosen is = sym is
    by (a ∷ s) chosen is = absurd chosen

module _ (lists : List Tuples) (v : List Term) (k : ℤ) where
  -- ---- closed boxes

  -- two allowed numbers, and that no entry has k beside others where one of them is at an end
  tally_closed : (amount : Amount) (vars : List Variable) (box : List (List ℤ)) (m n low high : ℕ) → IsFewest box k v m → IsMost box k v n → IsAllowed amount box low → IsAllowed amount box high → m ≤ low → low ≤ n → m ≤ high → high ≤ n
      → (high ≡ m → AllDropped vars k v box) → (low ≡ n → AllKept k v box) → NumbersWithin lists v k amount box m n → LeafClosed vars lists (con_of v k amount) box
  tally_closed amount vars box m n low high f g may_low may_high low_from low_to high_from high_to dropped kept numbers =
      entries_closed lists v k amount vars box m n bare (λ i t a stands asked. counted i t a stands asked (decide_int a k)) numbers (λ l from to. reached box k v m n f g l from to)
    where
      bare : v ≡ [] → IsAllowed amount box 0
      bare none = subst (IsAllowed amount box) (let empty = most_empty box k v n g none in omega (arith, high_to, empty)) may_high

      counted : (i : ℕ) (t : Term) (a : ℤ) → slice_get v i ≡ Some t → Asked Arc vars box t a → Decided (a ≡ k) → IsCounted box v k amount i a
      counted i t a stands asked (inl same) =
          let own = subst (Asked Arc vars box t) same asked in
          let r = with_itself box k v m n f g i t high stands own.there high_from high_to (λ e. dropped e i (slice_get_within v i t stands) t stands own) in
          record { values = r.values; chosen = r.chosen; given = r.given ∙ sym same; allowed = subst (IsAllowed amount box) (sym r.is) may_high }
      counted i t a stands asked (inr differs) =
          let r = with_another box k v m n f g i t a low stands asked.there differs low_from low_to (λ e has. differs (kept e i (slice_get_within v i t stands) t stands has a asked.there)) in
          record { values = r.values; chosen = r.chosen; given = r.given; allowed = subst (IsAllowed amount box) (sym r.is) may_low }

  kept_dropped : (vars : List Variable) (box : List (List ℤ)) → AllKept k v box → AllDropped vars k v box
  kept_dropped vars box kept i within t stands asked = kept i within t stands asked.there

  same_nat : (m n : ℕ) → (m ≡ n) ⊎ (m ≢ n)
  same_nat m n = by (decide_int (pos m) (pos n))
    where
      by : Decided (pos m ≡ pos n) → (m ≡ n) ⊎ (m ≢ n)
      by (inl same) = inl (omega (arith, ints, same))
      by (inr differs) = inr (λ same. differs (ap pos same))

  most_closed : (vars : List Variable) (box : List (List ℤ)) (most must may : ℤ) → IsTally box k v must may → must ≤ℤ most → (must <ℤ most) ⊎ AllDropped vars k v box → LeafClosed vars lists (con_of v k (AtMost most)) box
  most_closed vars box most must may tally le free = by free (same_nat tally.low tally.high)
    where
      few : tally.low ≤ tally.high
      few = few_many box k v tally.low tally.high tally.fewest tally.most

      at_flat : tally.low ≡ tally.high → AllKept k v box
      at_flat same = flat box k v tally.low tally.high tally.fewest tally.most same

      may_low : pos tally.low ≤ℤ most
      may_low = let is = tally.must_is in omega (arith, ints, is, le)

      tight : AllDropped vars k v box → LeafClosed vars lists (con_of v k (AtMost most)) box
      tight dropped =
          tally_closed (AtMost most) vars box tally.low tally.high tally.low tally.low tally.fewest tally.most may_low may_low (omega arith) few (omega arith) few (λ e. dropped) at_flat tt

      by : (must <ℤ most) ⊎ AllDropped vars k v box → (tally.low ≡ tally.high) ⊎ (tally.low ≢ tally.high) → LeafClosed vars lists (con_of v k (AtMost most)) box
      by (inr dropped) either = tight dropped
      by (inl less) (inl same) = tight (kept_dropped vars box (at_flat same))
      by (inl less) (inr differs) =
          let is = tally.must_is in
          tally_closed (AtMost most) vars box tally.low tally.high tally.low (tally.low + 1) tally.fewest tally.most may_low (omega (arith, ints, is, less)) (omega arith) few (omega arith) (omega (arith, few, differs)) (λ e. absurd (omega (arith, e))) at_flat tt

  least_closed : (vars : List Variable) (box : List (List ℤ)) (least must may : ℤ) → IsTally box k v must may → least ≤ℤ may → (least <ℤ may) ⊎ AllKept k v box → LeafClosed vars lists (con_of v k (AtLeast least)) box
  least_closed vars box least must may tally le free = by free (same_nat tally.low tally.high)
    where
      few : tally.low ≤ tally.high
      few = few_many box k v tally.low tally.high tally.fewest tally.most

      at_flat : tally.low ≡ tally.high → AllKept k v box
      at_flat same = flat box k v tally.low tally.high tally.fewest tally.most same

      may_high : least ≤ℤ pos tally.high
      may_high = let is = tally.may_is in omega (arith, ints, is, le)

      at_low : tally.high ≡ tally.low → AllDropped vars k v box
      at_low same = kept_dropped vars box (at_flat (sym same))

      tight : AllKept k v box → LeafClosed vars lists (con_of v k (AtLeast least)) box
      tight kept = tally_closed (AtLeast least) vars box tally.low tally.high tally.high tally.high tally.fewest tally.most may_high may_high few (omega arith) few (omega arith) at_low (λ e. kept) tt

      before : (n : ℕ) → tally.low ≤ n → tally.low ≢ n → (l : ℕ) × (n ≡ l + 1)
      before zero from differs = absurd (omega (arith, from, differs))
      before (suc l) from differs = (l, omega arith)

      by : (least <ℤ may) ⊎ AllKept k v box → (tally.low ≡ tally.high) ⊎ (tally.low ≢ tally.high) → LeafClosed vars lists (con_of v k (AtLeast least)) box
      by (inr kept) either = tight kept
      by (inl less) (inl same) = tight (at_flat same)
      by (inl less) (inr differs) =
          let is = tally.may_is in
          let b = before tally.high few differs in
          let next = b.1 in
          tally_closed (AtLeast least) vars box tally.low tally.high b.0 tally.high tally.fewest tally.most (omega (arith, ints, is, less, next)) may_high (omega (arith, few, differs, next)) (omega (arith, next)) few (omega arith) at_low (λ e. absurd (omega (arith, e, next))) tt

  natural : (m : ℕ) (a : ℤ) → pos m ≤ℤ a → (n : ℕ) × (a ≡ pos n)
  natural m (pos n) le = (n, refl)
  natural m (negsuc n) le = absurd (omega (arith, ints, le))

  -- each value of the place that says how often is from `must` to `may`
  abbrev pub RangesWithin : List (List ℤ) → Term → ℤ → ℤ → Type 0
  RangesWithin box x must may = (a : ℤ) → PlaceHas box x a → (must ≤ℤ a) × (a ≤ℤ may)

  exact_closed : (vars : List Variable) (box : List (List ℤ)) (x : Term) (must may low high : ℤ) → IsTally box k v must may → RangesWithin box x must may → PlaceHas box x low → PlaceHas box x high → low ≤ℤ high → (high ≡ must → AllDropped vars k v box) → (low ≡ may → high ≢ must → AllKept k v box)
      → LeafClosed vars lists (con_of v k (Is x)) box
  exact_closed vars box x must may low high tally ranges has_low has_high ordered dropped kept =
      tally_closed (Is x) vars box tally.low tally.high l.0 h.0 tally.fewest tally.most (subst (PlaceHas box x) l.1 has_low) (subst (PlaceHas box x) h.1 has_high)
      (omega (arith, ints, must_is, l_is, low_in.0)) (omega (arith, ints, may_is, l_is, low_in.1)) (omega (arith, ints, must_is, h_is, high_in.0)) (omega (arith, ints, may_is, h_is, high_in.1))
      (λ e. dropped (omega (arith, ints, e, h_is, must_is))) (λ e. at_high e (decide_int high must)) numbers
    where
      must_is : must ≡ pos tally.low
      must_is = tally.must_is

      may_is : may ≡ pos tally.high
      may_is = tally.may_is

      low_in : (must ≤ℤ low) × (low ≤ℤ may)
      low_in = ranges low has_low

      high_in : (must ≤ℤ high) × (high ≤ℤ may)
      high_in = ranges high has_high

      l : (n : ℕ) × (low ≡ pos n)
      l = natural tally.low low (let from = low_in.0 in omega (arith, ints, must_is, from))

      h : (n : ℕ) × (high ≡ pos n)
      h = natural tally.low high (let from = high_in.0 in omega (arith, ints, must_is, from))

      l_is : low ≡ pos l.0
      l_is = l.1

      h_is : high ≡ pos h.0
      h_is = h.1

      few : tally.low ≤ tally.high
      few = few_many box k v tally.low tally.high tally.fewest tally.most

      at_high : l.0 ≡ tally.high → Decided (high ≡ must) → AllKept k v box
      at_high e (inl same) = flat box k v tally.low tally.high tally.fewest tally.most (omega (arith, ints, e, same, must_is, may_is, l_is, ordered, few))
      at_high e (inr differs) = kept (omega (arith, ints, e, l_is, may_is)) differs

      numbers : (a : ℤ) → PlaceHas box x a → (n : ℕ) × (a ≡ pos n) × (tally.low ≤ n) × (n ≤ tally.high)
      numbers a has =
          let within = ranges a has in
          let from = within.0 in
          let to = within.1 in
          let found = natural tally.low a (omega (arith, ints, must_is, from)) in
          let is = found.1 in
          (found.0, is, omega (arith, ints, must_is, from, is), omega (arith, ints, may_is, to, is))

  -- ---- steps

  abbrev pub Step : Amount → Context → Context → Result (Unit {0}) Fail → Type 0
  Step amount old new result = IsStep (Unsupported (beside lists (con_of v k amount))) (LeafClosed (vars_of old) lists (con_of v k amount)) old new result

  abbrev pub Narrowing : Amount → Context → Context → Result (Unit {0}) Fail → Type 0
  Narrowing amount old new result = Narrows (Unsupported (beside lists (con_of v k amount))) (LeafClosed (vars_of old) lists (con_of v k amount)) old new result

  abbrev pub Goes : Amount → Context → Context → Type 0
  Goes amount old now = Going (Unsupported (beside lists (con_of v k amount))) (LeafClosed (vars_of old) lists (con_of v k amount)) old now

  module _ (amount : Amount) (most : ℤ) (is : amount ≡ AtMost most) (c : Context) (ready : IsReady (vars_of c) lists (con_of v k amount)) (must may : ℤ) (tally : IsTally (box_of c) k v must may) where
    pub most_free : must <ℤ most → Step amount c c (Ok tt)
    most_free less = subst (λ a. Step a c c (Ok tt)) (sym is) (no_step c (most_closed (vars_of c) (box_of c) most must may tally (omega (arith, ints, less)) (inl less)))

    pub most_fails : (fail : Fail) → most <ℤ must → Step amount c c (Err fail)
    most_fails fail more = subst (λ a. Step a c c (Err fail)) (sym is) (failing fail (nothing_goes c) (λ box lawful inside closed. most_never lists v k most (vars_of c) (box_of c) box (subst (λ a. IsReady (vars_of c) lists (con_of v k a)) is ready) lawful inside never closed))
      where
        never : (s : List ℤ) → Choice (box_of c) v s → pos (occurrences k s) ≤ℤ most → ⊥
        never s chosen le = let least = tally.fewest.fewest s chosen in let must_is = tally.must_is in omega (arith, ints, le, least, must_is, more)

    pub most_full : must ≡ most → IsFull (box_of c) k v amount
    most_full same = subst (IsFull (box_of c) k v) (sym is) (record { count = tally.low; least = tally.fewest.fewest; allowed = λ n le. (let must_is = tally.must_is in omega (arith, ints, le, must_is, same)) })

    pub most_dropped : (new : Context) (result : Result (Unit {0}) Fail) → must ≡ most → Narrowing amount c new result → OnOk result (box_of new ≡ box_of c → AllDropped (vars_of c) k v (box_of c)) → Step amount c new result
    most_dropped new result same narrows still =
        whole_by (AllDropped (vars_of c) k v (box_of c)) result narrows still (λ dropped. subst (λ a. LeafClosed (vars_of c) lists (con_of v k a) (box_of c)) (sym is) (most_closed (vars_of c) (box_of c) most must may tally (omega (arith, ints, same)) (inr dropped)))

  module _ (amount : Amount) (least : ℤ) (is : amount ≡ AtLeast least) (c : Context) (ready : IsReady (vars_of c) lists (con_of v k amount)) (must may : ℤ) (tally : IsTally (box_of c) k v must may) where
    pub least_free : least <ℤ may → Step amount c c (Ok tt)
    least_free less = subst (λ a. Step a c c (Ok tt)) (sym is) (no_step c (least_closed (vars_of c) (box_of c) least must may tally (omega (arith, ints, less)) (inl less)))

    pub least_fails : (fail : Fail) → may <ℤ least → Step amount c c (Err fail)
    least_fails fail more = subst (λ a. Step a c c (Err fail)) (sym is) (failing fail (nothing_goes c) (λ box lawful inside closed. least_never lists v k least (vars_of c) (box_of c) box (subst (λ a. IsReady (vars_of c) lists (con_of v k a)) is ready) lawful inside never closed))
      where
        never : (s : List ℤ) → Choice (box_of c) v s → least ≤ℤ pos (occurrences k s) → ⊥
        never s chosen le = let most = tally.most.most s chosen in let may_is = tally.may_is in omega (arith, ints, le, most, may_is, more)

    pub least_short : may ≡ least → IsShort (box_of c) k v amount
    least_short same = subst (IsShort (box_of c) k v) (sym is) (record { count = tally.high; most = tally.most.most; allowed = λ n le. (let may_is = tally.may_is in omega (arith, ints, le, may_is, same)) })

    pub least_kept : (new : Context) (result : Result (Unit {0}) Fail) → may ≡ least → Narrowing amount c new result → OnOk result (box_of new ≡ box_of c → AllKept k v (box_of c)) → Step amount c new result
    least_kept new result same narrows still =
        whole_by (AllKept k v (box_of c)) result narrows still (λ kept. subst (λ a. LeafClosed (vars_of c) lists (con_of v k a) (box_of c)) (sym is) (least_closed (vars_of c) (box_of c) least must may tally (omega (arith, ints, same)) (inr kept)))

  module _ (amount : Amount) (x : Term) (is : amount ≡ Is x) (c : Context) (ready : IsReady (vars_of c) lists (con_of v k amount)) (must may : ℤ) (tally : IsTally (box_of c) k v must may) where
    own_ready : IsReady (vars_of c) lists (con_of v k (Is x))
    own_ready = subst (λ a. IsReady (vars_of c) lists (con_of v k a)) is ready

    pub number_named : IsNamed (vars_of c) x
    number_named = counter_named lists v k x (vars_of c) own_ready

    -- how often a choice in a box inside has k
    within : (box : List (List ℤ)) (a : ℤ) → Inside box (box_of c) → (s : List ℤ) × Choice box v s × (pos (occurrences k s) ≡ a) → (must ≤ℤ a) × (a ≤ℤ may)
    within box a inside some =
        let chosen = choice_inside box (box_of c) v some.0 inside some.1 in
        let least = tally.fewest.fewest some.0 chosen in
        let most = tally.most.most some.0 chosen in
        let must_is = tally.must_is in
        let may_is = tally.may_is in
        let given = some.2 in
        (omega (arith, ints, least, must_is, given), omega (arith, ints, most, may_is, given))

    at_counter : (t : Term) → t ≡ x → StandsAt (con_of v k (Is x)) (length v) t
    at_counter t same = subst (StandsAt (con_of v k (Is x)) (length v)) (sym same) (counter_stands lists v k x)

    low_out : (now : Context) → Inside (box_of now) (box_of c) → (box : List (List ℤ)) → Inside box (box_of now) → (t : Term) (a : ℤ) → PlaceHas box t a → LessAt x must box t a → Unsupported (beside lists (con_of v k (Is x))) box t a
    low_out now around box inside t a has out =
        (length v, at_counter t out.0, λ supported. (let from = (within box a (inside_through inside around) (number_chosen lists v k x a box supported)).0 in let less = out.1 in omega (arith, ints, from, less)))

    high_out : (now : Context) → Inside (box_of now) (box_of c) → (box : List (List ℤ)) → Inside box (box_of now) → (t : Term) (a : ℤ) → PlaceHas box t a → MoreAt x may box t a → Unsupported (beside lists (con_of v k (Is x))) box t a
    high_out now around box inside t a has out =
        (length v, at_counter t out.0, λ supported. (let to = (within box a (inside_through inside around) (number_chosen lists v k x a box supported)).1 in let more = out.1 in omega (arith, ints, to, more)))

    -- of a closed box the ends of the place are such numbers
    closed_low : (now : Context) → Inside (box_of now) (box_of c) → (box : List (List ℤ)) → IsBox (vars_of c) box → Inside box (box_of now) → LeafClosed (vars_of c) lists (con_of v k (Is x)) box → AtLeastAt x must box
    closed_low now around box lawful inside closed a has =
        let low = least_of Arc (vars_of c) box x lawful number_named in
        let from = (within box low.value (inside_through inside around) (closed_counter lists v k x (vars_of c) box low.value closed low.asked)).0 in
        let least = low.least.least a has in
        omega (arith, ints, from, least)

    closed_high : (now : Context) → Inside (box_of now) (box_of c) → (box : List (List ℤ)) → IsBox (vars_of c) box → Inside box (box_of now) → LeafClosed (vars_of c) lists (con_of v k (Is x)) box → AtMostAt x may box
    closed_high now around box lawful inside closed a has =
        let high = greatest_of Arc (vars_of c) box x lawful number_named in
        let to = (within box high.value (inside_through inside around) (closed_counter lists v k x (vars_of c) box high.value closed high.asked)).1 in
        let greatest = high.greatest.greatest a has in
        omega (arith, ints, to, greatest)

    own_going : (now : Context) → Goes amount c now → Goes (Is x) c now
    own_going now going = subst (λ a. Goes a c now) is going

    now_named : (now : Context) → Goes amount c now → IsNamed (vars_of now) x
    now_named now going = subst (λ vars. IsNamed vars x) (sym (same_vars going.loses)) number_named

    pub named_now : {now : Context} → Goes amount c now → IsNamed (vars_of now) x
    named_now {now = now} going = now_named now going

    pub ready_now : {now : Context} → Goes amount c now → IsReady (vars_of now) lists (con_of v k amount)
    ready_now going = subst (λ vars. IsReady vars lists (con_of v k amount)) (sym (same_vars going.loses)) ready

    pub nothing_cut : Goes amount c c
    nothing_cut = begins c

    pub cuts_low : {now new : Context} → Goes amount c now → IsChange (λ b. int_le must b) x now new → Goes amount c new
    cuts_low {now = now} {new = new} going changed =
        let around = goes_inside going.loses in
        subst (λ a. Goes a c new) (sym is) (goes_on (own_going now going) (closed_low now around) (by_rule (low_out now around) (low_step {result = Ok tt} must x (now_named now going) changed)))

    pub low_fails : {now new : Context} {end : Result (Unit {0}) Fail} → Goes amount c now → NonePasses (λ b. int_le must b) x (box_of now) × (new ≡ now) → IsErr end → Step amount c new end
    low_fails {now = now} {new = new} {end = end} going changed err =
        let around = goes_inside going.loses in
        subst (λ a. Step a c new end) (sym is) (goes_wrong (own_going now going) (closed_low now around) (by_rule (low_out now around) (low_step {result = Err (record {})} must x (now_named now going) changed)) err)

    pub cuts_high : {now new : Context} → Goes amount c now → IsChange (λ b. int_le b may) x now new → Goes amount c new
    cuts_high {now = now} {new = new} going changed =
        let around = goes_inside going.loses in
        subst (λ a. Goes a c new) (sym is) (goes_on (own_going now going) (closed_high now around) (by_rule (high_out now around) (high_step {result = Ok tt} may x (now_named now going) changed)))

    pub high_fails : {now new : Context} {end : Result (Unit {0}) Fail} → Goes amount c now → NonePasses (λ b. int_le b may) x (box_of now) × (new ≡ now) → IsErr end → Step amount c new end
    high_fails {now = now} {new = new} {end = end} going changed err =
        let around = goes_inside going.loses in
        subst (λ a. Step a c new end) (sym is) (goes_wrong (own_going now going) (closed_high now around) (by_rule (high_out now around) (high_step {result = Err (record {})} may x (now_named now going) changed)) err)

    -- after both cuts
    pub both_cut : {mid now : Context} → IsChange (λ b. int_le must b) x c mid → IsChange (λ b. int_le b may) x mid now → RangesWithin (box_of now) x must may
    both_cut {mid = mid} {now = now} low high a has = (
      le_so must a (change_passes (λ b. int_le must b) x c mid low a (wider_place (box_of now) (box_of mid) (change_within high) x a has)),
      le_so a may (change_passes (λ b. int_le b may) x mid now high a has),
    )

    module _ (now : Context) (going : Goes amount c now) where
      pub now_full : (high : ℤ) → IsGreatestAt (box_of now) x high → high ≡ must → IsFull (box_of now) k v amount
      now_full high greatest same = subst (IsFull (box_of now) k v) (sym is) (record {
        count = tally.low;
        least = λ s chosen. tally.fewest.fewest s (choice_inside (box_of now) (box_of c) v s (goes_inside going.loses) chosen);
        allowed = λ n has. (let most = greatest.greatest (pos n) has in let must_is = tally.must_is in omega (arith, ints, most, must_is, same));
      })

      pub now_short : (low : ℤ) → IsLeastAt (box_of now) x low → low ≡ may → IsShort (box_of now) k v amount
      now_short low least same = subst (IsShort (box_of now) k v) (sym is) (record {
        count = tally.high;
        most = λ s chosen. tally.most.most s (choice_inside (box_of now) (box_of c) v s (goes_inside going.loses) chosen);
        allowed = λ n has. (let from = least.least (pos n) has in let may_is = tally.may_is in omega (arith, ints, from, may_is, same));
      })

      module _ (ranges : RangesWithin (box_of now) x must may) (high : ℤ) (greatest : IsGreatestAt (box_of now) x high) where
        -- the box is closed if it is still the one that was tallied
        closes : (low : ℤ) → PlaceHas (box_of now) x low → box_of now ≡ box_of c → (high ≡ must → AllDropped (vars_of c) k v (box_of c)) → (low ≡ may → high ≢ must → AllKept k v (box_of c)) → LeafClosed (vars_of c) lists (con_of v k amount) (box_of c)
        closes low there same dropped kept =
            subst (λ a. LeafClosed (vars_of c) lists (con_of v k a) (box_of c)) (sym is)
            (exact_closed (vars_of c) (box_of c) x must may low high tally (subst (λ box. RangesWithin box x must may) same ranges) (subst (λ (box : List (List ℤ)). PlaceHas box x low) same there) (subst (λ (box : List (List ℤ)). PlaceHas box x high) same greatest.there)
            (greatest.greatest low there) dropped kept)

        pub then_dropped : (new : Context) (result : Result (Unit {0}) Fail) → high ≡ must → Narrowing amount now new result → OnOk result (box_of new ≡ box_of now → AllDropped (vars_of now) k v (box_of now)) → Step amount c new result
        then_dropped new result at_must narrows still =
            ends_by (λ vars. LeafClosed vars lists (con_of v k amount)) (AllDropped (vars_of now) k v (box_of now)) result going narrows still
            (λ same dropped. closes high greatest.there same (λ e. subst (AllDropped (vars_of c) k v) same (subst (λ vars. AllDropped vars k v (box_of now)) (same_vars going.loses) dropped)) (λ e differs. absurd (differs at_must)))

        module _ (low : ℤ) (least : IsLeastAt (box_of now) x low) where
          pub then_kept : (new : Context) (result : Result (Unit {0}) Fail) → low ≡ may → high ≢ must → Narrowing amount now new result → OnOk result (box_of new ≡ box_of now → AllKept k v (box_of now)) → Step amount c new result
          then_kept new result at_may differs narrows still =
              ends_by (λ vars. LeafClosed vars lists (con_of v k amount)) (AllKept k v (box_of now)) result going narrows still (λ same kept. closes low least.there same (λ e. absurd (differs e)) (λ e not. subst (AllKept k v) same kept))

          pub then_free : low ≢ may → high ≢ must → Step amount c now (Ok tt)
          then_free under over = arrives going (λ same. closes low least.there same (λ e. absurd (over e)) (λ e not. absurd (under e)))

-- What is kept of a variable's set by a test.
use Rattle.std.proofs.Common.{◌≡◌, ℕ, zero, suc, ◌+◌, ◌-◌, ◌*◌, ◌<◌, ◌≤◌, ℤ, pos, neg_ℤ, ◌+ℤ◌, ◌^◌, ◌≤ℤ◌, ◌<ℤ◌, ◌⊎◌, ◌↔◌, inl, inr, int_le, IsTrue, Bool, true, false, true≢false, cond, not, ◌&&◌, ◌||◌, List, [], ◌∷◌, length, filter, FitsSigned, w64, rules, refl, sym, subst, ap, ◌∙◌, arith}
use Rattle.std.proofs.lemmas.Int.{ints}
use Rattle.std.specs.Int.{int_gap}
use Rattle.std.specs.List.{list_any}
use Rattle.std.specs.Ordering.{int_eq}
use Rattle.mn_model.specs.Domain.{Ascends, Has, IsFirst, IsLast, IsValue, stretch}
use Rattle.mn_model.proofs.Filtered.{Passes, filter_ascends, filter_has, has_filter}
use Rattle.mn_model.proofs.Ordered.{le_false, le_so, le_true}
use Rattle.mn_model.proofs.Stretches.{Has-stretch, plus-int_gap}
use Rattle.mn_boxes.specs.Bits.{bit_of, count_from}
use Rattle.mn_boxes.specs.Sets.{Variable, greatest, least}
use Rattle.mn_boxes.specs.Values.{IsAsWide, IsCovered, Values, members, place_of}
use Rattle.mn_boxes.proofs.Members.{stands_first, stands_last}
use Rattle.mn_domains.specs.Held.{AreEndsOf, IsRow, has_bit, marked}
use Rattle.mn_domains.specs.Rows.{AreMarks, is_hit, passes, row_has}
use Rattle.mn_domains.specs.Sifting.{stays}
use Rattle.mn_domains.specs.States.{sieved_ends}
use Rattle.mn_domains.specs.declared.rows.Row.{Row}
use Rattle.mn_domains.specs.declared.shape.Ends.{Ends}
use Rattle.mn_domains.proofs.Cuts.{bits_between, length_marked}
use Rattle.mn_domains.proofs.Filtered.{eq_so, eq_true, filter_alike, filter_none, filter_whole, is_filter}
use Rattle.mn_domains.proofs.Firsts.{both_true, left_true, right_true}
use Rattle.mn_domains.proofs.Hits.{IsAt, hit_value}
use Rattle.mn_domains.proofs.Marks.{Ascends-marked, is_marked, marked_ends, marked_has}

-- ---- the test of a set

any_true : (q : ℤ → Bool) (xs : List ℤ) (a : ℤ) → Has xs a → q a ≡ true → list_any q xs ≡ true
any_true q [] a has pass = absurd has
any_true q (x ∷ xs) a has pass = by (λ later. any_true q xs a later pass) (q x) refl has
  where
    by : (Has xs a → list_any q xs ≡ true) → (t : Bool) → q x ≡ t → Has (x ∷ xs) a → (t || list_any q xs) ≡ true
    by rest true e h = refl
    by rest false e (inl is) = absurd (true≢false (sym pass ∙ (ap q (sym is) ∙ e)))
    by rest false e (inr later) = rest later

record Found (q : ℤ → Bool) (xs : List ℤ) : Type 0 where
  value : ℤ
  has : Has xs value
  passes : q value ≡ true

any_has : (q : ℤ → Bool) (xs : List ℤ) → list_any q xs ≡ true → Found q xs
any_has q [] any = absurd (true≢false (sym any))
any_has q (x ∷ xs) any = by (any_has q xs) (q x) refl any
  where
    by : (list_any q xs ≡ true → Found q xs) → (t : Bool) → q x ≡ t → (t || list_any q xs) ≡ true → Found q (x ∷ xs)
    by rest true e h = record { value = x; has = inl refl; passes = e }
    by rest false e h = let f = rest h in record { value = f.value; has = inr f.has; passes = f.passes }

-- where values go one by one it is the test itself
pub stays_plain : (var : Variable) (p : ℤ → Bool) (xs : List ℤ) (a : ℤ) → var.bounded ≡ false → stays var p xs a ≡ p a
unfolding stays
stays_plain var p xs a plain = ap (λ t. cond t (list_any (λ x. int_le x a && p x) xs && list_any (λ x. int_le a x && p x) xs) (p a)) plain

-- what passes stays
pub stays_passing : (var : Variable) (p : ℤ → Bool) (xs : List ℤ) (a : ℤ) → Has xs a → p a ≡ true → stays var p xs a ≡ true
unfolding stays
stays_passing var p xs a has pass = by var.bounded
  where
    by : (t : Bool) → cond t (list_any (λ x. int_le x a && p x) xs && list_any (λ x. int_le a x && p x) xs) (p a) ≡ true
    by true =
        let same = le_true a a (omega (arith, ints)) in
        both_true (list_any (λ x. int_le x a && p x) xs) (list_any (λ x. int_le a x && p x) xs) (any_true (λ x. int_le x a && p x) xs a has (both_true (int_le a a) (p a) same pass)) (any_true (λ x. int_le a x && p x) xs a has (both_true (int_le a a) (p a) same pass))
    by false = pass

-- what stays has a value that passes at or below it and one at or above it
pub record Staying (p : ℤ → Bool) (xs : List ℤ) (a : ℤ) : Type 0 where
  pub below : ℤ
  pub below_has : Has xs below
  pub below_passes : p below ≡ true
  pub below_le : below ≤ℤ a
  pub above : ℤ
  pub above_has : Has xs above
  pub above_passes : p above ≡ true
  pub above_le : a ≤ℤ above

pub staying : (var : Variable) (p : ℤ → Bool) (xs : List ℤ) (a : ℤ) → Has xs a → stays var p xs a ≡ true → Staying p xs a
unfolding stays
staying var p xs a has stay = by var.bounded stay
  where
    by : (t : Bool) → cond t (list_any (λ x. int_le x a && p x) xs && list_any (λ x. int_le a x && p x) xs) (p a) ≡ true → Staying p xs a
    by true h =
        let f = any_has (λ x. int_le x a && p x) xs (left_true (list_any (λ x. int_le x a && p x) xs) (list_any (λ x. int_le a x && p x) xs) h) in
        let g = any_has (λ x. int_le a x && p x) xs (right_true (list_any (λ x. int_le x a && p x) xs) (list_any (λ x. int_le a x && p x) xs) h) in
        record {
          below = f.value;
          below_has = f.has;
          below_passes = right_true (int_le f.value a) (p f.value) f.passes;
          below_le = le_so f.value a (left_true (int_le f.value a) (p f.value) f.passes);
          above = g.value;
          above_has = g.has;
          above_passes = right_true (int_le a g.value) (p g.value) g.passes;
          above_le = le_so a g.value (left_true (int_le a g.value) (p g.value) g.passes);
        }
    by false h = record { below = a; below_has = has; below_passes = h; below_le = omega (arith, ints); above = a; above_has = has; above_passes = h; above_le = omega (arith, ints) }

-- and where they go at the ends alone, what is between two that pass stays
pub stays_between : (var : Variable) (p : ℤ → Bool) (xs : List ℤ) (a lo hi : ℤ) → var.bounded ≡ true → Has xs lo → p lo ≡ true → lo ≤ℤ a → Has xs hi → p hi ≡ true → a ≤ℤ hi → stays var p xs a ≡ true
unfolding stays
stays_between var p xs a lo hi bounded has_lo pass_lo low has_hi pass_hi high =
    ap (λ t. cond t (list_any (λ x. int_le x a && p x) xs && list_any (λ x. int_le a x && p x) xs) (p a)) bounded
    ∙ both_true (list_any (λ x. int_le x a && p x) xs) (list_any (λ x. int_le a x && p x) xs) (any_true (λ x. int_le x a && p x) xs lo has_lo (both_true (int_le lo a) (p lo) (le_true lo a low) pass_lo)) (any_true (λ x. int_le a x && p x) xs hi has_hi (both_true (int_le a hi) (p hi) (le_true a hi high) pass_hi))

pub stays_all : (var : Variable) (p : ℤ → Bool) (xs : List ℤ) → ((a : ℤ) → Has xs a → p a ≡ true) → filter (stays var p xs) xs ≡ xs
stays_all var p xs all = filter_whole (stays var p xs) xs (λ a has. stays_passing var p xs a has (all a has))

pub stays_none : (var : Variable) (p : ℤ → Bool) (xs : List ℤ) → filter p xs ≡ [] → filter (stays var p xs) xs ≡ []
stays_none var p xs none = filter_none (stays var p xs) xs (λ a has. by a has (stays var p xs a) refl)
  where
    by : (a : ℤ) → Has xs a → (t : Bool) → stays var p xs a ≡ t → t ≡ false
    by a has true e = let s = staying var p xs a has e in absurd (subst (λ ys. Has ys s.below) none (filter_has p xs s.below s.below_has s.below_passes))
    by a has false e = refl

pub stays_ends : (var : Variable) (p : ℤ → Bool) (xs : List ℤ) (lo hi : ℤ) → var.bounded ≡ true → Ascends xs → IsFirst lo (filter p xs) → IsLast hi (filter p xs) → filter (λ x. int_le x hi) (filter (λ x. int_le lo x) xs) ≡ filter (stays var p xs) xs
stays_ends var p xs lo hi bounded up first last =
    is_filter (stays var p xs) xs (filter (λ x. int_le x hi) (filter (λ x. int_le lo x) xs)) up (filter_ascends (λ x. int_le x hi) (filter (λ x. int_le lo x) xs) (filter_ascends (λ x. int_le lo x) xs up)) to from
  where
    to : (a : ℤ) → Has (filter (λ x. int_le x hi) (filter (λ x. int_le lo x) xs)) a → Passes (stays var p xs) xs a
    to a has =
        let s = has_filter (λ x. int_le x hi) (filter (λ x. int_le lo x) xs) a has in
        let t = has_filter (λ x. int_le lo x) xs a s.has in
        let f = has_filter p xs lo (stands_first (filter p xs) lo (filter_ascends p xs up) first).has in
        let g = has_filter p xs hi (stands_last (filter p xs) hi (filter_ascends p xs up) last).has in
        record { has = t.has; passes = stays_between var p xs a lo hi bounded f.has f.passes (le_so lo a t.passes) g.has g.passes (le_so a hi s.passes) }

    from : (a : ℤ) → Has xs a → stays var p xs a ≡ true → Has (filter (λ x. int_le x hi) (filter (λ x. int_le lo x) xs)) a
    from a has stay =
        let s = staying var p xs a has stay in
        let low = (stands_first (filter p xs) lo (filter_ascends p xs up) first).others s.below (filter_has p xs s.below s.below_has s.below_passes) in
        let high = (stands_last (filter p xs) hi (filter_ascends p xs up) last).others s.above (filter_has p xs s.above s.above_has s.above_passes) in
        let below = s.below_le in
        let above = s.above_le in
        filter_has (λ x. int_le x hi) (filter (λ x. int_le lo x) xs) a (filter_has (λ x. int_le lo x) xs a has (le_true lo a (omega (arith, ints, low, below)))) (le_true a hi (omega (arith, ints, high, above)))

-- ---- bits that go

-- of fewer bits no more are set
pub count_less : (bits new : List ℕ) (i n : ℕ) (lost : ℕ → Bool) → ((k : ℕ) → bit_of new k ≡ (bit_of bits k && not (lost k))) → count_from (bit_of new) i n ≤ count_from (bit_of bits) i n
unfolding count_from
count_less bits new i zero lost is = omega arith
count_less bits new i (suc n) lost is =
    let rest = count_less bits new (i + 1) n lost is in
    let here : cond (bit_of new i) 1 0 ≤ cond (bit_of bits i) 1 0 = subst (λ t. cond t 1 0 ≤ cond (bit_of bits i) 1 0) (sym (is i)) (by (bit_of bits i) (not (lost i))) in
    omega (arith, rest, here)
  where
    by : (a b : Bool) → cond (a && b) 1 0 ≤ cond a 1 0
    by true true = omega arith
    by true false = omega arith
    by false b = omega arith

-- ---- values that are put into a set

-- the values of xs up to one of them are in the set, beside those that were there before
pub record Gathered (xs : List ℤ) (old now : Values) (value : ℤ) : Type 0 where
  pub wide : IsAsWide old now
  pub has : Has xs value
  pub members : (a : ℤ) → IsTrue (members now a) ↔ (IsTrue (members old a) ⊎ (Has xs a × (a ≤ℤ value)))

or_left : (a b : Bool) → a ≡ true → (a || b) ≡ true
or_left true b h = refl
or_left false b h = absurd (true≢false (sym h))

or_right : (a b : Bool) → b ≡ true → (a || b) ≡ true
or_right true b h = refl
or_right false b h = h

or_so : (a b : Bool) → (a || b) ≡ true → (a ≡ true) ⊎ (b ≡ true)
or_so true b h = inl refl
or_so false b h = inr h

pub covered_wide : (old now : Values) (a : ℤ) → IsAsWide old now → IsCovered old a → IsCovered now a
covered_wide old now a wide covered = record {
  low = subst (λ z. z ≤ℤ a) (sym wide.low) covered.low;
  high = subst (λ z. int_gap z a < 64 * length now.words) (sym wide.low) (subst (λ n. int_gap old.low a < 64 * n) (sym wide.words) covered.high);
}

wide_on : (old now new : Values) → IsAsWide old now → IsAsWide now new → IsAsWide old new
wide_on old now new one two = record { low = two.low ∙ one.low; words = two.words ∙ one.words }

pub gathered_first : (xs : List ℤ) (e : Ends) (old new : Values) → Ascends xs → AreEndsOf xs e → IsAsWide old new → ((x : ℤ) → members new x ≡ (int_eq x e.lo || members old x)) → Gathered xs old new e.lo
gathered_first xs e old new up ends wide tells =
    let f = stands_first xs e.lo up ends.first in
    record {
      wide = wide;
      has = f.has;
      members = λ a. (λ t. to a f.others f.has (or_so (int_eq a e.lo) (members old a) (sym (tells a) ∙ t)), λ either. tells a ∙ back a f.others either);
    }
  where
    to : (a : ℤ) → ((b : ℤ) → Has xs b → e.lo ≤ℤ b) → Has xs e.lo → (int_eq a e.lo ≡ true) ⊎ (members old a ≡ true) → IsTrue (members old a) ⊎ (Has xs a × (a ≤ℤ e.lo))
    to a others has (inl is) = let same = eq_so a e.lo is in inr (subst (Has xs) (sym same) has, omega (arith, ints, same))
    to a others has (inr was) = inl was

    back : (a : ℤ) → ((b : ℤ) → Has xs b → e.lo ≤ℤ b) → IsTrue (members old a) ⊎ (Has xs a × (a ≤ℤ e.lo)) → (int_eq a e.lo || members old a) ≡ true
    back a others (inl was) = or_right (int_eq a e.lo) (members old a) was
    back a others (inr here) = let low = others a here.0 in let high = here.1 in or_left (int_eq a e.lo) (members old a) (eq_true a e.lo (omega (arith, ints, low, high)))

pub gathered_next : (xs : List ℤ) (old now new : Values) (value next : ℤ) → Ascends xs → Gathered xs old now value → IsFirst next (filter (λ x. int_le (value +ℤ pos 1) x) xs) → IsAsWide now new → ((x : ℤ) → members new x ≡ (int_eq x next || members now x)) → Gathered xs old new next
gathered_next xs old now new value next up so_far first wide tells =
    let f = stands_first (filter (λ x. int_le (value +ℤ pos 1) x) xs) next (filter_ascends (λ x. int_le (value +ℤ pos 1) x) xs up) first in
    let p = has_filter (λ x. int_le (value +ℤ pos 1) x) xs next f.has in
    let more = le_so (value +ℤ pos 1) next p.passes in
    record {
      wide = wide_on old now new so_far.wide wide;
      has = p.has;
      members = λ a. (λ t. to a p.has more (or_so (int_eq a next) (members now a) (sym (tells a) ∙ t)), λ either. tells a ∙ back a f.others either (cases_le a value));
    }
  where
    cases_le : (a b : ℤ) → (a ≤ℤ b) ⊎ ((b +ℤ pos 1) ≤ℤ a)
    cases_le a b = by (int_le a b) refl
      where
        by : (t : Bool) → int_le a b ≡ t → (a ≤ℤ b) ⊎ ((b +ℤ pos 1) ≤ℤ a)
        by true e = inl (le_so a b e)
        by false e = inr (let less : b <ℤ a = grind (arith, ints) in omega (arith, ints, less))

    to : (a : ℤ) → Has xs next → (value +ℤ pos 1) ≤ℤ next → (int_eq a next ≡ true) ⊎ (members now a ≡ true) → IsTrue (members old a) ⊎ (Has xs a × (a ≤ℤ next))
    to a has more (inl is) = let same = eq_so a next is in inr (subst (Has xs) (sym same) has, omega (arith, ints, same))
    to a has more (inr was) = by ((so_far.members a).0 was)
      where
        by : IsTrue (members old a) ⊎ (Has xs a × (a ≤ℤ value)) → IsTrue (members old a) ⊎ (Has xs a × (a ≤ℤ next))
        by (inl old_one) = inl old_one
        by (inr here) = let le = here.1 in inr (here.0, omega (arith, ints, le, more))

    back : (a : ℤ) → ((b : ℤ) → Has (filter (λ x. int_le (value +ℤ pos 1) x) xs) b → next ≤ℤ b) → IsTrue (members old a) ⊎ (Has xs a × (a ≤ℤ next)) → (a ≤ℤ value) ⊎ ((value +ℤ pos 1) ≤ℤ a) → (int_eq a next || members now a) ≡ true
    back a others (inl was) side = or_right (int_eq a next) (members now a) ((so_far.members a).1 (inl was))
    back a others (inr here) (inl le) = or_right (int_eq a next) (members now a) ((so_far.members a).1 (inr (here.0, le)))
    back a others (inr here) (inr more) =
        let low = others a (filter_has (λ x. int_le (value +ℤ pos 1) x) xs a here.0 (le_true (value +ℤ pos 1) a more)) in
        let high = here.1 in
        or_left (int_eq a next) (members now a) (eq_true a next (omega (arith, ints, low, high)))

pub gathered_all : (xs : List ℤ) (e : Ends) (old now : Values) (value : ℤ) → Ascends xs → AreEndsOf xs e → Gathered xs old now value → e.hi ≤ℤ value → (a : ℤ) → IsTrue (members now a) ↔ (IsTrue (members old a) ⊎ Has xs a)
gathered_all xs e old now value up ends so_far past a = (λ t. to ((so_far.members a).0 t), λ either. (so_far.members a).1 (back either))
  where
    to : IsTrue (members old a) ⊎ (Has xs a × (a ≤ℤ value)) → IsTrue (members old a) ⊎ Has xs a
    to (inl was) = inl was
    to (inr here) = inr here.0

    back : IsTrue (members old a) ⊎ Has xs a → IsTrue (members old a) ⊎ (Has xs a × (a ≤ℤ value))
    back (inl was) = inl was
    back (inr here) = let high = (stands_last xs e.hi up ends.last).others a here in inr (here, omega (arith, ints, high, past))

pub gathered_span : (lo hi : ℤ) (old new : Values) → lo ≤ℤ hi → ((x : ℤ) → members new x ≡ ((int_le lo x && int_le x hi) || members old x)) → (a : ℤ) → IsTrue (members new a) ↔ (IsTrue (members old a) ⊎ Has (stretch lo hi) a)
gathered_span lo hi old new order tells a = (λ t. to (or_so (int_le lo a && int_le a hi) (members old a) (sym (tells a) ∙ t)), λ either. tells a ∙ back either)
  where
    to : ((int_le lo a && int_le a hi) ≡ true) ⊎ (members old a ≡ true) → IsTrue (members old a) ⊎ Has (stretch lo hi) a
    to (inl is) = inr ((Has-stretch lo hi a order).1 (le_so lo a (left_true (int_le lo a) (int_le a hi) is), le_so a hi (right_true (int_le lo a) (int_le a hi) is)))
    to (inr was) = inl was

    back : IsTrue (members old a) ⊎ Has (stretch lo hi) a → ((int_le lo a && int_le a hi) || members old a) ≡ true
    back (inl was) = or_right (int_le lo a && int_le a hi) (members old a) was
    back (inr here) = let t = (Has-stretch lo hi a order).0 here in or_left (int_le lo a && int_le a hi) (members old a) (both_true (int_le lo a) (int_le a hi) (le_true lo a t.0) (le_true a hi t.1))

-- ---- a row that is sieved

keep_bit : (b m w : Bool) → (b && not (b && cond (not w) m (not m))) ≡ (b && cond w m (not m))
keep_bit true true true = refl
keep_bit true true false = refl
keep_bit true false true = refl
keep_bit true false false = refl
keep_bit false m w = refl

-- the bits of a marked set after those that fail were cleared
pub record SievedRow (bits new : List ℕ) (lo : ℤ) (at : ℕ) (e after : Ends) (p : ℤ → Bool) : Type 0 where
  pub ends : AreEndsOf (marked new lo at after) after
  pub values : marked new lo at after ≡ filter p (marked bits lo at e)

pub sieved_row : (bits new : List ℕ) (lo : ℤ) (at : ℕ) (e : Ends) (row : Row) (s : Values) (wanted : Bool) (least greatest : ℤ) → IsRow bits lo at e → IsValue lo → AreEndsOf (marked bits lo at e) e → AreMarks bits lo at e row
    → IsFirst least (filter (passes s wanted) (marked bits lo at e)) → IsLast greatest (filter (passes s wanted) (marked bits lo at e))
    → ((k : ℕ) → bit_of new k ≡ (bit_of bits k && not (is_hit bits row s (not wanted) k))) → SievedRow bits new lo at e (sieved_ends new e row least greatest) (passes s wanted)
sieved_row bits new lo at e row s wanted least greatest is v_lo ends m first last tells =
    let p = passes s wanted in
    let xs = marked bits lo at e in
    let up = Ascends-marked bits lo at e in
    let f = stands_first (filter p xs) least (filter_ascends p xs up) first in
    let l = stands_last (filter p xs) greatest (filter_ascends p xs up) last in
    let fp = has_filter p xs least f.has in
    let lp = has_filter p xs greatest l.has in
    let fm = is_marked bits lo at e least ends.ordered fp.has in
    let lm = is_marked bits lo at e greatest ends.ordered lp.has in
    let order : least ≤ℤ greatest = f.others greatest l.has in
    let after = sieved_ends new e row least greatest in
    let whole : marked new lo at e ≡ filter p xs = is_filter p xs (marked new lo at e) up (Ascends-marked new lo at e) to from in
    let values : marked new lo at after ≡ filter p xs =
    is_filter p xs (marked new lo at after) up (Ascends-marked new lo at after)
    (λ b has. (let n = is_marked new lo at after b order has in to b (marked_has new lo at e b ends.ordered (record { low = (let a = fm.low in let c = n.low in omega (arith, ints, a, c)); high = (let a = lm.high in let c = n.high in omega (arith, ints, a, c)); mark = n.mark }))))
    (λ b has pass. (let there = filter_has p xs b has pass in let n = is_marked new lo at e b ends.ordered (from b has pass) in marked_has new lo at after b order (record { low = f.others b there; high = l.others b there; mark = n.mark }))) in
    let from_is = m.from in
    let to_is = m.to in
    let size : after.size ≡ length (marked new lo at after) =
    ap (λ n. count_from (bit_of new) n (row.to + 1 - n)) from_is ∙ (ap (λ n. count_from (bit_of new) (at + int_gap lo e.lo) (n + 1 - (at + int_gap lo e.lo))) to_is ∙ (sym (length_marked new lo at e is.low ends.ordered) ∙ ap length (whole ∙ sym values))) in
    record {
      values = values;
      ends = marked_ends new lo at after order (mark least fm.low fm.high fm.mark fp.passes) (mark greatest lm.low lm.high lm.mark lp.passes) size;
    }
  where
    -- the bit of a value between the ends
    kept : (b : ℤ) → e.lo ≤ℤ b → b ≤ℤ e.hi → has_bit new lo at b ≡ (has_bit bits lo at b && passes s wanted b)
    kept b low high =
        let base = is.low in
        let from_is = m.from in
        let to_is = m.to in
        let raise = m.raise in
        let v = v_lo.0 in
        let g = plus-int_gap (neg_ℤ (pos (2 ^ 61))) lo (omega (arith, ints, v)) in
        let h = plus-int_gap (neg_ℤ (pos (2 ^ 61))) b (omega (arith, ints, v, base, low)) in
        let k = plus-int_gap lo b (omega (arith, ints, base, low)) in
        let bw = bits_between lo at e b base low high in
        let bl = bw.low in
        let bh = bw.high in
        let i : place_of b - row.raise ≡ at + int_gap lo b = omega (arith, ints, g, h, k, raise) in
        let here : IsAt row b (place_of b - row.raise) = record { value = omega (arith, ints, g, h, k, raise); from = omega (arith, i, from_is, bl); to = omega (arith, i, to_is, bh) } in
        let has : row_has bits row b ≡ has_bit bits lo at b = ap (λ t. t || bit_of bits (place_of b - row.raise)) m.plain ∙ ap (bit_of bits) i in
        let hit : is_hit bits row s (not wanted) (at + int_gap lo b) ≡ (has_bit bits lo at b && passes s (not wanted) b) = ap (is_hit bits row s (not wanted)) (sym i) ∙ (hit_value bits row s (not wanted) b here ∙ ap (λ t. t && passes s (not wanted) b) has) in
        tells (at + int_gap lo b) ∙ (ap (λ t. has_bit bits lo at b && not t) hit ∙ keep_bit (has_bit bits lo at b) (members s b) wanted)

    mark : (b : ℤ) → e.lo ≤ℤ b → b ≤ℤ e.hi → has_bit bits lo at b ≡ true → passes s wanted b ≡ true → has_bit new lo at b ≡ true
    mark b low high was pass = kept b low high ∙ both_true (has_bit bits lo at b) (passes s wanted b) was pass

    to : (b : ℤ) → Has (marked new lo at e) b → Passes (passes s wanted) (marked bits lo at e) b
    to b has =
        let n = is_marked new lo at e b ends.ordered has in
        let both = sym (kept b n.low n.high) ∙ n.mark in
        record { has = marked_has bits lo at e b ends.ordered (record { low = n.low; high = n.high; mark = left_true (has_bit bits lo at b) (passes s wanted b) both }); passes = right_true (has_bit bits lo at b) (passes s wanted b) both }

    from : (b : ℤ) → Has (marked bits lo at e) b → passes s wanted b ≡ true → Has (marked new lo at e) b
    from b has pass =
        let n = is_marked bits lo at e b ends.ordered has in
        marked_has new lo at e b ends.ordered (record { low = n.low; high = n.high; mark = mark b n.low n.high n.mark pass })

-- ---- from one value on

-- what follows a number that is less than one that fits a word fits it too
pub fits_next : (a b : ℤ) → FitsSigned w64 a → FitsSigned w64 b → a <ℤ b → FitsSigned w64 (a +ℤ pos 1)
fits_next a b fits_a fits_b less = search rules

-- what follows a value that isn't the last
pub record Follows (xs : List ℤ) (e : Ends) (value next : ℤ) : Type 0 where
  pub has : Has xs next
  pub more : value <ℤ next
  pub upto : next ≤ℤ e.hi
  pub gap : int_gap next e.hi < int_gap value e.hi

pub follows : (xs : List ℤ) (e : Ends) (value next : ℤ) → Ascends xs → AreEndsOf xs e → IsFirst next (filter (λ x. int_le (value +ℤ pos 1) x) xs) → Follows xs e value next
follows xs e value next up ends first =
    let f = stands_first (filter (λ x. int_le (value +ℤ pos 1) x) xs) next (filter_ascends (λ x. int_le (value +ℤ pos 1) x) xs up) first in
    let p = has_filter (λ x. int_le (value +ℤ pos 1) x) xs next f.has in
    let more = le_so (value +ℤ pos 1) next p.passes in
    let upto = (stands_last xs e.hi up ends.last).others next p.has in
    let g = plus-int_gap next e.hi upto in
    let h = plus-int_gap value e.hi (omega (arith, ints, more, upto)) in
    record { has = p.has; more = omega (arith, ints, more); upto = upto; gap = omega (arith, ints, g, h, more) }

-- from the least value on, or from any before it, are all values
pub from_least : (xs : List ℤ) (e : Ends) (a : ℤ) (p : ℤ → Bool) → Ascends xs → AreEndsOf xs e → a ≤ℤ e.lo → filter (λ x. int_le a x && p x) xs ≡ filter p xs
from_least xs e a p up ends low = filter_alike (λ x. int_le a x && p x) p xs (λ b has. ap (λ t. t && p b) (le_true a b (let le = (stands_first xs e.lo up ends.first).others b has in omega (arith, ints, le, low))))

pub from_past : (xs : List ℤ) (e : Ends) (a : ℤ) (p : ℤ → Bool) → Ascends xs → AreEndsOf xs e → e.hi <ℤ a → filter (λ x. int_le a x && p x) xs ≡ []
from_past xs e a p up ends past = filter_none (λ x. int_le a x && p x) xs (λ b has. ap (λ t. t && p b) (le_false a b (let le = (stands_last xs e.hi up ends.last).others b has in omega (arith, ints, le, past))))

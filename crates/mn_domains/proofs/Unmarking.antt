-- A value of one variable is taken out by its bit.
use Rattle.std.proofs.Common.{◌≡◌, ℕ, ◌+◌, ◌-◌, ◌*◌, ◌/◌, ◌<◌, ◌≤◌, ℤ, ◌<ℤ◌, ◌≤ℤ◌, ◌⊎◌, inl, inr, Bool, true, false, true≢false, IsTrue, List, [], ◌∷◌, ◌++◌, length, filter, slice_get, slice_set, get_or, Some, Ok, refl, sym, subst, ap, ◌∙◌, arith}
use Rattle.std.proofs.lemmas.Bool.{cases_lt}
use Rattle.std.proofs.lemmas.Int.{ints}
use Rattle.std.proofs.lemmas.List.{length-set, set-get_or}
use Rattle.std.specs.Int.{int_gap}
use Rattle.std.specs.List.{AllByRecursion}
use Rattle.mn_model.specs.Domain.{Has}
use Rattle.mn_model.proofs.Stretches.{plus-int_gap}
use Rattle.mn_model.proofs.Filtered.{Passes}
use Rattle.mn_boxes.specs.Sets.{IsEnd, MayGo, Variable}
use Rattle.mn_boxes.specs.declared.change.Moved.{Moved}
use Rattle.mn_domains.specs.Changes.{Changed, is_not}
use Rattle.mn_domains.specs.Held.{AreEndsOf, IsHeld, IsKept, IsShape, IsState, TellsBit, cleared, has_bit, is_bounded_shape, marked, values_held, variable_held}
use Rattle.mn_domains.specs.Sets.{Sets}
use Rattle.mn_domains.specs.States.{Unmarks, UnmarksIf, one_less}
use Rattle.mn_domains.specs.declared.shape.Ends.{Ends}
use Rattle.mn_domains.specs.declared.shape.Shape.{Shape}
use Rattle.mn_domains.specs.declared.shape.Shape.TheVariants.{Stretch, Listed, Bits}
use Rattle.mn_domains.specs.declared.state.State.{State}
use Rattle.mn_domains.proofs.Filtered.{is_filter, is_not_so, is_not_true, length-without}
use Rattle.mn_domains.proofs.Marks.{Ascends-marked, high_mark, is_marked, low_mark, marked_ends, marked_has}
use Rattle.mn_domains.proofs.RowChange.{DifferWithin, NewRow, PutRow, row_changed}
use Rattle.mn_domains.proofs.Put.{PutAt, changed_put, kept_put}
use Rattle.mn_domains.proofs.ShapeLemmas.{without_none}
use Rattle.mn_domains.proofs.Standing.{known, seen, stands_at}
use Rattle.mn_boxes.proofs.Words.{bit_of-cleared, bit_of-cleared_other}

-- ---- the set itself

record InnerOut (bits new : List ℕ) (lo : ℤ) (at : ℕ) (e : Ends) (a : ℤ) : Type 0 where
  ends : AreEndsOf (marked new lo at (one_less e)) (one_less e)
  values : marked new lo at (one_less e) ≡ filter (is_not a) (marked bits lo at e)

-- other values have other bits
other_bit : (lo : ℤ) (at : ℕ) (a b : ℤ) → lo ≤ℤ a → lo ≤ℤ b → (b ≡ a → ⊥) → at + int_gap lo b ≡ at + int_gap lo a → ⊥
other_bit lo at a b low_a low_b differs same = let s = plus-int_gap lo a low_a in let t = plus-int_gap lo b low_b in differs (omega (arith, ints, s, t, same))

-- two numbers that differ
apart : (k i : ℕ) → (k ≡ i → ⊥) → (k < i) ⊎ (i < k)
apart k i differs = by (cases_lt k i) (cases_lt i k)
  where
    by : (k < i) ⊎ (i ≤ k) → (i < k) ⊎ (k ≤ i) → (k < i) ⊎ (i < k)
    by (inl less) other = inl less
    by (inr le) (inl more) = inr more
    by (inr le) (inr ge) = absurd (differs (omega (arith, le, ge)))

inner_out : (bits new : List ℕ) (lo : ℤ) (at : ℕ) (e : Ends) (a : ℤ) → lo ≤ℤ e.lo → AreEndsOf (marked bits lo at e) e → e.lo <ℤ a → a <ℤ e.hi → has_bit bits lo at a ≡ true → has_bit new lo at a ≡ false → DifferWithin (at + int_gap lo a) (at + int_gap lo a) bits new → InnerOut bits new lo at e a
inner_out bits new lo at e a low ends above below set gone differ =
    let there : Has (marked bits lo at e) a = marked_has bits lo at e a ends.ordered (record { low = omega (arith, ints, above); high = omega (arith, ints, below); mark = set }) in
    let values : marked new lo at (one_less e) ≡ filter (is_not a) (marked bits lo at e) = is_filter (is_not a) (marked bits lo at e) (marked new lo at (one_less e)) (Ascends-marked bits lo at e) (Ascends-marked new lo at (one_less e)) to from in
    let len = length-without (marked bits lo at e) a (Ascends-marked bits lo at e) there in
    let size : e.size - 1 ≡ length (marked new lo at (one_less e)) = let same = ap length values in let was = ends.size in omega arith in
    record {
      values = values;
      ends = marked_ends new lo at (one_less e) ends.ordered (same_bit e.lo low (λ is. omega (arith, ints, above, is)) ∙ low_mark bits lo at e ends) (same_bit e.hi (omega (arith, ints, low, ends.ordered)) (λ is. omega (arith, ints, below, is)) ∙ high_mark bits lo at e ends) size;
    }
  where
    same_bit : (b : ℤ) → lo ≤ℤ b → (b ≡ a → ⊥) → has_bit new lo at b ≡ has_bit bits lo at b
    same_bit b from differs = differ (at + int_gap lo b) (apart (at + int_gap lo b) (at + int_gap lo a) (other_bit lo at a b (omega (arith, ints, low, above)) from differs))

    to : (b : ℤ) → Has (marked new lo at (one_less e)) b → Passes (is_not a) (marked bits lo at e) b
    to b has =
        let m = is_marked new lo at (one_less e) b ends.ordered has in
        let differs : b ≡ a → ⊥ = λ is. true≢false (sym m.mark ∙ (ap (has_bit new lo at) is ∙ gone)) in
        record { has = marked_has bits lo at e b ends.ordered (record { low = m.low; high = m.high; mark = sym (same_bit b (omega (arith, ints, low, m.low)) differs) ∙ m.mark }); passes = is_not_true a b differs }

    from : (b : ℤ) → Has (marked bits lo at e) b → is_not a b ≡ true → Has (marked new lo at (one_less e)) b
    from b has pass =
        let m = is_marked bits lo at e b ends.ordered has in
        marked_has new lo at (one_less e) b ends.ordered (record { low = m.low; high = m.high; mark = same_bit b (omega (arith, ints, low, m.low)) (is_not_so a b pass) ∙ m.mark })

-- ---- the whole state

pub record Unmarked (listed : List ℤ) (shapes : List Shape) (new : State) (saved : List State) (s : Sets) (v : ℕ) (a : ℤ) (moved : Moved) : Type 0 where
  pub kept : IsKept listed shapes new saved
  pub changed : Changed (is_not a) v s (seen listed shapes new saved) (Ok moved)

-- where the bit wasn't set nothing changed
unmarked_none : (listed : List ℤ) (shapes : List Shape) (old new : State) (saved : List State) (s : Sets) (v : ℕ) (lo hi : ℤ) (at : ℕ) (e : Ends) (a : ℤ) (moved : Moved) → seen listed shapes old saved ≡ s → IsKept listed shapes old saved → v < length s.vars
    → Bits lo hi at ≡ get_or shapes v (Bits lo hi at) → e ≡ get_or old.ends.items v e → has_bit old.bits.items lo at a ≡ false
    → UnmarksIf false old new v e (at + int_gap lo a) moved → Unmarked listed shapes new saved s v a moved
unmarked_none listed shapes old new saved s v lo hi at e a moved view kept_old within at_shape at_ends clear u =
    let k = known listed shapes old saved s v (Bits lo hi at) e view kept_old within at_shape at_ends in
    let same : slice_set old.ends.items v e ≡ old.ends.items = ap (slice_set old.ends.items v) at_ends ∙ set-get_or old.ends.items v e in
    let put : PutAt old new v e e = record { ends = u.1 ∙ sym same; bits = u.0; left = ap (λ n. n + e.size) u.2 } in
    let values : marked old.bits.items lo at e ≡ filter (is_not a) (marked old.bits.items lo at e) = without_none (marked old.bits.items lo at e) a (λ has. true≢false (sym (is_marked old.bits.items lo at e a k.held.ends.ordered has).mark ∙ clear)) in
    record {
      kept = kept_put listed shapes old new saved s v (Bits lo hi at) e e view kept_old within at_shape at_ends k.held put;
      changed = changed_put listed shapes old new saved s v (Bits lo hi at) e e (is_not a) moved view kept_old within at_shape at_ends k.held values put u.3;
    }

-- a set that is held has a value
held_size : (listed : List ℤ) (bits : List ℕ) (shape : Shape) (e : Ends) → IsHeld listed bits shape e → 1 ≤ e.size
held_size listed bits shape e held = by (values_held listed bits shape e) held.ends.size held.ends.first
  where
    by : (xs : List ℤ) → e.size ≡ length xs → slice_get xs 0 ≡ Some e.lo → 1 ≤ e.size
    by [] size first = cc
    by (x ∷ xs) size first = omega (arith, size)

-- where it was set the value is gone
unmarked_one : (listed : List ℤ) (shapes : List Shape) (old new : State) (saved : List State) (s : Sets) (v : ℕ) (lo hi : ℤ) (at : ℕ) (e : Ends) (a : ℤ) (moved : Moved) → seen listed shapes old saved ≡ s → IsKept listed shapes old saved → v < length s.vars
    → Bits lo hi at ≡ get_or shapes v (Bits lo hi at) → e ≡ get_or old.ends.items v e → e.lo <ℤ a → a <ℤ e.hi → has_bit old.bits.items lo at a ≡ true
    → UnmarksIf true old new v e (at + int_gap lo a) moved → Unmarked listed shapes new saved s v a moved
unmarked_one listed shapes old new saved s v lo hi at e a moved view kept_old within at_shape at_ends above below set u =
    let k = known listed shapes old saved s v (Bits lo hi at) e view kept_old within at_shape at_ends in
    let st = stands_at listed shapes old saved s v view kept_old within in
    let i = at + int_gap lo a in
    let bits = old.bits.items in
    let gap_a = plus-int_gap lo a (omega (arith, ints, k.held.within.0, above)) in
    let gap_hi = plus-int_gap lo hi k.shaped.0.ordered in
    let last : i ≤ at + int_gap lo hi = omega (arith, ints, gap_a, gap_hi, below, k.held.within.1) in
    let room : i < 64 * length bits = let r = k.shaped.1.within in omega arith in
    let differ : DifferWithin i i bits (cleared bits i) = λ n other. bit_of-cleared_other bits i n room (not_at n other) in
    let out = inner_out bits (cleared bits i) lo at e a k.held.within.0 k.held.ends above below set (bit_of-cleared bits i room) differ in
    let row : NewRow bits (cleared bits i) lo hi at i i e (one_less e) (is_not a) = record { differ = differ; first = omega arith; last = last; words = length-set bits (i / 64) _; ends = out.ends; low = k.held.within.0; high = k.held.within.1; values = out.values } in
    let some_left = held_size listed bits (Bits lo hi at) e k.held in
    let put : PutRow old new (cleared bits i) v e (one_less e) moved = record { bits = u.0; ends = u.1; left = (let one = u.2 in omega (arith, one, some_left)); tells = u.3 } in
    let done = row_changed listed shapes old new saved s v lo hi at i i e (one_less e) (cleared bits i) (is_not a) moved view kept_old within at_shape at_ends row put in
    record { kept = done.kept; changed = done.changed }
  where
    not_at : (n : ℕ) → (n < at + int_gap lo a) ⊎ (at + int_gap lo a < n) → n ≡ at + int_gap lo a → ⊥
    not_at n (inl less) same = omega (arith, less, same)
    not_at n (inr more) same = omega (arith, more, same)

pub unmarked : (listed : List ℤ) (shapes : List Shape) (old new : State) (saved : List State) (s : Sets) (v : ℕ) (lo hi : ℤ) (at : ℕ) (e : Ends) (a : ℤ) (moved : Moved) → seen listed shapes old saved ≡ s → IsKept listed shapes old saved → v < length s.vars
    → Bits lo hi at ≡ get_or shapes v (Bits lo hi at) → e ≡ get_or old.ends.items v e → e.lo <ℤ a → a <ℤ e.hi → Unmarks old new v e (at + int_gap lo a) moved → Unmarked listed shapes new saved s v a moved
unmarked listed shapes old new saved s v lo hi at e a moved view kept_old within at_shape at_ends above below u = by (has_bit old.bits.items lo at a) refl u
  where
    by : (t : Bool) → has_bit old.bits.items lo at a ≡ t → UnmarksIf t old new v e (at + int_gap lo a) moved → Unmarked listed shapes new saved s v a moved
    by true is w = unmarked_one listed shapes old new saved s v lo hi at e a moved view kept_old within at_shape at_ends above below is w
    by false is w = unmarked_none listed shapes old new saved s v lo hi at e a moved view kept_old within at_shape at_ends is w

-- the same of any shape that tells a bit
pub unmarked_shape : (listed : List ℤ) (shapes : List Shape) (old new : State) (saved : List State) (s : Sets) (v : ℕ) (shape : Shape) (e : Ends) (a : ℤ) (bit : ℕ) (moved : Moved) → seen listed shapes old saved ≡ s → IsKept listed shapes old saved → v < length s.vars
    → shape ≡ get_or shapes v shape → e ≡ get_or old.ends.items v e → TellsBit shape e a (Some bit) → Unmarks old new v e bit moved → Unmarked listed shapes new saved s v a moved
unmarked_shape listed shapes old new saved s v (Stretch lo hi) e a bit moved view kept_old within at_shape at_ends tells u = absurd tells.2
unmarked_shape listed shapes old new saved s v (Listed from to) e a bit moved view kept_old within at_shape at_ends tells u = absurd tells.2
unmarked_shape listed shapes old new saved s v (Bits lo hi at) e a bit moved view kept_old within at_shape at_ends tells u =
    unmarked listed shapes old new saved s v lo hi at e a moved view kept_old within at_shape at_ends tells.0 tells.1 (subst (λ b. Unmarks old new v e b moved) tells.2 u)

-- of a set that loses values at its ends alone no value between them may go
pub bounded_held : (listed : List ℤ) (shape : Shape) → IsTrue (is_bounded_shape shape) → IsTrue (variable_held listed shape).bounded
bounded_held listed (Stretch lo hi) t = t
bounded_held listed (Listed from to) t = t
bounded_held listed (Bits lo hi at) t = t

pub inner_stays : (listed : List ℤ) (bits : List ℕ) (shape : Shape) (e : Ends) (a : ℤ) (var : Variable) (xs : List ℤ) → xs ≡ values_held listed bits shape e → var ≡ variable_held listed shape → MayGo var xs a → AreEndsOf (values_held listed bits shape e) e
    → (e.lo <ℤ a → a <ℤ e.hi → IsTrue (is_bounded_shape shape)) → e.lo <ℤ a → a <ℤ e.hi → Has (values_held listed bits shape e) a → ⊥
inner_stays listed bits shape e a var xs is_set is_var may ends bounded above below has =
    by (may (subst (λ (w : Variable). IsTrue w.bounded) (sym is_var) (bounded_held listed shape (bounded above below))) (subst (λ ys. Has ys a) (sym is_set) has))
  where
    by : IsEnd a xs → ⊥
    by (inl first) = let here : slice_get xs 0 ≡ Some e.lo = ap (λ ys. slice_get ys 0) is_set ∙ ends.first in let same : a ≡ e.lo = cc in omega (arith, ints, above, same)
    by (inr last) = let here : slice_get xs (length xs - 1) ≡ Some e.hi = ap (λ ys. slice_get ys (length ys - 1)) is_set ∙ ends.last in let same : a ≡ e.hi = cc in omega (arith, ints, below, same)

-- ---- the last saved state

last_and_rest : {X : Type 0} (P : X → Type 0) (rest : List X) (last : X) → AllByRecursion P (rest ++ last ∷ []) → P last × AllByRecursion P rest
last_and_rest P [] last all = (all.0, tt)
last_and_rest P (x ∷ rest) last all = let r = last_and_rest P rest last all.1 in (r.0, (all.0, r.1))

pub kept_restored : (listed : List ℤ) (shapes : List Shape) (now last : State) (saved rest : List State) → IsKept listed shapes now saved → saved ≡ rest ++ last ∷ [] → IsKept listed shapes last rest
kept_restored listed shapes now last saved rest k is =
    let n = length now.bits.items in
    let P : State → Type 0 = λ t. IsState listed shapes t.ends.items t.bits.items t.left × (length t.bits.items ≡ n) in
    let both = last_and_rest P rest last (subst (AllByRecursion P) is k.before) in
    let rows : n ≡ length last.bits.items = sym both.0.1 in
    record {
      shaped = subst (λ m. AllByRecursion (IsShape listed (64 * m)) shapes) rows k.shaped;
      apart = k.apart;
      current = both.0.0;
      before = subst (λ m. AllByRecursion (λ t. IsState listed shapes t.ends.items t.bits.items t.left × (length t.bits.items ≡ m)) rest) rows both.1;
    }

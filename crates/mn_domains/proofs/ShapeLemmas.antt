-- Sets of each shape.
use Rattle.std.proofs.Common.{◌≡◌, ℕ, ◌+◌, ◌*◌, ℤ, pos, ◌+ℤ◌, ◌-ℤ◌, ◌<ℤ◌, ◌≤ℤ◌, inl, inr, Bool, true, false, true≢false, int_le, int_lt, List, [], ◌∷◌, length, filter, refl, sym, subst, ◌∙◌, arith}
use Rattle.std.proofs.lemmas.Int.{ints}
use Rattle.std.specs.Int.{int_gap}
use Rattle.std.specs.Ordering.{int_eq}
use Rattle.mn_model.specs.Domain.{Ascends, Has, IsFirst, IsValue, stretch}
use Rattle.mn_model.proofs.Stretches.{Has-stretch, IsDomainFrom-stretch, length-stretch, plus-int_gap, Ascends-stretch}
use Rattle.mn_model.proofs.Ordered.{next_le, le_so, le_true, lt_false, lt_true}
use Rattle.mn_model.proofs.Filtered.{filter_ascends, filter_has, has_filter}
use Rattle.mn_boxes.proofs.Members.{is_first, same_members}
use Rattle.mn_domains.specs.Changes.{is_not}
use Rattle.mn_domains.specs.Held.{AreEndsOf, IsHeld, IsRoom, IsRow, IsShape, IsSpan, IsWithin, marked, values_held}
use Rattle.mn_domains.specs.declared.shape.Ends.{Ends}
use Rattle.mn_domains.specs.declared.shape.Shape.{Shape}
use Rattle.mn_domains.specs.declared.shape.Shape.TheVariants.{Stretch, Listed, Bits}
use Rattle.mn_domains.proofs.EndLemmas.{IsBetween, between_ends}
use Rattle.mn_domains.proofs.Filtered.{filter_alike, filter_none, filter_single, filter_whole, is_filter, is_not_false, is_not_true}
use Rattle.mn_domains.proofs.Marks.{Ascends-marked, FoundFirst, is_marked, marked_has}
use Rattle.mn_domains.proofs.Parts.{Ascends-part}

-- ---- stretches

pub stretch_ends : (lo hi : ℤ) (size place : ℕ) → lo ≤ℤ hi → IsValue lo → IsValue hi → pos size ≡ hi -ℤ lo +ℤ pos 1 → AreEndsOf (stretch lo hi) (record { lo = lo; hi = hi; size = size; place = place })
stretch_ends lo hi size place ordered low high long =
    let d = IsDomainFrom-stretch lo hi ordered low high in
    record { ordered = ordered; first = d.first; last = d.last; size = omega (arith, ints, long, length-stretch lo hi ordered) }

pub stretch_from : (lo hi a : ℤ) → lo ≤ℤ a → a ≤ℤ hi → stretch a hi ≡ filter (λ x. int_le a x) (stretch lo hi)
stretch_from lo hi a low high = is_filter (λ x. int_le a x) (stretch lo hi) (stretch a hi) (Ascends-stretch lo hi) (Ascends-stretch a hi)
    (λ b has. let t = (Has-stretch a hi b high).0 has in record { has = (Has-stretch lo hi b (omega (arith, ints))).1 (omega (arith, ints, t.0, low), t.1); passes = le_true a b t.0 })
    (λ b has pass. let t = (Has-stretch lo hi b (omega (arith, ints))).0 has in (Has-stretch a hi b high).1 (le_so a b pass, t.1))

pub stretch_up_to : (lo hi a : ℤ) → lo ≤ℤ a → a ≤ℤ hi → stretch lo a ≡ filter (λ x. int_le x a) (stretch lo hi)
stretch_up_to lo hi a low high = is_filter (λ x. int_le x a) (stretch lo hi) (stretch lo a) (Ascends-stretch lo hi) (Ascends-stretch lo a)
    (λ b has. let t = (Has-stretch lo a b low).0 has in record { has = (Has-stretch lo hi b (omega (arith, ints))).1 (t.0, omega (arith, ints, t.1, high)); passes = le_true b a t.1 })
    (λ b has pass. let t = (Has-stretch lo hi b (omega (arith, ints))).0 has in (Has-stretch lo a b low).1 (t.0, le_so b a pass))

pub stretch_alone : (lo hi a : ℤ) → lo ≤ℤ hi → Has (stretch lo hi) a → stretch a a ≡ filter (λ x. int_eq x a) (stretch lo hi)
stretch_alone lo hi a ordered has =
    same_members (stretch a a) (a ∷ []) (Ascends-stretch a a) (tt, tt)
    (λ b there. let t = (Has-stretch a a b (omega (arith, ints))).0 there in inl (omega (arith, ints, t.0, t.1)))
    (λ b there. elim there [ inl is ↦ subst (Has (stretch a a)) is ((Has-stretch a a a (omega (arith, ints))).1 (omega (arith, ints), omega (arith, ints))) | inr none ↦ absurd none ])
    ∙ sym (filter_single (stretch lo hi) a (Ascends-stretch lo hi) has)

pub stretch_first : (lo hi a : ℤ) → lo ≤ℤ a → a ≤ℤ hi → IsFirst a (filter (λ x. int_le a x) (stretch lo hi))
stretch_first lo hi a low high = is_first (filter (λ x. int_le a x) (stretch lo hi)) a (filter_ascends (λ x. int_le a x) (stretch lo hi) (Ascends-stretch lo hi)) (record {
  has = filter_has (λ x. int_le a x) (stretch lo hi) a ((Has-stretch lo hi a (omega (arith, ints))).1 (low, high)) (le_true a a (omega (arith, ints)));
  others = λ b has. le_so a b (has_filter (λ x. int_le a x) (stretch lo hi) b has).passes;
})

-- a value between two others is one of a model
pub value_between : (lo hi a : ℤ) → IsValue lo → IsValue hi → lo ≤ℤ a → a ≤ℤ hi → IsValue a
value_between lo hi a low high from to = (omega (arith, ints, low.0, from), omega (arith, ints, high.1, to))

-- ---- marked values

pub marked_first : (bits : List ℕ) (lo : ℤ) (at : ℕ) (e : Ends) (a value : ℤ) → e.lo ≤ℤ a → a ≤ℤ e.hi → FoundFirst bits lo at a e.hi value → IsFirst value (filter (λ x. int_le a x) (marked bits lo at e))
marked_first bits lo at e a value low high found = is_first (filter (λ x. int_le a x) (marked bits lo at e)) value (filter_ascends (λ x. int_le a x) (marked bits lo at e) (Ascends-marked bits lo at e)) (record {
  has = filter_has (λ x. int_le a x) (marked bits lo at e) value (marked_has bits lo at e value (omega (arith, ints)) (record { low = omega (arith, ints, low, found.from); high = found.within; mark = found.mark })) (le_true a value found.from);
  others = others;
})
  where
    others : (b : ℤ) → Has (filter (λ x. int_le a x) (marked bits lo at e)) b → value ≤ℤ b
    others b has = by (int_le value b) refl
      where
        by : (t : Bool) → int_le value b ≡ t → value ≤ℤ b
        by true t = le_so value b t
        by false t =
            let p = has_filter (λ x. int_le a x) (marked bits lo at e) b has in
            let m = is_marked bits lo at e b (omega (arith, ints, low, high)) p.has in
            absurd (true≢false (sym m.mark ∙ found.none b (le_so a b p.passes) (less t)))
          where
            less : int_le value b ≡ false → b <ℤ value
            less h = grind (arith, ints)

-- ---- all shapes

pub row_held : (bits : List ℕ) (lo hi : ℤ) (at : ℕ) (e : Ends) → IsSpan lo hi → IsRoom (64 * length bits) (at + int_gap lo hi) → lo ≤ℤ e.lo → e.lo ≤ℤ e.hi → e.hi ≤ℤ hi → IsRow bits lo at e
row_held bits lo hi at e span room low ordered high =
    let s = plus-int_gap lo e.hi (omega (arith, ints, low, ordered)) in
    let t = plus-int_gap lo hi span.ordered in
    record {
      span = record { ordered = omega (arith, ints, low, ordered); low = span.low; high = value_between lo hi e.hi span.low span.high (omega (arith, ints, low, ordered)) high };
      low = low;
      room = record { within = omega (arith, ints, room.within, s, t, high); small = omega (arith, ints, room.small, s, t, high) };
    }

pub Ascends-held : (listed : List ℤ) (bits : List ℕ) (room : ℕ) (shape : Shape) (e : Ends) → IsShape listed room shape → IsWithin shape e → Ascends (values_held listed bits shape e)
Ascends-held listed bits room (Stretch lo hi) e is within = Ascends-stretch e.lo e.hi
Ascends-held listed bits room (Listed from to) e is within = Ascends-part listed from to e is.ascends within.0 within.1
Ascends-held listed bits room (Bits lo hi at) e is within = Ascends-marked bits lo at e

-- a value of a stretch is between its ends
pub between_span : (e : Ends) (a : ℤ) → e.lo ≤ℤ e.hi → Has (stretch e.lo e.hi) a → IsBetween e.lo e.hi a
between_span e a ordered has = let b = (Has-stretch e.lo e.hi a ordered).0 has in record { low = b.0; high = b.1 }

-- what has no lesser value is whole, and what has no greater one
pub kept_low : (listed : List ℤ) (bits : List ℕ) (room : ℕ) (shape : Shape) (e : Ends) (a : ℤ) → IsShape listed room shape → IsHeld listed bits shape e → a ≤ℤ e.lo → values_held listed bits shape e ≡ filter (λ x. int_le a x) (values_held listed bits shape e)
kept_low listed bits room shape e a is held below = sym (filter_whole (λ x. int_le a x) (values_held listed bits shape e)
    (λ b has. let t = between_ends (values_held listed bits shape e) e b (Ascends-held listed bits room shape e is held.within) held.ends has in le_true a b (omega (arith, ints, t.low, below))))

pub kept_high : (listed : List ℤ) (bits : List ℕ) (room : ℕ) (shape : Shape) (e : Ends) (a : ℤ) → IsShape listed room shape → IsHeld listed bits shape e → e.hi ≤ℤ a → values_held listed bits shape e ≡ filter (λ x. int_le x a) (values_held listed bits shape e)
kept_high listed bits room shape e a is held above = sym (filter_whole (λ x. int_le x a) (values_held listed bits shape e)
    (λ b has. let t = between_ends (values_held listed bits shape e) e b (Ascends-held listed bits room shape e is held.within) held.ends has in le_true b a (omega (arith, ints, t.high, above))))

-- to take the least value out is to keep what is greater
above_least : (lo x : ℤ) → lo ≤ℤ x → int_le (lo +ℤ pos 1) x ≡ is_not lo x
above_least lo x le = by (int_le (lo +ℤ pos 1) x) refl
  where
    by : (t : Bool) → int_le (lo +ℤ pos 1) x ≡ t → t ≡ is_not lo x
    by true t = sym (is_not_true lo x (λ same. let more = le_so (lo +ℤ pos 1) x t in omega (arith, ints, more, same)))
    by false t = sym (is_not_false lo x (same t))
      where
        same : int_le (lo +ℤ pos 1) x ≡ false → x ≡ lo
        same h = let less : x <ℤ (lo +ℤ pos 1) = grind (arith, ints) in omega (arith, ints, less, le)

below_greatest : (hi x : ℤ) → x ≤ℤ hi → int_le x (hi -ℤ pos 1) ≡ is_not hi x
below_greatest hi x le = by (int_le x (hi -ℤ pos 1)) refl
  where
    by : (t : Bool) → int_le x (hi -ℤ pos 1) ≡ t → t ≡ is_not hi x
    by true t = sym (is_not_true hi x (λ same. let less = le_so x (hi -ℤ pos 1) t in omega (arith, ints, less, same)))
    by false t = sym (is_not_false hi x (same t))
      where
        same : int_le x (hi -ℤ pos 1) ≡ false → x ≡ hi
        same h = let more : (hi -ℤ pos 1) <ℤ x = grind (arith, ints) in omega (arith, ints, more, le)

pub without_lo : (listed : List ℤ) (bits : List ℕ) (room : ℕ) (shape : Shape) (e : Ends) → IsShape listed room shape → IsHeld listed bits shape e
    → filter (λ x. int_le (e.lo +ℤ pos 1) x) (values_held listed bits shape e) ≡ filter (is_not e.lo) (values_held listed bits shape e)
without_lo listed bits room shape e is held = filter_alike (λ x. int_le (e.lo +ℤ pos 1) x) (is_not e.lo) (values_held listed bits shape e)
    (λ x has. above_least e.lo x (between_ends (values_held listed bits shape e) e x (Ascends-held listed bits room shape e is held.within) held.ends has).low)

pub without_hi : (listed : List ℤ) (bits : List ℕ) (room : ℕ) (shape : Shape) (e : Ends) → IsShape listed room shape → IsHeld listed bits shape e
    → filter (λ x. int_le x (e.hi -ℤ pos 1)) (values_held listed bits shape e) ≡ filter (is_not e.hi) (values_held listed bits shape e)
without_hi listed bits room shape e is held = filter_alike (λ x. int_le x (e.hi -ℤ pos 1)) (is_not e.hi) (values_held listed bits shape e)
    (λ x has. below_greatest e.hi x (between_ends (values_held listed bits shape e) e x (Ascends-held listed bits room shape e is held.within) held.ends has).high)

-- what isn't there can't be taken out
pub without_none : (xs : List ℤ) (a : ℤ) → (Has xs a → ⊥) → xs ≡ filter (is_not a) xs
without_none xs a none = sym (filter_whole (is_not a) xs (λ b has. is_not_true a b (λ same. none (subst (Has xs) same has))))

-- a value that isn't at or between the ends isn't there
pub outside_none : (listed : List ℤ) (bits : List ℕ) (room : ℕ) (shape : Shape) (e : Ends) (a : ℤ) → IsShape listed room shape → IsHeld listed bits shape e → (a ≡ e.lo → ⊥) → (a ≡ e.hi → ⊥)
    → (e.lo <ℤ a → a <ℤ e.hi → Has (values_held listed bits shape e) a → ⊥) → Has (values_held listed bits shape e) a → ⊥
outside_none listed bits room shape e a is held not_lo not_hi inner has =
    let t = between_ends (values_held listed bits shape e) e a (Ascends-held listed bits room shape e is held.within) held.ends has in
    inner (omega (arith, ints, t.low, not_lo)) (omega (arith, ints, t.high, not_hi)) has

-- ---- what is greater than a

pub all_greater : (listed : List ℤ) (bits : List ℕ) (room : ℕ) (shape : Shape) (e : Ends) (a : ℤ) → IsShape listed room shape → IsHeld listed bits shape e → a <ℤ e.lo → filter (λ x. int_lt a x) (values_held listed bits shape e) ≡ values_held listed bits shape e
all_greater listed bits room shape e a is held below = filter_whole (λ x. int_lt a x) (values_held listed bits shape e)
    (λ b has. let t = between_ends (values_held listed bits shape e) e b (Ascends-held listed bits room shape e is held.within) held.ends has in lt_true a b (omega (arith, ints, t.low, below)))

pub none_greater : (listed : List ℤ) (bits : List ℕ) (room : ℕ) (shape : Shape) (e : Ends) (a : ℤ) → IsShape listed room shape → IsHeld listed bits shape e → e.hi ≤ℤ a → filter (λ x. int_lt a x) (values_held listed bits shape e) ≡ []
none_greater listed bits room shape e a is held above = filter_none (λ x. int_lt a x) (values_held listed bits shape e)
    (λ b has. let t = between_ends (values_held listed bits shape e) e b (Ascends-held listed bits room shape e is held.within) held.ends has in lt_false a b (omega (arith, ints, t.high, above)))

pub greater_is_next : (xs : List ℤ) (a : ℤ) → filter (λ x. int_le (a +ℤ pos 1) x) xs ≡ filter (λ x. int_lt a x) xs
greater_is_next xs a = filter_alike (λ x. int_le (a +ℤ pos 1) x) (λ x. int_lt a x) xs (λ x has. next_le a x)

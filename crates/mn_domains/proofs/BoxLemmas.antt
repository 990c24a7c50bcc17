-- What is held is a box.
use Rattle.std.proofs.Common.{◌≡◌, ℕ, zero, suc, ◌-◌, ◌*◌, ℤ, ◌≤ℤ◌, inl, inr, IsTrue, List, [], ◌∷◌, length, map, take, drop, slice_range, sym, subst, arith}
use Rattle.std.proofs.lemmas.Int.{ints}
use Rattle.std.specs.List.{AllByRecursion, AllZip}
use Rattle.mn_model.specs.Domain.{Ascends, Has}
use Rattle.mn_model.proofs.Stretches.{Has-stretch}
use Rattle.mn_model.proofs.Ordered.{has_take, above_all}
use Rattle.mn_boxes.specs.Boxes.{IsBox}
use Rattle.mn_boxes.specs.Sets.{IsSetOf, IsUnbroken}
use Rattle.mn_boxes.proofs.Members.{stands_first}
use Rattle.mn_domains.specs.Held.{IsHeld, IsKept, IsShape, IsState, sets_held, state_held, values_held, variable_held}
use Rattle.mn_domains.specs.Sets.{AreBoxes, Sets}
use Rattle.mn_domains.specs.declared.shape.Ends.{Ends}
use Rattle.mn_domains.specs.declared.shape.Shape.{Shape}
use Rattle.mn_domains.specs.declared.shape.Shape.TheVariants.{Stretch, Listed, Bits}
use Rattle.mn_domains.specs.declared.state.State.{State}
use Rattle.mn_domains.proofs.Marks.{is_marked}
use Rattle.mn_domains.proofs.Parts.{Ascends-drop, part_within}
use Rattle.mn_domains.proofs.ShapeLemmas.{Ascends-held}
use Rattle.mn_domains.proofs.Standing.{seen}

has_drop : (n : ℕ) (xs : List ℤ) (a : ℤ) → Has (drop n xs) a → Has xs a
has_drop zero xs a has = has
has_drop (suc n) [] a has = absurd has
has_drop (suc n) (x ∷ xs) a has = inr (has_drop n xs a has)

-- what is at most a member of the front is in the front
take_has : (n : ℕ) (xs : List ℤ) (b c : ℤ) → Ascends xs → Has (take n xs) c → b ≤ℤ c → Has xs b → Has (take n xs) b
take_has zero xs b c up has le there = absurd has
take_has (suc n) [] b c up has le there = absurd there
take_has (suc n) (x ∷ xs) b c up has le (inl is) = inl is
take_has (suc n) (x ∷ xs) b c up (inl same) le (inr later) = absurd (let less = above_all x xs b up.0 later in omega (arith, ints, less, same, le))
take_has (suc n) (x ∷ xs) b c up (inr has) le (inr later) = inr (take_has n xs b c up.1 has le later)

-- and what is at least a member of the rest is in the rest
drop_has : (n : ℕ) (xs : List ℤ) (a b : ℤ) → Ascends xs → Has (drop n xs) a → a ≤ℤ b → Has xs b → Has (drop n xs) b
drop_has zero xs a b up has le there = there
drop_has (suc n) [] a b up has le there = absurd there
drop_has (suc n) (x ∷ xs) a b up has le (inl is) = absurd (let less = above_all x xs a up.0 (has_drop n xs a has) in omega (arith, ints, less, is, le))
drop_has (suc n) (x ∷ xs) a b up has le (inr later) = drop_has n xs a b up.1 has le later

-- a part of values that ascend is unbroken among them
unbroken_part : (xs : List ℤ) (k n : ℕ) → Ascends xs → IsUnbroken xs (take n (drop k xs))
unbroken_part xs k n up a b c at_a at_c low high has =
    take_has n (drop k xs) b c (Ascends-drop k xs up) at_c high (drop_has k xs a b up (has_take n (drop k xs) a at_a) low has)

declared_held : (listed : List ℤ) (bits : List ℕ) (room : ℕ) (shape : Shape) (e : Ends) → IsShape listed room shape → IsHeld listed bits shape e → (a : ℤ) → Has (values_held listed bits shape e) a → Has (variable_held listed shape).declared a
declared_held listed bits room (Stretch lo hi) e is held a has =
    let b = (Has-stretch e.lo e.hi a held.ends.ordered).0 has in
    (Has-stretch lo hi a is.ordered).1 (omega (arith, ints, b.0, held.within.0), omega (arith, ints, b.1, held.within.1))
declared_held listed bits room (Listed from to) e is held a has =
    has_drop (e.place - from) (slice_range listed from to) a (has_take e.size (drop (e.place - from) (slice_range listed from to)) a (subst (λ xs. Has xs a) (sym (part_within listed from to e held.within.0 held.within.1)) has))
declared_held listed bits room (Bits lo hi at) e is held a has =
    let m = is_marked bits lo at e a held.ends.ordered has in
    (Has-stretch lo hi a is.0.ordered).1 (omega (arith, ints, m.low, held.within.0), omega (arith, ints, m.high, held.within.1))

unbroken_held : (listed : List ℤ) (bits : List ℕ) (room : ℕ) (shape : Shape) (e : Ends) → IsShape listed room shape → IsHeld listed bits shape e → IsTrue (variable_held listed shape).bounded → IsUnbroken (variable_held listed shape).declared (values_held listed bits shape e)
unbroken_held listed bits room (Stretch lo hi) e is held t = λ a b c at_a at_c low high has.
    (let left = (Has-stretch e.lo e.hi a held.ends.ordered).0 at_a in
    let right = (Has-stretch e.lo e.hi c held.ends.ordered).0 at_c in
    (Has-stretch e.lo e.hi b held.ends.ordered).1 (omega (arith, ints, left.0, low), omega (arith, ints, right.1, high)))
unbroken_held listed bits room (Listed from to) e is held t =
    subst (IsUnbroken (slice_range listed from to)) (part_within listed from to e held.within.0 held.within.1) (unbroken_part (slice_range listed from to) (e.place - from) e.size is.ascends)
unbroken_held listed bits room (Bits lo hi at) e is held t = cc

pub set_held : (listed : List ℤ) (bits : List ℕ) (room : ℕ) (shape : Shape) (e : Ends) → IsShape listed room shape → IsHeld listed bits shape e → IsSetOf (variable_held listed shape) (values_held listed bits shape e)
set_held listed bits room shape e is held = record {
  filled = λ none. (let first = held.ends.first in let f = stands_first (values_held listed bits shape e) e.lo (Ascends-held listed bits room shape e is held.within) first in subst (λ xs. Has xs e.lo) none f.has);
  ascends = Ascends-held listed bits room shape e is held.within;
  declared = declared_held listed bits room shape e is held;
  stretch = unbroken_held listed bits room shape e is held;
}

pub box_held : (listed : List ℤ) (bits : List ℕ) (room : ℕ) (shapes : List Shape) (ends : List Ends) → AllByRecursion (IsShape listed room) shapes → AllZip (IsHeld listed bits) shapes ends
    → IsBox (map (variable_held listed) shapes) (sets_held listed bits shapes ends)
box_held listed bits room [] [] is held = tt
box_held listed bits room [] (e ∷ ends) is held = absurd held
box_held listed bits room (shape ∷ shapes) [] is held = absurd held
box_held listed bits room (shape ∷ shapes) (e ∷ ends) is held = (set_held listed bits room shape e is.0 held.0, box_held listed bits room shapes ends is.1 held.1)

boxes_before : (listed : List ℤ) (shapes : List Shape) (room length_now : ℕ) (saved : List State) → AllByRecursion (IsShape listed room) shapes
    → AllByRecursion (λ s. IsState listed shapes s.ends.items s.bits.items s.left × (length s.bits.items ≡ length_now)) saved → AllByRecursion (λ st. IsBox (map (variable_held listed) shapes) st.sets) (map (state_held listed shapes) saved)
boxes_before listed shapes room n [] is all = tt
boxes_before listed shapes room n (s ∷ saved) is all = (box_held listed s.bits.items room shapes s.ends.items is all.0.0.held, boxes_before listed shapes room n saved is all.1)

pub are_boxes : (listed : List ℤ) (shapes : List Shape) (now : State) (saved : List State) (s : Sets) → seen listed shapes now saved ≡ s → IsKept listed shapes now saved → AreBoxes s
are_boxes listed shapes now saved s is kept =
    let both : AreBoxes (seen listed shapes now saved) = record {
      now = box_held listed now.bits.items (64 * length now.bits.items) shapes now.ends.items kept.shaped kept.current.held;
      before = boxes_before listed shapes (64 * length now.bits.items) (length now.bits.items) saved kept.shaped kept.before;
    } in
    subst AreBoxes is both

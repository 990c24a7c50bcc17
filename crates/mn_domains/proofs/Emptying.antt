-- Changes that would leave nothing, and what stays of a size.
use Rattle.std.proofs.Common.{◌≡◌, ℕ, ◌<◌, ◌≤◌, ℤ, ◌<ℤ◌, Bool, true, false, int_le, List, [], ◌∷◌, length, filter, get_or, slice_get, Some, refl, subst, ap, ◌∙◌, arith}
use Rattle.std.proofs.lemmas.Int.{ints}
use Rattle.std.specs.Ordering.{int_eq}
use Rattle.mn_model.specs.Domain.{Ascends, Has}
use Rattle.mn_model.proofs.Filtered.{filter_ascends, has_filter}
use Rattle.mn_model.proofs.Ordered.{le_false}
use Rattle.mn_boxes.specs.Boxes.{set_of}
use Rattle.mn_boxes.proofs.Members.{parted, stands_first, stands_last}
use Rattle.mn_boxes.proofs.Quiet.{ascends_at}
use Rattle.mn_domains.specs.Changes.{is_not}
use Rattle.mn_domains.specs.Held.{AreEndsOf, IsHeld, IsKept, IsShape, values_held}
use Rattle.mn_domains.specs.Sets.{Sets}
use Rattle.mn_domains.specs.declared.shape.Ends.{Ends}
use Rattle.mn_domains.specs.declared.shape.Shape.{Shape}
use Rattle.mn_domains.specs.declared.state.State.{State}
use Rattle.mn_domains.proofs.BoxLemmas.{are_boxes}
use Rattle.mn_domains.proofs.Filtered.{eq_so, filter_none, is_not_false}
use Rattle.mn_domains.proofs.ShapeLemmas.{Ascends-held}
use Rattle.mn_domains.proofs.Standing.{ends_at, seen}

pub set_ascends : (listed : List ℤ) (shapes : List Shape) (now : State) (saved : List State) (s : Sets) (v : ℕ) → seen listed shapes now saved ≡ s → IsKept listed shapes now saved → Ascends (set_of s.now.sets v)
set_ascends listed shapes now saved s v is kept = ascends_at s.vars s.now.sets v (are_boxes listed shapes now saved s is kept).now

-- nothing is at least what is greater than the greatest value
pub emptied_from : (listed : List ℤ) (shapes : List Shape) (now : State) (saved : List State) (s : Sets) (v : ℕ) (e : Ends) (a : ℤ) → seen listed shapes now saved ≡ s → IsKept listed shapes now saved → v < length s.vars → e ≡ get_or now.ends.items v e
    → e.hi <ℤ a → filter (λ x. int_le a x) (set_of s.now.sets v) ≡ []
emptied_from listed shapes now saved s v e a is kept within at above =
    let l = stands_last (set_of s.now.sets v) e.hi (set_ascends listed shapes now saved s v is kept) (ends_at listed shapes now saved s v e is kept within at).last in
    filter_none (λ x. int_le a x) (set_of s.now.sets v) (λ b has. let le = l.others b has in le_false a b (omega (arith, ints, le, above)))

-- nothing is at most what is less than the least value
pub emptied_to : (listed : List ℤ) (shapes : List Shape) (now : State) (saved : List State) (s : Sets) (v : ℕ) (e : Ends) (a : ℤ) → seen listed shapes now saved ≡ s → IsKept listed shapes now saved → v < length s.vars → e ≡ get_or now.ends.items v e
    → a <ℤ e.lo → filter (λ x. int_le x a) (set_of s.now.sets v) ≡ []
emptied_to listed shapes now saved s v e a is kept within at below =
    let f = stands_first (set_of s.now.sets v) e.lo (set_ascends listed shapes now saved s v is kept) (ends_at listed shapes now saved s v e is kept within at).first in
    filter_none (λ x. int_le x a) (set_of s.now.sets v) (λ b has. let le = f.others b has in le_false b a (omega (arith, ints, le, below)))

-- nothing but the only value is there
pub emptied_only : (listed : List ℤ) (shapes : List Shape) (now : State) (saved : List State) (s : Sets) (v : ℕ) (e : Ends) (a : ℤ) → seen listed shapes now saved ≡ s → IsKept listed shapes now saved → v < length s.vars → e ≡ get_or now.ends.items v e
    → e.lo ≡ a → e.hi ≡ a → filter (is_not a) (set_of s.now.sets v) ≡ []
emptied_only listed shapes now saved s v e a is kept within at low high =
    let up = set_ascends listed shapes now saved s v is kept in
    let ends = ends_at listed shapes now saved s v e is kept within at in
    let f = stands_first (set_of s.now.sets v) e.lo up ends.first in
    let l = stands_last (set_of s.now.sets v) e.hi up ends.last in
    filter_none (is_not a) (set_of s.now.sets v) (λ b has. let from = f.others b has in let to = l.others b has in is_not_false a b (omega (arith, ints, from, to, low, high)))

-- nothing is what isn't there
pub none_equal : (xs : List ℤ) (a : ℤ) → (Has xs a → ⊥) → filter (λ x. int_eq x a) xs ≡ []
none_equal xs a none = filter_none (λ x. int_eq x a) xs (λ b has. by b has (int_eq b a) refl)
  where
    by : (b : ℤ) → Has xs b → (t : Bool) → int_eq b a ≡ t → t ≡ false
    by b has true e = absurd (none (subst (Has xs) (eq_so b a e) has))
    by b has false e = refl

-- a test leaves no more values
pub size_less : (listed : List ℤ) (bits : List ℕ) (room : ℕ) (shape : Shape) (before after : Ends) (p : ℤ → Bool) → IsShape listed room shape → IsHeld listed bits shape before → IsHeld listed bits shape after
    → values_held listed bits shape after ≡ filter p (values_held listed bits shape before) → after.size ≤ before.size
size_less listed bits room shape before after p is held new values =
    let xs = values_held listed bits shape before in
    let up : Ascends xs = Ascends-held listed bits room shape before is held.within in
    let few = (parted (filter p xs) xs (filter_ascends p xs up) up (λ a has. (has_filter p xs a has).has)).no_more in
    let old = held.ends.size in
    let size : after.size ≡ length (filter p xs) = new.ends.size ∙ ap length values in
    omega arith

-- a set that is held has a value
pub held_some : (listed : List ℤ) (bits : List ℕ) (shape : Shape) (e : Ends) → IsHeld listed bits shape e → 1 ≤ e.size
held_some listed bits shape e held = by (values_held listed bits shape e) held.ends
  where
    by : (xs : List ℤ) → AreEndsOf xs e → 1 ≤ e.size
    by [] ends = let first : slice_get [] 0 ≡ Some e.lo = ends.first in cc
    by (x ∷ xs) ends = let size = ends.size in omega arith

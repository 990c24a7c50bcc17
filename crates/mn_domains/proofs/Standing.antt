-- What stands of one variable in the state of all.
use Rattle.std.proofs.Common.{◌≡◌, ℕ, zero, suc, ◌*◌, ◌<◌, ◌≤◌, ℤ, List, [], ◌∷◌, length, map, get_or, refl, sym, subst, ap, ◌∙◌, arith}
use Rattle.std.proofs.lemmas.List.{length-map}
use Rattle.std.specs.List.{AllByRecursion, AllZip}
use Rattle.mn_model.specs.Domain.{IsFirst, IsLast}
use Rattle.mn_boxes.specs.Boxes.{count_of, set_of, variable_at}
use Rattle.mn_domains.specs.Held.{AreEndsOf, IsHeld, IsKept, IsShape, sets_held, state_held, values_held, variable_held}
use Rattle.mn_domains.specs.Sets.{Sets}
use Rattle.mn_domains.specs.declared.shape.Ends.{Ends}
use Rattle.mn_domains.specs.declared.shape.Shape.{Shape}
use Rattle.mn_domains.specs.declared.state.State.{State}

-- what contracts see of what is held
abbrev pub seen : List ℤ → List Shape → State → List State → Sets
seen listed shapes now saved = record { vars = map (variable_held listed) shapes; now = state_held listed shapes now; saved = map (state_held listed shapes) saved; owners = [] }

pub length-sets_held : (listed : List ℤ) (bits : List ℕ) (shapes : List Shape) (ends : List Ends) → AllZip (IsHeld listed bits) shapes ends → length (sets_held listed bits shapes ends) ≡ length shapes
length-sets_held listed bits [] [] held = refl
length-sets_held listed bits [] (e ∷ ends) held = absurd held
length-sets_held listed bits (shape ∷ shapes) [] held = absurd held
length-sets_held listed bits (shape ∷ shapes) (e ∷ ends) held = ap suc (length-sets_held listed bits shapes ends held.1)

pub length-ends : (listed : List ℤ) (bits : List ℕ) (shapes : List Shape) (ends : List Ends) → AllZip (IsHeld listed bits) shapes ends → length ends ≡ length shapes
length-ends listed bits [] [] held = refl
length-ends listed bits [] (e ∷ ends) held = absurd held
length-ends listed bits (shape ∷ shapes) [] held = absurd held
length-ends listed bits (shape ∷ shapes) (e ∷ ends) held = ap suc (length-ends listed bits shapes ends held.1)

-- one variable's shape and ends
pub record HeldAt (listed : List ℤ) (bits : List ℕ) (shapes : List Shape) (ends : List Ends) (v : ℕ) (shape : Shape) (e : Ends) : Type 0 where
  pub shaped : IsShape listed (64 * length bits) shape
  pub held : IsHeld listed bits shape e
  pub set : set_of (sets_held listed bits shapes ends) v ≡ values_held listed bits shape e
  pub var : variable_at (map (variable_held listed) shapes) v ≡ variable_held listed shape
  pub counted : e.size ≤ count_of (sets_held listed bits shapes ends)

pub held_at : (listed : List ℤ) (bits : List ℕ) (shapes : List Shape) (ends : List Ends) (v : ℕ) (shape : Shape) (e : Ends) → AllByRecursion (IsShape listed (64 * length bits)) shapes → AllZip (IsHeld listed bits) shapes ends
    → v < length shapes → shape ≡ get_or shapes v shape → e ≡ get_or ends v e → HeldAt listed bits shapes ends v shape e
held_at listed bits [] ends v shape e shaped held within at_shape at_ends = absurd (omega arith)
held_at listed bits (s ∷ shapes) [] v shape e shaped held within at_shape at_ends = absurd held
held_at listed bits (s ∷ shapes) (f ∷ ends) zero shape e shaped held within at_shape at_ends =
    let size : f.size ≡ length (values_held listed bits s f) = held.0.ends.size in
    let here : HeldAt listed bits (s ∷ shapes) (f ∷ ends) 0 s f = record { shaped = shaped.0; held = held.0; set = refl; var = refl; counted = omega arith } in
    subst (λ (t : Shape). HeldAt listed bits (s ∷ shapes) (f ∷ ends) 0 t e) (sym at_shape) (subst (λ (g : Ends). HeldAt listed bits (s ∷ shapes) (f ∷ ends) 0 s g) (sym at_ends) here)
held_at listed bits (s ∷ shapes) (f ∷ ends) (suc v) shape e shaped held within at_shape at_ends =
    let rest = held_at listed bits shapes ends v shape e shaped.1 held.1 (omega arith) at_shape at_ends in
    record { shaped = rest.shaped; held = rest.held; set = rest.set; var = rest.var; counted = let c = rest.counted in omega arith }

-- the same in what is kept
pub record StandsAt (listed : List ℤ) (shapes : List Shape) (now : State) (s : Sets) (v : ℕ) : Type 0 where
  pub in_shapes : v < length shapes
  pub in_ends : v < length now.ends.items

pub stands_at : (listed : List ℤ) (shapes : List Shape) (now : State) (saved : List State) (s : Sets) (v : ℕ) → seen listed shapes now saved ≡ s → IsKept listed shapes now saved → v < length s.vars → StandsAt listed shapes now s v
stands_at listed shapes now saved s v is kept within =
    let held = kept.current.held in
    let count : length s.vars ≡ length shapes = ap (λ t. length t.vars) (sym is) ∙ length-map shapes (variable_held listed) in
    let ends = length-ends listed now.bits.items shapes now.ends.items held in
    record { in_shapes = omega arith; in_ends = omega arith }

pub record Known (listed : List ℤ) (now : State) (s : Sets) (v : ℕ) (shape : Shape) (e : Ends) : Type 0 where
  pub shaped : IsShape listed (64 * length now.bits.items) shape
  pub held : IsHeld listed now.bits.items shape e
  pub set : set_of s.now.sets v ≡ values_held listed now.bits.items shape e
  pub var : variable_at s.vars v ≡ variable_held listed shape
  pub counted : e.size ≤ now.left

pub known : (listed : List ℤ) (shapes : List Shape) (now : State) (saved : List State) (s : Sets) (v : ℕ) (shape : Shape) (e : Ends) → seen listed shapes now saved ≡ s → IsKept listed shapes now saved → v < length s.vars
    → shape ≡ get_or shapes v shape → e ≡ get_or now.ends.items v e → Known listed now s v shape e
known listed shapes now saved s v shape e is kept within at_shape at_ends =
    let at = held_at listed now.bits.items shapes now.ends.items v shape e kept.shaped kept.current.held (stands_at listed shapes now saved s v is kept within).in_shapes at_shape at_ends in
    let count = kept.current.counted in
    let few = at.counted in
    record {
      shaped = at.shaped;
      held = at.held;
      set = ap (λ t. set_of t.now.sets v) (sym is) ∙ at.set;
      var = ap (λ t. variable_at t.vars v) (sym is) ∙ at.var;
      counted = omega arith;
    }

-- the ends alone, without the shape
pub record EndsAt (s : Sets) (v : ℕ) (e : Ends) : Type 0 where
  pub first : IsFirst e.lo (set_of s.now.sets v)
  pub last : IsLast e.hi (set_of s.now.sets v)
  pub size : e.size ≡ length (set_of s.now.sets v)

ends_in : (listed : List ℤ) (bits : List ℕ) (shapes : List Shape) (ends : List Ends) (v : ℕ) (e : Ends) → AllZip (IsHeld listed bits) shapes ends → v < length shapes → e ≡ get_or ends v e
    → AreEndsOf (set_of (sets_held listed bits shapes ends) v) e
ends_in listed bits [] ends v e held within at = absurd (omega arith)
ends_in listed bits (s ∷ shapes) [] v e held within at = absurd held
ends_in listed bits (s ∷ shapes) (f ∷ ends) zero e held within at = subst (λ (g : Ends). AreEndsOf (values_held listed bits s f) g) (sym at) held.0.ends
ends_in listed bits (s ∷ shapes) (f ∷ ends) (suc v) e held within at = ends_in listed bits shapes ends v e held.1 (omega arith) at

pub ends_at : (listed : List ℤ) (shapes : List Shape) (now : State) (saved : List State) (s : Sets) (v : ℕ) (e : Ends) → seen listed shapes now saved ≡ s → IsKept listed shapes now saved → v < length s.vars → e ≡ get_or now.ends.items v e → EndsAt s v e
ends_at listed shapes now saved s v e is kept within at =
    let ends = ends_in listed now.bits.items shapes now.ends.items v e kept.current.held (stands_at listed shapes now saved s v is kept within).in_shapes at in
    let there = subst (λ (t : Sets). AreEndsOf (set_of t.now.sets v) e) is ends in
    record { first = there.first; last = there.last; size = there.size }

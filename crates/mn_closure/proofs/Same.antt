-- What is so of a box is so of every other one with the same sets at the places.
use Rattle.std.proofs.Common.{◌≡◌, ℕ, suc, ℤ, pos, ◌-ℤ◌, ◌⊎◌, inl, inr, ◌↔◌, Bool, true, false, not, List, [], ◌∷◌, slice_get, Some, refl, sym, subst}
use Rattle.std.specs.List.{AllByRecursion}
use Rattle.mn_model.specs.Decided.{Decided}
use Rattle.mn_model.specs.Domain.{Has}
use Rattle.mn_model.specs.Negation.{other}
use Rattle.mn_model.specs.Parts.{places, places_of}
use Rattle.mn_model.specs.Variable.{number_of}
use Rattle.mn_model.specs.declared.constraint.Con.{Con}
use Rattle.mn_model.specs.declared.constraint.Cons.{Cons}
use Rattle.mn_model.specs.declared.constraint.Con.TheVariants as con
use Rattle.mn_model.specs.declared.constraint.Con.TheBlock.{more_of-Con, more_of-Cons}
use Rattle.mn_model.specs.declared.constraint.Term.{Term}
use Rattle.mn_model.specs.declared.constraint.Term.TheVariants.{Var, Const, Not}
use Rattle.mn_model.specs.declared.declaration.Tuples.{Tuples}
use Rattle.mn_model.proofs.Lists.{all_at, all_back, all_front, all_so}
use Rattle.mn_boxes.specs.Boxes.{set_of}
use Rattle.mn_boxes.specs.Places.{PlaceHas, IsPlaceEnd}
use Rattle.mn_boxes.specs.Sets.{IsEnd, Variable}
use Rattle.mn_boxes.proofs.Members.{decide_list, so}
use Rattle.mn_closure.specs.Closed.{Asked, LeafClosed, signed, bit, IsAlone, OneClosed, EachClosed, PartsPossible, PartsClosed, Possible, Closed, is_taken_apart}
use Rattle.mn_closure.specs.Levels.{Level, level}
use Rattle.mn_closure.specs.Seen.{IsQuietAt, IsSameAt, SamePlaces, SomeChanged}
use Rattle.mn_closure.proofs.Turned.{Turns, all_signed}
use Rattle.mn_closure.proofs.Wider.{GrowsAt, Grows, apart_either, grown_parts, grown_possible, grown_supported, grown_two, says_either}

-- the same values are there, and the same ends
same_grows : (one another : List (List ℤ)) (t : Term) → IsSameAt one another t → GrowsAt one another t
same_grows one another (Var v) same a has = subst (λ xs. Has xs a) same has
same_grows one another (Const k) same a has = has
same_grows one another (Not v) same a has = subst (λ xs. Has xs (pos 1 -ℤ a)) same has

same_back : (one another : List (List ℤ)) (t : Term) → IsSameAt one another t → IsSameAt another one t
same_back one another (Var v) same = sym same
same_back one another (Const k) same = tt
same_back one another (Not v) same = sym same

same_end : (one another : List (List ℤ)) (t : Term) → IsSameAt one another t → (a : ℤ) → IsPlaceEnd one t a → IsPlaceEnd another t a
same_end one another (Var v) same a end = subst (IsEnd a) same end
same_end one another (Const k) same a end = end
same_end one another (Not v) same a end = subst (IsEnd (pos 1 -ℤ a)) same end

same_turns : (one another : List (List ℤ)) → Turns (IsSameAt one another) (λ t. Unit {0})
same_turns one another = record { one = tt; less = tt; turned = turned }
  where
    turned : (r : Term) → Unit {0} → IsSameAt one another r → IsSameAt one another (other r)
    turned (Var v) bit same = same
    turned (Const k) bit same = tt
    turned (Not v) bit same = same

pub all_grow : (one another : List (List ℤ)) (ts : List Term) → AllByRecursion (IsSameAt one another) ts → Grows one another ts
all_grow one another ts same = all_so (IsSameAt one another) (GrowsAt one another) (same_grows one another) ts same

pub same_places_back : (one another : List (List ℤ)) (ts : List Term) → AllByRecursion (IsSameAt one another) ts → AllByRecursion (IsSameAt another one) ts
same_places_back one another ts same = all_so (IsSameAt one another) (IsSameAt another one) (same_back one another) ts same

pub same_signed : (one another : List (List ℤ)) (says : Bool) (c : Con) → SamePlaces one another c → SamePlaces one another (signed says c)
same_signed one another says c same = all_signed (IsSameAt one another) (same_turns one another) says c same

-- ---- a leaf

same_asked : (l : Level) (vars : List Variable) (one another : List (List ℤ)) (t : Term) (a : ℤ) → IsSameAt one another t → Asked l vars one t a → Asked l vars another t a
same_asked l vars one another t a same asked = record { there = same_grows one another t same a asked.there; ends = λ alone. same_end one another t same a (asked.ends alone) }

pub same_leaf : (vars : List Variable) (lists : List Tuples) (c : Con) (one another : List (List ℤ)) → SamePlaces one another c → LeafClosed vars lists c one → LeafClosed vars lists c another
same_leaf vars lists c one another same closed = record {
  bare = closed.bare;
  supported = λ i t a stands asked.
      grown_supported (level c) lists c i a one another (all_grow one another (places c) same)
      (closed.supported i t a stands (same_asked (level c) vars another one t a (same_back one another t (all_at (IsSameAt one another) (places c) i t same stands)) asked));
}

same_signed_leaf : (vars : List Variable) (lists : List Tuples) (c : Con) (says : Bool) (one another : List (List ℤ)) → SamePlaces one another c → LeafClosed vars lists (signed says c) one → LeafClosed vars lists (signed says c) another
same_signed_leaf vars lists c says one another same closed = same_leaf vars lists (signed says c) one another (same_signed one another says c same) closed

-- ---- constraints by their parts

-- a part that has to be possible where a value of r is there, and under which the box has to be closed where it is alone
same_possible : (lists : List Tuples) (c : Con) (says : Bool) (r : Term) (a : ℤ) (one another : List (List ℤ)) → SamePlaces one another c → IsSameAt one another r
    → (PlaceHas one r a → PartsPossible lists c says one) → PlaceHas another r a → PartsPossible lists c says another
same_possible lists c says r a one another same at_r h has = grown_parts lists c says one another (all_grow one another (places c) same) (h (same_grows another one r (same_back one another r at_r) a has))

alone_back : (one another : List (List ℤ)) (r : Term) (a : ℤ) → IsSameAt one another r → IsAlone another r a → IsAlone one r a
alone_back one another r a same alone = λ b has. alone b (same_grows one another r same b has)

either_so : {P Q R S : Type 0} → (P → R) → (Q → S) → P ⊎ Q → R ⊎ S
either_so f g (inl p) = inl (f p)
either_so f g (inr q) = inr (g q)

mutual
  same_parts : (vars : List Variable) (lists : List Tuples) (c : Con) (says : Bool) (one another : List (List ℤ)) → SamePlaces one another c → PartsClosed vars lists c says one → PartsClosed vars lists c says another
  same_parts vars lists (con.WatchedOr cs) says one another same closed = says_either says
      (either_so (grown_two lists cs true one another (all_grow one another (places_of cs) same)) (same_one vars lists cs true one another same)) (same_each vars lists cs false one another same) closed
  same_parts vars lists (con.WatchedAnd cs) says one another same closed = says_either says
      (same_each vars lists cs true one another same) (either_so (grown_two lists cs false one another (all_grow one another (places_of cs) same)) (same_one vars lists cs false one another same)) closed
  same_parts vars lists (con.Reify' p (more_of-Con c none) r) says one another same closed =
      let inner = all_front (IsSameAt one another) (places c) (r ∷ []) same in
      let at_r = (all_back (IsSameAt one another) (places c) (r ∷ []) same).0 in (
        same_possible lists c true r (bit says) one another inner at_r closed.0,
        same_possible lists c false r (bit (not says)) one another inner at_r closed.1,
        (λ alone. same_parts vars lists c true one another inner (closed.2 (alone_back one another r (bit says) at_r alone))),
        (λ alone. same_parts vars lists c false one another inner (closed.3 (alone_back one another r (bit (not says)) at_r alone))),
      )
  same_parts vars lists (con.Reifyimply' p (more_of-Con c none) r) says one another same closed =
      let inner = all_front (IsSameAt one another) (places c) (r ∷ []) same in
      let at_r = (all_back (IsSameAt one another) (places c) (r ∷ []) same).0 in
      says_either says
      (λ both. (same_possible lists c true r (pos 1) one another inner at_r both.0, λ alone. same_parts vars lists c true one another inner (both.1 (alone_back one another r (pos 1) at_r alone))))
      (λ both. (same_leaf vars lists (con.WLiteral r (pos 1)) one another (at_r, tt) both.0, same_parts vars lists c false one another inner both.1))
      closed
  same_parts vars lists c says one another same closed = same_signed_leaf vars lists c says one another same closed

  same_one : (vars : List Variable) (lists : List Tuples) (cs : Cons) (says : Bool) (one another : List (List ℤ)) → AllByRecursion (IsSameAt one another) (places_of cs) → OneClosed vars lists cs says one → OneClosed vars lists cs says another
  same_one vars lists con.End says one another same closed = closed
  same_one vars lists (con.More' p (more_of-Con c none) q (more_of-Cons cs nothing)) says one another same (inl both) =
      let first = all_front (IsSameAt one another) (places c) (places_of cs) same in
      inl (grown_parts lists c says one another (all_grow one another (places c) first) both.0, same_parts vars lists c says one another first both.1)
  same_one vars lists (con.More' p (more_of-Con c none) q (more_of-Cons cs nothing)) says one another same (inr later) =
      inr (same_one vars lists cs says one another (all_back (IsSameAt one another) (places c) (places_of cs) same) later)

  same_each : (vars : List Variable) (lists : List Tuples) (cs : Cons) (says : Bool) (one another : List (List ℤ)) → AllByRecursion (IsSameAt one another) (places_of cs) → EachClosed vars lists cs says one → EachClosed vars lists cs says another
  same_each vars lists con.End says one another same closed = tt
  same_each vars lists (con.More' p (more_of-Con c none) q (more_of-Cons cs nothing)) says one another same closed = (
    same_parts vars lists c says one another (all_front (IsSameAt one another) (places c) (places_of cs) same) closed.0,
    same_each vars lists cs says one another (all_back (IsSameAt one another) (places c) (places_of cs) same) closed.1,
  )

same_closed : (vars : List Variable) (lists : List Tuples) (c : Con) (says : Bool) (one another : List (List ℤ)) → SamePlaces one another c → Closed vars lists c says one → Closed vars lists c says another
same_closed vars lists c says one another same closed = apart_either is_taken_apart (same_parts vars lists c says one another same) (same_signed_leaf vars lists c says one another same) closed

pub closed_by_places : (vars : List Variable) (lists : List Tuples) (c : Con) (says : Bool) (one another : List (List ℤ)) → SamePlaces one another c → Closed vars lists c says one ↔ Closed vars lists c says another
closed_by_places vars lists c says one another same = (same_closed vars lists c says one another same, same_closed vars lists c says another one (same_places_back one another (places c) same))

pub possible_by_places : (lists : List Tuples) (c : Con) (says : Bool) (one another : List (List ℤ)) → SamePlaces one another c → Possible lists c says one ↔ Possible lists c says another
possible_by_places lists c says one another same = (
  grown_possible lists c says one another (all_grow one another (places c) same),
  grown_possible lists c says another one (all_grow another one (places c) (same_places_back one another (places c) same)),
)

-- ---- the sets at the places are all as they were, or one isn't

decide_same : (one another : List (List ℤ)) (t : Term) → Decided (IsSameAt one another t)
decide_same one another (Var v) = decide_list (set_of one (number_of v)) (set_of another (number_of v))
decide_same one another (Const k) = inl tt
decide_same one another (Not v) = decide_list (set_of one (number_of v)) (set_of another (number_of v))

-- a set that is the same fires no change, and one that fires none is the same
quiet : {P : Type 0} → Decided P → P ↔ ((Unit {0} × (P → ⊥)) → ⊥)
quiet decided = (λ p fires. fires.1 p, λ none. so decided (λ never. none (tt, never)))

quiet_at : (vars : List Variable) (one another : List (List ℤ)) (t : Term) → IsSameAt one another t ↔ IsQuietAt vars one another t
quiet_at vars one another (Var v) = quiet (decide_list (set_of one (number_of v)) (set_of another (number_of v)))
quiet_at vars one another (Const k) = (λ same. same, λ still. still)
quiet_at vars one another (Not v) = quiet (decide_list (set_of one (number_of v)) (set_of another (number_of v)))

pub same_quiet : (vars : List Variable) (c : Con) (one another : List (List ℤ)) → SamePlaces one another c ↔ AllByRecursion (IsQuietAt vars one another) (places c)
same_quiet vars c one another = (
  all_so (IsSameAt one another) (IsQuietAt vars one another) (λ t. (quiet_at vars one another t).0) (places c),
  all_so (IsQuietAt vars one another) (IsSameAt one another) (λ t. (quiet_at vars one another t).1) (places c),
)

-- the first place whose set isn't
record Changes (one another : List (List ℤ)) (ts : List Term) : Type 0 where
  place : ℕ
  term : Term
  stands : slice_get ts place ≡ Some term
  changed : IsSameAt one another term → ⊥

same_or_changed : (one another : List (List ℤ)) (ts : List Term) → AllByRecursion (IsSameAt one another) ts ⊎ Changes one another ts
same_or_changed one another [] = inl tt
same_or_changed one another (t ∷ ts) = by (decide_same one another t) (same_or_changed one another ts)
  where
    by : Decided (IsSameAt one another t) → AllByRecursion (IsSameAt one another) ts ⊎ Changes one another ts → AllByRecursion (IsSameAt one another) (t ∷ ts) ⊎ Changes one another (t ∷ ts)
    by (inl here) (inl rest) = inl (here, rest)
    by (inl here) (inr later) = inr (record { place = suc later.place; term = later.term; stands = later.stands; changed = later.changed })
    by (inr differs) rest = inr (record { place = 0; term = t; stands = refl; changed = differs })

pub places_same_or_changed : (c : Con) (one another : List (List ℤ)) → SamePlaces one another c ⊎ SomeChanged c one another
places_same_or_changed c one another = either_so (λ same. same) (λ later. record { place = later.place; term = later.term; stands = later.stands; changed = later.changed }) (same_or_changed one another (places c))

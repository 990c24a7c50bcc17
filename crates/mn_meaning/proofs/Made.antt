-- Constraints around others, and what they pass on to their parts.
use Rattle.std.proofs.Common.{◌≡◌, ◌↔◌, ◌+◌, ◌≤◌, ℕ, ℤ, pos, List, [], ◌∷◌, ◌++◌, ◌⊎◌, inl, inr, ⊎_elim, length, sym, subst, ◌∙◌}
use Rattle.std.specs.List.{AllByRecursion}
use Rattle.mn_model.specs.Lawful.{HasNearConstants, HaveNearConstants, IsNearTerm}
use Rattle.mn_model.specs.Negation.{reified}
use Rattle.mn_model.specs.Parts.{places, places_of, vectors, vectors_of}
use Rattle.mn_model.specs.declared.constraint.Con.{Con}
use Rattle.mn_model.specs.declared.constraint.Cons.{Cons}
use Rattle.mn_model.specs.declared.constraint.Con.TheBlock.{more_of-Con, end_of-Con, more_of-Cons, end_of-Cons}
use Rattle.mn_model.specs.declared.constraint.Con.TheVariants as made
use Rattle.mn_model.specs.declared.constraint.Term.{Term}
use Rattle.mn_model.specs.declared.declaration.Tuples.{Tuples}
use Rattle.mn_model.specs.declared.limits.TheConstants.{PLACES}
use Rattle.mn_meaning.specs.Meaning.{EachHolds, EachMeets, HoldsOver, Meets, SomeHolds, SomeMeet, value_of}
use Rattle.mn_model.proofs.Children.{implied, made_implied, made_more, made_negated, made_reified}
use Rattle.mn_model.proofs.Children as children
use Rattle.mn_model.proofs.Lists.{all_back, all_front}
use Rattle.mn_meaning.proofs.Fronts.{with_behind, with_rest}

-- its vectors are short
abbrev pub AreShort : List (List Term) → Type 0
AreShort vs = AllByRecursion (λ v. length v ≤ PLACES + 1) vs

-- near constants and short vectors, of the part of a constraint
module _ (con got c : Con) (r : Term) (part : got ≡ c) where
  pub near_reified : con ≡ made.Reify c r → HasNearConstants con → HasNearConstants got
  near_reified is near = let whole = subst HasNearConstants (is ∙ made_reified c r) near in
      subst HasNearConstants (sym part) (record { places = all_front IsNearTerm (places c) (r ∷ []) whole.places; constants = whole.constants })

  pub short_reified : con ≡ made.Reify c r → AreShort (vectors con) → AreShort (vectors got)
  short_reified is short = subst (λ (d : Con). AreShort (vectors d)) (sym part) (subst (λ (d : Con). AreShort (vectors d)) (is ∙ made_reified c r) short)

  pub near_implied : con ≡ made.Reifyimply c r → HasNearConstants con → HasNearConstants got
  near_implied is near = subst HasNearConstants (sym part) (children.near_implied con c r is near)

  pub short_implied : con ≡ made.Reifyimply c r → AreShort (vectors con) → AreShort (vectors got)
  short_implied is short = subst (λ (d : Con). AreShort (vectors d)) (sym part) (subst (λ (d : Con). AreShort (vectors d)) (is ∙ made_implied c r) short)

  pub near_negated : con ≡ made.Negated c → HasNearConstants con → HasNearConstants got
  near_negated is near = let whole = subst HasNearConstants (is ∙ made_negated c) near in
      subst HasNearConstants (sym part) (record { places = whole.places; constants = whole.constants })

  pub short_negated : con ≡ made.Negated c → AreShort (vectors con) → AreShort (vectors got)
  short_negated is short = subst (λ (d : Con). AreShort (vectors d)) (sym part) (subst (λ (d : Con). AreShort (vectors d)) (is ∙ made_negated c) short)

-- of the first of several constraints, and of the others
module _ (rest : Cons) (first : Con) (others : Cons) (is : rest ≡ made.More first others) (near : HaveNearConstants rest) where
  pub near_first : (got : Con) → got ≡ first → HasNearConstants got
  near_first got part = subst HasNearConstants (sym part) (children.near_first rest first others is near)

  pub near_others : (got : Cons) → got ≡ others → HaveNearConstants got
  near_others got part = subst HaveNearConstants (sym part) (children.near_others rest first others is near)

module _ (rest : Cons) (first : Con) (others : Cons) (is : rest ≡ made.More first others) (short : AreShort (vectors_of rest)) where
  all_short : AreShort (vectors first ++ vectors_of others)
  all_short = subst (λ (cs : Cons). AreShort (vectors_of cs)) (is ∙ made_more first others) short

  pub short_first : (got : Con) → got ≡ first → AreShort (vectors got)
  short_first got part = subst (λ (d : Con). AreShort (vectors d)) (sym part) (all_front (λ (v : List Term). length v ≤ PLACES + 1) (vectors first) (vectors_of others) all_short)

  pub short_others : (got : Cons) → got ≡ others → AreShort (vectors_of got)
  short_others got part = subst (λ (cs : Cons). AreShort (vectors_of cs)) (sym part) (all_back (λ (v : List Term). length v ≤ PLACES + 1) (vectors first) (vectors_of others) all_short)

-- the meaning of several, in terms of the first and the others
module _ (lists : List Tuples) (f : ℕ → ℤ) (rest : Cons) (first : Con) (others : Cons) (is : rest ≡ made.More first others) (got : Con) (part : got ≡ first) (left : Cons) (behind : left ≡ others) where
  pub some_more : (HoldsOver lists f got ⊎ SomeHolds lists f left) ↔ SomeHolds lists f rest
  some_more = subst (λ (cs : Cons). (HoldsOver lists f got ⊎ SomeHolds lists f left) ↔ SomeHolds lists f cs) (sym (is ∙ made_more first others))
      (with_rest (λ (a b : List ℤ). Meets lists first a ⊎ SomeMeet lists others b) f (places first) (places_of others)
      (subst (λ (d : Con). (HoldsOver lists f got ⊎ SomeHolds lists f left) ↔ (HoldsOver lists f d ⊎ SomeHolds lists f others)) part
      (subst (λ (cs : Cons). (HoldsOver lists f got ⊎ SomeHolds lists f left) ↔ (HoldsOver lists f got ⊎ SomeHolds lists f cs)) behind ((λ x. x), (λ x. x)))))

  pub each_more : (HoldsOver lists f got × EachHolds lists f left) ↔ EachHolds lists f rest
  each_more = subst (λ (cs : Cons). (HoldsOver lists f got × EachHolds lists f left) ↔ EachHolds lists f cs) (sym (is ∙ made_more first others))
      (with_rest (λ (a b : List ℤ). Meets lists first a × EachMeets lists others b) f (places first) (places_of others)
      (subst (λ (d : Con). (HoldsOver lists f got × EachHolds lists f left) ↔ (HoldsOver lists f d × EachHolds lists f others)) part
      (subst (λ (cs : Cons). (HoldsOver lists f got × EachHolds lists f left) ↔ (HoldsOver lists f got × EachHolds lists f cs)) behind ((λ x. x), (λ x. x)))))

  -- one that holds, and one that doesn't
  pub first_holds : {T : Type 0} → HoldsOver lists f got → SomeHolds lists f rest ↔ T → T
  first_holds holds so_far = so_far.0 (some_more.0 (inl holds))

  pub some_on : {T : Type 0} → (HoldsOver lists f got → ⊥) → SomeHolds lists f rest ↔ T → SomeHolds lists f left ↔ T
  some_on fails so_far = (λ have. so_far.0 (some_more.0 (inr have)), λ whole. ⊎_elim (λ holds. absurd (fails holds)) (λ have. have) (some_more.1 (so_far.1 whole)))

  pub first_fails : {T : Type 0} → (HoldsOver lists f got → ⊥) → EachHolds lists f rest ↔ T → T → ⊥
  first_fails fails so_far whole = fails (each_more.1 (so_far.1 whole)).0

  pub each_on : {T : Type 0} → HoldsOver lists f got → EachHolds lists f rest ↔ T → EachHolds lists f left ↔ T
  each_on holds so_far = (λ have. so_far.0 (each_more.0 (holds, have)), λ whole. (each_more.1 (so_far.1 whole)).1)

-- the meaning of what holds around another
pub reified_over : (lists : List Tuples) (f : ℕ → ℤ) (c got : Con) (r : Term) {T : Type 0} → got ≡ c → T ↔ ((value_of f r ≡ pos 1) ↔ HoldsOver lists f got) → T ↔ HoldsOver lists f (reified c r)
reified_over lists f c got r {T} part tells =
    with_behind (λ (values : List ℤ) (a : ℤ). (a ≡ pos 1) ↔ Meets lists c values) f (places c) r (subst (λ (d : Con). T ↔ ((value_of f r ≡ pos 1) ↔ HoldsOver lists f d)) part tells)

pub implied_over : (lists : List Tuples) (f : ℕ → ℤ) (c : Con) (r : Term) {T : Type 0} → T ↔ (value_of f r ≡ pos 1 → HoldsOver lists f c) → T ↔ HoldsOver lists f (implied c r)
implied_over lists f c r {T} tells = with_behind (λ (values : List ℤ) (a : ℤ). a ≡ pos 1 → Meets lists c values) f (places c) r tells

-- none is left
pub none_holds : (lists : List Tuples) (f : ℕ → ℤ) (cs : Cons) → ((c : Con) (others : Cons) → cs ≡ made.More c others → ⊥) → SomeHolds lists f cs → ⊥
none_holds lists f made.End none have = have
none_holds lists f (made.More' p (more_of-Con c end_of-Con) q (more_of-Cons cs end_of-Cons)) none have = absurd (none c cs (sym (made_more c cs)))

pub each_holds : (lists : List Tuples) (f : ℕ → ℤ) (cs : Cons) → ((c : Con) (others : Cons) → cs ≡ made.More c others → ⊥) → EachHolds lists f cs
each_holds lists f made.End none = tt
each_holds lists f (made.More' p (more_of-Con c end_of-Con) q (more_of-Cons cs end_of-Cons)) none = absurd (none c cs (sym (made_more c cs)))

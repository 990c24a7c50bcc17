-- A box is closed under a negation, and can meet it, exactly where the sign says so.
use Rattle.std.proofs.Common.{◌≡◌, ℤ, pos, ◌-ℤ◌, ◌⊎◌, inl, inr, ◌↔◌, Bool, true, false, List, [], ◌∷◌, refl, sym, subst, arith}
use Rattle.std.proofs.lemmas.Int.{ints}
use Rattle.mn_model.specs.Negation.{negation, negations, other}
use Rattle.mn_model.specs.declared.constraint.Con.{Con}
use Rattle.mn_model.specs.declared.constraint.Cons.{Cons}
use Rattle.mn_model.specs.declared.constraint.Con.TheVariants as con
use Rattle.mn_model.specs.declared.constraint.Con.TheBlock.{more_of-Con, more_of-Cons}
use Rattle.mn_model.specs.declared.constraint.Term.{Term}
use Rattle.mn_model.specs.declared.declaration.Tuples.{Tuples}
use Rattle.mn_boxes.specs.Places.{PlaceHas}
use Rattle.mn_boxes.specs.Sets.{Variable}
use Rattle.mn_meaning.specs.Meaning.{at}
use Rattle.mn_closure.specs.Closed.{LeafClosed, signed, IfApart, IsAlone, PartsPossible, OnePossible, EachPossible, TwoPossible, Possible, PartsClosed, OneClosed, EachClosed, Closed, is_taken_apart}
use Rattle.mn_closure.specs.Forms.{HasParts, IsLeaf, DeniesLeaves, DenyLeaves}
use Rattle.mn_closure.specs.Supports.{Choice, LeafPossible}
use Rattle.mn_closure.proofs.Solved.{through, either_iff, both_iff}
use Rattle.mn_closure.proofs.Turned.{other_has}

same : {P : Type 0} → P ↔ P
same = (λ p. p, λ p. p)

follows_iff : {A B P Q : Type 0} → A ↔ B → P ↔ Q → (A → P) ↔ (B → Q)
follows_iff ab pq = (λ h b. pq.0 (h (ab.1 b)), λ h a. pq.1 (h (ab.0 a)))

-- the other of a 0/1 term
other_alone : (box : List (List ℤ)) (r : Term) (a : ℤ) → IsAlone box (other r) a ↔ IsAlone box r (pos 1 -ℤ a)
other_alone box r a = (to, from)
  where
    to : IsAlone box (other r) a → IsAlone box r (pos 1 -ℤ a)
    to alone b has =
        let twice : pos 1 -ℤ (pos 1 -ℤ b) ≡ b = omega (arith, ints) in
        let is = alone (pos 1 -ℤ b) ((other_has box r (pos 1 -ℤ b)).1 (subst (PlaceHas box r) (sym twice) has)) in
        omega (arith, ints, is)

    from : IsAlone box r (pos 1 -ℤ a) → IsAlone box (other r) a
    from alone b has = let is = alone (pos 1 -ℤ b) ((other_has box r b).0 has) in omega (arith, ints, is)

-- the literal r = 1
pub literal_possible : (lists : List Tuples) (box : List (List ℤ)) (r : Term) → LeafPossible lists (con.WLiteral r (pos 1)) box ↔ PlaceHas box r (pos 1)
literal_possible lists box r = (λ some. there some.values some.chosen some.meets, λ has. record { values = pos 1 ∷ []; chosen = (has, tt); meets = refl })
  where
    there : (values : List ℤ) → Choice box (r ∷ []) values → at values 0 ≡ pos 1 → PlaceHas box r (pos 1)
    there [] chosen is = absurd chosen
    there (a ∷ values) chosen is = subst (PlaceHas box r) is chosen.0

-- a leaf isn't taken apart
pub leaf_parts : (lists : List Tuples) (c : Con) (says : Bool) (box : List (List ℤ)) → IsLeaf c → PartsPossible lists c says box ↔ LeafPossible lists (signed says c) box
leaf_parts lists (con.WatchedOr cs) says box leaf = absurd leaf
leaf_parts lists (con.WatchedAnd cs) says box leaf = absurd leaf
leaf_parts lists (con.Reify' p (more_of-Con c none) r) says box leaf = absurd leaf
leaf_parts lists (con.Reifyimply' p (more_of-Con c none) r) says box leaf = absurd leaf
leaf_parts lists (con.Negated' p (more_of-Con c none)) says box leaf = same
leaf_parts lists c says box leaf = same

pub leaf_closed : (vars : List Variable) (lists : List Tuples) (c : Con) (says : Bool) (box : List (List ℤ)) → IsLeaf c → PartsClosed vars lists c says box ↔ LeafClosed vars lists (signed says c) box
leaf_closed vars lists (con.WatchedOr cs) says box leaf = absurd leaf
leaf_closed vars lists (con.WatchedAnd cs) says box leaf = absurd leaf
leaf_closed vars lists (con.Reify' p (more_of-Con c none) r) says box leaf = absurd leaf
leaf_closed vars lists (con.Reifyimply' p (more_of-Con c none) r) says box leaf = absurd leaf
leaf_closed vars lists (con.Negated' p (more_of-Con c none)) says box leaf = same
leaf_closed vars lists c says box leaf = same

pub leaf_or_parts : (c : Con) → IsLeaf c ⊎ HasParts c
leaf_or_parts (con.WatchedOr cs) = inr tt
leaf_or_parts (con.WatchedAnd cs) = inr tt
leaf_or_parts (con.Reify' p (more_of-Con c none) r) = inr tt
leaf_or_parts (con.Reifyimply' p (more_of-Con c none) r) = inr tt
leaf_or_parts (con.Negated' p (more_of-Con c none)) = inl tt
leaf_or_parts c = inl tt

mutual
  parts_possible : (lists : List Tuples) (c : Con) (box : List (List ℤ)) → DeniesLeaves c → PartsPossible lists (negation c) true box ↔ PartsPossible lists c false box
  parts_possible lists (con.WatchedOr cs) box denies = each_possible lists cs box denies
  parts_possible lists (con.WatchedAnd cs) box denies = one_possible lists cs box denies
  parts_possible lists (con.Reify' p (more_of-Con c none) r) box denies = either_iff (both_iff (other_has box r (pos 1)) same) (both_iff (other_has box r (pos 0)) same)
  parts_possible lists (con.Reifyimply' p (more_of-Con c none) r) box denies = both_iff (literal_possible lists box r) (through (λ h. h.0, λ h. (h, tt)) (parts_possible lists c box denies))
  parts_possible lists (con.Negated' p (more_of-Con c none)) box denies = leaf_parts lists c true box denies.0
  parts_possible lists c box denies = (λ h. h, λ h. h)

  one_possible : (lists : List Tuples) (cs : Cons) (box : List (List ℤ)) → DenyLeaves cs → OnePossible lists (negations cs) true box ↔ OnePossible lists cs false box
  one_possible lists con.End box denies = same
  one_possible lists (con.More' p (more_of-Con c none) q (more_of-Cons cs nothing)) box denies = either_iff (parts_possible lists c box denies.0) (one_possible lists cs box denies.1)

  each_possible : (lists : List Tuples) (cs : Cons) (box : List (List ℤ)) → DenyLeaves cs → EachPossible lists (negations cs) true box ↔ EachPossible lists cs false box
  each_possible lists con.End box denies = same
  each_possible lists (con.More' p (more_of-Con c none) q (more_of-Cons cs nothing)) box denies = both_iff (parts_possible lists c box denies.0) (each_possible lists cs box denies.1)

two_possible : (lists : List Tuples) (cs : Cons) (box : List (List ℤ)) → DenyLeaves cs → TwoPossible lists (negations cs) true box ↔ TwoPossible lists cs false box
two_possible lists con.End box denies = same
two_possible lists (con.More' p (more_of-Con c none) q (more_of-Cons cs nothing)) box denies =
    either_iff (both_iff (parts_possible lists c box denies.0) (one_possible lists cs box denies.1)) (two_possible lists cs box denies.1)

-- four facts together
four_iff : {A B C D E F G H : Type 0} → A ↔ E → B ↔ F → C ↔ G → D ↔ H → (A × B × C × D) ↔ (E × F × G × H)
four_iff a b c d = (λ h. (a.0 h.0, b.0 h.1, c.0 h.2, d.0 h.3), λ h. (a.1 h.0, b.1 h.1, c.1 h.2, d.1 h.3))

mutual
  parts_closed : (vars : List Variable) (lists : List Tuples) (c : Con) (box : List (List ℤ)) → DeniesLeaves c → PartsClosed vars lists (negation c) true box ↔ PartsClosed vars lists c false box
  parts_closed vars lists (con.WatchedOr cs) box denies = each_closed vars lists cs box denies
  parts_closed vars lists (con.WatchedAnd cs) box denies = either_iff (two_possible lists cs box denies) (one_closed vars lists cs box denies)
  parts_closed vars lists (con.Reify' p (more_of-Con c none) r) box denies =
      four_iff (follows_iff (other_has box r (pos 1)) same) (follows_iff (other_has box r (pos 0)) same) (follows_iff (other_alone box r (pos 1)) same) (follows_iff (other_alone box r (pos 0)) same)
  parts_closed vars lists (con.Reifyimply' p (more_of-Con c none) r) box denies = both_iff same (through (λ h. h.0, λ h. (h, tt)) (parts_closed vars lists c box denies))
  parts_closed vars lists (con.Negated' p (more_of-Con c none)) box denies = leaf_closed vars lists c true box denies.0
  parts_closed vars lists c box denies = (λ h. h, λ h. h)

  one_closed : (vars : List Variable) (lists : List Tuples) (cs : Cons) (box : List (List ℤ)) → DenyLeaves cs → OneClosed vars lists (negations cs) true box ↔ OneClosed vars lists cs false box
  one_closed vars lists con.End box denies = same
  one_closed vars lists (con.More' p (more_of-Con c none) q (more_of-Cons cs nothing)) box denies =
      either_iff (both_iff (parts_possible lists c box denies.0) (parts_closed vars lists c box denies.0)) (one_closed vars lists cs box denies.1)

  each_closed : (vars : List Variable) (lists : List Tuples) (cs : Cons) (box : List (List ℤ)) → DenyLeaves cs → EachClosed vars lists (negations cs) true box ↔ EachClosed vars lists cs false box
  each_closed vars lists con.End box denies = same
  each_closed vars lists (con.More' p (more_of-Con c none) q (more_of-Cons cs nothing)) box denies = both_iff (parts_closed vars lists c box denies.0) (each_closed vars lists cs box denies.1)

apart_same : (b : Bool) (P Q R : Type 0) → P ↔ Q → IfApart b P R ↔ IfApart b Q R
apart_same true P Q R pq = pq
apart_same false P Q R pq = same

pub negation_possible : (lists : List Tuples) (c : Con) (box : List (List ℤ)) → DeniesLeaves c → Possible lists (negation c) true box ↔ Possible lists c false box
negation_possible lists c box denies = apart_same is_taken_apart (PartsPossible lists (negation c) true box) (PartsPossible lists c false box) (LeafPossible lists (negation c) box) (parts_possible lists c box denies)

pub negation_closed : (vars : List Variable) (lists : List Tuples) (c : Con) (box : List (List ℤ)) → DeniesLeaves c → Closed vars lists (negation c) true box ↔ Closed vars lists c false box
negation_closed vars lists c box denies = apart_same is_taken_apart (PartsClosed vars lists (negation c) true box) (PartsClosed vars lists c false box) (LeafClosed vars lists (negation c) box) (parts_closed vars lists c box denies)

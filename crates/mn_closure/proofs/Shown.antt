-- The literals that show a constraint possible.
use Rattle.std.proofs.Common.{◌≢◌, ℕ, ℤ, pos, ◌⊎◌, inl, inr, Bool, true, false, not, List, [], ◌∷◌, ◌++◌}
use Rattle.mn_model.specs.Parts.{places}
use Rattle.mn_model.specs.declared.constraint.Con.{Con}
use Rattle.mn_model.specs.declared.constraint.Cons.{Cons}
use Rattle.mn_model.specs.declared.constraint.Con.TheVariants as con
use Rattle.mn_model.specs.declared.constraint.Con.TheBlock.{more_of-Con, more_of-Cons}
use Rattle.mn_model.specs.declared.constraint.Term.{Term}
use Rattle.mn_model.specs.declared.constraint.Term.TheVariants.{Var, Const, Not}
use Rattle.mn_model.specs.declared.declaration.Tuples.{Tuples}
use Rattle.mn_model.proofs.Lists.{all_append, all_back, all_front}
use Rattle.mn_boxes.specs.Places.{PlaceHas}
use Rattle.mn_meaning.specs.Meaning.{Meets}
use Rattle.mn_closure.specs.Closed.{signed, bit, IfSays, IfApart, PartsPossible, OnePossible, EachPossible, Possible, is_taken_apart}
use Rattle.mn_closure.specs.Levels.{Level, Arc, Fixed, Hull, Last, level}
use Rattle.mn_closure.specs.Seen.{HasLiteral, HasLiterals, IsShown, literal_of, literals_of}
use Rattle.mn_closure.specs.Supports.{Choice, SomeChoice, StandsAt, SomeOpen, LeafPossibleAt}

-- ---- a value at a place, and a choice

place_literal : (box : List (List ℤ)) (t : Term) (a : ℤ) → PlaceHas box t a → HasLiterals box (literal_of t a)
place_literal box (Var v) a has = (has, tt)
place_literal box (Const k) a has = tt
place_literal box (Not v) a has = (has, tt)

literal_place : (box another : List (List ℤ)) (t : Term) (a : ℤ) → PlaceHas box t a → HasLiterals another (literal_of t a) → PlaceHas another t a
literal_place box another (Var v) a has literals = literals.0
literal_place box another (Const k) a has literals = has
literal_place box another (Not v) a has literals = literals.0

pub choice_literals : (box : List (List ℤ)) (ts : List Term) (values : List ℤ) → Choice box ts values → HasLiterals box (literals_of ts values)
choice_literals box [] values chosen = tt
choice_literals box (t ∷ ts) [] chosen = tt
choice_literals box (t ∷ ts) (a ∷ values) chosen = all_append (HasLiteral box) (literal_of t a) (literals_of ts values) (place_literal box t a chosen.0) (choice_literals box ts values chosen.1)

literals_choice : (box another : List (List ℤ)) (ts : List Term) (values : List ℤ) → Choice box ts values → HasLiterals another (literals_of ts values) → Choice another ts values
literals_choice box another [] [] chosen literals = tt
literals_choice box another [] (a ∷ values) chosen literals = absurd chosen
literals_choice box another (t ∷ ts) [] chosen literals = absurd chosen
literals_choice box another (t ∷ ts) (a ∷ values) chosen literals = (
  literal_place box another t a chosen.0 (all_front (HasLiteral another) (literal_of t a) (literals_of ts values) literals),
  literals_choice box another ts values chosen.1 (all_back (HasLiteral another) (literal_of t a) (literals_of ts values) literals),
)

pub choice_shown : (lists : List Tuples) (c : Con) (values : List ℤ) (box another : List (List ℤ)) → Choice box (places c) values → Meets lists c values → HasLiterals another (literals_of (places c) values) → SomeChoice lists c another
choice_shown lists c values box another chosen meets literals = record { values = values; chosen = literals_choice box another (places c) values chosen literals; meets = meets }

pub open_shown : (c : Con) (i : ℕ) (t : Term) (a b : ℤ) (box another : List (List ℤ)) → StandsAt c i t → PlaceHas box t a → PlaceHas box t b → a ≢ b → HasLiterals another (literal_of t a ++ literal_of t b) → SomeOpen c another
open_shown c i t a b box another stands has_a has_b differ literals = record {
  place = i;
  term = t;
  stands = stands;
  is_open = record {
    one = a;
    another = b;
    has_one = literal_place box another t a has_a (all_front (HasLiteral another) (literal_of t a) (literal_of t b) literals);
    has_another = literal_place box another t b has_b (all_back (HasLiteral another) (literal_of t a) (literal_of t b) literals);
    differ = differ;
  };
}

-- ---- what is shown

-- what follows from it is, and so are two things together
shown_so : (P Q : List (List ℤ) → Type 0) (box : List (List ℤ)) → ((another : List (List ℤ)) → P another → Q another) → IsShown P box → IsShown Q box
shown_so P Q box so shown = record { literals = shown.literals; there = shown.there; shows = λ another literals. so another (shown.shows another literals) }

shown_both : (P Q : List (List ℤ) → Type 0) (box : List (List ℤ)) → IsShown P box → IsShown Q box → IsShown (λ another. P another × Q another) box
shown_both P Q box one two = record {
  literals = one.literals ++ two.literals;
  there = all_append (HasLiteral box) one.literals two.literals one.there two.there;
  shows = λ another literals. (one.shows another (all_front (HasLiteral another) one.literals two.literals literals), two.shows another (all_back (HasLiteral another) one.literals two.literals literals));
}

shown_place : (t : Term) (a : ℤ) (box : List (List ℤ)) → PlaceHas box t a → IsShown (λ another. PlaceHas another t a) box
shown_place t a box has = record { literals = literal_of t a; there = place_literal box t a has; shows = λ another literals. literal_place box another t a has literals }

shown_choice : (lists : List Tuples) (c : Con) (box : List (List ℤ)) → SomeChoice lists c box → IsShown (SomeChoice lists c) box
shown_choice lists c box some = record {
  literals = literals_of (places c) some.values;
  there = choice_literals box (places c) some.values some.chosen;
  shows = λ another literals. choice_shown lists c some.values box another some.chosen some.meets literals;
}

shown_open : (c : Con) (box : List (List ℤ)) → SomeOpen c box → IsShown (SomeOpen c) box
shown_open c box some = record {
  literals = literal_of some.term some.is_open.one ++ literal_of some.term some.is_open.another;
  there = all_append (HasLiteral box) (literal_of some.term some.is_open.one) (literal_of some.term some.is_open.another) (place_literal box some.term some.is_open.one some.is_open.has_one) (place_literal box some.term some.is_open.another some.is_open.has_another);
  shows = λ another literals. open_shown c some.place some.term some.is_open.one some.is_open.another box another some.stands some.is_open.has_one some.is_open.has_another some.is_open.differ literals;
}

shown_either : (lists : List Tuples) (c : Con) (box : List (List ℤ)) → SomeOpen c box ⊎ SomeChoice lists c box → IsShown (λ another. SomeOpen c another ⊎ SomeChoice lists c another) box
shown_either lists c box (inl some) = shown_so (SomeOpen c) (λ another. SomeOpen c another ⊎ SomeChoice lists c another) box (λ another. inl) (shown_open c box some)
shown_either lists c box (inr some) = shown_so (SomeChoice lists c) (λ another. SomeOpen c another ⊎ SomeChoice lists c another) box (λ another. inr) (shown_choice lists c box some)

shown_leaf : (l : Level) (lists : List Tuples) (c : Con) (box : List (List ℤ)) → LeafPossibleAt l lists c box → IsShown (LeafPossibleAt l lists c) box
shown_leaf Arc lists c box p = shown_choice lists c box p
shown_leaf Fixed lists c box p = shown_either lists c box p
shown_leaf Hull lists c box p = shown_either lists c box p
shown_leaf Last lists c box p = shown_either lists c box p

-- ---- constraints by their parts

shown_says : (says : Bool) (P Q : List (List ℤ) → Type 0) (box : List (List ℤ)) → (P box → IsShown P box) → (Q box → IsShown Q box) → IfSays says (P box) (Q box) → IsShown (λ another. IfSays says (P another) (Q another)) box
shown_says true P Q box first second p = first p
shown_says false P Q box first second q = second q

shown_apart : (b : Bool) (P Q : List (List ℤ) → Type 0) (box : List (List ℤ)) → (P box → IsShown P box) → (Q box → IsShown Q box) → IfApart b (P box) (Q box) → IsShown (λ another. IfApart b (P another) (Q another)) box
shown_apart true P Q box first second p = first p
shown_apart false P Q box first second q = second q

shown_left : (P Q : List (List ℤ) → Type 0) (box : List (List ℤ)) → IsShown P box → IsShown (λ another. P another ⊎ Q another) box
shown_left P Q box shown = shown_so P (λ another. P another ⊎ Q another) box (λ another. inl) shown

shown_right : (P Q : List (List ℤ) → Type 0) (box : List (List ℤ)) → IsShown Q box → IsShown (λ another. P another ⊎ Q another) box
shown_right P Q box shown = shown_so Q (λ another. P another ⊎ Q another) box (λ another. inr) shown

-- a 0/1 term has a value, and a part is possible
abbrev HasWith : List Tuples → Con → Bool → Term → ℤ → List (List ℤ) → Type 0
HasWith lists c says r a box = PlaceHas box r a × PartsPossible lists c says box

shown_with : (lists : List Tuples) (c : Con) (says : Bool) (r : Term) (a : ℤ) (box : List (List ℤ)) → (PartsPossible lists c says box → IsShown (PartsPossible lists c says) box) → HasWith lists c says r a box → IsShown (HasWith lists c says r a) box
shown_with lists c says r a box shown both = shown_both (λ another. PlaceHas another r a) (PartsPossible lists c says) box (shown_place r a box both.0) (shown both.1)

mutual
  shown_parts : (lists : List Tuples) (c : Con) (says : Bool) (box : List (List ℤ)) → PartsPossible lists c says box → IsShown (PartsPossible lists c says) box
  shown_parts lists (con.WatchedOr cs) says box p = shown_says says (OnePossible lists cs true) (EachPossible lists cs false) box (shown_one lists cs true box) (shown_each lists cs false box) p
  shown_parts lists (con.WatchedAnd cs) says box p = shown_says says (EachPossible lists cs true) (OnePossible lists cs false) box (shown_each lists cs true box) (shown_one lists cs false box) p
  shown_parts lists (con.Reify' q (more_of-Con c none) r) says box (inl both) =
      shown_left (HasWith lists c true r (bit says)) (HasWith lists c false r (bit (not says))) box (shown_with lists c true r (bit says) box (shown_parts lists c true box) both)
  shown_parts lists (con.Reify' q (more_of-Con c none) r) says box (inr both) =
      shown_right (HasWith lists c true r (bit says)) (HasWith lists c false r (bit (not says))) box (shown_with lists c false r (bit (not says)) box (shown_parts lists c false box) both)
  shown_parts lists (con.Reifyimply' q (more_of-Con c none) r) true box (inl has) = shown_left (λ another. PlaceHas another r (pos 0)) (HasWith lists c true r (pos 1)) box (shown_place r (pos 0) box has)
  shown_parts lists (con.Reifyimply' q (more_of-Con c none) r) true box (inr both) =
      shown_right (λ another. PlaceHas another r (pos 0)) (HasWith lists c true r (pos 1)) box (shown_with lists c true r (pos 1) box (shown_parts lists c true box) both)
  shown_parts lists (con.Reifyimply' q (more_of-Con c none) r) false box both = shown_with lists c false r (pos 1) box (shown_parts lists c false box) both
  shown_parts lists c says box p = shown_leaf (level (signed says c)) lists (signed says c) box p

  shown_one : (lists : List Tuples) (cs : Cons) (says : Bool) (box : List (List ℤ)) → OnePossible lists cs says box → IsShown (OnePossible lists cs says) box
  shown_one lists con.End says box p = absurd p
  shown_one lists (con.More' p (more_of-Con c none) q (more_of-Cons cs nothing)) says box (inl first) = shown_left (PartsPossible lists c says) (OnePossible lists cs says) box (shown_parts lists c says box first)
  shown_one lists (con.More' p (more_of-Con c none) q (more_of-Cons cs nothing)) says box (inr later) = shown_right (PartsPossible lists c says) (OnePossible lists cs says) box (shown_one lists cs says box later)

  shown_each : (lists : List Tuples) (cs : Cons) (says : Bool) (box : List (List ℤ)) → EachPossible lists cs says box → IsShown (EachPossible lists cs says) box
  shown_each lists con.End says box p = record { literals = []; there = tt; shows = λ another literals. tt }
  shown_each lists (con.More' p (more_of-Con c none) q (more_of-Cons cs nothing)) says box both =
      shown_both (PartsPossible lists c says) (EachPossible lists cs says) box (shown_parts lists c says box both.0) (shown_each lists cs says box both.1)

pub possible_shown : (lists : List Tuples) (c : Con) (says : Bool) (box : List (List ℤ)) → Possible lists c says box → IsShown (Possible lists c says) box
possible_shown lists c says box p =
    shown_apart is_taken_apart (PartsPossible lists c says) (λ another. LeafPossibleAt (level (signed says c)) lists (signed says c) another) box (shown_parts lists c says box) (shown_leaf (level (signed says c)) lists (signed says c) box) p

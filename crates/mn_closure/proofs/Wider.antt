-- What is so of a box is so of every other one that has the same values, or more, at the places.
use Rattle.std.proofs.Common.{ℕ, zero, suc, ℤ, pos, ◌-ℤ◌, ◌⊎◌, inl, inr, Bool, true, false, not, List, [], ◌∷◌, ◌++◌}
use Rattle.std.specs.List.{AllByRecursion}
use Rattle.mn_model.specs.Parts.{places, places_of}
use Rattle.mn_model.specs.Variable.{number_of}
use Rattle.mn_model.specs.declared.constraint.Con.{Con}
use Rattle.mn_model.specs.declared.constraint.Cons.{Cons}
use Rattle.mn_model.specs.declared.constraint.Con.TheVariants as con
use Rattle.mn_model.specs.declared.constraint.Con.TheBlock.{more_of-Con, more_of-Cons}
use Rattle.mn_model.specs.declared.constraint.Term.{Term}
use Rattle.mn_model.specs.declared.constraint.Term.TheVariants.{Var, Const, Not}
use Rattle.mn_model.specs.declared.declaration.Tuples.{Tuples}
use Rattle.mn_model.proofs.Lists.{all_at, all_back, all_front}
use Rattle.mn_boxes.specs.Boxes.{Inside}
use Rattle.mn_boxes.specs.Places.{PlaceHas}
use Rattle.mn_closure.specs.Closed.{signed, bit, IfSays, IfApart, PartsPossible, OnePossible, EachPossible, TwoPossible, Possible, is_taken_apart}
use Rattle.mn_closure.specs.Levels.{Level, Arc, Fixed, Hull, Last, level}
use Rattle.mn_closure.specs.Supports.{Choice, StandsAt, SomeChoice, ChoiceWith, IsOpen, SomeOpen, OtherOpen, IsBetweenEnds, SomeBetweenEnds, HullSupported, HullSupports, SupportedAt, LeafPossibleAt, product, difference}
use Rattle.mn_closure.proofs.Turned.{Turns, all_signed, other_has}

-- of two things the one that is asked for
pub says_either : (says : Bool) {P Q R S : Type 0} → (P → R) → (Q → S) → IfSays says P Q → IfSays says R S
says_either true first second p = first p
says_either false first second q = second q

pub apart_either : (b : Bool) {P Q R S : Type 0} → (P → R) → (Q → S) → IfApart b P Q → IfApart b R S
apart_either true first second p = first p
apart_either false first second q = second q

-- what is at the place in the one box is there in the other
abbrev pub GrowsAt : List (List ℤ) → List (List ℤ) → Term → Type 0
GrowsAt inner outer t = (a : ℤ) → PlaceHas inner t a → PlaceHas outer t a

-- so it is at each place of a list, and of a constraint
abbrev pub Grows : List (List ℤ) → List (List ℤ) → List Term → Type 0
Grows inner outer ts = AllByRecursion (GrowsAt inner outer) ts

grows_turns : (inner outer : List (List ℤ)) → Turns (GrowsAt inner outer) (λ t. Unit {0})
grows_turns inner outer = record { one = λ a has. has; less = λ a has. has; turned = λ r bit grows a has. (other_has outer r a).1 (grows (pos 1 -ℤ a) ((other_has inner r a).0 has)) }

-- ---- choices, open places and ends

pub wider_choice : (inner outer : List (List ℤ)) (ts : List Term) → Grows inner outer ts → (values : List ℤ) → Choice inner ts values → Choice outer ts values
wider_choice inner outer [] g [] chosen = tt
wider_choice inner outer [] g (a ∷ values) chosen = absurd chosen
wider_choice inner outer (t ∷ ts) g [] chosen = absurd chosen
wider_choice inner outer (t ∷ ts) g (a ∷ values) chosen = (g.0 a chosen.0, wider_choice inner outer ts g.1 values chosen.1)

wider_some : (lists : List Tuples) (c : Con) (inner outer : List (List ℤ)) → Grows inner outer (places c) → SomeChoice lists c inner → SomeChoice lists c outer
wider_some lists c inner outer g some = record { values = some.values; chosen = wider_choice inner outer (places c) g some.values some.chosen; meets = some.meets }

wider_with : (lists : List Tuples) (c : Con) (n : ℕ) (a : ℤ) (inner outer : List (List ℤ)) → Grows inner outer (places c) → ChoiceWith lists c n a inner → ChoiceWith lists c n a outer
wider_with lists c n a inner outer g some = record { values = some.values; chosen = wider_choice inner outer (places c) g some.values some.chosen; given = some.given; meets = some.meets }

-- at one place of them
grows_at : (inner outer : List (List ℤ)) (c : Con) (i : ℕ) (t : Term) → Grows inner outer (places c) → StandsAt c i t → GrowsAt inner outer t
grows_at inner outer c i t g stands = all_at (GrowsAt inner outer) (places c) i t g stands

wider_open : (inner outer : List (List ℤ)) (t : Term) → GrowsAt inner outer t → IsOpen inner t → IsOpen outer t
wider_open inner outer t g two = record { one = two.one; another = two.another; has_one = g two.one two.has_one; has_another = g two.another two.has_another; differ = two.differ }

wider_some_open : (c : Con) (inner outer : List (List ℤ)) → Grows inner outer (places c) → SomeOpen c inner → SomeOpen c outer
wider_some_open c inner outer g some = record {
  place = some.place;
  term = some.term;
  stands = some.stands;
  is_open = wider_open inner outer some.term (grows_at inner outer c some.place some.term g some.stands) some.is_open;
}

wider_other : (c : Con) (n : ℕ) (inner outer : List (List ℤ)) → Grows inner outer (places c) → OtherOpen c n inner → OtherOpen c n outer
wider_other c n inner outer g some = record {
  place = some.place;
  term = some.term;
  stands = some.stands;
  other = some.other;
  is_open = wider_open inner outer some.term (grows_at inner outer c some.place some.term g some.stands) some.is_open;
}

wider_within : (inner outer : List (List ℤ)) (t : Term) → GrowsAt inner outer t → (b : ℤ) → IsBetweenEnds inner t b → IsBetweenEnds outer t b
wider_within inner outer t g b w = record { low = w.low; high = w.high; has_low = g w.low w.has_low; has_high = g w.high w.has_high; from = w.from; to = w.to }

wider_some_within : (inner outer : List (List ℤ)) (t u : Term) → GrowsAt inner outer t → GrowsAt inner outer u → (R : ℤ → ℤ → Type 0) → SomeBetweenEnds inner t u R → SomeBetweenEnds outer t u R
wider_some_within inner outer t u g h R some = record {
  first = some.first;
  second = some.second;
  within_first = wider_within inner outer t g some.first some.within_first;
  within_second = wider_within inner outer u h some.second some.within_second;
  related = some.related;
}

wider_hull : (f : ℤ → ℤ → ℤ) (x y z : Term) (n : ℕ) (a : ℤ) (inner outer : List (List ℤ)) → GrowsAt inner outer x → GrowsAt inner outer y → GrowsAt inner outer z → HullSupported f x y z n a inner → HullSupported f x y z n a outer
wider_hull f x y z zero a inner outer at_x at_y at_z s = wider_some_within inner outer y z at_y at_z _ s
wider_hull f x y z (suc zero) a inner outer at_x at_y at_z s = wider_some_within inner outer x z at_x at_z _ s
wider_hull f x y z (suc (suc n)) a inner outer at_x at_y at_z s = record { below = wider_some_within inner outer x y at_x at_y _ s.below; above = wider_some_within inner outer x y at_x at_y _ s.above }

wider_supports : (c : Con) (n : ℕ) (a : ℤ) (inner outer : List (List ℤ)) → Grows inner outer (places c) → HullSupports c n a inner → HullSupports c n a outer
wider_supports (con.Product x y z) n a inner outer g s = wider_hull product x y z n a inner outer g.0 g.1.0 g.1.1.0 s
wider_supports (con.Difference x y z) n a inner outer g s = wider_hull difference x y z n a inner outer g.0 g.1.0 g.1.1.0 s
wider_supports c n a inner outer g s = s

-- ---- leaves

pub grown_supported : (l : Level) (lists : List Tuples) (c : Con) (n : ℕ) (a : ℤ) (inner outer : List (List ℤ)) → Grows inner outer (places c) → SupportedAt l lists c n a inner → SupportedAt l lists c n a outer
grown_supported Arc lists c n a inner outer g s = wider_with lists c n a inner outer g s
grown_supported Fixed lists c n a inner outer g s = λ j t stands other. let b = s j t stands other in (b.0, grows_at inner outer c j t g stands b.0 b.1, b.2)
grown_supported Hull lists c n a inner outer g s = wider_supports c n a inner outer g s
grown_supported Last lists c n a inner outer g (inl other) = inl (wider_other c n inner outer g other)
grown_supported Last lists c n a inner outer g (inr some) = inr (wider_with lists c n a inner outer g some)

wider_either : (lists : List Tuples) (c : Con) (inner outer : List (List ℤ)) → Grows inner outer (places c) → SomeOpen c inner ⊎ SomeChoice lists c inner → SomeOpen c outer ⊎ SomeChoice lists c outer
wider_either lists c inner outer g (inl some) = inl (wider_some_open c inner outer g some)
wider_either lists c inner outer g (inr some) = inr (wider_some lists c inner outer g some)

pub grown_leaf : (l : Level) (lists : List Tuples) (c : Con) (inner outer : List (List ℤ)) → Grows inner outer (places c) → LeafPossibleAt l lists c inner → LeafPossibleAt l lists c outer
grown_leaf Arc lists c inner outer g p = wider_some lists c inner outer g p
grown_leaf Fixed lists c inner outer g p = wider_either lists c inner outer g p
grown_leaf Hull lists c inner outer g p = wider_either lists c inner outer g p
grown_leaf Last lists c inner outer g p = wider_either lists c inner outer g p

grown_signed : (lists : List Tuples) (c : Con) (says : Bool) (inner outer : List (List ℤ)) → Grows inner outer (places c) → LeafPossibleAt (level (signed says c)) lists (signed says c) inner → LeafPossibleAt (level (signed says c)) lists (signed says c) outer
grown_signed lists c says inner outer g p = grown_leaf (level (signed says c)) lists (signed says c) inner outer (all_signed (GrowsAt inner outer) (grows_turns inner outer) says c g) p

-- ---- constraints by their parts

-- what stands beside a 0/1 term, and that term
pub grows_inner : (inner outer : List (List ℤ)) (c : Con) (r : Term) → Grows inner outer (places c ++ r ∷ []) → Grows inner outer (places c)
grows_inner inner outer c r g = all_front (GrowsAt inner outer) (places c) (r ∷ []) g

pub grows_bit : (inner outer : List (List ℤ)) (c : Con) (r : Term) → Grows inner outer (places c ++ r ∷ []) → GrowsAt inner outer r
grows_bit inner outer c r g = (all_back (GrowsAt inner outer) (places c) (r ∷ []) g).0

-- the first child, and the others
grows_first : (inner outer : List (List ℤ)) (c : Con) (cs : Cons) → Grows inner outer (places c ++ places_of cs) → Grows inner outer (places c)
grows_first inner outer c cs g = all_front (GrowsAt inner outer) (places c) (places_of cs) g

grows_others : (inner outer : List (List ℤ)) (c : Con) (cs : Cons) → Grows inner outer (places c ++ places_of cs) → Grows inner outer (places_of cs)
grows_others inner outer c cs g = all_back (GrowsAt inner outer) (places c) (places_of cs) g

mutual
  pub grown_parts : (lists : List Tuples) (c : Con) (says : Bool) (inner outer : List (List ℤ)) → Grows inner outer (places c) → PartsPossible lists c says inner → PartsPossible lists c says outer
  grown_parts lists (con.WatchedOr cs) says inner outer g p = says_either says (grown_one lists cs true inner outer g) (grown_each lists cs false inner outer g) p
  grown_parts lists (con.WatchedAnd cs) says inner outer g p = says_either says (grown_each lists cs true inner outer g) (grown_one lists cs false inner outer g) p
  grown_parts lists (con.Reify' q (more_of-Con c none) r) says inner outer g (inl both) =
      inl (grows_bit inner outer c r g (bit says) both.0, grown_parts lists c true inner outer (grows_inner inner outer c r g) both.1)
  grown_parts lists (con.Reify' q (more_of-Con c none) r) says inner outer g (inr both) =
      inr (grows_bit inner outer c r g (bit (not says)) both.0, grown_parts lists c false inner outer (grows_inner inner outer c r g) both.1)
  grown_parts lists (con.Reifyimply' q (more_of-Con c none) r) true inner outer g (inl zero_is) = inl (grows_bit inner outer c r g (pos 0) zero_is)
  grown_parts lists (con.Reifyimply' q (more_of-Con c none) r) true inner outer g (inr both) =
      inr (grows_bit inner outer c r g (pos 1) both.0, grown_parts lists c true inner outer (grows_inner inner outer c r g) both.1)
  grown_parts lists (con.Reifyimply' q (more_of-Con c none) r) false inner outer g both =
      (grows_bit inner outer c r g (pos 1) both.0, grown_parts lists c false inner outer (grows_inner inner outer c r g) both.1)
  grown_parts lists c says inner outer g p = grown_signed lists c says inner outer g p

  pub grown_one : (lists : List Tuples) (cs : Cons) (says : Bool) (inner outer : List (List ℤ)) → Grows inner outer (places_of cs) → OnePossible lists cs says inner → OnePossible lists cs says outer
  grown_one lists con.End says inner outer g p = p
  grown_one lists (con.More' p (more_of-Con c none) q (more_of-Cons cs nothing)) says inner outer g (inl first) = inl (grown_parts lists c says inner outer (grows_first inner outer c cs g) first)
  grown_one lists (con.More' p (more_of-Con c none) q (more_of-Cons cs nothing)) says inner outer g (inr later) = inr (grown_one lists cs says inner outer (grows_others inner outer c cs g) later)

  pub grown_each : (lists : List Tuples) (cs : Cons) (says : Bool) (inner outer : List (List ℤ)) → Grows inner outer (places_of cs) → EachPossible lists cs says inner → EachPossible lists cs says outer
  grown_each lists con.End says inner outer g p = tt
  grown_each lists (con.More' p (more_of-Con c none) q (more_of-Cons cs nothing)) says inner outer g both =
      (grown_parts lists c says inner outer (grows_first inner outer c cs g) both.0, grown_each lists cs says inner outer (grows_others inner outer c cs g) both.1)

pub grown_two : (lists : List Tuples) (cs : Cons) (says : Bool) (inner outer : List (List ℤ)) → Grows inner outer (places_of cs) → TwoPossible lists cs says inner → TwoPossible lists cs says outer
grown_two lists con.End says inner outer g p = p
grown_two lists (con.More' p (more_of-Con c none) q (more_of-Cons cs nothing)) says inner outer g (inl both) =
    inl (grown_parts lists c says inner outer (grows_first inner outer c cs g) both.0, grown_one lists cs says inner outer (grows_others inner outer c cs g) both.1)
grown_two lists (con.More' p (more_of-Con c none) q (more_of-Cons cs nothing)) says inner outer g (inr later) = inr (grown_two lists cs says inner outer (grows_others inner outer c cs g) later)

pub grown_possible : (lists : List Tuples) (c : Con) (says : Bool) (inner outer : List (List ℤ)) → Grows inner outer (places c) → Possible lists c says inner → Possible lists c says outer
grown_possible lists c says inner outer g p = apart_either is_taken_apart (grown_parts lists c says inner outer g) (grown_signed lists c says inner outer g) p

-- ---- a box around another has more at every place

pub wider_place : (inner outer : List (List ℤ)) → Inside inner outer → (t : Term) (a : ℤ) → PlaceHas inner t a → PlaceHas outer t a
wider_place inner outer i (Var v) a has = i.within (number_of v) a has
wider_place inner outer i (Const k) a has = has
wider_place inner outer i (Not v) a has = i.within (number_of v) (pos 1 -ℤ a) has

everywhere : (inner outer : List (List ℤ)) → Inside inner outer → (ts : List Term) → Grows inner outer ts
everywhere inner outer i [] = tt
everywhere inner outer i (t ∷ ts) = (wider_place inner outer i t, everywhere inner outer i ts)

pub wider_supported : (l : Level) (lists : List Tuples) (c : Con) (n : ℕ) (a : ℤ) (inner outer : List (List ℤ)) → Inside inner outer → SupportedAt l lists c n a inner → SupportedAt l lists c n a outer
wider_supported l lists c n a inner outer i s = grown_supported l lists c n a inner outer (everywhere inner outer i (places c)) s

pub wider_parts : (lists : List Tuples) (c : Con) (says : Bool) (inner outer : List (List ℤ)) → Inside inner outer → PartsPossible lists c says inner → PartsPossible lists c says outer
wider_parts lists c says inner outer i p = grown_parts lists c says inner outer (everywhere inner outer i (places c)) p

pub wider_one : (lists : List Tuples) (cs : Cons) (says : Bool) (inner outer : List (List ℤ)) → Inside inner outer → OnePossible lists cs says inner → OnePossible lists cs says outer
wider_one lists cs says inner outer i p = grown_one lists cs says inner outer (everywhere inner outer i (places_of cs)) p

pub wider_two : (lists : List Tuples) (cs : Cons) (says : Bool) (inner outer : List (List ℤ)) → Inside inner outer → TwoPossible lists cs says inner → TwoPossible lists cs says outer
wider_two lists cs says inner outer i p = grown_two lists cs says inner outer (everywhere inner outer i (places_of cs)) p

pub wider_possible : (lists : List Tuples) (c : Con) (says : Bool) (inner outer : List (List ℤ)) → Inside inner outer → Possible lists c says inner → Possible lists c says outer
wider_possible lists c says inner outer i p = grown_possible lists c says inner outer (everywhere inner outer i (places c)) p

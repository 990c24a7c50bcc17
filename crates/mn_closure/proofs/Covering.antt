-- A join is closed where both boxes are.
use Rattle.std.proofs.Common.{◌≡◌, ℕ, zero, suc, ℤ, pos, ◌-ℤ◌, ◌⊎◌, inl, inr, ⊎_elim, Bool, true, false, not, List, [], ◌∷◌, ◌++◌, slice_get, refl, sym, subst, ◌∙◌, arith}
use Rattle.std.proofs.lemmas.Int.{ints}
use Rattle.std.specs.List.{AllByRecursion}
use Rattle.mn_model.specs.Decided.{Decided}
use Rattle.mn_model.specs.Domain.{Ascends, Has}
use Rattle.mn_model.specs.Lawful.{IsBit, AreBits}
use Rattle.mn_model.specs.Parts.{bits, bits_of}
use Rattle.mn_model.specs.Variable.{number_of}
use Rattle.mn_model.specs.declared.constraint.Con.{Con}
use Rattle.mn_model.specs.declared.constraint.Cons.{Cons}
use Rattle.mn_model.specs.declared.constraint.Con.TheVariants as con
use Rattle.mn_model.specs.declared.constraint.Con.TheBlock.{more_of-Con, more_of-Cons}
use Rattle.mn_model.specs.declared.constraint.Term.{Term}
use Rattle.mn_model.specs.declared.constraint.Term.TheVariants.{Var, Const, Not}
use Rattle.mn_model.specs.declared.declaration.Tuples.{Tuples}
use Rattle.mn_model.proofs.Lists.{all_back, all_front}
use Rattle.mn_boxes.specs.Boxes.{Inside, IsBox, set_of, variable_at}
use Rattle.mn_boxes.specs.Places.{PlaceHas}
use Rattle.mn_boxes.specs.Sets.{IsEnd, Variable}
use Rattle.mn_boxes.proofs.Members.{StandsFirst, stands_first, is_first, StandsLast, stands_last, is_last, end_has}
use Rattle.mn_boxes.proofs.Quiet.{ascends_at}
use Rattle.mn_meaning.specs.Laws.{IsZeroOrOne}
use Rattle.mn_meaning.proofs.Meant.{bit_of}
use Rattle.mn_closure.specs.Closed.{Asked, LeafClosed, signed, bit, IfSays, IfApart, IsAlone, PartsPossible, OnePossible, TwoPossible, PartsClosed, OneClosed, EachClosed, Closed, is_taken_apart}
use Rattle.mn_closure.specs.Closures.{join}
use Rattle.mn_closure.specs.Deciding.{ends_alone}
use Rattle.mn_closure.specs.Laws.{declared_sets}
use Rattle.mn_closure.specs.Levels.{Level, Hull, level}
use Rattle.mn_closure.proofs.Joined.{Joins, Spans, has_either, joins_at, is_join}
use Rattle.mn_closure.proofs.Wider.{wider_place, wider_supported, wider_parts, wider_one, wider_two}

-- three boxes, the third of which covers the other two
pub record Covers (vars : List Variable) (one another cover : List (List ℤ)) : Type 0 where
  pub is_one : IsBox vars one
  pub is_another : IsBox vars another
  pub is_cover : IsBox vars cover
  pub in_one : Inside one cover
  pub in_another : Inside another cover
  pub joins : (v : ℕ) → Joins (variable_at vars v).bounded (set_of one v) (set_of another v) (set_of cover v)

-- an end of the joined set is an end of one of both
end_of_either : (bounded : Bool) (xs ys js : List ℤ) → Ascends xs → Ascends ys → Joins bounded xs ys js → (a : ℤ) → IsEnd a js → IsEnd a xs ⊎ IsEnd a ys
end_of_either bounded xs ys js up_x up_y j a (inl first) = elim (has_either xs ys a (among (j.spans a stands.has))) [
  | inl x ↦ inl (inl (is_first xs a up_x (record { has = x; others = λ b has. stands.others b (j.has_x b has) })))
  | inr y ↦ inr (inl (is_first ys a up_y (record { has = y; others = λ b has. stands.others b (j.has_y b has) })))
]
  where
    stands : StandsFirst js a
    stands = stands_first js a j.ascends first

    here : (b : ℤ) → Has (xs ++ ys) b → Has js b
    here b has = elim (has_either xs ys b has) [ inl x ↦ j.has_x b x | inr y ↦ j.has_y b y ]

    among : Spans (xs ++ ys) a → Has (xs ++ ys) a
    among s = let least = stands.others s.low (here s.low s.has_low) in let same : s.low ≡ a = omega (arith, ints, least, s.from) in subst (Has (xs ++ ys)) same s.has_low
end_of_either bounded xs ys js up_x up_y j a (inr last) = elim (has_either xs ys a (among (j.spans a stands.has))) [
  | inl x ↦ inl (inr (is_last xs a up_x (record { has = x; others = λ b has. stands.others b (j.has_x b has) })))
  | inr y ↦ inr (inr (is_last ys a up_y (record { has = y; others = λ b has. stands.others b (j.has_y b has) })))
]
  where
    stands : StandsLast js a
    stands = stands_last js a j.ascends last

    here : (b : ℤ) → Has (xs ++ ys) b → Has js b
    here b has = elim (has_either xs ys b has) [ inl x ↦ j.has_x b x | inr y ↦ j.has_y b y ]

    among : Spans (xs ++ ys) a → Has (xs ++ ys) a
    among s = let greatest = stands.others s.high (here s.high s.has_high) in let same : s.high ≡ a = omega (arith, ints, greatest, s.to) in subst (Has (xs ++ ys)) same s.has_high

-- a value is in the set, and an end of it if P asks for that
abbrev AskedOf : Type 0 → List ℤ → ℤ → Type 0
AskedOf P xs a = Has xs a × (P → IsEnd a xs)

asked_of : (P : Type 0) (bounded : Bool) (xs ys js : List ℤ) → Decided P → ((P → ⊥) → bounded ≡ false) → Ascends xs → Ascends ys → Joins bounded xs ys js → (a : ℤ) → AskedOf P js a → AskedOf P xs a ⊎ AskedOf P ys a
asked_of P bounded xs ys js (inl p) unbounded up_x up_y j a asked = elim (end_of_either bounded xs ys js up_x up_y j a (asked.1 p)) [
  | inl x ↦ inl (end_has xs a up_x x, λ q. x)
  | inr y ↦ inr (end_has ys a up_y y, λ q. y)
]
asked_of P bounded xs ys js (inr none) unbounded up_x up_y j a asked = elim (has_either xs ys a (j.among (unbounded none) a asked.0)) [
  | inl x ↦ inl (x, λ q. absurd (none q))
  | inr y ↦ inr (y, λ q. absurd (none q))
]

not_bounded : (bounded : Bool) (l : Level) → (bounded ≡ true ⊎ (l ≡ Hull) → ⊥) → bounded ≡ false
not_bounded true l none = absurd (none (inl refl))
not_bounded false l none = refl

asked_at : (l : Level) (vars : List Variable) (one another cover : List (List ℤ)) → Covers vars one another cover → (v : ℕ) (a : ℤ)
    → AskedOf ((variable_at vars v).bounded ≡ true ⊎ (l ≡ Hull)) (set_of cover v) a → AskedOf ((variable_at vars v).bounded ≡ true ⊎ (l ≡ Hull)) (set_of one v) a ⊎ AskedOf ((variable_at vars v).bounded ≡ true ⊎ (l ≡ Hull)) (set_of another v) a
asked_at l vars one another cover k v a asked =
    asked_of ((variable_at vars v).bounded ≡ true ⊎ (l ≡ Hull)) (variable_at vars v).bounded (set_of one v) (set_of another v) (set_of cover v) (ends_alone (variable_at vars v).bounded l) (not_bounded (variable_at vars v).bounded l)
    (ascends_at vars one v k.is_one) (ascends_at vars another v k.is_another) (k.joins v) a asked

-- what has to be supported in the cover has to be so in one of the two
pub asked_either : (l : Level) (vars : List Variable) (one another cover : List (List ℤ)) → Covers vars one another cover → (t : Term) (a : ℤ) → Asked l vars cover t a → Asked l vars one t a ⊎ Asked l vars another t a
asked_either l vars one another cover k (Var v) a asked = elim (asked_at l vars one another cover k (number_of v) a (asked.there, asked.ends)) [
  | inl x ↦ inl (record { there = x.0; ends = x.1 })
  | inr y ↦ inr (record { there = y.0; ends = y.1 })
]
asked_either l vars one another cover k (Const n) a asked = inl (record { there = asked.there; ends = asked.ends })
asked_either l vars one another cover k (Not v) a asked = elim (asked_at l vars one another cover k (number_of v) (pos 1 -ℤ a) (asked.there, asked.ends)) [
  | inl x ↦ inl (record { there = x.0; ends = x.1 })
  | inr y ↦ inr (record { there = y.0; ends = y.1 })
]

pub leaf_join : (vars : List Variable) (lists : List Tuples) (c : Con) (one another cover : List (List ℤ)) → Covers vars one another cover → LeafClosed vars lists c one → LeafClosed vars lists c another → LeafClosed vars lists c cover
leaf_join vars lists c one another cover k first second = record {
  bare = first.bare;
  supported = λ i t a stands asked. elim (asked_either (level c) vars one another cover k t a asked) [
    | inl x ↦ wider_supported (level c) lists c i a one cover k.in_one (first.supported i t a stands x)
    | inr y ↦ wider_supported (level c) lists c i a another cover k.in_another (second.supported i t a stands y)
  ];
}

-- a 0/1 variable has in the cover what it has in one of the two
pub declared_has : (vars : List Variable) (box : List (List ℤ)) (v : ℕ) (a : ℤ) → IsBox vars box → AreBits (slice_get (declared_sets vars) v) → Has (set_of box v) a → IsZeroOrOne a
declared_has [] [] v a is zeros has = absurd has
declared_has [] (xs ∷ box) v a is zeros has = absurd is
declared_has (var ∷ vars) [] v a is zeros has = absurd is
declared_has (var ∷ vars) (xs ∷ box) zero a is zeros has = bit_of var.declared a zeros (is.0.declared a has)
declared_has (var ∷ vars) (xs ∷ box) (suc v) a is zeros has = declared_has vars box v a is.1 zeros has

bit_value_in : (bounded : Bool) (xs ys js : List ℤ) → Joins bounded xs ys js → ((b : ℤ) → Has js b → IsZeroOrOne b) → (a : ℤ) → Has js a → Has xs a ⊎ Has ys a
bit_value_in bounded xs ys js j zeros a has = has_either xs ys a (by (zeros a has) (j.spans a has))
  where
    here : (b : ℤ) → Has (xs ++ ys) b → Has js b
    here b has = elim (has_either xs ys b has) [ inl x ↦ j.has_x b x | inr y ↦ j.has_y b y ]

    low_is : (s : Spans (xs ++ ys) a) → a ≡ pos 0 → IsZeroOrOne s.low → s.low ≡ a
    low_is s none (inl low) = low ∙ sym none
    low_is s none (inr low) = absurd (omega (arith, ints, none, low, s.from))

    high_is : (s : Spans (xs ++ ys) a) → a ≡ pos 1 → IsZeroOrOne s.high → s.high ≡ a
    high_is s one (inl high) = absurd (omega (arith, ints, one, high, s.to))
    high_is s one (inr high) = high ∙ sym one

    by : IsZeroOrOne a → Spans (xs ++ ys) a → Has (xs ++ ys) a
    by (inl none) s = subst (Has (xs ++ ys)) (low_is s none (zeros s.low (here s.low s.has_low))) s.has_low
    by (inr one) s = subst (Has (xs ++ ys)) (high_is s one (zeros s.high (here s.high s.has_high))) s.has_high

pub bit_either : (vars : List Variable) (one another cover : List (List ℤ)) → Covers vars one another cover → (r : Term) (a : ℤ) → IsBit (declared_sets vars) r → PlaceHas cover r a → PlaceHas one r a ⊎ PlaceHas another r a
bit_either vars one another cover k (Var v) a zeros has =
    bit_value_in (variable_at vars (number_of v)).bounded (set_of one (number_of v)) (set_of another (number_of v)) (set_of cover (number_of v)) (k.joins (number_of v)) (λ b h. declared_has vars cover (number_of v) b k.is_cover zeros h) a has
bit_either vars one another cover k (Const n) a zeros has = inl has
bit_either vars one another cover k (Not v) a zeros has =
    bit_value_in (variable_at vars (number_of v)).bounded (set_of one (number_of v)) (set_of another (number_of v)) (set_of cover (number_of v)) (k.joins (number_of v)) (λ b h. declared_has vars cover (number_of v) b k.is_cover zeros h) (pos 1 -ℤ a) has

alone_in : (inner outer : List (List ℤ)) → Inside inner outer → (r : Term) (a : ℤ) → IsAlone outer r a → IsAlone inner r a
alone_in inner outer i r a alone = λ b has. alone b (wider_place inner outer i r b has)

-- a part that has to be possible where a value of r is there
possible_join : (vars : List Variable) (lists : List Tuples) (c : Con) (says : Bool) (r : Term) (a : ℤ) (one another cover : List (List ℤ)) → Covers vars one another cover → IsBit (declared_sets vars) r
    → (PlaceHas one r a → PartsPossible lists c says one) → (PlaceHas another r a → PartsPossible lists c says another) → PlaceHas cover r a → PartsPossible lists c says cover
possible_join vars lists c says r a one another cover k zeros first second has = elim (bit_either vars one another cover k r a zeros has) [
  | inl x ↦ wider_parts lists c says one cover k.in_one (first x)
  | inr y ↦ wider_parts lists c says another cover k.in_another (second y)
]

-- of two things the one that is asked for
says_both : (says : Bool) {P Q R S T U : Type 0} → (P → R → T) → (Q → S → U) → IfSays says P Q → IfSays says R S → IfSays says T U
says_both true first second p r = first p r
says_both false first second q s = second q s

apart_both : (b : Bool) {P Q R S T U : Type 0} → (P → R → T) → (Q → S → U) → IfApart b P Q → IfApart b R S → IfApart b T U
apart_both true first second p r = first p r
apart_both false first second q s = second q s

-- a child under which a box is closed is possible
pub closed_possible : (vars : List Variable) (lists : List Tuples) (cs : Cons) (says : Bool) (box : List (List ℤ)) → OneClosed vars lists cs says box → OnePossible lists cs says box
closed_possible vars lists con.End says box one = one
closed_possible vars lists (con.More' p (more_of-Con c none) q (more_of-Cons cs nothing)) says box (inl both) = inl both.0
closed_possible vars lists (con.More' p (more_of-Con c none) q (more_of-Cons cs nothing)) says box (inr later) = inr (closed_possible vars lists cs says box later)

-- two children possible, or one closed
two_or_one : (vars : List Variable) (lists : List Tuples) (cs : Cons) (says : Bool) (one another cover : List (List ℤ)) → Covers vars one another cover
    → (OneClosed vars lists cs says one → OneClosed vars lists cs says another → TwoPossible lists cs says cover ⊎ OneClosed vars lists cs says cover)
    → TwoPossible lists cs says one ⊎ OneClosed vars lists cs says one → TwoPossible lists cs says another ⊎ OneClosed vars lists cs says another → TwoPossible lists cs says cover ⊎ OneClosed vars lists cs says cover
two_or_one vars lists cs says one another cover k both (inl two) second = inl (wider_two lists cs says one cover k.in_one two)
two_or_one vars lists cs says one another cover k both (inr only) (inl two) = inl (wider_two lists cs says another cover k.in_another two)
two_or_one vars lists cs says one another cover k both (inr only) (inr other) = both only other

mutual
  pub parts_join : (vars : List Variable) (lists : List Tuples) (c : Con) (says : Bool) (one another cover : List (List ℤ)) → Covers vars one another cover → AllByRecursion (IsBit (declared_sets vars)) (bits c)
      → PartsClosed vars lists c says one → PartsClosed vars lists c says another → PartsClosed vars lists c says cover
  parts_join vars lists (con.WatchedOr cs) says one another cover k zeros first second = says_both says (two_or_one vars lists cs true one another cover k (one_join vars lists cs true one another cover k zeros)) (each_join vars lists cs false one another cover k zeros) first second
  parts_join vars lists (con.WatchedAnd cs) says one another cover k zeros first second = says_both says (each_join vars lists cs true one another cover k zeros) (two_or_one vars lists cs false one another cover k (one_join vars lists cs false one another cover k zeros)) first second
  parts_join vars lists (con.Reify' p (more_of-Con c none) r) says one another cover k zeros first second =
      let inner = all_front (IsBit (declared_sets vars)) (bits c) (r ∷ []) zeros in
      let r_bit = (all_back (IsBit (declared_sets vars)) (bits c) (r ∷ []) zeros).0 in (
        possible_join vars lists c true r (bit says) one another cover k r_bit first.0 second.0,
        possible_join vars lists c false r (bit (not says)) one another cover k r_bit first.1 second.1,
        (λ alone. parts_join vars lists c true one another cover k inner (first.2 (alone_in one cover k.in_one r (bit says) alone)) (second.2 (alone_in another cover k.in_another r (bit says) alone))),
        (λ alone. parts_join vars lists c false one another cover k inner (first.3 (alone_in one cover k.in_one r (bit (not says)) alone)) (second.3 (alone_in another cover k.in_another r (bit (not says)) alone))),
      )
  parts_join vars lists (con.Reifyimply' p (more_of-Con c none) r) true one another cover k zeros first second = (
    possible_join vars lists c true r (pos 1) one another cover k (all_back (IsBit (declared_sets vars)) (bits c) (r ∷ []) zeros).0 first.0 second.0,
    (λ alone. parts_join vars lists c true one another cover k (all_front (IsBit (declared_sets vars)) (bits c) (r ∷ []) zeros) (first.1 (alone_in one cover k.in_one r (pos 1) alone)) (second.1 (alone_in another cover k.in_another r (pos 1) alone))),
  )
  parts_join vars lists (con.Reifyimply' p (more_of-Con c none) r) false one another cover k zeros first second = (
    leaf_join vars lists (con.WLiteral r (pos 1)) one another cover k first.0 second.0,
    parts_join vars lists c false one another cover k (all_front (IsBit (declared_sets vars)) (bits c) (r ∷ []) zeros) first.1 second.1,
  )
  parts_join vars lists c says one another cover k zeros first second = leaf_join vars lists (signed says c) one another cover k first second

  one_join : (vars : List Variable) (lists : List Tuples) (cs : Cons) (says : Bool) (one another cover : List (List ℤ)) → Covers vars one another cover → AllByRecursion (IsBit (declared_sets vars)) (bits_of cs)
      → OneClosed vars lists cs says one → OneClosed vars lists cs says another → TwoPossible lists cs says cover ⊎ OneClosed vars lists cs says cover
  one_join vars lists con.End says one another cover k zeros first second = absurd first
  one_join vars lists (con.More' p (more_of-Con c none) q (more_of-Cons cs nothing)) says one another cover k zeros (inl x) (inl y) =
      inr (inl (wider_parts lists c says one cover k.in_one x.0, parts_join vars lists c says one another cover k (all_front (IsBit (declared_sets vars)) (bits c) (bits_of cs) zeros) x.1 y.1))
  one_join vars lists (con.More' p (more_of-Con c none) q (more_of-Cons cs nothing)) says one another cover k zeros (inl x) (inr later) =
      inl (inl (wider_parts lists c says one cover k.in_one x.0, wider_one lists cs says another cover k.in_another (closed_possible vars lists cs says another later)))
  one_join vars lists (con.More' p (more_of-Con c none) q (more_of-Cons cs nothing)) says one another cover k zeros (inr later) (inl y) =
      inl (inl (wider_parts lists c says another cover k.in_another y.0, wider_one lists cs says one cover k.in_one (closed_possible vars lists cs says one later)))
  one_join vars lists (con.More' p (more_of-Con c none) q (more_of-Cons cs nothing)) says one another cover k zeros (inr x) (inr y) =
      ⊎_elim (λ two. inl (inr two)) (λ only. inr (inr only)) (one_join vars lists cs says one another cover k (all_back (IsBit (declared_sets vars)) (bits c) (bits_of cs) zeros) x y)

  each_join : (vars : List Variable) (lists : List Tuples) (cs : Cons) (says : Bool) (one another cover : List (List ℤ)) → Covers vars one another cover → AllByRecursion (IsBit (declared_sets vars)) (bits_of cs)
      → EachClosed vars lists cs says one → EachClosed vars lists cs says another → EachClosed vars lists cs says cover
  each_join vars lists con.End says one another cover k zeros first second = tt
  each_join vars lists (con.More' p (more_of-Con c none) q (more_of-Cons cs nothing)) says one another cover k zeros first second = (
    parts_join vars lists c says one another cover k (all_front (IsBit (declared_sets vars)) (bits c) (bits_of cs) zeros) first.0 second.0,
    each_join vars lists cs says one another cover k (all_back (IsBit (declared_sets vars)) (bits c) (bits_of cs) zeros) first.1 second.1,
  )

pub closed_join : (vars : List Variable) (lists : List Tuples) (c : Con) (says : Bool) (one another cover : List (List ℤ)) → Covers vars one another cover → AllByRecursion (IsBit (declared_sets vars)) (bits c)
    → Closed vars lists c says one → Closed vars lists c says another → Closed vars lists c says cover
closed_join vars lists c says one another cover k zeros first second =
    apart_both is_taken_apart (parts_join vars lists c says one another cover k zeros) (leaf_join vars lists (signed says c) one another cover k) first second

pub covers_join : (vars : List Variable) (one another : List (List ℤ)) → AllByRecursion (λ var. Ascends var.declared) vars → IsBox vars one → IsBox vars another → Covers vars one another (join vars one another)
covers_join vars one another up is_one is_another = let j = is_join vars one another up is_one is_another in record {
  is_one = is_one;
  is_another = is_another;
  is_cover = j.lawful;
  in_one = j.around_one;
  in_another = j.around_another;
  joins = joins_at vars one another up is_one is_another;
}

-- A box that is closed under a constraint can meet it.
use Rattle.std.proofs.Common.{◌≡◌, ℕ, zero, suc, ◌<◌, ℤ, pos, ◌-ℤ◌, ◌⊎◌, inl, inr, ⊎_elim, Bool, true, false, not, List, [], ◌∷◌, length, map, slice_get, Some, refl, sym, subst, ap, arith}
use Rattle.std.proofs.lemmas.Int.{ints}
use Rattle.std.specs.List.{AllByRecursion}
use Rattle.mn_model.specs.Decided.{Decided, decide_int}
use Rattle.mn_model.specs.Domain.{Ascends, Has}
use Rattle.mn_model.specs.Lawful.{IsBit, IsLawfulTerm}
use Rattle.mn_model.specs.Parts.{places, places_of, bits, bits_of}
use Rattle.mn_model.specs.Variable.{number_of}
use Rattle.mn_model.specs.declared.constraint.Con.{Con}
use Rattle.mn_model.specs.declared.constraint.Cons.{Cons}
use Rattle.mn_model.specs.declared.constraint.Con.TheVariants as con
use Rattle.mn_model.specs.declared.constraint.Con.TheBlock.{more_of-Con, more_of-Cons}
use Rattle.mn_model.specs.declared.constraint.Term.{Term}
use Rattle.mn_model.specs.declared.constraint.Term.TheVariants.{Var, Const, Not}
use Rattle.mn_model.specs.declared.declaration.Tuples.{Tuples}
use Rattle.mn_model.proofs.Lists.{all_at, all_back, all_front, all_so}
use Rattle.mn_boxes.specs.Boxes.{IsBox, set_of}
use Rattle.mn_boxes.specs.Places.{PlaceHas, IsPlaceEnd}
use Rattle.mn_boxes.specs.Sets.{IsEnd, Variable}
use Rattle.mn_boxes.proofs.Members.{so}
use Rattle.mn_boxes.proofs.Quiet.{ascends_at}
use Rattle.mn_meaning.specs.Laws.{IsZeroOrOne}
use Rattle.mn_meaning.specs.Meaning.{at}
use Rattle.mn_closure.specs.Closed.{LeafClosed, signed, bit, PartsPossible, EachPossible, Possible, PartsClosed, EachClosed, Closed, is_taken_apart}
use Rattle.mn_closure.specs.Closures.{singles}
use Rattle.mn_closure.specs.Levels.{Level, Arc, Fixed, Hull, Last, level}
use Rattle.mn_closure.specs.Ready.{Suits, declared_sets}
use Rattle.mn_closure.specs.Seen.{IsSameAt}
use Rattle.mn_closure.specs.Supports.{SomeChoice, IsOpen, SomeOpen, SupportedAt, LeafPossible, LeafPossibleAt}
use Rattle.mn_closure.proofs.Covering.{closed_possible, declared_has}
use Rattle.mn_closure.specs.Deciding.{decide_some_open}
use Rattle.mn_closure.proofs.Denied.{literal_possible}
use Rattle.mn_closure.proofs.Same.{all_grow, same_leaf, same_places_back}
use Rattle.mn_closure.proofs.Singles.{Known, holds_possible, leaf_holds}
use Rattle.mn_closure.proofs.Solved.{bit_is, two_one}
use Rattle.mn_closure.proofs.Solving.{known_term}
use Rattle.mn_closure.proofs.Turned.{all_negation, lawful_turns}
use Rattle.mn_closure.proofs.Wider.{apart_either, grown_leaf, says_either}

-- ---- a place of a box has a value, and an end

filled_at : (vars : List Variable) (box : List (List ℤ)) (v : ℕ) → IsBox vars box → v < length (declared_sets vars) → set_of box v ≡ [] → ⊥
filled_at [] box v is known = absurd (omega (arith, known))
filled_at (var ∷ vars) [] v is known = absurd is
filled_at (var ∷ vars) (xs ∷ box) zero is known = is.0.filled
filled_at (var ∷ vars) (xs ∷ box) (suc v) is known = filled_at vars box v is.1 (omega (arith, known))

-- the least value
record HasEnd (xs : List ℤ) : Type 0 where
  end : ℤ
  there : Has xs end
  is_end : IsEnd end xs

has_end : (xs : List ℤ) → (xs ≡ [] → ⊥) → HasEnd xs
has_end [] filled = absurd (filled refl)
has_end (x ∷ xs) filled = record { end = x; there = inl refl; is_end = inl refl }

record HasEndAt (box : List (List ℤ)) (t : Term) : Type 0 where
  end : ℤ
  there : PlaceHas box t end
  is_end : IsPlaceEnd box t end

end_at : (vars : List Variable) (box : List (List ℤ)) (t : Term) → IsBox vars box → IsLawfulTerm (declared_sets vars) t → HasEndAt box t
end_at vars box (Var v) is known = let e = has_end (set_of box (number_of v)) (filled_at vars box (number_of v) is known) in record { end = e.end; there = e.there; is_end = e.is_end }
end_at vars box (Const k) is known = record { end = k; there = refl; is_end = refl }
end_at vars box (Not v) is known =
    let e = has_end (set_of box (number_of v)) (filled_at vars box (number_of v) is known.0) in
    let twice : e.end ≡ pos 1 -ℤ (pos 1 -ℤ e.end) = omega (arith, ints) in
    record { end = pos 1 -ℤ e.end; there = subst (Has (set_of box (number_of v))) twice e.there; is_end = subst (λ a. IsEnd a (set_of box (number_of v))) twice e.is_end }

-- ---- where no place is open, the sets at the places are those of a box of single values

-- the least value of each set
abbrev firsts : List (List ℤ) → List ℤ
firsts box = map (λ xs. at xs 0) box

as_many : (vars : List Variable) (box : List (List ℤ)) → IsBox vars box → length (declared_sets vars) ≡ length (firsts box)
as_many [] [] is = refl
as_many [] (xs ∷ box) is = absurd is
as_many (var ∷ vars) [] is = absurd is
as_many (var ∷ vars) (xs ∷ box) is = ap suc (as_many vars box is.1)

single_same : (box : List (List ℤ)) (v : ℕ) (x : ℤ) → set_of box v ≡ x ∷ [] → set_of box v ≡ set_of (singles (firsts box)) v
single_same [] v x one = refl
single_same (xs ∷ box) zero x one = subst (λ ys. ys ≡ at ys 0 ∷ []) (sym one) refl
single_same (xs ∷ box) (suc v) x one = single_same box v x one

one_value : (xs : List ℤ) → (xs ≡ [] → ⊥) → Ascends xs → ((a b : ℤ) → Has xs a → Has xs b → a ≡ b) → (x : ℤ) × (xs ≡ x ∷ [])
one_value [] filled up same = absurd (filled refl)
one_value (x ∷ []) filled up same = (x, refl)
one_value (x ∷ y ∷ ys) filled up same = absurd (let less = up.0.0 in let is = same x y (inl refl) (inr (inl refl)) in omega (arith, ints, less, is))

set_same : (vars : List Variable) (box : List (List ℤ)) (v : ℕ) → IsBox vars box → v < length (declared_sets vars) → ((a b : ℤ) → Has (set_of box v) a → Has (set_of box v) b → a ≡ b) → set_of box v ≡ set_of (singles (firsts box)) v
set_same vars box v is known same = let one = one_value (set_of box v) (filled_at vars box v is known) (ascends_at vars box v is) same in single_same box v one.0 one.1

-- two values at a place that isn't open are the same
not_open : (box : List (List ℤ)) (t : Term) → (IsOpen box t → ⊥) → (a b : ℤ) → PlaceHas box t a → PlaceHas box t b → a ≡ b
not_open box t shut a b has_a has_b = so (decide_int a b) (λ differ. shut (record { one = a; another = b; has_one = has_a; has_another = has_b; differ = differ }))

turned_there : (xs : List ℤ) (a : ℤ) → Has xs a → Has xs (pos 1 -ℤ (pos 1 -ℤ a))
turned_there xs a has = let twice : a ≡ pos 1 -ℤ (pos 1 -ℤ a) = omega (arith, ints) in subst (Has xs) twice has

shut_same : (vars : List Variable) (box : List (List ℤ)) (t : Term) → IsBox vars box → IsLawfulTerm (declared_sets vars) t → (IsOpen box t → ⊥) → IsSameAt box (singles (firsts box)) t
shut_same vars box (Var v) is known shut = set_same vars box (number_of v) is known (not_open box (Var v) shut)
shut_same vars box (Const k) is known shut = tt
shut_same vars box (Not v) is known shut = set_same vars box (number_of v) is known.0 (λ a b has_a has_b.
    let same = not_open box (Not v) shut (pos 1 -ℤ a) (pos 1 -ℤ b) (turned_there (set_of box (number_of v)) a has_a) (turned_there (set_of box (number_of v)) b has_b) in omega (arith, ints, same))

all_places : (P Q : Term → Type 0) (ts : List Term) → AllByRecursion P ts → ((i : ℕ) (t : Term) → slice_get ts i ≡ Some t → P t → Q t) → AllByRecursion Q ts
all_places P Q [] all so_is = tt
all_places P Q (t ∷ ts) all so_is = (so_is 0 t refl all.0, all_places P Q ts all.1 (λ i. so_is (suc i)))

-- ---- a leaf

abbrev Named : List Variable → Con → Type 0
Named vars c = AllByRecursion (IsLawfulTerm (declared_sets vars)) (places c)

-- without an open place it holds of the values
shut_met : (vars : List Variable) (lists : List Tuples) (c : Con) (box : List (List ℤ)) → IsBox vars box → Named vars c → LeafClosed vars lists c box → (SomeOpen c box → ⊥) → LeafPossible lists c box
shut_met vars lists c box is named closed shut =
    let same = all_places (IsLawfulTerm (declared_sets vars)) (IsSameAt box (singles (firsts box))) (places c) named (λ i t stands lawful. shut_same vars box t is lawful (λ two. shut (record { place = i; term = t; stands = stands; is_open = two }))) in
    let known = all_so (IsLawfulTerm (declared_sets vars)) (Known (length (firsts box))) (known_term (declared_sets vars) (length (firsts box)) (as_many vars box is)) (places c) named in
    let holds = leaf_holds vars lists (firsts box) c known (same_leaf vars lists c box (singles (firsts box)) same closed) in
    grown_leaf (level c) lists c (singles (firsts box)) box (all_grow (singles (firsts box)) box (places c) (same_places_back box (singles (firsts box)) (places c) same)) (holds_possible (level c) lists (firsts box) c known holds)

-- with one, an end there is supported
open_choice : (vars : List Variable) (lists : List Tuples) (c : Con) (box : List (List ℤ)) → IsBox vars box → Named vars c → LeafClosed vars lists c box → SomeOpen c box → level c ≡ Arc → SomeChoice lists c box
open_choice vars lists c box is named closed some arc =
    let e = end_at vars box some.term is (all_at (IsLawfulTerm (declared_sets vars)) (places c) some.place some.term named some.stands) in
    let supported = closed.supported some.place some.term e.end some.stands (record { there = e.there; ends = λ alone. e.is_end }) in
    let with_end = subst (λ l. SupportedAt l lists c some.place e.end box) arc supported in
    record { values = with_end.values; chosen = with_end.chosen; meets = with_end.meets }

open_met : (l : Level) (lists : List Tuples) (c : Con) (box : List (List ℤ)) → SomeOpen c box → (l ≡ Arc → SomeChoice lists c box) → LeafPossibleAt l lists c box
open_met Arc lists c box some choice = choice refl
open_met Fixed lists c box some choice = inl some
open_met Hull lists c box some choice = inl some
open_met Last lists c box some choice = inl some

leaf_met : (vars : List Variable) (lists : List Tuples) (c : Con) (box : List (List ℤ)) → IsBox vars box → Named vars c → LeafClosed vars lists c box → LeafPossible lists c box
leaf_met vars lists c box is named closed = by (decide_some_open c box)
  where
    by : Decided (SomeOpen c box) → LeafPossible lists c box
    by (inl some) = open_met (level c) lists c box some (open_choice vars lists c box is named closed some)
    by (inr shut) = shut_met vars lists c box is named closed shut

signed_named : (vars : List Variable) (c : Con) (says : Bool) → Named vars c → AllByRecursion (IsBit (declared_sets vars)) (bits c) → Named vars (signed says c)
signed_named vars c true named zeros = named
signed_named vars c false named zeros = all_negation (IsLawfulTerm (declared_sets vars)) (IsBit (declared_sets vars)) (lawful_turns (declared_sets vars)) c zeros named

signed_met : (vars : List Variable) (lists : List Tuples) (c : Con) (says : Bool) (box : List (List ℤ)) → IsBox vars box → Named vars c → AllByRecursion (IsBit (declared_sets vars)) (bits c) → LeafClosed vars lists (signed says c) box → LeafPossible lists (signed says c) box
signed_met vars lists c says box is named zeros closed = leaf_met vars lists (signed says c) box is (signed_named vars c says named zeros) closed

-- ---- constraints by their parts

-- the values of a 0/1 term
place_bit : (vars : List Variable) (box : List (List ℤ)) (r : Term) (a : ℤ) → IsBox vars box → IsBit (declared_sets vars) r → PlaceHas box r a → IsZeroOrOne a
place_bit vars box (Var v) a is zeros has = declared_has vars box (number_of v) a is zeros has
place_bit vars box (Const k) a is zeros has = subst IsZeroOrOne has zeros
place_bit vars box (Not v) a is zeros has = ⊎_elim (λ none. inr (omega (arith, ints, none))) (λ one. inl (omega (arith, ints, one))) (declared_has vars box (number_of v) (pos 1 -ℤ a) is zeros has)

bit_there : (vars : List Variable) (box : List (List ℤ)) (r : Term) (says : Bool) → IsBox vars box → IsLawfulTerm (declared_sets vars) r → IsBit (declared_sets vars) r → PlaceHas box r (bit says) ⊎ PlaceHas box r (bit (not says))
bit_there vars box r says is known zeros =
    let e = end_at vars box r is known in
    ⊎_elim (λ same. inl (subst (PlaceHas box r) same e.there)) (λ same. inr (subst (PlaceHas box r) same e.there)) (bit_is says e.end (place_bit vars box r e.end is zeros e.there))

mutual
  parts_met : (vars : List Variable) (lists : List Tuples) (c : Con) (says : Bool) (box : List (List ℤ)) → IsBox vars box → Named vars c → AllByRecursion (IsBit (declared_sets vars)) (bits c) → PartsClosed vars lists c says box → PartsPossible lists c says box
  parts_met vars lists (con.WatchedOr cs) says box is named zeros closed = says_either says (⊎_elim (two_one lists cs true box) (closed_possible vars lists cs true box)) (each_met vars lists cs false box is named zeros) closed
  parts_met vars lists (con.WatchedAnd cs) says box is named zeros closed = says_either says (each_met vars lists cs true box is named zeros) (⊎_elim (two_one lists cs false box) (closed_possible vars lists cs false box)) closed
  parts_met vars lists (con.Reify' p (more_of-Con c none) r) says box is named zeros closed =
      ⊎_elim (λ has. inl (has, closed.0 has)) (λ has. inr (has, closed.1 has))
      (bit_there vars box r says is (all_back (IsLawfulTerm (declared_sets vars)) (places c) (r ∷ []) named).0 (all_back (IsBit (declared_sets vars)) (bits c) (r ∷ []) zeros).0)
  parts_met vars lists (con.Reifyimply' p (more_of-Con c none) r) says box is named zeros closed =
      let at_r = (all_back (IsLawfulTerm (declared_sets vars)) (places c) (r ∷ []) named).0 in
      says_either says
      (λ both. ⊎_elim (λ has. inr (has, both.0 has)) inl (bit_there vars box r true is at_r (all_back (IsBit (declared_sets vars)) (bits c) (r ∷ []) zeros).0))
      (λ both. (
        (literal_possible lists box r).0 (leaf_met vars lists (con.WLiteral r (pos 1)) box is (at_r, tt) both.0),
        parts_met vars lists c false box is (all_front (IsLawfulTerm (declared_sets vars)) (places c) (r ∷ []) named) (all_front (IsBit (declared_sets vars)) (bits c) (r ∷ []) zeros) both.1,
      ))
      closed
  parts_met vars lists c says box is named zeros closed = signed_met vars lists c says box is named zeros closed

  each_met : (vars : List Variable) (lists : List Tuples) (cs : Cons) (says : Bool) (box : List (List ℤ)) → IsBox vars box → AllByRecursion (IsLawfulTerm (declared_sets vars)) (places_of cs) → AllByRecursion (IsBit (declared_sets vars)) (bits_of cs)
      → EachClosed vars lists cs says box → EachPossible lists cs says box
  each_met vars lists con.End says box is named zeros closed = tt
  each_met vars lists (con.More' p (more_of-Con c none) q (more_of-Cons cs nothing)) says box is named zeros closed = (
    parts_met vars lists c says box is (all_front (IsLawfulTerm (declared_sets vars)) (places c) (places_of cs) named) (all_front (IsBit (declared_sets vars)) (bits c) (bits_of cs) zeros) closed.0,
    each_met vars lists cs says box is (all_back (IsLawfulTerm (declared_sets vars)) (places c) (places_of cs) named) (all_back (IsBit (declared_sets vars)) (bits c) (bits_of cs) zeros) closed.1,
  )

pub closed_met : (vars : List Variable) (lists : List Tuples) (c : Con) (says : Bool) (box : List (List ℤ)) → IsBox vars box → Suits vars c → Closed vars lists c says box → Possible lists c says box
closed_met vars lists c says box is suits closed = apart_either is_taken_apart (parts_met vars lists c says box is suits.named suits.bits) (signed_met vars lists c says box is suits.named suits.bits) closed

-- A box of single values is closed under a constraint exactly where the constraint holds, and under its negation where not.
use Rattle.std.proofs.Common.{◌≡◌, ℕ, ℤ, pos, ◌⊎◌, inl, inr, ⊎_elim, ◌↔◌, Bool, true, false, not, List, [], ◌∷◌, length, map, refl, sym, ◌∙◌, arith}
use Rattle.std.proofs.lemmas.Int.{ints}
use Rattle.std.specs.List.{AllByRecursion}
use Rattle.mn_model.specs.Decided.{Decided, decide_int}
use Rattle.mn_model.specs.Negation.{negation, other}
use Rattle.mn_model.specs.Parts.{places, places_of, bits, bits_of, IsShaped, AreShaped}
use Rattle.mn_model.specs.declared.constraint.Con.{Con}
use Rattle.mn_model.specs.declared.constraint.Cons.{Cons}
use Rattle.mn_model.specs.declared.constraint.Con.TheVariants as con
use Rattle.mn_model.specs.declared.constraint.Con.TheBlock.{more_of-Con, more_of-Cons}
use Rattle.mn_model.specs.declared.constraint.Term.{Term}
use Rattle.mn_model.specs.declared.constraint.Term.TheVariants.{Var, Const, Not}
use Rattle.mn_model.specs.declared.declaration.Tuples.{Tuples}
use Rattle.mn_model.proofs.Lists.{all_back, all_front}
use Rattle.mn_boxes.specs.Places.{PlaceHas}
use Rattle.mn_boxes.specs.Sets.{Variable}
use Rattle.mn_meaning.specs.Laws.{IsZeroOrOne, BitsAreBits}
use Rattle.mn_meaning.specs.Meaning.{at, value_of, SomeMeet, EachMeets, Holds, decide_meets}
use Rattle.mn_meaning.proofs.Negating.{front_is, rest_is, behind_is, negation_holds}
use Rattle.mn_closure.specs.Closed.{LeafClosed, signed, bit, IfSays, IfApart, IsAlone, PartsPossible, OnePossible, EachPossible, TwoPossible, Possible, PartsClosed, OneClosed, EachClosed, Closed, is_taken_apart}
use Rattle.mn_closure.specs.Closures.{singles}
use Rattle.mn_closure.specs.Levels.{level}
use Rattle.mn_closure.specs.Supports.{LeafPossible}
use Rattle.mn_closure.proofs.Covering.{closed_possible}
use Rattle.mn_closure.proofs.Turned.{all_signed}
use Rattle.mn_closure.proofs.Singles.{Known, place_is, place_has, possible_holds, holds_possible, leaf_holds, holds_leaf}

-- the negation names the same variables
known_turned : (n : ℕ) (r : Term) → Unit {0} → Known n r → Known n (other r)
known_turned n (Var v) bit known = known
known_turned n (Const k) bit known = tt
known_turned n (Not v) bit known = known

known_negation : (n : ℕ) (c : Con) → AllByRecursion (Known n) (places c) → AllByRecursion (Known n) (places (negation c))
known_negation n c known = all_signed (Known n) (record { one = tt; less = tt; turned = known_turned n }) false c known

-- what is so exactly where something else is
pub through : {P Q R : Type 0} → P ↔ Q → Q ↔ R → P ↔ R
through pq qr = (λ p. qr.0 (pq.0 p), λ r. pq.1 (qr.1 r))

pub either_iff : {P Q R S : Type 0} → P ↔ R → Q ↔ S → (P ⊎ Q) ↔ (R ⊎ S)
either_iff pr qs = (⊎_elim (λ p. inl (pr.0 p)) (λ q. inr (qs.0 q)), ⊎_elim (λ r. inl (pr.1 r)) (λ s. inr (qs.1 s)))

pub both_iff : {P Q R S : Type 0} → P ↔ R → Q ↔ S → (P × Q) ↔ (R × S)
both_iff pr qs = (λ b. (pr.0 b.0, qs.0 b.1), λ b. (pr.1 b.0, qs.1 b.1))

says_iff : (says : Bool) {P Q R S : Type 0} → P ↔ R → Q ↔ S → IfSays says P Q ↔ IfSays says R S
says_iff true pr qs = pr
says_iff false pr qs = qs

apart_iff : (b : Bool) {P Q R : Type 0} → P ↔ R → Q ↔ R → IfApart b P Q ↔ R
apart_iff true pr qr = pr
apart_iff false pr qr = qr

-- P where it is asserted, not P where it is denied
abbrev pub Says : Bool → Type 0 → Type 0
Says says P = IfSays says P (P → ⊥)

-- 0/1 terms
pub bit_is : (says : Bool) (b : ℤ) → IsZeroOrOne b → (b ≡ bit says) ⊎ (b ≡ bit (not says))
bit_is true b (inl none) = inr none
bit_is true b (inr one) = inl one
bit_is false b (inl none) = inl none
bit_is false b (inr one) = inr one

bits_differ : (says : Bool) (b : ℤ) → b ≡ bit says → b ≡ bit (not says) → ⊥
bits_differ true b one none = omega (arith, ints, one, none)
bits_differ false b none one = omega (arith, ints, one, none)

reify_says : (says : Bool) (b : ℤ) (P : Type 0) → IsZeroOrOne b → Decided P → (((b ≡ bit says) × P) ⊎ ((b ≡ bit (not says)) × (P → ⊥))) ↔ Says says ((b ≡ pos 1) ↔ P)
reify_says true b P zeros decided = (to, from zeros)
  where
    to : ((b ≡ pos 1) × P) ⊎ ((b ≡ pos 0) × (P → ⊥)) → (b ≡ pos 1) ↔ P
    to (inl both) = (λ one. both.1, λ p. both.0)
    to (inr both) = (λ one. absurd (omega (arith, ints, one, both.0)), λ p. absurd (both.1 p))

    from : IsZeroOrOne b → (b ≡ pos 1) ↔ P → ((b ≡ pos 1) × P) ⊎ ((b ≡ pos 0) × (P → ⊥))
    from (inl none) iff = inr (none, λ p. omega (arith, ints, none, iff.1 p))
    from (inr one) iff = inl (one, iff.0 one)
reify_says false b P zeros decided = (to, from zeros decided)
  where
    to : ((b ≡ pos 0) × P) ⊎ ((b ≡ pos 1) × (P → ⊥)) → ((b ≡ pos 1) ↔ P) → ⊥
    to (inl both) iff = omega (arith, ints, both.0, iff.1 both.1)
    to (inr both) iff = both.1 (iff.0 both.0)

    from : IsZeroOrOne b → Decided P → (((b ≡ pos 1) ↔ P) → ⊥) → ((b ≡ pos 0) × P) ⊎ ((b ≡ pos 1) × (P → ⊥))
    from (inl none) (inl p) never = inl (none, p)
    from (inl none) (inr not_p) never = absurd (never (λ one. absurd (omega (arith, ints, one, none)), λ p. absurd (not_p p)))
    from (inr one) (inl p) never = absurd (never (λ e. p, λ q. one))
    from (inr one) (inr not_p) never = inr (one, not_p)

reify_parts : {A B X Y PT PF CT CF E F P N : Type 0} → A ↔ E → B ↔ F → X ↔ E → Y ↔ F → PT ↔ P → PF ↔ N → CT ↔ P → CF ↔ N → E ⊎ F → (E → F → ⊥) → ((A → PT) × (B → PF) × (X → CT) × (Y → CF)) ↔ ((E × P) ⊎ (F × N))
reify_parts {A} {B} {X} {Y} {PT} {PF} {CT} {CF} {E} {F} {P} {N} a b x y pt pf ct cf one differ = (λ parts. ⊎_elim (λ e. inl (e, ct.0 (parts.2 (x.1 e)))) (λ f. inr (f, cf.0 (parts.3 (y.1 f)))) one, from)
  where
    from : (E × P) ⊎ (F × N) → (A → PT) × (B → PF) × (X → CT) × (Y → CF)
    from (inl both) = (λ h. pt.1 both.1, λ h. absurd (differ both.0 (b.0 h)), λ h. ct.1 both.1, λ h. absurd (differ both.0 (y.0 h)))
    from (inr both) = (λ h. absurd (differ (a.0 h) both.0), λ h. pf.1 both.1, λ h. absurd (differ (x.0 h) both.0), λ h. cf.1 both.1)

implies_says : (b : ℤ) (P : Type 0) → IsZeroOrOne b → ((b ≡ pos 0) ⊎ ((b ≡ pos 1) × P)) ↔ (b ≡ pos 1 → P)
implies_says b P zeros = (to, from zeros)
  where
    to : (b ≡ pos 0) ⊎ ((b ≡ pos 1) × P) → b ≡ pos 1 → P
    to (inl none) one = absurd (omega (arith, ints, one, none))
    to (inr both) one = both.1

    from : IsZeroOrOne b → (b ≡ pos 1 → P) → (b ≡ pos 0) ⊎ ((b ≡ pos 1) × P)
    from (inl none) h = inl none
    from (inr one) h = inr (one, h one)

implied_not : {E P : Type 0} → Decided E → (E × (P → ⊥)) ↔ ((E → P) → ⊥)
implied_not {E} {P} decided = (λ both h. both.1 (h both.0), from decided)
  where
    from : Decided E → ((E → P) → ⊥) → E × (P → ⊥)
    from (inl e) never = (e, λ p. never (λ o. p))
    from (inr none) never = absurd (never (λ e. absurd (none e)))

imply_parts : {A X PT CT E P : Type 0} → A ↔ E → X ↔ E → PT ↔ P → CT ↔ P → ((A → PT) × (X → CT)) ↔ (E → P)
imply_parts a x pt ct = (λ parts e. ct.0 (parts.1 (x.1 e)), λ h. (λ k. pt.1 (h (a.0 k)), λ k. ct.1 (h (x.0 k))))

-- what stands at a place, and what stands there alone
has_iff : (s : List ℤ) (r : Term) (a : ℤ) → Known (length s) r → PlaceHas (singles s) r a ↔ (value_of (at s) r ≡ a)
has_iff s r a known = (place_is s r a, place_has s r a known)

alone_iff : (s : List ℤ) (r : Term) (a : ℤ) → Known (length s) r → IsAlone (singles s) r a ↔ (value_of (at s) r ≡ a)
alone_iff s r a known = (λ alone. alone (value_of (at s) r) (place_has s r (value_of (at s) r) known refl), λ is b has. sym (place_is s r b has) ∙ is)

-- leaves
leaf_iff : (vars : List Variable) (lists : List Tuples) (s : List ℤ) (c : Con) → AllByRecursion (Known (length s)) (places c) → LeafClosed vars lists c (singles s) ↔ Holds lists s c
leaf_iff vars lists s c known = (leaf_holds vars lists s c known, holds_leaf vars lists s c known)

leaf_says : (vars : List Variable) (lists : List Tuples) (s : List ℤ) (c : Con) (says : Bool) → AllByRecursion (Known (length s)) (places c) → BitsAreBits (at s) c → IsShaped c → LeafClosed vars lists (signed says c) (singles s) ↔ Says says (Holds lists s c)
leaf_says vars lists s c true known zeros shaped = leaf_iff vars lists s c known
leaf_says vars lists s c false known zeros shaped = through (leaf_iff vars lists s (negation c) (known_negation (length s) c known)) (negation_holds lists (at s) c shaped zeros)

possible_iff : (lists : List Tuples) (s : List ℤ) (c : Con) → AllByRecursion (Known (length s)) (places c) → LeafPossible lists c (singles s) ↔ Holds lists s c
possible_iff lists s c known = (possible_holds (level c) lists s c, holds_possible (level c) lists s c known)

leaf_possible : (lists : List Tuples) (s : List ℤ) (c : Con) (says : Bool) → AllByRecursion (Known (length s)) (places c) → BitsAreBits (at s) c → IsShaped c → LeafPossible lists (signed says c) (singles s) ↔ Says says (Holds lists s c)
leaf_possible lists s c true known zeros shaped = possible_iff lists s c known
leaf_possible lists s c false known zeros shaped = through (possible_iff lists s (negation c) (known_negation (length s) c known)) (negation_holds lists (at s) c shaped zeros)

-- some child, and each child, holds or doesn't
abbrev SomeSays : List Tuples → List ℤ → Cons → Bool → Type 0
SomeSays lists s con.End says = ⊥
SomeSays lists s (con.More' p (more_of-Con c none) q (more_of-Cons cs nothing)) says = Says says (Holds lists s c) ⊎ SomeSays lists s cs says

abbrev EachSays : List Tuples → List ℤ → Cons → Bool → Type 0
EachSays lists s con.End says = Unit {0}
EachSays lists s (con.More' p (more_of-Con c none) q (more_of-Cons cs nothing)) says = Says says (Holds lists s c) × EachSays lists s cs says

some_meets : (lists : List Tuples) (s : List ℤ) (cs : Cons) → SomeSays lists s cs true ↔ SomeMeet lists cs (map (value_of (at s)) (places_of cs))
some_meets lists s con.End = (λ h. h, λ h. h)
some_meets lists s (con.More' p (more_of-Con c none) q (more_of-Cons cs nothing)) =
    rw (front_is (value_of (at s)) (places c) (places_of cs), rest_is (value_of (at s)) (places c) (places_of cs))
    (either_iff (λ h. h, λ h. h) (some_meets lists s cs))

each_meets : (lists : List Tuples) (s : List ℤ) (cs : Cons) → EachSays lists s cs true ↔ EachMeets lists cs (map (value_of (at s)) (places_of cs))
each_meets lists s con.End = (λ h. h, λ h. h)
each_meets lists s (con.More' p (more_of-Con c none) q (more_of-Cons cs nothing)) =
    rw (front_is (value_of (at s)) (places c) (places_of cs), rest_is (value_of (at s)) (places c) (places_of cs))
    (both_iff (λ h. h, λ h. h) (each_meets lists s cs))

neither : {P R S : Type 0} → R ↔ (S → ⊥) → ((P → ⊥) × R) ↔ ((P ⊎ S) → ⊥)
neither rs = (λ both either. ⊎_elim both.0 (rs.0 both.1) either, λ none. (λ p. none (inl p), rs.1 (λ s. none (inr s))))

not_both : {P R S : Type 0} → Decided P → R ↔ (S → ⊥) → ((P → ⊥) ⊎ R) ↔ ((P × S) → ⊥)
not_both {P} {R} {S} decided rs = (λ either both. ⊎_elim (λ n. n both.0) (λ r. rs.0 r both.1) either, from decided)
  where
    from : Decided P → ((P × S) → ⊥) → (P → ⊥) ⊎ R
    from (inl p) never = inr (rs.1 (λ s. never (p, s)))
    from (inr none) never = inl none

none_meets : (lists : List Tuples) (s : List ℤ) (cs : Cons) → EachSays lists s cs false ↔ (SomeMeet lists cs (map (value_of (at s)) (places_of cs)) → ⊥)
none_meets lists s con.End = (λ h never. never, λ h. tt)
none_meets lists s (con.More' p (more_of-Con c none) q (more_of-Cons cs nothing)) =
    rw (front_is (value_of (at s)) (places c) (places_of cs), rest_is (value_of (at s)) (places c) (places_of cs))
    (neither (none_meets lists s cs))

some_fails : (lists : List Tuples) (s : List ℤ) (cs : Cons) → SomeSays lists s cs false ↔ (EachMeets lists cs (map (value_of (at s)) (places_of cs)) → ⊥)
some_fails lists s con.End = (λ never all. never, λ h. h tt)
some_fails lists s (con.More' p (more_of-Con c none) q (more_of-Cons cs nothing)) =
    rw (front_is (value_of (at s)) (places c) (places_of cs), rest_is (value_of (at s)) (places c) (places_of cs))
    (not_both (decide_meets lists c (map (value_of (at s)) (places c))) (some_fails lists s cs))

pub two_one : (lists : List Tuples) (cs : Cons) (says : Bool) (box : List (List ℤ)) → TwoPossible lists cs says box → OnePossible lists cs says box
two_one lists con.End says box two = two
two_one lists (con.More' p (more_of-Con c none) q (more_of-Cons cs nothing)) says box (inl both) = inl both.0
two_one lists (con.More' p (more_of-Con c none) q (more_of-Cons cs nothing)) says box (inr later) = inr (two_one lists cs says box later)

-- a 0/1 term of an assignment
abbrev Bit : List ℤ → Term → Type 0
Bit s t = IsZeroOrOne (value_of (at s) t)

-- the box can meet what holds there, and nothing else
mutual
  pub parts_possible : (lists : List Tuples) (s : List ℤ) (c : Con) (says : Bool) → AllByRecursion (Known (length s)) (places c) → AllByRecursion (Bit s) (bits c) → IsShaped c
      → PartsPossible lists c says (singles s) ↔ Says says (Holds lists s c)
  parts_possible lists s (con.WatchedOr cs) says known zeros shaped = says_iff says (through (one_possible lists s cs true known zeros shaped) (some_meets lists s cs)) (through (each_possible lists s cs false known zeros shaped) (none_meets lists s cs))
  parts_possible lists s (con.WatchedAnd cs) says known zeros shaped = says_iff says (through (each_possible lists s cs true known zeros shaped) (each_meets lists s cs)) (through (one_possible lists s cs false known zeros shaped) (some_fails lists s cs))
  parts_possible lists s (con.Reify' p (more_of-Con c none) r) says known zeros shaped =
      let k = all_front (Known (length s)) (places c) (r ∷ []) known in
      let k_r = (all_back (Known (length s)) (places c) (r ∷ []) known).0 in
      let z = all_front (Bit s) (bits c) (r ∷ []) zeros in
      let z_r = (all_back (Bit s) (bits c) (r ∷ []) zeros).0 in
      rw (front_is (value_of (at s)) (places c) (r ∷ []), behind_is (value_of (at s)) (places c) r [])
      (through
      (either_iff (both_iff (has_iff s r (bit says) k_r) (parts_possible lists s c true k z shaped)) (both_iff (has_iff s r (bit (not says)) k_r) (parts_possible lists s c false k z shaped)))
      (reify_says says (value_of (at s) r) (Holds lists s c) z_r (decide_meets lists c (map (value_of (at s)) (places c)))))
  parts_possible lists s (con.Reifyimply' p (more_of-Con c none) r) says known zeros shaped =
      let k = all_front (Known (length s)) (places c) (r ∷ []) known in
      let k_r = (all_back (Known (length s)) (places c) (r ∷ []) known).0 in
      let z = all_front (Bit s) (bits c) (r ∷ []) zeros in
      let z_r = (all_back (Bit s) (bits c) (r ∷ []) zeros).0 in
      rw (front_is (value_of (at s)) (places c) (r ∷ []), behind_is (value_of (at s)) (places c) r [])
      (says_iff says
      (through (either_iff (has_iff s r (pos 0) k_r) (both_iff (has_iff s r (pos 1) k_r) (parts_possible lists s c true k z shaped))) (implies_says (value_of (at s) r) (Holds lists s c) z_r))
      (through (both_iff (has_iff s r (pos 1) k_r) (parts_possible lists s c false k z shaped)) (implied_not (decide_int (value_of (at s) r) (pos 1)))))
  parts_possible lists s c says known zeros shaped = leaf_possible lists s c says known zeros shaped

  pub one_possible : (lists : List Tuples) (s : List ℤ) (cs : Cons) (says : Bool) → AllByRecursion (Known (length s)) (places_of cs) → AllByRecursion (Bit s) (bits_of cs) → AreShaped cs
      → OnePossible lists cs says (singles s) ↔ SomeSays lists s cs says
  one_possible lists s con.End says known zeros shaped = (λ h. h, λ h. h)
  one_possible lists s (con.More' p (more_of-Con c none) q (more_of-Cons cs nothing)) says known zeros shaped =
      either_iff (parts_possible lists s c says (all_front (Known (length s)) (places c) (places_of cs) known) (all_front (Bit s) (bits c) (bits_of cs) zeros) shaped.0)
      (one_possible lists s cs says (all_back (Known (length s)) (places c) (places_of cs) known) (all_back (Bit s) (bits c) (bits_of cs) zeros) shaped.1)

  each_possible : (lists : List Tuples) (s : List ℤ) (cs : Cons) (says : Bool) → AllByRecursion (Known (length s)) (places_of cs) → AllByRecursion (Bit s) (bits_of cs) → AreShaped cs
      → EachPossible lists cs says (singles s) ↔ EachSays lists s cs says
  each_possible lists s con.End says known zeros shaped = (λ h. h, λ h. h)
  each_possible lists s (con.More' p (more_of-Con c none) q (more_of-Cons cs nothing)) says known zeros shaped =
      both_iff (parts_possible lists s c says (all_front (Known (length s)) (places c) (places_of cs) known) (all_front (Bit s) (bits c) (bits_of cs) zeros) shaped.0)
      (each_possible lists s cs says (all_back (Known (length s)) (places c) (places_of cs) known) (all_back (Bit s) (bits c) (bits_of cs) zeros) shaped.1)

-- two children possible or one closed, of which some holds
only_says : (vars : List Variable) (lists : List Tuples) (s : List ℤ) (cs : Cons) (says : Bool) → AllByRecursion (Known (length s)) (places_of cs) → AllByRecursion (Bit s) (bits_of cs) → AreShaped cs
    → (SomeSays lists s cs says → OneClosed vars lists cs says (singles s)) → (TwoPossible lists cs says (singles s) ⊎ OneClosed vars lists cs says (singles s)) ↔ SomeSays lists s cs says
only_says vars lists s cs says known zeros shaped closed =
    (⊎_elim (λ two. (one_possible lists s cs says known zeros shaped).0 (two_one lists cs says (singles s) two)) (λ one. (one_possible lists s cs says known zeros shaped).0 (closed_possible vars lists cs says (singles s) one)), λ some. inr (closed some))

-- the box is closed under what holds there, and under nothing else
mutual
  pub parts_closed : (vars : List Variable) (lists : List Tuples) (s : List ℤ) (c : Con) (says : Bool) → AllByRecursion (Known (length s)) (places c) → AllByRecursion (Bit s) (bits c) → IsShaped c
      → PartsClosed vars lists c says (singles s) ↔ Says says (Holds lists s c)
  parts_closed vars lists s (con.WatchedOr cs) says known zeros shaped = says_iff says
      (through (only_says vars lists s cs true known zeros shaped (some_closed vars lists s cs true known zeros shaped)) (some_meets lists s cs))
      (through (each_closed vars lists s cs false known zeros shaped) (none_meets lists s cs))
  parts_closed vars lists s (con.WatchedAnd cs) says known zeros shaped = says_iff says
      (through (each_closed vars lists s cs true known zeros shaped) (each_meets lists s cs))
      (through (only_says vars lists s cs false known zeros shaped (some_closed vars lists s cs false known zeros shaped)) (some_fails lists s cs))
  parts_closed vars lists s (con.Reify' p (more_of-Con c none) r) says known zeros shaped =
      let k = all_front (Known (length s)) (places c) (r ∷ []) known in
      let k_r = (all_back (Known (length s)) (places c) (r ∷ []) known).0 in
      let z = all_front (Bit s) (bits c) (r ∷ []) zeros in
      let z_r = (all_back (Bit s) (bits c) (r ∷ []) zeros).0 in
      rw (front_is (value_of (at s)) (places c) (r ∷ []), behind_is (value_of (at s)) (places c) r [])
      (through
      (reify_parts (has_iff s r (bit says) k_r) (has_iff s r (bit (not says)) k_r) (alone_iff s r (bit says) k_r) (alone_iff s r (bit (not says)) k_r)
      (parts_possible lists s c true k z shaped) (parts_possible lists s c false k z shaped) (parts_closed vars lists s c true k z shaped) (parts_closed vars lists s c false k z shaped)
      (bit_is says (value_of (at s) r) z_r) (bits_differ says (value_of (at s) r)))
      (reify_says says (value_of (at s) r) (Holds lists s c) z_r (decide_meets lists c (map (value_of (at s)) (places c)))))
  parts_closed vars lists s (con.Reifyimply' p (more_of-Con c none) r) says known zeros shaped =
      let k = all_front (Known (length s)) (places c) (r ∷ []) known in
      let k_r = (all_back (Known (length s)) (places c) (r ∷ []) known).0 in
      let z = all_front (Bit s) (bits c) (r ∷ []) zeros in
      rw (front_is (value_of (at s)) (places c) (r ∷ []), behind_is (value_of (at s)) (places c) r [])
      (says_iff says
      (imply_parts (has_iff s r (pos 1) k_r) (alone_iff s r (pos 1) k_r) (parts_possible lists s c true k z shaped) (parts_closed vars lists s c true k z shaped))
      (through (both_iff (leaf_iff vars lists s (con.WLiteral r (pos 1)) (k_r, tt)) (parts_closed vars lists s c false k z shaped)) (implied_not (decide_int (value_of (at s) r) (pos 1)))))
  parts_closed vars lists s c says known zeros shaped = leaf_says vars lists s c says known zeros shaped

  some_closed : (vars : List Variable) (lists : List Tuples) (s : List ℤ) (cs : Cons) (says : Bool) → AllByRecursion (Known (length s)) (places_of cs) → AllByRecursion (Bit s) (bits_of cs) → AreShaped cs
      → SomeSays lists s cs says → OneClosed vars lists cs says (singles s)
  some_closed vars lists s con.End says known zeros shaped some = some
  some_closed vars lists s (con.More' p (more_of-Con c none) q (more_of-Cons cs nothing)) says known zeros shaped (inl here) =
      let k = all_front (Known (length s)) (places c) (places_of cs) known in
      let z = all_front (Bit s) (bits c) (bits_of cs) zeros in
      inl ((parts_possible lists s c says k z shaped.0).1 here, (parts_closed vars lists s c says k z shaped.0).1 here)
  some_closed vars lists s (con.More' p (more_of-Con c none) q (more_of-Cons cs nothing)) says known zeros shaped (inr later) =
      inr (some_closed vars lists s cs says (all_back (Known (length s)) (places c) (places_of cs) known) (all_back (Bit s) (bits c) (bits_of cs) zeros) shaped.1 later)

  each_closed : (vars : List Variable) (lists : List Tuples) (s : List ℤ) (cs : Cons) (says : Bool) → AllByRecursion (Known (length s)) (places_of cs) → AllByRecursion (Bit s) (bits_of cs) → AreShaped cs
      → EachClosed vars lists cs says (singles s) ↔ EachSays lists s cs says
  each_closed vars lists s con.End says known zeros shaped = (λ h. h, λ h. h)
  each_closed vars lists s (con.More' p (more_of-Con c none) q (more_of-Cons cs nothing)) says known zeros shaped =
      both_iff (parts_closed vars lists s c says (all_front (Known (length s)) (places c) (places_of cs) known) (all_front (Bit s) (bits c) (bits_of cs) zeros) shaped.0)
      (each_closed vars lists s cs says (all_back (Known (length s)) (places c) (places_of cs) known) (all_back (Bit s) (bits c) (bits_of cs) zeros) shaped.1)

pub possible_tells : (lists : List Tuples) (s : List ℤ) (c : Con) (says : Bool) → AllByRecursion (Known (length s)) (places c) → BitsAreBits (at s) c → IsShaped c → Possible lists c says (singles s) ↔ Says says (Holds lists s c)
possible_tells lists s c says known zeros shaped = apart_iff is_taken_apart (parts_possible lists s c says known zeros shaped) (leaf_possible lists s c says known zeros shaped)

pub closed_tells : (vars : List Variable) (lists : List Tuples) (s : List ℤ) (c : Con) (says : Bool) → AllByRecursion (Known (length s)) (places c) → BitsAreBits (at s) c → IsShaped c → Closed vars lists c says (singles s) ↔ Says says (Holds lists s c)
closed_tells vars lists s c says known zeros shaped = apart_iff is_taken_apart (parts_closed vars lists s c says known zeros shaped) (leaf_says vars lists s c says known zeros shaped)

-- A lawful constraint and its negation have a meaning, and keep the limits or pass them by one.
use Rattle.std.proofs.Common.{◌≡◌, ℕ, zero, suc, ◌+◌, ◌≤◌, ℤ, pos, negsuc, ◌+ℤ◌, ◌-ℤ◌, inl, inr, List, [], ◌∷◌, ◌++◌, length, slice_get, refl, sym, ap, subst, ◌∙◌, arith}
use Rattle.std.proofs.lemmas.Int.{ints}
use Rattle.std.proofs.lemmas.List.{length-append, length-replicate, append-nil}
use Rattle.std.specs.List.{AllByRecursion}
use Rattle.mn_model.specs.Domain.{Has, IsValue}
use Rattle.mn_model.specs.Lawful.{IsLawfulTerm, IsBit, AreBits, SuitsTable, IsShort, IsLawfulCon, IsNear, IsNearTerm, IsMeant}
use Rattle.mn_model.specs.Negation.{negation, negations, other, ones}
use Rattle.mn_model.specs.Parts.{places, places_of, bits, bits_of, constants, constants_of, vectors, vectors_of, tables, tables_of, IsShaped, AreShaped}
use Rattle.mn_model.specs.Variable.{number_of}
use Rattle.mn_model.specs.declared.constraint.Con.{Con}
use Rattle.mn_model.specs.declared.constraint.Cons.{Cons}
use Rattle.mn_model.specs.declared.constraint.Con.TheVariants as con
use Rattle.mn_model.specs.declared.constraint.Con.TheBlock.{more_of-Con, more_of-Cons}
use Rattle.mn_model.specs.declared.constraint.Term.{Term}
use Rattle.mn_model.specs.declared.constraint.Term.TheVariants.{Var, Const, Not}
use Rattle.mn_model.specs.declared.declaration.Tuples.{Tuples}
use Rattle.mn_model.specs.declared.limits.TheConstants.{PLACES}
use Rattle.mn_model.proofs.Lists.{all_append, all_back, all_front, all_so}
use Rattle.mn_meaning.specs.Laws.{IsAssignment, IsZeroOrOne, BitsAreBits}
use Rattle.mn_meaning.specs.Meaning.{at, value_of}

-- one more weight for one more place
one_longer : (ks : List ℤ) (v : List Term) (k : ℤ) (x : Term) → length ks ≡ length v → length (ks ++ k ∷ []) ≡ length (v ++ x ∷ [])
one_longer ks v k x same = length-append ks (k ∷ []) ∙ ap (λ n. n + 1) same ∙ sym (length-append v (x ∷ []))

-- the negation has the lengths that it needs
mutual
  pub shaped_negation : (c : Con) → IsShaped c → IsShaped (negation c)
  shaped_negation (con.Sumleq v x) shaped = one_longer (ones v) v (negsuc 0) x (length-replicate (length v) (pos 1))
  shaped_negation (con.Sumgeq v x) shaped = one_longer (ones v) v (negsuc 0) x (length-replicate (length v) (pos 1))
  shaped_negation (con.Weightedsumleq ks v x) shaped = one_longer ks v (negsuc 0) x shaped
  shaped_negation (con.Weightedsumgeq ks v x) shaped = one_longer ks v (negsuc 0) x shaped
  shaped_negation (con.Lexleq v w) shaped = sym shaped
  shaped_negation (con.Lexless v w) shaped = sym shaped
  shaped_negation (con.WatchedOr cs) shaped = shaped_negations cs shaped
  shaped_negation (con.WatchedAnd cs) shaped = shaped_negations cs shaped
  shaped_negation (con.Reify' p (more_of-Con c none) r) shaped = shaped
  shaped_negation (con.Reifyimply' p (more_of-Con c none) r) shaped = (tt, (shaped_negation c shaped, tt))
  shaped_negation (con.Negated' p (more_of-Con c none)) shaped = shaped
  shaped_negation c shaped = shaped

  shaped_negations : (cs : Cons) → AreShaped cs → AreShaped (negations cs)
  shaped_negations con.End shaped = tt
  shaped_negations (con.More' p (more_of-Con c none) q (more_of-Cons cs nothing)) shaped = (shaped_negation c shaped.0, shaped_negations cs shaped.1)

-- it has the same tables
mutual
  pub same_tables : (c : Con) → tables (negation c) ≡ tables c
  same_tables (con.WatchedOr cs) = same_tables_of cs
  same_tables (con.WatchedAnd cs) = same_tables_of cs
  same_tables (con.Reify' p (more_of-Con c none) r) = refl
  same_tables (con.Reifyimply' p (more_of-Con c none) r) = append-nil (tables (negation c)) ∙ same_tables c
  same_tables (con.Negated' p (more_of-Con c none)) = refl
  same_tables c = refl

  same_tables_of : (cs : Cons) → tables_of (negations cs) ≡ tables_of cs
  same_tables_of con.End = refl
  same_tables_of (con.More' p (more_of-Con c none) q (more_of-Cons cs nothing)) = λ i. same_tables c i ++ same_tables_of cs i

-- a term that names a variable, or a value or constant within the limit
near_term : (domains : List (List ℤ)) (t : Term) → IsLawfulTerm domains t → IsNearTerm t
near_term domains (Var v) lawful = tt
near_term domains (Const k) lawful = (omega (arith, ints, lawful.0), omega (arith, ints, lawful.1))
near_term domains (Not v) lawful = tt

near_value : (k : ℤ) → IsValue k → IsNear k
near_value k value = (omega (arith, ints, value.0), omega (arith, ints, value.1))

-- the parts of a lawful constraint, but for its tables, and those that keep the limits or pass them by one
pub record AreLawfulParts (domains : List (List ℤ)) (terms zeros : List Term) (numbers : List ℤ) (vs : List (List Term)) : Type 0 where
  pub named : AllByRecursion (IsLawfulTerm domains) terms
  pub bits : AllByRecursion (IsBit domains) zeros
  pub constants : AllByRecursion IsValue numbers
  pub short : AllByRecursion IsShort vs

pub record AreNearParts (terms : List Term) (numbers : List ℤ) (vs : List (List Term)) : Type 0 where
  pub places : AllByRecursion IsNearTerm terms
  pub constants : AllByRecursion IsNear numbers
  pub short : AllByRecursion (λ v. length v ≤ PLACES + 1) vs

near_parts : (domains : List (List ℤ)) (terms zeros : List Term) (numbers : List ℤ) (vs : List (List Term)) → AreLawfulParts domains terms zeros numbers vs → AreNearParts terms numbers vs
near_parts domains terms zeros numbers vs parts = record {
  places = all_so (IsLawfulTerm domains) IsNearTerm (near_term domains) terms parts.named;
  constants = all_so IsValue IsNear near_value numbers parts.constants;
  short = all_so IsShort (λ v. length v ≤ PLACES + 1) (λ v short. omega (arith, short)) vs parts.short;
}

near_other : (domains : List (List ℤ)) (r : Term) → IsBit domains r → IsNearTerm (other r)
near_other domains (Var v) bit = tt
near_other domains (Const k) (inl none) = (omega (arith, ints, none), omega (arith, ints, none))
near_other domains (Const k) (inr one) = (omega (arith, ints, one), omega (arith, ints, one))
near_other domains (Not v) bit = tt

near_ones : (v : List Term) → AllByRecursion IsNear (ones v)
near_ones [] = tt
near_ones (t ∷ v) = ((omega (arith, ints), omega (arith, ints)), near_ones v)

-- those of a sum of a vector less x
sum_parts : (ks : List ℤ) (v : List Term) (x : Term) (k : ℤ) → AllByRecursion IsNear ks → AllByRecursion IsNearTerm (v ++ x ∷ []) → IsShort v → IsNear k → AreNearParts ((v ++ x ∷ []) ++ Const k ∷ []) (ks ++ negsuc 0 ∷ []) ((v ++ x ∷ []) ∷ [])
sum_parts ks v x k weights terms short near = record {
  places = all_append IsNearTerm (v ++ x ∷ []) (Const k ∷ []) terms (near, tt);
  constants = all_append IsNear ks (negsuc 0 ∷ []) weights ((omega (arith, ints), omega (arith, ints)), tt);
  short = (omega (arith, short, length-append v (x ∷ [])), tt);
}

-- those of two together
joined_parts : (terms others : List Term) (numbers more : List ℤ) (vs ws : List (List Term)) → AreNearParts terms numbers vs → AreNearParts others more ws → AreNearParts (terms ++ others) (numbers ++ more) (vs ++ ws)
joined_parts terms others numbers more vs ws one two = record {
  places = all_append IsNearTerm terms others one.places two.places;
  constants = all_append IsNear numbers more one.constants two.constants;
  short = all_append (λ v. length v ≤ PLACES + 1) vs ws one.short two.short;
}

first_parts : (domains : List (List ℤ)) (terms others zeros bits : List Term) (numbers more : List ℤ) (vs ws : List (List Term)) → AreLawfulParts domains (terms ++ others) (zeros ++ bits) (numbers ++ more) (vs ++ ws) → AreLawfulParts domains terms zeros numbers vs
first_parts domains terms others zeros bits numbers more vs ws parts = record {
  named = all_front (IsLawfulTerm domains) terms others parts.named;
  bits = all_front (IsBit domains) zeros bits parts.bits;
  constants = all_front IsValue numbers more parts.constants;
  short = all_front IsShort vs ws parts.short;
}

other_parts : (domains : List (List ℤ)) (terms others zeros bits : List Term) (numbers more : List ℤ) (vs ws : List (List Term)) → AreLawfulParts domains (terms ++ others) (zeros ++ bits) (numbers ++ more) (vs ++ ws) → AreLawfulParts domains others bits more ws
other_parts domains terms others zeros bits numbers more vs ws parts = record {
  named = all_back (IsLawfulTerm domains) terms others parts.named;
  bits = all_back (IsBit domains) zeros bits parts.bits;
  constants = all_back IsValue numbers more parts.constants;
  short = all_back IsShort vs ws parts.short;
}

-- those of a constraint beside a 0/1 term
inner_parts : (domains : List (List ℤ)) (terms zeros : List Term) (r : Term) (numbers : List ℤ) (vs : List (List Term)) → AreLawfulParts domains (terms ++ r ∷ []) (zeros ++ r ∷ []) numbers vs → AreLawfulParts domains terms zeros numbers vs
inner_parts domains terms zeros r numbers vs parts = record {
  named = all_front (IsLawfulTerm domains) terms (r ∷ []) parts.named;
  bits = all_front (IsBit domains) zeros (r ∷ []) parts.bits;
  constants = parts.constants;
  short = parts.short;
}

-- those with other numbers, and those with the vectors in the other order
changed_parts : (terms : List Term) (numbers others : List ℤ) (vs : List (List Term)) → AreNearParts terms numbers vs → AllByRecursion IsNear others → AreNearParts terms others vs
changed_parts terms numbers others vs parts near = record { places = parts.places; constants = near; short = parts.short }

swapped_parts : (v w : List Term) → AreNearParts (v ++ w) [] (v ∷ w ∷ []) → AreNearParts (w ++ v) [] (w ∷ v ∷ [])
swapped_parts v w parts = record {
  places = all_append IsNearTerm w v (all_back IsNearTerm v w parts.places) (all_front IsNearTerm v w parts.places);
  constants = tt;
  short = (parts.short.1.0, (parts.short.0, tt));
}

-- of each constraint, and of the children of a form
mutual
  negation_parts : (domains : List (List ℤ)) (c : Con) → AreLawfulParts domains (places c) (bits c) (constants c) (vectors c) → AreNearParts (places (negation c)) (constants (negation c)) (vectors (negation c))
  negation_parts domains (con.Ineq x y k) parts = record {
    places = (near_term domains y parts.named.1.0, (near_term domains x parts.named.0, tt));
    constants = ((omega (arith, ints, parts.constants.0.0, parts.constants.0.1), omega (arith, ints, parts.constants.0.0, parts.constants.0.1)), tt);
    short = tt;
  }
  negation_parts domains (con.Watchless x y) parts = record {
    places = (near_term domains y parts.named.1.0, (near_term domains x parts.named.0, tt));
    constants = ((omega (arith, ints), omega (arith, ints)), tt);
    short = tt;
  }
  negation_parts domains (con.Sumleq v x) parts = sum_parts (ones v) v x (pos 1) (near_ones v) (near_parts domains (v ++ x ∷ []) [] [] (v ∷ []) parts).places parts.short.0 (omega (arith, ints), omega (arith, ints))
  negation_parts domains (con.Sumgeq v x) parts = sum_parts (ones v) v x (negsuc 0) (near_ones v) (near_parts domains (v ++ x ∷ []) [] [] (v ∷ []) parts).places parts.short.0 (omega (arith, ints), omega (arith, ints))
  negation_parts domains (con.Weightedsumleq ks v x) parts =
      let near = near_parts domains (v ++ x ∷ []) [] ks (v ∷ []) parts in
      sum_parts ks v x (pos 1) near.constants near.places parts.short.0 (omega (arith, ints), omega (arith, ints))
  negation_parts domains (con.Weightedsumgeq ks v x) parts =
      let near = near_parts domains (v ++ x ∷ []) [] ks (v ∷ []) parts in
      sum_parts ks v x (negsuc 0) near.constants near.places parts.short.0 (omega (arith, ints), omega (arith, ints))
  negation_parts domains (con.Watchsumleq v k) parts = changed_parts v (k ∷ []) ((k +ℤ pos 1) ∷ []) (v ∷ []) (near_parts domains v v (k ∷ []) (v ∷ []) parts) ((omega (arith, ints, parts.constants.0.0), omega (arith, ints, parts.constants.0.1)), tt)
  negation_parts domains (con.Watchsumgeq v k) parts = changed_parts v (k ∷ []) ((k -ℤ pos 1) ∷ []) (v ∷ []) (near_parts domains v v (k ∷ []) (v ∷ []) parts) ((omega (arith, ints, parts.constants.0.0), omega (arith, ints, parts.constants.0.1)), tt)
  negation_parts domains (con.Occurrenceleq v k k2) parts =
      let near = near_parts domains v [] (k ∷ k2 ∷ []) (v ∷ []) parts in
      changed_parts v (k ∷ k2 ∷ []) (k ∷ (k2 +ℤ pos 1) ∷ []) (v ∷ []) near (near.constants.0, ((omega (arith, ints, parts.constants.1.0.0), omega (arith, ints, parts.constants.1.0.1)), tt))
  negation_parts domains (con.Occurrencegeq v k k2) parts =
      let near = near_parts domains v [] (k ∷ k2 ∷ []) (v ∷ []) parts in
      changed_parts v (k ∷ k2 ∷ []) (k ∷ (k2 -ℤ pos 1) ∷ []) (v ∷ []) near (near.constants.0, ((omega (arith, ints, parts.constants.1.0.0), omega (arith, ints, parts.constants.1.0.1)), tt))
  negation_parts domains (con.Lexleq v w) parts = swapped_parts v w (near_parts domains (v ++ w) [] [] (v ∷ w ∷ []) parts)
  negation_parts domains (con.Lexless v w) parts = swapped_parts v w (near_parts domains (v ++ w) [] [] (v ∷ w ∷ []) parts)
  negation_parts domains (con.WatchedOr cs) parts = negations_parts domains cs parts
  negation_parts domains (con.WatchedAnd cs) parts = negations_parts domains cs parts
  negation_parts domains (con.Reify' p (more_of-Con c none) r) parts =
      let near = near_parts domains (places c) (bits c) (constants c) (vectors c) (inner_parts domains (places c) (bits c) r (constants c) (vectors c) parts) in
      record {
        places = all_append IsNearTerm (places c) (other r ∷ []) near.places (near_other domains r (all_back (IsBit domains) (bits c) (r ∷ []) parts.bits).0, tt);
        constants = near.constants;
        short = near.short;
      }
  negation_parts domains (con.Reifyimply' p (more_of-Con c none) r) parts =
      joined_parts (r ∷ []) (places (negation c) ++ []) (pos 1 ∷ []) (constants (negation c) ++ []) [] (vectors (negation c) ++ [])
      (record { places = (near_term domains r (all_back (IsLawfulTerm domains) (places c) (r ∷ []) parts.named).0, tt); constants = ((omega (arith, ints), omega (arith, ints)), tt); short = tt })
      (joined_parts (places (negation c)) [] (constants (negation c)) [] (vectors (negation c)) []
      (negation_parts domains c (inner_parts domains (places c) (bits c) r (constants c) (vectors c) parts)) (record { places = tt; constants = tt; short = tt }))
  negation_parts domains (con.Negated' p (more_of-Con c none)) parts = near_parts domains (places c) (bits c) (constants c) (vectors c) parts
  negation_parts domains c parts = near_parts domains (places c) (bits c) (constants c) (vectors c) parts

  negations_parts : (domains : List (List ℤ)) (cs : Cons) → AreLawfulParts domains (places_of cs) (bits_of cs) (constants_of cs) (vectors_of cs) → AreNearParts (places_of (negations cs)) (constants_of (negations cs)) (vectors_of (negations cs))
  negations_parts domains con.End parts = record { places = tt; constants = tt; short = tt }
  negations_parts domains (con.More' p (more_of-Con c none) q (more_of-Cons cs nothing)) parts =
      joined_parts (places (negation c)) (places_of (negations cs)) (constants (negation c)) (constants_of (negations cs)) (vectors (negation c)) (vectors_of (negations cs))
      (negation_parts domains c (first_parts domains (places c) (places_of cs) (bits c) (bits_of cs) (constants c) (constants_of cs) (vectors c) (vectors_of cs) parts))
      (negations_parts domains cs (other_parts domains (places c) (places_of cs) (bits c) (bits_of cs) (constants c) (constants_of cs) (vectors c) (vectors_of cs) parts))

parts_of : (domains : List (List ℤ)) (lists : List Tuples) (c : Con) → IsLawfulCon domains lists c → AreLawfulParts domains (places c) (bits c) (constants c) (vectors c)
parts_of domains lists c lawful = record { named = lawful.named; bits = lawful.bits; constants = lawful.constants; short = lawful.short }

meant_by : (lists : List Tuples) (c : Con) → AreNearParts (places c) (constants c) (vectors c) → AllByRecursion (SuitsTable lists) (tables c) → IsMeant lists c
meant_by lists c parts suits = record { near = record { places = parts.places; constants = parts.constants }; short = parts.short; tables = suits }

-- a lawful constraint is meant, and so is its negation
pub lawful_meant : (domains : List (List ℤ)) (lists : List Tuples) (c : Con) → IsLawfulCon domains lists c → IsMeant lists c
lawful_meant domains lists c lawful = meant_by lists c (near_parts domains (places c) (bits c) (constants c) (vectors c) (parts_of domains lists c lawful)) lawful.tables

pub negation_meant : (domains : List (List ℤ)) (lists : List Tuples) (c : Con) → IsLawfulCon domains lists c → IsMeant lists (negation c)
negation_meant domains lists c lawful = meant_by lists (negation c) (negation_parts domains c (parts_of domains lists c lawful)) (subst (AllByRecursion (SuitsTable lists)) (sym (same_tables c)) lawful.tables)

-- a value of a domain with the values 0 and 1 is one of them, and so is that of a 0/1 term
pub bit_of : (values : List ℤ) (a : ℤ) → AllByRecursion IsZeroOrOne values → Has values a → IsZeroOrOne a
bit_of [] a all has = absurd has
bit_of (b ∷ values) a all (inl same) = subst IsZeroOrOne same all.0
bit_of (b ∷ values) a all (inr later) = bit_of values a all.1 later

bit_at : (domains : List (List ℤ)) (n : ℕ) (s : List ℤ) → AreBits (slice_get domains n) → IsAssignment domains s → IsZeroOrOne (at s n)
bit_at [] n s zeros assigned = absurd zeros
bit_at (values ∷ domains) n [] zeros assigned = absurd assigned
bit_at (values ∷ domains) zero (a ∷ s) zeros assigned = bit_of values a zeros assigned.0
bit_at (values ∷ domains) (suc n) (a ∷ s) zeros assigned = bit_at domains n s zeros assigned.1

other_bit : (a : ℤ) → IsZeroOrOne a → IsZeroOrOne (pos 1 -ℤ a)
other_bit a (inl none) = inr (omega (arith, ints, none))
other_bit a (inr one) = inl (omega (arith, ints, one))

pub bit_value : (domains : List (List ℤ)) (s : List ℤ) → IsAssignment domains s → (t : Term) → IsBit domains t → IsZeroOrOne (value_of (at s) t)
bit_value domains s assigned (Var v) bit = bit_at domains (number_of v) s bit assigned
bit_value domains s assigned (Const k) bit = bit
bit_value domains s assigned (Not v) bit = other_bit (at s (number_of v)) (bit_at domains (number_of v) s bit assigned)

-- so the 0/1 places of a lawful constraint have such values
pub lawful_bits : (domains : List (List ℤ)) (lists : List Tuples) (c : Con) (s : List ℤ) → IsLawfulCon domains lists c → IsAssignment domains s → BitsAreBits (at s) c
lawful_bits domains lists c s lawful assigned = all_so (IsBit domains) (λ t. IsZeroOrOne (value_of (at s) t)) (bit_value domains s assigned) (bits c) lawful.bits

-- Lawful constraints are ready, and so are their negations and their parts.
use Rattle.std.proofs.Common.{◌+◌, ◌≤◌, ℤ, List, [], ◌∷◌, length, arith}
use Rattle.std.proofs.Math.Nat.{le-max_left, le-max_right}
use Rattle.std.specs.List.{AllByRecursion}
use Rattle.mn_model.specs.Domain.{IsValue}
use Rattle.mn_model.specs.Lawful.{IsBit, IsLawfulCon, IsLawfulTerm, IsMeant, IsNear, IsNearTerm, IsShort, SuitsTable}
use Rattle.mn_model.specs.Negation.{negation, negations, reified}
use Rattle.mn_model.specs.Parts.{places, places_of, bits, bits_of, constants, constants_of, vectors, vectors_of, tables, tables_of, nesting, nesting_of, AreShaped, IsWritten, AreWritten}
use Rattle.mn_model.specs.Problem.{domains_of}
use Rattle.mn_model.specs.declared.constraint.Con.{Con}
use Rattle.mn_model.specs.declared.constraint.Cons.{Cons}
use Rattle.mn_model.specs.declared.constraint.Con.TheVariants as con
use Rattle.mn_model.specs.declared.constraint.Con.TheBlock.{more_of-Con, more_of-Cons, end_of-Con, end_of-Cons}
use Rattle.mn_model.specs.declared.constraint.Term.{Term}
use Rattle.mn_model.specs.declared.declaration.Decl.{Decl}
use Rattle.mn_model.specs.declared.declaration.Tuples.{Tuples}
use Rattle.mn_model.specs.declared.limits.TheConstants.{NESTING, PLACES}
use Rattle.mn_model.proofs.Lists.{all_back, all_front}
use Rattle.mn_boxes.specs.Boxes.{declared_variables}
use Rattle.mn_boxes.specs.Sets.{Variable}
use Rattle.mn_meaning.proofs.Meant.{lawful_meant, negation_meant, shaped_negation}
use Rattle.mn_closure.specs.Forms.{implied, IsLeaf, IsWrittenLeaf, HasInside, HaveInside, DeniesLeaves, DenyLeaves, CanBeSigned}
use Rattle.mn_closure.specs.Ready.{AreReady, IsReady, Suits, declared_sets}
use Rattle.mn_closure.proofs.Solving.{lawful_suits}
use Rattle.mn_closure.proofs.Turned.{all_bits_negation, all_negation, lawful_turns, turned_bit}

-- ---- what is denied and reified inside

-- a constraint that can be written denies nothing
mutual
  pub written_denies : (c : Con) → IsWritten c → DeniesLeaves c
  written_denies (con.WatchedOr cs) written = written_deny cs written
  written_denies (con.WatchedAnd cs) written = written_deny cs written
  written_denies (con.Reify' p (more_of-Con c none) r) written = (tt, written_denies c written)
  written_denies (con.Reifyimply' p (more_of-Con c none) r) written = written_denies c written
  written_denies (con.Negated' p (more_of-Con c none)) written = absurd written
  written_denies c written = tt

  written_deny : (cs : Cons) → AreWritten cs → DenyLeaves cs
  written_deny con.End written = tt
  written_deny (con.More' p (more_of-Con c none) q (more_of-Cons cs nothing)) written = (written_denies c written.0, written_deny cs written.1)

-- nothing is asked of what is reified
mutual
  pub signed_denies : (lists : List Tuples) (c : Con) → CanBeSigned lists c → DeniesLeaves c
  signed_denies lists (con.WatchedOr cs) inside = signed_deny lists cs inside
  signed_denies lists (con.WatchedAnd cs) inside = signed_deny lists cs inside
  signed_denies lists (con.Reify' p (more_of-Con c none) r) inside = (tt, signed_denies lists c inside.1)
  signed_denies lists (con.Reifyimply' p (more_of-Con c none) r) inside = signed_denies lists c inside
  signed_denies lists (con.Negated' p (more_of-Con c none)) inside = inside
  signed_denies lists c inside = tt

  signed_deny : (lists : List Tuples) (cs : Cons) → HaveInside IsWrittenLeaf (λ inner. IsMeant lists (negation inner)) cs → DenyLeaves cs
  signed_deny lists con.End inside = tt
  signed_deny lists (con.More' p (more_of-Con c none) q (more_of-Cons cs nothing)) inside = (signed_denies lists c inside.0, signed_deny lists cs inside.1)

-- nothing is inside a leaf that can be written
leaf_inside : (Reified : Con → Type 0) (c : Con) → IsLeaf c → IsWritten c → HasInside IsWrittenLeaf Reified c
leaf_inside Reified (con.WatchedOr cs) leaf written = absurd leaf
leaf_inside Reified (con.WatchedAnd cs) leaf written = absurd leaf
leaf_inside Reified (con.Reify' p (more_of-Con c none) r) leaf written = absurd leaf
leaf_inside Reified (con.Reifyimply' p (more_of-Con c none) r) leaf written = absurd leaf
leaf_inside Reified (con.Negated' p (more_of-Con c none)) leaf written = absurd written
leaf_inside Reified c leaf written = tt

-- a negation denies leaves alone, and reifies what the constraint does
mutual
  pub inside_negation : (Reified : Con → Type 0) (c : Con) → HasInside IsWrittenLeaf Reified c → HasInside IsWrittenLeaf Reified (negation c)
  inside_negation Reified (con.Eq x y) inside = tt
  inside_negation Reified (con.Diseq x y) inside = tt
  inside_negation Reified (con.Ineq x y k) inside = tt
  inside_negation Reified (con.Watchless x y) inside = tt
  inside_negation Reified (con.Sumleq v x) inside = tt
  inside_negation Reified (con.Sumgeq v x) inside = tt
  inside_negation Reified (con.Weightedsumleq ks v x) inside = tt
  inside_negation Reified (con.Weightedsumgeq ks v x) inside = tt
  inside_negation Reified (con.Watchsumleq v k) inside = tt
  inside_negation Reified (con.Watchsumgeq v k) inside = tt
  inside_negation Reified (con.Occurrenceleq v k k2) inside = tt
  inside_negation Reified (con.Occurrencegeq v k k2) inside = tt
  inside_negation Reified (con.Table v tab) inside = tt
  inside_negation Reified (con.Negativetable v tab) inside = tt
  inside_negation Reified (con.Lexleq v w) inside = tt
  inside_negation Reified (con.Lexless v w) inside = tt
  inside_negation Reified (con.WLiteral x k) inside = tt
  inside_negation Reified (con.WNotliteral x k) inside = tt
  inside_negation Reified (con.WInset x ks) inside = tt
  inside_negation Reified (con.WNotinset x ks) inside = tt
  inside_negation Reified (con.WInrange x k k2) inside = tt
  inside_negation Reified (con.WNotinrange x k k2) inside = tt
  inside_negation Reified con.Always inside = tt
  inside_negation Reified con.Never inside = tt
  inside_negation Reified (con.WatchedOr cs) inside = inside_negations Reified cs inside
  inside_negation Reified (con.WatchedAnd cs) inside = inside_negations Reified cs inside
  inside_negation Reified (con.Reify' p (more_of-Con c none) r) inside = inside
  inside_negation Reified (con.Reifyimply' p (more_of-Con c none) r) inside = (tt, (inside_negation Reified c inside, tt))
  inside_negation Reified (con.Negated' p (more_of-Con c none)) inside = leaf_inside Reified c inside.0 inside.1
  inside_negation Reified c inside = (tt, tt)

  inside_negations : (Reified : Con → Type 0) (cs : Cons) → HaveInside IsWrittenLeaf Reified cs → HaveInside IsWrittenLeaf Reified (negations cs)
  inside_negations Reified con.End inside = tt
  inside_negations Reified (con.More' p (more_of-Con c none) q (more_of-Cons cs nothing)) inside = (inside_negation Reified c inside.0, inside_negations Reified cs inside.1)

-- ---- lawful constraints

-- what stands in a reify or a reifyimply of a lawful constraint is lawful
inner_lawful : (domains : List (List ℤ)) (lists : List Tuples) (c : Con) (r : Term) → IsLawfulCon domains lists (reified c r) → IsLawfulCon domains lists c
inner_lawful domains lists c r lawful = record {
  named = all_front (IsLawfulTerm domains) (places c) (r ∷ []) lawful.named;
  bits = all_front (IsBit domains) (bits c) (r ∷ []) lawful.bits;
  constants = lawful.constants;
  short = lawful.short;
  tables = lawful.tables;
  shaped = lawful.shaped;
  nested = let deep = lawful.nested in omega (arith, deep);
  written = lawful.written;
}

-- the two forms around one constraint have the same parts, and so have the two around several
lawful_as_reify : (domains : List (List ℤ)) (lists : List Tuples) (c : Con) (r : Term) → IsLawfulCon domains lists (implied c r) → IsLawfulCon domains lists (reified c r)
lawful_as_reify domains lists c r lawful = record {
  named = lawful.named;
  bits = lawful.bits;
  constants = lawful.constants;
  short = lawful.short;
  tables = lawful.tables;
  shaped = lawful.shaped;
  nested = lawful.nested;
  written = lawful.written;
}

lawful_as_or : (domains : List (List ℤ)) (lists : List Tuples) (cs : Cons) → IsLawfulCon domains lists (con.WatchedAnd cs) → IsLawfulCon domains lists (con.WatchedOr cs)
lawful_as_or domains lists cs lawful = record {
  named = lawful.named;
  bits = lawful.bits;
  constants = lawful.constants;
  short = lawful.short;
  tables = lawful.tables;
  shaped = lawful.shaped;
  nested = lawful.nested;
  written = lawful.written;
}

-- what is kept of several constraints together
record AreLawful (domains : List (List ℤ)) (lists : List Tuples) (cs : Cons) : Type 0 where
  named : AllByRecursion (IsLawfulTerm domains) (places_of cs)
  bits : AllByRecursion (IsBit domains) (bits_of cs)
  constants : AllByRecursion IsValue (constants_of cs)
  short : AllByRecursion IsShort (vectors_of cs)
  tables : AllByRecursion (SuitsTable lists) (tables_of cs)
  shaped : AreShaped cs
  nested : nesting_of cs ≤ NESTING
  written : AreWritten cs

children_lawful : (domains : List (List ℤ)) (lists : List Tuples) (cs : Cons) → IsLawfulCon domains lists (con.WatchedOr cs) → AreLawful domains lists cs
children_lawful domains lists cs lawful = record {
  named = lawful.named;
  bits = lawful.bits;
  constants = lawful.constants;
  short = lawful.short;
  tables = lawful.tables;
  shaped = lawful.shaped;
  nested = let deep = lawful.nested in omega (arith, deep);
  written = lawful.written;
}

first_lawful : (domains : List (List ℤ)) (lists : List Tuples) (c : Con) (cs : Cons) → AreLawful domains lists (con.More' tt (more_of-Con c end_of-Con) tt (more_of-Cons cs end_of-Cons)) → IsLawfulCon domains lists c
first_lawful domains lists c cs all = record {
  named = all_front (IsLawfulTerm domains) (places c) (places_of cs) all.named;
  bits = all_front (IsBit domains) (bits c) (bits_of cs) all.bits;
  constants = all_front IsValue (constants c) (constants_of cs) all.constants;
  short = all_front IsShort (vectors c) (vectors_of cs) all.short;
  tables = all_front (SuitsTable lists) (tables c) (tables_of cs) all.tables;
  shaped = all.shaped.0;
  nested = let deep = all.nested in let less = le-max_left (nesting c) (nesting_of cs) in omega (arith, deep, less);
  written = all.written.0;
}

others_lawful : (domains : List (List ℤ)) (lists : List Tuples) (c : Con) (cs : Cons) → AreLawful domains lists (con.More' tt (more_of-Con c end_of-Con) tt (more_of-Cons cs end_of-Cons)) → AreLawful domains lists cs
others_lawful domains lists c cs all = record {
  named = all_back (IsLawfulTerm domains) (places c) (places_of cs) all.named;
  bits = all_back (IsBit domains) (bits c) (bits_of cs) all.bits;
  constants = all_back IsValue (constants c) (constants_of cs) all.constants;
  short = all_back IsShort (vectors c) (vectors_of cs) all.short;
  tables = all_back (SuitsTable lists) (tables c) (tables_of cs) all.tables;
  shaped = all.shaped.1;
  nested = let deep = all.nested in let less = le-max_right (nesting c) (nesting_of cs) in omega (arith, deep, less);
  written = all.written.1;
}

mutual
  lawful_signed : (domains : List (List ℤ)) (lists : List Tuples) (c : Con) → IsLawfulCon domains lists c → CanBeSigned lists c
  lawful_signed domains lists (con.WatchedOr cs) lawful = all_signed domains lists cs (children_lawful domains lists cs lawful)
  lawful_signed domains lists (con.WatchedAnd cs) lawful = all_signed domains lists cs (children_lawful domains lists cs (lawful_as_or domains lists cs lawful))
  lawful_signed domains lists (con.Reify' p (more_of-Con c end_of-Con) r) lawful = (negation_meant domains lists c (inner_lawful domains lists c r lawful), lawful_signed domains lists c (inner_lawful domains lists c r lawful))
  lawful_signed domains lists (con.Reifyimply' p (more_of-Con c end_of-Con) r) lawful = lawful_signed domains lists c (inner_lawful domains lists c r (lawful_as_reify domains lists c r lawful))
  lawful_signed domains lists (con.Negated' p (more_of-Con c end_of-Con)) lawful = absurd lawful.written
  lawful_signed domains lists c lawful = tt

  all_signed : (domains : List (List ℤ)) (lists : List Tuples) (cs : Cons) → AreLawful domains lists cs → HaveInside IsWrittenLeaf (λ inner. IsMeant lists (negation inner)) cs
  all_signed domains lists con.End all = tt
  all_signed domains lists (con.More' p (more_of-Con c end_of-Con) q (more_of-Cons cs end_of-Cons)) all = (lawful_signed domains lists c (first_lawful domains lists c cs all), all_signed domains lists cs (others_lawful domains lists c cs all))

pub lawful_ready : (decls : List Decl) (lists : List Tuples) (c : Con) → IsLawfulCon (domains_of decls) lists c → IsReady (declared_variables decls) lists c
lawful_ready decls lists c lawful = record { suits = lawful_suits decls lists c lawful; meant = lawful_meant (domains_of decls) lists c lawful; signed = lawful_signed (domains_of decls) lists c lawful }

-- ---- negations

pub suits_negation : (vars : List Variable) (c : Con) → Suits vars c → Suits vars (negation c)
suits_negation vars c suits = record {
  named = all_negation (IsLawfulTerm (declared_sets vars)) (IsBit (declared_sets vars)) (lawful_turns (declared_sets vars)) c suits.bits suits.named;
  bits = all_bits_negation (IsBit (declared_sets vars)) (turned_bit (declared_sets vars)) c suits.bits;
  shaped = shaped_negation c suits.shaped;
}

pub negation_ready : (vars : List Variable) (lists : List Tuples) (c : Con) → IsReady vars lists c → IsMeant lists (negation c) → IsReady vars lists (negation c)
negation_ready vars lists c ready meant = record { suits = suits_negation vars c ready.suits; meant = meant; signed = inside_negation (λ inner. IsMeant lists (negation inner)) c ready.signed }

pub negated_ready : (decls : List Decl) (lists : List Tuples) (c : Con) → IsLawfulCon (domains_of decls) lists c → IsReady (declared_variables decls) lists (negation c)
negated_ready decls lists c lawful = negation_ready (declared_variables decls) lists c (lawful_ready decls lists c lawful) (negation_meant (domains_of decls) lists c lawful)

-- ---- parts

-- what stands beside a 0/1 term
inner_suits : (vars : List Variable) (c : Con) (r : Term) → Suits vars (reified c r) → Suits vars c
inner_suits vars c r suits = record {
  named = all_front (IsLawfulTerm (declared_sets vars)) (places c) (r ∷ []) suits.named;
  bits = all_front (IsBit (declared_sets vars)) (bits c) (r ∷ []) suits.bits;
  shaped = suits.shaped;
}

inner_meant : (lists : List Tuples) (c : Con) (r : Term) → IsMeant lists (reified c r) → IsMeant lists c
inner_meant lists c r meant = record {
  near = record { places = all_front IsNearTerm (places c) (r ∷ []) meant.near.places; constants = meant.near.constants };
  short = meant.short;
  tables = meant.tables;
}

pub reified_ready : (vars : List Variable) (lists : List Tuples) (c : Con) (r : Term) → IsReady vars lists (reified c r) → IsReady vars lists c
reified_ready vars lists c r ready = record { suits = inner_suits vars c r ready.suits; meant = inner_meant lists c r ready.meant; signed = ready.signed.1 }

pub denied_ready : (vars : List Variable) (lists : List Tuples) (c : Con) (r : Term) → IsReady vars lists (reified c r) → IsReady vars lists (negation c)
denied_ready vars lists c r ready = negation_ready vars lists c (reified_ready vars lists c r ready) ready.signed.0

pub implied_ready : (vars : List Variable) (lists : List Tuples) (c : Con) (r : Term) → IsReady vars lists (implied c r) → IsReady vars lists c
implied_ready vars lists c r ready = record {
  suits = inner_suits vars c r (record { named = ready.suits.named; bits = ready.suits.bits; shaped = ready.suits.shaped });
  meant = inner_meant lists c r (record { near = record { places = ready.meant.near.places; constants = ready.meant.near.constants }; short = ready.meant.short; tables = ready.meant.tables });
  signed = ready.signed;
}

-- children
record KeptTogether (vars : List Variable) (lists : List Tuples) (cs : Cons) : Type 0 where
  named : AllByRecursion (IsLawfulTerm (declared_sets vars)) (places_of cs)
  bits : AllByRecursion (IsBit (declared_sets vars)) (bits_of cs)
  shaped : AreShaped cs
  near : AllByRecursion IsNearTerm (places_of cs)
  constants : AllByRecursion IsNear (constants_of cs)
  short : AllByRecursion (λ v. length v ≤ PLACES + 1) (vectors_of cs)
  tables : AllByRecursion (SuitsTable lists) (tables_of cs)
  signed : HaveInside IsWrittenLeaf (λ inner. IsMeant lists (negation inner)) cs

each_ready : (vars : List Variable) (lists : List Tuples) (cs : Cons) → KeptTogether vars lists cs → AreReady vars lists cs
each_ready vars lists con.End kept = tt
each_ready vars lists (con.More' p (more_of-Con c none) q (more_of-Cons cs nothing)) kept = (
  record {
    suits = record {
      named = all_front (IsLawfulTerm (declared_sets vars)) (places c) (places_of cs) kept.named;
      bits = all_front (IsBit (declared_sets vars)) (bits c) (bits_of cs) kept.bits;
      shaped = kept.shaped.0;
    };
    meant = record {
      near = record { places = all_front IsNearTerm (places c) (places_of cs) kept.near; constants = all_front IsNear (constants c) (constants_of cs) kept.constants };
      short = all_front (λ v. length v ≤ PLACES + 1) (vectors c) (vectors_of cs) kept.short;
      tables = all_front (SuitsTable lists) (tables c) (tables_of cs) kept.tables;
    };
    signed = kept.signed.0;
  },
  each_ready vars lists cs (record {
    named = all_back (IsLawfulTerm (declared_sets vars)) (places c) (places_of cs) kept.named;
    bits = all_back (IsBit (declared_sets vars)) (bits c) (bits_of cs) kept.bits;
    shaped = kept.shaped.1;
    near = all_back IsNearTerm (places c) (places_of cs) kept.near;
    constants = all_back IsNear (constants c) (constants_of cs) kept.constants;
    short = all_back (λ v. length v ≤ PLACES + 1) (vectors c) (vectors_of cs) kept.short;
    tables = all_back (SuitsTable lists) (tables c) (tables_of cs) kept.tables;
    signed = kept.signed.1;
  }),
)

pub some_ready : (vars : List Variable) (lists : List Tuples) (cs : Cons) → IsReady vars lists (con.WatchedOr cs) → AreReady vars lists cs
some_ready vars lists cs ready = each_ready vars lists cs (record {
  named = ready.suits.named;
  bits = ready.suits.bits;
  shaped = ready.suits.shaped;
  near = ready.meant.near.places;
  constants = ready.meant.near.constants;
  short = ready.meant.short;
  tables = ready.meant.tables;
  signed = ready.signed;
})

pub all_ready : (vars : List Variable) (lists : List Tuples) (cs : Cons) → IsReady vars lists (con.WatchedAnd cs) → AreReady vars lists cs
all_ready vars lists cs ready = each_ready vars lists cs (record {
  named = ready.suits.named;
  bits = ready.suits.bits;
  shaped = ready.suits.shaped;
  near = ready.meant.near.places;
  constants = ready.meant.near.constants;
  short = ready.meant.short;
  tables = ready.meant.tables;
  signed = ready.signed;
})

-- What a constraint means: of the values at its places, and under an assignment.
use Rattle.std.specs.Prelude.{◌≡◌, ◌≢◌, ◌↔◌, ℕ, ◌+◌, ℤ, pos, neg_ℤ, ◌-ℤ◌, ◌+ℤ◌, ◌*ℤ◌, ◌<ℤ◌, ◌≤ℤ◌, ◌⊎◌, List, [], length, take, drop, map, slice_get, slice_index_or, Option, Some, None}
use Rattle.std.proofs.Common.{inl, nat_abs}
use Rattle.std.specs.List.{AllByRecursion}
use Rattle.mn_meaning.specs.Families.{sum_of, weighted_sum, IsGreatest, IsLeast, occurrences, agreeing, differing, distinct_count, IsEntry, IsBelow, AllDiffer, InIntervals, quotient, rows_of, decide_has, decide_greatest, decide_least, decide_entry, decide_lexically, decide_differ, decide_intervals, decide_same, decide_member, decide_exactly, decide_implies}
use Rattle.mn_model.specs.Decided.{Decided, decide_int, decide_at_most, decide_below, decide_never, decide_not, decide_both, decide_either, decide_all}
use Rattle.mn_model.specs.Domain.{Has}
use Rattle.mn_model.specs.Members.{HasMember}
use Rattle.mn_model.specs.Parts.{places, places_of}
use Rattle.mn_model.specs.Variable.{number_of}
use Rattle.mn_model.specs.declared.constraint.Con.{Con}
use Rattle.mn_model.specs.declared.constraint.Cons.{Cons}
use Rattle.mn_model.specs.declared.constraint.Con.TheVariants as con
use Rattle.mn_model.specs.declared.constraint.Con.TheBlock.{more_of-Con, more_of-Cons}
use Rattle.mn_model.specs.declared.constraint.Tab.{Tab}
use Rattle.mn_model.specs.declared.constraint.Tab.TheVariants.{Named, Here}
use Rattle.mn_model.specs.declared.constraint.Term.{Term}
use Rattle.mn_model.specs.declared.constraint.Term.TheVariants.{Var, Const, Not}
use Rattle.mn_model.specs.declared.declaration.Tuples.{Tuples}

-- the value at a place, counted from 0
abbrev pub at : List ℤ → ℕ → ℤ
at values i = slice_index_or values i (pos 0)

-- of the values at a constraint's places: those of a vector that comes first, that of the place after it, that of the
-- one after that, and those of all places after it
abbrev pub front : List Term → List ℤ → List ℤ
front v a = take (length v) a

abbrev pub behind : List Term → List ℤ → ℤ
behind v a = at a (length v)

abbrev pub last : List Term → List ℤ → ℤ
last v a = at a (length v + 1)

abbrev pub rest : List Term → List ℤ → List ℤ
rest v a = drop (length v) a

-- the tuples of a list, none where there is no such list
abbrev pub tuples_in : Option Tuples → List (List ℤ)
tuples_in None = []
tuples_in (Some t) = rows_of t.arity t.cells

-- the tuples of a table, beside these tuple lists
abbrev pub tuples_of : List Tuples → Tab → List (List ℤ)
tuples_of lists (Named n) = tuples_in (slice_get lists n)
tuples_of lists (Here arity cells) = rows_of arity cells

-- the meaning of a constraint, of the values at its places in written order, beside these tuple lists (the Minion manual)
abbrev mutual
  pub Meets : List Tuples → Con → List ℤ → Type 0
  Meets lists (con.Eq x y) a = at a 0 ≡ at a 1
  Meets lists (con.Diseq x y) a = at a 0 ≢ at a 1
  Meets lists (con.Ineq x y k) a = at a 0 ≤ℤ (at a 1 +ℤ k)
  Meets lists (con.Watchless x y) a = at a 0 <ℤ at a 1
  Meets lists (con.Minuseq x y) a = at a 0 ≡ neg_ℤ (at a 1)
  Meets lists (con.Abs x y) a = at a 0 ≡ pos (nat_abs (at a 1))
  Meets lists (con.Difference x y z) a = at a 2 ≡ pos (nat_abs (at a 0 -ℤ at a 1))
  Meets lists (con.Product x y z) a = at a 2 ≡ at a 0 *ℤ at a 1
  Meets lists (con.Div x y z) a = (at a 1 ≢ pos 0) × (at a 2 ≡ quotient (at a 0) (at a 1))
  Meets lists (con.Modulo x y z) a = (at a 1 ≢ pos 0) × (at a 2 ≡ at a 0 -ℤ at a 1 *ℤ quotient (at a 0) (at a 1))
  Meets lists (con.Max v x) a = IsGreatest (front v a) (behind v a)
  Meets lists (con.Min v x) a = IsLeast (front v a) (behind v a)
  Meets lists (con.Sumleq v x) a = sum_of (front v a) ≤ℤ behind v a
  Meets lists (con.Sumgeq v x) a = behind v a ≤ℤ sum_of (front v a)
  Meets lists (con.Weightedsumleq ks v x) a = weighted_sum ks (front v a) ≤ℤ behind v a
  Meets lists (con.Weightedsumgeq ks v x) a = behind v a ≤ℤ weighted_sum ks (front v a)
  Meets lists (con.Watchsumleq v k) a = sum_of a ≤ℤ k
  Meets lists (con.Watchsumgeq v k) a = k ≤ℤ sum_of a
  Meets lists (con.Litsumgeq v ks k) a = k ≤ℤ pos (agreeing a ks)
  Meets lists (con.Element v x y) a = IsEntry (front v a) (behind v a) (last v a)
  Meets lists (con.Watchelement v x y) a = IsEntry (front v a) (behind v a) (last v a)
  Meets lists (con.ElementOne v x y) a = IsEntry (front v a) (behind v a -ℤ pos 1) (last v a)
  Meets lists (con.WatchelementOne v x y) a = IsEntry (front v a) (behind v a -ℤ pos 1) (last v a)
  Meets lists (con.Table v tab) a = HasMember (tuples_of lists tab) a
  Meets lists (con.Negativetable v tab) a = HasMember (tuples_of lists tab) a → ⊥
  Meets lists (con.Alldiff v) a = AllDiffer a
  Meets lists (con.Lexleq v w) a = IsBelow (front v a) (rest v a) ⊎ (front v a ≡ rest v a)
  Meets lists (con.Lexless v w) a = IsBelow (front v a) (rest v a)
  Meets lists (con.Watchvecneq v w) a = pos 1 ≤ℤ pos (differing (front v a) (rest v a))
  Meets lists (con.Hamming v w k) a = k ≤ℤ pos (differing (front v a) (rest v a))
  Meets lists (con.Occurrence v k x) a = behind v a ≡ pos (occurrences k (front v a))
  Meets lists (con.Occurrenceleq v k k2) a = pos (occurrences k a) ≤ℤ k2
  Meets lists (con.Occurrencegeq v k k2) a = k2 ≤ℤ pos (occurrences k a)
  Meets lists (con.Nvalueleq v x) a = pos (distinct_count (front v a)) ≤ℤ behind v a
  Meets lists (con.WLiteral x k) a = at a 0 ≡ k
  Meets lists (con.WNotliteral x k) a = at a 0 ≢ k
  Meets lists (con.WInset x ks) a = Has ks (at a 0)
  Meets lists (con.WNotinset x ks) a = Has ks (at a 0) → ⊥
  Meets lists (con.WInrange x k k2) a = (k ≤ℤ at a 0) × (at a 0 ≤ℤ k2)
  Meets lists (con.WNotinrange x k k2) a = (k ≤ℤ at a 0) × (at a 0 ≤ℤ k2) → ⊥
  Meets lists (con.WInintervalset x ks) a = InIntervals ks (at a 0)
  Meets lists con.Always a = Unit {0}
  Meets lists con.Never a = ⊥
  Meets lists (con.WatchedOr cs) a = SomeMeet lists cs a
  Meets lists (con.WatchedAnd cs) a = EachMeets lists cs a
  Meets lists (con.Reify' p (more_of-Con c none) r) a = (behind (places c) a ≡ pos 1) ↔ Meets lists c (front (places c) a)
  Meets lists (con.Reifyimply' p (more_of-Con c none) r) a = behind (places c) a ≡ pos 1 → Meets lists c (front (places c) a)
  Meets lists (con.Negated' p (more_of-Con c none)) a = Meets lists c a → ⊥

  -- some of the constraints, and each of them, at its part of the values
  pub SomeMeet : List Tuples → Cons → List ℤ → Type 0
  SomeMeet lists con.End a = ⊥
  SomeMeet lists (con.More' p (more_of-Con c none) q (more_of-Cons cs nothing)) a = Meets lists c (front (places c) a) ⊎ SomeMeet lists cs (rest (places c) a)

  pub EachMeets : List Tuples → Cons → List ℤ → Type 0
  EachMeets lists con.End a = Unit {0}
  EachMeets lists (con.More' p (more_of-Con c none) q (more_of-Cons cs nothing)) a = Meets lists c (front (places c) a) × EachMeets lists cs (rest (places c) a)

-- the value of a term, where `values` tells that of each variable by its number: that of its variable, its number, or
-- one less that of its variable
abbrev pub value_of : (ℕ → ℤ) → Term → ℤ
value_of values (Var v) = values (number_of v)
value_of values (Const k) = k
value_of values (Not v) = pos 1 -ℤ values (number_of v)

-- the values at places
abbrev pub values_at : (ℕ → ℤ) → List Term → List ℤ
values_at values v = map (value_of values) v

-- the constraint holds where `values` tells the value of each variable
abbrev pub HoldsOver : List Tuples → (ℕ → ℤ) → Con → Type 0
HoldsOver lists values c = Meets lists c (map (value_of values) (places c))

-- some of the constraints hold there, and each of them does
abbrev pub SomeHolds : List Tuples → (ℕ → ℤ) → Cons → Type 0
SomeHolds lists values cs = SomeMeet lists cs (values_at values (places_of cs))

abbrev pub EachHolds : List Tuples → (ℕ → ℤ) → Cons → Type 0
EachHolds lists values cs = EachMeets lists cs (values_at values (places_of cs))

-- the constraint holds under an assignment, which has the value of each variable at its number
abbrev pub Holds : List Tuples → List ℤ → Con → Type 0
Holds lists s c = HoldsOver lists (at s) c

-- all constraints hold under the assignment
abbrev pub HoldsAll : List Tuples → List Con → List ℤ → Type 0
HoldsAll lists cons s = AllByRecursion (Holds lists s) cons

-- the meaning can be decided, of each constraint and of all
mutual
  pub decide_meets : (lists : List Tuples) (c : Con) (a : List ℤ) → Decided (Meets lists c a)
  decide_meets lists (con.Eq x y) a = decide_int (at a 0) (at a 1)
  decide_meets lists (con.Diseq x y) a = decide_not (decide_int (at a 0) (at a 1))
  decide_meets lists (con.Ineq x y k) a = decide_at_most (at a 0) (at a 1 +ℤ k)
  decide_meets lists (con.Watchless x y) a = decide_below (at a 0) (at a 1)
  decide_meets lists (con.Minuseq x y) a = decide_int (at a 0) (neg_ℤ (at a 1))
  decide_meets lists (con.Abs x y) a = decide_int (at a 0) (pos (nat_abs (at a 1)))
  decide_meets lists (con.Difference x y z) a = decide_int (at a 2) (pos (nat_abs (at a 0 -ℤ at a 1)))
  decide_meets lists (con.Product x y z) a = decide_int (at a 2) (at a 0 *ℤ at a 1)
  decide_meets lists (con.Div x y z) a = decide_both (decide_not (decide_int (at a 1) (pos 0))) (decide_int (at a 2) (quotient (at a 0) (at a 1)))
  decide_meets lists (con.Modulo x y z) a = decide_both (decide_not (decide_int (at a 1) (pos 0))) (decide_int (at a 2) (at a 0 -ℤ at a 1 *ℤ quotient (at a 0) (at a 1)))
  decide_meets lists (con.Max v x) a = decide_greatest (front v a) (behind v a)
  decide_meets lists (con.Min v x) a = decide_least (front v a) (behind v a)
  decide_meets lists (con.Sumleq v x) a = decide_at_most (sum_of (front v a)) (behind v a)
  decide_meets lists (con.Sumgeq v x) a = decide_at_most (behind v a) (sum_of (front v a))
  decide_meets lists (con.Weightedsumleq ks v x) a = decide_at_most (weighted_sum ks (front v a)) (behind v a)
  decide_meets lists (con.Weightedsumgeq ks v x) a = decide_at_most (behind v a) (weighted_sum ks (front v a))
  decide_meets lists (con.Watchsumleq v k) a = decide_at_most (sum_of a) k
  decide_meets lists (con.Watchsumgeq v k) a = decide_at_most k (sum_of a)
  decide_meets lists (con.Litsumgeq v ks k) a = decide_at_most k (pos (agreeing a ks))
  decide_meets lists (con.Element v x y) a = decide_entry (front v a) (behind v a) (last v a)
  decide_meets lists (con.Watchelement v x y) a = decide_entry (front v a) (behind v a) (last v a)
  decide_meets lists (con.ElementOne v x y) a = decide_entry (front v a) (behind v a -ℤ pos 1) (last v a)
  decide_meets lists (con.WatchelementOne v x y) a = decide_entry (front v a) (behind v a -ℤ pos 1) (last v a)
  decide_meets lists (con.Table v tab) a = decide_member (tuples_of lists tab) a
  decide_meets lists (con.Negativetable v tab) a = decide_not (decide_member (tuples_of lists tab) a)
  decide_meets lists (con.Alldiff v) a = decide_differ a
  decide_meets lists (con.Lexleq v w) a = decide_either (decide_lexically (front v a) (rest v a)) (decide_same (front v a) (rest v a))
  decide_meets lists (con.Lexless v w) a = decide_lexically (front v a) (rest v a)
  decide_meets lists (con.Watchvecneq v w) a = decide_at_most (pos 1) (pos (differing (front v a) (rest v a)))
  decide_meets lists (con.Hamming v w k) a = decide_at_most k (pos (differing (front v a) (rest v a)))
  decide_meets lists (con.Occurrence v k x) a = decide_int (behind v a) (pos (occurrences k (front v a)))
  decide_meets lists (con.Occurrenceleq v k k2) a = decide_at_most (pos (occurrences k a)) k2
  decide_meets lists (con.Occurrencegeq v k k2) a = decide_at_most k2 (pos (occurrences k a))
  decide_meets lists (con.Nvalueleq v x) a = decide_at_most (pos (distinct_count (front v a))) (behind v a)
  decide_meets lists (con.WLiteral x k) a = decide_int (at a 0) k
  decide_meets lists (con.WNotliteral x k) a = decide_not (decide_int (at a 0) k)
  decide_meets lists (con.WInset x ks) a = decide_has ks (at a 0)
  decide_meets lists (con.WNotinset x ks) a = decide_not (decide_has ks (at a 0))
  decide_meets lists (con.WInrange x k k2) a = decide_both (decide_at_most k (at a 0)) (decide_at_most (at a 0) k2)
  decide_meets lists (con.WNotinrange x k k2) a = decide_not (decide_both (decide_at_most k (at a 0)) (decide_at_most (at a 0) k2))
  decide_meets lists (con.WInintervalset x ks) a = decide_intervals ks (at a 0)
  decide_meets lists con.Always a = inl tt
  decide_meets lists con.Never a = decide_never
  decide_meets lists (con.WatchedOr cs) a = decide_some lists cs a
  decide_meets lists (con.WatchedAnd cs) a = decide_each lists cs a
  decide_meets lists (con.Reify' p (more_of-Con c none) r) a = decide_exactly (decide_int (behind (places c) a) (pos 1)) (decide_meets lists c (front (places c) a))
  decide_meets lists (con.Reifyimply' p (more_of-Con c none) r) a = decide_implies (decide_int (behind (places c) a) (pos 1)) (decide_meets lists c (front (places c) a))
  decide_meets lists (con.Negated' p (more_of-Con c none)) a = decide_not (decide_meets lists c a)

  pub decide_some : (lists : List Tuples) (cs : Cons) (a : List ℤ) → Decided (SomeMeet lists cs a)
  decide_some lists con.End a = decide_never
  decide_some lists (con.More' p (more_of-Con c none) q (more_of-Cons cs nothing)) a = decide_either (decide_meets lists c (front (places c) a)) (decide_some lists cs (rest (places c) a))

  pub decide_each : (lists : List Tuples) (cs : Cons) (a : List ℤ) → Decided (EachMeets lists cs a)
  decide_each lists con.End a = inl tt
  decide_each lists (con.More' p (more_of-Con c none) q (more_of-Cons cs nothing)) a = decide_both (decide_meets lists c (front (places c) a)) (decide_each lists cs (rest (places c) a))

pub decide_holds_all : (lists : List Tuples) (cons : List Con) (s : List ℤ) → Decided (HoldsAll lists cons s)
decide_holds_all lists cons s = decide_all (λ c. decide_meets lists c (map (value_of (at s)) (places c))) cons

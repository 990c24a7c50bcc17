-- The members of a list that are better than all before them.
use Rattle.std.proofs.Common.{◌⊎◌, ◌≡◌, ℤ, inl, inr, ◌↔◌, Bool, true, false, if◌then◌else◌, List, [], ◌∷◌, ◌++◌, Option, Some, None, refl, sym, ap, subst, arith}
use Rattle.std.proofs.lemmas.Int.{ints}
use Rattle.std.specs.List.{AllByRecursion}
use Rattle.mn_model.specs.Members.{HasMember, HoldsInOrder, AreDistinct}
use Rattle.mn_model.specs.Problem.{Problem}
use Rattle.mn_model.specs.declared.search.Goal.{Goal}
use Rattle.mn_meaning.specs.Laws.{DomainsAscend, IsBefore, IsReached, IsRecord, Precedes, objective, Betters}
use Rattle.mn_meaning.specs.Solutions.{is_better, beats, records_after, owed, search_order, solutions, listed}
use Rattle.mn_meaning.proofs.Assignments.{not_before, ordered_distinct}
use Rattle.mn_meaning.proofs.MemberLemmas.{of_members}
use Rattle.mn_meaning.proofs.Solving.{solutions_ordered}

-- a beats the best so far
abbrev Beats : Goal → ℤ → Option ℤ → Type 0
Beats g a None = Unit {0}
Beats g a (Some best) = IsBefore g.maximise a best

-- the test tells it
better_so : (down : Bool) (a b : ℤ) → is_better down a b ≡ true → IsBefore down a b
better_so true a b e = omega (arith, ints, e)
better_so false a b e = omega (arith, ints, e)

better_not : (down : Bool) (a b : ℤ) → is_better down a b ≡ false → IsBefore down a b → ⊥
better_not true a b e before = omega (arith, ints, e, before)
better_not false a b e before = omega (arith, ints, e, before)

beats_so : (g : Goal) (a : ℤ) (best : Option ℤ) → beats g.maximise a best ≡ true → Beats g a best
beats_so g a None e = tt
beats_so g a (Some b) e = better_so g.maximise a b e

beats_not : (g : Goal) (a : ℤ) (best : Option ℤ) → beats g.maximise a best ≡ false → Beats g a best → ⊥
beats_not g a None e = cc
beats_not g a (Some b) e = better_not g.maximise a b e

-- better than the better is better
before_before : (down : Bool) (a b c : ℤ) → IsBefore down a b → IsBefore down b c → IsBefore down a c
before_before true a b c first second = omega (arith, ints, first, second)
before_before false a b c first second = omega (arith, ints, first, second)

-- where c isn't better than b, what is better than b is better than c
before_unless : (down : Bool) (a b c : ℤ) → IsBefore down a b → is_better down c b ≡ false → IsBefore down a c
before_unless true a b c first e = omega (arith, ints, first, e)
before_unless false a b c first e = omega (arith, ints, first, e)

still_beats : (g : Goal) (a b : ℤ) (best : Option ℤ) → IsBefore g.maximise a b → Beats g b best → Beats g a best
still_beats g a b None before beat = tt
still_beats g a b (Some c) before beat = before_before g.maximise a b c before beat

-- s stands in the list, better than each before it and than the best so far
record IsRecordAfter (g : Goal) (best : Option ℤ) (all : List (List ℤ)) (s : List ℤ) : Type 0 where
  before : List (List ℤ)
  behind : List (List ℤ)
  stands : before ++ s ∷ behind ≡ all
  betters : AllByRecursion (Betters g s) before
  beat : Beats g (objective g s) best

head_same : {X : Type 0} {x y : X} {xs ys : List X} → x ∷ xs ≡ y ∷ ys → x ≡ y
head_same e = cc

tail_same : {X : Type 0} {x y : X} {xs ys : List X} → x ∷ xs ≡ y ∷ ys → xs ≡ ys
tail_same e = cc

-- what beats the best so far is better than what doesn't
beats_other : (g : Goal) (a c : ℤ) (best : Option ℤ) → Beats g a best → beats g.maximise c best ≡ false → IsBefore g.maximise a c
beats_other g a c None beat e = cc
beats_other g a c (Some b) beat e = before_unless g.maximise a b c beat e

-- each member of the records is a record
record_is : (g : Goal) (best : Option ℤ) (all : List (List ℤ)) (s : List ℤ) → HasMember (records_after g best all) s → IsRecordAfter g best all s
record_is g best [] s member = absurd member
record_is g best (t ∷ others) s member = by (beats g.maximise (objective g t) best) refl (record_is g (Some (objective g t)) others s) (record_is g best others s) member
  where
    by : (b : Bool) → beats g.maximise (objective g t) best ≡ b → (HasMember (records_after g (Some (objective g t)) others) s → IsRecordAfter g (Some (objective g t)) others s) → (HasMember (records_after g best others) s → IsRecordAfter g best others s)
        → HasMember (if b then t ∷ records_after g (Some (objective g t)) others else records_after g best others) s → IsRecordAfter g best (t ∷ others) s
    by true e kept passed (inl same) = record { before = []; behind = others; stands = ap (λ u. u ∷ others) (sym same); betters = tt; beat = subst (λ u. Beats g (objective g u) best) same (beats_so g (objective g t) best e) }
    by true e kept passed (inr later) = let r = kept later in record { before = t ∷ r.before; behind = r.behind; stands = ap (λ us. t ∷ us) r.stands; betters = (r.beat, r.betters); beat = still_beats g (objective g s) (objective g t) best r.beat (beats_so g (objective g t) best e) }
    by false e kept passed member = let r = passed member in record { before = t ∷ r.before; behind = r.behind; stands = ap (λ us. t ∷ us) r.stands; betters = (beats_other g (objective g s) (objective g t) best r.beat e, r.betters); beat = r.beat }

-- and each record is a member
is_record : (g : Goal) (best : Option ℤ) (all before : List (List ℤ)) (s : List ℤ) (behind : List (List ℤ)) → before ++ s ∷ behind ≡ all → AllByRecursion (Betters g s) before → Beats g (objective g s) best → HasMember (records_after g best all) s
is_record g best [] [] s behind stands betters beat = cc
is_record g best [] (u ∷ before) s behind stands betters beat = cc
is_record g best (t ∷ others) [] s behind stands betters beat = by (beats g.maximise (objective g t) best) refl
  where
    same : t ≡ s
    same = sym (head_same stands)

    by : (b : Bool) → beats g.maximise (objective g t) best ≡ b → HasMember (if b then t ∷ records_after g (Some (objective g t)) others else records_after g best others) s
    by true e = inl same
    by false e = absurd (beats_not g (objective g t) best e (subst (λ u. Beats g (objective g u) best) (sym same) beat))
is_record g best (t ∷ others) (u ∷ before) s behind stands betters beat =
    by (beats g.maximise (objective g t) best)
    (is_record g (Some (objective g t)) others before s behind (tail_same stands) betters.1 (subst (Betters g s) (head_same stands) betters.0))
    (is_record g best others before s behind (tail_same stands) betters.1 beat)
  where
    by : (b : Bool) → HasMember (records_after g (Some (objective g t)) others) s → HasMember (records_after g best others) s → HasMember (if b then t ∷ records_after g (Some (objective g t)) others else records_after g best others) s
    by true kept passed = inr kept
    by false kept passed = passed

-- each is better than those before it
improving : (g : Goal) (best : Option ℤ) (all : List (List ℤ)) → HoldsInOrder (λ s t. Betters g t s) (records_after g best all)
improving g best [] = tt
improving g best (t ∷ others) =
    by (beats g.maximise (objective g t) best)
    (of_members (λ u. Betters g u t) (records_after g (Some (objective g t)) others) (λ u member. (record_is g (Some (objective g t)) others u member).beat))
    (improving g (Some (objective g t)) others) (improving g best others)
  where
    by : (b : Bool) → AllByRecursion (λ u. Betters g u t) (records_after g (Some (objective g t)) others) → HoldsInOrder (λ s t. Betters g t s) (records_after g (Some (objective g t)) others) → HoldsInOrder (λ s t. Betters g t s) (records_after g best others)
        → HoldsInOrder (λ s t. Betters g t s) (if b then t ∷ records_after g (Some (objective g t)) others else records_after g best others)
    by true first kept passed = (first, kept)
    by false first kept passed = passed

-- no member is better than all of the records and the best so far
reached : (g : Goal) (best : Option ℤ) (all : List (List ℤ)) (s : List ℤ) → HasMember all s → IsReached g (records_after g best all) s ⊎ (Beats g (objective g s) best → ⊥)
reached g best [] s member = absurd member
reached g best (t ∷ others) s (inl same) = by (beats g.maximise (objective g t) best) refl
  where
    by : (b : Bool) → beats g.maximise (objective g t) best ≡ b
        → IsReached g (if b then t ∷ records_after g (Some (objective g t)) others else records_after g best others) s ⊎ (Beats g (objective g s) best → ⊥)
    by true e = inl (t, inl refl, subst (λ u. Betters g u t → ⊥) same (not_before g.maximise (objective g t)))
    by false e = inr (subst (λ u. Beats g (objective g u) best → ⊥) same (beats_not g (objective g t) best e))
reached g best (t ∷ others) s (inr later) = by (beats g.maximise (objective g t) best) (reached g (Some (objective g t)) others s later) (reached g best others s later)
  where
    by : (b : Bool) → IsReached g (records_after g (Some (objective g t)) others) s ⊎ (Betters g s t → ⊥) → IsReached g (records_after g best others) s ⊎ (Beats g (objective g s) best → ⊥)
        → IsReached g (if b then t ∷ records_after g (Some (objective g t)) others else records_after g best others) s ⊎ (Beats g (objective g s) best → ⊥)
    by true (inl kept) passed = inl (kept.0, inr kept.1, kept.2)
    by true (inr not) passed = inl (t, inl refl, not)
    by false kept passed = passed

-- the records stand as they stood
All-records : (P : List ℤ → Type 0) (g : Goal) (best : Option ℤ) (all : List (List ℤ)) → AllByRecursion P all → AllByRecursion P (records_after g best all)
All-records P g best [] each = tt
All-records P g best (t ∷ others) each = by (beats g.maximise (objective g t) best) (All-records P g (Some (objective g t)) others each.1) (All-records P g best others each.1)
  where
    by : (b : Bool) → AllByRecursion P (records_after g (Some (objective g t)) others) → AllByRecursion P (records_after g best others) → AllByRecursion P (if b then t ∷ records_after g (Some (objective g t)) others else records_after g best others)
    by true kept passed = (each.0, kept)
    by false kept passed = passed

records_ordered : (R : List ℤ → List ℤ → Type 0) (g : Goal) (best : Option ℤ) (all : List (List ℤ)) → HoldsInOrder R all → HoldsInOrder R (records_after g best all)
records_ordered R g best [] ordered = tt
records_ordered R g best (t ∷ others) ordered = by (beats g.maximise (objective g t) best) (records_ordered R g (Some (objective g t)) others ordered.1) (records_ordered R g best others ordered.1)
  where
    by : (b : Bool) → HoldsInOrder R (records_after g (Some (objective g t)) others) → HoldsInOrder R (records_after g best others) → HoldsInOrder R (if b then t ∷ records_after g (Some (objective g t)) others else records_after g best others)
    by true kept passed = (All-records (R t) g (Some (objective g t)) others ordered.0, kept)
    by false kept passed = passed

-- what is owed
pub all_owed : (p : Problem) → p.goal ≡ None → listed p ≡ solutions p
all_owed p none = ap (λ goal. owed goal (solutions p)) none

pub records_owed : (p : Problem) (g : Goal) → p.goal ≡ Some g → (s : List ℤ) → HasMember (listed p) s ↔ IsRecord g (solutions p) s
records_owed p g some s = subst (λ goal. HasMember (owed goal (solutions p)) s ↔ IsRecord g (solutions p) s) (sym some) (to, from)
  where
    to : HasMember (records_after g None (solutions p)) s → IsRecord g (solutions p) s
    to member = let r = record_is g None (solutions p) s member in record { before = r.before; behind = r.behind; stands = r.stands; betters = r.betters }

    from : IsRecord g (solutions p) s → HasMember (records_after g None (solutions p)) s
    from r = is_record g None (solutions p) r.before s r.behind r.stands r.betters tt

pub records_improve : (p : Problem) (g : Goal) → p.goal ≡ Some g → HoldsInOrder (λ s t. Betters g t s) (listed p)
records_improve p g some = subst (λ goal. HoldsInOrder (λ s t. Betters g t s) (owed goal (solutions p))) (sym some) (improving g None (solutions p))

pub records_reach : (p : Problem) (g : Goal) → p.goal ≡ Some g → (s : List ℤ) → HasMember (solutions p) s → IsReached g (listed p) s
records_reach p g some s member = subst (λ goal. IsReached g (owed goal (solutions p)) s) (sym some) (by (reached g None (solutions p) s member))
  where
    by : IsReached g (records_after g None (solutions p)) s ⊎ (Unit {0} → ⊥) → IsReached g (records_after g None (solutions p)) s
    by (inl r) = r
    by (inr not) = absurd (not tt)

owed_ordered : (R : List ℤ → List ℤ → Type 0) (goal : Option Goal) (all : List (List ℤ)) → HoldsInOrder R all → HoldsInOrder R (owed goal all)
owed_ordered R None all ordered = ordered
owed_ordered R (Some g) all ordered = records_ordered R g None all ordered

pub listed_ordered : (p : Problem) → DomainsAscend p → HoldsInOrder (Precedes p) (listed p)
listed_ordered p ascend = owed_ordered (Precedes p) p.goal (solutions p) (solutions_ordered p ascend)

pub listed_distinct : (p : Problem) → DomainsAscend p → AreDistinct (listed p)
listed_distinct p ascend = ordered_distinct (search_order p) (listed p) (listed_ordered p ascend)

-- Values that are there again behind their place.
use Rattle.std.proofs.Common.{◌≡◌, ◌≢◌, ◌↔◌, ℕ, ◌+◌, ◌-◌, ℤ, List, [], ◌∷◌, inl, inr, ⊎_elim, length, take, drop, Bool, true, false, IsTrue, if◌then◌else◌, ◌≤◌, refl, sym, ap, subst, ◌∙◌, arith, nat_lt}
use Rattle.std.proofs.lemmas.Bool.Decides.{nat_tests}
use Rattle.std.proofs.lemmas.List.{take_rest}
use Rattle.std.specs.List.{AllByRecursion}
use Rattle.std.specs.Ordering.{int_eq}
use Rattle.mn_model.specs.Decided.{Decided}
use Rattle.mn_model.specs.Domain.{Has}
use Rattle.mn_model.specs.declared.constraint.Term.{Term}
use Rattle.mn_meaning.specs.Families.{occurrences, distinct_count, AllDiffer, decide_has}
use Rattle.mn_meaning.specs.Laws.{DistinctAreCounted, IsOnceOf}
use Rattle.mn_meaning.specs.Meaning.{values_at}
use Rattle.mn_meaning.proofs.Places.{int_eq-same, int_eq-other}

-- the answer for a slice of all that is left is one for what is left
pub later : (f : ℕ → ℤ) (items : List Term) (i : ℕ) (k a : ℤ) (r : Bool) → k ≡ a → IsTrue r ↔ Has (values_at f (take (length items - i) (drop i items))) k → IsTrue r ↔ Has (values_at f (drop i items)) a
later f items i k a r same tells =
    subst (λ (b : ℤ). IsTrue r ↔ Has (values_at f (drop i items)) b) same (subst (λ (ts : List Term). IsTrue r ↔ Has (values_at f ts) k) (take_rest items i) tells)

-- none of the values is a: all differ from it, and back
pub all_other : (a : ℤ) (values : List ℤ) → (Has values a → ⊥) → AllByRecursion (λ b. a ≢ b) values
all_other a [] none = tt
all_other a (b ∷ values) none = (λ e. none (inl (sym e)), all_other a values (λ has. none (inr has)))

pub none_same : (a : ℤ) (values : List ℤ) → AllByRecursion (λ b. a ≢ b) values → Has values a → ⊥
none_same a [] all has = has
none_same a (b ∷ values) all has = ⊎_elim (λ e. all.0 (sym e)) (none_same a values all.1) has

module _ (a : ℤ) (here rest : List ℤ) (next : here ≡ a ∷ rest) where
  -- the first value is there again: so not all differ
  pub repeated : Has rest a → AllDiffer here → ⊥
  repeated again differ = none_same a rest (subst AllDiffer next differ).0 again

  -- it isn't: those behind it decide of all
  pub differ_on : (all : List ℤ) → (Has rest a → ⊥) → AllDiffer here ↔ AllDiffer all → AllDiffer rest ↔ AllDiffer all
  differ_on all none so_far =
      (λ differ. so_far.0 (subst AllDiffer (sym next) (all_other a rest none, differ)), λ differ. (subst AllDiffer next (so_far.1 differ)).1)

-- a value that is there occurs, and one that isn't doesn't
at_least : (t : Bool) (n : ℕ) → 1 ≤ n → 1 ≤ (if t then 1 else 0) + n
at_least true n more = omega arith
at_least false n more = omega arith

occurs : (a : ℤ) (values : List ℤ) → Has values a → 1 ≤ occurrences a values
occurs a [] has = absurd has
occurs a (b ∷ values) has = ⊎_elim here (λ behind. at_least (int_eq b a) (occurrences a values) (occurs a values behind)) has
  where
    here : b ≡ a → 1 ≤ occurrences a (b ∷ values)
    here e = let one = ap (λ (t : Bool). (if t then 1 else 0) + occurrences a values) (int_eq-same b a e) in omega arith

absent : (a : ℤ) (values : List ℤ) → (Has values a → ⊥) → occurrences a values ≡ 0
absent a [] none = refl
absent a (b ∷ values) none =
    ap (λ (t : Bool). (if t then 1 else 0) + occurrences a values) (int_eq-other b a (λ e. none (inl e))) ∙ (let others = absent a values (λ has. none (inr has)) in omega arith)

some : (n : ℕ) → 1 ≤ n → nat_lt 0 n ≡ true
some n more = grind (arith, nat_tests)

-- how many values are distinct, where the first one is there again, or not
module _ (a : ℤ) (here rest : List ℤ) (next : here ≡ a ∷ rest) where
  pub distinct_count-again : Has rest a → distinct_count here ≡ 0 + distinct_count rest
  distinct_count-again again = ap distinct_count next ∙ ap (λ (t : Bool). (if t then 0 else 1) + distinct_count rest) (some (occurrences a rest) (occurs a rest again))

  pub distinct_count-last : (Has rest a → ⊥) → distinct_count here ≡ 1 + distinct_count rest
  distinct_count-last none = ap distinct_count next ∙ ap (λ (n : ℕ). (if nat_lt 0 n then 0 else 1) + distinct_count rest) (absent a rest none)

-- a list with the same values, each once, and as many as are counted
abbrev Counted : List ℤ → Type 0
Counted values = (once : List ℤ) × IsOnceOf values once × (distinct_count values ≡ length once)

counted_on : (b : ℤ) (values : List ℤ) → Decided (Has values b) → Counted values → Counted (b ∷ values)
counted_on b values (inl again) (once, is, count) = (
  once,
  record {
    distinct = is.distinct;
    same = λ a. (λ has. inr ((is.same a).0 has), λ has. ⊎_elim (λ e. (is.same a).1 (subst (Has values) e again)) (is.same a).1 has);
  },
  distinct_count-again b (b ∷ values) values refl again ∙ omega (arith, count),
)
counted_on b values (inr none) (once, is, count) = (
  b ∷ once,
  record {
    distinct = (all_other b once (λ has. none ((is.same b).0 has)), is.distinct);
    same = λ a. (⊎_elim inl (λ has. inr ((is.same a).0 has)), ⊎_elim inl (λ has. inr ((is.same a).1 has)));
  },
  distinct_count-last b (b ∷ values) values refl none ∙ omega (arith, count),
)

pub distinct_counted : DistinctAreCounted
distinct_counted [] = ([], record { distinct = tt; same = λ a. (λ has. has, λ has. has) }, refl)
distinct_counted (b ∷ values) = counted_on b values (decide_has values b) (distinct_counted values)

-- Values that two places have in common, and how far the extreme comes.
use Rattle.std.proofs.Common.{◌≡◌, ◌≢◌, ◌↔◌, ℕ, ◌+◌, ◌≤◌, ℤ, ◌<ℤ◌, ◌≤ℤ◌, ◌⊎◌, inl, inr, Bool, true, false, not, IsTrue, List, length, slice_get, Option, Some, None, refl, sym, subst, ◌∙◌, arith, true≢false}
use Rattle.std.proofs.lemmas.Int.{ints}
use Rattle.std.specs.Prelude.{int_le, nat_eq}
use Rattle.std.proofs.lemmas.Bool.{eq-eqb, eqb-true}
use Rattle.mn_model.proofs.Ordered.{le_so, le_true}
use Rattle.mn_model.specs.Decided.{Decided, decide_nat}
use Rattle.mn_model.specs.declared.constraint.Term.{Term}
use Rattle.mn_boxes.specs.Places.{PlaceHas}
use Rattle.mn_meaning.specs.Families.{IsWithin}
use Rattle.mn_prop.specs.Contexts.{IsNextAt}
use Rattle.mn_arith.specs.Extremes.{IsEndOf, IsFirstFrom, IsNextShared, IsReachBeside, OtherHas, OthersReach, OtherShares, Reaches, Shares, SomeExtreme}
use Rattle.mn_arith.proofs.Others.{OthersBefore, all_others}
use Rattle.mn_arith.proofs.Spreading.{one_end, through, turn}
use Rattle.mn_arith.proofs.Told.{itself}

-- ---- the next value in common

-- where a itself isn't there, the next one is the first from it
pub next_is_first : (box : List (List ℤ)) (t : Term) (a : ℤ) (next : Option ℤ) → (PlaceHas box t a → ⊥) → IsNextAt box t a next → IsFirstFrom box t a next
next_is_first box t a None absent is = λ b has. less b has (is b has)
  where
    less : (b : ℤ) → PlaceHas box t b → b ≤ℤ a → b <ℤ a
    less b has to = grind (arith, ints, not_same, to)
      where
        not_same : b ≡ a → ⊥
        not_same same = absent (subst (PlaceHas box t) same has)
next_is_first box t a (Some next) absent is = (is.0, less_equal, λ b has. by b has (is.2 b has))
  where
    less_equal : a ≤ℤ next
    less_equal = let less = is.1 in omega (arith, ints, less)

    by : (b : ℤ) → PlaceHas box t b → (b ≤ℤ a) ⊎ (next ≤ℤ b) → (b <ℤ a) ⊎ (next ≤ℤ b)
    by b has (inr from) = inr from
    by b has (inl to) = inl (grind (arith, ints, not_same, to))
      where
        not_same : b ≡ a → ⊥
        not_same same = absent (subst (PlaceHas box t) same has)

pub here_is_first : (box : List (List ℤ)) (t : Term) (a : ℤ) → PlaceHas box t a → IsFirstFrom box t a (Some a)
here_is_first box t a has = (has, omega (arith, ints), λ b there. below_or b)
  where
    below_or : (b : ℤ) → (b <ℤ a) ⊎ (a ≤ℤ b)
    below_or b = grind (arith, ints)

-- b is a value of t from a on, and none before it is shared
pub record SharedFrom (box : List (List ℤ)) (t u : Term) (a b : ℤ) : Type 0 where
  pub there : PlaceHas box t b
  pub from : a ≤ℤ b
  pub before : (d : ℤ) → PlaceHas box t d → PlaceHas box u d → (d <ℤ a) ⊎ (b ≤ℤ d)

module _ (box : List (List ℤ)) (t u : Term) (a : ℤ) where
  pub shared_init : (b : ℤ) → IsFirstFrom box t a (Some b) → SharedFrom box t u a b
  shared_init b is = record { there = is.0; from = is.1; before = λ d one two. is.2 d one }

  pub none_from : IsFirstFrom box t a None → IsNextShared box t u a None
  none_from none d one two = none d one

  module _ (b : ℤ) (so_far : SharedFrom box t u a b) (absent : PlaceHas box u b → ⊥) where
    past : (d : ℤ) → PlaceHas box t d → PlaceHas box u d → (d <ℤ a) ⊎ (b <ℤ d)
    past d one two = by (so_far.before d one two)
      where
        by : (d <ℤ a) ⊎ (b ≤ℤ d) → (d <ℤ a) ⊎ (b <ℤ d)
        by (inl less) = inl less
        by (inr to) = inr (grind (arith, ints, not_same, to))
          where
            not_same : d ≡ b → ⊥
            not_same same = absent (subst (PlaceHas box u) same two)

    pub none_next : IsNextAt box u b None → IsNextShared box t u a None
    none_next none d one two = by (past d one two)
      where
        by : (d <ℤ a) ⊎ (b <ℤ d) → d <ℤ a
        by (inl less) = less
        by (inr more) = let to = none d two in absurd (omega (arith, ints, to, more))

    module _ (behind : ℤ) (next : IsNextAt box u b (Some behind)) where
      from_behind : (d : ℤ) → PlaceHas box t d → PlaceHas box u d → (d <ℤ a) ⊎ (behind ≤ℤ d)
      from_behind d one two = by (past d one two) (next.2 d two)
        where
          by : (d <ℤ a) ⊎ (b <ℤ d) → (d ≤ℤ b) ⊎ (behind ≤ℤ d) → (d <ℤ a) ⊎ (behind ≤ℤ d)
          by (inl less) either = inl less
          by (inr more) (inl to) = absurd (omega (arith, ints, more, to))
          by (inr more) (inr from) = inr from

      pub none_behind : IsFirstFrom box t behind None → IsNextShared box t u a None
      none_behind none d one two = by (from_behind d one two)
        where
          by : (d <ℤ a) ⊎ (behind ≤ℤ d) → d <ℤ a
          by (inl less) = less
          by (inr from) = let to = none d one in absurd (omega (arith, ints, to, from))

      pub shared_next : (later : ℤ) → IsFirstFrom box t behind (Some later) → SharedFrom box t u a later
      shared_next later is = record { there = is.0; from = (let low = so_far.from in let more = next.1 in let to = is.1 in omega (arith, ints, low, more, to)); before = λ d one two. by d one (from_behind d one two) }
        where
          by : (d : ℤ) → PlaceHas box t d → (d <ℤ a) ⊎ (behind ≤ℤ d) → (d <ℤ a) ⊎ (later ≤ℤ d)
          by d one (inl less) = inl less
          by d one (inr from) = of (is.2 d one)
            where
              of : (d <ℤ behind) ⊎ (later ≤ℤ d) → (d <ℤ a) ⊎ (later ≤ℤ d)
              of (inl less) = absurd (omega (arith, ints, less, from))
              of (inr to) = inr to

  pub shared_found : (b : ℤ) → SharedFrom box t u a b → PlaceHas box u b → IsNextShared box t u a (Some b)
  shared_found b so_far has = (so_far.there, has, so_far.from, so_far.before)

-- what the next one in common tells
pub past_true : (box : List (List ℤ)) (t u : Term) (m b : ℤ) → IsNextShared box t u m (Some b) → IsTrue true ↔ Shares true box t u m
past_true box t u m b is = (λ e. record { value = b; first = is.0; second = is.1; past = is.2 }, λ shares. refl)

pub never_true : (box : List (List ℤ)) (t u : Term) (m : ℤ) → IsNextShared box t u m None → IsTrue false ↔ Shares true box t u m
never_true box t u m none = (λ never. absurd (true≢false (sym never)), λ shares. absurd (let less = none shares.value shares.first shares.second in let from = shares.past in omega (arith, ints, less, from)))

pub past_false : (box : List (List ℤ)) (t u : Term) (m lo b : ℤ) → ((d : ℤ) → PlaceHas box t d → lo ≤ℤ d) → IsNextShared box t u lo (Some b) → IsTrue (int_le b m) ↔ Shares false box t u m
past_false box t u m lo b least is = (λ e. record { value = b; first = is.0; second = is.1; past = le_so b m e }, λ shares. by shares (is.3 shares.value shares.first shares.second))
  where
    by : (s : Shares false box t u m) → (s.value <ℤ lo) ⊎ (b ≤ℤ s.value) → IsTrue (int_le b m)
    by s (inl less) = let from = least s.value s.first in absurd (omega (arith, ints, less, from))
    by s (inr to) = let past = s.past in le_true b m (omega (arith, ints, to, past))

pub past_none : (box : List (List ℤ)) (t u : Term) (m lo : ℤ) → ((d : ℤ) → PlaceHas box t d → lo ≤ℤ d) → IsNextShared box t u lo None → IsTrue false ↔ Shares false box t u m
past_none box t u m lo least none = (λ never. absurd (true≢false (sym never)), λ s. absurd (let less = none s.value s.first s.second in let from = least s.value s.first in omega (arith, ints, less, from)))

-- none of the first places but i shares such a value, so none does at the end
pub none_shares : (us v : List Term) (x : Term) (j i : ℕ) (g : Bool) (m : ℤ) (box : List (List ℤ)) → us ≡ v → length us ≤ j → OthersBefore v j i (λ t. Shares g box t x m → ⊥) → IsTrue false ↔ OtherShares v x i g m box
none_shares us v x j i g m box same past before = (λ never. absurd (true≢false (sym never)), λ other. absurd (all_others us v j i (λ t. Shares g box t x m → ⊥) same past before other.place other.term other.stands other.other other.shares))

-- ---- how far the extreme comes

pub record ReachTo (v : List Term) (i : ℕ) (a : ℤ) (g : Bool) (box : List (List ℤ)) (k : ℕ) (reach : ℤ) : Type 0 where
  pub given : IsWithin g reach a
  pub others : OthersBefore v k i (Reaches g reach box)
  pub least : (m : ℤ) → IsWithin g m a → OthersReach v i g m box → IsWithin g m reach

module _ (v : List Term) (i : ℕ) (a : ℤ) (g : Bool) (box : List (List ℤ)) where
  pub reach_init : ReachTo v i a g box 0 a
  reach_init = record { given = itself g a; others = λ k t at_k below other. absurd (omega (arith, below)); least = λ m given others. given }

  pub reach_next : (k : ℕ) (t : Term) (reach own farther : ℤ) → slice_get v k ≡ Some t → ReachTo v i a g box k reach → (i ≡ k → own ≡ reach) → (i ≢ k → IsEndOf (not g) box t own) → IsWithin g farther reach → IsWithin g farther own → (farther ≡ reach) ⊎ (farther ≡ own) → ReachTo v i a g box (k + 1) farther
  reach_next k t reach own farther stands so_far out end past_reach past_own one = record { given = through g farther reach a past_reach so_far.given; others = others; least = λ m given all. least m given all one (decide_nat i k) }
    where
      others : OthersBefore v (k + 1) i (Reaches g farther box)
      others j u at_j below differs = each (decide_nat j k)
        where
          each : Decided (j ≡ k) → Reaches g farther box u
          each (inl same) = let is : t ≡ u = cc (same, stands, at_j) in record { value = own; there = subst (λ w. PlaceHas box w own) is (end (λ e. differs (same ∙ sym e))).there; within = past_own }
          each (inr other) = let r = so_far.others j u at_j (omega (arith, below, other)) differs in record { value = r.value; there = r.there; within = through g farther reach r.value past_reach r.within }

      least : (m : ℤ) → IsWithin g m a → OthersReach v i g m box → (farther ≡ reach) ⊎ (farther ≡ own) → Decided (i ≡ k) → IsWithin g m farther
      least m given all (inl same) d = subst (IsWithin g m) (sym same) (so_far.least m given all)
      least m given all (inr same) (inl is) = subst (IsWithin g m) (sym (same ∙ out is)) (so_far.least m given all)
      least m given all (inr same) (inr differs) =
          let r = all k t stands (λ e. differs (sym e)) in
          subst (IsWithin g m) (sym same) (through g m r.value own r.within (turn g own r.value ((end differs).each r.value r.there)))

  pub reach_all : (us : List Term) (k : ℕ) (reach : ℤ) → us ≡ v → length us ≤ k → ReachTo v i a g box k reach → IsReachBeside v i a g reach box
  reach_all us k reach same past so_far = record { given = so_far.given; others = λ j t stands differs. all_others us v k i (Reaches g reach box) same past so_far.others j t stands differs; least = so_far.least }

  -- ---- some value of x can be the extreme

  module _ (x : Term) (reach : ℤ) (is : IsReachBeside v i a g reach box) where
    pub own_can : reach ≡ a → PlaceHas box x a → SomeExtreme v x i a g box
    own_can same has = record { value = a; there = has; can = record { given = itself g a; others = subst (λ m. OthersReach v i g m box) same is.others; some = inl refl } }

    other_can : OtherShares v x i g reach box → SomeExtreme v x i a g box
    other_can o =
        let m = o.shares.value in
        record {
          value = m;
          there = o.shares.second;
          can = record {
            given = through g m reach a o.shares.past is.given;
            others = λ j t stands differs. (let r = is.others j t stands differs in record { value = r.value; there = r.there; within = through g m reach r.value o.shares.past r.within });
            some = inr (record { place = o.place; term = o.term; stands = o.stands; other = o.other; there = o.shares.first });
          };
        }

    pub rest_can : (r : Bool) → (reach ≡ a → PlaceHas box x a → ⊥) → IsTrue r ↔ OtherShares v x i g reach box → IsTrue r ↔ SomeExtreme v x i a g box
    rest_can r absent tells = (λ e. other_can (tells.0 e), λ some. tells.1 (by some some.can.some))
      where
        by : (s : SomeExtreme v x i a g box) → (s.value ≡ a) ⊎ OtherHas v i s.value box → OtherShares v x i g reach box
        by s (inl same) =
            let past = s.can in
            let to = is.least s.value past.given past.others in
            absurd (absent (one_end g reach a (subst (λ m. IsWithin g m reach) same to) is.given) (subst (PlaceHas box x) same s.there))
        by s (inr o) = let past = s.can in record { place = o.place; term = o.term; stands = o.stands; other = o.other; shares = record { value = s.value; first = o.there; second = s.there; past = is.least s.value past.given past.others } }

-- ---- numbers of places

pub same_place : (i j : ℕ) → i ≡ j → nat_eq i j ≡ true
same_place i j same = eq-eqb i j same

pub other_place : (i j : ℕ) → i ≢ j → nat_eq i j ≡ false
other_place i j differs = by (nat_eq i j) refl
  where
    by : (t : Bool) → nat_eq i j ≡ t → t ≡ false
    by true e = absurd (differs (eqb-true i j e))
    by false e = refl

-- The domain of a declaration, as it is read.
use Rattle.std.proofs.Common.{◌≡◌, suc, ◌-◌, ◌≤◌, ℤ, pos, ◌+ℤ◌, ◌-ℤ◌, ◌<ℤ◌, ◌≤ℤ◌, int_lt, Bool, true, false, ◌&&◌, cond, List, [], ◌∷◌, ◌++◌, length, filter, Some, None, refl, sym, ap, ◌∙◌, subst, arith}
use Rattle.std.specs.Prelude.{unwrap_or}
use Rattle.std.specs.Int.{int_gap}
use Rattle.std.specs.List.{AllByRecursion}
use Rattle.std.proofs.lemmas.Int.{ints}
use Rattle.std.proofs.lemmas.List.{length_push}
use Rattle.mn_model.specs.Domain.{Ascends, IsDomain, numbers_from, stretch}
use Rattle.mn_model.specs.Lawful.{SuitsKind}
use Rattle.mn_model.specs.declared.limits.TheConstants.{SPAN}
use Rattle.mn_model.specs.declared.variable.Kind as variable
use Rattle.mn_model.specs.declared.variable.Kind.TheVariants.{Binary, Bounded, Sparse, Discrete}
use Rattle.mn_model.proofs.Stretches.{length-numbers_from, slice_get-numbers_from, length-stretch, plus-int_gap}
use Rattle.mn_model.proofs.Lists.{all_so}
use Rattle.mn_model.proofs.Ordered.{lt_false, lt_true}
use Rattle.mn_grammar.specs.Places.{when}
use Rattle.mn_grammar.specs.declared.Kind.TheVariants as kinds
use Rattle.mn_grammar.specs.declared.Limit.TheVariants as limits
use Rattle.mn_decls.specs.Variables.{one_value, fair_end, with_range, is_past_span, fair_first, with_part, parts_judge, breaks_domain, domain_of}
use Rattle.mn_decls.proofs.Ranges.{stretch_one}
use Rattle.mn_sections.specs.Trees as trees
use Rattle.mn_sections.specs.Trees.{value_at}
use Rattle.mn_sections.proofs.Gathering.{mark_none, AreGathered, maybe_breaks, maybe_means}
use Rattle.mn_sections.proofs.Kept.{on_none, behind_nothing, when_not, first_not, one_of_all, lengths}

-- 1. The ends of a stretch
record HasEnds (values : List ℤ) (lo hi : ℤ) : Type 0 where
  ordered : lo ≤ℤ hi
  same : stretch lo hi ≡ values

module _ (lo hi : ℤ) where
  first_value : value_at (stretch lo hi) 0 ≡ lo
  unfolding stretch numbers_from
  first_value = refl

  last_value : value_at (stretch lo hi) (length (stretch lo hi) - 1) ≡ lo +ℤ pos (int_gap lo hi)
  unfolding stretch
  last_value =
      let n = int_gap lo hi in
      let size = length-numbers_from lo (suc n) in
      let place : length (numbers_from lo (suc n)) - 1 ≡ n = omega (arith, size) in
      ap (value_at (numbers_from lo (suc n))) place ∙ ap (λ o. unwrap_or o (pos 0)) (slice_get-numbers_from lo (suc n) n (omega arith))

  gap_again : int_gap lo (lo +ℤ pos (int_gap lo hi)) ≡ int_gap lo hi
  gap_again = let plus = plus-int_gap lo (lo +ℤ pos (int_gap lo hi)) (omega (arith, ints)) in omega (arith, ints, plus)

  ends_again : HasEnds (stretch lo hi) (value_at (stretch lo hi) 0) (value_at (stretch lo hi) (length (stretch lo hi) - 1))
  unfolding stretch
  ends_again =
      subst (λ a. HasEnds (stretch lo hi) a (value_at (stretch lo hi) (length (stretch lo hi) - 1))) (sym first_value)
      (subst (λ b. HasEnds (stretch lo hi) lo b) (sym last_value)
      (record { ordered = omega (arith, ints); same = ap (λ n. numbers_from lo (suc n)) gap_again }))

stretch_ends : (values : List ℤ) (lo hi : ℤ) → values ≡ stretch lo hi → HasEnds values (value_at values 0) (value_at values (length values - 1))
stretch_ends values lo hi is = subst (λ vs. HasEnds vs (value_at vs 0) (value_at vs (length vs - 1))) (sym is) (ends_again lo hi)

end_fair : (limited : Bool) (values : List ℤ) (lo hi : ℤ) → HasEnds values lo hi → (limited ≡ true → length values ≤ SPAN) → fair_end limited lo hi ≡ None
end_fair limited values lo hi ends few =
    first_not (int_lt hi lo) kinds.EmptyDomain (when (limited && int_lt (pos SPAN) (hi -ℤ lo +ℤ pos 1)) (kinds.Limit limits.Span)) (lt_false hi lo ends.ordered)
    (when_not (limited && int_lt (pos SPAN) (hi -ℤ lo +ℤ pos 1)) (kinds.Limit limits.Span) (by limited few))
  where
    by : (l : Bool) → (l ≡ true → length values ≤ SPAN) → (l && int_lt (pos SPAN) (hi -ℤ lo +ℤ pos 1)) ≡ false
    by false few = refl
    by true few =
        let size = length-stretch lo hi ends.ordered in
        let same = ap length ends.same in
        let most = few refl in
        lt_false (pos SPAN) (hi -ℤ lo +ℤ pos 1) (omega (arith, ints, size, same, most))

-- 2. Values one by one
keeps_all : (test : ℤ → Bool) (xs : List ℤ) → AllByRecursion (λ x. test x ≡ true) xs → filter test xs ≡ xs
keeps_all test [] all = refl
keeps_all test (x ∷ xs) all = ap (λ b. cond b (x ∷ filter test xs) (filter test xs)) all.0 ∙ ap (λ l. x ∷ l) (keeps_all test xs all.1)

keeps_none : (test : ℤ → Bool) (xs : List ℤ) → AllByRecursion (λ x. test x ≡ false) xs → filter test xs ≡ []
keeps_none test [] all = refl
keeps_none test (x ∷ xs) all = ap (λ b. cond b (x ∷ filter test xs) (filter test xs)) all.0 ∙ keeps_none test xs all.1

-- those before a value that ascend to it are less
all_less : (before : List ℤ) (a : ℤ) (left : List ℤ) → Ascends (before ++ a ∷ left) → AllByRecursion (λ x. x <ℤ a) before
all_less [] a left up = tt
all_less (x ∷ before) a left up = (one_of_all (λ y. x <ℤ y) (before ++ a ∷ left) before a left refl up.0, all_less before a left up.1)

value_added : (before : List ℤ) (a : ℤ) → AllByRecursion (λ x. x <ℤ a) before → with_range before a a ≡ before ++ a ∷ []
value_added before a less =
    let front = keeps_all (λ x. int_lt x a) before (all_so (λ x. x <ℤ a) (λ x. int_lt x a ≡ true) (λ x l. lt_true x a l) before less) in
    let back = keeps_none (λ x. int_lt a x) before (all_so (λ x. x <ℤ a) (λ x. int_lt a x ≡ false) (λ x l. lt_false a x (omega (arith, ints, l))) before less) in
    let one = stretch_one a a (omega (arith, ints)) (omega (arith, ints)) in
    λ i. front i ++ (one i ++ back i)

module _ (values : List ℤ) (up : Ascends values) (few : length values ≤ SPAN) where
  values_gathered : AreGathered parts_judge with_part one_value values
  values_gathered before a left e =
      let added = value_added before a (all_less before a left (subst (λ l. Ascends l) (sym e) up)) in
      let sizes = lengths values before a left e in
      let more = length_push before a in
      let size = ap length added in
      record {
        breaks = on_none (fair_first before a) (when_not (is_past_span (with_range before a a)) (kinds.Limit limits.Span)
            (lt_false (pos SPAN) (pos (length (with_range before a a))) (omega (arith, ints, size, more, sizes, few))));
        mark = mark_none left None None (λ some. refl) (λ done. refl);
        next = added;
        last = added;
      }

-- 3. A domain of each kind
pub domain_nothing : (k : variable.Kind) (values : List ℤ) → IsDomain values → SuitsKind k values → breaks_domain k (trees.domain_of k values) ≡ []
domain_nothing Binary values lawful suits = refl
domain_nothing Bounded values lawful suits =
    behind_nothing 3 _ (on_none (fair_end false (value_at values 0) (value_at values (length values - 1)))
    (end_fair false values _ _ (stretch_ends values suits.0 suits.1 suits.2) (λ e. absurd cc)))
domain_nothing Sparse values lawful suits =
    behind_nothing 1 _ (maybe_breaks parts_judge with_part one_value (Some kinds.EmptyDomain) values (λ e. absurd (lawful.filled e)) (values_gathered values lawful.ascends suits))
domain_nothing Discrete values lawful suits =
    behind_nothing 3 _ (on_none (fair_end true (value_at values 0) (value_at values (length values - 1)))
    (end_fair true values _ _ (stretch_ends values suits.0 suits.1 suits.2) (λ e. suits.3)))

pub domain_means : (k : variable.Kind) (values : List ℤ) → IsDomain values → SuitsKind k values → domain_of k (trees.domain_of k values) ≡ values
domain_means Binary values lawful suits = sym suits
domain_means Bounded values lawful suits = (stretch_ends values suits.0 suits.1 suits.2).same
domain_means Sparse values lawful suits = maybe_means parts_judge with_part one_value values (values_gathered values lawful.ascends suits)
domain_means Discrete values lawful suits = (stretch_ends values suits.0 suits.1 suits.2).same

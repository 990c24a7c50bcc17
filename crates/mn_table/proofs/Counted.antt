-- Tuples that are counted one after another.
use Rattle.std.proofs.Common.{◌≡◌, ◌≢◌, ℕ, ◌+◌, ℤ, inl, inr, List, [], ◌∷◌, refl, sym, subst, arith}
use Rattle.mn_model.specs.Members.{AreDistinct, HasMember}
use Rattle.mn_model.specs.declared.constraint.Term.{Term}
use Rattle.mn_meaning.specs.Meaning.{at}
use Rattle.mn_meaning.proofs.MemberLemmas.{of_member, of_members}
use Rattle.mn_closure.specs.Supports.{Choice}
use Rattle.mn_table.specs.Choosing.{CountsWith}

module _ (box : List (List ℤ)) (v : List Term) (i : ℕ) (a : ℤ) where
  -- so many of all are counted before those that are left
  abbrev pub CountsOn : List (List ℤ) → List (List ℤ) → ℕ → Type 0
  CountsOn left all n = (m : ℕ) → CountsWith box v i a left m → CountsWith box v i a all (n + m)

  none_counts : CountsWith box v i a [] 0
  none_counts = record { those = []; size = refl; distinct = tt; told = λ q. (λ has. absurd has, λ all. absurd all.0) }

  more_counts : (row : List ℤ) (rows : List (List ℤ)) (m : ℕ) → AreDistinct (row ∷ rows) → at row i ≡ a → Choice box v row → CountsWith box v i a rows m → CountsWith box v i a (row ∷ rows) (m + 1)
  more_counts row rows m distinct given chosen counts = record {
    those = row ∷ counts.those;
    size = (let many = counts.size in omega (arith, many));
    distinct = (of_members (λ q. row ≢ q) counts.those (λ q has. of_member (λ r. row ≢ r) rows q distinct.0 ((counts.told q).0 has).0), counts.distinct);
    told = λ q. (to q, from q);
  }
    where
      to : (q : List ℤ) → HasMember (row ∷ counts.those) q → HasMember (row ∷ rows) q × (at q i ≡ a) × Choice box v q
      to q (inl same) = (inl same, subst (λ (r : List ℤ). at r i ≡ a) same given, subst (Choice box v) same chosen)
      to q (inr has) = let told = (counts.told q).0 has in (inr told.0, told.1, told.2)

      from : (q : List ℤ) → HasMember (row ∷ rows) q × (at q i ≡ a) × Choice box v q → HasMember (row ∷ counts.those) q
      from q (inl same, given_too, chosen_too) = inl same
      from q (inr has, given_too, chosen_too) = inr ((counts.told q).1 (has, given_too, chosen_too))

  same_counts : (row : List ℤ) (rows : List (List ℤ)) (m : ℕ) → (at row i ≡ a → Choice box v row → ⊥) → CountsWith box v i a rows m → CountsWith box v i a (row ∷ rows) m
  same_counts row rows m not counts = record { those = counts.those; size = counts.size; distinct = counts.distinct; told = λ q. (to q, from q) }
    where
      to : (q : List ℤ) → HasMember counts.those q → HasMember (row ∷ rows) q × (at q i ≡ a) × Choice box v q
      to q has = let told = (counts.told q).0 has in (inr told.0, told.1, told.2)

      from : (q : List ℤ) → HasMember (row ∷ rows) q × (at q i ≡ a) × Choice box v q → HasMember counts.those q
      from q (inl same, given, chosen) = absurd (not (subst (λ (r : List ℤ). at r i ≡ a) (sym same) given) (subst (Choice box v) (sym same) chosen))
      from q (inr has, given, chosen) = (counts.told q).1 (has, given, chosen)

  pub counts_from : (all : List (List ℤ)) → CountsOn all all 0
  counts_from all m counts = let same : m ≡ 0 + m = omega arith in subst (CountsWith box v i a all) same counts

  pub counts_one : (left all rows : List (List ℤ)) (row : List ℤ) (n : ℕ) → left ≡ row ∷ rows → AreDistinct left → at row i ≡ a → Choice box v row → CountsOn left all n → CountsOn rows all (n + 1)
  counts_one left all rows row n is distinct given chosen so_far m counts =
      let same : n + (m + 1) ≡ (n + 1) + m = omega arith in
      subst (CountsWith box v i a all) same (so_far (m + 1) (subst (λ (rs : List (List ℤ)). CountsWith box v i a rs (m + 1)) (sym is) (more_counts row rows m (subst AreDistinct is distinct) given chosen counts)))

  pub counts_on : (left all rows : List (List ℤ)) (row : List ℤ) (n : ℕ) → left ≡ row ∷ rows → (at row i ≡ a → Choice box v row → ⊥) → CountsOn left all n → CountsOn rows all n
  counts_on left all rows row n is not so_far m counts = so_far m (subst (λ (rs : List (List ℤ)). CountsWith box v i a rs m) (sym is) (same_counts row rows m not counts))

  pub counts_all : (left all : List (List ℤ)) (n : ℕ) → left ≡ [] → CountsOn left all n → CountsWith box v i a all n
  counts_all left all n end so_far =
      let same : n + 0 ≡ n = omega arith in
      subst (CountsWith box v i a all) same (so_far 0 (subst (λ (rs : List (List ℤ)). CountsWith box v i a rs 0) (sym end) none_counts))

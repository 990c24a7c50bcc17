-- Where the triggers stand after a move.
use Rattle.std.proofs.Common.{◌≡◌, ◌≢◌, ℕ, ◌≤◌, ◌<◌, List, [], Option, None, Some, length, get_or, refl, sym, ap, subst, ◌∙◌, arith}
use Rattle.std.specs.Option.{option_map}
use Rattle.std.proofs.lemmas.List.{get_or_past}
use Rattle.mn_lists.specs.Standing.{MovesOnly, Standing, ahead, count_of, moved_to, without}
use Rattle.mn_lists.proofs.Cases.{by_less, by_same}
use Rattle.mn_lists.proofs.Counts.{count_of-cons_other, count_of-cons_same, count_of-without_other, count_of-without_same}
use Rattle.mn_lists.proofs.Moves.{get_or-moved_to_here, get_or-moved_to_other, length-moved_to}

ahead_same : (t : ℕ) (w : Option (List ℕ)) → count_of t (ahead (option_map (without t) w)) ≡ 0
ahead_same t None = refl
ahead_same t (Some xs) = count_of-without_same t xs

ahead_other : (t u : ℕ) (w : Option (List ℕ)) → u ≢ t → count_of u (ahead (option_map (without t) w)) ≡ count_of u (ahead w)
ahead_other t u None far = refl
ahead_other t u (Some xs) far = count_of-without_other t u xs far

module _ (t l : ℕ) (lists : List (List ℕ)) (inside : l < length lists) where
  abbrev now : List (List ℕ)
  now = moved_to t l lists

  here : count_of t (get_or now l []) ≡ 1
  here = ap (count_of t) (get_or-moved_to_here t l lists inside) ∙
      by_same t t (λ _ test. omega (arith, count_of-cons_same t t (without t (get_or lists l [])) test, count_of-without_same t (get_or lists l []))) (λ far _. absurd (far refl))

  none_past : (k : ℕ) → length lists ≤ k → get_or now k [] ≡ []
  none_past k past = get_or_past now k [] (omega (arith, length-moved_to t l lists))

  not_there : (k : ℕ) → k ≢ l → count_of t (get_or now k []) ≡ 0
  not_there k far = by_less k (length lists)
      (λ h. ap (count_of t) (get_or-moved_to_other t l k lists h far) ∙ count_of-without_same t (get_or lists k []))
      (λ past. ap (count_of t) (none_past k past))

  stay : (u k : ℕ) → u ≢ t → count_of u (get_or now k []) ≡ count_of u (get_or lists k [])
  stay u k far = by_same k l
      (λ same _. subst (λ (j : ℕ). count_of u (get_or now j []) ≡ count_of u (get_or lists j [])) (sym same)
      (ap (count_of u) (get_or-moved_to_here t l lists inside) ∙ by_same t u (λ e _. absurd (far (sym e))) (λ _ test. count_of-cons_other u t (without t (get_or lists l [])) test ∙ count_of-without_other t u (get_or lists l []) far)))
      (λ other _. by_less k (length lists)
      (λ h. ap (count_of u) (get_or-moved_to_other t l k lists h other) ∙ count_of-without_other t u (get_or lists k []) far)
      (λ past. ap (count_of u) (none_past k past) ∙ sym (ap (count_of u) (get_or_past lists k [] past))))

pub moves_only : (old new : Standing) (t l : ℕ) → l < length old.lists → new.lists ≡ moved_to t l old.lists → new.walk ≡ option_map (without t) old.walk → MovesOnly old new t l
moves_only old new t l inside lists_are walk_is = record {
  on_list = ap (λ (L : List (List ℕ)). count_of t (get_or L l [])) lists_are ∙ here t l old.lists inside;
  on_no_other = λ k far. ap (λ (L : List (List ℕ)). count_of t (get_or L k [])) lists_are ∙ not_there t l old.lists inside k far;
  not_ahead = ap (λ (w : Option (List ℕ)). count_of t (ahead w)) walk_is ∙ ahead_same t old.walk;
  others_stay = λ u k far. ap (λ (L : List (List ℕ)). count_of u (get_or L k [])) lists_are ∙ stay t l old.lists inside u k far;
  others_ahead = λ u far. ap (λ (w : Option (List ℕ)). count_of u (ahead w)) walk_is ∙ ahead_other t u old.walk far;
}

-- A chain of nodes is the numbers that stand along it.
use Rattle.std.proofs.Common.{◌≡◌, ℕ, zero, suc, ◌+◌, ◌≤◌, ◌<◌, Bool, true, false, cond, nat_lt, List, [], ◌∷◌, length, get_or, refl, sym, ap, subst, ◌∙◌, arith}
use Rattle.std.specs.Prelude.{All}
use Rattle.std.specs.List.{range_with_len}
use Rattle.std.proofs.lemmas.Bool.Decides.{nat_tests}
use Rattle.std.proofs.lemmas.List.{ext_get_or, length-map}
use Rattle.std.proofs.lemmas.List.Elements.{All-head, All-tail, All-get_or}
use Rattle.std.proofs.lemmas.List.FromFn.{get_or-map-range_with_len, length-range_with_len}
use Rattle.std.proofs.lemmas.List.Sums.{get_or-le-sum_by}
use Rattle.mn_lists.specs.Circles.{chain, circles, Follow, IsLinked, IsRun}
use Rattle.mn_lists.specs.Standing.{count_of}
use Rattle.mn_lists.proofs.Counts.{few}

pub chain_is : (f : ℕ → ℕ) (n e : ℕ) → n ≤ e → (xs : List ℕ) (s most : ℕ) → Follow f s xs e → All (λ x. x < n) xs → length xs ≤ most → chain f n most s ≡ xs
chain_is f n e far [] s zero is only fits = refl
chain_is f n e far [] s (suc most) is only fits =
    let test : nat_lt s n ≡ false = grind (arith, nat_tests, is) in ap (λ (b : Bool). cond b (s ∷ chain f n most (f s)) []) test
chain_is f n e far (x ∷ xs) s zero is only fits = absurd (omega arith)
chain_is f n e far (x ∷ xs) s (suc most) is only fits =
    let below : x < n = All-head (λ x. x < n) x xs only in
    let test : nat_lt x n ≡ true = grind (arith, nat_tests) in
    let rest : chain f n most (f x) ≡ xs = chain_is f n e far xs (f x) most is.1 (All-tail (λ x. x < n) x xs only) (omega arith) in
    subst (λ (z : ℕ). chain f n (suc most) z ≡ x ∷ xs) (sym is.0)
    (ap (λ (b : Bool). cond b (x ∷ chain f n most (f x)) []) test ∙ ap (λ (zs : List ℕ). x ∷ zs) rest)

-- a run is what the chain from its first node gives
pub run_is : (f : ℕ → ℕ) (n m s : ℕ) (xs : List ℕ) → IsRun f n m s xs → chain f n n s ≡ xs
run_is f n m s xs r = chain_is f n r.end r.is_end xs s n r.follows r.only (few n xs r.only r.once)

pub length-circles : (f : ℕ → ℕ) (n k : ℕ) → length (circles f n k) ≡ k
length-circles f n k = length-map (range_with_len n k) (λ h. chain f n n (f h)) ∙ length-range_with_len n k

module _ (f g : ℕ → ℕ) (n : ℕ) (lists : List (List ℕ)) (linked : IsLinked f g n lists) where
  -- each of the lists is a run
  pub list_runs : (l : ℕ) → l < length lists → IsRun f n (n + length lists) (f (n + l)) (get_or lists l [])
  list_runs l h = record {
    end = n + l;
    is_end = omega arith;
    in_range = omega arith;
    follows = linked.loops l h;
    only = All-get_or (All (λ t. t < n)) lists l [] h linked.each.only;
    once = λ x below. omega (arith, get_or-le-sum_by (count_of x) lists l [] h, linked.each.once x below);
  }

  pub circles_is : circles f n (length lists) ≡ lists
  circles_is = ext_get_or [] (circles f n (length lists)) lists (length-circles f n (length lists)) (λ i h.
      let inside : i < length lists = omega (arith, length-circles f n (length lists)) in
      get_or-map-range_with_len (λ k. chain f n n (f k)) n (length lists) i (n + i) [] inside refl ∙ run_is f n (n + length lists) (f (n + i)) (get_or lists i []) (list_runs i inside))

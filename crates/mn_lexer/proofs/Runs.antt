-- The longest front of a list that passes a test.
use Rattle.std.proofs.Common.{◌≡◌, ℕ, suc, zero, ◌≤◌, Bool, true, false, List, [], ◌∷◌, ◌++◌, length, take, refl, ⊎_elim, arith}
use Rattle.std.specs.List.{list_all, prefix_len}
use Rattle.std.proofs.Math.Numerals.{one-add}
use Rattle.std.proofs.lemmas.Bool.{cases_Bool, and_parts, and_from}

module _ (p : ℕ → Bool) where
  -- its elements pass
  pub list_all-take-run : (xs : List ℕ) → list_all p (take (prefix_len p xs) xs) ≡ true
  list_all-take-run [] = refl
  list_all-take-run (x ∷ xs) =
      ⊎_elim
      (λ yes.
      let more : prefix_len p (x ∷ xs) ≡ suc (prefix_len p xs) = rw yes (one-add _) in
      rw more (and_from (p x) _ yes (list_all-take-run xs)))
      (λ no. rw no refl)
      (cases_Bool (p x))

  -- and no longer front does
  pub length-take-le_run : (xs : List ℕ) (m : ℕ) → list_all p (take m xs) ≡ true → length (take m xs) ≤ prefix_len p xs
  length-take-le_run xs zero all = omega arith
  length-take-le_run [] (suc m) all = omega arith
  length-take-le_run (x ∷ xs) (suc m) all =
      let parts = and_parts (p x) _ all in
      rw parts.0 (let more = length-take-le_run xs m parts.1 in omega arith)

  -- a front that passes, before an element that does not
  pub prefix_len-append : (xs : List ℕ) (y : ℕ) (ys : List ℕ) → list_all p xs ≡ true → p y ≡ false → prefix_len p (xs ++ y ∷ ys) ≡ length xs
  prefix_len-append [] y ys all stops = rw stops refl
  prefix_len-append (x ∷ xs) y ys all stops =
      let parts = and_parts (p x) _ all in
      rw parts.0 (let more = prefix_len-append xs y ys parts.1 stops in omega arith)

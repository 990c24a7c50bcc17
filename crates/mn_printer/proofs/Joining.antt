-- Bytes behind bytes on a page.
use Rattle.std.proofs.Common.{◌≡◌, ℕ, zero, suc, ◌+◌, ◌-◌, ◌≤◌, min, List, [], ◌∷◌, ◌++◌, length, take, refl, ap, sym, ◌∙◌, append_assoc, append-nil, arith, length-append}
use Rattle.std.proofs.lemmas.List.{length-take}
use Rattle.std.proofs.lemmas.Grind.{common_steps}
use Rattle.mn_model.specs.declared.limits.TheConstants.{TEXT_BYTES}
use Rattle.mn_printer.specs.Pages.{Written, onto, greatest}

-- what is taken of two lists
take_both : (n : ℕ) (xs ys : List ℕ) → take n (xs ++ ys) ≡ take n xs ++ take (n - length xs) ys
take_both zero xs ys = grind (arith, common_steps)
take_both (suc n) [] ys = grind (arith, common_steps)
take_both (suc n) (x ∷ xs) ys =
    let less : suc n - length (x ∷ xs) ≡ n - length xs = omega arith in
    rw less (ap (λ rest. x ∷ rest) (take_both n xs ys))

-- where a limit stops, it stops all that follows
room_left : (room taken len : ℕ) → taken ≡ min room len → (limit k : ℕ) → room ≡ limit - k → limit - (k + taken) ≡ room - len
room_left room taken len e limit k f = omega arith

kept_joined : (limit : ℕ) (kept xs ys : List ℕ) →
    (kept ++ take (limit - length kept) xs) ++ take (limit - length (kept ++ take (limit - length kept) xs)) ys ≡ kept ++ take (limit - length kept) (xs ++ ys)
kept_joined limit kept xs ys =
    let room = limit - length kept in
    let left : limit - length (kept ++ take room xs) ≡ room - length xs =
    ap (λ n. limit - n) (length-append kept (take room xs)) ∙ room_left room _ _ (length-take room xs) limit (length kept) refl in
    ap (λ n. (kept ++ take room xs) ++ take n ys) left ∙ append_assoc kept (take room xs) _ ∙ ap (λ zs. kept ++ zs) (sym (take_both room xs ys))

counted : (most k a b ab : ℕ) → ab ≡ a + b → (k + min (most - k) a) + min (most - (k + min (most - k) a)) b ≡ k + min (most - k) ab
counted most k a b ab e = omega arith

pub onto_joined : (w : Written) (xs ys : List ℕ) → onto (onto w xs) ys ≡ onto w (xs ++ ys)
unfolding onto
onto_joined w xs ys =
    λ i. record {
      kept = kept_joined TEXT_BYTES w.kept xs ys i;
      count = counted greatest w.count (length xs) (length ys) (length (xs ++ ys)) (length-append xs ys) i;
    }

take_none : (n : ℕ) → take {A = ℕ} n [] ≡ []
take_none n = grind (arith, common_steps)

pub onto_nothing : (w : Written) → onto w [] ≡ w
unfolding onto
onto_nothing w =
    λ i. record {
      kept = (ap (λ rest. w.kept ++ rest) (take_none (TEXT_BYTES - length w.kept)) ∙ append-nil w.kept) i;
      count = no_more greatest w.count i;
    }
  where
    no_more : (most k : ℕ) → k + min (most - k) 0 ≡ k
    no_more most k = omega arith

take_within : (m room : ℕ) (bytes : List ℕ) → m ≡ min room (length bytes) → take m bytes ≡ take room bytes
take_within zero zero bytes e = refl
take_within zero (suc room) [] e = grind (arith, common_steps)
take_within zero (suc room) (b ∷ bytes) e = absurd (never e)
  where
    never : 0 ≡ min (suc room) (length (b ∷ bytes)) → ⊥
    never e = omega arith
take_within (suc m) room [] e = absurd (never e)
  where
    never : suc m ≡ min room 0 → ⊥
    never e = omega arith
take_within (suc m) zero (b ∷ bytes) e = absurd (never e)
  where
    never : suc m ≡ min 0 (length (b ∷ bytes)) → ⊥
    never e = omega arith
take_within (suc m) (suc room) (b ∷ bytes) e =
    let less : m ≡ min room (length bytes) = omega arith in ap (λ rest. b ∷ rest) (take_within m room bytes less)

-- what one writing does
pub put_onto : (w : Written) (kept : List ℕ) (count : ℕ) → w ≡ record { kept = kept; count = count } → (bytes new : List ℕ) (m room len sum : ℕ)
    → new ≡ kept ++ take m bytes → m ≡ min room (length bytes) → room ≡ TEXT_BYTES - len → len ≡ length kept → sum ≡ min (count + length bytes) greatest → count ≤ greatest
    → (let w : Written = record { kept = new; count = sum } in w) ≡ onto w bytes
unfolding onto
put_onto w kept count e bytes new m room len sum is_new is_m is_room is_len is_sum fits =
    (λ i. record {
      kept = (is_new ∙ ap (λ rest. kept ++ rest) (take_within m room bytes is_m) ∙ ap (λ n. kept ++ take n bytes) (is_room ∙ ap (λ n. TEXT_BYTES - n) is_len)) i;
      count = counted_as greatest count (length bytes) sum is_sum fits i;
    }) ∙ ap (λ v. onto v bytes) (sym e)
  where
    counted_as : (most k n sum : ℕ) → sum ≡ min (k + n) most → k ≤ most → sum ≡ k + min (most - k) n
    counted_as most k n sum e fits = omega arith

pub ruleset page_steps = (common_steps, onto_joined, onto_nothing)

-- nothing is written where there is nothing to write
pub onto_none : (w : Written) (text : List ℕ) → text ≡ [] → w ≡ onto w text
onto_none w text e = sym (ap (onto w) e ∙ onto_nothing w)

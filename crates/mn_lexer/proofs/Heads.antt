-- The longest head at the front.
use Rattle.std.proofs.Common.{◌≡◌, ℕ, suc, ◌+◌, ◌<◌, ◌≤◌, true, List, [], ◌∷◌, ◌++◌, length, take, drop, get_or, refl, sym, ap, ◌∙◌, subst, arith, append_assoc, length-append}
use Rattle.std.specs.Prelude.{codes}
use Rattle.std.specs.List.{list_all, prefix_len}
use Rattle.std.specs.Char.{is_ascii_uppercase}
use Rattle.std.proofs.lemmas.List.{length-take-le, take-append-drop, take_more}
use Rattle.mn_lexer.specs.Forms.{IsHead, IsLongest}
use Rattle.mn_lexer.proofs.Runs.{list_all-take-run, prefix_len-append}
use Rattle.mn_lexer.proofs.Firsts.{longest_of_kind}
use Rattle.mn_lexer.specs.declared.TokenKind.TheVariants as kind

-- What stands in bs where a front of it, n bytes at most, is a head: the name ends where the capital letters do.
pub record BeginsHead (bs : List ℕ) (n : ℕ) : Type 0 where
  pub named : 0 < prefix_len is_ascii_uppercase (drop 2 bs)
  pub size : length (take n bs) ≡ prefix_len is_ascii_uppercase (drop 2 bs) + 4
  pub long : prefix_len is_ascii_uppercase (drop 2 bs) + 4 ≤ length bs
  pub second : get_or bs 1 0 ≡ 42
  pub third : get_or bs (2 + prefix_len is_ascii_uppercase (drop 2 bs)) 0 ≡ 42
  pub fourth : get_or bs (3 + prefix_len is_ascii_uppercase (drop 2 bs)) 0 ≡ 42

after_name : (name more : List ℕ) → get_or (name ++ 42 ∷ 42 ∷ more) (length name) 0 ≡ 42
after_name [] more = refl
after_name (x ∷ name) more = after_name name more

after_name_next : (name more : List ℕ) → get_or (name ++ 42 ∷ 42 ∷ more) (suc (length name)) 0 ≡ 42
after_name_next [] more = refl
after_name_next (x ∷ name) more = after_name_next name more

-- the same of bytes that are laid out so
laid_out : (name more : List ℕ) (n : ℕ) → 0 < length name → list_all is_ascii_uppercase name ≡ true → length (take n (42 ∷ 42 ∷ (name ++ 42 ∷ 42 ∷ more))) ≡ length name + 4 → BeginsHead (42 ∷ 42 ∷ (name ++ 42 ∷ 42 ∷ more)) n
laid_out name more n named capital size =
    let run : prefix_len is_ascii_uppercase (name ++ 42 ∷ 42 ∷ more) ≡ length name = prefix_len-append is_ascii_uppercase name 42 (42 ∷ more) capital refl in
    let all = length-append name (42 ∷ 42 ∷ more) in
    let at_third : 2 + prefix_len is_ascii_uppercase (name ++ 42 ∷ 42 ∷ more) ≡ suc (suc (length name)) = omega arith in
    let at_fourth : 3 + prefix_len is_ascii_uppercase (name ++ 42 ∷ 42 ∷ more) ≡ suc (suc (suc (length name))) = omega arith in
    record {
      named = omega arith;
      size = omega arith;
      long = omega arith;
      second = refl;
      third = rw at_third (after_name name more);
      fourth = rw at_fourth (after_name_next name more);
    }

-- a front that is a head is laid out so
pub begins_head : (bs : List ℕ) (n : ℕ) → IsHead (take n bs) → BeginsHead bs n
begins_head bs n (name, (named, capital), e) =
    let whole : bs ≡ 42 ∷ 42 ∷ (name ++ 42 ∷ 42 ∷ drop n bs) = sym (take-append-drop n bs) ∙ ap (λ x. x ++ drop n bs) e ∙ ap (λ x. 42 ∷ 42 ∷ x) (append_assoc name (codes "**") (drop n bs)) in
    let size : length (take n bs) ≡ length name + 4 = omega (arith, ap length e, length-append name (codes "**")) in
    subst (λ x. BeginsHead x n) (sym whole) (laid_out name (drop n bs) n named capital (subst (λ x. length (take n x) ≡ length name + 4) whole size))

two_stars : (bs : List ℕ) (r : ℕ) → r + 2 ≤ length bs → get_or bs r 0 ≡ 42 → get_or bs (r + 1) 0 ≡ 42 → take (r + 1 + 1) bs ≡ take r bs ++ 42 ∷ 42 ∷ []
two_stars bs r fits third fourth =
    take_more bs (r + 1) 0 (omega arith)
    ∙ ap (λ x. x ++ get_or bs (r + 1) 0 ∷ []) (take_more bs r 0 (omega arith))
    ∙ append_assoc (take r bs) (get_or bs r 0 ∷ []) (get_or bs (r + 1) 0 ∷ [])
    ∙ rw (third, fourth) refl

-- where the code finds the four stars and a name, the head ends behind the last star
pub longest_head : (bs : List ℕ) → get_or bs 0 0 ≡ 42 → (end : ℕ) → end ≡ 2 + prefix_len is_ascii_uppercase (drop 2 bs) → 2 < end → end + 2 ≤ length bs → get_or bs 1 0 ≡ 42 → get_or bs end 0 ≡ 42 → get_or bs (end + 1) 0 ≡ 42 → IsLongest bs kind.Head (end + 2)
longest_head [] first end at some fits second third fourth = cc
longest_head (a ∷ []) first end at some fits second third fourth = absurd (omega arith)
longest_head (a ∷ b ∷ bs) first end at some fits second third fourth =
    let run = prefix_len is_ascii_uppercase bs in
    let third_at : end ≡ suc (suc run) = omega arith in
    let fourth_at : end + 1 ≡ suc (suc (run + 1)) = omega arith in
    let size : end + 2 ≡ suc (suc (run + 1 + 1)) = omega arith in
    longest_of_kind (a ∷ b ∷ bs) kind.Head (end + 2) fits (
      take run bs,
      (rw (length-take-le run bs (omega arith)) (omega arith), list_all-take-run is_ascii_uppercase bs),
      subst (λ x. take x (a ∷ b ∷ bs) ≡ 42 ∷ 42 ∷ (take run bs ++ 42 ∷ 42 ∷ [])) (sym size)
          (rw (first, second) (ap (λ x. 42 ∷ 42 ∷ x) (two_stars bs run (omega arith) (subst (λ x. get_or (a ∷ b ∷ bs) x 0 ≡ 42) third_at third) (subst (λ x. get_or (a ∷ b ∷ bs) x 0 ≡ 42) fourth_at fourth)))),
    )
    (λ m within form. let head = begins_head (a ∷ b ∷ bs) m form in let whole = length-take-le m (a ∷ b ∷ bs) within in omega arith)

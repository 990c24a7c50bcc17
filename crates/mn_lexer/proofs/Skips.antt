-- The steps of a loop over a gap.
use Rattle.std.proofs.Common.{◌≡◌, ℕ, ◌+◌, ◌-◌, ◌<◌, ◌≤◌, true, not, List, [], ◌∷◌, length, take, drop, get_or, refl, sym, ap, ◌∙◌, subst, ⊎_elim, arith}
use Rattle.std.specs.List.{position_or_len}
use Rattle.std.proofs.Math.Numerals.{one-add}
use Rattle.std.proofs.lemmas.Bool.{cases_Bool, eqb-true}
use Rattle.std.proofs.lemmas.List.{drop_more, drop-drop, take_rest, length-drop}
use Rattle.std.proofs.lemmas.List.Sums.{prefix_len-le-length}
use Rattle.mn_lexer.specs.Bytes.{is_blank, is_line_feed, begins_comment}
use Rattle.mn_lexer.specs.Gaps.{gap, gap_in_comment}
use Rattle.mn_lexer.specs.Reading.{next_place}

-- a comment goes on to its line feed, which is a blank
pub gap_in_comment_is : (bs : List ℕ) → gap_in_comment bs ≡ position_or_len is_line_feed bs + gap (drop (position_or_len is_line_feed bs) bs)
gap_in_comment_is [] = refl
gap_in_comment_is (b ∷ bs) =
    ⊎_elim
    (λ feed. rw (eqb-true b 10 feed) (omega arith))
    (λ other.
    let count = position_or_len is_line_feed bs in
    let rest : drop (1 + count) (b ∷ bs) ≡ drop count bs = ap (λ n. drop n (b ∷ bs)) (one-add count) in
    rw other (omega (arith, ap gap rest, gap_in_comment_is bs)))
    (cases_Bool (is_line_feed b))

module _ (s : List ℕ) (n : ℕ) (within : n < length s) where
  gap_at_comment : get_or s n 0 ≡ 35 → gap (drop n s) ≡ 1 + gap_in_comment (drop (n + 1) s)
  gap_at_comment hash = rw (drop_more s n 0 within) (rw hash refl)

  -- n moves behind the comment, by q bytes behind its `#`
  pub skip_comment : (q : ℕ) → q ≡ position_or_len is_line_feed (take (length s - (n + 1)) (drop (n + 1) s)) → begins_comment (get_or s n 0) ≡ true → (n + 1 + q ≤ length s) × (1 + q + gap (drop (n + 1 + q) s) ≡ gap (drop n s))
  skip_comment q e hash =
      let count : q ≡ position_or_len is_line_feed (drop (n + 1) s) = e ∙ ap (position_or_len is_line_feed) (take_rest s (n + 1)) in
      let bound = prefix_len-le-length (λ b. not (is_line_feed b)) (drop (n + 1) s) in
      let behind : drop q (drop (n + 1) s) ≡ drop (n + 1 + q) s = drop-drop q (n + 1) s in
      let gaps : gap_in_comment (drop (n + 1) s) ≡ q + gap (drop q (drop (n + 1) s)) = subst (λ x. gap_in_comment (drop (n + 1) s) ≡ x + gap (drop x (drop (n + 1) s))) (sym count) (gap_in_comment_is (drop (n + 1) s)) in
      (omega (arith, length-drop (n + 1) s), omega (arith, gaps, ap gap behind, gap_at_comment (eqb-true (get_or s n 0) 35 hash)))

  -- n moves behind a blank
  pub skip_blank : is_blank (get_or s n 0) ≡ true → next_place s (n + 1) ≡ next_place s n
  skip_blank blank =
      let gaps : gap (drop n s) ≡ 1 + gap (drop (n + 1) s) = rw (drop_more s n 0 within) (rw blank refl) in
      omega (arith, gaps)

-- What may stand between tokens: blanks and comments.
use Rattle.std.specs.Prelude.{ℕ, ◌+◌, List, [], ◌∷◌, if◌then◌else◌}
use Rattle.mn_lexer.specs.Bytes.{is_blank, is_line_feed, begins_comment}

abbrev mutual
  -- how many bytes at the front of bs are blanks and comments
  pub gap : List ℕ → ℕ
  gap [] = 0
  gap (b ∷ bs) =
      if is_blank b then 1 + gap bs
      else (if begins_comment b then 1 + gap_in_comment bs else 0)

  -- the same, where a comment has begun before bs: it runs to a line feed or to the end of the text
  pub gap_in_comment : List ℕ → ℕ
  gap_in_comment [] = 0
  gap_in_comment (b ∷ bs) = if is_line_feed b then 1 + gap bs else 1 + gap_in_comment bs

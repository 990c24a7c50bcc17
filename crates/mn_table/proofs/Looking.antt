-- What the rows of a table say of a value, from the first row on.
use Rattle.std.proofs.Common.{◌≡◌, ◌↔◌, ℕ, ◌≤◌, ℤ, ◌⊎◌, inl, inr, List, [], ◌∷◌, length, take, drop, sym, subst, ap, ◌∙◌}
use Rattle.mn_model.specs.Members.{HasMember}
use Rattle.mn_model.specs.declared.constraint.Term.{Term}
use Rattle.mn_meaning.specs.Families.{rows_of}
use Rattle.mn_meaning.specs.Meaning.{at}
use Rattle.mn_meaning.proofs.Rows.{rows_of-next}
use Rattle.mn_closure.specs.Supports.{Choice}
use Rattle.mn_table.specs.Tables.{RowWith}

-- the rows of cells that are taken apart
pub next_row : (n : ℕ) (rest row others : List ℤ) → 1 ≤ n → n ≤ length rest → row ≡ take n rest → others ≡ drop n rest → rows_of n rest ≡ row ∷ rows_of n others
next_row n rest row others some enough front back = rows_of-next n rest some enough ∙ (ap (λ r. r ∷ rows_of n (drop n rest)) (sym front) ∙ ap (λ o. row ∷ rows_of n o) (sym back))

module _ (box : List (List ℤ)) (v : List Term) (i : ℕ) (a : ℤ) (rows others all : List (List ℤ)) (row : List ℤ) (next : rows ≡ row ∷ others) where
  -- the next row is one
  pub row_is : at row i ≡ a → Choice box v row → RowWith box v i a rows ↔ RowWith box v i a all → RowWith box v i a all
  row_is given chosen so_far = so_far.0 (record { row = row; stands = subst (λ (list : List (List ℤ)). HasMember list row) (sym next) (inl (λ k. row)); chosen = chosen; given = given })

  -- it isn't: those behind it decide of all
  pub row_on : (at row i ≡ a → Choice box v row → ⊥) → RowWith box v i a rows ↔ RowWith box v i a all → RowWith box v i a others ↔ RowWith box v i a all
  row_on not so_far = (
    λ r. so_far.0 (record { row = r.row; stands = subst (λ (list : List (List ℤ)). HasMember list r.row) (sym next) (inr r.stands); chosen = r.chosen; given = r.given }),
    λ r. by (so_far.1 r),
  )
    where
      by : RowWith box v i a rows → RowWith box v i a others
      by r = behind (subst (λ (list : List (List ℤ)). HasMember list r.row) next r.stands)
        where
          behind : (row ≡ r.row) ⊎ HasMember others r.row → RowWith box v i a others
          behind (inl same) = absurd (not (subst (λ (x : List ℤ). at x i ≡ a) (sym same) r.given) (subst (Choice box v) (sym same) r.chosen))
          behind (inr stands) = record { row = r.row; stands = stands; chosen = r.chosen; given = r.given }

-- none is left
pub no_row : (box : List (List ℤ)) (v : List Term) (i : ℕ) (a : ℤ) (rows all : List (List ℤ)) → rows ≡ [] → RowWith box v i a rows ↔ RowWith box v i a all → RowWith box v i a all → ⊥
no_row box v i a rows all end so_far r = let left = so_far.1 r in subst (λ (list : List (List ℤ)). HasMember list left.row) end left.stands

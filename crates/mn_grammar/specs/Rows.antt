-- Arguments by a table: what a form takes is a row of sorts of argument, and one reader reads any row.
use Rattle.std.specs.Prelude.{List, [], ◌∷◌, ◌++◌, length, Option, None}
use Rattle.mn_lexer.specs.Terminals.{Terminal, mark}
use Rattle.mn_lexer.specs.declared.marks.Mark.TheVariants.{Comma, CloseRound}
use Rattle.mn_grammar.specs.Places.{Break, on, behind}
use Rattle.mn_grammar.specs.Reading.{Reader, MarksOnly, then_read, ret, mark_at}
use Rattle.mn_grammar.specs.declared.Kind.{Kind}

-- The sorts of argument K: the trees of each, how they are spelled, what they break and stand for behind the values
-- so far, and the condition on the mark behind, by the values up to it.
pub record Sorts (K Val : Type 0) (Tree : K → Type 0) : Type 0 where
  pub spell : (k : K) → Tree k → List Terminal
  pub breaks : (k : K) → List Val → Tree k → List Break
  pub value : (k : K) → List Val → Tree k → Val
  pub on_mark : K → List Val → Option Kind

-- a tree for each sort of a row
abbrev pub Arguments : {K : Type 0} → (K → Type 0) → List K → Type 0
Arguments Tree [] = Unit {0}
Arguments Tree (k ∷ ks) = Tree k × Arguments Tree ks

module _ {K Val : Type 0} {Tree : K → Type 0} (sorts : Sorts K Val Tree) where
  -- the values with that of one more argument
  abbrev pub with_value : (k : K) → List Val → Tree k → List Val
  with_value k vs a = vs ++ sorts.value k vs a ∷ []

  -- the arguments of the sort k and of the others, with `,` between and `)` behind the last
  abbrev pub spell_more : (k : K) (others : List K) → Arguments Tree (k ∷ others) → List Terminal
  spell_more k [] p = sorts.spell k p.0 ++ mark CloseRound ∷ []
  spell_more k (l ∷ others) p = sorts.spell k p.0 ++ mark Comma ∷ spell_more l others p.1

  -- what they break, behind the values so far
  abbrev pub breaks_more : (k : K) (others : List K) → List Val → Arguments Tree (k ∷ others) → List Break
  breaks_more k [] vs p =
      sorts.breaks k vs p.0 ++ behind (length (sorts.spell k p.0)) (on (sorts.on_mark k (with_value k vs p.0)))
  breaks_more k (l ∷ others) vs p =
      sorts.breaks k vs p.0
      ++ behind (length (sorts.spell k p.0)) (on (sorts.on_mark k (with_value k vs p.0)) ++ behind 1 (breaks_more l others (with_value k vs p.0) p.1))

  -- all values with theirs
  abbrev pub values_more : (k : K) (others : List K) → List Val → Arguments Tree (k ∷ others) → List Val
  values_more k [] vs p = with_value k vs p.0
  values_more k (l ∷ others) vs p = values_more l others (with_value k vs p.0) p.1

  -- the same of a row, which may be empty
  abbrev pub spell_row : (row : List K) → Arguments Tree row → List Terminal
  spell_row [] u = mark CloseRound ∷ []
  spell_row (k ∷ ks) p = spell_more k ks p

  -- what a row breaks
  abbrev pub breaks_row : (row : List K) → Arguments Tree row → List Break
  breaks_row [] u = []
  breaks_row (k ∷ ks) p = breaks_more k ks [] p

  -- the values of a row
  abbrev pub values_row : (row : List K) → Arguments Tree row → List Val
  values_row [] u = []
  values_row (k ∷ ks) p = values_more k ks [] p

-- the readers, of a reader for each sort of argument, which is told the values so far
module _ {K Val : Type 0} (on_mark : K → List Val → Option Kind) (read : K → List Val → Reader Val) where
  -- the arguments of a sort and of the others, behind the values so far
  abbrev pub more_at : K → List K → List Val → Reader (List Val)
  more_at k [] vs =
      then_read (read k vs) (λ v. then_read (mark_at MarksOnly CloseRound (on_mark k (vs ++ v ∷ []))) (λ u. ret (vs ++ v ∷ [])))
  more_at k (l ∷ others) vs =
      then_read (read k vs) (λ v. then_read (mark_at MarksOnly Comma (on_mark k (vs ++ v ∷ []))) (λ u. more_at l others (vs ++ v ∷ [])))

  -- what stands behind the `(` of a form
  abbrev pub row_at : List K → Reader (List Val)
  row_at [] = then_read (mark_at MarksOnly CloseRound None) (λ u. ret [])
  row_at (k ∷ ks) = more_at k ks []

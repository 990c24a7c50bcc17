-- The heads of sections, and the head that ends a text.
use Rattle.std.specs.Prelude.{ℕ, List, [], ◌∷◌, Option, codes}
use Rattle.mn_lexer.specs.Terminals.{Terminal, head}
use Rattle.mn_grammar.specs.Reading.{which_of}
use Rattle.mn_cursor.specs.declared.heads.Head.{Head}
use Rattle.mn_cursor.specs.declared.heads.Head.TheVariants.{Variables, TupleList, Search, Constraints, End}

-- how each is written
abbrev pub head_text : Head → List ℕ
head_text Variables = codes "**VARIABLES**"
head_text TupleList = codes "**TUPLELIST**"
head_text Search = codes "**SEARCH**"
head_text Constraints = codes "**CONSTRAINTS**"
head_text End = codes "**EOF**"

abbrev pub head_token : Head → Terminal
head_token h = head (head_text h)

abbrev pub all_heads : List Head
all_heads = Variables ∷ TupleList ∷ Search ∷ Constraints ∷ End ∷ []

-- the head that a token is, if it is one of the grammar's
abbrev pub head_of : Terminal → Option Head
head_of = which_of head_token all_heads

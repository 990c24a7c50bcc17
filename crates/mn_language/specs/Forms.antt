-- The forms of constraint as one table: how each is written, and what it takes.
use Rattle.std.specs.Prelude.{ℕ, List, [], ◌∷◌, Option, codes}
use Rattle.mn_lexer.specs.Terminals.{Terminal, word}
use Rattle.mn_grammar.specs.Reading.{which_of}
use Rattle.mn_language.specs.declared.forms.Argument.{Argument}
use Rattle.mn_language.specs.declared.forms.Argument.TheVariants.{Term, Vector, Number, Numbers, Range, Tuples}
use Rattle.mn_language.specs.declared.forms.Form.{Form}
use Rattle.mn_language.specs.declared.forms.Form.TheVariants.{Leaf as of_leaf, Gather as of_gather, Tie as of_tie}
use Rattle.mn_language.specs.declared.forms.Gather.TheVariants.{Or, And}
use Rattle.mn_language.specs.declared.forms.Leaf.{Leaf}
use Rattle.mn_language.specs.declared.forms.Leaf.TheVariants as form
use Rattle.mn_language.specs.declared.forms.Numbers.TheVariants as numbers
use Rattle.mn_language.specs.declared.forms.Places.TheVariants as places
use Rattle.mn_language.specs.declared.forms.TheConstants.{FORMS}
use Rattle.mn_language.specs.declared.forms.Tie.TheVariants.{Reify, Reifyimply}

-- a line of the table: the word of a form, and its arguments in order
pub record Line : Type 0 where
  pub written : List ℕ
  pub takes : List Argument

-- the kinds of vector and of list of numbers
abbrev pub any_vector : Argument
any_vector = Vector places.Any

abbrev pub some_vector : Argument
some_vector = Vector places.Some

abbrev pub bit_vector : Argument
bit_vector = Vector places.Bits

abbrev pub like_vector : Argument
like_vector = Vector places.Alike

abbrev pub any_numbers : Argument
any_numbers = Numbers numbers.Any

abbrev pub some_pairs : Argument
some_pairs = Numbers numbers.Pairs

abbrev pub weights : Argument
weights = Numbers numbers.Weights

abbrev pub like_numbers : Argument
like_numbers = Numbers numbers.Alike

-- the table
abbrev pub form_line : Leaf → Line
form_line form.Eq = record { written = codes "eq"; takes = Term ∷ Term ∷ [] }
form_line form.Diseq = record { written = codes "diseq"; takes = Term ∷ Term ∷ [] }
form_line form.Ineq = record { written = codes "ineq"; takes = Term ∷ Term ∷ Number ∷ [] }
form_line form.Watchless = record { written = codes "watchless"; takes = Term ∷ Term ∷ [] }
form_line form.Minuseq = record { written = codes "minuseq"; takes = Term ∷ Term ∷ [] }
form_line form.Abs = record { written = codes "abs"; takes = Term ∷ Term ∷ [] }
form_line form.Difference = record { written = codes "difference"; takes = Term ∷ Term ∷ Term ∷ [] }
form_line form.Product = record { written = codes "product"; takes = Term ∷ Term ∷ Term ∷ [] }
form_line form.Div = record { written = codes "div"; takes = Term ∷ Term ∷ Term ∷ [] }
form_line form.Modulo = record { written = codes "modulo"; takes = Term ∷ Term ∷ Term ∷ [] }
form_line form.Max = record { written = codes "max"; takes = some_vector ∷ Term ∷ [] }
form_line form.Min = record { written = codes "min"; takes = some_vector ∷ Term ∷ [] }
form_line form.Sumleq = record { written = codes "sumleq"; takes = any_vector ∷ Term ∷ [] }
form_line form.Sumgeq = record { written = codes "sumgeq"; takes = any_vector ∷ Term ∷ [] }
form_line form.Weightedsumleq = record { written = codes "weightedsumleq"; takes = weights ∷ like_vector ∷ Term ∷ [] }
form_line form.Weightedsumgeq = record { written = codes "weightedsumgeq"; takes = weights ∷ like_vector ∷ Term ∷ [] }
form_line form.Watchsumleq = record { written = codes "watchsumleq"; takes = bit_vector ∷ Number ∷ [] }
form_line form.Watchsumgeq = record { written = codes "watchsumgeq"; takes = bit_vector ∷ Number ∷ [] }
form_line form.Litsumgeq = record { written = codes "litsumgeq"; takes = any_vector ∷ like_numbers ∷ Number ∷ [] }
form_line form.Element = record { written = codes "element"; takes = any_vector ∷ Term ∷ Term ∷ [] }
form_line form.Watchelement = record { written = codes "watchelement"; takes = any_vector ∷ Term ∷ Term ∷ [] }
form_line form.ElementOne = record { written = codes "element_one"; takes = any_vector ∷ Term ∷ Term ∷ [] }
form_line form.WatchelementOne = record { written = codes "watchelement_one"; takes = any_vector ∷ Term ∷ Term ∷ [] }
form_line form.Table = record { written = codes "table"; takes = some_vector ∷ Tuples ∷ [] }
form_line form.Negativetable = record { written = codes "negativetable"; takes = some_vector ∷ Tuples ∷ [] }
form_line form.Alldiff = record { written = codes "alldiff"; takes = any_vector ∷ [] }
form_line form.Lexleq = record { written = codes "lexleq"; takes = any_vector ∷ like_vector ∷ [] }
form_line form.Lexless = record { written = codes "lexless"; takes = any_vector ∷ like_vector ∷ [] }
form_line form.Watchvecneq = record { written = codes "watchvecneq"; takes = any_vector ∷ like_vector ∷ [] }
form_line form.Hamming = record { written = codes "hamming"; takes = any_vector ∷ like_vector ∷ Number ∷ [] }
form_line form.Occurrence = record { written = codes "occurrence"; takes = any_vector ∷ Number ∷ Term ∷ [] }
form_line form.Occurrenceleq = record { written = codes "occurrenceleq"; takes = any_vector ∷ Number ∷ Number ∷ [] }
form_line form.Occurrencegeq = record { written = codes "occurrencegeq"; takes = any_vector ∷ Number ∷ Number ∷ [] }
form_line form.Nvalueleq = record { written = codes "nvalueleq"; takes = any_vector ∷ Term ∷ [] }
form_line form.WLiteral = record { written = codes "w-literal"; takes = Term ∷ Number ∷ [] }
form_line form.WNotliteral = record { written = codes "w-notliteral"; takes = Term ∷ Number ∷ [] }
form_line form.WInset = record { written = codes "w-inset"; takes = Term ∷ any_numbers ∷ [] }
form_line form.WNotinset = record { written = codes "w-notinset"; takes = Term ∷ any_numbers ∷ [] }
form_line form.WInrange = record { written = codes "w-inrange"; takes = Term ∷ Range ∷ [] }
form_line form.WNotinrange = record { written = codes "w-notinrange"; takes = Term ∷ Range ∷ [] }
form_line form.WInintervalset = record { written = codes "w-inintervalset"; takes = Term ∷ some_pairs ∷ [] }
form_line form.Always = record { written = codes "true"; takes = [] }
form_line form.Never = record { written = codes "false"; takes = [] }

-- the words of the forms with others inside
abbrev pub form_text : Form → List ℕ
form_text (of_leaf f) = (form_line f).written
form_text (of_gather Or) = codes "watched-or"
form_text (of_gather And) = codes "watched-and"
form_text (of_tie Reify) = codes "reify"
form_text (of_tie Reifyimply) = codes "reifyimply"

abbrev pub form_token : Form → Terminal
form_token f = word (form_text f)

abbrev pub all_forms : List Form
all_forms = FORMS

-- the form that a token begins, if it is the word of one
abbrev pub form_of : Terminal → Option Form
form_of = which_of form_token all_forms

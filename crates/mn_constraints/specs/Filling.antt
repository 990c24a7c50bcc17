-- What the code keeps of arguments that are read.
use Rattle.std.specs.Prelude.{ℕ, List, [], ◌∷◌, Option}
use Rattle.mn_lexer.specs.declared.marks.Mark.{Mark}
use Rattle.mn_model.specs.Problem.{Problem}
use Rattle.mn_grammar.specs.Reading.{Reader, mark_at, ret, then_read}
use Rattle.mn_grammar.specs.declared.site.Site.TheVariants.{MarksOnly}
use Rattle.mn_references.specs.declared.want.Unfit.{Unfit}
use Rattle.mn_language.specs.Arguments.{Value, behind_value, of_terms, of_numbers, of_tuples}
use Rattle.mn_language.specs.Constructing.{argument_at}
use Rattle.mn_language.specs.declared.forms.Argument.{Argument}
use Rattle.mn_language.specs.Values.{value_seen}
use Rattle.mn_constraints.specs.declared.arguments.Argued.{Argued}
use Rattle.mn_constraints.specs.declared.leaves.Row.{Row}
use Rattle.mn_constraints.specs.declared.leaves.Row.TheVariants.{Empty, One, Two, Three}

-- a value with what the token after it breaks
abbrev pub with_behind : Value → Option Unfit → Value
with_behind (of_terms terms broken) behind = of_terms terms behind
with_behind (of_numbers zs) behind = of_numbers zs
with_behind (of_tuples tab) behind = of_tuples tab

abbrev pub argued_seen : Argued → Value
argued_seen a = with_behind (value_seen a.value) a.behind

-- the values of a row
abbrev pub row_seen : Row → List Value
row_seen Empty = []
row_seen (One a) = value_seen a ∷ []
row_seen (Two a b) = value_seen a ∷ value_seen b ∷ []
row_seen (Three a b c) = value_seen a ∷ value_seen b ∷ value_seen c ∷ []

-- an argument after others, and the mark after it
unfoldable pub argument_then_at : Problem → ℕ → Argument → List Value → Mark → Reader Value
argument_then_at p used k vs m = then_read (argument_at p used k vs) (λ v. then_read (mark_at MarksOnly m (behind_value v)) (λ u. ret v))

-- The kinds of refusal: their order, and which of them conditions have.
use Rattle.std.specs.Prelude.{ℕ, Bool, true, false, Option, Some, None}
use Rattle.mn_lexer.specs.declared.LexFault.{LexFault}
use Rattle.mn_lexer.specs.declared.LexFault.TheVariants as stop
use Rattle.mn_grammar.specs.declared.Kind.{Kind}
use Rattle.mn_grammar.specs.declared.Kind.TheVariants.{Lex, NumberRange, Unsupported, Syntax, Again, Name, EmptyDomain, Limit, Shape}
use Rattle.mn_grammar.specs.declared.Limit.TheVariants.{Variables, Constraints, Cells, Nesting, Span, Vector}

-- where two conditions are broken at one token, the kind of the lesser rank counts. No token passes two of the limits,
-- so which of them comes first among these ranks plays no part.
abbrev pub rank : Kind → ℕ
rank Lex = 0
rank NumberRange = 1
rank Unsupported = 2
rank Syntax = 3
rank Again = 4
rank Name = 5
rank EmptyDomain = 6
rank (Limit Variables) = 7
rank (Limit Constraints) = 8
rank (Limit Cells) = 9
rank (Limit Nesting) = 10
rank (Limit Span) = 11
rank (Limit Vector) = 12
rank Shape = 13

-- the kinds that a condition can have; the others are those of the lexer and of the grammar
abbrev pub is_condition : Kind → Bool
is_condition Lex = false
is_condition NumberRange = false
is_condition Unsupported = false
is_condition Syntax = false
is_condition _ = true

-- the kind at the end of a list of tokens that isn't whole, by what ended it
abbrev pub kind_at_end : Option LexFault → Kind
kind_at_end None = Syntax
kind_at_end (Some (stop.Lex place)) = Lex
kind_at_end (Some (stop.NumberRange place)) = NumberRange

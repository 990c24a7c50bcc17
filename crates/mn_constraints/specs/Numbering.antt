-- What the code wants of a list of numbers.
use Rattle.std.specs.Prelude.{ℤ, List, []}
use Rattle.mn_lexer.specs.declared.marks.Mark.{Mark}
use Rattle.mn_lexer.specs.declared.marks.Mark.TheVariants.{CloseSquare}
use Rattle.mn_grammar.specs.Lists.{items_at, maybe_at}
use Rattle.mn_grammar.specs.Reading.{Reader, number_at}
use Rattle.mn_language.specs.Arguments.{Wanted, at_close, at_one, number_ends, with_number}
use Rattle.mn_constraints.specs.declared.numbers.Wanted.{Wanted as Kept}

abbrev pub wanted_seen : Kept → Wanted
wanted_seen w = record { count = w.count; limited = w.limited; paired = w.paired }

-- numbers after others, up to the mark that closes them
unfoldable pub numbers_from : Mark → Wanted → List ℤ → Reader (List ℤ)
numbers_from shut w before = items_at shut (number_ends w) with_number (λ before. number_at (at_one w before)) before

-- all of them, after the `[`
unfoldable pub numbers_behind : Wanted → Reader (List ℤ)
numbers_behind w = maybe_at CloseSquare (number_ends w) (at_close w 0) [] with_number (λ before. number_at (at_one w before)) []

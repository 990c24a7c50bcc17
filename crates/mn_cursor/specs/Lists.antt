-- What stands after an entry of a bracketed list.
use Rattle.std.specs.Prelude.{Bool, true, false, Option, Some, None, if◌then◌else◌}
use Rattle.mn_lexer.specs.Terminals.{Terminal}
use Rattle.mn_lexer.specs.declared.marks.Mark.{Mark}
use Rattle.mn_lexer.specs.declared.marks.Mark.TheVariants.{Comma}
use Rattle.mn_grammar.specs.Tokens.{is_the_mark}
use Rattle.mn_grammar.specs.Reading.{Reader, one}
use Rattle.mn_grammar.specs.declared.site.Site.TheVariants.{MarksOnly}

-- whether it is `,`, with which the list goes on, and not the mark that closes it
abbrev pub which_comma_or : Mark → Terminal → Option Bool
which_comma_or shut t = if is_the_mark Comma t then Some true else (if is_the_mark shut t then Some false else None)

unfoldable pub comma_or_at : Mark → Reader Bool
comma_or_at shut = one MarksOnly (which_comma_or shut) (λ b. None)

use Rattle.std.proofs.Common.{sym, ap, ◌∙◌, ◌∷◌}
use Rattle.mn_lexer.specs.Terminals.{terminal, token_of}
use Rattle.mn_grammar.specs.Reading.{kind_at}
use Rattle.mn_cursor.proofs.Looking.{kind_first}
use Rattle.mn_cursor.proofs.cursor.Cursor.kind_here.Goals as goal

-- src/looks.rt:43:5
pub returns-in-Some : goal.returns-in-Some
returns-in-Some c =
    kind_first c.args.site c.kind_at.result (token_of c.args.self.now.text c.in-Some.token) _ (sym c.in-Some.ensures.first)
    (λ more. c.kind_at.ensures more ∙ ap (λ bytes. kind_at c.args.site (terminal c.in-Some.token.kind bytes ∷ more)) c.bytes_of.ensures)

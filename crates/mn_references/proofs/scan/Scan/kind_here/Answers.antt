use Rattle.std.proofs.Common.{sym, ap, ◌∙◌, ◌∷◌}
use Rattle.mn_lexer.specs.Terminals.{terminal, token_of}
use Rattle.mn_grammar.specs.Reading.{kind_at}
use Rattle.mn_cursor.specs.Progress.{Progress}
use Rattle.mn_cursor.proofs.Looking.{kind_first}
use Rattle.mn_references.proofs.scan.Scan.kind_here.Goals as goal

pub returns-in-Some : goal.returns-in-Some
returns-in-Some c =
    kind_first c.args.site c.kind_at.result (token_of c.args.self.now.text c.in-Some.token) _ (sym c.in-Some.ensures.first)
    (λ more. c.kind_at.ensures more
    ∙ ap (λ bytes. kind_at c.args.site (terminal c.in-Some.token.kind bytes ∷ more)) c.bytes_of.ensures
    ∙ ap (λ (p : Progress). kind_at c.args.site (token_of p.text c.in-Some.token ∷ more)) c.self.view_is)

use Rattle.std.proofs.Common.{rules, sym, ap, subst, ◌∙◌, ◌-◌, slice_get}
use Rattle.mn_lexer.specs.Reading.{IsTokenOf}
use Rattle.mn_cursor.specs.Progress.{Progress}
use Rattle.mn_cursor.proofs.Reached.{first_token, first_terminal, none_left, of_each}
use Rattle.mn_references.proofs.scan.Scan.peek.Goals as goal

pub returns-then-self-eq0-clause-first : goal.returns-then-self-eq0-clause-first
returns-then-self-eq0-clause-first c = ap (λ l. slice_get l 0) (sym (none_left _ (search rules)))

pub returns-then-self-eq0-clause-end : goal.returns-then-self-eq0-clause-end
returns-then-self-eq0-clause-end c = none_left _ (search rules)

pub returns-clause-token : goal.returns-clause-token
returns-clause-token c = sym (first_token c.args.self.now c.get.result (search rules))

pub returns-clause-first : goal.returns-clause-first
returns-clause-first c = sym (first_terminal c.args.self.now c.get.result (search rules))

pub returns-clause-of_text : goal.returns-clause-of_text
returns-clause-of_text c =
    subst (λ (p : Progress). IsTokenOf p.text c.get.result) c.self.view_is (of_each (IsTokenOf c.self.inside.cursor.now.text) c.self.inside.cursor.now.tokens (c.len.result - c.self.inside.left) c.get.result c.self.invariant.each (sym (ap (λ l. slice_get l (c.len.result - c.self.inside.left)) c.tokens-tokens.ensures) ∙ c.get.ensures))

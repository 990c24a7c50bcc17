use Rattle.std.proofs.Common.{rules, sym, ap, slice_get}
use Rattle.mn_lexer.specs.Reading.{IsTokenOf}
use Rattle.mn_cursor.proofs.Reached.{first_token, first_terminal, none_left, of_each}
use Rattle.mn_cursor.proofs.cursor.Cursor.peek.Goals as goal

-- src/cursor.rt:78:13
pub returns-then-self-eq0-clause-first : goal.returns-then-self-eq0-clause-first
returns-then-self-eq0-clause-first c = ap (λ l. slice_get l 0) (sym (none_left _ (search rules)))

-- src/cursor.rt:78:13
pub returns-then-self-eq0-clause-end : goal.returns-then-self-eq0-clause-end
returns-then-self-eq0-clause-end c = none_left _ (search rules)

-- src/cursor.rt:70:5
pub returns-clause-token : goal.returns-clause-token
returns-clause-token c = sym (first_token c.args.self.now c.get.result (search rules))

-- src/cursor.rt:70:5
pub returns-clause-first : goal.returns-clause-first
returns-clause-first c = sym (first_terminal c.args.self.now c.get.result (search rules))

-- src/cursor.rt:70:5
pub returns-clause-of_text : goal.returns-clause-of_text
returns-clause-of_text c = of_each (IsTokenOf c.args.self.now.text) c.self.inside.tokens _ c.get.result (search rules) c.get.ensures

use Rattle.std.proofs.Common.{rules, sym, ◌∙◌}
use Rattle.mn_cursor.proofs.Reached.{byte_there}
use Rattle.mn_cursor.proofs.cursor.Cursor.byte_of.Goals as goal

-- src/refusing.rt:65:5
pub returns-then-place-len : goal.returns-then-place-len
returns-then-place-len c = c.from.ensures ∙ sym (byte_there c.args.self.now c.args.left c.get.result (search rules))

use Rattle.std.proofs.Common.{rules}
use Rattle.mn_model.proofs.NameParts.{is_name-parts}
use Rattle.mn_model.proofs.name.is_name.Goals as goal

pub returns-then-begins_name : goal.returns-then-begins_name
returns-then-begins_name c =
    rw (is_name-parts c.args.bytes.now c.in-len1-up.len_at_least, ← c.begins_name.ensures, c.if-begins_name.true) (search rules)

use Rattle.mn_cursor.proofs.Fair.{is_text}
use Rattle.mn_cursor.proofs.names.str_of.Goals as goal

pub unwrap-requires : goal.unwrap-requires
unwrap-requires c = is_text _ _ c.args.name.now c.from_utf8.result c.requires c.from_utf8.ensures.cases

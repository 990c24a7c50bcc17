use Rattle.std.proofs.Common.{None, length, ap, ◌∙◌, string_bytes, map}
use Rattle.std.proofs.lemmas.List.{length-map}
use Rattle.mn_options.proofs.Lawful.{length-words}
use Rattle.mn_options.proofs.options.model_text.Goals as goal

pub named_by-requires : goal.named_by-requires
named_by-requires c = ap length c.requires ∙ (length-words None (map string_bytes c.args.words.now) ∙ length-map c.args.words.now string_bytes)

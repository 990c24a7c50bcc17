use Rattle.std.proofs.Common.{string_bytes, sym, ◌∙◌}
use Rattle.mn_options.proofs.Lawful.{named_next}
use Rattle.mn_options.proofs.told.named_by.Goals as goal

pub loop-i-preserved : goal.loop-i-preserved
loop-i-preserved c =
    sym (named_next string_bytes c.args.words.now c.args.texts.now c.loop-i.i _ c.loop-i-test.true c.requires (sym c.is_model.ensures ∙ c.if-is_model.false)) ∙ c.loop-i.invariant

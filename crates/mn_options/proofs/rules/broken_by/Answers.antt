use Rattle.std.proofs.Common.{◌∙◌, sym}
use Rattle.mn_options.proofs.Breaking.{listed_breaks_none, listed_clashes}
use Rattle.mn_options.proofs.rules.broken_by.Goals as goal

pub returns-in-Listed-2 : goal.returns-in-Listed-2
returns-in-Listed-2 c =
    listed_clashes c.args.before.now c.args.word c.in-Listed.option c.in-Listed-2.option c.in-Listed.is c.in-Listed-2.is (sym c.asks_for.ensures ∙ c.if-asks_for.false) (sym c.clashes.ensures ∙ c.if-clashes.true)

pub returns-in_default-6 : goal.returns-in_default-6
returns-in_default-6 c =
    listed_breaks_none c.args.before.now c.args.word c.in-Listed.option c.in-Listed-2.option c.in-Listed.is c.in-Listed-2.is (sym c.asks_for.ensures ∙ c.if-asks_for.false) (sym c.clashes.ensures ∙ c.if-clashes.false)

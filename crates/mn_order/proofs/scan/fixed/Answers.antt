use Rattle.std.proofs.Common.{◌==◌, not, rules, tests, ◌∙◌}
use Rattle.std.proofs.lemmas.Iterator.{YieldsList-from_slice}
use Rattle.std.proofs.lemmas.Iterator.Adapters.{position_from-zero}
use Rattle.std.proofs.lemmas.Iterator.Search.{position_from_yields_List}
use Rattle.mn_order.proofs.Places.{first_is_fixed}
use Rattle.mn_order.proofs.scan.fixed.Goals as goal

pub returns : goal.returns
returns c =
    position_from_yields_List (λ size. not (size == 1)) _ _ c.position.result c.position.ensures.ran (YieldsList-from_slice c.args.now.now cc) (λ x b q k. search (rules, tests))
    ∙ (position_from-zero (λ size. not (size == 1)) c.args.now.now ∙ first_is_fixed 0 c.args.now.now c.args._declared.now c.requires)

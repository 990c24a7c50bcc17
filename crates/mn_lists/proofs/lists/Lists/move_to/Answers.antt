-- Where the triggers stand follows from which lists there are.
use Rattle.std.proofs.Common.{ap, ◌∙◌}
use Rattle.std.specs.Option.{option_map}
use Rattle.mn_lists.specs.Standing.{Standing, moved_to, without}
use Rattle.mn_lists.proofs.Stands.{moves_only}
use Rattle.mn_lists.proofs.lists.Lists.move_to.Goals as goal

pub returns-clause-only : goal.returns-clause-only
returns-clause-only c =
    moves_only c.args.self.now _ c.args.t c.args.list c.requires.list
    (c.move_to.ensures.lists ∙ ap (λ (v : Standing). moved_to c.args.t c.args.list v.lists) c.self.view_is)
    (c.move_to.ensures.walk ∙ ap (λ (v : Standing). option_map (without c.args.t) v.walk) c.self.view_is)

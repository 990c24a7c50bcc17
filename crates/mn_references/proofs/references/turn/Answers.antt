use Rattle.std.proofs.Common.{ap}
use Rattle.mn_references.specs.Aims.{aim_seen}
use Rattle.mn_references.specs.Lookups.{lead_seen, within_seen, sub_seen}
use Rattle.mn_cursor.specs.Progress.{Progress, rest}
use Rattle.mn_references.proofs.Stepping.{index_is, turn_of_indices}
use Rattle.mn_references.proofs.references.turn.Goals as goal

pub returns-clause-gives : goal.returns-clause-gives
returns-clause-gives c =
    turn_of_indices _ c.behind_index.result (aim_seen c.args.scan.now.problem c.args.aim) (aim_seen c.index.new.self.problem c.args.aim) (lead_seen c.args.lookup.now)
    (within_seen c.args.indices) (within_seen c.in_ok-next.next) (sub_seen c.in_ok-index.index) c.is_last-last.result (rest c.args.scan.now) (rest c.index.new.self)
    (index_is (aim_seen c.args.scan.now.problem c.args.aim) (within_seen c.args.indices) c.slices.result (rest c.args.scan.now) _ (c.slices.ensures c.args.scan.now.problem) c.in_ok-index.ensures.gives)
    (ap (λ (s : Progress). aim_seen s.problem c.args.aim) c.in_ok-index.ensures.moves) c.is_last-last.ensures c.in_ok-next.ensures.seen c.behind_index.ensures.gives

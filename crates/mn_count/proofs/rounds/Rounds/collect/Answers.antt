use Rattle.mn_prop.specs.Contexts.{box_of, vars_of}
use Rattle.mn_count.proofs.Collected.{next_collected}
use Rattle.mn_count.proofs.rounds.Rounds.collect.Goals as goal

pub loop-i-preserved : goal.loop-i-preserved
loop-i-preserved c =
    let d = c.args.d.now in
    let s = c.args.self.now in
    next_collected d.v.now (box_of c.args.c.now) s.taken s.open c.left-before.result (vars_of c.args.c.now) d.inst.now.tuples c.loop-i.self.taken c.look.new.self.taken c.loop-i.self.open c.look.new.self.open c.loop-i.i c.in_ok-look.field-0 c.loop-i-test.true c.loop-i.invariant c.in-Open.is c.in_ok-look.ensures

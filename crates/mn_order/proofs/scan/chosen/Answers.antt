use Rattle.std.proofs.Common.{rules}
use Rattle.mn_order.proofs.Places.{best_of_all, best_of_none, best_of_more, within}
use Rattle.mn_order.proofs.scan.chosen.Goals as goal

pub bounds-declared-i : goal.bounds-declared-i
bounds-declared-i c = within c.args.now.now c.args.declared.now c.loop-i.i c.requires c.loop-i-test.true

pub loop-i-init : goal.loop-i-init
loop-i-init c = best_of_none c.args.choice c.args.now.now c.args.declared.now

pub loop-i-preserved : goal.loop-i-preserved
loop-i-preserved c =
    best_of_more c.args.choice c.args.now.now c.args.declared.now c.loop-i.i c.loop-i.best c.better-best.result c.requires c.loop-i-test.true c.loop-i.invariant c.better-best.ensures

pub returns : goal.returns
returns c = let h = best_of_all c.args.choice c.args.now.now c.args.declared.now c.loop-i.i c.loop-i.best c.requires c.loop-i-test.false c.loop-i.invariant in search (rules, h)

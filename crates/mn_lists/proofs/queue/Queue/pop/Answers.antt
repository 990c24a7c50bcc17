-- The facts of `left_by_pop`, from what the calls ensure.
use Rattle.std.proofs.Common.{◌-◌, ◌≤◌, drop, sym, subst}
use Rattle.mn_lists.proofs.Queues.{Holds, left_by_pop, pops}
use Rattle.mn_lists.proofs.queue.Queue.pop.Goals as goal

pub overflow_sub-self : goal.overflow_sub-self
overflow_sub-self c = subst (◌≤◌ 1) (sym c.get.ensures) (pops _ _ _ _ _ c.self.invariant c.if-self.false).word

all : (c : goal.After-set) → Holds c.set.new.self c.self.inside.numbers (c.get.result - 1) c.self.inside.last (drop 1 c.args.self.now.items)
all c = left_by_pop _ _ _ _ _ c.self.invariant c.self.view_is _ _ c.if-self.false c.set.ensures c.get.ensures

pub invariant_of-self : goal.invariant_of-self
invariant_of-self c = (all c).queue

pub returns-clause-items : goal.returns-clause-items
returns-clause-items c = (all c).items

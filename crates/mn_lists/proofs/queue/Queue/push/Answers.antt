-- The facts of `left_by_push_first` and `left_by_push_behind`, from what the calls ensure.
use Rattle.std.proofs.Common.{◌<◌, sym, subst, ap, ℕ}
use Rattle.mn_lists.specs.Queue.{NumberQueue}
use Rattle.mn_lists.specs.Standing.{pushed}
use Rattle.mn_lists.proofs.Queues.{Holds, left_by_push_first, left_by_push_behind}
use Rattle.mn_lists.proofs.queue.Queue.push.Goals as goal

first : (c : goal.After-self-then-self-1) → Holds c.set.new.self c.self.inside.numbers c.args.number c.args.number (pushed c.args.number c.args.self.now.items)
first c =
    let here = subst (λ (n : ℕ). c.args.number < n) (ap (λ (v : NumberQueue). v.numbers) (sym c.self.view_is)) c.requires in
    left_by_push_first _ _ _ _ _ c.self.invariant c.self.view_is c.args.number here _ c.get.ensures _ c.if-get-ne0.false c.if-self.true c.set.ensures

pub invariant_of-self : goal.invariant_of-self
invariant_of-self c = (first c).queue

pub returns-then-self-clause-items : goal.returns-then-self-clause-items
returns-then-self-clause-items c = (first c).items

behind : (c : goal.After-self-2-1) → Holds c.set-2.new.self c.self.inside.numbers c.self.inside.first c.args.number (pushed c.args.number c.args.self.now.items)
behind c =
    let here = subst (λ (n : ℕ). c.args.number < n) (ap (λ (v : NumberQueue). v.numbers) (sym c.self.view_is)) c.requires in
    left_by_push_behind _ _ _ _ _ c.self.invariant c.self.view_is c.args.number here _ c.get.ensures _ _ c.if-get-ne0.false c.if-self.false c.set.ensures c.set-2.ensures

pub invariant_of-self-2 : goal.invariant_of-self-2
invariant_of-self-2 c = (behind c).queue

pub returns-clause-items : goal.returns-clause-items
returns-clause-items c = (behind c).items

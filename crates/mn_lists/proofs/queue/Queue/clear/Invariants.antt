-- The numbers stay, and each turn takes one off.
use Rattle.std.proofs.Common.{◌≡◌, length}
use Rattle.mn_lists.proofs.queue.Queue.clear.Given as goal

abbrev pub invariant-loop : goal.invariant-loop
invariant-loop l = l.self.numbers ≡ l.initial.self.numbers

abbrev pub decreases-loop : goal.decreases-loop
decreases-loop l = length l.self.items

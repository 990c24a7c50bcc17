-- The nodes below `node` are linked.
use Rattle.mn_lists.proofs.Starts.{LinkedBelow}
use Rattle.mn_lists.proofs.links.link_all.Given as goal

abbrev pub invariant-loop-node : goal.invariant-loop-node
invariant-loop-node l = LinkedBelow l.row l.triggers l.node

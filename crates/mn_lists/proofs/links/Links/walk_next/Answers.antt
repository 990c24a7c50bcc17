-- The facts of `goes_on`, from what the calls ensure.
use Rattle.mn_lists.proofs.Walks.{GoesOn, ended, goes_on}
use Rattle.mn_lists.proofs.links.Links.walk_next.Goals as goal

pub returns-then-node-self-clause-given : goal.returns-then-node-self-clause-given
returns-then-node-self-clause-given c = ended _ _ _ _ _ c.self.invariant c.self.view_is c.in_ok-node.node c.in_ok-node.was c.if-node-self.true

all : (c : goal.After-self-1) → GoesOn _ _ _ _ _ c.self.invariant c.self.view_is c.in_ok-node.node c.next.result
all c = goes_on _ _ _ _ _ c.self.invariant c.self.view_is c.in_ok-node.node c.next.result _ c.in_ok-node.was c.if-node-self.false c.next.ensures c.as_slice.ensures

pub invariant_of-self : goal.invariant_of-self
invariant_of-self c = (all c).still

pub returns-clause-given : goal.returns-clause-given
returns-clause-given c = (all c).given

pub returns-clause-walk : goal.returns-clause-walk
returns-clause-walk c = (all c).rest

pub returns-clause-once : goal.returns-clause-once
returns-clause-once c = (all c).once

-- The facts of `opens`, from what the calls ensure.
use Rattle.std.proofs.Common.{arith}
use Rattle.mn_lists.proofs.MovedLinks.{head_of}
use Rattle.mn_lists.proofs.Walks.{Opens, opens}
use Rattle.mn_lists.proofs.links.Links.walk_open.Goals as goal

pub overflow_add-head : goal.overflow_add-head
overflow_add-head c =
    let inside = head_of _ _ _ _ _ _ c.self.invariant c.self.view_is c.requires in let fits = c.self.invariant.fits in record { fits = omega arith }

pub next-requires : goal.next-requires
next-requires c =
    let inside = head_of _ _ _ _ _ _ c.self.invariant c.self.view_is c.requires in let nodes = c.self.invariant.nodes in rw c.as_slice.ensures (omega arith)

all : (c : goal.After-self-1) → Opens _ _ _ _ _ c.self.invariant c.self.view_is c.args.list c.next.result
all c = opens _ _ _ _ _ c.self.invariant c.self.view_is c.args.list c.next.result _ c.requires c.next.ensures c.as_slice.ensures

pub invariant_of-self : goal.invariant_of-self
invariant_of-self c = (all c).still

pub returns-clause-walk : goal.returns-clause-walk
returns-clause-walk c = (all c).all

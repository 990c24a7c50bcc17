-- The facts of `is_moved`, from what the calls ensure.
use Rattle.std.proofs.Common.{arith}
use Rattle.mn_lists.proofs.MovedLinks.{IsMoved, all_closed, head_of, is_moved}
use Rattle.mn_lists.proofs.links.Links.move_to.Goals as goal

pub overflow_add-head : goal.overflow_add-head
overflow_add-head c =
    let inside = head_of _ _ _ _ _ _ c.self.invariant c.self.view_is c.requires.list in let fits = c.self.invariant.fits in record { fits = omega arith }

pub move_node-requires-clause-closed : goal.move_node-requires-clause-closed
move_node-requires-clause-closed c = all_closed _ _ _ _ c.self.invariant

pub move_node-requires-clause-head : goal.move_node-requires-clause-head
move_node-requires-clause-head c =
    let inside = head_of _ _ _ _ _ _ c.self.invariant c.self.view_is c.requires.list in let nodes = c.self.invariant.nodes in omega arith

all : (c : goal.After-move_node) → IsMoved c.move_node.new.row c.self.inside.triggers c.self.inside.heads c.passed-self-inside.result c.args.trigger c.args.list c.args.self.now
all c = is_moved _ _ _ _ _ _ _ _ _ _ c.self.invariant c.self.view_is c.requires.trigger c.requires.list c.move_node.ensures c.as_slice.ensures c.passed-self-inside.ensures

pub invariant_of-self : goal.invariant_of-self
invariant_of-self c = (all c).links

pub returns-clause-lists : goal.returns-clause-lists
returns-clause-lists c = (all c).lists_are

pub returns-clause-walk : goal.returns-clause-walk
returns-clause-walk c = (all c).walk_is

pub returns-clause-one_list : goal.returns-clause-one_list
returns-clause-one_list c = (all c).each

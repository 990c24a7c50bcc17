-- The facts of `begun`, from what the calls ensure.
use Rattle.std.proofs.Common.{◌+◌, ◌^◌, ◌<◌, length, arith}
use Rattle.std.specs.List.{refill}
use Rattle.mn_lists.proofs.Starts.{Begun, begun}
use Rattle.mn_lists.proofs.links.Links.new.Goals as goal

all : (c : goal.After-row-3-1) → Begun (refill (length c.in_ok-row.row) c.in_ok-row.row c.link_all.new.row) c.args.triggers c.args.heads
all c = let fits : c.args.triggers + c.args.heads < 2 ^ 60 = omega (arith, c.in_ok-row.ensures.fits) in begun _ _ _ _ _ c.in_ok-row.ensures.words c.as_mut_slice.ensures.value c.link_all.auto.row c.requires fits c.link_all.ensures

pub invariant_of-result : goal.invariant_of-result
invariant_of-result c = (all c).links

pub returns-clause-lists : goal.returns-clause-lists
returns-clause-lists c = (all c).lists_are

pub returns-clause-one_list : goal.returns-clause-one_list
returns-clause-one_list c = (all c).each

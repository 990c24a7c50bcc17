use Rattle.std.proofs.Common.{◌^◌, ◌≤◌, take}
use Rattle.std.specs.List.{AllByRecursion, AllZip}
use Rattle.mn_domains.specs.Held.{IsFull}
use Rattle.mn_domains.proofs.state.full_ends.Given as goal

abbrev pub invariant-loop-shape : goal.invariant-loop-shape
invariant-loop-shape l = record {
  full : AllZip (IsFull l.listed) (take l.shape-index l.shapes) l.ends.items;
  small : AllByRecursion (λ e. e.size ≤ 2 ^ 32) l.ends.items;
}

use Rattle.std.proofs.Common.{◌≡◌, ◌*◌, ◌^◌, ◌≤◌, take}
use Rattle.mn_domains.specs.Held.{sizes}
use Rattle.mn_domains.proofs.state.size_of_all.Given as goal

abbrev pub invariant-loop-one : goal.invariant-loop-one
invariant-loop-one l = record {
  sum : l.size ≡ sizes (take l.one-index l.ends);
  small : l.size ≤ l.one-index * 2 ^ 32;
}

use Rattle.std.proofs.Common.{◌≡◌, ◌++◌, take}
use Rattle.mn_domains.proofs.layout.list.Given as goal

abbrev pub invariant-loop-i : goal.invariant-loop-i
invariant-loop-i l = l.listed.items ≡ l.fn.listed.items ++ take l.i l.domain

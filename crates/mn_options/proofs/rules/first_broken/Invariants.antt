use Rattle.std.proofs.Common.{◌≡◌, [], take, drop}
use Rattle.mn_options.specs.Rules.{first_broken_behind}
use Rattle.mn_options.proofs.rules.first_broken.Given as goal

abbrev pub invariant-loop-i : goal.invariant-loop-i
invariant-loop-i l = first_broken_behind (take l.i l.words) (drop l.i l.words) ≡ first_broken_behind [] l.words

use Rattle.std.proofs.Common.{◌≡◌}
use Rattle.mn_options.proofs.options.text_of.Given as goal

abbrev pub invariant-loop-c : goal.invariant-loop-c
invariant-loop-c l = l.text ≡ l.yielded

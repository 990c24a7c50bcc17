use Rattle.std.proofs.Common.{◌≡◌, drop}
use Rattle.mn_options.specs.Meant.{limit_of}
use Rattle.mn_options.proofs.told.limit_of.Given as goal

abbrev pub invariant-loop-word : goal.invariant-loop-word
invariant-loop-word l = limit_of l.option (drop l.word-index l.words) ≡ limit_of l.option l.words

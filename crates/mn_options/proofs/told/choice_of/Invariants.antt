use Rattle.std.proofs.Common.{◌≡◌, drop}
use Rattle.mn_options.specs.Meant.{choice_of}
use Rattle.mn_options.proofs.told.choice_of.Given as goal

abbrev pub invariant-loop-word : goal.invariant-loop-word
invariant-loop-word l = choice_of (drop l.word-index l.words) ≡ choice_of l.words

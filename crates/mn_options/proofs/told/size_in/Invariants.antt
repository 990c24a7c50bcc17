use Rattle.std.proofs.Common.{◌≡◌, drop}
use Rattle.mn_options.specs.Meant.{first_told, size_at}
use Rattle.mn_options.proofs.told.size_in.Given as goal

abbrev pub invariant-loop-word : goal.invariant-loop-word
invariant-loop-word l = first_told size_at (drop l.word-index l.words) ≡ first_told size_at l.words

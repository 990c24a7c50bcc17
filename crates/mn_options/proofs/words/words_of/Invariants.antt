use Rattle.std.proofs.Common.{◌≡◌, ◌++◌, length, map, string_bytes}
use Rattle.mn_options.specs.Words.{words_behind, words_of}
use Rattle.mn_options.proofs.words.words_of.Given as goal

abbrev pub invariant-loop-left : goal.invariant-loop-left
invariant-loop-left l = l.found.items ++ words_behind l.awaited (map string_bytes l.left) ≡ words_of (map string_bytes l.words)

abbrev pub decreases-loop-left : goal.decreases-loop-left
decreases-loop-left l = length l.left

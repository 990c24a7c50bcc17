use Rattle.std.proofs.Common.{◌≡◌, length, map}
use Rattle.mn_options.specs.Words.{looked_up}
use Rattle.mn_options.proofs.words.looked_up.Given as goal

abbrev pub invariant-loop-table : goal.invariant-loop-table
invariant-loop-table g l =
    looked_up (map (λ line. (line.0.now, line.1)) l.table) l.word ≡ looked_up (map (λ line. (line.0.now, line.1)) l.initial.table) l.word

abbrev pub decreases-loop-table : goal.decreases-loop-table
decreases-loop-table g l = length l.table

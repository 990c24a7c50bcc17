use Rattle.std.proofs.Common.{◌≤◌, ◌+◌, ◌/◌}
use Rattle.mn_domains.proofs.Sieve.{NoneFrom}
use Rattle.mn_domains.proofs.rows.Row.last_hit.Given as goal

abbrev pub invariant-loop-word : goal.invariant-loop-word
invariant-loop-word l = record {
  none : NoneFrom l.bits l.self l.set l.wanted l.word;
  upto : l.word ≤ l.self.to / 64 + 1;
}

abbrev pub decreases-loop-word : goal.decreases-loop-word
decreases-loop-word l = l.word

use Rattle.mn_domains.proofs.Sieve.{NoneIn}
use Rattle.mn_domains.proofs.rows.Row.first_hit.Given as goal

abbrev pub invariant-loop-word : goal.invariant-loop-word
invariant-loop-word l = NoneIn l.bits l.self l.set l.wanted l.word

use Rattle.std.proofs.Common.{not}
use Rattle.mn_domains.proofs.Sieve.{Sieved}
use Rattle.mn_domains.proofs.rows.Row.keep_hits.Given as goal

abbrev pub invariant-loop-word : goal.invariant-loop-word
invariant-loop-word l = Sieved l.fn.bits.items l.bits.items l.self l.set (not l.wanted) l.word

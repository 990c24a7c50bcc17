use Rattle.std.proofs.Common.{◌+◌, ◌-◌, arith}
use Rattle.mn_domains.proofs.Sifted.{count_less}
use Rattle.mn_domains.proofs.state.State.sieve.Goals as goal

pub put-requires-clause-less : goal.put-requires-clause-less
put-requires-clause-less c =
    let size = rw c.as_slice.ensures.value at c.count-size.ensures.count in
    let all = c.requires.all in
    omega (arith, size, all, count_less _ _ c.args.row.from (c.args.row.to + 1 - c.args.row.from) _ c.keep_hits.ensures.bits)

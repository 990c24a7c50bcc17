use Rattle.std.proofs.Common.{◌++◌, false, replicate}
use Rattle.mn_domains.specs.Laid.{IsLaid, laid}
use Rattle.mn_domains.proofs.layout.Layout.add_rows.Given as goal

abbrev pub invariant-loop : goal.invariant-loop
invariant-loop l = IsLaid l.self (laid l.fn.self ++ replicate l.counter (record { declared = l.domain; bounded = false }))

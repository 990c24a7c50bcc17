use Rattle.std.proofs.Common.{FitsSigned, rules, w64, sym}
use Rattle.std.proofs.lemmas.Int.{to_z-of_z}
use Rattle.mn_domains.proofs.Hits.{last_found, no_last}
use Rattle.mn_domains.proofs.rows.Row.last_value.Goals as goal

pub returns-in-Some : goal.returns-in-Some
returns-in-Some c =
    let fits : FitsSigned w64 c.value_of.result = search rules in
    rw (to_z-of_z w64 c.value_of.result fits, c.value_of.ensures) (sym (last_found c.args.bits.now c.args.self c.args.set.now c.args.wanted c.in-Some.bit c.requires.order c.in-Some.ensures.0 c.in-Some.ensures.1))

pub returns-in-None : goal.returns-in-None
returns-in-None c = sym (no_last c.args.bits.now c.args.self c.args.set.now c.args.wanted c.requires.order c.in-None.ensures)

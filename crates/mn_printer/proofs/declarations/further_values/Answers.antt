use Rattle.std.proofs.Common.{◌≤◌, length, ap, sym, ◌∙◌, arith, FitsSigned, w64, rules}
use Rattle.std.proofs.lemmas.Int.{to_z-of_z}
use Rattle.std.specs.Fmt.{signed_decimal}
use Rattle.std.proofs.lemmas.List.{drop_all}
use Rattle.mn_printer.specs.Pages.{onto}
use Rattle.mn_printer.proofs.Joining.{onto_nothing}
use Rattle.mn_printer.proofs.Values.{one_value_more, further_values}
use Rattle.mn_printer.proofs.declarations.further_values.Goals as goal

pub loop-i-preserved : goal.loop-i-preserved
loop-i-preserved c =
    let fits : FitsSigned w64 c.nth.result = search rules in
    one_value_more _ _ _ c.args.domain.now c.loop-i.i c.nth.result c.nth.ensures c.in_ok-put.ensures (c.in_ok-put_number.ensures ∙ ap (λ a. onto c.put.new.self (signed_decimal a)) (to_z-of_z w64 c.nth.result fits)) ∙ c.loop-i.invariant

pub returns : goal.returns
returns c =
    let past : length c.args.domain.now ≤ c.loop-i.i = omega (arith, c.size.ensures, c.loop-i-test.false) in
    sym (onto_nothing _) ∙ ap (λ xs. onto c.loop-i.page (further_values xs)) (sym (drop_all c.loop-i.i c.args.domain.now past)) ∙ c.loop-i.invariant

use Rattle.std.proofs.Common.{ap, ◌∙◌, FitsSigned, w64, rules}
use Rattle.std.proofs.lemmas.Int.{to_z-of_z}
use Rattle.std.specs.Fmt.{signed_decimal}
use Rattle.mn_printer.specs.Pages.{onto}
use Rattle.mn_printer.proofs.Separating.{then_onto, thrice}
use Rattle.mn_printer.proofs.Values.{values_is}
use Rattle.mn_printer.proofs.declarations.values.Goals as goal

pub returns : goal.returns
returns c =
    let low_fits : FitsSigned w64 c.lo.result = search rules in
    then_onto c.put-2.result _ _ _ _ _ _ (thrice _ _ _ _ _ _ _ c.in_ok-put.ensures (c.in_ok-put_number.ensures ∙ ap (λ a. onto c.put.new.self (signed_decimal a)) (to_z-of_z w64 c.lo.result low_fits)) c.in_ok-further_values.ensures) (values_is c.args.domain.now c.lo.result c.lo.ensures) c.put-2.ensures

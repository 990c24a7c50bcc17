use Rattle.std.proofs.Common.{◌-◌, ◌++◌, length, codes, slice_get, ap, ◌∙◌, FitsSigned, w64, rules}
use Rattle.std.specs.Fmt.{signed_decimal}
use Rattle.std.proofs.lemmas.Int.{to_z-of_z}
use Rattle.mn_printer.specs.Pages.{onto}
use Rattle.mn_canonical.specs.Declarations.{end_text}
use Rattle.mn_printer.proofs.Separating.{then_onto, twice, thrice}
use Rattle.mn_printer.proofs.declarations.ends.Goals as goal

pub returns : goal.returns
returns c =
    let low_fits : FitsSigned w64 c.lo.result = search rules in
    let high_fits : FitsSigned w64 c.hi.result = search rules in
    then_onto c.put-3.result _ _ _ _ _ _
    (thrice _ _ _ _ _ _ _ (twice _ _ _ _ _ c.in_ok-put.ensures (c.in_ok-put_number.ensures ∙ ap (λ a. onto c.put.new.self (signed_decimal a)) (to_z-of_z w64 c.lo.result low_fits))) c.in_ok-put-2.ensures (c.in_ok-put_number-2.ensures ∙ ap (λ a. onto c.put-2.new.self (signed_decimal a)) (to_z-of_z w64 c.hi.result high_fits)))
    (ap (λ low. (((codes " {" ++ end_text low) ++ codes "..") ++ end_text (slice_get c.args.domain.now (length c.args.domain.now - 1))) ++ codes "}") c.lo.ensures
    ∙ ap (λ high. (((codes " {" ++ signed_decimal c.lo.result) ++ codes "..") ++ end_text high) ++ codes "}") c.hi.ensures)
    c.put-3.ensures

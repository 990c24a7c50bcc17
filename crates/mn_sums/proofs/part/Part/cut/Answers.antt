use Rattle.std.proofs.Common.{◌+ℤ◌, ◌-ℤ◌, ◌≤ℤ◌, FitsSigned, w64, sym, subst, arith}
use Rattle.std.proofs.lemmas.Int.{ints, to_z-of_z}
use Rattle.mn_prop.specs.Contexts.{box_of}
use Rattle.mn_model.specs.Lawful.{IsNear}
use Rattle.mn_prop.specs.Passes.{IsStep}
use Rattle.mn_sums.specs.Parts.{AllFit, TooMuch, least_cost, number_in}
use Rattle.mn_sums.proofs.Cutting.{cut_narrow}
use Rattle.mn_sums.proofs.part.Part.cut.Goals as goal

pub returns-then-span-slack : goal.returns-then-span-slack
returns-then-span-slack c =
    let span = c.span-span.ensures in
    let narrow : (c.span-span.result.high -ℤ c.span-span.result.low) ≤ℤ c.args.slack = omega (arith, ints, c.if-span-slack.true, span.small_low.0, span.small_low.1, span.small_high.0, span.small_high.1) in
    cut_narrow c.args.c.now c.args.self c.span-span.result.low c.span-span.result.high c.args.slack span narrow

pub returns-in-Times : goal.returns-in-Times
returns-in-Times c =
    let near = subst (λ p. IsNear (number_in p)) c.in-Times.is c.requires.part.near_number in
    let fits : FitsSigned w64 c.in-Times.w = omega (arith, ints, near.0, near.1) in
    let step = rw (to_z-of_z w64 c.in-Times.w fits, to_z-of_z w64 c.args.slack c.ranges.slack) at c.cut_weighted.ensures in
    subst (λ p. IsStep (TooMuch p (least_cost (box_of c.args.c.now) p +ℤ c.args.slack)) (AllFit p (least_cost (box_of c.args.c.now) p +ℤ c.args.slack)) c.args.c.now c.cut_weighted.new.c c.cut_weighted.result) (sym c.in-Times.is) step

pub returns-in-Is : goal.returns-in-Is
returns-in-Is c =
    let near = subst (λ p. IsNear (number_in p)) c.in-Is.is c.requires.part.near_number in
    let fits : FitsSigned w64 c.in-Is.k = omega (arith, ints, near.0, near.1) in
    let step = rw (to_z-of_z w64 c.in-Is.k fits, to_z-of_z w64 c.args.slack c.ranges.slack) at c.cut_number.ensures in
    subst (λ p. IsStep (TooMuch p (least_cost (box_of c.args.c.now) p +ℤ c.args.slack)) (AllFit p (least_cost (box_of c.args.c.now) p +ℤ c.args.slack)) c.args.c.now c.cut_number.new.c c.cut_number.result) (sym c.in-Is.is) step

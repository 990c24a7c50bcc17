use Rattle.std.proofs.Common.{FitsSigned, w64, rules, arith}
use Rattle.std.proofs.lemmas.Int.{ints, to_z-of_z}
use Rattle.mn_prop.specs.Contexts.{box_of, vars_of}
use Rattle.mn_sums.proofs.Cutting.{cut_above, cut_below, cut_never, near_in}
use Rattle.mn_sums.proofs.part.cut_weighted.Goals as goal

pub least_within-least-requires-clause-near : goal.least_within-least-requires-clause-near
least_within-least-requires-clause-near c =
    let fits : FitsSigned w64 c.hi.result = search rules in
    rw (to_z-of_z w64 c.hi.result fits) (near_in (vars_of c.args.c.now) (box_of c.args.c.now) c.args.t c.hi.result c.lawful.ensures.boxes.now c.lawful.ensures.valued c.requires.part.near_term c.hi.ensures.greatest.there)

pub most_within-most-requires-clause-near : goal.most_within-most-requires-clause-near
most_within-most-requires-clause-near c =
    let fits : FitsSigned w64 c.lo.result = search rules in
    rw (to_z-of_z w64 c.lo.result fits) (near_in (vars_of c.args.c.now) (box_of c.args.c.now) c.args.t c.lo.result c.lawful.ensures.boxes.now c.lawful.ensures.valued c.requires.part.near_term c.lo.ensures.least.there)

pub returns-then-w-lt0 : goal.returns-then-w-lt0
returns-then-w-lt0 c =
    let hi : FitsSigned w64 c.hi.result = search rules in
    let least : FitsSigned w64 c.least_within-least.result = search rules in
    let fits = rw (to_z-of_z w64 c.hi.result hi, to_z-of_z w64 c.args.w c.ranges.w, to_z-of_z w64 c.args.slack c.ranges.slack) at c.least_within-least.ensures in
    cut_below c.args.w c.hi.result c.args.slack c.least_within-least.result c.args.t (omega (arith, ints, c.if-w-lt0.true)) c.hi.ensures.is fits c.requires.part.named (rw (to_z-of_z w64 c.least_within-least.result least) at c.set_lo.ensures)

pub returns-then-w-gt0 : goal.returns-then-w-gt0
returns-then-w-gt0 c =
    let lo : FitsSigned w64 c.lo.result = search rules in
    let most : FitsSigned w64 c.most_within-most.result = search rules in
    let fits = rw (to_z-of_z w64 c.lo.result lo, to_z-of_z w64 c.args.w c.ranges.w, to_z-of_z w64 c.args.slack c.ranges.slack) at c.most_within-most.ensures in
    cut_above c.args.w c.lo.result c.args.slack c.most_within-most.result c.args.t (omega (arith, ints, c.if-w-gt0.true)) c.lo.ensures.is fits c.requires.part.named (rw (to_z-of_z w64 c.most_within-most.result most) at c.set_hi.ensures)

pub returns : goal.returns
returns c = cut_never c.args.c.now c.args.w c.args.slack c.args.t (omega (arith, ints, c.if-w-lt0.false, c.if-w-gt0.false)) c.requires.slack

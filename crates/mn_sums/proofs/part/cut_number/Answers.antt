use Rattle.std.proofs.Common.{w64, true≢false, sym, ◌∙◌, arith}
use Rattle.std.proofs.lemmas.Int.{ints, to_z-of_z}
use Rattle.mn_sums.proofs.Cutting.{cut_is, cut_lacks, cut_loose}
use Rattle.mn_sums.proofs.part.cut_number.Goals as goal

pub returns-then-slack-gt0 : goal.returns-then-slack-gt0
returns-then-slack-gt0 c = cut_loose c.args.c.now c.args.k c.args.slack c.args.t (omega (arith, ints, c.if-slack-gt0.true))

pub returns-then-has : goal.returns-then-has
returns-then-has c =
    let tells = rw (to_z-of_z w64 c.args.k c.ranges.k) at c.has.ensures in
    cut_is c.args.k c.args.slack c.args.t (omega (arith, ints, c.if-slack-gt0.false, c.requires.slack)) (tells.0 c.if-has.true) c.requires.part.named (rw (to_z-of_z w64 c.args.k c.ranges.k) at c.assign.ensures)

pub returns : goal.returns
returns c =
    let tells = rw (to_z-of_z w64 c.args.k c.ranges.k) at c.has.ensures in
    cut_lacks c.args.c.now c.args.k c.args.slack c.args.t c.requires.slack (λ has. true≢false (sym (tells.1 has) ∙ c.if-has.false))

use Rattle.std.proofs.Common.{◌≡◌, FitsSigned, w64, rules, arith}
use Rattle.std.proofs.lemmas.Int.{ints, to_z-of_z}
use Rattle.mn_prop.specs.Contexts.{vars_of}
use Rattle.mn_sums.proofs.Forms.{kept_at_most}
use Rattle.mn_sums.proofs.Measuring.{none_left, none_wide}
use Rattle.mn_sums.proofs.sum.Sum.filter.Goals as goal

pub overflow_sub-slack : goal.overflow_sub-slack
overflow_sub-slack c = let few = c.measure-measure.ensures.few in omega (arith, ints, few.0, few.1)

pub returns-then-slack-lt0 : goal.returns-then-slack-lt0
returns-then-slack-lt0 c =
    let s = c.args.self.now in
    let measured = c.measure-measure.ensures in
    let few = measured.few in
    let e = measured.is in
    let bound : FitsSigned w64 s.bound = search rules in
    let from : c.from.result ≡ s.bound = rw (to_z-of_z w64 s.bound bound) at c.from.ensures in
    let is = kept_at_most (vars_of c.args.c.now) s.inst.now.tuples s.con.now s.parts.items s.bound s.form s.made s.bounded c.requires in
    none_left s.inst.now.tuples s.con.now s.parts.items s.bound c.args.c.now is c.requires c.lawful.ensures.boxes.now _ (omega (arith, ints, c.if-slack-lt0.true, few.0, few.1, e, from))

pub returns-then-from-slack : goal.returns-then-from-slack
returns-then-from-slack c =
    let s = c.args.self.now in
    let measured = c.measure-measure.ensures in
    let few = measured.few in
    let bound : FitsSigned w64 s.bound = search rules in
    let from : c.from.result ≡ s.bound = rw (to_z-of_z w64 s.bound bound) at c.from.ensures in
    let is = kept_at_most (vars_of c.args.c.now) s.inst.now.tuples s.con.now s.parts.items s.bound s.form s.made s.bounded c.requires in
    none_wide s.inst.now.tuples s.con.now s.parts.items s.bound c.args.c.now is c.requires c.lawful.ensures.boxes.now c.measure-measure.result.widest c.measure-measure.result.least measured
    (omega (arith, ints, c.if-slack-lt0.false, few.0, few.1, from)) (omega (arith, ints, c.if-from-slack.true, few.0, few.1, from))

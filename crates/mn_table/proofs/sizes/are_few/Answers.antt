use Rattle.std.proofs.Common.{◌*◌, ◌<◌, sym, subst, arith}
use Rattle.std.proofs.lemmas.List.{drop_all, drop_more}
use Rattle.std.specs.List.{AllByRecursion}
use Rattle.mn_prop.specs.Contexts.{box_of}
use Rattle.mn_table.specs.Choosing.{choice_count, place_size}
use Rattle.mn_table.proofs.sizes.are_few.Goals as goal

pub loop-t-init : goal.loop-t-init
loop-t-init c = λ all. all

pub loop-t-preserved : goal.loop-t-preserved
loop-t-preserved c = λ left.
    let box = box_of c.args.c.now in
    let v = c.args.v.now in
    let n = c.args.tuples in
    let x = c.choices-many.ensures in
    let less : n * c.size.result < choice_count box v = omega (arith, c.if-many-tuples.false, x) in
    let next = drop_more v c.loop-t.t-index _ c.loop-t-test.true in
    c.loop-t.invariant (subst (AllByRecursion (λ t. n * place_size box t < choice_count box v)) (sym next) (subst (λ k. n * k < choice_count box v) c.size.ensures less, left))

pub returns : goal.returns
returns c = λ e. c.loop-t.invariant (subst (AllByRecursion (λ t. c.args.tuples * place_size (box_of c.args.c.now) t < choice_count (box_of c.args.c.now) c.args.v.now)) (sym (drop_all c.loop-t.t-index c.args.v.now c.loop-t-test.false)) tt)

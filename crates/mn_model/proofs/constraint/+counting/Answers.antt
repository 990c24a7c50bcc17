use Rattle.std.proofs.Common.{◌≡◌, ◌<◌, ap, sym, ◌∙◌, arith}
use Rattle.mn_model.specs.Parts.{cell_count, cell_count_of}
use Rattle.mn_model.specs.declared.constraint.Cons.{size-Cons}
use Rattle.mn_model.specs.declared.constraint.Con.{size-Con}
use Rattle.mn_model.proofs.Children.{cells_reified, cells_implied, cells_negated, cells_more, others_below, first_below, reified_below, implied_below, negated_below}
use Rattle.mn_model.proofs.constraint.+counting.Goals as goal

pub Con::cells-cells-requires-in-Reify : goal.Con::cells-cells-requires-in-Reify
Con::cells-cells-requires-in-Reify t c =
    let at : size-Con c.args.self.now ≡ t = c.decreases in
    let below : size-Con c.get.result.now < t = omega (arith, at, ap size-Con c.get.ensures, reified_below c.args.self.now c.in-Reify.part c.in-Reify.field-1 c.in-Reify.is) in
    (below, omega (arith, cells_reified c.args.self.now c.in-Reify.part c.in-Reify.field-1 c.in-Reify.is, ap cell_count c.get.ensures, c.requires))

pub Con::cells-cells-requires-in-Reifyimply : goal.Con::cells-cells-requires-in-Reifyimply
Con::cells-cells-requires-in-Reifyimply t c =
    let at : size-Con c.args.self.now ≡ t = c.decreases in
    let below : size-Con c.get-in-Reifyimply.result.now < t = omega (arith, at, ap size-Con c.get-in-Reifyimply.ensures, implied_below c.args.self.now c.in-Reifyimply.part c.in-Reifyimply.field-1 c.in-Reifyimply.is) in
    (below, omega (arith, cells_implied c.args.self.now c.in-Reifyimply.part c.in-Reifyimply.field-1 c.in-Reifyimply.is, ap cell_count c.get-in-Reifyimply.ensures, c.requires))

pub Con::cells-cells-requires-in-Negated : goal.Con::cells-cells-requires-in-Negated
Con::cells-cells-requires-in-Negated t c =
    let at : size-Con c.args.self.now ≡ t = c.decreases in
    let below : size-Con c.get-in-Negated.result.now < t = omega (arith, at, ap size-Con c.get-in-Negated.ensures, negated_below c.args.self.now c.in-Negated.part c.in-Negated.is) in
    (below, omega (arith, cells_negated c.args.self.now c.in-Negated.part c.in-Negated.is, ap cell_count c.get-in-Negated.ensures, c.requires))

pub Con::cells-returns-in-Reify : goal.Con::cells-returns-in-Reify
Con::cells-returns-in-Reify t c = c.cells-in-Reify.ensures ∙ (ap cell_count c.get.ensures ∙ sym (cells_reified c.args.self.now c.in-Reify.part c.in-Reify.field-1 c.in-Reify.is))

pub Con::cells-returns-in-Reifyimply : goal.Con::cells-returns-in-Reifyimply
Con::cells-returns-in-Reifyimply t c = c.cells-in-Reifyimply.ensures ∙ (ap cell_count c.get-in-Reifyimply.ensures ∙ sym (cells_implied c.args.self.now c.in-Reifyimply.part c.in-Reifyimply.field-1 c.in-Reifyimply.is))

pub Con::cells-returns-in-Negated : goal.Con::cells-returns-in-Negated
Con::cells-returns-in-Negated t c = c.cells-in-Negated.ensures ∙ (ap cell_count c.get-in-Negated.ensures ∙ sym (cells_negated c.args.self.now c.in-Negated.part c.in-Negated.is))

pub Cons::cells-cells-count-requires : goal.Cons::cells-cells-count-requires
Cons::cells-cells-count-requires t c =
    let at : size-Cons c.args.self.now ≡ t = c.decreases in
    let below : size-Con c.get.result.now < t = omega (arith, at, ap size-Con c.get.ensures, first_below c.loop-rest.rest.now c.in-More.first c.in-More.others c.in-More.is, c.loop-rest.invariant.depth) in
    (below, omega (arith, cells_more c.loop-rest.rest.now c.in-More.first c.in-More.others c.in-More.is, ap cell_count c.get.ensures, c.loop-rest.invariant.whole, c.requires))

pub Cons::cells-overflow_add-count : goal.Cons::cells-overflow_add-count
Cons::cells-overflow_add-count t c = omega (arith, cells_more c.loop-rest.rest.now c.in-More.first c.in-More.others c.in-More.is, c.cells-count.ensures, ap cell_count c.get.ensures, c.loop-rest.invariant.whole, c.requires)

pub Cons::cells-loop-rest-preserved : goal.Cons::cells-loop-rest-preserved
Cons::cells-loop-rest-preserved t c = record {
  whole = omega (arith, cells_more c.loop-rest.rest.now c.in-More.first c.in-More.others c.in-More.is, c.cells-count.ensures, ap cell_count c.get.ensures, ap cell_count_of c.get-rest.ensures, c.loop-rest.invariant.whole);
  depth = omega (arith, ap size-Cons c.in-More.is, others_below c.in-More.first c.in-More.others, ap size-Cons c.get-rest.ensures, c.loop-rest.invariant.depth);
}

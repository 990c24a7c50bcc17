use Rattle.std.proofs.Common.{◌≡◌, ◌*◌, ◌<◌, codes, ap, sym, ◌∙◌, arith}
use Rattle.mn_model.specs.declared.constraint.Con.{size-Con}
use Rattle.mn_model.specs.declared.constraint.Cons.{Cons, size-Cons}
use Rattle.mn_model.proofs.Children.{first_below, others_below}
use Rattle.mn_canonical.specs.Constraints.{constraint_text, children_texts}
use Rattle.mn_canonical.specs.Lists.{with_commas}
use Rattle.mn_canonical.specs.Names.{term_text}
use Rattle.mn_printer.specs.Pages.{onto}
use Rattle.mn_printer.proofs.Joining.{onto_nothing, onto_none}
use Rattle.mn_printer.proofs.Made.{text_reified, text_implied, text_negated, one_child_more, children_with_commas, further_texts, gathered_is, tied_is}
use Rattle.mn_printer.proofs.Separating.{on_ok, then_onto, thrice}
use Rattle.mn_printer.proofs.constraints.+printing.Goals as goal

pub constraint-returns-in-Reify : goal.constraint-returns-in-Reify
constraint-returns-in-Reify t c =
    let text = text_reified c.args.inst.now c.args.con.now c.in-Reify.part _ c.in-Reify.r c.in-Reify.is c.get.ensures in
    on_ok c.tied.result (λ e. e ∙ ap (onto c.args.page.now) text) c.tied.ensures

pub constraint-returns-in-Reifyimply : goal.constraint-returns-in-Reifyimply
constraint-returns-in-Reifyimply t c =
    let text = text_implied c.args.inst.now c.args.con.now c.in-Reifyimply.part _ c.in-Reifyimply.r c.in-Reifyimply.is c.get-in-Reifyimply.ensures in
    on_ok c.tied-in-Reifyimply.result (λ e. e ∙ ap (onto c.args.page.now) text) c.tied-in-Reifyimply.ensures

pub constraint-returns-in-Negated : goal.constraint-returns-in-Negated
constraint-returns-in-Negated t c =
    let text = text_negated c.args.inst.now c.args.con.now c.in-Negated.part _ c.in-Negated.is c.get-in-Negated.ensures in
    on_ok c.constraint.result (λ e. e ∙ ap (onto c.args.page.now) text) c.constraint.ensures

pub children-returns-in_ok-constraint-in-More : goal.children-returns-in_ok-constraint-in-More
children-returns-in_ok-constraint-in-More t c =
    then_onto c.further_children.result _ _ _ _ _ _ c.in_ok-constraint-in-More.ensures
    (children_with_commas c.args.inst.now c.args.cons.now c.in-More.first _ c.in-More.others _ c.in-More.is c.get.ensures c.get-in-More.ensures) c.further_children.ensures

pub further_children-constraint-requires : goal.further_children-constraint-requires
further_children-constraint-requires t c =
    let at : 3 * size-Cons c.args.cons.now ≡ t = c.decreases in
    let below : 3 * size-Con c.get.result.now < t = omega (arith, at, ap size-Con c.get.ensures, first_below c.loop-rest.rest.now c.in-More.first c.in-More.others c.in-More.is, c.loop-rest.invariant.depth) in
    (below, tt)

pub further_children-returns : goal.further_children-returns
further_children-returns t c =
    sym (onto_nothing _) ∙ ap (λ (cs : Cons). onto c.loop-rest.page (further_texts c.args.inst.now cs)) (sym c.in_default.is) ∙ c.loop-rest.invariant.whole

pub further_children-loop-rest-preserved : goal.further_children-loop-rest-preserved
further_children-loop-rest-preserved t c = record {
  whole = one_child_more _ _ _ c.args.inst.now c.loop-rest.rest.now c.in-More.first _ c.in-More.others _ c.in-More.is c.get.ensures c.get-rest.ensures c.in_ok-put.ensures c.in_ok-constraint.ensures ∙ c.loop-rest.invariant.whole;
  depth = omega (arith, ap size-Cons c.in-More.is, others_below c.in-More.first c.in-More.others, ap size-Cons c.get-rest.ensures, c.loop-rest.invariant.depth);
}

pub children-returns-in-End : goal.children-returns-in-End
children-returns-in-End t c = onto_none _ _ (ap (λ (cs : Cons). with_commas (children_texts c.args.inst.now cs)) c.in-End.is)

pub gathered-returns : goal.gathered-returns
gathered-returns t c =
    then_onto c.put-3.result _ _ _ _ (codes "})") _ (thrice _ _ _ _ _ (codes "({") _ (c.in_ok-put.ensures ∙ ap (onto _) c.as_bytes.ensures.value) c.in_ok-put-2.ensures c.in_ok-children.ensures)
    (gathered_is c.args.word.now (children_texts c.args.inst.now c.args.cons.now)) c.put-3.ensures

pub tied-returns : goal.tied-returns
tied-returns t c =
    then_onto c.put-4.result _ _ _ _ (codes ")") _
    (thrice _ _ _ _ _ (codes ",") _ (thrice _ _ _ _ _ (codes "(") _ (c.in_ok-put.ensures ∙ ap (onto _) c.as_bytes.ensures.value) c.in_ok-put-2.ensures c.in_ok-constraint.ensures) c.in_ok-put-3.ensures c.in_ok-print_on.ensures)
    (tied_is c.args.word.now (constraint_text c.args.inst.now c.args.con.now) (term_text c.args.inst.now c.args.r)) c.put-4.ensures

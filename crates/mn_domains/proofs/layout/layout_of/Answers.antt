use Rattle.std.proofs.Common.{◌≡◌, ◌+◌, ◌-◌, ◌++◌, arith, length, map, replicate, subst, sym, ap, ◌∙◌, take}
use Rattle.std.proofs.lemmas.List.{length-map, take_all}
use Rattle.mn_model.specs.Problem.{variables_of}
use Rattle.mn_boxes.specs.Boxes.{declared_variables}
use Rattle.mn_boxes.specs.Sets.{variable_of}
use Rattle.mn_domains.specs.Held.{variable_held}
use Rattle.mn_domains.specs.Layouts.{AreShapesOf}
use Rattle.mn_domains.proofs.Layers.{by_itself, is_next, length-laid}
use Rattle.mn_domains.proofs.layout.layout_of.Goals as goal

pub overflow_sub-count : goal.overflow_sub-count
overflow_sub-count c =
    (is_next c.decls-decl-items.result.now c.args.inst.now.decls c.loop-k.k c.decl-item.result c.number.result c.vars_before.result c.decls-decl-items.ensures c.lawful.ensures.numbered c.loop-k-test.true c.decl-item.is c.number.ensures c.vars_before.ensures).order

pub add-requires-clause-before : goal.add-requires-clause-before
add-requires-clause-before c =
    let l = c.loop-k.layout in
    by_itself l.listed.items l.shapes.items l.bits (declared_variables (take c.loop-k.k c.args.inst.now.decls)) c.loop-k.invariant

pub add-requires-clause-few : goal.add-requires-clause-few
add-requires-clause-few c =
    let l = c.loop-k.layout in
    let front = take c.loop-k.k c.args.inst.now.decls in
    let next = is_next c.decls-decl-items.result.now c.args.inst.now.decls c.loop-k.k c.decl-item.result c.number.result c.vars_before.result c.decls-decl-items.ensures c.lawful.ensures.numbered c.loop-k-test.true c.decl-item.is c.number.ensures c.vars_before.ensures in
    omega (arith, next.room, c.lawful.ensures.few_variables, length-laid l.listed.items l.shapes.items l.bits (declared_variables front) c.loop-k.invariant, length-map (variables_of front) variable_of)

pub loop-k-preserved : goal.loop-k-preserved
loop-k-preserved c =
    let l = c.loop-k.layout in
    let d = c.decl-item.result in
    let next = is_next c.decls-decl-items.result.now c.args.inst.now.decls c.loop-k.k d c.number.result c.vars_before.result c.decls-decl-items.ensures c.lawful.ensures.numbered c.loop-k-test.true c.decl-item.is c.number.ensures c.vars_before.ensures in
    let vars : map (variable_held l.listed.items) l.shapes.items ++ replicate (c.vars_before.result - c.number.result) (variable_of d) ≡ declared_variables (take (c.loop-k.k + 1) c.args.inst.now.decls) = ap (λ vs. vs ++ replicate (c.vars_before.result - c.number.result) (variable_of d)) c.loop-k.invariant.holds ∙ sym next.vars in
    subst (AreShapesOf c.add.new.self.listed.items c.add.new.self.shapes.items c.add.new.self.bits) vars c.in_ok-add.ensures

pub returns-clause-shapes : goal.returns-clause-shapes
returns-clause-shapes c =
    let l = c.loop-k.layout in
    let decls = c.args.inst.now.decls in
    let all : take c.loop-k.k decls ≡ decls = take_all c.loop-k.k decls (omega (arith, c.loop-k-test.false, ap length c.decls-decl-items.ensures)) in
    subst (λ ds. AreShapesOf l.listed.items l.shapes.items l.bits (declared_variables ds)) all c.loop-k.invariant

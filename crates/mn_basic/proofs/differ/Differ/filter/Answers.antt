use Rattle.std.proofs.Common.{FitsSigned, rules, sym, subst, w64}
use Rattle.std.proofs.lemmas.Int.{to_z-of_z}
use Rattle.mn_closure.specs.Closed.{IsAlone}
use Rattle.mn_prop.specs.Contexts.{box_of, vars_of}
use Rattle.mn_prop.proofs.Stepping.{no_step}
use Rattle.mn_basic.proofs.Binary.{first_named, second_named}
use Rattle.mn_basic.proofs.Dropped.{first_settles, first_step, is_diseq, open_closed, second_settles, second_step}
use Rattle.mn_basic.proofs.differ.Differ.filter.Goals as goal

pub is_single-requires : goal.is_single-requires
is_single-requires c = let s = c.args.self.now in first_named (is_diseq s.x s.y) (vars_of c.args.c.now) s.inst.now.tuples c.requires

pub drop_value-requires : goal.drop_value-requires
drop_value-requires c = let s = c.args.self.now in second_named (is_diseq s.x s.y) (vars_of c.args.c.now) s.inst.now.tuples c.requires

pub returns-then-is_single-clause-step : goal.returns-then-is_single-clause-step
returns-then-is_single-clause-step c =
    let s = c.args.self.now in
    let fits : FitsSigned w64 c.lo-a.result = search rules in
    let alone = subst (IsAlone (box_of c.args.c.now) s.x) (sym c.lo-a.ensures.is) (c.is_single.ensures.alone.0 c.if-is_single.true) in
    first_step s.x s.y s.inst.now.tuples c.args.c.now c.drop_value.new.c c.lo-a.result c.drop_value.result c.lawful.ensures.boxes.now c.requires alone (rw (to_z-of_z w64 c.lo-a.result fits) at c.drop_value.ensures.step)

pub returns-then-is_single-clause-settled : goal.returns-then-is_single-clause-settled
returns-then-is_single-clause-settled c =
    let s = c.args.self.now in
    let fits : FitsSigned w64 c.lo-a.result = search rules in
    let alone = subst (IsAlone (box_of c.args.c.now) s.x) (sym c.lo-a.ensures.is) (c.is_single.ensures.alone.0 c.if-is_single.true) in
    first_settles s.x s.y s.inst.now.tuples c.args.c.now c.drop_value.new.c c.lo-a.result c.drop_value.result c.lawful.ensures.boxes.now c.requires alone (rw (to_z-of_z w64 c.lo-a.result fits) at c.drop_value.ensures.step) (rw (to_z-of_z w64 c.lo-a.result fits) at c.drop_value.ensures.settled)

pub returns-then-is_single-2-clause-step : goal.returns-then-is_single-2-clause-step
returns-then-is_single-2-clause-step c =
    let s = c.args.self.now in
    let fits : FitsSigned w64 c.lo-a-then-is_single-2.result = search rules in
    let alone = subst (IsAlone (box_of c.args.c.now) s.y) (sym c.lo-a-then-is_single-2.ensures.is) (c.is_single-2.ensures.alone.0 c.if-is_single-2.true) in
    second_step s.x s.y s.inst.now.tuples c.args.c.now c.drop_value-then-is_single-2.new.c c.lo-a-then-is_single-2.result c.drop_value-then-is_single-2.result c.lawful.ensures.boxes.now c.requires alone (rw (to_z-of_z w64 c.lo-a-then-is_single-2.result fits) at c.drop_value-then-is_single-2.ensures.step)

pub returns-then-is_single-2-clause-settled : goal.returns-then-is_single-2-clause-settled
returns-then-is_single-2-clause-settled c =
    let s = c.args.self.now in
    let fits : FitsSigned w64 c.lo-a-then-is_single-2.result = search rules in
    let alone = subst (IsAlone (box_of c.args.c.now) s.y) (sym c.lo-a-then-is_single-2.ensures.is) (c.is_single-2.ensures.alone.0 c.if-is_single-2.true) in
    second_settles s.x s.y s.inst.now.tuples c.args.c.now c.drop_value-then-is_single-2.new.c c.lo-a-then-is_single-2.result c.drop_value-then-is_single-2.result c.lawful.ensures.boxes.now c.requires alone (rw (to_z-of_z w64 c.lo-a-then-is_single-2.result fits) at c.drop_value-then-is_single-2.ensures.step) (rw (to_z-of_z w64 c.lo-a-then-is_single-2.result fits) at c.drop_value-then-is_single-2.ensures.settled)

pub returns-clause-step : goal.returns-clause-step
returns-clause-step c =
    let s = c.args.self.now in
    no_step c.args.c.now (open_closed s.x s.y s.inst.now.tuples (vars_of c.args.c.now) (box_of c.args.c.now) (c.is_single.ensures.two c.if-is_single.false) (c.is_single-2.ensures.two c.if-is_single-2.false))

pub returns-clause-settled : goal.returns-clause-settled
returns-clause-settled c =
    let s = c.args.self.now in
    open_closed s.x s.y s.inst.now.tuples (vars_of c.args.c.now) (box_of c.args.c.now) (c.is_single.ensures.two c.if-is_single.false) (c.is_single-2.ensures.two c.if-is_single-2.false)

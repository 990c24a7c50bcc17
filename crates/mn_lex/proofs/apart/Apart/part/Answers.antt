use Rattle.std.proofs.Common.{FitsSigned, rules, sym, subst, w64}
use Rattle.std.proofs.lemmas.Int.{to_z-of_z}
use Rattle.mn_closure.specs.Closed.{IsAlone}
use Rattle.mn_prop.specs.Contexts.{box_of, vars_of}
use Rattle.mn_prop.proofs.Stepping.{no_step}
use Rattle.mn_lex.proofs.Parted.{first_settles, first_step, open_closed, second_settles, second_step}
use Rattle.mn_lex.proofs.Vectors.{apart_is, first_named, second_named}
use Rattle.mn_lex.proofs.apart.Apart.part.Goals as goal

pub is_single-requires : goal.is_single-requires
is_single-requires c = let s = c.args.self.now in first_named (apart_is s.v.now s.w.now) (vars_of c.args.c.now) s.inst.now.tuples c.args.i c.get.result.now c.requires.ready c.get.ensures

pub drop_value-requires : goal.drop_value-requires
drop_value-requires c = let s = c.args.self.now in second_named (apart_is s.v.now s.w.now) (vars_of c.args.c.now) s.inst.now.tuples c.args.i c.get-2.result.now c.requires.ready c.get-2.ensures

pub is_single-requires-2 : goal.is_single-requires-2
is_single-requires-2 c = let s = c.args.self.now in second_named (apart_is s.v.now s.w.now) (vars_of c.args.c.now) s.inst.now.tuples c.args.i c.get-2.result.now c.requires.ready c.get-2.ensures

pub lo-a-requires-then-is_single-2 : goal.lo-a-requires-then-is_single-2
lo-a-requires-then-is_single-2 c = let s = c.args.self.now in second_named (apart_is s.v.now s.w.now) (vars_of c.args.c.now) s.inst.now.tuples c.args.i c.get-2.result.now c.requires.ready c.get-2.ensures

pub drop_value-requires-then-is_single-2 : goal.drop_value-requires-then-is_single-2
drop_value-requires-then-is_single-2 c = let s = c.args.self.now in first_named (apart_is s.v.now s.w.now) (vars_of c.args.c.now) s.inst.now.tuples c.args.i c.get.result.now c.requires.ready c.get.ensures

pub returns-then-is_single-clause-step : goal.returns-then-is_single-clause-step
returns-then-is_single-clause-step c =
    let s = c.args.self.now in
    let fits : FitsSigned w64 c.lo-a.result = search rules in
    let alone = subst (IsAlone (box_of c.args.c.now) c.get.result.now) (sym c.lo-a.ensures.is) (c.is_single.ensures.alone.0 c.if-is_single.true) in
    first_step s.v.now s.w.now s.inst.now.tuples c.args.c.now c.args.i c.get.result.now c.get-2.result.now c.lo-a.result c.lawful.ensures.boxes.now c.requires.ready c.get.ensures c.get-2.ensures c.requires.others c.drop_value.new.c c.drop_value.result alone (rw (to_z-of_z w64 c.lo-a.result fits) at c.drop_value.ensures.step)

pub returns-then-is_single-clause-settled : goal.returns-then-is_single-clause-settled
returns-then-is_single-clause-settled c =
    let s = c.args.self.now in
    let fits : FitsSigned w64 c.lo-a.result = search rules in
    let alone = subst (IsAlone (box_of c.args.c.now) c.get.result.now) (sym c.lo-a.ensures.is) (c.is_single.ensures.alone.0 c.if-is_single.true) in
    first_settles s.v.now s.w.now s.inst.now.tuples c.args.c.now c.args.i c.get.result.now c.get-2.result.now c.lo-a.result c.lawful.ensures.boxes.now c.requires.ready c.get.ensures c.get-2.ensures c.requires.others c.drop_value.new.c c.drop_value.result alone
    (rw (to_z-of_z w64 c.lo-a.result fits) at c.drop_value.ensures.step) (rw (to_z-of_z w64 c.lo-a.result fits) at c.drop_value.ensures.settled)

pub returns-then-is_single-2-clause-step : goal.returns-then-is_single-2-clause-step
returns-then-is_single-2-clause-step c =
    let s = c.args.self.now in
    let a = c.lo-a-then-is_single-2.result in
    let fits : FitsSigned w64 c.lo-a-then-is_single-2.result = search rules in
    let alone = subst (IsAlone (box_of c.args.c.now) c.get-2.result.now) (sym c.lo-a-then-is_single-2.ensures.is) (c.is_single-2.ensures.alone.0 c.if-is_single-2.true) in
    second_step s.v.now s.w.now s.inst.now.tuples c.args.c.now c.args.i c.get.result.now c.get-2.result.now a c.lawful.ensures.boxes.now c.requires.ready c.get.ensures c.get-2.ensures c.requires.others c.drop_value-then-is_single-2.new.c c.drop_value-then-is_single-2.result alone
    (rw (to_z-of_z w64 c.lo-a-then-is_single-2.result fits) at c.drop_value-then-is_single-2.ensures.step)

pub returns-then-is_single-2-clause-settled : goal.returns-then-is_single-2-clause-settled
returns-then-is_single-2-clause-settled c =
    let s = c.args.self.now in
    let a = c.lo-a-then-is_single-2.result in
    let fits : FitsSigned w64 c.lo-a-then-is_single-2.result = search rules in
    let alone = subst (IsAlone (box_of c.args.c.now) c.get-2.result.now) (sym c.lo-a-then-is_single-2.ensures.is) (c.is_single-2.ensures.alone.0 c.if-is_single-2.true) in
    second_settles s.v.now s.w.now s.inst.now.tuples c.args.c.now c.args.i c.get.result.now c.get-2.result.now a c.lawful.ensures.boxes.now c.requires.ready c.get.ensures c.get-2.ensures c.requires.others c.drop_value-then-is_single-2.new.c c.drop_value-then-is_single-2.result alone
    (rw (to_z-of_z w64 c.lo-a-then-is_single-2.result fits) at c.drop_value-then-is_single-2.ensures.step) (rw (to_z-of_z w64 c.lo-a-then-is_single-2.result fits) at c.drop_value-then-is_single-2.ensures.settled)

pub returns-clause-step : goal.returns-clause-step
returns-clause-step c =
    let s = c.args.self.now in
    no_step c.args.c.now (open_closed s.v.now s.w.now s.inst.now.tuples (vars_of c.args.c.now) (box_of c.args.c.now) c.lawful.ensures.boxes.now c.requires.ready c.args.i c.get.result.now c.get-2.result.now c.get.ensures c.get-2.ensures (c.is_single.ensures.two c.if-is_single.false) (c.is_single-2.ensures.two c.if-is_single-2.false))

pub returns-clause-settled : goal.returns-clause-settled
returns-clause-settled c =
    let s = c.args.self.now in
    open_closed s.v.now s.w.now s.inst.now.tuples (vars_of c.args.c.now) (box_of c.args.c.now) c.lawful.ensures.boxes.now c.requires.ready c.args.i c.get.result.now c.get-2.result.now c.get.ensures c.get-2.ensures (c.is_single.ensures.two c.if-is_single.false) (c.is_single-2.ensures.two c.if-is_single-2.false)

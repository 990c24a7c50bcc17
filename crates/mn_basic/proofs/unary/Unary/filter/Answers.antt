use Rattle.std.proofs.Common.{FitsSigned, rules, ap, w64}
use Rattle.std.proofs.lemmas.Int.{to_z-of_z}
use Rattle.mn_prop.specs.Contexts.{box_of, vars_of}
use Rattle.mn_basic.specs.Unaries.{in_one_change}
use Rattle.mn_basic.proofs.Numbered.{between_settles, between_step, is_settles, is_step, literal_named, not_settles, not_step, other_settles}
use Rattle.mn_basic.proofs.unary.Unary.filter.Goals as goal

pub keep-requires : goal.keep-requires
keep-requires c = let s = c.args.self.now in literal_named s.numbers s.x s.inst.now.tuples (vars_of c.args.c.now) c.requires

pub drop_value-requires : goal.drop_value-requires
drop_value-requires c = let s = c.args.self.now in literal_named s.numbers s.x s.inst.now.tuples (vars_of c.args.c.now) c.requires

pub keep-requires-in-Between : goal.keep-requires-in-Between
keep-requires-in-Between c = let s = c.args.self.now in literal_named s.numbers s.x s.inst.now.tuples (vars_of c.args.c.now) c.requires

pub returns-in-Is-clause-step : goal.returns-in-Is-clause-step
returns-in-Is-clause-step c =
    let s = c.args.self.now in
    let fits : FitsSigned w64 c.in-Is.k = search rules in
    is_step s.numbers s.x s.inst.now.tuples c.of.result c.args.c.now c.keep.new.c c.keep.result c.requires c.in-Is.k c.in-Is.is (rw (to_z-of_z w64 c.in-Is.k fits) at c.of.ensures.lo) (rw (to_z-of_z w64 c.in-Is.k fits) at c.of.ensures.hi) c.keep.ensures.step

pub returns-in-Is-clause-settled : goal.returns-in-Is-clause-settled
returns-in-Is-clause-settled c =
    let s = c.args.self.now in
    let fits : FitsSigned w64 c.in-Is.k = search rules in
    is_settles s.numbers s.x s.inst.now.tuples (vars_of c.args.c.now) (box_of c.keep.new.c) c.of.result c.in-Is.k c.keep.result c.in-Is.is (rw (to_z-of_z w64 c.in-Is.k fits) at c.of.ensures.lo) (rw (to_z-of_z w64 c.in-Is.k fits) at c.of.ensures.hi) c.keep.ensures.settled

pub returns-in-IsNot-clause-step : goal.returns-in-IsNot-clause-step
returns-in-IsNot-clause-step c =
    let s = c.args.self.now in
    let fits : FitsSigned w64 c.in-IsNot.k = search rules in
    not_step s.numbers s.x s.inst.now.tuples c.args.c.now c.drop_value.new.c c.drop_value.result c.in-IsNot.k c.in-IsNot.is (rw (to_z-of_z w64 c.in-IsNot.k fits) at c.drop_value.ensures.step)

pub returns-in-IsNot-clause-settled : goal.returns-in-IsNot-clause-settled
returns-in-IsNot-clause-settled c =
    let s = c.args.self.now in
    let fits : FitsSigned w64 c.in-IsNot.k = search rules in
    not_settles s.numbers s.x s.inst.now.tuples (vars_of c.args.c.now) (box_of c.drop_value.new.c) c.in-IsNot.k c.drop_value.result c.in-IsNot.is (rw (to_z-of_z w64 c.in-IsNot.k fits) at c.drop_value.ensures.settled)

pub returns-in-Between-clause-step : goal.returns-in-Between-clause-step
returns-in-Between-clause-step c =
    let s = c.args.self.now in
    let lo : FitsSigned w64 c.in-Between.lo = search rules in
    let hi : FitsSigned w64 c.in-Between.hi = search rules in
    between_step s.numbers s.x s.inst.now.tuples c.of-in-Between.result c.args.c.now c.keep-in-Between.new.c c.keep-in-Between.result c.requires c.in-Between.lo c.in-Between.hi c.in-Between.is
    (rw (to_z-of_z w64 c.in-Between.lo lo) at c.of-in-Between.ensures.lo) (rw (to_z-of_z w64 c.in-Between.hi hi) at c.of-in-Between.ensures.hi) c.keep-in-Between.ensures.step

pub returns-in-Between-clause-settled : goal.returns-in-Between-clause-settled
returns-in-Between-clause-settled c =
    let s = c.args.self.now in
    let lo : FitsSigned w64 c.in-Between.lo = search rules in
    let hi : FitsSigned w64 c.in-Between.hi = search rules in
    between_settles s.numbers s.x s.inst.now.tuples (vars_of c.args.c.now) (box_of c.keep-in-Between.new.c) c.of-in-Between.result c.in-Between.lo c.in-Between.hi c.keep-in-Between.result c.in-Between.is
    (rw (to_z-of_z w64 c.in-Between.lo lo) at c.of-in-Between.ensures.lo) (rw (to_z-of_z w64 c.in-Between.hi hi) at c.of-in-Between.ensures.hi) c.keep-in-Between.ensures.settled

pub returns-in-Among-clause-settled : goal.returns-in-Among-clause-settled
returns-in-Among-clause-settled c = let s = c.args.self.now in other_settles s.numbers s.x s.inst.now.tuples _ _ _ (ap in_one_change c.in-Among.is)

pub returns-in-NotAmong-clause-settled : goal.returns-in-NotAmong-clause-settled
returns-in-NotAmong-clause-settled c = let s = c.args.self.now in other_settles s.numbers s.x s.inst.now.tuples _ _ _ (ap in_one_change c.in-NotAmong.is)

pub returns-in-NotBetween-clause-settled : goal.returns-in-NotBetween-clause-settled
returns-in-NotBetween-clause-settled c = let s = c.args.self.now in other_settles s.numbers s.x s.inst.now.tuples _ _ _ (ap in_one_change c.in-NotBetween.is)

pub returns-in-Within-clause-settled : goal.returns-in-Within-clause-settled
returns-in-Within-clause-settled c = let s = c.args.self.now in other_settles s.numbers s.x s.inst.now.tuples _ _ _ (ap in_one_change c.in-Within.is)

use Rattle.std.proofs.Common.{Ok, subst, ◌∙◌, arith}
use Rattle.mn_prop.specs.Contexts.{box_of, vars_of}
use Rattle.mn_count.specs.Takings.{IsCollected}
use Rattle.mn_count.proofs.Rounding.{again, again_fails, done, ends, no_round, ready_now, stuck}
use Rattle.mn_count.proofs.rounds.Rounds.run.Goals as goal

pub loop-self-init : goal.loop-self-init
loop-self-init c =
    let d = c.args.d.now in
    let room = c.requires.room in
    no_round d.v.now d.inst.now.tuples c.args.c.now c.begin.new.self.taken c.begin.new.self.open (c.begin.ensures.room ∙ c.requires.room) (λ i within. c.begin.ensures.all i (omega (arith, within, room))) c.begin.ensures.none

pub collect-requires-clause-ready : goal.collect-requires-clause-ready
collect-requires-clause-ready c = let d = c.args.d.now in ready_now d.v.now d.inst.now.tuples c.args.c.now c.requires.ready c.loop-self.invariant.going

pub exclude-requires-clause-ready : goal.exclude-requires-clause-ready
exclude-requires-clause-ready c = let d = c.args.d.now in ready_now d.v.now d.inst.now.tuples c.args.c.now c.requires.ready c.loop-self.invariant.going

pub filter-requires : goal.filter-requires
filter-requires c = let d = c.args.d.now in ready_now d.v.now d.inst.now.tuples c.args.c.now c.requires.ready c.loop-self.invariant.going

pub returns-in_err-collect-clause-step : goal.returns-in_err-collect-clause-step
returns-in_err-collect-clause-step c =
    let d = c.args.d.now in
    stuck d.v.now d.inst.now.tuples c.args.c.now c.in_err-collect.field-0.0 c.loop-self.invariant.going c.in_err-collect.ensures.1 c.from_residual.ensures.0

pub returns-in-Done-clause-step : goal.returns-in-Done-clause-step
returns-in-Done-clause-step c =
    let d = c.args.d.now in
    let seen = subst (λ r. IsCollected (vars_of c.loop-self.c) d.inst.now.tuples d.v.now (box_of c.loop-self.c) c.loop-self.self.taken c.loop-self.self.open c.collect.new.self.taken c.collect.new.self.open (Ok r)) c.in-Done.is c.in_ok-collect.ensures in
    done d.v.now d.inst.now.tuples c.args.c.now c.lawful.ensures.boxes.now c.requires.ready c.loop-self.invariant seen.2

pub loop-self-preserved : goal.loop-self-preserved
loop-self-preserved c =
    let d = c.args.d.now in
    let seen = subst (λ r. IsCollected (vars_of c.loop-self.c) d.inst.now.tuples d.v.now (box_of c.loop-self.c) c.loop-self.self.taken c.loop-self.self.open c.collect.new.self.taken c.collect.new.self.open (Ok r)) c.in-Again.is c.in_ok-collect.ensures in
    again d.v.now d.inst.now.tuples c.args.c.now c.loop-self.invariant.going seen.0 c.in_ok-exclude-in-Again.ensures

pub returns-in_err-exclude-in-Again-clause-step : goal.returns-in_err-exclude-in-Again-clause-step
returns-in_err-exclude-in-Again-clause-step c =
    let d = c.args.d.now in
    let seen = subst (λ r. IsCollected (vars_of c.loop-self.c) d.inst.now.tuples d.v.now (box_of c.loop-self.c) c.loop-self.self.taken c.loop-self.self.open c.collect.new.self.taken c.collect.new.self.open (Ok r)) c.in-Again.is c.in_ok-collect.ensures in
    again_fails d.v.now d.inst.now.tuples c.args.c.now c.loop-self.invariant.going seen.0 c.in_err-exclude-in-Again.ensures c.from_residual-in_err-exclude-in-Again.ensures.0

pub returns-in-Outside-clause-step : goal.returns-in-Outside-clause-step
returns-in-Outside-clause-step c = let d = c.args.d.now in ends d.v.now d.inst.now.tuples c.args.c.now c.filter.result c.loop-self.invariant.going c.filter.ensures

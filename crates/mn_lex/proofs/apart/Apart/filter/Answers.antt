use Rattle.mn_prop.specs.Contexts.{box_of, vars_of}
use Rattle.mn_prop.proofs.Stepping.{no_step}
use Rattle.mn_lex.proofs.Parted.{none_apart, pairs_closed}
use Rattle.mn_lex.proofs.apart.Apart.filter.Goals as goal

pub returns-in-None-clause-step : goal.returns-in-None-clause-step
returns-in-None-clause-step c = let s = c.args.self.now in none_apart s.v.now s.w.now s.inst.now.tuples c.args.c.now _ c.requires.suits.shaped c.requires c.in-None.ensures

pub returns-in-Some-next_open-clause-step : goal.returns-in-Some-next_open-clause-step
returns-in-Some-next_open-clause-step c =
    let s = c.args.self.now in
    no_step c.args.c.now (pairs_closed s.v.now s.w.now s.inst.now.tuples (vars_of c.args.c.now) (box_of c.args.c.now) c.lawful.ensures.boxes.now c.requires c.in-Some.i c.in-Some-next_open.field-0 c.requires.suits.shaped c.in-Some.ensures c.in-Some-next_open.ensures)

pub returns-in-Some-next_open-clause-settled : goal.returns-in-Some-next_open-clause-settled
returns-in-Some-next_open-clause-settled c =
    let s = c.args.self.now in
    pairs_closed s.v.now s.w.now s.inst.now.tuples (vars_of c.args.c.now) (box_of c.args.c.now) c.lawful.ensures.boxes.now c.requires c.in-Some.i c.in-Some-next_open.field-0 c.requires.suits.shaped c.in-Some.ensures c.in-Some-next_open.ensures

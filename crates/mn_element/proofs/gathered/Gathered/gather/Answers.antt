use Rattle.std.proofs.Common.{sym, subst}
use Rattle.mn_prop.specs.Contexts.{box_of, vars_of}
use Rattle.mn_element.specs.Gathers.{HasValuesOf}
use Rattle.mn_element.proofs.Filling.{has_values}
use Rattle.mn_element.proofs.Supporting.{is_indexed, result_lawful, result_named}
use Rattle.mn_element.proofs.gathered.Gathered.gather.Goals as goal

pub gather-requires-clause-lawful : goal.gather-requires-clause-lawful
gather-requires-clause-lawful c = let s = c.args.of.now in result_lawful (is_indexed s.form s.v.now s.x s.y) (vars_of c.args.c.now) s.inst.now.tuples c.requires.ready

pub gather-requires-clause-named : goal.gather-requires-clause-named
gather-requires-clause-named c = let s = c.args.of.now in result_named (is_indexed s.form s.v.now s.x s.y) (vars_of c.args.c.now) s.inst.now.tuples c.requires.ready

pub look_at_all-requires-clause-wanted : goal.look_at_all-requires-clause-wanted
look_at_all-requires-clause-wanted c =
    let s = c.args.of.now in
    subst (HasValuesOf (box_of c.args.c.now) s.y) (sym c.set.ensures)
    (has_values (box_of c.args.c.now) s.y c.args.self.now.wanted c.clear.new.self c.gather.new.self c.clear.ensures.ends c.clear.ensures.none c.gather.ensures.members c.gather.ensures.only c.requires.wanted)

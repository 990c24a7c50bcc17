use Rattle.std.proofs.Common.{FitsSigned, rules, w64}
use Rattle.std.proofs.lemmas.Int.{to_z-of_z}
use Rattle.mn_prop.specs.Contexts.{box_of, vars_of}
use Rattle.mn_element.specs.Elements.{first_index}
use Rattle.mn_element.proofs.Gathering.{looked_at_all, looks_first, looks_on}
use Rattle.mn_element.proofs.Supporting.{index_named, is_indexed}
use Rattle.mn_element.proofs.gathered.Picked.look_at_all.Goals as goal

pub lo-i-requires : goal.lo-i-requires
lo-i-requires c = let s = c.args.of.now in index_named (is_indexed s.form s.v.now s.x s.y) (vars_of c.args.c.now) s.inst.now.tuples c.requires.ready

pub next-requires : goal.next-requires
next-requires c = let s = c.args.of.now in index_named (is_indexed s.form s.v.now s.x s.y) (vars_of c.args.c.now) s.inst.now.tuples c.requires.ready

pub loop-next-init : goal.loop-next-init
loop-next-init c =
    let s = c.args.of.now in
    let fits : FitsSigned w64 c.lo-i.result = search rules in
    rw (to_z-of_z w64 c.lo-i.result fits)
    (looks_first (box_of c.args.c.now) (first_index s.form) s.v.now s.x s.y c.lo-i.result c.args.self.now c.look_at.new.self c.lo-i.ensures.least c.requires.indices c.requires.found c.look_at.ensures.room (rw (to_z-of_z w64 c.lo-i.result fits) at c.look_at.ensures.more))

pub loop-next-preserved : goal.loop-next-preserved
loop-next-preserved c =
    let s = c.args.of.now in
    let fits : FitsSigned w64 c.in-Some.next = search rules in
    rw (to_z-of_z w64 c.in-Some.next fits)
    (looks_on (box_of c.args.c.now) (first_index s.form) s.v.now s.x s.y _ c.in-Some.next c.loop-next.self c.look_at-in-Some.new.self c.loop-next.invariant c.in-Some.ensures c.look_at-in-Some.ensures.room (rw (to_z-of_z w64 c.in-Some.next fits) at c.look_at-in-Some.ensures.more))

pub returns : goal.returns
returns c = let s = c.args.of.now in looked_at_all (box_of c.args.c.now) (first_index s.form) s.v.now s.x s.y _ c.loop-next.self c.loop-next.invariant c.in_default.ensures

use Rattle.std.proofs.Common.{sym, ◌∙◌, true≢false, w64}
use Rattle.std.proofs.lemmas.Int.{to_z-of_z}
use Rattle.mn_prop.specs.Contexts.{box_of, vars_of}
use Rattle.mn_element.specs.Elements.{first_index}
use Rattle.mn_element.proofs.Gathering.{gathers_entry, gathers_none, gathers_nothing}
use Rattle.mn_element.proofs.Supporting.{entry_lawful, entry_named, is_indexed}
use Rattle.mn_element.proofs.gathered.Picked.look_at.Goals as goal

pub meets-requires : goal.meets-requires
meets-requires c = let s = c.args.of.now in entry_lawful (is_indexed s.form s.v.now s.x s.y) (vars_of c.args.c.now) s.inst.now.tuples c.requires.ready c.in-Some.k c.get-t.result.now c.get-t.ensures

pub gather-requires-clause-lawful : goal.gather-requires-clause-lawful
gather-requires-clause-lawful c = let s = c.args.of.now in entry_lawful (is_indexed s.form s.v.now s.x s.y) (vars_of c.args.c.now) s.inst.now.tuples c.requires.ready c.in-Some.k c.get-t.result.now c.get-t.ensures

pub gather-requires-clause-named : goal.gather-requires-clause-named
gather-requires-clause-named c = let s = c.args.of.now in entry_named (is_indexed s.form s.v.now s.x s.y) (vars_of c.args.c.now) s.inst.now.tuples c.requires.ready c.in-Some.k c.get-t.result.now c.get-t.ensures

pub returns-then-meets-clause-more : goal.returns-then-meets-clause-more
returns-then-meets-clause-more c =
    let s = c.args.of.now in
    let box = box_of c.args.c.now in
    gathers_entry box (first_index s.form) s.v.now s.y c.args.i c.args.wanted.now c.requires.wanted c.in-Some.k c.get-t.result.now (rw (to_z-of_z w64 c.args.i c.ranges.i) at c.in-Some.ensures) c.get-t.ensures c.args.self.now _
    (c.meets.ensures.0 c.if-meets.true) (rw (to_z-of_z w64 c.args.i c.ranges.i) at c.insert.ensures.members) (λ b has. c.gather.ensures.members b (c.requires.room.1 b has))

pub returns-else-meets-clause-more : goal.returns-else-meets-clause-more
returns-else-meets-clause-more c =
    let s = c.args.of.now in
    gathers_none (box_of c.args.c.now) (first_index s.form) s.v.now s.y c.args.i c.args.wanted.now c.requires.wanted c.in-Some.k c.get-t.result.now (rw (to_z-of_z w64 c.args.i c.ranges.i) at c.in-Some.ensures) c.get-t.ensures c.args.self.now
    (λ meets. true≢false (sym (c.meets.ensures.1 meets) ∙ c.if-meets.false))

pub returns-in_default-clause-more : goal.returns-in_default-clause-more
returns-in_default-clause-more c =
    let s = c.args.of.now in
    gathers_nothing (box_of c.args.c.now) (first_index s.form) s.v.now s.y c.args.i c.args.wanted.now c.requires.wanted c.args.self.now (rw (to_z-of_z w64 c.args.i c.ranges.i) at c.in_default.ensures)

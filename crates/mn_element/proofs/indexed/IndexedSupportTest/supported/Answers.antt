use Rattle.std.proofs.Common.{w64, arith}
use Rattle.std.proofs.lemmas.Int.{to_z-of_z}
use Rattle.mn_prop.specs.Contexts.{box_of, vars_of}
use Rattle.mn_element.proofs.Closing.{entry_told, index_told, place_count, result_told}
use Rattle.mn_element.proofs.Supporting.{is_indexed}
use Rattle.mn_element.proofs.indexed.IndexedSupportTest.supported.Goals as goal

pub returns-then-i-entries : goal.returns-then-i-entries
returns-then-i-entries c =
    let s = c.args.self.now in
    entry_told (is_indexed s.form s.v.now s.x s.y) (vars_of c.args.c.now) s.inst.now.tuples c.requires.ready (box_of c.args.c.now) c.lawful.ensures.boxes.now c.args.i c.args.a c.picks.result (omega (arith, c.if-i-entries.true, c.len-entries.ensures)) c.requires.there (rw (to_z-of_z w64 c.args.a c.ranges.a) at c.picks.ensures)

pub returns-then-i-entries-2 : goal.returns-then-i-entries-2
returns-then-i-entries-2 c =
    let s = c.args.self.now in
    index_told (is_indexed s.form s.v.now s.x s.y) (vars_of c.args.c.now) s.inst.now.tuples c.requires.ready (box_of c.args.c.now) c.lawful.ensures.boxes.now c.args.i c.args.a c.picks_at.result (omega (arith, c.if-i-entries-2.true, c.len-entries.ensures)) c.requires.there (rw (to_z-of_z w64 c.args.a c.ranges.a) at c.picks_at.ensures)

pub returns-else-i-entries-2 : goal.returns-else-i-entries-2
returns-else-i-entries-2 c =
    let s = c.args.self.now in
    let count = place_count (is_indexed s.form s.v.now s.x s.y) in
    result_told (is_indexed s.form s.v.now s.x s.y) (vars_of c.args.c.now) s.inst.now.tuples c.requires.ready (box_of c.args.c.now) c.lawful.ensures.boxes.now c.args.i c.args.a c.picks-else-i-entries-2.result (omega (arith, c.if-i-entries.false, c.if-i-entries-2.false, c.len-entries.ensures, c.requires.place, count)) (rw (to_z-of_z w64 c.args.a c.ranges.a) at c.picks-else-i-entries-2.ensures)

use Rattle.std.proofs.Common.{w64}
use Rattle.std.proofs.lemmas.Int.{to_z-of_z}
use Rattle.mn_prop.specs.Contexts.{box_of, vars_of}
use Rattle.mn_basic.specs.Ties.{tie_of}
use Rattle.mn_prop.proofs.Kept.{near_at}
use Rattle.mn_basic.proofs.Tying.{first_at, first_told, is_tie, second_at, second_told}
use Rattle.mn_basic.proofs.tie.TiedSupportTest.supported.Goals as goal

pub has_second-requires-clause-near : goal.has_second-requires-clause-near
has_second-requires-clause-near c =
    let d = c.args.c.now in
    let s = c.args.self.now in
    let stands = first_at (is_tie s.tie s.x s.y) c.args.i c.if-i-eq0.true in
    rw (to_z-of_z w64 c.args.a c.ranges.a) (near_at (vars_of d) s.inst.now.tuples (tie_of s.tie s.x s.y) (box_of d) c.args.i s.x c.args.a c.lawful.ensures.boxes.now c.lawful.ensures.valued c.requires.ready stands (c.requires.there s.x stands))

pub has_first-requires-clause-near : goal.has_first-requires-clause-near
has_first-requires-clause-near c =
    let d = c.args.c.now in
    let s = c.args.self.now in
    let stands = second_at (is_tie s.tie s.x s.y) c.args.i c.requires.place c.if-i-eq0.false in
    rw (to_z-of_z w64 c.args.a c.ranges.a) (near_at (vars_of d) s.inst.now.tuples (tie_of s.tie s.x s.y) (box_of d) c.args.i s.y c.args.a c.lawful.ensures.boxes.now c.lawful.ensures.valued c.requires.ready stands (c.requires.there s.y stands))

pub returns-then-i-eq0 : goal.returns-then-i-eq0
returns-then-i-eq0 c =
    let s = c.args.self.now in
    first_told (is_tie s.tie s.x s.y) s.inst.now.tuples c.args.a (box_of c.args.c.now) c.has_second.result c.args.i c.if-i-eq0.true c.requires.there (rw (to_z-of_z w64 c.args.a c.ranges.a) at c.has_second.ensures)

pub returns-else-i-eq0 : goal.returns-else-i-eq0
returns-else-i-eq0 c =
    let s = c.args.self.now in
    second_told (is_tie s.tie s.x s.y) s.inst.now.tuples c.args.a (box_of c.args.c.now) c.has_first.result c.args.i c.requires.place c.if-i-eq0.false c.requires.there (rw (to_z-of_z w64 c.args.a c.ranges.a) at c.has_first.ensures)

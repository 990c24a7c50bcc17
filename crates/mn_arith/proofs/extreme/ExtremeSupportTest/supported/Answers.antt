use Rattle.std.proofs.Common.{arith, w64}
use Rattle.std.proofs.lemmas.Int.{to_z-of_z}
use Rattle.mn_prop.specs.Contexts.{box_of}
use Rattle.mn_arith.proofs.Told.{behind_told, front_told}
use Rattle.mn_arith.proofs.extreme.ExtremeSupportTest.supported.Goals as goal

pub returns-then-i-len : goal.returns-then-i-len
returns-then-i-len c =
    let s = c.args.self.now in
    let long = c.len.ensures in
    let below = c.if-i-len.true in
    front_told s.greatest s.terms.now s.x s.inst.now.tuples (box_of c.args.c.now) c.args.i c.args.a c.some_can_be.result (omega (arith, long, below)) c.requires.there (rw (to_z-of_z w64 c.args.a c.ranges.a) at c.some_can_be.ensures)

pub returns-else-i-len : goal.returns-else-i-len
returns-else-i-len c =
    let s = c.args.self.now in
    let long = c.len.ensures in
    let past = c.if-i-len.false in
    behind_told s.greatest s.terms.now s.x s.inst.now.tuples (box_of c.args.c.now) c.args.i c.args.a c.is_met.result (λ below. omega (arith, long, past, below)) c.requires.place c.requires.there (rw (to_z-of_z w64 c.args.a c.ranges.a) at c.is_met.ensures)

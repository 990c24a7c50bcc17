use Rattle.std.proofs.Common.{pos, ◌-ℤ◌, FitsSigned, rules, w64, refl, arith}
use Rattle.std.proofs.lemmas.Int.{ints, to_z-of_z}
use Rattle.mn_prop.specs.Contexts.{box_of}
use Rattle.mn_element.proofs.Filling.{all_filled, begins_filling, goes_on_to}
use Rattle.mn_element.proofs.stretch.Stretch.gather_some.Goals as goal

pub loop-next-init : goal.loop-next-init
loop-next-init c =
    let s = c.args.self.now in
    let own = s.value in
    let fits : FitsSigned w64 s.lo = search rules in
    let less : FitsSigned w64 (s.lo -ℤ pos 1) = omega (arith, ints, own.0, own.1) in
    rw (to_z-of_z w64 s.lo fits) (rw (to_z-of_z w64 (s.lo -ℤ pos 1) less) (begins_filling (box_of c.args.c.now) c.args.t s (s.lo -ℤ pos 1) refl s.order))

pub loop-next-preserved : goal.loop-next-preserved
loop-next-preserved c =
    let fits : FitsSigned w64 c.in-Some.next = search rules in
    rw (to_z-of_z w64 c.in-Some.next fits) (goes_on_to (box_of c.args.c.now) c.args.t c.args.self.now c.loop-next.self c.insert.new.self _ c.in-Some.next c.loop-next.invariant c.in-Some.ensures c.insert.ensures.ends (rw (to_z-of_z w64 c.in-Some.next fits) at c.insert.ensures.members))

pub returns-clause-members : goal.returns-clause-members
returns-clause-members c b at = all_filled (box_of c.args.c.now) c.args.t c.args.self.now c.loop-next.self _ b c.loop-next.invariant c.in_default.ensures at

pub returns-clause-only : goal.returns-clause-only
returns-clause-only c = c.loop-next.invariant.only

use Rattle.std.proofs.Common.{FitsSigned, Ok, rules, w64}
use Rattle.std.proofs.lemmas.Int.{to_z-of_z}
use Rattle.mn_prop.specs.Contexts.{box_of}
use Rattle.mn_prop.proofs.Boxing.{inside_itself}
use Rattle.mn_prop.proofs.Ready.{ready_named}
use Rattle.mn_prop.proofs.Stepping.{goes_inside}
use Rattle.mn_arith.specs.Hulls.{computed_of}
use Rattle.mn_arith.proofs.Bounding.{both_parts, high_part, later_ready, low_part}
use Rattle.mn_arith.proofs.Pruned.{part_stops}
use Rattle.mn_arith.proofs.hull.Computed.cut_place.Goals as goal

pub set_lo-requires : goal.set_lo-requires
set_lo-requires c = ready_named (computed_of c.args.self.now) c.args.i c.requires.ready c.term-t.ensures

pub returns-in_err-set_lo : goal.returns-in_err-set_lo
returns-in_err-set_lo c =
    let b = c.bounds_at-bounds.result in
    let low : FitsSigned w64 c.bounds_at-bounds.result.lo = search rules in
    let changed = rw (to_z-of_z w64 c.bounds_at-bounds.result.lo low) at c.set_lo.ensures in
    part_stops _ c.in_err-set_lo.was c.from_residual.ensures.0 (low_part (computed_of c.args.self.now) c.args.i c.term-t.result c.term-t.ensures b.lo b.hi (box_of c.args.c.now) (λ a. c.bounds_at-bounds.ensures c.term-t.result a c.term-t.ensures) c.args.c.now c.set_lo.new.self c.set_lo.result c.requires.ready (inside_itself (box_of c.args.c.now)) changed)

pub set_hi-requires : goal.set_hi-requires
set_hi-requires c =
    let b = c.bounds_at-bounds.result in
    let low : FitsSigned w64 c.bounds_at-bounds.result.lo = search rules in
    let changed = rw (to_z-of_z w64 c.bounds_at-bounds.result.lo low) at c.in_ok-set_lo.ensures in
    let one = low_part (computed_of c.args.self.now) c.args.i c.term-t.result c.term-t.ensures b.lo b.hi (box_of c.args.c.now) (λ a. c.bounds_at-bounds.ensures c.term-t.result a c.term-t.ensures) c.args.c.now c.set_lo.new.self (Ok c.in_ok-set_lo.field-0) c.requires.ready (inside_itself (box_of c.args.c.now)) changed in
    ready_named (computed_of c.args.self.now) c.args.i (later_ready (computed_of c.args.self.now) one c.requires.ready) c.term-t.ensures

pub returns : goal.returns
returns c =
    let b = c.bounds_at-bounds.result in
    let low : FitsSigned w64 c.bounds_at-bounds.result.lo = search rules in
    let high : FitsSigned w64 c.bounds_at-bounds.result.hi = search rules in
    let changed = rw (to_z-of_z w64 c.bounds_at-bounds.result.lo low) at c.in_ok-set_lo.ensures in
    let again = rw (to_z-of_z w64 c.bounds_at-bounds.result.hi high) at c.set_hi.ensures in
    let one = low_part (computed_of c.args.self.now) c.args.i c.term-t.result c.term-t.ensures b.lo b.hi (box_of c.args.c.now) (λ a. c.bounds_at-bounds.ensures c.term-t.result a c.term-t.ensures) c.args.c.now c.set_lo.new.self (Ok c.in_ok-set_lo.field-0) c.requires.ready (inside_itself (box_of c.args.c.now)) changed in
    both_parts (computed_of c.args.self.now) one (high_part (computed_of c.args.self.now) c.args.i c.term-t.result c.term-t.ensures b.lo b.hi (box_of c.args.c.now) (λ a. c.bounds_at-bounds.ensures c.term-t.result a c.term-t.ensures) c.set_lo.new.self c.set_hi.new.self c.set_hi.result (later_ready (computed_of c.args.self.now) one c.requires.ready) (goes_inside one.narrows.loses) again)

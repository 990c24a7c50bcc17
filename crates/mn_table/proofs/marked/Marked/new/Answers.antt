use Rattle.std.proofs.Common.{FitsSigned, rules, w64, pos, subst, arith}
use Rattle.std.proofs.lemmas.Int.{ints, to_z-of_z}
use Rattle.mn_boxes.specs.Values.{IsCovered}
use Rattle.mn_table.proofs.Rooms.{covered_between, values_covered}
use Rattle.mn_table.proofs.marked.Marked.new.Goals as goal

pub invariant_of-result : goal.invariant_of-result
invariant_of-result c =
    let room = c.args.room in
    let low : FitsSigned w64 room.lo = search rules in
    let high : FitsSigned w64 room.hi = search rules in
    let last : FitsSigned w64 room.last = search rules in
    let alive_high = subst (IsCovered c.in_ok-alive.alive) (to_z-of_z w64 room.last last) c.in_ok-alive.ensures.high in
    let found_low = subst (IsCovered c.in_ok-found.found) (to_z-of_z w64 room.lo low) c.in_ok-found.ensures.low in
    let found_high = subst (IsCovered c.in_ok-found.found) (to_z-of_z w64 room.hi high) c.in_ok-found.ensures.high in
    record {
      numbers = λ r less. covered_between c.in_ok-alive.alive (pos 0) room.last (pos r) c.in_ok-alive.ensures.low alive_high (omega (arith, ints), c.requires.numbers r less);
      values = values_covered c.in_ok-found.found room.lo room.hi c.args.of.cells.now found_low found_high c.requires.values;
    }

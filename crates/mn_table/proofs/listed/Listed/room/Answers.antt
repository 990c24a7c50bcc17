use Rattle.std.proofs.Common.{◌≡◌, ◌<◌, ◌≤◌, ◌/◌, ◌^◌, false, int_lt, ℤ, pos, ◌-ℤ◌, neg_ℤ, ◌≤ℤ◌, FitsSigned, of_z, to_z, rules, w64, length, sym, subst, ap, ◌∙◌, arith}
use Rattle.std.proofs.lemmas.Int.{ints, to_z-of_z, to_z_pos}
use Rattle.std.specs.List.{AllByRecursion}
use Rattle.mn_model.specs.declared.limits.TheConstants.{VALUE}
use Rattle.mn_model.proofs.Ordered.{at_least, le_so}
use Rattle.mn_table.specs.declared.room.Room.{Room}
use Rattle.mn_table.proofs.Rooms.{room_is}
use Rattle.mn_table.proofs.listed.Listed.room.Goals as goal

pub returns : goal.returns
returns c =
    let s = c.args.self.now in
    let lo = c.least-lo.result in
    let hi = c.greatest-hi.result in
    let tuples = length s.cells.now / c.len.result in
    let low : FitsSigned w64 lo = search rules in
    let high : FitsSigned w64 hi = search rules in
    let few : tuples ≤ 1000000000 = search rules in
    let many : 1 ≤ tuples = omega (arith, c.if-tuples-eq0.false) in
    let tuples_small : tuples < 2 ^ 63 = omega (arith, few) in
    let tuples_is = to_z_pos w64 tuples tuples_small in
    let last_fits : FitsSigned w64 (to_z w64 tuples -ℤ pos 1) = subst (λ (n : ℤ). FitsSigned w64 (n -ℤ pos 1)) (sym tuples_is) (omega (arith, ints, few, many)) in
    let last_is = to_z-of_z w64 (to_z w64 tuples -ℤ pos 1) last_fits in
    let low_is = to_z-of_z w64 lo low in
    let high_is = to_z-of_z w64 hi high in
    let from : neg_ℤ VALUE ≤ℤ lo = le_so (neg_ℤ VALUE) lo (at_least lo (neg_ℤ VALUE) (subst (λ (b : ℤ). int_lt b (neg_ℤ VALUE) ≡ false) low_is c.if-lo.false)) in
    let to : hi ≤ℤ VALUE = le_so hi VALUE (at_least VALUE hi (subst (λ (b : ℤ). int_lt VALUE b ≡ false) high_is c.if-hi-gt-VALUE.false)) in
    let room : Room = record { lo = to_z w64 (of_z w64 lo); hi = to_z w64 (of_z w64 hi); last = to_z w64 (of_z w64 (to_z w64 tuples -ℤ pos 1)) } in
    room_is (length s.v.now) tuples s.cells.now room s.some (ap (λ k. length s.cells.now / k) c.len.ensures) many few (last_is ∙ ap (λ (n : ℤ). n -ℤ pos 1) tuples_is)
    (subst (λ (b : ℤ). neg_ℤ VALUE ≤ℤ b) (sym low_is) from)
    (subst (λ (b : ℤ). b ≤ℤ VALUE) (sym high_is) to)
    (subst (λ (b : ℤ). AllByRecursion (λ a. b ≤ℤ a) s.cells.now) (sym low_is) c.least-lo.ensures)
    (subst (λ (b : ℤ). AllByRecursion (λ a. a ≤ℤ b) s.cells.now) (sym high_is) c.greatest-hi.ensures)

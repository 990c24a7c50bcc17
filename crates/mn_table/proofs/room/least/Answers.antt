use Rattle.std.proofs.Common.{◌+◌, ℤ, ◌≤ℤ◌, FitsSigned, rules, to_z, w64, sym, subst, arith}
use Rattle.std.proofs.lemmas.Int.{ints, to_z-of_z}
use Rattle.mn_meaning.specs.Meaning.{at}
use Rattle.mn_table.proofs.Rooms.{EachBefore, all_before, first_before, next_before}
use Rattle.mn_table.proofs.room.least.Goals as goal

pub loop-i-init : goal.loop-i-init
loop-i-init c =
    let cells = c.args.cells.now in
    let fits : FitsSigned w64 (at cells 0) = search rules in
    record {
      within = c.requires;
      so_far = subst (λ (b : ℤ). EachBefore (λ a. b ≤ℤ a) cells 1) (sym (to_z-of_z w64 (at cells 0) fits)) (first_before (λ a. at c.args.cells.now 0 ≤ℤ a) (λ a. at c.args.cells.now 0 ≤ℤ a) cells (omega (arith, ints)));
    }

pub loop-i-preserved : goal.loop-i-preserved
loop-i-preserved c =
    let cells = c.args.cells.now in
    let fits : FitsSigned w64 c.lesser-lo.result = search rules in
    let here : FitsSigned w64 (at cells c.loop-i.i) = search rules in
    let one = c.lesser-lo.ensures.first in
    let two = subst (λ (b : ℤ). c.lesser-lo.result ≤ℤ b) (to_z-of_z w64 (at cells c.loop-i.i) here) c.lesser-lo.ensures.second in
    record {
      within = omega (arith, c.loop-i-test.true);
      so_far = subst (λ (b : ℤ). EachBefore (λ a. b ≤ℤ a) cells (c.loop-i.i + 1)) (sym (to_z-of_z w64 c.lesser-lo.result fits))
          (next_before (λ a. to_z w64 c.loop-i.lo-bits ≤ℤ a) (λ a. c.lesser-lo.result ≤ℤ a) cells c.loop-i.i c.loop-i.invariant.so_far (λ a so. omega (arith, ints, so, one)) two);
    }

pub returns : goal.returns
returns c = all_before (λ a. to_z w64 c.loop-i.lo-bits ≤ℤ a) c.args.cells.now (λ k less. c.loop-i.invariant.so_far k (let to = c.loop-i-test.false in omega (arith, less, to)))

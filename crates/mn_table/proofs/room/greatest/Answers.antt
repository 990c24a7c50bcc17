use Rattle.std.proofs.Common.{◌+◌, ℤ, ◌≤ℤ◌, FitsSigned, rules, to_z, w64, sym, subst, arith}
use Rattle.std.proofs.lemmas.Int.{ints, to_z-of_z}
use Rattle.mn_meaning.specs.Meaning.{at}
use Rattle.mn_table.proofs.Rooms.{EachBefore, all_before, first_before, next_before}
use Rattle.mn_table.proofs.room.greatest.Goals as goal

pub loop-i-init : goal.loop-i-init
loop-i-init c =
    let cells = c.args.cells.now in
    let fits : FitsSigned w64 (at cells 0) = search rules in
    record {
      within = c.requires;
      so_far = subst (λ (b : ℤ). EachBefore (λ a. a ≤ℤ b) cells 1) (sym (to_z-of_z w64 (at cells 0) fits)) (first_before (λ a. a ≤ℤ at c.args.cells.now 0) (λ a. a ≤ℤ at c.args.cells.now 0) cells (omega (arith, ints)));
    }

pub loop-i-preserved : goal.loop-i-preserved
loop-i-preserved c =
    let cells = c.args.cells.now in
    let fits : FitsSigned w64 c.greater-hi.result = search rules in
    let here : FitsSigned w64 (at cells c.loop-i.i) = search rules in
    let one = c.greater-hi.ensures.first in
    let two = subst (λ (b : ℤ). b ≤ℤ c.greater-hi.result) (to_z-of_z w64 (at cells c.loop-i.i) here) c.greater-hi.ensures.second in
    record {
      within = omega (arith, c.loop-i-test.true);
      so_far = subst (λ (b : ℤ). EachBefore (λ a. a ≤ℤ b) cells (c.loop-i.i + 1)) (sym (to_z-of_z w64 c.greater-hi.result fits))
          (next_before (λ a. a ≤ℤ to_z w64 c.loop-i.hi-bits) (λ a. a ≤ℤ c.greater-hi.result) cells c.loop-i.i c.loop-i.invariant.so_far (λ a so. omega (arith, ints, so, one)) two);
    }

pub returns : goal.returns
returns c = all_before (λ a. a ≤ℤ to_z w64 c.loop-i.hi-bits) c.args.cells.now (λ k less. c.loop-i.invariant.so_far k (let to = c.loop-i-test.false in omega (arith, less, to)))

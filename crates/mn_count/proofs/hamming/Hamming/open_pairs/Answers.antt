use Rattle.std.proofs.Common.{◌≡◌, ◌∙◌, pos, ◌+ℤ◌, ◌<ℤ◌, FitsSigned, to_z, of_z, rules, subst, sym, w64, arith}
use Rattle.std.proofs.lemmas.Int.{ints, to_z-of_z}
use Rattle.mn_prop.specs.Contexts.{box_of, vars_of}
use Rattle.mn_count.specs.Distances.{IsCountedTo}
use Rattle.mn_count.proofs.Apart.{hamming_is}
use Rattle.mn_count.proofs.OpenPairs.{Counts, enough_counted, one_passed, open_counted}
use Rattle.mn_count.proofs.Vectors.{first_named, second_named}
use Rattle.mn_count.proofs.hamming.Hamming.open_pairs.Goals as goal
use mir.Syntax.{w128}

pub are_one-requires-clause-first : goal.are_one-requires-clause-first
are_one-requires-clause-first c = let s = c.args.self.now in first_named (hamming_is s.v.now s.w.now s.least s.inst.now.tuples) (vars_of c.args.c.now) s.inst.now.tuples c.loop-i.i c.get.result.now c.requires c.get.ensures

pub are_one-requires-clause-second : goal.are_one-requires-clause-second
are_one-requires-clause-second c = let s = c.args.self.now in second_named (hamming_is s.v.now s.w.now s.least s.inst.now.tuples) (vars_of c.args.c.now) s.inst.now.tuples c.loop-i.i c.get-in-loop-i.result.now c.requires c.get-in-loop-i.ensures

pub loop-i-preserved-then-are_one : goal.loop-i-preserved-then-are_one
loop-i-preserved-then-are_one c =
    let s = c.args.self.now in
    one_passed (box_of c.args.c.now) s.v.now s.w.now c.loop-i.i _ c.get.result.now c.get-in-loop-i.result.now (sym c.are_one.ensures.is ∙ c.if-are_one.true) c.get.ensures c.get-in-loop-i.ensures c.loop-i.invariant

pub returns-then-least-count : goal.returns-then-least-count
returns-then-least-count c =
    let s = c.args.self.now in
    let some = c.loop-i.invariant.some in
    let few = c.loop-i.invariant.few in
    let within = c.loop-i-test.true in
    let long = c.len-i-end.type_inv in
    let next : to_z w128 (of_z w128 (to_z w128 c.loop-i.count-bits +ℤ pos 1)) ≡ to_z w128 c.loop-i.count-bits +ℤ pos 1 = omega (arith, ints, some, few, within, long) in
    let least : FitsSigned w64 s.least = search rules in
    let from : c.from-least.result ≡ s.least = rw (to_z-of_z w64 s.least least) at c.from-least.ensures in
    let more : s.least <ℤ (to_z w128 c.loop-i.count-bits +ℤ pos 1) = omega (arith, ints, some, few, within, long, from, c.if-least-count.true) in
    let counted = open_counted (box_of c.args.c.now) s.v.now s.w.now c.loop-i.i _ c.get.result.now c.get-in-loop-i.result.now (sym c.are_one.ensures.is ∙ c.if-are_one.false) c.get.ensures c.get-in-loop-i.ensures c.loop-i.invariant in
    subst (IsCountedTo s.least (box_of c.args.c.now) s.v.now s.w.now) (sym next) (enough_counted (box_of c.args.c.now) s.v.now s.w.now _ s.least _ more counted)

pub loop-i-preserved : goal.loop-i-preserved
loop-i-preserved c =
    let s = c.args.self.now in
    let some = c.loop-i.invariant.some in
    let few = c.loop-i.invariant.few in
    let within = c.loop-i-test.true in
    let long = c.len-i-end.type_inv in
    let next : to_z w128 (of_z w128 (to_z w128 c.loop-i.count-bits +ℤ pos 1)) ≡ to_z w128 c.loop-i.count-bits +ℤ pos 1 = omega (arith, ints, some, few, within, long) in
    let counted = open_counted (box_of c.args.c.now) s.v.now s.w.now c.loop-i.i _ c.get.result.now c.get-in-loop-i.result.now (sym c.are_one.ensures.is ∙ c.if-are_one.false) c.get.ensures c.get-in-loop-i.ensures c.loop-i.invariant in
    subst (Counts (box_of c.args.c.now) s.v.now s.w.now _) (sym next) counted

use Rattle.std.proofs.Common.{pos, ◌+ℤ◌, FitsSigned, to_z, rules, sym, ◌∙◌, true≢false, w64, arith}
use Rattle.std.proofs.lemmas.Int.{ints, to_z-of_z}
use Rattle.mn_prop.specs.Contexts.{box_of, vars_of}
use Rattle.mn_count.proofs.Amounts.{entry_named, few_entries}
use Rattle.mn_count.proofs.Tallies.{all_tallied, alone_tallied, open_tallied, other_tallied}
use Rattle.mn_count.proofs.occurrence.Occurrence.tally.Goals as goal
use Rattle.mn_count.proofs.occurrence.Occurrence.tally.Goals.{then-is_single, else-is_single}

pub stands_at-requires : goal.stands_at-requires
stands_at-requires c = let s = c.args.self.now in entry_named s.inst.now.tuples s.v.now s.k s.amount (vars_of c.args.c.now) c.loop-i.i c.get-t.result.now c.requires c.get-t.ensures

pub is_single-requires : goal.is_single-requires
is_single-requires c = let s = c.args.self.now in entry_named s.inst.now.tuples s.v.now s.k s.amount (vars_of c.args.c.now) c.loop-i.i c.get-t.result.now c.requires c.get-t.ensures

pub loop-i-preserved-then-not-stands_at : goal.loop-i-preserved-then-not-stands_at
loop-i-preserved-then-not-stands_at c =
    let s = c.args.self.now in
    let k : FitsSigned w64 s.k = search rules in
    let has = rw (to_z-of_z w64 s.k k) at c.stands_at.ensures in
    let named = entry_named s.inst.now.tuples s.v.now s.k s.amount (vars_of c.args.c.now) c.loop-i.i c.get-t.result.now c.requires c.get-t.ensures in
    other_tallied (box_of c.args.c.now) s.k (vars_of c.args.c.now) s.v.now c.loop-i.i c.get-t.result.now _ _ c.lawful.ensures.boxes.now named c.get-t.ensures (λ there. true≢false (sym (has.1 there) ∙ c.if-not-stands_at.true)) c.loop-i.invariant

pub loop-i-preserved : goal.loop-i-preserved
loop-i-preserved c =
    let s = c.args.self.now in
    let k : FitsSigned w64 s.k = search rules in
    let has = rw (to_z-of_z w64 s.k k) at c.stands_at.ensures in
    let few_low = c.loop-i.invariant.few_low in
    let few_high = c.loop-i.invariant.few_high in
    let must_is = c.loop-i.invariant.must_is in
    let may_is = c.loop-i.invariant.may_is in
    let few = few_entries s.inst.now.tuples s.v.now s.k s.amount (vars_of c.args.c.now) c.requires in
    let within = c.loop-i-test.true in
    let long = c.len-i-end.ensures in
    let must_fits : FitsSigned w64 (to_z w64 c.loop-i.must-bits +ℤ pos 1) = omega (arith, ints, few_low, must_is, few, within, long) in
    let may_fits : FitsSigned w64 (to_z w64 c.loop-i.may-bits +ℤ pos 1) = omega (arith, ints, few_high, may_is, few, within, long) in
    let must_next = to_z-of_z w64 (to_z w64 c.loop-i.must-bits +ℤ pos 1) must_fits in
    let may_next = to_z-of_z w64 (to_z w64 c.loop-i.may-bits +ℤ pos 1) may_fits in
    elim c.if-is_single.branch [
      | then-is_single w ↦
          alone_tallied (box_of c.args.c.now) s.k s.v.now c.loop-i.i c.get-t.result.now _ (to_z w64 c.loop-i.must-bits) (to_z w64 c.loop-i.may-bits) _ _ c.get-t.ensures (has.0 c.if-not-stands_at.false) (c.is_single.ensures.alone.0 w.if-is_single.true)
          (omega (arith, ints, must_next)) may_next c.loop-i.invariant
      | else-is_single w ↦
          open_tallied (box_of c.args.c.now) s.k s.v.now c.loop-i.i c.get-t.result.now (to_z w64 c.loop-i.must-bits) (to_z w64 c.loop-i.may-bits) _ _ c.get-t.ensures (has.0 c.if-not-stands_at.false) (c.is_single.ensures.two w.if-is_single.false)
          (omega (arith, ints, must_next)) may_next c.loop-i.invariant
    ]

pub returns : goal.returns
returns c = let s = c.args.self.now in all_tallied (box_of c.args.c.now) s.k s.v.now c.loop-i.i _ _ (omega (arith, c.loop-i-test.false, c.len-i-end.ensures)) c.loop-i.invariant

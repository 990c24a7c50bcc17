use Rattle.std.proofs.Common.{FitsSigned, rules, subst, sym, ◌∙◌, true≢false, w64}
use Rattle.std.proofs.lemmas.Int.{to_z-of_z}
use Rattle.mn_prop.specs.Contexts.{vars_of}
use Rattle.mn_prop.specs.Posts.{IsReady}
use Rattle.mn_prop.proofs.Stepping.{same_vars}
use Rattle.mn_count.specs.Occurrences.{con_of}
use Rattle.mn_count.proofs.Amounts.{entry_named}
use Rattle.mn_count.proofs.Tightening.{none_kept, one_more_kept, other_kept}
use Rattle.mn_count.proofs.occurrence.Occurrence.keep_all.Goals as goal

pub loop-i-init : goal.loop-i-init
loop-i-init c = let s = c.args.self.now in none_kept s.inst.now.tuples s.v.now s.k s.amount c.args.c.now

pub has-requires : goal.has-requires
has-requires c =
    let s = c.args.self.now in
    let ready = subst (λ vars. IsReady vars s.inst.now.tuples (con_of s.v.now s.k s.amount)) (sym (same_vars c.loop-i.invariant.going.loses)) c.requires.ready in
    entry_named s.inst.now.tuples s.v.now s.k s.amount (vars_of c.loop-i.c) c.loop-i.i c.get-t.result.now ready c.get-t.ensures

pub assign-requires : goal.assign-requires
assign-requires c =
    let s = c.args.self.now in
    let ready = subst (λ vars. IsReady vars s.inst.now.tuples (con_of s.v.now s.k s.amount)) (sym (same_vars c.loop-i.invariant.going.loses)) c.requires.ready in
    entry_named s.inst.now.tuples s.v.now s.k s.amount (vars_of c.loop-i.c) c.loop-i.i c.get-t.result.now ready c.get-t.ensures

pub loop-i-preserved-then-not-has : goal.loop-i-preserved-then-not-has
loop-i-preserved-then-not-has c =
    let s = c.args.self.now in
    let k : FitsSigned w64 s.k = search rules in
    let has = rw (to_z-of_z w64 s.k k) at c.has.ensures in
    other_kept s.inst.now.tuples s.v.now s.k s.amount c.args.c.now c.requires.short c.get-t.result.now c.loop-i.invariant c.get-t.ensures (λ there. true≢false (sym (has.1 there) ∙ c.if-not-has.true))

pub loop-i-preserved : goal.loop-i-preserved
loop-i-preserved c =
    let s = c.args.self.now in
    let k : FitsSigned w64 s.k = search rules in
    let has = rw (to_z-of_z w64 s.k k) at c.has.ensures in
    let ready = subst (λ vars. IsReady vars s.inst.now.tuples (con_of s.v.now s.k s.amount)) (sym (same_vars c.loop-i.invariant.going.loses)) c.requires.ready in
    let named = entry_named s.inst.now.tuples s.v.now s.k s.amount (vars_of c.loop-i.c) c.loop-i.i c.get-t.result.now ready c.get-t.ensures in
    one_more_kept s.inst.now.tuples s.v.now s.k s.amount c.args.c.now c.requires.short c.get-t.result.now c.loop-i.invariant named c.get-t.ensures (has.0 c.if-not-has.false) (rw (to_z-of_z w64 s.k k) at c.in_ok-assign.ensures)

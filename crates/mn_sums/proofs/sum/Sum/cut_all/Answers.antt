use Rattle.std.proofs.Common.{pos, get_or, length, w64, sym, subst, ap, arith}
use Rattle.std.proofs.lemmas.Int.{ints, to_z-of_z}
use Rattle.mn_prop.specs.Contexts.{vars_of}
use Rattle.mn_prop.proofs.Stepping.{same_vars}
use Rattle.mn_model.specs.declared.constraint.Term.TheVariants.{Var}
use Rattle.mn_sums.specs.declared.part.Part.TheVariants.{Times}
use Rattle.mn_sums.specs.Parts.{IsPartOf}
use Rattle.mn_sums.proofs.Forms.{kept_at_most}
use Rattle.mn_sums.proofs.Measuring.{all_cut, next_cut, none_cut, part_here, part_of_ready, wrong_cut}
use Rattle.mn_sums.proofs.sum.Sum.cut_all.Goals as goal

pub loop-p-init : goal.loop-p-init
loop-p-init c = let s = c.args.self.now in none_cut s.inst.now.tuples s.con.now s.parts.items s.bound c.args.c.now

pub cut-requires-clause-part : goal.cut-requires-clause-part
cut-requires-clause-part c =
    let s = c.args.self.now in
    let is = kept_at_most (vars_of c.args.c.now) s.inst.now.tuples s.con.now s.parts.items s.bound s.form s.made s.bounded c.requires.ready in
    let here = part_here s.parts.items c.as_slice-p-items.result.now c.loop-p.p-index (Times (pos 0) (Var (record { 0 = 0 }))) c.as_slice-p-items.ensures.value c.loop-p-test.true in
    subst (λ vars. IsPartOf vars (get_or c.as_slice-p-items.result.now c.loop-p.p-index (Times (pos 0) (Var (record { 0 = 0 }))))) (sym (same_vars c.loop-p.invariant.going.loses)) (part_of_ready (vars_of c.args.c.now) s.inst.now.tuples s.con.now s.parts.items s.bound is c.requires.ready c.loop-p.p-index _ here)

pub returns-in_err-cut : goal.returns-in_err-cut
returns-in_err-cut c =
    let s = c.args.self.now in
    let is = kept_at_most (vars_of c.args.c.now) s.inst.now.tuples s.con.now s.parts.items s.bound s.form s.made s.bounded c.requires.ready in
    let here = part_here s.parts.items c.as_slice-p-items.result.now c.loop-p.p-index (Times (pos 0) (Var (record { 0 = 0 }))) c.as_slice-p-items.ensures.value c.loop-p-test.true in
    let step = rw (to_z-of_z w64 c.args.slack c.ranges.slack) at c.in_err-cut.ensures in
    wrong_cut s.inst.now.tuples s.con.now s.parts.items s.bound c.args.c.now is c.requires.ready c.lawful.ensures.boxes.now c.loop-p.p-index _ c.args.slack c.loop-p.invariant here c.requires.slack step c.from_residual.ensures.0

pub loop-p-preserved : goal.loop-p-preserved
loop-p-preserved c =
    let s = c.args.self.now in
    let is = kept_at_most (vars_of c.args.c.now) s.inst.now.tuples s.con.now s.parts.items s.bound s.form s.made s.bounded c.requires.ready in
    let here = part_here s.parts.items c.as_slice-p-items.result.now c.loop-p.p-index (Times (pos 0) (Var (record { 0 = 0 }))) c.as_slice-p-items.ensures.value c.loop-p-test.true in
    let step = rw (to_z-of_z w64 c.args.slack c.ranges.slack) at c.in_ok-cut.ensures in
    next_cut s.inst.now.tuples s.con.now s.parts.items s.bound c.args.c.now is c.requires.ready c.lawful.ensures.boxes.now c.loop-p.p-index _ c.args.slack c.loop-p.invariant here c.requires.slack step

pub returns : goal.returns
returns c =
    let s = c.args.self.now in
    let is = kept_at_most (vars_of c.args.c.now) s.inst.now.tuples s.con.now s.parts.items s.bound s.form s.made s.bounded c.requires.ready in
    let long = ap length c.as_slice-p-items.ensures.value in
    let slack = c.requires.slack in
    let some = c.requires.some in
    all_cut s.inst.now.tuples s.con.now s.parts.items s.bound c.args.c.now is c.requires.ready c.lawful.ensures.boxes.now c.loop-p.p-index c.loop-p.invariant (omega (arith, long, c.loop-p-test.false)) (omega (arith, ints, slack, some))

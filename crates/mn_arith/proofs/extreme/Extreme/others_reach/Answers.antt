use Rattle.std.proofs.Common.{get_or, w64, to_z, of_z, sym, refl, ◌∙◌, true≢false, arith}
use Rattle.std.proofs.lemmas.Int.{to_z-of_z}
use Rattle.mn_model.specs.declared.constraint.Term.TheVariants.{Var}
use Rattle.mn_prop.specs.Contexts.{box_of}
use Rattle.mn_arith.specs.Extremes.{Reaches}
use Rattle.mn_arith.proofs.Others.{all_others, one_more, stands_now}
use Rattle.mn_arith.proofs.extreme.Extreme.others_reach.Goals as goal
use Rattle.mn_arith.proofs.extreme.Extreme.others_reach.Goals.{else-j-i-via-then-j-i+else-not-reaches, else-j-i-via-else-j-i}

pub returns-then-not-reaches : goal.returns-then-not-reaches
returns-then-not-reaches c =
    let us = c.as_slice-t-items.result.now in
    let stands = stands_now us c.args.self.now.terms.now c.loop-j.j (Var (record { 0 = 0 })) c.as_slice-t-items.ensures c.loop-j-test.true in
    let exact = rw (to_z-of_z w64 c.args.m c.ranges.m) at c.reaches.ensures in
    (λ never. absurd (true≢false (sym never)), λ all. absurd (true≢false (sym (exact.1 (all c.loop-j.j (get_or us c.loop-j.j (Var (record { 0 = 0 }))) stands c.if-j-i.true)) ∙ c.if-not-reaches.true)))

pub loop-j-preserved : goal.loop-j-preserved
loop-j-preserved c =
    one_more c.as_slice-t-items.result.now c.args.self.now.terms.now c.loop-j.j c.args.i (Var (record { 0 = 0 })) (Reaches c.args.self.now.greatest (to_z w64 (of_z w64 c.args.m)) (box_of c.args.c.now)) c.as_slice-t-items.ensures c.loop-j-test.true c.loop-j.invariant
    (elim c.else-j-i.branch [
      | else-j-i-via-then-j-i+else-not-reaches w ↦ (λ _. w.reaches.ensures.0 w.if-not-reaches.false)
      | else-j-i-via-else-j-i w ↦ (λ differs. absurd (differs w.if-j-i.false))
    ])

pub returns : goal.returns
returns c =
    let so_far = rw (to_z-of_z w64 c.args.m c.ranges.m) at c.loop-j.invariant in
    (λ _. all_others c.as_slice-t-items.result.now c.args.self.now.terms.now c.loop-j.j c.args.i (Reaches c.args.self.now.greatest c.args.m (box_of c.args.c.now)) c.as_slice-t-items.ensures (omega (arith, c.loop-j-test.false)) so_far, λ all. refl)

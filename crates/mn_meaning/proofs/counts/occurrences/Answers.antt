use Rattle.std.proofs.Common.{◌≡◌, w64, ◌≢◌, sym, ◌∙◌, arith}
use Rattle.std.proofs.lemmas.Int.{ints, to_z-of_z}
use Rattle.mn_meaning.proofs.Places.{at_next, occurrences-same, occurrences-other}
use Rattle.mn_meaning.proofs.counts.occurrences.Goals as goal
use Rattle.mn_meaning.proofs.counts.occurrences.Goals.{then-value_at-k, else-value_at-k}

pub loop-t-preserved : goal.loop-t-preserved
loop-t-preserved g c =
    let next = at_next (g.V.Values.values c.args.s.now) c.as_slice-t-items.result.now c.args.v.now c.loop-t.t-index _ c.value_at.result c.as_slice-t-items.ensures c.loop-t-test.true c.value_at.ensures in
    let k = to_z-of_z w64 c.args.k c.ranges.k in
    elim c.if-value_at-k.branch [
      | then-value_at-k w ↦
          (let same : c.value_at.result ≡ c.args.k = omega (arith, ints) in
          let counted = occurrences-same _ c.value_at.result _ _ next (same ∙ sym k) in
          record { whole = omega (arith, ints); most = omega (arith, ints); least = omega (arith, ints) })
      | else-value_at-k w ↦
          (let other : c.value_at.result ≢ c.args.k = omega (arith, ints) in
          let counted = occurrences-other _ c.value_at.result _ _ next (λ e. other (e ∙ k)) in
          record { whole = omega (arith, ints); most = omega (arith, ints); least = omega (arith, ints) })
    ]

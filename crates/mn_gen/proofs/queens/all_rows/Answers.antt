use Rattle.std.proofs.Common.{[], ◌∷◌, ◌++◌, sym, ◌∙◌, arith}
use Rattle.std.proofs.lemmas.List.FromFn.{map-range_with_len_more}
use Rattle.mn_gen.specs.Generated.{at_row}
use Rattle.mn_gen.proofs.queens.all_rows.Goals as goal

pub loop-i-preserved : goal.loop-i-preserved
loop-i-preserved c =
    c.in_ok-push.ensures.ok
    ∙ (λ i. c.loop-i.invariant i ++ c.at_row.ensures i ∷ [])
    ∙ sym (map-range_with_len_more at_row 0 c.loop-i.i c.loop-i.i (omega arith))

use Rattle.std.proofs.Common.{ap, ◌∙◌, w64}
use Rattle.std.proofs.lemmas.Int.{to_z-of_z}
use Rattle.mn_model.specs.Negation.{more}
use Rattle.mn_model.specs.declared.constraint.Con.TheVariants.{Ineq, WatchedOr}
use Rattle.mn_model.proofs.Children.{made_more}
use Rattle.mn_gen.proofs.queens.less_or_more.Goals as goal

pub returns : goal.returns
returns c =
    let first = c.in_ok-first.ensures ∙ ap (Ineq c.args.x c.args.y) (to_z-of_z w64 c.args.k c.ranges.k) in
    let second = c.in_ok-new.ensures ∙ ap (Ineq c.args.y c.args.x) (to_z-of_z w64 c.args.l c.ranges.l) in
    let last = made_more c.in_ok-new.field-0 c.in_ok-new-2.field-0 ∙ (λ i. more (second i) (c.in_ok-new-2.ensures i)) in
    ap WatchedOr (made_more c.in_ok-first.first c.in_ok-new-3.field-0 ∙ (λ i. more (first i) ((c.in_ok-new-3.ensures ∙ last) i)))

use Rattle.std.proofs.Common.{sym, ap, ◌∙◌}
use Rattle.mn_model.specs.declared.constraint.Con.TheVariants as made
use Rattle.mn_model.proofs.Children.{made_reified, made_implied}
use Rattle.mn_language.specs.Constraints.{tied}
use Rattle.mn_language.specs.declared.forms.Tie.{Tie}
use Rattle.mn_constraints.proofs.nested.beside.Goals as goal

pub returns-in-Reify : goal.returns-in-Reify
returns-in-Reify c =
    ap (λ x. made.Reify x c.args.bit) c.in_ok-part.ensures ∙ made_reified c.args.con c.args.bit ∙ ap (λ (t : Tie). tied t c.args.con c.args.bit) (sym c.in-Reify.is)

pub returns-in-Reifyimply : goal.returns-in-Reifyimply
returns-in-Reifyimply c =
    ap (λ x. made.Reifyimply x c.args.bit) c.in_ok-part.ensures ∙ made_implied c.args.con c.args.bit ∙ ap (λ (t : Tie). tied t c.args.con c.args.bit) (sym c.in-Reifyimply.is)

use Rattle.std.proofs.Common.{ap}
use Rattle.mn_model.specs.declared.variable.Kind.{Kind}
use Rattle.mn_canonical.specs.Declarations.{domain_text}
use Rattle.mn_printer.proofs.Joining.{onto_none}
use Rattle.mn_printer.proofs.declarations.domain.Goals as goal

pub returns-in-Binary : goal.returns-in-Binary
returns-in-Binary c = onto_none _ _ (ap (λ (k : Kind). domain_text k c.args.domain.now) c.in-Binary.is)

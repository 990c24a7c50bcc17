use Rattle.std.proofs.Common.{ap, sym, ◌∙◌}
use Rattle.mn_canonical.specs.Names.{numbered_text}
use Rattle.mn_printer.proofs.Joining.{onto_none}
use Rattle.mn_printer.proofs.names.variable.Goals as goal

pub returns-in-None : goal.returns-in-None
returns-in-None c = onto_none _ _ (ap (numbered_text c.args.inst.now.decls) (sym c.number.ensures) ∙ c.owner.ensures.missing c.in-None.is)

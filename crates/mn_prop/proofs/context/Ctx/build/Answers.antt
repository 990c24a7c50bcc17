use Rattle.std.proofs.Common.{subst, sym}
use Rattle.mn_prop.specs.Contexts.{AreValued}
use Rattle.mn_prop.proofs.Valued.{declared_valued}
use Rattle.mn_prop.proofs.context.Ctx.build.Goals as goal

pub invariant_of-result : goal.invariant_of-result
invariant_of-result c = subst AreValued (sym c.requires) (declared_valued c.args.inst.now.decls c.lawful.ensures.decls)

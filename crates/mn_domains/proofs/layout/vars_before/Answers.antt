use Rattle.std.proofs.Common.{ap, arith, refl, sym, ◌∙◌}
use Rattle.std.proofs.lemmas.Option.{slice_get_read}
use Rattle.mn_model.specs.Variable.{number_of}
use Rattle.mn_model.specs.declared.declaration.Decl.{Decl}
use Rattle.mn_domains.proofs.Layers.{begins_at}
use Rattle.mn_domains.proofs.layout.vars_before.Goals as goal

pub returns-then-k-decls : goal.returns-then-k-decls
returns-then-k-decls c =
    let d = c.index-decls-k.result in
    let at = slice_get_read c.decls-decls.result.now _ c.args.k d refl c.if-k-decls.true c.index-decls-k.is in
    let is = rw c.decls-decls.ensures at at in
    c.number.ensures ∙ (ap (λ (x : Decl). number_of x.first) (sym c.index-decls-k.is) ∙ (begins_at 0 c.args.inst.now.decls c.args.k d c.lawful.ensures.numbered is ∙ omega arith))

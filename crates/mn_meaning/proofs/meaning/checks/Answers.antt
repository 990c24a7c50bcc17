use Rattle.std.proofs.Common.{List, refl, sym, subst}
use Rattle.std.specs.List.{AllByRecursion}
use Rattle.std.proofs.lemmas.Option.{slice_get-get_or}
use Rattle.mn_model.specs.Lawful.{IsLawfulCon, IsMeant}
use Rattle.mn_model.specs.Problem.{domains_of}
use Rattle.mn_model.specs.declared.constraint.Con.{Con}
use Rattle.mn_model.proofs.Lists.{all_at}
use Rattle.mn_meaning.specs.Meaning.{Holds, HoldsAll}
use Rattle.mn_meaning.proofs.Checked.{all_hold, one_more}
use Rattle.mn_meaning.proofs.meaning.checks.Goals as goal
use Rattle.mn_meaning.proofs.Meant.{lawful_meant}

pub holds-requires-clause-meant : goal.holds-requires-clause-meant
holds-requires-clause-meant c =
    let lawful = subst (λ (cs : List Con). AllByRecursion (IsLawfulCon (domains_of c.args.inst.now.decls) c.args.inst.now.tuples) cs) (sym c.cons-con-items.ensures) c.lawful.ensures.cons in
    subst (λ (con : Con). IsMeant c.args.inst.now.tuples con) (sym c.con-item.is)
    (lawful_meant (domains_of c.args.inst.now.decls) c.args.inst.now.tuples _ (all_at (IsLawfulCon (domains_of c.args.inst.now.decls) c.args.inst.now.tuples) c.cons-con-items.result.now c.loop-con.con-index _ lawful (slice_get-get_or c.cons-con-items.result.now c.loop-con.con-index _ c.loop-con-test.true)))

pub loop-con-preserved : goal.loop-con-preserved
loop-con-preserved c = one_more c.args.inst.now.tuples c.cons-con-items.result.now c.loop-con.con-index c.args.s.now c.loop-con.invariant _ c.loop-con-test.true (subst (λ (con : Con). Holds c.args.inst.now.tuples c.args.s.now con) c.con-item.is (c.if-not-holds.ensures.0 refl))

pub returns : goal.returns
returns c =
    let all = all_hold c.args.inst.now.tuples c.cons-con-items.result.now c.loop-con.con-index c.args.s.now c.loop-con.invariant c.loop-con-test.false in
    (λ _. subst (λ (cs : List Con). HoldsAll c.args.inst.now.tuples cs c.args.s.now) c.cons-con-items.ensures all, λ _. refl)

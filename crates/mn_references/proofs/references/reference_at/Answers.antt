use Rattle.std.proofs.Common.{◌≡◌, Option, Some, None, Ok, drop, sym, ap, ◌∙◌, subst}
use Rattle.std.proofs.lemmas.Result.{err_from_is_err_and}
use Rattle.mn_grammar.specs.Gives.{Stops}
use Rattle.mn_grammar.specs.Reading.{judged}
use Rattle.mn_grammar.specs.declared.Kind.{Kind}
use Rattle.mn_model.specs.Problem.{Problem}
use Rattle.mn_references.specs.Aims.{aim_seen}
use Rattle.mn_references.specs.Lookups.{lead_seen}
use Rattle.mn_cursor.specs.Progress.{Progress, rest}
use Rattle.mn_references.specs.References.{at_name, lead_of}
use Rattle.mn_references.proofs.Stepping.{ref_unnamed, ref_unknown, ref_broken, ref_goes_on}
use Rattle.mn_references.proofs.references.reference_at.Goals as goal

pub returns-in_err-name-clause-gives : goal.returns-in_err-name-clause-gives
returns-in_err-name-clause-gives c =
    let p = err_from_is_err_and c.from_residual.result c.from_residual.ensures.1 in
    rw (p.1, p.2) (ref_unnamed c.args.scan.now.problem (aim_seen c.args.scan.now.problem c.args.aim) (rest c.args.scan.now) c.in_err-name.field-0.0 c.in_err-name.ensures.sees)

pub returns-in_default-clause-gives : goal.returns-in_default-clause-gives
returns-in_default-clause-gives c =
    ref_unknown c.args.scan.now.problem (aim_seen c.args.scan.now.problem c.args.aim) (rest c.args.scan.now) c.in_ok-name.name.now c.refused.result c.in_ok-name.ensures.sees
    (subst (λ (p : Problem). lead_of p c.in_ok-name.name.now ≡ None) c.inst.ensures (sym c.in_default.ensures.found)) c.refused.ensures

pub returns-in_err-accept-clause-gives : goal.returns-in_err-accept-clause-gives
returns-in_err-accept-clause-gives c =
    let p = err_from_is_err_and c.from_residual-in_err-accept.result c.from_residual-in_err-accept.ensures.1 in
    let l = lead_seen c.in-Some.lookup in
    let ts = rest c.args.scan.now in
    let kind : c.name_kind.result ≡ at_name (aim_seen c.args.scan.now.problem c.args.aim) (Some l) =
    c.name_kind.ensures ∙ ap (λ (p : Problem). at_name (aim_seen p c.args.aim) (Some l)) c.inst-2.ensures in
    rw (p.1, p.2) (ref_broken c.args.scan.now.problem (aim_seen c.args.scan.now.problem c.args.aim) ts c.in_ok-name.name.now l c.in_err-accept.field-0.0 c.in_ok-name.ensures.sees
    (subst (λ (p : Problem). lead_of p c.in_ok-name.name.now ≡ Some l) c.inst.ensures (sym c.in-Some.ensures.found))
    (subst (λ (k : Option Kind). Stops c.in_err-accept.field-0.0 (judged k (tt {0}) ts (drop 1 ts))) kind c.in_err-accept.ensures.gives))

pub returns-clause-gives : goal.returns-clause-gives
returns-clause-gives c =
    let l = lead_seen c.in-Some.lookup in
    let ts = rest c.args.scan.now in
    let us = rest c.accept.new.self in
    let kind : c.name_kind.result ≡ at_name (aim_seen c.args.scan.now.problem c.args.aim) (Some l) =
    c.name_kind.ensures ∙ ap (λ (p : Problem). at_name (aim_seen p c.args.aim) (Some l)) c.inst-2.ensures in
    let problem : c.accept.new.self.problem ≡ c.args.scan.now.problem = ap (λ (s : Progress). s.problem) c.in_ok-accept.ensures.moves in
    ref_goes_on c.args.scan.now.problem (aim_seen c.args.scan.now.problem c.args.aim) ts _ c.behind_name.result c.in_ok-name.name.now l us c.in_ok-name.ensures.sees
    (subst (λ (p : Problem). lead_of p c.in_ok-name.name.now ≡ Some l) c.inst.ensures (sym c.in-Some.ensures.found))
    (subst (λ (k : Option Kind). judged k (tt {0}) ts (drop 1 ts) ≡ Ok (tt {0}, us)) kind c.in_ok-accept.ensures.gives)
    (aim_seen c.accept.new.self.problem c.args.aim) (ap (λ (p : Problem). aim_seen p c.args.aim) problem) c.behind_name.ensures.gives

use Rattle.std.proofs.Common.{rules, ◌≡◌, [], is_some, true, false, None, Ok, sym, ap, ◌∙◌, subst}
use Rattle.std.proofs.lemmas.Result.{err_from_is_err_and}
use Rattle.mn_grammar.specs.Gives.{Stops}
use Rattle.mn_model.specs.Lawful.{IsLawful, IsLawfulAlias}
use Rattle.mn_model.specs.Problem.{Problem, domains_of}
use Rattle.mn_model.specs.declared.declaration.Alias.{Alias}
use Rattle.mn_cursor.specs.Added.{with_alias}
use Rattle.mn_cursor.specs.Progress.{Progress, rest}
use Rattle.mn_references.specs.References.{one_place}
use Rattle.mn_references.specs.Referring.{ref_at}
use Rattle.mn_decls.specs.Brackets.{IsNamed}
use Rattle.mn_decls.specs.Variables.{with_alias_by}
use Rattle.mn_decls.proofs.AliasSteps.{var_equals_stops, var_ref_stops, var_ends, not_named, none_behind}
use Rattle.mn_decls.proofs.LawfulAliases.{one_lawful}
use Rattle.mn_decls.proofs.aliases.one.Goals as goal

pub returns-in_err-mark-clause-err : goal.returns-in_err-mark-clause-err
returns-in_err-mark-clause-err c =
    let p = err_from_is_err_and c.from_residual.result c.from_residual.ensures.1 in
    rw (p.1, p.2) (var_equals_stops c.args.c.now.problem c.args.name.now (rest c.args.c.now) c.in_err-mark.field-0.0 c.in_err-mark.ensures.gives)

pub returns-in_err-named-clause-err : goal.returns-in_err-named-clause-err
returns-in_err-named-clause-err c =
    let p = err_from_is_err_and c.from_residual-in_err-named.result c.from_residual-in_err-named.ensures.1 in
    let e = c.in_err-named.field-0.0 in
    let before : c.mark.new.self.problem ≡ c.args.c.now.problem = ap (λ x. x.problem) c.in_ok-mark.ensures.moves in
    rw (p.1, p.2)
    (var_ref_stops c.args.c.now.problem c.args.name.now (rest c.args.c.now) (rest c.mark.new.self) c.in_ok-mark.ensures.gives e
    (subst (λ (q : Problem). Stops e (ref_at q (one_place q false) (rest c.mark.new.self))) before c.in_err-named.ensures.err))

pub returns-then-is_some-clause-ok : goal.returns-then-is_some-clause-ok
returns-then-is_some-clause-ok c =
    let before : c.mark.new.self.problem ≡ c.args.c.now.problem = ap (λ x. x.problem) c.in_ok-mark.ensures.moves in
    let now : c.one_name.new.c.problem ≡ c.args.c.now.problem = ap (λ x. x.problem) c.in_ok-named.ensures.moves ∙ before in
    let is = subst (λ (q : Problem). IsNamed q (rest c.mark.new.self) (rest c.one_name.new.c) c.in_ok-named.named) before c.in_ok-named.ensures.ok in
    let some : is_some c.in_ok-named.named.behind ≡ true = search rules in
    var_ends c.args.c.now.problem c.args.name.now (rest c.args.c.now) (rest c.mark.new.self) c.in_ok-mark.ensures.gives c.one_name.new.c.problem c.in_ok-named.named.behind is.0 (rest c.one_name.new.c) is.1
    (not_named is.0.behind c.args.c.now.problem c.args.name.now is.0.vars (ap is_some (sym is.3) ∙ some) ∙ sym now) (sym is.3)

pub alias-requires-clause-lawful : goal.alias-requires-clause-lawful
alias-requires-clause-lawful c =
    let before : c.mark.new.self.problem ≡ c.args.c.now.problem = ap (λ x. x.problem) c.in_ok-mark.ensures.moves in
    let now : c.one_name.new.c.problem ≡ c.args.c.now.problem = ap (λ x. x.problem) c.in_ok-named.ensures.moves ∙ before in
    let is = subst (λ (q : Problem). IsNamed q (rest c.mark.new.self) (rest c.one_name.new.c) c.in_ok-named.named) before c.in_ok-named.ensures.ok in
    let none : is_some c.in_ok-named.named.behind ≡ false = search rules in
    let lawful : IsLawful c.args.c.now.problem = subst IsLawful c.inst.ensures c.lawful.ensures in
    let of_alias = one_lawful c.args.c.now.problem lawful c.args.name.now (rest c.mark.new.self) (rest c.one_name.new.c) is.0 c.requires.named (sym is.3 ∙ none_behind c.in_ok-named.named.behind none) is.1 in
    let same : ◌≡◌ {A = Alias} (record { name = c.args.name.now; dims = []; vars = is.0.vars }) (record { name = c.in_ok-text.text; dims = c.new-dims.result; vars = c.in_ok-named.named.vars }) =
    λ i. record { name = sym c.in_ok-text.ensures i; dims = sym c.new-dims.ensures i; vars = sym is.2 i } in
    subst (λ (q : Problem). IsLawfulAlias (domains_of q.decls) (record { name = c.in_ok-text.text; dims = c.new-dims.result; vars = c.in_ok-named.named.vars })) (sym now)
    (subst (λ (a : Alias). IsLawfulAlias (domains_of c.args.c.now.problem.decls) a) same of_alias)

pub returns-clause-ok : goal.returns-clause-ok
unfolding rest
returns-clause-ok c =
    let before : c.mark.new.self.problem ≡ c.args.c.now.problem = ap (λ x. x.problem) c.in_ok-mark.ensures.moves in
    let now : c.one_name.new.c.problem ≡ c.args.c.now.problem = ap (λ x. x.problem) c.in_ok-named.ensures.moves ∙ before in
    let is = subst (λ (q : Problem). IsNamed q (rest c.mark.new.self) (rest c.one_name.new.c) c.in_ok-named.named) before c.in_ok-named.ensures.ok in
    let none : is_some c.in_ok-named.named.behind ≡ false = search rules in
    let ends = sym is.3 ∙ none_behind c.in_ok-named.named.behind none in
    let made : with_alias_by is.0.behind c.args.c.now.problem c.args.name.now is.0.vars ≡ with_alias c.one_name.new.c.problem c.in_ok-text.text c.new-dims.result c.in_ok-named.named.vars =
    ap (λ o. with_alias_by o c.args.c.now.problem c.args.name.now is.0.vars) ends
    ∙ (λ i. with_alias (sym now i) (sym c.in_ok-text.ensures i) (sym c.new-dims.ensures i) (sym is.2 i)) in
    var_ends c.args.c.now.problem c.args.name.now (rest c.args.c.now) (rest c.mark.new.self) c.in_ok-mark.ensures.gives
    (with_alias c.one_name.new.c.problem c.in_ok-text.text c.new-dims.result c.in_ok-named.named.vars) None is.0 (rest c.one_name.new.c) is.1 made ends
    ∙ ap (λ (x : Progress). Ok (record { problem = x.problem; behind = None }, rest x)) (sym c.in_ok-alias.ensures.ok)

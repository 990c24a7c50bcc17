use Rattle.std.proofs.Common.{rules, ◌≡◌, inl, inr, drop, Some, None, Ok, sym, ap, ◌∙◌, subst}
use Rattle.std.proofs.lemmas.Result.{err_from_is_err_and}
use Rattle.mn_grammar.specs.Gives.{Stops}
use Rattle.mn_grammar.specs.Reading.{judged}
use Rattle.mn_model.specs.Problem.{Problem}
use Rattle.mn_cursor.specs.Looks.{first_as}
use Rattle.mn_cursor.specs.Progress.{rest}
use Rattle.mn_references.specs.Conditions.{lesser, as_kind}
use Rattle.mn_decls.specs.Variables.{Declaring, kind_word, alias_word, which_word, room_for_one, declaration_at, alias_at}
use Rattle.mn_decls.proofs.VariableSteps.{unseen_word, word_stops, rest_stops, rest_goes_on, head_stops, entries_end, kind_stops, kind_reads, alias_same}
use Rattle.mn_decls.proofs.declaring.entry.Goals as goal

pub returns-in_err-kind-clause-err : goal.returns-in_err-kind-clause-err
returns-in_err-kind-clause-err c =
    let p = err_from_is_err_and c.from_residual.result c.from_residual.ensures.1 in
    let s : Declaring = record { problem = c.args.c.now.problem; behind = c.args.behind } in
    rw (p.1, p.2) (unseen_word s (rest c.args.c.now) c.in_err-kind.field-0.0 c.in_err-kind.ensures.sees)

pub returns-in_err-accept-in-Kind-clause-err : goal.returns-in_err-accept-in-Kind-clause-err
returns-in_err-accept-in-Kind-clause-err c =
    let p = err_from_is_err_and c.from_residual-in_err-accept-in-Kind.result c.from_residual-in_err-accept-in-Kind.ensures.1 in
    let s : Declaring = record { problem = c.args.c.now.problem; behind = c.args.behind } in
    let e = c.in_err-accept-in-Kind.field-0.0 in
    let seen : first_as which_word (rest c.args.c.now) ≡ Some (inl (kind_word c.in-Kind.kind)) = search rules in
    let k : c.lesser.result ≡ lesser (as_kind c.args.behind) (room_for_one c.args.c.now.problem) = search rules in
    rw (p.1, p.2)
    (word_stops s (rest c.args.c.now) (kind_word c.in-Kind.kind) seen e
    (subst (λ x. Stops e (judged x (tt {0}) (rest c.args.c.now) (drop 1 (rest c.args.c.now)))) k c.in_err-accept-in-Kind.ensures.gives))

pub returns-in_err-declaration-in-Kind-clause-err : goal.returns-in_err-declaration-in-Kind-clause-err
returns-in_err-declaration-in-Kind-clause-err c =
    let p = err_from_is_err_and c.from_residual-in_err-declaration-in-Kind.result c.from_residual-in_err-declaration-in-Kind.ensures.1 in
    let s : Declaring = record { problem = c.args.c.now.problem; behind = c.args.behind } in
    let e = c.in_err-declaration-in-Kind.field-0.0 in
    let seen : first_as which_word (rest c.args.c.now) ≡ Some (inl (kind_word c.in-Kind.kind)) = search rules in
    let k : c.lesser.result ≡ lesser (as_kind c.args.behind) (room_for_one c.args.c.now.problem) = search rules in
    let before : c.accept.new.self.problem ≡ c.args.c.now.problem = ap (λ x. x.problem) c.in_ok-accept-in-Kind.ensures.moves in
    rw (p.1, p.2)
    (rest_stops s (rest c.args.c.now) (kind_word c.in-Kind.kind) seen (rest c.accept.new.self)
    (subst (λ x. judged x (tt {0}) (rest c.args.c.now) (drop 1 (rest c.args.c.now)) ≡ Ok (tt {0}, rest c.accept.new.self)) k c.in_ok-accept-in-Kind.ensures.gives) e
    (kind_stops s c.in-Kind.kind (rest c.accept.new.self) e
    (subst (λ (q : Problem). Stops e (declaration_at q c.in-Kind.kind (rest c.accept.new.self))) before c.in_err-declaration-in-Kind.ensures.err)))

pub returns-in_ok-declaration-in-Kind-clause-ok : goal.returns-in_ok-declaration-in-Kind-clause-ok
returns-in_ok-declaration-in-Kind-clause-ok c =
    let s : Declaring = record { problem = c.args.c.now.problem; behind = c.args.behind } in
    let seen : first_as which_word (rest c.args.c.now) ≡ Some (inl (kind_word c.in-Kind.kind)) = search rules in
    let k : c.lesser.result ≡ lesser (as_kind c.args.behind) (room_for_one c.args.c.now.problem) = search rules in
    let before : c.accept.new.self.problem ≡ c.args.c.now.problem = ap (λ x. x.problem) c.in_ok-accept-in-Kind.ensures.moves in
    rest_goes_on s (rest c.args.c.now) (kind_word c.in-Kind.kind) seen (rest c.accept.new.self)
    (subst (λ x. judged x (tt {0}) (rest c.args.c.now) (drop 1 (rest c.args.c.now)) ≡ Ok (tt {0}, rest c.accept.new.self)) k c.in_ok-accept-in-Kind.ensures.gives)
    (record { problem = c.declaration.new.c.problem; behind = None }) (rest c.declaration.new.c)
    (kind_reads s c.in-Kind.kind (rest c.accept.new.self) c.declaration.new.c.problem (rest c.declaration.new.c)
    (subst (λ (q : Problem). declaration_at q c.in-Kind.kind (rest c.accept.new.self) ≡ Ok (c.declaration.new.c.problem, rest c.declaration.new.c)) before c.in_ok-declaration-in-Kind.ensures.ok))

pub returns-in_err-accept-in-Alias-clause-err : goal.returns-in_err-accept-in-Alias-clause-err
returns-in_err-accept-in-Alias-clause-err c =
    let p = err_from_is_err_and c.from_residual-in_err-accept-in-Alias.result c.from_residual-in_err-accept-in-Alias.ensures.1 in
    let s : Declaring = record { problem = c.args.c.now.problem; behind = c.args.behind } in
    let e = c.in_err-accept-in-Alias.field-0.0 in
    let seen : first_as which_word (rest c.args.c.now) ≡ Some (inl alias_word) = search rules in
    rw (p.1, p.2)
    (word_stops s (rest c.args.c.now) alias_word seen e
    (subst (λ x. Stops e (judged x (tt {0}) (rest c.args.c.now) (drop 1 (rest c.args.c.now)))) c.kind_of-in-Alias.ensures c.in_err-accept-in-Alias.ensures.gives))

pub returns-in_err-alias-in-Alias-clause-err : goal.returns-in_err-alias-in-Alias-clause-err
returns-in_err-alias-in-Alias-clause-err c =
    let p = err_from_is_err_and c.from_residual-in_err-alias-in-Alias.result c.from_residual-in_err-alias-in-Alias.ensures.1 in
    let s : Declaring = record { problem = c.args.c.now.problem; behind = c.args.behind } in
    let e = c.in_err-alias-in-Alias.field-0.0 in
    let seen : first_as which_word (rest c.args.c.now) ≡ Some (inl alias_word) = search rules in
    let before : c.accept-in-Alias.new.self.problem ≡ c.args.c.now.problem = ap (λ x. x.problem) c.in_ok-accept-in-Alias.ensures.moves in
    rw (p.1, p.2)
    (rest_stops s (rest c.args.c.now) alias_word seen (rest c.accept-in-Alias.new.self)
    (subst (λ x. judged x (tt {0}) (rest c.args.c.now) (drop 1 (rest c.args.c.now)) ≡ Ok (tt {0}, rest c.accept-in-Alias.new.self)) c.kind_of-in-Alias.ensures c.in_ok-accept-in-Alias.ensures.gives) e
    (subst (λ r. Stops e (r (rest c.accept-in-Alias.new.self))) (sym (alias_same s))
    (subst (λ (q : Problem). Stops e (alias_at q (rest c.accept-in-Alias.new.self))) before c.in_err-alias-in-Alias.ensures.err)))

pub returns-in_ok-alias-in-Alias-clause-ok : goal.returns-in_ok-alias-in-Alias-clause-ok
returns-in_ok-alias-in-Alias-clause-ok c =
    let s : Declaring = record { problem = c.args.c.now.problem; behind = c.args.behind } in
    let z : Declaring = record { problem = c.alias.new.c.problem; behind = c.in_ok-alias-in-Alias.field-0 } in
    let seen : first_as which_word (rest c.args.c.now) ≡ Some (inl alias_word) = search rules in
    let before : c.accept-in-Alias.new.self.problem ≡ c.args.c.now.problem = ap (λ x. x.problem) c.in_ok-accept-in-Alias.ensures.moves in
    rest_goes_on s (rest c.args.c.now) alias_word seen (rest c.accept-in-Alias.new.self)
    (subst (λ x. judged x (tt {0}) (rest c.args.c.now) (drop 1 (rest c.args.c.now)) ≡ Ok (tt {0}, rest c.accept-in-Alias.new.self)) c.kind_of-in-Alias.ensures c.in_ok-accept-in-Alias.ensures.gives)
    z (rest c.alias.new.c)
    (ap (λ r. r (rest c.accept-in-Alias.new.self)) (alias_same s)
    ∙ subst (λ (q : Problem). alias_at q (rest c.accept-in-Alias.new.self) ≡ Ok (z, rest c.alias.new.c)) before c.in_ok-alias-in-Alias.ensures.ok)

pub returns-in-Some-clause-err : goal.returns-in-Some-clause-err
returns-in-Some-clause-err c =
    let s : Declaring = record { problem = c.args.c.now.problem; behind = c.args.behind } in
    let seen : first_as which_word (rest c.args.c.now) ≡ Some (inr c.in-Head.field-0) = search rules in
    head_stops s (rest c.args.c.now) c.in-Head.field-0 seen c.in-Some.kind c.refused.result (search rules) c.refused.ensures

pub returns-in_default-clause-ok : goal.returns-in_default-clause-ok
returns-in_default-clause-ok c =
    let s : Declaring = record { problem = c.args.c.now.problem; behind = c.args.behind } in
    let seen : first_as which_word (rest c.args.c.now) ≡ Some (inr c.in-Head.field-0) = search rules in
    entries_end s (rest c.args.c.now) c.in-Head.field-0 seen (search rules)

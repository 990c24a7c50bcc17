use Rattle.std.proofs.Common.{rules, ◌≡◌, ◌++◌, ◌∷◌, [], true, false, Ok, refl, sym, ap, ◌∙◌}
use Rattle.std.proofs.lemmas.Result.{err_from_is_err_and}
use Rattle.mn_cursor.specs.Progress.{rest}
use Rattle.mn_cursor.proofs.Turning.{stops_same}
use Rattle.mn_decls.specs.Brackets.{ended}
use Rattle.mn_decls.proofs.AliasSteps.{end_stops, end_goes_on, end_closes, all_closed}
use Rattle.mn_decls.proofs.brackets.Brackets.close.Goals as goal

pub returns-in_err-entry_end-clause-err : goal.returns-in_err-entry_end-clause-err
returns-in_err-entry_end-clause-err c =
    let p = err_from_is_err_and c.from_residual.result c.from_residual.ensures.1 in
    let e = c.in_err-entry_end.field-0.0 in
    let b = c.loop-wanted.self in
    let popped : b.wanted.items ≡ c.pop.new.self.items ++ c.in-Some.wanted ∷ [] = c.in-Some.ensures.items in
    rw (p.1, p.2)
    (stops_same e _ _ (sym c.loop-wanted.invariant.0)
    (end_stops c.args.c.now.problem b (rest c.loop-wanted.c) c.loop-wanted.unfit c.pop.new.self.items c.in-Some.wanted popped (search rules) e
    (c.in_err-entry_end.ensures.gives (record { vars = b.vars; behind = c.loop-wanted.unfit }) refl)))

pub returns-then-branch-clause-ok : goal.returns-then-branch-clause-ok
returns-then-branch-clause-ok c =
    let b = c.loop-wanted.self in
    let popped : b.wanted.items ≡ c.pop.new.self.items ++ c.in-Some.wanted ∷ [] = c.in-Some.ensures.items in
    let is : c.in_ok-entry_end.field-0 ≡ true = search rules in
    end_goes_on c.args.c.now.problem b (rest c.loop-wanted.c) c.loop-wanted.unfit c.pop.new.self.items c.in-Some.wanted popped (search rules) _ (rest c.entry_end.new.c) refl refl
    (c.in_ok-entry_end.ensures.gives (record { vars = b.vars; behind = c.loop-wanted.unfit }) refl
    ∙ ap (λ x. Ok (ended c.in-Some.wanted (record { vars = b.vars; behind = c.loop-wanted.unfit }) x, rest c.entry_end.new.c)) is)
    c.in_ok-push.ensures.items
    ∙ c.loop-wanted.invariant.0

pub loop-wanted-preserved : goal.loop-wanted-preserved
loop-wanted-preserved c =
    let b = c.loop-wanted.self in
    let popped : b.wanted.items ≡ c.pop.new.self.items ++ c.in-Some.wanted ∷ [] = c.in-Some.ensures.items in
    let is : c.in_ok-entry_end.field-0 ≡ false = search rules in (
      end_closes c.args.c.now.problem b (rest c.loop-wanted.c) c.loop-wanted.unfit c.pop.new.self.items c.in-Some.wanted popped (search rules) _ (rest c.entry_end.new.c) refl refl
          (c.in_ok-entry_end.ensures.gives (record { vars = b.vars; behind = c.loop-wanted.unfit }) refl
          ∙ ap (λ x. Ok (ended c.in-Some.wanted (record { vars = b.vars; behind = c.loop-wanted.unfit }) x, rest c.entry_end.new.c)) is)
          refl
          ∙ c.loop-wanted.invariant.0,
      search rules,
      search rules,
      search rules,
    )

pub returns-clause-ok : goal.returns-clause-ok
returns-clause-ok c = (
  c.loop-wanted.unfit,
  sym c.loop-wanted.invariant.0 ∙ all_closed c.args.c.now.problem c.loop-wanted.self (rest c.loop-wanted.c) c.loop-wanted.unfit (search rules),
)

use Rattle.std.proofs.Common.{rules, ◌≤◌, List, ◌++◌, length, map, sym, ap, ◌∙◌, subst}
use Rattle.std.proofs.lemmas.List.{take-map, drop-map, length-map}
use Rattle.mn_model.specs.declared.constraint.Term.{Term}
use Rattle.mn_model.specs.declared.constraint.Term.TheVariants.{Var}
use Rattle.mn_references.specs.Entries.{rows_of}
use Rattle.mn_references.specs.Listing.{IsWhole}
use Rattle.mn_references.proofs.Rowing.{RowsLeft, rows_start, run_fits, rows_more}
use Rattle.mn_references.proofs.rows.rows_of.Goals as goal

pub loop-left-init : goal.loop-left-init
loop-left-init c =
    let terms = map Var c.args.vars.now in
    subst (λ (rows : List (List Term)). RowsLeft c.run-run.result terms rows (rows_of c.args.dims.now terms)) (sym c.new-rows.ensures)
    (rows_start c.args.dims.now c.run-run.result terms c.requires.some (subst (IsWhole c.args.dims.now) (sym (length-map c.args.vars.now Var)) c.requires.whole) c.run-run.ensures)

pub split_at-requires : goal.split_at-requires
split_at-requires c =
    let left = c.loop-left.left.now in
    let there : 1 ≤ length left = search rules in
    subst (λ n. c.run-run.result ≤ n) (length-map left Var)
    (run_fits c.run-run.result (map Var left) c.loop-left.rows _ c.loop-left.invariant (subst (λ n. 1 ≤ n) (sym (length-map left Var)) there))

pub loop-left-preserved : goal.loop-left-preserved
loop-left-preserved c =
    let n = c.run-run.result in
    let left = c.loop-left.left.now in
    let there : 1 ≤ length left = search rules in
    rows_more n (map Var left) (map Var c.split_at.result.1.now) c.push_vars.new.terms c.loop-left.rows c.push.new.self _ c.loop-left.invariant
    (subst (λ n. 1 ≤ n) (sym (length-map left Var)) there)
    (c.in_ok-push_vars.ensures ∙ ap (λ l. l ++ map Var c.split_at.result.0.now) c.new-row.ensures ∙ ap (map Var) c.split_at.ensures.front ∙ sym (take-map Var n left))
    (ap (map Var) c.split_at.ensures.back ∙ sym (drop-map Var n left))
    c.in_ok-push.ensures.ok

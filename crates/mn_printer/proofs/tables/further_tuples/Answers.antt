use Rattle.std.proofs.Common.{◌≡◌, ◌++◌, codes, map, sym, ap, ◌∙◌, arith}
use Rattle.std.specs.List.{flat_map}
use Rattle.mn_printer.specs.Pages.{onto}
use Rattle.mn_canonical.specs.Tables.{tuple_text}
use Rattle.mn_printer.proofs.Joining.{onto_nothing}
use Rattle.mn_printer.proofs.Separating.{twice}
use Rattle.mn_printer.proofs.Rows.{one_mapped_row_more, no_rows}
use Rattle.mn_printer.proofs.tables.further_tuples.Goals as goal

pub loop-left-preserved : goal.loop-left-preserved
loop-left-preserved c =
    one_mapped_row_more c.loop-left.page c.tuple.new.page (λ y. codes "," ++ y) tuple_text c.args.arity c.loop-left.left c.loop-left.rest.now c.row_and_rest.result.1.now
    (codes "," ++ tuple_text c.row_and_rest.result.0.now) c.loop-left-test.true c.row_and_rest.ensures.rest
    (twice _ _ _ (codes ",") _ c.in_ok-put.ensures c.in_ok-tuple.ensures) (ap (λ row. codes "," ++ tuple_text row) c.row_and_rest.ensures.row)
    ∙ c.loop-left.invariant

pub returns : goal.returns
returns c =
    let none : c.loop-left.left ≡ 0 = omega arith in
    sym (onto_nothing _) ∙ ap (λ rows. onto c.loop-left.page (flat_map (λ y. codes "," ++ y) (map tuple_text rows))) (sym (no_rows c.args.arity c.loop-left.left c.loop-left.rest.now none))
    ∙ c.loop-left.invariant

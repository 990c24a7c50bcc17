use Rattle.std.proofs.Common.{◌≡◌, ◌-◌, ◌<◌, ◌∷◌, ◌++◌, map, ap, sym, ◌∙◌, arith}
use Rattle.std.specs.List.{flat_map}
use Rattle.mn_sections.specs.Matrices.{rows_of}
use Rattle.mn_canonical.specs.Lists.{with_commas}
use Rattle.mn_sections.specs.Matrices.{tuple_count}
use Rattle.mn_canonical.specs.Tables.{tuple_text}
use Rattle.mn_printer.proofs.Joining.{onto_none}
use Rattle.mn_printer.proofs.Rows.{no_rows, rows_with_commas}
use Rattle.mn_printer.proofs.Separating.{then_onto}
use Rattle.mn_printer.proofs.tables.tuples.Goals as goal

pub returns-then-count-eq0 : goal.returns-then-count-eq0
returns-then-count-eq0 c =
    let none : tuple_count c.args.arity c.args.cells.now ≡ 0 = sym c.count_of-count.ensures ∙ c.if-count-eq0.true in
    onto_none _ _ (ap (λ rows. with_commas (map tuple_text rows)) (no_rows c.args.arity _ c.args.cells.now none))

pub returns : goal.returns
returns c =
    let some : 0 < c.count_of-count.result = omega (arith, c.if-count-eq0.false) in
    then_onto c.further_tuples.result _ _ _ _ _ _ c.in_ok-tuple.ensures
    (ap (λ n. with_commas (map tuple_text (rows_of c.args.arity n c.args.cells.now))) (sym c.count_of-count.ensures)
    ∙ rows_with_commas tuple_text c.args.arity c.count_of-count.result c.args.cells.now _ some c.row_and_rest.ensures.rest
    ∙ ap (λ row. tuple_text row ++ flat_map (λ y. 44 ∷ y) (map tuple_text (rows_of c.args.arity (c.count_of-count.result - 1) c.row_and_rest.result.1.now))) (sym c.row_and_rest.ensures.row))
    c.further_tuples.ensures

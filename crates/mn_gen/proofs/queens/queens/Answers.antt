use Rattle.std.proofs.Common.{◌∷◌, ◌++◌, sym, ap, ◌∙◌, arith, length, map}
use Rattle.std.specs.List.{range_with_len}
use Rattle.std.proofs.lemmas.List.FromFn.{length-range_with_len}
use Rattle.mn_model.specs.declared.constraint.Con.TheVariants.{Alldiff}
use Rattle.mn_gen.specs.Generated.{at_row, pairs_of_row}
use Rattle.mn_gen.proofs.Boards.{few_in_rows, lawful_rows, rows_more}
use Rattle.mn_gen.proofs.queens.queens.Goals as goal

pub add-requires-clause-lawful : goal.add-requires-clause-lawful
add-requires-clause-lawful c = lawful_rows c.args.n c.in_ok-inst.inst c.in_ok-all_rows.field-0 c.in_ok-inst.ensures c.in_ok-all_rows.ensures c.requires.few

pub keep_row_apart-requires-clause-room : goal.keep_row_apart-requires-clause-room
keep_row_apart-requires-clause-room c =
    omega (arith, ap length c.loop-i.invariant.cons, few_in_rows c.args.n (range_with_len 0 c.loop-i.i) c.requires.few, length-range_with_len 0 c.loop-i.i, c.requires.few)

pub loop-i-preserved : goal.loop-i-preserved
loop-i-preserved c = record {
  board = c.in_ok-keep_row_apart.ensures.board;
  cons = c.in_ok-keep_row_apart.ensures.cons
      ∙ ap (λ cs. cs ++ pairs_of_row c.args.n c.loop-i.i) c.loop-i.invariant.cons
      ∙ ap (λ cs. Alldiff (map at_row (range_with_len 0 c.args.n)) ∷ cs) (sym (rows_more (pairs_of_row c.args.n) 0 c.loop-i.i c.loop-i.i (omega arith)));
}

use Rattle.std.proofs.Common.{◌≡◌, ◌+◌, ◌-◌, ◌++◌, sym, ap, ◌∙◌, arith, length, length-append}
use Rattle.std.specs.List.{flat_map, range_with_len}
use Rattle.std.proofs.lemmas.List.{append_assoc}
use Rattle.mn_gen.specs.Generated.{off_diagonals}
use Rattle.mn_gen.proofs.Boards.{few_pairs, rows_more}
use Rattle.mn_gen.proofs.queens.keep_row_apart.Goals as goal

pub keep_apart-requires-clause-room : goal.keep_apart-requires-clause-room
keep_apart-requires-clause-room c =
    omega (arith, ap length c.loop-d.invariant.cons, length-append c.args.inst.now.cons (flat_map (off_diagonals c.args.i) (range_with_len 1 (c.loop-d.d - 1))), few_pairs c.args.i c.loop-d.d c.loop-d.invariant.least (omega arith), c.requires.room)

pub loop-d-preserved : goal.loop-d-preserved
loop-d-preserved c =
    let before : 1 + (c.loop-d.d - 1) ≡ c.loop-d.d = omega (arith, c.loop-d.invariant.least) in
    let on : c.loop-d.d - 1 + 1 ≡ c.loop-d.d + 1 - 1 = omega (arith, c.loop-d.invariant.least) in
    record {
      board = c.in_ok-keep_apart.ensures.board;
      least = omega arith;
      most = omega arith;
      cons = c.in_ok-keep_apart.ensures.cons
          ∙ ap (λ cs. cs ++ off_diagonals c.args.i c.loop-d.d) c.loop-d.invariant.cons
          ∙ append_assoc c.args.inst.now.cons (flat_map (off_diagonals c.args.i) (range_with_len 1 (c.loop-d.d - 1))) (off_diagonals c.args.i c.loop-d.d)
          ∙ ap (λ cs. c.args.inst.now.cons ++ cs) (sym (rows_more (off_diagonals c.args.i) 1 (c.loop-d.d - 1) c.loop-d.d before))
          ∙ ap (λ m. c.args.inst.now.cons ++ flat_map (off_diagonals c.args.i) (range_with_len 1 m)) on;
    }

use Rattle.std.proofs.Common.{pos, sym, ap, ◌∙◌, get_or, rules, w64}
use Rattle.std.proofs.lemmas.Int.{to_z-of_z}
use Rattle.std.proofs.lemmas.Option.{get_or_from_slice_get}
use Rattle.mn_gen.proofs.Streams.{as_cells_after, three_there}
use Rattle.mn_gen.proofs.tables.cells_of.Goals as goal

pub returns-clause-cells : goal.returns-clause-cells
returns-clause-cells c =
    let hidden = c.args.hidden.now in
    let x = to_z-of_z w64 c.get.result.now (search rules) ∙ sym (get_or_from_slice_get hidden c.args.k c.get.result.now (pos 0) c.get.ensures) in
    let y = to_z-of_z w64 c.get-2.result.now (search rules) ∙ sym (get_or_from_slice_get hidden c.place_on.result c.get-2.result.now (pos 0) c.get-2.ensures) ∙ ap (λ i. get_or hidden i (pos 0)) c.place_on.ensures.place in
    let z = to_z-of_z w64 c.get-3.result.now (search rules) ∙ sym (get_or_from_slice_get hidden c.place_on-2.result c.get-3.result.now (pos 0) c.get-3.ensures) ∙ ap (λ i. get_or hidden i (pos 0)) c.place_on-2.ensures.place in
    let front = three_there hidden c.args.n c.args.k _ c.push.new.self c.push-2.new.self c.push-3.new.self _ _ _ c.new-cells.ensures c.in_ok-push.ensures.ok c.in_ok-push-2.ensures.ok c.in_ok-push-3.ensures.ok x y z in
    as_cells_after hidden c.args.draws.now.state c.args.n c.args.k c.push-3.new.self c.draw_more.new.cells front c.in_ok-draw_more.ensures.cells

use Rattle.std.proofs.Common.{ap, ◌∙◌, rules, w64}
use Rattle.std.proofs.lemmas.Int.{to_z-of_z}
use Rattle.mn_gen.specs.Generated.{next_state}
use Rattle.mn_gen.proofs.Streams.{state_at_once, state_after_one_more, draw_of_state, one_more_drawn}
use Rattle.mn_gen.proofs.tables.draw_more.Goals as goal

pub loop-init : goal.loop-init
loop-init c = record { state = state_at_once c.args.draws.now.state; cells = search rules }

pub loop-preserved : goal.loop-preserved
loop-preserved c =
    let moved = c.next.ensures.state ∙ ap next_state c.loop.invariant.state in
    let same = c.next.ensures.drawn ∙ draw_of_state c.args.draws.now.state c.loop.counter c.next.new.self.state moved in
    record {
      state = moved ∙ state_after_one_more c.args.draws.now.state c.loop.counter;
      cells = c.in_ok-push.ensures.ok ∙ one_more_drawn c.args.draws.now.state c.loop.counter c.args.cells.now c.loop.cells _ c.loop.invariant.cells (to_z-of_z w64 c.next.result (search rules) ∙ same);
    }

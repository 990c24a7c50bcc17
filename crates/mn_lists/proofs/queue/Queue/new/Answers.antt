-- A queue of no numbers lies in a row of zeros.
use Rattle.std.proofs.Common.{◌^◌, ◌<◌, [], List, ℕ, sym, subst, arith}
use Rattle.mn_lists.proofs.Queues.{Holds, empty_queue, holds}
use Rattle.mn_lists.proofs.queue.Queue.new.Goals as goal

pub invariant_of-result : goal.invariant_of-result
invariant_of-result c =
    let fits : c.args.numbers < 2 ^ 60 = omega (arith, c.in_ok-zeroed.ensures.fits) in
    (subst (λ (row : List ℕ). Holds row c.args.numbers c.args.numbers c.args.numbers []) (sym c.in_ok-zeroed.ensures.words) (holds _ _ _ _ [] (empty_queue c.args.numbers fits))).queue

use Rattle.std.proofs.Common.{FitsSigned, rules, w64}
use Rattle.std.proofs.lemmas.Int.{to_z-of_z}
use Rattle.mn_basic.proofs.Reached.{lower_on}
use Rattle.mn_basic.proofs.numbers.lowered_past.Goals as goal

pub loop-k-init : goal.loop-k-init
loop-k-init c = record { remains = λ b lacks inside. inside; part = rw (c.into_iter-k-iterator.ensures.into_iter_gives, c.rev-k-items.ensures.source, c.iter.ensures.rest, c.as_slice.ensures) (λ b has. has) }

pub loop-k-preserved : goal.loop-k-preserved
loop-k-preserved c =
    let fits : FitsSigned w64 c.in-Some.k.now = search rules in
    lower_on c.args.ks.now c.loop-k.k-iterator.iter.rest.now c.next.new.self.iter.rest.now c.in-Some.k.now c.args.own c.loop-k.span c.without-span.result c.in-Some.ensures.steps c.loop-k.invariant (rw (to_z-of_z w64 c.in-Some.k.now fits) at c.without-span.ensures)

pub returns : goal.returns
returns c = c.loop-k.invariant.remains

use Rattle.std.proofs.Common.{◌≡◌, ◌<ℤ◌, of_z, ap, ◌∙◌, sym, true≢false, arith, w64}
use Rattle.std.proofs.lemmas.Int.{ints}
use Rattle.std.proofs.lemmas.Slice.Zip.{either_empty_from_Zip}
use Rattle.std.proofs.lemmas.Bool.Decides.{Decides-eqb}
use Rattle.std.proofs.lemmas.List.{length-map}
use Rattle.std.specs.Iterator.Adapters.{zip_first, zip_second}
use Rattle.std.specs.Slice.Iter.{iter_rest}
use Rattle.mn_meaning.specs.Meaning.{value_of}
use Rattle.mn_meaning.proofs.Lexical.{at_difference, at_last}
use Rattle.mn_meaning.proofs.Places.{value_next, both_end}
use Rattle.mn_meaning.proofs.orders.is_below.Goals as goal

pub returns-then-a-b : goal.returns-then-a-b
returns-then-a-b g c =
    let step = c.in-Some.ensures.steps in
    let next = value_next (g.V.Values.values c.args.s.now) _ c.in-Some.x.now _ c.value_at-a.result step.0 c.value_at-a.ensures in
    let follows = value_next (g.V.Values.values c.args.s.now) _ c.in-Some.y.now _ c.value_at-b.result step.1 c.value_at-b.ensures in
    let decided = at_difference c.args.or_equal _ _ _ _ next _ _ follows (λ e. c.if-a-b.true (ap (of_z w64) e)) in
    (λ less. c.loop-x.invariant.leads.0 (decided.0 (omega (arith, ints, less))), λ leads. (let less : c.value_at-a.result <ℤ c.value_at-b.result = decided.1 (c.loop-x.invariant.leads.1 leads) in grind (arith, ints)))

pub returns-then-or_equal : goal.returns-then-or_equal
returns-then-or_equal g c =
    let end = at_last c.args.or_equal _ _ (both_end (g.V.Values.values c.args.s.now) _ _ (either_empty_from_Zip c.loop-x.x-iterator c.next.new.self _ c.in-None.is c.next.ensures.steps)) in
    let xs = length-map (iter_rest (zip_first c.loop-x.x-iterator)) (value_of (g.V.Values.values c.args.s.now)) in
    let ys = length-map (iter_rest (zip_second c.loop-x.x-iterator)) (value_of (g.V.Values.values c.args.s.now)) in (
      λ same. (let e : c.len.result ≡ c.len-then-or_equal.result = (Decides-eqb _ _).0 same in c.loop-x.invariant.leads.0 (end.0 (c.if-or_equal.true, omega (arith, xs, ys)))),
      λ leads. (let both = end.1 (c.loop-x.invariant.leads.1 leads) in let e : c.len.result ≡ c.len-then-or_equal.result = omega (arith, xs, ys, both.1) in (Decides-eqb _ _).1 e),
    )

pub returns-else-or_equal : goal.returns-else-or_equal
returns-else-or_equal g c =
    let end = at_last c.args.or_equal _ _ (both_end (g.V.Values.values c.args.s.now) _ _ (either_empty_from_Zip c.loop-x.x-iterator c.next.new.self _ c.in-None.is c.next.ensures.steps)) in
    (λ asked. absurd (true≢false (sym asked ∙ c.if-or_equal.false)), λ leads. (end.1 (c.loop-x.invariant.leads.1 leads)).0)

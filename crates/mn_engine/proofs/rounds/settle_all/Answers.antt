use Rattle.std.proofs.Common.{◌≡◌, ◌≤◌, map, length, ap, arith}
use Rattle.std.proofs.lemmas.List.{length-map}
use Rattle.mn_engine.proofs.Rounding.{closed_again, last_round, no_more_rounds, no_round, on_err, one_round, otherwise, ready_again}
use Rattle.mn_engine.proofs.rounds.settle_all.Goals as goal

pub loop-last-init : goal.loop-last-init
loop-last-init g c = no_round _ (map g.P.Scoped.posted c.args.runners.now.items) c.args.c.now

pub pass_all-requires-clause-ready : goal.pass_all-requires-clause-ready
pass_all-requires-clause-ready g c = ready_again c.loop-last.invariant c.requires

pub pass_all-requires-clause-closed : goal.pass_all-requires-clause-closed
pass_all-requires-clause-closed g c = closed_again c.loop-last.invariant

pub returns-then-last-len-clause-ok : goal.returns-then-last-len-clause-ok
returns-then-last-len-clause-ok g c =
    let posted_of = g.P.Scoped.posted in
    let ys = c.loop-last.runners.items in
    let zs = c.pass_all.new.runners.items in
    let new_long : length (map posted_of zs) ≡ length zs = length-map zs posted_of in
    let now_long : length (map posted_of ys) ≡ length ys = length-map ys posted_of in
    let same : length (map posted_of zs) ≡ length (map posted_of ys) = ap length c.in_ok-last.ensures.posted in
    let whole : c.in_ok-last.last ≡ length (map posted_of ys) = omega (arith, c.if-last-len.true, c.len.ensures, c.pass_all.new.runners.ok.0, new_long, same) in
    last_round c.loop-last.invariant c.in_ok-last.last c.lawful.ensures.boxes.now c.in_ok-last.ensures.takes c.in_ok-last.ensures.sound whole c.in_ok-last.ensures.closed

pub loop-last-smaller : goal.loop-last-smaller
loop-last-smaller g c =
    let posted_of = g.P.Scoped.posted in
    let ys = c.loop-last.runners.items in
    let zs = c.pass_all.new.runners.items in
    let new_long : length (map posted_of zs) ≡ length zs = length-map zs posted_of in
    let now_long : length (map posted_of ys) ≡ length ys = length-map ys posted_of in
    let same : length (map posted_of zs) ≡ length (map posted_of ys) = ap length c.in_ok-last.ensures.posted in
    otherwise c.in_ok-last.ensures.fewer (λ all. c.if-last-len.false (omega (arith, all, c.len.ensures, c.pass_all.new.runners.ok.0, new_long, now_long, same)))

pub loop-last-preserved : goal.loop-last-preserved
loop-last-preserved g c =
    let posted_of = g.P.Scoped.posted in
    let ys = c.loop-last.runners.items in
    let zs = c.pass_all.new.runners.items in
    let new_long : length (map posted_of zs) ≡ length zs = length-map zs posted_of in
    let now_long : length (map posted_of ys) ≡ length ys = length-map ys posted_of in
    let same : length (map posted_of zs) ≡ length (map posted_of ys) = ap length c.in_ok-last.ensures.posted in
    let fewer = otherwise c.in_ok-last.ensures.fewer (λ all. c.if-last-len.false (omega (arith, all, c.len.ensures, c.pass_all.new.runners.ok.0, new_long, now_long, same))) in
    let within : c.in_ok-last.last ≤ length (map posted_of ys) = omega (arith, c.in_ok-last.ensures.within, now_long) in
    one_round c.loop-last.invariant c.in_ok-last.last c.in_ok-last.ensures.posted c.in_ok-last.ensures.takes c.in_ok-last.ensures.sound within c.in_ok-last.ensures.closed fewer

pub returns-in_err-last-clause-fail : goal.returns-in_err-last-clause-fail
returns-in_err-last-clause-fail g c = on_err _ c.from_residual.ensures.0 (no_more_rounds c.loop-last.invariant c.in_err-last.ensures.fail)

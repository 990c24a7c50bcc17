use Rattle.std.proofs.Common.{◌≡◌, ◌<◌, ◌+◌, ◌∙◌, Some, ap, length, map, refl, slice_get, subst, sym, arith}
use Rattle.std.proofs.lemmas.List.{get_or-set_same, length-map}
use Rattle.std.proofs.lemmas.Option.{slice_get_read}
use Rattle.mn_prop.specs.Contexts.{Context, vars_of}
use Rattle.mn_prop.specs.Posts.{IsReadyToRun}
use Rattle.mn_prop.proofs.Stepping.{taken_vars}
use Rattle.mn_engine.specs.Settling.{ComesAt}
use Rattle.mn_engine.proofs.Rounding.{Passing, comes_within, first_closed, is_ready, none_onward, none_passed, on_err, passed, posted_at, posted_set, taken_onward}
use Rattle.mn_engine.proofs.rounds.pass_all.Goals as goal

pub loop-i-init : goal.loop-i-init
loop-i-init g c =
    let posts = map g.P.Scoped.posted c.args.runners.now.items in
    let long : length posts ≡ length c.args.runners.now.items = length-map c.args.runners.now.items g.P.Scoped.posted in
    record { posted = refl; passing = none_passed (omega (arith, long, c.requires.within)) c.requires.closed }

pub pass-requires : goal.pass-requires
pass-requires g c =
    let posted_of = g.P.Scoped.posted in
    let xs = c.args.runners.now.items in
    let ys = c.loop-i.runners.items in
    let posts = map posted_of xs in
    let long : length posts ≡ length xs = length-map xs posted_of in
    let size : c.len-len.result ≡ length xs = omega (arith, c.len-len.ensures, c.args.runners.now.ok.0) in
    let same : length ys ≡ length xs = sym (length-map ys posted_of) ∙ (ap length c.loop-i.invariant.posted ∙ long) in
    let below : c.loop-i.i < length posts = omega (arith, size, long, c.loop-i-test.true) in
    let comes = subst (λ n. ComesAt c.args.back n c.loop-i.i c.place-at.result) (size ∙ sym long) c.place-at.ensures in
    let within : c.place-at.result < length ys = let m = comes_within c.args.back (length posts) c.loop-i.i c.place-at.result below comes in omega (arith, m, long, same) in
    let at : slice_get ys c.place-at.result ≡ Some c.index_mut.result.now = slice_get_read ys (length ys) c.place-at.result c.index_mut.result.now refl within c.index_mut.ensures.value in
    let here : slice_get posts c.place-at.result ≡ Some (posted_of c.index_mut.result.now) = subst (λ ps. slice_get ps c.place-at.result ≡ Some (posted_of c.index_mut.result.now)) c.loop-i.invariant.posted (posted_at posted_of ys c.place-at.result c.index_mut.result.now at) in
    record { ready = subst (λ (x : Context). IsReadyToRun (vars_of x) (posted_of c.index_mut.result.now)) (sym c.rest.ensures) (is_ready posts _ (taken_vars c.loop-i.invariant.passing.onward.takes) c.requires.ready here) }

pub returns-in_err-pass-clause-posted : goal.returns-in_err-pass-clause-posted
returns-in_err-pass-clause-posted g c =
    let posted_of = g.P.Scoped.posted in
    let xs = c.args.runners.now.items in
    let ys = c.loop-i.runners.items in
    let posts = map posted_of xs in
    let long : length posts ≡ length xs = length-map xs posted_of in
    let size : c.len-len.result ≡ length xs = omega (arith, c.len-len.ensures, c.args.runners.now.ok.0) in
    let same : length ys ≡ length xs = sym (length-map ys posted_of) ∙ (ap length c.loop-i.invariant.posted ∙ long) in
    let below : c.loop-i.i < length posts = omega (arith, size, long, c.loop-i-test.true) in
    let comes = subst (λ n. ComesAt c.args.back n c.loop-i.i c.place-at.result) (size ∙ sym long) c.place-at.ensures in
    let within : c.place-at.result < length ys = let m = comes_within c.args.back (length posts) c.loop-i.i c.place-at.result below comes in omega (arith, m, long, same) in
    let at : slice_get ys c.place-at.result ≡ Some c.index_mut.result.now = slice_get_read ys (length ys) c.place-at.result c.index_mut.result.now refl within c.index_mut.ensures.value in
    let here : slice_get posts c.place-at.result ≡ Some (posted_of c.index_mut.result.now) = subst (λ ps. slice_get ps c.place-at.result ≡ Some (posted_of c.index_mut.result.now)) c.loop-i.invariant.posted (posted_at posted_of ys c.place-at.result c.index_mut.result.now at) in
    posted_set posted_of ys c.place-at.result c.index_mut.result.now c.pass.new.self at c.pass.ensures.posted ∙ c.loop-i.invariant.posted

pub returns-in_err-pass-clause-takes : goal.returns-in_err-pass-clause-takes
returns-in_err-pass-clause-takes g c =
    let posted_of = g.P.Scoped.posted in
    let xs = c.args.runners.now.items in
    let ys = c.loop-i.runners.items in
    let posts = map posted_of xs in
    let long : length posts ≡ length xs = length-map xs posted_of in
    let size : c.len-len.result ≡ length xs = omega (arith, c.len-len.ensures, c.args.runners.now.ok.0) in
    let same : length ys ≡ length xs = sym (length-map ys posted_of) ∙ (ap length c.loop-i.invariant.posted ∙ long) in
    let below : c.loop-i.i < length posts = omega (arith, size, long, c.loop-i-test.true) in
    let comes = subst (λ n. ComesAt c.args.back n c.loop-i.i c.place-at.result) (size ∙ sym long) c.place-at.ensures in
    let within : c.place-at.result < length ys = let m = comes_within c.args.back (length posts) c.loop-i.i c.place-at.result below comes in omega (arith, m, long, same) in
    let at : slice_get ys c.place-at.result ≡ Some c.index_mut.result.now = slice_get_read ys (length ys) c.place-at.result c.index_mut.result.now refl within c.index_mut.ensures.value in
    let here : slice_get posts c.place-at.result ≡ Some (posted_of c.index_mut.result.now) = subst (λ ps. slice_get ps c.place-at.result ≡ Some (posted_of c.index_mut.result.now)) c.loop-i.invariant.posted (posted_at posted_of ys c.place-at.result c.index_mut.result.now at) in
    taken_onward c.loop-i.invariant.passing.onward _ here (rw c.rest.ensures at c.pass.ensures.step)

pub returns-in_err-pass-clause-fail : goal.returns-in_err-pass-clause-fail
returns-in_err-pass-clause-fail g c =
    let posted_of = g.P.Scoped.posted in
    let xs = c.args.runners.now.items in
    let ys = c.loop-i.runners.items in
    let posts = map posted_of xs in
    let long : length posts ≡ length xs = length-map xs posted_of in
    let size : c.len-len.result ≡ length xs = omega (arith, c.len-len.ensures, c.args.runners.now.ok.0) in
    let same : length ys ≡ length xs = sym (length-map ys posted_of) ∙ (ap length c.loop-i.invariant.posted ∙ long) in
    let below : c.loop-i.i < length posts = omega (arith, size, long, c.loop-i-test.true) in
    let comes = subst (λ n. ComesAt c.args.back n c.loop-i.i c.place-at.result) (size ∙ sym long) c.place-at.ensures in
    let within : c.place-at.result < length ys = let m = comes_within c.args.back (length posts) c.loop-i.i c.place-at.result below comes in omega (arith, m, long, same) in
    let at : slice_get ys c.place-at.result ≡ Some c.index_mut.result.now = slice_get_read ys (length ys) c.place-at.result c.index_mut.result.now refl within c.index_mut.ensures.value in
    let here : slice_get posts c.place-at.result ≡ Some (posted_of c.index_mut.result.now) = subst (λ ps. slice_get ps c.place-at.result ≡ Some (posted_of c.index_mut.result.now)) c.loop-i.invariant.posted (posted_at posted_of ys c.place-at.result c.index_mut.result.now at) in
    on_err _ c.from_residual.ensures.0 (none_onward c.loop-i.invariant.passing.onward _ here (rw c.rest.ensures at c.in_err-pass.ensures.step))

pub loop-i-preserved : goal.loop-i-preserved
loop-i-preserved g c =
    let posted_of = g.P.Scoped.posted in
    let xs = c.args.runners.now.items in
    let ys = c.loop-i.runners.items in
    let posts = map posted_of xs in
    let long : length posts ≡ length xs = length-map xs posted_of in
    let size : c.len-len.result ≡ length xs = omega (arith, c.len-len.ensures, c.args.runners.now.ok.0) in
    let same : length ys ≡ length xs = sym (length-map ys posted_of) ∙ (ap length c.loop-i.invariant.posted ∙ long) in
    let below : c.loop-i.i < length posts = omega (arith, size, long, c.loop-i-test.true) in
    let comes = subst (λ n. ComesAt c.args.back n c.loop-i.i c.place-at.result) (size ∙ sym long) c.place-at.ensures in
    let within : c.place-at.result < length ys = let m = comes_within c.args.back (length posts) c.loop-i.i c.place-at.result below comes in omega (arith, m, long, same) in
    let at : slice_get ys c.place-at.result ≡ Some c.index_mut.result.now = slice_get_read ys (length ys) c.place-at.result c.index_mut.result.now refl within c.index_mut.ensures.value in
    let here : slice_get posts c.place-at.result ≡ Some (posted_of c.index_mut.result.now) = subst (λ ps. slice_get ps c.place-at.result ≡ Some (posted_of c.index_mut.result.now)) c.loop-i.invariant.posted (posted_at posted_of ys c.place-at.result c.index_mut.result.now at) in
    record {
      posted = posted_set posted_of ys c.place-at.result c.index_mut.result.now c.pass.new.self at c.pass.ensures.posted ∙ c.loop-i.invariant.posted;
      passing = subst (Passing c.args.back posts c.args.c.now c.pass.new.c (c.loop-i.i + 1)) (sym c.closed_after-last.ensures)
          (passed c.loop-i.invariant.passing _ below comes here (rw c.rest.ensures at c.in_ok-pass.ensures.step) c.moved.result c.settles.result (sym c.moved.ensures)
          (λ settles. (let settled = rw c.rest.ensures at c.in_ok-pass.ensures.settled in
          settled (sym c.pass.ensures.rests ∙ (ap g.P.Runner.rests (sym (c.index.ensures ∙ get_or-set_same ys c.place-at.result c.pass.new.self c.index.result.now within)) ∙ (sym c.settles.ensures ∙ settles))))));
    }

pub returns-clause-closed : goal.returns-clause-closed
returns-clause-closed g c =
    let posts = map g.P.Scoped.posted c.args.runners.now.items in
    let long : length posts ≡ length c.args.runners.now.items = length-map c.args.runners.now.items g.P.Scoped.posted in
    first_closed c.loop-i.invariant.passing (omega (arith, long, c.len-len.ensures, c.args.runners.now.ok.0, c.loop-i-test.false))

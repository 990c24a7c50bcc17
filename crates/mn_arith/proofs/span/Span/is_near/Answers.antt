use Rattle.std.proofs.Common.{arith, refl, sym, true≢false}
use Rattle.std.proofs.lemmas.Int.{ints}
use Rattle.mn_arith.proofs.Distances.{near_so, not_far}
use Rattle.mn_arith.proofs.span.Span.is_near.Goals as goal

pub returns-then-a-less-2 : goal.returns-then-a-less-2
returns-then-a-less-2 c =
    let out = c.if-a-less-2.true in
    let is = c.less-2.ensures in
    let near = c.requires.own.high in
    let nigh = c.requires.other.low in
    let fits = c.ranges.a in
    (λ never. absurd (true≢false (sym never)), λ some. absurd (let far = (not_far c.args.a c.args.self c.args.other some).2 in omega (arith, ints, far, out, is, near.0, near.1, nigh.0, nigh.1, fits)))

pub returns : goal.returns
returns c =
    let up = c.if-a-lt0.false in
    let one = c.if-a-less.false in
    let first = c.less.ensures in
    let two = c.if-a-less-2.false in
    let second = c.less-2.ensures in
    let low = c.requires.own.low in
    let high = c.requires.own.high in
    let least = c.requires.other.low in
    let most = c.requires.other.high in
    let fits = c.ranges.a in
    (λ e. near_so c.args.a c.args.self c.args.other c.requires.own.filled c.requires.other.filled (omega (arith, ints, up, fits)) (omega (arith, ints, one, first, low.0, low.1, most.0, most.1, fits)) (omega (arith, ints, two, second, high.0, high.1, least.0, least.1, fits)), λ some. refl)

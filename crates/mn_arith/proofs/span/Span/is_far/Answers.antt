use Rattle.std.proofs.Common.{◌⊎◌, ◌≤ℤ◌, ◌-ℤ◌, inl, inr, arith, refl, sym, true≢false}
use Rattle.std.proofs.lemmas.Int.{ints}
use Rattle.mn_arith.proofs.Distances.{far_down, far_side, far_up}
use Rattle.mn_arith.proofs.span.Span.is_far.Goals as goal

pub returns-then-a-less : goal.returns-then-a-less
returns-then-a-less c =
    let le = c.if-a-less.true in
    let is = c.less.ensures in
    let near = c.requires.own.high in
    let nigh = c.requires.other.low in
    let fits = c.ranges.a in
    (λ e. far_up c.args.a c.args.self c.args.other c.requires.own.filled c.requires.other.filled (omega (arith, ints, le, is, near.0, near.1, nigh.0, nigh.1, fits)), λ some. refl)

pub returns-then-a-less-2 : goal.returns-then-a-less-2
returns-then-a-less-2 c =
    let le = c.if-a-less-2.true in
    let is = c.less-2.ensures in
    let near = c.requires.own.low in
    let nigh = c.requires.other.high in
    let fits = c.ranges.a in
    (λ e. far_down c.args.a c.args.self c.args.other c.requires.own.filled c.requires.other.filled (omega (arith, ints, le, is, near.0, near.1, nigh.0, nigh.1, fits)), λ some. refl)

pub returns : goal.returns
returns c = (λ never. absurd (true≢false (sym never)), λ some. absurd (by (far_side c.args.a c.args.self c.args.other some)))
  where
    by : (c.args.a ≤ℤ (c.args.self.hi -ℤ c.args.other.lo)) ⊎ (c.args.a ≤ℤ (c.args.other.hi -ℤ c.args.self.lo)) → ⊥
    by (inl far) =
        let out = c.if-a-less.false in
        let is = c.less.ensures in
        let near = c.requires.own.high in
        let nigh = c.requires.other.low in
        let fits = c.ranges.a in
        omega (arith, ints, far, out, is, near.0, near.1, nigh.0, nigh.1, fits)
    by (inr far) =
        let out = c.if-a-less-2.false in
        let is = c.less-2.ensures in
        let near = c.requires.own.low in
        let nigh = c.requires.other.high in
        let fits = c.ranges.a in
        omega (arith, ints, far, out, is, near.0, near.1, nigh.0, nigh.1, fits)

use Rattle.std.proofs.Common.{◌⊎◌, ◌+ℤ◌, ◌-ℤ◌, FitsSigned, IsTrue, inl, inr, arith, refl, rules, sym, true≢false, w64, ◌∙◌}
use Rattle.std.proofs.lemmas.Int.{ints}
use Rattle.mn_arith.specs.Spans.{SomeBoth}
use Rattle.mn_arith.proofs.Distances.{moved_both, partner_above, partner_below, partner_side}
use Rattle.mn_arith.proofs.span.Span.has_distance.Goals as goal

pub returns-then-meets : goal.returns-then-meets
returns-then-meets c =
    let a = c.args.a in
    let least = c.least_size-least.result in
    let small : FitsSigned w64 least = search rules in
    let near = c.requires.near in
    let high = c.requires.other.high in
    let up = c.least_size-least.ensures.up in
    let below = c.if-z-least.false in
    let one = c.less.ensures in
    let two = c.less-2.ensures in
    (λ e. partner_below a least c.args.self c.args.z c.least_size-least.ensures (moved_both c.args.self _ _ (a -ℤ c.args.z.hi) (a -ℤ least) (c.meets.ensures.0 c.if-meets.true) (omega (arith, ints, one, near.0, near.1, high.0, high.1)) (omega (arith, ints, two, near.0, near.1, high.0, high.1, up, below, small))), λ some. refl)

pub returns : goal.returns
returns c =
    let a = c.args.a in
    let least = c.least_size-least.result in
    let small : FitsSigned w64 least = search rules in
    let near = c.requires.near in
    let high = c.requires.other.high in
    let up = c.least_size-least.ensures.up in
    let below = c.if-z-least.false in
    let one = c.more.ensures in
    let two = c.more-2.ensures in
    (λ e. partner_above a least c.args.self c.args.z c.least_size-least.ensures (moved_both c.args.self _ _ (a +ℤ least) (a +ℤ c.args.z.hi) (c.meets-2.ensures.0 e) (omega (arith, ints, one, near.0, near.1, high.0, high.1, up, below, small)) (omega (arith, ints, two, near.0, near.1, high.0, high.1))), λ some. by (partner_side a least c.args.self c.args.z c.least_size-least.ensures some))
  where
    by : SomeBoth c.args.self (c.args.a -ℤ c.args.z.hi) (c.args.a -ℤ c.least_size-least.result) ⊎ SomeBoth c.args.self (c.args.a +ℤ c.least_size-least.result) (c.args.a +ℤ c.args.z.hi) → IsTrue c.meets-2.result
    by (inl low) =
        let least = c.least_size-least.result in
        let small : FitsSigned w64 least = search rules in
        let near = c.requires.near in
        let high = c.requires.other.high in
        let up = c.least_size-least.ensures.up in
        let below = c.if-z-least.false in
        let one = c.less.ensures in
        let two = c.less-2.ensures in
        absurd (true≢false (sym (c.meets.ensures.1 (moved_both c.args.self (c.args.a -ℤ c.args.z.hi) (c.args.a -ℤ least) _ _ low (omega (arith, ints, one, near.0, near.1, high.0, high.1)) (omega (arith, ints, two, near.0, near.1, high.0, high.1, up, below, small)))) ∙ c.if-meets.false))
    by (inr over) =
        let least = c.least_size-least.result in
        let small : FitsSigned w64 least = search rules in
        let near = c.requires.near in
        let high = c.requires.other.high in
        let up = c.least_size-least.ensures.up in
        let below = c.if-z-least.false in
        let one = c.more.ensures in
        let two = c.more-2.ensures in
        c.meets-2.ensures.1 (moved_both c.args.self (c.args.a +ℤ least) (c.args.a +ℤ c.args.z.hi) _ _ over (omega (arith, ints, one, near.0, near.1, high.0, high.1, up, below, small)) (omega (arith, ints, two, near.0, near.1, high.0, high.1)))

use Rattle.std.proofs.Common.{◌≡◌, ◌+ℤ◌, pos, FitsSigned, to_z, of_z, rules, w64, arith, sym, true≢false, ◌∙◌}
use Rattle.std.proofs.lemmas.Int.{ints, to_z-of_z}
use Rattle.mn_arith.proofs.Factors.{search_ends, search_finds, search_goes_on, search_shrinks}
use Rattle.mn_arith.proofs.span.Span.first_factor.Goals as goal

pub returns-then-x-a : goal.returns-then-x-a
returns-then-x-a c =
    let x = c.args.x in
    let hi : FitsSigned w64 c.args.x.hi = search rules in
    let near = c.requires.given.high in
    let past = rw (c.loop-a.a-is, to_z-of_z w64 c.args.x.hi hi) at c.if-x-a.true in
    let behind : to_z w64 (of_z w64 (to_z w64 (of_z w64 c.args.x.hi) +ℤ pos 1)) ≡ c.args.x.hi +ℤ pos 1 = omega (arith, ints, near.0, near.1) in
    let so_far = rw (c.loop-a.a-is) at c.loop-a.invariant in
    rw behind (search_ends x c.args.self c.args.z c.loop-a.a c.requires.given.filled so_far (omega (arith, ints, past)))

pub returns-then-has_product : goal.returns-then-has_product
returns-then-has_product c =
    let hi : FitsSigned w64 c.args.x.hi = search rules in
    let within = rw (c.loop-a.a-is, to_z-of_z w64 c.args.x.hi hi) at c.if-x-a.false in
    let so_far = rw (c.loop-a.a-is) at c.loop-a.invariant in
    let told = rw (c.loop-a.a-is) at c.has_product.ensures in
    rw (c.loop-a.a-is) (search_finds c.args.x c.args.self c.args.z c.loop-a.a so_far (omega (arith, ints, within)) (told.0 c.if-has_product.true))

pub loop-a-preserved : goal.loop-a-preserved
loop-a-preserved c =
    let next : FitsSigned w64 c.next_factor-a.result = search rules in
    let so_far = rw (c.loop-a.a-is) at c.loop-a.invariant in
    let told = rw (c.loop-a.a-is) at c.has_product.ensures in
    let is = rw (c.loop-a.a-is) at c.next_factor-a.ensures in
    rw (to_z-of_z w64 c.next_factor-a.result next) (search_goes_on c.args.x c.args.self c.args.z c.loop-a.a c.next_factor-a.result so_far (λ some. true≢false (sym (told.1 some) ∙ c.if-has_product.false)) is)

pub loop-a-smaller : goal.loop-a-smaller
loop-a-smaller c =
    let next : FitsSigned w64 c.next_factor-a.result = search rules in
    let is = rw (c.loop-a.a-is) at c.next_factor-a.ensures in
    rw (c.loop-a.a-is, to_z-of_z w64 c.next_factor-a.result next) (search_shrinks c.loop-a.a c.next_factor-a.result (pos 9223372036854775807) is.past (omega (arith, ints, next)))

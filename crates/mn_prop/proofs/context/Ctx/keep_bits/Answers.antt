use Rattle.std.proofs.Common.{int_le, pos, sym}
use Rattle.mn_prop.proofs.Sifting.{bits_agree, sift_as}
use Rattle.mn_prop.proofs.context.Ctx.keep_bits.Goals as goal

pub returns-in-true-false : goal.returns-in-true-false
returns-in-true-false c = sift_as _ (λ x. int_le x (pos 0)) c.args.t c.args.self.now c.set_hi.new.self c.set_hi.result
    (λ a has. sym (bits_agree (λ x. int_le x (pos 0)) c.args.zero c.args.one c.args.t _ c.requires.bits (sym c.in-true-false.is-0) (sym c.in-true-false.is-1) a has)) c.set_hi.ensures

pub returns-in-false-true : goal.returns-in-false-true
returns-in-false-true c = sift_as _ (λ x. int_le (pos 1) x) c.args.t c.args.self.now c.set_lo-in-false-true.new.self c.set_lo-in-false-true.result
    (λ a has. sym (bits_agree (λ x. int_le (pos 1) x) c.args.zero c.args.one c.args.t _ c.requires.bits (sym c.in-false-true.is-0) (sym c.in-false-true.is-1) a has)) c.set_lo-in-false-true.ensures

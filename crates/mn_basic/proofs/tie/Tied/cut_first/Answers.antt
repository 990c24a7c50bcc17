use Rattle.std.proofs.Common.{FitsSigned, rules, w64}
use Rattle.std.proofs.lemmas.Int.{to_z-of_z}
use Rattle.mn_basic.proofs.Tying.{ends_in, ends_small, first_narrows, second_near}
use Rattle.mn_basic.proofs.tie.Tied.cut_first.Goals as goal

pub first_of-requires : goal.first_of-requires
first_of-requires c =
    let s = c.args.self.now in
    let d = c.args.c.now in
    let lo : FitsSigned w64 c.lo.result = search rules in
    let hi : FitsSigned w64 c.hi.result = search rules in
    let low = second_near s.tie s.x s.y s.inst.now.tuples d c.lo.result c.lawful.ensures.boxes.now c.lawful.ensures.valued c.requires c.lo.ensures.least.there in
    let high = second_near s.tie s.x s.y s.inst.now.tuples d c.hi.result c.lawful.ensures.boxes.now c.lawful.ensures.valued c.requires c.hi.ensures.greatest.there in
    ends_small c.of-other.result c.lo.result c.hi.result low high (rw (to_z-of_z w64 c.lo.result lo) at c.of-other.ensures.lo) (rw (to_z-of_z w64 c.hi.result hi) at c.of-other.ensures.hi)

pub returns : goal.returns
returns c =
    let s = c.args.self.now in
    let lo : FitsSigned w64 c.lo.result = search rules in
    let hi : FitsSigned w64 c.hi.result = search rules in
    first_narrows s.tie s.x s.y s.inst.now.tuples c.first_of.result c.lo.result c.hi.result c.args.c.now c.keep.new.c c.keep.result c.requires c.lo.ensures.least c.hi.ensures.greatest
    (λ a b tied both. c.first_of.ensures a b tied (ends_in c.of-other.result c.lo.result c.hi.result (rw (to_z-of_z w64 c.lo.result lo) at c.of-other.ensures.lo) (rw (to_z-of_z w64 c.hi.result hi) at c.of-other.ensures.hi) b both)) c.keep.ensures.step

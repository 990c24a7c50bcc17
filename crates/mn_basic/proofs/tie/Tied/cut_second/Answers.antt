use Rattle.std.proofs.Common.{FitsSigned, rules, w64}
use Rattle.std.proofs.lemmas.Int.{to_z-of_z}
use Rattle.mn_basic.proofs.Tying.{ends_in, ends_small, first_near, second_narrows, second_near}
use Rattle.mn_basic.proofs.tie.Tied.cut_second.Goals as goal

pub second_of-requires-clause-other : goal.second_of-requires-clause-other
second_of-requires-clause-other c =
    let s = c.args.self.now in
    let d = c.args.c.now in
    let lo : FitsSigned w64 c.lo.result = search rules in
    let hi : FitsSigned w64 c.hi.result = search rules in
    let low = first_near s.tie s.x s.y s.inst.now.tuples d c.lo.result c.lawful.ensures.boxes.now c.lawful.ensures.valued c.requires c.lo.ensures.least.there in
    let high = first_near s.tie s.x s.y s.inst.now.tuples d c.hi.result c.lawful.ensures.boxes.now c.lawful.ensures.valued c.requires c.hi.ensures.greatest.there in
    ends_small c.of-other.result c.lo.result c.hi.result low high (rw (to_z-of_z w64 c.lo.result lo) at c.of-other.ensures.lo) (rw (to_z-of_z w64 c.hi.result hi) at c.of-other.ensures.hi)

pub second_of-requires-clause-own : goal.second_of-requires-clause-own
second_of-requires-clause-own c =
    let s = c.args.self.now in
    let d = c.args.c.now in
    let lo : FitsSigned w64 c.lo-2.result = search rules in
    let hi : FitsSigned w64 c.hi-2.result = search rules in
    let low = second_near s.tie s.x s.y s.inst.now.tuples d c.lo-2.result c.lawful.ensures.boxes.now c.lawful.ensures.valued c.requires c.lo-2.ensures.least.there in
    let high = second_near s.tie s.x s.y s.inst.now.tuples d c.hi-2.result c.lawful.ensures.boxes.now c.lawful.ensures.valued c.requires c.hi-2.ensures.greatest.there in
    ends_small c.of-own.result c.lo-2.result c.hi-2.result low high (rw (to_z-of_z w64 c.lo-2.result lo) at c.of-own.ensures.lo) (rw (to_z-of_z w64 c.hi-2.result hi) at c.of-own.ensures.hi)

pub returns : goal.returns
returns c =
    let s = c.args.self.now in
    let lo : FitsSigned w64 c.lo.result = search rules in
    let hi : FitsSigned w64 c.hi.result = search rules in
    let low : FitsSigned w64 c.lo-2.result = search rules in
    let high : FitsSigned w64 c.hi-2.result = search rules in
    second_narrows s.tie s.x s.y s.inst.now.tuples c.second_of.result c.lo.result c.hi.result c.lo-2.result c.hi-2.result c.args.c.now c.keep.new.c c.keep.result c.requires c.lo.ensures.least c.hi.ensures.greatest c.lo-2.ensures.least c.hi-2.ensures.greatest
    (λ a b tied both own.
    c.second_of.ensures a b tied (ends_in c.of-other.result c.lo.result c.hi.result (rw (to_z-of_z w64 c.lo.result lo) at c.of-other.ensures.lo) (rw (to_z-of_z w64 c.hi.result hi) at c.of-other.ensures.hi) a both)
    (ends_in c.of-own.result c.lo-2.result c.hi-2.result (rw (to_z-of_z w64 c.lo-2.result low) at c.of-own.ensures.lo) (rw (to_z-of_z w64 c.hi-2.result high) at c.of-own.ensures.hi) b own)) c.keep.ensures.step

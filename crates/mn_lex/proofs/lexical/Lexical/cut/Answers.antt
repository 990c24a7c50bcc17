use Rattle.std.proofs.Common.{◌+ℤ◌, ◌-ℤ◌, pos, FitsSigned, rules, ap, arith, sym, true≢false, ◌∙◌, w64}
use Rattle.std.proofs.lemmas.Int.{ints, to_z-of_z}
use Rattle.mn_prop.specs.Contexts.{vars_of}
use Rattle.mn_lex.proofs.Ordered.{end_step, strict_step}
use Rattle.mn_lex.proofs.Vectors.{as_long, first_named, order_is, second_named}
use Rattle.mn_lex.proofs.lexical.Lexical.cut.Goals as goal

pub lo-least-requires : goal.lo-least-requires
lo-least-requires c = let s = c.args.self.now in first_named (order_is s.or_equal s.v.now s.w.now) (vars_of c.args.c.now) s.inst.now.tuples c.args.i c.get.result.now c.requires.ready c.get.ensures

pub hi-most-requires : goal.hi-most-requires
hi-most-requires c = let s = c.args.self.now in second_named (order_is s.or_equal s.v.now s.w.now) (vars_of c.args.c.now) s.inst.now.tuples c.args.i c.get-2.result.now c.requires.ready c.get-2.ensures

pub cut_pair-requires-clause-first : goal.cut_pair-requires-clause-first
cut_pair-requires-clause-first c = let s = c.args.self.now in first_named (order_is s.or_equal s.v.now s.w.now) (vars_of c.args.c.now) s.inst.now.tuples c.args.i c.get.result.now c.requires.ready c.get.ensures

pub cut_pair-requires-clause-second : goal.cut_pair-requires-clause-second
cut_pair-requires-clause-second c = let s = c.args.self.now in second_named (order_is s.or_equal s.v.now s.w.now) (vars_of c.args.c.now) s.inst.now.tuples c.args.i c.get-2.result.now c.requires.ready c.get-2.ensures

pub cut_pair-requires-else-rest_leads-clause-first : goal.cut_pair-requires-else-rest_leads-clause-first
cut_pair-requires-else-rest_leads-clause-first c = let s = c.args.self.now in first_named (order_is s.or_equal s.v.now s.w.now) (vars_of c.args.c.now) s.inst.now.tuples c.args.i c.get.result.now c.requires.ready c.get.ensures

pub cut_pair-requires-else-rest_leads-clause-second : goal.cut_pair-requires-else-rest_leads-clause-second
cut_pair-requires-else-rest_leads-clause-second c = let s = c.args.self.now in second_named (order_is s.or_equal s.v.now s.w.now) (vars_of c.args.c.now) s.inst.now.tuples c.args.i c.get-2.result.now c.requires.ready c.get-2.ensures

-- the least value is less than the greatest, so there are numbers behind it and before that
pub before-requires : goal.before-requires
before-requires c =
    let lo : FitsSigned w64 c.lo-least.result = search rules in
    let hi : FitsSigned w64 c.hi-most.result = search rules in
    let less = c.requires.less c.get.result.now c.get-2.result.now c.get.ensures c.get-2.ensures in
    let is_lo = c.lo-least.ensures.is in
    let is_hi = c.hi-most.ensures.is in
    rw (to_z-of_z w64 c.hi-most.result hi) (omega (arith, ints, less, is_lo, is_hi, lo))

pub behind-requires : goal.behind-requires
behind-requires c =
    let lo : FitsSigned w64 c.lo-least.result = search rules in
    let hi : FitsSigned w64 c.hi-most.result = search rules in
    let less = c.requires.less c.get.result.now c.get-2.result.now c.get.ensures c.get-2.ensures in
    let is_lo = c.lo-least.ensures.is in
    let is_hi = c.hi-most.ensures.is in
    rw (to_z-of_z w64 c.lo-least.result lo) (omega (arith, ints, less, is_lo, is_hi, hi))

pub returns-then-rest_leads : goal.returns-then-rest_leads
returns-then-rest_leads c =
    let s = c.args.self.now in
    let lo : FitsSigned w64 c.lo-least.result = search rules in
    let hi : FitsSigned w64 c.hi-most.result = search rules in
    let less = c.requires.less c.get.result.now c.get-2.result.now c.get.ensures c.get-2.ensures in
    end_step s.or_equal s.v.now s.w.now s.inst.now.tuples c.args.c.now c.args.i c.get.result.now c.get-2.result.now c.lawful.ensures.boxes.now c.requires.ready c.get.ensures c.get-2.ensures c.requires.before c.hi-most.result c.lo-least.result
    (as_long s.or_equal s.v.now s.w.now c.requires.ready.suits.shaped) less c.hi-most.ensures.is c.lo-least.ensures.is (c.rest_leads.ensures.0 c.if-rest_leads.true)
    (rw (to_z-of_z w64 c.hi-most.result hi, to_z-of_z w64 c.lo-least.result lo) at c.cut_pair.ensures.step)

pub returns-else-rest_leads : goal.returns-else-rest_leads
returns-else-rest_leads c =
    let s = c.args.self.now in
    let lo : FitsSigned w64 c.lo-least.result = search rules in
    let hi : FitsSigned w64 c.hi-most.result = search rules in
    let most : FitsSigned w64 c.before-else-rest_leads.result = search rules in
    let least : FitsSigned w64 c.behind.result = search rules in
    let less = c.requires.less c.get.result.now c.get-2.result.now c.get.ensures c.get-2.ensures in
    let is_most = (rw (to_z-of_z w64 c.hi-most.result hi) at c.before-else-rest_leads.ensures) ∙ ap (λ n. n -ℤ pos 1) c.hi-most.ensures.is in
    let is_least = (rw (to_z-of_z w64 c.lo-least.result lo) at c.behind.ensures) ∙ ap (λ n. n +ℤ pos 1) c.lo-least.ensures.is in
    strict_step s.or_equal s.v.now s.w.now s.inst.now.tuples c.args.c.now c.args.i c.get.result.now c.get-2.result.now c.lawful.ensures.boxes.now c.requires.ready c.get.ensures c.get-2.ensures c.requires.before c.before-else-rest_leads.result c.behind.result
    (as_long s.or_equal s.v.now s.w.now c.requires.ready.suits.shaped) less is_most is_least (λ leads. true≢false (sym (c.rest_leads.ensures.1 leads) ∙ c.if-rest_leads.false))
    (rw (to_z-of_z w64 c.before-else-rest_leads.result most, to_z-of_z w64 c.behind.result least) at c.cut_pair-else-rest_leads.ensures.step)

use Rattle.std.proofs.Common.{◌≡◌, ◌<ℤ◌, FitsSigned, of_z, rules, to_z, ap, arith, w64}
use Rattle.std.proofs.lemmas.Int.{ints, to_z-of_z}
use Rattle.mn_prop.specs.Contexts.{box_of, vars_of}
use Rattle.mn_lex.proofs.Leaders.{rest_differs, rest_ends, rest_same}
use Rattle.mn_lex.proofs.Vectors.{as_long, first_named, order_is, second_named}
use Rattle.mn_lex.proofs.lexical.Lexical.rest_leads.Goals as goal

pub lo-least-requires : goal.lo-least-requires
lo-least-requires c = let s = c.args.self.now in first_named (order_is s.or_equal s.v.now s.w.now) (vars_of c.args.c.now) s.inst.now.tuples c.loop-i.i c.get.result.now c.requires.ready c.get.ensures

pub hi-most-requires : goal.hi-most-requires
hi-most-requires c = let s = c.args.self.now in second_named (order_is s.or_equal s.v.now s.w.now) (vars_of c.args.c.now) s.inst.now.tuples c.loop-i.i c.get-in-loop-i.result.now c.requires.ready c.get-in-loop-i.ensures

pub returns-then-least-most : goal.returns-then-least-most
returns-then-least-most c =
    let s = c.args.self.now in
    let lo : FitsSigned w64 c.lo-least.result = search rules in
    let hi : FitsSigned w64 c.hi-most.result = search rules in
    let decided = rest_differs s.or_equal (box_of c.args.c.now) c.loop-i.i s.v.now s.w.now c.get.result.now c.get-in-loop-i.result.now c.get.ensures c.get-in-loop-i.ensures c.lo-least.result c.hi-most.result c.lo-least.ensures.is c.hi-most.ensures.is (λ e. c.if-least-most.true (ap (of_z w64) e)) in (
      λ less. c.loop-i.invariant.leads.0 (decided.0 (omega (arith, ints, less))),
      λ leads. (let less : c.lo-least.result <ℤ c.hi-most.result = decided.1 (c.loop-i.invariant.leads.1 leads) in grind (arith, ints)),
    )

pub loop-i-preserved : goal.loop-i-preserved
loop-i-preserved c =
    let s = c.args.self.now in
    let lo : FitsSigned w64 c.lo-least.result = search rules in
    let hi : FitsSigned w64 c.hi-most.result = search rules in
    let same : c.lo-least.result ≡ c.hi-most.result = rw (to_z-of_z w64 c.lo-least.result lo, to_z-of_z w64 c.hi-most.result hi) at (ap (to_z w64) c.if-least-most.false) in
    let rest = rest_same s.or_equal (box_of c.args.c.now) c.loop-i.i s.v.now s.w.now c.get.result.now c.get-in-loop-i.result.now c.get.ensures c.get-in-loop-i.ensures c.lo-least.result c.hi-most.result c.lo-least.ensures.is c.hi-most.ensures.is same in
    record { within = omega (arith, c.loop-i-test.true, c.len-i-end.ensures); leads = (λ leads. c.loop-i.invariant.leads.0 (rest.0 leads), λ leads. rest.1 (c.loop-i.invariant.leads.1 leads)) }

pub returns : goal.returns
returns c =
    let s = c.args.self.now in
    let end = rest_ends s.or_equal (box_of c.args.c.now) c.loop-i.i s.v.now s.w.now (as_long s.or_equal s.v.now s.w.now c.requires.ready.suits.shaped) (omega (arith, c.loop-i-test.false, c.len-i-end.ensures)) in
    (λ is. c.loop-i.invariant.leads.0 (end.0 is), λ leads. end.1 (c.loop-i.invariant.leads.1 leads))

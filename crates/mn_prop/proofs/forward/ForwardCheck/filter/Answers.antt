use Rattle.std.proofs.Common.{◌∙◌, arith, subst, sym, true≢false}
use Rattle.mn_closure.specs.Closed.{IsAlone}
use Rattle.mn_prop.specs.Contexts.{box_of, place_lo}
use Rattle.mn_prop.specs.Forwards.{checked}
use Rattle.mn_prop.proofs.Alone.{bare_closed, bare_fails, index_stands, left_step, none_placed, open_closed, same_term}
use Rattle.mn_prop.proofs.Ready.{ready_named}
use Rattle.mn_prop.proofs.forward.ForwardCheck.filter.Goals as goal

pub returns-then-not-bare : goal.returns-then-not-bare
returns-then-not-bare c = bare_fails (checked c.args.self.now) c.args.c.now _ (λ holds. true≢false (sym (c.bare.ensures.1 holds) ∙ c.if-not-bare.true))

pub returns-then-is_empty : goal.returns-then-is_empty
returns-then-is_empty c =
    let s = c.args.self.now in
    bare_closed (checked c.args.self.now) c.args.c.now (none_placed s.terms.items _ _ s.placed (omega (arith, s.terms.ok.0)) (sym c.is_empty.ensures ∙ c.if-is_empty.true)) (c.bare.ensures.0 c.if-not-bare.false)

pub returns-in-None : goal.returns-in-None
returns-in-None c = open_closed (checked c.args.self.now) c.args.c.now c.args.self.now.fits c.in-None.ensures

pub is_single-requires : goal.is_single-requires
is_single-requires c =
    let s = c.args.self.now in
    ready_named (checked s) _ c.requires (index_stands s.con.now s.terms.items c.in-Some.j c.index.result.now s.placed c.in-Some.ensures.0 c.index.ensures)

pub test_single-requires-clause-single : goal.test_single-requires-clause-single
test_single-requires-clause-single c =
    let s = c.args.self.now in
    let sets = box_of c.args.c.now in
    let stands = index_stands s.con.now s.terms.items c.in-Some.j c.index.result.now s.placed c.in-Some.ensures.0 c.index.ensures in
    λ t at. subst (λ u. IsAlone sets u (place_lo sets u)) (same_term s.con.now c.in-Some.j c.index.result.now t stands at) (c.is_single.ensures.alone.0 c.if-is_single.true)

pub returns-in-Some-2 : goal.returns-in-Some-2
returns-in-Some-2 c = left_step (checked c.args.self.now) c.args.self.now.fits c.lawful.ensures.boxes.now c.requires c.in-Some.ensures.0 c.in-Some.ensures.1 c.revise.ensures

use Rattle.mn_model.specs.declared.constraint.Term.TheVariants.{Var}
use Rattle.mn_prop.specs.Contexts.{box_of, vars_of}
use Rattle.mn_arith.proofs.Finding.{found_all, found_next, place_lawful}
use Rattle.mn_arith.proofs.Others.{stands_now}
use Rattle.mn_arith.proofs.found.Found.gather_all.Goals as goal

pub gather-requires-clause-lawful : goal.gather-requires-clause-lawful
gather-requires-clause-lawful c =
    let s = c.args.of.now in
    place_lawful s.greatest s.terms.now s.x s.inst.now.tuples (vars_of c.args.c.now) c.requires c.loop-t.t-index _ (stands_now c.as_slice-t-items.result.now s.terms.now c.loop-t.t-index (Var (record { 0 = 0 })) c.as_slice-t-items.ensures c.loop-t-test.true)

pub loop-t-preserved : goal.loop-t-preserved
loop-t-preserved c =
    let s = c.args.of.now in
    found_next s.terms.now c.loop-t.t-index _ (box_of c.args.c.now) c.loop-t.self.set c.gather.new.self.set (stands_now c.as_slice-t-items.result.now s.terms.now c.loop-t.t-index (Var (record { 0 = 0 })) c.as_slice-t-items.ensures c.loop-t-test.true) c.loop-t.invariant (c.gather.ensures c.if-not-gather.false)

pub returns : goal.returns
returns c e =
    let s = c.args.of.now in
    found_all s.terms.now c.as_slice-t-items.result.now c.loop-t.t-index (box_of c.args.c.now) c.loop-t.self.set c.as_slice-t-items.ensures c.loop-t.auto.t-index-end c.loop-t-test.false c.loop-t.invariant

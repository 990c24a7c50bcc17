use Rattle.std.proofs.Common.{arith}
use Rattle.mn_count.proofs.Spread.{all_differ, differs_fails, none_differs, one_more_differs, ready_now}
use Rattle.mn_count.proofs.alldiff.Alldiff.filter.Goals as goal

pub loop-i-init : goal.loop-i-init
loop-i-init c = let s = c.args.self.now in none_differs s.v.now s.inst.now.tuples c.args.c.now c.lawful.ensures.boxes.now c.requires

pub spread-requires-clause-ready : goal.spread-requires-clause-ready
spread-requires-clause-ready c = let s = c.args.self.now in ready_now s.v.now s.inst.now.tuples c.args.c.now c.lawful.ensures.boxes.now c.requires c.loop-i.invariant

pub returns-in_err-spread : goal.returns-in_err-spread
returns-in_err-spread c = let s = c.args.self.now in differs_fails s.v.now s.inst.now.tuples c.args.c.now c.lawful.ensures.boxes.now c.requires c.loop-i.invariant c.in_err-spread.ensures c.from_residual.ensures.0

pub loop-i-preserved : goal.loop-i-preserved
loop-i-preserved c = let s = c.args.self.now in one_more_differs s.v.now s.inst.now.tuples c.args.c.now c.lawful.ensures.boxes.now c.requires c.loop-i.invariant c.in_ok-spread.ensures

pub returns : goal.returns
returns c = let s = c.args.self.now in all_differ s.v.now s.inst.now.tuples c.args.c.now c.lawful.ensures.boxes.now c.requires c.loop-i.invariant (omega (arith, c.loop-i-test.false, c.len-i-end.ensures))

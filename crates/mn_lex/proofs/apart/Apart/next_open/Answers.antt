use Rattle.std.proofs.Common.{arith}
use Rattle.mn_prop.specs.Contexts.{box_of, vars_of}
use Rattle.mn_lex.proofs.Parted.{none_open}
use Rattle.mn_lex.proofs.Vectors.{apart_is, first_named, second_named}
use Rattle.mn_lex.proofs.apart.Apart.next_open.Goals as goal

pub are_one-requires-clause-first : goal.are_one-requires-clause-first
are_one-requires-clause-first c = let s = c.args.self.now in first_named (apart_is s.v.now s.w.now) (vars_of c.args.c.now) s.inst.now.tuples c.loop-i.i c.get.result.now c.requires c.get.ensures

pub are_one-requires-clause-second : goal.are_one-requires-clause-second
are_one-requires-clause-second c = let s = c.args.self.now in second_named (apart_is s.v.now s.w.now) (vars_of c.args.c.now) s.inst.now.tuples c.loop-i.i c.get-in-loop-i.result.now c.requires c.get-in-loop-i.ensures

pub returns : goal.returns
returns c = let s = c.args.self.now in none_open (box_of c.args.c.now) c.args.from c.loop-i.i s.v.now s.w.now (omega (arith, c.loop-i-test.false, c.len-i-end.ensures)) c.loop-i.invariant.same

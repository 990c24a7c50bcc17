use Rattle.std.proofs.Common.{arith}
use Rattle.std.proofs.lemmas.Int.{ints}
use Rattle.mn_count.proofs.Occurring.{most_dropped, most_fails, most_free, most_full}
use Rattle.mn_count.proofs.occurrence.Occurrence.at_most.Goals as goal

pub returns-then-most-tally : goal.returns-then-most-tally
returns-then-most-tally c =
    let s = c.args.self.now in
    most_fails s.inst.now.tuples s.v.now s.k s.amount c.args.most c.requires.amount c.args.c.now c.requires.ready c.args.tally.must c.args.tally.may c.requires.tally _ (omega (arith, ints, c.if-most-tally.true))

pub returns-then-tally-most : goal.returns-then-tally-most
returns-then-tally-most c =
    let s = c.args.self.now in
    most_free s.inst.now.tuples s.v.now s.k s.amount c.args.most c.requires.amount c.args.c.now c.requires.ready c.args.tally.must c.args.tally.may c.requires.tally (omega (arith, ints, c.if-tally-most.true))

pub drop_all-requires-clause-full : goal.drop_all-requires-clause-full
drop_all-requires-clause-full c =
    let s = c.args.self.now in
    most_full s.inst.now.tuples s.v.now s.k s.amount c.args.most c.requires.amount c.args.c.now c.requires.ready c.args.tally.must c.args.tally.may c.requires.tally (omega (arith, ints, c.if-most-tally.false, c.if-tally-most.false))

pub returns : goal.returns
returns c =
    let s = c.args.self.now in
    most_dropped s.inst.now.tuples s.v.now s.k s.amount c.args.most c.requires.amount c.args.c.now c.requires.ready c.args.tally.must c.args.tally.may c.requires.tally c.drop_all.new.c c.drop_all.result (omega (arith, ints, c.if-most-tally.false, c.if-tally-most.false)) c.drop_all.ensures.narrows c.drop_all.ensures.still

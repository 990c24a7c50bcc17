use Rattle.std.proofs.Common.{arith}
use Rattle.std.proofs.lemmas.Int.{ints}
use Rattle.mn_count.proofs.Occurring.{least_fails, least_free, least_kept, least_short}
use Rattle.mn_count.proofs.occurrence.Occurrence.at_least.Goals as goal

pub returns-then-tally-least : goal.returns-then-tally-least
returns-then-tally-least c =
    let s = c.args.self.now in
    least_fails s.inst.now.tuples s.v.now s.k s.amount c.args.least c.requires.amount c.args.c.now c.requires.ready c.args.tally.must c.args.tally.may c.requires.tally _ (omega (arith, ints, c.if-tally-least.true))

pub returns-then-least-tally : goal.returns-then-least-tally
returns-then-least-tally c =
    let s = c.args.self.now in
    least_free s.inst.now.tuples s.v.now s.k s.amount c.args.least c.requires.amount c.args.c.now c.requires.ready c.args.tally.must c.args.tally.may c.requires.tally (omega (arith, ints, c.if-least-tally.true))

pub keep_all-requires-clause-short : goal.keep_all-requires-clause-short
keep_all-requires-clause-short c =
    let s = c.args.self.now in
    least_short s.inst.now.tuples s.v.now s.k s.amount c.args.least c.requires.amount c.args.c.now c.requires.ready c.args.tally.must c.args.tally.may c.requires.tally (omega (arith, ints, c.if-tally-least.false, c.if-least-tally.false))

pub returns : goal.returns
returns c =
    let s = c.args.self.now in
    least_kept s.inst.now.tuples s.v.now s.k s.amount c.args.least c.requires.amount c.args.c.now c.requires.ready c.args.tally.must c.args.tally.may c.requires.tally c.keep_all.new.c c.keep_all.result (omega (arith, ints, c.if-tally-least.false, c.if-least-tally.false)) c.keep_all.ensures.narrows c.keep_all.ensures.still

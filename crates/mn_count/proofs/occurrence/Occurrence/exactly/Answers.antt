use Rattle.std.proofs.Common.{◌≢◌, FitsSigned, rules, w64, arith}
use Rattle.std.proofs.lemmas.Int.{ints, to_z-of_z}
use Rattle.mn_count.proofs.Occurring.{both_cut, cuts_high, cuts_low, high_fails, low_fails, named_now, nothing_cut, now_full, now_short, number_named, ready_now, then_dropped, then_free, then_kept}
use Rattle.mn_count.proofs.occurrence.Occurrence.exactly.Goals as goal

pub set_lo-requires : goal.set_lo-requires
set_lo-requires c =
    let s = c.args.self.now in
    number_named s.inst.now.tuples s.v.now s.k s.amount c.args.x c.requires.amount c.args.c.now c.requires.ready c.args.tally.must c.args.tally.may c.requires.tally

pub returns-in_err-set_lo : goal.returns-in_err-set_lo
returns-in_err-set_lo c =
    let s = c.args.self.now in
    let must : FitsSigned w64 c.args.tally.must = search rules in
    let begun = nothing_cut s.inst.now.tuples s.v.now s.k s.amount c.args.x c.requires.amount c.args.c.now c.requires.ready c.args.tally.must c.args.tally.may c.requires.tally in
    low_fails s.inst.now.tuples s.v.now s.k s.amount c.args.x c.requires.amount c.args.c.now c.requires.ready c.args.tally.must c.args.tally.may c.requires.tally begun (rw (to_z-of_z w64 c.args.tally.must must) at c.in_err-set_lo.ensures) c.from_residual.ensures.0

pub set_hi-requires : goal.set_hi-requires
set_hi-requires c =
    let s = c.args.self.now in
    let must : FitsSigned w64 c.args.tally.must = search rules in
    let begun = nothing_cut s.inst.now.tuples s.v.now s.k s.amount c.args.x c.requires.amount c.args.c.now c.requires.ready c.args.tally.must c.args.tally.may c.requires.tally in
    let low = rw (to_z-of_z w64 c.args.tally.must must) at c.in_ok-set_lo.ensures in
    let first = cuts_low s.inst.now.tuples s.v.now s.k s.amount c.args.x c.requires.amount c.args.c.now c.requires.ready c.args.tally.must c.args.tally.may c.requires.tally begun low in
    named_now s.inst.now.tuples s.v.now s.k s.amount c.args.x c.requires.amount c.args.c.now c.requires.ready c.args.tally.must c.args.tally.may c.requires.tally first

pub returns-in_err-set_hi : goal.returns-in_err-set_hi
returns-in_err-set_hi c =
    let s = c.args.self.now in
    let must : FitsSigned w64 c.args.tally.must = search rules in
    let may : FitsSigned w64 c.args.tally.may = search rules in
    let begun = nothing_cut s.inst.now.tuples s.v.now s.k s.amount c.args.x c.requires.amount c.args.c.now c.requires.ready c.args.tally.must c.args.tally.may c.requires.tally in
    let low = rw (to_z-of_z w64 c.args.tally.must must) at c.in_ok-set_lo.ensures in
    let first = cuts_low s.inst.now.tuples s.v.now s.k s.amount c.args.x c.requires.amount c.args.c.now c.requires.ready c.args.tally.must c.args.tally.may c.requires.tally begun low in
    high_fails s.inst.now.tuples s.v.now s.k s.amount c.args.x c.requires.amount c.args.c.now c.requires.ready c.args.tally.must c.args.tally.may c.requires.tally first (rw (to_z-of_z w64 c.args.tally.may may) at c.in_err-set_hi.ensures) c.from_residual-in_err-set_hi.ensures.0

pub hi-requires : goal.hi-requires
hi-requires c =
    let s = c.args.self.now in
    let must : FitsSigned w64 c.args.tally.must = search rules in
    let may : FitsSigned w64 c.args.tally.may = search rules in
    let begun = nothing_cut s.inst.now.tuples s.v.now s.k s.amount c.args.x c.requires.amount c.args.c.now c.requires.ready c.args.tally.must c.args.tally.may c.requires.tally in
    let low = rw (to_z-of_z w64 c.args.tally.must must) at c.in_ok-set_lo.ensures in
    let first = cuts_low s.inst.now.tuples s.v.now s.k s.amount c.args.x c.requires.amount c.args.c.now c.requires.ready c.args.tally.must c.args.tally.may c.requires.tally begun low in
    let high = rw (to_z-of_z w64 c.args.tally.may may) at c.in_ok-set_hi.ensures in
    let going = cuts_high s.inst.now.tuples s.v.now s.k s.amount c.args.x c.requires.amount c.args.c.now c.requires.ready c.args.tally.must c.args.tally.may c.requires.tally first high in
    named_now s.inst.now.tuples s.v.now s.k s.amount c.args.x c.requires.amount c.args.c.now c.requires.ready c.args.tally.must c.args.tally.may c.requires.tally going

pub drop_all-requires-clause-ready : goal.drop_all-requires-clause-ready
drop_all-requires-clause-ready c =
    let s = c.args.self.now in
    let must : FitsSigned w64 c.args.tally.must = search rules in
    let may : FitsSigned w64 c.args.tally.may = search rules in
    let begun = nothing_cut s.inst.now.tuples s.v.now s.k s.amount c.args.x c.requires.amount c.args.c.now c.requires.ready c.args.tally.must c.args.tally.may c.requires.tally in
    let low = rw (to_z-of_z w64 c.args.tally.must must) at c.in_ok-set_lo.ensures in
    let first = cuts_low s.inst.now.tuples s.v.now s.k s.amount c.args.x c.requires.amount c.args.c.now c.requires.ready c.args.tally.must c.args.tally.may c.requires.tally begun low in
    let high = rw (to_z-of_z w64 c.args.tally.may may) at c.in_ok-set_hi.ensures in
    let going = cuts_high s.inst.now.tuples s.v.now s.k s.amount c.args.x c.requires.amount c.args.c.now c.requires.ready c.args.tally.must c.args.tally.may c.requires.tally first high in
    ready_now s.inst.now.tuples s.v.now s.k s.amount c.args.x c.requires.amount c.args.c.now c.requires.ready c.args.tally.must c.args.tally.may c.requires.tally going

pub drop_all-requires-clause-full : goal.drop_all-requires-clause-full
drop_all-requires-clause-full c =
    let s = c.args.self.now in
    let must : FitsSigned w64 c.args.tally.must = search rules in
    let may : FitsSigned w64 c.args.tally.may = search rules in
    let begun = nothing_cut s.inst.now.tuples s.v.now s.k s.amount c.args.x c.requires.amount c.args.c.now c.requires.ready c.args.tally.must c.args.tally.may c.requires.tally in
    let low = rw (to_z-of_z w64 c.args.tally.must must) at c.in_ok-set_lo.ensures in
    let first = cuts_low s.inst.now.tuples s.v.now s.k s.amount c.args.x c.requires.amount c.args.c.now c.requires.ready c.args.tally.must c.args.tally.may c.requires.tally begun low in
    let high = rw (to_z-of_z w64 c.args.tally.may may) at c.in_ok-set_hi.ensures in
    let going = cuts_high s.inst.now.tuples s.v.now s.k s.amount c.args.x c.requires.amount c.args.c.now c.requires.ready c.args.tally.must c.args.tally.may c.requires.tally first high in
    now_full s.inst.now.tuples s.v.now s.k s.amount c.args.x c.requires.amount c.args.c.now c.requires.ready c.args.tally.must c.args.tally.may c.requires.tally c.set_hi.new.self going c.hi.result c.hi.ensures.greatest (omega (arith, ints, c.if-hi-tally.true))

pub returns-then-hi-tally : goal.returns-then-hi-tally
returns-then-hi-tally c =
    let s = c.args.self.now in
    let must : FitsSigned w64 c.args.tally.must = search rules in
    let may : FitsSigned w64 c.args.tally.may = search rules in
    let begun = nothing_cut s.inst.now.tuples s.v.now s.k s.amount c.args.x c.requires.amount c.args.c.now c.requires.ready c.args.tally.must c.args.tally.may c.requires.tally in
    let low = rw (to_z-of_z w64 c.args.tally.must must) at c.in_ok-set_lo.ensures in
    let first = cuts_low s.inst.now.tuples s.v.now s.k s.amount c.args.x c.requires.amount c.args.c.now c.requires.ready c.args.tally.must c.args.tally.may c.requires.tally begun low in
    let high = rw (to_z-of_z w64 c.args.tally.may may) at c.in_ok-set_hi.ensures in
    let going = cuts_high s.inst.now.tuples s.v.now s.k s.amount c.args.x c.requires.amount c.args.c.now c.requires.ready c.args.tally.must c.args.tally.may c.requires.tally first high in
    let ranges = both_cut s.inst.now.tuples s.v.now s.k s.amount c.args.x c.requires.amount c.args.c.now c.requires.ready c.args.tally.must c.args.tally.may c.requires.tally low high in
    then_dropped s.inst.now.tuples s.v.now s.k s.amount c.args.x c.requires.amount c.args.c.now c.requires.ready c.args.tally.must c.args.tally.may c.requires.tally c.set_hi.new.self going ranges c.hi.result c.hi.ensures.greatest c.drop_all.new.c c.drop_all.result (omega (arith, ints, c.if-hi-tally.true)) c.drop_all.ensures.narrows c.drop_all.ensures.still

pub lo-requires : goal.lo-requires
lo-requires c =
    let s = c.args.self.now in
    let must : FitsSigned w64 c.args.tally.must = search rules in
    let may : FitsSigned w64 c.args.tally.may = search rules in
    let begun = nothing_cut s.inst.now.tuples s.v.now s.k s.amount c.args.x c.requires.amount c.args.c.now c.requires.ready c.args.tally.must c.args.tally.may c.requires.tally in
    let low = rw (to_z-of_z w64 c.args.tally.must must) at c.in_ok-set_lo.ensures in
    let first = cuts_low s.inst.now.tuples s.v.now s.k s.amount c.args.x c.requires.amount c.args.c.now c.requires.ready c.args.tally.must c.args.tally.may c.requires.tally begun low in
    let high = rw (to_z-of_z w64 c.args.tally.may may) at c.in_ok-set_hi.ensures in
    let going = cuts_high s.inst.now.tuples s.v.now s.k s.amount c.args.x c.requires.amount c.args.c.now c.requires.ready c.args.tally.must c.args.tally.may c.requires.tally first high in
    named_now s.inst.now.tuples s.v.now s.k s.amount c.args.x c.requires.amount c.args.c.now c.requires.ready c.args.tally.must c.args.tally.may c.requires.tally going

pub keep_all-requires-clause-ready : goal.keep_all-requires-clause-ready
keep_all-requires-clause-ready c =
    let s = c.args.self.now in
    let must : FitsSigned w64 c.args.tally.must = search rules in
    let may : FitsSigned w64 c.args.tally.may = search rules in
    let begun = nothing_cut s.inst.now.tuples s.v.now s.k s.amount c.args.x c.requires.amount c.args.c.now c.requires.ready c.args.tally.must c.args.tally.may c.requires.tally in
    let low = rw (to_z-of_z w64 c.args.tally.must must) at c.in_ok-set_lo.ensures in
    let first = cuts_low s.inst.now.tuples s.v.now s.k s.amount c.args.x c.requires.amount c.args.c.now c.requires.ready c.args.tally.must c.args.tally.may c.requires.tally begun low in
    let high = rw (to_z-of_z w64 c.args.tally.may may) at c.in_ok-set_hi.ensures in
    let going = cuts_high s.inst.now.tuples s.v.now s.k s.amount c.args.x c.requires.amount c.args.c.now c.requires.ready c.args.tally.must c.args.tally.may c.requires.tally first high in
    ready_now s.inst.now.tuples s.v.now s.k s.amount c.args.x c.requires.amount c.args.c.now c.requires.ready c.args.tally.must c.args.tally.may c.requires.tally going

pub keep_all-requires-clause-short : goal.keep_all-requires-clause-short
keep_all-requires-clause-short c =
    let s = c.args.self.now in
    let must : FitsSigned w64 c.args.tally.must = search rules in
    let may : FitsSigned w64 c.args.tally.may = search rules in
    let begun = nothing_cut s.inst.now.tuples s.v.now s.k s.amount c.args.x c.requires.amount c.args.c.now c.requires.ready c.args.tally.must c.args.tally.may c.requires.tally in
    let low = rw (to_z-of_z w64 c.args.tally.must must) at c.in_ok-set_lo.ensures in
    let first = cuts_low s.inst.now.tuples s.v.now s.k s.amount c.args.x c.requires.amount c.args.c.now c.requires.ready c.args.tally.must c.args.tally.may c.requires.tally begun low in
    let high = rw (to_z-of_z w64 c.args.tally.may may) at c.in_ok-set_hi.ensures in
    let going = cuts_high s.inst.now.tuples s.v.now s.k s.amount c.args.x c.requires.amount c.args.c.now c.requires.ready c.args.tally.must c.args.tally.may c.requires.tally first high in
    now_short s.inst.now.tuples s.v.now s.k s.amount c.args.x c.requires.amount c.args.c.now c.requires.ready c.args.tally.must c.args.tally.may c.requires.tally c.set_hi.new.self going c.lo.result c.lo.ensures.least (omega (arith, ints, c.if-lo-tally.true))

pub returns-then-lo-tally : goal.returns-then-lo-tally
returns-then-lo-tally c =
    let s = c.args.self.now in
    let must : FitsSigned w64 c.args.tally.must = search rules in
    let may : FitsSigned w64 c.args.tally.may = search rules in
    let begun = nothing_cut s.inst.now.tuples s.v.now s.k s.amount c.args.x c.requires.amount c.args.c.now c.requires.ready c.args.tally.must c.args.tally.may c.requires.tally in
    let low = rw (to_z-of_z w64 c.args.tally.must must) at c.in_ok-set_lo.ensures in
    let first = cuts_low s.inst.now.tuples s.v.now s.k s.amount c.args.x c.requires.amount c.args.c.now c.requires.ready c.args.tally.must c.args.tally.may c.requires.tally begun low in
    let high = rw (to_z-of_z w64 c.args.tally.may may) at c.in_ok-set_hi.ensures in
    let going = cuts_high s.inst.now.tuples s.v.now s.k s.amount c.args.x c.requires.amount c.args.c.now c.requires.ready c.args.tally.must c.args.tally.may c.requires.tally first high in
    let ranges = both_cut s.inst.now.tuples s.v.now s.k s.amount c.args.x c.requires.amount c.args.c.now c.requires.ready c.args.tally.must c.args.tally.may c.requires.tally low high in
    let over : c.hi.result ≢ c.args.tally.must = omega (arith, ints, c.if-hi-tally.false) in
    then_kept s.inst.now.tuples s.v.now s.k s.amount c.args.x c.requires.amount c.args.c.now c.requires.ready c.args.tally.must c.args.tally.may c.requires.tally c.set_hi.new.self going ranges c.hi.result c.hi.ensures.greatest c.lo.result c.lo.ensures.least c.keep_all.new.c c.keep_all.result (omega (arith, ints, c.if-lo-tally.true)) over c.keep_all.ensures.narrows c.keep_all.ensures.still

pub returns : goal.returns
returns c =
    let s = c.args.self.now in
    let must : FitsSigned w64 c.args.tally.must = search rules in
    let may : FitsSigned w64 c.args.tally.may = search rules in
    let begun = nothing_cut s.inst.now.tuples s.v.now s.k s.amount c.args.x c.requires.amount c.args.c.now c.requires.ready c.args.tally.must c.args.tally.may c.requires.tally in
    let low = rw (to_z-of_z w64 c.args.tally.must must) at c.in_ok-set_lo.ensures in
    let first = cuts_low s.inst.now.tuples s.v.now s.k s.amount c.args.x c.requires.amount c.args.c.now c.requires.ready c.args.tally.must c.args.tally.may c.requires.tally begun low in
    let high = rw (to_z-of_z w64 c.args.tally.may may) at c.in_ok-set_hi.ensures in
    let going = cuts_high s.inst.now.tuples s.v.now s.k s.amount c.args.x c.requires.amount c.args.c.now c.requires.ready c.args.tally.must c.args.tally.may c.requires.tally first high in
    let ranges = both_cut s.inst.now.tuples s.v.now s.k s.amount c.args.x c.requires.amount c.args.c.now c.requires.ready c.args.tally.must c.args.tally.may c.requires.tally low high in
    let over : c.hi.result ≢ c.args.tally.must = omega (arith, ints, c.if-hi-tally.false) in
    let under : c.lo.result ≢ c.args.tally.may = omega (arith, ints, c.if-lo-tally.false) in
    then_free s.inst.now.tuples s.v.now s.k s.amount c.args.x c.requires.amount c.args.c.now c.requires.ready c.args.tally.must c.args.tally.may c.requires.tally c.set_hi.new.self going ranges c.hi.result c.hi.ensures.greatest c.lo.result c.lo.ensures.least under over

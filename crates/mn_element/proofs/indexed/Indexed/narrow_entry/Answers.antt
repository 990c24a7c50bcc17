use Rattle.std.proofs.Common.{FitsSigned, rules, w64}
use Rattle.std.proofs.lemmas.Int.{to_z-of_z}
use Rattle.mn_prop.specs.Contexts.{vars_of}
use Rattle.mn_element.proofs.Closing.{no_entry, one_entry, open_index}
use Rattle.mn_element.proofs.Supporting.{index_named, is_indexed}
use Rattle.mn_element.proofs.indexed.Indexed.narrow_entry.Goals as goal

pub lo-lo-requires : goal.lo-lo-requires
lo-lo-requires c = let s = c.args.self.now in index_named (is_indexed s.form s.v.now s.x s.y) (vars_of c.args.c.now) s.inst.now.tuples c.requires

pub hi-requires : goal.hi-requires
hi-requires c = let s = c.args.self.now in index_named (is_indexed s.form s.v.now s.x s.y) (vars_of c.args.c.now) s.inst.now.tuples c.requires

pub returns-then-lo-hi : goal.returns-then-lo-hi
returns-then-lo-hi c =
    let s = c.args.self.now in
    let low : FitsSigned w64 c.lo-lo.result = search rules in
    let high : FitsSigned w64 c.hi.result = search rules in
    open_index (is_indexed s.form s.v.now s.x s.y) s.inst.now.tuples c.args.c.now c.lo-lo.result c.hi.result c.lo-lo.ensures.least c.hi.ensures.greatest (rw (to_z-of_z w64 c.lo-lo.result low, to_z-of_z w64 c.hi.result high) at c.if-lo-hi.true)

pub returns-in-Some : goal.returns-in-Some
returns-in-Some c =
    let s = c.args.self.now in
    let low : FitsSigned w64 c.lo-lo.result = search rules in
    let high : FitsSigned w64 c.hi.result = search rules in
    one_entry (is_indexed s.form s.v.now s.x s.y) s.inst.now.tuples c.args.c.now c.revise.new.c c.revise.result c.lo-lo.result c.hi.result c.in-Some.k c.lo-lo.ensures.least c.hi.ensures.greatest (rw (to_z-of_z w64 c.lo-lo.result low, to_z-of_z w64 c.hi.result high) at c.if-lo-hi.false) (rw (to_z-of_z w64 c.lo-lo.result low) at c.in-Some.ensures) c.revise.ensures

pub returns-in-None : goal.returns-in-None
returns-in-None c =
    let s = c.args.self.now in
    let low : FitsSigned w64 c.lo-lo.result = search rules in
    no_entry (is_indexed s.form s.v.now s.x s.y) s.inst.now.tuples c.args.c.now c.lo-lo.result c.lo-lo.ensures.least (rw (to_z-of_z w64 c.lo-lo.result low) at c.in-None.ensures)

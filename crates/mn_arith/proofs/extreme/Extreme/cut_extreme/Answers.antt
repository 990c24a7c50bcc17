use Rattle.std.proofs.Common.{Ok, FitsSigned, rules, w64}
use Rattle.std.proofs.lemmas.Int.{to_z-of_z}
use Rattle.mn_prop.specs.Contexts.{vars_of}
use Rattle.mn_arith.proofs.Others.{behind_named}
use Rattle.mn_arith.proofs.Pruned.{part_stops}
use Rattle.mn_arith.proofs.Spreading.{both_cut, far_named, near_part}
use Rattle.mn_arith.proofs.extreme.Extreme.cut_extreme.Goals as goal

pub cut-requires : goal.cut-requires
cut-requires c = let s = c.args.self.now in behind_named s.greatest s.terms.now s.x s.inst.now.tuples (vars_of c.args.c.now) c.requires.ready

pub returns-in_err-cut : goal.returns-in_err-cut
returns-in_err-cut c =
    let s = c.args.self.now in
    let near : FitsSigned w64 c.spread-spread.result.near = search rules in
    let changed = rw (to_z-of_z w64 c.spread-spread.result.near near) at c.cut.ensures in
    part_stops _ c.in_err-cut.was c.from_residual.ensures.0 (near_part s.greatest s.terms.now s.x s.inst.now.tuples c.args.c.now c.cut.new.c c.cut.result c.requires.ready c.spread-spread.result.near c.spread-spread.result.far c.spread-spread.ensures changed)

pub cut-requires-2 : goal.cut-requires-2
cut-requires-2 c =
    let s = c.args.self.now in
    let near : FitsSigned w64 c.spread-spread.result.near = search rules in
    let changed = rw (to_z-of_z w64 c.spread-spread.result.near near) at c.in_ok-cut.ensures in
    far_named s.greatest s.terms.now s.x s.inst.now.tuples c.args.c.now c.cut.new.c (Ok c.in_ok-cut.field-0) c.requires.ready c.spread-spread.result.near c.spread-spread.result.far c.spread-spread.ensures changed

pub returns : goal.returns
returns c =
    let s = c.args.self.now in
    let near : FitsSigned w64 c.spread-spread.result.near = search rules in
    let far : FitsSigned w64 c.spread-spread.result.far = search rules in
    let changed = rw (to_z-of_z w64 c.spread-spread.result.near near) at c.in_ok-cut.ensures in
    let again = rw (to_z-of_z w64 c.spread-spread.result.far far) at c.cut-2.ensures in
    both_cut s.greatest s.terms.now s.x s.inst.now.tuples c.args.c.now c.cut.new.c c.cut-2.new.c c.in_ok-cut.field-0 c.cut-2.result c.requires.ready c.spread-spread.result.near c.spread-spread.result.far c.spread-spread.ensures changed again

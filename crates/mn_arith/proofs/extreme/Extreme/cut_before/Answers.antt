use Rattle.std.proofs.Common.{FitsSigned, rules, w64, sym, ◌∙◌, true≢false}
use Rattle.std.proofs.lemmas.Int.{to_z-of_z}
use Rattle.mn_prop.specs.Contexts.{vars_of}
use Rattle.mn_arith.proofs.Others.{behind_named, front_named}
use Rattle.mn_arith.proofs.Pruned.{no_part}
use Rattle.mn_arith.proofs.Spreading.{only_part}
use Rattle.mn_arith.proofs.extreme.Extreme.cut_before.Goals as goal

pub end_of-near-requires : goal.end_of-near-requires
end_of-near-requires c = let s = c.args.self.now in front_named s.greatest s.terms.now s.x s.inst.now.tuples (vars_of c.args.c.now) c.args.i _ c.requires.ready c.get-t.ensures

pub returns-then-some_can_be : goal.returns-then-some_can_be
returns-then-some_can_be c = no_part c.args.c.now tt

pub end_of-least-requires : goal.end_of-least-requires
end_of-least-requires c = let s = c.args.self.now in behind_named s.greatest s.terms.now s.x s.inst.now.tuples (vars_of c.args.c.now) c.requires.ready

pub cut-requires : goal.cut-requires
cut-requires c = let s = c.args.self.now in front_named s.greatest s.terms.now s.x s.inst.now.tuples (vars_of c.args.c.now) c.args.i _ c.requires.ready c.get-t.ensures

pub returns : goal.returns
returns c =
    let s = c.args.self.now in
    let near : FitsSigned w64 c.end_of-near.result = search rules in
    let least : FitsSigned w64 c.end_of-least.result = search rules in
    let can = rw (to_z-of_z w64 c.end_of-near.result near) at c.some_can_be.ensures in
    let changed = rw (to_z-of_z w64 c.end_of-least.result least) at c.cut.ensures in
    only_part s.greatest s.terms.now s.x s.inst.now.tuples c.args.c.now c.cut.new.c c.cut.result c.requires.ready c.args.i _ c.get-t.ensures c.end_of-near.result c.end_of-least.result c.end_of-near.ensures c.end_of-least.ensures (λ some. true≢false (sym (can.1 some) ∙ c.if-some_can_be.false)) changed

use Rattle.std.proofs.Common.{FitsSigned, rules, w64}
use Rattle.std.proofs.lemmas.Int.{to_z-of_z}
use Rattle.mn_prop.specs.Contexts.{box_of, vars_of}
use Rattle.mn_arith.proofs.Others.{behind_named}
use Rattle.mn_arith.proofs.Pruned.{no_part, part_as}
use Rattle.mn_arith.proofs.Spreading.{left_alone, left_none, left_shared}
use Rattle.mn_arith.proofs.extreme.Extreme.narrow_only.Goals as goal

pub end_of-far-requires : goal.end_of-far-requires
end_of-far-requires c = let s = c.args.self.now in behind_named s.greatest s.terms.now s.x s.inst.now.tuples (vars_of c.args.c.now) c.requires

pub returns-then-other_has : goal.returns-then-other_has
returns-then-other_has c =
    let s = c.args.self.now in
    let far : FitsSigned w64 c.end_of-far.result = search rules in
    let other = rw (to_z-of_z w64 c.end_of-far.result far) at c.other_has.ensures in
    let holds = rw (to_z-of_z w64 c.end_of-far.result far) at c.in-Some.ensures in
    no_part c.args.c.now (left_shared s.greatest s.terms.now s.x s.inst.now.tuples (vars_of c.args.c.now) c.requires (box_of c.args.c.now) c.lawful.ensures.boxes.now c.end_of-far.result c.end_of-far.ensures c.in-Some.i holds (other.0 c.if-other_has.true))

pub returns-else-other_has : goal.returns-else-other_has
returns-else-other_has c =
    let s = c.args.self.now in
    let far : FitsSigned w64 c.end_of-far.result = search rules in
    let holds = rw (to_z-of_z w64 c.end_of-far.result far) at c.in-Some.ensures in
    part_as (λ closed. left_alone s.greatest s.terms.now s.x s.inst.now.tuples (vars_of c.args.c.now) c.requires (box_of c.args.c.now) c.lawful.ensures.boxes.now c.end_of-far.result c.end_of-far.ensures c.in-Some.i holds closed) c.narrow_place.ensures

pub returns-in-None : goal.returns-in-None
returns-in-None c =
    let s = c.args.self.now in
    let far : FitsSigned w64 c.end_of-far.result = search rules in
    let none = rw (to_z-of_z w64 c.end_of-far.result far) at c.in-None.ensures in
    no_part c.args.c.now (left_none s.greatest s.terms.now s.x s.inst.now.tuples (vars_of c.args.c.now) c.requires (box_of c.args.c.now) c.lawful.ensures.boxes.now c.end_of-far.result c.end_of-far.ensures none)

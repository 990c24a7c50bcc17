use Rattle.std.proofs.Common.{FitsSigned, rules, sym, subst, w64}
use Rattle.std.proofs.lemmas.Int.{to_z-of_z}
use Rattle.mn_closure.specs.Closed.{IsAlone}
use Rattle.mn_prop.specs.Contexts.{box_of}
use Rattle.mn_prop.proofs.Stepping.{no_step}
use Rattle.mn_count.proofs.Apart.{first_parts, open_parted, second_parts}
use Rattle.mn_count.proofs.pair.part_pair.Goals as goal

pub returns-then-is_single : goal.returns-then-is_single
returns-then-is_single c =
    let fits : FitsSigned w64 c.lo-a.result = search rules in
    let alone = subst (IsAlone (box_of c.args.c.now) c.args.x) (sym c.lo-a.ensures.is) (c.is_single.ensures.alone.0 c.if-is_single.true) in
    first_parts c.args.c.now c.drop_value.new.c c.drop_value.result c.args.x c.args.y c.lo-a.result c.lawful.ensures.boxes.now c.requires.first c.requires.second alone (rw (to_z-of_z w64 c.lo-a.result fits) at c.drop_value.ensures)

pub returns-then-is_single-2 : goal.returns-then-is_single-2
returns-then-is_single-2 c =
    let a = c.lo-a-then-is_single-2.result in
    let fits : FitsSigned w64 c.lo-a-then-is_single-2.result = search rules in
    let alone = subst (IsAlone (box_of c.args.c.now) c.args.y) (sym c.lo-a-then-is_single-2.ensures.is) (c.is_single-2.ensures.alone.0 c.if-is_single-2.true) in
    second_parts c.args.c.now c.drop_value-then-is_single-2.new.c c.drop_value-then-is_single-2.result c.args.x c.args.y a c.lawful.ensures.boxes.now c.requires.first c.requires.second alone (rw (to_z-of_z w64 c.lo-a-then-is_single-2.result fits) at c.drop_value-then-is_single-2.ensures)

pub returns : goal.returns
returns c = no_step c.args.c.now (open_parted c.args.x c.args.y (c.is_single.ensures.two c.if-is_single.false) (c.is_single-2.ensures.two c.if-is_single-2.false))

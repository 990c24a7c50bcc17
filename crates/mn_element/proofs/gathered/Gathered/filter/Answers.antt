use Rattle.std.proofs.Common.{Ok, subst}
use Rattle.mn_boxes.specs.Values.{Values, members}
use Rattle.mn_prop.specs.Contexts.{vars_of}
use Rattle.mn_prop.specs.Sifting.{IsSifted}
use Rattle.mn_element.proofs.Keeping.{index_stops, later_lawful, later_ready, pass_by_sets, result_stops}
use Rattle.mn_element.proofs.Supporting.{index_lawful, is_indexed}
use Rattle.mn_element.proofs.gathered.Gathered.filter.Goals as goal

pub keep-requires : goal.keep-requires
keep-requires c = let s = c.args.of.now in index_lawful (is_indexed s.form s.v.now s.x s.y) (vars_of c.args.c.now) s.inst.now.tuples c.requires

pub returns-in_err-keep : goal.returns-in_err-keep
returns-in_err-keep c =
    let s = c.args.of.now in
    let one = subst (λ (values : Values). IsSifted (members values) s.x c.args.c.now c.keep.new.self c.keep.result) c.set.ensures c.keep.ensures in
    index_stops (is_indexed s.form s.v.now s.x s.y) s.inst.now.tuples c.gather.new.self.picked c.args.c.now c.lawful.ensures.boxes.now c.requires c.gather.ensures c.keep.new.self c.keep.result c.from_residual.result _ one c.in_err-keep.was c.from_residual.ensures.0

pub keep-requires-2 : goal.keep-requires-2
keep-requires-2 c =
    let s = c.args.of.now in
    let one = subst (λ (values : Values). IsSifted (members values) s.x c.args.c.now c.keep.new.self (Ok c.in_ok-keep.field-0)) c.set.ensures c.in_ok-keep.ensures in
    later_lawful (is_indexed s.form s.v.now s.x s.y) s.inst.now.tuples c.gather.new.self.picked c.args.c.now c.lawful.ensures.boxes.now c.requires c.gather.ensures c.keep.new.self c.in_ok-keep.field-0 one

pub returns-in_err-keep-2 : goal.returns-in_err-keep-2
returns-in_err-keep-2 c =
    let s = c.args.of.now in
    let one = subst (λ (values : Values). IsSifted (members values) s.x c.args.c.now c.keep.new.self (Ok c.in_ok-keep.field-0)) c.set.ensures c.in_ok-keep.ensures in
    let two = subst (λ (values : Values). IsSifted (members values) s.y c.keep.new.self c.keep-2.new.self c.keep-2.result) c.set-2.ensures c.keep-2.ensures in
    result_stops (is_indexed s.form s.v.now s.x s.y) s.inst.now.tuples c.gather.new.self.picked c.args.c.now c.lawful.ensures.boxes.now c.requires c.gather.ensures c.keep.new.self c.keep-2.new.self c.in_ok-keep.field-0 c.keep-2.result c.from_residual-in_err-keep-2.result _ one two c.in_err-keep-2.was c.from_residual-in_err-keep-2.ensures.0

pub narrow_entry-requires : goal.narrow_entry-requires
narrow_entry-requires c =
    let s = c.args.of.now in
    let one = subst (λ (values : Values). IsSifted (members values) s.x c.args.c.now c.keep.new.self (Ok c.in_ok-keep.field-0)) c.set.ensures c.in_ok-keep.ensures in
    let two = subst (λ (values : Values). IsSifted (members values) s.y c.keep.new.self c.keep-2.new.self (Ok c.in_ok-keep-2.field-0)) c.set-2.ensures c.in_ok-keep-2.ensures in
    later_ready (is_indexed s.form s.v.now s.x s.y) s.inst.now.tuples c.gather.new.self.picked c.args.c.now c.lawful.ensures.boxes.now c.requires c.gather.ensures c.keep.new.self c.keep-2.new.self c.in_ok-keep.field-0 c.in_ok-keep-2.field-0 one two

pub returns : goal.returns
returns c =
    let s = c.args.of.now in
    let one = subst (λ (values : Values). IsSifted (members values) s.x c.args.c.now c.keep.new.self (Ok c.in_ok-keep.field-0)) c.set.ensures c.in_ok-keep.ensures in
    let two = subst (λ (values : Values). IsSifted (members values) s.y c.keep.new.self c.keep-2.new.self (Ok c.in_ok-keep-2.field-0)) c.set-2.ensures c.in_ok-keep-2.ensures in
    pass_by_sets (is_indexed s.form s.v.now s.x s.y) s.inst.now.tuples c.gather.new.self.picked c.args.c.now c.lawful.ensures.boxes.now c.requires c.gather.ensures c.keep.new.self c.keep-2.new.self c.narrow_entry.new.c c.in_ok-keep.field-0 c.in_ok-keep-2.field-0 c.narrow_entry.result one two c.narrow_entry.ensures

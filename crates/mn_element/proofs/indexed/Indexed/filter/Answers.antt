use Rattle.std.proofs.Common.{subst, sym, ◌∙◌}
use Rattle.mn_prop.specs.Posts.{IsReadyToRun}
use Rattle.mn_prop.proofs.Stepping.{same_vars}
use Rattle.mn_element.specs.Elements.{indexed_of}
use Rattle.mn_element.proofs.Closing.{pass_step, result_stops}
use Rattle.mn_element.proofs.Supporting.{is_indexed}
use Rattle.mn_element.proofs.indexed.Indexed.filter.Goals as goal

pub revise-requires-2-clause-ready : goal.revise-requires-2-clause-ready
revise-requires-2-clause-ready c = subst (λ vars. IsReadyToRun vars (indexed_of c.args.self.now)) (sym (same_vars c.in_ok-revise.ensures.loses)) c.requires

pub returns-in_err-revise-2 : goal.returns-in_err-revise-2
returns-in_err-revise-2 c =
    let s = c.args.self.now in
    result_stops (is_indexed s.form s.v.now s.x s.y) s.inst.now.tuples c.len-entries.result c.len-entries.ensures c.args.c.now c.revise.new.c c.revise-2.new.c c.in_ok-revise.field-0 c.revise-2.result c.from_residual-in_err-revise-2.result _ c.in_ok-revise.ensures c.revise-2.ensures c.in_err-revise-2.was c.from_residual-in_err-revise-2.ensures.0

pub narrow_entry-requires : goal.narrow_entry-requires
narrow_entry-requires c = subst (λ vars. IsReadyToRun vars (indexed_of c.args.self.now)) (sym (same_vars c.in_ok-revise-2.ensures.loses ∙ same_vars c.in_ok-revise.ensures.loses)) c.requires

pub returns : goal.returns
returns c =
    let s = c.args.self.now in
    pass_step (is_indexed s.form s.v.now s.x s.y) s.inst.now.tuples c.len-entries.result c.len-entries.ensures c.args.c.now c.revise.new.c c.revise-2.new.c c.narrow_entry.new.c c.in_ok-revise.field-0 c.in_ok-revise-2.field-0 c.narrow_entry.result c.lawful.ensures.boxes.now c.requires c.in_ok-revise.ensures c.in_ok-revise-2.ensures c.narrow_entry.ensures

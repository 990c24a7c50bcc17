use Rattle.std.proofs.Common.{sym, subst, ap, ◌∙◌, slice_get}
use Rattle.mn_model.specs.Lawful.{IsLawfulTerm}
use Rattle.mn_model.specs.declared.constraint.Con.TheVariants as con
use Rattle.mn_model.proofs.Lists.{all_at}
use Rattle.mn_closure.specs.Ready.{declared_sets}
use Rattle.mn_prop.specs.Contexts.{vars_of}
use Rattle.mn_prop.specs.Posts.{IsReady, beside}
use Rattle.mn_prop.proofs.Ready.{ready_named}
use Rattle.mn_prop.proofs.Stepping.{goes_inside, same_vars}
use Rattle.mn_count.specs.Takings.{IsFreeAt}
use Rattle.mn_count.proofs.Takings.{free_step}
use Rattle.mn_count.proofs.Turning.{no_turn, one_more_turn, turn_fails}
use Rattle.mn_count.proofs.rounds.Rounds.exclude.Goals as goal

pub loop-k-init : goal.loop-k-init
loop-k-init c = let s = c.args.self.now in no_turn (IsFreeAt (vars_of c.args.c.now) c.args.d.now.v.now s.taken s.open) c.args.c.now

pub exclude-requires : goal.exclude-requires
exclude-requires c =
    let d = c.args.d.now in
    let lawful = all_at (IsLawfulTerm (declared_sets (vars_of c.args.c.now))) d.v.now c.get.result c.get-t.result.now c.requires.ready.suits.named c.get-t.ensures in
    subst (λ vars. IsLawfulTerm (declared_sets vars) c.get-t.result.now) (sym (same_vars c.loop-k.invariant.going.loses)) lawful

pub returns-in_err-exclude : goal.returns-in_err-exclude
returns-in_err-exclude c =
    let d = c.args.d.now in
    let s = c.args.self.now in
    let ready = subst (λ vars. IsReady vars d.inst.now.tuples (con.Alldiff d.v.now)) (sym (same_vars c.loop-k.invariant.going.loses)) c.requires.ready in
    let named = ready_named (beside d.inst.now.tuples (con.Alldiff d.v.now)) c.get.result ready c.get-t.ensures in
    let step = free_step d.v.now d.inst.now.tuples c.args.c.now s.taken s.open c.requires.taking c.loop-k.k c.get-t.result.now c.get.ensures.stands.0 (ap (slice_get d.v.now) c.get.ensures.stands.1 ∙ c.get-t.ensures) (goes_inside c.loop-k.invariant.going.loses) (same_vars c.loop-k.invariant.going.loses) named (rw c.values.ensures at c.in_err-exclude.ensures) in
    turn_fails (IsFreeAt (vars_of c.args.c.now) d.v.now s.taken s.open) c.loop-k.invariant (λ box is inside free. free c.loop-k.k c.get.ensures.stands.0) step c.from_residual.ensures.0

pub loop-k-preserved : goal.loop-k-preserved
loop-k-preserved c =
    let d = c.args.d.now in
    let s = c.args.self.now in
    let ready = subst (λ vars. IsReady vars d.inst.now.tuples (con.Alldiff d.v.now)) (sym (same_vars c.loop-k.invariant.going.loses)) c.requires.ready in
    let named = ready_named (beside d.inst.now.tuples (con.Alldiff d.v.now)) c.get.result ready c.get-t.ensures in
    let step = free_step d.v.now d.inst.now.tuples c.args.c.now s.taken s.open c.requires.taking c.loop-k.k c.get-t.result.now c.get.ensures.stands.0 (ap (slice_get d.v.now) c.get.ensures.stands.1 ∙ c.get-t.ensures) (goes_inside c.loop-k.invariant.going.loses) (same_vars c.loop-k.invariant.going.loses) named (rw c.values.ensures at c.in_ok-exclude.ensures) in
    one_more_turn (IsFreeAt (vars_of c.args.c.now) d.v.now s.taken s.open) c.loop-k.invariant (λ box is inside free. free c.loop-k.k c.get.ensures.stands.0) step

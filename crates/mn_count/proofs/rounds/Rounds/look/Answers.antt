use Rattle.std.proofs.Common.{FitsSigned, rules, sym, subst, ap, ◌∙◌, slice_get, w64}
use Rattle.std.proofs.lemmas.Int.{to_z-of_z}
use Rattle.mn_closure.specs.Closed.{IsAlone}
use Rattle.mn_prop.specs.Contexts.{box_of, vars_of}
use Rattle.mn_count.specs.Rows.{IsShrunk}
use Rattle.mn_count.specs.Takings.{IsTaking}
use Rattle.mn_count.proofs.Rows.{is_shrunk}
use Rattle.mn_count.proofs.Takings.{one_taken, taken_twice}
use Rattle.mn_count.proofs.rounds.Rounds.look.Goals as goal

pub returns-then-has : goal.returns-then-has
returns-then-has c =
    let d = c.args.d.now in
    let s = c.args.self.now in
    let box = box_of c.args.c.now in
    let fits : FitsSigned w64 c.lo-a.result = search rules in
    let alone = subst (IsAlone box c.get-t.result.now) (sym c.lo-a.ensures.is) (c.is_single.ensures.alone.0 c.if-not-is_single.false) in
    let is = rw (to_z-of_z w64 c.lo-a.result fits) at c.has.ensures in
    (c.requires.taking.room, taken_twice d.v.now d.inst.now.tuples (vars_of c.args.c.now) s.taken s.open box c.args.k c.get-t.result.now c.lo-a.result c.requires.ready c.requires.taking c.requires.within (ap (slice_get d.v.now) c.get.ensures.stands.1 ∙ c.get-t.ensures) alone (sym is ∙ c.if-has.true))

pub returns : goal.returns
returns c =
    let d = c.args.d.now in
    let s = c.args.self.now in
    let box = box_of c.args.c.now in
    let fits : FitsSigned w64 c.lo-a.result = search rules in
    let alone = subst (IsAlone box c.get-t.result.now) (sym c.lo-a.ensures.is) (c.is_single.ensures.alone.0 c.if-not-is_single.false) in
    let is = rw (to_z-of_z w64 c.lo-a.result fits) at c.has.ensures in
    let more = rw (to_z-of_z w64 c.lo-a.result fits) at c.insert.ensures in (
      subst (λ r. IsTaking d.v.now c.insert.new.self r box) (sym c.take_out.ensures) (one_taken d.v.now s.taken c.insert.new.self s.open box c.args.k c.get.result c.get-t.result.now c.lo-a.result c.lawful-2.ensures c.requires.taking c.get.ensures.stands c.get-t.ensures c.lo-a.ensures.least.there alone (sym is ∙ c.if-has.false) (more c.if-not-insert.false)),
      subst (IsShrunk c.args.k s.open) (sym c.take_out.ensures) (is_shrunk s.open c.lawful-2.ensures c.args.k c.requires.within),
    )

use Rattle.std.proofs.Common.{FitsSigned, rules, subst, sym, true≢false, w64, ◌∙◌}
use Rattle.std.proofs.lemmas.Int.{to_z-of_z}
use Rattle.mn_boxes.specs.Places.{PlaceHas}
use Rattle.mn_closure.specs.Closed.{IsAlone}
use Rattle.mn_prop.specs.Contexts.{box_of}
use Rattle.mn_prop.specs.Forwards.{checked}
use Rattle.mn_prop.proofs.Ready.{ready_named}
use Rattle.mn_prop.proofs.Alone.{index_stands, same_term, single_met, single_unmet}
use Rattle.mn_prop.proofs.forward.ForwardCheck.test_single.Goals as goal

pub lo-value-requires : goal.lo-value-requires
lo-value-requires c =
    let d = c.args.c.now in
    let self = c.args.self.now in
    ready_named (checked self) _ c.requires.ready (index_stands self.con.now self.terms.items c.args.j c.index.result.now self.placed c.requires.left.0 c.index.ensures)

pub holds_with-requires-clause-there : goal.holds_with-requires-clause-there
holds_with-requires-clause-there c =
    let self = c.args.self.now in
    let fits : FitsSigned w64 c.lo-value.result = search rules in
    let stands = index_stands self.con.now self.terms.items c.args.j c.index.result.now self.placed c.requires.left.0 c.index.ensures in
    λ t at. rw (to_z-of_z w64 c.lo-value.result fits) (subst (λ u. PlaceHas (box_of c.args.c.now) u c.lo-value.result) (same_term self.con.now c.args.j c.index.result.now t stands at) c.lo-value.ensures.least.there)

pub returns-then-holds_with : goal.returns-then-holds_with
returns-then-holds_with c =
    let d = c.args.c.now in
    let self = c.args.self.now in
    let fits : FitsSigned w64 c.lo-value.result = search rules in
    let exact = rw (to_z-of_z w64 c.lo-value.result fits) at c.holds_with.ensures in
    let stands = index_stands self.con.now self.terms.items c.args.j c.index.result.now self.placed c.requires.left.0 c.index.ensures in
    single_met (checked self) self.fits c.lawful.ensures.boxes.now c.requires.ready c.requires.left.0 c.requires.left.1 stands
    (subst (IsAlone (box_of d) c.index.result.now) (sym c.lo-value.ensures.is) (c.requires.single c.index.result.now stands)) (exact.0 c.if-holds_with.true)

pub returns : goal.returns
returns c =
    let d = c.args.c.now in
    let self = c.args.self.now in
    let fits : FitsSigned w64 c.lo-value.result = search rules in
    let exact = rw (to_z-of_z w64 c.lo-value.result fits) at c.holds_with.ensures in
    let stands = index_stands self.con.now self.terms.items c.args.j c.index.result.now self.placed c.requires.left.0 c.index.ensures in
    single_unmet (checked self) self.fits _ c.lawful.ensures.boxes.now c.requires.ready c.requires.left.0 c.requires.left.1 stands
    (subst (IsAlone (box_of d) c.index.result.now) (sym c.lo-value.ensures.is) (c.requires.single c.index.result.now stands)) (λ supported. true≢false (sym (exact.1 supported) ∙ c.if-holds_with.false))

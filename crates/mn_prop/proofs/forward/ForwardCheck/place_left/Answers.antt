use Rattle.std.proofs.Common.{get_or, ◌∙◌, arith}
use Rattle.std.proofs.lemmas.Option.{slice_get_within}
use Rattle.mn_model.specs.Parts.{places}
use Rattle.mn_model.specs.declared.constraint.Term.TheVariants.{Var}
use Rattle.mn_model.proofs.Lists.{filled_length}
use Rattle.mn_prop.specs.Contexts.{box_of}
use Rattle.mn_prop.specs.Forwards.{checked}
use Rattle.mn_prop.proofs.Ready.{ready_named}
use Rattle.mn_prop.proofs.Alone.{all_alone, always_open, one_more_alone, placed_at}
use Rattle.mn_prop.proofs.forward.ForwardCheck.place_left.Goals as goal

pub loop-j-init : goal.loop-j-init
loop-j-init c = λ k t at below differs. absurd (omega (arith, below))

pub is_single-requires : goal.is_single-requires
is_single-requires c =
    let d = c.args.c.now in
    let con = c.args.self.now.con.now in
    ready_named (checked c.args.self.now) _ c.requires.ready
    (placed_at con c.deref-t-items.result.now c.loop-j.j _ (c.deref-t-items.ensures.value ∙ c.args.self.now.placed) c.loop-j-test.true)

pub returns-then-several : goal.returns-then-several
returns-then-several c =
    let con = c.args.self.now.con.now in
    always_open con c.loop-j.j (get_or c.deref-t-items.result.now c.loop-j.j (Var (record { 0 = 0 }))) (box_of c.args.c.now) (placed_at con c.deref-t-items.result.now c.loop-j.j _ (c.deref-t-items.ensures.value ∙ c.args.self.now.placed) c.loop-j-test.true)
    (c.is_single.ensures.two c.if-not-is_single.true) (c.is_other_open-several.ensures.open c.if-several.true)

pub returns-else-several : goal.returns-else-several
returns-else-several c =
    let con = c.args.self.now.con.now in
    let stands = placed_at con c.deref-t-items.result.now c.loop-j.j (Var (record { 0 = 0 })) (c.deref-t-items.ensures.value ∙ c.args.self.now.placed) c.loop-j-test.true in
    (slice_get_within (places con) c.loop-j.j _ stands, c.is_other_open-several.ensures.alone c.if-several.false)

pub loop-j-preserved : goal.loop-j-preserved
loop-j-preserved c =
    one_more_alone c.args.self.now.terms.items c.deref-t-items.result.now c.loop-j.j 0 (Var (record { 0 = 0 })) (box_of c.args.c.now) c.deref-t-items.ensures.value c.loop-j.invariant (λ _. c.is_single.ensures.alone.0 c.if-not-is_single.false)

pub returns : goal.returns
returns c =
    let con = c.args.self.now.con.now in
    (filled_length (places con) c.requires.filled, all_alone con c.args.self.now.terms.items c.loop-j.j 0 (box_of c.args.c.now) c.args.self.now.placed (omega (arith, c.loop-j-test.false)) c.loop-j.invariant)

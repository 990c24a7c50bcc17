use Rattle.std.proofs.Common.{ℤ, ◌++◌, List, FitsSigned, w64, sym, subst, ap, ◌∙◌, arith}
use Rattle.std.proofs.lemmas.Int.{ints, to_z-of_z}
use Rattle.std.proofs.lemmas.List.{append-nil}
use Rattle.std.proofs.lemmas.Slice.Zip.{either_empty_from_Zip}
use Rattle.std.specs.List.{AllByRecursion}
use Rattle.mn_model.specs.Lawful.{IsNear}
use Rattle.mn_sums.proofs.Forms.{made_end, made_next}
use Rattle.mn_sums.proofs.build.each.Goals as goal

pub part-requires : goal.part-requires
part-requires c =
    let heavy = subst (λ (ks : List ℤ). AllByRecursion IsNear ks) c.in-Some.ensures.steps.0 c.loop-k.invariant.near in
    let fits : FitsSigned w64 c.in-Some.k.now = omega (arith, ints, heavy.0.0, heavy.0.1) in
    rw (to_z-of_z w64 c.in-Some.k.now fits) heavy.0

pub loop-k-preserved : goal.loop-k-preserved
loop-k-preserved c =
    let step = c.in-Some.ensures.steps in
    let heavy = subst (λ (ks : List ℤ). AllByRecursion IsNear ks) step.0 c.loop-k.invariant.near in
    let fits : FitsSigned w64 c.in-Some.k.now = omega (arith, ints, heavy.0.0, heavy.0.1) in
    let is = rw (to_z-of_z w64 c.in-Some.k.now fits) at c.part.ensures in
    record { whole = made_next c.args.making c.in-Some.k.now c.in-Some.t.now _ _ _ _ _ _ _ _ step.0 step.1 is c.in_ok-push.ensures.items c.loop-k.invariant.whole; near = heavy.1 }

pub returns : goal.returns
returns c =
    let end = made_end c.args.making _ _ (either_empty_from_Zip c.loop-k.k-iterator c.next.new.self _ c.in-None.is c.next.ensures.steps) in
    sym (append-nil c.loop-k.parts.items) ∙ (ap (λ ps. c.loop-k.parts.items ++ ps) (sym end) ∙ c.loop-k.invariant.whole)

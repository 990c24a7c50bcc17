use Rattle.std.proofs.Common.{◌≡◌, FitsSigned, ℤ, pos, ◌+ℤ◌, ◌-ℤ◌, ◌≤ℤ◌, ◌<ℤ◌, int_le, int_lt, Bool, true, false, IsTrue, rules, subst, sym, ap, true≢false, refl, ◌∙◌, w64, arith}
use Rattle.std.proofs.lemmas.Int.{ints, to_z-of_z}
use Rattle.mn_model.specs.Lawful.{IsNear}
use Rattle.mn_model.proofs.Ordered.{lt_so}
use Rattle.mn_model.specs.declared.constraint.Term.{Term}
use Rattle.mn_prop.specs.Contexts.{ChangedAt, IsChange, IsNamed, box_of, vars_of}
use Rattle.mn_prop.proofs.Stepping.{changed_vars}
use Rattle.mn_basic.specs.Binaries.{order_of, slack_of}
use Rattle.mn_basic.proofs.Binary.{first_named, first_stands, second_named, second_stands}
use Rattle.mn_prop.proofs.Kept.{near_at}
use Rattle.mn_basic.proofs.Ordered.{is_order, none_below_itself, order_settles, order_step, order_stop, slack_near}
use Rattle.mn_basic.proofs.ineq.Ineq.filter.Goals as goal

-- where the test says no, both places are two or the slack isn't below 0
not_below : (x y : Term) (k : ℤ) (t : Bool) → t ≡ false → (IsTrue t → (x ≡ y) × (k <ℤ pos 0)) × ((x ≡ y) × (k <ℤ pos 0) → IsTrue t) → x ≡ y → pos 0 ≤ℤ k
not_below x y k t denied told same = so (int_lt k (pos 0)) refl
  where
    so : (b : Bool) → int_lt k (pos 0) ≡ b → pos 0 ≤ℤ k
    so true e = absurd (true≢false (sym (told.1 (same, lt_so k (pos 0) e)) ∙ denied))
    so false e = omega (arith, ints, e)

pub hi-requires : goal.hi-requires
hi-requires c = let s = c.args.self.now in second_named (is_order s.order s.x s.y) (vars_of c.args.c.now) s.inst.now.tuples c.requires

pub lo-requires : goal.lo-requires
lo-requires c = let s = c.args.self.now in first_named (is_order s.order s.x s.y) (vars_of c.args.c.now) s.inst.now.tuples c.requires

pub set_hi-requires : goal.set_hi-requires
set_hi-requires c = let s = c.args.self.now in first_named (is_order s.order s.x s.y) (vars_of c.args.c.now) s.inst.now.tuples c.requires

pub returns-then-is_less_than_itself-clause-step : goal.returns-then-is_less_than_itself-clause-step
returns-then-is_less_than_itself-clause-step c =
    let s = c.args.self.now in
    let k : FitsSigned w64 c.slack-k.result = search rules in
    let told = rw (to_z-of_z w64 c.slack-k.result k) at c.is_less_than_itself.ensures in
    let both = told.0 c.if-is_less_than_itself.true in
    let less = both.1 in
    none_below_itself s.order s.x s.y s.inst.now.tuples c.args.c.now _ c.requires both.0 (omega (arith, ints, less, c.slack-k.ensures))

pub sum-most-requires-clause-value : goal.sum-most-requires-clause-value
sum-most-requires-clause-value c =
    let s = c.args.self.now in
    let d = c.args.c.now in
    let hi : FitsSigned w64 c.hi.result = search rules in
    rw (to_z-of_z w64 c.hi.result hi) (near_at (vars_of d) s.inst.now.tuples (order_of s.order s.x s.y) (box_of d) 1 s.y c.hi.result c.lawful.ensures.boxes.now c.lawful.ensures.valued c.requires (second_stands (is_order s.order s.x s.y)) c.hi.ensures.greatest.there)

pub sum-most-requires-clause-slack : goal.sum-most-requires-clause-slack
sum-most-requires-clause-slack c =
    let s = c.args.self.now in
    let k : FitsSigned w64 c.slack-k.result = search rules in
    rw (to_z-of_z w64 c.slack-k.result k) (subst IsNear (sym c.slack-k.ensures) (slack_near s.order s.x s.y (vars_of c.args.c.now) s.inst.now.tuples c.requires))

pub difference-least-requires-clause-value : goal.difference-least-requires-clause-value
difference-least-requires-clause-value c =
    let s = c.args.self.now in
    let d = c.args.c.now in
    let lo : FitsSigned w64 c.lo.result = search rules in
    rw (to_z-of_z w64 c.lo.result lo) (near_at (vars_of d) s.inst.now.tuples (order_of s.order s.x s.y) (box_of d) 0 s.x c.lo.result c.lawful.ensures.boxes.now c.lawful.ensures.valued c.requires (first_stands (is_order s.order s.x s.y)) c.lo.ensures.least.there)

pub difference-least-requires-clause-slack : goal.difference-least-requires-clause-slack
difference-least-requires-clause-slack c =
    let s = c.args.self.now in
    let k : FitsSigned w64 c.slack-k.result = search rules in
    rw (to_z-of_z w64 c.slack-k.result k) (subst IsNear (sym c.slack-k.ensures) (slack_near s.order s.x s.y (vars_of c.args.c.now) s.inst.now.tuples c.requires))

pub returns-in_err-set_hi-clause-step : goal.returns-in_err-set_hi-clause-step
returns-in_err-set_hi-clause-step c =
    let s = c.args.self.now in
    let fits : FitsSigned w64 c.sum-most.result = search rules in
    let hi : FitsSigned w64 c.hi.result = search rules in
    let slack : FitsSigned w64 c.slack-k.result = search rules in
    let total = rw (to_z-of_z w64 c.hi.result hi, to_z-of_z w64 c.slack-k.result slack) at c.sum-most.ensures in
    let most = total ∙ ap (λ k. c.hi.result +ℤ k) c.slack-k.ensures in
    let cut = subst (λ n. ChangedAt (λ a. int_le a n) s.x c.args.c.now c.set_hi.new.self c.set_hi.result) most (rw (to_z-of_z w64 c.sum-most.result fits) at c.set_hi.ensures) in
    order_stop s.order s.x s.y s.inst.now.tuples c.args.c.now c.set_hi.new.self c.hi.result c.set_hi.result c.from_residual.result _ c.requires c.hi.ensures.greatest cut c.in_err-set_hi.was c.from_residual.ensures.0

pub set_lo-requires : goal.set_lo-requires
set_lo-requires c =
    let s = c.args.self.now in
    subst (λ vars. IsNamed vars s.y) (sym (changed_vars c.in_ok-set_hi.ensures)) (second_named (is_order s.order s.x s.y) (vars_of c.args.c.now) s.inst.now.tuples c.requires)

pub returns-clause-step : goal.returns-clause-step
returns-clause-step c =
    let s = c.args.self.now in
    let fits : FitsSigned w64 c.sum-most.result = search rules in
    let fits_least : FitsSigned w64 c.difference-least.result = search rules in
    let hi : FitsSigned w64 c.hi.result = search rules in
    let slack : FitsSigned w64 c.slack-k.result = search rules in
    let total = rw (to_z-of_z w64 c.hi.result hi, to_z-of_z w64 c.slack-k.result slack) at c.sum-most.ensures in
    let most = total ∙ ap (λ k. c.hi.result +ℤ k) c.slack-k.ensures in
    let lo : FitsSigned w64 c.lo.result = search rules in
    let rest = rw (to_z-of_z w64 c.lo.result lo, to_z-of_z w64 c.slack-k.result slack) at c.difference-least.ensures in
    let least = rest ∙ ap (λ k. c.lo.result -ℤ k) c.slack-k.ensures in
    let first = subst (λ n. IsChange (λ a. int_le a n) s.x c.args.c.now c.set_hi.new.self) most (rw (to_z-of_z w64 c.sum-most.result fits) at c.in_ok-set_hi.ensures) in
    let second = subst (λ n. ChangedAt (λ b. int_le n b) s.y c.set_hi.new.self c.set_lo.new.self c.set_lo.result) least (rw (to_z-of_z w64 c.difference-least.result fits_least) at c.set_lo.ensures) in
    order_step s.order s.x s.y s.inst.now.tuples c.args.c.now c.set_hi.new.self c.set_lo.new.self c.hi.result c.lo.result c.in_ok-set_hi.field-0 c.set_lo.result c.requires c.hi.ensures.greatest c.lo.ensures.least first second

pub returns-clause-settled : goal.returns-clause-settled
returns-clause-settled c =
    let s = c.args.self.now in
    let k : FitsSigned w64 c.slack-k.result = search rules in
    let told = rw (to_z-of_z w64 c.slack-k.result k) at c.is_less_than_itself.ensures in
    let fits : FitsSigned w64 c.sum-most.result = search rules in
    let fits_least : FitsSigned w64 c.difference-least.result = search rules in
    let hi : FitsSigned w64 c.hi.result = search rules in
    let slack : FitsSigned w64 c.slack-k.result = search rules in
    let total = rw (to_z-of_z w64 c.hi.result hi, to_z-of_z w64 c.slack-k.result slack) at c.sum-most.ensures in
    let most = total ∙ ap (λ k. c.hi.result +ℤ k) c.slack-k.ensures in
    let lo : FitsSigned w64 c.lo.result = search rules in
    let rest = rw (to_z-of_z w64 c.lo.result lo, to_z-of_z w64 c.slack-k.result slack) at c.difference-least.ensures in
    let least = rest ∙ ap (λ k. c.lo.result -ℤ k) c.slack-k.ensures in
    let first = subst (λ n. IsChange (λ a. int_le a n) s.x c.args.c.now c.set_hi.new.self) most (rw (to_z-of_z w64 c.sum-most.result fits) at c.in_ok-set_hi.ensures) in
    let second = subst (λ n. ChangedAt (λ b. int_le n b) s.y c.set_hi.new.self c.set_lo.new.self c.set_lo.result) least (rw (to_z-of_z w64 c.difference-least.result fits_least) at c.set_lo.ensures) in
    let same : s.x ≡ s.y → pos 0 ≤ℤ slack_of s.order = subst (λ n. s.x ≡ s.y → pos 0 ≤ℤ n) c.slack-k.ensures (not_below s.x s.y c.slack-k.result c.is_less_than_itself.result c.if-is_less_than_itself.false told) in
    order_settles s.order s.x s.y s.inst.now.tuples c.args.c.now c.set_hi.new.self c.set_lo.new.self c.hi.result c.lo.result c.set_lo.result same c.requires c.hi.ensures.greatest c.lo.ensures.least first second

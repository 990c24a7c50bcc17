use Rattle.std.proofs.Common.{◌≡◌, ◌+◌, ◌*◌, ◌≤◌, ◌<◌, arith, drop, get_or, ap, sym, ◌∙◌, ℕ, List, length, nat_lt, true}
use Rattle.std.proofs.lemmas.Bool.Decides.{nat_tests}
use Rattle.mn_model.specs.Problem.{size_of_dims}
use Rattle.mn_model.proofs.Sizes.{offset_from-lengths, size_of_dims-drop, size_of_dims-positive, shaped-drop, one_index_more, one_step_further}
use Rattle.std.specs.List.{AllByRecursion}
use Rattle.std.proofs.Math.Nat.{le-mul_of_pos_right}
use Rattle.mn_model.proofs.dims.offset_of.Goals as goal

-- one index further, the place is still within the matrix
grown : (dims : List ℕ) (i offset sub : ℕ) → AllByRecursion (λ dim. 1 ≤ dim) dims → i < length dims → (offset + 1) * size_of_dims (drop i dims) ≤ size_of_dims dims → sub < get_or dims i 0
    → offset * get_or dims i 0 + sub + 1 ≤ size_of_dims dims
grown dims i offset sub shaped within all below =
    let step = ap (λ k. (offset + 1) * k) (size_of_dims-drop i dims within) in
    let more = one_index_more offset (get_or dims i 0) sub (size_of_dims (drop (i + 1) dims)) (size_of_dims dims) (omega arith) below in
    let here : offset * get_or dims i 0 + sub + 1 ≤ (offset * get_or dims i 0 + sub + 1) * size_of_dims (drop (i + 1) dims) =
    let positive = size_of_dims-positive (drop (i + 1) dims) (shaped-drop (i + 1) dims shaped) in le-mul_of_pos_right (offset * get_or dims i 0 + sub + 1) (omega arith) in
    omega arith

pub returns-then-dims-subs-clause-place : goal.returns-then-dims-subs-clause-place
returns-then-dims-subs-clause-place c = sym (offset_from-lengths 0 c.args.dims.now c.args.subs.now c.if-dims-subs.true)

pub overflow_mul-offset : goal.overflow_mul-offset
overflow_mul-offset c =
    omega (arith, grown c.args.dims.now c.loop-i.i c.loop-i.offset (get_or c.args.subs.now c.loop-i.i 0) c.requires.shaped c.loop-i-test.true c.loop-i.invariant.within c.if-subs-i.false, c.requires.few)

pub overflow_add-offset : goal.overflow_add-offset
overflow_add-offset c =
    omega (arith, grown c.args.dims.now c.loop-i.i c.loop-i.offset (get_or c.args.subs.now c.loop-i.i 0) c.requires.shaped c.loop-i-test.true c.loop-i.invariant.within c.if-subs-i.false, c.requires.few)

pub loop-i-preserved : goal.loop-i-preserved
loop-i-preserved c =
    let dims = c.args.dims.now in
    let subs = c.args.subs.now in
    let i = c.loop-i.i in
    let in_dims : i < length dims = c.loop-i-test.true in
    let in_subs : i < length subs = omega (arith, c.if-dims-subs.false, in_dims) in
    let below : nat_lt (get_or subs i 0) (get_or dims i 0) ≡ true = grind (arith, nat_tests, c.if-subs-i.false) in
    record {
      leads = one_step_further c.loop-i.offset i dims subs in_dims in_subs below ∙ c.loop-i.invariant.leads;
      within =
          let step = ap (λ k. (c.loop-i.offset + 1) * k) (size_of_dims-drop i dims in_dims) in
          let whole = c.loop-i.invariant.within in
          one_index_more c.loop-i.offset (get_or dims i 0) (get_or subs i 0) (size_of_dims (drop (i + 1) dims)) (size_of_dims dims) (omega (arith, step, whole)) (omega (arith, c.if-subs-i.false));
    }

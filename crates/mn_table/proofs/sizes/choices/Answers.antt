use Rattle.std.proofs.Common.{◌≡◌, ◌+◌, ◌-◌, ◌*◌, ◌^◌, ◌≤◌, ℕ, List, min, drop, sym, subst, ap, ◌∙◌, arith}
use Rattle.std.proofs.Math.Nat.{min-le_right, one-mul}
use Rattle.std.proofs.lemmas.List.{drop_all, drop_more}
use Rattle.mn_model.specs.declared.constraint.Term.{Term}
use Rattle.mn_prop.specs.Contexts.{box_of}
use Rattle.mn_table.specs.Choosing.{choice_count}
use Rattle.mn_table.proofs.Multiplied.{multiplied, multiplied_on}
use Rattle.mn_table.proofs.sizes.choices.Goals as goal

pub loop-t-init : goal.loop-t-init
loop-t-init c = record {
  few = omega arith;
  whole = ap (λ n. min n 340282366920938463463374607431768211455) (one-mul (choice_count (box_of c.args.c.now) c.args.v.now));
}

pub loop-t-preserved : goal.loop-t-preserved
loop-t-preserved c =
    let box = box_of c.args.c.now in
    let v = c.args.v.now in
    let cap : ℕ = 2 ^ 128 - 1 in
    let next = ap (choice_count box) (drop_more v c.loop-t.t-index _ c.loop-t-test.true) ∙ ap (λ n. n * choice_count box (drop (c.loop-t.t-index + 1) v)) (sym c.size.ensures) in
    let so_far = subst (λ n. min (c.loop-t.many * n) cap ≡ min (choice_count box v) cap) next c.loop-t.invariant.whole in
    record {
      few = subst (λ n. n ≤ cap) (sym c.saturating_mul-many.ensures) (min-le_right (c.loop-t.many * c.size.result) cap);
      whole = subst (λ n. min (n * choice_count box (drop (c.loop-t.t-index + 1) v)) cap ≡ min (choice_count box v) cap) (sym c.saturating_mul-many.ensures)
          (multiplied_on c.loop-t.many c.size.result (choice_count box (drop (c.loop-t.t-index + 1) v)) (min (choice_count box v) cap) cap so_far);
    }

pub returns : goal.returns
returns c =
    let box = box_of c.args.c.now in
    let v = c.args.v.now in
    let cap : ℕ = 2 ^ 128 - 1 in
    multiplied c.loop-t.many (min (choice_count box v) cap) cap c.loop-t.invariant.few
    (subst (λ (ts : List Term). min (c.loop-t.many * choice_count box ts) cap ≡ min (choice_count box v) cap) (drop_all c.loop-t.t-index v c.loop-t-test.false) c.loop-t.invariant.whole)

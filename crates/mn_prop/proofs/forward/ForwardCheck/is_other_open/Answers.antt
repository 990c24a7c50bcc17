use Rattle.std.proofs.Common.{get_or, ◌∙◌, arith}
use Rattle.mn_model.specs.declared.constraint.Term.TheVariants.{Var}
use Rattle.mn_prop.specs.Contexts.{box_of}
use Rattle.mn_prop.specs.Forwards.{checked}
use Rattle.mn_prop.proofs.Ready.{ready_named}
use Rattle.mn_prop.proofs.Alone.{all_alone, one_more_alone, placed_at}
use Rattle.mn_prop.proofs.forward.ForwardCheck.is_other_open.Goals as goal
use Rattle.mn_prop.proofs.forward.ForwardCheck.is_other_open.Goals.{else-j-i-via-then-j-i+else-not-is_single, else-j-i-via-else-j-i}

pub is_single-requires : goal.is_single-requires
is_single-requires c =
    let d = c.args.c.now in
    let con = c.args.self.now.con.now in
    ready_named (checked c.args.self.now) _ c.requires
    (placed_at con c.deref-t-items.result.now c.loop-j.j _ (c.deref-t-items.ensures.value ∙ c.args.self.now.placed) c.loop-j-test.true)

pub returns-then-not-is_single-clause-open : goal.returns-then-not-is_single-clause-open
returns-then-not-is_single-clause-open c = λ _. record {
  place = c.loop-j.j;
  term = get_or c.deref-t-items.result.now c.loop-j.j (Var (record { 0 = 0 }));
  stands = placed_at c.args.self.now.con.now c.deref-t-items.result.now c.loop-j.j _ (c.deref-t-items.ensures.value ∙ c.args.self.now.placed) c.loop-j-test.true;
  other = c.if-j-i.true;
  is_open = c.is_single.ensures.two c.if-not-is_single.true;
}

pub loop-j-preserved : goal.loop-j-preserved
loop-j-preserved c =
    one_more_alone c.args.self.now.terms.items c.deref-t-items.result.now c.loop-j.j c.args.i (Var (record { 0 = 0 })) (box_of c.args.c.now) c.deref-t-items.ensures.value c.loop-j.invariant
    (elim c.else-j-i.branch [
      | else-j-i-via-then-j-i+else-not-is_single w ↦ (λ _. w.is_single.ensures.alone.0 w.if-not-is_single.false)
      | else-j-i-via-else-j-i w ↦ (λ differs. absurd (differs w.if-j-i.false))
    ])

pub returns-clause-alone : goal.returns-clause-alone
returns-clause-alone c = λ _. all_alone c.args.self.now.con.now c.args.self.now.terms.items c.loop-j.j c.args.i (box_of c.args.c.now) c.args.self.now.placed (omega (arith, c.loop-j-test.false)) c.loop-j.invariant

use Rattle.std.proofs.Common.{◌≡◌, ◌↔◌, ◌+◌, ◌<◌, ◌≤◌, ◌^◌, ℤ, pos, ◌||◌, IsTrue, List, length, rules, sym, subst, ◌∙◌, true≢false, w64, arith}
use Rattle.std.proofs.lemmas.Int.{to_z_pos}
use Rattle.std.proofs.lemmas.Option.{slice_get_within}
use Rattle.std.specs.List.{AllByRecursion}
use Rattle.std.specs.Ordering.{int_eq}
use Rattle.mn_model.specs.declared.constraint.Term.{Term}
use Rattle.mn_boxes.specs.Values.{IsAsWide, IsCovered, Values, members}
use Rattle.mn_meaning.specs.Families.{rows_of}
use Rattle.mn_meaning.proofs.Rows.{rows_of-end}
use Rattle.mn_closure.specs.Supports.{Choice}
use Rattle.mn_prop.specs.Contexts.{IsNamed, box_of, vars_of}
use Rattle.mn_table.specs.Marks.{AreAlive}
use Rattle.mn_table.proofs.Looking.{next_row}
use Rattle.mn_table.proofs.Marking.{AliveTo, all_alive, drop_next, not_alive, one_alive, still_covered, wide_through}
use Rattle.mn_table.proofs.Supporting.{all_named}
use Rattle.mn_table.proofs.listed.Listed.mark.Goals as goal
use Rattle.mn_table.proofs.listed.Listed.mark.Goals.{then-is_choice, else-is_choice}

pub is_choice-requires-clause-named : goal.is_choice-requires-clause-named
is_choice-requires-clause-named c =
    subst (AllByRecursion (IsNamed (vars_of c.args.c.now))) (sym c.as_slice.ensures) (all_named (vars_of c.args.c.now) c.args.self.now.v.now c.requires.ready.suits.named)

pub insert-requires : goal.insert-requires
insert-requires c =
    let s = c.args.self.now in
    let n = c.loop-rest.number in
    let small : n < 2 ^ 63 = search rules in
    let some = subst (λ k. 1 ≤ k) (sym c.len-arity.ensures) s.some in
    let next = next_row c.len-arity.result c.loop-rest.rest.now c.split_at.result.0.now c.split_at.result.1.now some c.loop-rest-test.true c.split_at.ensures.front c.split_at.ensures.back in
    let here = drop_next (rows_of c.len-arity.result s.cells.now) n c.split_at.result.0.now (rows_of c.len-arity.result c.split_at.result.1.now) (c.loop-rest.invariant.behind ∙ next) in
    let within = slice_get_within (rows_of c.len-arity.result s.cells.now) n c.split_at.result.0.now here.0 in
    let covered = c.requires.covered n (subst (λ k. n < length (rows_of k s.cells.now)) c.len-arity.ensures within) in
    subst (IsCovered c.loop-rest.alive) (sym (to_z_pos w64 n small)) (still_covered c.args.alive.now c.loop-rest.alive (pos n) c.loop-rest.invariant.wide covered)

pub loop-rest-preserved : goal.loop-rest-preserved
loop-rest-preserved c =
    let s = c.args.self.now in
    let n = c.loop-rest.number in
    let small : n < 2 ^ 63 = search rules in
    let some = subst (λ k. 1 ≤ k) (sym c.len-arity.ensures) s.some in
    let next = next_row c.len-arity.result c.loop-rest.rest.now c.split_at.result.0.now c.split_at.result.1.now some c.loop-rest-test.true c.split_at.ensures.front c.split_at.ensures.back in
    let here = drop_next (rows_of c.len-arity.result s.cells.now) n c.split_at.result.0.now (rows_of c.len-arity.result c.split_at.result.1.now) (c.loop-rest.invariant.behind ∙ next) in
    let few = c.loop-rest.invariant.few in
    let told = subst (λ (ts : List Term). IsTrue c.is_choice.result ↔ Choice (box_of c.args.c.now) ts c.split_at.result.0.now) c.as_slice.ensures c.is_choice.ensures in
    elim c.if-is_choice.branch [
      | then-is_choice w ↦
          let more = subst (λ (k : ℤ). (a : ℤ) → members w.insert.new.self a ≡ (int_eq a k || members c.loop-rest.alive a)) (to_z_pos w64 n small) w.insert.ensures.members in
          record {
            behind = here.1;
            few = omega (arith, few, c.split_at.ensures.back_len, c.loop-rest-test.true, some);
            wide = subst (IsAsWide c.args.alive.now) (sym w.alive-is) (wide_through c.args.alive.now c.loop-rest.alive w.insert.new.self c.loop-rest.invariant.wide w.insert.ensures.wide);
            so_far = subst (λ (values : Values). AliveTo (box_of c.args.c.now) s.v.now (rows_of c.len-arity.result s.cells.now) values (n + 1)) (sym w.alive-is)
                (one_alive (box_of c.args.c.now) s.v.now (rows_of c.len-arity.result s.cells.now) n c.split_at.result.0.now here.0 c.loop-rest.alive w.insert.new.self c.loop-rest.invariant.so_far (told.0 w.if-is_choice.true) more);
          }
      | else-is_choice w ↦ record {
        behind = here.1;
        few = omega (arith, few, c.split_at.ensures.back_len, c.loop-rest-test.true, some);
        wide = subst (IsAsWide c.args.alive.now) (sym w.alive-is) c.loop-rest.invariant.wide;
        so_far = subst (λ (values : Values). AliveTo (box_of c.args.c.now) s.v.now (rows_of c.len-arity.result s.cells.now) values (n + 1)) (sym w.alive-is)
            (not_alive (box_of c.args.c.now) s.v.now (rows_of c.len-arity.result s.cells.now) n c.split_at.result.0.now here.0 c.loop-rest.alive c.loop-rest.invariant.so_far (λ chosen. true≢false (sym (told.1 chosen) ∙ w.if-is_choice.false)));
      }
    ]

pub returns-clause-alive : goal.returns-clause-alive
returns-clause-alive c =
    let s = c.args.self.now in
    let end = rows_of-end c.len-arity.result c.loop-rest.rest.now c.loop-rest-test.false in
    subst (λ n. AreAlive (box_of c.args.c.now) s.v.now (rows_of n s.cells.now) c.loop-rest.alive) c.len-arity.ensures
    (all_alive (box_of c.args.c.now) s.v.now (rows_of c.len-arity.result s.cells.now) c.loop-rest.alive c.loop-rest.number (c.loop-rest.invariant.behind ∙ end) c.loop-rest.invariant.so_far)

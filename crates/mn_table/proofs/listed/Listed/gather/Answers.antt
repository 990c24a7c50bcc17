use Rattle.std.proofs.Common.{◌≡◌, ◌↔◌, ◌+◌, ◌<◌, ◌≤◌, ◌^◌, ℤ, ◌||◌, IsTrue, List, rules, FitsSigned, sym, subst, ◌∙◌, true≢false, w64, arith}
use Rattle.std.proofs.lemmas.Int.{to_z-of_z, to_z_pos}
use Rattle.std.specs.List.{AllByRecursion}
use Rattle.std.specs.Ordering.{int_eq}
use Rattle.mn_boxes.specs.Values.{IsAsWide, IsCovered, Values, members}
use Rattle.mn_meaning.specs.Families.{rows_of}
use Rattle.mn_meaning.specs.Meaning.{at}
use Rattle.mn_meaning.proofs.Rows.{rows_of-end}
use Rattle.mn_table.specs.Marks.{FoundWith}
use Rattle.mn_table.proofs.Looking.{next_row}
use Rattle.mn_table.proofs.Marking.{FoundTo, all_behind, all_found, all_in_front, drop_next, not_found, one_found, still_covered, wide_through}
use Rattle.mn_table.proofs.listed.Listed.gather.Goals as goal
use Rattle.mn_table.proofs.listed.Listed.gather.Goals.{then-has, else-has}

pub insert-requires : goal.insert-requires
insert-requires c =
    let s = c.args.self.now in
    let value = at c.split_at.result.0.now c.args.i in
    let fits : FitsSigned w64 value = search rules in
    let within = subst (λ k. c.args.i < k) (sym c.len-arity.ensures) c.requires.place in
    let covered = subst (λ (row : List ℤ). IsCovered c.args.found.now (at row c.args.i)) (sym c.split_at.ensures.front)
    (all_in_front (IsCovered c.args.found.now) c.len-arity.result c.args.i c.loop-rest.rest.now c.loop-rest.invariant.covered within c.loop-rest-test.true) in
    subst (IsCovered c.loop-rest.found) (sym (to_z-of_z w64 value fits)) (still_covered c.args.found.now c.loop-rest.found value c.loop-rest.invariant.wide covered)

pub loop-rest-preserved : goal.loop-rest-preserved
loop-rest-preserved c =
    let s = c.args.self.now in
    let n = c.loop-rest.number in
    let rows = rows_of c.len-arity.result s.cells.now in
    let small : n < 2 ^ 63 = search rules in
    let value = at c.split_at.result.0.now c.args.i in
    let some = subst (λ k. 1 ≤ k) (sym c.len-arity.ensures) s.some in
    let next = next_row c.len-arity.result c.loop-rest.rest.now c.split_at.result.0.now c.split_at.result.1.now some c.loop-rest-test.true c.split_at.ensures.front c.split_at.ensures.back in
    let here = drop_next rows n c.split_at.result.0.now (rows_of c.len-arity.result c.split_at.result.1.now) (c.loop-rest.invariant.behind ∙ next) in
    let few = c.loop-rest.invariant.few in
    let told = subst (λ (k : ℤ). c.has.result ≡ members c.args.alive.now k) (to_z_pos w64 n small) c.has.ensures in
    let behind = subst (AllByRecursion (IsCovered c.args.found.now)) (sym c.split_at.ensures.back) (all_behind (IsCovered c.args.found.now) c.len-arity.result c.loop-rest.rest.now c.loop-rest.invariant.covered) in
    elim c.if-has.branch [
      | then-has w ↦
          let fits : FitsSigned w64 value = search rules in
          let more = subst (λ (k : ℤ). (a : ℤ) → members w.insert.new.self a ≡ (int_eq a k || members c.loop-rest.found a)) (to_z-of_z w64 value fits) w.insert.ensures.members in
          record {
            behind = here.1;
            few = omega (arith, few, c.split_at.ensures.back_len, c.loop-rest-test.true, some);
            wide = subst (IsAsWide c.args.found.now) (sym w.found-is) (wide_through c.args.found.now c.loop-rest.found w.insert.new.self c.loop-rest.invariant.wide w.insert.ensures.wide);
            covered = behind;
            so_far = subst (λ (values : Values). FoundTo c.args.alive.now c.args.i rows values (n + 1)) (sym w.found-is)
                (one_found c.args.alive.now c.args.i rows n c.split_at.result.0.now here.0 c.loop-rest.found w.insert.new.self value c.loop-rest.invariant.so_far (sym told ∙ w.if-has.true) (λ k. value) more);
          }
      | else-has w ↦ record {
        behind = here.1;
        few = omega (arith, few, c.split_at.ensures.back_len, c.loop-rest-test.true, some);
        wide = subst (IsAsWide c.args.found.now) (sym w.found-is) c.loop-rest.invariant.wide;
        covered = behind;
        so_far = subst (λ (values : Values). FoundTo c.args.alive.now c.args.i rows values (n + 1)) (sym w.found-is)
            (not_found c.args.alive.now c.args.i rows n c.split_at.result.0.now here.0 c.loop-rest.found c.loop-rest.invariant.so_far (λ alive. true≢false (sym (told ∙ alive) ∙ w.if-has.false)));
      }
    ]

pub returns-clause-found : goal.returns-clause-found
returns-clause-found c =
    let s = c.args.self.now in
    let end = rows_of-end c.len-arity.result c.loop-rest.rest.now c.loop-rest-test.false in
    subst (λ n. (a : ℤ) → IsTrue (members c.loop-rest.found a) ↔ FoundWith c.args.alive.now c.args.i a (rows_of n s.cells.now)) c.len-arity.ensures
    (all_found c.args.alive.now c.args.i (rows_of c.len-arity.result s.cells.now) c.loop-rest.found c.loop-rest.number (c.loop-rest.invariant.behind ∙ end) c.loop-rest.invariant.so_far)

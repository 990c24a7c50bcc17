use Rattle.std.proofs.Common.{◌≤◌, sym, subst, ◌∙◌, true≢false, refl, w64}
use Rattle.std.proofs.lemmas.Int.{to_z-of_z}
use Rattle.std.specs.List.{AllByRecursion}
use Rattle.mn_meaning.specs.Families.{rows_of}
use Rattle.mn_meaning.proofs.Rows.{rows_of-end}
use Rattle.mn_prop.specs.Contexts.{IsNamed, box_of, vars_of}
use Rattle.mn_table.proofs.Looking.{next_row, no_row, row_is, row_on}
use Rattle.mn_table.proofs.Supporting.{all_named}
use Rattle.mn_table.proofs.listed.Listed.has_row.Goals as goal

pub is_choice_with-requires-clause-named : goal.is_choice_with-requires-clause-named
is_choice_with-requires-clause-named c =
    subst (AllByRecursion (IsNamed (vars_of c.args.c.now))) (sym c.as_slice.ensures) (all_named (vars_of c.args.c.now) c.args.self.now.v.now c.requires.ready.suits.named)

pub returns-then-is_choice_with : goal.returns-then-is_choice_with
returns-then-is_choice_with c =
    let s = c.args.self.now in
    let some = subst (λ n. 1 ≤ n) (sym c.len-arity.ensures) s.some in
    let next = next_row c.len-arity.result c.loop-rest.rest.now c.split_at.result.0.now c.split_at.result.1.now some c.loop-rest-test.true c.split_at.ensures.front c.split_at.ensures.back in
    let told = rw (c.as_slice.ensures, to_z-of_z w64 c.args.a c.ranges.a) at c.is_choice_with.ensures in
    let so_far = rw (to_z-of_z w64 c.args.a c.ranges.a) at c.loop-rest.invariant in
    let both = told.0 c.if-is_choice_with.true in
    let r = row_is (box_of c.args.c.now) s.v.now c.args.i c.args.a (rows_of c.len-arity.result c.loop-rest.rest.now) (rows_of c.len-arity.result c.split_at.result.1.now) (rows_of c.len-arity.result s.cells.now) c.split_at.result.0.now next both.0 both.1 so_far in
    (λ e. rw c.len-arity.ensures at r, λ r. refl)

pub loop-rest-preserved : goal.loop-rest-preserved
loop-rest-preserved c =
    let s = c.args.self.now in
    let some = subst (λ n. 1 ≤ n) (sym c.len-arity.ensures) s.some in
    let next = next_row c.len-arity.result c.loop-rest.rest.now c.split_at.result.0.now c.split_at.result.1.now some c.loop-rest-test.true c.split_at.ensures.front c.split_at.ensures.back in
    let told = rw c.as_slice.ensures at c.is_choice_with.ensures in
    row_on (box_of c.args.c.now) s.v.now c.args.i _ (rows_of c.len-arity.result c.loop-rest.rest.now) (rows_of c.len-arity.result c.split_at.result.1.now) (rows_of c.len-arity.result s.cells.now) c.split_at.result.0.now next
    (λ given chosen. true≢false (sym (told.1 (given, chosen)) ∙ c.if-is_choice_with.false)) c.loop-rest.invariant

pub returns : goal.returns
returns c =
    let s = c.args.self.now in
    let so_far = rw (to_z-of_z w64 c.args.a c.ranges.a) at c.loop-rest.invariant in
    let none = no_row (box_of c.args.c.now) s.v.now c.args.i c.args.a (rows_of c.len-arity.result c.loop-rest.rest.now) (rows_of c.len-arity.result s.cells.now) (rows_of-end c.len-arity.result c.loop-rest.rest.now c.loop-rest-test.false) so_far in
    (λ never. absurd (true≢false (sym never)), λ r. absurd (none (rw (sym c.len-arity.ensures) at r)))

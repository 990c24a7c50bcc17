use Rattle.std.proofs.Common.{◌≡◌, ◌↔◌, ◌+◌, ℤ, IsTrue, List, drop, length, of_z, to_z, sym, subst, ap, ◌∙◌, true≢false, w64, arith}
use Rattle.std.proofs.lemmas.Int.{to_z-of_z}
use Rattle.std.proofs.lemmas.List.{drop_all}
use Rattle.std.specs.List.{AllByRecursion}
use Rattle.std.specs.Prelude.{Vec}
use Rattle.std.specs.declared.alloc.Global.{Global}
use Rattle.mn_model.specs.Members.{AreDistinct}
use Rattle.mn_model.specs.declared.constraint.Term.{Term}
use Rattle.mn_meaning.specs.Meaning.{at}
use Rattle.mn_closure.specs.Supports.{Choice}
use Rattle.mn_prop.specs.Contexts.{IsNamed, box_of, vars_of}
use Rattle.mn_table.specs.Choosing.{CountsWith, rows_in}
use Rattle.mn_table.proofs.Counted.{CountsOn, counts_all, counts_from, counts_on, counts_one}
use Rattle.mn_table.proofs.Repeats.{distinct_left, kept_distinct, row_at, rows_next}
use Rattle.mn_table.proofs.Supporting.{all_named}
use Rattle.mn_table.proofs.forbidden.Forbidden.count.Goals as goal
use Rattle.mn_table.proofs.forbidden.Forbidden.count.Goals.{then-is_choice_with, else-is_choice_with}

pub loop-r-init : goal.loop-r-init
loop-r-init c = record { few = omega arith; so_far = counts_from (box_of c.args.c.now) c.args.self.now.v.now c.args.i (to_z w64 (of_z w64 c.args.a)) (rows_in c.as_slice-rows.result.now) }

pub is_choice_with-requires-clause-named : goal.is_choice_with-requires-clause-named
is_choice_with-requires-clause-named c =
    subst (AllByRecursion (IsNamed (vars_of c.args.c.now))) (sym c.as_slice.ensures) (all_named (vars_of c.args.c.now) c.args.self.now.v.now c.requires.ready.suits.named)

pub is_choice_with-requires-clause-level : goal.is_choice_with-requires-clause-level
is_choice_with-requires-clause-level c =
    let s = c.args.self.now in
    let level = subst (λ (rows : List (Vec ℤ Global)). AllByRecursion (λ row. length row ≡ length s.v.now) (rows_in rows)) (sym c.as_slice-rows.ensures.keys) s.level in
    ap length c.as_slice-in-loop-r.ensures.value
    ∙ (row_at (λ row. length row ≡ length s.v.now) c.as_slice-rows.result.now c.loop-r.r c.index-rows-r.result c.loop-r-test.true c.index-rows-r.is level
    ∙ ap length (sym c.as_slice.ensures))

pub loop-r-preserved : goal.loop-r-preserved
loop-r-preserved c =
    let s = c.args.self.now in
    let box = box_of c.args.c.now in
    let a = to_z w64 (of_z w64 c.args.a) in
    let rows = c.as_slice-rows.result.now in
    let row = c.index-rows-r.result in
    let few = c.loop-r.invariant.few in
    let distinct = subst (λ (rs : List (Vec ℤ Global)). AreDistinct (rows_in rs)) (sym c.as_slice-rows.ensures.keys) (kept_distinct s.rows.keys c.as_slice-rows.ensures.unique) in
    let next = rows_next rows c.loop-r.r row c.loop-r-test.true c.index-rows-r.is in
    let told = subst (λ (q : List ℤ). IsTrue c.is_choice_with.result ↔ ((at q c.args.i ≡ a) × Choice box s.v.now q)) c.as_slice-in-loop-r.ensures.value
    (subst (λ (ts : List Term). IsTrue c.is_choice_with.result ↔ ((at c.as_slice-in-loop-r.result.now c.args.i ≡ a) × Choice box ts c.as_slice-in-loop-r.result.now)) c.as_slice.ensures c.is_choice_with.ensures) in
    elim c.if-is_choice_with.branch [
      | then-is_choice_with w ↦
          let both = told.0 w.if-is_choice_with.true in
          record {
            few = (let n = w.n-is in omega (arith, few, n));
            so_far = subst (CountsOn box s.v.now c.args.i a (rows_in (drop (c.loop-r.r + 1) rows)) (rows_in rows)) (sym w.n-is)
                (counts_one box s.v.now c.args.i a (rows_in (drop c.loop-r.r rows)) (rows_in rows) (rows_in (drop (c.loop-r.r + 1) rows)) row.items c.loop-r.n next (distinct_left c.loop-r.r rows distinct) both.0 both.1 c.loop-r.invariant.so_far);
          }
      | else-is_choice_with w ↦ record {
        few = (let n = w.n-is in omega (arith, few, n));
        so_far = subst (CountsOn box s.v.now c.args.i a (rows_in (drop (c.loop-r.r + 1) rows)) (rows_in rows)) (sym w.n-is)
            (counts_on box s.v.now c.args.i a (rows_in (drop c.loop-r.r rows)) (rows_in rows) (rows_in (drop (c.loop-r.r + 1) rows)) row.items c.loop-r.n next
            (λ given chosen. true≢false (sym (told.1 (given, chosen)) ∙ w.if-is_choice_with.false)) c.loop-r.invariant.so_far);
      }
    ]

pub returns-clause-counts : goal.returns-clause-counts
returns-clause-counts c =
    let s = c.args.self.now in
    let box = box_of c.args.c.now in
    let a = to_z w64 (of_z w64 c.args.a) in
    let rows = c.as_slice-rows.result.now in
    subst (λ (b : ℤ). CountsWith box s.v.now c.args.i b (rows_in s.rows.keys) c.loop-r.n) (to_z-of_z w64 c.args.a c.ranges.a)
    (subst (λ (rs : List (Vec ℤ Global)). CountsWith box s.v.now c.args.i a (rows_in rs) c.loop-r.n) c.as_slice-rows.ensures.keys
    (counts_all box s.v.now c.args.i a (rows_in (drop c.loop-r.r rows)) (rows_in rows) c.loop-r.n (ap rows_in (drop_all c.loop-r.r rows c.loop-r-test.false)) c.loop-r.invariant.so_far))

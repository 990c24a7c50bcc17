use Rattle.std.proofs.Common.{◌≡◌, ◌-◌, ◌*◌, ◌^◌, ◌<◌, ℤ, List, length, min, refl, sym, subst, ap, ◌∙◌, w64}
use Rattle.std.proofs.lemmas.Int.{to_z-of_z}
use Rattle.std.proofs.lemmas.Bool.{lt-ltb, ltb-true}
use Rattle.std.specs.List.{AllByRecursion}
use Rattle.mn_model.specs.declared.constraint.Term.{Term}
use Rattle.mn_boxes.specs.Places.{PlaceHas}
use Rattle.mn_prop.specs.Contexts.{IsNamed, box_of, vars_of}
use Rattle.mn_table.specs.Choosing.{CountsWith, choice_count, rows_in}
use Rattle.mn_table.proofs.Forbidding.{counted_free, free_choice, free_counted, free_supports, support_free}
use Rattle.mn_table.proofs.Multiplied.{less_capped, times_small}
use Rattle.mn_table.proofs.Repeats.{as_many}
use Rattle.mn_table.proofs.Supporting.{all_named}
use Rattle.mn_table.proofs.forbidden.ForbiddenSupportTest.supported.Goals as goal

pub choices-many-requires : goal.choices-many-requires
choices-many-requires c =
    subst (AllByRecursion (IsNamed (vars_of c.args.c.now))) (sym c.as_slice.ensures) (all_named (vars_of c.args.c.now) c.args.self.now.v.now c.requires.ready.suits.named)

pub returns-then-len-here : goal.returns-then-len-here
returns-then-len-here c =
    let s = c.args.self.now in
    let box = box_of c.args.c.now in
    let vars = vars_of c.args.c.now in
    let t = c.get.result.now in
    let rows = rows_in s.rows.keys in
    let there : PlaceHas box t c.args.a = c.requires.there t c.get.ensures in
    let many = subst (λ (ts : List Term). c.choices-many.result ≡ min (choice_count box ts) (2 ^ 128 - 1)) c.as_slice.ensures c.choices-many.ensures in
    let small = times_small c.len.result c.size-here.result c.len.type_inv c.size-here.type_inv in
    let less = (less_capped (c.len.result * c.size-here.result) c.choices-many.result (choice_count box s.v.now) (2 ^ 128 - 1) small many).0 c.if-len-here.true in
    let fewer = subst (λ n. n < choice_count box s.v.now) (ap (λ n. n * c.size-here.result) (c.len.ensures.len ∙ sym (as_many s.rows.keys)) ∙ ap (λ n. length rows * n) c.size-here.ensures) less in
    let free = free_choice vars box s.v.now c.args.i t c.args.a c.lawful.ensures.boxes.now c.get.ensures there rows fewer in
    (λ e. free_supports s.inst.now.tuples s.v.now s.tab.now rows box c.args.i t c.args.a s.same vars c.lawful.ensures.boxes.now c.get.ensures free, λ supported. refl)

pub returns : goal.returns
returns c =
    let s = c.args.self.now in
    let box = box_of c.args.c.now in
    let vars = vars_of c.args.c.now in
    let t = c.get.result.now in
    let rows = rows_in s.rows.keys in
    let there : PlaceHas box t c.args.a = c.requires.there t c.get.ensures in
    let many = subst (λ (ts : List Term). c.choices-many.result ≡ min (choice_count box ts) (2 ^ 128 - 1)) c.as_slice.ensures c.choices-many.ensures in
    let small = times_small c.count.result c.size-here.result c.count.type_inv c.size-here.type_inv in
    let less = less_capped (c.count.result * c.size-here.result) c.choices-many.result (choice_count box s.v.now) (2 ^ 128 - 1) small many in
    let counts = subst (λ (b : ℤ). CountsWith box s.v.now c.args.i b rows c.count.result) (to_z-of_z w64 c.args.a c.ranges.a) c.count.ensures.counts in (
      λ e. free_supports s.inst.now.tuples s.v.now s.tab.now rows box c.args.i t c.args.a s.same vars c.lawful.ensures.boxes.now c.get.ensures
          (counted_free vars box s.v.now c.args.i t c.args.a c.lawful.ensures.boxes.now c.get.ensures there rows c.count.result counts
          (subst (λ n. c.count.result * n < choice_count box s.v.now) c.size-here.ensures (less.0 (ltb-true (c.count.result * c.size-here.result) c.choices-many.result e)))),
      λ supported. lt-ltb (c.count.result * c.size-here.result) c.choices-many.result
          (less.1 (subst (λ n. c.count.result * n < choice_count box s.v.now) (sym c.size-here.ensures)
          (free_counted vars box s.v.now c.args.i t c.args.a c.lawful.ensures.boxes.now c.get.ensures there rows c.count.result counts
          (support_free s.inst.now.tuples s.v.now s.tab.now rows box c.args.i t c.args.a s.same vars c.lawful.ensures.boxes.now c.get.ensures supported)))),
    )

use Rattle.std.proofs.Common.{◌*◌, ◌<◌, List, sym, subst, ◌∙◌}
use Rattle.std.specs.List.{AllByRecursion}
use Rattle.mn_model.specs.declared.constraint.Term.{Term}
use Rattle.mn_prop.specs.Contexts.{IsNamed, box_of, vars_of}
use Rattle.mn_prop.proofs.Stepping.{no_step}
use Rattle.mn_table.specs.Choosing.{choice_count, place_size, rows_in}
use Rattle.mn_table.proofs.Forbidding.{few_close}
use Rattle.mn_table.proofs.Repeats.{as_many}
use Rattle.mn_table.proofs.Supporting.{all_named}
use Rattle.mn_table.proofs.forbidden.Forbidden.filter.Goals as goal

pub are_few-requires : goal.are_few-requires
are_few-requires c =
    subst (AllByRecursion (IsNamed (vars_of c.args.c.now))) (sym c.as_slice.ensures) (all_named (vars_of c.args.c.now) c.args.self.now.v.now c.requires.suits.named)

pub returns-then-are_few : goal.returns-then-are_few
returns-then-are_few c =
    let s = c.args.self.now in
    let box = box_of c.args.c.now in
    let rows = rows_in s.rows.keys in
    let few = subst (λ (ts : List Term). AllByRecursion (λ t. c.len.result * place_size box t < choice_count box ts) ts) c.as_slice.ensures (c.are_few.ensures c.if-are_few.true) in
    let fewer = subst (λ n. AllByRecursion (λ t. n * place_size box t < choice_count box s.v.now) s.v.now) (c.len.ensures.len ∙ sym (as_many s.rows.keys)) few in
    no_step c.args.c.now (few_close s.inst.now.tuples s.v.now s.tab.now rows box s.same (vars_of c.args.c.now) c.lawful.ensures.boxes.now s.some fewer)

use Rattle.std.proofs.Common.{◌≡◌, ℕ, ◌+◌, ◌-◌, ◌<◌, ◌≤◌, arith, ap, ◌∙◌}
use Rattle.mn_model.specs.Problem.{size_of_dims}
use Rattle.mn_model.specs.Variable.{number_of}
use Rattle.mn_canonical.specs.Names.{numbered_text}
use Rattle.mn_printer.proofs.Owners.{last_begun, begins_before, none_has, passed_there, size_within, numbered_at}
use Rattle.mn_printer.proofs.names.owner.Goals as goal

pub returns-then-count-eq0-clause-missing : goal.returns-then-count-eq0-clause-missing
returns-then-count-eq0-clause-missing c =
    λ e. none_has c.decls-decls.result.now c.args.inst.now.decls c.begun-count.result c.args.n c.decls-decls.ensures c.lawful.ensures.numbered c.begun-count.ensures.within
    (λ k d at there. absurd (omega (arith, at, c.if-count-eq0.true))) c.begun-count.ensures.next

pub overflow_sub-n : goal.overflow_sub-n
overflow_sub-n c =
    let begins = begins_before c.decls-decls.result.now c.begun-count.result c.args.n c.index-decls-count.result c.if-count-eq0.false c.begun-count.ensures.within c.index-decls-count.is c.begun-count.ensures.last in
    omega (arith, begins, c.number.ensures)

pub size_of-requires-clause-few : goal.size_of-requires-clause-few
size_of-requires-clause-few c =
    let there = last_begun c.decls-decls.result.now c.args.inst.now.decls c.decls-decls.ensures c.begun-count.result c.index-decls-count.result c.if-count-eq0.false c.begun-count.ensures.within c.index-decls-count.is in
    omega (arith, size_within c.args.inst.now.decls (c.begun-count.result - 1) c.index-decls-count.result there, c.lawful.ensures.few_variables, ap size_of_dims c.as_slice.ensures)

pub returns-then-n-number-clause-begins : goal.returns-then-n-number-clause-begins
returns-then-n-number-clause-begins c =
    begins_before c.decls-decls.result.now c.begun-count.result c.args.n c.index-decls-count.result c.if-count-eq0.false c.begun-count.ensures.within c.index-decls-count.is c.begun-count.ensures.last

pub returns-then-n-number-clause-text : goal.returns-then-n-number-clause-text
returns-then-n-number-clause-text c =
    let there = last_begun c.decls-decls.result.now c.args.inst.now.decls c.decls-decls.ensures c.begun-count.result c.index-decls-count.result c.if-count-eq0.false c.begun-count.ensures.within c.index-decls-count.is in
    let begins = begins_before c.decls-decls.result.now c.begun-count.result c.args.n c.index-decls-count.result c.if-count-eq0.false c.begun-count.ensures.within c.index-decls-count.is c.begun-count.ensures.last in
    let below : c.args.n - number_of c.index-decls-count.result.first < size_of_dims c.index-decls-count.result.dims =
    omega (arith, c.if-n-number.true, c.number.ensures, c.size_of.ensures, ap size_of_dims c.as_slice.ensures) in
    ap (numbered_text c.args.inst.now.decls) (from_zero c.args.n)
    ∙ numbered_at 0 c.args.n c.args.inst.now.decls (c.begun-count.result - 1) c.index-decls-count.result c.lawful.ensures.numbered there begins below
  where
    from_zero : (n : ℕ) → n ≡ n - 0
    from_zero n = omega arith

pub returns-then-n-number-clause-few : goal.returns-then-n-number-clause-few
returns-then-n-number-clause-few c =
    let there = last_begun c.decls-decls.result.now c.args.inst.now.decls c.decls-decls.ensures c.begun-count.result c.index-decls-count.result c.if-count-eq0.false c.begun-count.ensures.within c.index-decls-count.is in
    omega (arith, size_within c.args.inst.now.decls (c.begun-count.result - 1) c.index-decls-count.result there, c.lawful.ensures.few_variables)

pub returns-else-n-number-clause-missing : goal.returns-else-n-number-clause-missing
returns-else-n-number-clause-missing c =
    let begins = begins_before c.decls-decls.result.now c.begun-count.result c.args.n c.index-decls-count.result c.if-count-eq0.false c.begun-count.ensures.within c.index-decls-count.is c.begun-count.ensures.last in
    let passed : number_of c.index-decls-count.result.first + size_of_dims c.index-decls-count.result.dims ≤ c.args.n =
    omega (arith, begins, c.if-n-number.false, c.number.ensures, c.size_of.ensures, ap size_of_dims c.as_slice.ensures) in
    λ e. none_has c.decls-decls.result.now c.args.inst.now.decls c.begun-count.result c.args.n c.decls-decls.ensures c.lawful.ensures.numbered c.begun-count.ensures.within
    (passed_there c.decls-decls.result.now c.begun-count.result c.args.n c.index-decls-count.result c.if-count-eq0.false c.begun-count.ensures.within c.index-decls-count.is passed) c.begun-count.ensures.next

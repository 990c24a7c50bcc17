use Rattle.std.proofs.Common.{◌≡◌, ◌+◌, ◌*◌, ◌<◌, ◌≤◌, ◌-◌, ◌/◌, ◌++◌, length, take, drop, get_or, codes, map, ap, sym, ◌∙◌, subst, arith}
use Rattle.std.specs.List.{AllByRecursion, flat_map}
use Rattle.mn_model.specs.Problem.{size_of_dims}
use Rattle.mn_model.proofs.Sizes.{shaped-drop}
use Rattle.mn_canonical.specs.Declarations.{nested_text}
use Rattle.mn_canonical.specs.Lists.{repeated}
use Rattle.mn_printer.specs.Pages.{onto}
use Rattle.mn_printer.proofs.Joining.{onto_nothing}
use Rattle.mn_printer.proofs.Nested.{nested_is}
use Rattle.mn_printer.proofs.Ones.{nested_ones, size_passed}
use Rattle.mn_printer.proofs.Rows.{one_mapped_row_more, no_rows}
use Rattle.mn_printer.proofs.Separating.{then_onto, twice, thrice}
use Rattle.mn_printer.proofs.declarations.+nesting.Goals as goal

pub rows-loop-left-preserved : goal.rows-loop-left-preserved
rows-loop-left-preserved t c =
    let others = take (length c.args.dims.now - 1) (drop 1 c.args.dims.now) in
    one_mapped_row_more c.loop-left.page c.nested-in-loop-left.new.page (λ y. codes "," ++ y) (nested_text c.args.inst.now others) (c.args.size / get_or c.args.dims.now 0 0) c.loop-left.left c.loop-left.rest.now
    c.row_and_rest-in-loop-left.result.1.now (codes "," ++ nested_text c.args.inst.now others c.row_and_rest-in-loop-left.result.0.now) c.loop-left-test.true c.row_and_rest-in-loop-left.ensures.rest
    (twice _ _ _ (codes ",") _ c.in_ok-put-in-len1-up-2.ensures c.in_ok-nested-in-len1-up-2.ensures) (ap (λ row. codes "," ++ nested_text c.args.inst.now others row) c.row_and_rest-in-loop-left.ensures.row)
    ∙ c.loop-left.invariant

pub rows-returns-after-loop-left : goal.rows-returns-after-loop-left
rows-returns-after-loop-left t c =
    let others = take (length c.args.dims.now - 1) (drop 1 c.args.dims.now) in
    let inner = c.args.size / get_or c.args.dims.now 0 0 in
    let none : c.loop-left.left ≡ 0 = omega arith in
    let written = sym (onto_nothing c.loop-left.page) ∙ ap (λ rows. onto c.loop-left.page (flat_map (λ y. codes "," ++ y) (map (nested_text c.args.inst.now others) rows))) (sym (no_rows inner c.loop-left.left c.loop-left.rest.now none)) ∙ c.loop-left.invariant in
    then_onto c.put-in-len1-up.result _ _ _ _ _ _
    (thrice _ _ _ _ (codes "[") _ _ c.in_ok-put-in-len1-up.ensures c.in_ok-nested-in-len1-up.ensures written)
    (nested_is c.args.inst.now c.args.dims.now c.args.size c.args.vars.now _ _ c.in-len1-up.len_at_least c.requires.shaped c.requires.sized c.row_and_rest.ensures.row c.row_and_rest.ensures.rest)
    c.put-in-len1-up.ensures

pub nested-rows-requires : goal.nested-rows-requires
nested-rows-requires t c =
    let at : 2 * length c.args.dims.now + 1 ≡ t = c.decreases in
    let ones = c.leading_ones-ones.result in
    let behind : c.split_at.result.1.now ≡ drop ones c.args.dims.now = c.split_at.ensures.back in
    let below : 2 * length c.split_at.result.1.now < t = omega (arith, at, c.split_at.ensures.back_len) in (
      below,
      (
        subst (AllByRecursion (λ dim. 1 ≤ dim)) (sym behind) (shaped-drop ones c.args.dims.now c.requires.shaped),
        c.requires.sized ∙ ap size_of_dims c.leading_ones-ones.ensures.ones ∙ size_passed ones (drop ones c.args.dims.now) ∙ ap size_of_dims (sym behind),
      ),
    )

pub nested-returns : goal.nested-returns
nested-returns t c =
    let ones = c.leading_ones-ones.result in
    let rest = drop ones c.args.dims.now in
    let behind : c.split_at.result.1.now ≡ rest = c.split_at.ensures.back in
    let short : length c.args.vars.now ≤ size_of_dims rest = omega (arith, c.requires.short, c.requires.sized ∙ ap size_of_dims c.leading_ones-ones.ensures.ones ∙ size_passed ones rest) in
    then_onto c.repeat-2.result _ _ _ _ _ _ (twice _ _ _ _ _ c.in_ok-repeat.ensures c.in_ok-rows.ensures)
    (ap (λ ds. nested_text c.args.inst.now ds c.args.vars.now) c.leading_ones-ones.ensures.ones ∙ nested_ones c.args.inst.now ones rest c.args.vars.now short
    ∙ ap (λ ds. (repeated ones (codes "[") ++ nested_text c.args.inst.now ds c.args.vars.now) ++ repeated ones (codes "]")) (sym behind)) c.repeat-2.ensures

use Rattle.std.proofs.Common.{◌≡◌, ◌+◌, ◌/◌, ◌≤◌, arith, length, drop, get_or, ap, sym, ◌∙◌}
use Rattle.std.proofs.lemmas.List.{drop_all}
use Rattle.mn_model.specs.Problem.{size_of_dims}
use Rattle.mn_model.proofs.Sizes.{shaped-drop, size_of_dims-positive}
use Rattle.mn_printer.specs.Pages.{onto}
use Rattle.mn_printer.proofs.Joining.{onto_nothing}
use Rattle.mn_printer.proofs.Sizes.{further_text, dims-drop, without_first, one_index_more, shaped_at}
use Rattle.mn_printer.proofs.names.further_indices.Goals as goal

pub nonzero_div-place : goal.nonzero_div-place
nonzero_div-place c =
    let dims = c.args.dims.now in
    let i = c.loop-dim.dim-index in
    let here : c.loop-dim.size / get_or dims i 0 ≡ size_of_dims (drop (i + 1) dims) =
    without_first _ _ _ (c.loop-dim.invariant.sized ∙ ap size_of_dims (dims-drop i dims (omega arith))) (shaped_at dims i c.requires.shaped (omega arith)) in
    omega (arith, here, size_of_dims-positive (drop (i + 1) dims) (shaped-drop (i + 1) dims c.requires.shaped))

pub nonzero_rem-place : goal.nonzero_rem-place
nonzero_rem-place c =
    let dims = c.args.dims.now in
    let i = c.loop-dim.dim-index in
    let here : c.loop-dim.size / get_or dims i 0 ≡ size_of_dims (drop (i + 1) dims) =
    without_first _ _ _ (c.loop-dim.invariant.sized ∙ ap size_of_dims (dims-drop i dims (omega arith))) (shaped_at dims i c.requires.shaped (omega arith)) in
    omega (arith, here, size_of_dims-positive (drop (i + 1) dims) (shaped-drop (i + 1) dims c.requires.shaped))

pub loop-dim-preserved : goal.loop-dim-preserved
loop-dim-preserved c =
    let dims = c.args.dims.now in
    let i = c.loop-dim.dim-index in
    let here : c.loop-dim.size / get_or dims i 0 ≡ size_of_dims (drop (i + 1) dims) =
    without_first _ _ _ (c.loop-dim.invariant.sized ∙ ap size_of_dims (dims-drop i dims (omega arith))) (shaped_at dims i c.requires.shaped (omega arith)) in
    record {
      sized = here;
      whole = one_index_more _ _ _ dims i c.loop-dim.place _ (omega arith) here c.in_ok-put.ensures c.in_ok-put_count.ensures ∙ c.loop-dim.invariant.whole;
    }

pub returns : goal.returns
returns c =
    let dims = c.args.dims.now in
    let end : length dims ≤ c.loop-dim.dim-index = omega arith in
    sym (onto_nothing _) ∙ ap (λ ds. onto c.loop-dim.page (further_text ds c.loop-dim.place)) (sym (drop_all c.loop-dim.dim-index dims end)) ∙ c.loop-dim.invariant.whole

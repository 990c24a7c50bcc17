use Rattle.std.proofs.Common.{◌≡◌, ℕ, ◌<◌, List, [], ◌∷◌, length, codes, refl, arith}
use Rattle.mn_model.proofs.Sizes.{size_of_dims-positive}
use Rattle.mn_sections.specs.Matrices.{indices_of}
use Rattle.mn_canonical.specs.Names.{subscript_text}
use Rattle.mn_printer.proofs.Joining.{onto_none}
use Rattle.mn_printer.proofs.Sizes.{shaped_rest, subscript_is}
use Rattle.mn_printer.proofs.Separating.{then_onto, thrice}
use Rattle.mn_printer.proofs.names.indices.Goals as goal

pub returns-in-empty : goal.returns-in-empty
returns-in-empty c = onto_none _ _ (none _ _ c.in-empty.len_below)
  where
    none : (dims : List ℕ) (place : ℕ) → length dims < 1 → subscript_text (indices_of dims place) ≡ []
    none [] place few = refl
    none (dim ∷ dims) place few = absurd (omega arith)

pub nonzero_div-place : goal.nonzero_div-place
nonzero_div-place c = omega (arith, c.size_of-size.ensures, size_of_dims-positive _ (shaped_rest c.args.dims.now c.requires.shaped))

pub nonzero_rem-place : goal.nonzero_rem-place
nonzero_rem-place c = omega (arith, c.size_of-size.ensures, size_of_dims-positive _ (shaped_rest c.args.dims.now c.requires.shaped))

pub returns-in_ok-further_indices-in-len1-up : goal.returns-in_ok-further_indices-in-len1-up
returns-in_ok-further_indices-in-len1-up c =
    then_onto c.put-in-len1-up.result _ _ _ _ (codes "]") _
    (thrice _ _ _ _ (codes "[") _ _ c.in_ok-put-in-len1-up.ensures c.in_ok-put_count-in-len1-up.ensures c.in_ok-further_indices-in-len1-up.ensures)
    (subscript_is c.args.dims.now c.args.place c.size_of-size.result c.in-len1-up.len_at_least c.size_of-size.ensures) c.put-in-len1-up.ensures

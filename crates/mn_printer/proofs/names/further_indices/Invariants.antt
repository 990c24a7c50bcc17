use Rattle.std.proofs.Common.{◌≡◌, drop}
use Rattle.mn_model.specs.Problem.{size_of_dims}
use Rattle.mn_printer.specs.Pages.{onto}
use Rattle.mn_printer.proofs.Sizes.{further_text}
use Rattle.mn_printer.proofs.names.further_indices.Given as goal

-- what is written and what is left to write are the whole
abbrev pub invariant-loop-dim : goal.invariant-loop-dim
invariant-loop-dim l = record {
  sized : l.size ≡ size_of_dims (drop l.dim-index l.dims);
  whole : onto l.page (further_text (drop l.dim-index l.dims) l.place) ≡ onto l.fn.page (further_text l.dims l.fn.place);
}

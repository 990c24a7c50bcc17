use Rattle.std.proofs.Common.{◌∙◌}
use Rattle.mn_model.proofs.Growing.{copied_read}
use Rattle.mn_model.proofs.instance.copy_of_index.Goals as goal

pub returns : goal.returns
returns c = (
  copied_read c.args.names.now.entries c.in_ok-names.names.entries c.in_ok-names.ensures.cases,
  copied_read c.args.lists.now.entries c.in_ok-lists.lists.entries c.in_ok-lists.ensures.cases,
  c.in_ok-owners.ensures.items ∙ c.as_slice.ensures.value,
)

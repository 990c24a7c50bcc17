use Rattle.std.proofs.Common.{rules}
use Rattle.mn_printer.specs.Pages.{blank}
use Rattle.mn_printer.proofs.page.Page.new.Goals as goal

pub returns : goal.returns
unfolding blank
returns c = search rules

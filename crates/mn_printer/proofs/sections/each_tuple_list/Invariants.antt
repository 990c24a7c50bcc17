use Rattle.std.proofs.Common.{◌≡◌, take}
use Rattle.std.specs.List.{flat_map}
use Rattle.mn_canonical.specs.Tables.{tuple_list_text}
use Rattle.mn_printer.specs.Pages.{onto}
use Rattle.mn_printer.proofs.sections.each_tuple_list.Given as goal

-- what is written so far stands behind what the page had
abbrev pub invariant-loop-list : goal.invariant-loop-list
invariant-loop-list l = l.page ≡ onto l.fn.page (flat_map tuple_list_text (take l.list-index l.list-items))

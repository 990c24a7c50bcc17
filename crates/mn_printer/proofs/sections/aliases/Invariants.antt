use Rattle.std.proofs.Common.{◌≡◌, take}
use Rattle.std.specs.List.{flat_map}
use Rattle.mn_canonical.specs.Declarations.{alias_text}
use Rattle.mn_printer.specs.Pages.{onto}
use Rattle.mn_printer.proofs.sections.aliases.Given as goal

-- what is written so far stands behind what the page had
abbrev pub invariant-loop-a : goal.invariant-loop-a
invariant-loop-a l = l.page ≡ onto l.fn.page (flat_map (alias_text l.inst) (take l.a-index l.a-items))

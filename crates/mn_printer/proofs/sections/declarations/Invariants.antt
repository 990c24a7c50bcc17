use Rattle.std.proofs.Common.{◌≡◌, take}
use Rattle.std.specs.List.{flat_map}
use Rattle.mn_canonical.specs.Declarations.{declaration_text}
use Rattle.mn_printer.specs.Pages.{onto}
use Rattle.mn_printer.proofs.sections.declarations.Given as goal

-- what is written so far stands behind what the page had
abbrev pub invariant-loop-decl : goal.invariant-loop-decl
invariant-loop-decl l = l.page ≡ onto l.fn.page (flat_map declaration_text (take l.decl-index l.decl-items))

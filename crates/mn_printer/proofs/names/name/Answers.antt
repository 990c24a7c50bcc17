use Rattle.std.proofs.Common.{◌≡◌, arith, get_or, ◌∙◌, sym}
use Rattle.std.proofs.lemmas.List.{get_or_default}
use Rattle.mn_model.proofs.NameParts.{ascii_name}
use Rattle.mn_printer.proofs.Joining.{page_steps, onto_nothing}
use Rattle.mn_printer.proofs.names.name.Goals as goal

pub loop-c-init : goal.loop-c-init
loop-c-init c = sym (onto_nothing _)

pub overflow_cast-c : goal.overflow_cast-c
overflow_cast-c c =
    let name = c.args.name.now in
    let i = c.loop-c.c-index in
    let item : c.c-item.result ≡ get_or name i 0 = c.c-item.is ∙ get_or_default name i c.c-item.result 0 (omega arith) in
    omega (arith, item, ascii_name name i c.requires (omega arith))

pub loop-c-preserved : goal.loop-c-preserved
loop-c-preserved c = grind (arith, page_steps)

use Rattle.std.proofs.Common.{◌≡◌, ◌++◌, ◌+◌, ◌∷◌, [], sym, ◌∙◌, arith, take, get_or}
use Rattle.std.proofs.lemmas.List.{take_more, get_or_default}
use Rattle.mn_model.proofs.NameParts.{ascii_name}
use Rattle.mn_model.proofs.name.string_of.Goals as goal

pub loop-c-preserved : goal.loop-c-preserved
loop-c-preserved c =
    let name = c.args.name.now in
    let i = c.loop-c.c-index in
    let item : c.c-item.result ≡ get_or name i 0 = c.c-item.is ∙ get_or_default name i c.c-item.result 0 (omega arith) in
    let more : take (i + 1) name ≡ take i name ++ get_or name i 0 ∷ [] = take_more name i 0 (omega arith) in
    let plain = c.in_ok-push.ensures.ascii (omega (arith, ascii_name name i c.requires (omega arith))) in
    c.in_ok-push.ensures.bytes ∙ ((λ j. c.loop-c.invariant j ++ plain j) ∙ ((λ j. take i name ++ item j ∷ []) ∙ sym more))

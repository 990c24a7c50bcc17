use Rattle.std.proofs.Common.{◌≡◌, ◌++◌, ◌+◌, ◌∷◌, [], sym, ap, ◌∙◌, arith, take, get_or, encode_utf8, encode_utf8_all}
use Rattle.std.proofs.lemmas.List.{take_more, get_or_default}
use Rattle.mn_driver.proofs.Spelled.{spelled_more}
use Rattle.mn_driver.proofs.request.string_of.Goals as goal

pub loop-c-preserved : goal.loop-c-preserved
loop-c-preserved c =
    let chars = c.args.chars.now in
    let i = c.loop-c.c-index in
    let item : c.c-item.result ≡ get_or chars i 0 = c.c-item.is ∙ get_or_default chars i c.c-item.result 0 (omega arith) in
    let more : take (i + 1) chars ≡ take i chars ++ get_or chars i 0 ∷ [] = take_more chars i 0 (omega arith) in
    c.in_ok-push.ensures.bytes ∙ ((λ j. c.loop-c.invariant j ++ encode_utf8 (item j)) ∙ sym (ap encode_utf8_all more ∙ spelled_more (take i chars) (get_or chars i 0)))

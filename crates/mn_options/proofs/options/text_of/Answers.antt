use Rattle.std.proofs.Common.{◌≡◌, chars, encode_utf8_all, sym, ap, ◌∙◌, map-id}
use Rattle.std.proofs.lemmas.Iterator.{YieldsList-from_chars}
use Rattle.std.proofs.lemmas.Iterator.Consumers.{YieldsList-end}
use Rattle.std.proofs.lemmas.Str.{encodes-chars}
use Rattle.mn_options.proofs.options.text_of.Goals as goal

pub returns : goal.returns
returns c =
    let end = YieldsList-end (YieldsList-from_chars c.args.word.now c.utf8.word cc) c.loop-c.yielded _ c.loop-c.yielded_by _ _ c.in-None.is c.next.ensures.steps in
    let all : c.loop-c.text ≡ chars c.args.word.now = c.loop-c.invariant ∙ (sym (map-id c.loop-c.yielded) ∙ end.0) in
    record { chars = all; bytes = ap encode_utf8_all all ∙ encodes-chars c.args.word.now c.utf8.word }

use Rattle.std.proofs.Common.{ap, sym, ◌∙◌, Some}
use Rattle.std.specs.Option.{option_map}
use Rattle.mn_outside.proofs.Trees.{file_at-file_map}
use Rattle.mn_outside.proofs.named.bytes_of.Goals as goal

pub returns-in-Some : goal.returns-in-Some
returns-in-Some c =
    ap Some c.as_slice.ensures.value ∙ ap (option_map (λ bytes. bytes.items)) c.in-Some.ensures.value
    ∙ sym (file_at-file_map c.args.files.now c.args.name.now)

pub returns-in-None : goal.returns-in-None
returns-in-None c = ap (option_map (λ bytes. bytes.items)) c.in-None.ensures.value ∙ sym (file_at-file_map c.args.files.now c.args.name.now)

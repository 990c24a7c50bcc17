use Rattle.std.proofs.Common.{◌≡◌, string_bytes}
use Rattle.std.proofs.lemmas.Result.{IfOk-at_ok}
use Rattle.mn_outside.proofs.Trees.{file_map_updated}
use Rattle.mn_outside.proofs.named.set_bytes.Goals as goal

pub returns-clause-ok : goal.returns-clause-ok
returns-clause-ok c =
    let key_is_name = IfOk-at_ok (λ s. string_bytes s ≡ c.args.name.now) c.in_ok-key.was c.from_str.ensures.ok in
    let set = file_map_updated c.args.files.now c.insert.new.self (string_bytes c.in_ok-key.key) c.in_ok-content.content c.in_ok-insert.ensures.updates in
    rw (key_is_name, c.in_ok-content.ensures.items) at set

-- A further call goes on where the first ones ended.
use Rattle.std.proofs.Common.{◌≡◌, ℕ, ◌+◌, ◌-◌, List, length, take, drop, sym, ap, ◌∙◌}
use Rattle.std.proofs.Math.Seq.{take-add}
use Rattle.std.proofs.lemmas.List.{take_rest}
use Rattle.std.specs.Prelude.{Option}
use Rattle.mn_outside.specs.Content.{FileMap, with_bytes, with_file_bytes}
use Rattle.mn_outside.specs.Laws.{with_bytes-with_bytes, with_file_bytes-with_file_bytes}

pub with_bytes_further : (told : Option (List ℕ)) (piece : List ℕ) (done n : ℕ)
    → with_bytes (with_bytes told (take done piece)) (take n (take (length piece - done) (drop done piece))) ≡ with_bytes told (take (done + n) piece)
with_bytes_further told piece done n =
    ap (λ rest. with_bytes (with_bytes told (take done piece)) (take n rest)) (take_rest piece done)
    ∙ with_bytes-with_bytes told _ _ ∙ ap (with_bytes told) (sym (take-add done n piece))

pub with_file_bytes_further : (told : Option FileMap) (name piece : List ℕ) (done n : ℕ)
    → with_file_bytes (with_file_bytes told name (take done piece)) name (take n (take (length piece - done) (drop done piece)))
    ≡ with_file_bytes told name (take (done + n) piece)
with_file_bytes_further told name piece done n =
    ap (λ rest. with_file_bytes (with_file_bytes told name (take done piece)) name (take n rest)) (take_rest piece done)
    ∙ with_file_bytes-with_file_bytes told name _ _ ∙ ap (with_file_bytes told name) (sym (take-add done n piece))

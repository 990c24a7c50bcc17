use Rattle.std.proofs.Common.{◌≡◌, ◌∙◌, ap, drop}
use Rattle.std.specs.List.{prefix_len}
use Rattle.std.proofs.lemmas.List.{take_rest}
use Rattle.mn_lexer.specs.Bytes.{is_word_byte}
use Rattle.mn_lexer.proofs.Words.{longest_word, first_at}
use Rattle.mn_lexer.proofs.fronts.word_len.Goals as goal

pub returns : goal.returns
returns c =
    let text = c.args.text.now in
    let count : c.word_bytes.result ≡ prefix_len is_word_byte (drop c.args.at text) = c.word_bytes.ensures ∙ ap (prefix_len is_word_byte) (take_rest text c.args.at) in
    rw count (longest_word (drop c.args.at text) (rw (first_at text c.args.at) c.requires.start))

use Rattle.std.proofs.Common.{⊎_elim, slice_index}
use Rattle.mn_lexer.proofs.Words.{longest_word, longest_plain}
use Rattle.mn_lexer.proofs.Markings.{longest_single}
use Rattle.mn_lexer.proofs.Firsts.{begins_nothing, blank_first, comment_first, other_first}
use Rattle.mn_lexer.proofs.fronts.front.Goals as goal

pub returns-in-Letter : goal.returns-in-Letter
returns-in-Letter c = rw c.word_bytes.ensures (longest_word c.args.rest.now (rw c.in-Letter.is at c.requires))

pub returns-in-Digit : goal.returns-in-Digit
returns-in-Digit c = rw c.digits.ensures (longest_plain c.args.rest.now (rw c.in-Digit.is at c.requires))

pub returns-in-Mark : goal.returns-in-Mark
returns-in-Mark c = longest_single c.args.rest.now (rw c.in-Mark.is at c.requires)

pub returns-in-Blank : goal.returns-in-Blank
returns-in-Blank c =
    begins_nothing c.args.rest.now
    (⊎_elim
    (λ blank. blank_first (slice_index c.args.rest.now 0) (rw blank at c.requires))
    (⊎_elim (λ comment. comment_first (slice_index c.args.rest.now 0) (rw comment at c.requires)) (λ other. other_first (slice_index c.args.rest.now 0) (rw other at c.requires)))
    c.in-Blank.is)

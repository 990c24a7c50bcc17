use Rattle.std.proofs.Common.{◌≡◌, length}
use Rattle.mn_lexer.specs.Terminals.{word}
use Rattle.mn_grammar.specs.Reading.{which_of}
use Rattle.mn_language.specs.Forms.{form_token}
use Rattle.mn_language.proofs.words.form_in.Given as goal

abbrev pub invariant-loop-left : goal.invariant-loop-left
invariant-loop-left l = which_of form_token l.left (word l.bytes) ≡ which_of form_token l.fn.forms (word l.bytes)

abbrev pub decreases-loop-left : goal.decreases-loop-left
decreases-loop-left l = length l.left

use Rattle.std.proofs.Common.{◌≡◌, length}
use Rattle.mn_cursor.specs.Progress.{rest, SameText}
use Rattle.mn_reader.specs.TextProgress.{stated_of}
use Rattle.mn_language.specs.WholeTexts.{sections_at}
use Rattle.mn_reader.proofs.text.sections.Given as goal

abbrev pub invariant-loop : goal.invariant-loop
invariant-loop l = (sections_at (stated_of l.c) (rest l.c) ≡ sections_at (stated_of l.fn.c) (rest l.fn.c)) × SameText l.fn.c l.c

abbrev pub decreases-loop : goal.decreases-loop
decreases-loop l = length (rest l.c)

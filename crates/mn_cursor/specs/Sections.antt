-- What the function of a section has to do with the section's reader.
use Rattle.std.specs.Prelude.{◌≡◌, Some, Ok, Err, Result, drop}
use Rattle.mn_grammar.specs.Reading.{Answer}
use Rattle.mn_model.specs.Problem.{Problem}
use Rattle.mn_model.specs.declared.refusal.Refusal.{Refusal}
use Rattle.mn_cursor.specs.Heads.{head_of}
use Rattle.mn_cursor.specs.Looks.{first_as}
use Rattle.mn_cursor.specs.Progress.{Progress, rest, IsTold}
use Rattle.mn_cursor.specs.declared.heads.Head.{Head}

-- The reader answers the problem that is reached and the head after the section, with which it goes on; the cursor
-- stands before that head.
abbrev pub IsRead : Progress → Answer (Problem × Head) → Type 0
IsRead new answer = (h : Head) × (first_as head_of (rest new) ≡ Some h) × (answer ≡ Ok ((new.problem, h), drop 1 (rest new)))

-- the section is read, or it is refused as the reader says
abbrev pub ReadsSection : Progress → Progress → Result (Unit {0}) Refusal → Answer (Problem × Head) → Type 0
ReadsSection old new (Ok u) answer = IsRead new answer
ReadsSection old new (Err r) answer = IsTold old r answer

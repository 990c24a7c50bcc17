-- What the code of whole texts has to do with the reader. No public promise speaks of it.
use Rattle.std.specs.Prelude.{◌≡◌, ◌<◌, ◌≤◌, Bool, true, false, length, drop, Some, Ok, Err, Result}
use Rattle.mn_grammar.specs.Reading.{Answer}
use Rattle.mn_model.specs.Problem.{Problem}
use Rattle.mn_model.specs.declared.refusal.Refusal.{Refusal}
use Rattle.mn_cursor.specs.Heads.{head_of}
use Rattle.mn_cursor.specs.Looks.{first_as}
use Rattle.mn_cursor.specs.Progress.{Progress, rest, IsTold}
use Rattle.mn_cursor.specs.declared.heads.Head.{Head}
use Rattle.mn_cursor.specs.declared.heads.Head.TheVariants.{End}
use Rattle.mn_language.specs.Texts.{Stated}
use Rattle.mn_language.specs.WholeTexts.{behind_head, sections_at}

-- what is said so far
abbrev pub stated_of : Progress → Stated
stated_of c = record { problem = c.problem; asked = c.asked }

-- The entries after a head are read, up to the head of the next section; after the head that ends the text nothing
-- is read; or they are refused as the reader says.
abbrev pub ReadsEntries : Head → Progress → Progress → Result (Unit {0}) Refusal → Type 0
ReadsEntries h old new (Err r) = IsTold old r (behind_head (stated_of old) h (rest old))
ReadsEntries End old new (Ok u) = behind_head (stated_of old) End (rest old) ≡ Ok (new.problem, rest new)
ReadsEntries h old new (Ok u) =
    (behind_head (stated_of old) h (rest old) ≡ sections_at (stated_of new) (rest new)) × (length (rest new) ≤ length (rest old))

-- entries may stand after a head, but for the one that ends the text
abbrev pub has_entries : Head → Bool
has_entries End = false
has_entries h = true

-- A head and its section are read, and the text goes on after them, or it ends after the head; or it is refused there.
abbrev pub ReadsOn : Progress → Progress → Result Bool Refusal → Type 0
ReadsOn old new (Ok true) =
    (sections_at (stated_of old) (rest old) ≡ sections_at (stated_of new) (rest new)) × (length (rest new) < length (rest old))
ReadsOn old new (Ok false) = sections_at (stated_of old) (rest old) ≡ Ok (new.problem, rest new)
ReadsOn old new (Err r) = IsTold old r (sections_at (stated_of old) (rest old))

-- What is left of a text is read to its end, or it is refused as the reader says.
abbrev pub ReadsWhole : Progress → Progress → Result (Unit {0}) Refusal → Answer Problem → Type 0
ReadsWhole old new (Ok u) answer = answer ≡ Ok (new.problem, rest new)
ReadsWhole old new (Err r) answer = IsTold old r answer

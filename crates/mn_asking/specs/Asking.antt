-- What the code reads of the section that says how to search.
use Rattle.std.specs.Prelude.{◌≡◌, ◌⊎◌, false, Option, Some, None, Ok, Err, Result, drop}
use Rattle.std.proofs.Common.{inl, inr}
use Rattle.mn_grammar.specs.Reading.{Answer, Reader, then_read, ret}
use Rattle.mn_model.specs.Problem.{Problem}
use Rattle.mn_model.specs.declared.refusal.Refusal.{Refusal}
use Rattle.mn_model.specs.declared.variable.VarId.{VarId}
use Rattle.mn_cursor.specs.Heads.{head_of}
use Rattle.mn_cursor.specs.Looks.{first_as}
use Rattle.mn_cursor.specs.Progress.{Progress, rest, IsTold}
use Rattle.mn_cursor.specs.declared.heads.Head.{Head}
use Rattle.mn_references.specs.References.{one_place}
use Rattle.mn_references.specs.Referring.{ref_at}
use Rattle.mn_references.specs.declared.want.Unfit.{Unfit}
use Rattle.mn_asking.specs.Search as said
use Rattle.mn_asking.specs.Search.{Asking, first_of}
use Rattle.mn_asking.specs.Searching as starts
use Rattle.mn_asking.specs.declared.printing.PrintStart.{PrintStart}
use Rattle.mn_asking.specs.declared.printing.PrintStart.TheVariants.{All, Nothing, Listed}
use Rattle.mn_asking.specs.declared.searching.ItemStart.{ItemStart}
use Rattle.mn_asking.specs.declared.searching.ItemStart.TheVariants as item_starts
use Rattle.mn_asking.specs.declared.searching.ItemWord.{ItemWord}
use Rattle.mn_asking.specs.declared.searching.ItemWord.TheVariants.{Order, Values, Maximise, Minimise, Print}

-- the words that items begin with, and what follows PRINT
abbrev pub word_seen : ItemWord → said.ItemWord
word_seen Order = said.says_order
word_seen Values = said.says_values
word_seen Maximise = said.maximises
word_seen Minimise = said.minimises
word_seen Print = said.prints

abbrev pub start_value : ItemStart → said.ItemWord ⊎ Head
start_value (item_starts.Word w) = inl (word_seen w)
start_value (item_starts.Head h) = inr h

abbrev pub print_seen : PrintStart → starts.PrintStart
print_seen All = starts.all
print_seen Nothing = starts.none
print_seen Listed = starts.listed

-- what is said so far, after an objective that breaks this at its end, and where none does
abbrev pub asking_behind : Progress → Option Unfit → Asking
asking_behind c behind = record { problem = c.problem; asked = c.asked; behind = behind }

abbrev pub asking_of : Progress → Asking
asking_of c = asking_behind c None

-- the reference of an objective, by its variable and by what the token after it breaks
unfoldable pub goal_at : Problem → Reader (VarId × Option Unfit)
goal_at p = then_read (ref_at p (one_place p false)) (λ f. ret (first_of f.vars, f.behind))

-- The reader answers what is said and asked and the head after the section, with which it goes on; the cursor stands
-- before that head.
abbrev pub IsAsked : Progress → Answer (Asking × Head) → Type 0
IsAsked new answer =
    (h : Head) × (first_as head_of (rest new) ≡ Some h) × (a : Asking) × (answer ≡ Ok ((a, h), drop 1 (rest new))) × (a.problem ≡ new.problem) × (a.asked ≡ new.asked)

-- the section is read, or it is refused as the reader says
abbrev pub ReadsAsking : Progress → Progress → Result (Unit {0}) Refusal → Answer (Asking × Head) → Type 0
ReadsAsking old new (Ok u) answer = IsAsked new answer
ReadsAsking old new (Err r) answer = IsTold old r answer

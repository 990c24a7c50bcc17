-- The lines after the blocks, and those that tell of a fault.
use Rattle.std.specs.Prelude.{ℕ, List, [], ◌++◌, codes, decimal}
use Rattle.mn_model.specs.declared.refusal.Refusal.{Refusal}
use Rattle.mn_model.specs.declared.refusal.Refusal.TheVariants.{Lex, NumberRange, Syntax, Name, Shape, EmptyDomain, Limit, Unsupported, NoMemory}
use Rattle.mn_model.specs.declared.refusal.Which.{Which}
use Rattle.mn_model.specs.declared.refusal.Which.TheVariants.{Text, Variables, Constraints, Cells, Nesting, Span, Vector}
use Rattle.mn_report.specs.declared.lines.Outcome.{Outcome}
use Rattle.mn_report.specs.declared.lines.Outcome.TheVariants.{Complete, SolutionLimit, NodeLimit}

-- how a search ended
abbrev pub outcome_text : Outcome → List ℕ
outcome_text Complete = codes "complete"
outcome_text SolutionLimit = codes "solution limit"
outcome_text NodeLimit = codes "node limit"

-- how many solutions there are, how many nodes were visited, and how the search ended
abbrev pub summary_text : ℕ → ℕ → Outcome → List ℕ
summary_text solutions nodes outcome =
    codes "Solutions: " ++ decimal solutions ++ codes "\nNodes: " ++ decimal nodes ++ codes "\nOutcome: " ++ outcome_text outcome ++ codes "\n"

-- a limit of the language
abbrev pub limit_text : Which → List ℕ
limit_text Text = codes "limit text"
limit_text Variables = codes "limit variables"
limit_text Constraints = codes "limit constraints"
limit_text Cells = codes "limit cells"
limit_text Nesting = codes "limit nesting"
limit_text Span = codes "limit span"
limit_text Vector = codes "limit vector"

-- why a text is refused. Want of memory refuses no text
abbrev pub kind_text : Refusal → List ℕ
kind_text (Lex at) = codes "lex"
kind_text (NumberRange at) = codes "number range"
kind_text (Syntax at) = codes "syntax"
kind_text (Name at) = codes "name"
kind_text (Shape at) = codes "shape"
kind_text (EmptyDomain at) = codes "empty domain"
kind_text (Limit which at) = limit_text which
kind_text (Unsupported at) = codes "unsupported"
kind_text NoMemory = []

-- the byte at which it is refused
abbrev pub place_of : Refusal → ℕ
place_of (Lex at) = at
place_of (NumberRange at) = at
place_of (Syntax at) = at
place_of (Name at) = at
place_of (Shape at) = at
place_of (EmptyDomain at) = at
place_of (Limit which at) = at
place_of (Unsupported at) = at
place_of NoMemory = 0

-- the line of a text that is refused
abbrev pub refused_text : Refusal → ℕ → List ℕ
refused_text why line = codes "Refused: " ++ kind_text why ++ codes ", byte " ++ decimal (place_of why) ++ codes ", line " ++ decimal line ++ codes "\n"

-- the line of a rule that a word of the command line breaks
abbrev pub usage_text : List ℕ → ℕ → List ℕ
usage_text rule word = codes "Usage: " ++ rule ++ codes ", word " ++ decimal word ++ codes "\n"

-- a line with a number in it
abbrev pub number_text : List ℕ → ℕ → List ℕ → List ℕ
number_text before n after = before ++ decimal n ++ after ++ codes "\n"

-- What code that reads has to do with a reader.
use Rattle.std.specs.Prelude.{◌≡◌, Result, Ok, Err}
use Rattle.mn_lexer.specs.Terminals.{Terminal}
use Rattle.std.specs.Prelude.{List}
use Rattle.mn_grammar.specs.Reading.{Answer}
use Rattle.mn_grammar.specs.declared.Stop.{Stop}
use Rattle.mn_grammar.specs.declared.Stop.TheVariants.{Refused, NoMemory}

-- a stop is the refusal that the reader answers, or want of memory, which says nothing
abbrev pub Stops : {V : Type 0} → Stop → Answer V → Type 0
Stops (Refused e) answer = answer ≡ Err e
Stops NoMemory answer = Unit {0}

-- The result is what the reader answers: `view` shows its value and the tokens that are left.
abbrev pub Gives : {A V : Type 0} → (A → V × List Terminal) → Result A Stop → Answer V → Type 0
Gives view (Ok a) answer = answer ≡ Ok (view a)
Gives view (Err e) answer = Stops e answer

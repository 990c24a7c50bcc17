-- What is left to read of the brackets of an alias, where some of them are open. No public promise speaks of it.
use Rattle.std.specs.Prelude.{◌≡◌, ℕ, ◌-◌, ◌≤◌, Bool, true, false, List, [], ◌∷◌, ◌++◌, length, drop, Option, None, Ok}
use Rattle.mn_lexer.specs.Terminals.{Terminal}
use Rattle.mn_lexer.specs.declared.marks.Mark.TheVariants.{CloseSquare}
use Rattle.mn_grammar.specs.Reading.{Answer, Reader, Turn, goes_on, is_done, end_at, then_read, ret, turned}
use Rattle.mn_grammar.specs.Lists.{items_at}
use Rattle.mn_model.specs.Problem.{Problem}
use Rattle.mn_model.specs.declared.variable.VarId.{VarId}
use Rattle.mn_references.specs.References.{Found, one_place}
use Rattle.mn_references.specs.Referring.{ref_at}
use Rattle.mn_references.specs.declared.want.Unfit.{Unfit}
use Rattle.mn_decls.specs.Aliases.{Led, Entering, nests_ends, nests_led, at_next, at_last, nest_at}
use Rattle.mn_decls.specs.declared.brackets.Brackets.{Brackets}
use Rattle.mn_decls.specs.declared.naming.Named.{Named}

-- an open bracket: how many entries are wanted from the one on that is read, and the dimensions that are left in each
pub record Level : Type 0 where
  pub wanted : ℕ
  pub dims : List ℕ

-- those that are open, the innermost first, by the dimensions of all and the numbers of wanted entries, outermost first
abbrev pub levels : List ℕ → List ℕ → List Level → List Level
levels dims [] outer = outer
levels [] (w ∷ ws) outer = outer
levels (dim ∷ dims) (w ∷ ws) outer = levels dims ws (record { wanted = w; dims = dims } ∷ outer)

-- the entries of a bracket, from one on
unfoldable pub entries_from : Problem → List ℕ → Entering → Reader Led
entries_from p dims = items_at CloseSquare nests_ends nests_led (λ s. nest_at p dims s.vars)

-- the mark after an entry, by what its end breaks
abbrev pub entry_end : ℕ → Led → Reader (Turn Entering Led)
entry_end wanted v =
    end_at CloseSquare (at_next wanted v.behind) (at_last wanted v.behind) (record { wanted = wanted - 1; vars = v.vars }) (record { vars = v.vars; behind = None })

-- what is left of a bracket after an entry, and of all that are open
unfoldable pub level_rest : Problem → Level → Led → Reader Led
level_rest p l v = then_read (entry_end l.wanted v) (turned (entries_from p l.dims))

abbrev pub rest_of : Problem → List Level → Led → Reader Led
rest_of p [] v = ret v
rest_of p (l ∷ outer) v = then_read (level_rest p l v) (rest_of p outer)

-- where an entry is to be read next, and after one
unfoldable pub entry_then : Problem → List ℕ → List VarId → List Level → Reader Led
entry_then p dims vars outer = then_read (nest_at p dims vars) (rest_of p outer)

abbrev pub open_levels : Brackets → List Level
open_levels b = levels b.dims.now b.wanted.items []

unfoldable pub before_entry : Problem → Brackets → Reader Led
before_entry p b = entry_then p (drop (length b.wanted.items) b.dims.now) b.vars (open_levels b)

unfoldable pub behind_entry : Problem → Brackets → Option Unfit → Reader Led
behind_entry p b behind = rest_of p (open_levels b) (record { vars = b.vars; behind = behind })

-- no more brackets are open than there are dimensions, which stay the same
pub record AreOf (dims : List ℕ) (b : Brackets) : Type 0 where
  pub same : b.dims.now ≡ dims
  pub few : length b.wanted.items ≤ length dims

-- after the mark of an entry the bracket goes on, or it is whole
abbrev pub ended : ℕ → Led → Bool → Turn Entering Led
ended wanted v true = goes_on (record { wanted = wanted - 1; vars = v.vars })
ended wanted v false = is_done (record { vars = v.vars; behind = None })

-- a nest is whole, with these variables
abbrev pub IsLed : List VarId → List Terminal → Answer Led → Type 0
IsLed vars rest answer = (behind : Option Unfit) × (answer ≡ Ok (record { vars = vars; behind = behind }, rest))

-- what a reference names that is to lead to one variable
abbrev pub IsNamed : Problem → List Terminal → List Terminal → Named → Type 0
IsNamed p ts rest n = (f : Found) × (ref_at p (one_place p false) ts ≡ Ok (f, rest)) × (n.vars ≡ f.vars) × (n.behind ≡ f.behind)

-- the variables with those of one more name after them
abbrev pub led_by : List VarId → Named → Led
led_by vars n = record { vars = vars ++ n.vars; behind = n.behind }

-- after the marks of an entry one more is read, or all are closed
abbrev pub IsOn : Bool → Problem → Brackets → List Terminal → Answer Led → Type 0
IsOn true p b rest answer = before_entry p b rest ≡ answer
IsOn false p b rest answer = IsLed b.vars rest answer

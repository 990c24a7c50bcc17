-- What a lawful reader is good for: it is exact.
use Rattle.std.specs.Prelude.{◌≡◌, ℕ, ◌+◌, false, List, length, Option, Result, Ok, Err}
use Rattle.mn_lexer.specs.Terminals.{Terminal}
use Rattle.mn_lexer.specs.declared.LexFault.{LexFault}
use Rattle.mn_grammar.specs.Places.{Break, IsText, IsRefusedAt}
use Rattle.mn_grammar.specs.Reading.{Reader, whole}
use Rattle.mn_grammar.specs.Lawful.{Spec, Lawful}
use Rattle.mn_grammar.specs.declared.Fault.{Fault}
use Rattle.mn_grammar.specs.declared.Kind.{Kind}

-- the list is a text that keeps all conditions and stands for this value
abbrev pub Reads : {X V : Type 0} → Spec X V → List Terminal → V → Type 0
Reads {X = X} s ts v = (x : X) × IsText s.spell s.breaks ts x × (s.value x ≡ v)

-- the list is refused at this place with this kind
abbrev pub Refuses : {X V : Type 0} → Spec X V → Option LexFault → List Terminal → ℕ → Kind → Type 0
Refuses s stop ts at kind = IsRefusedAt s.spell s.breaks stop ts at kind

-- the verdict on a list: its value, or a place and a kind
abbrev pub IsVerdict : {X V : Type 0} → Spec X V → Option LexFault → List Terminal → Result V (ℕ × Kind) → Type 0
IsVerdict s stop ts (Ok v) = Reads s ts v
IsVerdict s stop ts (Err e) = Refuses s stop ts e.0 e.1

-- nothing goes on with a whole text
abbrev pub IsWhole : {X V : Type 0} → Spec X V → Type 0
IsWhole {X = X} s = (x : X) (t : Terminal) → s.blocks x t ≡ false

-- The reader answers exactly the values of the texts, and exactly the refusals of all other lists. What is left and
-- what was passed make the list.
pub record IsExact {X V : Type 0} (s : Spec X V) (stop : Option LexFault) (read : List Terminal → Result V Fault) : Type 0 where
  pub reads : (ts : List Terminal) (v : V) → read ts ≡ Ok v → Reads s ts v
  pub refuses : (ts : List Terminal) (e : Fault) → read ts ≡ Err e → (at : ℕ) × (at + e.left ≡ length ts) × Refuses s stop ts at e.kind
  pub all_read : (ts : List Terminal) (v : V) → Reads s ts v → read ts ≡ Ok v
  pub all_refused : (ts : List Terminal) (at : ℕ) (kind : Kind) → Refuses s stop ts at kind → (e : Fault) × (read ts ≡ Err e) × (at + e.left ≡ length ts) × (e.kind ≡ kind)

-- in any language a list is refused at one place and with one kind
abbrev pub OneRefusal : Type 0 → Type 0
OneRefusal X =
    (spell : X → List Terminal) (breaks : X → List Break) (stop : Option LexFault) (ts : List Terminal) (at other : ℕ) (kind another : Kind)
    → IsRefusedAt spell breaks stop ts at kind → IsRefusedAt spell breaks stop ts other another → (at ≡ other) × (kind ≡ another)

-- and no text of it is refused
abbrev pub NoTextRefused : Type 0 → Type 0
NoTextRefused X =
    (spell : X → List Terminal) (breaks : X → List Break) (stop : Option LexFault) (ts : List Terminal) (x : X) (at : ℕ) (kind : Kind)
    → IsText spell breaks ts x → IsRefusedAt spell breaks stop ts at kind → ⊥

-- a lawful reader of whole texts is exact
abbrev pub LawfulIsExact : Type 0 → Type 0 → Type 0
LawfulIsExact X V = (s : Spec X V) (stop : Option LexFault) (read : Reader V) → Lawful s read → IsWhole s → IsExact s stop (whole stop read)

-- so where there is one, each list has a verdict, and only one
abbrev pub SomeVerdict : Type 0 → Type 0 → Type 0
SomeVerdict X V =
    (s : Spec X V) (stop : Option LexFault) (read : Reader V) → Lawful s read → IsWhole s → (ts : List Terminal)
    → (r : Result V (ℕ × Kind)) × IsVerdict s stop ts r

-- and only one
abbrev pub OneVerdict : Type 0 → Type 0 → Type 0
OneVerdict X V =
    (s : Spec X V) (stop : Option LexFault) (read : Reader V) → Lawful s read → IsWhole s → (ts : List Terminal) (r q : Result V (ℕ × Kind))
    → IsVerdict s stop ts r → IsVerdict s stop ts q → r ≡ q

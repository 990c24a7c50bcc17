-- What the context keeps of a constraint beside what was posted.
use Rattle.std.specs.Prelude.{ℕ, List, []}

-- the constraint's number, and the numbers of the triggers and of the flags that are its own
pub record Footing : Type 0 where
  pub number : ℕ
  pub triggers : List ℕ
  pub flags : List ℕ

-- nothing is kept of a constraint that is run whole, whatever wakes it
abbrev pub no_footing : Footing
no_footing = record { number = 0; triggers = []; flags = [] }

-- What a stored rule has to keep.
use Rattle.std.specs.Prelude.{◌≡◌, ℕ, List, Option}
use Rattle.mn_order.specs.Choose.{AreSizes, choose}
use Rattle.mn_order.specs.declared.choice.Choice.{Choice}

-- it may be asked about all lists of sizes
abbrev pub TakesSizes : (List ℕ → List ℕ → Type 0) → Type 0
TakesSizes takes = (now declared : List ℕ) → AreSizes now declared → takes now declared

-- and answers the place that the choice names
abbrev pub AnswersChoice : Choice → (List ℕ → List ℕ → Option ℕ → Type 0) → Type 0
AnswersChoice choice gives = (now declared : List ℕ) (result : Option ℕ) → AreSizes now declared → gives now declared result → result ≡ choose choice now declared

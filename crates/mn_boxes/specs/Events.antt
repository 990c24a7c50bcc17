-- How the set of a variable may have changed.
use Rattle.std.specs.Prelude.{◌≡◌, ◌≢◌, ◌↔◌, ℕ, ℤ, false, IsTrue, List}
use Rattle.mn_model.specs.Domain.{Has}
use Rattle.mn_boxes.specs.Boxes.{set_of, variable_at}
use Rattle.mn_boxes.specs.Sets.{Variable, IsSingle, least, greatest}
use Rattle.mn_boxes.specs.declared.change.Moved.{Moved}

-- the events of a variable: its least value, its greatest, that one value is left, any change, and that a value is gone
pub data Event : Type 0 where
  Lower : Event
  Upper : Event
  Fixed : Event
  Any : Event
  Gone : ℤ → Event

-- what an event says of the values before and after
abbrev pub Happens : Event → List ℤ → List ℤ → Type 0
Happens Lower old new = least old ≢ least new
Happens Upper old new = greatest old ≢ greatest new
Happens Fixed old new = IsSingle new × (IsSingle old → ⊥)
Happens Any old new = old ≢ new
Happens (Gone a) old new = Has old a × (Has new a → ⊥)

-- values that go at the ends alone have no event of their own
abbrev pub IsEventOf : Variable → Event → Type 0
IsEventOf var Lower = Unit {0}
IsEventOf var Upper = Unit {0}
IsEventOf var Fixed = Unit {0}
IsEventOf var Any = Unit {0}
IsEventOf var (Gone a) = var.bounded ≡ false

-- the event of variable v is fired where the old box became the new one
abbrev pub Fires : List Variable → ℕ → Event → List (List ℤ) → List (List ℤ) → Type 0
Fires vars v e old new = IsEventOf (variable_at vars v) e × Happens e (set_of old v) (set_of new v)

-- the flags of a change say which of its events happened
pub record IsMoved (old new : List ℤ) (moved : Moved) : Type 0 where
  pub lower : IsTrue moved.lower ↔ Happens Lower old new
  pub upper : IsTrue moved.upper ↔ Happens Upper old new
  pub fixed : IsTrue moved.fixed ↔ Happens Fixed old new
  pub any : IsTrue moved.any ↔ Happens Any old new

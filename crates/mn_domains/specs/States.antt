-- What a state is at first, and what it does to take a value out by its bit.
use Rattle.std.specs.Prelude.{◌≡◌, ℕ, ◌+◌, ◌-◌, ◌*◌, ℤ, Bool, true, false, List, length, map, slice_set}
use Rattle.std.specs.List.{AllByRecursion}
use Rattle.mn_boxes.specs.Bits.{count_from}
use Rattle.mn_boxes.specs.declared.change.Moved.{Moved}
use Rattle.mn_domains.specs.Held.{IsShape, IsState, TellsMoved, bit_of, cleared, sets_of_state, variable_held}
use Rattle.mn_domains.specs.declared.rows.Row.{Row}
use Rattle.mn_domains.specs.declared.shape.Ends.{Ends}
use Rattle.mn_domains.specs.declared.shape.Shape.{Shape}
use Rattle.mn_domains.specs.declared.state.State.{State}

-- the state of all that is declared
pub record IsFullState (listed : List ℤ) (shapes : List Shape) (s : State) : Type 0 where
  pub state : IsState listed shapes s.ends.items s.bits.items s.left
  pub shaped : AllByRecursion (IsShape listed (64 * length s.bits.items)) shapes
  pub sets : sets_of_state listed shapes s ≡ map (λ v. v.declared) (map (variable_held listed) shapes)

-- the ends with one value less between them
abbrev pub one_less : Ends → Ends
one_less e = record e { size = e.size - 1 }

-- where the bit is set it is cleared and the size is one less, and else nothing changes
abbrev pub UnmarksIf : Bool → State → State → ℕ → Ends → ℕ → Moved → Type 0
UnmarksIf true old new i e bit moved = (new.bits.items ≡ cleared old.bits.items bit) × (new.ends.items ≡ slice_set old.ends.items i (one_less e)) × (new.left + 1 ≡ old.left) × TellsMoved e (one_less e) moved
UnmarksIf false old new i e bit moved = (new.bits.items ≡ old.bits.items) × (new.ends.items ≡ old.ends.items) × (new.left ≡ old.left) × TellsMoved e e moved

abbrev pub Unmarks : State → State → ℕ → Ends → ℕ → Moved → Type 0
Unmarks old new i e bit moved = UnmarksIf (bit_of old.bits.items bit) old new i e bit moved

-- the ends of what is left of a row
abbrev pub sieved_ends : List ℕ → Ends → Row → ℤ → ℤ → Ends
sieved_ends bits e row least greatest = record { lo = least; hi = greatest; size = count_from (bit_of bits) row.from (row.to + 1 - row.from); place = e.place }

-- the variable has these ends, and what it lost isn't counted any more
pub record Sieves (old new : State) (i : ℕ) (e : Ends) (row : Row) (least greatest : ℤ) (moved : Moved) : Type 0 where
  pub ends : new.ends.items ≡ slice_set old.ends.items i (sieved_ends new.bits.items e row least greatest)
  pub left : new.left + e.size ≡ old.left + (sieved_ends new.bits.items e row least greatest).size
  pub tells : TellsMoved e (sieved_ends new.bits.items e row least greatest) moved

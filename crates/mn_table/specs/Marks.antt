-- What a pass marks of the tuples of a table.
use Rattle.std.specs.Prelude.{◌≡◌, ◌↔◌, ◌<◌, ℕ, ℤ, pos, ◌≤ℤ◌, IsTrue, List, length, slice_get, Some}
use Rattle.std.specs.List.{AllByRecursion}
use Rattle.mn_model.specs.Domain.{IsValue}
use Rattle.mn_model.specs.declared.constraint.Term.{Term}
use Rattle.mn_boxes.specs.Values.{Values, members}
use Rattle.mn_meaning.specs.Families.{rows_of}
use Rattle.mn_meaning.specs.Meaning.{at}
use Rattle.mn_closure.specs.Supports.{Choice}
use Rattle.mn_table.specs.declared.room.Room.{Room}

-- of the numbers of rows, the set has those of rows whose values are at the places of the vector
abbrev pub AreAlive : List (List ℤ) → List Term → List (List ℤ) → Values → Type 0
AreAlive box v rows alive = (r : ℕ) (row : List ℤ) → slice_get rows r ≡ Some row → IsTrue (members alive (pos r)) ↔ Choice box v row

-- a row whose number is in the set, with a at place i
pub record FoundWith (alive : Values) (i : ℕ) (a : ℤ) (rows : List (List ℤ)) : Type 0 where
  pub number : ℕ
  pub row : List ℤ
  pub stands : slice_get rows number ≡ Some row
  pub is_alive : IsTrue (members alive (pos number))
  pub given : at row i ≡ a

-- no number is below lo or above hi
abbrev pub IsBetween : ℤ → ℤ → ℤ → Type 0
IsBetween lo hi a = (lo ≤ℤ a) × (a ≤ℤ hi)

-- sets from lo to hi and up to the last number have room for all numbers of the tuples, and for the numbers of the tuples
pub record IsRoomFor (arity : ℕ) (cells : List ℤ) (room : Room) : Type 0 where
  pub low : IsValue room.lo
  pub high : IsValue room.hi
  pub order : room.lo ≤ℤ room.hi
  pub values : AllByRecursion (IsBetween room.lo room.hi) cells
  pub first : pos 0 ≤ℤ room.last
  pub last : IsValue room.last
  pub numbers : (r : ℕ) → r < length (rows_of arity cells) → pos r ≤ℤ room.last

-- What a pass knows of the values that places have alone.
use Rattle.std.specs.Prelude.{◌≡◌, ℕ, ℤ, ◌⊎◌, ◌<◌, true, false, List, length, slice_get, slice_index, Some, Result, Ok, Err}
use Rattle.mn_model.specs.declared.constraint.Con.TheVariants as con
use Rattle.mn_model.specs.declared.constraint.Term.{Term}
use Rattle.mn_model.specs.declared.declaration.Tuples.{Tuples}
use Rattle.mn_boxes.specs.Places.{PlaceHas}
use Rattle.mn_boxes.specs.Sets.{Variable}
use Rattle.mn_boxes.specs.Values.{Values, members}
use Rattle.mn_closure.specs.Closed.{IsAlone, LeafClosed}
use Rattle.mn_closure.specs.Supports.{IsOpen}
use Rattle.mn_prop.specs.Passes.{NoneHas}
use Rattle.mn_prop.specs.declared.context.Fail.{Fail}
use Rattle.mn_count.specs.Rows.{IsIn, IsShrunk, Row}
use Rattle.mn_count.specs.Singles.{EachAsked}
use Rattle.mn_count.specs.declared.rounds.Round.{Round}
use Rattle.mn_count.specs.declared.rounds.Round.TheVariants as round
use Rattle.mn_count.specs.declared.rounds.Seen.{Seen}
use Rattle.mn_count.specs.declared.rounds.Seen.TheVariants as seen

-- a place that isn't among the open ones has the value alone
pub record IsTakenBy (v : List Term) (row : Row) (box : List (List ℤ)) (a : ℤ) : Type 0 where
  pub place : ℕ
  pub term : Term
  pub stands : slice_get v place ≡ Some term
  pub past : IsIn row place → ⊥
  pub alone : IsAlone box term a

-- the place has a value alone, which is taken
pub record HasTaken (taken : Values) (box : List (List ℤ)) (t : Term) : Type 0 where
  pub value : ℤ
  pub is_taken : members taken value ≡ true
  pub alone : IsAlone box t value

-- the values that are taken are those of the places that aren't among the open ones. No two of these share a value
pub record IsTaking (v : List Term) (taken : Values) (row : Row) (box : List (List ℤ)) : Type 0 where
  pub room : length row.items ≡ length v
  pub from : (a : ℤ) → members taken a ≡ true → IsTakenBy v row box a
  pub each : (i : ℕ) (t : Term) → slice_get v i ≡ Some t → IsIn row i ⊎ HasTaken taken box t
  pub one : (i j : ℕ) (t u : Term) (a : ℤ) → slice_get v i ≡ Some t → slice_get v j ≡ Some u → (IsIn row i → ⊥) → (IsIn row j → ⊥) → PlaceHas box t a → PlaceHas box u a → i ≡ j

-- the place with the number at k has two values
abbrev pub IsOpenAt : List Term → Row → ℕ → List (List ℤ) → Type 0
IsOpenAt v row k box = (t : Term) → slice_get v (slice_index row.items k) ≡ Some t → IsOpen box t

-- no value there that has to be supported is taken; and so it is at each open place
abbrev pub IsFreeAt : List Variable → List Term → Values → Row → ℕ → List (List ℤ) → Type 0
IsFreeAt vars v taken row k box = (t : Term) → slice_get v (slice_index row.items k) ≡ Some t → EachAsked vars t (λ a. members taken a ≡ false) box

abbrev pub AreFree : List Variable → List Term → Values → Row → List (List ℤ) → Type 0
AreFree vars v taken row box = (k : ℕ) → k < row.left → IsFreeAt vars v taken row k box

-- what is seen of the place with the number at k: it stays among the open ones, with two values; or its value is taken, and
-- it is among them no more
abbrev pub IsSeen : List Variable → List Tuples → List Term → ℕ → List (List ℤ) → Values → Row → Values → Row → Result Seen Fail → Type 0
IsSeen vars lists v k box taken row taken_now row_now (Ok seen.Open) = (taken_now ≡ taken) × (row_now ≡ row) × IsOpenAt v row k box
IsSeen vars lists v k box taken row taken_now row_now (Ok seen.Alone) = IsTaking v taken_now row_now box × IsShrunk k row row_now
IsSeen vars lists v k box taken row taken_now row_now (Ok seen.Outside) = length row_now.items ≡ length v
IsSeen vars lists v k box taken row taken_now row_now (Err fail) = (length row_now.items ≡ length v) × NoneHas vars (LeafClosed vars lists (con.Alldiff v)) box

-- what is seen of all: each open place has two values; or some value was taken
abbrev pub IsCollected : List Variable → List Tuples → List Term → List (List ℤ) → Values → Row → Values → Row → Result Round Fail → Type 0
IsCollected vars lists v box taken row taken_now row_now (Ok round.Done) = (taken_now ≡ taken) × (row_now ≡ row) × ((k : ℕ) → k < row.left → IsOpenAt v row k box)
IsCollected vars lists v box taken row taken_now row_now (Ok round.Again) = IsTaking v taken_now row_now box × (row_now.left < row.left)
IsCollected vars lists v box taken row taken_now row_now (Ok round.Outside) = length row_now.items ≡ length v
IsCollected vars lists v box taken row taken_now row_now (Err fail) = (length row_now.items ≡ length v) × NoneHas vars (LeafClosed vars lists (con.Alldiff v)) box

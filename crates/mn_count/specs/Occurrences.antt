-- How often a value stands at places, by what is chosen of them.
use Rattle.std.specs.Prelude.{◌≡◌, ℕ, ◌<◌, ◌≤◌, ℤ, pos, ◌≤ℤ◌, List, length, slice_get, Some}
use Rattle.mn_model.specs.declared.constraint.Con.{Con}
use Rattle.mn_model.specs.declared.constraint.Con.TheVariants as con
use Rattle.mn_model.specs.declared.constraint.Term.{Term}
use Rattle.mn_boxes.specs.Places.{PlaceHas}
use Rattle.mn_boxes.specs.Sets.{Variable}
use Rattle.mn_meaning.specs.Families.{occurrences}
use Rattle.mn_closure.specs.Closed.{Asked, IsAlone}
use Rattle.mn_closure.specs.Levels.{Arc}
use Rattle.mn_closure.specs.Supports.{Choice}
use Rattle.mn_count.specs.declared.occurrence.Amount.{Amount}
use Rattle.mn_count.specs.declared.occurrence.Amount.TheVariants.{AtMost, AtLeast, Is}

-- the constraint that k stands so often among v
abbrev pub con_of : List Term → ℤ → Amount → Con
con_of v k (AtMost most) = con.Occurrenceleq v k most
con_of v k (AtLeast least) = con.Occurrencegeq v k least
con_of v k (Is x) = con.Occurrence v k x

-- it may stand n times
abbrev pub IsAllowed : Amount → List (List ℤ) → ℕ → Type 0
IsAllowed (AtMost most) box n = pos n ≤ℤ most
IsAllowed (AtLeast least) box n = least ≤ℤ pos n
IsAllowed (Is x) box n = PlaceHas box x (pos n)

-- some choice has n times k, and none has it less often, or none more often
pub record IsFewest (box : List (List ℤ)) (k : ℤ) (v : List Term) (n : ℕ) : Type 0 where
  pub values : List ℤ
  pub chosen : Choice box v values
  pub is : occurrences k values ≡ n
  pub fewest : (s : List ℤ) → Choice box v s → n ≤ occurrences k s

pub record IsMost (box : List (List ℤ)) (k : ℤ) (v : List Term) (n : ℕ) : Type 0 where
  pub values : List ℤ
  pub chosen : Choice box v values
  pub is : occurrences k values ≡ n
  pub most : (s : List ℤ) → Choice box v s → occurrences k s ≤ n

pub record IsTally (box : List (List ℤ)) (k : ℤ) (v : List Term) (must may : ℤ) : Type 0 where
  pub low : ℕ
  pub high : ℕ
  pub must_is : must ≡ pos low
  pub may_is : may ≡ pos high
  pub fewest : IsFewest box k v low
  pub most : IsMost box k v high

-- where it stands as often as it may, it does so because no choice has it less often
pub record IsFull (box : List (List ℤ)) (k : ℤ) (v : List Term) (amount : Amount) : Type 0 where
  pub count : ℕ
  pub least : (s : List ℤ) → Choice box v s → count ≤ occurrences k s
  pub allowed : (n : ℕ) → IsAllowed amount box n → n ≤ count

-- and where it stands as often as it has to, because no choice has it more often
pub record IsShort (box : List (List ℤ)) (k : ℤ) (v : List Term) (amount : Amount) : Type 0 where
  pub count : ℕ
  pub most : (s : List ℤ) → Choice box v s → occurrences k s ≤ count
  pub allowed : (n : ℕ) → IsAllowed amount box n → count ≤ n

-- k needs no support at a place that has another value
abbrev pub IsDropped : List Variable → ℤ → List Term → List (List ℤ) → ℕ → Type 0
IsDropped vars k v box i = (t : Term) → slice_get v i ≡ Some t → Asked Arc vars box t k → IsAlone box t k

abbrev pub AllDropped : List Variable → ℤ → List Term → List (List ℤ) → Type 0
AllDropped vars k v box = (i : ℕ) → i < length v → IsDropped vars k v box i

-- a place that has k has nothing else
abbrev pub IsKept : ℤ → List Term → List (List ℤ) → ℕ → Type 0
IsKept k v box i = (t : Term) → slice_get v i ≡ Some t → PlaceHas box t k → IsAlone box t k

abbrev pub AllKept : ℤ → List Term → List (List ℤ) → Type 0
AllKept k v box = (i : ℕ) → i < length v → IsKept k v box i

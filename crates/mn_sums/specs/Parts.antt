-- What places add to a sum.
use Rattle.std.specs.Prelude.{◌≡◌, ℕ, ℤ, pos, negsuc, neg_ℤ, ◌+ℤ◌, ◌*ℤ◌, ◌≤ℤ◌, ◌<ℤ◌, if◌then◌else◌, int_lt, List, [], ◌∷◌, slice_get, Some}
use Rattle.std.proofs.Common.{inl, inr}
use Rattle.std.specs.Ordering.{int_eq}
use Rattle.mn_model.specs.Decided.{Decided}
use Rattle.mn_model.specs.Lawful.{IsNear, IsNearTerm}
use Rattle.mn_model.specs.declared.constraint.Term.{Term}
use Rattle.mn_boxes.specs.Places.{PlaceHas}
use Rattle.mn_boxes.specs.Sets.{Variable}
use Rattle.mn_closure.specs.Deciding.{decide_place}
use Rattle.mn_prop.specs.Contexts.{IsNamed, place_hi, place_lo}
use Rattle.mn_sums.specs.declared.build.Making.{Making}
use Rattle.mn_sums.specs.declared.build.Making.TheVariants.{Weight, Opposite, Number}
use Rattle.mn_sums.specs.declared.part.Part.{Part}
use Rattle.mn_sums.specs.declared.part.Part.TheVariants.{Times, Is}

-- the place of a part, and its number
abbrev pub term_of : Part → Term
term_of (Times w t) = t
term_of (Is k t) = t

abbrev pub number_in : Part → ℤ
number_in (Times w t) = w
number_in (Is k t) = k

-- what the value adds at the place
abbrev pub cost : Part → ℤ → ℤ
cost (Times w t) a = w *ℤ a
cost (Is k t) a = if int_eq a k then negsuc 0 else pos 0

-- what values add together, each at its place
abbrev pub total : List Part → List ℤ → ℤ
total [] values = pos 0
total (p ∷ ps) [] = pos 0
total (p ∷ ps) (a ∷ values) = cost p a +ℤ total ps values

-- what a number and a place make, and numbers and places
abbrev pub part_of : Making → ℤ → Term → Part
part_of Weight k t = Times k t
part_of Opposite k t = Times (neg_ℤ k) t
part_of Number k t = Is k t

abbrev pub made_of : Making → List ℤ → List Term → List Part
made_of m [] ts = []
made_of m (k ∷ ks) [] = []
made_of m (k ∷ ks) (t ∷ ts) = part_of m k t ∷ made_of m ks ts

-- the least that a value of the place adds. A place adds -1 if it may be the number
abbrev pub least_when : {P : Type 0} → Decided P → ℤ
least_when (inl p) = negsuc 0
least_when (inr not) = pos 0

abbrev pub least_cost : List (List ℤ) → Part → ℤ
least_cost box (Times w t) = w *ℤ (if int_lt w (pos 0) then place_hi box t else place_lo box t)
least_cost box (Is k t) = least_when (decide_place box t k)

-- the sum where each place adds its least
abbrev pub least_total : List (List ℤ) → List Part → ℤ
least_total box [] = pos 0
least_total box (p ∷ ps) = least_cost box p +ℤ least_total box ps

-- each value of the place adds at most so much; a value that adds more
abbrev pub AllFit : Part → ℤ → List (List ℤ) → Type 0
AllFit p most box = (a : ℤ) → PlaceHas box (term_of p) a → cost p a ≤ℤ most

abbrev pub TooMuch : Part → ℤ → List (List ℤ) → Term → ℤ → Type 0
TooMuch p most box t a = (t ≡ term_of p) × (most <ℤ cost p a)

-- a place of the variables, whose numbers pass the limits by at most one
pub record IsPartOf (vars : List Variable) (p : Part) : Type 0 where
  pub named : IsNamed vars (term_of p)
  pub near_term : IsNearTerm (term_of p)
  pub near_number : IsNear (number_in p)

-- the product of two such numbers is at most so much
abbrev pub IsSmall : ℤ → Type 0
IsSmall a = (neg_ℤ (pos 1000000002000000001) ≤ℤ a) × (a ≤ℤ pos 1000000002000000001)

-- the least that the values of the place add, and a number that is at least the greatest
pub record IsSpan (box : List (List ℤ)) (p : Part) (low high : ℤ) : Type 0 where
  pub is : low ≡ least_cost box p
  pub most : AllFit p high box
  pub small_low : IsSmall low
  pub small_high : IsSmall high

-- a sum of so many products fits by far
abbrev pub IsFew : ℤ → Type 0
IsFew a = (neg_ℤ (pos 100000000000000000000000) ≤ℤ a) × (a ≤ℤ pos 100000000000000000000000)

-- the least sum, and how far what a place adds is at most from its least
pub record IsMeasured (box : List (List ℤ)) (ps : List Part) (least widest : ℤ) : Type 0 where
  pub is : least ≡ least_total box ps
  pub within : (i : ℕ) (p : Part) → slice_get ps i ≡ Some p → AllFit p (least_cost box p +ℤ widest) box
  pub few : IsFew least

-- Spans of numbers, and what is computed of the numbers of two.
use Rattle.std.specs.Prelude.{◌≡◌, ℤ, pos, neg_ℤ, ◌+ℤ◌, ◌<ℤ◌, ◌≤ℤ◌, ◌⊎◌, List}
use Rattle.mn_model.specs.Lawful.{IsNear}
use Rattle.mn_model.specs.declared.constraint.Term.{Term}
use Rattle.mn_closure.specs.Supports.{product}
use Rattle.mn_prop.specs.Contexts.{IsGreatestAt, IsLeastAt}
use Rattle.mn_arith.specs.declared.span.Span.{Span}

-- b is a number of the span
abbrev pub IsIn : Span → ℤ → Type 0
IsIn s b = (s.lo ≤ℤ b) × (b ≤ℤ s.hi)

-- some number of the span is in another one
pub record SomeBoth (s : Span) (lo hi : ℤ) : Type 0 where
  pub value : ℤ
  pub own : IsIn s value
  pub from : lo ≤ℤ value
  pub to : value ≤ℤ hi

-- least is the least number of z that isn't below 0
pub record IsLeastSize (z : Span) (least : ℤ) : Type 0 where
  pub low : z.lo ≤ℤ least
  pub up : pos 0 ≤ℤ least
  pub one : (least ≡ z.lo) ⊎ (least ≡ pos 0)

-- numbers of two spans stand in R
pub record SomeIn (s u : Span) (R : ℤ → ℤ → Type 0) : Type 0 where
  pub first : ℤ
  pub second : ℤ
  pub in_first : IsIn s first
  pub in_second : IsIn u second
  pub related : R first second

-- with a and a number of the one span f gives one of the other
abbrev pub HasPartner : (ℤ → ℤ → ℤ) → ℤ → Span → Span → Type 0
HasPartner f a s z = SomeIn s z (λ b c. f a b ≡ c)

-- of numbers of two spans f gives one that is at most a, and one that is at least a
abbrev pub GivesBelow : (ℤ → ℤ → ℤ) → ℤ → Span → Span → Type 0
GivesBelow f a s u = SomeIn s u (λ b c. f b c ≤ℤ a)

abbrev pub GivesAbove : (ℤ → ℤ → ℤ) → ℤ → Span → Span → Type 0
GivesAbove f a s u = SomeIn s u (λ b c. a ≤ℤ f b c)

-- m is the least that f gives of numbers of two spans, and the greatest
pub record IsLeastOf (f : ℤ → ℤ → ℤ) (s u : Span) (m : ℤ) : Type 0 where
  pub given : SomeIn s u (λ b c. f b c ≡ m)
  pub least : (b c : ℤ) → IsIn s b → IsIn u c → m ≤ℤ f b c

pub record IsGreatestOf (f : ℤ → ℤ → ℤ) (s u : Span) (m : ℤ) : Type 0 where
  pub given : SomeIn s u (λ b c. f b c ≡ m)
  pub greatest : (b c : ℤ) → IsIn s b → IsIn u c → f b c ≤ℤ m

-- m is the least product of a and a number of the span
pub record IsLeastMultiple (a : ℤ) (s : Span) (m : ℤ) : Type 0 where
  pub factor : ℤ
  pub own : IsIn s factor
  pub is : product a factor ≡ m
  pub least : (b : ℤ) → IsIn s b → m ≤ℤ product a b

-- first is the least number of x that has a partner, or it is one past x where none has
pub record IsFirstPartner (f : ℤ → ℤ → ℤ) (x s z : Span) (first : ℤ) : Type 0 where
  pub from : x.lo ≤ℤ first
  pub to : first ≤ℤ (x.hi +ℤ pos 1)
  pub before : (a : ℤ) → IsIn x a → HasPartner f a s z → first ≤ℤ a
  pub has : first ≤ℤ x.hi → HasPartner f first s z

-- no number behind a and before next has one
pub record IsNextPartner (f : ℤ → ℤ → ℤ) (a : ℤ) (s z : Span) (next : ℤ) : Type 0 where
  pub past : a <ℤ next
  pub none : (b : ℤ) → a <ℤ b → HasPartner f b s z → next ≤ℤ b

-- no number above 0, before a and behind last has one
pub record IsPartnerBefore (f : ℤ → ℤ → ℤ) (a : ℤ) (s z : Span) (last : ℤ) : Type 0 where
  pub before : last <ℤ a
  pub up : pos 0 ≤ℤ last
  pub none : (b : ℤ) → pos 0 <ℤ b → b <ℤ a → HasPartner f b s z → b ≤ℤ last

-- a times some number above 0 of the span is in z
abbrev pub HasMultiple : ℤ → Span → Span → Type 0
HasMultiple a s z = SomeIn s z (λ b c. (pos 0 <ℤ b) × (product a b ≡ c))

-- the numbers of s with the other sign
pub record IsOpposite (s r : Span) : Type 0 where
  pub low : r.lo ≡ neg_ℤ s.hi
  pub high : r.hi ≡ neg_ℤ s.lo

-- its ends are near, and the upper isn't the lesser
pub record IsNearSpan (s : Span) : Type 0 where
  pub low : IsNear s.lo
  pub high : IsNear s.hi
  pub filled : s.lo ≤ℤ s.hi

-- the span reaches from the least value of the place to the greatest
pub record IsSpanOf (box : List (List ℤ)) (t : Term) (s : Span) : Type 0 where
  pub low : IsLeastAt box t s.lo
  pub high : IsGreatestAt box t s.hi

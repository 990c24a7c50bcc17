-- Distances of numbers of two spans.
use Rattle.std.proofs.Common.{◌≡◌, zero, suc, ℤ, pos, negsuc, neg_ℤ, ◌-ℤ◌, ◌+ℤ◌, ◌≤ℤ◌, ◌<ℤ◌, ◌⊎◌, inl, inr, nat_abs, refl, sym, ◌∙◌, arith}
use Rattle.std.proofs.lemmas.Int.{ints}
use Rattle.mn_closure.specs.Supports.{difference}
use Rattle.mn_prop.proofs.Trying.{at_most_or}
use Rattle.mn_arith.specs.Spans.{GivesAbove, GivesBelow, HasPartner, IsIn, IsLeastSize, SomeBoth}
use Rattle.mn_arith.specs.declared.span.Span.{Span}

-- the size of a number
size_up : (d : ℤ) → pos 0 ≤ℤ d → pos (nat_abs d) ≡ d
size_up (pos n) up = refl
size_up (negsuc n) up = absurd (omega (arith, ints, up))

size_down : (d : ℤ) → d ≤ℤ pos 0 → pos (nat_abs d) ≡ neg_ℤ d
size_down (pos zero) down = refl
size_down (pos (suc n)) down = absurd (omega (arith, ints, down))
size_down (negsuc n) down = refl

-- a number stands on one side of another, and so far off
pub record Sided (a b : ℤ) : Type 0 where
  pub side : ((b ≤ℤ a) × (difference a b ≡ a -ℤ b)) ⊎ ((a ≤ℤ b) × (difference a b ≡ b -ℤ a))

sided : (a b : ℤ) → Sided a b
sided a b = record { side = by (at_most_or a b) }
  where
    by : (a ≤ℤ b) ⊎ (b <ℤ a) → ((b ≤ℤ a) × (difference a b ≡ a -ℤ b)) ⊎ ((a ≤ℤ b) × (difference a b ≡ b -ℤ a))
    by (inl le) = let is = size_down (a -ℤ b) (omega (arith, ints, le)) in inr (le, omega (arith, ints, is))
    by (inr less) = let is = size_up (a -ℤ b) (omega (arith, ints, less)) in inl (omega (arith, ints, less), is)

pub partner_below : (a least : ℤ) (s z : Span) → IsLeastSize z least → SomeBoth s (a -ℤ z.hi) (a -ℤ least) → HasPartner difference a s z
partner_below a least s z is some =
    let up = is.up in
    let low = is.low in
    let from = some.from in
    let to = some.to in
    let apart : difference a some.value ≡ a -ℤ some.value = size_up (a -ℤ some.value) (omega (arith, ints, up, to)) in
    record { first = some.value; second = a -ℤ some.value; in_first = some.own; in_second = (omega (arith, ints, low, to), omega (arith, ints, from)); related = apart }

pub partner_above : (a least : ℤ) (s z : Span) → IsLeastSize z least → SomeBoth s (a +ℤ least) (a +ℤ z.hi) → HasPartner difference a s z
partner_above a least s z is some =
    let up = is.up in
    let low = is.low in
    let from = some.from in
    let to = some.to in
    let apart = size_down (a -ℤ some.value) (omega (arith, ints, up, from)) in
    let same : difference a some.value ≡ some.value -ℤ a = omega (arith, ints, apart) in
    record { first = some.value; second = some.value -ℤ a; in_first = some.own; in_second = (omega (arith, ints, low, from), omega (arith, ints, to)); related = same }

pub partner_side : (a least : ℤ) (s z : Span) → IsLeastSize z least → HasPartner difference a s z → SomeBoth s (a -ℤ z.hi) (a -ℤ least) ⊎ SomeBoth s (a +ℤ least) (a +ℤ z.hi)
partner_side a least s z is some = by (sided a some.first).side is.one
  where
    by : ((some.first ≤ℤ a) × (difference a some.first ≡ a -ℤ some.first)) ⊎ ((a ≤ℤ some.first) × (difference a some.first ≡ some.first -ℤ a)) → (least ≡ z.lo) ⊎ (least ≡ pos 0) → SomeBoth s (a -ℤ z.hi) (a -ℤ least) ⊎ SomeBoth s (a +ℤ least) (a +ℤ z.hi)
    by (inl side) one =
        let le = side.0 in
        let apart = side.1 in
        let related = some.related in
        let from = some.in_second.0 in
        let to = some.in_second.1 in
        inl (record { value = some.first; own = some.in_first; from = omega (arith, ints, apart, related, to); to = at_least one })
      where
        at_least : (least ≡ z.lo) ⊎ (least ≡ pos 0) → some.first ≤ℤ (a -ℤ least)
        at_least (inl same) = let apart = side.1 in let related = some.related in let from = some.in_second.0 in omega (arith, ints, apart, related, from, same)
        at_least (inr none) = let le = side.0 in omega (arith, ints, le, none)
    by (inr side) one =
        let apart = side.1 in
        let related = some.related in
        let to = some.in_second.1 in
        inr (record { value = some.first; own = some.in_first; from = at_least one; to = omega (arith, ints, apart, related, to) })
      where
        at_least : (least ≡ z.lo) ⊎ (least ≡ pos 0) → (a +ℤ least) ≤ℤ some.first
        at_least (inl same) = let apart = side.1 in let related = some.related in let from = some.in_second.0 in omega (arith, ints, apart, related, from, same)
        at_least (inr none) = let le = side.0 in omega (arith, ints, le, none)

pub no_partner : (a least : ℤ) (s z : Span) → IsLeastSize z least → z.hi <ℤ least → HasPartner difference a s z → ⊥
no_partner a least s z is below some = by is.one
  where
    by : (least ≡ z.lo) ⊎ (least ≡ pos 0) → ⊥
    by (inl same) = let from = some.in_second.0 in let to = some.in_second.1 in omega (arith, ints, same, from, to, below)
    by (inr none) = let to = some.in_second.1 in let related = some.related in let up : pos 0 ≤ℤ difference a some.first = omega (arith, ints) in omega (arith, ints, none, up, related, to, below)

-- ---- at most and at least so far apart

pub not_far : (a : ℤ) (s u : Span) → GivesBelow difference a s u → (pos 0 ≤ℤ a) × ((s.lo -ℤ u.hi) ≤ℤ a) × ((u.lo -ℤ s.hi) ≤ℤ a)
not_far a s u some = by (sided some.first some.second).side
  where
    by : ((some.second ≤ℤ some.first) × (difference some.first some.second ≡ some.first -ℤ some.second)) ⊎ ((some.first ≤ℤ some.second) × (difference some.first some.second ≡ some.second -ℤ some.first)) → (pos 0 ≤ℤ a) × ((s.lo -ℤ u.hi) ≤ℤ a) × ((u.lo -ℤ s.hi) ≤ℤ a)
    by (inl side) = let le = side.0 in let apart = side.1 in let most = some.related in let from = some.in_first.0 in let to = some.in_first.1 in let low = some.in_second.0 in let high = some.in_second.1 in
        (omega (arith, ints, le, apart, most), omega (arith, ints, apart, most, from, high), omega (arith, ints, le, apart, most, to, low))
    by (inr side) = let le = side.0 in let apart = side.1 in let most = some.related in let from = some.in_first.0 in let to = some.in_first.1 in let low = some.in_second.0 in let high = some.in_second.1 in
        (omega (arith, ints, le, apart, most), omega (arith, ints, le, apart, most, from, high), omega (arith, ints, apart, most, to, low))

pub near_so : (a : ℤ) (s u : Span) → s.lo ≤ℤ s.hi → u.lo ≤ℤ u.hi → pos 0 ≤ℤ a → (s.lo -ℤ u.hi) ≤ℤ a → (u.lo -ℤ s.hi) ≤ℤ a → GivesBelow difference a s u
near_so a s u filled other up one two = by (at_most_or s.lo u.hi) (at_most_or u.lo s.hi)
  where
    common : s.lo ≤ℤ u.hi → u.lo ≤ℤ s.hi → (s.lo ≤ℤ u.lo) ⊎ (u.lo <ℤ s.lo) → GivesBelow difference a s u
    common low high (inl le) = let same = size_up (u.lo -ℤ u.lo) (omega (arith, ints)) in record { first = u.lo; second = u.lo; in_first = (le, high); in_second = (omega (arith, ints), other); related = omega (arith, ints, same, up) }
    common low high (inr less) = let same = size_up (s.lo -ℤ s.lo) (omega (arith, ints)) in record { first = s.lo; second = s.lo; in_first = (omega (arith, ints), filled); in_second = (omega (arith, ints, less), low); related = omega (arith, ints, same, up) }

    by : (s.lo ≤ℤ u.hi) ⊎ (u.hi <ℤ s.lo) → (u.lo ≤ℤ s.hi) ⊎ (s.hi <ℤ u.lo) → GivesBelow difference a s u
    by (inl low) (inl high) = common low high (at_most_or s.lo u.lo)
    by (inr past) high = let same = size_up (s.lo -ℤ u.hi) (omega (arith, ints, past)) in record { first = s.lo; second = u.hi; in_first = (omega (arith, ints), filled); in_second = (other, omega (arith, ints)); related = omega (arith, ints, same, one) }
    by (inl low) (inr past) = let same = size_down (s.hi -ℤ u.lo) (omega (arith, ints, past)) in record { first = s.hi; second = u.lo; in_first = (filled, omega (arith, ints)); in_second = (omega (arith, ints), other); related = omega (arith, ints, same, two) }

pub far_side : (a : ℤ) (s u : Span) → GivesAbove difference a s u → (a ≤ℤ (s.hi -ℤ u.lo)) ⊎ (a ≤ℤ (u.hi -ℤ s.lo))
far_side a s u some = by (sided some.first some.second).side
  where
    by : ((some.second ≤ℤ some.first) × (difference some.first some.second ≡ some.first -ℤ some.second)) ⊎ ((some.first ≤ℤ some.second) × (difference some.first some.second ≡ some.second -ℤ some.first)) → (a ≤ℤ (s.hi -ℤ u.lo)) ⊎ (a ≤ℤ (u.hi -ℤ s.lo))
    by (inl side) = let apart = side.1 in let least = some.related in let to = some.in_first.1 in let low = some.in_second.0 in inl (omega (arith, ints, apart, least, to, low))
    by (inr side) = let apart = side.1 in let least = some.related in let from = some.in_first.0 in let high = some.in_second.1 in inr (omega (arith, ints, apart, least, from, high))

pub far_up : (a : ℤ) (s u : Span) → s.lo ≤ℤ s.hi → u.lo ≤ℤ u.hi → a ≤ℤ (s.hi -ℤ u.lo) → GivesAbove difference a s u
far_up a s u filled other le = record { first = s.hi; second = u.lo; in_first = (filled, omega (arith, ints)); in_second = (omega (arith, ints), other); related = omega (arith, ints, le) }

pub far_down : (a : ℤ) (s u : Span) → s.lo ≤ℤ s.hi → u.lo ≤ℤ u.hi → a ≤ℤ (u.hi -ℤ s.lo) → GivesAbove difference a s u
far_down a s u filled other le = record { first = s.lo; second = u.hi; in_first = (omega (arith, ints), filled); in_second = (other, omega (arith, ints)); related = omega (arith, ints, le) }

-- the distance is the same both ways
pub turned_difference : (a b : ℤ) → difference a b ≡ difference b a
turned_difference a b = by (sided a b).side (sided b a).side
  where
    by : ((b ≤ℤ a) × (difference a b ≡ a -ℤ b)) ⊎ ((a ≤ℤ b) × (difference a b ≡ b -ℤ a)) → ((a ≤ℤ b) × (difference b a ≡ b -ℤ a)) ⊎ ((b ≤ℤ a) × (difference b a ≡ a -ℤ b)) → difference a b ≡ difference b a
    by (inl one) (inl two) = let le = one.0 in let ge = two.0 in let same = one.1 in let other = two.1 in omega (arith, ints, le, ge, same, other)
    by (inl one) (inr two) = one.1 ∙ sym two.1
    by (inr one) (inl two) = one.1 ∙ sym two.1
    by (inr one) (inr two) = let le = one.0 in let ge = two.0 in let same = one.1 in let other = two.1 in omega (arith, ints, le, ge, same, other)

pub both_so : (s : Span) (lo hi : ℤ) → s.lo ≤ℤ s.hi → lo ≤ℤ hi → s.lo ≤ℤ hi → lo ≤ℤ s.hi → SomeBoth s lo hi
both_so s lo hi filled other low high = by (at_most_or s.lo lo)
  where
    by : (s.lo ≤ℤ lo) ⊎ (lo <ℤ s.lo) → SomeBoth s lo hi
    by (inl le) = record { value = lo; own = (le, high); from = omega (arith, ints); to = other }
    by (inr less) = record { value = s.lo; own = (omega (arith, ints), filled); from = omega (arith, ints, less); to = low }

pub moved_both : (s : Span) (lo hi low high : ℤ) → SomeBoth s lo hi → lo ≡ low → hi ≡ high → SomeBoth s low high
moved_both s lo hi low high some one two = let from = some.from in let to = some.to in record { value = some.value; own = some.own; from = omega (arith, ints, from, one); to = omega (arith, ints, to, two) }

-- ---- bounds

pub around_so : (s x z : Span) (least lo hi : ℤ) → IsLeastSize z least → (((s.hi -ℤ least) <ℤ x.lo) × (lo ≡ s.lo +ℤ least)) ⊎ (lo ≡ s.lo -ℤ z.hi) → ((x.hi <ℤ (s.lo +ℤ least)) × (hi ≡ s.hi -ℤ least)) ⊎ (hi ≡ s.hi +ℤ z.hi) → (a : ℤ) → IsIn x a → HasPartner difference a s z → (lo ≤ℤ a) × (a ≤ℤ hi)
around_so s x z least lo hi is low high a own some = by (partner_side a least s z is some)
  where
    up : pos 0 ≤ℤ least
    up = is.up

    first : x.lo ≤ℤ a
    first = own.0

    last : a ≤ℤ x.hi
    last = own.1

    from_below : SomeBoth s (a +ℤ least) (a +ℤ z.hi) → (((s.hi -ℤ least) <ℤ x.lo) × (lo ≡ s.lo +ℤ least)) ⊎ (lo ≡ s.lo -ℤ z.hi) → lo ≤ℤ a
    from_below both (inl gap) = let past = gap.0 in let from = both.from in let to = both.own.1 in absurd (omega (arith, ints, past, from, to, first))
    from_below both (inr same) = let to = both.to in let from = both.own.0 in omega (arith, ints, same, to, from)

    to_below : SomeBoth s (a +ℤ least) (a +ℤ z.hi) → ((x.hi <ℤ (s.lo +ℤ least)) × (hi ≡ s.hi -ℤ least)) ⊎ (hi ≡ s.hi +ℤ z.hi) → a ≤ℤ hi
    to_below both (inl gap) = let same = gap.1 in let from = both.from in let to = both.own.1 in omega (arith, ints, same, from, to)
    to_below both (inr same) = let from = both.from in let most = both.to in let to = both.own.1 in omega (arith, ints, same, from, most, to, up)

    from_above : SomeBoth s (a -ℤ z.hi) (a -ℤ least) → (((s.hi -ℤ least) <ℤ x.lo) × (lo ≡ s.lo +ℤ least)) ⊎ (lo ≡ s.lo -ℤ z.hi) → lo ≤ℤ a
    from_above both (inl gap) = let same = gap.1 in let to = both.to in let from = both.own.0 in omega (arith, ints, same, to, from)
    from_above both (inr same) = let to = both.to in let least_is = both.from in let from = both.own.0 in omega (arith, ints, same, to, least_is, from, up)

    to_above : SomeBoth s (a -ℤ z.hi) (a -ℤ least) → ((x.hi <ℤ (s.lo +ℤ least)) × (hi ≡ s.hi -ℤ least)) ⊎ (hi ≡ s.hi +ℤ z.hi) → a ≤ℤ hi
    to_above both (inl gap) = let past = gap.0 in let to = both.to in let from = both.own.0 in absurd (omega (arith, ints, past, to, from, last))
    to_above both (inr same) = let from = both.from in let to = both.own.1 in omega (arith, ints, same, from, to)

    by : SomeBoth s (a -ℤ z.hi) (a -ℤ least) ⊎ SomeBoth s (a +ℤ least) (a +ℤ z.hi) → (lo ≤ℤ a) × (a ≤ℤ hi)
    by (inl both) = (from_above both low, to_above both high)
    by (inr both) = (from_below both low, to_below both high)

pub distances_so : (s u : Span) (apart lo hi : ℤ) → (apart ≡ s.lo -ℤ u.hi) ⊎ (apart ≡ u.lo -ℤ s.hi) → (lo ≡ pos 0) ⊎ (lo ≡ apart) → (s.hi -ℤ u.lo) ≤ℤ hi → (u.hi -ℤ s.lo) ≤ℤ hi → (a : ℤ) → GivesBelow difference a s u → GivesAbove difference a s u → (lo ≤ℤ a) × (a ≤ℤ hi)
distances_so s u apart lo hi which least first second a below above = (low least which (sided below.first below.second).side, high (sided above.first above.second).side)
  where
    low : (lo ≡ pos 0) ⊎ (lo ≡ apart) → (apart ≡ s.lo -ℤ u.hi) ⊎ (apart ≡ u.lo -ℤ s.hi)
        → ((below.second ≤ℤ below.first) × (difference below.first below.second ≡ below.first -ℤ below.second)) ⊎ ((below.first ≤ℤ below.second) × (difference below.first below.second ≡ below.second -ℤ below.first)) → lo ≤ℤ a
    low (inl zero_is) which (inl side) = let le = side.0 in let d = side.1 in let to = below.related in omega (arith, ints, zero_is, le, d, to)
    low (inl zero_is) which (inr side) = let le = side.0 in let d = side.1 in let to = below.related in omega (arith, ints, zero_is, le, d, to)
    low (inr is) (inl w) (inl side) = let le = side.0 in let d = side.1 in let to = below.related in let f = below.in_first.0 in let g = below.in_second.1 in omega (arith, ints, is, w, le, d, to, f, g)
    low (inr is) (inl w) (inr side) = let le = side.0 in let d = side.1 in let to = below.related in let f = below.in_first.0 in let g = below.in_second.1 in omega (arith, ints, is, w, le, d, to, f, g)
    low (inr is) (inr w) (inl side) = let le = side.0 in let d = side.1 in let to = below.related in let f = below.in_first.1 in let g = below.in_second.0 in omega (arith, ints, is, w, le, d, to, f, g)
    low (inr is) (inr w) (inr side) = let le = side.0 in let d = side.1 in let to = below.related in let f = below.in_first.1 in let g = below.in_second.0 in omega (arith, ints, is, w, le, d, to, f, g)

    high : ((above.second ≤ℤ above.first) × (difference above.first above.second ≡ above.first -ℤ above.second)) ⊎ ((above.first ≤ℤ above.second) × (difference above.first above.second ≡ above.second -ℤ above.first)) → a ≤ℤ hi
    high (inl side) = let d = side.1 in let from = above.related in let f = above.in_first.1 in let g = above.in_second.0 in omega (arith, ints, d, from, f, g, first)
    high (inr side) = let d = side.1 in let from = above.related in let f = above.in_first.0 in let g = above.in_second.1 in omega (arith, ints, d, from, f, g, second)

pub either_is : {a b c d e : ℤ} → (a ≡ b) ⊎ (a ≡ c) → b ≡ d → c ≡ e → (a ≡ d) ⊎ (a ≡ e)
either_is (inl same) one two = inl (same ∙ one)
either_is (inr same) one two = inr (same ∙ two)

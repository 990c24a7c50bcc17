-- The numbers that have a product with a number of one span in another span, and those that are passed over.
use Rattle.std.proofs.Common.{◌≡◌, ◌↔◌, ℤ, pos, neg_ℤ, ◌+ℤ◌, ◌-ℤ◌, ◌*ℤ◌, ◌≤ℤ◌, ◌<ℤ◌, ◌<◌, ◌⊎◌, inl, inr, refl, sym, ◌∙◌, arith}
use Rattle.std.proofs.Math.IntN.{*ℤ-zero, *ℤ_comm, zero-*ℤ}
use Rattle.std.proofs.lemmas.Int.{ints}
use Rattle.std.specs.Int.{int_gap}
use Rattle.mn_model.proofs.Stretches.{plus-int_gap}
use Rattle.mn_closure.specs.Supports.{product}
use Rattle.mn_prop.proofs.Trying.{at_most_or}
use Rattle.mn_arith.specs.Spans.{HasMultiple, HasPartner, IsFirstPartner, IsIn, IsNextPartner, IsOpposite, IsPartnerBefore}
use Rattle.mn_arith.specs.declared.span.Span.{Span}
use Rattle.mn_arith.proofs.Products.{both_turned, in_opposite, keeps_first, keeps_order, opposite_in, turned_second}

-- ---- a multiple in a span

-- first is the least number of the span whose multiple by a is large enough
pub record IsFirst (s z : Span) (a first : ℤ) : Type 0 where
  pub from : s.lo ≤ℤ first
  pub reaches : z.lo ≤ℤ (a *ℤ first)
  pub least : (b : ℤ) → s.lo ≤ℤ b → z.lo ≤ℤ (a *ℤ b) → first ≤ℤ b

pub first_so : (a up first : ℤ) (s z : Span) → ((b : ℤ) → up ≤ℤ b ↔ z.lo ≤ℤ (a *ℤ b)) → s.lo ≤ℤ first → up ≤ℤ first → (first ≡ s.lo) ⊎ (first ≡ up) → IsFirst s z a first
first_so a up first s z enough from past which = record { from = from; reaches = (enough first).0 past; least = by which }
  where
    by : (first ≡ s.lo) ⊎ (first ≡ up) → (b : ℤ) → s.lo ≤ℤ b → z.lo ≤ℤ (a *ℤ b) → first ≤ℤ b
    by (inl same) b low reaches = omega (arith, ints, same, low)
    by (inr same) b low reaches = let least = (enough b).1 reaches in omega (arith, ints, same, least)

pub multiple_so : (a first : ℤ) (s z : Span) → IsFirst s z a first → first ≤ℤ s.hi → (a *ℤ first) ≤ℤ z.hi → HasPartner product a s z
multiple_so a first s z is to most = record { first = first; second = a *ℤ first; in_first = (is.from, to); in_second = (is.reaches, most); related = refl }

pub so_multiple : (a first : ℤ) (s z : Span) → pos 0 <ℤ a → IsFirst s z a first → HasPartner product a s z → (first ≤ℤ s.hi) × ((a *ℤ first) ≤ℤ z.hi)
so_multiple a first s z above is some =
    let related = some.related in
    let low = some.in_second.0 in
    let high = some.in_second.1 in
    let to = some.in_first.1 in
    let le = is.least some.first some.in_first.0 (omega (arith, ints, related, low)) in
    let times = keeps_order a first some.first (omega (arith, ints, above)) le in
    (omega (arith, ints, le, to), omega (arith, ints, times, related, high))

-- ---- signs

pub turned_partner : (a : ℤ) (s r z : Span) → IsOpposite s r → HasPartner product (neg_ℤ a) r z → HasPartner product a s z
turned_partner a s r z is some =
    let same = turned_second a some.first in
    let other = both_turned a (neg_ℤ some.first) in
    let related = some.related in
    record { first = neg_ℤ some.first; second = some.second; in_first = in_opposite s r some.first is some.in_first; in_second = some.in_second; related = sym (both_turned a (neg_ℤ some.first)) ∙ twice a some.first ∙ related }
  where
    twice : (b c : ℤ) → neg_ℤ b *ℤ neg_ℤ (neg_ℤ c) ≡ neg_ℤ b *ℤ c
    twice b c =
        let one = turned_second (neg_ℤ b) (neg_ℤ c) in
        let two = turned_second (neg_ℤ b) c in
        omega (arith, ints, one, two)

pub partner_turned : (a : ℤ) (s r z : Span) → IsOpposite s r → HasPartner product a s z → HasPartner product (neg_ℤ a) r z
partner_turned a s r z is some = record { first = neg_ℤ some.first; second = some.second; in_first = opposite_in s r some.first is some.in_first; in_second = some.in_second; related = both_turned a some.first ∙ some.related }

pub zero_partner : (a : ℤ) (s z : Span) → IsIn s (pos 0) → IsIn z (pos 0) → HasPartner product a s z
zero_partner a s z own other = record { first = pos 0; second = pos 0; in_first = own; in_second = other; related = *ℤ-zero a }

pub partner_zero : (a : ℤ) (s z : Span) → a ≡ pos 0 → s.lo ≤ℤ s.hi → z.lo ≤ℤ pos 0 → pos 0 ≤ℤ z.hi → HasPartner product a s z
partner_zero a s z is_zero filled low high = record { first = s.lo; second = pos 0; in_first = (omega (arith, ints), filled); in_second = (low, high); related = (λ i. is_zero i *ℤ s.lo) ∙ zero-*ℤ s.lo }

pub none_of_zero : (a : ℤ) (s z : Span) → a ≡ pos 0 → HasPartner product a s z → IsIn z (pos 0)
none_of_zero a s z is_zero some =
    let related = some.related in
    let nothing : a *ℤ some.first ≡ pos 0 = (λ i. is_zero i *ℤ some.first) ∙ zero-*ℤ some.first in
    let low = some.in_second.0 in
    let high = some.in_second.1 in
    (omega (arith, ints, related, nothing, low), omega (arith, ints, related, nothing, high))

-- a partner is above 0, or below 0, or 0
pub by_sign : (b : ℤ) (s r z y : Span) → IsOpposite s r → IsOpposite z y → HasPartner product b s z → HasMultiple b s z ⊎ (HasMultiple b r y ⊎ (IsIn s (pos 0) × IsIn z (pos 0)))
by_sign b s r z y is other some = by (at_most_or (pos 1) some.first) (at_most_or (pos 0) some.first)
  where
    by : (pos 1 ≤ℤ some.first) ⊎ (some.first <ℤ pos 1) → (pos 0 ≤ℤ some.first) ⊎ (some.first <ℤ pos 0) → HasMultiple b s z ⊎ (HasMultiple b r y ⊎ (IsIn s (pos 0) × IsIn z (pos 0)))
    by (inl up) any = inl (record { first = some.first; second = some.second; in_first = some.in_first; in_second = some.in_second; related = (omega (arith, ints, up), some.related) })
    by (inr less) (inr down) =
        let same = turned_second b some.first in
        let related = some.related in
        inr (inl (record { first = neg_ℤ some.first; second = neg_ℤ some.second; in_first = opposite_in s r some.first is some.in_first; in_second = opposite_in z y some.second other some.in_second; related = (omega (arith, ints, down), omega (arith, ints, same, related)) }))
    by (inr less) (inl up) = inr (inr ((omega (arith, ints, less, from), omega (arith, ints, up, to)), (omega (arith, ints, nothing, low), omega (arith, ints, nothing, high))))
      where
        from : s.lo ≤ℤ some.first
        from = some.in_first.0

        to : some.first ≤ℤ s.hi
        to = some.in_first.1

        low : z.lo ≤ℤ some.second
        low = some.in_second.0

        high : some.second ≤ℤ z.hi
        high = some.in_second.1

        is_zero : some.first ≡ pos 0
        is_zero = omega (arith, ints, less, up)

        nothing : some.second ≡ pos 0
        nothing = sym some.related ∙ (λ i. b *ℤ is_zero i) ∙ *ℤ-zero b

-- ---- numbers that are passed over

module _ (a q most : ℤ) (s z : Span) (above : pos 0 <ℤ a) (quotient : (c : ℤ) → c ≤ℤ q ↔ (a *ℤ c) ≤ℤ z.hi) (which : (most ≡ s.hi) ⊎ (most ≡ q)) where
  -- what gives a number of z with a number that is at least a is at most the quotient
  pub few : (b : ℤ) → a ≤ℤ b → (some : HasMultiple b s z) → some.first ≤ℤ most
  few b le some = by which
    where
      within : some.first ≤ℤ q
      within =
          let up = some.related.0 in
          let less = keeps_first a b some.first (omega (arith, ints, up)) le in
          let related = some.related.1 in
          let high = some.in_second.1 in
          (quotient some.first).1 (omega (arith, ints, less, related, high))

      by : (most ≡ s.hi) ⊎ (most ≡ q) → some.first ≤ℤ most
      by (inl same) = let to = some.in_first.1 in omega (arith, ints, same, to)
      by (inr same) = omega (arith, ints, same, within)

  pub leap_so : (next : ℤ) → ((c : ℤ) → next ≤ℤ c ↔ z.lo ≤ℤ (most *ℤ c)) → (b : ℤ) → a ≤ℤ b → HasMultiple b s z → next ≤ℤ b
  leap_so next enough b le some =
      let more = keeps_order b some.first most (omega (arith, ints, above, le)) (few b le some) in
      let turn = *ℤ_comm b most in
      let related = some.related.1 in
      let low = some.in_second.0 in
      (enough b).1 (omega (arith, ints, more, turn, related, low))

  pub no_leap : (low : ℤ) → most <ℤ low → (low ≡ pos 1) ⊎ (low ≡ s.lo) → (b : ℤ) → a ≤ℤ b → HasMultiple b s z → ⊥
  no_leap low less least b le some = by least
    where
      by : (low ≡ pos 1) ⊎ (low ≡ s.lo) → ⊥
      by (inl same) = let up = some.related.0 in let most_is = few b le some in omega (arith, ints, same, up, most_is, less)
      by (inr same) = let from = some.in_first.0 in let most_is = few b le some in omega (arith, ints, same, from, most_is, less)

module _ (a q low least : ℤ) (s z : Span) (quotient : (c : ℤ) → q ≤ℤ c ↔ z.lo ≤ℤ (a *ℤ c)) (lowest : (low ≡ pos 1) ⊎ (low ≡ s.lo)) (which : (least ≡ low) ⊎ (least ≡ q)) where
  -- what gives a number of z with a number above 0 that is at most a is at least the quotient
  pub many : (b : ℤ) → b ≤ℤ a → (some : HasMultiple b s z) → least ≤ℤ some.first
  many b le some = by which lowest
    where
      within : q ≤ℤ some.first
      within =
          let up = some.related.0 in
          let more = keeps_first b a some.first (omega (arith, ints, up)) le in
          let related = some.related.1 in
          let from = some.in_second.0 in
          (quotient some.first).1 (omega (arith, ints, more, related, from))

      by : (least ≡ low) ⊎ (least ≡ q) → (low ≡ pos 1) ⊎ (low ≡ s.lo) → least ≤ℤ some.first
      by (inl same) (inl one) = let up = some.related.0 in omega (arith, ints, same, one, up)
      by (inl same) (inr own) = let from = some.in_first.0 in omega (arith, ints, same, own, from)
      by (inr same) any = omega (arith, ints, same, within)

  pub back_so : (last : ℤ) → ((c : ℤ) → c ≤ℤ last ↔ (least *ℤ c) ≤ℤ z.hi) → (b : ℤ) → pos 0 <ℤ b → b ≤ℤ a → HasMultiple b s z → b ≤ℤ last
  back_so last fits b up le some =
      let less = keeps_order b least some.first (omega (arith, ints, up)) (many b le some) in
      let turn = *ℤ_comm b least in
      let related = some.related.1 in
      let high = some.in_second.1 in
      (fits b).1 (omega (arith, ints, less, turn, related, high))

  pub no_back : s.hi <ℤ least → (b : ℤ) → b ≤ℤ a → HasMultiple b s z → ⊥
  no_back less b le some = let to = some.in_first.1 in let least_is = many b le some in omega (arith, ints, less, to, least_is)

module _ (a one two : ℤ) (s r z y : Span) (is : IsOpposite s r) (other : IsOpposite z y) (none : HasPartner product a s z → ⊥) where
  pub after_so : (near next : ℤ) → ((b : ℤ) → a ≤ℤ b → HasMultiple b s z → one ≤ℤ b) → ((b : ℤ) → a ≤ℤ b → HasMultiple b r y → two ≤ℤ b) → near ≤ℤ one → near ≤ℤ two → (a +ℤ pos 1) ≤ℤ next → (next ≡ a +ℤ pos 1) ⊎ (next ≡ near) → IsNextPartner product a s z next
  after_so near next first second low high past which = record { past = omega (arith, ints, past); none = λ b more some. by which b more (by_sign b s r z y is other some) }
    where
      by : (next ≡ a +ℤ pos 1) ⊎ (next ≡ near) → (b : ℤ) → a <ℤ b → HasMultiple b s z ⊎ (HasMultiple b r y ⊎ (IsIn s (pos 0) × IsIn z (pos 0))) → next ≤ℤ b
      by (inl same) b more any = omega (arith, ints, same, more)
      by (inr same) b more (inl some) = let le = first b (omega (arith, ints, more)) some in omega (arith, ints, same, low, le)
      by (inr same) b more (inr (inl some)) = let le = second b (omega (arith, ints, more)) some in omega (arith, ints, same, high, le)
      by (inr same) b more (inr (inr zeros)) = absurd (none (zero_partner a s z zeros.0 zeros.1))

  pub before_so : (most up last : ℤ) → pos 0 <ℤ a → ((b : ℤ) → pos 0 <ℤ b → b ≤ℤ a → HasMultiple b s z → b ≤ℤ one) → ((b : ℤ) → pos 0 <ℤ b → b ≤ℤ a → HasMultiple b r y → b ≤ℤ two) → one ≤ℤ most → two ≤ℤ most → pos 0 ≤ℤ up → most ≤ℤ up → last ≤ℤ (a -ℤ pos 1) → (last ≡ a -ℤ pos 1) ⊎ (last ≡ up) → IsPartnerBefore product a s z last
  before_so most up last above first second low high rises reaches below which = record { before = omega (arith, ints, below); up = not_below which; none = λ b from less some. by which b from less (by_sign b s r z y is other some) }
    where
      not_below : (last ≡ a -ℤ pos 1) ⊎ (last ≡ up) → pos 0 ≤ℤ last
      not_below (inl same) = omega (arith, ints, same, above)
      not_below (inr same) = omega (arith, ints, same, rises)

      by : (last ≡ a -ℤ pos 1) ⊎ (last ≡ up) → (b : ℤ) → pos 0 <ℤ b → b <ℤ a → HasMultiple b s z ⊎ (HasMultiple b r y ⊎ (IsIn s (pos 0) × IsIn z (pos 0))) → b ≤ℤ last
      by (inl same) b from less any = omega (arith, ints, same, less)
      by (inr same) b from less (inl some) = let le = first b from (omega (arith, ints, less)) some in omega (arith, ints, same, low, reaches, le)
      by (inr same) b from less (inr (inl some)) = let le = second b from (omega (arith, ints, less)) some in omega (arith, ints, same, high, reaches, le)
      by (inr same) b from less (inr (inr zeros)) = absurd (none (zero_partner a s z zeros.0 zeros.1))

-- ---- the next number that can be such

pub next_below : (a last : ℤ) (s r z : Span) → a <ℤ pos 0 → IsOpposite s r → IsPartnerBefore product (neg_ℤ a) r z last → IsNextPartner product a s z (neg_ℤ last)
next_below a last s r z below is before = record { past = (let less = before.before in omega (arith, ints, less)); none = λ b more some. by b more some (at_most_or (pos 0) b) }
  where
    by : (b : ℤ) → a <ℤ b → HasPartner product b s z → (pos 0 ≤ℤ b) ⊎ (b <ℤ pos 0) → neg_ℤ last ≤ℤ b
    by b more some (inl up) = let rises = before.up in omega (arith, ints, up, rises)
    by b more some (inr down) =
        let le = before.none (neg_ℤ b) (omega (arith, ints, down)) (omega (arith, ints, more)) (partner_turned b s r z is some) in
        omega (arith, ints, le)

pub next_of_zero : (s z : Span) → IsNextPartner product (pos 0) s z (pos 1)
next_of_zero s z = record { past = omega (arith, ints); none = λ b more some. omega (arith, ints, more) }

-- ---- the search

-- a is at least the lower end, and none before it is such
pub record SearchedTo (x s z : Span) (a : ℤ) : Type 0 where
  pub from : x.lo ≤ℤ a
  pub before : (b : ℤ) → IsIn x b → HasPartner product b s z → a ≤ℤ b

pub search_begins : (x s z : Span) → SearchedTo x s z x.lo
search_begins x s z = record { from = omega (arith, ints); before = λ b own some. own.0 }

pub search_goes_on : (x s z : Span) (a next : ℤ) → SearchedTo x s z a → (HasPartner product a s z → ⊥) → IsNextPartner product a s z next → SearchedTo x s z next
search_goes_on x s z a next so_far none is = record { from = (let from = so_far.from in let past = is.past in omega (arith, ints, from, past)); before = λ b own some. by b some (so_far.before b own some) (at_most_or b a) }
  where
    by : (b : ℤ) → HasPartner product b s z → a ≤ℤ b → (b ≤ℤ a) ⊎ (a <ℤ b) → next ≤ℤ b
    by b some le (inl same) = absurd (none (subst_partner b (omega (arith, ints, le, same)) some))
      where
        subst_partner : (c : ℤ) → c ≡ a → HasPartner product c s z → HasPartner product a s z
        subst_partner c e has = record { first = has.first; second = has.second; in_first = has.in_first; in_second = has.in_second; related = (λ i. sym e i *ℤ has.first) ∙ has.related }
    by b some le (inr more) = is.none b more some

pub search_ends : (x s z : Span) (a : ℤ) → x.lo ≤ℤ x.hi → SearchedTo x s z a → x.hi <ℤ a → IsFirstPartner product x s z (x.hi +ℤ pos 1)
search_ends x s z a filled so_far past = record {
  from = omega (arith, ints, filled);
  to = omega (arith, ints);
  before = λ b own some. (let le = so_far.before b own some in let to = own.1 in absurd (omega (arith, ints, le, to, past)));
  has = λ le. absurd (omega (arith, ints, le));
}

pub search_finds : (x s z : Span) (a : ℤ) → SearchedTo x s z a → a ≤ℤ x.hi → HasPartner product a s z → IsFirstPartner product x s z a
search_finds x s z a so_far within has = record { from = so_far.from; to = omega (arith, ints, within); before = so_far.before; has = λ le. has }

-- fewer numbers are left behind the next one
pub search_shrinks : (a next hi : ℤ) → a <ℤ next → next ≤ℤ hi → int_gap next hi < int_gap a hi
search_shrinks a next hi past fits =
    let from = plus-int_gap a hi (omega (arith, ints, past, fits)) in
    let left = plus-int_gap next hi (omega (arith, ints, fits)) in
    omega (arith, ints, from, left, past)

-- around the numbers of x that are such
pub around_factors : (x w s r z : Span) (first last : ℤ) → IsOpposite x w → IsOpposite s r → IsFirstPartner product x s z first → IsFirstPartner product w r z last → (a : ℤ) → IsIn x a → HasPartner product a s z → (first ≤ℤ a) × (a ≤ℤ neg_ℤ last)
around_factors x w s r z first last is other low high a own some =
    let most = high.before (neg_ℤ a) (opposite_in x w a is own) (partner_turned a s r z other some) in
    (low.before a own some, omega (arith, ints, most))

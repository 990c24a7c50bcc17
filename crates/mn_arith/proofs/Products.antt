-- Products, and how often a number goes into another one.
use Rattle.std.proofs.Common.{◌≡◌, ◌↔◌, ℕ, zero, suc, ◌+◌, ◌*◌, ◌/◌, ◌%◌, ◌<◌, ◌≤◌, ℤ, pos, negsuc, neg_ℤ, ◌+ℤ◌, ◌-ℤ◌, ◌*ℤ◌, ◌≤ℤ◌, ◌<ℤ◌, ◌⊎◌, inl, inr, FitsSigned, to_z, of_z, w64, refl, sym, ap, ◌∙◌, arith}
use Rattle.std.proofs.Math.IntN.{*ℤ_comm, +ℤ_one, neg_ℤ-neg_ℤ, suc_ℤ-*ℤ, zero-*ℤ}
use Rattle.std.proofs.Math.Nat.{div-add-mod, mod-lt}
use Rattle.std.proofs.lemmas.Int.{ints, to_z-of_z}
use Rattle.std.specs.Int.{int_div_euclid}
use Rattle.mn_model.specs.Lawful.{IsNear}
use Rattle.mn_meaning.proofs.Near.{near_product}
use Rattle.mn_closure.specs.Supports.{product}
use Rattle.mn_prop.proofs.Trying.{at_most_or}
use Rattle.mn_arith.specs.Spans.{GivesAbove, GivesBelow, IsGreatestOf, IsIn, IsLeastMultiple, IsLeastOf, IsNearSpan, IsOpposite}
use Rattle.mn_arith.specs.declared.span.Span.{Span}

-- ---- order

once_more : (n : ℕ) (a : ℤ) → pos (suc n) *ℤ a ≡ (pos n *ℤ a) +ℤ a
once_more n a = suc_ℤ-*ℤ (pos n) a

times_le : (n : ℕ) (a b : ℤ) → a ≤ℤ b → (pos n *ℤ a) ≤ℤ (pos n *ℤ b)
times_le zero a b le = omega (arith, ints, zero-*ℤ a, zero-*ℤ b)
times_le (suc n) a b le = let less = times_le n a b le in omega (arith, ints, once_more n a, once_more n b, less, le)

-- a sign that is turned
turned : (m : ℕ) (q : ℤ) → negsuc m *ℤ q ≡ neg_ℤ (pos (suc m) *ℤ q)
turned m (pos n) = refl
turned m (negsuc n) = sym (neg_ℤ-neg_ℤ (pos (suc m * suc n)))

pub turned_first : (a b : ℤ) → neg_ℤ a *ℤ b ≡ neg_ℤ (a *ℤ b)
turned_first (pos zero) b = omega (arith, ints, zero-*ℤ b)
turned_first (pos (suc n)) b = turned n b
turned_first (negsuc n) b = omega (arith, ints, turned n b)

pub turned_second : (a b : ℤ) → a *ℤ neg_ℤ b ≡ neg_ℤ (a *ℤ b)
turned_second a b = *ℤ_comm a (neg_ℤ b) ∙ turned_first b a ∙ ap neg_ℤ (*ℤ_comm b a)

pub both_turned : (a b : ℤ) → neg_ℤ a *ℤ neg_ℤ b ≡ a *ℤ b
both_turned a b = turned_first a (neg_ℤ b) ∙ ap neg_ℤ (turned_second a b) ∙ neg_ℤ-neg_ℤ (a *ℤ b)

-- a number that isn't below 0 keeps the order, and one that isn't above 0 turns it
pub keeps_order : (a u v : ℤ) → pos 0 ≤ℤ a → u ≤ℤ v → (a *ℤ u) ≤ℤ (a *ℤ v)
keeps_order (pos n) u v up le = times_le n u v le
keeps_order (negsuc n) u v up le = absurd (omega (arith, ints, up))

pub turns_order : (a u v : ℤ) → a ≤ℤ pos 0 → u ≤ℤ v → (a *ℤ v) ≤ℤ (a *ℤ u)
turns_order a u v down le =
    let most = keeps_order (neg_ℤ a) u v (omega (arith, ints, down)) le in
    let one = turned_first a u in
    let two = turned_first a v in
    omega (arith, ints, most, one, two)

pub keeps_first : (a b u : ℤ) → pos 0 ≤ℤ u → a ≤ℤ b → (a *ℤ u) ≤ℤ (b *ℤ u)
keeps_first a b u up le =
    let most = keeps_order u a b up le in
    let one = *ℤ_comm u a in
    let two = *ℤ_comm u b in
    omega (arith, ints, most, one, two)

-- the product of near numbers is what an i64 has of it
pub exact_product : (a b : ℤ) → FitsSigned w64 a → FitsSigned w64 b → (neg_ℤ (pos 1000000002000000001) ≤ℤ (a *ℤ b)) × ((a *ℤ b) ≤ℤ pos 1000000002000000001) → to_z w64 (of_z w64 (to_z w64 (of_z w64 a) *ℤ to_z w64 (of_z w64 b))) ≡ a *ℤ b
exact_product a b fits suits bounds =
    let whole : FitsSigned w64 (a *ℤ b) = omega (arith, ints, bounds.0, bounds.1) in
    ap (λ z. to_z w64 (of_z w64 z)) (λ i. to_z-of_z w64 a fits i *ℤ to_z-of_z w64 b suits i) ∙ to_z-of_z w64 (a *ℤ b) whole

-- the same of a number with its sign turned
pub exact_turned : (n : ℤ) → negsuc 9223372036854775806 ≤ℤ n → n ≤ℤ pos 9223372036854775807 → to_z w64 (of_z w64 (pos 0 -ℤ to_z w64 (of_z w64 n))) ≡ neg_ℤ n
exact_turned n low high = omega (arith, ints, low, high)

-- ---- quotients

nat_floor : (n m : ℕ) → ((suc m * (n / suc m)) ≤ n) × (n < (suc m * (n / suc m) + suc m))
nat_floor n m =
    let whole = div-add-mod n (suc m) in
    let less : n % suc m < suc m = mod-lt n (omega arith) in
    (omega (arith, whole), omega (arith, whole, less))

pub rounded : (n a : ℤ) → pos 0 <ℤ a → ((a *ℤ int_div_euclid n a) ≤ℤ n) × (n <ℤ ((a *ℤ int_div_euclid n a) +ℤ a))
rounded n (pos zero) above = absurd (omega (arith, ints, above))
rounded (pos n) (pos (suc m)) above = let f = nat_floor n m in (omega (arith, ints, f.0), omega (arith, ints, f.1))
rounded (negsuc n) (pos (suc m)) above =
    let f = nat_floor n m in
    let next : suc m * suc (n / suc m) ≡ suc m * (n / suc m) + suc m = omega arith in
    (omega (arith, ints, f.1, next), omega (arith, ints, f.0, next))
rounded n (negsuc m) above = absurd (omega (arith, ints, above))

-- q is how often a number above 0 goes into n
pub rounded_down : (n a q : ℤ) → pos 0 <ℤ a → (a *ℤ q) ≤ℤ n → n <ℤ ((a *ℤ q) +ℤ a) → (b : ℤ) → b ≤ℤ q ↔ (a *ℤ b) ≤ℤ n
rounded_down n a q above low high b = (λ le. (let less = keeps_order a b q (omega (arith, ints, above)) le in omega (arith, ints, less, low)), λ within. by (at_most_or b q) within)
  where
    by : (b ≤ℤ q) ⊎ (q <ℤ b) → (a *ℤ b) ≤ℤ n → b ≤ℤ q
    by (inl le) within = le
    by (inr more) within =
        let next = keeps_order a (q +ℤ pos 1) b (omega (arith, ints, above)) (omega (arith, ints, more)) in
        let one = *ℤ_comm a (q +ℤ pos 1) in
        let two : (q +ℤ pos 1) *ℤ a ≡ (q *ℤ a) +ℤ a = ap (λ z. z *ℤ a) (+ℤ_one q) ∙ suc_ℤ-*ℤ q a in
        let three = *ℤ_comm q a in
        absurd (omega (arith, ints, next, one, two, three, within, high))

pub rounded_up : (n a q : ℤ) → ((b : ℤ) → b ≤ℤ q ↔ (a *ℤ b) ≤ℤ neg_ℤ n) → (b : ℤ) → neg_ℤ q ≤ℤ b ↔ n ≤ℤ (a *ℤ b)
rounded_up n a q down b =
    let same = turned_second a b in
    (λ le. (let least = (down (neg_ℤ b)).0 (omega (arith, ints, le)) in omega (arith, ints, least, same)), λ least. (let le = (down (neg_ℤ b)).1 (omega (arith, ints, least, same)) in omega (arith, ints, le)))

-- it isn't below all near numbers where n is near
pub quotient_near : (n a q : ℤ) → pos 0 <ℤ a → IsNear n → ((b : ℤ) → b ≤ℤ q ↔ (a *ℤ b) ≤ℤ neg_ℤ n) → negsuc 1000000000 ≤ℤ q
quotient_near n a q above near down =
    let much = keeps_first (pos 1) a (pos 1000000001) (omega (arith, ints)) (omega (arith, ints, above)) in
    let same = turned_second a (pos 1000000001) in
    let most = near.1 in
    (down (negsuc 1000000000)).1 (omega (arith, ints, much, same, most))

-- ---- the least and the greatest product

-- between two numbers the multiples are between those of the ends
lower_end : (e b lo hi : ℤ) → lo ≤ℤ b → b ≤ℤ hi → ((e *ℤ lo) ≤ℤ (e *ℤ b)) ⊎ ((e *ℤ hi) ≤ℤ (e *ℤ b))
lower_end e b lo hi from to = by (at_most_or (pos 0) e)
  where
    by : (pos 0 ≤ℤ e) ⊎ (e <ℤ pos 0) → ((e *ℤ lo) ≤ℤ (e *ℤ b)) ⊎ ((e *ℤ hi) ≤ℤ (e *ℤ b))
    by (inl up) = inl (keeps_order e lo b up from)
    by (inr down) = inr (turns_order e b hi (omega (arith, ints, down)) to)

pub least_multiple_so : (a m : ℤ) (s : Span) → s.lo ≤ℤ s.hi → m ≤ℤ (a *ℤ s.lo) → m ≤ℤ (a *ℤ s.hi) → (m ≡ a *ℤ s.lo) ⊎ (m ≡ a *ℤ s.hi) → IsLeastMultiple a s m
least_multiple_so a m s filled one two which = by which
  where
    at_least : (b : ℤ) → IsIn s b → ((a *ℤ s.lo) ≤ℤ (a *ℤ b)) ⊎ ((a *ℤ s.hi) ≤ℤ (a *ℤ b)) → m ≤ℤ (a *ℤ b)
    at_least b own (inl le) = omega (arith, ints, one, le)
    at_least b own (inr le) = omega (arith, ints, two, le)

    by : (m ≡ a *ℤ s.lo) ⊎ (m ≡ a *ℤ s.hi) → IsLeastMultiple a s m
    by (inl same) = record { factor = s.lo; own = (omega (arith, ints), filled); is = sym same; least = λ b own. at_least b own (lower_end a b s.lo s.hi own.0 own.1) }
    by (inr same) = record { factor = s.hi; own = (filled, omega (arith, ints)); is = sym same; least = λ b own. at_least b own (lower_end a b s.lo s.hi own.0 own.1) }

pub least_product_so : (s u : Span) (one two m : ℤ) → s.lo ≤ℤ s.hi → IsLeastMultiple s.lo u one → IsLeastMultiple s.hi u two → m ≤ℤ one → m ≤ℤ two → (m ≡ one) ⊎ (m ≡ two) → IsLeastOf product s u m
least_product_so s u one two m filled first second low high which = by which
  where
    at_least : (b c : ℤ) → IsIn u c → ((c *ℤ s.lo) ≤ℤ (c *ℤ b)) ⊎ ((c *ℤ s.hi) ≤ℤ (c *ℤ b)) → m ≤ℤ (b *ℤ c)
    at_least b c own (inl le) =
        let least = first.least c own in
        let same = *ℤ_comm s.lo c in
        let turn = *ℤ_comm b c in
        omega (arith, ints, le, least, same, turn, low)
    at_least b c own (inr le) =
        let least = second.least c own in
        let same = *ℤ_comm s.hi c in
        let turn = *ℤ_comm b c in
        omega (arith, ints, le, least, same, turn, high)

    by : (m ≡ one) ⊎ (m ≡ two) → IsLeastOf product s u m
    by (inl same) = record {
      given = record { first = s.lo; second = first.factor; in_first = (omega (arith, ints), filled); in_second = first.own; related = first.is ∙ sym same };
      least = λ b c own other. at_least b c other (lower_end c b s.lo s.hi own.0 own.1);
    }
    by (inr same) = record {
      given = record { first = s.hi; second = second.factor; in_first = (filled, omega (arith, ints)); in_second = second.own; related = second.is ∙ sym same };
      least = λ b c own other. at_least b c other (lower_end c b s.lo s.hi own.0 own.1);
    }

-- a number of a near span is near, and the least product of two is small
pub near_in : (s : Span) (a : ℤ) → IsNearSpan s → IsIn s a → IsNear a
near_in s a near own =
    let low = near.low.0 in
    let high = near.high.1 in
    let from = own.0 in
    let to = own.1 in
    (omega (arith, ints, low, from), omega (arith, ints, high, to))

pub least_small : (s u : Span) (m : ℤ) → IsNearSpan s → IsNearSpan u → IsLeastOf product s u m → (neg_ℤ (pos 1000000002000000001) ≤ℤ m) × (m ≤ℤ pos 1000000002000000001)
least_small s u m near nigh is =
    let some = is.given in
    let small = near_product some.first some.second (near_in s some.first near some.in_first) (near_in u some.second nigh some.in_second) in
    let same = some.related in
    (omega (arith, ints, small.0, same), omega (arith, ints, small.1, same))

-- a number of the one is one of the other with its sign turned
pub opposite_in : (s r : Span) (a : ℤ) → IsOpposite s r → IsIn s a → IsIn r (neg_ℤ a)
opposite_in s r a is own =
    let low = is.low in
    let high = is.high in
    let from = own.0 in
    let to = own.1 in
    (omega (arith, ints, low, to), omega (arith, ints, high, from))

pub in_opposite : (s r : Span) (a : ℤ) → IsOpposite s r → IsIn r a → IsIn s (neg_ℤ a)
in_opposite s r a is own =
    let low = is.low in
    let high = is.high in
    let from = own.0 in
    let to = own.1 in
    (omega (arith, ints, high, to), omega (arith, ints, low, from))

pub greatest_product_so : (s r u : Span) (m : ℤ) → IsOpposite s r → IsLeastOf product r u m → IsGreatestOf product s u (neg_ℤ m)
greatest_product_so s r u m is least =
    let some = least.given in
    record {
      given = record { first = neg_ℤ some.first; second = some.second; in_first = in_opposite s r some.first is some.in_first; in_second = some.in_second; related = turned_first some.first some.second ∙ ap neg_ℤ some.related };
      greatest = λ b c own other. (let most = least.least (neg_ℤ b) c (opposite_in s r b is own) other in let same = turned_first b c in omega (arith, ints, most, same));
    }

-- some numbers give a product that is at most a where the least does, and at least a where the greatest does
module _ (s u : Span) (m a : ℤ) where
  pub to_m : IsLeastOf product s u m → m ≤ℤ a → GivesBelow product a s u
  to_m is le =
      let some = is.given in
      let same = some.related in
      record { first = some.first; second = some.second; in_first = some.in_first; in_second = some.in_second; related = omega (arith, ints, same, le) }

  pub at_least_m : IsLeastOf product s u m → GivesBelow product a s u → m ≤ℤ a
  at_least_m is some =
      let least = is.least some.first some.second some.in_first some.in_second in
      let below = some.related in
      omega (arith, ints, least, below)

  pub from_m : IsGreatestOf product s u m → a ≤ℤ m → GivesAbove product a s u
  from_m is le =
      let some = is.given in
      let same = some.related in
      record { first = some.first; second = some.second; in_first = some.in_first; in_second = some.in_second; related = omega (arith, ints, same, le) }

  pub at_most_m : IsGreatestOf product s u m → GivesAbove product a s u → a ≤ℤ m
  at_most_m is some =
      let most = is.greatest some.first some.second some.in_first some.in_second in
      let above = some.related in
      omega (arith, ints, most, above)

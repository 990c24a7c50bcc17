-- A row of numbers from which one is taken out.
use Rattle.std.proofs.Common.{◌≡◌, ◌≢◌, ℕ, ◌-◌, ◌<◌, ◌≤◌, ◌⊎◌, inl, inr, get_or, set, refl, sym, ap, ◌∙◌, arith}
use Rattle.std.proofs.lemmas.List.{get_or-set_other, get_or-set_same}
use Rattle.mn_model.specs.Decided.{Decided, decide_nat}
use Rattle.mn_count.specs.Rows.{IsIn, IsRow, IsShrunk, Row, without}

module _ (r : Row) (is : IsRow r) (k : ℕ) (less : k < r.left) where
  here : get_or (set r.items k (get_or r.items (r.left - 1) 0)) k 0 ≡ get_or r.items (r.left - 1) 0
  here = get_or-set_same r.items k (get_or r.items (r.left - 1) 0) 0 (let room = is.room in omega (arith, less, room))

  elsewhere : (m : ℕ) → m ≢ k → get_or (set r.items k (get_or r.items (r.left - 1) 0)) m 0 ≡ get_or r.items m 0
  elsewhere m differ = get_or-set_other r.items k m (get_or r.items (r.left - 1) 0) 0 differ

  -- the last number in use stands in its place, and all others where they stood
  pub from_place : (m : ℕ) → m < r.left - 1 → (n : ℕ) × (n < r.left) × ((m ≡ k) × (n ≡ r.left - 1) ⊎ ((m ≢ k) × (n ≡ m))) × (get_or (without k r).items m 0 ≡ get_or r.items n 0)
  from_place m within = by (decide_nat m k)
    where
      by : Decided (m ≡ k) → (n : ℕ) × (n < r.left) × ((m ≡ k) × (n ≡ r.left - 1) ⊎ ((m ≢ k) × (n ≡ m))) × (get_or (without k r).items m 0 ≡ get_or r.items n 0)
      by (inl same) = (r.left - 1, omega (arith, less), inl (same, refl), ap (λ n. get_or (without k r).items n 0) same ∙ here)
      by (inr differ) = (m, omega (arith, within), inr (differ, refl), elsewhere m differ)

  -- what is in use was, and it isn't the number that was taken out
  pub still_in : (j : ℕ) → IsIn (without k r) j → IsIn r j
  still_in j in_use = let place = from_place in_use.0 in_use.1.0 in (place.0, (place.1, sym place.3 ∙ in_use.1.1))

  pub gone_out : (i : ℕ) → get_or r.items k 0 ≡ i → IsIn (without k r) i → ⊥
  gone_out i stands in_use = by place.2
    where
      place : (n : ℕ) × (n < r.left) × ((in_use.0 ≡ k) × (n ≡ r.left - 1) ⊎ ((in_use.0 ≢ k) × (n ≡ in_use.0))) × (get_or (without k r).items in_use.0 0 ≡ get_or r.items n 0)
      place = from_place in_use.0 in_use.1.0

      twice : place.0 ≡ k
      twice = is.distinct place.0 k place.1 less (sym place.3 ∙ (in_use.1.1 ∙ sym stands))

      by : ((in_use.0 ≡ k) × (place.0 ≡ r.left - 1) ⊎ ((in_use.0 ≢ k) × (place.0 ≡ in_use.0))) → ⊥
      by (inl last) = let at = last.0 in let end = last.1 in let within = in_use.1.0 in omega (arith, twice, at, end, within)
      by (inr other) = other.0 (sym other.1 ∙ twice)

  -- each other number stays in use
  pub kept_in : (i j : ℕ) → get_or r.items k 0 ≡ i → j ≢ i → IsIn r j → IsIn (without k r) j
  kept_in i j stands differ in_use = by (decide_nat in_use.0 (r.left - 1))
    where
      apart : in_use.0 ≢ k
      apart same = differ (sym in_use.1.1 ∙ (ap (λ n. get_or r.items n 0) same ∙ stands))

      by : Decided (in_use.0 ≡ r.left - 1) → IsIn (without k r) j
      by (inl last) = (k, (not_last (λ e. apart (last ∙ sym e)), here ∙ (ap (λ n. get_or r.items n 0) (sym last) ∙ in_use.1.1)))
        where
          not_last : (k ≡ r.left - 1 → ⊥) → k < r.left - 1
          not_last never = omega (arith, less, never)
      by (inr other) = (in_use.0, ((let within = in_use.1.0 in omega (arith, within, other)), elsewhere in_use.0 apart ∙ in_use.1.1))

  pub is_shrunk : IsShrunk k r (without k r)
  is_shrunk = (omega (arith, less), behind)
    where
      behind : (m : ℕ) → k ≤ m → m < r.left - 1 → (n : ℕ) × (k < n) × (n < r.left) × (get_or (without k r).items m 0 ≡ get_or r.items n 0)
      behind m from within = by (from_place m within)
        where
          by : (n : ℕ) × (n < r.left) × ((m ≡ k) × (n ≡ r.left - 1) ⊎ ((m ≢ k) × (n ≡ m))) × (get_or (without k r).items m 0 ≡ get_or r.items n 0) → (n : ℕ) × (k < n) × (n < r.left) × (get_or (without k r).items m 0 ≡ get_or r.items n 0)
          by place = (place.0, of place.0 place.2, place.1, place.3)
            where
              of : (n : ℕ) → ((m ≡ k) × (n ≡ r.left - 1) ⊎ ((m ≢ k) × (n ≡ m))) → k < n
              of n (inl last) = let at = last.0 in let end = last.1 in omega (arith, within, at, end)
              of n (inr other) = let differ = other.0 in let is_m = other.1 in omega (arith, from, differ, is_m)

-- The ends of numbers, and the room between them.
use Rattle.std.proofs.Common.{◌≡◌, ℕ, zero, suc, ◌+◌, ◌<◌, ◌≤◌, ◌/◌, ℤ, pos, ◌-ℤ◌, neg_ℤ, ◌≤ℤ◌, ◌⊎◌, inl, inr, List, [], ◌∷◌, length, drop, refl, sym, subst, ap, arith}
use Rattle.std.proofs.Math.Nat.{div-eq_of_lt}
use Rattle.std.proofs.lemmas.Int.{ints}
use Rattle.std.specs.List.{AllByRecursion}
use Rattle.mn_model.specs.declared.limits.TheConstants.{VALUE}
use Rattle.mn_model.proofs.Stretches.{plus-int_gap}
use Rattle.mn_boxes.specs.Values.{IsCovered, Values}
use Rattle.mn_meaning.specs.Families.{cut}
use Rattle.mn_meaning.specs.Meaning.{at}
use Rattle.mn_table.specs.Marks.{IsBetween, IsRoomFor}
use Rattle.mn_table.specs.declared.room.Room.{Room}

-- each number before i has P
abbrev pub EachBefore : (ℤ → Type 0) → List ℤ → ℕ → Type 0
EachBefore P cells i = (k : ℕ) → k < i → P (at cells k)

less_or_same : (k i : ℕ) → k < i + 1 → (k < i) ⊎ (k ≡ i)
less_or_same k i less = grind arith

module _ (P Q : ℤ → Type 0) (cells : List ℤ) where
  pub first_before : P (at cells 0) → EachBefore P cells 1
  first_before first k less = let same : k ≡ 0 = omega (arith, less) in subst (λ (n : ℕ). P (at cells n)) (sym same) first

  pub next_before : (i : ℕ) → EachBefore P cells i → ((a : ℤ) → P a → Q a) → Q (at cells i) → EachBefore Q cells (i + 1)
  next_before i so_far wider here k less = by (less_or_same k i less)
    where
      by : (k < i) ⊎ (k ≡ i) → Q (at cells k)
      by (inl before) = wider (at cells k) (so_far k before)
      by (inr same) = subst (λ (n : ℕ). Q (at cells n)) (sym same) here

pub all_before : (P : ℤ → Type 0) (cells : List ℤ) → ((k : ℕ) → k < length cells → P (at cells k)) → AllByRecursion P cells
all_before P [] each = tt
all_before P (a ∷ cells) each = (each 0 (omega arith), all_before P cells (λ k less. each (suc k) (omega (arith, less))))

-- so many rows are made
many_rows : (count arity : ℕ) (cells : List ℤ) → length (cut count arity cells) ≡ count
many_rows zero arity cells = refl
many_rows (suc count) arity cells = ap suc (many_rows count arity (drop arity cells))

both_ends : (lo hi : ℤ) (cells : List ℤ) → AllByRecursion (λ a. lo ≤ℤ a) cells → AllByRecursion (λ a. a ≤ℤ hi) cells → AllByRecursion (IsBetween lo hi) cells
both_ends lo hi [] low high = tt
both_ends lo hi (a ∷ cells) low high = ((low.0, high.0), both_ends lo hi cells low.1 high.1)

in_order : (lo hi : ℤ) (arity tuples : ℕ) (cells : List ℤ) → 1 ≤ arity → tuples ≡ length cells / arity → 1 ≤ tuples → AllByRecursion (IsBetween lo hi) cells → lo ≤ℤ hi
in_order lo hi arity tuples [] some is many all = let none : 0 / arity ≡ 0 = div-eq_of_lt some in absurd (omega (arith, is, none, many))
in_order lo hi arity tuples (a ∷ cells) some is many all = let from = all.0.0 in let to = all.0.1 in omega (arith, ints, from, to)

pub room_is : (arity tuples : ℕ) (cells : List ℤ) (room : Room) → 1 ≤ arity → tuples ≡ length cells / arity → 1 ≤ tuples → tuples ≤ 1000000000 → room.last ≡ pos tuples -ℤ pos 1 → neg_ℤ VALUE ≤ℤ room.lo → room.hi ≤ℤ VALUE
    → AllByRecursion (λ a. room.lo ≤ℤ a) cells → AllByRecursion (λ a. a ≤ℤ room.hi) cells → IsRoomFor arity cells room
room_is arity tuples cells room some is many few last_is low high from to =
    let all = both_ends room.lo room.hi cells from to in
    let order = in_order room.lo room.hi arity tuples cells some is many all in
    record {
      low = (low, omega (arith, ints, order, high));
      high = (omega (arith, ints, order, low), high);
      order = order;
      values = all;
      first = omega (arith, ints, last_is, many);
      last = (omega (arith, ints, last_is, many), omega (arith, ints, last_is, few));
      numbers = λ r less. (let count = many_rows (length cells / arity) arity cells in omega (arith, ints, last_is, less, count, is));
    }

-- a set that may have both ends may have all between them
pub covered_between : (s : Values) (lo hi a : ℤ) → IsCovered s lo → IsCovered s hi → IsBetween lo hi a → IsCovered s a
covered_between s lo hi a low high at =
    let from : s.low ≤ℤ a = (let first = low.low in let more = at.0 in omega (arith, ints, first, more)) in
    let here = plus-int_gap s.low a from in
    let there = plus-int_gap s.low hi high.low in
    let few = high.high in
    let le = at.1 in
    record { low = from; high = omega (arith, ints, here, there, few, le) }

pub values_covered : (s : Values) (lo hi : ℤ) (cells : List ℤ) → IsCovered s lo → IsCovered s hi → AllByRecursion (IsBetween lo hi) cells → AllByRecursion (IsCovered s) cells
values_covered s lo hi [] low high all = tt
values_covered s lo hi (a ∷ cells) low high all = (covered_between s lo hi a low high all.0, values_covered s lo hi cells low high all.1)

-- What a set of values has in common with a row of bits.
use Rattle.std.specs.Prelude.{◌≡◌, ℕ, ◌+◌, ◌-◌, ◌^◌, ℤ, pos, ◌-ℤ◌, nat_le, Bool, not, ◌&&◌, ◌||◌, cond, List, filter, true, false, length, ◌*◌, ◌<◌, ◌≤◌, ◌≤ℤ◌, Option, Some, None, IsTrue}
use Rattle.mn_model.specs.Domain.{Has, stretch}
use Rattle.std.specs.Int.{int_gap}
use Rattle.mn_boxes.specs.Bits.{bit_of, count_from}
use Rattle.mn_boxes.specs.Values.{Values, members, place_of}
use Rattle.mn_domains.specs.Held.{is_bounded_shape, part_of, values_held}
use Rattle.mn_domains.specs.declared.rows.Row.{Row}
use Rattle.mn_domains.specs.declared.shape.Ends.{Ends}
use Rattle.mn_domains.specs.declared.shape.Shape.{Shape}
use Rattle.mn_domains.specs.declared.shape.Shape.TheVariants.{Stretch, Listed, Bits}

-- a is in the set where that is wanted, and else it isn't
abbrev pub passes : Values → Bool → ℤ → Bool
passes s wanted a = cond wanted (members s a) (not (members s a))

-- the value with this place
abbrev pub value_placed : ℕ → ℤ
value_placed place = pos place -ℤ pos (2 ^ 61)

-- bit i counts as set
abbrev pub is_in : List ℕ → Row → ℕ → Bool
is_in bits row i = row.full || bit_of bits i

-- bit i is one of the row's, counts as set, and its value passes
abbrev pub is_hit : List ℕ → Row → Values → Bool → ℕ → Bool
is_hit bits row s wanted i = (is_in bits row i && (nat_le row.from i && nat_le i row.to)) && passes s wanted (value_placed (i + row.raise))

-- the bit of a value counts as set
abbrev pub row_has : List ℕ → Row → ℤ → Bool
row_has bits row a = is_in bits row (place_of a - row.raise)

-- the values of the row whose bits count as set and that pass
abbrev pub hits : List ℕ → Row → Values → Bool → List ℤ
hits bits row s wanted = filter (λ a. row_has bits row a && passes s wanted a) (stretch (value_placed (row.from + row.raise)) (value_placed (row.to + row.raise)))

-- the row's values are those from low to high
pub record Spans (row : Row) (low high : ℤ) : Type 0 where
  pub from : row.from + row.raise ≡ place_of low
  pub to : row.to + row.raise ≡ place_of high

-- the row is that of the values xs from `from` to the last one, which is hi
pub record Reads (bits : List ℕ) (xs : List ℤ) (from hi : ℤ) (row : Row) : Type 0 where
  pub first : value_placed (row.from + row.raise) ≡ from
  pub last : value_placed (row.to + row.raise) ≡ hi
  pub order : row.from ≤ row.to
  pub room : row.full ≡ false → row.to < 64 * length bits
  pub small : row.to + row.raise < 2 ^ 62
  pub holds : (a : ℤ) → from ≤ℤ a → a ≤ℤ hi → row_has bits row a ≡ true → Has xs a
  pub has : (a : ℤ) → Has xs a → from ≤ℤ a → (a ≤ℤ hi) × (row_has bits row a ≡ true)

-- all but listed sets have such a row
abbrev pub TellsRow : List ℤ → List ℕ → Shape → Ends → ℤ → Option Row → Type 0
TellsRow listed bits shape e from (Some row) = Reads bits (values_held listed bits shape e) from e.hi row
TellsRow listed bits shape e from None = (values_held listed bits shape e ≡ part_of listed e) × (e.place + e.size ≤ length listed)

-- the row has the bits of a marked set's values, and they are as many as its size says
pub record AreMarks (bits : List ℕ) (lo : ℤ) (at : ℕ) (e : Ends) (row : Row) : Type 0 where
  pub from : row.from ≡ at + int_gap lo e.lo
  pub to : row.to ≡ at + int_gap lo e.hi
  pub raise : at + row.raise ≡ place_of lo
  pub plain : row.full ≡ false
  pub order : row.from ≤ row.to
  pub room : row.to < 64 * length bits
  pub short : row.to < 2 ^ 60
  pub small : row.to + row.raise < 2 ^ 62
  pub counted : e.size ≡ count_from (bit_of bits) row.from (row.to + 1 - row.from)

abbrev pub AreMarksOf : List ℕ → Shape → Ends → Row → Type 0
AreMarksOf bits (Stretch lo hi) e row = ⊥
AreMarksOf bits (Listed from to) e row = ⊥
AreMarksOf bits (Bits lo hi at) e row = AreMarks bits lo at e row

-- marked sets alone have such a row
abbrev pub TellsMarks : List ℕ → Shape → Ends → Option Row → Type 0
TellsMarks bits shape e (Some row) = AreMarksOf bits shape e row
TellsMarks bits shape e None = IsTrue (is_bounded_shape shape)

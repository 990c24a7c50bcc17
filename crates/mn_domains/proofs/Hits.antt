-- The values of a row that pass.
use Rattle.std.proofs.Common.{◌≡◌, ℕ, ◌+◌, ◌-◌, ◌*◌, ◌^◌, ◌<◌, ◌≤◌, nat_le, ℤ, pos, neg_ℤ, ◌≤ℤ◌, ◌⊎◌, inl, inr, int_le, Bool, true, false, true≢false, ◌&&◌, ◌||◌, List, length, filter, Some, None, refl, sym, ap, ◌∙◌, arith}
use Rattle.std.proofs.lemmas.Bool.{cases_lt}
use Rattle.std.proofs.lemmas.Bool.Decides.{nat_tests}
use Rattle.std.proofs.lemmas.Int.{ints}
use Rattle.std.specs.Int.{int_gap}
use Rattle.mn_model.specs.Domain.{Ascends, Has, IsValue, stretch}
use Rattle.mn_model.proofs.Filtered.{filter_ascends, filter_has, has_filter}
use Rattle.mn_model.proofs.Ordered.{le_so, le_true}
use Rattle.mn_model.proofs.Stretches.{Ascends-stretch, Has-stretch, plus-int_gap}
use Rattle.mn_boxes.specs.Bits.{bit_of, count_from}
use Rattle.mn_boxes.specs.Sets.{greatest, least}
use Rattle.mn_boxes.specs.Values.{Values, place_of}
use Rattle.mn_domains.specs.Held.{AreEndsOf, IsRow, has_bit, marked}
use Rattle.mn_domains.specs.Rows.{AreMarks, Reads, Spans, hits, is_hit, is_in, passes, row_has, value_placed}
use Rattle.mn_domains.specs.declared.rows.Row.{Row}
use Rattle.mn_domains.specs.declared.shape.Ends.{Ends}
use Rattle.mn_domains.proofs.Cuts.{bits_between, length_marked}
use Rattle.mn_domains.proofs.Filtered.{is_filter}
use Rattle.mn_domains.proofs.Firsts.{both_true, greatest_is, greatest_none, least_is, least_none, left_true, right_true}
use Rattle.mn_domains.proofs.Marks.{is_marked, marked_has}
use Rattle.mn_domains.proofs.Sieve.{place_of-placed}

le_test : (a b : ℕ) → a ≤ b → nat_le a b ≡ true
le_test a b le = grind (arith, nat_tests)

le_so_nat : (a b : ℕ) → nat_le a b ≡ true → a ≤ b
le_so_nat a b t = grind (arith, nat_tests)

and_true : (b : Bool) → (b && true) ≡ b
and_true true = refl
and_true false = refl

-- a value of the row and its bit
pub record IsAt (row : Row) (b : ℤ) (i : ℕ) : Type 0 where
  pub value : value_placed (i + row.raise) ≡ b
  pub from : row.from ≤ i
  pub to : i ≤ row.to

pub is_at : (row : Row) (b : ℤ) → value_placed (row.from + row.raise) ≤ℤ b → b ≤ℤ value_placed (row.to + row.raise) → IsAt row b (place_of b - row.raise)
is_at row b low high =
    let g = plus-int_gap (neg_ℤ (pos (2 ^ 61))) b (omega (arith, ints, low)) in
    record { value = omega (arith, ints, g, low); from = omega (arith, ints, g, low); to = omega (arith, ints, g, high) }

pub hit_value : (bits : List ℕ) (row : Row) (s : Values) (wanted : Bool) (b : ℤ) → IsAt row b (place_of b - row.raise) → is_hit bits row s wanted (place_of b - row.raise) ≡ (row_has bits row b && passes s wanted b)
hit_value bits row s wanted b at =
    let i = place_of b - row.raise in
    ap (λ t. (is_in bits row i && (t && nat_le i row.to)) && passes s wanted (value_placed (i + row.raise))) (le_test row.from i at.from)
    ∙ (ap (λ t. (is_in bits row i && t) && passes s wanted (value_placed (i + row.raise))) (le_test i row.to at.to)
    ∙ (ap (λ t. t && passes s wanted (value_placed (i + row.raise))) (and_true (is_in bits row i))
    ∙ ap (λ z. is_in bits row i && passes s wanted z) at.value))

-- what is hit is a value of the row
pub record IsHit (bits : List ℕ) (row : Row) (s : Values) (wanted : Bool) (i : ℕ) : Type 0 where
  pub from : row.from ≤ i
  pub to : i ≤ row.to
  pub has : Has (stretch (value_placed (row.from + row.raise)) (value_placed (row.to + row.raise))) (value_placed (i + row.raise))
  pub passes : (row_has bits row (value_placed (i + row.raise)) && passes s wanted (value_placed (i + row.raise))) ≡ true

pub is_hit_at : (bits : List ℕ) (row : Row) (s : Values) (wanted : Bool) (i : ℕ) → is_hit bits row s wanted i ≡ true → IsHit bits row s wanted i
is_hit_at bits row s wanted i hit =
    let a = value_placed (i + row.raise) in
    let inside = right_true (is_in bits row i) (nat_le row.from i && nat_le i row.to) (left_true (is_in bits row i && (nat_le row.from i && nat_le i row.to)) (passes s wanted a) hit) in
    let from = le_so_nat row.from i (left_true (nat_le row.from i) (nat_le i row.to) inside) in
    let to = le_so_nat i row.to (right_true (nat_le row.from i) (nat_le i row.to) inside) in
    let low : value_placed (row.from + row.raise) ≤ℤ a = omega (arith, ints, from) in
    let high : a ≤ℤ value_placed (row.to + row.raise) = omega (arith, ints, to) in
    let here : place_of a - row.raise ≡ i = omega (arith, place_of-placed (i + row.raise)) in
    record {
      from = from;
      to = to;
      has = (Has-stretch (value_placed (row.from + row.raise)) (value_placed (row.to + row.raise)) a (omega (arith, ints, low, high))).1 (low, high);
      passes = sym (hit_value bits row s wanted a (is_at row a low high)) ∙ (ap (is_hit bits row s wanted) here ∙ hit);
    }

-- a value that passes has a bit that is hit
passing_at : (bits : List ℕ) (row : Row) (s : Values) (wanted : Bool) (b : ℤ) → row.from ≤ row.to → Has (stretch (value_placed (row.from + row.raise)) (value_placed (row.to + row.raise))) b → IsAt row b (place_of b - row.raise)
passing_at bits row s wanted b order has = let t = (Has-stretch (value_placed (row.from + row.raise)) (value_placed (row.to + row.raise)) b (omega (arith, ints, order))).0 has in is_at row b t.0 t.1

pub first_found : (bits : List ℕ) (row : Row) (s : Values) (wanted : Bool) (i : ℕ) → row.from ≤ row.to → is_hit bits row s wanted i ≡ true → ((j : ℕ) → j < i → is_hit bits row s wanted j ≡ false) → least (hits bits row s wanted) ≡ Some (value_placed (i + row.raise))
first_found bits row s wanted i order hit none =
    let h = is_hit_at bits row s wanted i hit in
    least_is (λ a. row_has bits row a && passes s wanted a) (stretch (value_placed (row.from + row.raise)) (value_placed (row.to + row.raise))) (value_placed (i + row.raise)) (Ascends-stretch _ _) h.has h.passes others
  where
    others : (b : ℤ) → Has (stretch (value_placed (row.from + row.raise)) (value_placed (row.to + row.raise))) b → (row_has bits row b && passes s wanted b) ≡ true → value_placed (i + row.raise) ≤ℤ b
    others b has pass = let at = passing_at bits row s wanted b order has in by at (cases_lt (place_of b - row.raise) i)
      where
        by : IsAt row b (place_of b - row.raise) → (place_of b - row.raise < i) ⊎ (i ≤ place_of b - row.raise) → value_placed (i + row.raise) ≤ℤ b
        by at (inl less) = absurd (true≢false (sym pass ∙ (sym (hit_value bits row s wanted b at) ∙ none (place_of b - row.raise) less)))
        by at (inr le) = let v = at.value in omega (arith, ints, v, le)

pub last_found : (bits : List ℕ) (row : Row) (s : Values) (wanted : Bool) (i : ℕ) → row.from ≤ row.to → is_hit bits row s wanted i ≡ true → ((j : ℕ) → i < j → is_hit bits row s wanted j ≡ false) → greatest (hits bits row s wanted) ≡ Some (value_placed (i + row.raise))
last_found bits row s wanted i order hit none =
    let h = is_hit_at bits row s wanted i hit in
    greatest_is (λ a. row_has bits row a && passes s wanted a) (stretch (value_placed (row.from + row.raise)) (value_placed (row.to + row.raise))) (value_placed (i + row.raise)) (Ascends-stretch _ _) h.has h.passes others
  where
    others : (b : ℤ) → Has (stretch (value_placed (row.from + row.raise)) (value_placed (row.to + row.raise))) b → (row_has bits row b && passes s wanted b) ≡ true → b ≤ℤ value_placed (i + row.raise)
    others b has pass = let at = passing_at bits row s wanted b order has in by at (cases_lt i (place_of b - row.raise))
      where
        by : IsAt row b (place_of b - row.raise) → (i < place_of b - row.raise) ⊎ (place_of b - row.raise ≤ i) → b ≤ℤ value_placed (i + row.raise)
        by at (inl more) = absurd (true≢false (sym pass ∙ (sym (hit_value bits row s wanted b at) ∙ none (place_of b - row.raise) more)))
        by at (inr le) = let v = at.value in omega (arith, ints, v, le)

none_pass : (bits : List ℕ) (row : Row) (s : Values) (wanted : Bool) → row.from ≤ row.to → ((j : ℕ) → is_hit bits row s wanted j ≡ false) → (b : ℤ) → Has (stretch (value_placed (row.from + row.raise)) (value_placed (row.to + row.raise))) b → (row_has bits row b && passes s wanted b) ≡ false
none_pass bits row s wanted order none b has = sym (hit_value bits row s wanted b (passing_at bits row s wanted b order has)) ∙ none (place_of b - row.raise)

pub no_first : (bits : List ℕ) (row : Row) (s : Values) (wanted : Bool) → row.from ≤ row.to → ((j : ℕ) → is_hit bits row s wanted j ≡ false) → least (hits bits row s wanted) ≡ None
no_first bits row s wanted order none = least_none (λ a. row_has bits row a && passes s wanted a) (stretch (value_placed (row.from + row.raise)) (value_placed (row.to + row.raise))) (none_pass bits row s wanted order none)

pub no_last : (bits : List ℕ) (row : Row) (s : Values) (wanted : Bool) → row.from ≤ row.to → ((j : ℕ) → is_hit bits row s wanted j ≡ false) → greatest (hits bits row s wanted) ≡ None
no_last bits row s wanted order none = greatest_none (λ a. row_has bits row a && passes s wanted a) (stretch (value_placed (row.from + row.raise)) (value_placed (row.to + row.raise))) (none_pass bits row s wanted order none)

-- ---- a row that is read as values

pub hits_are : (bits : List ℕ) (row : Row) (s : Values) (wanted : Bool) (xs : List ℤ) (from hi : ℤ) → Ascends xs → from ≤ℤ hi → Reads bits xs from hi row → hits bits row s wanted ≡ filter (λ x. int_le from x && passes s wanted x) xs
hits_are bits row s wanted xs from hi up order reads =
    ap (λ z. filter (λ a. row_has bits row a && passes s wanted a) (stretch z (value_placed (row.to + row.raise)))) reads.first
    ∙ (ap (λ z. filter (λ a. row_has bits row a && passes s wanted a) (stretch from z)) reads.last
    ∙ is_filter (λ x. int_le from x && passes s wanted x) xs (filter (λ a. row_has bits row a && passes s wanted a) (stretch from hi)) up (filter_ascends (λ a. row_has bits row a && passes s wanted a) (stretch from hi) (Ascends-stretch from hi))
    (λ b has. (let p = has_filter (λ a. row_has bits row a && passes s wanted a) (stretch from hi) b has in
    let t = (Has-stretch from hi b order).0 p.has in
    record { has = reads.holds b t.0 t.1 (left_true (row_has bits row b) (passes s wanted b) p.passes); passes = both_true (int_le from b) (passes s wanted b) (le_true from b t.0) (right_true (row_has bits row b) (passes s wanted b) p.passes) }))
    (λ b has pass. (let low = le_so from b (left_true (int_le from b) (passes s wanted b) pass) in
    let t = reads.has b has low in
    filter_has (λ a. row_has bits row a && passes s wanted a) (stretch from hi) b ((Has-stretch from hi b order).1 (low, t.0)) (both_true (row_has bits row b) (passes s wanted b) t.1 (right_true (int_le from b) (passes s wanted b) pass)))))

placed : (a : ℤ) (n : ℕ) → IsValue a → n ≡ place_of a → value_placed n ≡ a
placed a n value is = omega (arith, ints, plus-int_gap (neg_ℤ (pos (2 ^ 61))) a (omega (arith, ints, value.0)), is)

-- the places of values
record Placed (from hi : ℤ) : Type 0 where
  order : place_of from ≤ place_of hi
  small : place_of hi < 2 ^ 62

placed_order : (from hi : ℤ) → IsValue from → IsValue hi → from ≤ℤ hi → Placed from hi
placed_order from hi low high order =
    let g = plus-int_gap (neg_ℤ (pos (2 ^ 61))) from (omega (arith, ints, low.0)) in
    let h = plus-int_gap (neg_ℤ (pos (2 ^ 61))) hi (omega (arith, ints, high.0)) in
    record { order = omega (arith, ints, g, h, order); small = omega (arith, ints, h, high.1) }

pub stretch_reads : (bits : List ℕ) (e : Ends) (from : ℤ) (row : Row) → IsValue from → IsValue e.hi → e.lo ≤ℤ from → from ≤ℤ e.hi → Spans row from e.hi → row.full ≡ true → Reads bits (stretch e.lo e.hi) from e.hi row
stretch_reads bits e from row v_from v_hi low order spans full =
    let p = placed_order from e.hi v_from v_hi order in
    let f = spans.from in let t = spans.to in let po = p.order in let ps = p.small in
    record {
      first = placed from (row.from + row.raise) v_from f;
      last = placed e.hi (row.to + row.raise) v_hi t;
      order = omega (arith, f, t, po);
      room = λ plain. absurd (true≢false (sym full ∙ plain));
      small = omega (arith, t, ps);
      holds = λ a above below has. (Has-stretch e.lo e.hi a (omega (arith, ints, low, order))).1 (omega (arith, ints, low, above), below);
      has = λ a has above. (((Has-stretch e.lo e.hi a (omega (arith, ints, low, order))).0 has).1, ap (λ b. b || bit_of bits (place_of a - row.raise)) full);
    }

pub bits_reads : (bits : List ℕ) (lo : ℤ) (at : ℕ) (e : Ends) (from : ℤ) (row : Row) → IsValue lo → IsValue from → IsValue e.hi → lo ≤ℤ e.lo → e.lo ≤ℤ from → from ≤ℤ e.hi → Spans row from e.hi → at + row.raise ≡ place_of lo → row.full ≡ false → row.to < 64 * length bits → Reads bits (marked bits lo at e) from e.hi row
bits_reads bits lo at e from row v_lo v_from v_hi base low order spans raise plain room =
    let p = placed_order from e.hi v_from v_hi order in
    let f = spans.from in let t = spans.to in let po = p.order in let ps = p.small in
    record {
      first = placed from (row.from + row.raise) v_from f;
      last = placed e.hi (row.to + row.raise) v_hi t;
      order = omega (arith, f, t, po);
      room = λ is. room;
      small = omega (arith, t, ps);
      holds = λ a above below has. marked_has bits lo at e a (omega (arith, ints, low, order)) (record { low = omega (arith, ints, low, above); high = below; mark = sym (same a (omega (arith, ints, base, low, above))) ∙ has });
      has = λ a has above. ((is_marked bits lo at e a (omega (arith, ints, low, order)) has).high, same a (omega (arith, ints, base, low, above)) ∙ (is_marked bits lo at e a (omega (arith, ints, low, order)) has).mark);
    }
  where
    same : (a : ℤ) → lo ≤ℤ a → row_has bits row a ≡ has_bit bits lo at a
    same a from_lo =
        let g = plus-int_gap (neg_ℤ (pos (2 ^ 61))) lo (omega (arith, ints, v_lo.0)) in
        let h = plus-int_gap (neg_ℤ (pos (2 ^ 61))) a (omega (arith, ints, v_lo.0, from_lo)) in
        let k = plus-int_gap lo a from_lo in
        ap (λ b. b || bit_of bits (place_of a - row.raise)) plain ∙ ap (bit_of bits) (omega (arith, ints, g, h, k, raise))

-- ---- the bits of a marked set

pub marks : (bits : List ℕ) (lo : ℤ) (at : ℕ) (e : Ends) (row : Row) → IsValue lo → IsRow bits lo at e → AreEndsOf (marked bits lo at e) e → Spans row e.lo e.hi → at + row.raise ≡ place_of lo → row.full ≡ false → row.from ≡ at + int_gap lo e.lo → row.to ≡ at + int_gap lo e.hi → AreMarks bits lo at e row
marks bits lo at e row v_lo is ends spans raise plain from to =
    let b = bits_between lo at e e.hi is.low ends.ordered (omega (arith, ints)) in
    let low = b.low in
    let t = spans.to in
    let room = is.room.within in
    let short = is.room.small in
    let p = placed_order lo e.hi v_lo is.span.high is.span.ordered in
    let ps = p.small in
    let counted : e.size ≡ count_from (bit_of bits) (at + int_gap lo e.lo) ((at + int_gap lo e.hi + 1) - (at + int_gap lo e.lo)) = ends.size ∙ length_marked bits lo at e is.low ends.ordered in
    record {
      from = from;
      to = to;
      raise = raise;
      plain = plain;
      order = omega (arith, from, to, low);
      room = omega (arith, to, room);
      short = omega (arith, to, short);
      small = omega (arith, t, ps);
      counted = counted ∙ (ap (λ n. count_from (bit_of bits) n ((at + int_gap lo e.hi + 1) - n)) (sym from) ∙ ap (λ n. count_from (bit_of bits) row.from (n + 1 - row.from)) (sym to));
    }

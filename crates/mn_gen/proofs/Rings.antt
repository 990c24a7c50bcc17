-- Rings: what is added to them keeps the limits of an instance, and what is there afterwards.
use Rattle.std.proofs.Common.{◌≡◌, ℕ, zero, suc, ◌+◌, ◌*◌, ◌/◌, ◌%◌, ◌^◌, ◌<◌, ◌≤◌, inl, inr, ℤ, pos, Bool, true, false, ◌&&◌, List, [], ◌∷◌, ◌++◌, length, map, codes, slice_get, Some, refl, sym, ap, subst, ◌∙◌, arith, length-append}
use Rattle.std.specs.List.{AllByRecursion, list_all, range_with_len}
use Rattle.std.specs.Option.{option_map}
use Rattle.std.proofs.lemmas.Bool.{cases_lt}
use Rattle.std.proofs.lemmas.Bool.Decides.{nat_tests}
use Rattle.std.proofs.lemmas.Int.{ints}
use Rattle.std.proofs.lemmas.List.FromFn.{get_or-map-range_with_len, length-map-range_with_len, map-range_with_len_more}
use Rattle.std.proofs.lemmas.Option.{slice_get-get_or}
use Rattle.mn_model.proofs.Lists.{all_append}
use Rattle.mn_model.proofs.Variables.{length-domains_of, variable_count-cons}
use Rattle.mn_model.specs.Domain.{IsValue}
use Rattle.mn_model.specs.Lawful.{IsKnown, IsLawfulCon, IsLawfulTuples}
use Rattle.mn_model.specs.Name.{IsName, continues_name, is_name}
use Rattle.mn_model.specs.Parts.{cell_count}
use Rattle.mn_model.specs.Problem.{Problem, cells_of, domains_of, total}
use Rattle.mn_model.specs.Variable.{variable}
use Rattle.mn_model.specs.declared.constraint.Con.{Con}
use Rattle.mn_model.specs.declared.declaration.Tuples.{Tuples}
use Rattle.mn_model.specs.declared.limits.TheConstants.{CELLS, CONSTRAINTS}
use Rattle.mn_gen.specs.Generated.{cells_of_list, draw, list_name, posing, state_after, table_of_list, tables, three_from, tuple_list, variables_named}
use Rattle.mn_gen.specs.Rings.{ring}
use Rattle.mn_gen.proofs.Numerals.{one_digit, two_digits}

-- ---- the name of a list is a name

both : (a b : Bool) → a ≡ true → b ≡ true → (a && b) ≡ true
both true b first second = second
both false b first second = first

digit_continues : (d : ℕ) → d < 10 → continues_name (48 + d) ≡ true
digit_continues d few = grind (arith, nat_tests)

digits_named : (d : ℕ) (ds : List ℕ) → list_all continues_name (d ∷ ds) ≡ true → is_name (116 ∷ d ∷ ds) ≡ true
digits_named d ds all = all

is_list_name : (k : ℕ) → k < 64 → IsName (list_name k)
is_list_name k few =
    elim (cases_lt k 10) [
      | inl one ↦ subst (λ ds. is_name (116 ∷ ds) ≡ true) (one_digit k one)
          (digits_named (48 + k % 10) [] (both (continues_name (48 + k % 10)) true (digit_continues (k % 10) (omega arith)) refl))
      | inr two ↦ subst (λ ds. is_name (116 ∷ ds) ≡ true) (two_digits k two few)
          (digits_named (48 + k / 10) ((48 + k % 10) ∷ [])
          (both (continues_name (48 + k / 10)) (list_all continues_name ((48 + k % 10) ∷ [])) (digit_continues (k / 10) (omega arith))
          (both (continues_name (48 + k % 10)) true (digit_continues (k % 10) (omega arith)) refl)))
    ]

-- ---- the cells of a list are values

rest_is_value : (m : ℕ) → IsValue (pos (m % 4))
rest_is_value m = let few : m % 4 < 4 = omega arith in (omega (arith, ints), omega (arith, ints))

draw_is_value : (seed k : ℕ) → IsValue (draw seed k)
unfolding draw
draw_is_value seed k = rest_is_value (state_after seed (suc k) / 2 ^ 33)

draws_are_values : (seed : ℕ) (ks : List ℕ) → AllByRecursion IsValue (map (draw seed) ks)
draws_are_values seed [] = tt
draws_are_values seed (k ∷ ks) = (draw_is_value seed k, draws_are_values seed ks)

cells_are_values : (seed n k : ℕ) → AllByRecursion IsValue (cells_of_list seed n k)
unfolding cells_of_list
cells_are_values seed n k =
    all_append IsValue (map (draw seed) (three_from n k)) (map (draw seed) (range_with_len (n + 69 * k) 69))
    (draws_are_values seed (three_from n k)) (draws_are_values seed (range_with_len (n + 69 * k) 69))

length_of_cells : (seed n k : ℕ) → length (cells_of_list seed n k) ≡ 72
unfolding cells_of_list
length_of_cells seed n k =
    length-append (map (draw seed) (three_from n k)) (map (draw seed) (range_with_len (n + 69 * k) 69))
    ∙ ap (λ m. 3 + m) (length-map-range_with_len (draw seed) (n + 69 * k) 69)

pub lawful_list : (seed n k : ℕ) (name : List ℕ) (cells : List ℤ) → name ≡ list_name k → cells ≡ cells_of_list seed n k → k < 64 → IsLawfulTuples (record { name = name; arity = 3; cells = cells })
lawful_list seed n k name cells named filled few = record {
  named = subst IsName (sym named) (is_list_name k few);
  least = omega arith;
  most = omega (arith, ints);
  whole = (24, ap length filled ∙ length_of_cells seed n k);
  valued = subst (AllByRecursion IsValue) (sym filled) (cells_are_values seed n k);
}

-- ---- a table is lawful beside the variables and lists of its ring

variables_there : (n : ℕ) → length (domains_of (variables_named (codes "v") n 3 ∷ [])) ≡ n
variables_there n = length-domains_of (variables_named (codes "v") n 3 ∷ []) ∙ variable_count-cons (variables_named (codes "v") n 3) [] ∙ omega arith

known : (n v : ℕ) → v < n → IsKnown (domains_of (variables_named (codes "v") n 3 ∷ [])) (variable v)
known n v within = omega (arith, variables_there n)

list_there : (seed n k : ℕ) → k < n → slice_get (map (tuple_list seed n) (range_with_len 0 n)) k ≡ Some (tuple_list seed n k)
list_there seed n k within =
    slice_get-get_or (map (tuple_list seed n) (range_with_len 0 n)) k (tuple_list seed n k) (omega (arith, length-map-range_with_len (tuple_list seed n) 0 n))
    ∙ ap Some (get_or-map-range_with_len (tuple_list seed n) 0 n k k (tuple_list seed n k) within (omega arith))

table_is_lawful : (seed n k : ℕ) → k < n → IsLawfulCon (domains_of (variables_named (codes "v") n 3 ∷ [])) (map (tuple_list seed n) (range_with_len 0 n)) (table_of_list n k)
table_is_lawful seed n k within =
    let second : (k + 1) % n < n = omega arith in
    let third : (k + 2) % n < n = omega arith in
    record {
      named = (known n k within, (known n ((k + 1) % n) second, (known n ((k + 2) % n) third, tt)));
      bits = tt;
      constants = tt;
      short = (omega arith, tt);
      tables = (ap (option_map (λ (t : Tuples). t.arity)) (list_there seed n k within), tt);
      shaped = λ e. cc;
      nested = omega arith;
      written = tt;
    }

-- ---- how many cells there are

cells_of_lists : (seed n from m : ℕ) → total (λ (t : Tuples). length t.cells) (map (tuple_list seed n) (range_with_len from m)) ≡ 72 * m
cells_of_lists seed n from zero = refl
cells_of_lists seed n from (suc m) = omega (arith, length_of_cells seed n from, cells_of_lists seed n (from + 1) m)

cells_of_tables : (n from m : ℕ) → total cell_count (map (table_of_list n) (range_with_len from m)) ≡ 0
cells_of_tables n from zero = refl
cells_of_tables n from (suc m) = omega (arith, cells_of_tables n (from + 1) m)

cells_there : (seed n lists cons : ℕ) → cells_of (ring seed n lists cons) ≡ 72 * lists
unfolding ring
cells_there seed n lists cons = omega (arith, cells_of_lists seed n 0 lists, cells_of_tables n 0 cons)

-- ---- a ring as it grows

-- at first there are variables alone
pub ring_begun : (seed n : ℕ) (p : Problem) → p ≡ posing (variables_named (118 ∷ []) n 3) [] [] → p ≡ ring seed n 0 0
unfolding ring
ring_begun seed n p is = is

-- at last it is the instance
pub ring_done : (seed n : ℕ) (p : Problem) → p ≡ ring seed n n n → p ≡ tables seed n
unfolding ring
ring_done seed n p is = is

module _ (seed n k : ℕ) (p : Problem) (is : p ≡ ring seed n k 0) (name : List ℕ) (named : name ≡ list_name k) (cells : List ℤ) (filled : cells ≡ cells_of_list seed n k) where
  -- there is room for the next list
  pub room_for_list : k < 64 → cells_of p + length cells ≤ CELLS
  room_for_list few = omega (arith, ap cells_of is, cells_there seed n k 0, ap length filled, length_of_cells seed n k)

  -- and with it the ring has one more
  pub one_list_more : (q : Problem) → q ≡ record p { tuples = p.tuples ++ record { name = name; arity = 3; cells = cells } ∷ [] } → q ≡ ring seed n (k + 1) 0
  unfolding ring
  one_list_more q new =
      new
      ∙ (λ i. record (is i) { tuples = (is i).tuples ++ record { name = named i; arity = 3; cells = filled i } ∷ [] })
      ∙ ap (λ lists. posing (variables_named (codes "v") n 3) lists []) (sym (map-range_with_len_more (tuple_list seed n) 0 k k (omega arith)))

module _ (seed n k : ℕ) (p : Problem) (is : p ≡ ring seed n n k) (con : Con) (made : con ≡ table_of_list n k) where
  -- the next table is lawful, and there is room for it
  pub lawful_table : k < n → IsLawfulCon (domains_of p.decls) p.tuples con
  unfolding ring
  lawful_table within = subst (λ (q : Problem). IsLawfulCon (domains_of q.decls) q.tuples con) (sym is) (subst (λ c. IsLawfulCon (domains_of (variables_named (codes "v") n 3 ∷ [])) (map (tuple_list seed n) (range_with_len 0 n)) c) (sym made) (table_is_lawful seed n k within))

  pub few_tables : k < 64 → length p.cons < CONSTRAINTS
  unfolding ring
  few_tables few = omega (arith, ap (λ (q : Problem). length q.cons) is, length-map-range_with_len (table_of_list n) 0 k)

  pub room_for_table : n ≤ 64 → cells_of p + cell_count con ≤ CELLS
  room_for_table few = omega (arith, ap cells_of is, cells_there seed n n k, ap cell_count made)

  -- and with it the ring has one more
  pub one_table_more : (q : Problem) → q ≡ record p { cons = p.cons ++ con ∷ [] } → q ≡ ring seed n n (k + 1)
  unfolding ring
  one_table_more q new =
      new
      ∙ (λ i. record (is i) { cons = (is i).cons ++ made i ∷ [] })
      ∙ ap (λ cons. posing (variables_named (codes "v") n 3) (map (tuple_list seed n) (range_with_len 0 n)) cons) (sym (map-range_with_len_more (table_of_list n) 0 k k (omega arith)))

-- Tables break nothing, and stand for themselves.
use Rattle.std.proofs.Common.{◌≡◌, ℕ, zero, suc, ◌+◌, ◌*◌, ◌-◌, ◌/◌, ◌≤◌, ◌==◌, ℤ, true, false, not, cond, List, [], ◌∷◌, ◌++◌, length, map, take, drop, slice_get, Option, Some, None, refl, sym, ap, ◌∙◌, subst, arith, append_assoc, length-append, take_all}
use Rattle.std.proofs.lemmas.Bool.Decides.{nat_tests}
use Rattle.std.proofs.lemmas.List.{length-take-le, length-drop, take-append-drop, nil_from_length}
use Rattle.std.proofs.Math.Nat.{mul-div_cancel}
use Rattle.std.specs.Option.{option_map}
use Rattle.std.specs.Str.{bytes_eq}
use Rattle.mn_model.specs.Lawful.{AreNewAfter, IsLawful, IsLawfulTuples, MakeTuples, SuitsTable}
use Rattle.mn_model.specs.Parts.{cells_here}
use Rattle.mn_model.specs.Problem.{Problem, listed_as}
use Rattle.mn_model.specs.declared.constraint.Tab.{Tab}
use Rattle.mn_model.specs.declared.constraint.Tab.TheVariants.{Named, Here}
use Rattle.mn_model.specs.declared.declaration.Tuples.{Tuples}
use Rattle.mn_model.specs.declared.limits.TheConstants.{CELLS}
use Rattle.mn_model.proofs.Lists.{all_at}
use Rattle.mn_model.proofs.Named.{later_new, not_last, same_bytes}
use Rattle.mn_grammar.specs.Places.{on, behind}
use Rattle.mn_grammar.specs.Lists.{breaks_items, value_items}
use Rattle.mn_grammar.specs.declared.Kind.TheVariants.{Shape, Limit}
use Rattle.mn_grammar.specs.declared.Limit.TheVariants.{Cells}
use Rattle.mn_language.specs.Arguments.{exactly, number_judge, spell_tuple, at_tuple, value_tuple, tuple_judge, with_tuple, at_list, list_place, Table, named, here, breaks_table, value_table}
use Rattle.mn_sections.specs.Constraining.{tuple_of, list_name, table_of}
use Rattle.mn_sections.specs.Matrices.{rows_of, tuple_count}
use Rattle.mn_sections.specs.Trees.{items_from, maybe_items, name_from}
use Rattle.mn_sections.proofs.Numbers.{tuple_breaks, tuple_value}
use Rattle.mn_sections.proofs.Names.{name_of_model}
use Rattle.mn_sections.proofs.References.{called_by_its_name}
use Rattle.mn_sections.proofs.Kept.{part_nothing, token_nothing, when_not, ltb_not}

-- 1. Tuples that are written in the constraint
one_tuple : (n : ℕ) (t : List ℤ) → 1 ≤ n → length t ≡ n → breaks_items (number_judge (exactly n)) (tuple_of t) [] ≡ []
one_tuple n [] least size = absurd (omega (arith, least, size))
one_tuple n (z ∷ zs) least size = tuple_breaks n z zs size

one_value : (n : ℕ) (t : List ℤ) → 1 ≤ n → length t ≡ n → value_tuple n (tuple_of t) ≡ t
one_value n [] least size = absurd (omega (arith, least, size))
one_value n (z ∷ zs) least size = tuple_value n z zs

-- the limit of cells leaves the tuple
cells_left : (used n : ℕ) (cells : List ℤ) → used + length cells + n ≤ CELLS → at_tuple used n cells ≡ None
cells_left used n cells room = when_not _ (Limit Cells) (ltb_not CELLS (used + length cells + n) room)

-- the tuple at the front of k more
record IsFront (used n k : ℕ) (before xs : List ℤ) : Type 0 where
  here : length (take n xs) ≡ n
  others : length (drop n xs) ≡ k * n
  fits : used + length before + n ≤ CELLS
  later : used + length (before ++ take n xs) + length (drop n xs) ≤ CELLS
  joined : (before ++ take n xs) ++ drop n xs ≡ before ++ xs

suc_times : (k n : ℕ) → suc k * n ≡ n + k * n
suc_times k n = omega arith

front : (used n k : ℕ) (before xs : List ℤ) → length xs ≡ suc k * n → used + length before + length xs ≤ CELLS → IsFront used n k before xs
front used n k before xs size room =
    let parts : length xs ≡ n + k * n = size ∙ suc_times k n in
    let here : length (take n xs) ≡ n = length-take-le n xs (omega (arith, parts)) in
    let behind : length (drop n xs) ≡ length xs - n = length-drop n xs in
    let longer = length-append before (take n xs) in
    record {
      here = here;
      others = omega (arith, behind, parts);
      fits = omega (arith, parts, room);
      later = omega (arith, behind, parts, room, longer, here);
      joined = append_assoc before (take n xs) (drop n xs) ∙ ap (λ ys. before ++ ys) (take-append-drop n xs);
    }

module _ (used n : ℕ) (least : 1 ≤ n) where
  tuples_break : (k : ℕ) (before xs : List ℤ) → length xs ≡ suc k * n → used + length before + length xs ≤ CELLS → breaks_items (tuple_judge used n) (items_from (tuple_of (take n xs)) (map tuple_of (rows_of n k (drop n xs)))) before ≡ []
  tuples_break zero before xs size room =
      let is = front used n zero before xs size room in
      part_nothing (length (spell_tuple (tuple_of (take n xs)))) (on (at_tuple used n before) ++ behind 1 (breaks_items (number_judge (exactly n)) (tuple_of (take n xs)) [])) []
      (token_nothing (at_tuple used n before) 1 (breaks_items (number_judge (exactly n)) (tuple_of (take n xs)) []) (cells_left used n before is.fits) (one_tuple n (take n xs) least is.here))
      refl
  tuples_break (suc k) before xs size room =
      let is = front used n (suc k) before xs size room in
      let t : List ℤ = take n xs in
      let rest : List ℤ = drop n xs in
      part_nothing (length (spell_tuple (tuple_of t))) (on (at_tuple used n before) ++ behind 1 (breaks_items (number_judge (exactly n)) (tuple_of t) [])) (behind 1 (breaks_items (tuple_judge used n) (items_from (tuple_of (take n rest)) (map tuple_of (rows_of n k (drop n rest)))) (before ++ value_tuple n (tuple_of t))))
      (token_nothing (at_tuple used n before) 1 (breaks_items (number_judge (exactly n)) (tuple_of t) []) (cells_left used n before is.fits) (one_tuple n t least is.here))
      (ap (behind 1)
      (ap (λ (v : List ℤ). breaks_items (tuple_judge used n) (items_from (tuple_of (take n rest)) (map tuple_of (rows_of n k (drop n rest)))) (before ++ v)) (one_value n t least is.here)
      ∙ tuples_break k (before ++ t) rest is.others is.later))

  tuples_value : (k : ℕ) (before xs : List ℤ) → length xs ≡ suc k * n → used + length before + length xs ≤ CELLS → value_items (tuple_judge used n) with_tuple (items_from (tuple_of (take n xs)) (map tuple_of (rows_of n k (drop n xs)))) before ≡ before ++ xs
  tuples_value zero before xs size room =
      let is = front used n zero before xs size room in
      let short : length xs ≤ n = omega (arith, size, suc_times zero n) in
      ap (λ (v : List ℤ). before ++ v) (one_value n (take n xs) least is.here ∙ take_all n xs short)
  tuples_value (suc k) before xs size room =
      let is = front used n (suc k) before xs size room in
      let t : List ℤ = take n xs in
      let rest : List ℤ = drop n xs in
      ap (λ (v : List ℤ). value_items (tuple_judge used n) with_tuple (items_from (tuple_of (take n rest)) (map tuple_of (rows_of n k (drop n rest)))) (before ++ v)) (one_value n t least is.here)
      ∙ (tuples_value k (before ++ t) rest is.others is.later ∙ is.joined)

-- the table breaks nothing, and stands for this one
pub record IsTabled (q : Problem) (used n : ℕ) (t : Table) (tab : Tab) : Type 0 where
  pub kept : breaks_table q used n t ≡ []
  pub means : value_table q used n t ≡ tab

abbrev table_by : ℕ → ℕ → List ℤ → Table
table_by n count cells = here (maybe_items (map tuple_of (rows_of n count cells)))

counted_said : (q : Problem) (used n count : ℕ) (cells : List ℤ) → 1 ≤ n → length cells ≡ count * n → used + length cells ≤ CELLS → IsTabled q used n (table_by n count cells) (Here n cells)
counted_said q used n zero cells least size room =
    record { kept = refl; means = ap (λ (zs : List ℤ). Here n zs) (sym (nil_from_length cells (size ∙ none_times n))) }
  where
    none_times : (n : ℕ) → 0 * n ≡ 0
    none_times n = omega arith
counted_said q used n (suc k) cells least size room = record {
  kept = ap (behind 1) (tuples_break used n least k [] cells size (omega (arith, room)));
  means = ap (λ (zs : List ℤ). Here n zs) (tuples_value used n least k [] cells size (omega (arith, room)));
}

here_said : (p q : Problem) (used n : ℕ) (cells : List ℤ) → 1 ≤ n → MakeTuples n cells → used + length cells ≤ CELLS → IsTabled q used n (table_of p (Here n cells)) (Here n cells)
here_said p q used n cells least tuples room =
    let exact : tuple_count n cells ≡ tuples.0 = ap (λ m. m / n) tuples.1 ∙ mul-div_cancel tuples.0 least in
    subst (λ count. IsTabled q used n (table_by n count cells) (Here n cells)) (sym exact) (counted_said q used n tuples.0 cells least tuples.1 room)

-- 2. A table by the name of its tuple list
-- a tuple list is the first with its name, so its name leads back to its place
place_listed : (earlier ts : List Tuples) (n : ℕ) (t : Tuples) → AreNewAfter (λ t. t.name) earlier ts → slice_get ts n ≡ Some t → list_place ts t.name ≡ n
place_listed earlier [] n t new is = cc
place_listed earlier (u ∷ ts) zero t new is =
    let same : u ≡ t = cc in
    ap (λ b. cond b 0 (suc (list_place ts t.name))) (ap (λ (x : Tuples). bytes_eq t.name x.name) same ∙ same_bytes t.name)
place_listed earlier (u ∷ ts) (suc n) t new is =
    let other : bytes_eq t.name u.name ≡ false = not_last (λ (x : Tuples). x.name) earlier u t.name (later_new (λ (x : Tuples). x.name) (earlier ++ u ∷ []) ts n t new.1 is) in
    ap (λ b. cond b 0 (suc (list_place ts t.name))) other ∙ ap suc (place_listed (earlier ++ u ∷ []) ts n t new.1 is)

same_length : (m n : ℕ) → m ≡ n → (m == n) ≡ true
same_length m n e = grind (arith, nat_tests)

module _ (p q : Problem) (lawful : IsLawful p) (same : q.tuples ≡ p.tuples) (used n : ℕ) where
  named_said : (i : ℕ) (o : Option Tuples) → slice_get p.tuples i ≡ o → option_map (λ t. t.arity) o ≡ Some n → IsTabled q used n (named (list_name o)) (Named i)
  named_said i None is suits = cc
  named_said i (Some t) is suits =
      let spelled : (name_from t.name).bytes ≡ t.name = name_of_model t.name (all_at IsLawfulTuples p.tuples i t lawful.tuples is).named in
      let long : t.arity ≡ n = cc in
      record {
        kept =
            ap (λ (bytes : List ℕ). on (at_list n (listed_as q.tuples bytes))) spelled
            ∙ (ap (λ (ts : List Tuples). on (at_list n (listed_as ts t.name))) same
            ∙ (ap (λ (o : Option Tuples). on (at_list n o)) (called_by_its_name (λ (x : Tuples). x.name) p.tuples i t lawful.new_tuples is)
            ∙ ap on (when_not (not (t.arity == n)) Shape (ap not (same_length t.arity n long)))));
        means =
            ap (λ (bytes : List ℕ). Named (list_place q.tuples bytes)) spelled
            ∙ (ap (λ (ts : List Tuples). Named (list_place ts t.name)) same
            ∙ ap (λ k. Named k) (place_listed [] p.tuples i t lawful.new_tuples is));
      }

  -- 3. Each lawful table
  pub table_said : (tab : Tab) → 1 ≤ n → SuitsTable p.tuples (n, tab) → used + length (cells_here tab) ≤ CELLS → IsTabled q used n (table_of p tab) tab
  table_said (Named i) least suits room = named_said i (slice_get p.tuples i) refl suits
  table_said (Here arity cells) least suits room =
      let tuples : MakeTuples n cells = subst (λ k. MakeTuples k cells) suits.0 suits.1 in
      subst (λ k. IsTabled q used n (table_of p (Here k cells)) (Here k cells)) (sym suits.0) (here_said p q used n cells least tuples room)

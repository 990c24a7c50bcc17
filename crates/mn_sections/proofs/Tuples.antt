-- The tuple lists of an instance, as they are read.
use Rattle.std.proofs.Common.{◌≡◌, ℕ, ◌+◌, ◌*◌, ◌≤◌, ℤ, pos, ◌<ℤ◌, int_lt, false, not, is_some, List, [], ◌∷◌, ◌++◌, length, map, None, refl, sym, ap, ◌∙◌, subst, arith, append_assoc, append-nil, length-append}
use Rattle.std.proofs.lemmas.Int.{ints}
use Rattle.std.specs.List.{AllByRecursion}
use Rattle.mn_model.specs.Lawful.{IsLawful, IsLawfulTuples, AreNewAfter}
use Rattle.mn_model.specs.Parts.{cell_count}
use Rattle.mn_model.specs.Problem.{Problem, total, listed_as, cells_of}
use Rattle.mn_model.specs.declared.declaration.Tuples.{Tuples}
use Rattle.mn_model.specs.declared.limits.TheConstants.{CELLS}
use Rattle.mn_model.proofs.Kept.{total-push}
use Rattle.mn_model.proofs.Ordered.{lt_false, lt_true}
use Rattle.mn_grammar.specs.Places.{when}
use Rattle.mn_grammar.specs.declared.Kind.TheVariants as kinds
use Rattle.mn_grammar.specs.declared.Limit.TheVariants as limits
use Rattle.mn_cursor.specs.Added.{with_tuples}
use Rattle.mn_decls.specs.TupleLists.{whole, spell_list, after_list, new_list, is_past_cells, fair_count, fair_size, fair_number, breaks_numbers, breaks_list, breaks_lists, value_lists}
use Rattle.mn_sections.specs.Trees.{name_from, tuple_list_of}
use Rattle.mn_sections.specs.Matrices.{tuple_count}
use Rattle.mn_sections.proofs.Names.{name_of_model}
use Rattle.mn_sections.proofs.Counting.{whole_count, no_more}
use Rattle.mn_sections.proofs.Kept.{part_nothing, token_nothing, when_not, first_not}

-- 1. The numbers of a list are no more than are wanted
numbers_nothing : (cells before left : List ℤ) → before ++ left ≡ cells → breaks_numbers (pos (length cells)) before left ≡ []
numbers_nothing cells before [] e = refl
numbers_nothing cells before (z ∷ left) e =
    token_nothing (fair_number (pos (length cells)) before z) 1 (breaks_numbers (pos (length cells)) (before ++ z ∷ []) left)
    (when_not (not (int_lt (pos (length before)) (pos (length cells)))) kinds.Shape (ap not (lt_true (pos (length before)) (pos (length cells)) room)))
    (numbers_nothing cells (before ++ z ∷ []) left (append_assoc before (z ∷ []) left ∙ e))
  where
    room : pos (length before) <ℤ pos (length cells)
    room = let all = ap length e in let sum = length-append before (z ∷ left) in omega (arith, ints, all, sum)

-- 2. A list
module _ (q : Problem) (t : Tuples) (lawful : IsLawfulTuples t) (is_new : listed_as q.tuples t.name ≡ None) (room : cells_of q + length t.cells ≤ CELLS) where
  abbrev count : ℕ
  count = tuple_count t.arity t.cells

  filled : count * t.arity ≡ length t.cells
  filled = ap (λ n. n * t.arity) (whole_count lawful.whole.0 t.arity (length t.cells) lawful.least lawful.whole.1) ∙ sym lawful.whole.1

  fewer : count ≤ length t.cells
  fewer = let more = no_more count t.arity lawful.least in omega (arith, more, filled)

  fits : (n : ℕ) → n ≤ length t.cells → is_past_cells q (pos n) ≡ false
  fits n le = lt_false (pos CELLS) (pos (cells_of q + n)) (omega (arith, ints, room, le))

  name_new : new_list (whole q) (name_from t.name).bytes ≡ None
  name_new = first_not (is_some (listed_as q.tuples (name_from t.name).bytes)) kinds.Name None
      (ap (λ name. is_some (listed_as q.tuples name)) (name_of_model t.name lawful.named) ∙ ap is_some is_new) refl

  count_fair : fair_count q (pos count) ≡ None
  count_fair = first_not (int_lt (pos count) (pos 0)) kinds.Shape (when (is_past_cells q (pos count)) (kinds.Limit limits.Cells))
      (lt_false (pos count) (pos 0) (omega (arith, ints))) (when_not (is_past_cells q (pos count)) (kinds.Limit limits.Cells) (fits count fewer))

  size_fair : fair_size q (pos count) (pos t.arity) ≡ None
  size_fair = first_not (int_lt (pos t.arity) (pos 1)) kinds.Shape (when (is_past_cells q (pos (count * t.arity))) (kinds.Limit limits.Cells))
      (lt_false (pos t.arity) (pos 1) (let least = lawful.least in omega (arith, ints, least)))
      (when_not (is_past_cells q (pos (count * t.arity))) (kinds.Limit limits.Cells) (fits (count * t.arity) (omega (arith, filled))))

  numbers_fit : breaks_numbers (pos (count * t.arity)) [] t.cells ≡ []
  numbers_fit = ap (λ n. breaks_numbers (pos n) [] t.cells) filled ∙ numbers_nothing t.cells [] t.cells refl

  list_nothing : breaks_list (whole q) (tuple_list_of t) ≡ []
  list_nothing =
      token_nothing (new_list (whole q) (name_from t.name).bytes) 1 _ name_new
      (token_nothing (fair_count q (pos count)) 1 _ count_fair
      (token_nothing (fair_size q (pos count) (pos t.arity)) 1 _ size_fair numbers_fit))

  list_means : after_list (whole q) (tuple_list_of t) ≡ whole (record q { tuples = q.tuples ++ t ∷ [] })
  list_means =
      let name = name_of_model t.name lawful.named in
      let enough : int_lt (pos (length t.cells)) (pos (count * t.arity)) ≡ false = lt_false (pos (length t.cells)) (pos (count * t.arity)) (omega (arith, ints, filled)) in
      λ i. record { problem = with_tuples q (name i) t.arity t.cells; lacks = enough i }

-- 3. All of them
lists_said : (q : Problem) (ts : List Tuples) → q.cons ≡ [] → AllByRecursion IsLawfulTuples ts → AreNewAfter (λ t. t.name) q.tuples ts → total (λ t. length t.cells) q.tuples + total (λ t. length t.cells) ts ≤ CELLS
    → (breaks_lists (whole q) (map tuple_list_of ts) ≡ []) × (value_lists (whole q) (map tuple_list_of ts) ≡ record q { tuples = q.tuples ++ ts })
lists_said q [] none lawful are_new room = (refl, ap (λ l. record q { tuples = l }) (sym (append-nil q.tuples)))
lists_said q (t ∷ ts) none lawful are_new room =
    let cells : cells_of q ≡ total (λ t. length t.cells) q.tuples = ap (λ cs. total (λ t. length t.cells) q.tuples + total cell_count cs) none ∙ omega arith in
    let here : cells_of q + length t.cells ≤ CELLS = omega (arith, cells, room) in
    let more = total-push (λ (t : Tuples). length t.cells) q.tuples t in
    let others = lists_said (record q { tuples = q.tuples ++ t ∷ [] }) ts none lawful.1 are_new.1 (omega (arith, more, room)) in
    let after = list_means q t lawful.0 are_new.0 here in (
      part_nothing (length (spell_list (tuple_list_of t))) (breaks_list (whole q) (tuple_list_of t)) (breaks_lists (after_list (whole q) (tuple_list_of t)) (map tuple_list_of ts))
          (list_nothing q t lawful.0 are_new.0 here)
          (ap (λ s. breaks_lists s (map tuple_list_of ts)) after ∙ others.0),
      ap (λ s. value_lists s (map tuple_list_of ts)) after ∙ others.1 ∙ ap (λ l. record q { tuples = l }) (append_assoc q.tuples (t ∷ []) ts),
    )

pub tuples_said : (p q : Problem) → IsLawful p → q.tuples ≡ [] → q.cons ≡ [] → (breaks_lists (whole q) (map tuple_list_of p.tuples) ≡ []) × (value_lists (whole q) (map tuple_list_of p.tuples) ≡ record q { tuples = p.tuples })
tuples_said p q lawful none no_cons =
    let said = lists_said q p.tuples no_cons lawful.tuples
    (subst (λ l. AreNewAfter (λ (t : Tuples). t.name) l p.tuples) (sym none) lawful.new_tuples)
    (let few = lawful.few_cells in let no_cells : total (λ (t : Tuples). length t.cells) q.tuples ≡ 0 = ap (total (λ (t : Tuples). length t.cells)) none in omega (arith, few, no_cells)) in
    (said.0, said.1 ∙ ap (λ l. record q { tuples = l ++ p.tuples }) none)

-- What is there of a board keeps the limits.
use Rattle.std.proofs.Common.{◌≡◌, ℕ, zero, suc, ◌+◌, ◌*◌, ◌-◌, ◌<◌, ◌≤◌, ℤ, pos, ◌≤ℤ◌, ◌+ℤ◌, ◌-ℤ◌, List, [], ◌∷◌, ◌++◌, length, map, codes, Result, Ok, Err, OnOk, replicate, refl, sym, ap, subst, ◌∙◌, arith}
use Rattle.std.specs.List.{flat_map, range_with_len}
use Rattle.mn_model.specs.Domain.{stretch}
use Rattle.mn_model.specs.declared.limits.TheConstants.{SPAN}
use Rattle.std.proofs.lemmas.Int.{ints}
use Rattle.std.specs.List.{AllByRecursion}
use Rattle.std.proofs.lemmas.List.{append_assoc, append-nil, length-append}
use Rattle.std.proofs.lemmas.List.FromFn.{length-range_with_len, length-map-range_with_len}
use Rattle.mn_model.specs.Lawful.{IsLawfulCon, IsLawfulTerm, SuitsKind}
use Rattle.mn_model.specs.declared.variable.Kind.TheVariants.{Discrete}
use Rattle.mn_model.proofs.Stretches.{length-stretch}
use Rattle.mn_model.specs.Parts.{cell_count}
use Rattle.mn_model.proofs.Variables.{length-domains_of, variable_count-cons}
use Rattle.mn_model.specs.Problem.{Problem, domains_of, total}
use Rattle.mn_model.specs.declared.constraint.Con.{Con}
use Rattle.mn_model.specs.declared.constraint.Con.TheVariants.{Alldiff}
use Rattle.mn_model.specs.declared.constraint.Term.{Term}
use Rattle.mn_model.proofs.Kept.{total-push}
use Rattle.mn_gen.specs.Boards.{IsBoard}
use Rattle.mn_gen.specs.Generated.{at_row, off_diagonals, pairs_of_row, posing, variables_named}

-- each of these rows away gives two constraints
pub length_of_pairs : (i : ℕ) (ds : List ℕ) → length (flat_map (off_diagonals i) ds) ≡ 2 * length ds
length_of_pairs i [] = refl
length_of_pairs i (d ∷ ds) = omega (arith, length_of_pairs i ds)

-- the values of a variable are few
pub few_values : (most : ℕ) → most ≤ 64 → length (stretch (pos 0) (pos most)) ≤ SPAN
few_values most small = omega (arith, ints, length-stretch (pos 0) (pos most) (omega (arith, ints)))

pub suits_discrete : (values : List ℤ) (lo hi : ℤ) (most : ℕ) → values ≡ stretch lo hi → lo ≡ pos 0 → hi ≡ pos most → most ≤ 64 → SuitsKind Discrete values
suits_discrete values lo hi most is low high small =
    let whole : values ≡ stretch (pos 0) (pos most) = is ∙ (λ i. stretch (low i) (high i)) in
    (pos 0, pos most, whole, subst (λ vs. length vs ≤ SPAN) (sym whole) (few_values most small))

-- what follows where a call succeeded
pub ok_so : {A E : Type 0} {P Q : Type 0} (r : Result A E) → (P → Q) → OnOk r P → OnOk r Q
ok_so (Ok x) f p = f p
ok_so (Err e) f p = tt

-- one constraint more, without tuples
pub one_more_on_board : (n : ℕ) (old new : Problem) (con : Con) → IsBoard n old → cell_count con ≡ 0
    → new ≡ record old { cons = old.cons ++ con ∷ [] } → IsBoard n new
one_more_on_board n old new con board none is =
    let with_more : Problem → Problem = λ p. record p { cons = old.cons ++ con ∷ [] } in
    let more : record old { cons = old.cons ++ con ∷ [] } ≡ posing (variables_named (codes "q") n (n - 1)) [] (old.cons ++ con ∷ []) = ap with_more board.posed in
    let cons : new.cons ≡ old.cons ++ con ∷ [] = ap (λ p. p.cons) is in
    record {
      posed = is ∙ more ∙ sym (ap (posing (variables_named (codes "q") n (n - 1)) []) cons);
      bare = ap (total cell_count) cons ∙ omega (arith, total-push cell_count old.cons con, board.bare, none);
    }

-- ---- row after row

-- the constraints of one number more
rows_last : {X : Type 0} (f : ℕ → List X) (a n j : ℕ) → a + n ≡ j → flat_map f (range_with_len a (suc n)) ≡ flat_map f (range_with_len a n) ++ f j
rows_last f a zero j e = let same : a ≡ j = omega arith in append-nil (f a) ∙ ap f same
rows_last f a (suc n) j e =
    ap (λ l. f a ++ l) (rows_last f (a + 1) n j (omega arith)) ∙ sym (append_assoc (f a) (flat_map f (range_with_len (a + 1) n)) (f j))

pub rows_more : {X : Type 0} (f : ℕ → List X) (a n j : ℕ) → a + n ≡ j → flat_map f (range_with_len a (n + 1)) ≡ flat_map f (range_with_len a n) ++ f j
rows_more f a n j e = let on : n + 1 ≡ suc n = omega arith in ap (λ m. flat_map f (range_with_len a m)) on ∙ rows_last f a n j e

-- how many constraints the queen of a row has with those less than d rows after it, and with all after it
pub few_pairs : (i d : ℕ) → 1 ≤ d → d ≤ 64 → length (flat_map (off_diagonals i) (range_with_len 1 (d - 1))) ≤ 126
few_pairs i d least most = omega (arith, length_of_pairs i (range_with_len 1 (d - 1)), length-range_with_len 1 (d - 1))

few_in_row : (n i : ℕ) → n ≤ 64 → length (pairs_of_row n i) ≤ 126
few_in_row n i few = omega (arith, length_of_pairs i (range_with_len 1 (n - 1 - i)), length-range_with_len 1 (n - 1 - i))

pub few_in_rows : (n : ℕ) (rows : List ℕ) → n ≤ 64 → length (flat_map (pairs_of_row n) rows) ≤ 126 * length rows
few_in_rows n [] few = omega arith
few_in_rows n (i ∷ rows) few =
    omega (arith, length-append (pairs_of_row n i) (flat_map (pairs_of_row n) rows), few_in_row n i few, few_in_rows n rows few)

-- ---- that the columns differ

variables_there : (n : ℕ) → length (domains_of (variables_named (codes "q") n (n - 1) ∷ [])) ≡ n
variables_there n = length-domains_of (variables_named (codes "q") n (n - 1) ∷ []) ∙ variable_count-cons (variables_named (codes "q") n (n - 1)) [] ∙ omega arith

rows_are_known : (n from m : ℕ) → from + m ≤ n → AllByRecursion (IsLawfulTerm (domains_of (variables_named (codes "q") n (n - 1) ∷ []))) (map at_row (range_with_len from m))
rows_are_known n from zero within = tt
rows_are_known n from (suc m) within = (omega (arith, variables_there n), rows_are_known n (from + 1) m (omega arith))

rows_are_lawful : (n : ℕ) → n ≤ 64 → IsLawfulCon (domains_of (variables_named (codes "q") n (n - 1) ∷ [])) [] (Alldiff (map at_row (range_with_len 0 n)))
rows_are_lawful n few = record {
  named = rows_are_known n 0 n (omega arith);
  bits = tt;
  constants = tt;
  short = (omega (arith, length-map-range_with_len at_row 0 n), tt);
  tables = tt;
  shaped = tt;
  nested = omega arith;
  written = tt;
}

pub lawful_rows : (n : ℕ) (p : Problem) (terms : List Term) → p ≡ posing (variables_named (codes "q") n (n - 1)) [] [] → terms ≡ map at_row (range_with_len 0 n) → n ≤ 64
    → IsLawfulCon (domains_of p.decls) p.tuples (Alldiff terms)
lawful_rows n p terms is all few =
    subst (λ (q : Problem). IsLawfulCon (domains_of q.decls) q.tuples (Alldiff terms)) (sym is)
    (subst (λ ts. IsLawfulCon (domains_of (variables_named (codes "q") n (n - 1) ∷ [])) [] (Alldiff ts)) (sym all) (rows_are_lawful n few))

-- Arguments that break nothing are what their form wants.
use Rattle.std.proofs.Common.{◌≡◌, ℕ, ℤ, suc, ◌+◌, ◌*◌, ◌≤◌, ◌==◌, ltb, Bool, true, false, not, ◌&&◌, ◌||◌, List, [], ◌∷◌, ◌++◌, length, slice_get, Option, Some, None, refl, sym, ap, ◌∙◌, subst, arith, cond, bytes_eq, append_assoc, length-append}
use Rattle.std.specs.List.{AllByRecursion}
use Rattle.std.specs.Option.{option_map}
use Rattle.std.proofs.lemmas.Bool.{or_parts, eqb-true, not-false}
use Rattle.std.proofs.lemmas.List.{length_push}
use Rattle.mn_lexer.specs.Terminals.{mark}
use Rattle.mn_lexer.specs.declared.marks.Mark.{Mark}
use Rattle.mn_lexer.specs.declared.marks.Mark.TheVariants.{CloseSquare, CloseCurly, CloseRound, Greater, Comma}
use Rattle.mn_model.specs.Domain.{IsValue}
use Rattle.mn_model.specs.Lawful.{IsLawful, MakeTuples, SuitsTable}
use Rattle.mn_model.specs.Parts.{IsEven, cells_here}
use Rattle.mn_model.specs.Problem.{Problem, listed_as}
use Rattle.mn_model.specs.declared.constraint.Tab.{Tab}
use Rattle.mn_model.specs.declared.constraint.Tab.TheVariants.{Here}
use Rattle.mn_model.specs.declared.declaration.Tuples.{Tuples}
use Rattle.mn_model.specs.declared.limits.TheConstants.{CELLS}
use Rattle.mn_model.proofs.Lists.{all_append, all_back, all_front}
use Rattle.mn_grammar.specs.Places.{on, behind}
use Rattle.mn_grammar.specs.Lists.{Items, final, also, spell_items, breaks_items, value_items}
use Rattle.mn_grammar.specs.Rows.{Arguments, breaks_more, values_more, breaks_row, values_row}
use Rattle.mn_grammar.specs.declared.Kind.TheVariants.{Shape, Limit}
use Rattle.mn_grammar.specs.declared.Limit.TheVariants.{Cells}
use Rattle.mn_grammar.proofs.Steps.{on_kept}
use Rattle.mn_references.specs.Entries.{a_term, value_entry, Placed}
use Rattle.mn_language.specs.Arguments.{Value, length_of, length_wanted, behind_value, behind_last, terms_in, numbers_in, number_in, tuples_in, term_of, vector_wanted, numbers_wanted, Wanted, exactly, is_full, is_short, is_odd, at_one, at_another, at_close, number_judge, with_number, spell_number, spell_numbers, breaks_numbers, value_numbers, Table, named, here, spell_tuple, at_tuple, value_tuple, tuple_judge, with_tuple, at_list, list_place, spell_table, breaks_table, value_table, Written, spell_argument, breaks_argument, value_argument, spell_arguments, arguments}
use Rattle.mn_language.specs.declared.forms.Argument.{Argument}
use Rattle.mn_language.specs.declared.forms.Argument.TheVariants as takes
use Rattle.mn_language.specs.declared.forms.Places.{Places}
use Rattle.mn_references.proofs.Unbroken.{token_kept, part_kept, behind_kept, when_kept, as_kind_kept, not_less, not_at_most}
use Rattle.mn_references.proofs.LawfulVectors.{IsFairToken, AreFair, IsTerm, IsVector, IsOne, entry_comes, term_one, vector_good}

-- 1. Lists of numbers
pub record IsNumbers (w : Wanted) (zs : List ℤ) : Type 0 where
  pub valued : AllByRecursion IsValue zs
  pub counted : (m : ℕ) → w.count ≡ Some m → length zs ≡ m
  pub even : w.paired ≡ true → IsEven zs

twice : (b : Bool) → not (not b) ≡ false → b ≡ false
twice true e = cc
twice false e = refl

even_of : (zs : List ℤ) → is_odd (length zs) ≡ false → IsEven zs
even_of [] e = tt
even_of (z ∷ []) e = cc
even_of (y ∷ z ∷ zs) e = even_of zs (twice (is_odd (length zs)) e)

in_pairs : (b : Bool) (zs : List ℤ) → (b && is_odd (length zs)) ≡ false → b ≡ true → IsEven zs
in_pairs true zs e f = even_of zs e
in_pairs false zs e f = cc

as_many : (o : Option ℕ) (n k m : ℕ) → k ≡ n + 1 → is_full o n ≡ false → is_short o k ≡ false → o ≡ Some m → k ≡ m
as_many None n k m same full short e = cc
as_many (Some j) n k m same full short e =
    let is : j ≡ m = cc in
    let more = not_at_most j n full in
    let enough = not_less k j short in
    omega (arith, is, more, enough, same)

none_many : (o : Option ℕ) (m : ℕ) → is_short o 0 ≡ false → o ≡ Some m → 0 ≡ m
none_many None m short e = cc
none_many (Some j) m short e = let is : j ≡ m = cc in let enough = not_less 0 j short in omega (arith, is, enough)

items_good : (shut : Mark) (w : Wanted) (l : Items ℤ) (before : List ℤ) → AllByRecursion IsValue before → breaks_items (number_judge w) l before ≡ [] → AreFair (spell_items shut spell_number l) → IsNumbers w (value_items (number_judge w) with_number l before)
items_good shut w (final z) before valued kept fair =
    let zs = before ++ z ∷ [] in
    let parts = token_kept (at_one w before z) 1 (on (at_close w (length zs))) kept in
    let full = when_kept (is_full w.count (length before)) Shape parts.0 in
    let ends = or_parts (is_short w.count (length zs)) (w.paired && is_odd (length zs)) (when_kept (is_short w.count (length zs) || (w.paired && is_odd (length zs))) Shape (on_kept (at_close w (length zs)) parts.1)) in
    record {
      valued = all_append IsValue before (z ∷ []) valued (fair.0, tt);
      counted = λ m e. as_many w.count (length before) (length zs) m (length_push before z) full ends.0 e;
      even = in_pairs w.paired zs ends.1;
    }
items_good shut w (also z l) before valued kept fair =
    let zs = before ++ z ∷ [] in
    let parts = token_kept (at_one w before z) 1 (on (at_another w (length zs)) ++ behind 1 (breaks_items (number_judge w) l zs)) kept in
    let later = token_kept (at_another w (length zs)) 1 (breaks_items (number_judge w) l zs) parts.1 in
    items_good shut w l zs (all_append IsValue before (z ∷ []) valued (fair.0, tt)) later.1 fair.1.1

pub numbers_good : (w : Wanted) (l : Option (Items ℤ)) → breaks_numbers w l ≡ [] → AreFair (spell_numbers l) → IsNumbers w (value_numbers w l)
numbers_good w None kept fair =
    let ends = or_parts (is_short w.count 0) (w.paired && false) (when_kept (is_short w.count 0 || (w.paired && false)) Shape (on_kept (at_close w 0) (behind_kept 1 (on (at_close w 0)) kept))) in
    record { valued = tt; counted = λ m e. none_many w.count m ends.0 e; even = λ e. tt }
numbers_good w (Some l) kept fair = items_good CloseSquare w l [] tt (behind_kept 1 (breaks_items (number_judge w) l []) kept) fair.1

-- 2. Tables
pub record IsCells (used n : ℕ) (cells : List ℤ) : Type 0 where
  pub valued : AllByRecursion IsValue cells
  pub whole : MakeTuples n cells
  pub room : used + length cells ≤ CELLS

one_tuple : (used n : ℕ) (cells more : List ℤ) → IsCells used n cells → IsNumbers (exactly n) more → at_tuple used n cells ≡ None → IsCells used n (cells ++ more)
one_tuple used n cells more is tuple kept =
    let fits = not_less CELLS (used + length cells + n) (when_kept (ltb CELLS (used + length cells + n)) (Limit Cells) kept) in
    let size = length-append cells more in
    let wide = tuple.counted n refl in
    record {
      valued = all_append IsValue cells more is.valued tuple.valued;
      whole = (suc is.whole.0, size ∙ ap (λ k. k + length more) is.whole.1 ∙ ap (λ k. is.whole.0 * n + k) wide ∙ one_times is.whole.0 n);
      room = omega (arith, fits, size, wide);
    }
  where
    one_times : (k n : ℕ) → k * n + n ≡ suc k * n
    one_times k n = omega arith

tuples_items : (used n : ℕ) (l : Items (Items ℤ)) (cells : List ℤ) → IsCells used n cells → breaks_items (tuple_judge used n) l cells ≡ [] → AreFair (spell_items CloseCurly spell_tuple l) → IsCells used n (value_items (tuple_judge used n) with_tuple l cells)
tuples_items used n (final t) cells is kept fair =
    let parts = part_kept (length (spell_tuple t)) (on (at_tuple used n cells) ++ behind 1 (breaks_items (number_judge (exactly n)) t [])) [] kept in
    let tuple = token_kept (at_tuple used n cells) 1 (breaks_items (number_judge (exactly n)) t []) parts.0 in
    let here_fair = all_front IsFairToken (spell_tuple t) (mark CloseCurly ∷ []) fair in
    one_tuple used n cells (value_tuple n t) is (items_good Greater (exactly n) t [] tt tuple.1 here_fair.1) tuple.0
tuples_items used n (also t l) cells is kept fair =
    let later = breaks_items (tuple_judge used n) l (cells ++ value_tuple n t) in
    let parts = part_kept (length (spell_tuple t)) (on (at_tuple used n cells) ++ behind 1 (breaks_items (number_judge (exactly n)) t [])) (behind 1 later) kept in
    let tuple = token_kept (at_tuple used n cells) 1 (breaks_items (number_judge (exactly n)) t []) parts.0 in
    let here_fair = all_front IsFairToken (spell_tuple t) (mark Comma ∷ spell_items CloseCurly spell_tuple l) fair in
    let more_fair = all_back IsFairToken (spell_tuple t) (mark Comma ∷ spell_items CloseCurly spell_tuple l) fair in
    tuples_items used n l (cells ++ value_tuple n t) (one_tuple used n cells (value_tuple n t) is (items_good Greater (exactly n) t [] tt tuple.1 here_fair.1) tuple.0) (behind_kept 1 later parts.1) more_fair.1

no_cells : (used n : ℕ) → used ≤ CELLS → IsCells used n []
no_cells used n fits = record { valued = tt; whole = (0, omega arith); room = omega arith }

place_by : (t x : Tuples) (ts : List Tuples) (name : List ℕ) (o : Option Tuples) (b : Bool) → cond b (Some t) o ≡ Some x → (o ≡ Some x → slice_get ts (list_place ts name) ≡ Some x) → slice_get (t ∷ ts) (cond b 0 (suc (list_place ts name))) ≡ Some x
place_by t x ts name o true e later = e
place_by t x ts name o false e later = later e

place_is : (ts : List Tuples) (name : List ℕ) (x : Tuples) → listed_as ts name ≡ Some x → slice_get ts (list_place ts name) ≡ Some x
place_is [] name x e = cc
place_is (t ∷ ts) name x e = place_by t x ts name (listed_as ts name) (bytes_eq name t.name) e (place_is ts name x)

named_suits : (ts : List Tuples) (name : List ℕ) (n : ℕ) (o : Option Tuples) → listed_as ts name ≡ o → at_list n o ≡ None → option_map (λ t. t.arity) (slice_get ts (list_place ts name)) ≡ Some n
named_suits ts name n None e kept = cc
named_suits ts name n (Some t) e kept =
    ap (option_map (λ t. t.arity)) (place_is ts name t e)
    ∙ ap (λ k. Some k) (eqb-true t.arity n (not-false (t.arity == n) (when_kept (not (t.arity == n)) Shape kept)))

pub record IsTable (p : Problem) (used n : ℕ) (tab : Tab) : Type 0 where
  pub suits : SuitsTable p.tuples (n, tab)
  pub valued : AllByRecursion IsValue (cells_here tab)
  pub room : used + length (cells_here tab) ≤ CELLS

cells_table : (p : Problem) (used n : ℕ) (cells : List ℤ) → IsCells used n cells → IsTable p used n (Here n cells)
cells_table p used n cells is = record { suits = (refl, is.whole); valued = is.valued; room = is.room }

pub table_good : (p : Problem) (used n : ℕ) → used ≤ CELLS → (t : Table) → breaks_table p used n t ≡ [] → AreFair (spell_table t) → IsTable p used n (value_table p used n t)
table_good p used n fits (named name) kept fair = record {
  suits = named_suits p.tuples name.bytes n (listed_as p.tuples name.bytes) refl (on_kept (at_list n (listed_as p.tuples name.bytes)) kept);
  valued = tt;
  room = omega arith;
}
table_good p used n fits (here None) kept fair = cells_table p used n [] (no_cells used n fits)
table_good p used n fits (here (Some l)) kept fair =
    cells_table p used n _ (tuples_items used n l [] (no_cells used n fits) (behind_kept 1 (breaks_items (tuple_judge used n) l []) kept) fair.1)

-- 3. All arguments: what each comes to
pub record IsVectorValue (p : Problem) (vs : List Value) (w : Places) (v : Value) : Type 0 where
  pub vector : IsVector p (vector_wanted w vs) (terms_in (Some v))
  pub size : length_of v ≡ length (terms_in (Some v))

pub record IsNumbersValue (w : Wanted) (v : Value) : Type 0 where
  pub numbers : IsNumbers w (numbers_in (Some v))
  pub size : length_of v ≡ length (numbers_in (Some v))

abbrev pub Fits : Problem → ℕ → Argument → List Value → Value → Type 0
Fits p used takes.Term vs v = IsTerm p (term_of (terms_in (Some v)))
Fits p used (takes.Vector w) vs v = IsVectorValue p vs w v
Fits p used takes.Number vs v = IsValue (number_in (Some v) 0)
Fits p used (takes.Numbers w) vs v = IsNumbersValue (numbers_wanted w vs) v
Fits p used takes.Range vs v = IsValue (number_in (Some v) 0) × IsValue (number_in (Some v) 1)
Fits p used takes.Tuples vs v = IsTable p used (length_wanted vs) (tuples_in (Some v))

one_fits : (p : Problem) (v : Placed) → IsOne p false v.terms → IsTerm p (term_of v.terms)
one_fits p v one = subst (λ terms. IsTerm p (term_of terms)) (sym one.only) one.lawful

pub last_is : (vs : List Value) (v : Value) → behind_last (vs ++ v ∷ []) ≡ behind_value v
last_is [] v = refl
last_is (w ∷ []) v = refl
last_is (w ∷ x ∷ vs) v = last_is (x ∷ vs) v

module _ (p : Problem) (lawful : IsLawful p) (used : ℕ) (fits : used ≤ CELLS) where
  argument_fits : (k : Argument) (vs : List Value) (a : Written k) → breaks_argument p used k vs a ≡ [] → behind_value (value_argument p used k vs a) ≡ None → AreFair (spell_argument k a) → Fits p used k vs (value_argument p used k vs a)
  argument_fits takes.Term vs e kept ends fair =
      one_fits p (value_entry p (a_term p false) e) (term_one p false _ (entry_comes p lawful (a_term p false) e kept (as_kind_kept _ ends) fair))
  argument_fits (takes.Vector w) vs v kept ends fair = record { vector = vector_good p lawful (vector_wanted w vs) v kept (as_kind_kept _ ends) fair; size = refl }
  argument_fits takes.Number vs z kept ends fair = fair.0
  argument_fits (takes.Numbers w) vs l kept ends fair = record { numbers = numbers_good (numbers_wanted w vs) l kept fair; size = refl }
  argument_fits takes.Range vs r kept ends fair = (fair.1.0, fair.1.1.1.0)
  argument_fits takes.Tuples vs t kept ends fair = table_good p used (length_wanted vs) fits t kept fair

  -- 4. Rows of them
  pub record Fitted (P Q : Value → Type 0) : Type 0 where
    pub value : Value
    pub fitting : P value
    pub others : Q value

  abbrev pub Fitting : List Argument → List Value → Type 0
  Fitting [] before = Unit {0}
  Fitting (k ∷ ks) before = Fitted (Fits p used k before) (λ v. Fitting ks (before ++ v ∷ []))

  abbrev pub collected : (row : List Argument) (before : List Value) → Fitting row before → List Value
  collected [] before f = []
  collected (k ∷ ks) before f = f.value ∷ collected ks (before ++ f.value ∷ []) f.others

  abbrev Row : (k : Argument) (others : List Argument) (vs : List Value) → Arguments Written (k ∷ others) → Type 0
  Row k others vs a = (f : Fitting (k ∷ others) vs) × (values_more (arguments p used) k others vs a ≡ vs ++ collected (k ∷ others) vs f)

  more_fits : (k : Argument) (others : List Argument) (vs : List Value) (a : Arguments Written (k ∷ others)) → breaks_more (arguments p used) k others vs a ≡ [] → AreFair (spell_arguments (k ∷ others) a) → Row k others vs a
  more_fits k [] vs a kept fair =
      let v = value_argument p used k vs a.0 in
      let parts = part_kept (length (spell_argument k a.0)) (breaks_argument p used k vs a.0) (on (behind_last (vs ++ v ∷ []))) kept in
      let ends = sym (last_is vs v) ∙ on_kept (behind_last (vs ++ v ∷ [])) parts.1 in
      let fitting = argument_fits k vs a.0 parts.0 ends (all_front IsFairToken (spell_argument k a.0) (mark CloseRound ∷ []) fair) in
      (record { value = v; fitting = fitting; others = tt }, refl)
  more_fits k (l ∷ others) vs a kept fair =
      let v = value_argument p used k vs a.0 in
      let rest = breaks_more (arguments p used) l others (vs ++ v ∷ []) a.1 in
      let parts = part_kept (length (spell_argument k a.0)) (breaks_argument p used k vs a.0) (on (behind_last (vs ++ v ∷ [])) ++ behind 1 rest) kept in
      let later = token_kept (behind_last (vs ++ v ∷ [])) 1 rest parts.1 in
      let ends = sym (last_is vs v) ∙ later.0 in
      let fitting = argument_fits k vs a.0 parts.0 ends (all_front IsFairToken (spell_argument k a.0) (mark Comma ∷ spell_arguments (l ∷ others) a.1) fair) in
      let more_fair = all_back IsFairToken (spell_argument k a.0) (mark Comma ∷ spell_arguments (l ∷ others) a.1) fair in
      let more = more_fits l others (vs ++ v ∷ []) a.1 later.1 more_fair.1 in
      (record { value = v; fitting = fitting; others = more.0 }, more.1 ∙ append_assoc vs (v ∷ []) (collected (l ∷ others) (vs ++ v ∷ []) more.0))

  -- so the values of a row that breaks nothing are what its form wants
  pub row_fits : (row : List Argument) (a : Arguments Written row) → breaks_row (arguments p used) row a ≡ [] → AreFair (spell_arguments row a) → (f : Fitting row []) × (values_row (arguments p used) row a ≡ collected row [] f)
  row_fits [] a kept fair = (tt, refl)
  row_fits (k ∷ ks) a kept fair = more_fits k ks [] a kept fair

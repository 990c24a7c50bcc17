-- What tables answer, tuple by tuple.
use Rattle.std.proofs.Common.{◌≡◌, ◌≤◌, ℕ, ℤ, List, [], ◌++◌, length, drop, take, Option, Some, None, Result, Ok, refl, sym, ap, ◌∙◌, subst}
use Rattle.std.proofs.Common.{inl, inr}
use Rattle.std.specs.Prelude.{IfNone}
use Rattle.std.proofs.lemmas.List.{take-append-drop}
use Rattle.mn_lexer.specs.Terminals.{Terminal}
use Rattle.mn_lexer.specs.declared.marks.Mark.TheVariants.{Greater, Less}
use Rattle.mn_model.specs.Problem.{Problem, listed_as}
use Rattle.mn_model.specs.declared.constraint.Tab.TheVariants.{Named, Here}
use Rattle.mn_grammar.specs.Gives.{Gives, Stops}
use Rattle.mn_grammar.specs.Reading.{go_on, judged, mark_at, one, refused, ret}
use Rattle.mn_grammar.specs.declared.Kind.{Kind}
use Rattle.mn_grammar.specs.declared.Stop.{Stop}
use Rattle.mn_grammar.specs.declared.Stop.TheVariants.{Refused}
use Rattle.mn_grammar.specs.declared.site.Site.TheVariants.{Free, MarksOnly}
use Rattle.mn_cursor.specs.Looks.{first_as}
use Rattle.mn_cursor.proofs.Looking.{unseen_stops, seen_stops, seen_reads}
use Rattle.mn_cursor.proofs.Turning.{read_leaves, stops_first, gives_same}
use Rattle.mn_references.proofs.Stepping.{gives_second}
use Rattle.mn_language.specs.Arguments.{at_list, at_tuple, exactly, list_place}
use Rattle.mn_language.specs.Constructing.{TableStart, at_table, behind_table, table_at, tuple_at, which_table, written_here}
use Rattle.mn_language.proofs.ArgumentLaws.{tuple_spec, tuple_law}
use Rattle.mn_constraints.specs.Numbering.{numbers_from}
use Rattle.mn_constraints.specs.Tabling.{tuples_behind}

-- 1. A tuple
module _ (used n : ℕ) (cells : List ℤ) (ts : List Terminal) (k : Option Kind) (is : k ≡ at_tuple used n cells) where
  tuple_is : tuple_at used n cells ts ≡ go_on (mark_at MarksOnly Less k ts) (λ u. numbers_from Greater (exactly n) [])
  unfolding tuple_at numbers_from
  tuple_is = ap (λ x. go_on (mark_at MarksOnly Less x ts) (λ u. numbers_from Greater (exactly n) [])) (sym is)

  pub angle_stops : (e : Stop) → Stops e (mark_at MarksOnly Less k ts) → Stops e (tuple_at used n cells ts)
  angle_stops e stops = subst (λ r. Stops e r) (sym tuple_is) (stops_first e (mark_at MarksOnly Less k ts) (λ u. numbers_from Greater (exactly n) []) stops)

  pub tuple_gives : {A : Type 0} (view : A → List ℤ × List Terminal) (result : Result A Stop) (us : List Terminal) → mark_at MarksOnly Less k ts ≡ Ok (tt {0}, us) → Gives view result (numbers_from Greater (exactly n) [] us) → Gives view result (tuple_at used n cells ts)
  tuple_gives view result us angle gives =
      gives_same view result (go_on (mark_at MarksOnly Less k ts) (λ u. numbers_from Greater (exactly n) [])) (tuple_at used n cells ts) tuple_is
      (gives_second view result (mark_at MarksOnly Less k ts) (λ u. numbers_from Greater (exactly n) []) (tt {0}) us angle gives)

-- what is kept in front of the numbers is what was there
pub behind_kept : (old new : List ℤ) → take (length old) new ≡ old → new ≡ old ++ drop (length old) new
behind_kept old new kept = sym (take-append-drop (length old) new) ∙ ap (λ l. l ++ drop (length old) new) kept

-- 2. Tuples
pub tuple_leaves : (used n : ℕ) (cells : List ℤ) (ts : List Terminal) (more : List ℤ) (us : List Terminal) → tuple_at used n cells ts ≡ Ok (more, us) → length us ≤ length ts
tuple_leaves used n cells ts more us is = read_leaves (tuple_spec used n cells) (tuple_at used n cells) (tuple_law used n cells) ts more us is

-- 3. A table
pub if_none : {A P : Type 0} (o : Option A) → IfNone o P → o ≡ None → P
if_none None holds e = holds
if_none (Some a) holds e = cc

module _ (p : Problem) (used n : ℕ) (ts : List Terminal) where
  pub table_unseen : (e : Stop) → (first_as which_table ts ≡ None) × (e ≡ Refused (refused Free ts)) → Stops e (table_at p used n ts)
  unfolding table_at
  table_unseen e is = stops_first e (one Free which_table (at_table p n) ts) (behind_table p used n) (unseen_stops Free which_table (at_table p n) ts e is)

  module _ (w : TableStart) (seen : first_as which_table ts ≡ Some w) (k : Option Kind) (is : k ≡ at_table p n w) where
    pub start_stops : (e : Stop) → Stops e (judged k (tt {0}) ts (drop 1 ts)) → Stops e (table_at p used n ts)
    unfolding table_at
    start_stops e stops =
        stops_first e (one Free which_table (at_table p n) ts) (behind_table p used n)
        (seen_stops Free which_table (at_table p n) w ts e seen (subst (λ x. Stops e (judged x (tt {0}) ts (drop 1 ts))) is stops))

    behind_start : (us : List Terminal) → judged k (tt {0}) ts (drop 1 ts) ≡ Ok (tt {0}, us) → table_at p used n ts ≡ behind_table p used n w us
    unfolding table_at
    behind_start us reads =
        ap (λ r. go_on r (behind_table p used n)) (seen_reads Free which_table (at_table p n) w ts us seen (subst (λ x. judged x (tt {0}) ts (drop 1 ts) ≡ Ok (tt {0}, us)) is reads))

  judged_kept : (x : Option Kind) (us vs : List Terminal) → judged x (tt {0}) ts us ≡ Ok (tt {0}, vs) → x ≡ None
  judged_kept None us vs reads = refl
  judged_kept (Some kind) us vs reads = cc

  pub named_reads : (name : List ℕ) (place : ℕ) (k : Option Kind) (us : List Terminal) → first_as which_table ts ≡ Some (inl name) → k ≡ at_list n (listed_as p.tuples name) → (k ≡ None → place ≡ list_place p.tuples name) → judged k (tt {0}) ts (drop 1 ts) ≡ Ok (tt {0}, us) → table_at p used n ts ≡ Ok (Named place, us)
  unfolding behind_table
  named_reads name place k us seen is placed reads =
      behind_start (inl name) seen k is us reads ∙ ap (λ m. Ok (Named m, us)) (sym (placed (judged_kept k (drop 1 ts) us reads)))

  module _ (us : List Terminal) (seen : first_as which_table ts ≡ Some (inr tt)) (reads : judged None (tt {0}) ts (drop 1 ts) ≡ Ok (tt {0}, us)) where
    here_is : table_at p used n ts ≡ go_on (tuples_behind used n us) (λ cells. ret (written_here n cells))
    unfolding behind_table tuples_behind
    here_is = behind_start (inr tt) seen None refl us reads

    pub here_stops : (e : Stop) → Stops e (tuples_behind used n us) → Stops e (table_at p used n ts)
    here_stops e stops = subst (λ r. Stops e r) (sym here_is) (stops_first e (tuples_behind used n us) (λ cells. ret (written_here n cells)) stops)

    pub here_reads : (cells : List ℤ) (vs : List Terminal) → tuples_behind used n us ≡ Ok (cells, vs) → table_at p used n ts ≡ Ok (Here n cells, vs)
    here_reads cells vs is = here_is ∙ ap (λ r. go_on r (λ cells. ret (written_here n cells))) is

-- What constraints answer, by their parts.
use Rattle.std.proofs.Common.{◌≡◌, ◌≤◌, ℕ, zero, suc, ◌-◌, true, false, length, is_some, List, [], drop, Option, Some, None, Result, Ok, Err, refl, sym, ap, ◌∙◌, subst, arith}
use Rattle.std.specs.Result.{IfOk}
use Rattle.mn_lexer.specs.Terminals.{Terminal}
use Rattle.mn_lexer.specs.declared.marks.Mark.TheVariants.{CloseCurly, CloseRound, Comma, OpenCurly, OpenRound}
use Rattle.mn_model.specs.Parts.{cell_count}
use Rattle.mn_model.specs.Problem.{Problem, total}
use Rattle.mn_model.specs.declared.constraint.Con.{Con}
use Rattle.mn_model.specs.declared.constraint.Term.{Term}
use Rattle.mn_grammar.specs.Gives.{Gives, Stops}
use Rattle.mn_grammar.specs.Lists.{items_at}
use Rattle.mn_grammar.specs.Places.{when}
use Rattle.mn_grammar.specs.Reading.{Answer, Reader, go_on, judged, mark_at, one_of, refused, ret, then_read, which_mark, within}
use Rattle.mn_grammar.specs.declared.Kind.{Kind}
use Rattle.mn_grammar.specs.declared.Kind.TheVariants.{Limit}
use Rattle.mn_grammar.specs.declared.Limit.TheVariants.{Constraints as OfConstraints}
use Rattle.mn_grammar.specs.declared.Stop.{Stop}
use Rattle.mn_grammar.specs.declared.Stop.TheVariants.{Refused}
use Rattle.mn_grammar.specs.declared.site.Site.TheVariants.{Fixed, MarksOnly}
use Rattle.mn_cursor.specs.Looks.{first_as}
use Rattle.mn_cursor.proofs.Looking.{unseen_stops, seen_stops, seen_reads}
use Rattle.mn_cursor.proofs.Turning.{read_leaves, stops_first, gives_same}
use Rattle.mn_references.specs.Conditions.{as_kind}
use Rattle.mn_references.specs.Entries.{Placed, a_term}
use Rattle.mn_references.specs.Referring.{entry_at}
use Rattle.mn_references.proofs.ListTurns.{shut_stops, shut_reads, opened}
use Rattle.mn_references.proofs.Stepping.{gives_second}
use Rattle.mn_references.proofs.Unbroken.{lesser_kept}
use Rattle.mn_language.specs.Arguments.{term_of}
use Rattle.mn_language.specs.Constraints.{Before, at_form, at_inside, cells_behind, gathered, inside, tied}
use Rattle.mn_language.specs.Constructing.{behind_form, child_ends, constraint_at, depth_inside, form_at, gather_at, leaf_at, tie_at, with_child}
use Rattle.mn_language.specs.Forms.{form_of}
use Rattle.mn_language.specs.declared.forms.Form.{Form}
use Rattle.mn_language.specs.declared.forms.Form.TheVariants.{Leaf as of_leaf, Gather as of_gather, Tie as of_tie}
use Rattle.mn_language.specs.declared.forms.Gather.{Gather}
use Rattle.mn_language.specs.declared.forms.Gather.TheVariants.{Or, And}
use Rattle.mn_language.specs.declared.forms.Leaf.{Leaf}
use Rattle.mn_language.specs.declared.forms.Tie.{Tie}
use Rattle.mn_language.specs.declared.forms.Tie.TheVariants.{Reify, Reifyimply}
use Rattle.mn_language.proofs.ConstraintLaws.{constraint_spec, constraint_law}
use Rattle.mn_language.proofs.LawfulConstraints.{cells_many}
use Rattle.mn_constraints.specs.Nesting.{bit_at, child_at, children_behind, children_from, closed_term, named_form}

-- 1. The name of a form
module _ (d : ℕ) (s : Before) (ts : List Terminal) where
  pub form_unseen : (e : Stop) → (first_as named_form ts ≡ None) × (e ≡ Refused (refused Fixed ts)) → Stops e (form_at d s ts)
  unfolding form_at one_of named_form
  form_unseen e is = unseen_stops Fixed form_of (at_form d s) ts e is

  module _ (f : Form) (seen : first_as named_form ts ≡ Some f) (k : Option Kind) (is : k ≡ at_form d s f) where
    pub form_stops : (e : Stop) → Stops e (judged k (tt {0}) ts (drop 1 ts)) → Stops e (form_at d s ts)
    unfolding form_at one_of named_form
    form_stops e stops = seen_stops Fixed form_of (at_form d s) f ts e seen (subst (λ x. Stops e (judged x (tt {0}) ts (drop 1 ts))) is stops)

    pub form_reads : (us : List Terminal) → judged k (tt {0}) ts (drop 1 ts) ≡ Ok (tt {0}, us) → form_at d s ts ≡ Ok (f, us)
    unfolding form_at one_of named_form
    form_reads us reads = seen_reads Fixed form_of (at_form d s) f ts us seen (subst (λ x. judged x (tt {0}) ts (drop 1 ts) ≡ Ok (tt {0}, us)) is reads)

    judged_kept : (x : Option Kind) (us vs : List Terminal) → judged x (tt {0}) ts us ≡ Ok (tt {0}, vs) → x ≡ None
    judged_kept None us vs reads = refl
    judged_kept (Some kind) us vs reads = cc

    pub form_deep : (us : List Terminal) → judged k (tt {0}) ts (drop 1 ts) ≡ Ok (tt {0}, us) → at_inside d f ≡ None
    form_deep us reads = (lesser_kept (when s.full (Limit OfConstraints)) (at_inside d f) (sym is ∙ judged_kept k (drop 1 ts) us reads)).1

-- 2. A constraint, by its name and by what follows
module _ (p : Problem) (d : ℕ) (s : Before) (ts : List Terminal) where
  constraint_is : constraint_at p d s ts ≡ go_on (form_at d s ts) (behind_form p s (within (constraint_at p) (depth_inside d)))
  unfolding constraint_at
  constraint_is = by d
    where
      by : (d : ℕ) → constraint_at p d s ts ≡ go_on (form_at d s ts) (behind_form p s (within (constraint_at p) (depth_inside d)))
      by zero = refl
      by (suc d) = refl

  pub name_stops : (e : Stop) → Stops e (form_at d s ts) → Stops e (constraint_at p d s ts)
  name_stops e stops = subst (λ r. Stops e r) (sym constraint_is) (stops_first e (form_at d s ts) (behind_form p s (within (constraint_at p) (depth_inside d))) stops)

  module _ {A : Type 0} (view : A → Con × List Terminal) (result : Result A Stop) (q : Problem) (same : q ≡ p) (us : List Terminal) where
    behind_gives : (f : Form) → form_at d s ts ≡ Ok (f, us) → Gives view result (behind_form p s (within (constraint_at p) (depth_inside d)) f us) → Gives view result (constraint_at p d s ts)
    behind_gives f is gives =
        gives_same view result (go_on (form_at d s ts) (behind_form p s (within (constraint_at p) (depth_inside d)))) (constraint_at p d s ts) constraint_is
        (gives_second view result (form_at d s ts) (behind_form p s (within (constraint_at p) (depth_inside d))) f us is gives)

    pub leaf_gives : (f : Leaf) → form_at d s ts ≡ Ok (of_leaf f, us) → Gives view result (leaf_at q s.cells f us) → Gives view result (constraint_at p d s ts)
    leaf_gives f is gives = behind_gives (of_leaf f) is (subst (λ (x : Problem). Gives view result (leaf_at x s.cells f us)) same gives)

    -- one may stand inside
    below : (e : ℕ) → at_inside e (of_tie Reify) ≡ None → depth_inside e ≡ Some (e - 1)
    below zero deep = cc
    below (suc e) deep = let less : suc e - 1 ≡ e = omega arith in ap (λ x. Some x) (sym less)

    pub gather_gives : (g : Gather) → form_at d s ts ≡ Ok (of_gather g, us) → at_inside d (of_gather g) ≡ None → Gives view result (gather_at s.cells (constraint_at q (d - 1)) g us) → Gives view result (constraint_at p d s ts)
    gather_gives g is deep gives =
        behind_gives (of_gather g) is
        (subst (λ (o : Option ℕ). Gives view result (gather_at s.cells (within (constraint_at p) o) g us)) (sym (below d deep))
        (subst (λ (x : Problem). Gives view result (gather_at s.cells (constraint_at x (d - 1)) g us)) same gives))

    pub tie_gives : (t : Tie) → form_at d s ts ≡ Ok (of_tie t, us) → at_inside d (of_tie t) ≡ None → Gives view result (tie_at q s.cells (constraint_at q (d - 1)) t us) → Gives view result (constraint_at p d s ts)
    tie_gives t is deep gives =
        behind_gives (of_tie t) is
        (subst (λ (o : Option ℕ). Gives view result (tie_at p s.cells (within (constraint_at p) o) t us)) (sym (below d deep))
        (subst (λ (x : Problem). Gives view result (tie_at x s.cells (constraint_at x (d - 1)) t us)) same gives))

-- 3. What follows the name of a form of several constraints
module _ (p : Problem) (d n : ℕ) (g : Gather) (ts : List Terminal) where
  abbrev closing : List Con → Reader Con
  closing cs = then_read (mark_at MarksOnly CloseRound None) (λ u. ret (gathered g cs))

  abbrev listing : Unit {0} → Reader Con
  listing u = then_read (children_behind p d n) closing

  abbrev opening : Unit {0} → Reader Con
  opening u = then_read (mark_at MarksOnly OpenCurly None) listing

  gather_is : gather_at n (constraint_at p d) g ts ≡ go_on (mark_at MarksOnly OpenRound None ts) opening
  unfolding gather_at children_behind
  gather_is = refl

  pub gather_round_stops : (e : Stop) → Stops e (mark_at MarksOnly OpenRound None ts) → Stops e (gather_at n (constraint_at p d) g ts)
  gather_round_stops e stops = subst (λ r. Stops e r) (sym gather_is) (stops_first e (mark_at MarksOnly OpenRound None ts) opening stops)

  module _ (us : List Terminal) (round : mark_at MarksOnly OpenRound None ts ≡ Ok (tt {0}, us)) where
    behind_round : gather_at n (constraint_at p d) g ts ≡ go_on (mark_at MarksOnly OpenCurly None us) listing
    behind_round = gather_is ∙ ap (λ r. go_on r opening) round

    pub gather_curly_stops : (e : Stop) → Stops e (mark_at MarksOnly OpenCurly None us) → Stops e (gather_at n (constraint_at p d) g ts)
    gather_curly_stops e stops = subst (λ r. Stops e r) (sym behind_round) (stops_first e (mark_at MarksOnly OpenCurly None us) listing stops)

    module _ (vs : List Terminal) (curly : mark_at MarksOnly OpenCurly None us ≡ Ok (tt {0}, vs)) (q : Problem) (same : q ≡ p) where
      behind_curly : gather_at n (constraint_at p d) g ts ≡ go_on (children_behind q d n vs) closing
      behind_curly = behind_round ∙ ap (λ r. go_on r listing) curly ∙ ap (λ (x : Problem). go_on (children_behind x d n vs) closing) (sym same)

      pub gather_children_stop : (e : Stop) → Stops e (children_behind q d n vs) → Stops e (gather_at n (constraint_at p d) g ts)
      gather_children_stop e stops = subst (λ r. Stops e r) (sym behind_curly) (stops_first e (children_behind q d n vs) closing stops)

      module _ (cs : List Con) (ws : List Terminal) (listed : children_behind q d n vs ≡ Ok (cs, ws)) where
        behind_children : gather_at n (constraint_at p d) g ts ≡ go_on (mark_at MarksOnly CloseRound None ws) (λ u. ret (gathered g cs))
        behind_children = behind_curly ∙ ap (λ r. go_on r closing) listed

        pub gather_close_stops : (e : Stop) → Stops e (mark_at MarksOnly CloseRound None ws) → Stops e (gather_at n (constraint_at p d) g ts)
        gather_close_stops e stops = subst (λ r. Stops e r) (sym behind_children) (stops_first e (mark_at MarksOnly CloseRound None ws) (λ u. ret (gathered g cs)) stops)

        pub gather_reads : (xs : List Terminal) (c : Con) → mark_at MarksOnly CloseRound None ws ≡ Ok (tt {0}, xs) → c ≡ gathered g cs → gather_at n (constraint_at p d) g ts ≡ Ok (c, xs)
        gather_reads xs c closed made = behind_children ∙ ap (λ r. go_on r (λ u. ret (gathered g cs))) closed ∙ ap (λ x. Ok (x, xs)) (sym made)

-- 4. The 0/1 term behind a constraint
module _ (p : Problem) (ts : List Terminal) where
  abbrev bit_term : Unit {0} → Reader Term
  bit_term u = then_read (entry_at p (a_term p true)) closed_term

  bit_is : bit_at p ts ≡ go_on (mark_at MarksOnly Comma None ts) bit_term
  unfolding bit_at
  bit_is = refl

  pub bit_comma_stops : (e : Stop) → Stops e (mark_at MarksOnly Comma None ts) → Stops e (bit_at p ts)
  bit_comma_stops e stops = subst (λ r. Stops e r) (sym bit_is) (stops_first e (mark_at MarksOnly Comma None ts) bit_term stops)

  module _ (us : List Terminal) (comma : mark_at MarksOnly Comma None ts ≡ Ok (tt {0}, us)) (q : Problem) (same : q ≡ p) where
    behind_comma : bit_at p ts ≡ go_on (entry_at q (a_term q true) us) closed_term
    behind_comma = bit_is ∙ ap (λ r. go_on r bit_term) comma ∙ ap (λ (x : Problem). go_on (entry_at x (a_term x true) us) closed_term) (sym same)

    pub bit_term_stops : (e : Stop) → Stops e (entry_at q (a_term q true) us) → Stops e (bit_at p ts)
    bit_term_stops e stops = subst (λ r. Stops e r) (sym behind_comma) (stops_first e (entry_at q (a_term q true) us) closed_term stops)

    module _ (v : Placed) (vs : List Terminal) (term : entry_at q (a_term q true) us ≡ Ok (v, vs)) (k : Option Kind) (is : k ≡ as_kind v.behind) where
      behind_term : bit_at p ts ≡ go_on (mark_at MarksOnly CloseRound k vs) (λ u. ret (term_of v.terms))
      behind_term = behind_comma ∙ ap (λ r. go_on r closed_term) term ∙ ap (λ x. go_on (mark_at MarksOnly CloseRound x vs) (λ u. ret (term_of v.terms))) (sym is)

      pub bit_close_stops : (e : Stop) → Stops e (mark_at MarksOnly CloseRound k vs) → Stops e (bit_at p ts)
      bit_close_stops e stops = subst (λ r. Stops e r) (sym behind_term) (stops_first e (mark_at MarksOnly CloseRound k vs) (λ u. ret (term_of v.terms)) stops)

      pub bit_reads : (ws : List Terminal) (r : Term) → mark_at MarksOnly CloseRound k vs ≡ Ok (tt {0}, ws) → r ≡ term_of v.terms → bit_at p ts ≡ Ok (r, ws)
      bit_reads ws r closed made = behind_term ∙ ap (λ x. go_on x (λ u. ret (term_of v.terms))) closed ∙ ap (λ x. Ok (x, ws)) (sym made)

-- 5. What follows the name of a form of a constraint and a 0/1 term
joined_parts : {U V W : Type 0} (a : Answer U) (b : U → Reader V) (k : V → Reader W) → go_on (go_on a b) k ≡ go_on a (λ x. then_read (b x) k)
joined_parts (Err e) b k = refl
joined_parts (Ok (x, us)) b k = refl

module _ (p : Problem) (d n : ℕ) (t : Tie) (ts : List Terminal) where
  abbrev with_bit : Con → Reader Con
  with_bit c = then_read (bit_at p) (λ r. ret (tied t c r))

  abbrev inner : Unit {0} → Reader Con
  inner u = then_read (constraint_at p d (inside n)) with_bit

  bit_then : (c : Con) (us : List Terminal) →
      then_read (mark_at MarksOnly Comma None) (λ u. then_read (entry_at p (a_term p true)) (λ v. then_read (mark_at MarksOnly CloseRound (as_kind v.behind)) (λ u. ret (tied t c (term_of v.terms))))) us ≡ with_bit c us
  bit_then c us = sym (
      ap (λ r. go_on r (λ r. ret (tied t c r))) (bit_is p us)
      ∙ joined_parts (mark_at MarksOnly Comma None us) (λ u. then_read (entry_at p (a_term p true)) closed_term) (λ r. ret (tied t c r))
      ∙ (λ i. go_on (mark_at MarksOnly Comma None us) (λ u vs. term_then vs i))
      )
    where
      term_then : (vs : List Terminal) → go_on (go_on (entry_at p (a_term p true) vs) closed_term) (λ r. ret (tied t c r)) ≡ go_on (entry_at p (a_term p true) vs) (λ v. then_read (mark_at MarksOnly CloseRound (as_kind v.behind)) (λ u. ret (tied t c (term_of v.terms))))
      term_then vs =
          joined_parts (entry_at p (a_term p true) vs) closed_term (λ r. ret (tied t c r))
          ∙ (λ i. go_on (entry_at p (a_term p true) vs) (λ v ws. joined_parts (mark_at MarksOnly CloseRound (as_kind v.behind) ws) (λ u. ret (term_of v.terms)) (λ r. ret (tied t c r)) i))

  tie_is : tie_at p n (constraint_at p d) t ts ≡ go_on (mark_at MarksOnly OpenRound None ts) inner
  unfolding tie_at
  tie_is = λ i. go_on (mark_at MarksOnly OpenRound None ts) (λ u. then_read (constraint_at p d (inside n)) (λ c us. bit_then c us i))

  pub tie_round_stops : (e : Stop) → Stops e (mark_at MarksOnly OpenRound None ts) → Stops e (tie_at p n (constraint_at p d) t ts)
  tie_round_stops e stops = subst (λ r. Stops e r) (sym tie_is) (stops_first e (mark_at MarksOnly OpenRound None ts) inner stops)

  module _ (us : List Terminal) (round : mark_at MarksOnly OpenRound None ts ≡ Ok (tt {0}, us)) (q : Problem) (same : q ≡ p) where
    behind_opening : tie_at p n (constraint_at p d) t ts ≡ go_on (constraint_at q d (inside n) us) with_bit
    behind_opening = tie_is ∙ ap (λ r. go_on r inner) round ∙ ap (λ (x : Problem). go_on (constraint_at x d (inside n) us) with_bit) (sym same)

    pub tie_child_stops : (e : Stop) → Stops e (constraint_at q d (inside n) us) → Stops e (tie_at p n (constraint_at p d) t ts)
    tie_child_stops e stops = subst (λ r. Stops e r) (sym behind_opening) (stops_first e (constraint_at q d (inside n) us) with_bit stops)

    module _ (c : Con) (vs : List Terminal) (child : constraint_at q d (inside n) us ≡ Ok (c, vs)) (o : Problem) (alike : o ≡ p) where
      behind_child : tie_at p n (constraint_at p d) t ts ≡ go_on (bit_at o vs) (λ r. ret (tied t c r))
      behind_child = behind_opening ∙ ap (λ r. go_on r with_bit) child ∙ ap (λ (x : Problem). go_on (bit_at x vs) (λ r. ret (tied t c r))) (sym alike)

      pub tie_bit_stops : (e : Stop) → Stops e (bit_at o vs) → Stops e (tie_at p n (constraint_at p d) t ts)
      tie_bit_stops e stops = subst (λ r. Stops e r) (sym behind_child) (stops_first e (bit_at o vs) (λ r. ret (tied t c r)) stops)

      pub tie_reads : (r : Term) (ws : List Terminal) (whole : Con) → bit_at o vs ≡ Ok (r, ws) → whole ≡ tied t c r → tie_at p n (constraint_at p d) t ts ≡ Ok (whole, ws)
      tie_reads r ws whole bit made = behind_child ∙ ap (λ x. go_on x (λ r. ret (tied t c r))) bit ∙ ap (λ x. Ok (x, ws)) (sym made)

-- 6. Constraints inside, one behind another
module _ (p : Problem) (d n : ℕ) (ts : List Terminal) where
  pub children_stop : is_some (first_as (which_mark CloseCurly) ts) ≡ true → (e : Stop) → Stops e (mark_at MarksOnly CloseCurly None ts) → Stops e (children_behind p d n ts)
  unfolding children_behind
  children_stop there e stops = shut_stops CloseCurly child_ends None [] with_child (child_at p d n) [] ts there e stops

  pub no_children : is_some (first_as (which_mark CloseCurly) ts) ≡ true → (us : List Terminal) → mark_at MarksOnly CloseCurly None ts ≡ Ok (tt {0}, us) → children_behind p d n ts ≡ Ok ([], us)
  unfolding children_behind
  no_children there us reads = shut_reads CloseCurly child_ends None [] with_child (child_at p d n) [] ts there us reads

  pub some_children_are : is_some (first_as (which_mark CloseCurly) ts) ≡ false → children_behind p d n ts ≡ children_from p d n [] ts
  unfolding children_behind children_from
  some_children_are absent = opened CloseCurly child_ends None [] with_child (child_at p d n) [] ts absent

  pub children_start : (cs : List Con) → cs ≡ [] → items_at CloseCurly child_ends with_child (child_at p d n) cs ts ≡ children_from p d n [] ts
  unfolding children_from
  children_start cs none = ap (λ l. items_at CloseCurly child_ends with_child (child_at p d n) l ts) none

pub child_leaves : (p : Problem) (d n : ℕ) (cs : List Con) (ts : List Terminal) (c : Con) (us : List Terminal) → child_at p d n cs ts ≡ Ok (c, us) → length us ≤ length ts
child_leaves p d n cs ts c us is =
    read_leaves (constraint_spec p d (inside (cells_behind n cs))) (constraint_at p d (inside (cells_behind n cs))) (constraint_law p d (inside (cells_behind n cs))) ts c us is

-- 7. Their cells
pub gathered_cells : (g : Gather) (cs : List Con) → cell_count (gathered g cs) ≡ total cell_count cs
gathered_cells Or cs = cells_many cs
gathered_cells And cs = cells_many cs

pub tied_cells : (t : Tie) (c : Con) (r : Term) → cell_count (tied t c r) ≡ cell_count c
tied_cells Reify c r = refl
tied_cells Reifyimply c r = refl

-- what holds anyway holds of a result
pub if_ok : {A E P : Type 0} (r : Result A E) → P → IfOk r (λ a. P)
if_ok (Ok a) holds = holds
if_ok (Err e) holds = tt

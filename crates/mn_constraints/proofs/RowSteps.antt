-- What a row of arguments answers, argument by argument.
use Rattle.std.proofs.Common.{◌≡◌, ◌+◌, ◌-◌, ◌<◌, ◌≤◌, ℕ, List, [], ◌∷◌, ◌++◌, length, take, drop, get_or, Option, Some, None, Ok, Err, refl, sym, ap, ◌∙◌, subst, arith}
use Rattle.std.proofs.Math.Seq.{take-length}
use Rattle.mn_lexer.specs.Terminals.{Terminal}
use Rattle.mn_lexer.specs.declared.marks.Mark.{Mark}
use Rattle.mn_lexer.specs.declared.marks.Mark.TheVariants.{CloseRound, Comma, OpenRound}
use Rattle.mn_model.specs.Problem.{Problem}
use Rattle.mn_model.specs.declared.constraint.Con.{Con}
use Rattle.mn_grammar.specs.Gives.{Stops}
use Rattle.mn_grammar.specs.Reading.{Answer, Reader, go_on, classed, mark_at, which_mark, ret, then_read}
use Rattle.mn_grammar.specs.Rows.{more_at, row_at}
use Rattle.mn_grammar.specs.declared.Fault.{Fault}
use Rattle.mn_grammar.specs.declared.Kind.{Kind}
use Rattle.mn_grammar.specs.declared.Stop.{Stop}
use Rattle.mn_grammar.specs.declared.Stop.TheVariants.{Refused, NoMemory}
use Rattle.mn_grammar.specs.declared.site.Site.TheVariants.{MarksOnly}
use Rattle.mn_cursor.proofs.Turning.{stops_first, stops_second}
use Rattle.mn_references.proofs.Unbroken.{as_kind_kept}
use Rattle.mn_language.specs.Arguments.{Value, of_terms, behind_argument, behind_value}
use Rattle.mn_language.specs.Constructing.{argument_at, leaf_at}
use Rattle.mn_language.specs.Constraints.{meaning}
use Rattle.mn_language.specs.Forms.{form_line}
use Rattle.mn_language.specs.Values.{value_seen}
use Rattle.mn_language.specs.declared.forms.Argument.{Argument}
use Rattle.mn_language.specs.declared.forms.Argument.TheVariants as takes
use Rattle.mn_language.specs.declared.forms.Leaf.{Leaf}
use Rattle.mn_language.specs.declared.values.Value.{Value as Kept}
use Rattle.mn_language.specs.declared.values.Value.TheVariants as kept
use Rattle.mn_language.proofs.LawfulArguments.{last_is}
use Rattle.mn_constraints.specs.Filling.{argued_seen, argument_then_at, with_behind}
use Rattle.mn_constraints.specs.declared.arguments.Argued.{Argued}

-- 1. A part and the mark behind it, and what goes on with the part
pub err_stops : (V W : Type 0) (f : Fault) (e : Stop) → Stops {V = V} e (Err f) → Stops {V = W} e (Err f)
err_stops V W f (Refused g) stops = let same : f ≡ g = cc in ap (λ x. Err x) same
err_stops V W f NoMemory stops = tt

module _ {V W : Type 0} where
  unit_then : (r : Answer (Unit {0})) (x v : V) (us : List Terminal) (b : V → Reader W) → go_on r (λ u. ret x) ≡ Ok (v, us) → go_on r (λ u. b x) ≡ b v us
  unit_then (Err e) x v us b is = cc
  unit_then (Ok (u, xs)) x v us b is = let same : ◌≡◌ {A = V × List Terminal} (x, xs) (v, us) = cc in ap (λ (y : V × List Terminal). b y.0 y.1) same

  unit_stops : (r : Answer (Unit {0})) (x : V) (b : V → Reader W) (e : Stop) → Stops e (go_on {W = V} r (λ u. ret x)) → Stops e (go_on r (λ u. b x))
  unit_stops (Err f) x b e stops = err_stops V W f e stops
  unit_stops (Ok (u, xs)) x b (Refused g) stops = cc
  unit_stops (Ok (u, xs)) x b NoMemory stops = tt

  pub pair_then : (r : Answer V) (q : V → Reader (Unit {0})) (b : V → Reader W) (v : V) (us : List Terminal) → go_on r (λ x. then_read (q x) (λ u. ret x)) ≡ Ok (v, us) → go_on r (λ x. then_read (q x) (λ u. b x)) ≡ b v us
  pair_then (Err e) q b v us is = cc
  pair_then (Ok (x, xs)) q b v us is = unit_then (q x xs) x v us b is

  pub pair_stops : (r : Answer V) (q : V → Reader (Unit {0})) (b : V → Reader W) (e : Stop) → Stops e (go_on {W = V} r (λ x. then_read (q x) (λ u. ret x))) → Stops e (go_on r (λ x. then_read (q x) (λ u. b x)))
  pair_stops (Err f) q b e stops = err_stops V W f e stops
  pair_stops (Ok (x, xs)) q b e stops = unit_stops (q x xs) x b e stops

-- 2. An argument and the mark behind it
mark_kept : (m : Mark) (k : Option Kind) (ts us : List Terminal) → mark_at MarksOnly m k ts ≡ Ok (tt {0}, us) → k ≡ None
unfolding mark_at
mark_kept m None ts us is = refl
mark_kept m (Some kind) [] us is = cc
mark_kept m (Some kind) (t ∷ ts) us is = by (which_mark m t) is
  where
    by : (o : Option (Unit {0})) → classed MarksOnly (λ u. Some kind) o (t ∷ ts) ts ≡ Ok (tt {0}, us) → Some kind ≡ None
    by None e = cc
    by (Some u) e = cc

-- where the mark behind it is read, nothing is broken at its end
settled : (a : Argued) → behind_value (argued_seen a) ≡ None → argued_seen a ≡ value_seen a.value
settled a none = by a.value none
  where
    by : (v : Kept) → behind_value (with_behind (value_seen v) a.behind) ≡ None → with_behind (value_seen v) a.behind ≡ value_seen v
    by kept.Nothing e = refl
    by (kept.Terms terms) e = ap (λ o. of_terms terms o) (as_kind_kept a.behind e)
    by (kept.Numbers zs) e = refl
    by (kept.Tuples tab) e = refl

module _ (p : Problem) (used : ℕ) (k : Argument) (vs : List Value) (m : Mark) (ts : List Terminal) where
  pub argument_stops : (e : Stop) → Stops e (argument_at p used k vs ts) → Stops e (argument_then_at p used k vs m ts)
  unfolding argument_then_at
  argument_stops e stops = stops_first e (argument_at p used k vs ts) (λ v. then_read (mark_at MarksOnly m (behind_value v)) (λ u. ret v)) stops

  module _ (a : Argued) (us : List Terminal) (reads : argument_at p used k vs ts ≡ Ok (argued_seen a, us)) (kind : Option Kind) (is : kind ≡ behind_value (argued_seen a)) where
    pub behind_stops : (e : Stop) → Stops e (mark_at MarksOnly m kind us) → Stops e (argument_then_at p used k vs m ts)
    unfolding argument_then_at
    behind_stops e stops =
        stops_second e (argument_at p used k vs ts) (λ v. then_read (mark_at MarksOnly m (behind_value v)) (λ u. ret v)) (argued_seen a) us reads
        (stops_first e (mark_at MarksOnly m (behind_value (argued_seen a)) us) (λ u. ret (argued_seen a)) (subst (λ x. Stops e (mark_at MarksOnly m x us)) is stops))

    pub argument_reads : (ws : List Terminal) → mark_at MarksOnly m kind us ≡ Ok (tt {0}, ws) → argument_then_at p used k vs m ts ≡ Ok (value_seen a.value, ws)
    unfolding argument_then_at
    argument_reads ws marked =
        ap (λ r. go_on r (λ v. then_read (mark_at MarksOnly m (behind_value v)) (λ u. ret v))) reads
        ∙ ap (λ r. go_on r (λ u. ret (argued_seen a))) (ap (λ x. mark_at MarksOnly m x us) (sym is) ∙ marked)
        ∙ ap (λ v. Ok (v, ws)) (settled a (sym is ∙ mark_kept m kind us ws marked))

-- 3. The row
module _ (p : Problem) (used : ℕ) where
  abbrev pub row_from : Argument → List Argument → List Value → Reader (List Value)
  row_from k others vs = more_at behind_argument (argument_at p used) k others vs

  module _ (k : Argument) (vs : List Value) (ts : List Terminal) where
    abbrev on_with : Mark → (Value → Reader (List Value)) → Answer (List Value)
    on_with m b = go_on (argument_at p used k vs ts) (λ v. then_read (mark_at MarksOnly m (behind_value v)) (λ u. b v))

    more_is : (l : Argument) (others : List Argument) → row_from k (l ∷ others) vs ts ≡ on_with Comma (λ v. row_from l others (vs ++ v ∷ []))
    more_is l others = λ i. go_on (argument_at p used k vs ts) (λ v. then_read (mark_at MarksOnly Comma (last_is vs v i)) (λ u. row_from l others (vs ++ v ∷ [])))

    end_is : row_from k [] vs ts ≡ on_with CloseRound (λ v. ret (vs ++ v ∷ []))
    end_is = λ i. go_on (argument_at p used k vs ts) (λ v. then_read (mark_at MarksOnly CloseRound (last_is vs v i)) (λ u. ret (vs ++ v ∷ [])))

    pub row_stops : (l : Argument) (others : List Argument) (e : Stop) → Stops e (argument_then_at p used k vs Comma ts) → Stops e (row_from k (l ∷ others) vs ts)
    unfolding argument_then_at
    row_stops l others e stops =
        subst (λ r. Stops e r) (sym (more_is l others))
        (pair_stops (argument_at p used k vs ts) (λ v. mark_at MarksOnly Comma (behind_value v)) (λ v. row_from l others (vs ++ v ∷ [])) e stops)

    pub row_on : (l : Argument) (others : List Argument) (v : Value) (us : List Terminal) → argument_then_at p used k vs Comma ts ≡ Ok (v, us) → row_from k (l ∷ others) vs ts ≡ row_from l others (vs ++ v ∷ []) us
    unfolding argument_then_at
    row_on l others v us is =
        more_is l others ∙ pair_then (argument_at p used k vs ts) (λ v. mark_at MarksOnly Comma (behind_value v)) (λ v. row_from l others (vs ++ v ∷ [])) v us is

    pub last_stops : (e : Stop) → Stops e (argument_then_at p used k vs CloseRound ts) → Stops e (row_from k [] vs ts)
    unfolding argument_then_at
    last_stops e stops =
        subst (λ r. Stops e r) (sym end_is)
        (pair_stops (argument_at p used k vs ts) (λ v. mark_at MarksOnly CloseRound (behind_value v)) (λ v. ret (vs ++ v ∷ [])) e stops)

    pub last_on : (v : Value) (us : List Terminal) → argument_then_at p used k vs CloseRound ts ≡ Ok (v, us) → row_from k [] vs ts ≡ Ok (vs ++ v ∷ [], us)
    unfolding argument_then_at
    last_on v us is =
        end_is ∙ pair_then (argument_at p used k vs ts) (λ v. mark_at MarksOnly CloseRound (behind_value v)) (λ v. ret (vs ++ v ∷ [])) v us is

-- with what is left of the kinds of arguments
module _ (p : Problem) (used : ℕ) (k : Argument) (vs : List Value) (ts : List Terminal) (r : Answer (List Value)) (q : Problem) (same_problem : q ≡ p) where
  pub some_stops : (left : List Argument) → row_from p used k left vs ts ≡ r → 1 ≤ length left → (e : Stop) → Stops e (argument_then_at q used k vs Comma ts) → Stops e r
  some_stops [] same some e stops = absurd (omega arith)
  some_stops (l ∷ others) same some e stops = subst (λ a. Stops e a) same (row_stops p used k vs ts l others e (subst (λ (x : Problem). Stops e (argument_then_at x used k vs Comma ts)) same_problem stops))

  one_fewer : (l : Argument) (others : List Argument) → take (length (l ∷ others) - 1) others ≡ others
  one_fewer l others = let less : length (l ∷ others) - 1 ≡ length others = omega arith in ap (λ n. take n others) less ∙ take-length others

  pub some_on : (left : List Argument) → row_from p used k left vs ts ≡ r → 1 ≤ length left → (v : Value) (ws : List Value) (us : List Terminal) → ws ≡ vs ++ v ∷ [] → argument_then_at q used k vs Comma ts ≡ Ok (v, us) → row_from p used (get_or left 0 takes.Term) (take (length left - 1) (drop 1 left)) ws us ≡ r
  some_on [] same some v ws us is reads = absurd (omega arith)
  some_on (l ∷ others) same some v ws us is reads =
      ap (λ (m : List Argument). row_from p used l m ws us) (one_fewer l others)
      ∙ ap (λ (x : List Value). row_from p used l others x us) is
      ∙ sym (row_on p used k vs ts l others v us (subst (λ (x : Problem). argument_then_at x used k vs Comma ts ≡ Ok (v, us)) same_problem reads))
      ∙ same

  pub none_stops : (left : List Argument) → row_from p used k left vs ts ≡ r → length left < 1 → (e : Stop) → Stops e (argument_then_at q used k vs CloseRound ts) → Stops e r
  none_stops [] same none e stops = subst (λ a. Stops e a) same (last_stops p used k vs ts e (subst (λ (x : Problem). Stops e (argument_then_at x used k vs CloseRound ts)) same_problem stops))
  none_stops (l ∷ others) same none e stops = absurd (omega arith)

  pub none_on : (left : List Argument) → row_from p used k left vs ts ≡ r → length left < 1 → (v : Value) (ws : List Value) (us : List Terminal) → ws ≡ vs ++ v ∷ [] → argument_then_at q used k vs CloseRound ts ≡ Ok (v, us) → r ≡ Ok (ws, us)
  none_on [] same none v ws us is reads =
      sym same
      ∙ last_on p used k vs ts v us (subst (λ (x : Problem). argument_then_at x used k vs CloseRound ts ≡ Ok (v, us)) same_problem reads)
      ∙ ap (λ (x : List Value). Ok (x, us)) (sym is)
  none_on (l ∷ others) same none v ws us is reads = absurd (omega arith)

pub fewer : (n m : ℕ) (left : List Argument) → n + length left ≤ 2 → 1 ≤ length left → m ≡ n + 1 → m + length (take (length left - 1) (drop 1 left)) ≤ 2
fewer n m [] few some is = absurd (omega arith)
fewer n m (l ∷ others) few some is =
    let less : length (l ∷ others) - 1 ≡ length others = omega arith in
    let size : length (take (length (l ∷ others) - 1) others) ≡ length others = ap (λ x. length (take x others)) less ∙ ap length (take-length others) in
    omega (arith, few, is, size)

-- 4. What follows the name of a form without others inside
module _ (p : Problem) (used : ℕ) (f : Leaf) (ts : List Terminal) where
  abbrev filled : List Value → Reader Con
  filled vs = ret (meaning f vs)

  abbrev filling : Unit {0} → Reader Con
  filling u = then_read (row_at behind_argument (argument_at p used) (form_line f).takes) filled

  leaf_is : leaf_at p used f ts ≡ go_on (mark_at MarksOnly OpenRound None ts) filling
  unfolding leaf_at
  leaf_is = refl

  pub leaf_round_stops : (e : Stop) → Stops e (mark_at MarksOnly OpenRound None ts) → Stops e (leaf_at p used f ts)
  leaf_round_stops e stops = subst (λ r. Stops e r) (sym leaf_is) (stops_first e (mark_at MarksOnly OpenRound None ts) filling stops)

  module _ (us : List Terminal) (round : mark_at MarksOnly OpenRound None ts ≡ Ok (tt {0}, us)) (q : Problem) (same : q ≡ p) (row : List Argument) (are : row ≡ (form_line f).takes) where
    behind_round : leaf_at p used f ts ≡ go_on (row_at behind_argument (argument_at q used) row us) filled
    behind_round =
        leaf_is ∙ ap (λ r. go_on r filling) round
        ∙ ap (λ (x : Problem). go_on (row_at behind_argument (argument_at x used) (form_line f).takes us) filled) (sym same)
        ∙ ap (λ (x : List Argument). go_on (row_at behind_argument (argument_at q used) x us) filled) (sym are)

    pub leaf_row_stops : (e : Stop) → Stops e (row_at behind_argument (argument_at q used) row us) → Stops e (leaf_at p used f ts)
    leaf_row_stops e stops = subst (λ r. Stops e r) (sym behind_round) (stops_first e (row_at behind_argument (argument_at q used) row us) filled stops)

    pub leaf_reads : (vs : List Value) (ws : List Terminal) (c : Con) → row_at behind_argument (argument_at q used) row us ≡ Ok (vs, ws) → c ≡ meaning f vs → leaf_at p used f ts ≡ Ok (c, ws)
    leaf_reads vs ws c reads made = behind_round ∙ ap (λ r. go_on r filled) reads ∙ ap (λ x. Ok (x, ws)) (sym made)

-- What the items of the section on search answer, by their parts.
use Rattle.std.proofs.Common.{◌≡◌, ◌⊎◌, [], ◌∷◌, ℕ, ◌<◌, ◌≤◌, Bool, true, false, List, length, replicate, drop, slice_get, Option, Some, None, Result, Ok, Err, refl, sym, ap, ◌∙◌, subst, inl, inr, arith}
use Rattle.mn_lexer.specs.Terminals.{Terminal}
use Rattle.mn_lexer.specs.declared.marks.Mark.TheVariants.{OpenSquare}
use Rattle.mn_model.specs.Problem.{Problem}
use Rattle.mn_model.specs.declared.constraint.Term.{Term}
use Rattle.mn_model.specs.declared.search.Print.{Print}
use Rattle.mn_model.specs.declared.search.Print.TheVariants as printed
use Rattle.mn_model.specs.declared.variable.VarId.{VarId}
use Rattle.mn_grammar.specs.Reading.{Answer, go_on, one, one_of, mark_at, ret, which_of, either_of, judged, refused, fault_at}
use Rattle.mn_grammar.specs.Gives.{Gives, Stops}
use Rattle.mn_grammar.specs.declared.Kind.{Kind}
use Rattle.mn_grammar.specs.declared.Stop.{Stop}
use Rattle.mn_grammar.specs.declared.Stop.TheVariants.{Refused}
use Rattle.mn_grammar.specs.declared.site.Site.TheVariants.{Fixed, MarksOnly}
use Rattle.mn_cursor.proofs.Turning.{stops_first, stops_same, one_leaves, read_leaves, first_stops, item_stops, item_goes_on, body_ends}
use Rattle.mn_cursor.proofs.Looking.{one_seen, unseen_stops, seen_stops, seen_reads}
use Rattle.mn_cursor.specs.Heads.{head_of}
use Rattle.mn_cursor.specs.Looks.{first_as}
use Rattle.mn_cursor.specs.declared.heads.Head.{Head}
use Rattle.mn_references.specs.Conditions.{as_kind}
use Rattle.mn_cursor.specs.Progress.{Progress, rest, Moves, SameText}
use Rattle.mn_cursor.specs.declared.asked.Asked.{Asked}
use Rattle.mn_references.specs.References.{Found, one_place}
use Rattle.mn_references.specs.declared.want.Unfit.{Unfit}
use Rattle.mn_references.specs.Entries.{Rows}
use Rattle.mn_references.specs.Referring.{ref_at, row_at}
use Rattle.mn_references.proofs.Referable.{ref_spec, ref_law}
use Rattle.mn_references.proofs.Listable.{row_spec, row_law}
use Rattle.mn_references.proofs.Stepping.{gives_second}
use Rattle.mn_asking.specs.Asking.{asking_behind, asking_of, goal_at}
use Rattle.mn_asking.specs.Search.{Asking, ItemWord, item_token, at_word, says_order, says_values, maximises, minimises, prints, goal_word, order_aim, way_token, at_way, first_of, with_order, with_values, with_goal, with_print}
use Rattle.mn_asking.specs.Searching.{static_token, both, no_break, behind_static, order_at, var_order_at, way_at, ways_at, val_order_at, PrintStart, all, none, listed, print_token, print_starts, rows_at, behind_print, print_at, item_rest, item_words, which_item, at_item, item_first, ended, search_at}
use Rattle.mn_asking.proofs.Askable.{item_spec, item_law}

-- the readers of entries leave no more than there was
pub ref_leaves : (p : Problem) (before : List VarId) (ts : List Terminal) (f : Found) (us : List Terminal) → ref_at p (order_aim before) ts ≡ Ok (f, us) → length us ≤ length ts
ref_leaves p before ts f us is = read_leaves (ref_spec p (order_aim before)) (ref_at p (order_aim before)) (ref_law p (order_aim before)) ts f us is

pub way_leaves : (wanted : ℕ) (before : List Bool) (ts : List Terminal) (d : Bool) (us : List Terminal) → way_at wanted before ts ≡ Ok (d, us) → length us ≤ length ts
unfolding way_at one_of
way_leaves wanted before ts d us is = let less = one_leaves Fixed (which_of way_token both) (at_way wanted before) ts d us is in omega arith

pub row_leaves : (p : Problem) (before : List (List Term)) (ts : List Terminal) (r : Rows) (us : List Terminal) → row_at p ts ≡ Ok (r, us) → length us ≤ length ts
row_leaves p before ts r us is = read_leaves (row_spec p) (row_at p) (row_law p) ts r us is

-- VARORDER, by STATIC and the `[`
module _ {A : Type 0} (view : A → List VarId × List Terminal) (result : Result A Stop) (p : Problem) (ts : List Terminal) where
  pub static_gives : (q : Problem) (b : Bool) (us : List Terminal) → q ≡ p → b ≡ true → mark_at MarksOnly OpenSquare None ts ≡ Ok (tt {0}, us) → Gives view result (order_at q us) → Gives view result (behind_static p b ts)
  unfolding behind_static
  static_gives q b us same on is gives =
      subst (λ x. Gives view result (behind_static p x ts)) (sym on)
      (gives_second view result (mark_at MarksOnly OpenSquare None ts) (λ u. order_at p) (tt {0}) us is (subst (λ (r : Problem). Gives view result (order_at r us)) same gives))

  pub no_static_gives : (b : Bool) → b ≡ false → Gives view result (order_at p ts) → Gives view result (behind_static p b ts)
  unfolding behind_static
  no_static_gives b off gives = subst (λ x. Gives view result (behind_static p x ts)) (sym off) gives

  pub var_order_gives : (q : Problem) (b : Bool) (us : List Terminal) → q ≡ p → one_of Fixed static_token both no_break ts ≡ Ok (b, us) → Gives view result (behind_static q b us) → Gives view result (var_order_at p ts)
  unfolding var_order_at
  var_order_gives q b us same is gives =
      gives_second view result (one_of Fixed static_token both no_break ts) (behind_static p) b us is (subst (λ (r : Problem). Gives view result (behind_static r b us)) same gives)

pub static_stops : (p : Problem) (ts : List Terminal) (b : Bool) (e : Stop) → b ≡ true → Stops e (mark_at MarksOnly OpenSquare None ts) → Stops e (behind_static p b ts)
unfolding behind_static
static_stops p ts b e on stops = subst (λ x. Stops e (behind_static p x ts)) (sym on) (stops_first e (mark_at MarksOnly OpenSquare None ts) (λ u. order_at p) stops)

pub var_order_stops : (p : Problem) (ts : List Terminal) (e : Stop) → Stops e (one_of Fixed static_token both no_break ts) → Stops e (var_order_at p ts)
unfolding var_order_at
var_order_stops p ts e stops = stops_first e (one_of Fixed static_token both no_break ts) (behind_static p) stops

-- VALORDER, by the `[`
pub val_order_stops : (wanted : ℕ) (ts : List Terminal) (e : Stop) → Stops e (mark_at MarksOnly OpenSquare None ts) → Stops e (val_order_at wanted ts)
unfolding val_order_at
val_order_stops wanted ts e stops = stops_first e (mark_at MarksOnly OpenSquare None ts) (λ u. ways_at wanted) stops

pub val_order_gives : {A : Type 0} (view : A → List Bool × List Terminal) (result : Result A Stop) (wanted : ℕ) (ts us : List Terminal) → mark_at MarksOnly OpenSquare None ts ≡ Ok (tt {0}, us) → Gives view result (ways_at wanted us) → Gives view result (val_order_at wanted ts)
unfolding val_order_at
val_order_gives view result wanted ts us is gives = gives_second view result (mark_at MarksOnly OpenSquare None ts) (λ u. ways_at wanted) (tt {0}) us is gives

-- PRINT, by what stands behind it
module _ (p : Problem) (ts : List Terminal) where
  pub print_stops : (e : Stop) → Stops e (one_of Fixed print_token print_starts no_break ts) → Stops e (print_at p ts)
  unfolding print_at
  print_stops e stops = stops_first e (one_of Fixed print_token print_starts no_break ts) (behind_print p) stops

  module _ (s : PrintStart) (us : List Terminal) (is : one_of Fixed print_token print_starts no_break ts ≡ Ok (s, us)) where
    print_is : print_at p ts ≡ behind_print p s us
    unfolding print_at
    print_is = ap (λ r. go_on r (behind_print p)) is

    pub print_all_reads : s ≡ all → print_at p ts ≡ Ok (printed.All, us)
    unfolding behind_print
    print_all_reads same = print_is ∙ ap (λ x. behind_print p x us) same

    pub print_none_reads : s ≡ none → print_at p ts ≡ Ok (printed.Nothing, us)
    unfolding behind_print
    print_none_reads same = print_is ∙ ap (λ x. behind_print p x us) same

    print_listed : s ≡ listed → print_at p ts ≡ go_on (rows_at p us) (λ rows. ret (printed.Rows rows))
    unfolding behind_print
    print_listed same = print_is ∙ ap (λ x. behind_print p x us) same

    pub print_rows_stop : s ≡ listed → (q : Problem) → q ≡ p → (e : Stop) → Stops e (rows_at q us) → Stops e (print_at p ts)
    print_rows_stop same q other e stops =
        stops_same e (print_at p ts) _ (print_listed same) (stops_first e (rows_at p us) (λ rows. ret (printed.Rows rows)) (subst (λ (r : Problem). Stops e (rows_at r us)) other stops))

    pub print_rows_read : s ≡ listed → (q : Problem) → q ≡ p → (rows : List (List Term)) (vs : List Terminal) → rows_at q us ≡ Ok (rows, vs) → print_at p ts ≡ Ok (printed.Rows rows, vs)
    print_rows_read same q other rows vs reads =
        print_listed same ∙ ap (λ r. go_on r (λ rows. ret (printed.Rows rows))) (subst (λ (r : Problem). rows_at r us ≡ Ok (rows, vs)) other reads)

-- An objective, by its reference
module _ (p : Problem) (ts : List Terminal) where
  pub goal_at_stops : (e : Stop) → Stops e (ref_at p (one_place p false) ts) → Stops e (goal_at p ts)
  unfolding goal_at
  goal_at_stops e stops = stops_first e (ref_at p (one_place p false) ts) (λ f. ret (first_of f.vars, f.behind)) stops

  pub goal_at_reads : (us : List Terminal) (f : Found) → ref_at p (one_place p false) ts ≡ Ok (f, us) → goal_at p ts ≡ Ok ((first_of f.vars, f.behind), us)
  unfolding goal_at
  goal_at_reads us f reads = ap (λ r. go_on r (λ f. ret (first_of f.vars, f.behind))) reads

pub first_is : (vars : List VarId) (v : VarId) → slice_get vars 0 ≡ Some v → first_of vars ≡ v
first_is [] v is = cc
first_is (w ∷ vars) v is = cc

-- What is said where the code has read an item
moved : (old scan : Progress) (n : ℕ) → Moves old scan → n ≡ scan.left → (q : Problem) (a : Asked) → rest scan ≡ rest (record old { left = n; problem = q; asked = a })
unfolding rest
moved old scan n moves is q a = ap rest moves ∙ ap (λ m. rest (record old { left = m; problem = q; asked = a })) (sym is)

said : (old new scan : Progress) (n : ℕ) (q : Problem) (a : Asked) → Moves old scan → n ≡ scan.left → new ≡ record old { left = n; problem = q; asked = a } → (b : Option Unfit) (x : Asking) → x ≡ record { problem = q; asked = a; behind = b } → (answer : Answer Asking) → answer ≡ Ok (x, rest scan) → answer ≡ Ok (asking_behind new b, rest new)
said old new scan n q a moves left is b x same answer reads =
    reads
    ∙ ap (λ (y : Asking). Ok (y, rest scan)) same
    ∙ ap (λ ts. Ok (record { problem = q; asked = a; behind = b }, ts)) (moved old scan n moves left q a)
    ∙ ap (λ (c : Progress). Ok (asking_behind c b, rest c)) (sym is)

module _ (old : Progress) where
  -- an objective, by its variable
  abbrev goal_said : Bool → VarId × Option Unfit → Asking
  goal_said maximise r = record { problem = record (old.problem) { goal = Some (record { var = r.0; maximise = maximise }) }; asked = record (old.asked) { goal = true }; behind = r.1 }

  goal_then : (maximise : Bool) (a : Answer Found) → go_on a (λ f. ret (with_goal (asking_of old) maximise f)) ≡ go_on (go_on a (λ f. ret (first_of f.vars, f.behind))) (λ r. ret (goal_said maximise r))
  goal_then maximise (Ok (f, us)) = refl
  goal_then maximise (Err e) = refl

  goal_is : (maximise : Bool) → item_rest (asking_of old) (goal_word maximise) (rest old) ≡ go_on (goal_at old.problem (rest old)) (λ r. ret (goal_said maximise r))
  unfolding item_rest goal_at
  goal_is true = goal_then true (ref_at old.problem (one_place old.problem false) (rest old))
  goal_is false = goal_then false (ref_at old.problem (one_place old.problem false) (rest old))

module _ (old new scan : Progress) (n : ℕ) (moves : Moves old scan) (left : n ≡ scan.left) where
  pub order_said : (vars : List VarId) (down : List Bool) → var_order_at old.problem (rest old) ≡ Ok (vars, rest scan) → down ≡ replicate (length vars) false → new ≡ record old { left = n; problem = record (old.problem) { order = record { vars = vars; down = down } }; asked = record (old.asked) { order = true } } → item_rest (asking_of old) says_order (rest old) ≡ Ok (asking_of new, rest new)
  unfolding item_rest
  order_said vars down reads up is =
      said old new scan n (record (old.problem) { order = record { vars = vars; down = down } }) (record (old.asked) { order = true }) moves left is None (with_order (asking_of old) vars)
      (ap (λ (l : List Bool). record { problem = record (old.problem) { order = record { vars = vars; down = l } }; asked = record (old.asked) { order = true }; behind = None }) (sym up))
      _ (ap (λ r. go_on r (λ vars. ret (with_order (asking_of old) vars))) reads)

  pub values_said : (vars : List VarId) (down : List Bool) → val_order_at (length old.problem.order.vars) (rest old) ≡ Ok (down, rest scan) → vars ≡ old.problem.order.vars → new ≡ record old { left = n; problem = record (old.problem) { order = record { vars = vars; down = down } }; asked = record (old.asked) { values = true } } → item_rest (asking_of old) says_values (rest old) ≡ Ok (asking_of new, rest new)
  unfolding item_rest
  values_said vars down reads copied is =
      said old new scan n (record (old.problem) { order = record { vars = vars; down = down } }) (record (old.asked) { values = true }) moves left is None (with_values (asking_of old) down)
      (ap (λ (l : List VarId). record { problem = record (old.problem) { order = record { vars = l; down = down } }; asked = record (old.asked) { values = true }; behind = None }) (sym copied))
      _ (ap (λ r. go_on r (λ down. ret (with_values (asking_of old) down))) reads)

  pub goal_reads : (maximise : Bool) (v : VarId) (b : Option Unfit) → goal_at old.problem (rest old) ≡ Ok ((v, b), rest scan) → new ≡ record old { left = n; problem = record (old.problem) { goal = Some (record { var = v; maximise = maximise }) }; asked = record (old.asked) { goal = true } } → item_rest (asking_of old) (goal_word maximise) (rest old) ≡ Ok (asking_behind new b, rest new)
  goal_reads maximise v b reads is =
      said old new scan n (record (old.problem) { goal = Some (record { var = v; maximise = maximise }) }) (record (old.asked) { goal = true }) moves left is b (goal_said old maximise (v, b)) refl
      _ (goal_is old maximise ∙ ap (λ r. go_on r (λ r. ret (goal_said old maximise r))) reads)

  pub print_said : (what : Print) → print_at old.problem (rest old) ≡ Ok (what, rest scan) → new ≡ record old { left = n; problem = record (old.problem) { print = what }; asked = record (old.asked) { print = true } } → item_rest (asking_of old) prints (rest old) ≡ Ok (asking_of new, rest new)
  unfolding item_rest
  print_said what reads is =
      said old new scan n (record (old.problem) { print = what }) (record (old.asked) { print = true }) moves left is None (with_print (asking_of old) what) refl
      _ (ap (λ r. go_on r (λ what. ret (with_print (asking_of old) what))) reads)

-- what stops an item
module _ (old : Progress) (e : Stop) where
  pub order_stops : Stops e (var_order_at old.problem (rest old)) → Stops e (item_rest (asking_of old) says_order (rest old))
  unfolding item_rest
  order_stops stops = stops_first e (var_order_at old.problem (rest old)) (λ vars. ret (with_order (asking_of old) vars)) stops

  pub values_stop : Stops e (val_order_at (length old.problem.order.vars) (rest old)) → Stops e (item_rest (asking_of old) says_values (rest old))
  unfolding item_rest
  values_stop stops = stops_first e (val_order_at (length old.problem.order.vars) (rest old)) (λ down. ret (with_values (asking_of old) down)) stops

  pub goal_stops : (maximise : Bool) → Stops e (goal_at old.problem (rest old)) → Stops e (item_rest (asking_of old) (goal_word maximise) (rest old))
  goal_stops maximise stops = stops_same e _ _ (goal_is old maximise) (stops_first e (goal_at old.problem (rest old)) (λ r. ret (goal_said old maximise r)) stops)

  pub printing_stops : Stops e (print_at old.problem (rest old)) → Stops e (item_rest (asking_of old) prints (rest old))
  unfolding item_rest
  printing_stops stops = stops_first e (print_at old.problem (rest old)) (λ what. ret (with_print (asking_of old) what)) stops

-- The section, by its first token
first_leaves : (s : Asking) (ts : List Terminal) (w : ItemWord ⊎ Head) (us : List Terminal) → item_first s ts ≡ Ok (w, us) → length us < length ts
unfolding item_first
first_leaves s ts w us e = one_leaves Fixed which_item (at_item s) ts w us e

rest_leaves : (s : Asking) (w : ItemWord) (ts : List Terminal) (z : Asking) (us : List Terminal) → item_rest s w ts ≡ Ok (z, us) → length us ≤ length ts
rest_leaves s w ts z us e = read_leaves (item_spec s w) (item_rest s w) (item_law s w) ts z us e

-- what follows a word doesn't hang on what the objective before it broke
same_rest : (s : Asking) (b : Option Unfit) (w : ItemWord) (ts : List Terminal) → item_rest (record s { behind = b }) w ts ≡ item_rest s w ts
unfolding item_rest
same_rest s b says_order ts = refl
same_rest s b says_values ts = refl
same_rest s b maximises ts = refl
same_rest s b minimises ts = refl
same_rest s b prints ts = refl

module _ (s : Asking) (ts : List Terminal) where
  pub unseen_item : (e : Stop) → (first_as which_item ts ≡ None) × (e ≡ Refused (refused Fixed ts)) → Stops e (search_at s ts)
  unfolding search_at item_first
  unseen_item e is = first_stops item_first item_rest ended first_leaves rest_leaves s ts e (unseen_stops Fixed which_item (at_item s) ts e is)

  module _ (w : ItemWord) (is : first_as which_item ts ≡ Some (inl w)) where
    pub word_stops : (e : Stop) → Stops e (judged (at_word s w) (tt {0}) ts (drop 1 ts)) → Stops e (search_at s ts)
    unfolding search_at item_first
    word_stops e stops = first_stops item_first item_rest ended first_leaves rest_leaves s ts e (seen_stops Fixed which_item (at_item s) (inl w) ts e is stops)

    module _ (us : List Terminal) (reads : judged (at_word s w) (tt {0}) ts (drop 1 ts) ≡ Ok (tt {0}, us)) where
      word_read : item_first s ts ≡ Ok (inl w, us)
      unfolding item_first
      word_read = seen_reads Fixed which_item (at_item s) (inl w) ts us is reads

      pub rest_stops : (e : Stop) → Stops e (item_rest (record s { behind = None }) w us) → Stops e (search_at s ts)
      unfolding search_at
      rest_stops e stops = item_stops item_first item_rest ended first_leaves rest_leaves s ts w us e word_read (stops_first e _ _ (stops_same e _ _ (sym (same_rest s None w us)) stops))

      pub rest_goes_on : (z : Asking) (vs : List Terminal) → item_rest (record s { behind = None }) w us ≡ Ok (z, vs) → (search_at z vs ≡ search_at s ts) × (length vs < length ts)
      unfolding search_at
      rest_goes_on z vs reads =
          let goes = sym (same_rest s None w us) ∙ reads in (
            sym (item_goes_on item_first item_rest ended first_leaves rest_leaves s ts w us z vs word_read goes),
            let one = first_leaves s ts (inl w) us word_read in
                let two = rest_leaves s w us z vs goes in
                omega arith,
          )

  module _ (h : Head) (is : first_as which_item ts ≡ Some (inr h)) where
    pub head_stops : (kind : Kind) (e : Stop) → as_kind s.behind ≡ Some kind → e ≡ Refused (fault_at ts kind) → Stops e (search_at s ts)
    unfolding search_at item_first
    head_stops kind e broken refused =
        first_stops item_first item_rest ended first_leaves rest_leaves s ts e
        (subst (λ (f : Stop). Stops f (one Fixed which_item (at_item s) ts)) (sym refused)
        (one_seen Fixed which_item (at_item s) (inr h) ts is ∙ ap (λ (k : Option Kind). judged {W = ItemWord ⊎ Head} k (inr h) ts (drop 1 ts)) broken))

    head_seen : first_as head_of ts ≡ Some h
    head_seen = at ts is
      where
        by : (o : Option ItemWord) (r : Option Head) → either_of o r ≡ Some (inr h) → r ≡ Some h
        by (Some w) r e = absurd (let same : inl w ≡ inr h = cc in absurd cc)
        by None (Some g) e = let same : ◌≡◌ {A = ItemWord ⊎ Head} (inr g) (inr h) = cc in cc
        by None None e = cc

        at : (us : List Terminal) → first_as which_item us ≡ Some (inr h) → first_as head_of us ≡ Some h
        at [] e = cc
        at (t ∷ us) e = by (which_of item_token item_words t) (head_of t) e

    pub head_ends : as_kind s.behind ≡ None → (first_as head_of ts ≡ Some h) × (search_at s ts ≡ Ok ((s, h), drop 1 ts))
    unfolding search_at item_first
    head_ends kept = (
      head_seen,
      body_ends item_first item_rest ended first_leaves rest_leaves s ts h (drop 1 ts)
          (one_seen Fixed which_item (at_item s) (inr h) ts is ∙ ap (λ (k : Option Kind). judged {W = ItemWord ⊎ Head} k (inr h) ts (drop 1 ts)) kept),
    )

-- the text stays the same from step to step
pub same_text_on : (a b c d : Progress) → SameText a b → Moves b c → SameText c d → SameText a d
same_text_on a b c d first moves last = record {
  text = last.text ∙ ap (λ (s : Progress). s.text) moves ∙ first.text;
  tokens = last.tokens ∙ ap (λ (s : Progress). s.tokens) moves ∙ first.tokens;
  stop = last.stop ∙ ap (λ (s : Progress). s.stop) moves ∙ first.stop;
}

-- What the code of aliases does, step by step, is what their readers answer.
use Rattle.std.proofs.Common.{◌≡◌, ℕ, ℤ, pos, zero, suc, leb, ◌+◌, ◌-◌, ◌<◌, ◌≤◌, Bool, true, false, cond, ◌||◌, List, [], ◌∷◌, ◌++◌, length, drop, get_or, Option, Some, None, is_some, Ok, Err, Result, refl, sym, ap, ◌∙◌, subst, inl, inr, arith, length-append}
use Rattle.std.specs.Prelude.{IfErr, IfOk}
use Rattle.std.proofs.lemmas.List.{drop_all}
use Rattle.mn_lexer.specs.Terminals.{Terminal, mark}
use Rattle.mn_lexer.specs.declared.marks.Mark.{Mark}
use Rattle.mn_lexer.specs.declared.marks.Mark.TheVariants.{OpenSquare, CloseSquare, Comma, Equals}
use Rattle.mn_grammar.specs.Tokens.{name_of, is_the_mark}
use Rattle.mn_grammar.specs.Gives.{Gives, Stops}
use Rattle.mn_grammar.specs.Reading.{Answer, Reader, Turn, goes_on, is_done, go_on, then_read, ret, turned, one, judged, classed, refused, fault_at, which_mark, which_end, judge_end, end_at, mark_at, name_at, number_at, either_of}
use Rattle.mn_grammar.specs.Places.{when, on}
use Rattle.mn_references.proofs.Unbroken.{when_kept, lesser_kept, not_at_most}
use Rattle.mn_grammar.specs.Lists.{turn_at, items_at}
use Rattle.mn_grammar.specs.declared.site.Site.TheVariants.{Free, MarksOnly}
use Rattle.mn_grammar.specs.declared.Kind.{Kind}
use Rattle.mn_grammar.specs.declared.Kind.TheVariants as kinds
use Rattle.mn_grammar.specs.declared.Stop.{Stop}
use Rattle.mn_grammar.specs.declared.Stop.TheVariants.{Refused, NoMemory}
use Rattle.mn_grammar.proofs.Marks.{the_mark}
use Rattle.mn_model.specs.Problem.{Problem, declared_as, aliased_as}
use Rattle.mn_model.specs.declared.declaration.Alias.{Alias}
use Rattle.mn_model.specs.declared.declaration.Decl.{Decl}
use Rattle.mn_model.specs.declared.variable.VarId.{VarId}
use Rattle.mn_cursor.specs.Looks.{first_as}
use Rattle.mn_cursor.proofs.Looking.{one_seen, unseen_stops}
use Rattle.mn_cursor.proofs.Turning.{stops_first, stops_second, stops_same, one_leaves, read_leaves, unrolled, with_mark, without_mark}
use Rattle.mn_references.specs.Conditions.{lesser, as_kind}
use Rattle.mn_references.specs.References.{Aim, Found, spell_subs, at_name, is_single, lead, lead_of, lead_by, one_place}
use Rattle.mn_references.specs.Referring.{behind_name, ref_at}
use Rattle.mn_references.specs.declared.want.Unfit.{Unfit}
use Rattle.mn_decls.specs.Aliases.{Led, led_to, Entering, nests_ends, nests_led, at_next, at_last, at_var, at_nest, NestStart, which_nest, nest_first, var_rest, nests_rest, nest_at}
use Rattle.mn_decls.specs.Brackets.{Level, levels, entries_from, entry_end, ended, level_rest, rest_of, entry_then, open_levels, before_entry, behind_entry, led_by, IsNamed}
use Rattle.mn_decls.specs.declared.brackets.Brackets.{Brackets}
use Rattle.mn_decls.specs.declared.naming.Named.{Named}
use Rattle.mn_grammar.specs.Lawful.{IsRead, Said}
use Rattle.mn_references.proofs.Referable.{ref_spec, ref_law}
use Rattle.mn_decls.specs.Variables.{spell_number, new_name, alias_dim, dims_ends, with_dim, with_alias_by, with_one, with_matrix, alias_dims_at, matrix_at, var_at, target_at, alias_at}
use Rattle.mn_cursor.specs.Lists.{comma_or_at}
use Rattle.mn_cursor.proofs.ListSteps.{entry_stops, comma_stops, entry_goes_on, entry_ends}
use Rattle.mn_decls.proofs.AliasLaw.{nest_spec, nest_law, alias_dims_are, alias_dim_law}

-- 1. A mark that is looked for and then read
judged_was : (c : Option Kind) (l us vs : List Terminal) → judged c (tt {0}) l us ≡ Ok (tt {0}, vs) → us ≡ vs
judged_was None l us vs e = let same : ◌≡◌ {A = Unit {0} × List Terminal} (tt, us) (tt, vs) = cc in ap (λ (x : Unit {0} × List Terminal). x.1) same
judged_was (Some k) l us vs e = cc

pub mark_was : (m : Mark) (c : Option Kind) (ts us : List Terminal) → mark_at MarksOnly m c ts ≡ Ok (tt {0}, us) → ts ≡ mark m ∷ us
unfolding mark_at
mark_was m c [] us e = cc
mark_was m c (t ∷ ts) us e = by (is_the_mark m t) refl e
  where
    by : (b : Bool) → is_the_mark m t ≡ b → classed MarksOnly (λ _. c) (cond b (Some (tt {0})) None) (t ∷ ts) ts ≡ Ok (tt {0}, us) → t ∷ ts ≡ mark m ∷ us
    by true is f = let first = the_mark m t is in let others = judged_was c (t ∷ ts) ts us f in λ i. first i ∷ others i
    by false is f = cc

pub mark_leaves : (m : Mark) (c : Option Kind) (ts us : List Terminal) → mark_at MarksOnly m c ts ≡ Ok (tt {0}, us) → length us < length ts
mark_leaves m c ts us e = let size : length ts ≡ suc (length us) = ap length (mark_was m c ts us e) in omega arith

-- the token is the mark
pub is_first : (m : Mark) (ts : List Terminal) → is_some (first_as (which_mark m) ts) ≡ true → (us : List Terminal) × (ts ≡ mark m ∷ us)
is_first m [] is = cc
is_first m (t ∷ ts) is = by (is_the_mark m t) refl is
  where
    by : (b : Bool) → is_the_mark m t ≡ b → is_some (cond b (Some (tt {0})) None) ≡ true → (us : List Terminal) × (t ∷ ts ≡ mark m ∷ us)
    by true e f = (ts, ap (λ x. x ∷ ts) (the_mark m t e))
    by false e f = cc

-- 2. The mark behind an entry
module _ {S V : Type 0} (comma close : Option Kind) (s : S) (v : V) where
  judged_on : {W : Type 0} (c : Option Kind) (w : W) (l us : List Terminal) → judged c w l us ≡ go_on (judged c (tt {0}) l us) (λ u. ret w)
  judged_on None w l us = refl
  judged_on (Some k) w l us = refl

  comma_at : (a b : Bool) (l us : List Terminal) → is_some (cond a (Some (tt {0})) None) ≡ true → classed {W = Turn S V} MarksOnly (judge_end comma close) (cond a (Some (goes_on s)) (cond b (Some (is_done v)) None)) l us ≡ go_on (classed MarksOnly (λ _. comma) (cond a (Some (tt {0})) None) l us) (λ u. ret (goes_on s))
  comma_at true b l us e = judged_on comma (goes_on s) l us
  comma_at false b l us e = cc

  close_at : (a b : Bool) (l us : List Terminal) → is_some (cond a (Some (tt {0})) None) ≡ false → classed {W = Turn S V} MarksOnly (judge_end comma close) (cond a (Some (goes_on s)) (cond b (Some (is_done v)) None)) l us ≡ go_on (classed MarksOnly (λ _. close) (cond b (Some (tt {0})) None) l us) (λ u. ret (is_done v))
  close_at true b l us e = cc
  close_at false true l us e = judged_on close (is_done v) l us
  close_at false false l us e = refl

  pub comma_there : (ts : List Terminal) → is_some (first_as (which_mark Comma) ts) ≡ true → end_at CloseSquare comma close s v ts ≡ go_on (mark_at MarksOnly Comma comma ts) (λ u. ret (goes_on s))
  unfolding end_at mark_at
  comma_there [] e = cc
  comma_there (t ∷ ts) e = comma_at (is_the_mark Comma t) (is_the_mark CloseSquare t) (t ∷ ts) ts e

  pub comma_not : (ts : List Terminal) → is_some (first_as (which_mark Comma) ts) ≡ false → end_at CloseSquare comma close s v ts ≡ go_on (mark_at MarksOnly CloseSquare close ts) (λ u. ret (is_done v))
  unfolding end_at mark_at
  comma_not [] e = refl
  comma_not (t ∷ ts) e = close_at (is_the_mark Comma t) (is_the_mark CloseSquare t) (t ∷ ts) ts e

module _ (wanted : ℕ) (behind : Option Unfit) (ts : List Terminal) (v : Led) (same : v.behind ≡ behind) where
  pub end_comma : is_some (first_as (which_mark Comma) ts) ≡ true → entry_end wanted v ts ≡ go_on (mark_at MarksOnly Comma (at_next wanted behind) ts) (λ u. ret (ended wanted v true))
  end_comma there =
      comma_there (at_next wanted v.behind) (at_last wanted v.behind) (record { wanted = wanted - 1; vars = v.vars }) (record { vars = v.vars; behind = None }) ts there
      ∙ ap (λ b. go_on (mark_at MarksOnly Comma (at_next wanted b) ts) (λ u. ret (ended wanted v true))) same

  pub end_close : is_some (first_as (which_mark Comma) ts) ≡ false → entry_end wanted v ts ≡ go_on (mark_at MarksOnly CloseSquare (at_last wanted behind) ts) (λ u. ret (ended wanted v false))
  end_close none =
      comma_not (at_next wanted v.behind) (at_last wanted v.behind) (record { wanted = wanted - 1; vars = v.vars }) (record { vars = v.vars; behind = None }) ts none
      ∙ ap (λ b. go_on (mark_at MarksOnly CloseSquare (at_last wanted b) ts) (λ u. ret (ended wanted v false))) same

pub more_wanted : (wanted : ℕ) (unfit : Option Unfit) (ts us : List Terminal) → mark_at MarksOnly Comma (at_next wanted unfit) ts ≡ Ok (tt {0}, us) → 1 < wanted
unfolding mark_at
more_wanted wanted unfit ts us e = not_at_most wanted 1 (when_kept (leb wanted 1) kinds.Shape (lesser_kept (as_kind unfit) (when (leb wanted 1) kinds.Shape) (kept (at_next wanted unfit) ts us e)).1)
  where
    judged_kept : (c : Option Kind) (l vs xs : List Terminal) → judged c (tt {0}) l vs ≡ Ok (tt {0}, xs) → c ≡ None
    judged_kept None l vs xs f = refl
    judged_kept (Some k) l vs xs f = cc

    kept_by : (b : Bool) (c : Option Kind) (l vs xs : List Terminal) → classed MarksOnly (λ _. c) (cond b (Some (tt {0})) None) l vs ≡ Ok (tt {0}, xs) → c ≡ None
    kept_by true c l vs xs f = judged_kept c l vs xs f
    kept_by false c l vs xs f = cc

    kept : (c : Option Kind) (vs xs : List Terminal) → mark_at MarksOnly Comma c vs ≡ Ok (tt {0}, xs) → c ≡ None
    kept c [] xs f = cc
    kept c (t ∷ vs) xs f = kept_by (is_the_mark Comma t) c (t ∷ vs) vs xs f

-- 3. The first token of an entry
first_bracket : (ts : List Terminal) → is_some (first_as (which_mark OpenSquare) ts) ≡ true → first_as which_nest ts ≡ Some (inr tt)
first_bracket ts is = let there = is_first OpenSquare ts is in subst (λ l. first_as which_nest l ≡ Some (inr tt)) (sym there.1) refl

either_at : (o : Option (List ℕ)) (p : Option (Unit {0})) → o ≡ None → is_some p ≡ false → either_of o p ≡ None
either_at None None e f = refl
either_at None (Some u) e f = cc
either_at (Some w) p e f = cc

first_neither : (ts : List Terminal) → is_some (first_as (which_mark OpenSquare) ts) ≡ false → first_as name_of ts ≡ None → first_as which_nest ts ≡ None
first_neither [] e f = refl
first_neither (t ∷ ts) e f = either_at (name_of t) (which_mark OpenSquare t) f e

first_name : (ts : List Terminal) (w : List ℕ) → first_as name_of ts ≡ Some w → first_as which_nest ts ≡ Some (inl w)
first_name [] w e = cc
first_name (t ∷ ts) w e = ap (λ o. either_of o (which_mark OpenSquare t)) e

single_at : (b : Bool) → ◌≡◌ {A = Option Kind} (cond b None None) None
single_at true = refl
single_at false = refl

-- what a name breaks where `[` is wanted, by whether it is declared
misplaced_by : (p : Problem) (o : Option Decl) (a : Option Alias) → lesser (at_name (one_place p false) (lead_by o a)) (Some kinds.Shape) ≡ Some (cond (is_some o || is_some a) kinds.Shape kinds.Name)
misplaced_by p (Some d) a = ap (λ c. lesser c (Some kinds.Shape)) (single_at (is_single d.dims))
misplaced_by p None (Some a) = ap (λ c. lesser c (Some kinds.Shape)) (single_at (is_single a.dims))
misplaced_by p None None = refl

pub misplaced_is : (p : Problem) (name : List ℕ) (b : Bool) → b ≡ (is_some (declared_as p.decls name) || is_some (aliased_as p.aliases name)) → (dim : ℕ) (dims : List ℕ) → at_var p (dim ∷ dims) name ≡ Some (cond b kinds.Shape kinds.Name)
misplaced_is p name b e dim dims = misplaced_by p (declared_as p.decls name) (aliased_as p.aliases name) ∙ ap (λ c. Some (cond c kinds.Shape kinds.Name)) (sym e)

module _ (p : Problem) (dim : ℕ) (dims : List ℕ) (vars : List VarId) (ts : List Terminal) where
  -- where `[` is wanted
  pub bracket_stops : (e : Stop) → is_some (first_as (which_mark OpenSquare) ts) ≡ true → Stops e (mark_at MarksOnly OpenSquare None ts) → Stops e (nest_at p (dim ∷ dims) vars ts)
  unfolding mark_at
  bracket_stops NoMemory is stops = tt
  bracket_stops (Refused f) is stops =
      let there = is_first OpenSquare ts is in
      let clash : one MarksOnly (which_mark OpenSquare) (λ _. None) (mark OpenSquare ∷ there.0) ≡ Err f = subst (λ l. one MarksOnly (which_mark OpenSquare) (λ _. None) l ≡ Err f) there.1 stops in
      absurd cc

  pub bracket_unseen : (e : Stop) → is_some (first_as (which_mark OpenSquare) ts) ≡ false → (first_as name_of ts ≡ None) × (e ≡ Refused (refused Free ts)) → Stops e (nest_at p (dim ∷ dims) vars ts)
  unfolding nest_first
  bracket_unseen e none is = stops_first e _ _ (unseen_stops Free which_nest (at_nest p (dim ∷ dims)) ts e (first_neither ts none is.0, is.1))

  pub bracket_misplaced : (e : Stop) (w : List ℕ) (k : Kind) → first_as name_of ts ≡ Some w → at_var p (dim ∷ dims) w ≡ Some k → e ≡ Refused (fault_at ts k) → Stops e (nest_at p (dim ∷ dims) vars ts)
  unfolding nest_first
  bracket_misplaced e w k is broken refused_so =
      stops_first e _ _
      (subst (λ x. Stops x (one Free which_nest (at_nest p (dim ∷ dims)) ts)) (sym refused_so)
      (one_seen Free which_nest (at_nest p (dim ∷ dims)) (inl w) ts (first_name ts w is) ∙ ap (λ c. judged c (inl w) ts (drop 1 ts)) broken))

pub bracket_result : {A : Type 0} (view : A → Unit {0} × List Terminal) (result : Result A Stop) (p : Problem) (ts : List Terminal) → is_some (first_as (which_mark OpenSquare) ts) ≡ true → Gives view result (mark_at MarksOnly OpenSquare None ts) → IfErr result (λ e. (dim : ℕ) (dims : List ℕ) (vars : List VarId) → Stops e (nest_at p (dim ∷ dims) vars ts))
bracket_result view (Ok a) p ts is gives = tt
bracket_result view (Err e) p ts is gives = λ dim dims vars. bracket_stops p dim dims vars ts e is gives

-- where a variable is wanted
module _ (p : Problem) (vars : List VarId) (ts : List Terminal) where
  pub variable_stops : (e : Stop) → is_some (first_as (which_mark OpenSquare) ts) ≡ true → e ≡ Refused (fault_at ts kinds.Shape) → Stops e (nest_at p [] vars ts)
  unfolding nest_first
  variable_stops e is refused_so =
      stops_first e _ _
      (subst (λ x. Stops x (one Free which_nest (at_nest p []) ts)) (sym refused_so) (one_seen Free which_nest (at_nest p []) (inr tt) ts (first_bracket ts is)))

name_same : (p : Problem) (vars : List VarId) (w : List ℕ) (l us : List Terminal) (c : Option Kind) → go_on (judged {W = NestStart} c (inl w) l us) (var_rest p vars) ≡ go_on (go_on (judged c w l us) (λ n. behind_name (one_place p false) (lead p n))) (λ f. ret (led_to vars f))
unfolding var_rest
name_same p vars w l us None = refl
name_same p vars w l us (Some k) = refl

variable_by : (p : Problem) (vars : List VarId) (o : Option (List ℕ)) (q : Option (Unit {0})) (l us : List Terminal) → is_some q ≡ false → go_on (classed Free (at_nest p []) (either_of o q) l us) (var_rest p vars) ≡ go_on (go_on (classed Free (λ w. at_name (one_place p false) (lead_of p w)) o l us) (λ n. behind_name (one_place p false) (lead p n))) (λ f. ret (led_to vars f))
variable_by p vars (Some w) q l us e = name_same p vars w l us (at_name (one_place p false) (lead_of p w))
variable_by p vars None None l us e = refl
variable_by p vars None (Some u) l us e = cc

pub variable_same : (p : Problem) (vars : List VarId) (ts : List Terminal) → is_some (first_as (which_mark OpenSquare) ts) ≡ false → nest_at p [] vars ts ≡ go_on (ref_at p (one_place p false) ts) (λ f. ret (led_to vars f))
unfolding nest_first ref_at name_at
variable_same p vars [] e = refl
variable_same p vars (t ∷ ts) e = variable_by p vars (name_of t) (which_mark OpenSquare t) (t ∷ ts) ts e

-- a reference has a token at least
pub ref_leaves : (p : Problem) (aim : Aim) (ts : List Terminal) (f : Found) (us : List Terminal) → ref_at p aim ts ≡ Ok (f, us) → length us < length ts
ref_leaves p aim ts f us e =
    let is : IsRead (ref_spec p aim) ts f us = subst (λ r. Said (ref_spec p aim) (ref_at p aim) ts r) e ((ref_law p aim).said ts) in
    let size : length ts ≡ suc (length (spell_subs is.tree.subs ++ us)) = ap length is.parts in
    let whole = length-append (spell_subs is.tree.subs) us in
    omega arith

module _ (p : Problem) (ts us : List Terminal) where
  pub variable_reads : (r : Result Named Stop) → is_some (first_as (which_mark OpenSquare) ts) ≡ false → IfOk r (IsNamed p ts us) → IfOk r (λ n. (vars : List VarId) → nest_at p [] vars ts ≡ Ok (led_by vars n, us))
  variable_reads (Err e) none is = tt
  variable_reads (Ok n) none is = λ vars.
      variable_same p vars ts none
      ∙ ap (λ r. go_on r (λ f. ret (led_to vars f))) is.1
      ∙ λ i. Ok (record { vars = vars ++ sym is.2 i; behind = sym is.3 i }, us)

  pub variable_fails : (r : Result Named Stop) → is_some (first_as (which_mark OpenSquare) ts) ≡ false → IfErr r (λ e. Stops e (ref_at p (one_place p false) ts)) → IfErr r (λ e. (vars : List VarId) → Stops e (nest_at p [] vars ts))
  variable_fails (Ok n) none is = tt
  variable_fails (Err e) none is = λ vars. stops_same e _ _ (variable_same p vars ts none) (stops_first e _ _ is)

  pub variable_leaves : (r : Result Named Stop) → IfOk r (IsNamed p ts us) → IfOk r (λ n. length us < length ts)
  variable_leaves (Err e) is = tt
  variable_leaves (Ok n) is = ref_leaves p (one_place p false) ts is.0 us is.1

-- 4. Open brackets
nest_leaves : (p : Problem) (dims : List ℕ) (s : Entering) (ts : List Terminal) (v : Led) (us : List Terminal) → nest_at p dims s.vars ts ≡ Ok (v, us) → length us ≤ length ts
nest_leaves p dims s ts v us e = read_leaves (nest_spec p dims s.vars) (nest_at p dims s.vars) (nest_law p dims s.vars) ts v us e

assoc : {U V W : Type 0} (a : Answer U) (b : U → Reader V) (c : V → Reader W) → go_on (go_on a b) c ≡ go_on a (λ u ts. go_on (b u ts) c)
assoc (Ok r) b c = refl
assoc (Err e) b c = refl

module _ (p : Problem) (dims : List ℕ) where
  abbrev entry : Entering → Reader Led
  entry s = nest_at p dims s.vars

  abbrev step : Entering → Reader (Turn Entering Led)
  step = turn_at CloseSquare nests_ends nests_led entry

  shortens : (s : Entering) (ts : List Terminal) (z : Entering) (us : List Terminal) (r : Answer Led) → entry s ts ≡ r → go_on r (λ v. entry_end s.wanted v) ≡ Ok (goes_on z, us) → length us < length ts
  unfolding end_at
  shortens s ts z us (Err f) is e = cc
  shortens s ts z us (Ok (v, vs)) is e =
      let first = nest_leaves p dims s ts v vs is in
      let second = one_leaves MarksOnly (which_end CloseSquare (nests_ends.next s v) (nests_led s v)) (judge_end (at_next s.wanted v.behind) (at_last s.wanted v.behind)) vs (goes_on z) us e in
      omega arith

  entries_unrolled : (s : Entering) (ts : List Terminal) → entries_from p dims s ts ≡ go_on (step s ts) (turned (entries_from p dims))
  unfolding entries_from items_at
  entries_unrolled s ts = unrolled step (λ z us y vs e. shortens z us y vs (entry z us) refl e) s ts

  -- the entries are one, and what is left behind it
  pub entries_then : (s : Entering) (ts : List Terminal) → entries_from p dims s ts ≡ go_on (nest_at p dims s.vars ts) (level_rest p (record { wanted = s.wanted; dims = dims }))
  unfolding level_rest
  entries_then s ts = entries_unrolled s ts ∙ assoc (nest_at p dims s.vars ts) (λ v. entry_end s.wanted v) (turned (entries_from p dims))

  -- behind its `[` an entry is entries
  bracket_same : (dim : ℕ) (vars : List VarId) (us : List Terminal) → nest_at p (dim ∷ dims) vars (mark OpenSquare ∷ us) ≡ entries_from p dims (record { wanted = dim; vars = vars }) us
  unfolding nest_first nests_rest entries_from
  bracket_same dim vars us = refl

  -- one more bracket is open
  pub bracket_opens : (dim : ℕ) (vars : List VarId) (outer : List Level) (ts us : List Terminal) → mark_at MarksOnly OpenSquare None ts ≡ Ok (tt {0}, us) → entry_then p (dim ∷ dims) vars outer ts ≡ entry_then p dims vars (record { wanted = dim; dims = dims } ∷ outer) us
  unfolding entry_then
  bracket_opens dim vars outer ts us e =
      ap (λ l. go_on (nest_at p (dim ∷ dims) vars l) (rest_of p outer)) (mark_was OpenSquare None ts us e)
      ∙ ap (λ r. go_on r (rest_of p outer)) (bracket_same dim vars us ∙ entries_then (record { wanted = dim; vars = vars }) us)
      ∙ assoc (nest_at p dims vars us) (level_rest p (record { wanted = dim; dims = dims })) (rest_of p outer)

  -- behind the mark of an entry
  module _ (wanted : ℕ) (v : Led) (outer : List Level) (ts : List Terminal) where
    pub mark_stops : (e : Stop) → Stops e (entry_end wanted v ts) → Stops e (rest_of p (record { wanted = wanted; dims = dims } ∷ outer) v ts)
    unfolding level_rest
    mark_stops e stops = stops_first e _ _ (stops_first e _ _ stops)

    pub comma_goes_on : (us : List Terminal) → entry_end wanted v ts ≡ Ok (ended wanted v true, us) → entry_then p dims v.vars (record { wanted = wanted - 1; dims = dims } ∷ outer) us ≡ rest_of p (record { wanted = wanted; dims = dims } ∷ outer) v ts
    unfolding level_rest entry_then
    comma_goes_on us e = sym (
        ap (λ r. go_on (go_on r (turned (entries_from p dims))) (rest_of p outer)) e
        ∙ ap (λ r. go_on r (rest_of p outer)) (entries_then (record { wanted = wanted - 1; vars = v.vars }) us)
        ∙ assoc (nest_at p dims v.vars us) (level_rest p (record { wanted = wanted - 1; dims = dims })) (rest_of p outer)
        )

    pub close_goes_on : (us : List Terminal) → entry_end wanted v ts ≡ Ok (ended wanted v false, us) → rest_of p outer (record { vars = v.vars; behind = None }) us ≡ rest_of p (record { wanted = wanted; dims = dims } ∷ outer) v ts
    unfolding level_rest
    close_goes_on us e = sym (ap (λ r. go_on (go_on r (turned (entries_from p dims))) (rest_of p outer)) e)

-- 5. The brackets by the numbers of wanted entries
pub drop_at : (dims : List ℕ) (n : ℕ) → n < length dims → (ds : List ℕ) × (drop n dims ≡ get_or dims n 0 ∷ ds)
drop_at [] n less = absurd (omega arith)
drop_at (x ∷ dims) zero less = (dims, refl)
drop_at (x ∷ dims) (suc n) less = drop_at dims n (omega arith)

pub some_drop : (dims : List ℕ) (n : ℕ) → n < length dims → (d : ℕ) × (ds : List ℕ) × (drop n dims ≡ d ∷ ds)
some_drop [] n less = absurd (omega arith)
some_drop (x ∷ dims) zero less = (x, dims, refl)
some_drop (x ∷ dims) (suc n) less = some_drop dims n (omega arith)

pub levels_more : (dims ws : List ℕ) (w d : ℕ) (ds : List ℕ) (outer : List Level) → drop (length ws) dims ≡ d ∷ ds → levels dims (ws ++ w ∷ []) outer ≡ record { wanted = w; dims = ds } ∷ levels dims ws outer
levels_more [] [] w d ds outer e = cc
levels_more [] (v ∷ ws) w d ds outer e = cc
levels_more (x ∷ dims) [] w d ds outer e = let same : dims ≡ ds = cc in ap (λ (l : List ℕ). record { wanted = w; dims = l } ∷ outer) same
levels_more (x ∷ dims) (v ∷ ws) w d ds outer e = levels_more dims ws w d ds (record { wanted = v; dims = dims } ∷ outer) e

pub drop_more : (dims ws : List ℕ) (w d : ℕ) (ds : List ℕ) → drop (length ws) dims ≡ d ∷ ds → drop (length (ws ++ w ∷ [])) dims ≡ ds
drop_more [] [] w d ds e = cc
drop_more [] (v ∷ ws) w d ds e = cc
drop_more (x ∷ dims) [] w d ds e = cc
drop_more (x ∷ dims) (v ∷ ws) w d ds e = drop_more dims ws w d ds e

-- a nest with no bracket open is what is left before it
pub none_open : (p : Problem) (dims : List ℕ) (ts : List Terminal) → entry_then p dims [] [] ts ≡ nest_at p dims [] ts
unfolding entry_then
none_open p dims ts = by (nest_at p dims [] ts)
  where
    by : (r : Answer Led) → go_on r (rest_of p []) ≡ r
    by (Ok r) = refl
    by (Err e) = refl

-- the same of the code's brackets
module _ (p : Problem) (b : Brackets) (ts : List Terminal) where
  abbrev depth : ℕ
  depth = length b.wanted.items

  pub open_stops : (e : Stop) → depth < length b.dims.now → ((dim : ℕ) (dims : List ℕ) (vars : List VarId) → Stops e (nest_at p (dim ∷ dims) vars ts)) → Stops e (before_entry p b ts)
  unfolding before_entry entry_then
  open_stops e less stops =
      let some = some_drop b.dims.now depth less in
      subst (λ (l : List ℕ). Stops e (then_read (nest_at p l b.vars) (rest_of p (open_levels b)) ts)) (sym some.2) (stops_first e _ _ (stops some.0 some.1 b.vars))

  pub opens : (z : Brackets) (n : ℕ) (us : List Terminal) → n ≡ depth → depth < length b.dims.now → mark_at MarksOnly OpenSquare None ts ≡ Ok (tt {0}, us) → z.dims.now ≡ b.dims.now → z.wanted.items ≡ b.wanted.items ++ get_or b.dims.now n 0 ∷ [] → z.vars ≡ b.vars → before_entry p z us ≡ before_entry p b ts
  unfolding before_entry
  opens z n us at less opened same pushed vars =
      let d = get_or b.dims.now depth 0 in
      let some = drop_at b.dims.now depth less in
      let more : z.wanted.items ≡ b.wanted.items ++ d ∷ [] = pushed ∙ ap (λ m. b.wanted.items ++ get_or b.dims.now m 0 ∷ []) at in
      (λ i. entry_then p (drop (length (more i)) (same i)) (vars i) (levels (same i) (more i) []) us)
      ∙ ap (λ l. entry_then p l b.vars (levels b.dims.now (b.wanted.items ++ d ∷ []) []) us) (drop_more b.dims.now b.wanted.items d d some.0 some.1)
      ∙ ap (λ l. entry_then p some.0 b.vars l us) (levels_more b.dims.now b.wanted.items d d some.0 [] some.1)
      ∙ sym (bracket_opens p some.0 d b.vars (open_levels b) ts us opened)
      ∙ ap (λ l. entry_then p l b.vars (open_levels b) ts) (sym some.1)

  pub named_stops : (e : Stop) → length b.dims.now ≤ depth → ((vars : List VarId) → Stops e (nest_at p [] vars ts)) → Stops e (before_entry p b ts)
  unfolding before_entry entry_then
  named_stops e le stops = subst (λ (l : List ℕ). Stops e (then_read (nest_at p l b.vars) (rest_of p (open_levels b)) ts)) (sym (drop_all depth b.dims.now le)) (stops_first e _ _ (stops b.vars))

  pub names : (z : Brackets) (n : Named) (us : List Terminal) → length b.dims.now ≤ depth → ((vars : List VarId) → nest_at p [] vars ts ≡ Ok (led_by vars n, us)) → z.dims.now ≡ b.dims.now → z.wanted.items ≡ b.wanted.items → z.vars ≡ b.vars ++ n.vars → behind_entry p z n.behind us ≡ before_entry p b ts
  unfolding behind_entry before_entry entry_then
  names z n us le reads same wanted vars =
      (λ i. rest_of p (levels (same i) (wanted i) []) (record { vars = vars i; behind = n.behind }) us)
      ∙ ap (λ r. go_on r (rest_of p (open_levels b))) (sym (reads b.vars))
      ∙ ap (λ (l : List ℕ). then_read (nest_at p l b.vars) (rest_of p (open_levels b)) ts) (sym (drop_all depth b.dims.now le))

  pub all_closed : (behind : Option Unfit) → b.wanted.items ≡ [] → behind_entry p b behind ts ≡ Ok (record { vars = b.vars; behind = behind }, ts)
  unfolding behind_entry
  all_closed behind none = ap (λ (l : List ℕ). rest_of p (levels b.dims.now l []) (record { vars = b.vars; behind = behind }) ts) none

  module _ (behind : Option Unfit) (ws : List ℕ) (w : ℕ) (popped : b.wanted.items ≡ ws ++ w ∷ []) (few : depth ≤ length b.dims.now) where
    abbrev led : Led
    led = record { vars = b.vars; behind = behind }

    shorter : length ws < length b.dims.now
    shorter = let size : depth ≡ length ws + 1 = ap length popped ∙ length-append ws (w ∷ []) in omega arith

    innermost : (d : ℕ) × (ds : List ℕ) × (drop (length ws) b.dims.now ≡ d ∷ ds)
    innermost = some_drop b.dims.now (length ws) shorter

    abbrev inner : Level
    inner = record { wanted = w; dims = innermost.1 }

    levels_are : open_levels b ≡ inner ∷ levels b.dims.now ws []
    levels_are = ap (λ l. levels b.dims.now l []) popped ∙ levels_more b.dims.now ws w innermost.0 innermost.1 [] innermost.2

    pub end_stops : (e : Stop) → Stops e (entry_end w led ts) → Stops e (behind_entry p b behind ts)
    unfolding behind_entry
    end_stops e stops = subst (λ (l : List Level). Stops e (rest_of p l led ts)) (sym levels_are) (mark_stops p innermost.1 w led (levels b.dims.now ws []) ts e stops)

    module _ (z : Brackets) (us : List Terminal) (same : z.dims.now ≡ b.dims.now) (vars : z.vars ≡ b.vars) where
      pub end_goes_on : entry_end w led ts ≡ Ok (ended w led true, us) → z.wanted.items ≡ ws ++ (w - 1) ∷ [] → before_entry p z us ≡ behind_entry p b behind ts
      unfolding before_entry behind_entry
      end_goes_on ends more =
          (λ i. entry_then p (drop (length (more i)) (same i)) (vars i) (levels (same i) (more i) []) us)
          ∙ ap (λ l. entry_then p l b.vars (levels b.dims.now (ws ++ (w - 1) ∷ []) []) us) (drop_more b.dims.now ws (w - 1) innermost.0 innermost.1 innermost.2)
          ∙ ap (λ l. entry_then p innermost.1 b.vars l us) (levels_more b.dims.now ws (w - 1) innermost.0 innermost.1 [] innermost.2)
          ∙ comma_goes_on p innermost.1 w led (levels b.dims.now ws []) ts us ends
          ∙ ap (λ l. rest_of p l led ts) (sym levels_are)

      pub end_closes : entry_end w led ts ≡ Ok (ended w led false, us) → z.wanted.items ≡ ws → behind_entry p z None us ≡ behind_entry p b behind ts
      unfolding behind_entry
      end_closes ends fewer =
          (λ i. rest_of p (levels (same i) (fewer i) []) (record { vars = vars i; behind = None }) us)
          ∙ close_goes_on p innermost.1 w led (levels b.dims.now ws []) ts us ends
          ∙ ap (λ l. rest_of p l led ts) (sym levels_are)

pub begins : (p : Problem) (dims : List ℕ) (b : Brackets) (ts : List Terminal) → b.dims.now ≡ dims → b.wanted.items ≡ [] → b.vars ≡ [] → before_entry p b ts ≡ nest_at p dims [] ts
unfolding before_entry
begins p dims b ts same none empty = (λ i. entry_then p (drop (length (none i)) (same i)) (empty i) (levels (same i) (none i) []) ts) ∙ none_open p dims ts

-- 6. Dimensions of an alias
abbrev pub dims_from : List ℕ → Reader (List ℕ)
dims_from s = items_at CloseSquare dims_ends with_dim (λ before. number_at alias_dim) s

module _ (before : List ℕ) (ts : List Terminal) where
  pub dim_stops : (e : Stop) → Stops e (number_at alias_dim ts) → Stops e (dims_from before ts)
  dim_stops e stops = entry_stops CloseSquare spell_number (λ s z. on (alias_dim z)) (λ s z. z) with_dim (λ z t. false) Free (pos 0) with_dim alias_dims_are (λ before. number_at alias_dim) (λ before. alias_dim_law) before ts e stops

  module _ (z : ℤ) (us : List Terminal) (is : number_at alias_dim ts ≡ Ok (z, us)) where
    pub dim_comma_stops : (e : Stop) → Stops e (comma_or_at CloseSquare us) → Stops e (dims_from before ts)
    dim_comma_stops e stops = comma_stops CloseSquare spell_number (λ s z. on (alias_dim z)) (λ s z. z) with_dim (λ z t. false) Free (pos 0) with_dim alias_dims_are (λ before. number_at alias_dim) (λ before. alias_dim_law) before ts z us is e stops

    pub dim_goes_on : (vs : List Terminal) → comma_or_at CloseSquare us ≡ Ok (true, vs) → (dims_from (with_dim before z) vs ≡ dims_from before ts) × (length vs < length ts)
    dim_goes_on vs goes = entry_goes_on CloseSquare spell_number (λ s z. on (alias_dim z)) (λ s z. z) with_dim (λ z t. false) Free (pos 0) with_dim alias_dims_are (λ before. number_at alias_dim) (λ before. alias_dim_law) before ts z us is vs goes

    pub dim_ends : (vs : List Terminal) → comma_or_at CloseSquare us ≡ Ok (false, vs) → dims_from before ts ≡ Ok (with_dim before z, vs)
    dim_ends vs goes = entry_ends CloseSquare spell_number (λ s z. on (alias_dim z)) (λ s z. z) with_dim (λ z t. false) Free (pos 0) with_dim alias_dims_are (λ before. number_at alias_dim) (λ before. alias_dim_law) before ts z us is vs goes

-- 7. An alias behind its word
pub not_named : (o : Option Unfit) (p : Problem) (name : List ℕ) (vars : List VarId) → is_some o ≡ true → with_alias_by o p name vars ≡ p
not_named (Some u) p name vars e = refl
not_named None p name vars e = cc

pub none_behind : (o : Option Unfit) → is_some o ≡ false → o ≡ None
none_behind None e = refl
none_behind (Some u) e = cc

module _ (p : Problem) (name : List ℕ) (ts : List Terminal) where
  -- without dimensions
  pub var_equals_stops : (e : Stop) → Stops e (mark_at MarksOnly Equals None ts) → Stops e (var_at p name ts)
  unfolding var_at
  var_equals_stops e stops = stops_first e _ _ stops

  module _ (us : List Terminal) (equal : mark_at MarksOnly Equals None ts ≡ Ok (tt {0}, us)) where
    pub var_ref_stops : (e : Stop) → Stops e (ref_at p (one_place p false) us) → Stops e (var_at p name ts)
    unfolding var_at
    var_ref_stops e stops = stops_second e _ _ tt us equal (stops_first e _ _ stops)

    pub var_reads : (f : Found) (vs : List Terminal) → ref_at p (one_place p false) us ≡ Ok (f, vs) → var_at p name ts ≡ Ok (with_one p name f, vs)
    unfolding var_at
    var_reads f vs reads = ap (λ r. go_on r (λ u. then_read (ref_at p (one_place p false)) (λ f. ret (with_one p name f)))) equal ∙ ap (λ r. go_on r (λ f. ret (with_one p name f))) reads

    pub var_ends : (q : Problem) (behind : Option Unfit) (f : Found) (vs : List Terminal) → ref_at p (one_place p false) us ≡ Ok (f, vs) → with_alias_by f.behind p name f.vars ≡ q → f.behind ≡ behind → var_at p name ts ≡ Ok (record { problem = q; behind = behind }, vs)
    var_ends q behind f vs reads made same = var_reads f vs reads ∙ λ i. Ok (record { problem = made i; behind = same i }, vs)

  -- with dimensions
  pub matrix_dims_stop : (e : Stop) → Stops e (alias_dims_at ts) → Stops e (matrix_at p name ts)
  unfolding matrix_at
  matrix_dims_stop e stops = stops_first e _ _ stops

  module _ (dims : List ℕ) (us : List Terminal) (sized : alias_dims_at ts ≡ Ok (dims, us)) where
    pub matrix_equals_stops : (e : Stop) → Stops e (mark_at MarksOnly Equals None us) → Stops e (matrix_at p name ts)
    unfolding matrix_at
    matrix_equals_stops e stops = stops_second e _ _ dims us sized (stops_first e _ _ stops)

    module _ (vs : List Terminal) (equal : mark_at MarksOnly Equals None us ≡ Ok (tt {0}, vs)) where
      pub matrix_nest_stops : (e : Stop) → Stops e (nest_at p dims [] vs) → Stops e (matrix_at p name ts)
      unfolding matrix_at
      matrix_nest_stops e stops = stops_second e _ _ dims us sized (stops_second e _ _ tt vs equal (stops_first e _ _ stops))

      pub matrix_reads : (v : Led) (ws : List Terminal) → nest_at p dims [] vs ≡ Ok (v, ws) → matrix_at p name ts ≡ Ok (with_matrix p name dims v.vars, ws)
      unfolding matrix_at
      matrix_reads v ws reads =
          ap (λ r. go_on r (λ d. then_read (mark_at MarksOnly Equals None) (λ u. then_read (nest_at p d []) (λ v. ret (with_matrix p name d v.vars))))) sized
          ∙ ap (λ r. go_on r (λ u. then_read (nest_at p dims []) (λ v. ret (with_matrix p name dims v.vars)))) equal
          ∙ ap (λ r. go_on r (λ v. ret (with_matrix p name dims v.vars))) reads

module _ (p : Problem) (ts : List Terminal) where
  pub alias_name_stops : (e : Stop) → Stops e (name_at (new_name p) ts) → Stops e (alias_at p ts)
  unfolding alias_at
  alias_name_stops e stops = stops_first e _ _ stops

  module _ (name : List ℕ) (us : List Terminal) (named : name_at (new_name p) ts ≡ Ok (name, us)) where
    behind_name_is : alias_at p ts ≡ target_at p name us
    unfolding alias_at
    behind_name_is = ap (λ r. go_on r (target_at p)) named

    pub alias_one : is_some (first_as (which_mark OpenSquare) us) ≡ false → alias_at p ts ≡ var_at p name us
    unfolding target_at
    alias_one none = behind_name_is ∙ without_mark OpenSquare (then_read (mark_at MarksOnly OpenSquare None) (λ u. matrix_at p name)) (var_at p name) us none

    module _ (there : is_some (first_as (which_mark OpenSquare) us) ≡ true) where
      alias_more : alias_at p ts ≡ go_on (mark_at MarksOnly OpenSquare None us) (λ u. matrix_at p name)
      unfolding target_at
      alias_more = behind_name_is ∙ with_mark OpenSquare (then_read (mark_at MarksOnly OpenSquare None) (λ u. matrix_at p name)) (var_at p name) us there

      pub alias_open_stops : (e : Stop) → Stops e (mark_at MarksOnly OpenSquare None us) → Stops e (alias_at p ts)
      alias_open_stops e stops = stops_same e _ _ alias_more (stops_first e _ _ stops)

      pub alias_matrix : (vs : List Terminal) → mark_at MarksOnly OpenSquare None us ≡ Ok (tt {0}, vs) → alias_at p ts ≡ matrix_at p name vs
      alias_matrix vs opened = alias_more ∙ ap (λ r. go_on r (λ u. matrix_at p name)) opened

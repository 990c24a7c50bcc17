-- What the section of constraints answers, constraint by constraint.
use Rattle.std.proofs.Common.{◌≡◌, ◌⊎◌, ◌<◌, ◌≤◌, ℕ, Bool, true, false, List, [], ◌∷◌, ◌++◌, length, drop, leb, is_some, Option, Some, None, Ok, Err, refl, sym, ap, ◌∙◌, subst, inl, inr, arith}
use Rattle.mn_lexer.specs.Terminals.{Terminal, word, number, head, mark}
use Rattle.mn_model.specs.Lawful.{IsLawful}
use Rattle.mn_model.specs.Problem.{Problem, cells_of}
use Rattle.mn_model.specs.declared.constraint.Con.{Con}
use Rattle.mn_model.specs.declared.limits.TheConstants.{CONSTRAINTS, NESTING}
use Rattle.mn_grammar.specs.Gives.{Stops}
use Rattle.mn_grammar.specs.Reading.{Answer, Reader, classed, either_of, go_on, judged, one_of, refused, ret}
use Rattle.mn_grammar.specs.declared.Fault.{Fault}
use Rattle.mn_grammar.specs.declared.Kind.{Kind}
use Rattle.mn_grammar.specs.declared.Stop.{Stop}
use Rattle.mn_grammar.specs.declared.site.Site.TheVariants.{Fixed}
use Rattle.mn_cursor.specs.Heads.{head_of}
use Rattle.mn_cursor.specs.Looks.{first_as}
use Rattle.mn_cursor.specs.Progress.{Progress, IsProgress, rest}
use Rattle.mn_cursor.specs.declared.heads.Head.{Head}
use Rattle.mn_cursor.proofs.Turning.{one_leaves, read_leaves, stops_first, first_stops, item_stops, item_goes_on, body_ends}
use Rattle.mn_language.specs.Constraints.{at_form, before_all, with_constraint}
use Rattle.mn_language.specs.Constructing.{at_first, behind_form, constraint_at, constraints_at, ended, first_at, form_at, rest_at, which_first}
use Rattle.mn_language.specs.Forms.{form_of}
use Rattle.mn_language.specs.declared.forms.Form.{Form}
use Rattle.mn_references.proofs.FairTokens.{rest_fair}
use Rattle.mn_language.proofs.LawfulConstraints.{MayBeAdded, may_be_added}
use Rattle.mn_language.proofs.ConstraintLaws.{behind_law, constraint_law}
use Rattle.mn_constraints.specs.Nesting.{next_at}
use Rattle.mn_constraints.proofs.RowSteps.{err_stops}

-- 1. The first token leaves less than there was, and what follows no more
first_leaves : (p : Problem) (ts : List Terminal) (w : Form ⊎ Head) (us : List Terminal) → first_at p ts ≡ Ok (w, us) → length us < length ts
unfolding first_at
first_leaves p ts w us is = one_leaves Fixed which_first (at_first p) ts w us is

abbrev inner : Problem → Form → Reader Con
inner p = behind_form p (before_all p) (constraint_at p 15)

abbrev with_it : Problem → Con → Reader Problem
with_it p c = ret (with_constraint p c)

rest_leaves_by : (p : Problem) (f : Form) (ts : List Terminal) (z : Problem) (us : List Terminal) (r : Answer Con) → inner p f ts ≡ r → go_on r (with_it p) ≡ Ok (z, us) → length us ≤ length ts
rest_leaves_by p f ts z us (Err e) is reads = cc
rest_leaves_by p f ts z us (Ok (c, vs)) is reads =
    let same : ◌≡◌ {A = Problem × List Terminal} (with_constraint p c, vs) (z, us) = cc in
    let size : length vs ≡ length us = ap (λ (x : Problem × List Terminal). length x.1) same in
    let less = read_leaves _ (inner p f) (behind_law p NESTING 15 (before_all p) (constraint_law p 15) f) ts c vs is in
    omega (arith, size, less)

rest_leaves : (p : Problem) (f : Form) (ts : List Terminal) (z : Problem) (us : List Terminal) → rest_at p f ts ≡ Ok (z, us) → length us ≤ length ts
unfolding rest_at
rest_leaves p f ts z us is = rest_leaves_by p f ts z us (inner p f ts) refl is

-- 2. Where no head stands, a constraint is read or refused
data Begun (p : Problem) (ts : List Terminal) : Type 0 where
  refuses : (e : Fault) → first_at p ts ≡ Err e → next_at p ts ≡ Err e → Begun p ts
  begins : (f : Form) (us : List Terminal) → first_at p ts ≡ Ok (inl f, us) → next_at p ts ≡ rest_at p f us → Begun p ts

module _ (p : Problem) (t : Terminal) (us : List Terminal) where
  first_is : first_at p (t ∷ us) ≡ classed Fixed (at_first p) (either_of (form_of t) (head_of t)) (t ∷ us) us
  unfolding first_at
  first_is = refl

  next_is : next_at p (t ∷ us) ≡ go_on (go_on (classed Fixed (at_form NESTING (before_all p)) (form_of t) (t ∷ us) us) (inner p)) (with_it p)
  unfolding next_at constraint_at form_at one_of
  next_is = refl

  rest_is : (f : Form) → go_on (inner p f us) (with_it p) ≡ rest_at p f us
  unfolding rest_at
  rest_is f = refl

  begun_judged : (f : Form) → form_of t ≡ Some f → (k : Option Kind) → at_form NESTING (before_all p) f ≡ k → Begun p (t ∷ us)
  begun_judged f is None kept =
      begins f us
      (first_is ∙ ap (λ o. classed Fixed (at_first p) (either_of o (head_of t)) (t ∷ us) us) is ∙ ap (λ k. judged {W = Form ⊎ Head} k (inl f) (t ∷ us) us) kept)
      (next_is ∙ ap (λ o. go_on (go_on (classed Fixed (at_form NESTING (before_all p)) o (t ∷ us) us) (inner p)) (with_it p)) is
      ∙ ap (λ k. go_on (go_on (judged k f (t ∷ us) us) (inner p)) (with_it p)) kept ∙ rest_is f)
  begun_judged f is (Some kind) kept =
      refuses _
      (first_is ∙ ap (λ o. classed Fixed (at_first p) (either_of o (head_of t)) (t ∷ us) us) is ∙ ap (λ k. judged {W = Form ⊎ Head} k (inl f) (t ∷ us) us) kept)
      (next_is ∙ ap (λ o. go_on (go_on (classed Fixed (at_form NESTING (before_all p)) o (t ∷ us) us) (inner p)) (with_it p)) is
      ∙ ap (λ k. go_on (go_on (judged k f (t ∷ us) us) (inner p)) (with_it p)) kept)

  begun_by : (o : Option Form) → form_of t ≡ o → head_of t ≡ None → Begun p (t ∷ us)
  begun_by None is none =
      refuses (refused Fixed (t ∷ us))
      (first_is ∙ ap (λ o. classed Fixed (at_first p) (either_of o (head_of t)) (t ∷ us) us) is ∙ ap (λ h. classed Fixed (at_first p) (either_of None h) (t ∷ us) us) none)
      (next_is ∙ ap (λ o. go_on (go_on (classed Fixed (at_form NESTING (before_all p)) o (t ∷ us) us) (inner p)) (with_it p)) is)
  begun_by (Some f) is none = begun_judged f is (at_form NESTING (before_all p) f) refl

begun : (p : Problem) (ts : List Terminal) → first_as head_of ts ≡ None → Begun p ts
unfolding first_at next_at constraint_at form_at one_of
begun p [] none = refuses (refused Fixed []) refl refl
begun p (t ∷ us) none = begun_by p t us (form_of t) refl none

-- 3. The section, by its first token
stops_by : (p : Problem) (ts : List Terminal) (e : Stop) → Begun p ts → Stops e (next_at p ts) → Stops e (constraints_at p ts)
unfolding constraints_at
stops_by p ts e (refuses f first next) stops =
    first_stops first_at rest_at ended first_leaves rest_leaves p ts e
    (subst (λ r. Stops e r) (sym first) (err_stops Problem (Form ⊎ Head) f e (subst (λ r. Stops e r) next stops)))
stops_by p ts e (begins f us first next) stops =
    item_stops first_at rest_at ended first_leaves rest_leaves p ts f us e first
    (stops_first e (rest_at p f us) constraints_at (subst (λ r. Stops e r) next stops))

goes_on_by : (p : Problem) (ts : List Terminal) (z : Problem) (vs : List Terminal) → Begun p ts → next_at p ts ≡ Ok (z, vs) → (constraints_at p ts ≡ constraints_at z vs) × (length vs < length ts)
unfolding constraints_at
goes_on_by p ts z vs (refuses f first next) is = absurd (clash (next_at p ts) next is)
  where
    clash : (r : Answer Problem) → r ≡ Err f → r ≡ Ok (z, vs) → ⊥
    clash r a b = cc
goes_on_by p ts z vs (begins f us first next) is =
    let more = first_leaves p ts (inl f) us first in
    let fewer = rest_leaves p f us z vs (sym next ∙ is) in
    (item_goes_on first_at rest_at ended first_leaves rest_leaves p ts f us z vs first (sym next ∙ is), omega (arith, more, fewer))

-- without a head a constraint is read, and the section goes on behind it
no_some : (o : Option Head) → is_some o ≡ false → o ≡ None
no_some None e = refl
no_some (Some h) e = cc

pub next_stops : (p : Problem) (ts : List Terminal) → is_some (first_as head_of ts) ≡ false → (e : Stop) → Stops e (next_at p ts) → Stops e (constraints_at p ts)
next_stops p ts none e stops = stops_by p ts e (begun p ts (no_some (first_as head_of ts) none)) stops

pub next_goes_on : (p : Problem) (ts : List Terminal) → is_some (first_as head_of ts) ≡ false → (z : Problem) (vs : List Terminal) → next_at p ts ≡ Ok (z, vs) → (constraints_at p ts ≡ constraints_at z vs) × (length vs < length ts)
next_goes_on p ts none z vs is = goes_on_by p ts z vs (begun p ts (no_some (first_as head_of ts) none)) is

-- with a head it ends
head_first : (p : Problem) (ts : List Terminal) (h : Head) → first_as head_of ts ≡ Some h → first_at p ts ≡ Ok (inr h, drop 1 ts)
unfolding first_at
head_first p [] h is = cc
head_first p (head bs ∷ us) h is = ap (λ o. classed Fixed (at_first p) (either_of None o) (head bs ∷ us) us) is
head_first p (word bs ∷ us) h is = cc
head_first p (number z ∷ us) h is = cc
head_first p (mark m ∷ us) h is = cc

head_ends : (p : Problem) (ts : List Terminal) (o : Option Head) → first_as head_of ts ≡ o → is_some o ≡ true → (h : Head) × (first_as head_of ts ≡ Some h) × (constraints_at p ts ≡ Ok ((p, h), drop 1 ts))
unfolding constraints_at
head_ends p ts None is there = cc
head_ends p ts (Some h) is there = (h, is, body_ends first_at rest_at ended first_leaves rest_leaves p ts h (drop 1 ts) (head_first p ts h is))

pub section_ends : (p : Problem) (ts : List Terminal) → is_some (first_as head_of ts) ≡ true → (h : Head) × (first_as head_of ts ≡ Some h) × (constraints_at p ts ≡ Ok ((p, h), drop 1 ts))
section_ends p ts there = head_ends p ts (first_as head_of ts) refl there

-- 4. A constraint of the section, as the code reads it
module _ (q old : Progress) (same : q ≡ old) (full : Bool) (is_full : full ≡ leb CONSTRAINTS (length old.problem.cons)) (cells : ℕ) (is_cells : cells ≡ cells_of old.problem) where
  abbrev read_so : Answer Con
  read_so = constraint_at q.problem NESTING (record { full = full; cells = cells }) (rest q)

  so_is : read_so ≡ constraint_at old.problem NESTING (before_all old.problem) (rest old)
  so_is =
      ap (λ (x : Progress). constraint_at x.problem NESTING (record { full = full; cells = cells }) (rest x)) same
      ∙ ap (λ b. constraint_at old.problem NESTING (record { full = b; cells = cells }) (rest old)) is_full
      ∙ ap (λ n. constraint_at old.problem NESTING (record { full = leb CONSTRAINTS (length old.problem.cons); cells = n }) (rest old)) is_cells

  pub read_stops : (e : Stop) → Stops e read_so → Stops e (next_at old.problem (rest old))
  unfolding next_at
  read_stops e stops = stops_first e (constraint_at old.problem NESTING (before_all old.problem) (rest old)) (with_it old.problem) (subst (λ r. Stops e r) so_is stops)

  module _ (c : Con) (us : List Terminal) (reads : read_so ≡ Ok (c, us)) where
    pub read_added : IsLawful old.problem → IsProgress old → MayBeAdded old.problem c
    read_added lawful progress = may_be_added old.problem lawful (rest old) us c (rest_fair old progress) (sym so_is ∙ reads)

    pub read_next : next_at old.problem (rest old) ≡ Ok (with_constraint old.problem c, us)
    unfolding next_at
    read_next = ap (λ r. go_on r (with_it old.problem)) (sym so_is ∙ reads)

pub added_problem : (old go new : Progress) (c : Con) (left : ℕ) → go ≡ record old { left = left } → new ≡ record go { problem = record go.problem { cons = go.problem.cons ++ c ∷ [] } } → with_constraint old.problem c ≡ new.problem
added_problem old go new c left is_go is_new = sym (ap (λ (s : Progress). s.problem) is_new ∙ ap (λ (s : Progress). with_constraint s.problem c) is_go)

pub added_rest : (old go scan new : Progress) (c : Con) (left : ℕ) → go ≡ record old { left = left } → scan ≡ record old { left = scan.left } → left ≡ scan.left → new ≡ record go { problem = record go.problem { cons = go.problem.cons ++ c ∷ [] } } → rest scan ≡ rest new
unfolding rest
added_rest old go scan new c left is_go is_scan is_left is_new =
    let go_scan : go ≡ scan = is_go ∙ ap (λ n. record old { left = n }) is_left ∙ sym is_scan in
    sym (ap (λ (s : Progress). rest s) is_new ∙ ap (λ (s : Progress). rest s) go_scan)

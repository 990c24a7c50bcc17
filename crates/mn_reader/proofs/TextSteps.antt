-- What the code of whole texts does, step by step, is what the reader answers.
use Rattle.mn_asking.specs.Asking.{ReadsAsking}
use Rattle.std.specs.Prelude.{IfOk, IfErr}
use Rattle.std.proofs.Common.{◌≡◌, suc, ◌<◌, ◌≤◌, Bool, true, false, List, [], ◌∷◌, length, drop, codes, Some, None, Ok, Err, Result, refl, sym, ap, ◌∙◌, subst, arith}
use Rattle.mn_lexer.specs.Terminals.{Terminal}
use Rattle.mn_grammar.specs.Reading.{Answer, Reader, goes_on, go_on, turned, then_read, ret, refused, one_of, word_at, loop}
use Rattle.mn_grammar.specs.Gives.{Gives, Stops}
use Rattle.mn_grammar.specs.declared.Fault.{Fault}
use Rattle.mn_grammar.specs.declared.Stop.{Stop}
use Rattle.mn_grammar.specs.declared.Stop.TheVariants.{Refused, NoMemory}
use Rattle.mn_grammar.specs.declared.site.Site.TheVariants.{Fixed}
use Rattle.mn_grammar.proofs.Loops.{loop_turn, turn_shortens}
use Rattle.mn_model.specs.Problem.{Problem}
use Rattle.mn_model.specs.declared.refusal.Refusal.{Refusal}
use Rattle.mn_model.specs.declared.refusal.Refusal.TheVariants as refusals
use Rattle.mn_cursor.specs.Heads.{head_of}
use Rattle.mn_cursor.specs.Looks.{first_as}
use Rattle.mn_cursor.specs.Progress.{Progress, rest, refusal_of, refusal_by, IsTold, Moves, GoesOn, SameText}
use Rattle.mn_asking.specs.Searching.{search_at}
use Rattle.mn_cursor.specs.Sections.{IsRead, ReadsSection}
use Rattle.mn_decls.specs.TupleLists.{tuplelist_at}
use Rattle.mn_decls.specs.Variables.{variables_at}
use Rattle.mn_cursor.specs.declared.heads.Head.{Head}
use Rattle.mn_cursor.specs.declared.heads.Head.TheVariants.{Variables, TupleList, Search, Constraints, End}
use Rattle.mn_cursor.proofs.Looking.{one_seen, one_unseen}
use Rattle.mn_language.specs.Constructing.{constraints_at}
use Rattle.mn_language.specs.Texts.{Stated, nothing_stated, asking}
use Rattle.mn_reader.specs.TextProgress.{stated_of, has_entries, ReadsEntries, ReadsOn, ReadsWhole}
use Rattle.mn_language.specs.WholeTexts.{Place, with_problem, with_asking, no_break, section_at, place_at, behind_head, any_head, sections_at, version_at, behind_title, text_at}
use Rattle.mn_language.proofs.TextLaw.{turn, next, done, some, is_loop, place_law}

-- 1. Refusals
-- a refusal in one cursor is the same in another of the same text
same_refusal : (old new : Progress) (e : Fault) → SameText old new → refusal_of new e ≡ refusal_of old e
same_refusal old new e same =
    λ i. refusal_of (record { text = same.text i; tokens = same.tokens i; stop = same.stop i; left = old.left; problem = old.problem; asked = old.asked }) e

abbrev Tells : {V : Type 0} → Progress → Refusal → Answer V → Type 0
Tells c r answer = (e : Fault) × (answer ≡ Err e) × (refusal_of c e ≡ r)

told : {V : Type 0} (c : Progress) (r : Refusal) (answer : Answer V) → Tells c r answer → IsTold c r answer
told c refusals.NoMemory answer is = tt
told c (refusals.Lex at) answer is = is
told c (refusals.NumberRange at) answer is = is
told c (refusals.Syntax at) answer is = is
told c (refusals.Name at) answer is = is
told c (refusals.Shape at) answer is = is
told c (refusals.EmptyDomain at) answer is = is
told c (refusals.Limit which at) answer is = is
told c (refusals.Unsupported at) answer is = is

-- what a refusal says of a part it says of the whole
pub told_whole : {V W : Type 0} (old new : Progress) (r : Refusal) (part : Answer V) (all : Answer W) → SameText old new → ((e : Fault) → part ≡ Err e → all ≡ Err e) → IsTold new r part → IsTold old r all
told_whole old new refusals.NoMemory part all same fails is = tt
told_whole old new (refusals.Lex at) part all same fails (e, is, r) = (e, fails e is, sym (same_refusal old new e same) ∙ r)
told_whole old new (refusals.NumberRange at) part all same fails (e, is, r) = (e, fails e is, sym (same_refusal old new e same) ∙ r)
told_whole old new (refusals.Syntax at) part all same fails (e, is, r) = (e, fails e is, sym (same_refusal old new e same) ∙ r)
told_whole old new (refusals.Name at) part all same fails (e, is, r) = (e, fails e is, sym (same_refusal old new e same) ∙ r)
told_whole old new (refusals.Shape at) part all same fails (e, is, r) = (e, fails e is, sym (same_refusal old new e same) ∙ r)
told_whole old new (refusals.EmptyDomain at) part all same fails (e, is, r) = (e, fails e is, sym (same_refusal old new e same) ∙ r)
told_whole old new (refusals.Limit which at) part all same fails (e, is, r) = (e, fails e is, sym (same_refusal old new e same) ∙ r)
told_whole old new (refusals.Unsupported at) part all same fails (e, is, r) = (e, fails e is, sym (same_refusal old new e same) ∙ r)

-- what stops the reading is told
pub told_stop : {V : Type 0} (old new : Progress) (e : Stop) (answer : Answer V) → SameText old new → Stops e answer → IsTold old (refusal_by new e) answer
told_stop old new (Refused f) answer same is = told old (refusal_of new f) answer (f, is, sym (same_refusal old new f same))
told_stop old new NoMemory answer same is = tt

-- 2. The head of a section
head_seen : (s : Stated) (h : Head) (ts : List Terminal) → first_as head_of ts ≡ Some h → sections_at s ts ≡ behind_head s h (drop 1 ts)
unfolding sections_at any_head one_of
head_seen s h ts is = ap (λ r. go_on r (behind_head s)) (one_seen Fixed head_of no_break h ts is)

pub head_unseen : (s : Stated) (ts : List Terminal) (e : Stop) → (first_as head_of ts ≡ None) × (e ≡ Refused (refused Fixed ts)) → Stops e (sections_at s ts)
unfolding sections_at any_head one_of
head_unseen s ts e is = subst (λ x. Stops x (sections_at s ts)) (sym is.1) (ap (λ r. go_on r (behind_head s)) (one_unseen Fixed head_of no_break ts is.0))

some_left : (h : Head) (ts : List Terminal) → first_as head_of ts ≡ Some h → length ts ≡ suc (length (drop 1 ts))
some_left h [] is = cc
some_left h (t ∷ ts) is = refl

-- 3. What stands behind it
turn_behind : (s : Stated) (h : Head) (ts : List Terminal) → behind_head s h ts ≡ go_on (section_at s h ts) (turned (loop place_at))
unfolding behind_head
turn_behind s h ts = loop_turn turn next done some is_loop place_at place_law (record { said = s; head = h }) ts

section_leaves : (s : Stated) (h : Head) (ts : List Terminal) (z : Place) (us : List Terminal) → section_at s h ts ≡ Ok (goes_on z, us) → length us < length ts
section_leaves s h ts z us e = turn_shortens turn next done some is_loop place_at place_law (record { said = s; head = h }) ts z us e

pub ends_behind : (s : Stated) (ts : List Terminal) → behind_head s End ts ≡ Ok (s.problem, ts)
unfolding section_at
ends_behind s ts = turn_behind s End ts

-- a section is read by a reader of its own
module _ {R : Type 0} (s : Stated) (h : Head) (read : Reader R) (after : R → Place) (is_section : (ts : List Terminal) → section_at s h ts ≡ then_read (then_read read (λ r. ret (after r))) (λ z. ret (goes_on z)) ts) where
  section_goes : (ts : List Terminal) (r : R) (us : List Terminal) → read ts ≡ Ok (r, us) → section_at s h ts ≡ Ok (goes_on (after r), us)
  section_goes ts r us e = is_section ts ∙ ap (λ a. go_on (go_on a (λ r. ret (after r))) (λ z. ret (goes_on z))) e

  pub section_fails : (ts : List Terminal) (e : Fault) → read ts ≡ Err e → behind_head s h ts ≡ Err e
  section_fails ts e is =
      turn_behind s h ts
      ∙ ap (λ a. go_on a (turned (loop place_at))) (is_section ts ∙ ap (λ a. go_on (go_on a (λ r. ret (after r))) (λ z. ret (goes_on z))) is)

  pub section_read : (ts : List Terminal) (r : R) (us : List Terminal) → first_as head_of us ≡ Some (after r).head → read ts ≡ Ok (r, drop 1 us) → (behind_head s h ts ≡ sections_at (after r).said us) × (length us ≤ length ts)
  unfolding behind_head
  section_read ts r us seen e =
      let goes = section_goes ts r (drop 1 us) e in
      let less = section_leaves s h ts (after r) (drop 1 us) goes in
      let size = some_left (after r).head us seen in (
        turn_behind s h ts
            ∙ ap (λ a. go_on a (turned (loop place_at))) goes
            ∙ sym (head_seen (after r).said (after r).head us seen),
        omega arith,
      )

-- 4. The sections
variables_is : (s : Stated) (ts : List Terminal) → section_at s Variables ts ≡ then_read (then_read (variables_at s.problem) (λ r. ret (with_problem s r))) (λ z. ret (goes_on z)) ts
unfolding section_at
variables_is s ts = refl

lists_is : (s : Stated) (ts : List Terminal) → section_at s TupleList ts ≡ then_read (then_read (tuplelist_at s.problem) (λ r. ret (with_problem s r))) (λ z. ret (goes_on z)) ts
unfolding section_at
lists_is s ts = refl

search_is : (s : Stated) (ts : List Terminal) → section_at s Search ts ≡ then_read (then_read (search_at (asking s)) (λ r. ret (with_asking r))) (λ z. ret (goes_on z)) ts
unfolding section_at
search_is s ts = refl

constraints_is : (s : Stated) (ts : List Terminal) → section_at s Constraints ts ≡ then_read (then_read (constraints_at s.problem) (λ r. ret (with_problem s r))) (λ z. ret (goes_on z)) ts
unfolding section_at
constraints_is s ts = refl

pub same_text : (old new : Progress) → GoesOn old new → SameText old new
same_text old new goes = record { text = ap (λ (x : Progress). x.text) goes; tokens = ap (λ (x : Progress). x.tokens) goes; stop = ap (λ (x : Progress). x.stop) goes }

said_after : (old new : Progress) → GoesOn old new → record (stated_of old) { problem = new.problem } ≡ stated_of new
said_after old new goes = λ i. record { problem = new.problem; asked = (sym goes i).asked }

-- a section that adds to the problem alone
module _ (h : Head) (read : Problem → Reader (Problem × Head)) (is : (s : Stated) (ts : List Terminal) → section_at s h ts ≡ then_read (then_read (read s.problem) (λ r. ret (with_problem s r))) (λ z. ret (goes_on z)) ts) (old new : Progress) (goes : GoesOn old new) where
  adds : IsRead new (read old.problem (rest old)) → (behind_head (stated_of old) h (rest old) ≡ sections_at (stated_of new) (rest new)) × (length (rest new) ≤ length (rest old))
  adds (next, seen, reads) =
      let on = section_read (stated_of old) h (read old.problem) (with_problem (stated_of old)) (is (stated_of old)) (rest old) (new.problem, next) (rest new) seen reads in
      (on.0 ∙ ap (λ s. sections_at s (rest new)) (said_after old new goes), on.1)

  fails : (r : Refusal) → IsTold old r (read old.problem (rest old)) → IsTold old r (behind_head (stated_of old) h (rest old))
  fails r tells =
      told_whole old old r (read old.problem (rest old)) (behind_head (stated_of old) h (rest old)) (record { text = refl; tokens = refl; stop = refl })
      (λ e stops. section_fails (stated_of old) h (read old.problem) (with_problem (stated_of old)) (is (stated_of old)) (rest old) e stops) tells

module _ (old new : Progress) where
  pub variables_read : (result : Result (Unit {0}) Refusal) → GoesOn old new → ReadsSection old new result (variables_at old.problem (rest old)) → ReadsEntries Variables old new result
  variables_read (Ok u) goes reads = adds Variables variables_at variables_is old new goes reads
  variables_read (Err r) goes reads = fails Variables variables_at variables_is old new goes r reads

  pub lists_read : (result : Result (Unit {0}) Refusal) → GoesOn old new → ReadsSection old new result (tuplelist_at old.problem (rest old)) → ReadsEntries TupleList old new result
  lists_read (Ok u) goes reads = adds TupleList tuplelist_at lists_is old new goes reads
  lists_read (Err r) goes reads = fails TupleList tuplelist_at lists_is old new goes r reads

  pub constraints_read : (result : Result (Unit {0}) Refusal) → GoesOn old new → ReadsSection old new result (constraints_at old.problem (rest old)) → ReadsEntries Constraints old new result
  constraints_read (Ok u) goes reads = adds Constraints constraints_at constraints_is old new goes reads
  constraints_read (Err r) goes reads = fails Constraints constraints_at constraints_is old new goes r reads

  pub search_read : (result : Result (Unit {0}) Refusal) → ReadsAsking old new result (search_at (asking (stated_of old)) (rest old)) → ReadsEntries Search old new result
  search_read (Ok u) (h, seen, a, reads, problem, asked) =
      let on = section_read (stated_of old) Search (search_at (asking (stated_of old))) with_asking (search_is (stated_of old)) (rest old) (a, h) (rest new) seen reads in
      (on.0 ∙ (λ i. sections_at (record { problem = problem i; asked = asked i }) (rest new)), on.1)
  search_read (Err r) tells =
      told_whole old old r (search_at (asking (stated_of old)) (rest old)) (behind_head (stated_of old) Search (rest old)) (record { text = refl; tokens = refl; stop = refl })
      (λ e stops. section_fails (stated_of old) Search (search_at (asking (stated_of old))) with_asking (search_is (stated_of old)) (rest old) e stops) tells

-- 5. A step over a section, behind its head
module _ (old at new : Progress) (h : Head) (moves : Moves old at) (next : rest at ≡ drop 1 (rest old)) (seen : first_as head_of (rest old) ≡ Some h) where
  behind : sections_at (stated_of old) (rest old) ≡ behind_head (stated_of at) h (rest at)
  behind = head_seen (stated_of old) h (rest old) seen ∙ (λ i. behind_head (stated_of (sym moves i)) h (sym next i))

  size : length (rest old) ≡ suc (length (rest at))
  size = some_left h (rest old) seen ∙ ap (λ l. suc (length l)) (sym next)

  moved : SameText old at
  moved = record { text = ap (λ (x : Progress). x.text) moves; tokens = ap (λ (x : Progress). x.tokens) moves; stop = ap (λ (x : Progress). x.stop) moves }

  pub step_fails : (r : Refusal) → ReadsEntries h at new (Err r) → IsTold old r (sections_at (stated_of old) (rest old))
  step_fails r tells = told_whole old at r (behind_head (stated_of at) h (rest at)) (sections_at (stated_of old) (rest old)) moved (λ e is. behind ∙ is) tells

  ends_by : (k : Head) → has_entries k ≡ false → ReadsEntries k at new (Ok (tt {0})) → behind_head (stated_of at) k (rest at) ≡ Ok (new.problem, rest new)
  ends_by Variables none reads = cc
  ends_by TupleList none reads = cc
  ends_by Search none reads = cc
  ends_by Constraints none reads = cc
  ends_by End none reads = reads

  goes_by : (k : Head) → has_entries k ≡ true → ReadsEntries k at new (Ok (tt {0})) → (behind_head (stated_of at) k (rest at) ≡ sections_at (stated_of new) (rest new)) × (length (rest new) ≤ length (rest at))
  goes_by Variables some reads = reads
  goes_by TupleList some reads = reads
  goes_by Search some reads = reads
  goes_by Constraints some reads = reads
  goes_by End some reads = cc

  pub step_on : (b : Bool) → b ≡ has_entries h → ReadsEntries h at new (Ok (tt {0})) → ReadsOn old new (Ok b)
  step_on true some reads =
      let on = goes_by h (sym some) reads in
      let less = on.1 in
      (behind ∙ on.0, omega (arith, size))
  step_on false none reads = behind ∙ ends_by h (sym none) reads

-- 6. The title, and the sections behind it
pub title_stops : (ts : List Terminal) (e : Stop) → Stops e (word_at (codes "MINION") None ts) → Stops e (text_at ts)
unfolding text_at
title_stops ts (Refused f) is = ap (λ r. go_on r (λ u. behind_title)) is
title_stops ts NoMemory is = tt

pub version_stops : (ts us : List Terminal) (e : Stop) → word_at (codes "MINION") None ts ≡ Ok (tt {0}, us) → Stops e (version_at us) → Stops e (text_at ts)
unfolding text_at behind_title
version_stops ts us (Refused f) first is = ap (λ r. go_on r (λ u. behind_title)) first ∙ ap (λ r. go_on r (λ u. sections_at nothing_stated)) is
version_stops ts us NoMemory first is = tt

pub behind_version : (ts us vs : List Terminal) → word_at (codes "MINION") None ts ≡ Ok (tt {0}, us) → version_at us ≡ Ok (tt {0}, vs) → text_at ts ≡ sections_at nothing_stated vs
unfolding text_at behind_title
behind_version ts us vs first second = ap (λ r. go_on r (λ u. behind_title)) first ∙ ap (λ r. go_on r (λ u. sections_at nothing_stated)) second

-- 7. Cursors in the same text
pub same_moves : (old new : Progress) → Moves old new → SameText old new
same_moves old new moves = record { text = ap (λ (x : Progress). x.text) moves; tokens = ap (λ (x : Progress). x.tokens) moves; stop = ap (λ (x : Progress). x.stop) moves }

pub same_through : (old at new : Progress) → SameText old at → SameText at new → SameText old new
same_through old at new a b = record { text = b.text ∙ a.text; tokens = b.tokens ∙ a.tokens; stop = b.stop ∙ a.stop }

-- 8. What the code of the first two tokens answers, and of all behind them
module _ (ts us vs : List Terminal) (first : word_at (codes "MINION") None ts ≡ Ok (tt {0}, us)) where
  pub start_ok : (result : Result (Unit {0}) Stop) → Gives (λ u. (tt {0}, vs)) result (version_at us) → IfOk result (λ u. text_at ts ≡ sections_at nothing_stated vs)
  start_ok (Ok u) second = behind_version ts us vs first second
  start_ok (Err e) second = tt

  pub start_err : (result : Result (Unit {0}) Stop) → Gives (λ u. (tt {0}, vs)) result (version_at us) → IfErr result (λ e. Stops e (text_at ts))
  start_err (Ok u) second = tt
  start_err (Err e) second = version_stops ts us e first second

same_state : (old at : Progress) → Moves old at → stated_of at ≡ stated_of old
same_state old at moves = ap stated_of moves

pub whole_reads : (old at new : Progress) (result : Result (Unit {0}) Refusal) → Moves old at → stated_of old ≡ nothing_stated → text_at (rest old) ≡ sections_at nothing_stated (rest at) → ReadsWhole at new result (sections_at (stated_of at) (rest at)) → ReadsWhole old new result (text_at (rest old))
whole_reads old at new result moves none begins = by_result result
  where
    same : text_at (rest old) ≡ sections_at (stated_of at) (rest at)
    same = begins ∙ ap (λ s. sections_at s (rest at)) (sym (same_state old at moves ∙ none))

    by_result : (result : Result (Unit {0}) Refusal) → ReadsWhole at new result (sections_at (stated_of at) (rest at)) → ReadsWhole old new result (text_at (rest old))
    by_result (Ok u) reads = same ∙ reads
    by_result (Err r) tells = told_whole old at r (sections_at (stated_of at) (rest at)) (text_at (rest old)) (same_moves old at moves) (λ e is. same ∙ is) tells

-- What bracketed lists, vectors and rows answer, by their turns and by the mark at which they begin.
use Rattle.std.proofs.Common.{◌≡◌, ◌⊎◌, ℕ, ◌<◌, ◌≤◌, Bool, true, false, List, [], ◌∷◌, length, is_some, Option, Some, None, Result, Ok, Err, if◌then◌else◌, refl, sym, ap, ◌∙◌, subst, inl}
use Rattle.mn_lexer.specs.Terminals.{Terminal, word, number, head, mark}
use Rattle.mn_lexer.specs.declared.marks.Mark.{Mark}
use Rattle.mn_lexer.specs.declared.marks.Mark.TheVariants.{Comma, OpenSquare}
use Rattle.mn_model.specs.Problem.{Problem}
use Rattle.mn_model.specs.declared.constraint.Term.{Term}
use Rattle.mn_grammar.specs.Tokens.{is_the_mark, name_of}
use Rattle.mn_grammar.specs.Reading.{Answer, Reader, Turn, goes_on, is_done, go_on, then_read, ret, judged, classed, judge_end, end_at, which_mark, mark_at, either_of, name_at}
use Rattle.mn_grammar.specs.Lists.{Ends, turn_at, items_at, maybe_at}
use Rattle.mn_grammar.specs.Gives.{Gives, Stops}
use Rattle.mn_grammar.specs.declared.Kind.{Kind}
use Rattle.mn_grammar.specs.declared.Stop.{Stop}
use Rattle.mn_grammar.specs.declared.site.Site.TheVariants.{Free, MarksOnly}
use Rattle.mn_cursor.specs.Looks.{first_as}
use Rattle.mn_cursor.proofs.Turning.{stops_first, read_leaves, with_mark, without_mark}
use Rattle.mn_references.specs.References.{at_name, lead, lead_of}
use Rattle.mn_references.specs.Entries.{Placed, placed, in_list, any_number, a_vector, within_brackets, one_by_one, one_row}
use Rattle.mn_references.specs.Listing.{ends_at, turn_of}
use Rattle.mn_references.specs.Referring.{EntryStart, which_entry, at_entry, behind_entry, entry_at, behind_name, ref_at, list_at, at_vector, behind_vector, vector_at, at_row, behind_row, row_at}
use Rattle.mn_references.specs.declared.want.Bounds.{Bounds}
use Rattle.mn_references.proofs.Listable.{in_list_place, entry_spec, entry_law}
use Rattle.mn_references.proofs.Stepping.{items_on, items_done, items_stop, items_shorten}

-- 1. The end of an entry
judged_turn : {S : Type 0} (k : Option Kind) (s : S) (more : Bool) (l us : List Terminal) → judged k (turn_of s more) l us ≡ go_on (judged k more l us) (λ x. ret (turn_of s x))
judged_turn None s more l us = refl
judged_turn (Some kind) s more l us = refl

same_end : {S : Type 0} (comma close : Option Kind) (s : S) (b c : Bool) (l us : List Terminal) →
    classed MarksOnly (judge_end comma close) (if b then Some (goes_on s) else (if c then Some (is_done s) else None)) l us
    ≡ go_on (classed MarksOnly (λ more. if more then comma else close) (if b then Some true else (if c then Some false else None)) l us) (λ x. ret (turn_of s x))
same_end comma close s true c l us = judged_turn comma s true l us
same_end comma close s false true l us = judged_turn close s false l us
same_end comma close s false false l us = refl

end_so : {S : Type 0} (shut : Mark) (comma close : Option Kind) (s : S) (ts : List Terminal) → end_at shut comma close s s ts ≡ go_on (ends_at shut comma close ts) (λ x. ret (turn_of s x))
unfolding end_at ends_at
end_so shut comma close s [] = refl
end_so shut comma close s (t ∷ ts) = same_end comma close s (is_the_mark Comma t) (is_the_mark shut t) (t ∷ ts) ts

gives_end : {S : Type 0} (z : S) (vs : List Terminal) (result : Result Bool Stop) (a : Answer Bool) → Gives (λ more. (more, vs)) result a → Gives (λ more. (turn_of z more, vs)) result (go_on a (λ x. ret (turn_of z x)))
gives_end z vs (Ok more) a gives = ap (λ r. go_on r (λ x. ret (turn_of z x))) gives
gives_end z vs (Err e) a gives = stops_first e a (λ x. ret (turn_of z x)) gives

-- 2. A list whose value is the state behind its last entry
module _ {S V : Type 0} (shut : Mark) (ends : Ends S V) (read : S → Reader V) where
  abbrev turn : S → Reader (Turn S S)
  turn = turn_at shut ends ends.next read

  abbrev items : S → Reader S
  items = items_at shut ends ends.next read

  turn_is : (s : S) (ts : List Terminal) (v : V) (us : List Terminal) → read s ts ≡ Ok (v, us) → turn s ts ≡ go_on (ends_at shut (ends.comma s v) (ends.close s v) us) (λ x. ret (turn_of (ends.next s v) x))
  turn_is s ts v us is =
      ap (λ r. go_on r (λ w. end_at shut (ends.comma s w) (ends.close s w) (ends.next s w) (ends.next s w))) is
      ∙ end_so shut (ends.comma s v) (ends.close s v) (ends.next s v) us

  -- a turn, by its entry and by the mark behind it
  pub turn_stops : (s : S) (ts : List Terminal) (e : Stop) → Stops e (read s ts) → Stops e (turn s ts)
  turn_stops s ts e stops = stops_first e (read s ts) (λ w. end_at shut (ends.comma s w) (ends.close s w) (ends.next s w) (ends.next s w)) stops

  pub turn_gives : (s z : S) (v : V) (ts us vs : List Terminal) (comma close : Option Kind) (result : Result Bool Stop) → read s ts ≡ Ok (v, us) → z ≡ ends.next s v → comma ≡ ends.comma s v → close ≡ ends.close s v → Gives (λ more. (more, vs)) result (ends_at shut comma close us) → Gives (λ more. (turn_of z more, vs)) result (turn s ts)
  turn_gives s z v ts us vs comma close result is next is_comma is_close gives =
      subst (λ r. Gives (λ more. (turn_of z more, vs)) result r) (sym (turn_is s ts v us is))
      (subst (λ y. Gives (λ more. (turn_of z more, vs)) result (go_on (ends_at shut (ends.comma s v) (ends.close s v) us) (λ x. ret (turn_of y x)))) next
      (gives_end z vs result (ends_at shut (ends.comma s v) (ends.close s v) us)
      (subst (λ k. Gives (λ more. (more, vs)) result (ends_at shut (ends.comma s v) k us)) is_close
      (subst (λ k. Gives (λ more. (more, vs)) result (ends_at shut k close us)) is_comma gives))))

  -- the list, by its turns, where the reader of an entry leaves no more than there was
  module _ (leaves : (s : S) (ts : List Terminal) (v : V) (us : List Terminal) → read s ts ≡ Ok (v, us) → length us ≤ length ts) where
    pub list_stops : (s : S) (ts : List Terminal) (e : Stop) (r : Answer S) → Stops e (turn s ts) → items s ts ≡ r → Stops e r
    list_stops s ts e r stops same = subst (λ a. Stops e a) same (items_stop shut ends ends.next read leaves s ts e stops)

    pub list_on : (s z : S) (ts us : List Terminal) (r : Answer S) → turn s ts ≡ Ok (turn_of z true, us) → items s ts ≡ r → (items z us ≡ r) × (length us < length ts)
    list_on s z ts us r is same = (sym (items_on shut ends ends.next read leaves s z ts us is) ∙ same, items_shorten shut ends ends.next read leaves s z ts us is)

    pub list_done : (s z : S) (ts us : List Terminal) (r : Answer S) → turn s ts ≡ Ok (turn_of z false, us) → items s ts ≡ r → r ≡ Ok (z, us)
    list_done s z ts us r is same = sym same ∙ items_done shut ends ends.next read leaves s z ts us is

-- 3. A list that may be empty
module _ {S V R : Type 0} (shut : Mark) (ends : Ends S V) (empty : Option Kind) (none : R) (result : S → V → R) (read : S → Reader V) (s : S) (ts : List Terminal) where
  abbrev maybe : Answer R
  maybe = maybe_at shut ends empty none result read s ts

  shut_is : is_some (first_as (which_mark shut) ts) ≡ true → maybe ≡ go_on (mark_at MarksOnly shut empty ts) (λ u. ret none)
  unfolding maybe_at
  shut_is there = with_mark shut (then_read (mark_at MarksOnly shut empty) (λ u. ret none)) (items_at shut ends result read s) ts there

  pub shut_stops : is_some (first_as (which_mark shut) ts) ≡ true → (e : Stop) → Stops e (mark_at MarksOnly shut empty ts) → Stops e maybe
  shut_stops there e stops = subst (λ r. Stops e r) (sym (shut_is there)) (stops_first e (mark_at MarksOnly shut empty ts) (λ u. ret none) stops)

  pub shut_reads : is_some (first_as (which_mark shut) ts) ≡ true → (us : List Terminal) → mark_at MarksOnly shut empty ts ≡ Ok (tt {0}, us) → maybe ≡ Ok (none, us)
  shut_reads there us is = shut_is there ∙ ap (λ r. go_on r (λ u. ret none)) is

  pub opened : is_some (first_as (which_mark shut) ts) ≡ false → maybe ≡ items_at shut ends result read s ts
  unfolding maybe_at
  opened absent = without_mark shut (then_read (mark_at MarksOnly shut empty) (λ u. ret none)) (items_at shut ends result read s) ts absent

-- the entries of a list leave no more than there was
pub entry_leaves : (p : Problem) (b : Bounds) (before : List Term) (ts : List Terminal) (v : Placed) (us : List Terminal) → entry_at p (in_list p b before) ts ≡ Ok (v, us) → length us ≤ length ts
entry_leaves p b before ts v us is = read_leaves (entry_spec p (in_list p b before)) (entry_at p (in_list p b before)) (entry_law p (in_list p b before) (in_list_place p b before)) ts v us is

-- 4. Vectors, by whether `[` stands there
module _ (p : Problem) (b : Bounds) where
  listed_by : (x : Bool) (l us : List Terminal) → is_some {T = Unit {0}} (if x then Some tt else None) ≡ true →
      go_on (classed Free (at_vector p b) (either_of {V = List ℕ} None (if x then Some tt else None)) l us) (behind_vector p b)
      ≡ go_on (go_on (classed {W = Unit {0}} MarksOnly (λ u. None) (if x then Some tt else None) l us) (λ u. list_at p b)) (λ terms. ret (within_brackets terms))
  unfolding behind_vector
  listed_by true l us there = refl
  listed_by false l us there = cc

  pub vector_listed : (ts : List Terminal) → is_some (first_as (which_mark OpenSquare) ts) ≡ true → vector_at p b ts ≡ go_on (go_on (mark_at MarksOnly OpenSquare None ts) (λ u. list_at p b)) (λ terms. ret (within_brackets terms))
  unfolding vector_at mark_at
  vector_listed [] there = cc
  vector_listed (mark m ∷ us) there = listed_by (is_the_mark OpenSquare (mark m)) (mark m ∷ us) us there
  vector_listed (word bs ∷ us) there = cc
  vector_listed (number z ∷ us) there = cc
  vector_listed (head bs ∷ us) there = cc

  named_then : (k : Option Kind) (w : List ℕ) (l us : List Terminal) → go_on (judged {W = List ℕ ⊎ Unit {0}} k (inl w) l us) (behind_vector p b) ≡ go_on (go_on (judged k w l us) (λ w. behind_name (a_vector p b) (lead p w))) (λ f. ret (placed f))
  unfolding behind_vector
  named_then None w l us = refl
  named_then (Some kind) w l us = refl

  named_by : (o : Option (List ℕ)) (x : Bool) (l us : List Terminal) → is_some {T = Unit {0}} (if x then Some tt else None) ≡ false →
      go_on (classed Free (at_vector p b) (either_of o (if x then Some tt else None)) l us) (behind_vector p b)
      ≡ go_on (go_on (classed Free (λ w. at_name (a_vector p b) (lead_of p w)) o l us) (λ w. behind_name (a_vector p b) (lead p w))) (λ f. ret (placed f))
  named_by (Some w) x l us none = named_then (at_name (a_vector p b) (lead_of p w)) w l us
  named_by None true l us none = cc
  named_by None false l us none = refl

  pub vector_named : (ts : List Terminal) → is_some (first_as (which_mark OpenSquare) ts) ≡ false → vector_at p b ts ≡ go_on (ref_at p (a_vector p b) ts) (λ f. ret (placed f))
  unfolding vector_at ref_at name_at
  vector_named [] none = refl
  vector_named (t ∷ us) none = named_by (name_of t) (is_the_mark OpenSquare t) (t ∷ us) us none

-- 5. Rows, by whether `[` stands there
module _ (p : Problem) where
  bracketed_by : (x : Bool) (l us : List Terminal) → is_some {T = Unit {0}} (if x then Some tt else None) ≡ true →
      go_on (classed Free (at_row p) (either_of {V = EntryStart} None (if x then Some tt else None)) l us) (behind_row p)
      ≡ go_on (go_on (classed {W = Unit {0}} MarksOnly (λ u. None) (if x then Some tt else None) l us) (λ u. list_at p any_number)) (λ terms. ret (one_row terms))
  unfolding behind_row
  bracketed_by true l us there = refl
  bracketed_by false l us there = cc

  no_start : (m : Mark) → is_the_mark OpenSquare (mark m) ≡ true → which_entry (mark m) ≡ None
  no_start OpenSquare e = refl
  no_start m e = cc

  pub row_bracketed : (ts : List Terminal) → is_some (first_as (which_mark OpenSquare) ts) ≡ true → row_at p ts ≡ go_on (go_on (mark_at MarksOnly OpenSquare None ts) (λ u. list_at p any_number)) (λ terms. ret (one_row terms))
  unfolding row_at mark_at
  row_bracketed [] there = cc
  row_bracketed (mark OpenSquare ∷ us) there = bracketed_by true (mark OpenSquare ∷ us) us there
  row_bracketed (mark m ∷ us) there = cc
  row_bracketed (word bs ∷ us) there = cc
  row_bracketed (number z ∷ us) there = cc
  row_bracketed (head bs ∷ us) there = cc

  plain_then : (k : Option Kind) (e : EntryStart) (l us : List Terminal) → go_on (judged {W = EntryStart ⊎ Unit {0}} k (inl e) l us) (behind_row p) ≡ go_on (go_on (judged k e l us) (behind_entry p (in_list p any_number []))) (λ v. ret (one_by_one v))
  unfolding behind_row
  plain_then None e l us = refl
  plain_then (Some kind) e l us = refl

  plain_by : (o : Option EntryStart) (x : Bool) (l us : List Terminal) → is_some {T = Unit {0}} (if x then Some tt else None) ≡ false →
      go_on (classed Free (at_row p) (either_of o (if x then Some tt else None)) l us) (behind_row p)
      ≡ go_on (go_on (classed Free (at_entry p (in_list p any_number [])) o l us) (behind_entry p (in_list p any_number []))) (λ v. ret (one_by_one v))
  plain_by (Some e) x l us none = plain_then (at_entry p (in_list p any_number []) e) e l us
  plain_by None true l us none = cc
  plain_by None false l us none = refl

  pub row_plain : (ts : List Terminal) → is_some (first_as (which_mark OpenSquare) ts) ≡ false → row_at p ts ≡ go_on (entry_at p (in_list p any_number []) ts) (λ v. ret (one_by_one v))
  unfolding row_at entry_at
  row_plain [] none = refl
  row_plain (t ∷ us) none = plain_by (which_entry t) (is_the_mark OpenSquare t) (t ∷ us) us none

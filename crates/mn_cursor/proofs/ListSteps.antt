-- What the code of a bracketed list does, entry by entry, is what the list's reader answers, where the marks have no
-- conditions.
use Rattle.std.proofs.Common.{◌≡◌, ◌<◌, Bool, true, false, List, [], ◌∷◌, length, Some, None, Ok, if◌then◌else◌, refl, sym, ap, ◌∙◌, arith}
use Rattle.mn_lexer.specs.Terminals.{Terminal}
use Rattle.mn_lexer.specs.declared.marks.Mark.{Mark}
use Rattle.mn_lexer.specs.declared.marks.Mark.TheVariants.{Comma}
use Rattle.mn_grammar.specs.Tokens.{is_the_mark}
use Rattle.mn_grammar.specs.Places.{Break}
use Rattle.mn_grammar.specs.Reading.{Reader, Turn, goes_on, is_done, go_on, ret, classed, judge_end, end_at}
use Rattle.mn_grammar.specs.Lists.{Judge, items_at}
use Rattle.mn_grammar.specs.Gives.{Stops}
use Rattle.mn_grammar.specs.Lawful.{Lawful}
use Rattle.mn_grammar.specs.declared.site.Site.{Site}
use Rattle.mn_grammar.specs.declared.site.Site.TheVariants.{MarksOnly}
use Rattle.mn_grammar.specs.declared.Stop.{Stop}
use Rattle.mn_grammar.specs.declared.Stop.TheVariants.{Refused, NoMemory}
use Rattle.mn_grammar.proofs.Items.{Entries, entry_spec, entry_fails, end_fails, list_goes_on, list_ends}
use Rattle.mn_cursor.specs.Lists.{which_comma_or, comma_or_at}
use Rattle.mn_cursor.proofs.Turning.{one_leaves, read_leaves}

-- 1. The end of an entry
abbrev turn_of : {S R : Type 0} → S → R → Bool → Turn S R
turn_of s r true = goes_on s
turn_of s r false = is_done r

module _ {S R : Type 0} (shut : Mark) (s : S) (r : R) where
  same_end : (b c : Bool) (l us : List Terminal) →
      classed MarksOnly (judge_end None None) (if b then Some (goes_on s) else (if c then Some (is_done r) else None)) l us
      ≡ go_on (classed MarksOnly (λ x. None) (if b then Some true else (if c then Some false else None)) l us) (λ x. ret (turn_of s r x))
  same_end true c l us = refl
  same_end false true l us = refl
  same_end false false l us = refl

  end_so : (ts : List Terminal) → end_at shut None None s r ts ≡ go_on (comma_or_at shut ts) (λ x. ret (turn_of s r x))
  unfolding end_at comma_or_at
  end_so [] = refl
  end_so (t ∷ ts) = same_end (is_the_mark Comma t) (is_the_mark shut t) (t ∷ ts) ts

-- 2. A list
module _ {A S V R : Type 0} (shut : Mark) (spell : A → List Terminal) (breaks : S → A → List Break) (value : S → A → V) (next : S → V → S) (blocks : A → Terminal → Bool) (start : Site) (some : A) (result : S → V → R) where
  abbrev j : Judge A S V
  j = record { spell = spell; breaks = breaks; value = value; ends = record { next = next; comma = λ s v. None; close = λ s v. None } }

  module _ (are : Entries shut j blocks start some) (read : S → Reader V) (law : (s : S) → Lawful (entry_spec shut j blocks start some s) (read s)) (s : S) (ts : List Terminal) where
    abbrev list_at : S → Reader R
    list_at z = items_at shut j.ends result read z

    pub entry_stops : (e : Stop) → Stops e (read s ts) → Stops e (list_at s ts)
    entry_stops (Refused f) stops = entry_fails shut j blocks start some result are read law s ts f stops
    entry_stops NoMemory stops = tt

    module _ (v : V) (us : List Terminal) (is : read s ts ≡ Ok (v, us)) where
      pub comma_stops : (e : Stop) → Stops e (comma_or_at shut us) → Stops e (list_at s ts)
      comma_stops (Refused f) stops =
          end_fails shut j blocks start some result are read law s ts v us is f (end_so shut (next s v) (result s v) us ∙ ap (λ r. go_on r (λ x. ret (turn_of (next s v) (result s v) x))) stops)
      comma_stops NoMemory stops = tt

      comma_leaves : (b : Bool) (vs : List Terminal) → comma_or_at shut us ≡ Ok (b, vs) → length vs < length us
      unfolding comma_or_at
      comma_leaves b vs goes = one_leaves MarksOnly (which_comma_or shut) (λ x. None) us b vs goes

      pub entry_goes_on : (vs : List Terminal) → comma_or_at shut us ≡ Ok (true, vs) → (list_at (next s v) vs ≡ list_at s ts) × (length vs < length ts)
      entry_goes_on vs goes = (
        sym (list_goes_on shut j blocks start some result are read law s ts v us is (next s v) vs (end_so shut (next s v) (result s v) us ∙ ap (λ r. go_on r (λ x. ret (turn_of (next s v) (result s v) x))) goes)),
        let one = read_leaves (entry_spec shut j blocks start some s) (read s) (law s) ts v us is in
            let two = comma_leaves true vs goes in
            omega arith,
      )

      pub entry_ends : (vs : List Terminal) → comma_or_at shut us ≡ Ok (false, vs) → list_at s ts ≡ Ok (result s v, vs)
      entry_ends vs goes =
          list_ends shut j blocks start some result are read law s ts v us is (result s v) vs (end_so shut (next s v) (result s v) us ∙ ap (λ r. go_on r (λ x. ret (turn_of (next s v) (result s v) x))) goes)

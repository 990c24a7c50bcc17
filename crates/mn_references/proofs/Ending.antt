-- What stands behind an entry of a list, by a look at it.
use Rattle.std.proofs.Common.{◌≡◌, Bool, true, false, cond, List, [], ◌∷◌, drop, Option, Some, None, Ok, refl, ap, ◌∙◌}
use Rattle.mn_lexer.specs.Terminals.{Terminal}
use Rattle.mn_lexer.specs.declared.marks.Mark.{Mark}
use Rattle.mn_lexer.specs.declared.marks.Mark.TheVariants.{Comma}
use Rattle.mn_grammar.specs.Tokens.{is_the_mark}
use Rattle.mn_grammar.specs.Reading.{Turn, goes_on, is_done, which_end, judge_end, end_at, judged, refused}
use Rattle.mn_grammar.specs.Gives.{Stops}
use Rattle.mn_grammar.specs.declared.site.Site.TheVariants.{MarksOnly}
use Rattle.mn_grammar.specs.declared.Kind.{Kind}
use Rattle.mn_grammar.specs.declared.Stop.{Stop}
use Rattle.mn_grammar.specs.declared.Stop.TheVariants.{Refused}
use Rattle.mn_cursor.specs.Lists.{which_comma_or}
use Rattle.mn_cursor.specs.Looks.{first_as}
use Rattle.mn_cursor.proofs.Looking.{unseen_stops, seen_stops, seen_reads}

module _ {S V : Type 0} (shut : Mark) (comma close : Option Kind) (s : S) (v : V) where
  abbrev ended : Option Bool → Option (Turn S V)
  ended None = None
  ended (Some true) = Some (goes_on s)
  ended (Some false) = Some (is_done v)

  by_marks : (b c : Bool) → cond {A = Option (Turn S V)} b (Some (goes_on s)) (cond c (Some (is_done v)) None) ≡ ended (cond b (Some true) (cond c (Some false) None))
  by_marks true c = refl
  by_marks false true = refl
  by_marks false false = refl

  first_end : (ts : List Terminal) → first_as (which_end shut s v) ts ≡ ended (first_as (which_comma_or shut) ts)
  first_end [] = refl
  first_end (t ∷ ts) = by_marks (is_the_mark Comma t) (is_the_mark shut t)

  pub end_stops : (ts : List Terminal) (e : Stop) → (first_as (which_comma_or shut) ts ≡ None) × (e ≡ Refused (refused MarksOnly ts)) → Stops e (end_at shut comma close s v ts)
  unfolding end_at
  end_stops ts e is = unseen_stops MarksOnly (which_end shut s v) (judge_end comma close) ts e (first_end ts ∙ ap ended is.0, is.1)

  pub comma_stops : (ts : List Terminal) (e : Stop) → first_as (which_comma_or shut) ts ≡ Some true → Stops e (judged comma (tt {0}) ts (drop 1 ts)) → Stops e (end_at shut comma close s v ts)
  unfolding end_at
  comma_stops ts e is stops = seen_stops MarksOnly (which_end shut s v) (judge_end comma close) (goes_on s) ts e (first_end ts ∙ ap ended is) stops

  pub comma_reads : (ts us : List Terminal) → first_as (which_comma_or shut) ts ≡ Some true → judged comma (tt {0}) ts (drop 1 ts) ≡ Ok (tt {0}, us) → end_at shut comma close s v ts ≡ Ok (goes_on s, us)
  unfolding end_at
  comma_reads ts us is reads = seen_reads MarksOnly (which_end shut s v) (judge_end comma close) (goes_on s) ts us (first_end ts ∙ ap ended is) reads

  pub close_stops : (ts : List Terminal) (e : Stop) → first_as (which_comma_or shut) ts ≡ Some false → Stops e (judged close (tt {0}) ts (drop 1 ts)) → Stops e (end_at shut comma close s v ts)
  unfolding end_at
  close_stops ts e is stops = seen_stops MarksOnly (which_end shut s v) (judge_end comma close) (is_done v) ts e (first_end ts ∙ ap ended is) stops

  pub close_reads : (ts us : List Terminal) → first_as (which_comma_or shut) ts ≡ Some false → judged close (tt {0}) ts (drop 1 ts) ≡ Ok (tt {0}, us) → end_at shut comma close s v ts ≡ Ok (is_done v, us)
  unfolding end_at
  close_reads ts us is reads = seen_reads MarksOnly (which_end shut s v) (judge_end comma close) (is_done v) ts us (first_end ts ∙ ap ended is) reads

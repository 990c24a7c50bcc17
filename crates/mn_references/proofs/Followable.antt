-- A reference and the mark behind it are read lawfully, and what they answer by their parts.
use Rattle.std.proofs.Common.{◌≡◌, Bool, true, false, cond, List, [], ◌∷◌, drop, Option, Some, None, Ok, is_some, ◌&&◌, ◌||◌, refl, sym, ap, ◌∙◌, subst}
use Rattle.mn_lexer.specs.Terminals.{Terminal, word, number, head, mark}
use Rattle.mn_lexer.specs.declared.marks.Mark.{Mark}
use Rattle.mn_lexer.specs.declared.marks.Mark.TheVariants.{OpenSquare, CloseSquare, OpenCurly, CloseCurly, OpenRound, CloseRound, Less, Greater, Comma, Equals, Bang, Dots}
use Rattle.mn_model.specs.Problem.{Problem}
use Rattle.mn_model.specs.declared.variable.VarId.{VarId}
use Rattle.mn_grammar.specs.Tokens.{is_mark, is_the_mark}
use Rattle.mn_grammar.specs.Reading.{go_on, one, ret, then_read, judged, refused, fault_at}
use Rattle.mn_grammar.specs.Lawful.{Spec, Lawful}
use Rattle.mn_grammar.specs.Gives.{Stops}
use Rattle.mn_grammar.proofs.Leaves.{leaf, IsClass, Lawful-one}
use Rattle.mn_grammar.proofs.Joins.{joined, Lawful-then}
use Rattle.mn_grammar.proofs.Steps.{valued, Lawful-valued, join_mark}
use Rattle.mn_grammar.proofs.Views.{Lawful-view}
use Rattle.mn_grammar.specs.declared.Kind.{Kind}
use Rattle.mn_grammar.specs.declared.Stop.{Stop}
use Rattle.mn_grammar.specs.declared.Stop.TheVariants.{Refused}
use Rattle.mn_grammar.specs.declared.site.Site.TheVariants.{MarksOnly}
use Rattle.mn_cursor.specs.Looks.{first_as}
use Rattle.mn_references.specs.References.{Ref, Found, as_wanted, value_ref}
use Rattle.mn_references.specs.Referring.{ref_at}
use Rattle.mn_references.specs.Wanted.{may_follow, at_mark, ended, which_may_follow, reference_then, followed_spec}
use Rattle.mn_cursor.proofs.Looking.{one_seen, unseen_stops}
use Rattle.mn_cursor.proofs.Turning.{stops_first, stops_second}
use Rattle.mn_references.proofs.Referable.{as_kind_kinds, blocks_subs, ref_spec, ref_law}
use Rattle.mn_references.proofs.Listable.{subs_marks}
use Rattle.mn_references.specs.declared.want.Want.{Want}

-- 1. The law
module _ (want : Want) where
  abbrev May : Type 0
  May = (m : Mark) × (may_follow want m ≡ true)

  abbrev may_token : May → Terminal
  may_token a = mark a.0

  may_back : (m w : Mark) (b : Bool) → may_follow want m ≡ b → cond b (Some m) None ≡ Some w → (a : May) × (mark m ≡ may_token a) × (a.0 ≡ w)
  may_back m w true may e = ((m, may), refl, cc)
  may_back m w false may e = cc

  may_of : (t : Terminal) (w : Mark) → which_may_follow want t ≡ Some w → (a : May) × (t ≡ may_token a) × (a.0 ≡ w)
  may_of (mark m) w e = may_back m w (may_follow want m) refl e
  may_of (word bs) w e = cc
  may_of (number z) w e = cc
  may_of (head bs) w e = cc

  may_class : IsClass may_token (λ a. a.0) (which_may_follow want)
  may_class = record { forth = λ a. ap (λ b. cond b (Some a.0) None) a.1; back = may_of }

  only_marks : (t : Terminal) → is_mark t ≡ false → is_some (which_may_follow want t) ≡ false
  only_marks (mark m) e = cc
  only_marks (word bs) e = refl
  only_marks (number z) e = refl
  only_marks (head bs) e = refl

  no_open : (m : Mark) → may_follow want m ≡ true → is_the_mark OpenSquare (mark m) ≡ false
  no_open OpenSquare e = cc
  no_open CloseSquare e = refl
  no_open OpenCurly e = refl
  no_open CloseCurly e = refl
  no_open OpenRound e = refl
  no_open CloseRound e = refl
  no_open Less e = refl
  no_open Greater e = refl
  no_open Comma e = refl
  no_open Equals e = refl
  no_open Bang e = refl
  no_open Dots e = refl

  module _ (p : Problem) (m : Mark) (may : may_follow want m ≡ true) where
    abbrev found : Ref → Found
    found r = value_ref p (as_wanted p want) r

    abbrev next : (r : Ref) → Spec May (List VarId)
    next r = valued (λ a. (found r).vars) (leaf MarksOnly may_token (λ a. a.0) (at_mark want (found r)) (m, may))

    next_law : (r : Ref) → Lawful (next r) (then_read (one MarksOnly (which_may_follow want) (at_mark want (found r))) (λ a. ret (found r).vars))
    next_law r = Lawful-valued (λ a. (found r).vars) (leaf MarksOnly may_token (λ a. a.0) (at_mark want (found r)) (m, may)) (one MarksOnly (which_may_follow want) (at_mark want (found r)))
        (Lawful-one MarksOnly may_token (λ a. a.0) (which_may_follow want) (at_mark want (found r)) (m, may)
        (record { class = may_class; is_site = only_marks; kinds = λ n kind e. as_kind_kinds (ended want (found r).vars n (found r).behind) kind e }))

    apart : (r : Ref) (a : May) (t : Terminal) (q : List Terminal) → mark a.0 ∷ [] ≡ t ∷ q → blocks_subs r.subs t ≡ false
    apart r a t q e = let same : mark a.0 ≡ t = cc in subst (λ (u : Terminal). blocks_subs r.subs u ≡ false) same (by_subs r.subs)
      where
        by_subs : (o : Option _) → blocks_subs o (mark a.0) ≡ false
        by_subs None = no_open a.0 a.1
        by_subs (Some subs) = refl

    pub followed_law : Lawful (followed_spec p want m may) (reference_then p want)
    unfolding reference_then
    followed_law =
        Lawful-view (joined (ref_spec p (as_wanted p want)) next) (followed_spec p want m may)
        (record {
          onto = λ y. record { ref = y.0; next = y.1.0; may = y.1.1 };
          back = λ t. (t.ref, (t.next, t.may));
          again = λ t. refl;
          spell = λ y. refl;
          breaks = λ y. refl;
          value = λ y. refl;
          blocks = λ y t. blocks_none (blocks_subs y.0.subs t);
          start = refl;
        })
        (then_read (ref_at p (as_wanted p want)) (λ f. then_read (one MarksOnly (which_may_follow want) (at_mark want f)) (λ n. ret f.vars)))
        (Lawful-then (ref_spec p (as_wanted p want)) next
        (join_mark (ref_spec p (as_wanted p want)) next (λ r e. cc) (λ r. subs_marks r.subs) (λ r. refl) apart)
        (ref_at p (as_wanted p want)) (λ f. then_read (one MarksOnly (which_may_follow want) (at_mark want f)) (λ n. ret f.vars))
        (ref_law p (as_wanted p want)) (λ r. (next_law r).sound) (λ r kept. next_law r))
      where
        blocks_none : (b : Bool) → false ≡ ((b && false) || false)
        blocks_none true = refl
        blocks_none false = refl

-- 2. What it answers
module _ (p : Problem) (want : Want) (ts : List Terminal) where
  pub then_stops : (e : Stop) → Stops e (ref_at p (as_wanted p want) ts) → Stops e (reference_then p want ts)
  unfolding reference_then
  then_stops e stops = stops_first e (ref_at p (as_wanted p want) ts) _ stops

  module _ (f : Found) (us : List Terminal) (is : ref_at p (as_wanted p want) ts ≡ Ok (f, us)) where
    pub next_unseen : (e : Stop) → (first_as (which_may_follow want) us ≡ None) × (e ≡ Refused (refused MarksOnly us)) → Stops e (reference_then p want ts)
    unfolding reference_then
    next_unseen e none = stops_second e (ref_at p (as_wanted p want) ts) _ f us is
        (stops_first e (one MarksOnly (which_may_follow want) (at_mark want f) us) _ (unseen_stops MarksOnly (which_may_follow want) (at_mark want f) us e none))

    pub next_broken : (m : Mark) (kind : Kind) (e : Stop) → first_as (which_may_follow want) us ≡ Some m → at_mark want f m ≡ Some kind → e ≡ Refused (fault_at us kind) → Stops e (reference_then p want ts)
    unfolding reference_then
    next_broken m kind e there broken refused =
        stops_second e (ref_at p (as_wanted p want) ts) _ f us is
        (stops_first e (one MarksOnly (which_may_follow want) (at_mark want f) us) _
        (subst (λ (g : Stop). Stops g (one MarksOnly (which_may_follow want) (at_mark want f) us)) (sym refused)
        (one_seen MarksOnly (which_may_follow want) (at_mark want f) m us there ∙ ap (λ c. judged c m us (drop 1 us)) broken)))

    pub next_kept : (m : Mark) → first_as (which_may_follow want) us ≡ Some m → at_mark want f m ≡ None → reference_then p want ts ≡ Ok (f.vars, drop 1 us)
    unfolding reference_then
    next_kept m there kept =
        ap (λ r. go_on r (λ g. then_read (one MarksOnly (which_may_follow want) (at_mark want g)) (λ n. ret g.vars))) is
        ∙ ap (λ r. go_on r (λ n. ret f.vars)) (one_seen MarksOnly (which_may_follow want) (at_mark want f) m us there ∙ ap (λ c. judged c m us (drop 1 us)) kept)

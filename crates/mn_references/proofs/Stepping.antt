-- A turn of a list by what reads its entry and what reads its end.
use Rattle.std.proofs.Common.{◌≡◌, ℕ, drop, ◌<◌, ◌≤◌, Bool, true, false, cond, Option, Some, None, is_some, List, [], ◌∷◌, length, Ok, Err, Result, refl, sym, ap, ◌∙◌, subst, arith}
use Rattle.mn_lexer.specs.Terminals.{Terminal}
use Rattle.mn_lexer.specs.declared.marks.Mark.{Mark}
use Rattle.mn_lexer.specs.declared.marks.Mark.TheVariants.{OpenSquare, CloseSquare}
use Rattle.mn_grammar.specs.Reading.{judged, refused, fault_at, name_at, mark_at, which_mark, then_read, ret, Answer, Reader, Turn, goes_on, is_done, turned, go_on, one, which_end, judge_end, end_at}
use Rattle.mn_grammar.specs.Lists.{Ends, turn_at, items_at}
use Rattle.mn_grammar.specs.Gives.{Gives, Stops}
use Rattle.mn_grammar.specs.declared.site.Site.TheVariants.{Free, MarksOnly}
use Rattle.mn_grammar.specs.declared.Stop.{Stop}
use Rattle.mn_references.specs.References.{at_name, lead_of, lead, lead_or_none, at_open, found_bare, Aim, Lead, Found, Sub, Within, at_start, entered, index_kind, is_last, sub_ends, found_at}
use Rattle.mn_references.specs.Referring.{sub_at, subs_at, behind_name, ref_at, which_sub}
use Rattle.mn_grammar.specs.Tokens.{name_of, is_the_mark}
use Rattle.mn_grammar.specs.declared.Kind.TheVariants.{Name as NameKind}
use Rattle.mn_grammar.specs.declared.Stop.TheVariants.{Refused}
use Rattle.mn_model.specs.Problem.{Problem}
use Rattle.mn_cursor.proofs.Looking.{one_seen, unseen_stops, seen_stops, seen_reads}
use Rattle.mn_cursor.specs.Looks.{first_as}
use Rattle.mn_cursor.specs.Progress.{Progress, Moves}
use Rattle.mn_references.specs.Lookups.{behind_index}
use Rattle.mn_cursor.proofs.Turning.{one_leaves, unrolled, stops_first, stops_same}

-- what gives the second part gives the whole
pub gives_second : {A V W : Type 0} (view : A → W × List Terminal) (result : Result A Stop) (a : Answer V) (b : V → Reader W) (v : V) (us : List Terminal) → a ≡ Ok (v, us) → Gives view result (b v us) → Gives view result (go_on a b)
gives_second view result a b v us is gives = subst (λ r. Gives view result (go_on r b)) (sym is) gives

-- an index, by what its two tests hang on
pub index_is : (aim : Aim) (w : Within) (slices : Bool) (ts : List Terminal) (r : Answer Sub) → slices ≡ aim.slices → one Free which_sub (index_kind slices w.dims) ts ≡ r → sub_at aim w ts ≡ r
unfolding sub_at
index_is aim w slices ts r same is = subst (λ (b : Bool). one Free which_sub (index_kind b w.dims) ts ≡ r) same is

pub turn_of_indices :
    {A : Type 0} (view : A → Turn Within Found × List Terminal) (result : Result A Stop) (aim other : Aim) (l : Lead) (w z : Within) (v : Sub) (last : Bool) (ts us : List Terminal)
    → sub_at aim w ts ≡ Ok (v, us) → other ≡ aim → last ≡ is_last w.dims → z ≡ entered w v
    → Gives view result (behind_index other l last z us) → Gives view result (turn_at CloseSquare (sub_ends aim l) (found_at l) (sub_at aim) w ts)
unfolding behind_index
turn_of_indices view result aim other l w z v last ts us first same is_last_is z_is gives =
    gives_second view result (sub_at aim w ts) _ v us first
    (subst (λ (b : Bool). Gives view result (behind_index aim l b (entered w v) us)) is_last_is
    (subst (λ (x : Within). Gives view result (behind_index aim l last x us)) z_is
    (subst (λ (a : Aim). Gives view result (behind_index a l last z us)) same gives)))

-- What a list answers, by its turn: the reader of an entry leaves no more than there was.
module _ {S V R : Type 0} (shut : Mark) (ends : Ends S V) (result : S → V → R) (read : S → Reader V) (leaves : (s : S) (ts : List Terminal) (v : V) (us : List Terminal) → read s ts ≡ Ok (v, us) → length us ≤ length ts) where
  shortens_at : (s : S) (ts : List Terminal) (z : S) (us : List Terminal) (r : Answer V) → read s ts ≡ r → go_on {V = V} {W = Turn S R} r (λ v. end_at shut (ends.comma s v) (ends.close s v) (ends.next s v) (result s v)) ≡ Ok (goes_on z, us) → length us < length ts
  unfolding end_at
  shortens_at s ts z us (Err f) is e = cc
  shortens_at s ts z us (Ok (v, vs)) is e =
      let first = leaves s ts v vs is in
      let second = one_leaves MarksOnly (which_end shut (ends.next s v) (result s v)) (judge_end (ends.comma s v) (ends.close s v)) vs (goes_on z) us e in
      omega arith

  -- a turn that goes on reads a token at least
  pub items_shorten : (s z : S) (ts us : List Terminal) → turn_at shut ends result read s ts ≡ Ok (goes_on z, us) → length us < length ts
  items_shorten s z ts us is = shortens_at s ts z us (read s ts) refl is

  items_unrolled : (s : S) (ts : List Terminal) → items_at shut ends result read s ts ≡ go_on (turn_at shut ends result read s ts) (turned (items_at shut ends result read))
  unfolding items_at
  items_unrolled s ts = unrolled (turn_at shut ends result read) (λ z us y vs e. shortens_at z us y vs (read z us) refl e) s ts

  pub items_on : (s z : S) (ts us : List Terminal) → turn_at shut ends result read s ts ≡ Ok (goes_on z, us) → items_at shut ends result read s ts ≡ items_at shut ends result read z us
  items_on s z ts us is = items_unrolled s ts ∙ ap (λ r. go_on r (turned (items_at shut ends result read))) is

  pub items_done : (s : S) (v : R) (ts us : List Terminal) → turn_at shut ends result read s ts ≡ Ok (is_done v, us) → items_at shut ends result read s ts ≡ Ok (v, us)
  items_done s v ts us is = items_unrolled s ts ∙ ap (λ r. go_on r (turned (items_at shut ends result read))) is

  pub items_stop : (s : S) (ts : List Terminal) (e : Stop) → Stops e (turn_at shut ends result read s ts) → Stops e (items_at shut ends result read s ts)
  items_stop s ts e stops = stops_same e _ _ (items_unrolled s ts) (stops_first e (turn_at shut ends result read s ts) (turned (items_at shut ends result read)) stops)

-- the readers of indices leave no more than there was
pub index_leaves : (aim : Aim) (w : Within) (ts : List Terminal) (v : Sub) (us : List Terminal) → sub_at aim w ts ≡ Ok (v, us) → length us ≤ length ts
unfolding sub_at
index_leaves aim w ts v us is = let less = one_leaves Free which_sub (index_kind aim.slices w.dims) ts v us is in omega arith

-- so the indices of a reference are read turn by turn
module _ (aim : Aim) (l : Lead) where
  pub subs_on : (w z : Within) (ts us : List Terminal) (r : Answer Found) → turn_at CloseSquare (sub_ends aim l) (found_at l) (sub_at aim) w ts ≡ Ok (goes_on z, us) → items_at CloseSquare (sub_ends aim l) (found_at l) (sub_at aim) w ts ≡ r → items_at CloseSquare (sub_ends aim l) (found_at l) (sub_at aim) z us ≡ r
  subs_on w z ts us r is same = sym (items_on CloseSquare (sub_ends aim l) (found_at l) (sub_at aim) (index_leaves aim) w z ts us is) ∙ same

  pub subs_done : (w : Within) (f : Found) (ts us : List Terminal) (r : Answer Found) → turn_at CloseSquare (sub_ends aim l) (found_at l) (sub_at aim) w ts ≡ Ok (is_done f, us) → items_at CloseSquare (sub_ends aim l) (found_at l) (sub_at aim) w ts ≡ r → r ≡ Ok (f, us)
  subs_done w f ts us r is same = sym same ∙ items_done CloseSquare (sub_ends aim l) (found_at l) (sub_at aim) (index_leaves aim) w f ts us is

  pub subs_stop : (w : Within) (ts : List Terminal) (e : Stop) (r : Answer Found) → Stops e (turn_at CloseSquare (sub_ends aim l) (found_at l) (sub_at aim) w ts) → items_at CloseSquare (sub_ends aim l) (found_at l) (sub_at aim) w ts ≡ r → Stops e r
  subs_stop w ts e r stops same = subst (λ a. Stops e a) same (items_stop CloseSquare (sub_ends aim l) (found_at l) (sub_at aim) (index_leaves aim) w ts e stops)

  pub subs_start : (ts : List Terminal) → items_at CloseSquare (sub_ends aim l) (found_at l) (sub_at aim) (at_start l.dims) ts ≡ subs_at aim l ts
  unfolding subs_at
  subs_start ts = refl

-- what goes on from where it went on to
pub moves_on : (a b c : Progress) → Moves a b → Moves b c → Moves a c
moves_on a b c first second = second ∙ ap (λ (s : Progress). record s { left = c.left }) first

-- What stands behind a name, by whether `[` does.
is_there : {W : Type 0} (w : W) (b : Bool) → is_some (cond b (Some w) None) ≡ b
is_there w true = refl
is_there w false = refl

pub opens_then : {A : Type 0} (view : A → Found × List Terminal) (result : Result A Stop) (aim : Aim) (l : Lead) (ts : List Terminal) → is_some (first_as (which_mark OpenSquare) ts) ≡ true → Gives view result (go_on (mark_at MarksOnly OpenSquare (at_open l) ts) (λ u. subs_at aim l)) → Gives view result (behind_name aim l ts)
unfolding behind_name
opens_then view result aim l [] is gives = cc
opens_then view result aim l (t ∷ ts) is gives =
    let test : is_the_mark OpenSquare t ≡ true = sym (is_there tt (is_the_mark OpenSquare t)) ∙ is in
    subst (λ (b : Bool). Gives view result (cond b (then_read (mark_at MarksOnly OpenSquare (at_open l)) (λ u. subs_at aim l) (t ∷ ts)) (ret (found_bare aim l) (t ∷ ts)))) (sym test) gives

pub opens_not : (aim : Aim) (l : Lead) (ts : List Terminal) → is_some (first_as (which_mark OpenSquare) ts) ≡ false → behind_name aim l ts ≡ Ok (found_bare aim l, ts)
unfolding behind_name
opens_not aim l [] is = refl
opens_not aim l (t ∷ ts) is =
    let test : is_the_mark OpenSquare t ≡ false = sym (is_there tt (is_the_mark OpenSquare t)) ∙ is in
    ap (λ b. cond b (then_read (mark_at MarksOnly OpenSquare (at_open l)) (λ u. subs_at aim l) (t ∷ ts)) (ret (found_bare aim l) (t ∷ ts))) test

-- What a reference answers, by its name and what stands behind it.
module _ (p : Problem) (aim : Aim) (ts : List Terminal) where
  pub ref_unnamed : (e : Stop) → (first_as name_of ts ≡ None) × (e ≡ Refused (refused Free ts)) → Stops e (ref_at p aim ts)
  unfolding ref_at name_at
  ref_unnamed e is = stops_first e (one Free name_of (λ w. at_name aim (lead_of p w)) ts) (λ w. behind_name aim (lead p w)) (unseen_stops Free name_of (λ w. at_name aim (lead_of p w)) ts e is)

  pub ref_unknown : (w : List ℕ) (e : Stop) → first_as name_of ts ≡ Some w → lead_of p w ≡ None → e ≡ Refused (fault_at ts NameKind) → Stops e (ref_at p aim ts)
  unfolding ref_at name_at
  ref_unknown w e is none refused =
      stops_first e (one Free name_of (λ w. at_name aim (lead_of p w)) ts) (λ w. behind_name aim (lead p w))
      (subst (λ (f : Stop). Stops f (one Free name_of (λ w. at_name aim (lead_of p w)) ts)) (sym refused)
      (one_seen Free name_of (λ w. at_name aim (lead_of p w)) w ts is ∙ ap (λ (o : Option Lead). judged (at_name aim o) w ts (drop 1 ts)) none))

  pub ref_broken : (w : List ℕ) (l : Lead) (e : Stop) → first_as name_of ts ≡ Some w → lead_of p w ≡ Some l → Stops e (judged (at_name aim (Some l)) (tt {0}) ts (drop 1 ts)) → Stops e (ref_at p aim ts)
  unfolding ref_at name_at
  ref_broken w l e is leads stops =
      stops_first e (one Free name_of (λ w. at_name aim (lead_of p w)) ts) (λ w. behind_name aim (lead p w))
      (seen_stops Free name_of (λ w. at_name aim (lead_of p w)) w ts e is (subst (λ (o : Option Lead). Stops e (judged (at_name aim o) (tt {0}) ts (drop 1 ts))) (sym leads) stops))

  pub ref_goes_on : {A : Type 0} (view : A → Found × List Terminal) (result : Result A Stop) (w : List ℕ) (l : Lead) (us : List Terminal) → first_as name_of ts ≡ Some w → lead_of p w ≡ Some l → judged (at_name aim (Some l)) (tt {0}) ts (drop 1 ts) ≡ Ok (tt {0}, us) → (other : Aim) → other ≡ aim → Gives view result (behind_name other l us) → Gives view result (ref_at p aim ts)
  unfolding ref_at name_at
  ref_goes_on view result w l us is leads reads other same gives =
      gives_second view result (one Free name_of (λ w. at_name aim (lead_of p w)) ts) (λ w. behind_name aim (lead p w)) w us
      (seen_reads Free name_of (λ w. at_name aim (lead_of p w)) w ts us is (ap (λ (o : Option Lead). judged (at_name aim o) (tt {0}) ts (drop 1 ts)) leads ∙ reads))
      (subst (λ (o : Option Lead). Gives view result (behind_name aim (lead_or_none o) us)) (sym leads)
      (subst (λ (a : Aim). Gives view result (behind_name a l us)) same gives))

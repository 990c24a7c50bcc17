-- What a loop over items answers, by what its parts do.
use Rattle.std.proofs.Common.{◌≡◌, ◌⊎◌, ℕ, zero, suc, ◌<◌, ◌≤◌, List, [], ◌∷◌, ◌++◌, length, Bool, true, false, if◌then◌else◌, is_some, Option, Some, None, Result, Ok, Err, refl, sym, ap, ◌∙◌, subst, inl, inr, arith, length-append}
use Rattle.mn_lexer.specs.Terminals.{Terminal}
use Rattle.mn_grammar.specs.Reading.{Answer, Reader, or_else, which_mark, Turn, goes_on, is_done, go_on, then_read, ret, turned, loop_by, loop, judged, classed, one}
use Rattle.mn_grammar.specs.Tokens.{is_the_mark}
use Rattle.mn_lexer.specs.declared.marks.Mark.{Mark}
use Rattle.mn_cursor.specs.Looks.{first_as}
use Rattle.mn_grammar.specs.Bodies.{item_at, body_at}
use Rattle.mn_grammar.specs.Gives.{Stops, Gives}
use Rattle.mn_grammar.specs.Lawful.{Spec, IsRead, Said, Lawful}
use Rattle.mn_grammar.specs.declared.Kind.{Kind}
use Rattle.mn_grammar.specs.declared.Stop.{Stop}
use Rattle.mn_grammar.specs.declared.Stop.TheVariants.{Refused, NoMemory}
use Rattle.mn_grammar.specs.declared.site.Site.{Site}

-- what stops the first part stops the whole, and else the second does
pub stops_first : {V W : Type 0} (e : Stop) (a : Answer V) (b : V → Reader W) → Stops e a → Stops e (go_on a b)
stops_first (Refused f) a b stops = ap (λ r. go_on r b) stops
stops_first NoMemory a b stops = tt

pub stops_second : {V W : Type 0} (e : Stop) (a : Answer V) (b : V → Reader W) (v : V) (us : List Terminal) → a ≡ Ok (v, us) → Stops e (b v us) → Stops e (go_on a b)
stops_second e a b v us is stops = subst (λ r. Stops e (go_on r b)) (sym is) stops

pub stops_same : {V : Type 0} (e : Stop) (a b : Answer V) → a ≡ b → Stops e b → Stops e a
stops_same e a b same stops = subst (λ r. Stops e r) (sym same) stops

-- a lawful reader leaves no more than there was
pub read_leaves : {X V : Type 0} (s : Spec X V) (read : Reader V) → Lawful s read → (ts : List Terminal) (v : V) (us : List Terminal) → read ts ≡ Ok (v, us) → length us ≤ length ts
read_leaves s read law ts v us e =
    let is : IsRead s ts v us = subst (λ r. Said s read ts r) e (law.said ts) in
    let size : length ts ≡ length (s.spell is.tree ++ us) = ap length is.parts in
    let whole = length-append (s.spell is.tree) us in
    omega arith

-- a reader of one token leaves less
judged_leaves : {W : Type 0} (c : Option Kind) (w v : W) (t : Terminal) (ts us : List Terminal) → judged c w (t ∷ ts) ts ≡ Ok (v, us) → length us < length (t ∷ ts)
judged_leaves {W = W} None w v t ts us e = let same : ◌≡◌ {A = W × List Terminal} (w, ts) (v, us) = cc in let size : length ts ≡ length us = ap (λ (r : W × List Terminal). length r.1) same in omega arith
judged_leaves (Some k) w v t ts us e = cc

classed_leaves : {W : Type 0} (site : Site) (judge : W → Option Kind) (o : Option W) (v : W) (t : Terminal) (ts us : List Terminal) → classed site judge o (t ∷ ts) ts ≡ Ok (v, us) → length us < length (t ∷ ts)
classed_leaves site judge None v t ts us e = cc
classed_leaves site judge (Some w) v t ts us e = judged_leaves (judge w) w v t ts us e

pub one_leaves : {W : Type 0} (site : Site) (classify : Terminal → Option W) (judge : W → Option Kind) (ts : List Terminal) (v : W) (us : List Terminal) → one site classify judge ts ≡ Ok (v, us) → length us < length ts
one_leaves site classify judge [] v us e = cc
one_leaves site classify judge (t ∷ ts) v us e = classed_leaves site judge (classify t) v t ts us e

-- a loop of which each turn that goes on leaves less
module _ {S V : Type 0} (step : S → Reader (Turn S V)) (shortens : (s : S) (ts : List Terminal) (z : S) (us : List Terminal) → step s ts ≡ Ok (goes_on z, us) → length us < length ts) where
  enough_at : (m n : ℕ) (ts : List Terminal) → ((z : S) (us : List Terminal) → length us < length ts → loop_by m step z us ≡ loop_by n step z us) → (r : Answer (Turn S V)) → ((z : S) (us : List Terminal) → r ≡ Ok (goes_on z, us) → length us < length ts) → go_on r (turned (loop_by m step)) ≡ go_on r (turned (loop_by n step))
  enough_at m n ts shorter (Err e) less = refl
  enough_at m n ts shorter (Ok (is_done v, us)) less = refl
  enough_at m n ts shorter (Ok (goes_on z, us)) less = shorter z us (less z us refl)

  enough : (m n : ℕ) (s : S) (ts : List Terminal) → length ts < m → length ts < n → loop_by m step s ts ≡ loop_by n step s ts
  enough zero n s ts a b = absurd (omega arith)
  enough (suc m) zero s ts a b = absurd (omega arith)
  enough (suc m) (suc n) s ts a b = enough_at m n ts (λ z us less. enough m n z us (omega arith) (omega arith)) (step s ts) (λ z us e. shortens s ts z us e)

  unrolled_at : (ts : List Terminal) (r : Answer (Turn S V)) → ((z : S) (us : List Terminal) → r ≡ Ok (goes_on z, us) → length us < length ts) → go_on r (turned (loop_by (length ts) step)) ≡ go_on r (turned (loop step))
  unfolding loop
  unrolled_at ts (Err e) less = refl
  unrolled_at ts (Ok (is_done v, us)) less = refl
  unrolled_at ts (Ok (goes_on z, us)) less = let short = less z us refl in enough (length ts) (suc (length us)) z us short (omega arith)

  -- it is a turn, and the loop again where it goes on
  pub unrolled : (s : S) (ts : List Terminal) → loop step s ts ≡ go_on (step s ts) (turned (loop step))
  unfolding loop
  unrolled s ts = unrolled_at ts (step s ts) (λ z us e. shortens s ts z us e)

-- items up to the token that ends them
module _ {S W H V : Type 0} (read : S → Reader (W ⊎ H)) (rest : S → W → Reader S) (result : S → H → V) (reads : (s : S) (ts : List Terminal) (w : W ⊎ H) (us : List Terminal) → read s ts ≡ Ok (w, us) → length us < length ts) (leaves : (s : S) (w : W) (ts : List Terminal) (z : S) (us : List Terminal) → rest s w ts ≡ Ok (z, us) → length us ≤ length ts) where
  abbrev step : S → Reader (Turn S V)
  step s = then_read (read s) (item_at rest result s)

  item_shortens : (s : S) (w : W) (ts : List Terminal) (z : S) (us : List Terminal) (r : Answer S) → rest s w ts ≡ r → go_on {V = S} {W = Turn S V} r (λ y. ret (goes_on y)) ≡ Ok (goes_on z, us) → length us ≤ length ts
  item_shortens s w ts z us (Err f) is e = cc
  item_shortens s w ts z us (Ok (y, vs)) is e =
      let same : ◌≡◌ {A = Turn S V × List Terminal} (goes_on y, vs) (goes_on z, us) = cc in
      let size : length vs ≡ length us = ap (λ (p : Turn S V × List Terminal). length p.1) same in
      let less = leaves s w ts y vs is in
      omega arith

  step_shortens_at : (s : S) (ts : List Terminal) (z : S) (us : List Terminal) (r : Answer (W ⊎ H)) → read s ts ≡ r → go_on r (item_at rest result s) ≡ Ok (goes_on z, us) → length us < length ts
  step_shortens_at s ts z us (Err f) is e = cc
  step_shortens_at s ts z us (Ok (inl w, vs)) is e =
      let first = reads s ts (inl w) vs is in
      let second = item_shortens s w vs z us (rest s w vs) refl e in
      omega arith
  step_shortens_at s ts z us (Ok (inr h, vs)) is e =
      let same : ◌≡◌ {A = Turn S V × List Terminal} (is_done (result s h), vs) (goes_on z, us) = cc in
      let clash : ◌≡◌ {A = Turn S V} (is_done (result s h)) (goes_on z) = ap (λ (p : Turn S V × List Terminal). p.0) same in
      absurd cc

  body_unrolled : (s : S) (ts : List Terminal) → body_at read rest result s ts ≡ go_on (step s ts) (turned (body_at read rest result))
  unfolding body_at
  body_unrolled s ts = unrolled step (λ z us y vs e. step_shortens_at z us y vs (read z us) refl e) s ts

  -- where the first token, or what stands behind it, is refused, so is the body
  pub first_stops : (s : S) (ts : List Terminal) (e : Stop) → Stops e (read s ts) → Stops e (body_at read rest result s ts)
  first_stops s ts e stops = stops_same e _ _ (body_unrolled s ts) (stops_first e (step s ts) _ (stops_first e (read s ts) _ stops))

  item_then : (r : Answer S) → go_on {V = Turn S V} {W = V} (go_on r (λ y. ret (goes_on y))) (turned (body_at read rest result)) ≡ go_on r (body_at read rest result)
  item_then (Err f) = refl
  item_then (Ok (y, vs)) = refl

  item_unrolled : (s : S) (ts : List Terminal) (w : W) (us : List Terminal) → read s ts ≡ Ok (inl w, us) → body_at read rest result s ts ≡ go_on (rest s w us) (body_at read rest result)
  item_unrolled s ts w us is =
      body_unrolled s ts
      ∙ ap (λ r. go_on (go_on r (item_at rest result s)) (turned (body_at read rest result))) is
      ∙ item_then (rest s w us)

  pub item_stops : (s : S) (ts : List Terminal) (w : W) (us : List Terminal) (e : Stop) → read s ts ≡ Ok (inl w, us) → Stops e (go_on (rest s w us) (body_at read rest result)) → Stops e (body_at read rest result s ts)
  item_stops s ts w us e is stops = stops_same e _ _ (item_unrolled s ts w us is) stops

  -- behind an item it goes on, and with the token that ends the items it ends
  pub item_goes_on : (s : S) (ts : List Terminal) (w : W) (us : List Terminal) (z : S) (vs : List Terminal) → read s ts ≡ Ok (inl w, us) → rest s w us ≡ Ok (z, vs) → body_at read rest result s ts ≡ body_at read rest result z vs
  item_goes_on s ts w us z vs is goes = item_unrolled s ts w us is ∙ ap (λ r. go_on r (body_at read rest result)) goes

  pub body_ends : (s : S) (ts : List Terminal) (h : H) (us : List Terminal) → read s ts ≡ Ok (inr h, us) → body_at read rest result s ts ≡ Ok (result s h, us)
  body_ends s ts h us is =
      body_unrolled s ts
      ∙ ap (λ r. go_on (go_on r (item_at rest result s)) (turned (body_at read rest result))) is

-- a result gives one answer as it gives another that is the same
pub gives_same : {A V : Type 0} (view : A → V × List Terminal) (r : Result A Stop) (a b : Answer V) → b ≡ a → Gives view r a → Gives view r b
gives_same view r a b same gives = subst (λ x. Gives view r x) (sym same) gives

-- a part that a mark begins, by whether the mark stands there
module _ {V : Type 0} (m : Mark) (a b : Reader V) where
  chosen : (c : Bool) (t : Terminal) (us : List Terminal) → is_the_mark m t ≡ c → (d : Bool) → is_some {T = Unit {0}} (if is_the_mark m t then Some tt else None) ≡ d → c ≡ d
  chosen c t us e d f = sym e ∙ is_there (is_the_mark m t) ∙ f
    where
      is_there : (x : Bool) → x ≡ is_some {T = Unit {0}} (if x then Some tt else None)
      is_there true = refl
      is_there false = refl

  pub without_mark : (ts : List Terminal) → is_some (first_as (which_mark m) ts) ≡ false → or_else (is_the_mark m) a b ts ≡ b ts
  without_mark [] none = refl
  without_mark (t ∷ us) none = ap (λ c. if c then a (t ∷ us) else b (t ∷ us)) (chosen (is_the_mark m t) t us refl false none)

  pub with_mark : (ts : List Terminal) → is_some (first_as (which_mark m) ts) ≡ true → or_else (is_the_mark m) a b ts ≡ a ts
  with_mark [] there = cc
  with_mark (t ∷ us) there = ap (λ c. if c then a (t ∷ us) else b (t ∷ us)) (chosen (is_the_mark m t) t us refl true there)

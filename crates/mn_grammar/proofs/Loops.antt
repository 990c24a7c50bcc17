-- Turn after turn, until one is the last.
use Rattle.std.proofs.Common.{◌≡◌, ◌⊎◌, ℕ, zero, suc, ◌<◌, Bool, true, false, ◌||◌, ◌&&◌, List, [], ◌∷◌, ◌++◌, length, Option, Some, None, Ok, Err, refl, sym, ap, ◌∙◌, subst, inl, inr, ⊎_elim, arith, append_assoc, append-nil, length-append}
use Rattle.std.proofs.lemmas.Bool.{or_cases, and_parts}
use Rattle.mn_lexer.specs.Terminals.{Terminal}
use Rattle.mn_grammar.specs.Kinds.{is_condition}
use Rattle.mn_grammar.specs.Places.{Break, behind}
use Rattle.mn_grammar.specs.Reading.{Answer, Reader, go_on, then_read, Turn, goes_on, is_done, turned, loop_by, loop}
use Rattle.mn_grammar.specs.Lawful.{Spec, Fits, Lacks, first, answered, answer_of, Sound, IsRead, Said, Lawful}
use Rattle.mn_grammar.proofs.Sites.{is_nil, nil_of, Lacks-parts}
use Rattle.mn_grammar.proofs.Leaves.{nothing, Lawful-ret}
use Rattle.mn_grammar.proofs.Joins.{joined, Join, first_pair, complete_pair, Said-joined, Lacks-joined}
use Rattle.mn_grammar.proofs.Views.{IsView, Said-view}
use Rattle.mn_grammar.specs.declared.Fault.{Fault}

-- The turns of a loop from a state on: those that go on, to the next state, and the last. Which there are may hang on
-- the state.
pub data Turns {S : Type 0} (G E : S → Type 0) (next : (s : S) → G s → S) : S → Type 0 where
  last : {s : S} → E s → Turns G E next s
  more : {s : S} (g : G s) → Turns G E next (next s g) → Turns G E next s

-- `turn` are the trees of a turn in a state, `next` is the state behind one that goes on, `result` the value of the
-- last, `some` some turns.
module _ {S V : Type 0} {G E : S → Type 0} (turn : (s : S) → Spec (G s ⊎ E s) (Turn S V)) (next : (s : S) → G s → S) (result : (s : S) → E s → V) (some : (s : S) → Turns G E next s) where
  abbrev pub spell_turns : (s : S) → Turns G E next s → List Terminal
  spell_turns s (last e) = (turn s).spell (inr e)
  spell_turns s (more g gs) = (turn s).spell (inl g) ++ spell_turns (next s g) gs

  abbrev pub breaks_turns : (s : S) → Turns G E next s → List Break
  breaks_turns s (last e) = (turn s).breaks (inr e)
  breaks_turns s (more g gs) = (turn s).breaks (inl g) ++ behind (length ((turn s).spell (inl g))) (breaks_turns (next s g) gs)

  abbrev pub value_turns : (s : S) → Turns G E next s → V
  value_turns s (last e) = result s e
  value_turns s (more g gs) = value_turns (next s g) gs

  abbrev pub blocks_turns : (s : S) → Turns G E next s → Terminal → Bool
  blocks_turns s (last e) t = (turn s).blocks (inr e) t
  blocks_turns s (more g gs) t = ((turn s).blocks (inl g) t && is_nil (spell_turns (next s g) gs)) || blocks_turns (next s g) gs t

  abbrev pub turns : (s : S) → Spec (Turns G E next s) V
  turns s = record {
    spell = spell_turns s;
    breaks = breaks_turns s;
    value = value_turns s;
    blocks = blocks_turns s;
    start = (turn s).start;
    any = some s;
  }

  -- What a loop has to show: a turn's value says whether it goes on; one that goes on has tokens, and what follows
  -- doesn't begin with what would go on with it; and what would go on with a turn fits the site behind it.
  pub record Loop : Type 0 where
    pub goes : (s : S) (g : G s) → (turn s).value (inl g) ≡ goes_on (next s g)
    pub ends : (s : S) (e : E s) → (turn s).value (inr e) ≡ is_done (result s e)
    pub grows : (s : S) (g : G s) → (turn s).spell (inl g) ≡ [] → ⊥
    pub apart : (s : S) (g : G s) (gs : Turns G E next (next s g)) (t : Terminal) (q : List Terminal) → spell_turns (next s g) gs ≡ t ∷ q → (turn s).blocks (inl g) t ≡ false
    pub fits : (s : S) (g : G s) → Fits (turn (next s g)).start ((turn s).blocks (inl g))
    pub fits_last : (s : S) (e : E s) → Fits (turn s).start ((turn s).blocks (inr e))

module _ {S V : Type 0} {G E : S → Type 0} (turn : (s : S) → Spec (G s ⊎ E s) (Turn S V)) (next : (s : S) → G s → S) (result : (s : S) → E s → V) (some : (s : S) → Turns G E next s) (is : Loop turn next result some) where
  abbrev spec : (s : S) → Spec (Turns G E next s) V
  spec s = turns turn next result some s

  abbrev After : (s : S) → G s ⊎ E s → Type 0
  After s (inl g) = Turns G E next (next s g)
  After s (inr e) = Unit {0}

  -- what follows a turn
  abbrev after : (s : S) (x : G s ⊎ E s) → Spec (After s x) V
  after s (inl g) = spec (next s g)
  after s (inr e) = nothing (turn s).start (result s e)

  join_apart : (s : S) (x : G s ⊎ E s) (y : After s x) (t : Terminal) (q : List Terminal) → (after s x).spell y ≡ t ∷ q → (turn s).blocks x t ≡ false
  join_apart s (inl g) gs t q e = is.apart s g gs t q e
  join_apart s (inr e) u t q none = absurd cc

  join_fits : (s : S) (x : G s ⊎ E s) → Fits (after s x).start ((turn s).blocks x)
  join_fits s (inl g) = is.fits s g
  join_fits s (inr e) = is.fits_last s e

  join_starts : (s : S) (x : G s ⊎ E s) → (turn s).spell x ≡ [] → (after s x).start ≡ (turn s).start
  join_starts s (inl g) none = absurd (is.grows s g none)
  join_starts s (inr e) none = refl

  join : (s : S) → Join (turn s) (after s)
  join s = record { apart = join_apart s; fits = join_fits s; starts = join_starts s }

  -- a turn and what follows it are turns
  abbrev onto : (s : S) (x : G s ⊎ E s) → After s x → Turns G E next s
  onto s (inl g) gs = more g gs
  onto s (inr e) u = last e

  abbrev back : (s : S) → Turns G E next s → (x : G s ⊎ E s) × After s x
  back s (last e) = (inr e, tt)
  back s (more g gs) = (inl g, gs)

  again : (s : S) (gs : Turns G E next s) → onto s (back s gs).0 (back s gs).1 ≡ gs
  again s (last e) = refl
  again s (more g gs) = refl

  view_spell : (s : S) (x : G s ⊎ E s) (y : After s x) → (spec s).spell (onto s x y) ≡ (joined (turn s) (after s)).spell (x, y)
  view_spell s (inl g) gs = refl
  view_spell s (inr e) u = sym (append-nil _)

  view_breaks : (s : S) (x : G s ⊎ E s) (y : After s x) → (spec s).breaks (onto s x y) ≡ (joined (turn s) (after s)).breaks (x, y)
  view_breaks s (inl g) gs = refl
  view_breaks s (inr e) u = sym (append-nil _)

  view_value : (s : S) (x : G s ⊎ E s) (y : After s x) → (spec s).value (onto s x y) ≡ (joined (turn s) (after s)).value (x, y)
  view_value s (inl g) gs = refl
  view_value s (inr e) u = refl

  or_nothing : (b : Bool) → b ≡ ((b && true) || false)
  or_nothing true = refl
  or_nothing false = refl

  view_blocks : (s : S) (x : G s ⊎ E s) (y : After s x) (t : Terminal) → (spec s).blocks (onto s x y) t ≡ (joined (turn s) (after s)).blocks (x, y) t
  view_blocks s (inl g) gs t = refl
  view_blocks s (inr e) u t = or_nothing ((turn s).blocks (inr e) t)

  view : (s : S) → IsView (joined (turn s) (after s)) (spec s)
  view s = record {
    onto = λ p. onto s p.0 p.1;
    back = back s;
    again = again s;
    spell = λ p. view_spell s p.0 p.1;
    breaks = λ p. ap first (view_breaks s p.0 p.1);
    value = λ p. view_value s p.0 p.1;
    blocks = λ p t. view_blocks s p.0 p.1 t;
    start = refl;
  }

  module _ (sound : (s : S) → Sound (turn s)) where
    -- what is broken first is in a turn, and in order there
    turns_first : (s : S) (gs : Turns G E next s) (k : Break) → first ((spec s).breaks gs) ≡ Some k → (is_condition k.1 ≡ true) × (k.0 < length ((spec s).spell gs))
    turns_first s (last e) k f = ((sound s).kinds (inr e) k f, (sound s).within (inr e) k f)
    turns_first s (more g gs) k f = first_pair (turn s) (after s) (join s) (sound s) (inl g) gs k (first ((turn s).breaks (inl g))) refl f (turns_first (next s g) gs)

    -- a turn that begins so, as the first of some
    turn_begins : (s : S) (p : List Terminal) (x : G s ⊎ E s) (q : List Terminal) → (turn s).spell x ≡ p ++ q → (gs : Turns G E next s) × (tail : List Terminal) × ((spec s).spell gs ≡ p ++ (q ++ tail))
    turn_begins s p (inl g) q e = (more g (some (next s g)), (spec (next s g)).spell (some (next s g)), ap (λ l. l ++ (spec (next s g)).spell (some (next s g))) e ∙ append_assoc p q _)
    turn_begins s p (inr z) q e = (last z, [], e ∙ ap (λ l. p ++ l) (sym (append-nil q)))

    turns_extends : (s : S) (gs : Turns G E next s) (t : Terminal) → (spec s).blocks gs t ≡ true → (hs : Turns G E next s) × (q : List Terminal) × ((spec s).spell hs ≡ (spec s).spell gs ++ t ∷ q)
    turns_extends s (last e) t blocks =
        let x = (sound s).extends (inr e) t blocks in
        let r = turn_begins s ((turn s).spell (inr e)) x.0 (t ∷ x.1) x.2 in
        (r.0, x.1 ++ r.1, r.2)
    turns_extends s (more g gs) t blocks = ⊎_elim
        (λ front.
        let both = and_parts _ _ front in
        let x = (sound s).extends (inl g) t both.0 in
        let r = turn_begins s ((turn s).spell (inl g)) x.0 (t ∷ x.1) x.2 in
        let none = nil_of ((spec (next s g)).spell gs) both.1 in
        (r.0, x.1 ++ r.1, r.2 ∙ ap (λ l. l ++ t ∷ (x.1 ++ r.1)) (sym (ap (λ l. (turn s).spell (inl g) ++ l) none ∙ append-nil ((turn s).spell (inl g))))))
        (λ later.
        let r = turns_extends (next s g) gs t later in
        (more g r.0, r.1, ap (λ l. (turn s).spell (inl g) ++ l) r.2 ∙ sym (append_assoc ((turn s).spell (inl g)) ((spec (next s g)).spell gs) (t ∷ r.1))))
        (or_cases _ _ blocks)

    -- the trees of a loop are in order, where those of its turns are
    pub Sound-loop : (s : S) → Sound (spec s)
    Sound-loop s = record {
      kinds = λ gs k f. (turns_first s gs k f).0;
      within = λ gs k f. (turns_first s gs k f).1;
      extends = λ gs t blocks. turns_extends s gs t blocks;
    }

  module _ (step : S → Reader (Turn S V)) (law : (s : S) → Lawful (turn s) (step s)) where
    -- a turn that goes on leaves less
    shorter_of : (s : S) (ts : List Terminal) (z : S) (rest : List Terminal) (x : G s ⊎ E s) → ts ≡ (turn s).spell x ++ rest → (turn s).value x ≡ goes_on z → length rest < length ts
    shorter_of s ts z rest (inl g) parts means = some_left ((turn s).spell (inl g)) refl
      where
        some_left : (l : List Terminal) → (turn s).spell (inl g) ≡ l → length rest < length ts
        some_left [] e = absurd (is.grows s g e)
        some_left (t ∷ l) e =
            let size : length ts ≡ length ((t ∷ l) ++ rest) = ap length parts ∙ ap (λ x. length (x ++ rest)) e in
            let whole = length-append (t ∷ l) rest in
            omega arith
    shorter_of s ts z rest (inr e) parts means =
        let clash : ◌≡◌ {A = Turn S V} (is_done (result s e)) (goes_on z) = sym (is.ends s e) ∙ means in absurd cc

    pub turn_shortens : (s : S) (ts : List Terminal) (z : S) (rest : List Terminal) → step s ts ≡ Ok (goes_on z, rest) → length rest < length ts
    turn_shortens s ts z rest e =
        let read : IsRead (turn s) ts (goes_on z) rest = subst (λ r. Said (turn s) (step s) ts r) e ((law s).said ts) in
        shorter_of s ts z rest read.tree read.parts read.means

    -- fuel past the tokens that are left makes no difference
    enough_at : (m n : ℕ) (s : S) (ts : List Terminal) → ((z : S) (rest : List Terminal) → length rest < length ts → loop_by m step z rest ≡ loop_by n step z rest) → (r : Answer (Turn S V)) → step s ts ≡ r → go_on r (turned (loop_by m step)) ≡ go_on r (turned (loop_by n step))
    enough_at m n s ts shorter (Err e) same = refl
    enough_at m n s ts shorter (Ok (is_done v, rest)) same = refl
    enough_at m n s ts shorter (Ok (goes_on z, rest)) same = shorter z rest (turn_shortens s ts z rest same)

    enough : (m n : ℕ) (s : S) (ts : List Terminal) → length ts < m → length ts < n → loop_by m step s ts ≡ loop_by n step s ts
    enough zero n s ts a b = absurd (omega arith)
    enough (suc m) zero s ts a b = absurd (omega arith)
    enough (suc m) (suc n) s ts a b = enough_at m n s ts (λ z rest less. enough m n z rest (omega arith) (omega arith)) (step s ts) refl

    -- a loop is a turn, and the loop again where it goes on
    pub loop_turn : (s : S) (ts : List Terminal) → loop step s ts ≡ then_read (step s) (turned (loop step)) ts
    unfolding loop
    loop_turn s ts = at (step s ts) refl
      where
        at : (r : Answer (Turn S V)) → step s ts ≡ r → go_on r (turned (loop_by (length ts) step)) ≡ go_on r (turned (loop step))
        at (Err e) same = refl
        at (Ok (is_done v, rest)) same = refl
        at (Ok (goes_on z, rest)) same =
            let less = turn_shortens s ts z rest same in
            enough (length ts) (suc (length rest)) z rest less (omega arith)

    -- each row of turns is read, up to what is broken first
    complete_last : (s : S) (e : E s) (rest : List Terminal) → Lacks ((turn s).blocks (inr e)) rest → loop step s ((turn s).spell (inr e) ++ rest) ≡ answer_of (spec s) (last e) rest
    complete_last s e rest lacks =
        loop_turn s ((turn s).spell (inr e) ++ rest)
        ∙ ap (λ r. go_on r (turned (loop step))) ((law s).complete (inr e) rest lacks)
        ∙ at (first ((turn s).breaks (inr e))) refl
      where
        n : ℕ
        n = length ((turn s).spell (inr e))

        at : (o : Option Break) → first ((turn s).breaks (inr e)) ≡ o → go_on (answered o n ((turn s).value (inr e)) rest) (turned (loop step)) ≡ answer_of (spec s) (last e) rest
        at None f = ap (λ t. turned (loop step) t rest) (is.ends s e) ∙ ap (λ o. answered o n (result s e) rest) (sym f)
        at (Some k) f = ap (λ o. answered o n (result s e) rest) (sym f)

    complete_loop : (s : S) (gs : Turns G E next s) (rest : List Terminal) → Lacks ((spec s).blocks gs) rest → loop step s ((spec s).spell gs ++ rest) ≡ answer_of (spec s) gs rest
    complete_loop s (last e) rest lacks = complete_last s e rest lacks
    complete_loop s (more g gs) rest lacks =
        loop_turn s ((spec s).spell (more g gs) ++ rest)
        ∙ complete_pair (turn s) (after s) (join s) (step s) (turned (loop step)) (inl g) gs rest (law s).sound
        ((law s).complete (inl g) ((spec (next s g)).spell gs ++ rest) (Lacks-joined (turn s) (after s) (join s) (inl g) gs rest lacks))
        (λ kept. ap (λ t. turned (loop step) t ((spec (next s g)).spell gs ++ rest)) (is.goes s g)
        ∙ complete_loop (next s g) gs rest (Lacks-parts (λ t. (turn s).blocks (inl g) t && is_nil ((spec (next s g)).spell gs)) ((spec (next s g)).blocks gs) rest lacks).1)

    -- what is said of a list, where it is said of each shorter one
    said_after : (s : S) (ts : List Terminal) (v : Turn S V) (rest : List Terminal) → ((z : S) → length rest < length ts → Said (spec z) (loop step z) rest (loop step z rest)) → (x : G s ⊎ E s) → ts ≡ (turn s).spell x ++ rest → (turn s).value x ≡ v → Said (after s x) (turned (loop step) v) rest (turned (loop step) v rest)
    said_after s ts v rest shorter (inl g) parts means =
        let less = shorter_of s ts (next s g) rest (inl g) parts (is.goes s g) in
        subst (λ v. Said (spec (next s g)) (turned (loop step) v) rest (turned (loop step) v rest)) (sym (is.goes s g) ∙ means) (shorter (next s g) less)
    said_after s ts v rest shorter (inr e) parts means =
        subst (λ v. Said (nothing (turn s).start (result s e)) (turned (loop step) v) rest (turned (loop step) v rest)) (sym (is.ends s e) ∙ means) ((Lawful-ret (turn s).start (result s e)).said rest)

    said_loop : (n : ℕ) (s : S) (ts : List Terminal) → length ts < n → Said (spec s) (loop step s) ts (loop step s ts)
    said_loop zero s ts size = absurd (omega arith)
    said_loop (suc n) s ts size =
        subst (λ read. Said (spec s) read ts (read ts)) (λ i us. sym (loop_turn s us) i)
        (Said-view (joined (turn s) (after s)) (spec s) (view s) (then_read (step s) (turned (loop step))) ts (then_read (step s) (turned (loop step)) ts)
        (Said-joined (turn s) (after s) (join s) (step s) (turned (loop step)) ts (law s).sound (law s).complete
        (λ v rest read. said_after s ts v rest (λ z less. said_loop n z rest (omega arith)) read.tree read.parts read.means)
        (step s ts) ((law s).said ts)))

    -- a loop over a lawful turn is lawful
    pub Lawful-loop : (s : S) → Lawful (spec s) (loop step s)
    Lawful-loop s = record {
      sound = Sound-loop (λ z. (law z).sound) s;
      complete = λ gs rest lacks. complete_loop s gs rest lacks;
      said = λ ts. said_loop (suc (length ts)) s ts (omega arith);
    }

    -- what a loop answers, by what its turn does
    pub turn_fails : (s : S) (ts : List Terminal) (e : Fault) → step s ts ≡ Err e → loop step s ts ≡ Err e
    turn_fails s ts e same = loop_turn s ts ∙ ap (λ r. go_on r (turned (loop step))) same

    pub turn_goes_on : (s : S) (ts : List Terminal) (z : S) (rest : List Terminal) → step s ts ≡ Ok (goes_on z, rest) → loop step s ts ≡ loop step z rest
    turn_goes_on s ts z rest same = loop_turn s ts ∙ ap (λ r. go_on r (turned (loop step))) same

    pub turn_ends : (s : S) (ts : List Terminal) (v : V) (rest : List Terminal) → step s ts ≡ Ok (is_done v, rest) → loop step s ts ≡ Ok (v, rest)
    turn_ends s ts v rest same = loop_turn s ts ∙ ap (λ r. go_on r (turned (loop step))) same

-- Items one behind another, up to a token that ends them.
use Rattle.std.proofs.Common.{◌≡◌, ◌⊎◌, Bool, true, false, ◌||◌, ◌&&◌, List, [], ◌∷◌, ◌++◌, Option, refl, sym, ap, subst, inl, inr, append-nil}
use Rattle.mn_lexer.specs.Terminals.{Terminal}
use Rattle.mn_grammar.specs.Places.{Break, on, behind}
use Rattle.mn_grammar.specs.Reading.{Reader, Site, Turn, goes_on, is_done, then_read, ret}
use Rattle.mn_grammar.specs.Bodies.{item_at, body_at}
use Rattle.mn_grammar.specs.Lawful.{Spec, Fits, first, Lawful}
use Rattle.mn_grammar.proofs.Sites.{is_nil, Fits-nothing}
use Rattle.mn_grammar.proofs.Leaves.{leaf, nothing, Lawful-ret}
use Rattle.mn_grammar.proofs.Classes.{either_value}
use Rattle.mn_grammar.proofs.Joins.{joined}
use Rattle.mn_grammar.proofs.Steps.{valued, Lawful-valued, Lawful-leaf_then}
use Rattle.mn_grammar.proofs.Views.{IsView, Lawful-view}
use Rattle.mn_grammar.proofs.Loops.{Turns, last, more, turns, Loop, Lawful-loop}
use Rattle.mn_grammar.specs.declared.Kind.{Kind}

-- A are the first tokens of items and W what they stand for, H the tokens that end them; `judge` the condition on each
-- by the state; `item` what follows a first token, whose value is the next state; `result` the value at the end.
module _ {S A H W V : Type 0} {Y : A → Type 0} (site : Site) (token : A ⊎ H → Terminal) (value : A → W) (judge : S → W ⊎ H → Option Kind) (some : H) (item : S → (a : A) → Spec (Y a) S) (result : S → H → V) where
  abbrev pub firsts : S → Spec (A ⊎ H) (W ⊎ H)
  firsts s = leaf site token (either_value value (λ h. h)) (judge s) (inr some)

  -- an item, or the end
  abbrev pub spell_item : S → ((a : A) × Y a) ⊎ H → List Terminal
  spell_item s (inl p) = token (inl p.0) ∷ (item s p.0).spell p.1
  spell_item s (inr h) = token (inr h) ∷ []

  abbrev pub breaks_item : S → ((a : A) × Y a) ⊎ H → List Break
  breaks_item s (inl p) = on (judge s (inl (value p.0))) ++ behind 1 ((item s p.0).breaks p.1)
  breaks_item s (inr h) = on (judge s (inr h))

  abbrev pub value_item : S → ((a : A) × Y a) ⊎ H → Turn S V
  value_item s (inl p) = goes_on ((item s p.0).value p.1)
  value_item s (inr h) = is_done (result s h)

  abbrev pub blocks_item : S → ((a : A) × Y a) ⊎ H → Terminal → Bool
  blocks_item s (inl p) t = (item s p.0).blocks p.1 t
  blocks_item s (inr h) t = false

  abbrev pub one_item : S → Spec (((a : A) × Y a) ⊎ H) (Turn S V)
  one_item s = record {
    spell = spell_item s;
    breaks = breaks_item s;
    value = value_item s;
    blocks = blocks_item s;
    start = site;
    any = inr some;
  }

  abbrev pub after_item : (s : S) → (a : A) × Y a → S
  after_item s p = (item s p.0).value p.1

  abbrev pub at_end : (s : S) → Turns (λ z. (a : A) × Y a) (λ z. H) after_item s
  at_end s = last some

  -- the trees of a body
  abbrev pub body_spec : (s : S) → Spec (Turns (λ z. (a : A) × Y a) (λ z. H) after_item s) V
  body_spec s = turns one_item after_item result at_end s

  abbrev Following : A ⊎ H → Type 0
  Following (inl a) = Y a
  Following (inr h) = Unit {0}

  abbrev following : S → (x : A ⊎ H) → Spec (Following x) (Turn S V)
  following s (inl a) = valued (λ z. goes_on z) (item s a)
  following s (inr h) = nothing site (is_done (result s h))

  abbrev onto : (x : A ⊎ H) → Following x → ((a : A) × Y a) ⊎ H
  onto (inl a) y = inl (a, y)
  onto (inr h) u = inr h

  abbrev back : ((a : A) × Y a) ⊎ H → (x : A ⊎ H) × Following x
  back (inl p) = (inl p.0, p.1)
  back (inr h) = (inr h, tt)

  again : (x : ((a : A) × Y a) ⊎ H) → onto (back x).0 (back x).1 ≡ x
  again (inl p) = refl
  again (inr h) = refl

  view_spell : (s : S) (x : A ⊎ H) (y : Following x) → spell_item s (onto x y) ≡ (joined (firsts s) (following s)).spell (x, y)
  view_spell s (inl a) y = refl
  view_spell s (inr h) u = refl

  view_breaks : (s : S) (x : A ⊎ H) (y : Following x) → breaks_item s (onto x y) ≡ (joined (firsts s) (following s)).breaks (x, y)
  view_breaks s (inl a) y = refl
  view_breaks s (inr h) u = sym (append-nil (on (judge s (inr h))))

  view_value : (s : S) (x : A ⊎ H) (y : Following x) → value_item s (onto x y) ≡ (joined (firsts s) (following s)).value (x, y)
  view_value s (inl a) y = refl
  view_value s (inr h) u = refl

  view_blocks : (s : S) (x : A ⊎ H) (y : Following x) (t : Terminal) → blocks_item s (onto x y) t ≡ (joined (firsts s) (following s)).blocks (x, y) t
  view_blocks s (inl a) y t = refl
  view_blocks s (inr h) u t = refl

  view : (s : S) → IsView (joined (firsts s) (following s)) (one_item s)
  view s = record {
    onto = λ p. onto p.0 p.1;
    back = back;
    again = again;
    spell = λ p. view_spell s p.0 p.1;
    breaks = λ p. ap first (view_breaks s p.0 p.1);
    value = λ p. view_value s p.0 p.1;
    blocks = λ p t. view_blocks s p.0 p.1 t;
    start = refl;
  }

  -- a body has tokens, and nothing goes on with it, since it ends with its last token
  pub body_solid : (s : S) (gs : Turns (λ z. (a : A) × Y a) (λ z. H) after_item s) → (body_spec s).spell gs ≡ [] → ⊥
  body_solid s (last h) e = cc
  body_solid s (more p gs) e = cc

  solid_nil : (l : List Terminal) → (l ≡ [] → ⊥) → is_nil l ≡ false
  solid_nil [] some = absurd (some refl)
  solid_nil (t ∷ l) some = refl

  or_both : (b c d : Bool) → c ≡ false → d ≡ false → ((b && c) || d) ≡ false
  or_both true c d e f = rw (e, f)
  or_both false c d e f = f

  pub body_blocks : (s : S) (gs : Turns (λ z. (a : A) × Y a) (λ z. H) after_item s) (t : Terminal) → (body_spec s).blocks gs t ≡ false
  body_blocks s (last h) t = refl
  body_blocks s (more p gs) t =
      or_both (blocks_item s (inl p) t) (is_nil ((body_spec (after_item s p)).spell gs)) _
      (solid_nil ((body_spec (after_item s p)).spell gs) (body_solid (after_item s p) gs)) (body_blocks (after_item s p) gs t)

  -- What a body has to show: no first token, nor one that ends the items, goes on with an item, and what does fits the
  -- site.
  pub record Body : Type 0 where
    pub apart : (s : S) (a : A) (y : Y a) (x : A ⊎ H) → (item s a).blocks y (token x) ≡ false
    pub fits : (s : S) (a : A) (y : Y a) → Fits site ((item s a).blocks y)

  module _ (body : Body) where
    next_first : (s : S) (a : A) (y : Y a) (z : S) (gs : Turns (λ z. (a : A) × Y a) (λ z. H) after_item z) (t : Terminal) (q : List Terminal) → (body_spec z).spell gs ≡ t ∷ q → (item s a).blocks y t ≡ false
    next_first s a y z (last h) t q e = let same : token (inr h) ≡ t = cc in subst (λ u. (item s a).blocks y u ≡ false) same (body.apart s a y (inr h))
    next_first s a y z (more p gs) t q e = let same : token (inl p.0) ≡ t = cc in subst (λ u. (item s a).blocks y u ≡ false) same (body.apart s a y (inl p.0))

    is_loop : Loop one_item after_item result at_end
    is_loop = record {
      goes = λ s p. refl;
      ends = λ s h. refl;
      grows = λ s p e. cc;
      apart = λ s p gs t q e. next_first s p.0 p.1 (after_item s p) gs t q e;
      fits = λ s p. body.fits s p.0 p.1;
      fits_last = λ s h. Fits-nothing site;
    }

    module _ (read : S → Reader (W ⊎ H)) (rest : S → W → Reader S) (law : (s : S) → Lawful (firsts s) (read s)) (laws : (s : S) (a : A) → Lawful (item s a) (rest s (value a))) where
      following_law : (s : S) (x : A ⊎ H) → Lawful (following s x) (item_at rest result s (either_value value (λ h. h) x))
      following_law s (inl a) = Lawful-valued (λ z. goes_on z) (item s a) (rest s (value a)) (laws s a)
      following_law s (inr h) = Lawful-ret site (is_done (result s h))

      -- items that are lawful, up to the token that ends them
      pub Lawful-body : (s : S) → Lawful (body_spec s) (body_at read rest result s)
      unfolding body_at
      Lawful-body s =
          Lawful-loop one_item after_item result at_end is_loop (λ z. then_read (read z) (item_at rest result z))
          (λ z. Lawful-view (joined (firsts z) (following z)) (one_item z) (view z) (then_read (read z) (item_at rest result z))
          (Lawful-leaf_then site token (either_value value (λ h. h)) (judge z) (inr some) (read z) (following z) (item_at rest result z) (law z) (following_law z)))
          s

-- In a loop whose turns hang on the state: where each turn goes on, and where it is the last.
module _ {X S V : Type 0} (s : Spec X S) where
  abbrev pub going : Spec (X ⊎ ⊥) (Turn S V)
  going = record {
    spell = elim [ inl x ↦ s.spell x | inr e ↦ absurd e ];
    breaks = elim [ inl x ↦ s.breaks x | inr e ↦ absurd e ];
    value = elim [ inl x ↦ goes_on (s.value x) | inr e ↦ absurd e ];
    blocks = elim [ inl x ↦ s.blocks x | inr e ↦ absurd e ];
    start = s.start;
    any = inl s.any;
  }

  pub Lawful-going : (read : Reader S) → Lawful s read → Lawful going (then_read read (λ z. ret (goes_on z)))
  Lawful-going read law =
      Lawful-view (valued (λ z. goes_on z) s) going
      (record {
        onto = λ x. inl x;
        back = elim [ inl x ↦ x | inr e ↦ absurd e ];
        again = elim [ inl x ↦ refl | inr e ↦ absurd e ];
        spell = λ x. refl;
        breaks = λ x. refl;
        value = λ x. refl;
        blocks = λ x t. refl;
        start = refl;
      })
      (then_read read (λ z. ret (goes_on z))) (Lawful-valued (λ z. goes_on z) s read law)

module _ {S V : Type 0} (site : Site) (v : V) where
  abbrev pub ending : Spec (⊥ ⊎ Unit {0}) (Turn S V)
  ending = record {
    spell = λ x. [];
    breaks = λ x. [];
    value = λ x. is_done v;
    blocks = λ x t. false;
    start = site;
    any = inr tt;
  }

  pub Lawful-ending : Lawful ending (ret (is_done v))
  Lawful-ending =
      Lawful-view (nothing site (is_done v)) ending
      (record {
        onto = λ u. inr u;
        back = λ x. tt;
        again = elim [ inl e ↦ absurd e | inr u ↦ refl ];
        spell = λ u. refl;
        breaks = λ u. refl;
        value = λ u. refl;
        blocks = λ u t. refl;
        start = refl;
      })
      (ret (is_done v)) (Lawful-ret site (is_done v))

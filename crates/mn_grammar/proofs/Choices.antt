-- One of two readers, by the first token.
use Rattle.std.proofs.Common.{◌≡◌, ◌⊎◌, Bool, true, false, cond, ◌||◌, ◌&&◌, List, [], ◌∷◌, ◌++◌, Ok, Err, refl, sym, ap, ◌∙◌, subst, inl, inr, ⊎_elim}
use Rattle.std.proofs.lemmas.Bool.{cases_Bool, or_cases, and_parts}
use Rattle.mn_lexer.specs.Terminals.{Terminal}
use Rattle.mn_grammar.specs.Places.{Break}
use Rattle.mn_grammar.specs.Reading.{Answer, Reader, or_else}
use Rattle.mn_grammar.specs.Lawful.{Spec, Fits, Lacks, answer_of, Sound, IsLeft, IsBroken, Said, Complete, Lawful}
use Rattle.mn_grammar.proofs.Sites.{is_nil, nil_of, IsSite-wider, Fits-where, Lacks-parts, Lacks-both, Lacks-front, Lacks-behind, Lacks-same}
use Rattle.mn_grammar.proofs.Refusals.{none_begins}
use Rattle.mn_grammar.specs.declared.Fault.{Fault}

module _ {X Y V : Type 0} (test : Terminal → Bool) (a : Spec X V) (b : Spec Y V) where
  -- a tree of a or one of b
  abbrev pub spell_either : X ⊎ Y → List Terminal
  spell_either (inl x) = a.spell x
  spell_either (inr y) = b.spell y

  abbrev pub breaks_either : X ⊎ Y → List Break
  breaks_either (inl x) = a.breaks x
  breaks_either (inr y) = b.breaks y

  abbrev pub value_either : X ⊎ Y → V
  value_either (inl x) = a.value x
  value_either (inr y) = b.value y

  abbrev pub blocks_either : X ⊎ Y → Terminal → Bool
  blocks_either (inl x) t = a.blocks x t
  blocks_either (inr y) t = (test t && is_nil (b.spell y)) || b.blocks y t

  abbrev pub either : Spec (X ⊎ Y) V
  either = record {
    spell = spell_either;
    breaks = breaks_either;
    value = value_either;
    blocks = blocks_either;
    start = b.start;
    any = inr b.any;
  }

  -- What a choice has to show: the test tells the first tokens of a, and none of b's; and where what a begins with
  -- is wanted too, the site of b stays as it is.
  pub record Choice : Type 0 where
    pub begins : (x : X) → (t : Terminal) × (q : List Terminal) × (a.spell x ≡ t ∷ q) × (test t ≡ true)
    pub starts : (t : Terminal) → test t ≡ true → (x : X) × (q : List Terminal) × (a.spell x ≡ t ∷ q)
    pub apart : (y : Y) (t : Terminal) (q : List Terminal) → b.spell y ≡ t ∷ q → test t ≡ false
    pub fits : Fits b.start test

module _ {X Y V : Type 0} (test : Terminal → Bool) (a : Spec X V) (b : Spec Y V) (choice : Choice test a b) where
  abbrev s : Spec (X ⊎ Y) V
  s = either test a b

  pub Sound-either : Sound a → Sound b → Sound s
  Sound-either sa sb = record {
    kinds = elim [ inl x ↦ sa.kinds x | inr y ↦ sb.kinds y ];
    within = elim [ inl x ↦ sa.within x | inr y ↦ sb.within y ];
    extends = elim [
      | inl x ↦ λ t e. let z = sa.extends x t e in (inl z.0, z.1, z.2)
      | inr y ↦ λ t e. ⊎_elim
          (λ front. let both = and_parts _ _ front in
          let x = choice.starts t both.0 in
          (inl x.0, x.1, x.2 ∙ ap (λ l. l ++ t ∷ x.1) (sym (nil_of (b.spell y) both.1))))
          (λ after. let z = sb.extends y t after in (inr z.0, z.1, z.2))
          (or_cases _ _ e)
    ];
  }

  module _ (ra rb : Reader V) where
    at_a : (t : Terminal) (q : List Terminal) → test t ≡ true → or_else test ra rb (t ∷ q) ≡ ra (t ∷ q)
    at_a t q e = ap (λ c. cond c (ra (t ∷ q)) (rb (t ∷ q))) e

    at_b : (ts : List Terminal) → Lacks test ts → or_else test ra rb ts ≡ rb ts
    at_b [] lacks = refl
    at_b (t ∷ q) lacks = ap (λ c. cond c (ra (t ∷ q)) (rb (t ∷ q))) lacks

    -- where p isn't empty its first token decides
    decided_a : (p us vs : List Terminal) (t : Terminal) (q : List Terminal) → t ∷ q ≡ p ++ us → test t ≡ true → (p ≡ [] → ⊥) → or_else test ra rb (p ++ vs) ≡ ra (p ++ vs)
    decided_a [] us vs t q e yes_t some = absurd (some refl)
    decided_a (u ∷ p) us vs t q e yes_t some = let same : t ≡ u = cc in at_a u (p ++ vs) (subst (λ x. test x ≡ true) same yes_t)

    complete_a : Complete a ra → (x : X) (rest : List Terminal) → Lacks (a.blocks x) rest → or_else test ra rb (a.spell x ++ rest) ≡ answer_of a x rest
    complete_a complete x rest lacks =
        let r = choice.begins x in
        ap (λ l. or_else test ra rb (l ++ rest)) r.2
        ∙ at_a r.0 (r.1 ++ rest) r.3
        ∙ ap (λ l. ra (l ++ rest)) (sym r.2)
        ∙ complete x rest lacks

    lacks_b : (y : Y) (rest : List Terminal) → Lacks (λ t. test t && is_nil (b.spell y)) rest → Lacks test (b.spell y ++ rest)
    lacks_b y rest lacks = by_spelling (b.spell y) refl
      where
        by_spelling : (l : List Terminal) → b.spell y ≡ l → Lacks test (l ++ rest)
        by_spelling [] e = at_nil rest lacks
          where
            at_nil : (rest : List Terminal) → Lacks (λ t. test t && is_nil (b.spell y)) rest → Lacks test rest
            at_nil [] lacks = tt
            at_nil (t ∷ rest) lacks = sym (both_true (test t) (is_nil (b.spell y)) (ap is_nil e)) ∙ lacks
              where
                both_true : (c d : Bool) → d ≡ true → (c && d) ≡ c
                both_true true d e = e
                both_true false d e = refl
        by_spelling (t ∷ q) e = choice.apart y t q e

    left_a : (t : Terminal) (q : List Terminal) → test t ≡ true → Lawful a ra → (e : Fault) → IsLeft a ra (t ∷ q) e → IsLeft s (or_else test ra rb) (t ∷ q) e
    left_a t q begins law e left = record {
      passed = left.passed;
      others = left.others;
      site = left.site;
      wanted = left.wanted;
      parts = left.parts;
      place = left.place;
      lacks = left.lacks;
      is_site = left.is_site;
      wants = λ u w. let x = left.wants u w in (inl x.0, x.1, x.2);
      refuses = λ us lacks. decided_a left.passed left.others us t q left.parts begins some ∙ left.refuses us lacks;
      fine = let x = left.fine in (inl x.0, x.1, x.2, x.3);
      starts = λ none. absurd (some none);
    }
      where
        some : left.passed ≡ [] → ⊥
        some none =
            let x = choice.starts t begins in
            let others : left.others ≡ t ∷ q = sym (left.parts ∙ ap (λ l. l ++ left.others) none) in
            none_begins a ra law.sound law.complete (t ∷ q) e left t (subst (λ l. Lacks left.wanted l) others left.lacks) x.0 x.1 (x.2 ∙ ap (λ l. l ++ t ∷ x.1) (sym none))

    broken_a : (t : Terminal) (q : List Terminal) → test t ≡ true → (e : Fault) → IsBroken a ra (t ∷ q) e → IsBroken s (or_else test ra rb) (t ∷ q) e
    broken_a t q begins e is = record {
      passed = is.passed;
      token = is.token;
      others = is.others;
      kind = is.kind;
      parts = is.parts;
      place = is.place;
      refuses = λ us. decided is.passed is.parts us ∙ is.refuses us;
      broken = let x = is.broken in (inl x.0, x.1, x.2, x.3);
    }
      where
        decided : (p : List Terminal) → t ∷ q ≡ p ++ is.token ∷ is.others → (us : List Terminal) → or_else test ra rb (p ++ is.token ∷ us) ≡ ra (p ++ is.token ∷ us)
        decided [] parts us = let same : t ≡ is.token = cc in at_a is.token us (subst (λ x. test x ≡ true) same begins)
        decided (u ∷ p) parts us = let same : t ≡ u = cc in at_a u (p ++ is.token ∷ us) (subst (λ x. test x ≡ true) same begins)

    said_a : (t : Terminal) (q : List Terminal) → test t ≡ true → Lawful a ra → (r : Answer V) → Said a ra (t ∷ q) r → Said s (or_else test ra rb) (t ∷ q) r
    said_a t q begins law (Ok r) is = record { tree = inl is.tree; parts = is.parts; kept = is.kept; means = is.means; ends = is.ends }
    said_a t q begins law (Err e) (inl left) = inl (left_a t q begins law e left)
    said_a t q begins law (Err e) (inr broken) = inr (broken_a t q begins e broken)

    left_b : (ts : List Terminal) → Lacks test ts → (e : Fault) → IsLeft b rb ts e → IsLeft s (or_else test ra rb) ts e
    left_b ts lacks e left = record {
      passed = left.passed;
      others = left.others;
      site = left.site;
      wanted = λ t. (test t && is_nil left.passed) || left.wanted t;
      parts = left.parts;
      place = left.place;
      lacks = Lacks-both (λ t. test t && is_nil left.passed) left.wanted left.others (Lacks-behind test left.passed left.others (subst (λ l. Lacks test l) left.parts lacks)) left.lacks;
      is_site = IsSite-wider left.site (λ t. test t && is_nil left.passed) left.wanted (Fits-where left.passed left.site test (λ none. subst (λ s. Fits s test) (sym (left.starts none)) choice.fits)) left.is_site;
      wants = λ t w. ⊎_elim
          (λ front. let both = and_parts _ _ front in
          let x = choice.starts t both.0 in
          (inl x.0, x.1, x.2 ∙ ap (λ l. l ++ t ∷ x.1) (sym (nil_of left.passed both.1))))
          (λ after. let y = left.wants t after in (inr y.0, y.1, y.2))
          (or_cases _ _ w);
      refuses = λ us none.
          let parts = Lacks-parts (λ t. test t && is_nil left.passed) left.wanted us none in
          at_b (left.passed ++ us) (Lacks-front test left.passed left.others us (subst (λ l. Lacks test l) left.parts lacks) parts.0)
          ∙ left.refuses us parts.1;
      fine = let y = left.fine in (inr y.0, y.1, y.2, y.3);
      starts = left.starts;
    }

    broken_b : (ts : List Terminal) → Lacks test ts → (e : Fault) → IsBroken b rb ts e → IsBroken s (or_else test ra rb) ts e
    broken_b ts lacks e is = record {
      passed = is.passed;
      token = is.token;
      others = is.others;
      kind = is.kind;
      parts = is.parts;
      place = is.place;
      refuses = λ us. at_b (is.passed ++ is.token ∷ us) (Lacks-same test is.passed is.token is.others us (subst (λ l. Lacks test l) is.parts lacks)) ∙ is.refuses us;
      broken = let y = is.broken in (inr y.0, y.1, y.2, y.3);
    }

    said_b : (ts : List Terminal) → Lacks test ts → (r : Answer V) → Said b rb ts r → Said s (or_else test ra rb) ts r
    said_b ts lacks (Ok r) is = record {
      tree = inr is.tree;
      parts = is.parts;
      kept = is.kept;
      means = is.means;
      ends = Lacks-both (λ t. test t && is_nil (b.spell is.tree)) (b.blocks is.tree) r.1 (Lacks-behind test (b.spell is.tree) r.1 (subst (λ l. Lacks test l) is.parts lacks)) is.ends;
    }
    said_b ts lacks (Err e) (inl left) = inl (left_b ts lacks e left)
    said_b ts lacks (Err e) (inr broken) = inr (broken_b ts lacks e broken)

    either_said : Lawful a ra → Lawful b rb → (ts : List Terminal) → Said s (or_else test ra rb) ts (or_else test ra rb ts)
    either_said la lb [] = said_b [] tt (rb []) (lb.said [])
    either_said la lb (t ∷ q) = ⊎_elim
        (λ begins. subst (λ r. Said s (or_else test ra rb) (t ∷ q) r) (sym (at_a t q begins)) (said_a t q begins la (ra (t ∷ q)) (la.said (t ∷ q))))
        (λ other. subst (λ r. Said s (or_else test ra rb) (t ∷ q) r) (sym (at_b (t ∷ q) other)) (said_b (t ∷ q) other (rb (t ∷ q)) (lb.said (t ∷ q))))
        (cases_Bool (test t))

  -- a where the first token passes the test, else b
  pub Lawful-or : (ra rb : Reader V) → Lawful a ra → Lawful b rb → Lawful s (or_else test ra rb)
  Lawful-or ra rb la lb = record {
    sound = Sound-either la.sound lb.sound;
    complete = elim [
      | inl x ↦ λ rest lacks. complete_a ra rb la.complete x rest lacks
      | inr y ↦ λ rest lacks.
          let parts = Lacks-parts (λ t. test t && is_nil (b.spell y)) (b.blocks y) rest lacks in
          at_b ra rb (b.spell y ++ rest) (lacks_b ra rb y rest parts.0) ∙ lb.complete y rest parts.1
    ];
    said = either_said ra rb la lb;
  }

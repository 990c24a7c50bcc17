-- The same language with other trees, and the same reader written otherwise.
use Rattle.std.proofs.Common.{◌≡◌, ◌<◌, List, [], ◌∷◌, ◌++◌, length, Ok, Err, sym, ap, ◌∙◌, subst, inl, inr}
use Rattle.mn_lexer.specs.Terminals.{Terminal}
use Rattle.mn_grammar.specs.Places.{IsFine}
use Rattle.mn_grammar.specs.Reading.{Answer, Reader}
use Rattle.mn_grammar.specs.Lawful.{Spec, Lacks, first, answered, answer_of, Sound, Said, Lawful}
use Rattle.mn_grammar.proofs.Breaks.{none_first, lies_alike}

module _ {X Y V : Type 0} (s : Spec X V) (u : Spec Y V) where
  -- each tree of s is one of u, and each of u comes from one of s: spelled alike, with the same first break and value
  pub record IsView : Type 0 where
    pub onto : X → Y
    pub back : Y → X
    pub again : (y : Y) → onto (back y) ≡ y
    pub spell : (x : X) → u.spell (onto x) ≡ s.spell x
    pub breaks : (x : X) → first (u.breaks (onto x)) ≡ first (s.breaks x)
    pub value : (x : X) → u.value (onto x) ≡ s.value x
    pub blocks : (x : X) (t : Terminal) → u.blocks (onto x) t ≡ s.blocks x t
    pub start : u.start ≡ s.start

module _ {X Y V : Type 0} (s : Spec X V) (u : Spec Y V) (view : IsView s u) where
  spelled : (y : Y) → s.spell (view.back y) ≡ u.spell y
  spelled y = sym (view.spell (view.back y)) ∙ ap u.spell (view.again y)

  broken : (y : Y) → first (s.breaks (view.back y)) ≡ first (u.breaks y)
  broken y = sym (view.breaks (view.back y)) ∙ ap (λ z. first (u.breaks z)) (view.again y)

  valued : (y : Y) → s.value (view.back y) ≡ u.value y
  valued y = sym (view.value (view.back y)) ∙ ap u.value (view.again y)

  blocked : (y : Y) (t : Terminal) → s.blocks (view.back y) t ≡ u.blocks y t
  blocked y t = sym (view.blocks (view.back y) t) ∙ ap (λ z. u.blocks z t) (view.again y)

  lacks_back : (y : Y) (rest : List Terminal) → Lacks (u.blocks y) rest → Lacks (s.blocks (view.back y)) rest
  lacks_back y [] lacks = tt
  lacks_back y (t ∷ rest) lacks = blocked y t ∙ lacks

  lacks_onto : (x : X) (rest : List Terminal) → Lacks (s.blocks x) rest → Lacks (u.blocks (view.onto x)) rest
  lacks_onto x [] lacks = tt
  lacks_onto x (t ∷ rest) lacks = view.blocks x t ∙ lacks

  answer_back : (y : Y) (rest : List Terminal) → answer_of s (view.back y) rest ≡ answer_of u y rest
  answer_back y rest = λ i. answered (broken y i) (length (spelled y i)) (valued y i) rest

  pub Sound-view : Sound s → Sound u
  Sound-view sound = record {
    kinds = λ y b e. sound.kinds (view.back y) b (broken y ∙ e);
    within = λ y b e. subst (λ l. b.0 < length l) (spelled y) (sound.within (view.back y) b (broken y ∙ e));
    extends = λ y t e.
        let x = sound.extends (view.back y) t (blocked y t ∙ e) in
        (view.onto x.0, x.1, view.spell x.0 ∙ x.2 ∙ ap (λ l. l ++ t ∷ x.1) (spelled y));
  }

  fine_onto : (p : List Terminal) → IsFine s.spell s.breaks p → IsFine u.spell u.breaks p
  fine_onto p (x, q, e, fine) = (view.onto x, q, view.spell x ∙ e, lies_alike (length p) (s.breaks x) (u.breaks (view.onto x)) (sym (view.breaks x)) fine)

  pub Said-view : (read : Reader V) (ts : List Terminal) (r : Answer V) → Said s read ts r → Said u read ts r
  Said-view read ts (Ok r) is = record {
    tree = view.onto is.tree;
    parts = is.parts ∙ ap (λ l. l ++ r.1) (sym (view.spell is.tree));
    kept = none_first (u.breaks (view.onto is.tree)) (view.breaks is.tree ∙ ap first is.kept);
    means = view.value is.tree ∙ is.means;
    ends = lacks_onto is.tree r.1 is.ends;
  }
  Said-view read ts (Err e) (inl left) = inl (record {
    passed = left.passed;
    others = left.others;
    site = left.site;
    wanted = left.wanted;
    parts = left.parts;
    place = left.place;
    lacks = left.lacks;
    is_site = left.is_site;
    wants = λ t w. let x = left.wants t w in (view.onto x.0, x.1, view.spell x.0 ∙ x.2);
    refuses = left.refuses;
    fine = fine_onto left.passed left.fine;
    starts = λ none. left.starts none ∙ sym view.start;
  })
  Said-view read ts (Err e) (inr is) = inr (record {
    passed = is.passed;
    token = is.token;
    others = is.others;
    kind = is.kind;
    parts = is.parts;
    place = is.place;
    refuses = is.refuses;
    broken = let x = is.broken in (view.onto x.0, x.1, view.spell x.0 ∙ x.2, view.breaks x.0 ∙ x.3);
  })

  -- what is lawful for s is for u
  pub Lawful-view : (read : Reader V) → Lawful s read → Lawful u read
  Lawful-view read law = record {
    sound = Sound-view law.sound;
    complete = λ y rest lacks.
        ap (λ l. read (l ++ rest)) (sym (spelled y))
        ∙ law.complete (view.back y) rest (lacks_back y rest lacks)
        ∙ answer_back y rest;
    said = λ ts. Said-view read ts (read ts) (law.said ts);
  }

-- a reader that answers the same everywhere
pub Lawful-same : {X V : Type 0} (s : Spec X V) (read other : Reader V) → ((ts : List Terminal) → read ts ≡ other ts) → Lawful s read → Lawful s other
Lawful-same s read other same law = subst (λ r. Lawful s r) (λ i ts. same ts i) law

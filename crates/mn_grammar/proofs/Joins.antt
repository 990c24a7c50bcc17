-- One reader behind another, whose value says what is read next.
use Rattle.std.proofs.Common.{◌≡◌, ℕ, ◌+◌, ◌-◌, ◌<◌, true, false, ◌||◌, ◌&&◌, List, [], ◌∷◌, ◌++◌, length, Option, Some, None, Ok, Err, refl, sym, ap, ◌∙◌, subst, inl, inr, ⊎_elim, arith, append_assoc, append-nil, length-append}
use Rattle.std.proofs.lemmas.Bool.{or_cases, and_parts}
use Rattle.mn_lexer.specs.Terminals.{Terminal}
use Rattle.mn_grammar.specs.Kinds.{is_condition}
use Rattle.mn_grammar.specs.Places.{Break, behind, Has, IsFine}
use Rattle.mn_grammar.specs.Reading.{Answer, Reader, go_on, then_read}
use Rattle.mn_grammar.specs.Lawful.{Spec, Fits, Lacks, first, answered, answer_of, Sound, IsRead, IsLeft, IsBroken, Said, Complete, Lawful}
use Rattle.mn_grammar.proofs.Breaks.{first_front, first_joined, first_behind, none_first, moved, has_either, behind_has}
use Rattle.mn_grammar.proofs.Sites.{is_nil, nil_of, both_nil, IsSite-wider, Fits-where, Lacks-parts, Lacks-both, Lacks-front, Lacks-behind, Lacks-same}
use Rattle.mn_grammar.specs.declared.Fault.{Fault}
use Rattle.mn_grammar.specs.declared.Kind.{Kind}

module _ {X V W : Type 0} {Y : X → Type 0} (a : Spec X V) (b : (x : X) → Spec (Y x) W) where
  -- a tree of a, and behind it one of those that may follow it
  abbrev pub joined : Spec ((x : X) × Y x) W
  joined = record {
    spell = λ p. a.spell p.0 ++ (b p.0).spell p.1;
    breaks = λ p. a.breaks p.0 ++ behind (length (a.spell p.0)) ((b p.0).breaks p.1);
    value = λ p. (b p.0).value p.1;
    blocks = λ p t. (a.blocks p.0 t && is_nil ((b p.0).spell p.1)) || (b p.0).blocks p.1 t;
    start = a.start;
    any = (a.any, (b a.any).any);
  }

  -- What two readers have to show: no tree of the second begins with what would go on with the first; what would go
  -- on with the first leaves the second's site as it is; and where the first is empty, the site is the same.
  pub record Join : Type 0 where
    pub apart : (x : X) (y : Y x) (t : Terminal) (q : List Terminal) → (b x).spell y ≡ t ∷ q → a.blocks x t ≡ false
    pub fits : (x : X) → Fits (b x).start (a.blocks x)
    pub starts : (x : X) → a.spell x ≡ [] → (b x).start ≡ a.start

answered_front : {V : Type 0} (k : Break) (m n : ℕ) (v : V) (rest more : List Terminal) → k.0 < m → length more ≡ n + length rest → answered {V = V} (Some k) m v more ≡ answered (Some k) (m + n) v rest
answered_front k m n v rest more within size =
    let same : (m - k.0) + length more ≡ (m + n - k.0) + length rest = omega arith in
    λ i. Err (record { left = same i; kind = k.1 })

answered_behind : {V : Type 0} (o : Option Break) (m n : ℕ) (v : V) (rest : List Terminal) → answered o n v rest ≡ answered (moved m o) (m + n) v rest
answered_behind None m n v rest = refl
answered_behind (Some k) m n v rest =
    let same : (n - k.0) + length rest ≡ (m + n - (m + k.0)) + length rest = omega arith in
    λ i. Err (record { left = same i; kind = k.1 })

module _ {X V W : Type 0} {Y : X → Type 0} (a : Spec X V) (b : (x : X) → Spec (Y x) W) (join : Join a b) where
  abbrev s : Spec ((x : X) × Y x) W
  s = joined a b

  abbrev pair_begins : (p : List Terminal) → (x : X) × (q : List Terminal) × (a.spell x ≡ p ++ q) → (z : (x : X) × Y x) × (q : List Terminal) × (s.spell z ≡ p ++ q)
  pair_begins p (x, q, e) = ((x, (b x).any), q ++ (b x).spell (b x).any, ap (λ l. l ++ (b x).spell (b x).any) e ∙ append_assoc p q _)

  abbrev behind_begins : (x : X) (p : List Terminal) → (y : Y x) × (q : List Terminal) × ((b x).spell y ≡ p ++ q) → (z : (x : X) × Y x) × (q : List Terminal) × (s.spell z ≡ (a.spell x ++ p) ++ q)
  behind_begins x p (y, q, e) = ((x, y), q, ap (λ l. a.spell x ++ l) e ∙ sym (append_assoc (a.spell x) p q))

  pair_fine : (p : List Terminal) → IsFine a.spell a.breaks p → IsFine s.spell s.breaks p
  pair_fine p (x, q, e, fine) =
      let r = pair_begins p (x, q, e) in
      let size : length (a.spell x) ≡ length p + length q = ap length e ∙ length-append p q in (
        r.0,
        r.1,
        r.2,
        λ place kind has. ⊎_elim
            (λ front. fine place kind front)
            (λ back. let k = behind_has (length (a.spell x)) _ place kind back in let at = k.1 in omega arith)
            (has_either (a.breaks x) _ place kind has),
      )

  behind_fine : (x : X) (p : List Terminal) → a.breaks x ≡ [] → IsFine (b x).spell (b x).breaks p → IsFine s.spell s.breaks (a.spell x ++ p)
  behind_fine x p kept (y, q, e, fine) =
      let r = behind_begins x p (y, q, e) in
      let size = length-append (a.spell x) p in (
        r.0,
        r.1,
        r.2,
        λ place kind has. ⊎_elim
            (λ front. absurd (subst (λ l. Has l place kind) kept front))
            (λ back. let k = behind_has (length (a.spell x)) _ place kind back in let at = k.1 in let ok = fine k.0 kind k.2 in omega arith)
            (has_either (a.breaks x) _ place kind has),
      )

  abbrev front_broken : Sound a → (p : List Terminal) (kind : Kind) → (x : X) × (q : List Terminal) × (a.spell x ≡ p ++ q) × (first (a.breaks x) ≡ Some (length p, kind)) → (z : (x : X) × Y x) × (q : List Terminal) × (s.spell z ≡ p ++ q) × (first (s.breaks z) ≡ Some (length p, kind))
  front_broken sound p kind (x, q, e, f) =
      let r = pair_begins p (x, q, e) in
      (r.0, r.1, r.2, first_front (length (a.spell x)) (a.breaks x) _ _ (sound.within x _ f) f)

  -- a token that goes on with a tree of a, where nothing of b is read yet
  front_extends : Sound a → (x : X) (p : List Terminal) (t : Terminal) → a.blocks x t ≡ true → p ≡ [] → (z : (x : X) × Y x) × (q : List Terminal) × (s.spell z ≡ (a.spell x ++ p) ++ t ∷ q)
  front_extends sound x p t e none =
      let y = sound.extends x t e in
      let r = pair_begins (a.spell x) (y.0, t ∷ y.1, y.2) in
      (r.0, y.1 ++ (b y.0).spell (b y.0).any, r.2 ∙ ap (λ l. l ++ t ∷ (y.1 ++ (b y.0).spell (b y.0).any)) (sym (ap (λ l. a.spell x ++ l) none ∙ append-nil (a.spell x))))

  -- what both break first is what the first does, or the second
  pub first_pair : Sound a → (x : X) (y : Y x) (k : Break) (o : Option Break) → first (a.breaks x) ≡ o → first (s.breaks (x, y)) ≡ Some k → ((l : Break) → first ((b x).breaks y) ≡ Some l → (is_condition l.1 ≡ true) × (l.0 < length ((b x).spell y))) → (is_condition k.1 ≡ true) × (k.0 < length (s.spell (x, y)))
  first_pair sa x y k (Some l) e f back =
      let same : ◌≡◌ {A = Option Break} (Some l) (Some k) = sym (first_front (length (a.spell x)) (a.breaks x) ((b x).breaks y) l (sa.within x l e) e) ∙ f in
      let is : first (a.breaks x) ≡ Some k = e ∙ same in
      let size = length-append (a.spell x) ((b x).spell y) in
      let w = sa.within x k is in
      (sa.kinds x k is, omega arith)
  first_pair sa x y k None e f back = at (first ((b x).breaks y)) refl (sym (first_joined (length (a.spell x)) (a.breaks x) ((b x).breaks y) (sa.within x) None e) ∙ f)
    where
      at : (o : Option Break) → first ((b x).breaks y) ≡ o → moved (length (a.spell x)) o ≡ Some k → (is_condition k.1 ≡ true) × (k.0 < length (s.spell (x, y)))
      at None g same = absurd cc
      at (Some l) g same =
          let is : ◌≡◌ {A = Break} (length (a.spell x) + l.0, l.1) k = cc in
          let place = ap (λ (c : Break). c.0) is in
          let kind = ap (λ (c : Break). c.1) is in
          let size = length-append (a.spell x) ((b x).spell y) in
          let w = (back l g).1 in
          (subst (λ c. is_condition c ≡ true) kind (back l g).0, omega arith)

  -- the trees are in order
  pub Sound-joined : Sound a → ((x : X) → Sound (b x)) → Sound s
  Sound-joined sa sb = record {
    kinds = λ z k e. (first_pair sa z.0 z.1 k (first (a.breaks z.0)) refl e (λ l g. ((sb z.0).kinds z.1 l g, (sb z.0).within z.1 l g))).0;
    within = λ z k e. (first_pair sa z.0 z.1 k (first (a.breaks z.0)) refl e (λ l g. ((sb z.0).kinds z.1 l g, (sb z.0).within z.1 l g))).1;
    extends = λ z t e. ⊎_elim
        (λ front. let both = and_parts _ _ front in front_extends sa z.0 ((b z.0).spell z.1) t both.0 (nil_of ((b z.0).spell z.1) both.1))
        (λ back. let y = (sb z.0).extends z.1 t back in
        let r = behind_begins z.0 ((b z.0).spell z.1) (y.0, t ∷ y.1, y.2) in (r.0, y.1, r.2))
        (or_cases _ _ e);
  }

  -- a tree of both is read, where the first is and, unless it breaks something, the second
  pub complete_pair : (ra : Reader V) (rb : V → Reader W) (x : X) (y : Y x) (rest : List Terminal) → Sound a → ra (a.spell x ++ ((b x).spell y ++ rest)) ≡ answer_of a x ((b x).spell y ++ rest) → (a.breaks x ≡ [] → rb (a.value x) ((b x).spell y ++ rest) ≡ answer_of (b x) y rest) → then_read ra rb (s.spell (x, y) ++ rest) ≡ answer_of s (x, y) rest
  complete_pair ra rb x y rest sound ea eb =
      ap (λ l. go_on (ra l) rb) (append_assoc (a.spell x) ((b x).spell y) rest)
      ∙ ap (λ r. go_on r rb) ea
      ∙ by_first (first (a.breaks x)) refl
    where
      m : ℕ
      m = length (a.spell x)

      n : ℕ
      n = length ((b x).spell y)

      size : length (s.spell (x, y)) ≡ m + n
      size = length-append (a.spell x) ((b x).spell y)

      by_first : (o : Option Break) → first (a.breaks x) ≡ o → go_on (answered o m (a.value x) ((b x).spell y ++ rest)) rb ≡ answer_of s (x, y) rest
      by_first (Some k) e =
          let within = sound.within x k e in
          let whole : first (s.breaks (x, y)) ≡ Some k = first_front m (a.breaks x) _ k within e in
          answered_front k m n ((b x).value y) rest ((b x).spell y ++ rest) within (length-append ((b x).spell y) rest)
          ∙ ap (λ o. answered o (m + n) ((b x).value y) rest) (sym whole)
          ∙ ap (λ i. answered (first (s.breaks (x, y))) i ((b x).value y) rest) (sym size)
      by_first None e =
          let none = none_first (a.breaks x) e in
          let whole : first (s.breaks (x, y)) ≡ moved m (first ((b x).breaks y)) = ap (λ l. first (l ++ behind m ((b x).breaks y))) none ∙ first_behind m ((b x).breaks y) in
          eb none
          ∙ answered_behind (first ((b x).breaks y)) m n ((b x).value y) rest
          ∙ ap (λ o. answered o (m + n) ((b x).value y) rest) (sym whole)
          ∙ ap (λ i. answered (first (s.breaks (x, y))) i ((b x).value y) rest) (sym size)

  -- where a is refused, so is the whole
  left_front : (ra : Reader V) (rb : V → Reader W) (ts : List Terminal) (e : Fault) → IsLeft a ra ts e → IsLeft s (then_read ra rb) ts e
  left_front ra rb ts e left = record {
    passed = left.passed;
    others = left.others;
    site = left.site;
    wanted = left.wanted;
    parts = left.parts;
    place = left.place;
    lacks = left.lacks;
    is_site = left.is_site;
    wants = λ t w. let x = left.wants t w in let r = pair_begins left.passed (x.0, t ∷ x.1, x.2) in (r.0, x.1 ++ (b x.0).spell (b x.0).any, r.2);
    refuses = λ us lacks. ap (λ r. go_on r rb) (left.refuses us lacks);
    fine = pair_fine left.passed left.fine;
    starts = left.starts;
  }

  broken_front : (ra : Reader V) (rb : V → Reader W) (ts : List Terminal) (e : Fault) → Sound a → IsBroken a ra ts e → IsBroken s (then_read ra rb) ts e
  broken_front ra rb ts e sound broken = record {
    passed = broken.passed;
    token = broken.token;
    others = broken.others;
    kind = broken.kind;
    parts = broken.parts;
    place = broken.place;
    refuses = λ q. ap (λ r. go_on r rb) (broken.refuses q);
    broken =
        let x = broken.broken in
        let r = front_broken sound broken.passed broken.kind (x.0, broken.token ∷ x.1, x.2, x.3) in
        (r.0, x.1 ++ (b x.0).spell (b x.0).any, r.2, r.3);
  }

  -- where a is read and b behind it is refused, so is the whole
  module _ (ra : Reader V) (rb : V → Reader W) (ts : List Terminal) (sound : Sound a) (complete : Complete a ra) (v : V) (rest : List Terminal) (read : IsRead a ts v rest) where
    -- a reads the same tree where the same follows
    a_reads : (us : List Terminal) → Lacks (a.blocks read.tree) us → then_read ra rb (a.spell read.tree ++ us) ≡ rb v us
    a_reads us lacks =
        ap (λ r. go_on r rb) (complete read.tree us lacks)
        ∙ ap (λ l. go_on (answered (first l) (length (a.spell read.tree)) (a.value read.tree) us) rb) read.kept
        ∙ ap (λ w. rb w us) read.means

    whole_parts : (p us : List Terminal) → rest ≡ p ++ us → ts ≡ (a.spell read.tree ++ p) ++ us
    whole_parts p us e = read.parts ∙ ap (λ l. a.spell read.tree ++ l) e ∙ sym (append_assoc (a.spell read.tree) p us)

    ends_at : (p us : List Terminal) → rest ≡ p ++ us → Lacks (a.blocks read.tree) (p ++ us)
    ends_at p us e = subst (λ l. Lacks (a.blocks read.tree) l) e read.ends

    read_back : (w : W) (more : List Terminal) → IsRead (b read.tree) rest w more → IsRead s ts w more
    read_back w more back = record {
      tree = (read.tree, back.tree);
      parts = whole_parts _ more back.parts;
      kept = ap (λ l. l ++ behind (length (a.spell read.tree)) ((b read.tree).breaks back.tree)) read.kept ∙ ap (λ l. behind (length (a.spell read.tree)) l) back.kept;
      means = back.means;
      ends = Lacks-both (λ t. a.blocks read.tree t && is_nil ((b read.tree).spell back.tree)) _ more (Lacks-behind (a.blocks read.tree) ((b read.tree).spell back.tree) more (ends_at _ more back.parts)) back.ends;
    }

    left_back : (e : Fault) → IsLeft (b read.tree) (rb v) rest e → IsLeft s (then_read ra rb) ts e
    left_back e back = record {
      passed = a.spell read.tree ++ back.passed;
      others = back.others;
      site = back.site;
      wanted = λ t. (a.blocks read.tree t && is_nil back.passed) || back.wanted t;
      parts = whole_parts back.passed back.others back.parts;
      place = back.place;
      lacks = Lacks-both (λ t. a.blocks read.tree t && is_nil back.passed) back.wanted back.others (Lacks-behind (a.blocks read.tree) back.passed back.others (ends_at back.passed back.others back.parts)) back.lacks;
      is_site = IsSite-wider back.site (λ t. a.blocks read.tree t && is_nil back.passed) back.wanted (Fits-where back.passed back.site (a.blocks read.tree) (λ none. subst (λ s. Fits s (a.blocks read.tree)) (sym (back.starts none)) (join.fits read.tree))) back.is_site;
      wants = λ t w. ⊎_elim
          (λ front. let both = and_parts _ _ front in front_extends sound read.tree back.passed t both.0 (nil_of back.passed both.1))
          (λ after. let y = back.wants t after in let r = behind_begins read.tree back.passed (y.0, t ∷ y.1, y.2) in (r.0, y.1, r.2))
          (or_cases _ _ w);
      refuses = λ us lacks.
          let parts = Lacks-parts (λ t. a.blocks read.tree t && is_nil back.passed) back.wanted us lacks in
          ap (then_read ra rb) (append_assoc (a.spell read.tree) back.passed us)
          ∙ a_reads (back.passed ++ us) (Lacks-front (a.blocks read.tree) back.passed back.others us (ends_at back.passed back.others back.parts) parts.0)
          ∙ back.refuses us parts.1;
      fine = behind_fine read.tree back.passed read.kept back.fine;
      starts = λ none. let nils = both_nil (a.spell read.tree) back.passed none in back.starts nils.1 ∙ join.starts read.tree nils.0;
    }

    broken_back : (e : Fault) → IsBroken (b read.tree) (rb v) rest e → IsBroken s (then_read ra rb) ts e
    broken_back e back = record {
      passed = a.spell read.tree ++ back.passed;
      token = back.token;
      others = back.others;
      kind = back.kind;
      parts = whole_parts back.passed (back.token ∷ back.others) back.parts;
      place = back.place;
      refuses = λ q.
          ap (then_read ra rb) (append_assoc (a.spell read.tree) back.passed (back.token ∷ q))
          ∙ a_reads (back.passed ++ back.token ∷ q) (Lacks-same (a.blocks read.tree) back.passed back.token back.others q (ends_at back.passed (back.token ∷ back.others) back.parts))
          ∙ back.refuses q;
      broken =
          let y = back.broken in
          let r = behind_begins read.tree back.passed (y.0, back.token ∷ y.1, y.2) in
          let m = length (a.spell read.tree) in
          let is : first (s.breaks (read.tree, y.0)) ≡ Some (length (a.spell read.tree ++ back.passed), back.kind) =
          ap (λ l. first (l ++ behind m ((b read.tree).breaks y.0))) read.kept
          ∙ first_behind m ((b read.tree).breaks y.0)
          ∙ ap (moved m) y.3
          ∙ ap (λ n. Some (n, back.kind)) (sym (length-append (a.spell read.tree) back.passed)) in
          (r.0, y.1, r.2, is);
    }

    said_back : (r : Answer W) → Said (b read.tree) (rb v) rest r → Said s (then_read ra rb) ts r
    said_back (Ok w) back = read_back w.0 w.1 back
    said_back (Err e) (inl left) = inl (left_back e left)
    said_back (Err e) (inr broken) = inr (broken_back e broken)

  -- what is said of both, where it is said of a at the list, and of b behind what a reads
  pub Said-joined :
      (ra : Reader V) (rb : V → Reader W) (ts : List Terminal) → Sound a → Complete a ra
      → ((v : V) (rest : List Terminal) (read : IsRead a ts v rest) → Said (b read.tree) (rb v) rest (rb v rest))
      → (r : Answer V) → Said a ra ts r → Said s (then_read ra rb) ts (go_on r rb)
  Said-joined ra rb ts sound complete back (Ok r) read = said_back ra rb ts sound complete r.0 r.1 read (rb r.0 r.1) (back r.0 r.1 read)
  Said-joined ra rb ts sound complete back (Err e) (inl left) = inl (left_front ra rb ts e left)
  Said-joined ra rb ts sound complete back (Err e) (inr broken) = inr (broken_front ra rb ts e sound broken)

  -- the tokens behind a tree of a: they don't go on with it
  pub Lacks-joined : (x : X) (y : Y x) (rest : List Terminal) → Lacks (s.blocks (x, y)) rest → Lacks (a.blocks x) ((b x).spell y ++ rest)
  Lacks-joined x y rest lacks = by_spelling ((b x).spell y) refl
    where
      by_spelling : (l : List Terminal) → (b x).spell y ≡ l → Lacks (a.blocks x) (l ++ rest)
      by_spelling [] e = subst (λ l. Lacks (a.blocks x) (l ++ rest)) e (Lacks-front (a.blocks x) ((b x).spell y) [] rest (subst (λ l. Lacks (a.blocks x) (l ++ [])) (sym e) tt) (Lacks-parts (λ t. a.blocks x t && is_nil ((b x).spell y)) ((b x).blocks y) rest lacks).0)
      by_spelling (t ∷ q) e = join.apart x y t q e

  -- a, and then what its value asks for; the second is lawful at least where the first breaks nothing
  pub Lawful-then : (ra : Reader V) (rb : V → Reader W) → Lawful a ra → ((x : X) → Sound (b x)) → ((x : X) → a.breaks x ≡ [] → Lawful (b x) (rb (a.value x))) → Lawful s (then_read ra rb)
  Lawful-then ra rb la sb lb = record {
    sound = Sound-joined la.sound sb;
    complete = λ z rest lacks. complete_pair ra rb z.0 z.1 rest la.sound
        (la.complete z.0 ((b z.0).spell z.1 ++ rest) (Lacks-joined z.0 z.1 rest lacks))
        (λ kept. (lb z.0 kept).complete z.1 rest (Lacks-parts (λ t. a.blocks z.0 t && is_nil ((b z.0).spell z.1)) ((b z.0).blocks z.1) rest lacks).1);
    said = λ ts. Said-joined ra rb ts la.sound la.complete
        (λ v rest read. subst (λ w. Said (b read.tree) (rb w) rest (rb w rest)) read.means ((lb read.tree read.kept).said rest))
        (ra ts) (la.said ts);
  }

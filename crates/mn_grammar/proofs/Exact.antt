-- From the law of a reader to what is promised of it: each list has one verdict, and the reader answers it.
use Rattle.std.proofs.Common.{◌≡◌, ◌⊎◌, ℕ, suc, ◌+◌, ◌-◌, ◌<◌, ◌≤◌, Bool, true, false, cond, not, ◌&&◌, List, [], ◌∷◌, ◌++◌, length, Option, Some, None, Ok, Err, Result, refl, sym, ap, ◌∙◌, subst, inl, inr, ⊎_elim, arith, append-nil, append_assoc, length-append}
use Rattle.std.proofs.lemmas.Bool.{cases_order, and_parts, and_from, not_from_false}
use Rattle.mn_lexer.specs.Terminals.{Terminal}
use Rattle.mn_lexer.specs.declared.LexFault.{LexFault}
use Rattle.mn_grammar.specs.Tokens.{is_head, is_mark, is_known_head}
use Rattle.mn_grammar.specs.Kinds.{rank}
use Rattle.mn_grammar.specs.Places.{Break, Has, Begins, WantsName, WantsNumber, IsOther, IsKind, Why, ended, grammar, condition, IsRefusedAt, IsText}
use Rattle.mn_grammar.specs.Reading.{Answer, Reader, Site, MarksOnly, Free, Fixed, Mixed, refused, fault_at, kind_at, finished, renamed, named, whole}
use Rattle.mn_grammar.specs.Lawful.{Spec, IsOpen, IsSite, Lacks, a_name, a_number, first, answered, answer_of, IsLeft, IsBroken, Said, Lawful}
use Rattle.mn_grammar.specs.Laws.{Reads, Refuses, IsVerdict, IsWhole, IsExact}
use Rattle.mn_grammar.proofs.Breaks.{IsFirst, first_is, same_kind, NotBefore}
use Rattle.mn_grammar.proofs.Sites.{head_no_mark}
use Rattle.mn_grammar.proofs.Refusals.{same_fault, ok_no_fault, read_alone, none_begins, none_ends}
use Rattle.mn_grammar.specs.declared.Fault.{Fault}
use Rattle.mn_grammar.specs.declared.Kind.{Kind}
use Rattle.mn_grammar.specs.declared.Kind.TheVariants.{Unsupported, Syntax}

-- of two ways to cut a list the shorter front is a front of the longer, with a token behind it
pub record IsShorter (p q : List Terminal) (us : List Terminal) : Type 0 where
  pub token : Terminal
  pub between : List Terminal
  pub others : List Terminal
  pub longer : q ≡ p ++ token ∷ between
  pub behind : us ≡ token ∷ others

cut_twice : (p us q vs : List Terminal) → p ++ us ≡ q ++ vs → length p < length q → IsShorter p q us
cut_twice [] us [] vs e less = absurd (omega arith)
cut_twice [] us (t ∷ q) vs e less = record { token = t; between = q; others = q ++ vs; longer = refl; behind = e }
cut_twice (t ∷ p) us [] vs e less = absurd (omega arith)
cut_twice (t ∷ p) us (u ∷ q) vs e less =
    let heads : t ≡ u = cc in
    let tails : p ++ us ≡ q ++ vs = cc in
    let r = cut_twice p us q vs tails (omega arith) in
    record { token = r.token; between = r.between; others = r.others; longer = λ i. sym heads i ∷ r.longer i; behind = r.behind }

same_cut : (p us q vs : List Terminal) → p ++ us ≡ q ++ vs → length p ≡ length q → (p ≡ q) × (us ≡ vs)
same_cut [] us [] vs e size = (refl, e)
same_cut [] us (t ∷ q) vs e size = absurd (omega arith)
same_cut (t ∷ p) us [] vs e size = absurd (omega arith)
same_cut (t ∷ p) us (u ∷ q) vs e size =
    let heads : t ≡ u = cc in
    let tails : p ++ us ≡ q ++ vs = cc in
    let r = same_cut p us q vs tails (omega arith) in
    (λ i. heads i ∷ r.0 i, r.1)

module _ {X : Type 0} (spell : X → List Terminal) (breaks : X → List Break) (stop : Option LexFault) where
  -- what begins with p and a token begins so
  begun : (p : List Terminal) (t : Terminal) (x : X) (q : List Terminal) → spell x ≡ p ++ t ∷ q → Begins spell breaks (p ++ t ∷ [])
  begun p t x q e = (x, q, e ∙ sym (append_assoc p (t ∷ []) q))

  begins_with : (p : List Terminal) (t : Terminal) → Begins spell breaks (p ++ t ∷ []) → (x : X) × (q : List Terminal) × (spell x ≡ p ++ t ∷ q)
  begins_with p t (x, q, e) = (x, q, e ∙ append_assoc p (t ∷ []) q)

  -- where a tree goes on with a token and breaks nothing up to it, no cause stands at that token
  none_at : (p us : List Terminal) (kind : Kind) → Why spell breaks stop p us kind → (t : Terminal) (q : List Terminal) → us ≡ t ∷ q → (x : X) (r : List Terminal) → spell x ≡ p ++ t ∷ r → ((other : Kind) → Has (breaks x) (length p) other → ⊥) → ⊥
  none_at p _ kind (ended none) t q e x r spelled kept = absurd cc
  none_at p _ kind (grammar u us k none is) t q e x r spelled kept =
      let same : t ≡ u = cc in
      none (begun p u x r (spelled ∙ ap (λ w. p ++ w ∷ r) same))
  none_at p _ kind (condition u us k begins all) t q e x r spelled kept =
      let same : t ≡ u = cc in
      kept k (all x r (spelled ∙ ap (λ w. p ++ w ∷ r) same)).0

  text_kept : (x : X) → breaks x ≡ [] → (place : ℕ) (other : Kind) → Has (breaks x) place other → ⊥
  text_kept x kept place other has = subst (λ l. Has l place other) kept has

  why_no_text : (ts p us : List Terminal) (kind : Kind) → ts ≡ p ++ us → Why spell breaks stop p us kind → (x : X) → ts ≡ spell x → breaks x ≡ [] → ⊥
  why_no_text ts p _ kind parts (ended none) x spelled kept = none x (sym spelled ∙ parts ∙ append-nil p)
  why_no_text ts p _ kind parts (grammar u us k none is) x spelled kept = none (begun p u x us (sym spelled ∙ parts))
  why_no_text ts p _ kind parts (condition u us k begins all) x spelled kept = text_kept x kept (length p) k (all x us (sym spelled ∙ parts)).0

  -- of two refusals of a list neither comes first
  none_earlier : (ts : List Terminal) (at other : ℕ) (kind another : Kind) (a : IsRefusedAt spell breaks stop ts at kind) (b : IsRefusedAt spell breaks stop ts other another) → length a.passed < length b.passed → ⊥
  none_earlier ts at other kind another a b less =
      let cut = cut_twice a.passed a.others b.passed b.others (sym a.parts ∙ b.parts) less in
      let x = b.fine in
      let spelled : spell x.0 ≡ a.passed ++ cut.token ∷ (cut.between ++ x.1) = x.2 ∙ ap (λ l. l ++ x.1) cut.longer ∙ append_assoc a.passed (cut.token ∷ cut.between) x.1 in
      none_at a.passed a.others kind a.why cut.token cut.others cut.behind x.0 (cut.between ++ x.1) spelled (λ k has. let later = x.3 (length a.passed) k has in omega arith)

  one_kind : (p : List Terminal) (t : Terminal) (k l : Kind) → IsKind spell breaks p t k → IsKind spell breaks p t l → k ≡ l
  one_kind p t Unsupported Unsupported a b = refl
  one_kind p t Unsupported Syntax a b = absurd (b a)
  one_kind p t Syntax Unsupported a b = absurd (a b)
  one_kind p t Syntax Syntax a b = refl
  one_kind p t Unsupported _ a b = absurd b
  one_kind p t Syntax _ a b = absurd b
  one_kind p t _ _ a b = absurd a

  one_why : (p us vs : List Terminal) (k l : Kind) → us ≡ vs → Why spell breaks stop p us k → Why spell breaks stop p vs l → k ≡ l
  one_why p _ _ k l e (ended none) (ended other) = refl
  one_why p _ _ k l e (ended none) (grammar u q m never is) = absurd cc
  one_why p _ _ k l e (ended none) (condition u q m begins all) = absurd cc
  one_why p _ _ k l e (grammar t r j none is) (ended other) = absurd cc
  one_why p _ _ k l e (grammar t r j none is) (grammar u q m never also) =
      let same : t ≡ u = cc in
      one_kind p t j m is (subst (λ w. IsKind spell breaks p w m) (sym same) also)
  one_why p _ _ k l e (grammar t r j none is) (condition u q m begins all) =
      let same : t ≡ u = cc in
      absurd (none (subst (λ w. Begins spell breaks (p ++ w ∷ [])) (sym same) begins))
  one_why p _ _ k l e (condition t r j begins all) (ended other) = absurd cc
  one_why p _ _ k l e (condition t r j begins all) (grammar u q m never also) =
      let same : t ≡ u = cc in
      absurd (never (subst (λ w. Begins spell breaks (p ++ w ∷ [])) same begins))
  one_why p _ _ k l e (condition t r j begins all) (condition u q m begins_too every) =
      let same : t ≡ u = cc in
      let x = begins_with p t begins in
      let a = all x.0 x.1 x.2 in
      let b = every x.0 x.1 (x.2 ∙ ap (λ w. p ++ w ∷ x.1) same) in
      let below = a.1 m b.0 in
      let above = b.1 j a.0 in
      same_kind j m (omega arith)

  pub one_refusal : (ts : List Terminal) (at other : ℕ) (kind another : Kind) → IsRefusedAt spell breaks stop ts at kind → IsRefusedAt spell breaks stop ts other another → (at ≡ other) × (kind ≡ another)
  one_refusal ts at other kind another a b = ⊎_elim
      (λ size.
      let cut = same_cut a.passed a.others b.passed b.others (sym a.parts ∙ b.parts) size in
      (a.place ∙ size ∙ sym b.place, one_why a.passed a.others b.others kind another cut.1 a.why (subst (λ p. Why spell breaks stop p b.others another) (sym cut.0) b.why)))
      (λ apart. absurd (⊎_elim (none_earlier ts at other kind another a b) (none_earlier ts other at another kind b a) apart))
      (cases_order (length a.passed) (length b.passed))

  pub no_text_refused : (ts : List Terminal) (x : X) (at : ℕ) (kind : Kind) → IsText spell breaks ts x → IsRefusedAt spell breaks stop ts at kind → ⊥
  no_text_refused ts x at kind text a = why_no_text ts a.passed a.others kind a.parts a.why x text.spelled text.kept

-- A refusal by the grammar has the kind of its site.
module _ {X : Type 0} (spell : X → List Terminal) (breaks : X → List Break) (p : List Terminal) (wanted : Terminal → Bool) (wants : (t : Terminal) → wanted t ≡ true → Begins spell breaks (p ++ t ∷ [])) (others : (t : Terminal) → wanted t ≡ false → Begins spell breaks (p ++ t ∷ []) → ⊥) where
  open_wants : IsOpen wanted → WantsName spell breaks p ⊎ WantsNumber spell breaks p
  open_wants (inl names) = inl (λ t w e. wants t (names t w e))
  open_wants (inr numbers) = inr (λ t e. wants t (numbers t e))

  not_other : (t : Terminal) → IsOpen wanted → IsOther spell breaks p t → ⊥
  not_other t is other = ⊎_elim other.no_name other.no_number (open_wants is)

  no_site : (t : Terminal) (q : List Terminal) (s : Site) → IsSite s wanted → wanted t ≡ false → IsKind spell breaks p t (kind_at s (t ∷ q))
  no_site t q MarksOnly only lacks = λ unsupported. ⊎_elim
      (λ strange. others strange.wanted.0 (only strange.wanted.0 (head_no_mark strange.wanted.0 strange.wanted.1)) strange.wanted.2)
      (λ other. others other.wanted.0 (only other.wanted.0 other.wanted.1) other.wanted.2)
      unsupported
  no_site t q Free is lacks = λ unsupported. ⊎_elim
      (λ strange. others strange.wanted.0 (is.0 strange.wanted.0 strange.wanted.1) strange.wanted.2)
      (not_other t is.1)
      unsupported
  no_site t q Fixed is lacks = by_mark (is_mark t) refl
    where
      by_mark : (b : Bool) → is_mark t ≡ b → IsKind spell breaks p t (cond b Syntax Unsupported)
      by_mark true e = λ unsupported. ⊎_elim
          (λ strange. let no_mark = head_no_mark t strange.stands in absurd cc)
          (λ other. let no_mark = other.stands in absurd cc)
          unsupported
      by_mark false e = inr (record {
        stands = e;
        wanted = (is.1.0, is.1.1, wants is.1.0 is.1.2);
        no_name = λ names. others a_name is.0.0 (names a_name _ refl);
        no_number = λ numbers. others a_number is.0.1 (numbers a_number refl);
      })
  no_site t q Mixed is lacks = by_strange (is_head t && not (is_known_head t)) refl
    where
      by_strange : (b : Bool) → (is_head t && not (is_known_head t)) ≡ b → IsKind spell breaks p t (cond b Unsupported Syntax)
      by_strange true e = inl (record {
        stands = (and_parts _ _ e).0;
        unknown = not_true (is_known_head t) (and_parts _ _ e).1;
        wanted = (is.0.0, is.0.1, wants is.0.0 is.0.2);
      })
        where
          not_true : (b : Bool) → not b ≡ true → b ≡ false
          not_true true f = sym f
          not_true false f = refl
      by_strange false e = λ unsupported. ⊎_elim
          (λ strange. let is_strange = and_from (is_head t) (not (is_known_head t)) strange.stands (not_from_false (is_known_head t) strange.unknown) in absurd cc)
          (not_other t is.1)
          unsupported

module _ {X V : Type 0} (s : Spec X V) (stop : Option LexFault) (read : Reader V) (law : Lawful s read) (alone : IsWhole s) where
  lacks_all : (x : X) (us : List Terminal) → Lacks (s.blocks x) us
  lacks_all x [] = tt
  lacks_all x (t ∷ us) = alone x t

  -- behind a text that breaks nothing nothing goes on
  none_behind : (x : X) → s.breaks x ≡ [] → (t : Terminal) → Begins s.spell s.breaks (s.spell x ++ t ∷ []) → ⊥
  none_behind x kept t begins =
      let y = begins_with s.spell s.breaks stop (s.spell x) t begins in
      let same : answer_of s x (t ∷ y.1) ≡ answer_of s y.0 [] =
      sym (law.complete x (t ∷ y.1) (alone x t)) ∙ ap read (sym y.2) ∙ read_alone s read law.complete y.0 in
      let left : ◌≡◌ {A = Answer V} (Ok (s.value x, t ∷ y.1)) (answer_of s y.0 []) = ap (λ l. answered (first l) (length (s.spell x)) (s.value x) (t ∷ y.1)) (sym kept) ∙ same in
      by_first y.0 (s.value x) t y.1 (first (s.breaks y.0)) left
    where
      left_of : Answer V → List Terminal
      left_of (Ok r) = r.1
      left_of (Err e) = []

      by_first : (y : X) (v : V) (t : Terminal) (q : List Terminal) (o : Option Break) → ◌≡◌ {A = Answer V} (Ok (v, t ∷ q)) (answered o (length (s.spell y)) (s.value y) []) → ⊥
      by_first y v t q None same = let none : t ∷ q ≡ [] = ap left_of same in absurd cc
      by_first y v t q (Some k) same = cc

  -- what an answer to a whole list says
  abbrev pub Settled : List Terminal → Result V Fault → Type 0
  Settled ts (Ok v) = Reads s ts v
  Settled ts (Err e) = (at : ℕ) × (at + e.left ≡ length ts) × Refuses s stop ts at e.kind

  module _ (ts : List Terminal) (e : Fault) (left : IsLeft s read ts e) where
    left_wants : (t : Terminal) → left.wanted t ≡ true → Begins s.spell s.breaks (left.passed ++ t ∷ [])
    left_wants t w = let x = left.wants t w in begun s.spell s.breaks stop left.passed t x.0 x.1 x.2

    left_others : (t : Terminal) → left.wanted t ≡ false → Begins s.spell s.breaks (left.passed ++ t ∷ []) → ⊥
    left_others t lacks begins =
        let x = begins_with s.spell s.breaks stop left.passed t begins in
        none_begins s read law.sound law.complete ts e left t lacks x.0 x.1 x.2

    left_at : (us : List Terminal) → us ≡ left.others → Settled ts (Err (renamed stop (refused left.site us)))
    left_at [] others = (
      length left.passed,
      sym (ap length (left.parts ∙ ap (λ l. left.passed ++ l) (sym others)) ∙ length-append left.passed []),
      record {
        passed = left.passed;
        others = [];
        parts = left.parts ∙ ap (λ l. left.passed ++ l) (sym others);
        place = refl;
        fine = left.fine;
        why = ended (λ x ends. none_ends s read law.sound law.complete ts e left x ends);
      },
    )
    left_at (t ∷ q) others = (
      length left.passed,
      sym (ap length (left.parts ∙ ap (λ l. left.passed ++ l) (sym others)) ∙ length-append left.passed (t ∷ q)),
      record {
        passed = left.passed;
        others = t ∷ q;
        parts = left.parts ∙ ap (λ l. left.passed ++ l) (sym others);
        place = refl;
        fine = left.fine;
        why =
            let lacks = subst (λ l. Lacks left.wanted l) (sym others) left.lacks in
            grammar t q (kind_at left.site (t ∷ q)) (left_others t lacks) (no_site s.spell s.breaks left.passed left.wanted left_wants left_others t q left.site left.is_site lacks);
      },
    )

    left_settled : Settled ts (Err (renamed stop e))
    left_settled = subst (λ f. Settled ts (Err (renamed stop f))) (sym left.place) (left_at left.others refl)

  module _ (ts : List Terminal) (e : Fault) (is : IsBroken s read ts e) where
    -- each tree that begins so breaks that condition first
    all_break : (x : X) (q : List Terminal) → s.spell x ≡ is.passed ++ is.token ∷ q → first (s.breaks x) ≡ Some (length is.passed, is.kind)
    all_break x q spelled =
        at (first (s.breaks x)) refl (sym (read_alone s read law.complete x) ∙ ap read spelled ∙ is.refuses q)
      where
        size : length (s.spell x) ≡ length is.passed + suc (length q)
        size = ap length spelled ∙ length-append is.passed (is.token ∷ q)

        at : (o : Option Break) → first (s.breaks x) ≡ o → ◌≡◌ {A = Answer V} (answered o (length (s.spell x)) (s.value x) []) (Err (fault_at (is.token ∷ q) is.kind)) → o ≡ Some (length is.passed, is.kind)
        at None f same = absurd (ok_no_fault _ _ same)
        at (Some k) f same =
            let fault = same_fault _ _ same in
            let left : length (s.spell x) - k.0 + 0 ≡ suc (length q) = ap (λ (e : Fault). e.left) fault in
            let kinds : k.1 ≡ is.kind = ap (λ (e : Fault). e.kind) fault in
            let within = law.sound.within x k f in
            let place : k.0 ≡ length is.passed = omega (arith, size) in
            λ i. Some (place i, kinds i)

    first_of : (x : X) (q : List Terminal) → s.spell x ≡ is.passed ++ is.token ∷ q → IsFirst (s.breaks x) (Some (length is.passed, is.kind))
    first_of x q spelled = subst (λ o. IsFirst (s.breaks x) o) (all_break x q spelled) (first_is (s.breaks x))

    not_below : (place : ℕ) (kind : Kind) → NotBefore (length is.passed, is.kind) place kind → length is.passed ≤ place
    not_below place kind (inl less) = omega arith
    not_below place kind (inr same) = let at = same.0 in omega arith

    lesser : (kind : Kind) → NotBefore (length is.passed, is.kind) (length is.passed) kind → rank is.kind ≤ rank kind
    lesser kind (inl less) = absurd (omega arith)
    lesser kind (inr same) = same.1

    broken_settled : Settled ts (Err (renamed stop e))
    broken_settled = subst (λ f. Settled ts (Err (renamed stop f))) (sym is.place) (
      length is.passed,
      sym (ap length is.parts ∙ length-append is.passed (is.token ∷ is.others)),
      record {
        passed = is.passed;
        others = is.token ∷ is.others;
        parts = is.parts;
        place = refl;
        fine = let x = is.broken in (x.0, is.token ∷ x.1, x.2, λ place kind has. not_below place kind ((first_of x.0 x.1 x.2).1 place kind has));
        why = condition is.token is.others is.kind (let x = is.broken in begun s.spell s.breaks stop is.passed is.token x.0 x.1 x.2)
            (λ x q spelled. let f = first_of x q spelled in (f.0, λ other has. lesser other (f.1 (length is.passed) other has)));
      },
    )

  answer_settled : (ts : List Terminal) (r : Answer V) → Said s read ts r → Settled ts (named stop (finished r))
  answer_settled ts (Ok (v, [])) is = (is.tree, record { spelled = is.parts ∙ append-nil (s.spell is.tree); kept = is.kept }, is.means)
  answer_settled ts (Ok (v, t ∷ q)) is = (
    length (s.spell is.tree),
    sym (ap length is.parts ∙ length-append (s.spell is.tree) (t ∷ q)),
    record {
      passed = s.spell is.tree;
      others = t ∷ q;
      parts = is.parts;
      place = refl;
      fine = (is.tree, [], sym (append-nil (s.spell is.tree)), λ place kind has. absurd (text_kept s.spell s.breaks stop is.tree is.kept place kind has));
      why = grammar t q Syntax (none_behind is.tree is.kept t) (λ unsupported. ⊎_elim
          (λ strange. none_behind is.tree is.kept strange.wanted.0 strange.wanted.2)
          (λ other. none_behind is.tree is.kept other.wanted.0 other.wanted.2)
          unsupported);
    },
  )
  answer_settled ts (Err e) (inl left) = left_settled ts e left
  answer_settled ts (Err e) (inr broken) = broken_settled ts e broken

  -- each list has a verdict, and the reader answers it
  pub settled : (ts : List Terminal) → Settled ts (whole stop read ts)
  settled ts = answer_settled ts (read ts) (law.said ts)

  read_text : (ts : List Terminal) (v : V) → Reads s ts v → whole stop read ts ≡ Ok v
  read_text ts v (x, text, means) =
      ap (λ l. named stop (finished (read l))) text.spelled
      ∙ ap (λ r. named stop (finished r)) (read_alone s read law.complete x)
      ∙ ap (λ l. named stop (finished (answered (first l) (length (s.spell x)) (s.value x) []))) text.kept
      ∙ ap (λ w. Ok w) means

  refused_text : (ts : List Terminal) (at : ℕ) (kind : Kind) → Refuses s stop ts at kind → (r : Result V Fault) → Settled ts r → (e : Fault) × (r ≡ Err e) × (at + e.left ≡ length ts) × (e.kind ≡ kind)
  refused_text ts at kind refusal (Ok v) is = absurd (no_text_refused s.spell s.breaks stop ts is.0 at kind is.1 refusal)
  refused_text ts at kind refusal (Err e) is =
      let one = one_refusal s.spell s.breaks stop ts is.0 at e.kind kind is.2 refusal in
      (e, refl, subst (λ n. n + e.left ≡ length ts) one.0 is.1, one.1)

  pub exact : IsExact s stop (whole stop read)
  exact = record {
    reads = λ ts v e. subst (λ r. Settled ts r) e (settled ts);
    refuses = λ ts f e. subst (λ r. Settled ts r) e (settled ts);
    all_read = read_text;
    all_refused = λ ts at kind refusal. refused_text ts at kind refusal (whole stop read ts) (settled ts);
  }

  verdict_of : (ts : List Terminal) (r : Result V Fault) → Settled ts r → (q : Result V (ℕ × Kind)) × IsVerdict s stop ts q
  verdict_of ts (Ok v) is = (Ok v, is)
  verdict_of ts (Err e) is = (Err (is.0, e.kind), is.2)

  pub some_verdict : (ts : List Terminal) → (q : Result V (ℕ × Kind)) × IsVerdict s stop ts q
  some_verdict ts = verdict_of ts (whole stop read ts) (settled ts)

  pub one_verdict : (ts : List Terminal) (r q : Result V (ℕ × Kind)) → IsVerdict s stop ts r → IsVerdict s stop ts q → r ≡ q
  one_verdict ts (Ok v) (Ok w) a b = let e : ◌≡◌ {A = Result V Fault} (Ok v) (Ok w) = sym (read_text ts v a) ∙ read_text ts w b in let same : v ≡ w = cc in ap (λ x. Ok x) same
  one_verdict ts (Ok v) (Err e) a b = absurd (no_text_refused s.spell s.breaks stop ts a.0 e.0 e.1 a.1 b)
  one_verdict ts (Err e) (Ok v) a b = absurd (no_text_refused s.spell s.breaks stop ts b.0 e.0 e.1 b.1 a)
  one_verdict ts (Err e) (Err f) a b = let one = one_refusal s.spell s.breaks stop ts e.0 f.0 e.1 f.1 a b in λ i. Err (one.0 i, one.1 i)

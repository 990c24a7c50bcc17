-- From the law of the reader of whole texts to what is promised of it, in bytes.
use Rattle.std.proofs.Common.{◌≡◌, ◌⊎◌, ℕ, ◌+◌, ◌-◌, ◌<◌, ◌≤◌, Bool, true, false, ◌||◌, List, [], ◌∷◌, ◌++◌, length, map, drop, pos, codes, Option, None, Ok, Err, Result, refl, sym, ap, ◌∙◌, subst, inl, inr, ⊎_elim, arith, append-nil}
use Rattle.std.specs.Prelude.{IsOkAnd}
use Rattle.std.specs.List.{list_any}
use Rattle.std.specs.Str.{bytes_eq}
use Rattle.std.proofs.lemmas.Bool.{cases_Bool, cases_lt, MatchBool-at_true, MatchBool-at_false}
use Rattle.std.proofs.lemmas.List.{length-map}
use Rattle.mn_lexer.specs.Terminals.{Terminal, word, number, terminal, token_of}
use Rattle.mn_lexer.specs.Reading.{bytes_of, is_end, Cuts, IsLexed}
use Rattle.mn_lexer.specs.declared.Token.{Token}
use Rattle.mn_lexer.specs.declared.TokenKind.{TokenKind}
use Rattle.mn_lexer.specs.declared.TokenKind.TheVariants as kind
use Rattle.mn_lexer.specs.declared.LexFault.{LexFault}
use Rattle.mn_lexer.proofs.Readings.{one_reading_of}
use Rattle.mn_grammar.specs.Tokens.{is_the_head}
use Rattle.mn_grammar.specs.Places.{IsText, IsRefusedAt}
use Rattle.mn_grammar.specs.Reading.{Answer, whole, finished, named, renamed}
use Rattle.mn_grammar.specs.Lawful.{IsRead, Said}
use Rattle.mn_grammar.specs.declared.Fault.{Fault}
use Rattle.mn_model.specs.Problem.{Problem, nothing}
use Rattle.mn_model.specs.declared.limits.TheConstants.{TEXT_BYTES}
use Rattle.mn_model.specs.declared.refusal.Refusal.{Refusal}
use Rattle.mn_model.specs.declared.refusal.Refusal.TheVariants as refusals
use Rattle.mn_model.specs.declared.refusal.Which.TheVariants.{Text}
use Rattle.mn_cursor.specs.Heads.{head_token}
use Rattle.mn_cursor.specs.Progress.{Progress, nothing_asked, rest, end_of, byte_at, refusal_at, refusal_of, IsTold}
use Rattle.mn_asking.specs.Search as asks
use Rattle.mn_decls.specs.TupleLists.{TupleList, spell_list, spell_lists}
use Rattle.mn_decls.specs.Variables.{Entry, spell_entry, spell_declarations}
use Rattle.mn_cursor.specs.declared.heads.Head.TheVariants.{End}
use Rattle.mn_language.specs.Constraints as constrains
use Rattle.mn_language.specs.Texts.{Section, variables, tuple_lists, search, constraints, head_before, spell_entries, spell_sections, spell_text, breaks_text, text_spec, Reads, IsRefusedWithin, IsRefused, IsVerdict}
use Rattle.mn_language.specs.WholeTexts.{text_at, Answers}
use Rattle.mn_language.proofs.TextLaw.{text_law, text_is_exact}
use Rattle.mn_language.proofs.Lexable.{some_tokens}

-- 1. The head that ends a text is among the tokens of each
abbrev has_end : List Terminal → Bool
has_end ts = list_any (is_the_head (codes "**EOF**")) ts

or_true : (b : Bool) → b || true ≡ true
or_true true = refl
or_true false = refl

end_behind : (xs ys : List Terminal) → has_end ys ≡ true → has_end (xs ++ ys) ≡ true
end_behind [] ys e = e
end_behind (x ∷ xs) ys e = ap (λ b. is_the_head (codes "**EOF**") x || b) (end_behind xs ys e) ∙ or_true (is_the_head (codes "**EOF**") x)

end_before : (xs ys : List Terminal) → has_end xs ≡ true → has_end (xs ++ ys) ≡ true
end_before [] ys e = cc
end_before (x ∷ xs) ys e = first (is_the_head (codes "**EOF**") x) (has_end xs) (has_end (xs ++ ys)) e (λ later. end_before xs ys later)
  where
    first : (b c d : Bool) → b || c ≡ true → (c ≡ true → d ≡ true) → b || d ≡ true
    first true c d e then = refl
    first false c d e then = then e

declarations_end : (es : List Entry) → has_end (spell_declarations es End) ≡ true
declarations_end [] = refl
declarations_end (e ∷ es) = end_behind (spell_entry e) (spell_declarations es End) (declarations_end es)

lists_end : (ls : List TupleList) → has_end (spell_lists ls End) ≡ true
lists_end [] = refl
lists_end (l ∷ ls) = end_behind (spell_list l) (spell_lists ls End) (lists_end ls)

search_ends : (items : List asks.Item) → has_end (asks.spell_section items End) ≡ true
search_ends [] = refl
search_ends (i ∷ items) = end_behind (asks.spell_item i) (asks.spell_section items End) (search_ends items)

constraints_end : (cs : List constrains.Constraint) → has_end (constrains.spell_section cs End) ≡ true
constraints_end [] = refl
constraints_end (c ∷ cs) = end_behind (constrains.spell_constraint c) (constrains.spell_section cs End) (constraints_end cs)

entries_end : (s : Section) → has_end (spell_entries s End) ≡ true
entries_end (variables es) = declarations_end es
entries_end (tuple_lists ls) = lists_end ls
entries_end (search items) = search_ends items
entries_end (constraints cs) = constraints_end cs

sections_end : (s : Section) (ss : List Section) → has_end (spell_sections (s ∷ ss)) ≡ true
sections_end s [] = end_before (spell_entries s End) [] (entries_end s)
sections_end s (x ∷ xs) = end_behind (spell_entries s (head_before x)) (spell_sections (x ∷ xs)) (sections_end x xs)

text_ends : (ss : List Section) → has_end (spell_text ss) ≡ true
text_ends [] = refl
text_ends (s ∷ ss) = end_behind (word (codes "MINION") ∷ number (pos 3) ∷ head_token (head_before s) ∷ []) (spell_sections (s ∷ ss)) (sections_end s ss)

-- and it is the last of a text's tokens, and nothing else ends them
ends_so : (k : TokenKind) (bs : List ℕ) → is_the_head (codes "**EOF**") (terminal k bs) ≡ true → bytes_eq bs (codes "**EOF**") ≡ true
ends_so kind.Head bs e = e
ends_so kind.Word bs e = cc
ends_so kind.Number bs e = cc
ends_so kind.Mark bs e = cc

nothing_behind : (xs ys : List Terminal) → [] ≡ xs ++ ys → ys ≡ []
nothing_behind [] ys e = sym e
nothing_behind (x ∷ xs) ys e = cc

not_first : (b c : Bool) → b || c ≡ true → (b ≡ true → ⊥) → c ≡ true
not_first true c e never = absurd (never refl)
not_first false c e never = e

ends_there : (text : List ℕ) (at : ℕ) (tokens : List Token) (stop : Option LexFault) (xs ys : List Terminal) → Cuts text at tokens stop → map (token_of text) tokens ≡ xs ++ ys → has_end xs ≡ true → (ys ≡ []) × (stop ≡ None)
ends_there text at tokens stop [] ys cut e ends = cc
ends_there text at [] stop (x ∷ xs) ys cut e ends = cc
ends_there text at (t ∷ ts) stop (x ∷ xs) ys cut e ends =
    let same : token_of text t ≡ x = cc in
    let others : map (token_of text) ts ≡ xs ++ ys = cc in
    ⊎_elim
    (λ last.
    let is = MatchBool-at_true _ _ last cut.1 in
    (nothing_behind xs ys (ap (map (token_of text)) (sym is.0) ∙ others), is.1))
    (λ goes_on.
    ends_there text (t.at + t.len) ts stop xs ys (MatchBool-at_false _ _ goes_on cut.1) others
    (not_first (is_the_head (codes "**EOF**") x) (has_end xs) ends
    (λ it. let so = ends_so t.kind (bytes_of text t) (ap (is_the_head (codes "**EOF**")) same ∙ it) in let no = goes_on in absurd cc)))
    (cases_Bool (is_end text t))

-- 2. What a result says of a text
told_cases : {V : Type 0} (c : Progress) (r : Refusal) (answer : Answer V) → IsTold c r answer → (r ≡ refusals.NoMemory) ⊎ ((e : Fault) × (answer ≡ Err e) × (refusal_of c e ≡ r))
told_cases c refusals.NoMemory answer told = inl refl
told_cases c (refusals.Lex at) answer told = inr told
told_cases c (refusals.NumberRange at) answer told = inr told
told_cases c (refusals.Syntax at) answer told = inr told
told_cases c (refusals.Name at) answer told = inr told
told_cases c (refusals.Shape at) answer told = inr told
told_cases c (refusals.EmptyDomain at) answer told = inr told
told_cases c (refusals.Limit which at) answer told = inr told
told_cases c (refusals.Unsupported at) answer told = inr told

no_both : {V : Type 0} (r : Result V Fault) (v : V) (e : Fault) → r ≡ Ok v → r ≡ Err e → ⊥
no_both r v e ok err = cc

same_value : {V : Type 0} (r : Result V Fault) (v w : V) → r ≡ Ok v → r ≡ Ok w → v ≡ w
same_value {V = V} r v w a b = let e : ◌≡◌ {A = Result V Fault} (Ok v) (Ok w) = sym a ∙ b in cc

same_fault : {V : Type 0} (r : Result V Fault) (e f : Fault) → r ≡ Err e → r ≡ Err f → e ≡ f
same_fault {V = V} r e f a b = let same : ◌≡◌ {A = Result V Fault} (Err e) (Err f) = sym a ∙ b in cc

-- at its first token all are left
pub rest_begun : (text : List ℕ) (tokens : List Token) (stop : Option LexFault) → rest (record { text = text; tokens = tokens; stop = stop; left = length tokens; problem = nothing; asked = nothing_asked }) ≡ map (token_of text) tokens
unfolding rest
rest_begun text tokens stop = let none : length tokens - length tokens ≡ 0 = omega arith in ap (λ n. map (token_of text) (drop n tokens)) none

module _ (text : List ℕ) (size : length text ≤ TEXT_BYTES) (tokens : List Token) (stop : Option LexFault) (lexed : IsLexed text tokens stop) where
  abbrev seen : List Terminal
  seen = map (token_of text) tokens

  abbrev begun : Progress
  begun = record { text = text; tokens = tokens; stop = stop; left = length tokens; problem = nothing; asked = nothing_asked }

  abbrev verdict : Result Problem Fault
  verdict = whole stop text_at seen

  is_read : (p : Problem) (us : List Terminal) → text_at seen ≡ Ok (p, us) → IsRead text_spec seen p us
  is_read p us e = subst (λ r. Said text_spec text_at seen r) e (text_law.said seen)

  pub reads_so : (p : Problem) (us : List Terminal) → text_at seen ≡ Ok (p, us) → Reads text p
  reads_so p us e =
      let is = is_read p us e in
      let ends = ends_there text 0 tokens stop (spell_text is.tree) us lexed is.parts (text_ends is.tree) in
      record {
        size = size;
        tokens = tokens;
        lexed = subst (λ s. IsLexed text tokens s) ends.1 lexed;
        sections = is.tree;
        is_text = record { spelled = is.parts ∙ ap (λ l. spell_text is.tree ++ l) ends.0 ∙ append-nil (spell_text is.tree); kept = is.kept };
        means = is.means;
      }

  verdict_of : (p : Problem) (us : List Terminal) → text_at seen ≡ Ok (p, us) → verdict ≡ Ok p
  verdict_of p us e =
      let is = is_read p us e in
      let ends = ends_there text 0 tokens stop (spell_text is.tree) us lexed is.parts (text_ends is.tree) in
      ap (λ r. named stop (finished r)) e ∙ ap (λ l. named stop (finished (Ok (p, l)))) ends.0

  verdict_err : (e : Fault) → text_at seen ≡ Err e → verdict ≡ Err (renamed stop e)
  verdict_err e is = ap (λ r. named stop (finished r)) is

  -- the place of a fault, by the tokens that were passed
  place_of : (at left : ℕ) → at + left ≡ length seen → length tokens - left ≡ at
  place_of at left e = let all = length-map tokens (token_of text) in omega arith

  pub refused_so : (e : Fault) → text_at seen ≡ Err e → IsRefusedWithin text (refusal_of begun e)
  refused_so e is =
      let r = (text_is_exact stop).refuses seen (renamed stop e) (verdict_err e is) in
      record {
        size = size;
        tokens = tokens;
        stop = stop;
        lexed = lexed;
        at = r.0;
        kind = (renamed stop e).kind;
        is_refused = r.2;
        told = ap (λ n. refusal_at (renamed stop e).kind (byte_at (drop n tokens) (end_of text stop))) (sym (place_of r.0 e.left r.1));
      }

  -- the text stands for an instance: the reader answers it
  pub verdict_reads : (p : Problem) → Reads text p → verdict ≡ Ok p
  verdict_reads p is =
      let same = one_reading_of text is.tokens tokens None stop is.lexed lexed in
      (text_is_exact stop).all_read seen p (is.sections, subst (λ ts. IsText spell_text breaks_text (map (token_of text) ts) is.sections) same.0 is.is_text, is.means)

  -- and so it is with a refusal
  pub verdict_refuses : (r : Refusal) → IsRefusedWithin text r → (f : Fault) × (verdict ≡ Err f) × (refusal_at f.kind (byte_at (drop (length tokens - f.left) tokens) (end_of text stop)) ≡ r)
  verdict_refuses r is =
      let same = one_reading_of text is.tokens tokens is.stop stop is.lexed lexed in
      let refusal : IsRefusedAt spell_text breaks_text stop seen is.at is.kind =
      subst (λ ts. IsRefusedAt spell_text breaks_text stop (map (token_of text) ts) is.at is.kind) same.0
      (subst (λ s. IsRefusedAt spell_text breaks_text s (map (token_of text) is.tokens) is.at is.kind) same.1 is.is_refused) in
      let f = (text_is_exact stop).all_refused seen is.at is.kind refusal in (
        f.0,
        f.1,
        (λ i. refusal_at (f.3 i) (byte_at (drop (place_of is.at (f.0).left f.2 i) tokens) (end_of text stop)))
            ∙ (λ i. refusal_at is.kind (byte_at (drop is.at (sym same.0 i)) (end_of text (sym same.1 i))))
            ∙ is.told,
      )

  pub reads_clause : (p : Problem) → Answers begun (Ok p) (text_at seen) → Reads text p
  reads_clause p is = reads_so p is.0 is.1

  pub accepted_clause : (result : Result Problem Refusal) → Answers begun result (text_at seen) → (p : Problem) → Reads text p → (result ≡ Err refusals.NoMemory) ⊎ IsOkAnd result (λ i. i ≡ p)
  accepted_clause (Ok q) is p reads = inr (same_value verdict q p (verdict_of q is.0 is.1) (verdict_reads p reads))
  accepted_clause (Err r) is p reads = ⊎_elim
      (λ none. inl (ap (λ x. Err x) none))
      (λ told. absurd (no_both verdict p (renamed stop told.0) (verdict_reads p reads) (verdict_err told.0 told.1)))
      (told_cases begun r (text_at seen) is)

  pub refused_clause : (r : Refusal) → IsTold begun r (text_at seen) → (r ≡ refusals.NoMemory) ⊎ IsRefused text r
  refused_clause r is = ⊎_elim
      (λ none. inl none)
      (λ told. inr (inr (subst (λ x. IsRefusedWithin text x) told.2 (refused_so told.0 told.1))))
      (told_cases begun r (text_at seen) is)

  within : (r : Refusal) → IsRefused text r → IsRefusedWithin text r
  within r (inl long) = absurd (let more = long.0 in omega (arith, size))
  within r (inr is) = is

  pub refuses_clause : (result : Result Problem Refusal) → Answers begun result (text_at seen) → (e : Refusal) → IsRefused text e → (result ≡ Err e) ⊎ (result ≡ Err refusals.NoMemory)
  refuses_clause (Ok q) is e refused =
      let f = verdict_refuses e (within e refused) in
      absurd (no_both verdict q f.0 (verdict_of q is.0 is.1) f.1)
  refuses_clause (Err r) is e refused = ⊎_elim
      (λ none. inr (ap (λ x. Err x) none))
      (λ told.
      let f = verdict_refuses e (within e refused) in
      let same : renamed stop told.0 ≡ f.0 = same_fault verdict (renamed stop told.0) f.0 (verdict_err told.0 told.1) f.1 in
      inl (ap (λ x. Err x)
      (sym told.2
      ∙ ap (λ (x : Fault). refusal_at x.kind (byte_at (drop (length tokens - x.left) tokens) (end_of text stop))) same
      ∙ f.2)))
      (told_cases begun r (text_at seen) is)

  -- what the code finds at the first token
  pub begun_told : (c : Progress) (r : Refusal) → c ≡ begun → IsTold c r (text_at (rest c)) → IsTold begun r (text_at seen)
  begun_told c r is tells =
      subst (λ ts. IsTold begun r (text_at ts)) (rest_begun text tokens stop) (subst (λ (x : Progress). IsTold x r (text_at (rest x))) is tells)

  pub begun_read : (c : Progress) (p : Problem) (us : List Terminal) → c ≡ begun → text_at (rest c) ≡ Ok (p, us) → Answers begun (Ok p) (text_at seen)
  begun_read c p us is reads = (us, ap text_at (sym (rest_begun text tokens stop)) ∙ ap (λ (x : Progress). text_at (rest x)) (sym is) ∙ reads)

  -- 3. The verdict on a text, by its tokens
  pub verdict_same : (r q : Result Problem Refusal) → IsVerdict text r → IsVerdict text q → r ≡ q
  verdict_same (Ok p) (Ok q) a b = ap (λ x. Ok x) (same_value verdict p q (verdict_reads p a) (verdict_reads q b))
  verdict_same (Ok p) (Err e) a b = let f = verdict_refuses e (within e b) in absurd (no_both verdict p f.0 (verdict_reads p a) f.1)
  verdict_same (Err e) (Ok q) a b = let f = verdict_refuses e (within e a) in absurd (no_both verdict q f.0 (verdict_reads q b) f.1)
  verdict_same (Err e) (Err d) a b =
      let f = verdict_refuses e (within e a) in
      let g = verdict_refuses d (within d b) in
      let same : f.0 ≡ g.0 = same_fault verdict f.0 g.0 f.1 g.1 in
      ap (λ x. Err x)
      (sym f.2
      ∙ ap (λ (x : Fault). refusal_at x.kind (byte_at (drop (length tokens - x.left) tokens) (end_of text stop))) same
      ∙ g.2)

  some_of : (r : Answer Problem) → text_at seen ≡ r → (v : Result Problem Refusal) × IsVerdict text v
  some_of (Ok (p, us)) e = (Ok p, reads_so p us e)
  some_of (Err e) is = (Err (refusal_of begun e), inr (refused_so e is))

  pub verdict_some : (v : Result Problem Refusal) × IsVerdict text v
  verdict_some = some_of (text_at seen) refl

-- 4. The verdict on any text
long_verdict : (text : List ℕ) → TEXT_BYTES < length text → (r : Result Problem Refusal) → IsVerdict text r → r ≡ Err (refusals.Limit Text TEXT_BYTES)
long_verdict text long (Ok p) is = absurd (let size = is.size in omega arith)
long_verdict text long (Err e) (inl too_long) = ap (λ x. Err x) too_long.1
long_verdict text long (Err e) (inr is) = absurd (let size = is.size in omega arith)

pub one_verdict : (text : List ℕ) (r q : Result Problem Refusal) → IsVerdict text r → IsVerdict text q → r ≡ q
one_verdict text r q a b = ⊎_elim
    (λ long. long_verdict text long r a ∙ sym (long_verdict text long q b))
    (λ size. let t = some_tokens text in verdict_same text size t.0 t.1 t.2 r q a b)
    (cases_lt TEXT_BYTES (length text))

pub some_verdict : (text : List ℕ) → (r : Result Problem Refusal) × IsVerdict text r
some_verdict text = ⊎_elim
    (λ long. (Err (refusals.Limit Text TEXT_BYTES), inl (long, refl)))
    (λ size. let t = some_tokens text in verdict_some text size t.0 t.1 t.2)
    (cases_lt TEXT_BYTES (length text))

pub same_instance : (text : List ℕ) (p q : Problem) → Reads text p → Reads text q → p ≡ q
same_instance text p q a b = let same : ◌≡◌ {A = Result Problem Refusal} (Ok p) (Ok q) = one_verdict text (Ok p) (Ok q) a b in cc

-- 5. What the code answers to a text
-- one that is too long is refused as that
pub long_accepts : (text : List ℕ) → TEXT_BYTES < length text → (result : Result Problem Refusal) (p : Problem) → Reads text p → (result ≡ Err refusals.NoMemory) ⊎ IsOkAnd result (λ i. i ≡ p)
long_accepts text long result p reads = absurd (let size = reads.size in omega (arith, long))

pub long_refused : (text : List ℕ) → TEXT_BYTES < length text → (refusals.Limit Text TEXT_BYTES ≡ refusals.NoMemory) ⊎ IsRefused text (refusals.Limit Text TEXT_BYTES)
long_refused text long = inr (inl (long, refl))

pub long_refuses : (text : List ℕ) → TEXT_BYTES < length text → (e : Refusal) → IsRefused text e → ◌≡◌ {A = Result Problem Refusal} (Err (refusals.Limit Text TEXT_BYTES)) (Err e) ⊎ ◌≡◌ {A = Result Problem Refusal} (Err (refusals.Limit Text TEXT_BYTES)) (Err refusals.NoMemory)
long_refuses text long e is = inl (sym (long_verdict text long (Err e) is))

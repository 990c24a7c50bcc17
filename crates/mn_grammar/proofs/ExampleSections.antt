-- A third small language: sections in any order, each of items of its own, up to `**EOF**`. The items of one begin with
-- a word, those of the other with a name, so that an unknown word is refused with one kind here and another there.
use Rattle.std.proofs.Common.{◌≡◌, ◌⊎◌, ℕ, ℤ, true, false, List, [], ◌∷◌, codes, pos, Option, Some, None, is_some, Ok, Err, Result, refl, ap, inl, inr}
use Rattle.std.proofs.lemmas.Bool.{or_from, and_left}
use Rattle.mn_lexer.specs.Terminals.{Terminal, word, number, head}
use Rattle.mn_grammar.specs.Tokens.{Name, name_of}
use Rattle.mn_grammar.specs.Reading.{Reader, Fixed, Mixed, Turn, goes_on, is_done, which_of, which_either, either_of, one, one_of, name_at, number_at, word_at, ret, then_read, loop, whole}
use Rattle.mn_grammar.specs.Bodies.{body_at}
use Rattle.mn_grammar.specs.Lawful.{Spec, Lawful}
use Rattle.mn_grammar.specs.Laws.{IsExact}
use Rattle.mn_grammar.proofs.Sites.{Fits-nothing, Fits-none}
use Rattle.mn_grammar.proofs.Leaves.{leaf, Lawful-one}
use Rattle.mn_grammar.proofs.Words.{name_token, name_class, a_name_leaf, a_number_leaf, Lawful-name, Lawful-number, Lawful-word}
use Rattle.mn_grammar.proofs.Classes.{set_class, either_token, either_value, either_class, Lawful-one_of}
use Rattle.mn_grammar.proofs.Steps.{valued, Lawful-valued, token_then, Lawful-token_then, Lawful-leaf_then}
use Rattle.mn_grammar.proofs.Joins.{joined}
use Rattle.mn_grammar.proofs.Loops.{Turns, last, more, turns, Loop, Lawful-loop}
use Rattle.mn_grammar.proofs.Sections.{firsts, body_spec, Lawful-body, going, Lawful-going, ending, Lawful-ending, body_solid, body_blocks}
use Rattle.mn_grammar.proofs.Exact.{exact}
use Rattle.mn_lexer.specs.declared.LexFault.{LexFault}
use Rattle.mn_grammar.specs.declared.Fault.{Fault}
use Rattle.mn_grammar.specs.declared.Kind.{Kind}
use Rattle.mn_grammar.specs.declared.Kind.TheVariants as kinds

-- 1. Heads, and what begins an item of each section
data Head : Type 0 where
  vars lists eof : Head

abbrev head_token : Head → Terminal
head_token vars = head (codes "**VARIABLES**")
head_token lists = head (codes "**TUPLELIST**")
head_token eof = head (codes "**EOF**")

abbrev heads : List Head
heads = vars ∷ lists ∷ eof ∷ []

head_known : (h : Head) → which_of head_token heads (head_token h) ≡ Some h
head_known vars = refl
head_known lists = refl
head_known eof = refl

abbrev bool_token : Unit {0} → Terminal
bool_token u = word (codes "BOOL")

abbrev no_break : {W : Type 0} → W → Option Kind
no_break w = None

-- 2. The readers
abbrev first_var : Unit {0} → Reader (Unit {0} ⊎ Head)
first_var s = one Fixed (which_either (which_of bool_token (tt ∷ [])) (which_of head_token heads)) no_break

abbrev first_list : Unit {0} → Reader (List ℕ ⊎ Head)
first_list s = one Mixed (which_either name_of (which_of head_token heads)) no_break

abbrev rest_var : Unit {0} → Unit {0} → Reader (Unit {0})
rest_var s w = then_read (name_at no_break) (λ n. ret tt)

abbrev rest_list : Unit {0} → List ℕ → Reader (Unit {0})
rest_list s w = then_read (number_at no_break) (λ n. ret tt)

abbrev next_head : Unit {0} → Head → Head
next_head s h = h

abbrev section_at : Head → Reader (Turn Head (Unit {0}))
section_at vars = then_read (body_at first_var rest_var next_head tt) (λ h. ret (goes_on h))
section_at lists = then_read (body_at first_list rest_list next_head tt) (λ h. ret (goes_on h))
section_at eof = ret (is_done tt)

abbrev text_at : Reader (Unit {0})
text_at = then_read (word_at (codes "MINION") None) (λ u. then_read (one_of Fixed head_token heads no_break) (λ h. loop section_at h))

-- 3. The bodies
abbrev var_item : Unit {0} → Unit {0} → Spec Name (Unit {0})
var_item s u = valued (λ n. tt) (a_name_leaf no_break)

abbrev list_item : Unit {0} → Name → Spec ℤ (Unit {0})
list_item s n = valued (λ z. tt) (a_number_leaf no_break)

abbrev var_tokens : Unit {0} ⊎ Head → Terminal
var_tokens = either_token bool_token head_token

abbrev list_tokens : Name ⊎ Head → Terminal
list_tokens = either_token name_token head_token

var_law : (s : Unit {0}) → Lawful (firsts Fixed var_tokens (λ u. u) (λ s. no_break) eof var_item next_head s) (first_var s)
var_law s = Lawful-one Fixed var_tokens (either_value (λ u. u) (λ h. h)) (which_either (which_of bool_token (tt ∷ [])) (which_of head_token heads)) no_break (inr eof) (record {
  class = either_class bool_token (λ u. u) (which_of bool_token (tt ∷ [])) head_token (λ h. h) (which_of head_token heads)
      (set_class bool_token (tt ∷ []) (λ u. refl)) (set_class head_token heads head_known) (elim [ vars ↦ refl | lists ↦ refl | eof ↦ refl ]);
  is_site = ((refl, refl), (word (codes "BOOL"), refl, refl));
  kinds = λ w k e. cc;
})

names_wanted : (t : Terminal) (w : List ℕ) → name_of t ≡ Some w → is_some (which_either name_of (which_of head_token heads) t) ≡ true
names_wanted t w e = ap (λ o. is_some (either_of o (which_of head_token heads t))) e

list_law : (s : Unit {0}) → Lawful (firsts Mixed list_tokens (λ n. n.bytes) (λ s. no_break) eof list_item next_head s) (first_list s)
list_law s = Lawful-one Mixed list_tokens (either_value (λ n. n.bytes) (λ h. h)) (which_either name_of (which_of head_token heads)) no_break (inr eof) (record {
  class = either_class name_token (λ n. n.bytes) name_of head_token (λ h. h) (which_of head_token heads)
      name_class (set_class head_token heads head_known) (elim [ vars ↦ refl | lists ↦ refl | eof ↦ refl ]);
  is_site = ((head (codes "**EOF**"), refl, refl), inl names_wanted);
  kinds = λ w k e. cc;
})

abbrev VarBody : Type 0
VarBody = Turns {S = Unit {0}} (λ z. (u : Unit {0}) × Name) (λ z. Head) (λ s p. tt) tt

abbrev ListBody : Type 0
ListBody = Turns {S = Unit {0}} (λ z. (n : Name) × ℤ) (λ z. Head) (λ s p. tt) tt

abbrev vars_spec : Spec VarBody Head
vars_spec = body_spec Fixed var_tokens (λ u. u) (λ s. no_break) eof var_item next_head tt

abbrev lists_spec : Spec ListBody Head
lists_spec = body_spec Mixed list_tokens (λ n. n.bytes) (λ s. no_break) eof list_item next_head tt

vars_law : Lawful vars_spec (body_at first_var rest_var next_head tt)
vars_law = Lawful-body Fixed var_tokens (λ u. u) (λ s. no_break) eof var_item next_head
    (record { apart = λ s a y x. refl; fits = λ s a y. Fits-nothing Fixed }) first_var rest_var var_law
    (λ s u. Lawful-valued (λ n. tt) (a_name_leaf no_break) (name_at no_break) (Lawful-name no_break (λ w k e. cc))) tt

lists_law : Lawful lists_spec (body_at first_list rest_list next_head tt)
lists_law = Lawful-body Mixed list_tokens (λ n. n.bytes) (λ s. no_break) eof list_item next_head
    (record { apart = λ s a y x. refl; fits = λ s a y. Fits-nothing Mixed }) first_list rest_list list_law
    (λ s n. Lawful-valued (λ z. tt) (a_number_leaf no_break) (number_at no_break) (Lawful-number no_break (λ z k e. cc))) tt

-- 4. The sections: which trees a turn has hangs on the head before it
abbrev Goes : Head → Type 0
Goes vars = VarBody
Goes lists = ListBody
Goes eof = ⊥

abbrev Ends : Head → Type 0
Ends vars = ⊥
Ends lists = ⊥
Ends eof = Unit {0}

abbrev turn : (h : Head) → Spec (Goes h ⊎ Ends h) (Turn Head (Unit {0}))
turn vars = going vars_spec
turn lists = going lists_spec
turn eof = ending Fixed tt

abbrev next : (h : Head) → Goes h → Head
next vars b = vars_spec.value b
next lists b = lists_spec.value b
next eof b = absurd b

abbrev done : (h : Head) → Ends h → Unit {0}
done h e = tt

abbrev some : (h : Head) → Turns Goes Ends next h
some vars = more (last eof) (last tt)
some lists = more (last eof) (last tt)
some eof = last tt

turn_goes : (h : Head) (g : Goes h) → (turn h).value (inl g) ≡ goes_on (next h g)
turn_goes vars g = refl
turn_goes lists g = refl
turn_goes eof g = absurd g

turn_ends : (h : Head) (e : Ends h) → (turn h).value (inr e) ≡ is_done (done h e)
turn_ends vars e = absurd e
turn_ends lists e = absurd e
turn_ends eof e = refl

turn_grows : (h : Head) (g : Goes h) → (turn h).spell (inl g) ≡ [] → ⊥
turn_grows vars g e = body_solid Fixed var_tokens (λ u. u) (λ s. no_break) eof var_item next_head tt g e
turn_grows lists g e = body_solid Mixed list_tokens (λ n. n.bytes) (λ s. no_break) eof list_item next_head tt g e
turn_grows eof g e = g

turn_blocks : (h : Head) (g : Goes h) (t : Terminal) → (turn h).blocks (inl g) t ≡ false
turn_blocks vars g t = body_blocks Fixed var_tokens (λ u. u) (λ s. no_break) eof var_item next_head tt g t
turn_blocks lists g t = body_blocks Mixed list_tokens (λ n. n.bytes) (λ s. no_break) eof list_item next_head tt g t
turn_blocks eof g t = absurd g

turn_last : (h : Head) (e : Ends h) (t : Terminal) → (turn h).blocks (inr e) t ≡ false
turn_last vars e t = absurd e
turn_last lists e t = absurd e
turn_last eof e t = refl

is_loop : Loop turn next done some
is_loop = record {
  goes = turn_goes;
  ends = turn_ends;
  grows = turn_grows;
  apart = λ h g gs t q e. turn_blocks h g t;
  fits = λ h g. Fits-none (turn (next h g)).start (turn_blocks h g);
  fits_last = λ h e. Fits-none (turn h).start (turn_last h e);
}

section_law : (h : Head) → Lawful (turn h) (section_at h)
section_law vars = Lawful-going vars_spec (body_at first_var rest_var next_head tt) vars_law
section_law lists = Lawful-going lists_spec (body_at first_list rest_list next_head tt) lists_law
section_law eof = Lawful-ending Fixed tt

abbrev sections_spec : (h : Head) → Spec (Turns Goes Ends next h) (Unit {0})
sections_spec h = turns turn next done some h

sections_law : (h : Head) → Lawful (sections_spec h) (loop section_at h)
sections_law h = Lawful-loop turn next done some is_loop section_at section_law h

-- 5. The text
abbrev text_spec : Spec ((h : Head) × Turns Goes Ends next h) (Unit {0})
text_spec = token_then Fixed (word (codes "MINION")) None (joined (leaf Fixed head_token (λ h. h) no_break eof) sections_spec)

text_law : Lawful text_spec text_at
text_law =
    let behind : Lawful (joined (leaf Fixed head_token (λ h. h) no_break eof) sections_spec) (then_read (one_of Fixed head_token heads no_break) (λ h. loop section_at h)) =
    Lawful-leaf_then Fixed head_token (λ h. h) no_break eof (one_of Fixed head_token heads no_break) sections_spec (λ h. loop section_at h)
    (Lawful-one_of Fixed head_token heads no_break eof head_known ((refl, refl), (head (codes "**EOF**"), refl, refl)) (λ h k e. cc)) sections_law in
    Lawful-token_then Fixed (word (codes "MINION")) None (word_at (codes "MINION") None) _ _ (Lawful-word (codes "MINION") None refl (λ k e. cc)) behind.sound (λ kept. behind)

sections_blocks : (h : Head) (gs : Turns Goes Ends next h) (t : Terminal) → (sections_spec h).blocks gs t ≡ false
sections_blocks h (last e) t = turn_last h e t
sections_blocks h (more g gs) t = or_from _ _ (and_left _ _ (turn_blocks h g t)) (sections_blocks (next h g) gs t)

example_is_exact : (stop : Option LexFault) → IsExact text_spec stop (whole stop text_at)
example_is_exact stop = exact text_spec stop text_at text_law (λ p t. sections_blocks p.0 p.1 t)

-- 6. And what it answers computes
abbrev answer : List Terminal → Result (Unit {0}) Fault
answer ts = whole None text_at (word (codes "MINION") ∷ ts)

sections : answer (head_token lists ∷ word (codes "t") ∷ number (pos 3) ∷ head_token vars ∷ word (codes "BOOL") ∷ word (codes "x") ∷ head_token eof ∷ []) ≡ Ok tt
unfolding word_at one_of loop body_at name_at number_at
sections = refl

a_word_in_variables : answer (head_token vars ∷ word (codes "BOLO") ∷ []) ≡ Err (record { left = 1; kind = kinds.Unsupported })
unfolding word_at one_of loop body_at name_at number_at
a_word_in_variables = refl

a_number_in_lists : answer (head_token lists ∷ number (pos 3) ∷ []) ≡ Err (record { left = 1; kind = kinds.Syntax })
unfolding word_at one_of loop body_at name_at number_at
a_number_in_lists = refl

a_head_in_lists : answer (head_token lists ∷ head (codes "**LIST**") ∷ []) ≡ Err (record { left = 1; kind = kinds.Unsupported })
unfolding word_at one_of loop body_at name_at number_at
a_head_in_lists = refl

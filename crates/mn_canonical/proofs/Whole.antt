-- The canonical text says the spelling of the instance's sections, so it is read as the instance.
use Rattle.std.proofs.Common.{◌≡◌, ◌≤◌, pos, false, List, [], ◌∷◌, ◌++◌, length, map, None, refl, sym, ap, ◌∙◌, subst, codes, arith, append_assoc}
use Rattle.std.specs.List.{flat_map}
use Rattle.std.proofs.lemmas.List.{append-nil}
use Rattle.mn_lexer.specs.Reading.{IsLexed}
use Rattle.mn_lexer.specs.Terminals.{Terminal, word, number, head, token_of}
use Rattle.mn_lexer.specs.declared.TokenKind.TheVariants as kind
use Rattle.mn_model.specs.Lawful.{IsLawful, IsLawfulCon}
use Rattle.mn_model.specs.Problem.{Problem, domains_of}
use Rattle.mn_model.specs.declared.limits.TheConstants.{TEXT_BYTES}
use Rattle.mn_cursor.specs.Heads.{head_token}
use Rattle.mn_cursor.specs.declared.heads.Head.{Head}
use Rattle.mn_cursor.specs.declared.heads.Head.TheVariants as heads
use Rattle.mn_asking.specs.Search as asks
use Rattle.mn_decls.specs.TupleLists.{spell_list, spell_lists}
use Rattle.mn_decls.specs.Variables.{spell_entry, declares, names, spell_declarations}
use Rattle.mn_language.specs.Constraints as constrains
use Rattle.mn_language.specs.Constraints.{spell_constraint}
use Rattle.mn_language.specs.Texts.{spell_text}
use Rattle.mn_pieces.specs.Pieces.{SpacedPiecesAreTokens, tokens_from}
use Rattle.mn_pieces.specs.Printed.{NumbersAreRead}
use Rattle.mn_sections.specs.Constraining.{constraint_of, sections_of}
use Rattle.mn_sections.specs.Law.{InstancesAreSaid}
use Rattle.mn_sections.specs.Trees.{declaration_of, naming_of, variables_of, tuple_list_of, search_of}
use Rattle.mn_canonical.specs.Canonical.{variables_section, tuples_section, search_section, constraint_line, constraints_section, canonical_text}
use Rattle.mn_canonical.specs.Declarations.{declaration_text, alias_text}
use Rattle.mn_canonical.specs.Law.{CanonicalTextsAreRead}
use Rattle.mn_canonical.specs.Tables.{tuple_list_text}
use Rattle.mn_canonical.proofs.Constraints.{says_constraint}
use Rattle.mn_canonical.proofs.Aliases.{says_alias}
use Rattle.mn_canonical.proofs.Lengths.{IsWritable, aliases_writable, IsWritableDecl, decls_writable, IsWritableTuples, tuples_writable}
use Rattle.mn_canonical.proofs.Listing.{both_lists, says_each}
use Rattle.mn_canonical.proofs.Saying.{IsSpelled, Says, says_as, says_both, says_closed, says_token, end_is_spelled}
use Rattle.mn_canonical.proofs.Searching.{says_search}
use Rattle.mn_canonical.proofs.Tokens.{says_word, says_space, says_line}
use Rattle.mn_canonical.proofs.Tuples.{says_tuple_list}
use Rattle.mn_canonical.proofs.Variables.{says_declaration}

-- 1. A section's entries, and the head behind them
closed_by : {X : Type 0} (spell : X → List Terminal) (section : List X → Head → List Terminal) → ((h : Head) → section [] h ≡ head_token h ∷ []) → ((x : X) (xs : List X) (h : Head) → section (x ∷ xs) h ≡ spell x ++ section xs h)
    → (xs : List X) (h : Head) → flat_map spell xs ++ head_token h ∷ [] ≡ section xs h
closed_by spell section none more [] h = sym (none h)
closed_by spell section none more (x ∷ xs) h =
    append_assoc (spell x) (flat_map spell xs) (head_token h ∷ []) ∙ ap (λ ts. spell x ++ ts) (closed_by spell section none more xs h) ∙ sym (more x xs h)

-- the heads, each on its line
variables_head : Says false (codes "**VARIABLES**\n") (head_token heads.Variables ∷ []) false
variables_head = says_closed (says_both (says_token kind.Head (codes "**VARIABLES**") (codes "VARIABLES", (omega arith, refl), refl) tt refl) says_line)

tuples_head : Says false (codes "**TUPLELIST**\n") (head_token heads.TupleList ∷ []) false
tuples_head = says_closed (says_both (says_token kind.Head (codes "**TUPLELIST**") (codes "TUPLELIST", (omega arith, refl), refl) tt refl) says_line)

search_head : Says false (codes "**SEARCH**\n") (head_token heads.Search ∷ []) false
search_head = says_closed (says_both (says_token kind.Head (codes "**SEARCH**") (codes "SEARCH", (omega arith, refl), refl) tt refl) says_line)

constraints_head : Says false (codes "**CONSTRAINTS**\n") (head_token heads.Constraints ∷ []) false
constraints_head = says_closed (says_both (says_token kind.Head (codes "**CONSTRAINTS**") (codes "CONSTRAINTS", (omega arith, refl), refl) tt refl) says_line)

-- four sections, each behind its head, and the head that ends the text: the heads may be taken with what is before them
joined : (a b c d e : Terminal) (ws xs ys zs : List Terminal)
    → (((a ∷ ws ++ b ∷ xs) ++ c ∷ ys) ++ d ∷ zs) ++ e ∷ [] ≡ a ∷ ((ws ++ b ∷ []) ++ ((xs ++ c ∷ []) ++ ((ys ++ d ∷ []) ++ ((zs ++ e ∷ []) ++ []))))
joined a b c d e ws xs ys zs = simp (append_assoc, append-nil)

module _ (read : NumbersAreRead) (p : Problem) (lawful : IsLawful p) (short : length (canonical_text p) ≤ TEXT_BYTES) where
  -- 2. What each section says
  abbrev line : List Terminal
  line = word (codes "MINION") ∷ number (pos 3) ∷ []

  abbrev entries : List Terminal
  entries = flat_map spell_entry (variables_of p)

  abbrev lists : List Terminal
  lists = flat_map spell_list (map tuple_list_of p.tuples)

  abbrev items : List Terminal
  items = flat_map asks.spell_item (search_of p)

  abbrev cons : List Terminal
  cons = flat_map spell_constraint (map (constraint_of p) p.cons)

  first_line : Says false (codes "MINION 3\n") line false
  first_line = says_both (says_both (says_both (says_word (codes "MINION") (refl, refl)) says_space) (says_token kind.Number (codes "3") (omega arith, refl) (omega arith) refl)) says_line

  says_variables : Says false (variables_section p) (head_token heads.Variables ∷ entries) false
  says_variables =
      says_as (sym (append_assoc (codes "**VARIABLES**\n") (flat_map declaration_text p.decls) (flat_map (alias_text p) p.aliases))) refl
      (says_both variables_head (both_lists spell_entry (map (λ d. declares (declaration_of d)) p.decls) (map (λ a. names (naming_of p a)) p.aliases)
      (says_each spell_entry declaration_text (λ d. declares (declaration_of d)) IsWritableDecl (λ d is. says_declaration read d is.lawful is.few) p.decls (decls_writable p.decls lawful.decls (omega (arith, lawful.few_variables))))
      (says_each spell_entry (alias_text p) (λ a. names (naming_of p a)) (IsWritable p) (λ a is. says_alias read p lawful a is.lawful is.few) p.aliases (aliases_writable p lawful short))))

  says_tuples : Says false (tuples_section p) (head_token heads.TupleList ∷ lists) false
  says_tuples =
      says_both tuples_head (says_each spell_list tuple_list_text tuple_list_of IsWritableTuples (λ t is. says_tuple_list read t is.lawful is.few is.short) p.tuples
      (tuples_writable p.tuples lawful.tuples (omega (arith, lawful.few_cells))))

  says_how : Says false (search_section p) (head_token heads.Search ∷ items) false
  says_how = says_both search_head (says_search read p lawful)

  says_constraints : Says false (constraints_section p) (head_token heads.Constraints ∷ cons) false
  says_constraints =
      says_both constraints_head (says_each spell_constraint (constraint_line p) (constraint_of p) (IsLawfulCon (domains_of p.decls) p.tuples)
      (λ c is. says_as refl (append-nil (spell_constraint (constraint_of p c))) (says_both (says_constraint read p lawful c is) says_line)) p.cons lawful.cons)

  -- 3. So the whole text is spelled as the sections
  sections_spelled : ((((line ++ head_token heads.Variables ∷ entries) ++ head_token heads.TupleList ∷ lists) ++ head_token heads.Search ∷ items) ++ head_token heads.Constraints ∷ cons) ++ head_token heads.End ∷ []
      ≡ spell_text (sections_of p)
  sections_spelled =
      let first = closed_by spell_entry spell_declarations (λ h. refl) (λ x xs h. refl) (variables_of p) heads.TupleList in
      let second = closed_by spell_list spell_lists (λ h. refl) (λ x xs h. refl) (map tuple_list_of p.tuples) heads.Search in
      let third = closed_by asks.spell_item asks.spell_section (λ h. refl) (λ x xs h. refl) (search_of p) heads.Constraints in
      let last = closed_by spell_constraint constrains.spell_section (λ h. refl) (λ x xs h. refl) (map (constraint_of p) p.cons) heads.End in
      ap (λ ts. line ++ ts) (joined (head_token heads.Variables) (head_token heads.TupleList) (head_token heads.Search) (head_token heads.Constraints) (head_token heads.End) entries lists items cons)
      ∙ (λ i. line ++ head_token heads.Variables ∷ (first i ++ (second i ++ (third i ++ (last i ++ [])))))

  pub text_is_spelled : IsSpelled false (canonical_text p) (spell_text (sections_of p))
  unfolding canonical_text
  text_is_spelled =
      subst (λ ts. IsSpelled false (canonical_text p) ts) sections_spelled
      ((says_both (says_both (says_both (says_both first_line says_variables) says_tuples) says_how) says_constraints).go (codes "**EOF**\n") (head (codes "**EOF**") ∷ []) (end_is_spelled (codes "\n")))

-- 4. And it is read as the instance
pub canonical_texts : SpacedPiecesAreTokens → NumbersAreRead → InstancesAreSaid → CanonicalTextsAreRead
canonical_texts spaced read said p lawful short =
    let s = text_is_spelled read p lawful short in
    let ps = s.first ∷ s.others in
    let lexed = spaced ps s.behind s.spaced in
    record {
      size = short;
      tokens = tokens_from 0 ps;
      lexed = subst (λ text. IsLexed text (tokens_from 0 ps) None) (sym s.text) lexed.0;
      sections = sections_of p;
      is_text = record { spelled = ap (λ text. map (token_of text) (tokens_from 0 ps)) s.text ∙ lexed.1 ∙ s.tokens; kept = (said p lawful).kept };
      means = (said p lawful).means;
    }

-- What forms of constraint say.
use Rattle.std.proofs.Common.{◌≡◌, ℕ, ℤ, true, false, List, [], ◌∷◌, ◌++◌, map, refl, sym, ap, codes, append_assoc}
use Rattle.std.specs.Fmt.{signed_decimal}
use Rattle.std.specs.List.{AllByRecursion, flat_map}
use Rattle.std.proofs.lemmas.List.{append-nil}
use Rattle.mn_lexer.specs.Forms.{IsWord}
use Rattle.mn_lexer.specs.Terminals.{Terminal, word, mark}
use Rattle.mn_lexer.specs.declared.marks.Mark.TheVariants.{OpenRound, CloseRound, OpenCurly, CloseCurly, Comma}
use Rattle.mn_model.specs.Domain.{IsValue}
use Rattle.mn_grammar.specs.Lists.{spell_items, spell_maybe}
use Rattle.mn_grammar.specs.Rows.{Arguments}
use Rattle.mn_references.specs.Entries.{Entry, spell_entry}
use Rattle.mn_language.specs.Arguments.{Written, spell_number, spell_numbers, spell_range, spell_argument, spell_arguments}
use Rattle.mn_language.specs.Constraints.{Constraint, simple, ties, spell_constraint, spell_children}
use Rattle.mn_language.specs.Forms.{form_line, form_text as form_word}
use Rattle.mn_language.specs.declared.forms.Argument.{Argument}
use Rattle.mn_language.specs.declared.forms.Form.{Form}
use Rattle.mn_language.specs.declared.forms.Form.TheVariants.{Leaf as of_leaf, Gather as of_gather, Tie as of_tie}
use Rattle.mn_language.specs.declared.forms.Gather.{Gather}
use Rattle.mn_language.specs.declared.forms.Gather.TheVariants.{Or, And}
use Rattle.mn_language.specs.declared.forms.Leaf.{Leaf}
use Rattle.mn_language.specs.declared.forms.Leaf.TheVariants as form
use Rattle.mn_language.specs.declared.forms.Tie.{Tie}
use Rattle.mn_language.specs.declared.forms.Tie.TheVariants.{Reify, Reifyimply}
use Rattle.mn_pieces.specs.Printed.{NumbersAreRead}
use Rattle.mn_sections.specs.Constraining.{children_from, gathered}
use Rattle.mn_sections.specs.Trees.{maybe_items, items_from}
use Rattle.mn_canonical.specs.Constraints.{numbers_text, range_text, form_text, gathered_text}
use Rattle.mn_canonical.specs.Lists.{with_commas, braced}
use Rattle.mn_canonical.proofs.Saying.{Says, says_as, says_both, says_open, says_closed}
use Rattle.mn_canonical.proofs.Tokens.{says_word, says_mark}
use Rattle.mn_canonical.proofs.Listing.{AllSaid, comma_before, says_bracketed, says_braced}
use Rattle.mn_canonical.proofs.Numbers.{said_values}

-- 1. The words of forms are words
leaf_word : (f : Leaf) → IsWord (form_line f).written
leaf_word form.Eq = (refl, refl)
leaf_word form.Diseq = (refl, refl)
leaf_word form.Ineq = (refl, refl)
leaf_word form.Watchless = (refl, refl)
leaf_word form.Minuseq = (refl, refl)
leaf_word form.Abs = (refl, refl)
leaf_word form.Difference = (refl, refl)
leaf_word form.Product = (refl, refl)
leaf_word form.Div = (refl, refl)
leaf_word form.Modulo = (refl, refl)
leaf_word form.Max = (refl, refl)
leaf_word form.Min = (refl, refl)
leaf_word form.Sumleq = (refl, refl)
leaf_word form.Sumgeq = (refl, refl)
leaf_word form.Weightedsumleq = (refl, refl)
leaf_word form.Weightedsumgeq = (refl, refl)
leaf_word form.Watchsumleq = (refl, refl)
leaf_word form.Watchsumgeq = (refl, refl)
leaf_word form.Litsumgeq = (refl, refl)
leaf_word form.Element = (refl, refl)
leaf_word form.Watchelement = (refl, refl)
leaf_word form.ElementOne = (refl, refl)
leaf_word form.WatchelementOne = (refl, refl)
leaf_word form.Table = (refl, refl)
leaf_word form.Negativetable = (refl, refl)
leaf_word form.Alldiff = (refl, refl)
leaf_word form.Lexleq = (refl, refl)
leaf_word form.Lexless = (refl, refl)
leaf_word form.Watchvecneq = (refl, refl)
leaf_word form.Hamming = (refl, refl)
leaf_word form.Occurrence = (refl, refl)
leaf_word form.Occurrenceleq = (refl, refl)
leaf_word form.Occurrencegeq = (refl, refl)
leaf_word form.Nvalueleq = (refl, refl)
leaf_word form.WLiteral = (refl, refl)
leaf_word form.WNotliteral = (refl, refl)
leaf_word form.WInset = (refl, refl)
leaf_word form.WNotinset = (refl, refl)
leaf_word form.WInrange = (refl, refl)
leaf_word form.WNotinrange = (refl, refl)
leaf_word form.WInintervalset = (refl, refl)
leaf_word form.Always = (refl, refl)
leaf_word form.Never = (refl, refl)

pub is_word : (f : Form) → IsWord (form_word f)
is_word (of_leaf f) = leaf_word f
is_word (of_gather Or) = (refl, refl)
is_word (of_gather And) = (refl, refl)
is_word (of_tie Reify) = (refl, refl)
is_word (of_tie Reifyimply) = (refl, refl)

-- 2. Arguments, one text for each
abbrev pub SaidArguments : (row : List Argument) → Arguments Written row → List (List ℕ) → Type 0
SaidArguments [] a [] = Unit {0}
SaidArguments [] a (x ∷ xs) = ⊥
SaidArguments (k ∷ ks) a [] = ⊥
SaidArguments (k ∷ ks) a (x ∷ xs) = Says false x (spell_argument k a.0) true × SaidArguments ks a.1 xs

-- behind the first of them
said_others : (k : Argument) (ks : List Argument) (a : Arguments Written (k ∷ ks)) (x : List ℕ) (xs : List (List ℕ)) → SaidArguments (k ∷ ks) a (x ∷ xs)
    → Says false (x ++ (flat_map comma_before xs ++ codes ")")) (spell_arguments (k ∷ ks) a) false
said_others k [] a x [] said = says_both said.0 (says_mark CloseRound)
said_others k [] a x (y ∷ ys) said = absurd said.1
said_others k (l ∷ ks) a x [] said = absurd said.1
said_others k (l ∷ ks) a x (y ∷ ys) said =
    says_both said.0 (says_as (ap comma_before (sym (append_assoc y (flat_map comma_before ys) (codes ")")))) refl (says_both (says_mark Comma) (said_others l ks a.1 y ys said.1)))

says_arguments : (row : List Argument) (a : Arguments Written row) (xs : List (List ℕ)) → SaidArguments row a xs → Says false (with_commas xs ++ codes ")") (spell_arguments row a) false
says_arguments [] a [] said = says_closed (says_mark CloseRound)
says_arguments [] a (x ∷ xs) said = absurd said
says_arguments (k ∷ ks) a [] said = absurd said
says_arguments (k ∷ ks) a (x ∷ xs) said = says_as (sym (append_assoc x (flat_map comma_before xs) (codes ")"))) refl (said_others k ks a x xs said)

-- 3. Forms: a word, and what stands in its brackets
says_form : {ts : List Terminal} (f : Form) (xs : List (List ℕ)) → Says false (with_commas xs ++ codes ")") ts false → Says false (form_text (form_word f) xs) (word (form_word f) ∷ mark OpenRound ∷ ts) true
unfolding form_text
says_form f xs inside =
    says_open (says_as (sym (append_assoc (form_word f ++ codes "(") (with_commas xs) (codes ")"))) refl (says_both (says_both (says_word (form_word f) (is_word f)) (says_mark OpenRound)) inside))

pub says_leaf : (f : Leaf) (a : Arguments Written (form_line f).takes) (xs : List (List ℕ)) → SaidArguments (form_line f).takes a xs → Says false (form_text (form_line f).written xs) (spell_constraint (simple f a)) true
says_leaf f a xs said = says_form (of_leaf f) xs (says_arguments (form_line f).takes a xs said)

-- constraints inside one are spelled as a list
children_spelled : (c : Constraint) (cs : List Constraint) → spell_items CloseCurly spell_constraint (items_from c cs) ≡ spell_children (children_from c cs)
children_spelled c [] = refl
children_spelled c (d ∷ cs) = ap (λ ts. spell_constraint c ++ mark Comma ∷ ts) (children_spelled d cs)

gathered_spelled : (g : Gather) (cs : List Constraint)
    → word (form_word (of_gather g)) ∷ mark OpenRound ∷ ((mark OpenCurly ∷ spell_maybe CloseCurly spell_constraint (maybe_items cs)) ++ mark CloseRound ∷ []) ≡ spell_constraint (gathered g cs)
gathered_spelled g [] = refl
gathered_spelled g (c ∷ cs) = ap (λ ts. word (form_word (of_gather g)) ∷ mark OpenRound ∷ mark OpenCurly ∷ (ts ++ mark CloseRound ∷ [])) (children_spelled c cs)

-- one text by itself has no comma
alone : (x : List ℕ) → x ++ codes ")" ≡ with_commas (x ∷ []) ++ codes ")"
alone x = ap (λ y. y ++ codes ")") (sym (append-nil x))

pub says_gathered : (g : Gather) (xs : List (List ℕ)) (cs : List Constraint) → AllSaid spell_constraint xs cs → Says false (gathered_text (form_word (of_gather g)) xs) (spell_constraint (gathered g cs)) true
says_gathered g xs cs said =
    says_as refl (gathered_spelled g cs) (says_form (of_gather g) (braced xs ∷ []) (says_as (alone (braced xs)) refl (says_both (says_closed (says_braced spell_constraint xs cs said)) (says_closed (says_mark CloseRound)))))

pub says_tied : (t : Tie) (x y : List ℕ) (c : Constraint) (e : Entry) → Says false x (spell_constraint c) true → Says false y (spell_entry e) true
    → Says false (form_text (form_word (of_tie t)) (x ∷ y ∷ [])) (spell_constraint (ties t c e)) true
says_tied t x y c e one two =
    says_form (of_tie t) (x ∷ y ∷ []) (says_as (sym (append_assoc x _ (codes ")"))) refl (says_both one (says_both (says_mark Comma) (says_as (alone y) refl (says_both two (says_mark CloseRound))))))

-- 4. Lists of numbers, and ranges
module _ (read : NumbersAreRead) where
  pub says_numbers : (ks : List ℤ) → AllByRecursion IsValue ks → Says false (numbers_text ks) (spell_numbers (maybe_items ks)) true
  says_numbers ks valued = says_open (says_closed (says_bracketed spell_number (map signed_decimal ks) ks (said_values read ks valued)))

  pub says_range : (k k2 : ℤ) → IsValue k → IsValue k2 → Says false (range_text k k2) (spell_range (k, k2)) true
  says_range k k2 one two = says_numbers (k ∷ k2 ∷ []) (one, (two, tt))

-- Constraints that break nothing are lawful in the model, and what is read can be added to it.
use Rattle.std.proofs.Common.{◌≡◌, ℕ, zero, suc, ◌+◌, ◌<◌, ◌≤◌, true, false, List, [], ◌∷◌, ◌++◌, length, None, Ok, refl, sym, ap, ◌∙◌, subst, arith}
use Rattle.std.specs.List.{AllByRecursion}
use Rattle.std.proofs.Math.Nat.{max-le}
use Rattle.mn_lexer.specs.Terminals.{Terminal, mark}
use Rattle.mn_lexer.specs.declared.marks.Mark.TheVariants.{CloseCurly, CloseRound, Comma}
use Rattle.mn_model.specs.Domain.{IsValue}
use Rattle.mn_model.specs.Lawful.{IsLawful, IsLawfulCon, IsShort, SuitsTable}
use Rattle.mn_model.specs.Negation.{followed_by}
use Rattle.mn_model.specs.Parts.{places, places_of, bits, bits_of, constants, constants_of, vectors, vectors_of, tables, tables_of, cell_count, cell_count_of, nesting_of, AreShaped, AreWritten}
use Rattle.mn_model.specs.Problem.{Problem, total, cells_of, domains_of}
use Rattle.mn_model.specs.declared.constraint.Con.{Con}
use Rattle.mn_model.specs.declared.constraint.Con.TheVariants.{End}
use Rattle.mn_model.specs.declared.constraint.Cons.{Cons}
use Rattle.mn_model.specs.declared.constraint.Term.{Term}
use Rattle.mn_model.specs.declared.limits.TheConstants.{CELLS, CONSTRAINTS, NESTING}
use Rattle.mn_model.proofs.Kept.{total-push}
use Rattle.mn_model.proofs.Lists.{all_append, all_back, all_front, all_push}
use Rattle.mn_grammar.specs.Places.{when, on, behind}
use Rattle.mn_grammar.specs.Rows.{breaks_row}
use Rattle.mn_grammar.specs.Lawful.{Said}
use Rattle.mn_grammar.specs.declared.Kind.TheVariants.{Limit}
use Rattle.mn_grammar.specs.declared.Limit.TheVariants.{Constraints as OfConstraints}
use Rattle.mn_grammar.proofs.Steps.{on_kept}
use Rattle.mn_references.specs.Conditions.{as_kind}
use Rattle.mn_references.specs.Entries.{spell_entry, breaks_entry, value_entry, a_term, Placed}
use Rattle.mn_language.specs.Arguments.{term_of, arguments}
use Rattle.mn_language.specs.Constraints.{meaning, gathered, tied, Constraint, simple, gathers_none, gathers, ties, Children, one_child, child_and, spell_constraint, spell_children, Before, before_all, inside, cells_behind, at_depth, at_inside, at_form, value_constraint, value_children, breaks_constraint, breaks_children}
use Rattle.mn_language.specs.Constructing.{constraint_at, leaf_at}
use Rattle.mn_language.specs.Forms.{form_line}
use Rattle.mn_language.specs.declared.forms.Form.{Form}
use Rattle.mn_language.specs.declared.forms.Form.TheVariants.{Leaf as of_leaf, Gather as of_gather, Tie as of_tie}
use Rattle.mn_language.specs.declared.forms.Argument.{Argument}
use Rattle.mn_language.specs.declared.forms.Gather.{Gather}
use Rattle.mn_language.specs.declared.forms.Gather.TheVariants.{Or, And}
use Rattle.mn_language.specs.declared.forms.Leaf.{Leaf}
use Rattle.mn_language.specs.declared.forms.Tie.{Tie}
use Rattle.mn_language.specs.declared.forms.Tie.TheVariants.{Reify, Reifyimply}
use Rattle.mn_references.proofs.Unbroken.{token_kept, part_kept, behind_kept, when_kept, as_kind_kept, lesser_kept, not_at_most}
use Rattle.mn_references.proofs.LawfulVectors.{IsFairToken, AreFair, IsTerm, IsBitTerm, IsOne, entry_comes, term_one}
use Rattle.mn_language.proofs.LawfulArguments.{row_fits}
use Rattle.mn_language.proofs.LawfulForms.{IsKept, leaf_kept}
use Rattle.mn_language.proofs.ArgumentLaws.{leaf_spec, leaf_law, spells_row}
use Rattle.mn_language.proofs.ConstraintLaws.{constraint_spec, constraint_law}

-- 1. Forms around others are lawful where those are
pub record AreKept (p : Problem) (d : ℕ) (cs : Cons) : Type 0 where
  pub named : AllByRecursion (IsTerm p) (places_of cs)
  pub bits : AllByRecursion (IsBitTerm p) (bits_of cs)
  pub constants : AllByRecursion IsValue (constants_of cs)
  pub short : AllByRecursion IsShort (vectors_of cs)
  pub tables : AllByRecursion (SuitsTable p.tuples) (tables_of cs)
  pub shaped : AreShaped cs
  pub nested : nesting_of cs ≤ d
  pub written : AreWritten cs

many_kept : (p : Problem) (d : ℕ) (cs : List Con) → AllByRecursion (IsKept p 0 d) cs → AreKept p d (followed_by cs End)
many_kept p d [] all = record { named = tt; bits = tt; constants = tt; short = tt; tables = tt; shaped = tt; nested = omega arith; written = tt }
many_kept p d (c ∷ cs) all =
    let first = all.0 in
    let others = many_kept p d cs all.1 in
    let rest : Cons = followed_by cs End in
    record {
      named = all_append (IsTerm p) (places c) (places_of rest) first.named others.named;
      bits = all_append (IsBitTerm p) (bits c) (bits_of rest) first.bits others.bits;
      constants = all_append IsValue (constants c) (constants_of rest) first.constants others.constants;
      short = all_append IsShort (vectors c) (vectors_of rest) first.short others.short;
      tables = all_append (SuitsTable p.tuples) (tables c) (tables_of rest) first.tables others.tables;
      shaped = (first.shaped, others.shaped);
      nested = max-le first.nested others.nested;
      written = (first.written, others.written);
    }

pub cells_many : (cs : List Con) → cell_count_of (followed_by cs End) ≡ total cell_count cs
cells_many [] = refl
cells_many (c ∷ cs) = ap (λ n. cell_count c + n) (cells_many cs)

gathered_kept : (p : Problem) (n d : ℕ) (g : Gather) (cs : List Con) → AllByRecursion (IsKept p 0 d) cs → n + total cell_count cs ≤ CELLS → IsKept p n (suc d) (gathered g cs)
gathered_kept p n d Or cs all fits =
    let many = many_kept p d cs all in
    let below = many.nested in
    let same = cells_many cs in
    record {
      named = many.named;
      bits = many.bits;
      constants = many.constants;
      short = many.short;
      tables = many.tables;
      shaped = many.shaped;
      nested = omega (arith, below);
      written = many.written;
      room = omega (arith, fits, same);
    }
gathered_kept p n d And cs all fits =
    let many = many_kept p d cs all in
    let below = many.nested in
    let same = cells_many cs in
    record {
      named = many.named;
      bits = many.bits;
      constants = many.constants;
      short = many.short;
      tables = many.tables;
      shaped = many.shaped;
      nested = omega (arith, below);
      written = many.written;
      room = omega (arith, fits, same);
    }

tied_kept : (p : Problem) (n d : ℕ) (t : Tie) (c : Con) (r : Term) → IsKept p n d c → IsTerm p r → IsBitTerm p r → IsKept p n (suc d) (tied t c r)
tied_kept p n d Reify c r is lawful bit =
    let below = is.nested in
    record {
      named = all_append (IsTerm p) (places c) (r ∷ []) is.named (lawful, tt);
      bits = all_append (IsBitTerm p) (bits c) (r ∷ []) is.bits (bit, tt);
      constants = is.constants;
      short = is.short;
      tables = is.tables;
      shaped = is.shaped;
      nested = omega (arith, below);
      written = is.written;
      room = is.room;
    }
tied_kept p n d Reifyimply c r is lawful bit =
    let below = is.nested in
    record {
      named = all_append (IsTerm p) (places c) (r ∷ []) is.named (lawful, tt);
      bits = all_append (IsBitTerm p) (bits c) (r ∷ []) is.bits (bit, tt);
      constants = is.constants;
      short = is.short;
      tables = is.tables;
      shaped = is.shaped;
      nested = omega (arith, below);
      written = is.written;
      room = is.room;
    }

-- whatever is used before it
anywhere : (p : Problem) (n d : ℕ) (c : Con) → IsKept p n d c → IsKept p 0 d c
anywhere p n d c is =
    let room = is.room in
    record {
      named = is.named;
      bits = is.bits;
      constants = is.constants;
      short = is.short;
      tables = is.tables;
      shaped = is.shaped;
      nested = is.nested;
      written = is.written;
      room = omega (arith, room);
    }

-- 2. So all constraints are that break nothing
too_deep : (s : Before) (f : Form) → at_inside zero f ≡ at_depth zero → at_form zero s f ≡ None → ⊥
too_deep s f same kept = let deep = lesser_kept _ _ kept in no_some (sym same ∙ deep.1)
  where
    no_some : at_depth zero ≡ None → ⊥
    no_some e = cc

term_bit : (p : Problem) (v : Placed) → IsOne p true v.terms → IsTerm p (term_of v.terms) × IsBitTerm p (term_of v.terms)
term_bit p v one =
    (subst (λ terms. IsTerm p (term_of terms)) (sym one.only) one.lawful, subst (λ terms. IsBitTerm p (term_of terms)) (sym one.only) (one.bit refl))

module _ (p : Problem) (lawful : IsLawful p) where
  mutual
    constraint_kept : (c : Constraint) (d : ℕ) (s : Before) → s.cells ≤ CELLS → breaks_constraint p c d s ≡ [] → AreFair (spell_constraint c) → IsKept p s.cells d (value_constraint p c s.cells)
    constraint_kept (simple f a) d s fits kept fair =
        let parts = token_kept (at_form d s (of_leaf f)) 2 (breaks_row (arguments p s.cells) (form_line f).takes a) kept in
        let row = row_fits p lawful s.cells fits (form_line f).takes a parts.1 fair.1.1 in
        subst (λ vs. IsKept p s.cells d (meaning f vs)) (sym row.1) (leaf_kept p lawful s.cells d fits f row.0)
    constraint_kept (gathers_none g) zero s fits kept fair = absurd (too_deep s (of_gather g) refl (on_kept (at_form zero s (of_gather g)) kept))
    constraint_kept (gathers_none g) (suc d) s fits kept fair = gathered_kept p s.cells d g [] tt (omega arith)
    constraint_kept (gathers g cs) zero s fits kept fair = absurd (too_deep s (of_gather g) refl (on_kept (at_form zero s (of_gather g)) kept))
    constraint_kept (gathers g cs) (suc d) s fits kept fair =
        let parts = token_kept (at_form (suc d) s (of_gather g)) 3 (breaks_children p cs d s.cells []) kept in
        let all = children_kept cs d s.cells [] tt (omega arith) parts.1 (all_front IsFairToken (spell_children cs) (mark CloseRound ∷ []) fair.1.1.1) in
        gathered_kept p s.cells d g (value_children p cs s.cells []) all.0 all.1
    constraint_kept (ties t c e) zero s fits kept fair = absurd (too_deep s (of_tie t) refl (on_kept (at_form zero s (of_tie t)) kept))
    constraint_kept (ties t c e) (suc d) s fits kept fair =
        let v : Placed = value_entry p (a_term p true) e in
        let ending = on (as_kind v.behind) in
        let bit = breaks_entry p (a_term p true) e ++ behind (length (spell_entry e)) ending in
        let parts = token_kept (at_form (suc d) s (of_tie t)) 2 (breaks_constraint p c d (inside s.cells) ++ behind (length (spell_constraint c)) (behind 1 bit)) kept in
        let child = part_kept (length (spell_constraint c)) (breaks_constraint p c d (inside s.cells)) (behind 1 bit) parts.1 in
        let term = part_kept (length (spell_entry e)) (breaks_entry p (a_term p true) e) ending (behind_kept 1 bit child.1) in
        let child_fair = all_front IsFairToken (spell_constraint c) (mark Comma ∷ (spell_entry e ++ mark CloseRound ∷ [])) fair.1.1 in
        let rest_fair = all_back IsFairToken (spell_constraint c) (mark Comma ∷ (spell_entry e ++ mark CloseRound ∷ [])) fair.1.1 in
        let bit_fair = all_front IsFairToken (spell_entry e) (mark CloseRound ∷ []) rest_fair.1 in
        let one = term_bit p v (term_one p true v.terms (entry_comes p lawful (a_term p true) e term.0 (as_kind_kept v.behind (on_kept (as_kind v.behind) term.1)) bit_fair)) in
        tied_kept p s.cells d t (value_constraint p c s.cells) (term_of v.terms) (constraint_kept c d (inside s.cells) fits child.0 child_fair) one.0 one.1

    children_kept : (cs : Children) (d n : ℕ) (before : List Con) → AllByRecursion (IsKept p 0 d) before → n + total cell_count before ≤ CELLS → breaks_children p cs d n before ≡ [] → AreFair (spell_children cs) → AllByRecursion (IsKept p 0 d) (value_children p cs n before) × (n + total cell_count (value_children p cs n before) ≤ CELLS)
    children_kept (one_child c) d n before all fits kept fair =
        let con = value_constraint p c (cells_behind n before) in
        let is = constraint_kept c d (inside (cells_behind n before)) fits kept (all_front IsFairToken (spell_constraint c) (mark CloseCurly ∷ []) fair) in
        let size = total-push cell_count before con in
        let room = is.room in
        (all_push (IsKept p 0 d) before con all (anywhere p (cells_behind n before) d con is), omega (arith, size, room))
    children_kept (child_and c cs) d n before all fits kept fair =
        let con = value_constraint p c (cells_behind n before) in
        let rest = breaks_children p cs d n (before ++ con ∷ []) in
        let parts = part_kept (length (spell_constraint c)) (breaks_constraint p c d (inside (cells_behind n before))) (behind 1 rest) kept in
        let is = constraint_kept c d (inside (cells_behind n before)) fits parts.0 (all_front IsFairToken (spell_constraint c) (mark Comma ∷ spell_children cs) fair) in
        let rest_fair = all_back IsFairToken (spell_constraint c) (mark Comma ∷ spell_children cs) fair in
        let size = total-push cell_count before con in
        let room = is.room in
        children_kept cs d n (before ++ con ∷ []) (all_push (IsKept p 0 d) before con all (anywhere p (cells_behind n before) d con is)) (omega (arith, size, room)) (behind_kept 1 rest parts.1) rest_fair.1

  not_full : (d : ℕ) (s : Before) (f : Form) → at_form d s f ≡ None → s.full ≡ false
  not_full d s f kept = when_kept s.full (Limit OfConstraints) (lesser_kept (when s.full (Limit OfConstraints)) (at_inside d f) kept).0

  room_for : (c : Constraint) (d : ℕ) (s : Before) → breaks_constraint p c d s ≡ [] → s.full ≡ false
  room_for (simple f a) d s kept = not_full d s (of_leaf f) (token_kept (at_form d s (of_leaf f)) 2 _ kept).0
  room_for (gathers_none g) d s kept = not_full d s (of_gather g) (on_kept (at_form d s (of_gather g)) kept)
  room_for (gathers g cs) zero s kept = not_full zero s (of_gather g) (on_kept (at_form zero s (of_gather g)) kept)
  room_for (gathers g cs) (suc d) s kept = not_full (suc d) s (of_gather g) (token_kept (at_form (suc d) s (of_gather g)) 3 _ kept).0
  room_for (ties t c e) zero s kept = not_full zero s (of_tie t) (on_kept (at_form zero s (of_tie t)) kept)
  room_for (ties t c e) (suc d) s kept = not_full (suc d) s (of_tie t) (token_kept (at_form (suc d) s (of_tie t)) 2 _ kept).0

-- 3. The cells of what stands behind the name of a form without others inside keep the limit
pub leaf_room : (p : Problem) → IsLawful p → (used : ℕ) → used ≤ CELLS → (f : Leaf) (ts rest : List Terminal) (c : Con) → AreFair ts → leaf_at p used f ts ≡ Ok (c, rest) → used + cell_count c ≤ CELLS
leaf_room p lawful used fits f ts rest c fair is =
    let read = subst (Said (leaf_spec p used f) (leaf_at p used f) ts) is ((leaf_law p used f).said ts) in
    let row : List Argument = (form_line f).takes in
    let tree_fair = (all_front IsFairToken ((leaf_spec p used f).spell read.tree) rest (subst AreFair read.parts fair)).1 in
    let row_fair = subst AreFair (sym (spells_row p used row read.tree)) tree_fair in
    let fitting = row_fits p lawful used fits row read.tree (behind_kept 1 (breaks_row (arguments p used) row read.tree) read.kept) row_fair in
    let kept = subst (λ vs. IsKept p used 0 (meaning f vs)) (sym fitting.1) (leaf_kept p lawful used 0 fits f fitting.0) in
    (subst (IsKept p used 0) read.means kept).room

-- 4. What a constraint that is read keeps: all that the model asks of one that is added
pub record MayBeAdded (p : Problem) (c : Con) : Type 0 where
  pub lawful : IsLawfulCon (domains_of p.decls) p.tuples c
  pub room : length p.cons < CONSTRAINTS
  pub cells : cells_of p + cell_count c ≤ CELLS

pub tree_may_be_added : (p : Problem) → IsLawful p → (c : Constraint) → breaks_constraint p c NESTING (before_all p) ≡ [] → AreFair (spell_constraint c) → MayBeAdded p (value_constraint p c (cells_of p))
tree_may_be_added p lawful c kept fair =
    let con = constraint_kept p lawful c NESTING (before_all p) lawful.few_cells kept fair in
    record {
      lawful = record {
        named = con.named;
        bits = con.bits;
        constants = con.constants;
        short = con.short;
        tables = con.tables;
        shaped = con.shaped;
        nested = con.nested;
        written = con.written;
      };
      room = not_at_most CONSTRAINTS (length p.cons) (room_for p lawful c NESTING (before_all p) kept);
      cells = con.room;
    }

pub may_be_added : (p : Problem) → IsLawful p → (ts rest : List Terminal) (c : Con) → AreFair ts → constraint_at p NESTING (before_all p) ts ≡ Ok (c, rest) → MayBeAdded p c
may_be_added p lawful ts rest c fair is =
    let read = subst (Said (constraint_spec p NESTING (before_all p)) (constraint_at p NESTING (before_all p)) ts) is ((constraint_law p NESTING (before_all p)).said ts) in
    let tree_fair = all_front IsFairToken (spell_constraint read.tree) rest (subst AreFair read.parts fair) in
    subst (MayBeAdded p) read.means (tree_may_be_added p lawful read.tree read.kept tree_fair)

-- Forms without others inside that break nothing are lawful in the model.
use Rattle.std.proofs.Common.{◌≡◌, ℕ, ◌+◌, ◌≤◌, List, [], ◌∷◌, length, Some, refl, sym, ap, ◌∙◌, subst, arith}
use Rattle.std.specs.List.{AllByRecursion}
use Rattle.mn_model.specs.Domain.{IsValue}
use Rattle.mn_model.specs.Lawful.{IsLawful, IsShort, SuitsTable}
use Rattle.mn_model.specs.Parts.{places, bits, constants, vectors, tables, cell_count, nesting, IsShaped, IsWritten}
use Rattle.mn_model.specs.Problem.{Problem}
use Rattle.mn_model.specs.declared.constraint.Con.{Con}
use Rattle.mn_model.specs.declared.limits.TheConstants.{CELLS}
use Rattle.mn_model.proofs.Lists.{all_append}
use Rattle.mn_language.specs.Arguments.{terms_in, numbers_in, number_in, tuples_in, term_of}
use Rattle.mn_language.specs.Constraints.{meaning}
use Rattle.mn_language.specs.Forms.{form_line}
use Rattle.mn_language.specs.declared.forms.Leaf.{Leaf}
use Rattle.mn_language.specs.declared.forms.Leaf.TheVariants as form
use Rattle.mn_references.proofs.LawfulVectors.{IsTerm, IsBitTerm}
use Rattle.mn_language.proofs.LawfulArguments.{Fitting, collected}

-- A constraint is lawful, where n cells are used before it and d forms may stand inside one another; its own cells keep
-- the limit.
pub record IsKept (p : Problem) (n d : ℕ) (c : Con) : Type 0 where
  pub named : AllByRecursion (IsTerm p) (places c)
  pub bits : AllByRecursion (IsBitTerm p) (bits c)
  pub constants : AllByRecursion IsValue (constants c)
  pub short : AllByRecursion IsShort (vectors c)
  pub tables : AllByRecursion (SuitsTable p.tuples) (tables c)
  pub shaped : IsShaped c
  pub nested : nesting c ≤ d
  pub written : IsWritten c
  pub room : n + cell_count c ≤ CELLS

filled : {X : Type 0} {xs : List X} → 1 ≤ length xs → xs ≡ [] → ⊥
filled least e = let none = ap length e in omega (arith, least, none)

alike : {k m n : ℕ} → k ≡ m → k ≤ n → n ≤ k → m ≡ n
alike same least most = omega (arith, same, least, most)

-- without tables
no_table :
    {p : Problem} {used d : ℕ} {c : Con} → used ≤ CELLS
    → AllByRecursion (IsTerm p) (places c) → AllByRecursion (IsBitTerm p) (bits c) → AllByRecursion IsValue (constants c) → AllByRecursion IsShort (vectors c) → IsShaped c
    → tables c ≡ [] → nesting c ≡ 0 → cell_count c ≡ 0 → IsWritten c → IsKept p used d c
no_table {p = p} fits named bits constants short shaped none flat no_cells written = record {
  named = named;
  bits = bits;
  constants = constants;
  short = short;
  tables = subst (AllByRecursion (SuitsTable p.tuples)) (sym none) tt;
  shaped = shaped;
  nested = omega (arith, flat);
  written = written;
  room = omega (arith, fits, no_cells);
}

module _ (p : Problem) (lawful : IsLawful p) (used d : ℕ) (fits : used ≤ CELLS) where
  with_table :
      {c : Con}
      → AllByRecursion (IsTerm p) (places c) → AllByRecursion (IsBitTerm p) (bits c) → AllByRecursion IsValue (constants c) → AllByRecursion IsShort (vectors c) → IsShaped c
      → AllByRecursion (SuitsTable p.tuples) (tables c) → nesting c ≤ d → IsWritten c → used + cell_count c ≤ CELLS → IsKept p used d c
  with_table named bits constants short shaped tables nested written room =
      record { named = named; bits = bits; constants = constants; short = short; tables = tables; shaped = shaped; nested = nested; written = written; room = room }

  -- what each form stands for, by its arguments
  pub leaf_kept : (f : Leaf) → (a : Fitting p lawful used fits (form_line f).takes []) → IsKept p used d (meaning f (collected p lawful used fits (form_line f).takes [] a))
  leaf_kept form.Eq f = no_table fits (f.fitting, (f.others.fitting, tt)) tt tt tt tt refl refl refl tt
  leaf_kept form.Diseq f = no_table fits (f.fitting, (f.others.fitting, tt)) tt tt tt tt refl refl refl tt
  leaf_kept form.Ineq f = no_table fits (f.fitting, (f.others.fitting, tt)) tt (f.others.others.fitting, tt) tt tt refl refl refl tt
  leaf_kept form.Watchless f = no_table fits (f.fitting, (f.others.fitting, tt)) tt tt tt tt refl refl refl tt
  leaf_kept form.Minuseq f = no_table fits (f.fitting, (f.others.fitting, tt)) tt tt tt tt refl refl refl tt
  leaf_kept form.Abs f = no_table fits (f.fitting, (f.others.fitting, tt)) tt tt tt tt refl refl refl tt
  leaf_kept form.Difference f = no_table fits (f.fitting, (f.others.fitting, (f.others.others.fitting, tt))) tt tt tt tt refl refl refl tt
  leaf_kept form.Product f = no_table fits (f.fitting, (f.others.fitting, (f.others.others.fitting, tt))) tt tt tt tt refl refl refl tt
  leaf_kept form.Div f = no_table fits (f.fitting, (f.others.fitting, (f.others.others.fitting, tt))) tt tt tt tt refl refl refl tt
  leaf_kept form.Modulo f = no_table fits (f.fitting, (f.others.fitting, (f.others.others.fitting, tt))) tt tt tt tt refl refl refl tt
  leaf_kept form.Max f = no_table fits (all_append (IsTerm p) (terms_in (Some f.value)) ((term_of (terms_in (Some f.others.value))) ∷ []) f.fitting.vector.lawful (f.others.fitting, tt)) tt tt (f.fitting.vector.short, tt) (filled f.fitting.vector.least) refl refl refl tt
  leaf_kept form.Min f = no_table fits (all_append (IsTerm p) (terms_in (Some f.value)) ((term_of (terms_in (Some f.others.value))) ∷ []) f.fitting.vector.lawful (f.others.fitting, tt)) tt tt (f.fitting.vector.short, tt) (filled f.fitting.vector.least) refl refl refl tt
  leaf_kept form.Sumleq f = no_table fits (all_append (IsTerm p) (terms_in (Some f.value)) ((term_of (terms_in (Some f.others.value))) ∷ []) f.fitting.vector.lawful (f.others.fitting, tt)) tt tt (f.fitting.vector.short, tt) tt refl refl refl tt
  leaf_kept form.Sumgeq f = no_table fits (all_append (IsTerm p) (terms_in (Some f.value)) ((term_of (terms_in (Some f.others.value))) ∷ []) f.fitting.vector.lawful (f.others.fitting, tt)) tt tt (f.fitting.vector.short, tt) tt refl refl refl tt
  leaf_kept form.Weightedsumleq f = no_table fits (all_append (IsTerm p) (terms_in (Some f.others.value)) ((term_of (terms_in (Some f.others.others.value))) ∷ []) f.others.fitting.vector.lawful (f.others.others.fitting, tt)) tt f.fitting.numbers.valued (f.others.fitting.vector.short, tt) (alike f.fitting.size f.others.fitting.vector.least f.others.fitting.vector.most) refl refl refl tt
  leaf_kept form.Weightedsumgeq f = no_table fits (all_append (IsTerm p) (terms_in (Some f.others.value)) ((term_of (terms_in (Some f.others.others.value))) ∷ []) f.others.fitting.vector.lawful (f.others.others.fitting, tt)) tt f.fitting.numbers.valued (f.others.fitting.vector.short, tt) (alike f.fitting.size f.others.fitting.vector.least f.others.fitting.vector.most) refl refl refl tt
  leaf_kept form.Watchsumleq f = no_table fits f.fitting.vector.lawful (f.fitting.vector.bits refl) (f.others.fitting, tt) (f.fitting.vector.short, tt) tt refl refl refl tt
  leaf_kept form.Watchsumgeq f = no_table fits f.fitting.vector.lawful (f.fitting.vector.bits refl) (f.others.fitting, tt) (f.fitting.vector.short, tt) tt refl refl refl tt
  leaf_kept form.Litsumgeq f = no_table fits f.fitting.vector.lawful tt (all_append IsValue (numbers_in (Some f.others.value)) ((number_in (Some f.others.others.value) 0) ∷ []) f.others.fitting.numbers.valued (f.others.others.fitting, tt)) (f.fitting.vector.short, tt) (f.others.fitting.numbers.counted _ refl ∙ f.fitting.size) refl refl refl tt
  leaf_kept form.Element f = no_table fits (all_append (IsTerm p) (terms_in (Some f.value)) ((term_of (terms_in (Some f.others.value))) ∷ (term_of (terms_in (Some f.others.others.value))) ∷ []) f.fitting.vector.lawful (f.others.fitting, (f.others.others.fitting, tt))) tt tt (f.fitting.vector.short, tt) tt refl refl refl tt
  leaf_kept form.Watchelement f = no_table fits (all_append (IsTerm p) (terms_in (Some f.value)) ((term_of (terms_in (Some f.others.value))) ∷ (term_of (terms_in (Some f.others.others.value))) ∷ []) f.fitting.vector.lawful (f.others.fitting, (f.others.others.fitting, tt))) tt tt (f.fitting.vector.short, tt) tt refl refl refl tt
  leaf_kept form.ElementOne f = no_table fits (all_append (IsTerm p) (terms_in (Some f.value)) ((term_of (terms_in (Some f.others.value))) ∷ (term_of (terms_in (Some f.others.others.value))) ∷ []) f.fitting.vector.lawful (f.others.fitting, (f.others.others.fitting, tt))) tt tt (f.fitting.vector.short, tt) tt refl refl refl tt
  leaf_kept form.WatchelementOne f = no_table fits (all_append (IsTerm p) (terms_in (Some f.value)) ((term_of (terms_in (Some f.others.value))) ∷ (term_of (terms_in (Some f.others.others.value))) ∷ []) f.fitting.vector.lawful (f.others.fitting, (f.others.others.fitting, tt))) tt tt (f.fitting.vector.short, tt) tt refl refl refl tt
  leaf_kept form.Table f = with_table f.fitting.vector.lawful tt f.others.fitting.valued (f.fitting.vector.short, tt) (filled f.fitting.vector.least) (subst (λ n. SuitsTable p.tuples (n, tuples_in (Some f.others.value))) f.fitting.size f.others.fitting.suits, tt) (omega arith) tt f.others.fitting.room
  leaf_kept form.Negativetable f = with_table f.fitting.vector.lawful tt f.others.fitting.valued (f.fitting.vector.short, tt) (filled f.fitting.vector.least) (subst (λ n. SuitsTable p.tuples (n, tuples_in (Some f.others.value))) f.fitting.size f.others.fitting.suits, tt) (omega arith) tt f.others.fitting.room
  leaf_kept form.Alldiff f = no_table fits f.fitting.vector.lawful tt tt (f.fitting.vector.short, tt) tt refl refl refl tt
  leaf_kept form.Lexleq f = no_table fits (all_append (IsTerm p) (terms_in (Some f.value)) ((terms_in (Some f.others.value))) f.fitting.vector.lawful f.others.fitting.vector.lawful) tt tt (f.fitting.vector.short, (f.others.fitting.vector.short, tt)) (sym (alike f.fitting.size f.others.fitting.vector.least f.others.fitting.vector.most)) refl refl refl tt
  leaf_kept form.Lexless f = no_table fits (all_append (IsTerm p) (terms_in (Some f.value)) ((terms_in (Some f.others.value))) f.fitting.vector.lawful f.others.fitting.vector.lawful) tt tt (f.fitting.vector.short, (f.others.fitting.vector.short, tt)) (sym (alike f.fitting.size f.others.fitting.vector.least f.others.fitting.vector.most)) refl refl refl tt
  leaf_kept form.Watchvecneq f = no_table fits (all_append (IsTerm p) (terms_in (Some f.value)) ((terms_in (Some f.others.value))) f.fitting.vector.lawful f.others.fitting.vector.lawful) tt tt (f.fitting.vector.short, (f.others.fitting.vector.short, tt)) (sym (alike f.fitting.size f.others.fitting.vector.least f.others.fitting.vector.most)) refl refl refl tt
  leaf_kept form.Hamming f = no_table fits (all_append (IsTerm p) (terms_in (Some f.value)) ((terms_in (Some f.others.value))) f.fitting.vector.lawful f.others.fitting.vector.lawful) tt (f.others.others.fitting, tt) (f.fitting.vector.short, (f.others.fitting.vector.short, tt)) (sym (alike f.fitting.size f.others.fitting.vector.least f.others.fitting.vector.most)) refl refl refl tt
  leaf_kept form.Occurrence f = no_table fits (all_append (IsTerm p) (terms_in (Some f.value)) ((term_of (terms_in (Some f.others.others.value))) ∷ []) f.fitting.vector.lawful (f.others.others.fitting, tt)) tt (f.others.fitting, tt) (f.fitting.vector.short, tt) tt refl refl refl tt
  leaf_kept form.Occurrenceleq f = no_table fits f.fitting.vector.lawful tt (f.others.fitting, (f.others.others.fitting, tt)) (f.fitting.vector.short, tt) tt refl refl refl tt
  leaf_kept form.Occurrencegeq f = no_table fits f.fitting.vector.lawful tt (f.others.fitting, (f.others.others.fitting, tt)) (f.fitting.vector.short, tt) tt refl refl refl tt
  leaf_kept form.Nvalueleq f = no_table fits (all_append (IsTerm p) (terms_in (Some f.value)) ((term_of (terms_in (Some f.others.value))) ∷ []) f.fitting.vector.lawful (f.others.fitting, tt)) tt tt (f.fitting.vector.short, tt) tt refl refl refl tt
  leaf_kept form.WLiteral f = no_table fits (f.fitting, tt) tt (f.others.fitting, tt) tt tt refl refl refl tt
  leaf_kept form.WNotliteral f = no_table fits (f.fitting, tt) tt (f.others.fitting, tt) tt tt refl refl refl tt
  leaf_kept form.WInset f = no_table fits (f.fitting, tt) tt f.others.fitting.numbers.valued tt tt refl refl refl tt
  leaf_kept form.WNotinset f = no_table fits (f.fitting, tt) tt f.others.fitting.numbers.valued tt tt refl refl refl tt
  leaf_kept form.WInrange f = no_table fits (f.fitting, tt) tt (f.others.fitting.0, (f.others.fitting.1, tt)) tt tt refl refl refl tt
  leaf_kept form.WNotinrange f = no_table fits (f.fitting, tt) tt (f.others.fitting.0, (f.others.fitting.1, tt)) tt tt refl refl refl tt
  leaf_kept form.WInintervalset f = no_table fits (f.fitting, tt) tt f.others.fitting.numbers.valued tt (f.others.fitting.numbers.even refl) refl refl refl tt
  leaf_kept form.Always f = no_table fits tt tt tt tt tt refl refl refl tt
  leaf_kept form.Never f = no_table fits tt tt tt tt tt refl refl refl tt

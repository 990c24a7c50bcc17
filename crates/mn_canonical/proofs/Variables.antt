-- What declarations and aliases say.
use Rattle.std.proofs.Common.{ℕ, zero, suc, ◌-◌, ◌<◌, ◌≤◌, ℤ, pos, true, false, List, [], ◌∷◌, length, map, slice_get, refl, codes, decimal, arith}
use Rattle.std.specs.Fmt.{signed_decimal}
use Rattle.std.specs.List.{AllByRecursion}
use Rattle.std.proofs.lemmas.List.{append-nil}
use Rattle.mn_lexer.specs.Terminals.{number, mark}
use Rattle.mn_lexer.specs.declared.TheConstants.{NUMBER_LIMIT}
use Rattle.mn_lexer.specs.declared.marks.Mark.TheVariants.{OpenCurly, CloseCurly, Dots}
use Rattle.mn_model.specs.Domain.{IsDomain, IsValue}
use Rattle.mn_model.specs.Lawful.{IsLawfulDecl}
use Rattle.mn_model.specs.Problem.{size_of_dims}
use Rattle.mn_model.specs.declared.declaration.Decl.{Decl}
use Rattle.mn_model.specs.declared.variable.Kind.{Kind}
use Rattle.mn_model.specs.declared.variable.Kind.TheVariants.{Binary, Bounded, Sparse, Discrete}
use Rattle.mn_model.proofs.Lists.{filled_length}
use Rattle.mn_decls.specs.Variables.{one_value, kind_token, spell_number, spell_dims, spell_part, spell_domain, spell_entry, declares}
use Rattle.mn_pieces.specs.Printed.{NumbersAreRead}
use Rattle.mn_sections.specs.Trees.{dims_of, value_at, domain_of, declaration_of}
use Rattle.mn_canonical.specs.Declarations.{kind_text, end_text, ends_text, values_text, domain_text, declaration_text}
use Rattle.mn_canonical.specs.Names.{subscript_text}
use Rattle.mn_canonical.proofs.Saying.{Says, says_as, says_both, says_open, says_closed, says_nothing}
use Rattle.mn_canonical.proofs.Tokens.{says_word, says_mark, says_space, says_line}
use Rattle.mn_canonical.proofs.Listing.{said_map, says_bracketed, says_braced}
use Rattle.mn_canonical.proofs.Names.{says_name}
use Rattle.mn_canonical.proofs.Numbers.{says_value, says_count}
use Rattle.mn_canonical.proofs.Rows.{dims_within}

-- 1. Declarations
says_kind : (k : Kind) → Says false (kind_text k) (kind_token k ∷ []) true
says_kind Binary = says_word (codes "BOOL") (refl, refl)
says_kind Bounded = says_word (codes "BOUND") (refl, refl)
says_kind Sparse = says_word (codes "SPARSEBOUND") (refl, refl)
says_kind Discrete = says_word (codes "DISCRETE") (refl, refl)

module _ (read : NumbersAreRead) where
  -- dimensions behind a name
  pub says_dims : (dims : List ℕ) → AllByRecursion (λ dim. dim ≤ NUMBER_LIMIT) dims → Says true (subscript_text dims) (spell_dims (dims_of dims)) true
  says_dims [] few = says_nothing
  says_dims (dim ∷ dims) few =
      says_open (says_bracketed spell_number (map decimal (dim ∷ dims)) (map pos (dim ∷ dims)) (said_map spell_number decimal pos (λ n. n ≤ NUMBER_LIMIT) (says_count read) (dim ∷ dims) few))

  -- a value at a place that there is
  says_end : (values : List ℤ) (n : ℕ) → AllByRecursion IsValue values → n < length values → Says false (end_text (slice_get values n)) (number (value_at values n) ∷ []) true
  says_end [] n valued within = absurd (omega arith)
  says_end (z ∷ values) zero valued within = says_value read z valued.0
  says_end (z ∷ values) (suc n) valued within = says_end values n valued.1 (omega arith)

  says_ends : (values : List ℤ) → IsDomain values → Says true (ends_text values) (mark OpenCurly ∷ number (value_at values 0) ∷ mark Dots ∷ number (value_at values (length values - 1)) ∷ mark CloseCurly ∷ []) true
  says_ends values domain =
      let some = filled_length values domain.filled in
      says_open (says_both (says_both (says_both (says_both (says_both says_space (says_closed (says_mark OpenCurly))) (says_end values 0 domain.valued some)) (says_mark Dots)) (says_end values (length values - 1) domain.valued (omega arith))) (says_mark CloseCurly))

  says_values : (values : List ℤ) → AllByRecursion IsValue values → Says true (values_text values) (spell_domain Sparse (domain_of Sparse values)) true
  says_values values valued =
      says_open (says_both says_space (says_closed (says_braced spell_part (map signed_decimal values) (map one_value values) (said_map spell_part signed_decimal one_value IsValue (says_value read) values valued))))

  says_domain : (k : Kind) (values : List ℤ) → IsDomain values → Says true (domain_text k values) (spell_domain k (domain_of k values)) true
  says_domain Binary values domain = says_nothing
  says_domain Bounded values domain = says_ends values domain
  says_domain Sparse values domain = says_values values domain.valued
  says_domain Discrete values domain = says_ends values domain

  pub says_declaration : (d : Decl) → IsLawfulDecl d → size_of_dims d.dims ≤ NUMBER_LIMIT → Says false (declaration_text d) (spell_entry (declares (declaration_of d))) false
  says_declaration d lawful few =
      says_as refl (append-nil _)
      (says_both (says_both (says_both (says_both (says_both (says_kind d.kind) says_space) (says_name d.name lawful.named)) (says_dims d.dims (dims_within d.dims NUMBER_LIMIT lawful.shaped few))) (says_domain d.kind d.domain lawful.domain)) says_line)

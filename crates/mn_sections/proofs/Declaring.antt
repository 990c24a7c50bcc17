-- The declarations of an instance, as they are read.
use Rattle.std.proofs.Common.{◌≡◌, ℕ, ◌+◌, ◌*◌, ◌≤◌, pos, ◌+ℤ◌, ◌*ℤ◌, int_lt, leb, false, ◌||◌, List, [], ◌∷◌, ◌++◌, length, map, None, is_some, refl, sym, ap, ◌∙◌, subst, arith, mul_assoc}
use Rattle.std.specs.List.{AllByRecursion}
use Rattle.std.proofs.lemmas.Bool.{or_from}
use Rattle.std.proofs.lemmas.Int.{ints}
use Rattle.mn_model.specs.Lawful.{IsLawfulDecl}
use Rattle.mn_model.specs.Problem.{Problem, size_of_dims, declared_as, aliased_as, variable_count}
use Rattle.mn_model.specs.Variable.{number_of, variable}
use Rattle.mn_model.specs.declared.declaration.Decl.{Decl}
use Rattle.mn_model.specs.declared.limits.TheConstants.{VARIABLES}
use Rattle.mn_model.proofs.Sizes.{size_of_dims-positive}
use Rattle.mn_model.proofs.Ordered.{lt_false}
use Rattle.mn_grammar.specs.Places.{when}
use Rattle.mn_grammar.specs.Lists.{breaks_items}
use Rattle.mn_grammar.specs.declared.Kind.TheVariants as kinds
use Rattle.mn_grammar.specs.declared.Limit.TheVariants as limits
use Rattle.mn_decls.specs.Variables.{declares, room_for_one, new_name, fair_dim, with_dim, dims_judge, alias_dim, alias_dims_judge, matrix_dims, spell_dims, breaks_dims, dims_of, breaks_domain, breaks_behind, so_far, breaks_entry, value_entry}
use Rattle.mn_sections.specs.Trees as trees
use Rattle.mn_sections.specs.Trees.{name_from, items_from, declaration_of}
use Rattle.mn_sections.proofs.Domains.{domain_nothing, domain_means}
use Rattle.mn_sections.proofs.Gathering.{mark_none, AreGathered, list_breaks, list_means}
use Rattle.mn_sections.proofs.Names.{name_of_model}
use Rattle.mn_sections.proofs.Counting.{no_more}
use Rattle.mn_sections.proofs.Kept.{on_none, behind_nothing, part_nothing, token_nothing, when_not, first_not, leb_not, one_of_all}

-- 1. Dimensions
abbrev AreSome : List ℕ → Type 0
AreSome dims = AllByRecursion (λ dim. 1 ≤ dim) dims

at_least_one : (dim : ℕ) → 1 ≤ dim → int_lt (pos dim) (pos 1) ≡ false
at_least_one dim some = lt_false (pos dim) (pos 1) (omega (arith, ints, some))

-- with the first of them there are no more variables than with all
size_append : (front back : List ℕ) → size_of_dims (front ++ back) ≡ size_of_dims front * size_of_dims back
size_append [] back = omega arith
size_append (d ∷ front) back = ap (λ n. d * n) (size_append front back) ∙ sym (mul_assoc d (size_of_dims front) (size_of_dims back))

no_less : (a b c : ℕ) → 1 ≤ c → a * b ≤ a * (b * c)
no_less a b c some = let less = no_more (a * b) c some in let same = sym (mul_assoc a b c) in omega (arith, less, same)

some_behind : (before : List ℕ) (left : List ℕ) → AreSome (before ++ left) → AreSome left
some_behind [] left all = all
some_behind (d ∷ before) left all = some_behind before left all.1

front_size : (dims before : List ℕ) (dim : ℕ) (left : List ℕ) → before ++ dim ∷ left ≡ dims → AreSome dims → size_of_dims before * dim ≤ size_of_dims dims
front_size dims before dim left e all =
    let whole : size_of_dims dims ≡ size_of_dims before * (dim * size_of_dims left) = ap size_of_dims (sym e) ∙ size_append before (dim ∷ left) in
    let some = size_of_dims-positive left (some_behind before (dim ∷ left) (subst AreSome (sym e) all)).1 in
    let less = no_less (size_of_dims before) dim (size_of_dims left) some in
    omega (arith, whole, less)

module _ (q : Problem) (dims : List ℕ) (all : AreSome dims) (room : variable_count q.decls + size_of_dims dims ≤ VARIABLES) where
  dim_fair : (before : List ℕ) (dim : ℕ) (left : List ℕ) → before ++ dim ∷ left ≡ dims → fair_dim q before (pos dim) ≡ None
  dim_fair before dim left e =
      let some = one_of_all (λ d. 1 ≤ d) dims before dim left e all in
      let size = front_size dims before dim left e all in
      first_not (int_lt (pos dim) (pos 1)) kinds.Shape (when (int_lt (pos VARIABLES) (pos (variable_count q.decls) +ℤ pos (size_of_dims before) *ℤ pos dim)) (kinds.Limit limits.Variables)) (at_least_one dim some)
      (when_not (int_lt (pos VARIABLES) (pos (variable_count q.decls) +ℤ pos (size_of_dims before) *ℤ pos dim)) (kinds.Limit limits.Variables)
      (lt_false (pos VARIABLES) (pos (variable_count q.decls + size_of_dims before * dim)) (omega (arith, ints, size, room))))

  dims_gathered : AreGathered (dims_judge q) with_dim pos dims
  dims_gathered before dim left e = record {
    breaks = on_none (fair_dim q before (pos dim)) (dim_fair before dim left e);
    mark = mark_none left None None (λ some. refl) (λ done. refl);
    next = refl;
    last = refl;
  }

dims_nothing : (q : Problem) (dims : List ℕ) → AreSome dims → variable_count q.decls + size_of_dims dims ≤ VARIABLES → breaks_dims q (trees.dims_of dims) ≡ []
dims_nothing q [] all room = refl
dims_nothing q (dim ∷ dims) all room = behind_nothing 1 _ (list_breaks (dims_judge q) with_dim pos dim dims (dims_gathered q (dim ∷ dims) all room))

dims_mean : (q : Problem) (dims : List ℕ) → AreSome dims → variable_count q.decls + size_of_dims dims ≤ VARIABLES → dims_of q (trees.dims_of dims) ≡ dims
dims_mean q [] all room = refl
dims_mean q (dim ∷ dims) all room = list_means (dims_judge q) with_dim pos dim dims (dims_gathered q (dim ∷ dims) all room)

-- those of an alias
alias_dims_gathered : (dims : List ℕ) → AreSome dims → AreGathered alias_dims_judge with_dim pos dims
alias_dims_gathered dims all before dim left e = record {
  breaks = on_none (alias_dim (pos dim)) (when_not (int_lt (pos dim) (pos 1)) kinds.Shape (at_least_one dim (one_of_all (λ d. 1 ≤ d) dims before dim left e all)));
  mark = mark_none left None None (λ some. refl) (λ done. refl);
  next = refl;
  last = refl;
}

pub alias_dims_break : (dim : ℕ) (dims : List ℕ) → AreSome (dim ∷ dims) → breaks_items alias_dims_judge (items_from (pos dim) (map pos dims)) [] ≡ []
alias_dims_break dim dims all = list_breaks alias_dims_judge with_dim pos dim dims (alias_dims_gathered (dim ∷ dims) all)

pub alias_dims_mean : (dim : ℕ) (dims : List ℕ) → AreSome (dim ∷ dims) → matrix_dims (items_from (pos dim) (map pos dims)) ≡ dim ∷ dims
alias_dims_mean dim dims all = list_means alias_dims_judge with_dim pos dim dims (alias_dims_gathered (dim ∷ dims) all)

-- 2. A name that is new
pub name_fair : (q : Problem) (name : List ℕ) → declared_as q.decls name ≡ None → aliased_as q.aliases name ≡ None → new_name q name ≡ None
name_fair q name no_decl no_alias =
    when_not (is_some (declared_as q.decls name) || is_some (aliased_as q.aliases name)) kinds.Name
    (or_from (is_some (declared_as q.decls name)) (is_some (aliased_as q.aliases name)) (ap is_some no_decl) (ap is_some no_alias))

-- 3. A declaration
module _ (q : Problem) (d : Decl) (lawful : IsLawfulDecl d) (no_decl : declared_as q.decls d.name ≡ None) (no_alias : aliased_as q.aliases d.name ≡ None) (room : variable_count q.decls + size_of_dims d.dims ≤ VARIABLES) where
  named : (name_from d.name).bytes ≡ d.name
  named = name_of_model d.name lawful.named

  behind_word : breaks_behind q (declaration_of d) ≡ []
  behind_word =
      token_nothing (new_name q (name_from d.name).bytes) 1 _ (ap (new_name q) named ∙ name_fair q d.name no_decl no_alias)
      (part_nothing (length (spell_dims (trees.dims_of d.dims))) (breaks_dims q (trees.dims_of d.dims)) (breaks_domain d.kind (trees.domain_of d.kind d.domain))
      (dims_nothing q d.dims lawful.shaped room) (domain_nothing d.kind d.domain lawful.domain lawful.suits))

  pub decl_nothing : breaks_entry (so_far q) (declares (declaration_of d)) ≡ []
  decl_nothing =
      let some = size_of_dims-positive d.dims lawful.shaped in
      token_nothing (room_for_one q) 1 (breaks_behind q (declaration_of d))
      (when_not (leb VARIABLES (variable_count q.decls)) (kinds.Limit limits.Variables) (leb_not VARIABLES (variable_count q.decls) (omega (arith, some, room))))
      behind_word

  pub decl_means : number_of d.first ≡ variable_count q.decls → value_entry (so_far q) (declares (declaration_of d)) ≡ so_far (record q { decls = q.decls ++ d ∷ [] })
  decl_means first =
      let dims = dims_mean q d.dims lawful.shaped room in
      let domain = domain_means d.kind d.domain lawful.domain lawful.suits in
      λ i. so_far (record q { decls = q.decls ++ record { name = named i; dims = dims i; kind = d.kind; domain = domain i; first = variable (sym first i) } ∷ [] })

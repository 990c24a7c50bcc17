-- No dimension of an alias is greater than the length of the text.
use Rattle.std.proofs.Common.{◌≡◌, ℕ, zero, suc, ◌+◌, ◌≤◌, List, [], ◌∷◌, ◌++◌, length, map, take, drop, refl, ap, codes, arith, length-append}
use Rattle.std.specs.List.{AllByRecursion, flat_map}
use Rattle.std.proofs.lemmas.List.{length-map}
use Rattle.std.proofs.Math.Nat.{div-le_self}
use Rattle.std.proofs.lemmas.Int.{ints}
use Rattle.mn_lexer.specs.declared.TheConstants.{NUMBER_LIMIT}
use Rattle.mn_model.specs.Lawful.{IsLawful, IsLawfulAlias, IsLawfulDecl, IsLawfulTuples}
use Rattle.mn_model.specs.Problem.{Problem, size_of_dims, domains_of, variable_count, total}
use Rattle.mn_model.specs.declared.declaration.Alias.{Alias}
use Rattle.mn_model.specs.declared.declaration.Decl.{Decl}
use Rattle.mn_model.specs.declared.declaration.Tuples.{Tuples}
use Rattle.mn_model.specs.declared.limits.TheConstants.{TEXT_BYTES}
use Rattle.mn_model.specs.declared.variable.VarId.{VarId}
use Rattle.mn_model.proofs.Variables.{variable_count-cons}
use Rattle.mn_model.proofs.Lists.{all_so, all_both}
use Rattle.mn_sections.specs.Matrices.{rows_of, tuple_count}
use Rattle.mn_canonical.specs.Canonical.{variables_section, tuples_section, search_section, constraints_section, canonical_text}
use Rattle.mn_canonical.specs.Declarations.{declaration_text, nested_text, alias_text}
use Rattle.mn_canonical.specs.Lists.{with_commas, bracketed}
use Rattle.mn_canonical.specs.Names.{subscript_text}
use Rattle.mn_canonical.proofs.Listing.{comma_before}

-- 1. A list in brackets is longer than each of its entries, and has a byte for each
commas : (xs : List (List ℕ)) → length xs ≤ length (flat_map comma_before xs)
commas [] = omega arith
commas (x ∷ xs) = let more = commas xs in omega (arith, length-append (comma_before x) (flat_map comma_before xs))

brackets_length : (xs : List (List ℕ)) → length (bracketed xs) ≡ suc (length (with_commas xs) + 1)
unfolding bracketed
brackets_length xs = ap suc (length-append (with_commas xs) (codes "]"))

a_byte_each : (xs : List (List ℕ)) → length xs ≤ length (bracketed xs)
a_byte_each [] = omega (arith, brackets_length [])
a_byte_each (x ∷ xs) = omega (arith, brackets_length (x ∷ xs), length-append x (flat_map comma_before xs), commas xs)

first_within : (x : List ℕ) (xs : List (List ℕ)) → length x ≤ length (bracketed (x ∷ xs))
first_within x xs = omega (arith, brackets_length (x ∷ xs), length-append x (flat_map comma_before xs))

length-rows_of : {X : Type 0} (size count : ℕ) (xs : List X) → length (rows_of size count xs) ≡ count
length-rows_of size zero xs = refl
length-rows_of size (suc count) xs = ap suc (length-rows_of size count (drop size xs))

rows_length : {X : Type 0} (text : List X → List ℕ) (size count : ℕ) (xs : List X) → count ≤ length (bracketed (map text (rows_of size count xs)))
rows_length text size count xs =
    omega (arith, length-map (rows_of size count xs) text, length-rows_of size count xs, a_byte_each (map text (rows_of size count xs)))

-- 2. So a matrix is as long as each of its dimensions
pub dims_within_text : (p : Problem) (dims : List ℕ) (vars : List VarId) → AllByRecursion (λ dim. 1 ≤ dim) dims → AllByRecursion (λ dim. dim ≤ length (nested_text p dims vars)) dims
dims_within_text p [] vars shaped = tt
dims_within_text p (zero ∷ dims) vars shaped = absurd (omega (arith, shaped.0))
dims_within_text p (suc count ∷ dims) vars shaped =
    let size = size_of_dims dims in
    let front = take size vars in
    let text = nested_text p (suc count ∷ dims) vars in
    let inner : length (nested_text p dims front) ≤ length text = first_within (nested_text p dims front) (map (nested_text p dims) (rows_of size count (drop size vars))) in (
      rows_length (nested_text p dims) size (suc count) vars,
      all_so (λ dim. dim ≤ length (nested_text p dims front)) (λ dim. dim ≤ length text) (λ dim within. omega arith) dims (dims_within_text p dims front shaped.1),
    )

alias_within : (p : Problem) (a : Alias) → length (nested_text p a.dims a.vars) ≤ length (alias_text p a)
alias_within p a =
    let before = codes "ALIAS " ++ a.name ++ subscript_text a.dims ++ codes " = " in
    let nest = nested_text p a.dims a.vars in
    omega (arith, length-append before nest, length-append (before ++ nest) (codes "\n"))

each_within : {X : Type 0} (text : X → List ℕ) (xs : List X) (most : ℕ) → length (flat_map text xs) ≤ most → AllByRecursion (λ x. length (text x) ≤ most) xs
each_within text [] most few = tt
each_within text (x ∷ xs) most few =
    let parts = length-append (text x) (flat_map text xs) in
    (omega arith, each_within text xs most (omega arith))

-- the aliases are a part of the text
aliases_within : (p : Problem) → length (flat_map (alias_text p) p.aliases) ≤ length (canonical_text p)
unfolding canonical_text
aliases_within p =
    let decls = codes "**VARIABLES**\n" ++ flat_map declaration_text p.decls in
    let aliases = flat_map (alias_text p) p.aliases in
    let one = codes "MINION 3\n" ++ variables_section p in
    let two = one ++ tuples_section p in
    let three = two ++ search_section p in
    let four = three ++ constraints_section p in
    omega (arith, length-append decls aliases, length-append (codes "MINION 3\n") (variables_section p), length-append one (tuples_section p), length-append two (search_section p), length-append three (constraints_section p), length-append four (codes "**EOF**\n"))

-- an alias is lawful, and its dimensions may be written
pub record IsWritable (p : Problem) (a : Alias) : Type 0 where
  pub lawful : IsLawfulAlias (domains_of p.decls) a
  pub few : AllByRecursion (λ dim. dim ≤ NUMBER_LIMIT) a.dims

pub aliases_writable : (p : Problem) → IsLawful p → length (canonical_text p) ≤ TEXT_BYTES → AllByRecursion (IsWritable p) p.aliases
aliases_writable p lawful short =
    let within = aliases_within p in
    all_so (λ a. IsLawfulAlias (domains_of p.decls) a × (length (alias_text p a) ≤ NUMBER_LIMIT)) (IsWritable p)
    (λ a is. record {
      lawful = is.0;
      few = all_so (λ dim. dim ≤ length (nested_text p a.dims a.vars)) (λ dim. dim ≤ NUMBER_LIMIT) (λ dim small. let inside = alias_within p a in let line = is.1 in omega arith) a.dims (dims_within_text p a.dims a.vars is.0.shaped);
    })
    p.aliases
    (all_both (IsLawfulAlias (domains_of p.decls)) (λ a. length (alias_text p a) ≤ NUMBER_LIMIT) (λ a. IsLawfulAlias (domains_of p.decls) a × (length (alias_text p a) ≤ NUMBER_LIMIT)) (λ a is few. (is, few)) p.aliases lawful.aliases (each_within (alias_text p) p.aliases NUMBER_LIMIT (omega arith)))

-- 3. A declaration has no more variables than there are, and a tuple list no more tuples than there are cells
pub record IsWritableDecl (d : Decl) : Type 0 where
  pub lawful : IsLawfulDecl d
  pub few : size_of_dims d.dims ≤ NUMBER_LIMIT

pub decls_writable : (decls : List Decl) → AllByRecursion IsLawfulDecl decls → variable_count decls ≤ NUMBER_LIMIT → AllByRecursion IsWritableDecl decls
decls_writable [] lawful few = tt
decls_writable (d ∷ decls) lawful few =
    let count = variable_count-cons d decls in
    (record { lawful = lawful.0; few = omega arith }, decls_writable decls lawful.1 (omega arith))

pub record IsWritableTuples (t : Tuples) : Type 0 where
  pub lawful : IsLawfulTuples t
  pub few : tuple_count t.arity t.cells ≤ NUMBER_LIMIT
  pub short : t.arity ≤ NUMBER_LIMIT

pub tuples_writable : (lists : List Tuples) → AllByRecursion IsLawfulTuples lists → total (λ t. length t.cells) lists ≤ NUMBER_LIMIT → AllByRecursion IsWritableTuples lists
tuples_writable [] lawful few = tt
tuples_writable (t ∷ lists) lawful few =
    let count = div-le_self (length t.cells) t.arity in
    let short : t.arity ≤ NUMBER_LIMIT = omega (arith, ints, lawful.0.most) in
    (record { lawful = lawful.0; few = omega arith; short = short }, tuples_writable lists lawful.1 (omega arith))

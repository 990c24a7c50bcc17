-- What the parts of an instance keep when it grows.
use Rattle.std.proofs.Common.{◌≡◌, ℕ, ◌+◌, ◌<◌, ◌≤◌, List, [], ◌∷◌, ◌++◌, length, Option, None, refl, ap, sym, subst, ◌∙◌, arith, String, string_bytes}
use Rattle.std.specs.List.{AllZip}
use Rattle.std.specs.Map.{lookup}
use Rattle.std.specs.Str.{bytes_eq}
use Rattle.mn_model.proofs.Found.{unfound, nothing_found}
use Rattle.mn_model.proofs.Kept.{IsLawful-declare, IsLawful-alias, IsLawful-tuples, IsLawful-add, IsLawful-search, declared_in-push, declared_in-past, aliased_in-push, aliased_in-past, named-push, total-push}
use Rattle.mn_model.specs.Index.{IsKept, entries_read, declared_in, aliased_in, owners_from}
use Rattle.mn_model.specs.Lawful.{IsLawfulAlias, IsLawfulCon, IsLawfulDecl, IsLawfulGoal, IsLawfulOrder, IsLawfulPrint, IsLawfulTuples}
use Rattle.mn_model.specs.Parts.{cell_count}
use Rattle.mn_model.specs.Problem.{Problem, aliased_as, cells_of, declared_as, domains_of, listed_as, size_of_dims, variable_count}
use Rattle.mn_model.specs.Variable.{number_of}
use Rattle.mn_model.specs.declared.constraint.Con.{Con}
use Rattle.mn_model.specs.declared.declaration.Alias.{Alias}
use Rattle.mn_model.specs.declared.declaration.Decl.{Decl}
use Rattle.mn_model.specs.declared.declaration.Tuples.{Tuples}
use Rattle.mn_model.specs.declared.instance.Entry.{Entry}
use Rattle.mn_model.specs.declared.instance.Entry.TheVariants.{Declared, Aliased}
use Rattle.mn_model.specs.declared.limits.TheConstants.{CELLS, CONSTRAINTS, VARIABLES}
use Rattle.mn_model.specs.declared.search.Goal.{Goal}
use Rattle.mn_model.specs.declared.search.Order.{Order}
use Rattle.mn_model.specs.declared.search.Print.{Print}

module _ {A : Type 0} (p : Problem) (names : List (String A × Entry)) (lists : List (String A × ℕ)) (owners : List ℕ) (cells : ℕ) (kept : IsKept p names lists owners cells) where
  -- a name that is neither declared nor an alias isn't in the index
  pub new_name : (name : List ℕ) → declared_as p.decls name ≡ None → aliased_as p.aliases name ≡ None → lookup (bytes_eq name) (entries_read names) ≡ None
  new_name name fresh unused = nothing_found (entries_read names) name
      (ap (lookup (bytes_eq name)) kept.named ∙ unfound (λ d. d.name) p.decls name fresh)
      (ap (lookup (bytes_eq name)) kept.aliased ∙ unfound (λ a. a.name) p.aliases name unused)

  pub new_list : (name : List ℕ) → listed_as p.tuples name ≡ None → lookup (bytes_eq name) (entries_read lists) ≡ None
  new_list name unused = ap (lookup (bytes_eq name)) kept.listed ∙ unfound (λ t. t.name) p.tuples name unused

  -- one declaration more
  pub IsKept-declare : (d : Decl) (decls2 : List Decl) (names2 : List (String A × Entry)) (owners2 : List ℕ) (place : ℕ) → decls2 ≡ p.decls ++ d ∷ [] → IsLawfulDecl d → declared_as p.decls d.name ≡ None → aliased_as p.aliases d.name ≡ None
      → number_of d.first ≡ variable_count p.decls → variable_count p.decls + size_of_dims d.dims ≤ VARIABLES
      → entries_read names2 ≡ entries_read names ++ (d.name, Declared place) ∷ [] → place ≡ length p.decls → owners2 ≡ owners_from 0 (p.decls ++ d ∷ [])
      → IsKept (record p { decls = decls2 }) names2 lists owners2 cells
  IsKept-declare d decls2 names2 owners2 place all new fresh unused first room read at owned = subst (λ decls. IsKept (record p { decls = decls }) names2 lists owners2 cells) (sym all) (record {
    named = ap declared_in read ∙ (declared_in-push (entries_read names) d.name place ∙ named-push (λ d. d.name) (declared_in (entries_read names)) p.decls d place kept.named at);
    aliased = ap aliased_in read ∙ (aliased_in-past (entries_read names) d.name place ∙ kept.aliased);
    listed = kept.listed;
    owned = owned;
    counted = kept.counted;
    lawful = IsLawful-declare p d kept.lawful new fresh unused first room;
  })

  -- one alias more
  pub IsKept-alias : (a : Alias) (aliases2 : List Alias) (names2 : List (String A × Entry)) (place : ℕ) → aliases2 ≡ p.aliases ++ a ∷ [] → IsLawfulAlias (domains_of p.decls) a → declared_as p.decls a.name ≡ None → aliased_as p.aliases a.name ≡ None
      → entries_read names2 ≡ entries_read names ++ (a.name, Aliased place) ∷ [] → place ≡ length p.aliases
      → IsKept (record p { aliases = aliases2 }) names2 lists owners cells
  IsKept-alias a aliases2 names2 place all new fresh unused read at = subst (λ aliases. IsKept (record p { aliases = aliases }) names2 lists owners cells) (sym all) (record {
    named = ap declared_in read ∙ (declared_in-past (entries_read names) a.name place ∙ kept.named);
    aliased = ap aliased_in read ∙ (aliased_in-push (entries_read names) a.name place ∙ named-push (λ a. a.name) (aliased_in (entries_read names)) p.aliases a place kept.aliased at);
    listed = kept.listed;
    owned = kept.owned;
    counted = kept.counted;
    lawful = IsLawful-alias p a kept.lawful new fresh unused;
  })

  -- one tuple list more
  pub IsKept-tuples : (t : Tuples) (tuples2 : List Tuples) (lists2 : List (String A × ℕ)) (place count : ℕ) → tuples2 ≡ p.tuples ++ t ∷ [] → IsLawfulTuples t → listed_as p.tuples t.name ≡ None → cells_of p + length t.cells ≤ CELLS
      → entries_read lists2 ≡ entries_read lists ++ (t.name, place) ∷ [] → place ≡ length p.tuples → count ≡ length t.cells
      → IsKept (record p { tuples = tuples2 }) names lists2 owners (cells + count)
  IsKept-tuples t tuples2 lists2 place count all new unused room read at counted = subst (λ tuples. IsKept (record p { tuples = tuples }) names lists2 owners (cells + count)) (sym all) (record {
    named = kept.named;
    aliased = kept.aliased;
    listed = read ∙ named-push (λ t. t.name) (entries_read lists) p.tuples t place kept.listed at;
    owned = kept.owned;
    counted = let before = kept.counted in omega (arith, before, counted, total-push (λ t. length t.cells) p.tuples t);
    lawful = IsLawful-tuples p t kept.lawful new unused room;
  })

  -- one constraint more
  pub IsKept-add : (c : Con) (cons2 : List Con) (count : ℕ) → cons2 ≡ p.cons ++ c ∷ [] → IsLawfulCon (domains_of p.decls) p.tuples c → length p.cons < CONSTRAINTS → cells_of p + cell_count c ≤ CELLS → count ≡ cell_count c
      → IsKept (record p { cons = cons2 }) names lists owners (cells + count)
  IsKept-add c cons2 count all new room few counted = subst (λ cons. IsKept (record p { cons = cons }) names lists owners (cells + count)) (sym all) (record {
    named = kept.named;
    aliased = kept.aliased;
    listed = kept.listed;
    owned = kept.owned;
    counted = let before = kept.counted in omega (arith, before, counted, total-push cell_count p.cons c);
    lawful = IsLawful-add p c kept.lawful new room few;
  })

  -- another order, objective or print
  pub IsKept-search : (o : Order) (g : Option Goal) (q : Print) → IsLawfulOrder (domains_of p.decls) o → IsLawfulGoal (domains_of p.decls) g → IsLawfulPrint (domains_of p.decls) q → IsKept (record p { order = o; goal = g; print = q }) names lists owners cells
  IsKept-search o g q ordered aimed printed = record {
    named = kept.named;
    aliased = kept.aliased;
    listed = kept.listed;
    owned = kept.owned;
    counted = kept.counted;
    lawful = IsLawful-search p o g q kept.lawful ordered aimed printed;
  }

  -- an equal problem with equal indices
  pub IsKept-copy : (p2 : Problem) (names2 : List (String A × Entry)) (lists2 : List (String A × ℕ)) (owners2 : List ℕ) → p2 ≡ p → entries_read names2 ≡ entries_read names → entries_read lists2 ≡ entries_read lists → owners2 ≡ owners → IsKept p2 names2 lists2 owners2 cells
  IsKept-copy p2 names2 lists2 owners2 same read listed owned = subst (λ p. IsKept p names2 lists2 owners2 cells) (sym same) (record {
    named = ap declared_in read ∙ kept.named;
    aliased = ap aliased_in read ∙ kept.aliased;
    listed = listed ∙ kept.listed;
    owned = owned ∙ kept.owned;
    counted = kept.counted;
    lawful = kept.lawful;
  })

-- the entries of a copied index are read as those of the index
pub copied_read : {A V : Type 0} (xs ys : List (String A × V)) → AllZip (λ p q. (string_bytes q.0 ≡ string_bytes p.0) × (q.1 ≡ p.1)) xs ys → entries_read ys ≡ entries_read xs
copied_read [] [] zip = refl
copied_read [] (y ∷ ys) zip = absurd zip
copied_read (x ∷ xs) [] zip = absurd zip
copied_read (x ∷ xs) (y ∷ ys) zip = λ i. (zip.0.0 i, zip.0.1 i) ∷ copied_read xs ys zip.1 i

-- How an instance finds a declaration by name and by the number of a variable.
use Rattle.std.specs.Prelude.{◌≡◌, ℕ, ◌+◌, List, [], ◌∷◌, ◌++◌, map, replicate, String}
use Rattle.std.specs.String.{string_bytes}
use Rattle.mn_model.specs.Lawful.{IsLawful}
use Rattle.mn_model.specs.Problem.{Problem, size_of_dims, cells_of}
use Rattle.mn_model.specs.declared.declaration.Decl.{Decl}
use Rattle.mn_model.specs.declared.instance.Entry.{Entry}
use Rattle.mn_model.specs.declared.instance.Entry.TheVariants.{Declared, Aliased}

-- the entries of an index of names: the bytes of each name, and what it leads to
abbrev pub entries_read : {A V : Type 0} → List (String A × V) → List (List ℕ × V)
entries_read entries = map (λ e. (string_bytes e.0, e.1)) entries

-- those that lead to declarations, and those that lead to aliases
abbrev pub declared_in : List (List ℕ × Entry) → List (List ℕ × ℕ)
declared_in [] = []
declared_in ((name, Declared place) ∷ entries) = (name, place) ∷ declared_in entries
declared_in ((name, Aliased place) ∷ entries) = declared_in entries

abbrev pub aliased_in : List (List ℕ × Entry) → List (List ℕ × ℕ)
aliased_in [] = []
aliased_in ((name, Declared place) ∷ entries) = aliased_in entries
aliased_in ((name, Aliased place) ∷ entries) = (name, place) ∷ aliased_in entries

-- the names of the items, each with its place, from n on
abbrev pub names_from : {X : Type 0} → (X → List ℕ) → ℕ → List X → List (List ℕ × ℕ)
names_from name_of n [] = []
names_from name_of n (x ∷ xs) = (name_of x, n) ∷ names_from name_of (n + 1) xs

-- the place of each variable's declaration, from n on
abbrev pub owners_from : ℕ → List Decl → List ℕ
owners_from n [] = []
owners_from n (d ∷ decls) = replicate (size_of_dims d.dims) n ++ owners_from (n + 1) decls

-- what the parts of an instance keep
pub record IsKept {A : Type 0} (p : Problem) (names : List (String A × Entry)) (lists : List (String A × ℕ)) (owners : List ℕ) (cells : ℕ) : Type 0 where
  pub named : declared_in (entries_read names) ≡ names_from (λ d. d.name) 0 p.decls
  pub aliased : aliased_in (entries_read names) ≡ names_from (λ a. a.name) 0 p.aliases
  pub listed : entries_read lists ≡ names_from (λ t. t.name) 0 p.tuples
  pub owned : owners ≡ owners_from 0 p.decls
  pub counted : cells ≡ cells_of p
  pub lawful : IsLawful p

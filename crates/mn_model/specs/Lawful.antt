-- What makes an instance lawful, part by part.
use Rattle.std.specs.Prelude.{◌≡◌, ℕ, ◌+◌, ◌*◌, ◌≤◌, ℤ, pos, neg_ℤ, ◌+ℤ◌, ◌-ℤ◌, ◌≤ℤ◌, ◌<◌, ◌⊎◌, List, [], ◌∷◌, ◌++◌, length, slice_get, Option, Some, None}
use Rattle.std.specs.List.{AllByRecursion}
use Rattle.std.specs.Option.{option_map}
use Rattle.mn_model.specs.Domain.{IsDomain, IsValue, stretch}
use Rattle.mn_model.specs.Name.{IsName}
use Rattle.mn_model.specs.Parts.{places, places_of, bits, constants, constants_of, vectors, tables, nesting, IsShaped, IsWritten}
use Rattle.mn_model.specs.Problem.{Problem, size_of_dims, domains_of, variable_count, called, declared_as, cells_of}
use Rattle.mn_model.specs.Variable.{number_of}
use Rattle.mn_model.specs.declared.constraint.Con.{Con}
use Rattle.mn_model.specs.declared.constraint.Cons.{Cons}
use Rattle.mn_model.specs.declared.constraint.Tab.{Tab}
use Rattle.mn_model.specs.declared.constraint.Tab.TheVariants.{Named, Here}
use Rattle.mn_model.specs.declared.constraint.Term.{Term}
use Rattle.mn_model.specs.declared.constraint.Term.TheVariants.{Var, Const, Not}
use Rattle.mn_model.specs.declared.declaration.Alias.{Alias}
use Rattle.mn_model.specs.declared.declaration.Decl.{Decl}
use Rattle.mn_model.specs.declared.declaration.Tuples.{Tuples}
use Rattle.mn_model.specs.declared.limits.TheConstants.{CELLS, CONSTRAINTS, NESTING, PLACES, SPAN, VALUE, VARIABLES}
use Rattle.mn_model.specs.declared.search.Goal.{Goal}
use Rattle.mn_model.specs.declared.search.Order.{Order}
use Rattle.mn_model.specs.declared.search.Print.{Print}
use Rattle.mn_model.specs.declared.search.Print.TheVariants.{All, Nothing, Rows}
use Rattle.mn_model.specs.declared.variable.Kind.{Kind}
use Rattle.mn_model.specs.declared.variable.Kind.TheVariants.{Binary, Bounded, Sparse, Discrete}
use Rattle.mn_model.specs.declared.variable.VarId.{VarId}

-- the domain is one that a variable of the kind may have
abbrev pub SuitsKind : Kind → List ℤ → Type 0
SuitsKind Binary values = values ≡ stretch (pos 0) (pos 1)
SuitsKind Bounded values = (lo : ℤ) × (hi : ℤ) × (values ≡ stretch lo hi)
SuitsKind Sparse values = length values ≤ SPAN
SuitsKind Discrete values = (lo : ℤ) × (hi : ℤ) × (values ≡ stretch lo hi) × (length values ≤ SPAN)

-- a declaration by itself is lawful
pub record IsLawfulDecl (d : Decl) : Type 0 where
  pub named : IsName d.name
  pub shaped : AllByRecursion (λ dim. 1 ≤ dim) d.dims
  pub domain : IsDomain d.domain
  pub suits : SuitsKind d.kind d.domain

-- no item has the name of one before it, or of the earlier ones
abbrev pub AreNewAfter : {X : Type 0} → (X → List ℕ) → List X → List X → Type 0
AreNewAfter name_of earlier [] = Unit {0}
AreNewAfter name_of earlier (x ∷ xs) = (called name_of earlier (name_of x) ≡ None) × AreNewAfter name_of (earlier ++ x ∷ []) xs

-- each begins with the number after those of the declarations before it
abbrev pub AreNumberedFrom : ℕ → List Decl → Type 0
AreNumberedFrom n [] = Unit {0}
AreNumberedFrom n (d ∷ decls) = (number_of d.first ≡ n) × AreNumberedFrom (n + size_of_dims d.dims) decls

-- the variable is one of those with these domains
abbrev pub IsKnown : List (List ℤ) → VarId → Type 0
IsKnown domains v = number_of v < length domains

-- an alias names a variable, or as many as its dimensions say
pub record IsLawfulAlias (domains : List (List ℤ)) (a : Alias) : Type 0 where
  pub named : IsName a.name
  pub shaped : AllByRecursion (λ dim. 1 ≤ dim) a.dims
  pub filled : length a.vars ≡ size_of_dims a.dims
  pub known : AllByRecursion (IsKnown domains) a.vars

-- the cells make whole tuples
abbrev pub MakeTuples : ℕ → List ℤ → Type 0
MakeTuples arity cells = (count : ℕ) × (length cells ≡ count * arity)

-- a tuple list has a length of at least 1, and whole tuples of values
pub record IsLawfulTuples (t : Tuples) : Type 0 where
  pub named : IsName t.name
  pub least : 1 ≤ t.arity
  pub most : pos t.arity ≤ℤ VALUE
  pub whole : MakeTuples t.arity t.cells
  pub valued : AllByRecursion IsValue t.cells

-- values that all are 0 or 1
abbrev pub AreBits : Option (List ℤ) → Type 0
AreBits None = ⊥
AreBits (Some values) = AllByRecursion (λ a. (a ≡ pos 0) ⊎ (a ≡ pos 1)) values

-- the term names a variable, as `Not` one with the values 0 and 1, or a value of a model
abbrev pub IsLawfulTerm : List (List ℤ) → Term → Type 0
IsLawfulTerm domains (Var v) = IsKnown domains v
IsLawfulTerm domains (Const k) = IsValue k
IsLawfulTerm domains (Not v) = IsKnown domains v × AreBits (slice_get domains (number_of v))

-- a 0/1 term: the constant 0 or 1, or a variable with these values, or one less it
abbrev pub IsBit : List (List ℤ) → Term → Type 0
IsBit domains (Var v) = AreBits (slice_get domains (number_of v))
IsBit domains (Const k) = (k ≡ pos 0) ⊎ (k ≡ pos 1)
IsBit domains (Not v) = AreBits (slice_get domains (number_of v))

-- a table has tuples of the length of its vector
abbrev pub SuitsTable : List Tuples → (ℕ × Tab) → Type 0
SuitsTable lists (places, Named n) = option_map (λ t. t.arity) (slice_get lists n) ≡ Some places
SuitsTable lists (places, Here arity cells) = (arity ≡ places) × MakeTuples arity cells

-- a vector keeps the limit of places
abbrev pub IsShort : List Term → Type 0
IsShort v = length v ≤ PLACES

-- a constraint is lawful beside variables with these domains and these tuple lists
pub record IsLawfulCon (domains : List (List ℤ)) (lists : List Tuples) (c : Con) : Type 0 where
  pub named : AllByRecursion (IsLawfulTerm domains) (places c)
  pub bits : AllByRecursion (IsBit domains) (bits c)
  pub constants : AllByRecursion IsValue (constants c)
  pub short : AllByRecursion IsShort (vectors c)
  pub tables : AllByRecursion (SuitsTable lists) (tables c)
  pub shaped : IsShaped c
  pub nested : nesting c ≤ NESTING
  pub written : IsWritten c

-- VARORDER names variables, each of them with its direction
pub record IsLawfulOrder (domains : List (List ℤ)) (o : Order) : Type 0 where
  pub known : AllByRecursion (IsKnown domains) o.vars
  pub few : length o.vars ≤ PLACES
  pub directed : length o.down ≡ length o.vars

-- what is maximised or minimised is a variable
abbrev pub IsLawfulGoal : List (List ℤ) → Option Goal → Type 0
IsLawfulGoal domains None = Unit {0}
IsLawfulGoal domains (Some g) = IsKnown domains g.var

-- a row that is printed has lawful terms, and no more than a vector
pub record IsLawfulRow (domains : List (List ℤ)) (row : List Term) : Type 0 where
  pub named : AllByRecursion (IsLawfulTerm domains) row
  pub short : IsShort row

abbrev pub IsLawfulPrint : List (List ℤ) → Print → Type 0
IsLawfulPrint domains All = Unit {0}
IsLawfulPrint domains Nothing = Unit {0}
IsLawfulPrint domains (Rows rows) = AllByRecursion (IsLawfulRow domains) rows

-- what every instance keeps
pub record IsLawful (p : Problem) : Type 0 where
  pub decls : AllByRecursion IsLawfulDecl p.decls
  pub distinct : AreNewAfter (λ d. d.name) [] p.decls
  pub numbered : AreNumberedFrom 0 p.decls
  pub few_variables : variable_count p.decls ≤ VARIABLES
  pub aliases : AllByRecursion (IsLawfulAlias (domains_of p.decls)) p.aliases
  pub new_aliases : AreNewAfter (λ a. a.name) [] p.aliases
  pub apart : AllByRecursion (λ a. declared_as p.decls a.name ≡ None) p.aliases
  pub tuples : AllByRecursion IsLawfulTuples p.tuples
  pub new_tuples : AreNewAfter (λ t. t.name) [] p.tuples
  pub cons : AllByRecursion (IsLawfulCon (domains_of p.decls) p.tuples) p.cons
  pub few_constraints : length p.cons ≤ CONSTRAINTS
  pub few_cells : cells_of p ≤ CELLS
  pub order : IsLawfulOrder (domains_of p.decls) p.order
  pub goal : IsLawfulGoal (domains_of p.decls) p.goal
  pub print : IsLawfulPrint (domains_of p.decls) p.print

-- a number at most one past the limit, as the constants of negations are
abbrev pub IsNear : ℤ → Type 0
IsNear k = ((neg_ℤ VALUE -ℤ pos 1) ≤ℤ k) × (k ≤ℤ (VALUE +ℤ pos 1))

-- a term whose constant is so
abbrev pub IsNearTerm : Term → Type 0
IsNearTerm (Var v) = Unit {0}
IsNearTerm (Const k) = IsNear k
IsNearTerm (Not v) = Unit {0}

-- the constants of a constraint, in its places and beside them, are at most one past the limit
pub record HasNearConstants (c : Con) : Type 0 where
  pub places : AllByRecursion IsNearTerm (places c)
  pub constants : AllByRecursion IsNear (constants c)

-- so are those of several constraints
pub record HaveNearConstants (cs : Cons) : Type 0 where
  pub places : AllByRecursion IsNearTerm (places_of cs)
  pub constants : AllByRecursion IsNear (constants_of cs)

-- what every lawful constraint and every negation of one keeps: it has a meaning beside these tuple lists, and its numbers
-- and vectors pass the limits by at most one
pub record IsMeant (lists : List Tuples) (c : Con) : Type 0 where
  pub near : HasNearConstants c
  pub short : AllByRecursion (λ v. length v ≤ PLACES + 1) (vectors c)
  pub tables : AllByRecursion (SuitsTable lists) (tables c)

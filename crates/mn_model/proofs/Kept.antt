-- What an instance keeps when it grows, and what it says of one declaration.
use Rattle.std.proofs.Common.{◌≡◌, ℕ, ℤ, zero, suc, ◌+◌, ◌<◌, ◌≤◌, Bool, true, false, cond, List, [], ◌∷◌, ◌++◌, length, map, replicate, slice_get, Option, Some, None, refl, sym, ap, subst, ◌∙◌, arith, length-append, append_assoc, append-nil, take, take_all, ◌-◌, String, string_bytes, true≢false}
use Rattle.std.proofs.lemmas.List.{length-replicate, map-append}
use Rattle.std.proofs.lemmas.List.Concat.{flat_map-append}
use Rattle.std.proofs.lemmas.Slice.Eq.{bytes_eq-Decides}
use Rattle.std.specs.Bool.{Decides}
use Rattle.std.specs.List.{AllByRecursion}
use Rattle.std.specs.Option.{option_map}
use Rattle.std.specs.Str.{bytes_eq}
use Rattle.mn_model.proofs.Sizes.{size_of_dims-positive}
use Rattle.mn_model.specs.Index.{entries_read, names_from, owners_from, declared_in, aliased_in}
use Rattle.mn_model.specs.Lawful.{AreBits, AreNewAfter, AreNumberedFrom, IsBit, IsKnown, IsLawful, IsLawfulAlias, IsLawfulCon, IsLawfulDecl, IsLawfulGoal, IsLawfulOrder, IsLawfulPrint, IsLawfulRow, IsLawfulTerm, IsLawfulTuples, SuitsTable}
use Rattle.mn_model.specs.Parts.{places, bits, tables, cell_count}
use Rattle.mn_model.specs.Problem.{Problem, size_of_dims, variables_of, variable_count, domains_of, called, declared_as, aliased_as, listed_as, total, cells_of}
use Rattle.mn_model.specs.Variable.{number_of}
use Rattle.mn_model.specs.declared.constraint.Con.{Con}
use Rattle.mn_model.specs.declared.constraint.Tab.{Tab}
use Rattle.mn_model.specs.declared.constraint.Tab.TheVariants.{Named, Here}
use Rattle.mn_model.specs.declared.constraint.Term.{Term}
use Rattle.mn_model.specs.declared.constraint.Term.TheVariants.{Var, Const, Not}
use Rattle.mn_model.specs.declared.declaration.Alias.{Alias}
use Rattle.mn_model.specs.declared.declaration.Decl.{Decl}
use Rattle.mn_model.specs.declared.declaration.Tuples.{Tuples}
use Rattle.mn_model.specs.declared.instance.Entry.{Entry}
use Rattle.mn_model.specs.declared.instance.Entry.TheVariants.{Declared, Aliased}
use Rattle.mn_model.specs.declared.limits.TheConstants.{CELLS, CONSTRAINTS, VARIABLES}
use Rattle.mn_model.specs.declared.search.Goal.{Goal}
use Rattle.mn_model.specs.declared.search.Order.{Order}
use Rattle.mn_model.specs.declared.search.Print.{Print}
use Rattle.mn_model.specs.declared.search.Print.TheVariants.{All, Nothing, Rows}
use Rattle.mn_model.specs.declared.variable.VarId.{VarId}
use Rattle.mn_model.proofs.Lists.{all_push, all_so}

-- a declaration's variables are among those of all
pub numbered_within : (n : ℕ) (decls : List Decl) (i : ℕ) (d : Decl) → AreNumberedFrom n decls → slice_get decls i ≡ Some d → number_of d.first + size_of_dims d.dims ≤ n + variable_count decls
numbered_within n [] i d numbered e = cc
numbered_within n (x ∷ decls) zero d numbered e =
    let same : x ≡ d = cc in
    let here = subst (λ y. number_of y.first ≡ n) same numbered.0 in
    let size : size_of_dims x.dims ≡ size_of_dims d.dims = ap (λ y. size_of_dims y.dims) same in
    omega (arith, length-append (replicate (size_of_dims x.dims) x) (variables_of decls), length-replicate (size_of_dims x.dims) x)
numbered_within n (x ∷ decls) (suc i) d numbered e =
    omega (arith, numbered_within (n + size_of_dims x.dims) decls i d numbered.1 e, length-append (replicate (size_of_dims x.dims) x) (variables_of decls), length-replicate (size_of_dims x.dims) x)

-- how the lists of an instance grow with a declaration
pub variables_of-push : (decls : List Decl) (d : Decl) → variables_of (decls ++ d ∷ []) ≡ variables_of decls ++ replicate (size_of_dims d.dims) d
variables_of-push decls d = flat_map-append (λ x. replicate (size_of_dims x.dims) x) decls (d ∷ []) ∙ ap (λ xs. variables_of decls ++ xs) (append-nil (replicate (size_of_dims d.dims) d))

pub variable_count-push : (decls : List Decl) (d : Decl) → variable_count (decls ++ d ∷ []) ≡ variable_count decls + size_of_dims d.dims
variable_count-push decls d = ap length (variables_of-push decls d) ∙ (length-append (variables_of decls) (replicate (size_of_dims d.dims) d) ∙ ap (λ k. variable_count decls + k) (length-replicate (size_of_dims d.dims) d))

pub domains_of-push : (decls : List Decl) (d : Decl) → domains_of (decls ++ d ∷ []) ≡ domains_of decls ++ map (λ x. x.domain) (replicate (size_of_dims d.dims) d)
domains_of-push decls d = ap (map (λ x. x.domain)) (variables_of-push decls d) ∙ map-append (λ x. x.domain) (variables_of decls) (replicate (size_of_dims d.dims) d)

pub names_from-push : {X : Type 0} (name_of : X → List ℕ) (n : ℕ) (xs : List X) (x : X) → names_from name_of n (xs ++ x ∷ []) ≡ names_from name_of n xs ++ (name_of x, n + length xs) ∷ []
names_from-push name_of n [] x = ap (λ k. (name_of x, k) ∷ []) (omega arith)
names_from-push name_of n (y ∷ xs) x = ap (λ es. (name_of y, n) ∷ es) (names_from-push name_of (n + 1) xs x ∙ ap (λ k. names_from name_of (n + 1) xs ++ (name_of x, k) ∷ []) (omega arith))

pub owners_from-push : (n : ℕ) (decls : List Decl) (d : Decl) → owners_from n (decls ++ d ∷ []) ≡ owners_from n decls ++ replicate (size_of_dims d.dims) (n + length decls)
owners_from-push n [] d = append-nil (replicate (size_of_dims d.dims) n) ∙ ap (replicate (size_of_dims d.dims)) (omega arith)
owners_from-push n (x ∷ decls) d =
    ap (λ os. replicate (size_of_dims x.dims) n ++ os) (owners_from-push (n + 1) decls d ∙ ap (λ k. owners_from (n + 1) decls ++ replicate (size_of_dims d.dims) k) (omega arith))
    ∙ sym (append_assoc (replicate (size_of_dims x.dims) n) (owners_from (n + 1) decls) (replicate (size_of_dims d.dims) (n + length (x ∷ decls))))

AreNewAfter-push : {X : Type 0} (name_of : X → List ℕ) (earlier xs : List X) (x : X) → AreNewAfter name_of earlier xs → called name_of (earlier ++ xs) (name_of x) ≡ None → AreNewAfter name_of earlier (xs ++ x ∷ [])
AreNewAfter-push name_of earlier [] x new fresh = (subst (λ ys. called name_of ys (name_of x) ≡ None) (append-nil earlier) fresh, tt)
AreNewAfter-push name_of earlier (y ∷ xs) x new fresh = (new.0, AreNewAfter-push name_of (earlier ++ y ∷ []) xs x new.1 (subst (λ ys. called name_of ys (name_of x) ≡ None) (sym (append_assoc earlier (y ∷ []) xs)) fresh))

AreNumberedFrom-push : (n : ℕ) (decls : List Decl) (d : Decl) → AreNumberedFrom n decls → number_of d.first ≡ n + variable_count decls → AreNumberedFrom n (decls ++ d ∷ [])
AreNumberedFrom-push n [] d numbered first = (first ∙ omega arith, tt)
AreNumberedFrom-push n (x ∷ decls) d numbered first =
    (numbered.0, AreNumberedFrom-push (n + size_of_dims x.dims) decls d numbered.1 (omega (arith, first, length-append (replicate (size_of_dims x.dims) x) (variables_of decls), length-replicate (size_of_dims x.dims) x)))

-- each declaration makes a variable
pub decls_within : (decls : List Decl) → AllByRecursion IsLawfulDecl decls → length decls ≤ variable_count decls
decls_within [] lawful = omega arith
decls_within (d ∷ decls) lawful =
    omega (arith, size_of_dims-positive d.dims lawful.0.shaped, decls_within decls lawful.1, length-append (replicate (size_of_dims d.dims) d) (variables_of decls), length-replicate (size_of_dims d.dims) d)

-- the front of a longer list
slice_get-front : {X : Type 0} (xs ys : List X) (i : ℕ) → i < length xs → slice_get (xs ++ ys) i ≡ slice_get xs i
slice_get-front [] ys i within = absurd (omega arith)
slice_get-front (x ∷ xs) ys zero within = refl
slice_get-front (x ∷ xs) ys (suc i) within = slice_get-front xs ys i (omega arith)

bytes_eq-sym : (xs ys : List ℕ) → bytes_eq ys xs ≡ bytes_eq xs ys
bytes_eq-sym xs ys = told (bytes_eq ys xs) (bytes_eq xs ys) (bytes_eq-Decides ys xs) (bytes_eq-Decides xs ys)
  where
    told : (b c : Bool) → Decides b (ys ≡ xs) → Decides c (xs ≡ ys) → b ≡ c
    told true true d e = refl
    told false false d e = refl
    told true false d e = absurd (true≢false (sym (e.1 (sym (d.0 refl)))))
    told false true d e = absurd (true≢false (sym (d.1 (sym (e.0 refl)))))

-- a place with a set of bits is one of the places
inside : (domains : List (List ℤ)) (n : ℕ) → AreBits (slice_get domains n) → n < length domains
inside [] n bits = absurd bits
inside (values ∷ domains) zero bits = omega arith
inside (values ∷ domains) (suc n) bits = let below = inside domains n bits in omega (arith, below)

-- more variables
module _ (domains more : List (List ℤ)) where
  known-more : (v : VarId) → IsKnown domains v → IsKnown (domains ++ more) v
  known-more v known = omega (arith, length-append domains more)

  within-bits : (n : ℕ) → AreBits (slice_get domains n) → n < length domains
  within-bits n bits = inside domains n bits

  bits-more : (n : ℕ) → AreBits (slice_get domains n) → AreBits (slice_get (domains ++ more) n)
  bits-more n bits = subst AreBits (sym (slice_get-front domains more n (within-bits n bits))) bits

  term-more : (t : Term) → IsLawfulTerm domains t → IsLawfulTerm (domains ++ more) t
  term-more (Var v) lawful = known-more v lawful
  term-more (Const k) lawful = lawful
  term-more (Not v) lawful = (known-more v lawful.0, bits-more (number_of v) lawful.1)

  bit-more : (t : Term) → IsBit domains t → IsBit (domains ++ more) t
  bit-more (Var v) bit = bits-more (number_of v) bit
  bit-more (Const k) bit = bit
  bit-more (Not v) bit = bits-more (number_of v) bit

  con-more : (lists : List Tuples) (c : Con) → IsLawfulCon domains lists c → IsLawfulCon (domains ++ more) lists c
  con-more lists c lawful = record {
    named = all_so (IsLawfulTerm domains) (IsLawfulTerm (domains ++ more)) term-more (places c) lawful.named;
    bits = all_so (IsBit domains) (IsBit (domains ++ more)) bit-more (bits c) lawful.bits;
    constants = lawful.constants;
    short = lawful.short;
    tables = lawful.tables;
    shaped = lawful.shaped;
    nested = lawful.nested;
    written = lawful.written;
  }

  alias-more : (a : Alias) → IsLawfulAlias domains a → IsLawfulAlias (domains ++ more) a
  alias-more a lawful = record {
    named = lawful.named;
    shaped = lawful.shaped;
    filled = lawful.filled;
    known = all_so (IsKnown domains) (IsKnown (domains ++ more)) known-more a.vars lawful.known;
  }

  order-more : (o : Order) → IsLawfulOrder domains o → IsLawfulOrder (domains ++ more) o
  order-more o lawful = record {
    known = all_so (IsKnown domains) (IsKnown (domains ++ more)) known-more o.vars lawful.known;
    few = lawful.few;
    directed = lawful.directed;
  }

  goal-more : (g : Option Goal) → IsLawfulGoal domains g → IsLawfulGoal (domains ++ more) g
  goal-more None lawful = lawful
  goal-more (Some g) lawful = known-more g.var lawful

  row-more : (row : List Term) → IsLawfulRow domains row → IsLawfulRow (domains ++ more) row
  row-more row lawful = record { named = all_so (IsLawfulTerm domains) (IsLawfulTerm (domains ++ more)) term-more row lawful.named; short = lawful.short }

  print-more : (p : Print) → IsLawfulPrint domains p → IsLawfulPrint (domains ++ more) p
  print-more All lawful = lawful
  print-more Nothing lawful = lawful
  print-more (Rows rows) lawful = all_so (IsLawfulRow domains) (IsLawfulRow (domains ++ more)) row-more rows lawful

-- a name that is no declaration's isn't one with a further declaration of another name
called-push : {X : Type 0} (name_of : X → List ℕ) (xs : List X) (x : X) (name : List ℕ) → called name_of xs name ≡ None → (bytes_eq name (name_of x) ≡ false) → called name_of (xs ++ x ∷ []) name ≡ None
called-push name_of [] x name none other = ap (λ b. cond b (Some x) None) other
called-push name_of (y ∷ xs) x name none other = by (bytes_eq name (name_of y)) none (λ none. called-push name_of xs x name none other)
  where
    by : (same : Bool) → cond same (Some y) (called name_of xs name) ≡ None → (called name_of xs name ≡ None → called name_of (xs ++ x ∷ []) name ≡ None) → cond same (Some y) (called name_of (xs ++ x ∷ []) name) ≡ None
    by true none later = cc
    by false none later = later none

-- aliases whose names are no declaration's, with a declaration of a name that is no alias's
apart-more : (decls : List Decl) (d : Decl) (aliases : List Alias) → AllByRecursion (λ a. declared_as decls a.name ≡ None) aliases → aliased_as aliases d.name ≡ None → AllByRecursion (λ a. declared_as (decls ++ d ∷ []) a.name ≡ None) aliases
apart-more decls d [] apart unused = tt
apart-more decls d (a ∷ aliases) apart unused = by (bytes_eq d.name a.name) refl unused (λ none. apart-more decls d aliases apart.1 none)
  where
    by : (same : Bool) → bytes_eq d.name a.name ≡ same → cond same (Some a) (aliased_as aliases d.name) ≡ None → (aliased_as aliases d.name ≡ None → AllByRecursion (λ a. declared_as (decls ++ d ∷ []) a.name ≡ None) aliases)
        → (declared_as (decls ++ d ∷ []) a.name ≡ None) × AllByRecursion (λ a. declared_as (decls ++ d ∷ []) a.name ≡ None) aliases
    by true same none later = cc
    by false same none later = (called-push (λ d. d.name) decls d a.name apart.0 (bytes_eq-sym d.name a.name ∙ same), later none)

-- one declaration more
pub IsLawful-declare : (p : Problem) (d : Decl) → IsLawful p → IsLawfulDecl d → declared_as p.decls d.name ≡ None → aliased_as p.aliases d.name ≡ None → number_of d.first ≡ variable_count p.decls
    → variable_count p.decls + size_of_dims d.dims ≤ VARIABLES → IsLawful (record p { decls = p.decls ++ d ∷ [] })
IsLawful-declare p d lawful new fresh unused first room =
    let more = map (λ x. x.domain) (replicate (size_of_dims d.dims) d) in
    let grown = sym (domains_of-push p.decls d) in
    record {
      decls = all_push IsLawfulDecl p.decls d lawful.decls new;
      distinct = AreNewAfter-push (λ d. d.name) [] p.decls d lawful.distinct fresh;
      numbered = AreNumberedFrom-push 0 p.decls d lawful.numbered (omega arith);
      few_variables = omega (arith, variable_count-push p.decls d);
      aliases = subst (λ domains. AllByRecursion (IsLawfulAlias domains) p.aliases) grown (all_so (IsLawfulAlias (domains_of p.decls)) (IsLawfulAlias (domains_of p.decls ++ more)) (alias-more (domains_of p.decls) more) p.aliases lawful.aliases);
      new_aliases = lawful.new_aliases;
      apart = apart-more p.decls d p.aliases lawful.apart unused;
      tuples = lawful.tuples;
      new_tuples = lawful.new_tuples;
      cons = subst (λ domains. AllByRecursion (IsLawfulCon domains p.tuples) p.cons) grown (all_so (IsLawfulCon (domains_of p.decls) p.tuples) (IsLawfulCon (domains_of p.decls ++ more) p.tuples) (con-more (domains_of p.decls) more p.tuples) p.cons lawful.cons);
      few_constraints = lawful.few_constraints;
      few_cells = lawful.few_cells;
      order = subst (λ domains. IsLawfulOrder domains p.order) grown (order-more (domains_of p.decls) more p.order lawful.order);
      goal = subst (λ domains. IsLawfulGoal domains p.goal) grown (goal-more (domains_of p.decls) more p.goal lawful.goal);
      print = subst (λ domains. IsLawfulPrint domains p.print) grown (print-more (domains_of p.decls) more p.print lawful.print);
    }

-- one alias more
pub IsLawful-alias : (p : Problem) (a : Alias) → IsLawful p → IsLawfulAlias (domains_of p.decls) a → declared_as p.decls a.name ≡ None → aliased_as p.aliases a.name ≡ None → IsLawful (record p { aliases = p.aliases ++ a ∷ [] })
IsLawful-alias p a lawful new fresh unused = record {
  decls = lawful.decls;
  distinct = lawful.distinct;
  numbered = lawful.numbered;
  few_variables = lawful.few_variables;
  aliases = all_push (IsLawfulAlias (domains_of p.decls)) p.aliases a lawful.aliases new;
  new_aliases = AreNewAfter-push (λ a. a.name) [] p.aliases a lawful.new_aliases unused;
  apart = all_push (λ a. declared_as p.decls a.name ≡ None) p.aliases a lawful.apart fresh;
  tuples = lawful.tuples;
  new_tuples = lawful.new_tuples;
  cons = lawful.cons;
  few_constraints = lawful.few_constraints;
  few_cells = lawful.few_cells;
  order = lawful.order;
  goal = lawful.goal;
  print = lawful.print;
}

pub total-push : {X : Type 0} (count : X → ℕ) (xs : List X) (x : X) → total count (xs ++ x ∷ []) ≡ total count xs + count x
total-push count [] x = omega arith
total-push count (y ∷ xs) x = omega (arith, total-push count xs x)

-- a constraint stays lawful with one more tuple list
found-more : (lists : List Tuples) (t : Tuples) (n places : ℕ) → option_map (λ t. t.arity) (slice_get lists n) ≡ Some places → option_map (λ t. t.arity) (slice_get (lists ++ t ∷ []) n) ≡ Some places
found-more [] t n places e = cc
found-more (x ∷ lists) t zero places e = e
found-more (x ∷ lists) t (suc n) places e = found-more lists t n places e

table-more : (lists : List Tuples) (t : Tuples) (table : ℕ × Tab) → SuitsTable lists table → SuitsTable (lists ++ t ∷ []) table
table-more lists t (places, Named n) suits = found-more lists t n places suits
table-more lists t (places, Here arity cells) suits = suits

con-listed : (domains : List (List ℤ)) (lists : List Tuples) (t : Tuples) (c : Con) → IsLawfulCon domains lists c → IsLawfulCon domains (lists ++ t ∷ []) c
con-listed domains lists t c lawful = record {
  named = lawful.named;
  bits = lawful.bits;
  constants = lawful.constants;
  short = lawful.short;
  tables = all_so (SuitsTable lists) (SuitsTable (lists ++ t ∷ [])) (table-more lists t) (tables c) lawful.tables;
  shaped = lawful.shaped;
  nested = lawful.nested;
  written = lawful.written;
}

-- one tuple list more
pub IsLawful-tuples : (p : Problem) (t : Tuples) → IsLawful p → IsLawfulTuples t → listed_as p.tuples t.name ≡ None → cells_of p + length t.cells ≤ CELLS → IsLawful (record p { tuples = p.tuples ++ t ∷ [] })
IsLawful-tuples p t lawful new unused room = record {
  decls = lawful.decls;
  distinct = lawful.distinct;
  numbered = lawful.numbered;
  few_variables = lawful.few_variables;
  aliases = lawful.aliases;
  new_aliases = lawful.new_aliases;
  apart = lawful.apart;
  tuples = all_push IsLawfulTuples p.tuples t lawful.tuples new;
  new_tuples = AreNewAfter-push (λ t. t.name) [] p.tuples t lawful.new_tuples unused;
  cons = all_so (IsLawfulCon (domains_of p.decls) p.tuples) (IsLawfulCon (domains_of p.decls) (p.tuples ++ t ∷ [])) (con-listed (domains_of p.decls) p.tuples t) p.cons lawful.cons;
  few_constraints = lawful.few_constraints;
  few_cells = omega (arith, total-push (λ t. length t.cells) p.tuples t, room);
  order = lawful.order;
  goal = lawful.goal;
  print = lawful.print;
}

-- one constraint more
pub IsLawful-add : (p : Problem) (c : Con) → IsLawful p → IsLawfulCon (domains_of p.decls) p.tuples c → length p.cons < CONSTRAINTS → cells_of p + cell_count c ≤ CELLS → IsLawful (record p { cons = p.cons ++ c ∷ [] })
IsLawful-add p c lawful new room cells = record {
  decls = lawful.decls;
  distinct = lawful.distinct;
  numbered = lawful.numbered;
  few_variables = lawful.few_variables;
  aliases = lawful.aliases;
  new_aliases = lawful.new_aliases;
  apart = lawful.apart;
  tuples = lawful.tuples;
  new_tuples = lawful.new_tuples;
  cons = all_push (IsLawfulCon (domains_of p.decls) p.tuples) p.cons c lawful.cons new;
  few_constraints = omega (arith, length-append p.cons (c ∷ []), room);
  few_cells = omega (arith, total-push cell_count p.cons c, cells);
  order = lawful.order;
  goal = lawful.goal;
  print = lawful.print;
}

-- another order, objective and print
pub IsLawful-search : (p : Problem) (o : Order) (g : Option Goal) (q : Print) → IsLawful p → IsLawfulOrder (domains_of p.decls) o → IsLawfulGoal (domains_of p.decls) g → IsLawfulPrint (domains_of p.decls) q → IsLawful (record p { order = o; goal = g; print = q })
IsLawful-search p o g q lawful ordered aimed printed = record {
  decls = lawful.decls;
  distinct = lawful.distinct;
  numbered = lawful.numbered;
  few_variables = lawful.few_variables;
  aliases = lawful.aliases;
  new_aliases = lawful.new_aliases;
  apart = lawful.apart;
  tuples = lawful.tuples;
  new_tuples = lawful.new_tuples;
  cons = lawful.cons;
  few_constraints = lawful.few_constraints;
  few_cells = lawful.few_cells;
  order = ordered;
  goal = aimed;
  print = printed;
}

-- the index of names, and that of owners, with the new declaration
pub declared_in-push : (entries : List (List ℕ × Entry)) (name : List ℕ) (place : ℕ) → declared_in (entries ++ (name, Declared place) ∷ []) ≡ declared_in entries ++ (name, place) ∷ []
declared_in-push [] name place = refl
declared_in-push ((key, Declared k) ∷ entries) name place = ap (λ es. (key, k) ∷ es) (declared_in-push entries name place)
declared_in-push ((key, Aliased k) ∷ entries) name place = declared_in-push entries name place

pub declared_in-past : (entries : List (List ℕ × Entry)) (name : List ℕ) (place : ℕ) → declared_in (entries ++ (name, Aliased place) ∷ []) ≡ declared_in entries
declared_in-past [] name place = refl
declared_in-past ((key, Declared k) ∷ entries) name place = ap (λ es. (key, k) ∷ es) (declared_in-past entries name place)
declared_in-past ((key, Aliased k) ∷ entries) name place = declared_in-past entries name place

pub aliased_in-push : (entries : List (List ℕ × Entry)) (name : List ℕ) (place : ℕ) → aliased_in (entries ++ (name, Aliased place) ∷ []) ≡ aliased_in entries ++ (name, place) ∷ []
aliased_in-push [] name place = refl
aliased_in-push ((key, Aliased k) ∷ entries) name place = ap (λ es. (key, k) ∷ es) (aliased_in-push entries name place)
aliased_in-push ((key, Declared k) ∷ entries) name place = aliased_in-push entries name place

pub aliased_in-past : (entries : List (List ℕ × Entry)) (name : List ℕ) (place : ℕ) → aliased_in (entries ++ (name, Declared place) ∷ []) ≡ aliased_in entries
aliased_in-past [] name place = refl
aliased_in-past ((key, Aliased k) ∷ entries) name place = ap (λ es. (key, k) ∷ es) (aliased_in-past entries name place)
aliased_in-past ((key, Declared k) ∷ entries) name place = aliased_in-past entries name place

-- the entries of an index with one more
pub read-push : {A V : Type 0} (entries : List (String A × V)) (key : String A) (value : V) (name : List ℕ) → string_bytes key ≡ name → entries_read (entries ++ (key, value) ∷ []) ≡ entries_read entries ++ (name, value) ∷ []
read-push entries key value name same = map-append (λ e. (string_bytes e.0, e.1)) entries ((key, value) ∷ []) ∙ ap (λ n. entries_read entries ++ (n, value) ∷ []) same

-- names, each with its place, with one more
pub named-push : {X : Type 0} (name_of : X → List ℕ) (names : List (List ℕ × ℕ)) (xs : List X) (x : X) (place : ℕ) → names ≡ names_from name_of 0 xs → place ≡ length xs → names ++ (name_of x, place) ∷ [] ≡ names_from name_of 0 (xs ++ x ∷ [])
named-push name_of names xs x place named at =
    (λ i. named i ++ (name_of x, at i) ∷ []) ∙ (ap (λ k. names_from name_of 0 xs ++ (name_of x, k) ∷ []) (omega arith) ∙ sym (names_from-push name_of 0 xs x))

pub owned-push : (owners : List ℕ) (decls : List Decl) (d : Decl) (place n : ℕ) → owners ≡ owners_from 0 decls → place ≡ length decls → n ≡ length owners + size_of_dims d.dims
    → take n owners ++ replicate (n - length owners) place ≡ owners_from 0 (decls ++ d ∷ [])
owned-push owners decls d place n owned at size =
    let all : take n owners ≡ owners = take_all n owners (omega arith) in
    let count : n - length owners ≡ size_of_dims d.dims = omega arith in
    (λ i. all i ++ replicate (count i) (at i)) ∙ ((λ i. owned i ++ replicate (size_of_dims d.dims) (length decls)) ∙ (ap (λ k. owners_from 0 decls ++ replicate (size_of_dims d.dims) k) (omega arith) ∙ sym (owners_from-push 0 decls d)))

-- The variables of declarations, and the places of their declarations.
use Rattle.std.proofs.Common.{◌≡◌, ℕ, zero, suc, ◌+◌, ◌-◌, ◌<◌, ◌≤◌, List, [], ◌∷◌, ◌++◌, length, replicate, slice_get, get_or, Some, refl, sym, ap, ◌∙◌, inl, inr, arith, length-append}
use Rattle.std.proofs.lemmas.List.{length-replicate, length-map}
use Rattle.std.proofs.lemmas.Option.{get_or_from_slice_get}
use Rattle.std.proofs.lemmas.Bool.{cases_lt}
use Rattle.mn_model.specs.Index.{owners_from}
use Rattle.mn_model.specs.Problem.{size_of_dims, variables_of, variable_count, domains_of}
use Rattle.mn_model.specs.declared.declaration.Decl.{Decl}

-- copies in front of a list
front : {X : Type 0} (k : ℕ) (a : X) (xs : List X) (v : ℕ) → v < k → slice_get (replicate k a ++ xs) v ≡ Some a
front zero a xs v below = absurd (omega arith)
front (suc k) a xs zero below = refl
front (suc k) a xs (suc v) below = front k a xs v (omega arith)

behind : {X : Type 0} (k : ℕ) (a : X) (xs : List X) (v : ℕ) → k ≤ v → slice_get (replicate k a ++ xs) v ≡ slice_get xs (v - k)
behind zero a xs v above = let e : v - 0 ≡ v = omega arith in rw e refl
behind (suc k) a xs zero above = absurd (omega arith)
behind (suc k) a xs (suc v) above = let e : suc v - suc k ≡ v - k = omega arith in rw e (behind k a xs v (omega arith))

pub length-owners_from : (n : ℕ) (decls : List Decl) → length (owners_from n decls) ≡ variable_count decls
length-owners_from n [] = refl
length-owners_from n (d ∷ decls) =
    rw (length-append (replicate (size_of_dims d.dims) n) (owners_from (n + 1) decls), length-replicate (size_of_dims d.dims) n, length-append (replicate (size_of_dims d.dims) d) (variables_of decls), length-replicate (size_of_dims d.dims) d, length-owners_from (n + 1) decls) refl

-- which declaration variable v has: the one at place k
pub record OwnedAt (n : ℕ) (decls : List Decl) (v : ℕ) : Type 0 where
  pub place : ℕ
  pub within : place < length decls
  pub owner : slice_get (owners_from n decls) v ≡ Some (n + place)
  pub declared : slice_get (variables_of decls) v ≡ slice_get decls place

pub variable_count-cons : (d : Decl) (decls : List Decl) → variable_count (d ∷ decls) ≡ size_of_dims d.dims + variable_count decls
variable_count-cons d decls = length-append (replicate (size_of_dims d.dims) d) (variables_of decls) ∙ ap (λ k. k + variable_count decls) (length-replicate (size_of_dims d.dims) d)

owned_here : (n : ℕ) (d : Decl) (decls : List Decl) (v : ℕ) → v < size_of_dims d.dims → OwnedAt n (d ∷ decls) v
owned_here n d decls v here = record {
  place = 0;
  within = omega arith;
  owner = front (size_of_dims d.dims) n (owners_from (n + 1) decls) v here ∙ ap Some (omega arith);
  declared = front (size_of_dims d.dims) d (variables_of decls) v here;
}

owned_there : (n : ℕ) (d : Decl) (decls : List Decl) (v : ℕ) → size_of_dims d.dims ≤ v → OwnedAt (n + 1) decls (v - size_of_dims d.dims) → OwnedAt n (d ∷ decls) v
owned_there n d decls v there rest = record {
  place = suc rest.place;
  within = let w = rest.within in omega arith;
  owner = behind (size_of_dims d.dims) n (owners_from (n + 1) decls) v there ∙ (rest.owner ∙ ap Some (omega arith));
  declared = behind (size_of_dims d.dims) d (variables_of decls) v there ∙ rest.declared;
}

pub owned_at : (n : ℕ) (decls : List Decl) (v : ℕ) → v < variable_count decls → OwnedAt n decls v
owned_at n [] v below = absurd (omega arith)
owned_at n (d ∷ decls) v below =
    elim (cases_lt v (size_of_dims d.dims)) [
      | inl here ↦ owned_here n d decls v here
      | inr there ↦ owned_there n d decls v there (owned_at (n + 1) decls (v - size_of_dims d.dims) (omega (arith, variable_count-cons d decls)))
    ]

-- the same, as the code reads it: `place` is what is read at variable v
module _ (decls : List Decl) (v place : ℕ) (known : v < variable_count decls) (read : place ≡ get_or (owners_from 0 decls) v place) where
  owner-is : place ≡ (owned_at 0 decls v known).place
  owner-is = let o = owned_at 0 decls v known in read ∙ (get_or_from_slice_get (owners_from 0 decls) v (0 + o.place) place o.owner ∙ omega arith)

  pub owner-within : place < length decls
  owner-within = let o = owned_at 0 decls v known in let w = o.within in omega (arith, owner-is)

  pub owner-declares : slice_get (variables_of decls) v ≡ slice_get decls place
  owner-declares = (owned_at 0 decls v known).declared ∙ ap (slice_get decls) (sym owner-is)

pub length-domains_of : (decls : List Decl) → length (domains_of decls) ≡ variable_count decls
length-domains_of decls = length-map (variables_of decls) (λ d. d.domain)

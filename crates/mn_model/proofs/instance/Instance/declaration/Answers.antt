use Rattle.std.proofs.Common.{◌≡◌, ℕ, ◌<◌, ap, subst, sym, ◌∙◌, arith, length, get_or, List, slice_get, Some, refl}
use Rattle.std.proofs.lemmas.Option.{slice_get_read}
use Rattle.mn_model.proofs.Variables.{length-owners_from, owner-within, owner-declares}
use Rattle.mn_model.specs.Index.{owners_from}
use Rattle.mn_model.specs.Problem.{variable_count, variables_of}
use Rattle.mn_model.specs.declared.declaration.Decl.{Decl}
use Rattle.mn_model.proofs.instance.Instance.declaration.Goals as goal

-- the variable is declared by what the instance holds
known : (decls all : List Decl) (v : ℕ) → decls ≡ all → v < variable_count all → v < variable_count decls
known decls all v same below = subst (λ ds. v < variable_count ds) (sym same) below

-- what is read is what the index of owners says
read_as : (decls : List Decl) {owners : List ℕ} {i v : ℕ} (place : ℕ) → owners ≡ owners_from 0 decls → i ≡ v → place ≡ get_or owners i place → place ≡ get_or (owners_from 0 decls) v place
read_as decls place owned same read = read ∙ (λ j. get_or (owned j) (same j) place)

pub index-requires : goal.index-requires
index-requires c =
    let counted = c.self.inside.owners.ok.0 ∙ (ap length c.self.invariant.owned ∙ length-owners_from 0 c.self.inside.decls.items) in
    omega (arith, counted, c.number.ensures, known _ _ c.number.result (ap (λ p. p.decls) c.self.view_is) (rw c.number.ensures c.requires))

pub index-requires-2 : goal.index-requires-2
index-requires-2 c =
    let below = known _ _ c.args.v.0 (ap (λ p. p.decls) c.self.view_is) c.requires in
    omega (arith, c.self.inside.decls.ok.0, owner-within c.self.inside.decls.items c.args.v.0 c.index.result.now below (read_as c.self.inside.decls.items c.index.result.now c.self.invariant.owned c.number.ensures c.index.ensures))

pub returns : goal.returns
returns c =
    let below = known _ _ c.args.v.0 (ap (λ p. p.decls) c.self.view_is) c.requires in
    let read = read_as c.self.inside.decls.items c.index.result.now c.self.invariant.owned c.number.ensures c.index.ensures in
    subst (λ (ds : List Decl). slice_get (variables_of ds) c.args.v.0 ≡ Some c.index-2.result.now) (ap (λ p. p.decls) c.self.view_is)
    (owner-declares c.self.inside.decls.items c.args.v.0 c.index.result.now below read
    ∙ slice_get_read c.self.inside.decls.items (length c.self.inside.decls.items) c.index.result.now c.index-2.result.now refl
    (owner-within c.self.inside.decls.items c.args.v.0 c.index.result.now below read) c.index-2.ensures)

-- The declared sets as a box.
use Rattle.std.proofs.Common.{ℕ, zero, suc, ℤ, List, [], ◌∷◌, ◌++◌, map, replicate}
use Rattle.std.specs.List.{AllByRecursion}
use Rattle.mn_model.specs.Domain.{Has}
use Rattle.mn_model.specs.Lawful.{IsLawfulDecl}
use Rattle.mn_model.specs.Problem.{domains_of, size_of_dims, variables_of}
use Rattle.mn_model.specs.declared.declaration.Decl.{Decl}
use Rattle.mn_boxes.specs.Boxes.{Inside, IsBox, declared_variables, set_of}
use Rattle.mn_boxes.specs.Sets.{IsSetOf, variable_of}

-- the values of a lawful declaration are a set of its variables
pub declared_set : (d : Decl) → IsLawfulDecl d → IsSetOf (variable_of d) d.domain
declared_set d lawful = record {
  filled = lawful.domain.filled;
  ascends = lawful.domain.ascends;
  declared = λ a has. has;
  stretch = λ t a b c at_a at_c low high has. has;
}

box_of : (ds : List Decl) → AllByRecursion IsLawfulDecl ds → IsBox (map variable_of ds) (map (λ d. d.domain) ds)
box_of [] lawful = tt
box_of (d ∷ ds) lawful = (declared_set d lawful.0, box_of ds lawful.1)

replicated : (n : ℕ) (d : Decl) (ds : List Decl) → IsLawfulDecl d → AllByRecursion IsLawfulDecl ds → AllByRecursion IsLawfulDecl (replicate n d ++ ds)
replicated zero d ds here rest = rest
replicated (suc n) d ds here rest = (here, replicated n d ds here rest)

pub lawful_variables : (decls : List Decl) → AllByRecursion IsLawfulDecl decls → AllByRecursion IsLawfulDecl (variables_of decls)
lawful_variables [] lawful = tt
lawful_variables (d ∷ decls) lawful = replicated (size_of_dims d.dims) d (variables_of decls) lawful.0 (lawful_variables decls lawful.1)

pub declared_box : (decls : List Decl) → AllByRecursion IsLawfulDecl decls → IsBox (declared_variables decls) (domains_of decls)
declared_box decls lawful = box_of (variables_of decls) (lawful_variables decls lawful)

-- each box is inside the declared one
inside_declared : (ds : List Decl) (box : List (List ℤ)) → IsBox (map variable_of ds) box → (v : ℕ) (a : ℤ) → Has (set_of box v) a → Has (set_of (map (λ d. d.domain) ds) v) a
inside_declared [] [] is v a has = has
inside_declared [] (xs ∷ box) is v a has = absurd is
inside_declared (d ∷ ds) [] is v a has = absurd is
inside_declared (d ∷ ds) (xs ∷ box) is zero a has = is.0.declared a has
inside_declared (d ∷ ds) (xs ∷ box) is (suc v) a has = inside_declared ds box is.1 v a has

pub around_boxes : (decls : List Decl) (box : List (List ℤ)) → IsBox (declared_variables decls) box → Inside box (domains_of decls)
around_boxes decls box is = record { within = inside_declared (variables_of decls) box is }

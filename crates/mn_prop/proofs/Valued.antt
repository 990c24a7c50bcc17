-- The values of variables and places are near the values of a model.
use Rattle.std.proofs.Common.{ℕ, zero, suc, ℤ, pos, ◌-ℤ◌, FitsSigned, w64, List, [], ◌∷◌, map, arith}
use Rattle.std.proofs.lemmas.Int.{ints}
use Rattle.std.specs.List.{AllByRecursion}
use Rattle.mn_model.specs.Domain.{Has, IsValue}
use Rattle.mn_model.specs.Lawful.{IsLawfulDecl}
use Rattle.mn_model.specs.declared.declaration.Decl.{Decl}
use Rattle.mn_boxes.specs.Boxes.{IsBox, declared_variables, set_of}
use Rattle.mn_boxes.specs.Sets.{Variable, variable_of}
use Rattle.mn_boxes.proofs.Declared.{lawful_variables}
use Rattle.mn_model.specs.Problem.{variables_of}
use Rattle.mn_model.proofs.Ordered.{each_valued}
use Rattle.mn_prop.specs.Contexts.{AreValued}

valued_of : (ds : List Decl) → AllByRecursion IsLawfulDecl ds → AreValued (map variable_of ds)
valued_of [] lawful = tt
valued_of (d ∷ ds) lawful = (lawful.0.domain.valued, valued_of ds lawful.1)

-- what lawful declarations declare
pub declared_valued : (decls : List Decl) → AllByRecursion IsLawfulDecl decls → AreValued (declared_variables decls)
declared_valued decls lawful = valued_of (variables_of decls) (lawful_variables decls lawful)

-- a value that is there is a value of a model
pub valued_at : (vars : List Variable) (box : List (List ℤ)) (v : ℕ) (a : ℤ) → IsBox vars box → AreValued vars → Has (set_of box v) a → IsValue a
valued_at [] [] v a is valued has = absurd has
valued_at [] (xs ∷ box) v a is valued has = absurd is
valued_at (var ∷ vars) [] v a is valued has = absurd is
valued_at (var ∷ vars) (xs ∷ box) zero a is valued has = each_valued var.declared a valued.0 (is.0.declared a has)
valued_at (var ∷ vars) (xs ∷ box) (suc v) a is valued has = valued_at vars box v a is.1 valued.1 has

-- one less it fits
pub less_fits : (a : ℤ) → IsValue a → FitsSigned w64 (pos 1 -ℤ a)
less_fits a is = let low = is.0 in let high = is.1 in omega (arith, ints)

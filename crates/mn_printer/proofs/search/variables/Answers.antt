use Rattle.std.proofs.Common.{◌≡◌, List, [], ◌∷◌, length, refl, arith}
use Rattle.std.proofs.lemmas.Bool.Decides.{nat_tests}
use Rattle.mn_model.specs.Problem.{Problem}
use Rattle.mn_model.specs.declared.variable.VarId.{VarId}
use Rattle.mn_canonical.specs.Search.{variables_text}
use Rattle.mn_printer.proofs.Joining.{onto_none}
use Rattle.mn_printer.proofs.search.variables.Goals as goal

pub returns-then-is_empty : goal.returns-then-is_empty
returns-then-is_empty c =
    let none : length c.args.vars.now ≡ 0 = grind (arith, nat_tests) in
    onto_none _ _ (no_line c.args.inst.now c.args.vars.now none)
  where
    no_line : (p : Problem) (vars : List VarId) → length vars ≡ 0 → variables_text p vars ≡ []
    no_line p [] none = refl
    no_line p (v ∷ vars) none = absurd (omega arith)

use Rattle.std.proofs.Common.{◌≡◌, ◌≤◌, sym, ap, ◌∙◌, subst, arith}
use Rattle.std.specs.List.{AllByRecursion}
use Rattle.mn_model.specs.Problem.{size_of_dims}
use Rattle.mn_references.proofs.LookingUp.{listed_known}
use Rattle.mn_references.proofs.lookup.look_up.Goals as goal

pub returns-in-Some-clause-fits : goal.returns-in-Some-clause-fits
returns-in-Some-clause-fits c =
    let size : c.size_of.result ≡ size_of_dims c.in-Some.decl.now.dims = c.size_of.ensures ∙ ap size_of_dims c.as_slice-dims.ensures in
    let among = c.in-Some.ensures.among in
    record {
      shaped = subst (AllByRecursion (λ dim. 1 ≤ dim)) (sym c.as_slice-dims.ensures) c.in-Some.ensures.lawful.shaped;
      size = c.size_of.ensures;
      filled = tt;
      known = λ place within. omega (arith, size, among, within);
      few = c.lawful.ensures.few_variables;
    }

pub returns-clause-fits : goal.returns-clause-fits
returns-clause-fits c =
    let lawful = c.in_ok-alias.ensures.lawful in
    record {
      shaped = subst (AllByRecursion (λ dim. 1 ≤ dim)) (sym c.as_slice.ensures) lawful.shaped;
      size = c.len.ensures ∙ lawful.filled ∙ ap size_of_dims (sym c.as_slice.ensures);
      filled = sym c.len.ensures;
      known = λ place within. listed_known c.args.inst.now c.in_ok-alias.alias.now.vars place lawful.known (omega (arith, within, c.len.ensures));
      few = c.lawful.ensures.few_variables;
    }

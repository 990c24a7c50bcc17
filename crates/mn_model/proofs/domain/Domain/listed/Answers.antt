use Rattle.std.proofs.Common.{◌≡◌, ◌-◌, Some, slice_get, rules, subst, w64}
use Rattle.std.proofs.lemmas.Int.{to_z-of_z}
use Rattle.mn_model.proofs.Ascending.{ends}
use Rattle.mn_model.proofs.domain.Domain.listed.Goals as goal

pub invariant_of-result : goal.invariant_of-result
invariant_of-result c =
    let is = ends c.args.values c.get.result.now c.get-2.result.now c.requires.filled c.requires.ascends c.requires.valued c.get.ensures (subst (λ n. slice_get c.args.values (n - 1) ≡ Some c.get-2.result.now) c.len.ensures c.get-2.ensures) in
    rw (to_z-of_z w64 c.get.result.now (search rules), to_z-of_z w64 c.get-2.result.now (search rules)) is

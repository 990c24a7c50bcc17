use Rattle.std.proofs.Common.{refl, sym, subst, true≢false, int_cmp, rules, w64}
use Rattle.std.proofs.lemmas.Int.{to_z-of_z}
use Rattle.std.specs.List.Sorted.{IsBinarySearchResult}
use Rattle.mn_model.proofs.Ascending.{searched_domain, tests_both, tests_one}
use Rattle.mn_model.proofs.Stretches.{has_stretch}
use Rattle.mn_model.proofs.domain.Domain.has.Goals as goal

pub returns-then-self-a : goal.returns-then-self-a
returns-then-self-a c =
    let between = has_stretch c.self.inside.lo c.self.inside.hi c.self.inside.listed c.args.self.now c.args.a c.self.invariant.ordered (c.if-is_empty.ensures.0 refl) c.self.view_is in
    tests_both c.self.inside.lo c.self.inside.hi c.args.a _ _ _ (to_z-of_z w64 c.self.inside.lo (search rules)) (to_z-of_z w64 c.args.a c.ranges.a) (to_z-of_z w64 c.self.inside.hi (search rules)) between c.if-self-a.true

pub returns-else-self-a : goal.returns-else-self-a
returns-else-self-a c =
    let between = has_stretch c.self.inside.lo c.self.inside.hi c.self.inside.listed c.args.self.now c.args.a c.self.invariant.ordered (c.if-is_empty.ensures.0 refl) c.self.view_is in
    tests_one c.self.inside.lo c.self.inside.hi c.args.a _ _ (to_z-of_z w64 c.self.inside.lo (search rules)) (to_z-of_z w64 c.args.a c.ranges.a) between c.if-self-a.false

pub returns-else-is_empty : goal.returns-else-is_empty
returns-else-is_empty c =
    rw c.is_ok.ensures.value (searched_domain c.self.inside.lo c.self.inside.hi c.args.a c.self.inside.listed c.args.self.now c.as_slice.result.now c.binary_search.result (λ none. true≢false (sym (c.if-is_empty.ensures.1 none))) c.self.view_is c.self.invariant.domain.ascends c.as_slice.ensures c.binary_search.ensures.bound
    (subst (λ a. IsBinarySearchResult (λ y. int_cmp y a) c.as_slice.result.now c.binary_search.result) (to_z-of_z w64 c.args.a c.ranges.a) c.binary_search.ensures.position))

use Rattle.std.proofs.Common.{rules, of_calls, int_le, int_lt}
use Rattle.std.proofs.lemmas.Fn.{always_returns_same}
use Rattle.mn_model.proofs.Filtered.{filter_drop, filter_take}
use Rattle.mn_model.proofs.Ordered.{at_least, less_in_front, not_at_least}
use Rattle.mn_decls.proofs.values.places_below.Goals as goal

pub returns-clause-below : goal.returns-clause-below
returns-clause-below c =
    let point = c.partition_point.ensures.partitioned (λ x. int_lt x c.args.a) (always_returns_same _ _ _ (λ a r f k. search (rules, of_calls)))
    (λ i j d order within less. less_in_front c.args.values.now c.args.a i j d c.requires order within less) in
    filter_take (λ x. int_lt x c.args.a) c.args.values.now c.partition_point.result point.0 point.1

pub returns-clause-others : goal.returns-clause-others
returns-clause-others c =
    let point = c.partition_point.ensures.partitioned (λ x. int_lt x c.args.a) (always_returns_same _ _ _ (λ a r f k. search (rules, of_calls)))
    (λ i j d order within less. less_in_front c.args.values.now c.args.a i j d c.requires order within less) in
    filter_drop (λ x. int_le c.args.a x) c.args.values.now c.partition_point.result
    (λ k d low high. not_at_least _ c.args.a (point.0 k d low high)) (λ k d low high. at_least _ c.args.a (point.1 k d low high))

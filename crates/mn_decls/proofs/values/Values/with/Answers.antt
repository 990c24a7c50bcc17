use Rattle.std.proofs.Common.{rules, ◌≡◌, sym, subst}
use Rattle.std.specs.List.{AllByRecursion}
use Rattle.mn_model.specs.Domain.{Ascends, IsValue}
use Rattle.mn_decls.specs.Variables.{with_range}
use Rattle.mn_decls.proofs.Ranges.{put_together, range_ascends, range_values}
use Rattle.mn_decls.proofs.values.Values.with.Goals as goal

pub invariant_of-result : goal.invariant_of-result
invariant_of-result c =
    let whole : c.append.new.items.items ≡ with_range c.self.inside.items.items c.args.lo c.args.hi =
    put_together c.self.inside.items.items c.truncate.new.self.items c.push_all.new.items.items c.append.new.items.items c.args.lo c.args.hi c.places_below-below.result c.places_to-to.result
    (search rules) (search rules) (search rules) (search rules) (search rules) in (
      subst Ascends (sym whole) (range_ascends c.self.inside.items.items c.args.lo c.args.hi c.requires.ordered c.self.invariant.0),
      subst (AllByRecursion IsValue) (sym whole) (range_values c.self.inside.items.items c.args.lo c.args.hi c.requires.ordered c.requires.low c.requires.high c.self.invariant.1),
    )

pub returns : goal.returns
returns c =
    put_together c.args.self c.truncate.new.self.items c.push_all.new.items.items c.append.new.items.items c.args.lo c.args.hi c.places_below-below.result c.places_to-to.result
    (search rules) (search rules) (search rules) (search rules) (search rules)

use Rattle.std.proofs.Common.{w64}
use Rattle.std.proofs.lemmas.Int.{to_z-of_z}
use Rattle.mn_model.proofs.Stretches.{Has-stretch}
use Rattle.mn_domains.proofs.Parts.{Ascends-part}
use Rattle.mn_domains.proofs.shape.has.Goals as goal

pub has-requires-clause-ascends : goal.has-requires-clause-ascends
has-requires-clause-ascends c =
    let listing = rw c.in-Listed.is at c.requires.shape in
    let within = rw c.in-Listed.is at c.requires.held.within in
    Ascends-part c.args.listed.now c.in-Listed.field-0 c.in-Listed.field-1 c.args.ends listing.ascends within.0 within.1

pub returns-in-Stretch : goal.returns-in-Stretch
returns-in-Stretch c =
    let between = Has-stretch c.args.ends.lo c.args.ends.hi c.args.a c.requires.held.ends.ordered in
    let reach = rw (to_z-of_z w64 c.args.a c.ranges.a) at c.reach.ensures in
    rw c.in-Stretch.is (λ t. between.1 (reach.0 t), λ has. reach.1 (between.0 has))

use Rattle.std.proofs.Common.{subst, ap, ◌∙◌, w64}
use Rattle.std.proofs.lemmas.Int.{to_z-of_z}
use Rattle.mn_model.specs.Domain.{Ascends}
use Rattle.mn_boxes.specs.Sets.{least}
use Rattle.mn_domains.specs.Held.{values_held}
use Rattle.mn_domains.proofs.Hits.{hits_are}
use Rattle.mn_domains.proofs.ShapeLemmas.{Ascends-held}
use Rattle.mn_domains.proofs.shape.first_passing.Goals as goal

pub returns-in-Some : goal.returns-in-Some
returns-in-Some c =
    c.first_value.ensures ∙ ap least (hits_are c.args.bits.now c.in-Some.row c.args.set.now c.args.wanted (values_held c.args.listed.now c.args.bits.now c.args.shape c.args.ends) c.args.from c.args.ends.hi (Ascends-held c.args.listed.now c.args.bits.now _ c.args.shape c.args.ends c.requires.shape c.requires.held.within) c.requires.high (rw (to_z-of_z w64 c.args.from c.ranges.from) at c.in-Some.ensures))

pub first_passing-requires : goal.first_passing-requires
first_passing-requires c = rw c.part.ensures (subst Ascends c.in-None.ensures.0 (Ascends-held c.args.listed.now c.args.bits.now _ c.args.shape c.args.ends c.requires.shape c.requires.held.within))

pub returns-in-None : goal.returns-in-None
returns-in-None c = rw c.in-None.ensures.0 (rw (c.part.ensures, to_z-of_z w64 c.args.from c.ranges.from) at c.first_passing.ensures)

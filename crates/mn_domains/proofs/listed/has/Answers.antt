use Rattle.std.proofs.Common.{◌<◌, pos, FitsSigned, length, slice_index_or, rules, w64, arith}
use Rattle.std.proofs.lemmas.Bool.Decides.{nat_tests}
use Rattle.std.proofs.lemmas.Int.{to_z-of_z}
use Rattle.mn_domains.specs.Held.{part_of}
use Rattle.mn_domains.proofs.Parts.{searched_part, same_words, words_same}
use Rattle.mn_domains.proofs.listed.has.Goals as goal

pub returns-then-skipped-values : goal.returns-then-skipped-values
returns-then-skipped-values c =
    let rest = rw (c.part-values.ensures, to_z-of_z w64 c.args.a c.ranges.a) at c.places_below-skipped.ensures.others in
    let found = searched_part (part_of c.args.listed.now c.args.ends) c.args.a c.places_below-skipped.result c.requires.ascends rest in
    let value : FitsSigned w64 (slice_index_or c.part-values.result.now c.places_below-skipped.result (pos 0)) = search rules in
    let within = rw c.part-values.ensures at c.if-skipped-values.true in (
      λ t. found.here within (rw c.part-values.ensures at (words_same (slice_index_or c.part-values.result.now c.places_below-skipped.result (pos 0)) c.args.a value c.ranges.a t)),
      λ has. same_words (slice_index_or c.part-values.result.now c.places_below-skipped.result (pos 0)) c.args.a (rw c.part-values.ensures (found.there has)),
    )

pub returns-else-skipped-values : goal.returns-else-skipped-values
returns-else-skipped-values c =
    let rest = rw (c.part-values.ensures, to_z-of_z w64 c.args.a c.ranges.a) at c.places_below-skipped.ensures.others in
    let found = searched_part (part_of c.args.listed.now c.args.ends) c.args.a c.places_below-skipped.result c.requires.ascends rest in
    let past = rw c.part-values.ensures at c.if-skipped-values.false in (
      λ t. absurd (let less : c.places_below-skipped.result < length c.part-values.result.now = grind (arith, nat_tests, t) in let within = rw c.part-values.ensures at less in omega (arith, within, past)),
      λ has. absurd (let within = found.within has in omega (arith, within, past)),
    )

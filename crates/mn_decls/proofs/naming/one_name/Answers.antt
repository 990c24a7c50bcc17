use Rattle.std.proofs.Common.{rules, ◌≡◌, Ok, refl, ap, ◌∙◌, false}
use Rattle.mn_cursor.specs.Progress.{Progress, rest}
use Rattle.mn_references.specs.Lookups.{found_seen}
use Rattle.mn_references.specs.References.{one_place}
use Rattle.mn_references.specs.Referring.{ref_at}
use Rattle.mn_decls.proofs.naming.one_name.Goals as goal

pub returns-clause-ok : goal.returns-clause-ok
returns-clause-ok c =
    let same : c.reference_at.new.scan ≡ c.go_to.new.self = search rules in
    let reads : ref_at c.args.c.now.problem (one_place c.args.c.now.problem false) (rest c.args.c.now) ≡ Ok (found_seen c.in_ok-reference.reference, rest c.reference_at.new.scan) = search rules in
    (found_seen c.in_ok-reference.reference, reads ∙ ap (λ (x : Progress). Ok (found_seen c.in_ok-reference.reference, rest x)) same, refl, refl)
